-- The computed meaning, on small records.
use Rattle.std.proofs.Common.{◌≡◌, ℕ, true, false, List, [], ◌∷◌, refl}
use Rattle.access_rules.specs.Objects.{object}
use Rattle.access_rules.specs.Conditions.{key, some_of, all_of, end, also}
use Rattle.access_rules.specs.Rules.{by_bits, by_instruction, Pair, spelled_pair}
use Rattle.access_rules.specs.Reading.{long_length_in, length_in, part_of, part_in, truth_of_nothing, key_truth, part_truth, condition_in, conditions_truth, group_truth, mode_of, named_truth, pair_in, pairs_truth, grants}
use Rattle.access_rules.specs.declared.rules.Op.TheVariants.{ReadBinary, UpdateRecord, Increase}
use Rattle.access_rules.specs.declared.rules.Verified.{Verified}

abbrev pin1_alone : Verified
pin1_alone = record { pin1 = true; pin2 = false; adm1 = false }

-- reading with PIN1 or ADM1, increasing with PIN1 and ADM1
abbrev either_key : Pair
either_key = record { mode = by_bits 0x01; condition = some_of (also (key 0x01) (also (key 0x0A) end)) }

abbrev both_keys : Pair
both_keys = record { mode = by_instruction 0x32; condition = all_of (also (key 0x01) (also (key 0x0A) end)) }

either_spelled : spelled_pair either_key
    ≡ 0x80 ∷ 0x01 ∷ 0x01 ∷ 0xA0 ∷ 0x10 ∷ 0xA4 ∷ 0x06 ∷ 0x83 ∷ 0x01 ∷ 0x01 ∷ 0x95 ∷ 0x01 ∷ 0x08 ∷ 0xA4 ∷ 0x06 ∷ 0x83 ∷ 0x01 ∷ 0x0A ∷ 0x95 ∷ 0x01 ∷ 0x08 ∷ []
unfolding object
either_spelled = refl

abbrev two_pairs : List ℕ
two_pairs =
    0x80 ∷ 0x01 ∷ 0x01 ∷ 0xA0 ∷ 0x10 ∷ 0xA4 ∷ 0x06 ∷ 0x83 ∷ 0x01 ∷ 0x01 ∷ 0x95 ∷ 0x01 ∷ 0x08 ∷ 0xA4 ∷ 0x06 ∷ 0x83 ∷ 0x01 ∷ 0x0A ∷ 0x95 ∷ 0x01 ∷ 0x08
    ∷ 0x84 ∷ 0x01 ∷ 0x32 ∷ 0xAF ∷ 0x10 ∷ 0xA4 ∷ 0x06 ∷ 0x83 ∷ 0x01 ∷ 0x01 ∷ 0x95 ∷ 0x01 ∷ 0x08 ∷ 0xA4 ∷ 0x06 ∷ 0x83 ∷ 0x01 ∷ 0x0A ∷ 0x95 ∷ 0x01 ∷ 0x08 ∷ 0xFF ∷ []

reading_granted : grants two_pairs ReadBinary pin1_alone ≡ true
unfolding grants pairs_truth pair_in named_truth mode_of group_truth conditions_truth condition_in part_truth key_truth truth_of_nothing part_in part_of length_in long_length_in
reading_granted = refl

updating_not_named : grants two_pairs UpdateRecord pin1_alone ≡ false
unfolding grants pairs_truth pair_in named_truth mode_of group_truth conditions_truth condition_in part_truth key_truth truth_of_nothing part_in part_of length_in long_length_in
updating_not_named = refl

increasing_not_granted : grants two_pairs Increase pin1_alone ≡ false
unfolding grants pairs_truth pair_in named_truth mode_of group_truth conditions_truth condition_in part_truth key_truth truth_of_nothing part_in part_of length_in long_length_in
increasing_not_granted = refl

another_form : grants (0x80 ∷ 0x01 ∷ 0x01 ∷ 0x90 ∷ 0x00 ∷ 0x00 ∷ []) ReadBinary pin1_alone ≡ false
unfolding grants pairs_truth pair_in named_truth mode_of group_truth conditions_truth condition_in part_truth key_truth truth_of_nothing part_in part_of length_in long_length_in
another_form = refl

four_levels : grants (0x80 ∷ 0x01 ∷ 0x01 ∷ 0xA0 ∷ 0x08 ∷ 0xA0 ∷ 0x06 ∷ 0xAF ∷ 0x04 ∷ 0xA0 ∷ 0x02 ∷ 0x90 ∷ 0x00 ∷ []) ReadBinary pin1_alone ≡ true
unfolding grants pairs_truth pair_in named_truth mode_of group_truth conditions_truth condition_in part_truth key_truth truth_of_nothing part_in part_of length_in long_length_in
four_levels = refl

five_levels : grants (0x80 ∷ 0x01 ∷ 0x01 ∷ 0xA0 ∷ 0x0A ∷ 0xA0 ∷ 0x08 ∷ 0xA0 ∷ 0x06 ∷ 0xAF ∷ 0x04 ∷ 0xA0 ∷ 0x02 ∷ 0x90 ∷ 0x00 ∷ []) ReadBinary pin1_alone ≡ false
unfolding grants pairs_truth pair_in named_truth mode_of group_truth conditions_truth condition_in part_truth key_truth truth_of_nothing part_in part_of length_in long_length_in
five_levels = refl
