-- Corners of the definitions, worked out: bits of PINs, what files tell of themselves, files beside and above, the ends of a
-- ring, and numbers that are too wide.
use Rattle.std.proofs.Common.{◌≡◌, ℕ, false, [], ◌∷◌, replicate, Option, Some, None, refl, option_map}
use Rattle.card_state.specs.Persistent.{Files, File, Persistent}
use Rattle.card_state.specs.Soundness.{mf}
use Rattle.access_rules.specs.Objects.{object}
use Rattle.file_model.specs.declared.descriptors.Descriptor.{Descriptor}
use Rattle.file_model.specs.Chains.{refused_if, given, and_given}
use Rattle.file_model.specs.Fcp.{pin_object, fcp}
use Rattle.file_model.specs.Files.{descriptor_in, descriptors_in, file_found}
use Rattle.file_model.specs.Outcomes.{addressed}
use Rattle.file_model.specs.Records.{previous_record, record_file, increased}
use Rattle.file_model.specs.Selections.{chosen_by_identifier}
use Rattle.file_model.proofs.worked.Cards.{iccid_file, linear_file, cyclic_file, user_pin, admin_pin, card, on_ef, nothing_verified, command, refused}

-- ---- what files tell of themselves

-- the user's PIN is disabled and the administrator's enabled: the second bit
second_of_two : pin_object (record user_pin { is_enabled = false } ∷ admin_pin ∷ []) ≡ 0xC6 ∷ 0x09 ∷ 0x90 ∷ 0x01 ∷ 0x40 ∷ 0x83 ∷ 0x01 ∷ 0x01 ∷ 0x83 ∷ 0x01 ∷ 0x0A ∷ []
unfolding object
second_of_two = refl

-- a rule, a deactivated file, and no short file identifier
all_but_a_short_identifier : fcp [] (descriptor_in (record iccid_file { short = 0; life = 4; rule = Some (record { arr = 0x2F06; number = 1 }) }))
    ≡ 0x62 ∷ 0x16 ∷ 0x82 ∷ 0x02 ∷ 0x41 ∷ 0x21 ∷ 0x83 ∷ 0x02 ∷ 0x2F ∷ 0xE2 ∷ 0x8A ∷ 0x01 ∷ 0x04 ∷ 0x8B ∷ 0x03 ∷ 0x2F ∷ 0x06 ∷ 0x01 ∷ 0x80 ∷ 0x02 ∷ 0x00 ∷ 0x0A ∷ 0x88 ∷ 0x00 ∷ []
unfolding descriptor_in fcp object
all_but_a_short_identifier = refl

-- ---- files beside and above

abbrev df : ℕ → ℕ → ℕ → File
df number parent id = record { number = number; parent = parent; kind = 0x78; id = id; short = 0; life = 5; rule = None; place = 0; size = 0; contents = Files }

-- two DFs, and in the first another DF and an EF
abbrev deep_card : Persistent
deep_card = record card { files = mf ∷ df 1 0 0x7F10 ∷ df 2 0 0x7F20 ∷ df 3 1 0x5F10 ∷ record iccid_file { number = 4; parent = 1; id = 0x6F3C } ∷ [] }

abbrev number_found : ℕ → ℕ → Option ℕ
number_found from id = option_map (λ file. file.number) (chosen_by_identifier (descriptors_in deep_card) from (record { 0 = id }))

-- the DF above is found, and a DF beside; not an EF beside, nor a DF beside the one above
from_below : (number_found 3 0x7F10 ∷ number_found 3 0x6F3C ∷ number_found 3 0x7F20 ∷ number_found 1 0x7F20 ∷ number_found 1 0x6F3C ∷ number_found 2 0x6F3C ∷ []) ≡ (Some 1 ∷ None ∷ None ∷ Some 2 ∷ Some 4 ∷ None ∷ [])
unfolding descriptor_in descriptors_in chosen_by_identifier file_found
from_below = refl

-- ---- previous

abbrev ring : Descriptor
ring = descriptor_in (cyclic_file (replicate 3 (replicate 3 0xFF)))

abbrev row : Descriptor
row = descriptor_in linear_file

-- before the first record of a ring is the last one, and of another file none; with no pointer it is the last
ends : (previous_record ring (Some 1) ∷ previous_record ring (Some 3) ∷ previous_record ring None ∷ previous_record row (Some 1) ∷ previous_record row (Some 2) ∷ previous_record row None ∷ []) ≡ (Some 3 ∷ Some 2 ∷ Some 3 ∷ None ∷ Some 1 ∷ Some 2 ∷ [])
unfolding descriptor_in
ends = refl

-- ---- INCREASE

-- records of 128 bytes are too wide
too_wide : increased (record card { files = mf ∷ record (cyclic_file (replicate 3 (replicate 128 0x00))) { number = 1; size = 384 } ∷ [] }) nothing_verified (on_ef 1 None) (command 0x80 0x32 0x00 0x00 (0x01 ∷ []) None) ≡ refused 0x6981
unfolding refused_if given and_given descriptor_in descriptors_in file_found addressed record_file increased
too_wide = refl

-- P1 80, P1 9F and P2 01 are none of the parameters
no_parameters : (increased card nothing_verified (on_ef 3 None) (command 0x80 0x32 0x80 0x00 (0x01 ∷ []) None) ∷ increased card nothing_verified (on_ef 3 None) (command 0x80 0x32 0x9F 0x00 (0x01 ∷ []) None)
    ∷ increased card nothing_verified (on_ef 3 None) (command 0x80 0x32 0x00 0x01 (0x01 ∷ []) None) ∷ []) ≡ replicate 3 (refused 0x6A86)
unfolding refused_if and_given record_file increased
no_parameters = refl
