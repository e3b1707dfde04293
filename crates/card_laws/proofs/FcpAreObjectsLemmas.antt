-- The file control parameters are read back.
use Rattle.std.proofs.Common.{◌≡◌, ℕ, ◌+◌, ◌*◌, ◌<◌, ◌≤◌, Bool, true, false, List, [], ◌∷◌, ◌++◌, length, map, Option, Some, None, Ok, refl, sym, ap, ◌∙◌, subst, arith, append_assoc, length-append, append-nil, ◌==◌, if◌then◌else◌, nat_le, All, flat_map, take_all}
use Rattle.std.specs.Int.{to_be_bytes, w16}
use Rattle.std.proofs.lemmas.Bool.{cond-true, eq-eqb, leb-false}
use Rattle.std.proofs.lemmas.List.Elements.{All-cons, All-nil}
use Rattle.list_laws.proofs.CondLemmas.{low_chosen}
use Rattle.uicc_types.specs.declared.answers.StatusWord.{StatusWord}
use Rattle.card_state.specs.Persistent.{Pin}
use Rattle.access_rules.specs.Objects.{object}
use Rattle.file_model.specs.Fcp.{df_objects, ef_objects, enabled_bits, fcp, kind_bytes, rule_object}
use Rattle.file_model.specs.Chains.{given}
use Rattle.file_model.specs.Files.{descriptors_in, file_found, is_df}
use Rattle.file_model.specs.Outcomes.{FileOutcome}
use Rattle.file_model.specs.Selecting.{file_selected, selecting, status_told, telling}
use Rattle.file_model.specs.Selections.{chosen}
use Rattle.file_model.specs.declared.descriptors.Descriptor.{Descriptor}
use Rattle.file_model.specs.declared.descriptors.RuleReference.{RuleReference}
use Rattle.file_model.specs.declared.descriptors.Wanted.TheVariants.{Number}
use Rattle.file_model.proofs.SelectingLemmas.{object_low, kind_low, keys_low, few_pins}
use Rattle.card_laws.specs.Fcp.{Object, file_told, objects_in, pins_told, rule_told, short_told}
use Rattle.card_laws.specs.FcpLaws.{FcpAreNotCut, FcpAreObjects, IsFcp, SelectAnswersFcp, StatusAnswersFcp}
use Rattle.card_laws.proofs.ReadingLawsLemmas.{unless_ok}
use Rattle.card_laws.proofs.ObjectsInLemmas.{IsShortObject, all_spelled, spelled_are_read}

-- ---- the objects are spelled so

keys_spelled : (pins : List Pin) → flat_map (λ (pin : Pin). object 0x83 (pin.key ∷ [])) pins ≡ all_spelled (map (λ (pin : Pin). (0x83, pin.key ∷ [])) pins)
keys_spelled [] = refl
keys_spelled (pin ∷ pins) = ap (λ (l : List ℕ). object 0x83 (pin.key ∷ []) ++ l) (keys_spelled pins)

abbrev of_pins : List Pin → List ℕ
of_pins pins = object 0x90 (enabled_bits 0x80 pins ∷ []) ++ flat_map (λ (pin : Pin). object 0x83 (pin.key ∷ [])) pins

pins_spelled : (pins : List Pin) → of_pins pins ≡ all_spelled (pins_told pins)
pins_spelled pins = ap (λ (l : List ℕ). object 0x90 (enabled_bits 0x80 pins ∷ []) ++ l) (keys_spelled pins)

-- what stands after the rule
abbrev ends_told : List Pin → Descriptor → List Object
ends_told pins file = if is_df file then (0xC6, of_pins pins) ∷ [] else (0x80, to_be_bytes w16 file.size) ∷ (0x88, short_told file) ∷ []

ends_spelled : (b : Bool) (pins : List Pin) (file : Descriptor)
    → (if b then df_objects pins else ef_objects file) ≡ all_spelled (if b then (0xC6, of_pins pins) ∷ [] else (0x80, to_be_bytes w16 file.size) ∷ (0x88, short_told file) ∷ [])
ends_spelled true pins file = sym (append-nil (object 0xC6 (of_pins pins)))
ends_spelled false pins file = ap (λ (l : List ℕ). object 0x80 (to_be_bytes w16 file.size) ++ l) (sym (append-nil (object 0x88 (short_told file))))

rule_spelled : (rule : Option RuleReference) (ends : List Object) → rule_object rule ++ all_spelled ends ≡ all_spelled (rule_told rule ++ ends)
rule_spelled None ends = refl
rule_spelled (Some rule) ends = refl

abbrev told : List Pin → Descriptor → List Object
told pins file = file_told (of_pins pins) file

joined : (a b c d e tail : List ℕ) → d ++ e ≡ tail → a ++ b ++ c ++ d ++ e ≡ a ++ (b ++ (c ++ tail))
joined a b c d e tail is =
    append_assoc (a ++ b ++ c) d e ∙ ap (λ (l : List ℕ). a ++ b ++ c ++ l) is ∙ append_assoc (a ++ b) c tail ∙ append_assoc a b (c ++ tail)

fcp_spelled : (pins : List Pin) (file : Descriptor) → fcp pins file ≡ object 0x62 (all_spelled (told pins file))
unfolding fcp
fcp_spelled pins file =
    ap (object 0x62) (
    joined (object 0x82 (kind_bytes file)) (object 0x83 (to_be_bytes w16 file.id.0)) (object 0x8A (file.life ∷ [])) (rule_object file.rule) (if is_df file then df_objects pins else ef_objects file) (all_spelled (rule_told file.rule ++ ends_told pins file))
    (ap (λ (l : List ℕ). rule_object file.rule ++ l) (ends_spelled (is_df file) pins file) ∙ rule_spelled file.rule (ends_told pins file)))

-- ---- all of them are short

short_low : (file : Descriptor) → length (short_told file) ≤ 1
short_low file = low_chosen (file.short == 0) [] (file.short * 8 ∷ []) 1 (omega arith) (omega arith)

of_pins_low : (pins : List Pin) → length pins ≤ 3 → length (of_pins pins) ≤ 16
of_pins_low pins few =
    omega (arith, few, keys_low pins, object_low 0x90 (enabled_bits 0x80 pins ∷ []), length-append (object 0x90 (enabled_bits 0x80 pins ∷ [])) (flat_map (λ (pin : Pin). object 0x83 (pin.key ∷ [])) pins))

keys_short : (pins : List Pin) → All IsShortObject (map (λ (pin : Pin). (0x83, pin.key ∷ [])) pins)
keys_short [] = All-nil IsShortObject
keys_short (pin ∷ pins) = All-cons IsShortObject (0x83, pin.key ∷ []) (map (λ (p : Pin). (0x83, p.key ∷ [])) pins) (omega arith) (keys_short pins)

pins_short : (pins : List Pin) → All IsShortObject (pins_told pins)
pins_short pins = All-cons IsShortObject (0x90, enabled_bits 0x80 pins ∷ []) (map (λ (pin : Pin). (0x83, pin.key ∷ [])) pins) (omega arith) (keys_short pins)

-- so many bytes at most, and each object is short
record Low (most : ℕ) (objects : List Object) : Type 0 where
  few : length (all_spelled objects) ≤ most
  short : All IsShortObject objects

low_nil : Low 0 []
low_nil = record { few = omega arith; short = All-nil IsShortObject }

low_cons : (most room tag : ℕ) (value : List ℕ) (objects : List Object) → length value ≤ room → room < 256 → Low most objects → Low (3 + room + most) ((tag, value) ∷ objects)
low_cons most room tag value objects fits small low = record {
  few = omega (arith, fits, object_low tag value, low.few, length-append (object tag value) (all_spelled objects));
  short = All-cons IsShortObject (tag, value) objects (omega (arith, fits, small)) low.short;
}

low_ends : (b : Bool) (pins : List Pin) (file : Descriptor) → length pins ≤ 3 → Low 19 (if b then (0xC6, of_pins pins) ∷ [] else (0x80, to_be_bytes w16 file.size) ∷ (0x88, short_told file) ∷ [])
low_ends true pins file few = low_cons 0 16 0xC6 (of_pins pins) [] (of_pins_low pins few) (omega arith) low_nil
low_ends false pins file few =
    low_cons 14 2 0x80 (to_be_bytes w16 file.size) ((0x88, short_told file) ∷ []) (omega arith) (omega arith)
    (low_cons 0 11 0x88 (short_told file) [] (omega (arith, short_low file)) (omega arith) low_nil)

low_rule : (rule : Option RuleReference) (ends : List Object) → Low 19 ends → Low 25 (rule_told rule ++ ends)
low_rule None ends low = record { few = omega (arith, low.few); short = low.short }
low_rule (Some rule) ends low = low_cons 19 3 0x8B (to_be_bytes w16 rule.arr.0 ++ rule.number ∷ []) ends (omega arith) (omega arith) low

low_told : (pins : List Pin) (file : Descriptor) → length pins ≤ 3 → Low 42 (told pins file)
low_told pins file few =
    let ends : Low 25 (rule_told file.rule ++ ends_told pins file) = low_rule file.rule (ends_told pins file) (low_ends (is_df file) pins file few) in
    let life = low_cons 25 1 0x8A (file.life ∷ []) (rule_told file.rule ++ ends_told pins file) (omega arith) (omega arith) ends in
    let id = low_cons 29 2 0x83 (to_be_bytes w16 file.id.0) ((0x8A, file.life ∷ []) ∷ (rule_told file.rule ++ ends_told pins file)) (omega arith) (omega arith) life in
    low_cons 34 5 0x82 (kind_bytes file) ((0x83, to_be_bytes w16 file.id.0) ∷ (0x8A, file.life ∷ []) ∷ (rule_told file.rule ++ ends_told pins file)) (kind_low file) (omega arith) id

-- ---- the template

short_object_is : (tag : ℕ) (value : List ℕ) → length value ≤ 127 → object tag value ≡ tag ∷ length value ∷ value
unfolding object
short_object_is tag value short = by (nat_le (length value) 127) refl
  where
    by : (b : Bool) → b ≡ nat_le (length value) 127 → tag ∷ ((if b then length value ∷ [] else 0x81 ∷ length value ∷ []) ++ value) ≡ tag ∷ length value ∷ value
    by true is = refl
    by false is = absurd (omega (arith, leb-false (length value) 127 (sym is), short))

pub told_is_fcp : (pins : List Pin) (file : Descriptor) → length pins ≤ 3 → IsFcp pins file (fcp pins file)
told_is_fcp pins file few =
    let low : Low 42 (told pins file) = low_told pins file few in
    let value : List ℕ = all_spelled (told pins file) in
    let short : length value ≤ 127 = omega (arith, low.few) in
    record {
      value = value;
      of_pins = of_pins pins;
      one_object = fcp_spelled pins file ∙ short_object_is 0x62 value short;
      short = short;
      parts = spelled_are_read (told pins file) low.short;
      pin_parts = ap objects_in (pins_spelled pins) ∙ spelled_are_read (pins_told pins) (pins_short pins);
    }

pub fcp_are_objects : FcpAreObjects
fcp_are_objects state file sound = told_is_fcp state.pins file (few_pins state sound)

-- no Le from 129 on cuts them
pub fcp_are_not_cut : FcpAreNotCut
fcp_are_not_cut None pins file bytes is allows = refl
fcp_are_not_cut (Some most) pins file bytes is allows =
    take_all most bytes (omega (arith, ap (length {A = ℕ}) is.one_object, is.short, allows))

-- ---- what SELECT and STATUS answer

given_done : {X Y : Type 0} (o : Option X) (status : StatusWord) (f : X → Y) (y : Y) → given o status (λ x. Ok (f x)) ≡ Ok y → (x : X) × (o ≡ Some x) × (f x ≡ y)
unfolding given
given_done None status f y is = absurd (cc)
given_done (Some x) status f y is = (x, refl, cc)

fcp_answered : (pins : List Pin) (file : Descriptor) (wanted : Bool) → wanted ≡ true → length pins ≤ 3 → IsFcp pins file (if wanted then fcp pins file else [])
fcp_answered pins file wanted is few = subst (IsFcp pins file) (sym (cond-true wanted (fcp pins file) [] is)) (told_is_fcp pins file few)

pub select_answers_fcp : SelectAnswersFcp
unfolding file_selected selecting
select_answers_fcp state selection apdu outcome sound is p2 =
    let a = unless_ok _ _ _ outcome is in
    let b = unless_ok _ _ _ outcome a.1 in
    let found = given_done (chosen (descriptors_in state) selection apdu) _ (selecting state apdu) outcome b.1 in
    (found.0, found.1, subst (λ (o : FileOutcome). IsFcp state.pins found.0 o.body) found.2 (fcp_answered state.pins found.0 (apdu.p2 == 0x04) (eq-eqb apdu.p2 0x04 p2) (few_pins state sound)))

pub status_answers_fcp : StatusAnswersFcp
unfolding status_told telling
status_answers_fcp state selection apdu outcome sound is p2 =
    let a = unless_ok _ _ _ outcome is in
    let b = unless_ok _ _ _ outcome a.1 in
    let found = given_done (file_found (descriptors_in state) (Number selection.df)) _ (telling state selection apdu) outcome b.1 in
    (found.0, found.1, subst (λ (o : FileOutcome). IsFcp state.pins found.0 o.body) found.2 (fcp_answered state.pins found.0 (apdu.p2 == 0x00) (eq-eqb apdu.p2 0x00 p2) (few_pins state sound)))
