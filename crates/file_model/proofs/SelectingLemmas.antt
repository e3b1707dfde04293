-- SELECT and STATUS come to lawful outcomes.
use Rattle.std.proofs.Common.{get_or, ◌≡◌, ℕ, suc, ◌+◌, ◌<◌, ◌≤◌, Bool, true, false, List, [], ◌∷◌, ◌++◌, length, filter, Option, Some, None, refl, sym, ap, subst, inl, ⊎_elim, arith, length-append, ◌==◌, ◌&&◌, ◌*◌, not, nat_le, if◌then◌else◌, IsTrue, Contains, All, AllPairs, flat_map}
use Rattle.std.specs.Int.{to_be_bytes, w16}
use Rattle.std.proofs.lemmas.Bool.{eq-eqb, ne_eqb, cond-true, cond-false}
use Rattle.std.proofs.lemmas.List.Elements.{All-map, All-contains, All-append, All-filter, All-contains_itself}
use Rattle.list_laws.proofs.FindLemmas.{find_Some}
use Rattle.list_laws.proofs.AllPairsLemmas.{pairs_head, pairs_tail}
use Rattle.list_laws.proofs.CondLemmas.{low_chosen}
use Rattle.uicc_types.specs.declared.answers.TheConstants.StatusWord.{DONE, FILE_DEACTIVATED}
use Rattle.uicc_types.specs.declared.identifiers.FileId.{FileId}
use Rattle.apdu_form.specs.Model.{Apdu}
use Rattle.card_state.specs.Kinds.{df_kind, has_records}
use Rattle.card_state.specs.Persistent.{File, Pin, Persistent}
use Rattle.card_state.specs.Soundness.{IsDf, IsEf, IsInTree, IsSoundFile, slot_of_key, IsSound}
use Rattle.access_rules.specs.Objects.{object, length_bytes}
use Rattle.file_model.specs.declared.descriptors.Descriptor.{Descriptor}
use Rattle.file_model.specs.declared.descriptors.RuleReference.{RuleReference}
use Rattle.file_model.specs.declared.descriptors.Wanted.{Wanted}
use Rattle.file_model.specs.declared.descriptors.Wanted.TheVariants.{Number, Child, ChildDf}
use Rattle.file_model.specs.declared.selections.Selection.{Selection}
use Rattle.file_model.specs.Files.{descriptor_in, descriptors_in, is_df, is_ef, lies_in, file_found}
use Rattle.file_model.specs.Selections.{IsSelection, parent_of, selection_of, files_in_reach, chosen_by_identifier, chosen_by_path, chosen_above, chosen_first, ids_of, chosen}
use Rattle.file_model.specs.Fcp.{kind_bytes, rule_object, enabled_bits, short_object, df_objects, ef_objects, fcp}
use Rattle.file_model.specs.Outcomes.{is_deactivated}
use Rattle.file_model.specs.Selecting.{selecting, file_selected, telling, status_told}
use Rattle.file_model.specs.Laws.{IsLawfulOutcome, IsFileRefusal, IsLawfulCommand}
use Rattle.file_model.proofs.OptionLemmas.{some_so, then_of}
use Rattle.file_model.proofs.ChainsLemmas.{unless_so, given_so}
use Rattle.file_model.proofs.HasSameAttributesLemmas.{df_no_ef}
use Rattle.file_model.proofs.IsSelectionLemmas.{IsOf, found_of, number_found}
use Rattle.file_model.proofs.IsLawfulOutcomeLemmas.{good, unchanged_so}

-- ---- the file that is chosen is one of the card's

all_known : (state : Persistent) → All (IsOf state) (descriptors_in state)
unfolding descriptors_in
all_known state = All-map (IsOf state) descriptor_in state.files (λ k d low. record { whole = get_or state.files k d; there = All-contains_itself state.files k d low; is = refl })

-- whatever this finds is known
abbrev IsKnown : Persistent → Option Descriptor → Type 0
IsKnown state o = (file : Descriptor) → o ≡ Some file → IsOf state file

either_known : (state : Persistent) (b : Bool) (x y : Option Descriptor) → IsKnown state x → IsKnown state y → IsKnown state (if b then x else y)
either_known state true x y first second = first
either_known state false x y first second = second

none_known : (state : Persistent) → IsKnown state None
none_known state file is = cc

found_known : (state : Persistent) (wanted : Wanted) → IsKnown state (file_found (descriptors_in state) wanted)
found_known state wanted file is = (found_of state wanted file is).0

by_identifier_known : (state : Persistent) (df : ℕ) (id : FileId) → IsKnown state (chosen_by_identifier (descriptors_in state) df id)
unfolding chosen_by_identifier
by_identifier_known state df id file is =
    let files : List Descriptor = descriptors_in state in
    let above : ℕ = parent_of files df in
    let P : Descriptor → Type 0 = IsOf state in
    let all = all_known state in
    let a : List Descriptor = filter (λ f. f.number == 0) files in
    let b : List Descriptor = filter (λ f. f.number == df) files in
    let c : List Descriptor = filter (lies_in df) files in
    let d : List Descriptor = filter (λ f. f.number == above) files in
    let e : List Descriptor = filter (λ f. lies_in above f && is_df f) files in
    let reach : All P (files_in_reach files df) =
    All-append P (a ++ b ++ c ++ d) e (All-append P (a ++ b ++ c) d (All-append P (a ++ b) c (All-append P a b (All-filter (λ f. f.number == 0) P files all) (All-filter (λ f. f.number == df) P files all))
    (All-filter (lies_in df) P files all)) (All-filter (λ f. f.number == above) P files all)) (All-filter (λ f. lies_in above f && is_df f) P files all) in
    All-contains P (files_in_reach files df) file reach (find_Some (λ f. f.id.0 == id.0) (files_in_reach files df) file is).0

by_path_known : (state : Persistent) (df : ℕ) (path : List FileId) → IsKnown state (chosen_by_path (descriptors_in state) df path)
unfolding chosen_by_path
by_path_known state df [] file is = found_known state (Number df) file is
by_path_known state df (id ∷ []) file is = found_known state (Child df id) file is
by_path_known state df (id ∷ next ∷ path) file is =
    let child = then_of (λ child. chosen_by_path (descriptors_in state) child.number (next ∷ path)) (file_found (descriptors_in state) (ChildDf df id)) file is in
    by_path_known state child.0.number (next ∷ path) file child.2

first_known : (state : Persistent) (df : ℕ) (ids : List FileId) → IsKnown state (chosen_first (descriptors_in state) df ids)
first_known state df [] = none_known state
first_known state df (id ∷ ids) = by_identifier_known state df id

chosen_known : (state : Persistent) (selection : Selection) (apdu : Apdu) → IsKnown state (chosen (descriptors_in state) selection apdu)
unfolding chosen
chosen_known state selection apdu =
    let files : List Descriptor = descriptors_in state in
    let by_id : Option Descriptor = chosen_first files selection.df (ids_of apdu.body) in
    let above : Option Descriptor = chosen_above files selection.df in
    let from_mf : Option Descriptor = chosen_by_path files 0 (ids_of apdu.body) in
    let from_df : Option Descriptor = chosen_by_path files selection.df (ids_of apdu.body) in
    either_known state (apdu.p1 == 0x00) by_id (if apdu.p1 == 0x03 then above else if apdu.p1 == 0x08 then from_mf else if apdu.p1 == 0x09 then from_df else None) (first_known state selection.df (ids_of apdu.body)) (
    either_known state (apdu.p1 == 0x03) above (if apdu.p1 == 0x08 then from_mf else if apdu.p1 == 0x09 then from_df else None)
    (either_known state (selection.df == 0) None (file_found files (Number (parent_of files selection.df))) (none_known state) (found_known state (Number (parent_of files selection.df)))) (
    either_known state (apdu.p1 == 0x08) from_mf (if apdu.p1 == 0x09 then from_df else None) (by_path_known state 0 (ids_of apdu.body)) (
    either_known state (apdu.p1 == 0x09) from_df None (by_path_known state selection.df (ids_of apdu.body)) (none_known state))))

-- ---- what is selected then

known_whole : (state : Persistent) (whole : File) → Contains state.files whole → IsOf state (descriptor_in whole)
known_whole state whole there = record { whole = whole; there = there; is = refl }

df_selected : (state : Persistent) (whole : File) → IsSound state → Contains state.files whole → IsDf whole → IsSelection (descriptors_in state) (selection_of (descriptor_in whole))
unfolding selection_of descriptor_in
df_selected state whole sound there df =
    let is : (whole.kind == df_kind) ≡ true = eq-eqb whole.kind df_kind df in
    subst (IsSelection (descriptors_in state)) (sym (cond-true (whole.kind == df_kind) (record { df = whole.number; ef = None; pointer = None }) (record { df = whole.parent; ef = Some whole.number; pointer = None }) is)) (
    record {
      df = some_so (λ f. IsTrue (is_df f)) (file_found (descriptors_in state) (Number whole.number)) (descriptor_in whole) (number_found state (descriptor_in whole) sound (known_whole state whole there)) is;
      ef = tt;
      pointer = tt;
    })

ef_selected : (state : Persistent) (whole : File) → IsSound state → Contains state.files whole → IsEf whole → IsInTree state.files whole → IsSelection (descriptors_in state) (selection_of (descriptor_in whole))
unfolding selection_of descriptor_in
ef_selected state whole sound there ef tree =
    let is : (whole.kind == df_kind) ≡ false = ne_eqb whole.kind df_kind (λ df. df_no_ef whole df ef) in
    let above : file_found (descriptors_in state) (Number whole.parent) ≡ Some (descriptor_in tree.parent) =
    subst (λ (n : ℕ). file_found (descriptors_in state) (Number n) ≡ Some (descriptor_in tree.parent)) tree.of_it (number_found state (descriptor_in tree.parent) sound (known_whole state tree.parent tree.there)) in
    let inside : IsTrue (whole.parent == whole.parent && not (whole.number == 0)) =
    both (whole.parent == whole.parent) (whole.number == 0) (eq-eqb whole.parent whole.parent refl) (ne_eqb whole.number 0 (λ zero_is. omega (arith, tree.above, zero_is))) in
    subst (IsSelection (descriptors_in state)) (sym (cond-false (whole.kind == df_kind) (record { df = whole.number; ef = None; pointer = None }) (record { df = whole.parent; ef = Some whole.number; pointer = None }) is)) (
    record {
      df = some_so (λ f. IsTrue (is_df f)) (file_found (descriptors_in state) (Number whole.parent)) (descriptor_in tree.parent) above (eq-eqb tree.parent.kind df_kind tree.df);
      ef = some_so (λ f. IsTrue (is_ef f) × IsTrue (lies_in whole.parent f)) (file_found (descriptors_in state) (Number whole.number)) (descriptor_in whole) (number_found state (descriptor_in whole) sound (known_whole state whole there)) (ef, inside);
      pointer = tt;
    })
  where
    both : (a b : Bool) → a ≡ true → b ≡ false → IsTrue (a && not b)
    both a b first second = rw (first, second) refl

whole_selected : (state : Persistent) (whole : File) → IsSound state → Contains state.files whole → IsSelection (descriptors_in state) (selection_of (descriptor_in whole))
whole_selected state whole sound there =
    let one : IsSoundFile state.is_wide state.files whole = All-contains (IsSoundFile state.is_wide state.files) state.files whole sound.files there in
    ⊎_elim {C = IsSelection (descriptors_in state) (selection_of (descriptor_in whole))}
    (λ df. df_selected state whole sound there df)
    (λ ef. ⊎_elim {C = IsSelection (descriptors_in state) (selection_of (descriptor_in whole))}
    (λ is_mf. absurd (df_no_ef whole (ap (λ (f : File). f.kind) is_mf) ef))
    (λ tree. ef_selected state whole sound there ef tree) one.tree)
    one.kind

pub selected_so : (state : Persistent) (file : Descriptor) → IsSound state → IsOf state file → IsSelection (descriptors_in state) (selection_of file)
selected_so state file sound of = subst (λ (f : Descriptor). IsSelection (descriptors_in state) (selection_of f)) of.is (whole_selected state of.whole sound of.there)

-- ---- the FCP are short

pub short_length : (b : Bool) (n : ℕ) → length (if b then n ∷ [] else 0x81 ∷ n ∷ []) ≤ 2
short_length true n = omega arith
short_length false n = omega arith

pub object_low : (tag : ℕ) (value : List ℕ) → length (object tag value) ≤ 3 + length value
unfolding object
object_low tag value = omega (arith, short_length (nat_le (length value) 127) (length value), length-append (length_bytes (length value)) value)

pub kind_low : (file : Descriptor) → length (kind_bytes file) ≤ 5
kind_low file = low_chosen (has_records file.kind) (file.kind ∷ 0x21 ∷ to_be_bytes w16 file.width ++ file.count ∷ []) (file.kind ∷ 0x21 ∷ []) 5 (omega arith) (omega arith)

rule_low : (rule : Option RuleReference) → length (rule_object rule) ≤ 6
rule_low None = omega arith
rule_low (Some rule) = omega (arith, object_low 0x8B (to_be_bytes w16 rule.arr.0 ++ rule.number ∷ []))

pub keys_low : (pins : List Pin) → length (flat_map (λ (pin : Pin). object 0x83 (pin.key ∷ [])) pins) ≤ 4 * length pins
keys_low [] = omega arith
keys_low (pin ∷ pins) = omega (arith, length-append (object 0x83 (pin.key ∷ [])) (flat_map (λ (p : Pin). object 0x83 (p.key ∷ [])) pins), object_low 0x83 (pin.key ∷ []), keys_low pins)

-- numbers that ascend from one up to another are so many at most
pub ascending_few : (pins : List Pin) (low most : ℕ) → All (λ pin. (low ≤ slot_of_key pin.key) × (slot_of_key pin.key < most)) pins → AllPairs (λ a b. slot_of_key a.key < slot_of_key b.key) pins → low ≤ most → length pins + low ≤ most
ascending_few [] low most within ascend less = omega (arith, less)
ascending_few (pin ∷ pins) low most within ascend less =
    let here = within 0 pin (omega arith) in
    let rest = ascending_few pins (low + 1) most
    (λ k d inside. (omega (arith, here.0, pairs_head (λ (a b : Pin). slot_of_key a.key < slot_of_key b.key) pin pins ascend k d inside), (within (suc k) d (omega (arith, inside))).1))
    (pairs_tail (λ (a b : Pin). slot_of_key a.key < slot_of_key b.key) pin pins ascend) (omega (arith, here.0, here.1)) in
    omega (arith, rest)

pub slot_low : (a b : Bool) → (if a then 0 else if b then 1 else 2) < 3
slot_low true b = omega arith
slot_low false true = omega arith
slot_low false false = omega arith

pub few_pins : (state : Persistent) → IsSound state → length state.pins ≤ 3
few_pins state sound =
    omega (arith, ascending_few state.pins 0 3 (λ k d inside. (omega arith, slot_low ((get_or state.pins k d).key == 0x01) ((get_or state.pins k d).key == 0x81))) sound.ordered_pins (omega arith))

fcp_low : (state : Persistent) (file : Descriptor) → IsSound state → length (fcp state.pins file) ≤ 256
unfolding fcp
fcp_low state file sound =
    let pins : List Pin = state.pins in
    let keys : List ℕ = flat_map (λ (pin : Pin). object 0x83 (pin.key ∷ [])) pins in
    let status : List ℕ = object 0x90 (enabled_bits 0x80 pins ∷ []) in
    let a : List ℕ = object 0x82 (kind_bytes file) in
    let b : List ℕ = object 0x83 (to_be_bytes w16 file.id.0) in
    let c : List ℕ = object 0x8A (file.life ∷ []) in
    let d : List ℕ = rule_object file.rule in
    let e : List ℕ = if is_df file then df_objects pins else ef_objects file in
    let short : List ℕ = if file.short == 0 then [] else file.short * 8 ∷ [] in
    let of_df : length (df_objects pins) ≤ 19 = omega (arith, object_low 0xC6 (status ++ keys), length-append status keys, object_low 0x90 (enabled_bits 0x80 pins ∷ []), keys_low pins, few_pins state sound) in
    let of_ef : length (ef_objects file) ≤ 19 =
    omega (arith, length-append (object 0x80 (to_be_bytes w16 file.size)) (short_object file), object_low 0x80 (to_be_bytes w16 file.size), object_low 0x88 short, low_chosen (file.short == 0) [] (file.short * 8 ∷ []) 1 (omega arith) (omega arith)) in
    omega (
      arith,
      object_low 0x62 (a ++ b ++ c ++ d ++ e),
      length-append (a ++ b ++ c ++ d) e,
      length-append (a ++ b ++ c) d,
      length-append (a ++ b) c,
      length-append a b,
      object_low 0x82 (kind_bytes file),
      kind_low file,
      object_low 0x83 (to_be_bytes w16 file.id.0),
      object_low 0x8A (file.life ∷ []),
      rule_low file.rule,
      low_chosen (is_df file) (df_objects pins) (ef_objects file) 19 of_df of_ef,
    )

-- ---- the commands

quiet_or_done : (b : Bool) → Contains good (if b then FILE_DEACTIVATED else DONE)
quiet_or_done true = (2, omega arith, refl)
quiet_or_done false = (0, omega arith, refl)

selecting_so : (state : Persistent) (apdu : Apdu) (file : Descriptor) → IsSound state → IsOf state file → IsLawfulOutcome state (selecting state apdu file)
unfolding selecting
selecting_so state apdu file sound of =
    unchanged_so state (selecting state apdu file) refl (selected_so state file sound of) (low_chosen (apdu.p2 == 0x04) (fcp state.pins file) [] 256 (fcp_low state file sound) (omega arith)) (quiet_or_done (is_deactivated file))

pub file_selected_so : IsLawfulCommand (λ state seen selection apdu. file_selected state selection apdu)
unfolding file_selected
file_selected_so bytes apdu state seen selection is card lawful =
    unless_so (IsLawfulOutcome state) IsFileRefusal _ _ _ (inl (0, omega arith, refl)) (λ _.
    unless_so (IsLawfulOutcome state) IsFileRefusal _ _ _ (inl (1, omega arith, refl)) (λ _.
    given_so (IsLawfulOutcome state) IsFileRefusal (chosen (descriptors_in state) selection apdu) _ _ (inl (2, omega arith, refl)) (λ file found.
    selecting_so state apdu file card.sound (chosen_known state selection apdu file found))))

telling_so : (state : Persistent) (selection : Selection) (apdu : Apdu) (df : Descriptor) → IsSound state → IsSelection (descriptors_in state) selection → IsLawfulOutcome state (telling state selection apdu df)
unfolding telling
telling_so state selection apdu df sound lawful =
    unchanged_so state (telling state selection apdu df) refl lawful (low_chosen (apdu.p2 == 0x00) (fcp state.pins df) [] 256 (fcp_low state df sound) (omega arith)) (0, omega arith, refl)

pub status_told_so : IsLawfulCommand (λ state seen selection apdu. status_told state selection apdu)
unfolding status_told
status_told_so bytes apdu state seen selection is card lawful =
    unless_so (IsLawfulOutcome state) IsFileRefusal _ _ _ (inl (0, omega arith, refl)) (λ _.
    unless_so (IsLawfulOutcome state) IsFileRefusal _ _ _ (inl (1, omega arith, refl)) (λ _.
    given_so (IsLawfulOutcome state) IsFileRefusal (file_found (descriptors_in state) (Number selection.df)) _ _ (inl (2, omega arith, refl)) (λ df _.
    telling_so state selection apdu df card.sound lawful)))
