-- READ BINARY and UPDATE BINARY come to lawful outcomes.
use Rattle.std.proofs.Common.{◌≡◌, ℕ, ◌+◌, ◌≤◌, Bool, true, false, List, [], length, take, drop, Option, Some, None, refl, subst, inl, arith, ◌==◌, ◌||◌, nat_lt, if◌then◌else◌, Contains, IfSome, unwrap_or, MatchResult, ltb-false, length-take}
use Rattle.std.proofs.lemmas.List.Elements.{All-contains}
use Rattle.uicc_types.specs.declared.answers.TheConstants.StatusWord.{DONE, END_OF_FILE}
use Rattle.apdu_form.specs.Model.{Apdu}
use Rattle.card_state.specs.Persistent.{File, Persistent}
use Rattle.card_state.specs.Changes.{PutBytes}
use Rattle.card_state.specs.Changing.{bytes_put}
use Rattle.card_state.specs.Soundness.{IsSoundFile}
use Rattle.file_model.specs.declared.descriptors.Descriptor.{Descriptor}
use Rattle.file_model.specs.declared.selections.Selection.{Selection}
use Rattle.file_model.specs.Files.{descriptor_in, descriptors_in}
use Rattle.file_model.specs.Selections.{IsSelection}
use Rattle.file_model.specs.Holdings.{bytes_in}
use Rattle.apdu_form.specs.Fields.{has_data, has_le_alone}
use Rattle.file_model.specs.Outcomes.{addressed, pointer_before}
use Rattle.file_model.specs.Binaries.{short_in_p1, offset_of, binary_file, binary_to_read, binary_to_update, reading, read_from, binary_read, updating, update_in, binary_updated}
use Rattle.file_model.specs.Laws.{IsSoundCard, IsLawfulOutcome, IsFileRefusal, IsLawfulCommand}
use Rattle.file_model.proofs.ChainsLemmas.{unless_so, and_given_so}
use Rattle.file_model.proofs.HasSameShapeLemmas.{bytes_put_so}
use Rattle.file_model.proofs.IsSelectionLemmas.{IsAddressed, addressed_so, worked_so}
use Rattle.file_model.proofs.IsLawfulOutcomeLemmas.{good, unchanged_so, committed_so}

pub expected_low : (o : Option ℕ) → IfSome o (λ n. n ≤ 256) → unwrap_or o 0 ≤ 256
expected_low None low = omega arith
expected_low (Some n) low = low

pub done_or_end : (b : Bool) → Contains good (if b then DONE else END_OF_FILE)
done_or_end true = (0, omega arith, refl)
done_or_end false = (1, omega arith, refl)

reading_so : (state : Persistent) (selection : Selection) (apdu : Apdu) (file : Descriptor) (count : ℕ) → IsSelection (descriptors_in state) selection → IsAddressed state selection (short_in_p1 apdu) file → count ≤ 256
    → IsLawfulOutcome state (reading state selection apdu file count)
unfolding reading
reading_so state selection apdu file count lawful is low =
    let bytes : List ℕ = take count (drop (offset_of apdu) (bytes_in state file.number)) in
    unchanged_so state (reading state selection apdu file count) refl (worked_so state selection (short_in_p1 apdu) file (pointer_before selection (short_in_p1 apdu)) lawful is is.pointer)
    (omega (arith, length-take count (drop (offset_of apdu) (bytes_in state file.number)), low)) (done_or_end (count == 256 || length bytes == count))

binary_file_so : (state : Persistent) (selection : Selection) (apdu : Apdu) (has_length : Bool) → IsSoundCard state → IsSelection (descriptors_in state) selection
    → MatchResult (binary_file has_length (descriptors_in state) selection apdu) (IsAddressed state selection (short_in_p1 apdu)) IsFileRefusal
unfolding binary_file
binary_file_so state selection apdu has_length card lawful =
    let P : Descriptor → Type 0 = IsAddressed state selection (short_in_p1 apdu) in
    unless_so P IsFileRefusal _ _ _ (inl (0, omega arith, refl)) (λ _.
    unless_so P IsFileRefusal _ _ _ (inl (1, omega arith, refl)) (λ _.
    and_given_so P P IsFileRefusal (addressed (descriptors_in state) selection (short_in_p1 apdu)) _ (addressed_so state selection (short_in_p1 apdu) card.sound lawful) (λ file found.
    unless_so P IsFileRefusal _ _ _ (inl (4, omega arith, refl)) (λ _.
    unless_so P IsFileRefusal _ _ _ (inl (5, omega arith, refl)) (λ _. found)))))

pub binary_read_so : IsLawfulCommand binary_read
unfolding binary_read read_from
binary_read_so bytes apdu state seen selection is card lawful =
    and_given_so (IsAddressed state selection (short_in_p1 apdu)) (IsLawfulOutcome state) IsFileRefusal (binary_to_read (descriptors_in state) selection apdu) _
    (binary_file_so state selection apdu (has_le_alone apdu) card lawful) (λ file found.
    unless_so (IsLawfulOutcome state) IsFileRefusal _ _ _ (inl (6, omega arith, refl)) (λ _.
    unless_so (IsLawfulOutcome state) IsFileRefusal _ _ _ (inl (7, omega arith, refl)) (λ _.
    reading_so state selection apdu file (unwrap_or apdu.expected 0) lawful found (expected_low apdu.expected is.short_expected))))

updating_so : (state : Persistent) (card : IsSoundCard state) (selection : Selection) (apdu : Apdu) (whole : File) → Contains state.files whole → IsSelection (descriptors_in state) selection
    → IsAddressed state selection (short_in_p1 apdu) (descriptor_in whole) → nat_lt (descriptor_in whole).size (offset_of apdu + length apdu.body) ≡ false → IsLawfulOutcome state (updating state selection apdu (descriptor_in whole))
unfolding updating descriptor_in
updating_so state card selection apdu whole there lawful is inside =
    let one : IsSoundFile state.is_wide state.files whole = All-contains (IsSoundFile state.is_wide state.files) state.files whole card.sound.files there in
    let put = bytes_put_so whole.kind whole.size (offset_of apdu) apdu.body whole.contents one.contents (ltb-false whole.size (offset_of apdu + length apdu.body) inside) in
    committed_so state card (λ file. record file { contents = bytes_put (offset_of apdu) apdu.body file.contents })
    (λ file. record { number = refl; parent = refl; kind = refl; id = refl; short = refl; rule = refl; place = refl; size = refl }) whole there is.ef put.0 put.1 (one.ef is.ef).life
    [] (updating state selection apdu (descriptor_in whole)).selection (PutBytes whole.number (offset_of apdu) apdu.body)
    (worked_so state selection (short_in_p1 apdu) (descriptor_in whole) (pointer_before selection (short_in_p1 apdu)) lawful is is.pointer) (omega arith)

pub binary_updated_so : IsLawfulCommand binary_updated
unfolding binary_updated update_in
binary_updated_so bytes apdu state seen selection is card lawful =
    and_given_so (IsAddressed state selection (short_in_p1 apdu)) (IsLawfulOutcome state) IsFileRefusal (binary_to_update (descriptors_in state) selection apdu) _
    (binary_file_so state selection apdu (has_data apdu) card lawful) (λ file found.
    unless_so (IsLawfulOutcome state) IsFileRefusal _ _ _ (inl (6, omega arith, refl)) (λ _.
    unless_so (IsLawfulOutcome state) IsFileRefusal _ _ _ (inl (7, omega arith, refl)) (λ inside.
    subst (λ (f : Descriptor). IsAddressed state selection (short_in_p1 apdu) f → nat_lt f.size (offset_of apdu + length apdu.body) ≡ false → IsLawfulOutcome state (updating state selection apdu f)) found.of.is
    (λ on_whole fits. updating_so state card selection apdu found.of.whole found.of.there lawful on_whole fits) found inside)))
