-- What is read where another command put it.
use Rattle.std.proofs.Common.{◌≡◌, ℕ, ◌+◌, ◌-◌, ◌<◌, ◌≤◌, Bool, true, false, cond, List, [], length, Option, Some, None, Result, Ok, Err, refl, sym, ap, ◌∙◌, subst, arith, ◌==◌, not, nat_lt, take, drop, slice_index_or, unwrap_or, option_map, Contains, AllPairs, IsTrue, if◌then◌else◌, get_or-set_same}
use Rattle.std.proofs.lemmas.Bool.{eqb-true, eq-eqb, cond-true, ltb-false, and_parts}
use Rattle.std.proofs.lemmas.List.Elements.{All-contains}
use Rattle.list_laws.proofs.FindLemmas.{find-map, find_alike, numbered_found}
use Rattle.list_laws.specs.Patches.{patched}
use Rattle.list_laws.proofs.PatchesLemmas.{range-patched_there}
use Rattle.uicc_types.specs.declared.answers.StatusWord.{StatusWord}
use Rattle.uicc_types.specs.declared.answers.TheConstants.StatusWord.{CONDITIONS_NOT_SATISFIED, WRONG_STRUCTURE}
use Rattle.apdu_form.specs.Model.{Apdu}
use Rattle.card_state.specs.Changing.{bytes_put, record_put, record_pushed, with_bytes, with_record, with_newest_record, with_file_changed}
use Rattle.card_state.specs.Kinds.{df_kind, has_records, transparent_kind}
use Rattle.card_state.specs.Persistent.{Bytes, Contents, File, Files, Persistent, Records}
use Rattle.card_state.specs.Soundness.{AreContents, IsSound, IsSoundFile}
use Rattle.card_state.specs.StateLaws.{file_with_number}
use Rattle.access_rules.specs.declared.rules.Verified.{Verified}
use Rattle.file_model.specs.Binaries.{binary_file, binary_read, binary_updated, has_binary_parameters, offset_of, read_from, reading, short_in_p1, update_in, updating}
use Rattle.file_model.proofs.ChainsLemmas.{past_given}
use Rattle.file_model.specs.Chains.{and_given, given, refused_if}
use Rattle.file_model.specs.Files.{descriptor_in, descriptors_in, record_count}
use Rattle.file_model.specs.Holdings.{bytes_held, bytes_in, contents_if, held_by, records_held, records_in}
use Rattle.apdu_form.specs.Fields.{has_data, has_le_alone}
use Rattle.file_model.specs.Outcomes.{FileOutcome, addressed, is_deactivated, last_of, pointer_before}
use Rattle.file_model.specs.Records.{has_record_parameters, is_cyclic, number_to_read, number_to_update, number_updated, record_file, record_named, record_read, record_read_from, record_reading, record_update_in, record_updated, record_updating, short_in_p2, may_be_updated}
use Rattle.file_model.specs.declared.descriptors.Descriptor.{Descriptor}
use Rattle.file_model.specs.declared.selections.Selection.{Selection}
use Rattle.card_laws.specs.ReadingLaws.{BytesAreRead, RecordsAreRead}

-- ---- a chain of tests that were all met

pub unless_ok : {X : Type 0} (bad : Bool) (status : StatusWord) (next : Result X StatusWord) (x : X) → refused_if bad status next ≡ Ok x → (bad ≡ false) × (next ≡ Ok x)
unfolding refused_if
unless_ok true status next x is = let err : Err status ≡ Ok x = is in absurd (cc)
unless_ok false status next x is = (refl, is)

pub given_met : {X Y : Type 0} (o : Option X) (status : StatusWord) (next : X → Result Y StatusWord) (y : Y) → given o status next ≡ Ok y → (x : X) × (o ≡ Some x) × (next x ≡ Ok y)
unfolding given
given_met None status next y is = let err : Err status ≡ Ok y = is in absurd (cc)
given_met (Some x) status next y is = (x, refl, is)

and_ok : {X Y : Type 0} (r : Result X StatusWord) (next : X → Result Y StatusWord) (x : X) (y : Y) → r ≡ Ok x → and_given r next ≡ Ok y → next x ≡ Ok y
unfolding and_given
and_ok r next x y there is = subst (λ o. and_given o next ≡ Ok y) there is

-- the same of tests that stand before others
past_ok : {X Y : Type 0} (bad : Bool) (status : StatusWord) (first : Result X StatusWord) (next : X → Result Y StatusWord) (y : Y) → and_given (refused_if bad status first) next ≡ Ok y → (bad ≡ false) × (and_given first next ≡ Ok y)
unfolding refused_if and_given
past_ok true status first next y is = let err : Err status ≡ Ok y = is in absurd (cc)
past_ok false status first next y is = (refl, is)

named_ok : {X Y Z : Type 0} (o : Option Z) (status : StatusWord) (first : Z → Result X StatusWord) (next : X → Result Y StatusWord) (z : Z) (y : Y) → o ≡ Some z → and_given (given o status first) next ≡ Ok y → and_given (first z) next ≡ Ok y
unfolding given
named_ok o status first next z y there is = subst (λ o. and_given (given o status first) next ≡ Ok y) there is

abbrev ok_or : {X E : Type 0} → X → Result X E → X
ok_or other (Ok value) = value
ok_or other (Err fault) = other

same_ok : {X E : Type 0} (a b : X) (r : Result X E) → r ≡ Ok a → r ≡ Ok b → a ≡ b
same_ok a b r first second = ap (ok_or a) (sym first ∙ second)

is_so : (b : Bool) → not b ≡ false → b ≡ true
is_so true is = refl
is_so false is = absurd (cc)

-- a command on a file that was carried out: the file was fit for it
met : (has_parameters has_length : Bool) (fits : Descriptor → Bool) (files : List Descriptor) (selection : Selection) (short : Option ℕ) (next : Descriptor → Result FileOutcome StatusWord) (file : Descriptor) (outcome : FileOutcome)
    → and_given (record_file has_parameters has_length fits files selection short) next ≡ Ok outcome → addressed files selection short ≡ Ok file → (fits file ≡ true) × (next file ≡ Ok outcome)
unfolding record_file and_given
met has_parameters has_length fits files selection short next file outcome is there =
    let of_kind : Descriptor → Result Descriptor StatusWord = λ each. refused_if (not (fits each)) WRONG_STRUCTURE (refused_if (is_deactivated each) CONDITIONS_NOT_SATISFIED (Ok each)) in
    let a = past_ok _ _ _ next outcome is in
    let b = past_ok _ _ _ next outcome a.1 in
    let c = and_ok (addressed files selection short) (λ each. and_given (of_kind each) next) file outcome there (sym (past_given (addressed files selection short) of_kind next) ∙ b.1) in
    let d = past_ok _ _ _ next outcome c in
    let e = past_ok _ _ _ next outcome d.1 in
    (is_so (fits file) d.0, e.1)

-- ---- what the file with a number holds once it is changed

module _ (state : Persistent) (sound : IsSound state) (whole : File) (there : Contains state.files whole) (change : File → File) (keeps : (file : File) → (change file).number ≡ file.number) where
  abbrev number : ℕ
  number = whole.number

  abbrev changed : File → File
  changed file = if file.number == number then change file else file

  numbers_ascend : AllPairs (λ a b. a.number < b.number) state.files
  numbers_ascend i j d less low = (sound.distinct_files i j d less low).number

  pub found_before : file_with_number state number ≡ Some whole
  found_before = numbered_found (λ (f : File). f.number) state.files whole numbers_ascend there

  chosen_number : (b : Bool) (file : File) → (cond b (change file) file).number ≡ file.number
  chosen_number true file = keeps file
  chosen_number false file = refl

  numbered_alike : (file : File) → ((changed file).number == number) ≡ (file.number == number)
  numbered_alike file = ap (λ (n : ℕ). n == number) (chosen_number (file.number == number) file)

  pub found_after : file_with_number (with_file_changed change number state) number ≡ Some (change whole)
  unfolding with_file_changed
  found_after =
      find-map (λ (f : File). f.number == number) changed state.files
      ∙ ap (option_map changed) (find_alike (λ (f : File). (changed f).number == number) (λ (f : File). f.number == number) state.files numbered_alike ∙ found_before)
      ∙ ap (λ (f : File). Some f) (cond-true (whole.number == number) (change whole) whole (eq-eqb whole.number number refl))

  pub held_after : held_by (with_file_changed change number state) number ≡ (change whole).contents
  unfolding held_by
  held_after = ap contents_if found_after

-- ---- bytes

bytes_case : (contents : Contents) (kind size offset : ℕ) (added : List ℕ) → kind ≡ transparent_kind → AreContents kind size contents
    → (bytes : List ℕ) × (bytes_held (bytes_put offset added contents) ≡ patched offset added bytes) × (length bytes ≡ size)
bytes_case Files kind size offset added is sound = absurd (omega (arith, is, sound))
bytes_case (Bytes bytes) kind size offset added is sound = (bytes, refl, sound.1)
bytes_case (Records records) kind size offset added is sound = let none : IsTrue (has_records transparent_kind) = subst (λ (k : ℕ). IsTrue (has_records k)) is sound.0 in absurd (cc)

put_there : (offset : ℕ) (added bytes : List ℕ) → offset + length added ≤ length bytes → take (length added) (drop offset (patched offset added bytes)) ≡ added
put_there offset added bytes fits =
    let width : offset + length added - offset ≡ length added = omega arith in
    ap (λ (count : ℕ). take count (drop offset (patched offset added bytes))) (sym width) ∙ range-patched_there offset added bytes fits

sound_contents : (state : Persistent) → IsSound state → (whole : File) → Contains state.files whole → AreContents whole.kind whole.size whole.contents
sound_contents state sound whole there = (All-contains (IsSoundFile state.is_wide state.files) state.files whole sound.files there).contents

-- what was updated: the offset is inside, and this came of it
updated_so : (state : Persistent) (seen : Verified) (selection : Selection) (apdu : Apdu) (updated : FileOutcome) (file : Descriptor)
    → binary_updated state seen selection apdu ≡ Ok updated → addressed (descriptors_in state) selection (short_in_p1 apdu) ≡ Ok file
    → (file.kind ≡ transparent_kind) × (nat_lt file.size (offset_of apdu + length apdu.body) ≡ false) × (updating state selection apdu file ≡ updated)
unfolding binary_updated binary_file record_file update_in
updated_so state seen selection apdu updated file is there =
    let a = met (has_binary_parameters apdu) (has_data apdu) (λ each. each.kind == transparent_kind) (descriptors_in state) selection (short_in_p1 apdu) (update_in state seen selection apdu) file updated is there in
    let b = unless_ok _ _ _ updated a.1 in
    let c = unless_ok _ _ _ updated b.1 in
    (eqb-true file.kind transparent_kind a.0, c.0, same_ok (updating state selection apdu file) updated (Ok (updating state selection apdu file)) refl c.1)

read_so : (state : Persistent) (seen : Verified) (selection : Selection) (apdu : Apdu) (answered : FileOutcome) (file : Descriptor)
    → binary_read state seen selection apdu ≡ Ok answered → addressed (descriptors_in state) selection (short_in_p1 apdu) ≡ Ok file
    → reading state selection apdu file (unwrap_or apdu.expected 0) ≡ answered
unfolding binary_read binary_file record_file read_from
read_so state seen selection apdu answered file is there =
    let a = met (has_binary_parameters apdu) (has_le_alone apdu) (λ each. each.kind == transparent_kind) (descriptors_in state) selection (short_in_p1 apdu) (read_from state seen selection apdu) file answered is there in
    let b = unless_ok _ _ _ answered a.1 in
    let c = unless_ok _ _ _ answered b.1 in
    same_ok (reading state selection apdu file (unwrap_or apdu.expected 0)) answered (Ok (reading state selection apdu file (unwrap_or apdu.expected 0))) refl c.1

pub bytes_are_read : BytesAreRead
unfolding reading updating descriptor_in
bytes_are_read state seen now selection later update read updated answered whole file sound there is_updated addressed_by is_read addressed_later same_number same_offset as_many =
    let came = updated_so state seen selection update updated (descriptor_in whole) is_updated addressed_by in
    let offset : ℕ = offset_of update in
    let change : File → File = λ f. record f { contents = bytes_put offset update.body f.contents } in
    let next : Persistent = with_bytes whole.number offset update.body state in
    let left : last_of state updated.passed ≡ next = ap (λ (o : FileOutcome). last_of state o.passed) (sym came.2) in
    let known = bytes_case whole.contents whole.kind whole.size offset update.body came.0 (sound_contents state sound whole there) in
    let holds : bytes_in next whole.number ≡ patched offset update.body known.0 = ap bytes_held (held_after state sound whole there change (λ f. refl)) ∙ known.1 in
    let fits : offset + length update.body ≤ length known.0 = omega (arith, ltb-false whole.size (offset + length update.body) came.1, known.2) in
    let given_back = read_so (last_of state updated.passed) now later read answered file is_read addressed_later in
    ap (λ (o : FileOutcome). o.body) (sym given_back)
    ∙ ap (λ (s : Persistent). take (unwrap_or read.expected 0) (drop (offset_of read) (bytes_in s file.number))) left
    ∙ ap (λ (n : ℕ). take (unwrap_or read.expected 0) (drop (offset_of read) (bytes_in next n))) same_number
    ∙ ap (λ (n : ℕ). take (unwrap_or read.expected 0) (drop n (bytes_in next whole.number))) same_offset
    ∙ ap (λ (o : Option ℕ). take (unwrap_or o 0) (drop offset (bytes_in next whole.number))) as_many
    ∙ ap (λ (held : List ℕ). take (length update.body) (drop offset held)) holds
    ∙ put_there offset update.body known.0 fits

-- ---- records

records_case : (contents : Contents) (kind size : ℕ) → has_records kind ≡ true → AreContents kind size contents → (old : List (List ℕ)) × (contents ≡ Records old)
records_case Files kind size is sound = let none : has_records df_kind ≡ true = subst (λ (k : ℕ). has_records k ≡ true) sound is in absurd (cc)
records_case (Bytes bytes) kind size is sound = let none : has_records transparent_kind ≡ true = subst (λ (k : ℕ). has_records k ≡ true) sound.0 is in absurd (cc)
records_case (Records records) kind size is sound = (records, refl)

record_updated_so : (state : Persistent) (seen : Verified) (selection : Selection) (apdu : Apdu) (updated : FileOutcome) (file : Descriptor) (number : ℕ)
    → record_updated state seen selection apdu ≡ Ok updated → addressed (descriptors_in state) selection (short_in_p2 apdu) ≡ Ok file
    → number_updated file apdu (pointer_before selection (short_in_p2 apdu)) ≡ Some number
    → (has_records file.kind ≡ true) × (record_updating state selection apdu file number ≡ updated)
unfolding record_updated record_update_in number_to_update and_given
record_updated_so state seen selection apdu updated file number is there named =
    let next : ℕ → Result FileOutcome StatusWord = λ each. Ok (record_updating state selection apdu file each) in
    let a = met (has_record_parameters apdu) (has_data apdu) (λ each. may_be_updated each apdu) (descriptors_in state) selection (short_in_p2 apdu) (record_update_in state seen selection apdu) file updated is there in
    let b = unless_ok _ _ _ updated a.1 in
    let c = past_ok _ _ _ next updated (named_ok (number_updated file apdu (pointer_before selection (short_in_p2 apdu))) _ _ next number updated named b.1) in
    ((and_parts (has_records file.kind) _ a.0).0, same_ok (record_updating state selection apdu file number) updated (Ok (record_updating state selection apdu file number)) refl c.1)

record_read_so : (state : Persistent) (seen : Verified) (selection : Selection) (apdu : Apdu) (answered : FileOutcome) (file : Descriptor) (number : ℕ)
    → record_read state seen selection apdu ≡ Ok answered → addressed (descriptors_in state) selection (short_in_p2 apdu) ≡ Ok file
    → record_named file apdu (pointer_before selection (short_in_p2 apdu)) ≡ Some number
    → record_reading state selection apdu file number ≡ answered
unfolding record_read record_read_from number_to_read and_given
record_read_so state seen selection apdu answered file number is there named =
    let next : ℕ → Result FileOutcome StatusWord = λ each. Ok (record_reading state selection apdu file each) in
    let a = met (has_record_parameters apdu) (has_le_alone apdu) (λ each. has_records each.kind) (descriptors_in state) selection (short_in_p2 apdu) (record_read_from state seen selection apdu) file answered is there in
    let b = unless_ok _ _ _ answered a.1 in
    let c = past_ok _ _ _ next answered (named_ok (record_named file apdu (pointer_before selection (short_in_p2 apdu))) _ _ next number answered named b.1) in
    same_ok (record_reading state selection apdu file number) answered (Ok (record_reading state selection apdu file number)) refl c.1

-- the record stands where it was put
module _ (state : Persistent) (sound : IsSound state) (whole : File) (there : Contains state.files whole) (old : List (List ℕ)) (holds : whole.contents ≡ Records old) (added : List ℕ) where
  linear_there : (index : ℕ) → index < length old → slice_index_or (records_in (with_record whole.number index added state) whole.number) index [] ≡ added
  linear_there index low =
      let change : File → File = λ f. record f { contents = record_put index added f.contents } in
      ap (λ (held : Contents). slice_index_or (records_held held) index []) (held_after state sound whole there change (λ f. refl))
      ∙ ap (λ (held : Contents). slice_index_or (records_held (record_put index added held)) index []) holds
      ∙ get_or-set_same old index added [] low

  cyclic_there : slice_index_or (records_in (with_newest_record whole.number added state) whole.number) 0 [] ≡ added
  cyclic_there =
      let change : File → File = λ f. record f { contents = record_pushed added f.contents } in
      ap (λ (held : Contents). slice_index_or (records_held held) 0 []) (held_after state sound whole there change (λ f. refl))
      ∙ ap (λ (held : Contents). slice_index_or (records_held (record_pushed added held)) 0 []) holds

  -- by the kind of the file
  put_so : (cyclic : Bool) (number : ℕ) → 1 ≤ number → number ≤ length old → (cyclic ≡ true → number ≡ 1)
      → slice_index_or (records_in (if cyclic then with_newest_record whole.number added state else with_record whole.number (number - 1) added state) whole.number) (number - 1) [] ≡ added
  put_so true number from to first =
      ap (λ (n : ℕ). slice_index_or (records_in (with_newest_record whole.number added state) whole.number) (n - 1) []) (first refl) ∙ cyclic_there
  put_so false number from to first = linear_there (number - 1) (omega (arith, from, to))

abbrev some_or : {X : Type 0} → X → Option X → X
some_or other (Some value) = value
some_or other None = other

first_named : (cyclic : Bool) (named : Option ℕ) (wanted : ℕ) → (if cyclic then Some 1 else named) ≡ Some wanted → cyclic ≡ true → wanted ≡ 1
first_named true named wanted is so = sym (ap (some_or 1) is)
first_named false named wanted is so = absurd (cc)

pub records_are_read : RecordsAreRead
unfolding record_reading record_updating descriptor_in
records_are_read state seen now selection later update read updated answered whole file number sound there is_updated addressed_by named from to is_read addressed_later same_number named_later =
    let mine : Descriptor = descriptor_in whole in
    let came = record_updated_so state seen selection update updated mine number is_updated addressed_by named in
    let known = records_case whole.contents whole.kind whole.size came.0 (sound_contents state sound whole there) in
    let next : Persistent = if is_cyclic mine then with_newest_record whole.number update.body state else with_record whole.number (number - 1) update.body state in
    let left : last_of state updated.passed ≡ next = ap (λ (o : FileOutcome). last_of state o.passed) (sym came.1) in
    let few : number ≤ length known.0 = subst (λ (c : Contents). number ≤ record_count c) known.1 to in
    let given_back = record_read_so (last_of state updated.passed) now later read answered file number is_read addressed_later named_later in
    ap (λ (o : FileOutcome). o.body) (sym given_back)
    ∙ ap (λ (s : Persistent). slice_index_or (records_in s file.number) (number - 1) []) left
    ∙ ap (λ (n : ℕ). slice_index_or (records_in next n) (number - 1) []) same_number
    ∙ put_so state sound whole there known.0 known.1 update.body (is_cyclic mine) number from few (first_named (is_cyclic mine) (record_named mine update (pointer_before selection (short_in_p2 update))) number named)
