-- READ RECORD, UPDATE RECORD, SEARCH RECORD and INCREASE come to lawful outcomes.
use Rattle.std.proofs.Common.{◌≡◌, ℕ, zero, suc, ◌+◌, ◌-◌, ◌<◌, ◌≤◌, Bool, true, false, List, [], ◌∷◌, ◌++◌, length, reverse, Option, Some, None, refl, sym, ◌∙◌, ap, subst, inl, inr, ⊎_elim, arith, length-append, ◌==◌, ◌||◌, not, nat_lt, nat_le, if◌then◌else◌, IsTrue, Contains, All, IfSome, slice_index_or, MatchResult}
use Rattle.std.specs.List.{range_with_len}
use Rattle.std.proofs.lemmas.Bool.{ltb-true, leb-true, not-false, eqb-true, eqb-false, cases_lt, and_parts}
use Rattle.std.proofs.lemmas.List.{length-reverse, get_or-reverse, get_or_past}
use Rattle.std.proofs.lemmas.List.FromFn.{length-range_with_len, get_or-range_with_len}
use Rattle.std.proofs.lemmas.List.Sums.{length-filter, count_by-le-length}
use Rattle.std.proofs.lemmas.List.Elements.{All-contains, All-filter, All-head}
use Rattle.list_laws.proofs.FindLemmas.{numbered_found}
use Rattle.list_laws.proofs.IfSomeLemmas.{if_some_at}
use Rattle.list_laws.proofs.CondLemmas.{low_chosen}
use Rattle.uicc_types.specs.declared.answers.TheConstants.StatusWord.{DONE, END_OF_FILE}
use Rattle.apdu_form.specs.Model.{Apdu}
use Rattle.card_state.specs.Changes.{Change, PutRecord, PutNewest}
use Rattle.card_state.specs.Kinds.{has_records, is_ef_kind, cyclic_kind}
use Rattle.card_state.specs.Persistent.{Contents, Files, Bytes, Records, File, Persistent}
use Rattle.card_state.specs.Changing.{record_put, record_pushed, with_record, with_newest_record}
use Rattle.card_state.specs.Soundness.{AreContents, IsSoundFile, IsSound}
use Rattle.file_model.specs.declared.descriptors.Descriptor.{Descriptor}
use Rattle.file_model.specs.declared.selections.Selection.{Selection}
use Rattle.file_model.specs.Files.{record_width, record_count, descriptor_in, descriptors_in}
use Rattle.file_model.specs.Selections.{IsSelection}
use Rattle.file_model.specs.Holdings.{records_held, held_by, records_in, contents_if}
use Rattle.apdu_form.specs.Fields.{has_data, has_le_alone}
use Rattle.file_model.specs.Outcomes.{addressed, pointer_before, worked_on}
use Rattle.file_model.specs.Records.{mode_bits, next_mode, previous_mode, absolute_mode, forward_mode, short_in_p2, is_cyclic, has_record_parameters, next_record, previous_record, absolute_record, record_named, pointer_after, record_file, file_to_read, number_to_read, record_reading, record_read_from, record_read, may_be_updated, number_updated, file_to_update, number_to_update, record_updating, record_update_in, record_updated, has_search_parameters, has_within, numbers_searched, numbers_matched, match_pointer, file_to_search, number_to_search, searching, search_in, searched, short_to_increase, sum_of, may_be_increased, has_increase_parameters, has_increase_length, file_to_increase, sum_to_write, increasing, increase_in, increased}
use Rattle.file_model.specs.Laws.{HasSameAttributes, IsSoundCard, IsLawfulOutcome, IsFileRefusal, IsLawfulCommand}
use Rattle.file_model.proofs.ChainsLemmas.{unless_so, given_so, and_given_so}
use Rattle.file_model.proofs.FindsWholePartsLemmas.{length-bytes_of}
use Rattle.file_model.proofs.HasSameShapeLemmas.{some_records, few_records, each_width, record_put_so, record_pushed_so}
use Rattle.file_model.proofs.HasSameAttributesLemmas.{numbers_ascend}
use Rattle.file_model.proofs.IsSelectionLemmas.{IsAddressed, addressed_so, worked_so}
use Rattle.file_model.proofs.IsLawfulOutcomeLemmas.{good, unchanged_so, committed_so}

-- the number of a record of the file
abbrev IsAmong : Descriptor → ℕ → Type 0
IsAmong file n = (1 ≤ n) × (n ≤ file.count)

if_chosen : {X : Type 0} (P : X → Type 0) (b : Bool) (x y : Option X) → (b ≡ true → IfSome x P) → (b ≡ false → IfSome y P) → IfSome (if b then x else y) P
if_chosen P true x y first second = first refl
if_chosen P false x y first second = second refl

next_so : (file : Descriptor) (pointer : Option ℕ) → 1 ≤ file.count → IfSome pointer (IsAmong file) → IfSome (next_record file pointer) (IsAmong file)
next_so file None some among = (omega arith, some)
next_so file (Some n) some among =
    if_chosen (IsAmong file) (nat_lt n file.count) (Some (n + 1)) (if is_cyclic file then Some 1 else None) (λ less. (omega arith, omega (arith, ltb-true n file.count less)))
    (λ last. if_chosen (IsAmong file) (is_cyclic file) (Some 1) None (λ _. (omega arith, some)) (λ _. tt))

previous_so : (file : Descriptor) (pointer : Option ℕ) → 1 ≤ file.count → IfSome pointer (IsAmong file) → IfSome (previous_record file pointer) (IsAmong file)
previous_so file None some among = (some, omega arith)
previous_so file (Some n) some among =
    if_chosen (IsAmong file) (nat_lt 1 n) (Some (n - 1)) (if is_cyclic file then Some file.count else None) (λ more. (omega (arith, ltb-true 1 n more), omega (arith, among.1)))
    (λ first. if_chosen (IsAmong file) (is_cyclic file) (Some file.count) None (λ _. (some, omega arith)) (λ _. tt))

absolute_so : (file : Descriptor) (number : ℕ) (pointer : Option ℕ) → IfSome pointer (IsAmong file) → IfSome (absolute_record file number pointer) (IsAmong file)
absolute_so file number pointer among =
    if_chosen (IsAmong file) (number == 0) pointer (if nat_le number file.count then Some number else None) (λ _. among)
    (λ other. if_chosen (IsAmong file) (nat_le number file.count) (Some number) None
    (λ low. (omega (arith, some_number number (eqb-false number 0 other)), leb-true number file.count low)) (λ _. tt))
  where
    some_number : (n : ℕ) → (n ≡ 0 → ⊥) → 1 ≤ n
    some_number zero other = absurd (other refl)
    some_number (suc n) other = omega arith

named_so : (file : Descriptor) (apdu : Apdu) (pointer : Option ℕ) → 1 ≤ file.count → IfSome pointer (IsAmong file) → IfSome (record_named file apdu pointer) (IsAmong file)
unfolding record_named
named_so file apdu pointer some among =
    if_chosen (IsAmong file) (mode_bits apdu == next_mode) (next_record file pointer) (if mode_bits apdu == previous_mode then previous_record file pointer else absolute_record file apdu.p1 pointer)
    (λ _. next_so file pointer some among)
    (λ _. if_chosen (IsAmong file) (mode_bits apdu == previous_mode) (previous_record file pointer) (absolute_record file apdu.p1 pointer) (λ _. previous_so file pointer some among) (λ _. absolute_so file apdu.p1 pointer among))

pointer_so : (file : Descriptor) (apdu : Apdu) (number : ℕ) (pointer : Option ℕ) → IsAmong file number → IfSome pointer (IsAmong file) → IfSome (pointer_after apdu number pointer) (IsAmong file)
pointer_so file apdu number pointer here among = if_chosen (IsAmong file) (mode_bits apdu == absolute_mode) pointer (Some number) (λ _. among) (λ _. here)

-- ---- what the file holds

held_is : (state : Persistent) (whole : File) → IsSound state → Contains state.files whole → held_by state whole.number ≡ whole.contents
unfolding held_by
held_is state whole sound there = ap contents_if (numbered_found (λ (f : File). f.number) state.files whole (numbers_ascend state sound) there)

short_at : (records : List (List ℕ)) (width k : ℕ) → All (λ bytes. length bytes ≡ width) records → width ≤ 255 → length (slice_index_or records k []) ≤ 255
short_at records width k wide low =
    ⊎_elim {C = length (slice_index_or records k []) ≤ 255}
    (λ inside. omega (arith, wide k [] inside, low))
    (λ past. omega (arith, ap length (get_or_past records k [] past)))
    (cases_lt k (length records))

record_short : (kind size k : ℕ) (contents : Contents) → AreContents kind size contents → record_width contents ≤ 255 → length (slice_index_or (records_held contents) k []) ≤ 255
record_short kind size k Files are low = omega arith
record_short kind size k (Bytes bytes) are low = omega arith
record_short kind size k (Records records) are low = short_at records (record_width (Records records)) k (each_width kind size records are) low

-- a file with records: it is sound, has a record, and its records are short
record HasRecords (state : Persistent) (whole : File) : Type 0 where
  one : IsSoundFile state.is_wide state.files whole
  some : 1 ≤ record_count whole.contents
  few : record_count whole.contents ≤ 254
  short : record_width whole.contents ≤ 255

has_records_so : (state : Persistent) (whole : File) → IsSoundCard state → Contains state.files whole → IsTrue (has_records whole.kind) → IsTrue (is_ef_kind whole.kind) → HasRecords state whole
has_records_so state whole card there has ef =
    let one : IsSoundFile state.is_wide state.files whole = All-contains (IsSoundFile state.is_wide state.files) state.files whole card.sound.files there in
    record {
      one = one;
      some = some_records whole.kind whole.size whole.contents has one.contents (one.ef ef).some;
      few = few_records whole.kind whole.size whole.contents one.contents;
      short = All-contains (λ (f : File). record_width f.contents ≤ 255) state.files whole card.short there;
    }

-- what a command on records works on: it is there, of the structure that is wanted, and the command has the length that is wanted
record IsTarget (state : Persistent) (selection : Selection) (short : Option ℕ) (fits : Descriptor → Bool) (has_length : Bool) (file : Descriptor) : Type 0 where
  there : IsAddressed state selection short file
  fits_it : fits file ≡ true
  long : has_length ≡ true

target_so : (state : Persistent) (selection : Selection) (short : Option ℕ) (fits : Descriptor → Bool) (has_parameters has_length : Bool) → IsSoundCard state → IsSelection (descriptors_in state) selection
    → MatchResult (record_file has_parameters has_length fits (descriptors_in state) selection short) (IsTarget state selection short fits has_length) IsFileRefusal
unfolding record_file
target_so state selection short fits has_parameters has_length card lawful =
    let P : Descriptor → Type 0 = IsTarget state selection short fits has_length in
    unless_so P IsFileRefusal _ _ _ (inl (0, omega arith, refl)) (λ _.
    unless_so P IsFileRefusal _ _ _ (inl (1, omega arith, refl)) (λ long.
    and_given_so (IsAddressed state selection short) P IsFileRefusal (addressed (descriptors_in state) selection short) _ (addressed_so state selection short card.sound lawful) (λ file found.
    unless_so P IsFileRefusal _ _ _ (inl (4, omega arith, refl)) (λ fit.
    unless_so P IsFileRefusal _ _ _ (inl (5, omega arith, refl)) (λ _. record { there = found; fits_it = not-false (fits file) fit; long = not-false has_length long })))))

-- what holds of a file with records holds of what is known of it
on_whole : (state : Persistent) (card : IsSoundCard state) (short : Option ℕ) (file : Descriptor) (selection : Selection) (found : IsAddressed state selection short file) → IsTrue (has_records file.kind)
    → (P : Descriptor → Type 0) → ((whole : File) → Contains state.files whole → IsAddressed state selection short (descriptor_in whole) → HasRecords state whole → P (descriptor_in whole)) → P file
unfolding descriptor_in
on_whole state card short file selection found has P rest =
    subst (λ (f : Descriptor). IsAddressed state selection short f → IsTrue (has_records f.kind) → P f) found.of.is
    (λ is kind. rest found.of.whole found.of.there is (has_records_so state found.of.whole card found.of.there kind is.ef)) found has

-- some records, few and short
record IsCounted (file : Descriptor) : Type 0 where
  some : 1 ≤ file.count
  few : file.count ≤ 254
  short : file.width ≤ 255

counted_so : (state : Persistent) (card : IsSoundCard state) (short : Option ℕ) (file : Descriptor) (selection : Selection) → IsAddressed state selection short file → IsTrue (has_records file.kind) → IsCounted file
unfolding descriptor_in
counted_so state card short file selection found has = on_whole state card short file selection found has IsCounted (λ whole there is here. record { some = here.some; few = here.few; short = here.short })

-- ---- READ RECORD

reading_so : (state : Persistent) (card : IsSoundCard state) (selection : Selection) (apdu : Apdu) (whole : File) (number : ℕ) → Contains state.files whole → IsSelection (descriptors_in state) selection
    → IsAddressed state selection (short_in_p2 apdu) (descriptor_in whole) → HasRecords state whole → IsAmong (descriptor_in whole) number → IsLawfulOutcome state (record_reading state selection apdu (descriptor_in whole) number)
unfolding record_reading descriptor_in
reading_so state card selection apdu whole number there lawful is has here =
    unchanged_so state (record_reading state selection apdu (descriptor_in whole) number) refl
    (worked_so state selection (short_in_p2 apdu) (descriptor_in whole) (pointer_after apdu number (pointer_before selection (short_in_p2 apdu))) lawful is (pointer_so (descriptor_in whole) apdu number (pointer_before selection (short_in_p2 apdu)) here is.pointer))
    (omega (arith, ap (λ (c : Contents). length (slice_index_or (records_held c) (number - 1) [])) (held_is state whole card.sound there), record_short whole.kind whole.size (number - 1) whole.contents has.one.contents has.short))
    (0, omega arith, refl)

number_read_so : (file : Descriptor) (selection : Selection) (apdu : Apdu) → IsCounted file → IfSome (pointer_before selection (short_in_p2 apdu)) (IsAmong file) → MatchResult (number_to_read file selection apdu) (IsAmong file) IsFileRefusal
unfolding number_to_read
number_read_so file selection apdu counted among =
    let pointer : Option ℕ = pointer_before selection (short_in_p2 apdu) in
    given_so (IsAmong file) IsFileRefusal (record_named file apdu pointer) _ _ (inl (8, omega arith, refl)) (λ number named.
    unless_so (IsAmong file) IsFileRefusal _ _ _ (inr (file.width, counted.short, refl)) (λ _. if_some_at (record_named file apdu pointer) (IsAmong file) number (named_so file apdu pointer counted.some among) named))

pub record_read_so : IsLawfulCommand record_read
unfolding record_read record_read_from
record_read_so bytes apdu state seen selection is card lawful =
    let short : Option ℕ = short_in_p2 apdu in
    and_given_so (IsTarget state selection short (λ f. has_records f.kind) (has_le_alone apdu)) (IsLawfulOutcome state) IsFileRefusal (file_to_read (descriptors_in state) selection apdu) _
    (target_so state selection short (λ f. has_records f.kind) (has_record_parameters apdu) (has_le_alone apdu) card lawful) (λ file found.
    unless_so (IsLawfulOutcome state) IsFileRefusal _ _ _ (inl (6, omega arith, refl)) (λ _.
    and_given_so (IsAmong file) (IsLawfulOutcome state) IsFileRefusal (number_to_read file selection apdu) _
    (number_read_so file selection apdu (counted_so state card short file selection found.there found.fits_it) found.there.pointer) (λ number among.
    on_whole state card short file selection found.there found.fits_it (λ f. IsAmong f number → IsLawfulOutcome state (record_reading state selection apdu f number))
    (λ whole there is_there records here. reading_so state card selection apdu whole number there lawful is_there records here) among)))

-- ---- UPDATE RECORD

abbrev same_attributes : (contents : Contents → Contents) (file : File) → HasSameAttributes file (record file { contents = contents file.contents })
same_attributes contents file = record { number = refl; parent = refl; kind = refl; id = refl; short = refl; rule = refl; place = refl; size = refl }

-- a new first record, and another record
newest_so : (state : Persistent) (card : IsSoundCard state) (body sum : List ℕ) (selection : Selection) (whole : File) → Contains state.files whole → IsTrue (is_ef_kind whole.kind) → HasRecords state whole
    → length sum ≡ record_width whole.contents → IsSelection (descriptors_in state) selection → length body ≤ 256
    → IsLawfulOutcome state (record { body = body; status = DONE; selection = selection; passed = with_newest_record whole.number sum state ∷ []; changes = PutNewest whole.number sum ∷ [] })
newest_so state card body sum selection whole there ef has long lawful short =
    let put = record_pushed_so whole.kind whole.size sum whole.contents has.one.contents has.some long in
    committed_so state card (λ file. record file { contents = record_pushed sum file.contents }) (same_attributes (record_pushed sum)) whole there ef put.0 put.1 (has.one.ef ef).life body selection (PutNewest whole.number sum) lawful short

another_so : (state : Persistent) (card : IsSoundCard state) (index : ℕ) (bytes : List ℕ) (selection : Selection) (whole : File) → Contains state.files whole → IsTrue (is_ef_kind whole.kind) → HasRecords state whole
    → length bytes ≡ record_width whole.contents → IsSelection (descriptors_in state) selection
    → IsLawfulOutcome state (record { body = []; status = DONE; selection = selection; passed = with_record whole.number index bytes state ∷ []; changes = PutRecord whole.number index bytes ∷ [] })
another_so state card index bytes selection whole there ef has long lawful =
    let put = record_put_so whole.kind whole.size index bytes whole.contents has.one.contents has.some long in
    committed_so state card (λ file. record file { contents = record_put index bytes file.contents }) (same_attributes (record_put index bytes)) whole there ef put.0 put.1 (has.one.ef ef).life [] selection (PutRecord whole.number index bytes) lawful (omega arith)

either_so : (state : Persistent) (b : Bool) (selection : Selection) (x y : Persistent) (made made' : Change) → IsLawfulOutcome state (record { body = []; status = DONE; selection = selection; passed = x ∷ []; changes = made ∷ [] })
    → IsLawfulOutcome state (record { body = []; status = DONE; selection = selection; passed = y ∷ []; changes = made' ∷ [] })
    → IsLawfulOutcome state (record { body = []; status = DONE; selection = selection; passed = (if b then x else y) ∷ []; changes = (if b then made else made') ∷ [] })
either_so state true selection x y made made' first second = first
either_so state false selection x y made made' first second = second

number_so : (file : Descriptor) (apdu : Apdu) (pointer : Option ℕ) → 1 ≤ file.count → IfSome pointer (IsAmong file) → IfSome (number_updated file apdu pointer) (IsAmong file)
number_so file apdu pointer some among = if_chosen (IsAmong file) (is_cyclic file) (Some 1) (record_named file apdu pointer) (λ _. (omega arith, some)) (λ _. named_so file apdu pointer some among)

updating_so : (state : Persistent) (card : IsSoundCard state) (selection : Selection) (apdu : Apdu) (whole : File) (number : ℕ) → Contains state.files whole → IsSelection (descriptors_in state) selection
    → IsAddressed state selection (short_in_p2 apdu) (descriptor_in whole) → HasRecords state whole → IsAmong (descriptor_in whole) number → length apdu.body ≡ record_width whole.contents
    → IsLawfulOutcome state (record_updating state selection apdu (descriptor_in whole) number)
unfolding record_updating descriptor_in
updating_so state card selection apdu whole number there lawful is has here long =
    let worked : Selection = worked_on selection (descriptor_in whole) (pointer_after apdu number (pointer_before selection (short_in_p2 apdu))) in
    let still = worked_so state selection (short_in_p2 apdu) (descriptor_in whole) (pointer_after apdu number (pointer_before selection (short_in_p2 apdu))) lawful is
    (pointer_so (descriptor_in whole) apdu number (pointer_before selection (short_in_p2 apdu)) here is.pointer) in
    either_so state (whole.kind == cyclic_kind) worked (with_newest_record whole.number apdu.body state) (with_record whole.number (number - 1) apdu.body state) (PutNewest whole.number apdu.body) (PutRecord whole.number (number - 1) apdu.body)
    (newest_so state card [] apdu.body worked whole there is.ef has long still (omega arith))
    (another_so state card (number - 1) apdu.body worked whole there is.ef has long still)

-- the number of a record of the file, of this length
abbrev Fits : List ℕ → Descriptor → ℕ → Type 0
Fits body file number = IsAmong file number × (length body ≡ file.width)

number_updated_so : (file : Descriptor) (selection : Selection) (apdu : Apdu) → IsCounted file → IfSome (pointer_before selection (short_in_p2 apdu)) (IsAmong file)
    → MatchResult (number_to_update file selection apdu) (Fits apdu.body file) IsFileRefusal
unfolding number_to_update
number_updated_so file selection apdu counted among =
    let pointer : Option ℕ = pointer_before selection (short_in_p2 apdu) in
    given_so (Fits apdu.body file) IsFileRefusal (number_updated file apdu pointer) _ _ (inl (8, omega arith, refl)) (λ number named.
    unless_so (Fits apdu.body file) IsFileRefusal _ _ _ (inl (1, omega arith, refl)) (λ long.
    (if_some_at (number_updated file apdu pointer) (IsAmong file) number (number_so file apdu pointer counted.some among) named, eqb-true (length apdu.body) file.width (not-false (length apdu.body == file.width) long))))

pub record_updated_so : IsLawfulCommand record_updated
unfolding record_updated record_update_in descriptor_in
record_updated_so bytes apdu state seen selection is card lawful =
    let short : Option ℕ = short_in_p2 apdu in
    and_given_so (IsTarget state selection short (λ f. may_be_updated f apdu) (has_data apdu)) (IsLawfulOutcome state) IsFileRefusal (file_to_update (descriptors_in state) selection apdu) _
    (target_so state selection short (λ f. may_be_updated f apdu) (has_record_parameters apdu) (has_data apdu) card lawful) (λ file found.
    let has : IsTrue (has_records file.kind) = (and_parts (has_records file.kind) (not (is_cyclic file) || mode_bits apdu == previous_mode) found.fits_it).0 in
    unless_so (IsLawfulOutcome state) IsFileRefusal _ _ _ (inl (6, omega arith, refl)) (λ _.
    and_given_so (Fits apdu.body file) (IsLawfulOutcome state) IsFileRefusal (number_to_update file selection apdu) _
    (number_updated_so file selection apdu (counted_so state card short file selection found.there has) found.there.pointer) (λ number fits.
    on_whole state card short file selection found.there has (λ f. Fits apdu.body f number → IsLawfulOutcome state (record_updating state selection apdu f number))
    (λ whole there is_there records here. updating_so state card selection apdu whole number there lawful is_there records here.0 here.1) fits)))

-- ---- SEARCH RECORD

forward_so : (file : Descriptor) (from : ℕ) → IsAmong file from → All (IsAmong file) (range_with_len from (file.count + 1 - from))
forward_so file from here k d low =
    let few : k < file.count + 1 - from = omega (arith, length-range_with_len from (file.count + 1 - from)) in
    subst (IsAmong file) (sym (get_or-range_with_len from (file.count + 1 - from) k d few)) (omega (arith, here.0), omega (arith, few, here.1))

backward_so : (file : Descriptor) (from : ℕ) → IsAmong file from → All (IsAmong file) (reverse (range_with_len 1 from))
backward_so file from here k d low =
    let long : length (range_with_len 1 from) ≡ from = length-range_with_len 1 from in
    let few : k < length (range_with_len 1 from) = omega (arith, length-reverse (range_with_len 1 from)) in
    let back : length (range_with_len 1 from) - 1 - k < from = omega (arith, long, few) in
    subst (IsAmong file) (sym (get_or-reverse (range_with_len 1 from) k d few ∙ get_or-range_with_len 1 from (length (range_with_len 1 from) - 1 - k) d back)) (omega arith, omega (arith, back, here.1))

all_chosen : (P : ℕ → Type 0) (b : Bool) (xs ys : List ℕ) → All P xs → All P ys → All P (if b then xs else ys)
all_chosen P true xs ys first second = first
all_chosen P false xs ys first second = second

numbers_so : (state : Persistent) (file : Descriptor) (apdu : Apdu) (from : ℕ) → IsAmong file from → All (IsAmong file) (numbers_matched state file apdu from)
unfolding numbers_matched
numbers_so state file apdu from here =
    All-filter (λ number. has_within apdu.body (slice_index_or (records_in state file.number) (number - 1) [])) (IsAmong file) (numbers_searched file apdu from)
    (all_chosen (IsAmong file) (mode_bits apdu == forward_mode) (range_with_len from (file.count + 1 - from)) (reverse (range_with_len 1 from)) (forward_so file from here) (backward_so file from here))

few_numbers : (state : Persistent) (file : Descriptor) (apdu : Apdu) (from : ℕ) → IsAmong file from → length (numbers_matched state file apdu from) ≤ file.count
unfolding numbers_matched
few_numbers state file apdu from here =
    let matches : ℕ → Bool = λ number. has_within apdu.body (slice_index_or (records_in state file.number) (number - 1) []) in
    let all : List ℕ = numbers_searched file apdu from in
    let few : length all ≤ file.count =
    low_chosen (mode_bits apdu == forward_mode) (range_with_len from (file.count + 1 - from)) (reverse (range_with_len 1 from)) file.count
    (omega (arith, length-range_with_len from (file.count + 1 - from), here.0)) (omega (arith, length-reverse (range_with_len 1 from), length-range_with_len 1 from, here.1)) in
    omega (arith, length-filter matches all, count_by-le-length matches all, few)

match_so : (file : Descriptor) (pointer : Option ℕ) (numbers : List ℕ) → IfSome pointer (IsAmong file) → All (IsAmong file) numbers → IfSome (match_pointer pointer numbers) (IsAmong file)
match_so file pointer [] among all = among
match_so file pointer (number ∷ numbers) among all = All-head (IsAmong file) number numbers all

none_or_some : (b : Bool) → Contains good (if b then END_OF_FILE else DONE)
none_or_some true = (1, omega arith, refl)
none_or_some false = (0, omega arith, refl)

searching_so : (state : Persistent) (selection : Selection) (apdu : Apdu) (file : Descriptor) (from : ℕ) → IsSelection (descriptors_in state) selection → IsAddressed state selection (short_in_p2 apdu) file
    → file.count ≤ 254 → IsAmong file from → IsLawfulOutcome state (searching state selection apdu file from)
unfolding searching
searching_so state selection apdu file from lawful is few here =
    let numbers : List ℕ = numbers_matched state file apdu from in
    unchanged_so state (searching state selection apdu file from) refl
    (worked_so state selection (short_in_p2 apdu) file (match_pointer (pointer_before selection (short_in_p2 apdu)) numbers) lawful is
    (match_so file (pointer_before selection (short_in_p2 apdu)) numbers is.pointer (numbers_so state file apdu from here)))
    (omega (arith, few_numbers state file apdu from here, few)) (none_or_some (length numbers == 0))

number_searched_so : (file : Descriptor) (selection : Selection) (apdu : Apdu) → IfSome (pointer_before selection (short_in_p2 apdu)) (IsAmong file) → MatchResult (number_to_search file selection apdu) (IsAmong file) IsFileRefusal
unfolding number_to_search
number_searched_so file selection apdu among =
    let pointer : Option ℕ = pointer_before selection (short_in_p2 apdu) in
    given_so (IsAmong file) IsFileRefusal (absolute_record file apdu.p1 pointer) _ _ (inl (8, omega arith, refl)) (λ from named.
    unless_so (IsAmong file) IsFileRefusal _ _ _ (inl (1, omega arith, refl)) (λ _. if_some_at (absolute_record file apdu.p1 pointer) (IsAmong file) from (absolute_so file apdu.p1 pointer among) named))

pub searched_so : IsLawfulCommand searched
unfolding searched search_in
searched_so bytes apdu state seen selection is card lawful =
    let short : Option ℕ = short_in_p2 apdu in
    and_given_so (IsTarget state selection short (λ f. has_records f.kind) (has_data apdu)) (IsLawfulOutcome state) IsFileRefusal (file_to_search (descriptors_in state) selection apdu) _
    (target_so state selection short (λ f. has_records f.kind) (has_search_parameters apdu) (has_data apdu) card lawful) (λ file found.
    unless_so (IsLawfulOutcome state) IsFileRefusal _ _ _ (inl (6, omega arith, refl)) (λ _.
    and_given_so (IsAmong file) (IsLawfulOutcome state) IsFileRefusal (number_to_search file selection apdu) _ (number_searched_so file selection apdu found.there.pointer) (λ from among.
    searching_so state selection apdu file from lawful found.there (counted_so state card short file selection found.there found.fits_it).few among)))

-- ---- INCREASE

sum_so : (state : Persistent) (file : Descriptor) (apdu : Apdu) → MatchResult (sum_to_write state apdu file) (λ sum. length sum ≡ file.width) IsFileRefusal
unfolding sum_to_write
sum_so state file apdu =
    unless_so (λ sum. length sum ≡ file.width) IsFileRefusal _ _ _ (inl (1, omega arith, refl)) (λ _.
    unless_so (λ sum. length sum ≡ file.width) IsFileRefusal _ _ _ (inl (9, omega arith, refl)) (λ _. length-bytes_of file.width (sum_of state file apdu)))

increasing_so : (state : Persistent) (card : IsSoundCard state) (selection : Selection) (apdu : Apdu) (whole : File) (sum : List ℕ) → Contains state.files whole → IsSelection (descriptors_in state) selection
    → IsAddressed state selection (short_to_increase apdu) (descriptor_in whole) → HasRecords state whole → record_width whole.contents ≤ 127 → length apdu.body ≤ 127 → length sum ≡ record_width whole.contents
    → IsLawfulOutcome state (increasing state selection apdu (descriptor_in whole) sum)
unfolding increasing descriptor_in
increasing_so state card selection apdu whole sum there lawful is has narrow few long =
    newest_so state card (sum ++ apdu.body) sum (worked_on selection (descriptor_in whole) (Some 1)) whole there is.ef has long
    (worked_so state selection (short_to_increase apdu) (descriptor_in whole) (Some 1) lawful is (omega arith, has.some))
    (omega (arith, length-append sum apdu.body, long, narrow, few))

pub cyclic_has_records : (kind : ℕ) → (kind == cyclic_kind) ≡ true → IsTrue (has_records kind)
cyclic_has_records kind is = subst (λ (k : ℕ). IsTrue (has_records k)) (sym (eqb-true kind cyclic_kind is)) refl

pub increased_so : IsLawfulCommand increased
unfolding increased increase_in descriptor_in
increased_so bytes apdu state seen selection is card lawful =
    let short : Option ℕ = short_to_increase apdu in
    and_given_so (IsTarget state selection short may_be_increased (has_increase_length apdu)) (IsLawfulOutcome state) IsFileRefusal (file_to_increase (descriptors_in state) selection apdu) _
    (target_so state selection short may_be_increased (has_increase_parameters apdu) (has_increase_length apdu) card lawful) (λ file found.
    let ring = and_parts (is_cyclic file) (nat_le file.width 127) found.fits_it in
    unless_so (IsLawfulOutcome state) IsFileRefusal _ _ _ (inl (6, omega arith, refl)) (λ _.
    and_given_so (λ sum. length sum ≡ file.width) (IsLawfulOutcome state) IsFileRefusal (sum_to_write state apdu file) _ (sum_so state file apdu) (λ sum long.
    on_whole state card short file selection found.there (cyclic_has_records file.kind ring.0) (λ f. nat_le f.width 127 ≡ true → length sum ≡ f.width → IsLawfulOutcome state (increasing state selection apdu f sum))
    (λ whole there is_there records narrow wide. increasing_so state card selection apdu whole sum there lawful is_there records (leb-true (record_width whole.contents) 127 narrow)
    (leb-true (length apdu.body) 127 (and_parts (nat_le 1 (length apdu.body)) (nat_le (length apdu.body) 127) found.long).1) wide) ring.1 long)))
