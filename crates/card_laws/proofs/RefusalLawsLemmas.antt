-- Chains of tests are lists of conditions.
use Rattle.std.proofs.Common.{◌≡◌, ℕ, Bool, true, false, List, [], ◌∷◌, ◌++◌, Option, Some, None, Result, Ok, Err, refl, sym, ap, ◌∙◌, subst, inl, inr, ◌⊎◌, ◌==◌, not, is_none, length, All, IsSomeAnd}
use Rattle.std.proofs.lemmas.Bool.{eq-eqb, false≢true, not-false}
use Rattle.std.proofs.lemmas.List.Elements.{All-cons, All-contains, All-head, All-map, All-nil, All-tail, All-weaker}
use Rattle.list_laws.proofs.FindLemmas.{find_Some}
use Rattle.uicc_types.specs.declared.answers.StatusWord.{StatusWord}
use Rattle.uicc_types.specs.declared.answers.TheConstants.StatusWord.{CONDITIONS_NOT_SATISFIED, SECURITY_NOT_SATISFIED, WRONG_LENGTH, WRONG_PARAMETERS, WRONG_STRUCTURE}
use Rattle.card_state.specs.Kinds.{activated, deactivated, has_records, transparent_kind}
use Rattle.card_state.specs.Persistent.{File, Persistent}
use Rattle.card_state.specs.Soundness.{IsDf, IsEf, IsSound, IsSoundDf, IsSoundEf, IsSoundFile}
use Rattle.access_rules.specs.declared.rules.Op.{Op}
use Rattle.access_rules.specs.declared.rules.Op.TheVariants.{ReadBinary, UpdateBinary, ReadRecord, UpdateRecord, Search, Increase, Deactivate, Activate}
use Rattle.access_rules.specs.declared.rules.Verified.{Verified}
use Rattle.file_model.specs.Creating.{created}
use Rattle.file_model.specs.Deleting.{deleted}
use Rattle.file_model.specs.Resizing.{resized}
use Rattle.file_model.specs.Access.{may}
use Rattle.file_model.specs.Binaries.{binary_file, has_binary_parameters, binary_read, binary_updated, read_from, short_in_p1, update_in}
use Rattle.file_model.proofs.ChainsLemmas.{past_given as past_result}
use Rattle.file_model.specs.Chains.{and_given, given, refused_if}
use Rattle.file_model.specs.Files.{descriptor_in, descriptors_in, file_found, is_wanted}
use Rattle.file_model.specs.LifeCycles.{file_activated, file_deactivated, life_changed, life_file, life_in}
use Rattle.apdu_form.specs.Model.{Apdu}
use Rattle.apdu_form.specs.Fields.{has_no_parameters, has_data, has_le_alone, has_no_data}
use Rattle.file_model.specs.Outcomes.{addressed, is_deactivated}
use Rattle.file_model.specs.Records.{has_increase_length, has_increase_parameters, has_record_parameters, has_search_parameters, increase_in, increased, may_be_increased, may_be_updated, number_to_read, number_to_search, number_to_update, record_file, record_read, record_read_from, record_update_in, record_updated, search_in, searched, short_in_p2, short_to_increase, sum_to_write}
use Rattle.file_model.specs.Selecting.{file_selected, status_told}
use Rattle.file_model.specs.Selections.{IsSelection, current_ef}
use Rattle.file_model.specs.declared.descriptors.Descriptor.{Descriptor}
use Rattle.file_model.specs.declared.descriptors.Wanted.{Wanted}
use Rattle.file_model.specs.declared.descriptors.Wanted.TheVariants.{Number, Short}
use Rattle.file_model.specs.declared.selections.Selection.{Selection}
use Rattle.card_laws.specs.RefusalLaws.{DoesNotHold, IsAdmitted, IsDoneByAdm, IsDoneByLeave, IsDoneByRule, IsFirst, IsGranted, IsRefusedFor, IsTestedBy, IsTreeRefusedFor}
use Rattle.card_laws.proofs.ReadingLawsLemmas.{given_met, unless_ok}
use Rattle.card_laws.specs.Refusals.{Refusal, file_meant, of_file, of_found, refusals_of_create, refusals_of_delete, refusals_of_increase, refusals_of_life_cycle, refusals_of_read_binary, refusals_of_read_record, refusals_of_resize, refusals_of_search_record, refusals_of_select, refusals_of_status, refusals_of_update_binary, refusals_of_update_record, without_current_df, without_file}

-- ---- the first of a list

abbrev status_of : Refusal → StatusWord
status_of refusal = refusal.1

abbrev holds : Refusal → Bool
holds refusal = refusal.0

not_both : (b : Bool) → b ≡ true → b ≡ false → ⊥
not_both b is isnt = false≢true (sym isnt ∙ is)

-- where the first condition holds, its status is that of the first that holds
first_at_head : (status other : StatusWord) (rest before behind : List Refusal) → (true, status) ∷ rest ≡ before ++ (true, other) ∷ behind → All DoesNotHold before → status ≡ other
first_at_head status other rest [] behind is none = let same : (true, status) ≡ (true, other) = cc in ap status_of same
first_at_head status other rest (refusal ∷ before) behind is none =
    let same : (true, status) ≡ refusal = cc in
    absurd (not_both (holds refusal) (ap holds (sym same)) (All-head DoesNotHold refusal before none))

head_is_first : (status : StatusWord) (rest : List Refusal) → IsFirst ((true, status) ∷ rest) status
head_is_first status rest = record { before = []; behind = rest; stands = refl; none_before = All-nil DoesNotHold }

-- and else it is the first of the others
first_behind : (status other : StatusWord) (rest before behind : List Refusal) → (false, status) ∷ rest ≡ before ++ (true, other) ∷ behind → All DoesNotHold before → IsFirst rest other
first_behind status other rest [] behind is none = let same : (false, status) ≡ (true, other) = cc in absurd (false≢true (ap holds same))
first_behind status other rest (refusal ∷ before) behind is none =
    record { before = before; behind = behind; stands = cc; none_before = All-tail DoesNotHold refusal before none }

first_further : (status other : StatusWord) (rest : List Refusal) → IsFirst rest other → IsFirst ((false, status) ∷ rest) other
first_further status other rest first = record {
  before = (false, status) ∷ first.before;
  behind = first.behind;
  stands = ap (λ (l : List Refusal). (false, status) ∷ l) first.stands;
  none_before = All-cons DoesNotHold (false, status) first.before refl first.none_before;
}

nothing_first : (status : StatusWord) (before behind : List Refusal) → [] ≡ before ++ (true, status) ∷ behind → ⊥
nothing_first status [] behind is = cc
nothing_first status (refusal ∷ before) behind is = cc

-- ---- a chain

module _ {X : Type 0} where
  abbrev IsDone : Result X StatusWord → Type 0
  IsDone result = (outcome : X) × (result ≡ Ok outcome)

  tested_done : (outcome : X) → IsTestedBy [] (Ok outcome)
  tested_done outcome = record {
    refused = λ status. (λ is. absurd (cc), λ first. absurd (nothing_first status first.before first.behind first.stands));
    carried_out = (λ is. All-nil DoesNotHold, λ none. (outcome, refl));
  }

  tested_at_head : (status : StatusWord) (rest : List Refusal) → IsTestedBy {X = X} ((true, status) ∷ rest) (Err status)
  tested_at_head status rest = record {
    refused = λ other. (
      λ is. let same : status ≡ other = cc in subst (λ (s : StatusWord). IsFirst ((true, status) ∷ rest) s) same (head_is_first status rest),
      λ first. ap (λ (s : StatusWord). Err s) (first_at_head status other rest first.before first.behind first.stands first.none_before),
    );
    carried_out = (λ is. let wrong = is.1 in absurd (cc), λ none. absurd (not_both true refl (All-head DoesNotHold (true, status) rest none)));
  }

  tested_further : (status : StatusWord) (rest : List Refusal) (next : Result X StatusWord) → IsTestedBy rest next → IsTestedBy ((false, status) ∷ rest) next
  tested_further status rest next tested = record {
    refused = λ other. (
      λ is. first_further status other rest ((tested.refused other).0 is),
      λ first. (tested.refused other).1 (first_behind status other rest first.before first.behind first.stands first.none_before),
    );
    carried_out = (
      λ is. All-cons DoesNotHold (false, status) rest refl (tested.carried_out.0 is),
      λ none. tested.carried_out.1 (All-tail DoesNotHold (false, status) rest none),
    );
  }

  tested_unless : (bad : Bool) (status : StatusWord) (rest : List Refusal) (next : Result X StatusWord) → IsTestedBy rest next → IsTestedBy ((bad, status) ∷ rest) (refused_if bad status next)
  unfolding refused_if
  tested_unless true status rest next tested = tested_at_head status rest
  tested_unless false status rest next tested = tested_further status rest next tested

  tested_given : {Y : Type 0} (o : Option Y) (status : StatusWord) (rest : List Refusal) (next : Y → Result X StatusWord) → ((y : Y) → IsTestedBy rest (next y)) → IsTestedBy ((is_none o, status) ∷ rest) (given o status next)
  unfolding given
  tested_given None status rest next tested = tested_at_head status rest
  tested_given (Some y) status rest next tested = tested_further status rest (next y) (tested y)

  -- what is there is not refused for want of it
  tested_there : {Y : Type 0} (o : Option Y) (Is : Y → Type 0) (status : StatusWord) (next : Y → Result X StatusWord) → IsSomeAnd o Is → ((y : Y) → IsTestedBy [] (next y)) → IsTestedBy [] (given o status next)
  unfolding given
  tested_there None Is status next there tested = absurd there
  tested_there (Some y) Is status next there tested = tested y

  tested_by : {Y : Type 0} (o : Option Y) (status : StatusWord) (rest : Y → List Refusal) (next : Y → Result X StatusWord) → ((y : Y) → IsTestedBy (rest y) (next y))
      → IsTestedBy ((is_none o, status) ∷ of_found o rest) (given o status next)
  unfolding given
  tested_by None status rest next tested = tested_at_head status []
  tested_by (Some y) status rest next tested = tested_further status (rest y) (next y) (tested y)

  tested_found : (o : Option Descriptor) (status : StatusWord) (rest : Descriptor → List Refusal) (next : Descriptor → Result X StatusWord) → ((file : Descriptor) → IsTestedBy (rest file) (next file))
      → IsTestedBy ((is_none o, status) ∷ of_found o rest) (and_given (given o status (λ file. Ok file)) next)
  unfolding and_given given
  tested_found None status rest next tested = tested_at_head status []
  tested_found (Some file) status rest next tested = tested_further status (rest file) (next file) (tested file)

  tested_file : (state : Persistent) (selection : Selection) (short : Option ℕ) (rest : Descriptor → List Refusal) (next : Descriptor → Result X StatusWord) → ((file : Descriptor) → IsTestedBy (rest file) (next file))
      → IsTestedBy (of_file state selection short rest) (and_given (addressed (descriptors_in state) selection short) next)
  unfolding addressed
  tested_file state selection None rest next tested = tested_found (file_meant state selection None) (without_file None) rest next tested
  tested_file state selection (Some short) rest next tested = tested_found (file_meant state selection (Some short)) (without_file (Some short)) rest next tested

  -- ---- tests before others

  past_unless : {Y : Type 0} (bad : Bool) (status : StatusWord) (rest : List Refusal) (first : Result Y StatusWord) (next : Y → Result X StatusWord) → IsTestedBy rest (and_given first next)
      → IsTestedBy ((bad, status) ∷ rest) (and_given (refused_if bad status first) next)
  unfolding refused_if and_given
  past_unless true status rest first next tested = tested_at_head status rest
  past_unless false status rest first next tested = tested_further status rest (and_given first next) tested

  past_given : {Y Z : Type 0} (o : Option Z) (status : StatusWord) (rest : List Refusal) (first : Z → Result Y StatusWord) (next : Y → Result X StatusWord) → ((z : Z) → IsTestedBy rest (and_given (first z) next))
      → IsTestedBy ((is_none o, status) ∷ rest) (and_given (given o status first) next)
  unfolding given and_given
  past_given None status rest first next tested = tested_at_head status rest
  past_given (Some z) status rest first next tested = tested_further status rest (and_given (first z) next) (tested z)

  -- what is tested before access, and what after it
  tested_before : (has_parameters has_length : Bool) (fits : Descriptor → Bool) (state : Persistent) (selection : Selection) (short : Option ℕ) (rest : Descriptor → List Refusal) (next : Descriptor → Result X StatusWord)
      → ((file : Descriptor) → IsTestedBy (rest file) (next file))
      → IsTestedBy ((not has_parameters, WRONG_PARAMETERS) ∷ (not has_length, WRONG_LENGTH) ∷ of_file state selection short (λ file. (not (fits file), WRONG_STRUCTURE) ∷ (is_deactivated file, CONDITIONS_NOT_SATISFIED) ∷ rest file))
      (and_given (record_file has_parameters has_length fits (descriptors_in state) selection short) next)
  unfolding record_file and_given
  tested_before has_parameters has_length fits state selection short rest next tested =
      let rows : Descriptor → List Refusal = λ file. (not (fits file), WRONG_STRUCTURE) ∷ (is_deactivated file, CONDITIONS_NOT_SATISFIED) ∷ rest file in
      let of_kind : Descriptor → Result Descriptor StatusWord = λ file. refused_if (not (fits file)) WRONG_STRUCTURE (refused_if (is_deactivated file) CONDITIONS_NOT_SATISFIED (Ok file)) in
      past_unless _ _ _ _ next (past_unless _ _ _ _ next (
      subst (IsTestedBy (of_file state selection short rows)) (sym (past_result (addressed (descriptors_in state) selection short) of_kind next)) (
      tested_file state selection short rows (λ file. and_given (of_kind file) next) (λ file. past_unless _ _ _ _ next (past_unless _ _ _ _ next (tested file))))))

-- ---- the commands

pub read_binary_refused : IsRefusedFor refusals_of_read_binary binary_read
unfolding binary_read binary_file record_file read_from
read_binary_refused state seen selection apdu = tested_before (has_binary_parameters apdu) (has_le_alone apdu) (λ file. file.kind == transparent_kind) state selection (short_in_p1 apdu) _ _ (λ file. tested_unless _ _ _ _ (tested_unless _ _ _ _ (tested_done _)))

pub update_binary_refused : IsRefusedFor refusals_of_update_binary binary_updated
unfolding binary_updated binary_file record_file update_in
update_binary_refused state seen selection apdu = tested_before (has_binary_parameters apdu) (has_data apdu) (λ file. file.kind == transparent_kind) state selection (short_in_p1 apdu) _ _ (λ file. tested_unless _ _ _ _ (tested_unless _ _ _ _ (tested_done _)))

pub read_record_refused : IsRefusedFor refusals_of_read_record record_read
unfolding record_read record_read_from number_to_read and_given
read_record_refused state seen selection apdu =
    tested_before (has_record_parameters apdu) (has_le_alone apdu) (λ file. has_records file.kind) state selection (short_in_p2 apdu) _ _ (λ file. tested_unless _ _ _ _ (past_given _ _ _ _ _ (λ number. past_unless _ _ _ _ _ (tested_done _))))

pub update_record_refused : IsRefusedFor refusals_of_update_record record_updated
unfolding record_updated record_update_in number_to_update and_given
update_record_refused state seen selection apdu =
    tested_before (has_record_parameters apdu) (has_data apdu) (λ file. may_be_updated file apdu) state selection (short_in_p2 apdu) _ _ (λ file. tested_unless _ _ _ _ (past_given _ _ _ _ _ (λ number. past_unless _ _ _ _ _ (tested_done _))))

pub search_record_refused : IsRefusedFor refusals_of_search_record searched
unfolding searched search_in number_to_search and_given
search_record_refused state seen selection apdu =
    tested_before (has_search_parameters apdu) (has_data apdu) (λ file. has_records file.kind) state selection (short_in_p2 apdu) _ _ (λ file. tested_unless _ _ _ _ (past_given _ _ _ _ _ (λ from. past_unless _ _ _ _ _ (tested_done _))))

pub increase_refused : IsRefusedFor refusals_of_increase increased
unfolding increased increase_in sum_to_write and_given
increase_refused state seen selection apdu =
    tested_before (has_increase_parameters apdu) (has_increase_length apdu) may_be_increased state selection (short_to_increase apdu) _ _ (λ file. tested_unless _ _ _ _ (past_unless _ _ _ _ _ (past_unless _ _ _ _ _ (tested_done _))))

pub select_refused : IsRefusedFor refusals_of_select (λ state seen. file_selected state)
unfolding file_selected
select_refused state seen selection apdu = tested_unless _ _ _ _ (tested_unless _ _ _ _ (tested_given _ _ _ _ (λ file. tested_done _)))

pub status_refused : IsRefusedFor (λ state seen selection apdu. refusals_of_status state seen selection apdu ++ without_current_df state selection) (λ state seen. status_told state)
unfolding status_told
status_refused state seen selection apdu = tested_unless _ _ _ _ (tested_unless _ _ _ _ (tested_given _ _ _ _ (λ df. tested_done _)))

-- STATUS where the current DF is there
pub status_tested : (state : Persistent) (seen : Verified) (selection : Selection) (apdu : Apdu) → IsSelection (descriptors_in state) selection → IsTestedBy (refusals_of_status state seen selection apdu) (status_told state selection apdu)
unfolding status_told
status_tested state seen selection apdu lawful = tested_unless _ _ _ _ (tested_unless _ _ _ _ (tested_there _ _ _ _ lawful.df (λ df. tested_done _)))

life_refused : (op : Op) (life : ℕ) → IsRefusedFor (refusals_of_life_cycle op) (life_changed op life)
unfolding life_changed life_file life_in
life_refused op life state seen selection apdu =
    past_unless _ _ _ _ _ (past_unless _ _ _ _ _ (tested_file state selection None _ _ (λ file. tested_unless _ _ _ _ (tested_done _))))

pub deactivate_refused : IsRefusedFor (refusals_of_life_cycle Deactivate) file_deactivated
deactivate_refused = life_refused Deactivate deactivated

pub activate_refused : IsRefusedFor (refusals_of_life_cycle Activate) file_activated
activate_refused = life_refused Activate activated

pub create_refused : IsTreeRefusedFor refusals_of_create created
unfolding created
create_refused state seen channels channel apdu =
    tested_unless _ _ _ _ (tested_unless _ _ _ _ (tested_unless _ _ _ _ (tested_by _ _ _ _ (λ asked. tested_unless _ _ _ _ (tested_given _ _ _ _ (λ file. tested_done _))))))

pub delete_refused : IsTreeRefusedFor refusals_of_delete deleted
unfolding deleted
delete_refused state seen channels channel apdu =
    tested_unless _ _ _ _ (tested_unless _ _ _ _ (tested_by _ _ _ _ (λ file. tested_unless _ _ _ _ (tested_unless _ _ _ _ (tested_done _)))))

pub resize_refused : IsTreeRefusedFor refusals_of_resize resized
unfolding resized
resize_refused state seen channels channel apdu =
    tested_unless _ _ _ _ (tested_unless _ _ _ _ (tested_by _ _ _ _ (λ file.
    tested_unless _ _ _ _ (tested_unless _ _ _ _ (tested_unless _ _ _ _ (tested_unless _ _ _ _ (tested_unless _ _ _ _ (tested_done _))))))))

-- ---- what is carried out was asked for with ADM1

pub create_by_adm : IsDoneByAdm created
unfolding created
create_by_adm state seen channels channel apdu outcome is =
    let a = unless_ok _ _ _ outcome is in
    let b = unless_ok _ _ _ outcome a.1 in
    not-false seen.adm1 (unless_ok _ _ _ outcome b.1).0

pub delete_by_adm : IsDoneByAdm deleted
unfolding deleted
delete_by_adm state seen channels channel apdu outcome is =
    let a = unless_ok _ _ _ outcome is in
    let b = unless_ok _ _ _ outcome a.1 in
    not-false seen.adm1 (unless_ok _ _ _ outcome (given_met _ _ _ outcome b.1).2).0

pub resize_by_adm : IsDoneByAdm resized
unfolding resized
resize_by_adm state seen channels channel apdu outcome is =
    let a = unless_ok _ _ _ outcome is in
    let b = unless_ok _ _ _ outcome a.1 in
    let c = unless_ok _ _ _ outcome (given_met _ _ _ outcome b.1).2 in
    let d = unless_ok _ _ _ outcome c.1 in
    not-false seen.adm1 (unless_ok _ _ _ outcome d.1).0

-- ---- what is carried out was admitted

abbrev HasLife : Descriptor → Type 0
HasLife file = (file.life ≡ deactivated) ⊎ (file.life ≡ activated)

life_by : {wide : Bool} (file : File) → (IsDf file → IsSoundDf file) → (IsEf file → IsSoundEf wide file) → IsDf file ⊎ IsEf file → (file.life ≡ deactivated) ⊎ (file.life ≡ activated)
life_by file df ef (inl is) = inr (df is).life
life_by file df ef (inr is) = (ef is).life

life_of : (wide : Bool) (files : List File) (file : File) → IsSoundFile wide files file → HasLife (descriptor_in file)
unfolding descriptor_in
life_of wide files file sound = life_by file sound.df sound.ef sound.kind

lives_of : (state : Persistent) → IsSound state → All HasLife (descriptors_in state)
unfolding descriptors_in
lives_of state sound = All-map HasLife descriptor_in state.files (All-weaker (IsSoundFile state.is_wide state.files) (λ file. HasLife (descriptor_in file)) (life_of state.is_wide state.files) state.files sound.files)

found_lives : (state : Persistent) → IsSound state → (wanted : Wanted) (file : Descriptor) → file_found (descriptors_in state) wanted ≡ Some file → HasLife file
unfolding file_found
found_lives state sound wanted file is = All-contains HasLife (descriptors_in state) file (lives_of state sound) (find_Some (is_wanted wanted) (descriptors_in state) file is).0

current_lives : (state : Persistent) → IsSound state → (selection : Selection) (ef : Option ℕ) → ef ≡ selection.ef → (file : Descriptor) → current_ef (descriptors_in state) (record selection { ef = ef }) ≡ Some file → HasLife file
current_lives state sound selection None same file is = absurd (cc)
current_lives state sound selection (Some number) same file is = found_lives state sound (Number number) file is

meant_lives : (state : Persistent) → IsSound state → (selection : Selection) (short : Option ℕ) (file : Descriptor) → file_meant state selection short ≡ Some file → HasLife file
meant_lives state sound selection None file is = current_lives state sound selection selection.ef refl file is
meant_lives state sound selection (Some short) file is = found_lives state sound (Short selection.df short) file is

active : (file : Descriptor) → is_deactivated file ≡ false → HasLife file → file.life ≡ activated
active file isnt (inl is) = absurd (not_both (is_deactivated file) (eq-eqb file.life deactivated is) isnt)
active file isnt (inr is) = is

module _ (state : Persistent) (sound : IsSound state) (selection : Selection) (short : Option ℕ) where
  -- the form that the lists of all these commands have
  admitted_file : (grants : Descriptor → Bool) (structure : Descriptor → Refusal) (others : Descriptor → List Refusal) (o : Option Descriptor) → o ≡ file_meant state selection short
      → All DoesNotHold ((is_none o, without_file short) ∷ of_found o (λ file. structure file ∷ (is_deactivated file, CONDITIONS_NOT_SATISFIED) ∷ (not (grants file), SECURITY_NOT_SATISFIED) ∷ others file))
      → (file : Descriptor) × (file_meant state selection short ≡ Some file) × (file.life ≡ activated) × (grants file ≡ true)
  admitted_file grants structure others None same none = absurd (not_both true refl (All-head DoesNotHold (true, without_file short) [] none))
  admitted_file grants structure others (Some file) same none =
      let of_file = All-tail DoesNotHold (false, without_file short) (structure file ∷ (is_deactivated file, CONDITIONS_NOT_SATISFIED) ∷ (not (grants file), SECURITY_NOT_SATISFIED) ∷ others file) none in
      let quiet = All-tail DoesNotHold (structure file) ((is_deactivated file, CONDITIONS_NOT_SATISFIED) ∷ (not (grants file), SECURITY_NOT_SATISFIED) ∷ others file) of_file in
      let secure = All-tail DoesNotHold (is_deactivated file, CONDITIONS_NOT_SATISFIED) ((not (grants file), SECURITY_NOT_SATISFIED) ∷ others file) quiet in
      let isnt : is_deactivated file ≡ false = All-head DoesNotHold (is_deactivated file, CONDITIONS_NOT_SATISFIED) ((not (grants file), SECURITY_NOT_SATISFIED) ∷ others file) quiet in
      let allowed : not (grants file) ≡ false = All-head DoesNotHold (not (grants file), SECURITY_NOT_SATISFIED) (others file) secure in
      (file, sym same, active file isnt (meant_lives state sound selection short file (sym same)), not-false (grants file) allowed)

  admitted_by : (grants : Descriptor → Bool) (parameters length : Refusal) (structure : Descriptor → Refusal) (others : Descriptor → List Refusal)
      → All DoesNotHold (parameters ∷ length ∷ of_file state selection short (λ file. structure file ∷ (is_deactivated file, CONDITIONS_NOT_SATISFIED) ∷ (not (grants file), SECURITY_NOT_SATISFIED) ∷ others file))
      → (file : Descriptor) × (file_meant state selection short ≡ Some file) × (file.life ≡ activated) × (grants file ≡ true)
  admitted_by grants parameters length structure others none =
      let rows : List Refusal = of_file state selection short (λ file. structure file ∷ (is_deactivated file, CONDITIONS_NOT_SATISFIED) ∷ (not (grants file), SECURITY_NOT_SATISFIED) ∷ others file) in
      admitted_file grants structure others (file_meant state selection short) refl (All-tail DoesNotHold length rows (All-tail DoesNotHold parameters (length ∷ rows) none))

abbrev admitted : (state : Persistent) (seen : Verified) (selection : Selection) (short : Option ℕ) (op : Op)
    → ((file : Descriptor) × (file_meant state selection short ≡ Some file) × (file.life ≡ activated) × (may state op seen file ≡ true)) → IsAdmitted state seen selection short op
admitted state seen selection short op by = record { file = by.0; there = by.1; life = by.2; granted = by.3 }

pub read_binary_by_leave : IsDoneByLeave ReadBinary short_in_p1 binary_read
read_binary_by_leave state seen selection apdu outcome sound is =
    admitted state seen selection (short_in_p1 apdu) ReadBinary (admitted_by state sound selection (short_in_p1 apdu) (may state ReadBinary seen) _ _ _ _ ((read_binary_refused state seen selection apdu).carried_out.0 (outcome, is)))

pub update_binary_by_leave : IsDoneByLeave UpdateBinary short_in_p1 binary_updated
update_binary_by_leave state seen selection apdu outcome sound is =
    admitted state seen selection (short_in_p1 apdu) UpdateBinary (admitted_by state sound selection (short_in_p1 apdu) (may state UpdateBinary seen) _ _ _ _ ((update_binary_refused state seen selection apdu).carried_out.0 (outcome, is)))

pub read_record_by_leave : IsDoneByLeave ReadRecord short_in_p2 record_read
read_record_by_leave state seen selection apdu outcome sound is =
    admitted state seen selection (short_in_p2 apdu) ReadRecord (admitted_by state sound selection (short_in_p2 apdu) (may state ReadRecord seen) _ _ _ _ ((read_record_refused state seen selection apdu).carried_out.0 (outcome, is)))

pub update_record_by_leave : IsDoneByLeave UpdateRecord short_in_p2 record_updated
update_record_by_leave state seen selection apdu outcome sound is =
    admitted state seen selection (short_in_p2 apdu) UpdateRecord (admitted_by state sound selection (short_in_p2 apdu) (may state UpdateRecord seen) _ _ _ _ ((update_record_refused state seen selection apdu).carried_out.0 (outcome, is)))

pub search_record_by_leave : IsDoneByLeave Search short_in_p2 searched
search_record_by_leave state seen selection apdu outcome sound is =
    admitted state seen selection (short_in_p2 apdu) Search (admitted_by state sound selection (short_in_p2 apdu) (may state Search seen) _ _ _ _ ((search_record_refused state seen selection apdu).carried_out.0 (outcome, is)))

pub increase_by_leave : IsDoneByLeave Increase short_to_increase increased
increase_by_leave state seen selection apdu outcome sound is =
    admitted state seen selection (short_to_increase apdu) Increase (admitted_by state sound selection (short_to_increase apdu) (may state Increase seen) _ _ _ _ ((increase_refused state seen selection apdu).carried_out.0 (outcome, is)))

-- ---- what is carried out on a life cycle was granted

module _ (state : Persistent) (seen : Verified) (selection : Selection) (op : Op) where
  abbrev forbids : Descriptor → List Refusal
  forbids file = (not (may state op seen file), SECURITY_NOT_SATISFIED) ∷ []

  granted_file : (o : Option Descriptor) → o ≡ file_meant state selection None → All DoesNotHold ((is_none o, without_file None) ∷ of_found o forbids) → IsGranted state seen selection op
  granted_file None same none = absurd (not_both true refl (All-head DoesNotHold (true, without_file None) [] none))
  granted_file (Some file) same none = record {
    file = file;
    there = sym same;
    granted = not-false (may state op seen file) (All-head DoesNotHold (not (may state op seen file), SECURITY_NOT_SATISFIED) [] (All-tail DoesNotHold (false, without_file None) (forbids file) none));
  }

  granted_by : (parameters length : Refusal) → All DoesNotHold (parameters ∷ length ∷ of_file state selection None forbids) → IsGranted state seen selection op
  granted_by parameters length none =
      let rows : List Refusal = of_file state selection None forbids in
      granted_file (file_meant state selection None) refl (All-tail DoesNotHold length rows (All-tail DoesNotHold parameters (length ∷ rows) none))

life_by_rule : (op : Op) (life : ℕ) → IsDoneByRule op (life_changed op life)
life_by_rule op life state seen selection apdu outcome is =
    granted_by state seen selection op (not (has_no_parameters apdu), WRONG_PARAMETERS) (not (has_no_data apdu), WRONG_LENGTH) ((life_refused op life state seen selection apdu).carried_out.0 (outcome, is))

pub deactivate_by_rule : IsDoneByRule Deactivate file_deactivated
deactivate_by_rule = life_by_rule Deactivate deactivated

pub activate_by_rule : IsDoneByRule Activate file_activated
activate_by_rule = life_by_rule Activate activated
