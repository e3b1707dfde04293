-- No answer tells of a failing memory.
use Rattle.std.proofs.Common.{◌≡◌, ℕ, ◌+◌, Bool, true, false, List, Option, Some, None, refl, sym, ◌∙◌, ap, arith, inl, inr, ◌==◌, ◌≢◌, not, if◌then◌else◌, Result, Ok, Err, Contains, MatchResult}
use Rattle.std.specs.Prelude.{⊤}
use Rattle.std.specs.List.{list_all}
use Rattle.std.proofs.lemmas.Bool.{false≢true, not-true}
use Rattle.uicc_types.specs.declared.answers.StatusWord.{StatusWord}
use Rattle.uicc_types.specs.declared.answers.TheConstants.StatusWord.{DONE, MEMORY_PROBLEM, WRONG_LENGTH, WRONG_PARAMETERS, WRONG_DATA, NO_ROOM, TOOLKIT_BUSY, CONDITIONS_NOT_SATISFIED, SECURITY_NOT_SATISFIED, REFERENCE_NOT_FOUND}
use Rattle.apdu_form.specs.Model.{Apdu}
use Rattle.card_state.specs.Persistent.{Registration}
use Rattle.access_rules.specs.declared.rules.Verified.{Verified}
use Rattle.file_model.specs.Chains.{refused_if, given, and_given}
use Rattle.file_model.specs.Records.{other_length}
use Rattle.file_model.proofs.ChainsLemmas.{unless_so, given_so}
use Rattle.toolkit_model.specs.declared.faults.RowFault.{RowFault}
use Rattle.toolkit_model.specs.declared.faults.RowFault.TheVariants.{BadData, NoBox, Narrow, Taken, MenuFull, Spent, NoRow, NotIdle}
use Rattle.card_model.specs.Answers.{Answered, toolkit_tried, settled, told_pending, with_pending, event_told}
use Rattle.card_model.specs.Laws.{IsKnownStatus, IsStatusOf, IsLawfulAnswer, statuses, tree_statuses}
use Rattle.card_model.proofs.RowNamedLemmas.{all_hold}
use Rattle.card_model.specs.States.{CardState}
use Rattle.card_model.specs.Toolkit.{ToolkitOutcome, profile_taken, command_fetched, response_taken, envelope_taken, row_or_status, applet_installed, applet_deleted, toolkit_outcome}
use Rattle.card_model.specs.declared.instructions.CatCommand.{CatCommand}
use Rattle.card_model.specs.declared.instructions.CatCommand.TheVariants.{TerminalProfile, Fetch, TerminalResponse, Envelope, InstallApplet, DeleteApplet}

-- ---- statuses

abbrev pub IsUsual : StatusWord → Type 0
IsUsual status = status ≢ MEMORY_PROBLEM

-- another word than 6581
pub other : (status : StatusWord) → (status.0 == 0x6581) ≡ false → IsUsual status
other status differs same = absurd (false≢true (sym differs ∙ ap (λ (word : StatusWord). word.0 == 0x6581) same))

word_of : (a b : StatusWord) → a ≡ b → a.0 ≡ b.0
word_of a b same = ap (λ (word : StatusWord). word.0) same

all_usual : (xs : List StatusWord) → list_all (λ word. not (word.0 == 0x6581)) xs ≡ true → (status : StatusWord) → Contains xs status → IsUsual status
all_usual xs all status there = other status (not-true (status.0 == 0x6581) (all_hold (λ word. not (word.0 == 0x6581)) xs all status there))

pub not_listed : (status : StatusWord) → Contains statuses status → status ≢ MEMORY_PROBLEM
not_listed = all_usual statuses refl

not_failing : (status : StatusWord) → IsKnownStatus status → status ≢ MEMORY_PROBLEM
not_failing status (inl there) same = not_listed status there same
not_failing status (inr (inl (width, low, is))) same = absurd (let word = word_of _ _ (sym is ∙ same) in omega (arith, low, word))
not_failing status (inr (inr (inl (tries, low, is)))) same = absurd (let word = word_of _ _ (sym is ∙ same) in omega (arith, low, word))
not_failing status (inr (inr (inr (count, low, is)))) same = absurd (let word = word_of _ _ (sym is ∙ same) in omega (arith, low, word))

pub never_failing : (of_tree : Bool) (status : StatusWord) → IsStatusOf of_tree status → status ≢ MEMORY_PROBLEM
never_failing of_tree status (inl known) same = not_failing status known same
never_failing of_tree status (inr (is, there)) same = all_usual tree_statuses refl status there same

length_usual : (count : ℕ) → IsUsual (other_length count)
length_usual count same = absurd (let word = word_of _ _ same in omega (arith, word))

-- ---- chains of tests

abbrev Usual : {X : Type 0} → Result X StatusWord → Type 0
Usual result = MatchResult result (λ done. ⊤) IsUsual

past : {X : Type 0} (bad : Bool) (status : StatusWord) (next : Result X StatusWord) → IsUsual status → Usual next → Usual (refused_if bad status next)
past bad status next usual rest = unless_so (λ done. ⊤) IsUsual bad status next usual (λ _. rest)

past_given : {X Y : Type 0} (found : Option X) (status : StatusWord) (next : X → Result Y StatusWord) → IsUsual status → ((x : X) → Usual (next x)) → Usual (given found status next)
past_given found status next usual rest = given_so (λ done. ⊤) IsUsual found status next usual (λ x _. rest x)

past_result : {X Y : Type 0} (found : Result X StatusWord) (next : X → Result Y StatusWord) → Usual found → ((x : X) → Usual (next x)) → Usual (and_given found next)
unfolding and_given
past_result (Err status) next usual rest = usual
past_result (Ok x) next usual rest = rest x

-- ---- commands of the toolkit

row_usual : (found : Result Registration RowFault) → Usual (row_or_status found)
row_usual (Ok row) = tt
row_usual (Err BadData) = other WRONG_DATA refl
row_usual (Err NoBox) = other REFERENCE_NOT_FOUND refl
row_usual (Err Narrow) = other NO_ROOM refl
row_usual (Err Taken) = other CONDITIONS_NOT_SATISFIED refl
row_usual (Err MenuFull) = other NO_ROOM refl
row_usual (Err Spent) = other NO_ROOM refl
row_usual (Err NoRow) = other REFERENCE_NOT_FOUND refl
row_usual (Err NotIdle) = other CONDITIONS_NOT_SATISFIED refl

pub outcome_usual : (command : CatCommand) (card : CardState) (seen : Verified) (apdu : Apdu) → Usual (toolkit_outcome command card seen apdu)
unfolding toolkit_outcome profile_taken command_fetched response_taken envelope_taken applet_installed applet_deleted
outcome_usual TerminalProfile card seen apdu = past _ _ _ (other WRONG_PARAMETERS refl) (past _ _ _ (other WRONG_LENGTH refl) tt)
outcome_usual Fetch card seen apdu =
    past _ _ _ (other WRONG_PARAMETERS refl) (past _ _ _ (other WRONG_LENGTH refl) (
    past_given _ _ _ (other CONDITIONS_NOT_SATISFIED refl) (λ out. past _ _ _ (length_usual _) tt)))
outcome_usual TerminalResponse card seen apdu =
    past _ _ _ (other WRONG_PARAMETERS refl) (past _ _ _ (other WRONG_LENGTH refl) (
    past_given _ _ _ (other CONDITIONS_NOT_SATISFIED refl) (λ out. past_given _ _ _ (other WRONG_DATA refl) (λ reply. tt))))
outcome_usual Envelope card seen apdu =
    past _ _ _ (other WRONG_PARAMETERS refl) (past _ _ _ (other WRONG_LENGTH refl) (
    past_given _ _ _ (other WRONG_DATA refl) (λ envelope. past _ _ _ (other TOOLKIT_BUSY refl) tt)))
outcome_usual InstallApplet card seen apdu =
    past _ _ _ (other WRONG_PARAMETERS refl) (past _ _ _ (other WRONG_LENGTH refl) (
    past _ _ _ (other SECURITY_NOT_SATISFIED refl) (past_result _ _ (row_usual _) (λ row. tt))))
outcome_usual DeleteApplet card seen apdu =
    past _ _ _ (other WRONG_PARAMETERS refl) (past _ _ _ (other WRONG_LENGTH refl) (
    past _ _ _ (other SECURITY_NOT_SATISFIED refl) (past_result _ _ (row_usual _) (λ row. tt))))

-- ---- answers

abbrev pub NeverFails : Result Answered StatusWord → Type 0
NeverFails result = MatchResult result (λ answered. IsUsual answered.status) IsUsual

pub toolkit_usual : (card : CardState) (outcome : Result ToolkitOutcome StatusWord) → Usual outcome → NeverFails (toolkit_tried card outcome)
unfolding and_given
toolkit_usual card (Err status) usual = usual
toolkit_usual card (Ok done) usual = other DONE refl

pub lawful_usual : (card : CardState) (of_tree : Bool) (key : ℕ) (result : Result Answered StatusWord) → MatchResult result (IsLawfulAnswer card of_tree key) (IsStatusOf of_tree) → NeverFails result
lawful_usual card of_tree key (Err status) known = never_failing of_tree status known
lawful_usual card of_tree key (Ok answered) lawful = never_failing of_tree answered.status lawful.status

-- an event has no status of its own
pub event_usual : (is_event : Bool) (result : Result Answered StatusWord) → NeverFails result → NeverFails (and_given result (λ answered. Ok (event_told is_event answered)))
unfolding and_given
event_usual is_event (Err status) usual = usual
event_usual true (Ok answered) usual = usual
event_usual false (Ok answered) usual = usual

told_usual : (count : Option ℕ) (status : StatusWord) → IsUsual status → IsUsual (told_pending count status)
told_usual None status usual = usual
told_usual (Some count) status usual = by_done (status.0 == DONE.0) where
  by_done : (b : Bool) → IsUsual (if b then record { 0 = 0x9100 + count } else status)
  by_done true same = absurd (let word = word_of _ _ same in omega (arith, word))
  by_done false same = usual same

pub pending_usual : (card : CardState) (result : Result Answered StatusWord) → NeverFails result → IsUsual (with_pending (settled card result)).status
pending_usual card (Err status) usual = told_usual _ status usual
pending_usual card (Ok answered) usual = told_usual _ answered.status usual
