-- With which statuses commands of the toolkit are refused, and how many bytes they are answered with.
use Rattle.std.proofs.Common.{◌≡◌, inl, inr, ◌≤◌, Bool, true, false, [], length, Option, Some, None, Result, Ok, Err, refl, subst, arith, Contains, IfSome, MatchResult, option_map, if◌then◌else◌}
use Rattle.std.specs.Prelude.{⊤}
use Rattle.std.proofs.lemmas.Bool.{false≢true}
use Rattle.uicc_types.specs.declared.answers.StatusWord.{StatusWord}
use Rattle.apdu_form.specs.Model.{Apdu}
use Rattle.card_state.specs.Persistent.{Registration}
use Rattle.access_rules.specs.declared.rules.Verified.{Verified}
use Rattle.file_model.specs.Chains.{refused_if, and_given}
use Rattle.file_model.proofs.ChainsLemmas.{unless_so, given_so, and_given_so}
use Rattle.toolkit_model.specs.declared.faults.RowFault.{RowFault}
use Rattle.toolkit_model.specs.declared.faults.RowFault.TheVariants.{BadData, NoBox, Narrow, Taken, MenuFull, Spent, NoRow, NotIdle}
use Rattle.toolkit_model.specs.Sessions.{Outstanding, SessionState}
use Rattle.toolkit_model.specs.Orderly.{CanBeSent}
use Rattle.toolkit_model.specs.Commands.{unfetched, command_bytes, call_data_of}
use Rattle.card_model.specs.Laws.{statuses}
use Rattle.card_model.proofs.ToldPendingLemmas.{pending_few}
use Rattle.card_model.specs.States.{CardState, IsGood}
use Rattle.card_model.specs.Toolkit.{ToolkitOutcome, row_or_status, profile_taken, command_fetched, response_taken, envelope_taken, applet_installed, applet_deleted, toolkit_outcome}
use Rattle.card_model.specs.declared.instructions.CatCommand.{CatCommand}
use Rattle.card_model.specs.declared.instructions.CatCommand.TheVariants.{TerminalProfile, Fetch, TerminalResponse, Envelope, InstallApplet, DeleteApplet}
use Rattle.card_laws.specs.Lawful.{IsStatus}

-- ---- statuses

pub known_at : (status : StatusWord) → Contains statuses status → IsStatus false status
known_at status there = inl (inl (inl there))

-- a command that makes, deletes or resizes files may have any of these
pub any_status : (of_tree : Bool) (status : StatusWord) → IsStatus false status → IsStatus of_tree status
any_status of_tree status (inl (inl known)) = inl (inl known)
any_status of_tree status (inl (inr tree)) = absurd (false≢true tree.0)
any_status of_tree status (inr there) = inr there

row_known : (found : Result Registration RowFault) → MatchResult (row_or_status found) (λ row. ⊤) (IsStatus false)
row_known (Ok row) = tt
row_known (Err BadData) = inr (0, omega arith, refl)
row_known (Err NoBox) = known_at _ (16, omega arith, refl)
row_known (Err Narrow) = inr (1, omega arith, refl)
row_known (Err Taken) = known_at _ (10, omega arith, refl)
row_known (Err MenuFull) = inr (1, omega arith, refl)
row_known (Err Spent) = inr (1, omega arith, refl)
row_known (Err NoRow) = known_at _ (16, omega arith, refl)
row_known (Err NotIdle) = known_at _ (10, omega arith, refl)

-- ---- the data of an answer

call_few : (is_call : Bool) (answer : Option Bool) → length (if is_call then call_data_of answer else []) ≤ 256
call_few true None = omega arith
call_few true (Some true) = omega arith
call_few true (Some false) = omega arith
call_few false answer = omega arith

-- a command that is fetched has 255 bytes at most
pub few_fetched : (session : SessionState) (out : Outstanding) → IfSome session.out (λ each. CanBeSent each.command) → unfetched session ≡ Some out → length (command_bytes out) ≤ 255
few_fetched session out sent is =
    subst (λ found. IfSome (option_map (λ (each : Outstanding). length (command_bytes each)) found) (λ count. count ≤ 255)) is (pending_few session sent)

-- ---- the commands

abbrev pub IsShort : ToolkitOutcome → Type 0
IsShort outcome = length outcome.body ≤ 256

module _ (card : CardState) (good : IsGood card) (apdu : Apdu) where
  abbrev Tells : Result ToolkitOutcome StatusWord → Type 0
  Tells result = MatchResult result IsShort (IsStatus false)

  past : (bad : Bool) (status : StatusWord) (next : Result ToolkitOutcome StatusWord) → IsStatus false status → Tells next → Tells (refused_if bad status next)
  past bad status next known rest = unless_so IsShort (IsStatus false) bad status next known (λ _. rest)

  row_so : (found : Result Registration RowFault) (next : Registration → Result ToolkitOutcome StatusWord) → ((row : Registration) → Tells (next row)) → Tells (and_given (row_or_status found) next)
  row_so found next rest = and_given_so (λ row. ⊤) IsShort (IsStatus false) (row_or_status found) next (row_known found) (λ row _. rest row)

  pub outcome_short : (command : CatCommand) (seen : Verified) → Tells (toolkit_outcome command card seen apdu)
  unfolding toolkit_outcome profile_taken command_fetched response_taken envelope_taken applet_installed applet_deleted
  outcome_short TerminalProfile seen = past _ _ _ (known_at _ (15, omega arith, refl)) (past _ _ _ (known_at _ (3, omega arith, refl)) (omega arith))
  outcome_short Fetch seen =
      past _ _ _ (known_at _ (15, omega arith, refl)) (past _ _ _ (known_at _ (3, omega arith, refl)) (
      given_so IsShort (IsStatus false) (unfetched card.session) _ _ (known_at _ (10, omega arith, refl)) (λ out is.
      let few : length (command_bytes out) ≤ 255 = few_fetched card.session out good.session.underway.out_sendable is in
      past _ _ _ (inl (inl (inr (inl (length (command_bytes out), few, refl))))) (omega (arith, few)))))
  outcome_short TerminalResponse seen =
      past _ _ _ (known_at _ (15, omega arith, refl)) (past _ _ _ (known_at _ (3, omega arith, refl)) (
      given_so IsShort (IsStatus false) _ _ _ (known_at _ (10, omega arith, refl)) (λ out _. given_so IsShort (IsStatus false) _ _ _ (inr (0, omega arith, refl)) (λ reply _. omega arith))))
  outcome_short Envelope seen =
      past _ _ _ (known_at _ (15, omega arith, refl)) (past _ _ _ (known_at _ (3, omega arith, refl)) (
      given_so IsShort (IsStatus false) _ _ _ (inr (0, omega arith, refl)) (λ envelope _. past _ _ _ (inr (2, omega arith, refl)) (call_few _ _))))
  outcome_short InstallApplet seen =
      past _ _ _ (known_at _ (15, omega arith, refl)) (past _ _ _ (known_at _ (3, omega arith, refl)) (past _ _ _ (known_at _ (7, omega arith, refl)) (row_so _ _ (λ row. omega arith))))
  outcome_short DeleteApplet seen =
      past _ _ _ (known_at _ (15, omega arith, refl)) (past _ _ _ (known_at _ (3, omega arith, refl)) (past _ _ _ (known_at _ (7, omega arith, refl)) (row_so _ _ (λ row. omega arith))))
