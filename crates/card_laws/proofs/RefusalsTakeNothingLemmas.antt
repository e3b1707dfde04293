-- A command that is refused is no command of the toolkit that was taken.
use Rattle.std.proofs.Common.{◌≡◌, ℕ, ◌≤◌, Bool, true, false, List, Option, Some, None, refl, ◌∙◌, ap, if◌then◌else◌, IfSome}
use Rattle.uicc_types.specs.declared.answers.StatusWord.{StatusWord}
use Rattle.uicc_types.specs.declared.answers.TheConstants.StatusWord.{DONE}
use Rattle.toolkit_model.specs.Commands.{pending}
use Rattle.toolkit_model.specs.Steps.{ToolkitInput}
use Rattle.toolkit_model.specs.Installing.{InstallationsAreAccepted}
use Rattle.toolkit_model.specs.Sound.{InstalledRowsAreSound}
use Rattle.card_model.specs.Answers.{Answered, told_pending, with_pending, settled, tried, answer_of, is_carried_out, refusal}
use Rattle.card_model.specs.Instructions.{has_toolkit}
use Rattle.card_model.proofs.ToldPendingLemmas.{pending_few, told_done}
use Rattle.card_model.specs.States.{CardState}
use Rattle.card_model.specs.declared.instructions.Instruction.{Instruction}
use Rattle.card_laws.specs.Moving.{taken, HasOrder, Answers}
use Rattle.card_laws.proofs.GoesOnLemmas.{Goes, tried_goes, StaysInOrder, StepGoes, event_goes}

-- ---- refusals

if_done : (done : Bool) (word status : StatusWord) (P : Type 0) → done ≡ true → (if done then None else Some word) ≡ Some status → P
if_done true word status P is refused = absurd (cc)
if_done false word status P is refused = absurd (cc)

none_taken : (command : Option ToolkitInput) (answered : Answered) (status : StatusWord) → IfSome command (λ each. answered.status ≡ DONE) → IfSome (pending answered.state.session) (λ count. count ≤ 255)
    → (if is_carried_out (with_pending answered).status then None else Some (with_pending answered).status) ≡ Some status → command ≡ None
none_taken None answered status done few refused = refl
none_taken (Some command) answered status done few refused =
    let count : Option ℕ = pending answered.state.session in
    let carried : is_carried_out (told_pending count answered.status) ≡ true = ap (λ (word : StatusWord). is_carried_out (told_pending count word)) done ∙ told_done count few in
    if_done (is_carried_out (told_pending count answered.status)) (told_pending count answered.status) status (Some command ≡ None) carried refused

pub refusals_take_nothing : InstallationsAreAccepted → InstalledRowsAreSound → StaysInOrder → (knows : Instruction → Bool) (card : CardState) (bytes : List ℕ) (status : StatusWord) → has_toolkit knows ≡ true → HasOrder card
    → refusal knows card bytes ≡ Some status → taken knows card bytes ≡ None
unfolding refusal answer_of
refusals_take_nothing installs sounds stays knows card bytes status runs ready refused =
    let goes : Goes (taken knows card bytes) card (settled card (tried knows card bytes)) = tried_goes installs sounds knows runs card ready bytes in
    let after : StepGoes (taken knows card bytes) card (answer_of knows card bytes).state = event_goes installs sounds stays knows runs card ready (Answers bytes) tt in
    none_taken (taken knows card bytes) (settled card (tried knows card bytes)) status goes.done (pending_few (answer_of knows card bytes).state.session after.order.order.session.underway.out_sendable) refused
