-- How long a handset has to answer a command that it fetched (ETSI TS 102 221, 11.2.4).
use Rattle.std.specs.Prelude.{◌≡◌, Bool, true, List, ℕ, Option, Some, None, ⊤}
use Rattle.toolkit_model.specs.Commands.{unanswered}
use Rattle.toolkit_model.specs.Steps.{ToolkitInput, Fetch, Respond, Wake}
use Rattle.card_model.specs.Answers.{answer_of}
use Rattle.card_model.specs.Instructions.{has_toolkit}
use Rattle.card_model.specs.States.{CardState}
use Rattle.card_model.specs.declared.instructions.Instruction.{Instruction}
use Rattle.card_laws.specs.Moving.{HasOrder, taken}

-- neither a FETCH, nor an accepted response, nor a wake
abbrev pub LeavesUnanswered : Option ToolkitInput → Type 0
LeavesUnanswered None = ⊤
LeavesUnanswered (Some (Fetch out)) = ⊥
LeavesUnanswered (Some (Respond out reply)) = ⊥
LeavesUnanswered (Some (Wake rows minds)) = ⊥
LeavesUnanswered (Some command) = ⊤

-- after any other command the handset has to answer the command that it had to answer before, or none where there was none
abbrev pub OthersLeaveUnanswered : Type 0
OthersLeaveUnanswered =
    (knows : Instruction → Bool) (card : CardState) (bytes : List ℕ) → has_toolkit knows ≡ true → HasOrder card → LeavesUnanswered (taken knows card bytes)
    → unanswered (answer_of knows card bytes).state.session ≡ unanswered card.session
