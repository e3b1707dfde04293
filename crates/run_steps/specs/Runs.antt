-- What a trace shows of a run.
use Rattle.std.specs.List.{flat_map}
use Rattle.std.specs.Prelude.{ℕ, Bool, true, false, not, ◌==◌, List, [], ◌∷◌}
use Rattle.uicc_types.specs.declared.answers.TheConstants.StatusWord.{MEMORY_PROBLEM}
use Rattle.uicc_types.specs.declared.runs.Step.{Step}
use Rattle.uicc_types.specs.declared.runs.TraceItem.{TraceItem}
use Rattle.uicc_types.specs.declared.runs.TraceItem.TheVariants as item
use Rattle.script_form.specs.Traces.{trace_text}
use Rattle.script_form.specs.declared.trace.TraceLine.{TraceLine}
use Rattle.script_form.specs.declared.trace.TraceLine.TheVariants as line
use Rattle.card_model.specs.Runs.{StepGives, Then, Waits}
use Rattle.card_model.specs.States.{Machine}

-- the line of the trace that shows an item
abbrev pub line_of : TraceItem → TraceLine
line_of (item.Command apdu) = line.Command apdu
line_of (item.Answer body status) = line.Answer (record { body = body; status = status })
line_of item.Cut = line.Cut
line_of item.Off = line.Off
line_of item.Reset = line.Reset
line_of item.EepromFailed = line.EepromFailed

-- the text of the line that shows an item
abbrev pub item_text : TraceItem → List ℕ
item_text item = trace_text (line_of item)

-- the text of what a trace shows
abbrev pub text_of : List TraceItem → List ℕ
text_of shown = flat_map item_text shown

-- the memory did not fail in what shows this, and the card had power all along
abbrev pub is_calm : TraceItem → Bool
is_calm (item.Command apdu) = true
is_calm (item.Answer body status) = not (status.0 == MEMORY_PROBLEM.0)
is_calm item.Reset = true
is_calm shown = false

-- and so it was in the last command or reset, if there was one
abbrev pub ends_calm : List TraceItem → Bool
ends_calm [] = true
ends_calm (shown ∷ []) = is_calm shown
ends_calm (shown ∷ next ∷ more) = ends_calm (next ∷ more)

-- a run that no step ended
abbrev pub GoesOn : Machine → List Step → List TraceItem → Machine → Type 0
GoesOn old [] items new = Waits old items new
GoesOn old (step ∷ more) items new = Then (StepGives old step) (λ middle back. GoesOn middle more back new) items
