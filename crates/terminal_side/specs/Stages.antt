-- What is asked of a handset, by its stage, the duty that it keeps and the command that it holds; and what it says is to be done next.
use Rattle.std.specs.Prelude.{◌≡◌, ℕ, Bool, true, false, List, Option, Some, None}
use Rattle.script_form.specs.declared.handset.Note.{Note}
use Rattle.script_form.specs.declared.handset.Note.TheVariants.{Ask, Idle, Text}
use Rattle.toolkit_commands.specs.declared.commands.Proactive.{Proactive}
use Rattle.toolkit_commands.specs.declared.commands.Proactive.TheVariants.{DisplayText, GetInkey, GetInput, IdleText}
use Rattle.handset_model.specs.declared.commands.Command.TheVariants.{AskStatus, Fetch, Respond}
use Rattle.handset_model.specs.declared.commands.Reply.TheVariants.{Result}
use Rattle.handset_model.specs.declared.known.Duty.{Duty}
use Rattle.handset_model.specs.declared.known.Duty.TheVariants.{Rest, Await, Show, Transmit}
use Rattle.handset_model.specs.declared.known.Held.{Held}
use Rattle.handset_model.specs.declared.steps.PhoneStep.{PhoneStep}
use Rattle.handset_model.specs.declared.steps.PhoneStep.TheVariants as step
use Rattle.terminal_side.specs.declared.phone.Next.{Next}
use Rattle.terminal_side.specs.declared.phone.Next.TheVariants as next
use Rattle.terminal_side.specs.declared.stages.Stage.{Stage}
use Rattle.terminal_side.specs.declared.stages.Stage.TheVariants.{Resting, Awaiting, Asked, Fetching, Polling, Responding, Showing}

-- to show the text of a command, if it is one that has a text to be shown
abbrev pub text_shown : Proactive → Duty
text_shown (DisplayText text) = Show (Text text)
text_shown (GetInkey text) = Show (Ask text)
text_shown (GetInput text digits least most) = Show (Ask text)
text_shown (IdleText text) = Show (Idle text)
text_shown _ = Rest

-- the text of the command that is held, if it shows one
abbrev pub text_of_held : Option Held → Duty
text_of_held None = Rest
text_of_held (Some held) = text_shown held.command

-- what is asked of a handset at each stage
abbrev pub asked_at : Stage → Duty → Option Held → Duty
asked_at Resting duty held = Rest
asked_at Awaiting duty held = Await
asked_at Asked duty held = duty
asked_at (Fetching size) duty held = Transmit (Fetch size)
asked_at Polling duty held = Transmit AskStatus
asked_at (Responding details general) duty held = Transmit (Respond details (Result general))
asked_at Showing duty held = text_of_held held

-- this is asked, whatever is held
abbrev pub Asks : Stage → Duty → Duty → Type 0
Asks stage duty wanted = (held : Option Held) → asked_at stage duty held ≡ wanted

-- the step that is to be done next, where these bytes and this note stand in their places
abbrev pub step_of : Next → List ℕ → Note → Option PhoneStep
step_of next.Nothing apdu note = None
step_of next.Send apdu note = Some (step.Send apdu)
step_of next.Reset apdu note = Some step.Reset
step_of next.Show apdu note = Some (step.Note note)

-- a note that was written is to be shown, or nothing is
abbrev pub shown_if : Bool → Note → Duty
shown_if false note = Rest
shown_if true note = Show note
