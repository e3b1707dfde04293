-- What a command over the T=0 link comes to in a run, beside the command by itself.
use Rattle.std.specs.Prelude.{◌≡◌, ℕ, List, map, Option, Some, None, IsTrue, []}
use Rattle.uicc_types.specs.Counts.{Meter}
use Rattle.uicc_types.specs.Told.{AreBytes}
use Rattle.uicc_types.specs.declared.answers.Answer.{Answer}
use Rattle.uicc_types.specs.declared.plans.Plan.{Plan}
use Rattle.uicc_types.specs.declared.runs.Step.TheVariants as step
use Rattle.uicc_types.specs.declared.runs.TraceItem.{TraceItem}
use Rattle.uicc_types.specs.declared.runs.TraceItem.TheVariants as item
use Rattle.apdu_form.specs.Model.{Apdu, command_in}
use Rattle.t0_link.specs.Carrying.{is_carried, command_answer}
use Rattle.t0_link.specs.Linking.{Linked, Course, Answers, Passes}
use Rattle.card_model.specs.Counts.{IsCounted}
use Rattle.card_model.specs.Runs.{StepGives}
use Rattle.card_model.specs.States.{Machine, IsGood}
use Rattle.run_steps.specs.Tpdus.{shown_over, kept_over, shown_for}

-- what is shown, but for the bytes of a command and the data of an answer
abbrev pub without_bytes : TraceItem → TraceItem
without_bytes (item.Command bytes) = item.Command []
without_bytes (item.Answer body status) = item.Answer [] status
without_bytes other = other

-- The card showed this of what the link passed for a command. The command by itself is a step too: it shows the terminal's bytes in
-- place of those that were passed and the link's answer in place of the card's, and leaves the same card. The link's answer has the
-- status of the card's, and a loss of power or that there is none is shown as it is. The link keeps nothing.
pub record HasOwnStep (old : Machine) (bytes : List ℕ) (make : Answer → Linked) (shown : TraceItem) (new : Machine) : Type 0 where
  pub gives : StepGives old (step.Apdu bytes) (shown_for bytes (shown_over make shown)) new
  pub alike : without_bytes (shown_over make shown) ≡ without_bytes shown
  pub keeps : kept_over make shown ≡ None

-- a command goes to the card, and whatever step the card takes, the command by itself is that step
abbrev pub GivesOwnStep : Machine → List ℕ → Course → Type 0
GivesOwnStep old bytes (Answers linked) = ⊥
GivesOwnStep old bytes (Passes apdu make) =
    (shown : TraceItem) (new : Machine) → StepGives old (step.Apdu apdu) (shown_for apdu shown) new → HasOwnStep old bytes make shown new

-- The link changes no step of a good card, with power or without, whatever the link keeps.
abbrev pub LinkChangesNoStep : Type 0
LinkChangesNoStep =
    (old : Machine) (kept : Option Answer) (bytes : List ℕ) (command : Apdu)
    → IsGood old.card → AreBytes bytes → command_in bytes ≡ Some command → IsTrue (is_carried command) → GivesOwnStep old bytes (command_answer kept command)

-- What the counts of a memory say of a trace, they say of every one that differs from it in the bytes of commands and the data of
-- answers alone.
abbrev pub CountsSeeNoBytes : Type 0
CountsSeeNoBytes =
    (old new : Meter) (plans : List Plan) (shown other : List TraceItem)
    → map without_bytes other ≡ map without_bytes shown → IsCounted old new plans shown → IsCounted old new plans other
