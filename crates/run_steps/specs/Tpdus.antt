-- What a TPDU comes to, by the course that the link takes with it: what is shown, what the card makes of it, and what the link keeps.
use Rattle.std.specs.Prelude.{◌≡◌, ◌⊎◌, ℕ, List, [], ◌∷◌, Option, None}
use Rattle.uicc_types.specs.declared.answers.Answer.{Answer}
use Rattle.uicc_types.specs.declared.plans.Plan.{Plan}
use Rattle.uicc_types.specs.declared.runs.Step.{Step}
use Rattle.uicc_types.specs.declared.runs.Step.TheVariants as step
use Rattle.uicc_types.specs.declared.runs.TraceItem.{TraceItem}
use Rattle.uicc_types.specs.declared.runs.TraceItem.TheVariants as item
use Rattle.t0_link.specs.Linking.{Course, Answers, Linked, Passes}
use Rattle.run_steps.specs.Views.{CardView, IsBare, StepShows}

-- the step that the card takes: that of the APDU that is passed, or none where the link answers by itself
abbrev pub steps_of : Course → List Step
steps_of (Answers linked) = []
steps_of (Passes apdu make) = step.Apdu apdu ∷ []

-- ---- what the trace shows of it

-- the trace's item for an answer
abbrev pub item_of : Answer → TraceItem
item_of answer = item.Answer answer.body answer.status

-- in place of what the card shows, the link's answer in place of the card's
abbrev pub shown_over : (Answer → Linked) → TraceItem → TraceItem
shown_over make (item.Answer body status) = item_of (make (record { body = body; status = status })).answer
shown_over make other = other

-- what the link keeps then, which is nothing where the card did not answer
abbrev pub kept_over : (Answer → Linked) → TraceItem → Option Answer
kept_over make (item.Answer body status) = (make (record { body = body; status = status })).kept
kept_over make other = None

-- the two lines of what is sent: its bytes, and what came of it
abbrev pub shown_for : List ℕ → TraceItem → List TraceItem
shown_for bytes reply = item.Command bytes ∷ reply ∷ []

-- ---- what the card makes of it

-- The link answers by itself. The card takes no step and shows nothing of its own.
pub record AnswersAlone (linked : Linked) (old : CardView) (own : List TraceItem) (reply : TraceItem) (kept : Option Answer) (new : CardView) : Type 0 where
  pub silent : own ≡ []
  pub seen : reply ≡ item_of linked.answer
  pub keeps : kept ≡ linked.kept
  pub stays : new ≡ old

-- The link passes an APDU, and the card takes its step. Of what that shows, the link makes the line that is seen. A failure of the memory
-- is answered without data, so the link keeps none of them.
pub record PassesOn (apdu : List ℕ) (make : Answer → Linked) (old : CardView) (own : List TraceItem) (reply : TraceItem) (kept : Option Answer) (new : CardView) : Type 0 where
  pub shown : TraceItem
  pub came : own ≡ item.Command apdu ∷ shown ∷ []
  pub gives : StepShows old (step.Apdu apdu) own new
  pub bare : IsBare shown
  pub seen : reply ≡ shown_over make shown
  pub keeps : kept ≡ kept_over make shown

-- the card before, what it shows of its own, the reply that is seen, what the link keeps, and the card after
abbrev pub CourseGives : Course → CardView → List TraceItem → TraceItem → Option Answer → CardView → Type 0
CourseGives (Answers linked) old own reply kept new = AnswersAlone linked old own reply kept new
CourseGives (Passes apdu make) old own reply kept new = PassesOn apdu make old own reply kept new

-- ---- a TPDU in a run

-- What was to be written, where the sink fails in the last line of it. Where that is the TPDU's own line, the link was given nothing, and
-- nothing else has changed.
abbrev pub BreaksOffTpdu : CardView → List ℕ → Course → List TraceItem → List TraceItem → List Plan → List Plan → Option Answer → Option Answer → CardView → Type 0
BreaksOffTpdu old tpdu course own pending due set before kept new =
    ((own ≡ []) × (pending ≡ item.Command tpdu ∷ []) × (set ≡ []) × (kept ≡ before) × (new ≡ old))
    ⊎ ((reply : TraceItem) × CourseGives course old own reply kept new × (pending ≡ shown_for tpdu reply) × (set ≡ due))
