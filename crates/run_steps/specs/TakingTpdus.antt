-- How a TPDU is taken: from where to where, what is written and counted. The contracts of the functions that take TPDUs say this; a whole
-- run is told without it.
use Rattle.std.specs.Prelude.{◌≡◌, ℕ, List, Option, Result, Ok, Err, ⊤, Bool, false}
use Rattle.std.specs.Io.KnownBytes.{append_known}
use Rattle.uicc_types.specs.Counts.{names_fault}
use Rattle.uicc_types.specs.declared.answers.Answer.{Answer}
use Rattle.uicc_types.specs.declared.plans.Plan.{Plan}
use Rattle.uicc_types.specs.declared.runs.TraceItem.{TraceItem}
use Rattle.t0_link.specs.Linking.{Course, Answers, Passes}
use Rattle.byte_streams.specs.declared.streams.Failed.{Failed}
use Rattle.card_model.specs.Counts.{IsCounted}
use Rattle.card_model.specs.Runs.{armed_after, waiting_after}
use Rattle.run_steps.specs.Ends.{End, with_plan_set}
use Rattle.run_steps.specs.Runs.{text_of}
use Rattle.run_steps.specs.Tpdus.{shown_for, steps_of, CourseGives, BreaksOffTpdu}
use Rattle.run_steps.specs.Stepping.{IsSeen, Moment, Holds, IsCutOff, IsSeenBy}
use Rattle.run_steps.specs.Taking.{IsTakenBack, RestsOn, machine_of}
use Rattle.run_steps.specs.Views.{CardView}

-- it was taken, and both its lines were written
pub record TakesTpdu (old : CardView) (tpdu : List ℕ) (course : Course) (kept : Option Answer) (from to : Moment) : Type 0 where
  pub card : CardView
  pub own : List TraceItem
  pub reply : TraceItem
  pub seen : IsSeen card to
  pub gives : CourseGives course old own reply kept card
  pub written : to.taken ≡ append_known from.taken (text_of (shown_for tpdu reply))
  pub counted : IsCounted from.meter to.meter (armed_after from.waiting (steps_of course)) own
  pub back : IsTakenBack (armed_after from.waiting (steps_of course)) to.meter
  pub waits : to.waiting ≡ waiting_after from.waiting (steps_of course)
  pub rests : RestsOn card own from.is_due to.is_due

-- the sink failed in one of its lines
pub record BreaksTpdu (old : CardView) (tpdu : List ℕ) (course : Course) (keeps kept : Option Answer) (from to : Moment) : Type 0 where
  pub card : CardView
  pub own : List TraceItem
  pub pending : List TraceItem
  pub front : List ℕ
  pub set : List Plan
  pub stands : Holds card to.held
  pub broken : BreaksOffTpdu old tpdu course own pending (armed_after from.waiting (steps_of course)) set keeps kept card
  pub cut_off : IsCutOff pending front
  pub written : to.taken ≡ append_known from.taken front
  pub counted : IsCounted from.meter to.meter set own
  pub back : IsTakenBack set to.meter

-- what a TPDU comes to, by what the link kept before it and keeps after it
abbrev pub GivesTpdu : Result ⊤ Failed → CardView → List ℕ → Course → Option Answer → Option Answer → Moment → Moment → Type 0
GivesTpdu (Ok done) old tpdu course keeps kept from to = TakesTpdu old tpdu course kept from to
GivesTpdu (Err failed) old tpdu course keeps kept from to = BreaksTpdu old tpdu course keeps kept from to

-- the plan that waits is set where an APDU is passed, and waits no more; and whether the device was given one
abbrev pub IsPrepared : Course → End → Bool → End → Type 0
IsPrepared (Answers linked) old is_given new = (new ≡ old) × (is_given ≡ false)
IsPrepared (Passes apdu make) old is_given new = (new ≡ with_plan_set old) × (is_given ≡ names_fault old.waiting)

-- the link was given it, which comes to this reply
pub record Delivers (old : CardView) (course : Course) (reply : TraceItem) (kept : Option Answer) (from to : End) : Type 0 where
  pub card : CardView
  pub own : List TraceItem
  pub seen : IsSeenBy card (machine_of to.parts) to.parts.is_on
  pub gives : CourseGives course old own reply kept card
  pub counted : IsCounted from.parts.meter to.parts.meter (armed_after from.waiting (steps_of course)) own
  pub back : IsTakenBack (armed_after from.waiting (steps_of course)) to.parts.meter
  pub waits : to.waiting ≡ waiting_after from.waiting (steps_of course)
  pub rests : RestsOn card own from.parts.is_due to.parts.is_due
