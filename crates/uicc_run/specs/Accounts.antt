-- What the lines after `start` come to where they go to the card, with a T=0 link before it for those that are TPDUs: the steps that the
-- card took, what it showed of its own, and what the trace shows.
use Rattle.std.specs.Prelude.{◌≡◌, ℕ, List, [], ◌∷◌, ◌++◌, Option, None, count_by}
use Rattle.uicc_types.specs.declared.answers.Answer.{Answer}
use Rattle.uicc_types.specs.declared.plans.Plan.{Plan}
use Rattle.uicc_types.specs.declared.runs.Step.{Step}
use Rattle.uicc_types.specs.declared.runs.Step.TheVariants as step
use Rattle.uicc_types.specs.declared.runs.TraceItem.{TraceItem}
use Rattle.t0_link.specs.Linking.{link_answer}
use Rattle.card_model.specs.Counts.{is_cut, is_failure}
use Rattle.card_model.specs.Runs.{armed_after}
use Rattle.run_steps.specs.Stepping.{BreaksOff}
use Rattle.run_steps.specs.Tpdus.{BreaksOffTpdu, CourseGives, steps_of, shown_for}
use Rattle.run_steps.specs.Views.{CardView, StepShows}

-- what a line after `start` is for: a step of the card, or a TPDU for the link
pub data Deed : Type 0 where
  Takes : Step → Deed
  Transfers : List ℕ → Deed

-- the steps that the card took, what it showed of its own in them, and what the trace shows
pub record Account : Type 0 where
  pub steps : List Step
  pub own : List TraceItem
  pub shown : List TraceItem

-- where no line was carried out
abbrev pub nothing : Account
nothing = record { steps = []; own = []; shown = [] }

-- of one thing and then others
abbrev pub joined : Account → Account → Account
joined first others = record { steps = first.steps ++ others.steps; own = first.own ++ others.own; shown = first.shown ++ others.shown }

-- ---- one line

-- a command that goes to the card as it is, or a reset, drops what the link keeps
abbrev pub kept_behind : Step → Option Answer → Option Answer
kept_behind (step.Apdu apdu) kept = None
kept_behind step.Reset kept = None
kept_behind (step.Plan plan) kept = kept

-- the card took this step, and the trace shows what the card did
pub record StepIsTold (step : Step) (kept : Option Answer) (old : CardView) (account : Account) (after : Option Answer) (new : CardView) : Type 0 where
  pub steps_are : account.steps ≡ step ∷ []
  pub gives : StepShows old step account.own new
  pub shown_is : account.shown ≡ account.own
  pub keeps : after ≡ kept_behind step kept

-- The link was given this TPDU. The card took the step of the APDU that was passed, or none where the link answered by itself, and the
-- trace shows the TPDU and the link's answer.
pub record TpduIsTold (tpdu : List ℕ) (kept : Option Answer) (old : CardView) (account : Account) (after : Option Answer) (new : CardView) : Type 0 where
  pub reply : TraceItem
  pub steps_are : account.steps ≡ steps_of (link_answer kept tpdu)
  pub gives : CourseGives (link_answer kept tpdu) old account.own reply after new
  pub shown_is : account.shown ≡ shown_for tpdu reply

-- of a line (`Deed`): what the link kept and the card before it, `kept` and `old`; what came of it, the account; and link and card after it,
-- `after` and `new`
abbrev pub IsTold : Deed → Option Answer → CardView → Account → Option Answer → CardView → Type 0
IsTold (Takes step) kept old account after new = StepIsTold step kept old account after new
IsTold (Transfers tpdu) kept old account after new = TpduIsTold tpdu kept old account after new

-- ---- one line after the other

-- nothing was done: nothing is told, and link and card are as they were
pub record NothingIsTold (kept : Option Answer) (old : CardView) (account : Account) (after : Option Answer) (new : CardView) : Type 0 where
  pub account_is : account ≡ nothing
  pub keeps : after ≡ kept
  pub stays : new ≡ old

-- one thing was done, and then others
pub record ThenTold (deed : Deed) (Rest : Option Answer → CardView → Account → Type 0) (kept : Option Answer) (old : CardView) (account : Account) : Type 0 where
  pub first : Account
  pub others : Account
  pub between : Option Answer
  pub middle : CardView
  pub told : IsTold deed kept old first between middle
  pub rest : Rest between middle others
  pub account_is : account ≡ joined first others

-- things that were done, one after the other: what is told of all, and what link and card are then
abbrev pub AreTold : List Deed → Option Answer → CardView → Account → Option Answer → CardView → Type 0
AreTold [] kept old account after new = NothingIsTold kept old account after new
AreTold (deed ∷ more) kept old account after new = ThenTold deed (λ between middle others. AreTold more between middle others after new) kept old account

-- ---- what the trace tells of the memory

-- The trace shows as many failures of the memory, and as many losses of power, as the card showed of its own: data that the link keeps
-- are given once, and are none of a failure.
pub record ShowsAsMany (own shown : List TraceItem) : Type 0 where
  pub failures : count_by is_failure shown ≡ count_by is_failure own
  pub cuts : count_by is_cut shown ≡ count_by is_cut own

-- ---- where the sink fails in it

-- What a line has shown, and where card and link stand then, where the sink fails in the last line of that. Before the line: what the link
-- kept, `kept`, the card, `old`, and the plan that waited. Of the line: what the card showed of its own, `own`, what was to be written,
-- `pending`, and the plans that were set. After it: what the link keeps and the card, `after` and `new`.
abbrev pub BreaksOffDeed : Deed → Option Answer → CardView → List TraceItem → List TraceItem → Plan → List Plan → Option Answer → CardView → Type 0
BreaksOffDeed (Takes step) kept old own pending waiting set after new =
    (pending ≡ own) × BreaksOff old step own (armed_after waiting (step ∷ [])) set new
BreaksOffDeed (Transfers tpdu) kept old own pending waiting set after new =
    BreaksOffTpdu old tpdu (link_answer kept tpdu) own pending (armed_after waiting (steps_of (link_answer kept tpdu))) set kept after new
