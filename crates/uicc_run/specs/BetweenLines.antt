-- Where a run stands between two lines after `start`, and what a line comes to. A whole run is told without it.
use Rattle.std.specs.Prelude.{ℕ, List, [], Option, ◌≡◌, false, Result, Ok, Err, ◌≤◌, true, ◌∷◌, length, None}
use Rattle.std.specs.Io.KnownBytes.{append_known}
use Rattle.uicc_types.specs.declared.answers.Answer.{Answer}
use Rattle.uicc_types.specs.declared.byte_lists.TheConstants.{LONGEST_COMMAND}
use Rattle.uicc_types.specs.declared.plans.TheConstants.Plan.{NONE}
use Rattle.uicc_types.specs.declared.runs.Step.TheVariants as step
use Rattle.byte_streams.specs.Lines.{LineList}
use Rattle.script_form.specs.declared.lines.ScriptLine.{ScriptLine}
use Rattle.script_reader.specs.Reading.{Follows}
use Rattle.script_reader.specs.declared.behind.PlayEnd.{PlayEnd}
use Rattle.script_reader.specs.declared.reader.ScriptReader.{ScriptReader}
use Rattle.card_state.specs.Persistent.{Persistent}
use Rattle.card_model.specs.Counts.{IsCounted}
use Rattle.card_model.specs.Runs.{plan_given, waiting_after}
use Rattle.command_line.specs.declared.requests.Transport.{Transport}
use Rattle.command_line.specs.declared.requests.Transport.TheVariants as transport
use Rattle.run_steps.specs.Runs.{text_of}
use Rattle.run_steps.specs.Stepping.{Moment, IsSeen}
use Rattle.run_steps.specs.Taking.{Rests}
use Rattle.run_steps.specs.Views.{CardView}
use Rattle.run_steps.specs.declared.carriers.Carrier.{Carrier}
use Rattle.run_steps.specs.declared.carriers.Carrier.TheVariants as carrier
use Rattle.phone_runs.specs.Playing.{Begins}
use Rattle.uicc_run.specs.Accounts.{Deed, Takes, Transfers}
use Rattle.uicc_run.specs.Playing.{AreReadInPlace, Given, IsFirst, CarriedOut, left_at, CardComesTo, beginning}
use Rattle.uicc_run.specs.Steps.{may_follow, deeds_of}
use Rattle.uicc_run.specs.declared.effects.Effect.{Effect}
use Rattle.uicc_run.specs.declared.effects.Effect.TheVariants as effect

-- the card was opened that the lines before `start` and the memory are for, it is seen so, and nothing was done to it
pub record IsStarted (given : Given) (first : CardView) (script : ScriptReader) (left : Option (List ℕ)) (now : Moment) : Type 0 where
  pub found : LineList
  pub section : List ScriptLine
  pub card : Option Persistent
  pub lines : AreReadInPlace given found section [] card
  pub opened : IsFirst given section first
  pub follows : Follows given.text found script left
  pub begins : Begins (beginning given first) now

-- lines after `start` have been carried out, all that they show was taken, and the link keeps this
pub record IsPlaying (given : Given) (first : CardView) (script : ScriptReader) (left : Option (List ℕ)) (kept : Option Answer) (now : Moment) : Type 0 where
  pub done : CarriedOut given first
  pub unserved : given.is_served ≡ false
  pub follows : Follows given.text done.found script left
  pub keeps : done.kept ≡ kept
  pub seen : IsSeen done.card now
  pub written : now.taken ≡ append_known given.before (text_of done.account.shown)
  pub counted : IsCounted given.meter now.meter (plan_given done.account.steps) done.account.own
  pub waits : now.waiting ≡ waiting_after NONE done.account.steps
  pub rests : Rests done.card done.account.own now.is_due

-- what a line after `start` comes to: it was carried out, or the run ends
abbrev pub GivesPlayed : Given → CardView → ScriptReader → Option (List ℕ) → Option Answer → Moment → Result (Unit {0}) PlayEnd → Type 0
GivesPlayed given first script left kept now (Ok done) = IsPlaying given first script left kept now
GivesPlayed given first script left kept now (Err end) = CardComesTo given first left end (left_at now)

-- a line that may stand after `start` is for this
abbrev pub IsFor : ScriptLine → Deed → Type 0
IsFor line deed = (may_follow line ≡ true) × (deeds_of line ≡ deed ∷ [])

-- what a line after `start` is for the card
abbrev pub IsEffect : ScriptLine → Effect → Type 0
IsEffect line effect.Nothing = (may_follow line ≡ true) × (deeds_of line ≡ [])
IsEffect line (effect.Sends apdu) = IsFor line (Takes (step.Apdu apdu.now)) × (length apdu.now ≤ LONGEST_COMMAND)
IsEffect line (effect.Transfers tpdu) = IsFor line (Transfers tpdu.now) × (length tpdu.now ≤ LONGEST_COMMAND)
IsEffect line effect.Resets = IsFor line (Takes step.Reset)
IsEffect line (effect.Plans plan) = IsFor line (Takes (step.Plan plan))
IsEffect line effect.OutOfPlace = may_follow line ≡ false

-- its commands come to the card as they are, or over a link that keeps nothing yet and was given no TPDU
abbrev pub IsCarrierBy : Transport → Carrier → Type 0
IsCarrierBy transport.Direct made = made ≡ carrier.Direct
IsCarrierBy transport.T0 made = made ≡ carrier.Link (record { kept = None; tpdus = 0 })
