-- What is known of a handset that serves a card, also where neither the store nor the sink tells its bytes.
use Rattle.std.specs.Prelude.{◌≡◌, ◌⊎◌, ℕ, ◌+◌, ◌<◌, ◌≤◌, List, Ok, Err}
use Rattle.uicc_types.specs.declared.answers.Answer.{Answer}
use Rattle.t0_link.specs.declared.endpoint.LinkFault.TheVariants.{PowerLost, NoPower}
use Rattle.handset_model.specs.Ending.{work}
use Rattle.handset_model.specs.History.{Happened, Answered, Restarted, PowerCut, FoundOff}
use Rattle.handset_model.specs.Legal.{IsOrderly}
use Rattle.handset_model.specs.Rules.{asked}
use Rattle.handset_model.specs.declared.known.Duty.TheVariants.{Await, Rest}
use Rattle.terminal_side.specs.Kept.{Kept, kept}
use Rattle.run_steps.specs.Carriers.{Carries}
use Rattle.run_steps.specs.Taking.{Outcome}
use Rattle.run_steps.specs.declared.carriers.Carrier.{Carrier}
use Rattle.run_steps.specs.declared.steps.Restarted.{Restarted as AReset}
use Rattle.run_steps.specs.declared.steps.Restarted.TheVariants as ended

-- it keeps what comes of some history in which all is as it was asked for, and waits for no answer
pub record IsPhoneServed (phone : Kept) : Type 0 where
  pub history : List Happened
  pub keeps : phone ≡ kept history
  pub orderly : IsOrderly history
  pub no_answer : asked history ≡ Await → ⊥

-- it asks for nothing more
pub record IsAtRest (phone : Kept) : Type 0 where
  pub served : IsPhoneServed phone
  pub rests : phone.asked ≡ Rest

-- what can still be done for a line
abbrev pub work_at : Kept → ℕ
work_at phone = work phone.known.commands phone.asked

-- one thing was done that it asked for: less is left to do for the line, and the clock stands where it stood
pub record IsServedMore (old new : Kept) : Type 0 where
  pub served : IsPhoneServed new
  pub less : work_at new < work_at old
  pub clock : new.known.clock ≡ old.known.clock

-- The handset sent no more commands for its line than so many, and the link of its carrier, where that is one, was given so many TPDUs at
-- least.
pub record CarriesMore (old new : Kept) (before after : Carrier) : Type 0 where
  pub times : ℕ
  pub sent : new.known.commands ≤ old.known.commands + times
  pub carried : Carries times before after

-- Either a line left the handset and its carrier as they were; or the link of that, where it is one, was given a TPDU at least for
-- each command that it sent for the line.
abbrev pub LineIsCarried : Kept → Kept → Carrier → Carrier → Type 0
LineIsCarried old new before after = ((new ≡ old) × (after ≡ before)) ⊎ Carries new.known.commands before after

-- what happens at a handset by what came of its command
abbrev pub replied : Outcome → Answer → Happened
replied (Ok done) answer = Answered answer
replied (Err PowerLost) answer = PowerCut
replied (Err NoPower) answer = FoundOff

-- and by a reset
abbrev pub reset_by : AReset → Happened
reset_by ended.Done = Restarted
reset_by ended.Cut = PowerCut
