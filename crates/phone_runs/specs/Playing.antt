-- The lines of a script, carried out by a handset.
use Rattle.std.specs.Prelude.{◌≡◌, ℕ, ◌+◌, ◌<◌, ◌^◌, [], true, false, ◌∷◌}
use Rattle.uicc_types.specs.declared.plans.TheConstants.Plan.{NONE}
use Rattle.script_form.specs.declared.lines.ScriptLine.{ScriptLine}
use Rattle.card_model.specs.Counts.{IsCounted}
use Rattle.handset_model.specs.History.{span_of}
use Rattle.handset_model.specs.Legal.{IsBounded}
use Rattle.run_steps.specs.Stepping.{IsSeen, Moment}
use Rattle.run_steps.specs.Taking.{Rests}
use Rattle.phone_runs.specs.Lines.{may_be_heard, phone_lines_of}
use Rattle.phone_runs.specs.Logs.{Hears, Arms}
use Rattle.phone_runs.specs.Runs.{Beginning}
use Rattle.phone_runs.specs.declared.effects.PhoneEffect.{PhoneEffect}
use Rattle.phone_runs.specs.declared.effects.PhoneEffect.TheVariants as effect

-- nothing has happened yet of which the counts tell, and no fault is planned or to be mended
pub record Begins (given : Beginning) (now : Moment) : Type 0 where
  pub seen : IsSeen given.first now
  pub written : now.taken ≡ given.before
  pub counted : IsCounted given.meter now.meter [] []
  pub waits : now.waiting ≡ NONE
  pub rests : Rests given.first [] now.is_due

-- what a line of the script is for the handset
abbrev pub IsEffect : ScriptLine → PhoneEffect → Type 0
IsEffect line effect.Nothing = (may_be_heard line ≡ true) × (phone_lines_of line ≡ [])
IsEffect line (effect.Hears said) = (may_be_heard line ≡ true) × (phone_lines_of line ≡ Hears said ∷ [])
IsEffect line (effect.Plans plan) = (may_be_heard line ≡ true) × (phone_lines_of line ≡ Arms plan ∷ [])
IsEffect line effect.OutOfPlace = may_be_heard line ≡ false

-- it may be carried out at this time: its values keep to their bounds, and the clock stays far from the end of 64 bits
abbrev pub FitsIn : ℕ → PhoneEffect → Type 0
FitsIn clock (effect.Hears said) = IsBounded said × (clock + span_of said < 2 ^ 63)
FitsIn clock other = Unit {0}

-- how much time it lets pass
abbrev pub span_of_effect : PhoneEffect → ℕ
span_of_effect (effect.Hears said) = span_of said
span_of_effect other = 0
