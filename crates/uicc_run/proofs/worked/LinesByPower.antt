-- What lines come to where no more is known of the card than its power.
use Rattle.std.proofs.Common.{ℕ, Bool, true, false, List, [], ◌∷◌, None, refl, inl}
use Rattle.uicc_types.specs.declared.answers.StatusWord.{StatusWord}
use Rattle.uicc_types.specs.declared.runs.Step.{Step}
use Rattle.uicc_types.specs.declared.runs.TraceItem.{TraceItem}
use Rattle.uicc_types.specs.declared.runs.Step.TheVariants as step
use Rattle.uicc_types.specs.declared.runs.TraceItem.TheVariants as item
use Rattle.card_model.specs.States.{Machine}
use Rattle.run_steps.specs.Views.{ItsPower, LastShows, StepShows, TheCard}
use Rattle.uicc_run.specs.Accounts.{Account, AreTold, Takes}

abbrev select : List ℕ
select = 0x00 ∷ 0xA4 ∷ 0x00 ∷ 0x04 ∷ 0x02 ∷ 0x2F ∷ 0xE2 ∷ []

abbrev done : StatusWord
done = record { 0 = 0x9000 }

-- ---- single steps

a_command_is_answered : StepShows (ItsPower true) (step.Apdu select) (item.Command select ∷ item.Answer [] done ∷ []) (ItsPower true)
a_command_is_answered = (item.Answer [] done, (refl, (λ failed. absurd (cc)), refl), refl)

power_is_lost_in_it : StepShows (ItsPower true) (step.Apdu select) (item.Command select ∷ item.Cut ∷ []) (ItsPower false)
power_is_lost_in_it = (item.Cut, (refl, refl), refl)

there_was_none : StepShows (ItsPower false) (step.Apdu select) (item.Command select ∷ item.Off ∷ []) (ItsPower false)
there_was_none = (item.Off, (refl, refl), refl)

a_reset_restores_it : StepShows (ItsPower false) step.Reset (item.Reset ∷ []) (ItsPower true)
a_reset_restores_it = inl (refl, refl)

the_memory_fails_in_a_reset : LastShows (ItsPower true) step.Reset (item.EepromFailed ∷ []) (ItsPower true)
the_memory_fails_in_a_reset = refl

-- a card itself is known after a step where it was before it
what_is_known_stays_known : (old : Machine) (step : Step) (items : List TraceItem) (on : Bool) → StepShows (TheCard old) step items (ItsPower on) → ⊥
what_is_known_stays_known old step items on none = none

-- ---- two lines: power is lost in a command, and a reset restores it

abbrev lost : Account
lost = record { steps = step.Apdu select ∷ []; own = item.Command select ∷ item.Cut ∷ []; shown = item.Command select ∷ item.Cut ∷ [] }

abbrev restored : Account
restored = record { steps = step.Reset ∷ []; own = item.Reset ∷ []; shown = item.Reset ∷ [] }

abbrev both : Account
both = record {
  steps = step.Apdu select ∷ step.Reset ∷ [];
  own = item.Command select ∷ item.Cut ∷ item.Reset ∷ [];
  shown = item.Command select ∷ item.Cut ∷ item.Reset ∷ [];
}

two_lines : AreTold (Takes (step.Apdu select) ∷ Takes step.Reset ∷ []) None (ItsPower true) both None (ItsPower true)
two_lines = record {
  first = lost;
  others = restored;
  between = None;
  middle = ItsPower false;
  told = record { steps_are = refl; gives = power_is_lost_in_it; shown_is = refl; keeps = refl };
  rest = record {
    first = restored;
    others = record { steps = []; own = []; shown = [] };
    between = None;
    middle = ItsPower true;
    told = record { steps_are = refl; gives = a_reset_restores_it; shown_is = refl; keeps = refl };
    rest = record { account_is = refl; keeps = refl; stays = refl };
    account_is = refl;
  };
  account_is = refl;
}
