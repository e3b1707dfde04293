-- Lines and a card determine what is counted in the trace of a long run.
use Rattle.std.proofs.Common.{◌≡◌, true, List, refl, sym, ap, ◌∙◌, map, subst}
use Rattle.uicc_types.specs.declared.runs.TraceItem.{TraceItem}
use Rattle.script_form.specs.declared.handset.HandsetLine.{HandsetLine}
use Rattle.card_model.specs.States.{Machine}
use Rattle.card_laws.specs.FaultLaws.{UndisturbedRunsShowNoFault}
use Rattle.run_steps.proofs.GoesOnLemmas.{run_of}
use Rattle.run_steps.specs.Stepping.{CardStands, Moment, Stands}
use Rattle.run_steps.specs.Views.{CardView, ItsPower, TheCard}
use Rattle.long_runs.specs.Counts.{counts_of}
use Rattle.long_runs.specs.declared.counts.Counts.{Counts}
use Rattle.phone_runs.specs.LoadLaws.{IsCalmLoad, LoadRunsAreOne}
use Rattle.phone_runs.specs.LoadRuns.{all_heard, entry_line}
use Rattle.phone_runs.specs.Laws.{IsPhoneUndisturbed, PhoneRunsAreOne}
use Rattle.phone_runs.specs.Logs.{Event, shown, steps}
use Rattle.phone_runs.specs.Runs.{Beginning, IsPhoneRun}

-- nothing that fails is seen where the device counts none
undisturbed : UndisturbedRunsShowNoFault → (made : List HandsetLine) (given : Beginning) (first : Machine) (counts : Counts) (now : Moment) → given.first ≡ TheCard first → first.on ≡ true → (load : IsCalmLoad made given counts now)
    → (card : CardView) → card ≡ load.run.card → IsPhoneUndisturbed first (all_heard made) load.run.log card
undisturbed law made given first counts now is power load (TheCard machine) same =
    let run = load.run in
    let mine : IsPhoneRun (TheCard first) run.log (TheCard machine) = subst (λ (c : CardView). IsPhoneRun c run.log (TheCard machine)) is (subst (λ (c : CardView). IsPhoneRun given.first run.log c) (sym same) run.run) in
    let clear = law first machine (steps run.log) (shown run.log) given.meter now.meter _ (run_of (steps run.log) first machine (shown run.log) mine.run) power run.counted load.calm in
    record { run = mine; lines_are = run.lines_are; rests = run.rests; failures = clear.0.failures; cuts = clear.0.cuts }
undisturbed law made given first counts now is power load (ItsPower on) same =
    let mine : IsPhoneRun (TheCard first) load.run.log (ItsPower on) = subst (λ (c : CardView). IsPhoneRun c load.run.log (ItsPower on)) is (subst (λ (c : CardView). IsPhoneRun given.first load.run.log c) (sym same) load.run.run) in
    absurd mine.run

-- the memories of one card hold the same
one_held : (first : Machine) (log : List Event) (card other : CardView) (items others : List TraceItem) (now left : Moment) → IsPhoneRun (TheCard first) log card → card ≡ other → Stands card items now → Stands other others left → now.held ≡ left.held
one_held first log (TheCard machine) other items others now left run same stands stands' =
    let theirs : CardStands machine others left = subst (λ (c : CardView). Stands c others left) (sym same) stands' in stands.stands ∙ sym theirs.stands
one_held first log (ItsPower on) other items others now left run same stands stands' = absurd run.run

pub loads_are_one : PhoneRunsAreOne → UndisturbedRunsShowNoFault → LoadRunsAreOne
loads_are_one one law made given first counts others now left is power a b =
    let mine = undisturbed law made given first counts now is power a a.run.card refl in
    let same = one first a.run.card b.run.card (all_heard made) a.run.log b.run.log mine (undisturbed law made given first others left is power b b.run.card refl) in (
      a.run.counts_are ∙ ap (λ entries. counts_of (map entry_line entries)) same.shows ∙ sym b.run.counts_are,
      one_held first a.run.log a.run.card b.run.card (shown a.run.log) (shown b.run.log) now left mine.run same.card a.run.stands b.run.stands,
    )
