-- What a section and the lines after it determine: the trace, where nothing fails and no power is lost.
use Rattle.std.specs.Prelude.{◌≡◌, ℕ, List, [], ◌∷◌, ◌++◌, Option}
use Rattle.script_form.specs.declared.lines.ScriptLine.{ScriptLine}
use Rattle.script_form.specs.declared.lines.ScriptLine.TheVariants.{Start}
use Rattle.script_reader.specs.declared.behind.PlayEnd.{PlayEnd}
use Rattle.card_laws.specs.Faults.{ShowsNoCut, ShowsNoFailure}
use Rattle.card_model.specs.States.{Machine}
use Rattle.long_runs.specs.declared.counts.Counts.{Counts}
use Rattle.run_steps.specs.Stepping.{Moment}
use Rattle.run_steps.specs.Views.{CardView, TheCard}
use Rattle.phone_runs.specs.Lines.{PhoneEnds}
use Rattle.phone_runs.specs.Logs.{shown}
use Rattle.phone_runs.specs.Runs.{Beginning}
use Rattle.uicc_run.specs.Loading.{Loads}
use Rattle.uicc_run.specs.Playing.{EndsSo, Given, IsCardOpened, Leaves, beginning}

-- in the run of the card no memory failed and no power was lost
abbrev pub IsCalm : {given : Given} {first : CardView} {left : Option (List ℕ)} {end : PlayEnd} {now : Leaves} → EndsSo given first left end now → Type 0
IsCalm run = ShowsNoFailure run.done.account.own × ShowsNoCut run.done.account.own

-- Two such runs without a handset that were given the same, and of which the section and the lines after it are the same, have one trace,
-- and their memories stand for the same after them.
abbrev pub TracesAreOne : Type 0
TracesAreOne =
    (given : Given) (first first' : Machine) (left left' : Option (List ℕ)) (end end' : PlayEnd) (now now' : Leaves)
    → (run : EndsSo given (TheCard first) left end now) (other : EndsSo given (TheCard first') left' end' now')
    → run.done.section ≡ other.done.section → run.done.played ≡ other.done.played → IsCalm run → IsCalm other
    → (now.taken ≡ now'.taken) × (now.held ≡ now'.held)

-- ---- where a handset serves the card

-- in its run no memory failed and no power was lost
abbrev pub IsServedCalm : {text : List ℕ} {opening : List ScriptLine} {given : Beginning} {left : Option (List ℕ)} {end : PlayEnd} {at : Moment} → PhoneEnds text opening given left end at → Type 0
IsServedCalm run = ShowsNoFailure (shown run.log) × ShowsNoCut (shown run.log)

-- Two such runs that were given the same, and of which the section and the lines after it are the same, have one trace, and their
-- memories stand for the same after them.
abbrev pub ServedTracesAreOne : Type 0
ServedTracesAreOne =
    (given : Given) (section : List ScriptLine) (first first' : Machine) (left left' : Option (List ℕ)) (end end' : PlayEnd) (at at' : Moment)
    → IsCardOpened given section first → IsCardOpened given section first'
    → (run : PhoneEnds given.text (section ++ Start ∷ []) (beginning given (TheCard first)) left end at)
    → (other : PhoneEnds given.text (section ++ Start ∷ []) (beginning given (TheCard first')) left' end' at')
    → run.played ≡ other.played → IsServedCalm run → IsServedCalm other
    → (at.taken ≡ at'.taken) × (at.held ≡ at'.held)

-- in a long run no memory failed and no power was lost
abbrev pub IsLoadedCalm : {given : Given} {first : CardView} {start count lines : ℕ} {counts : Counts} {leaves : Leaves} → Loads given first start count lines counts leaves → Type 0
IsLoadedCalm run = ShowsNoFailure (shown run.counted.log) × ShowsNoCut (shown run.counted.log)

-- Two such long runs of the same lines have the same counts, and their memories stand for the same.
abbrev pub LoadsAreOne : Type 0
LoadsAreOne =
    (given : Given) (first first' : Machine) (start count lines lines' : ℕ) (counts counts' : Counts) (leaves leaves' : Leaves)
    → (run : Loads given (TheCard first) start count lines counts leaves) (other : Loads given (TheCard first') start count lines' counts' leaves')
    → IsLoadedCalm run → IsLoadedCalm other → (counts ≡ counts') × (leaves.held ≡ leaves'.held)
