-- The lines after `start`, from the card that was opened to the end, where they go to a handset or to the card.
use Rattle.std.proofs.Common.{◌≡◌, ℕ, false, List, [], ◌∷◌, ◌++◌, Option, None, refl, sym, ◌∙◌}
use Rattle.script_form.specs.declared.lines.ScriptLine.{ScriptLine}
use Rattle.script_form.specs.declared.lines.ScriptLine.TheVariants.{Start}
use Rattle.script_reader.specs.declared.behind.PlayEnd.{PlayEnd}
use Rattle.script_reader.specs.declared.reader.ScriptReader.{ScriptReader}
use Rattle.run_steps.proofs.SteppingLemmas.{taken_none}
use Rattle.run_steps.specs.Stepping.{Moment}
use Rattle.run_steps.specs.Views.{CardView}
use Rattle.phone_runs.specs.Lines.{PhoneComesTo}
use Rattle.phone_runs.specs.BetweenLines.{StandsAtStart}
use Rattle.uicc_run.specs.Accounts.{nothing}
use Rattle.uicc_run.specs.BetweenLines.{IsStarted, IsPlaying}
use Rattle.uicc_run.specs.Playing.{Given, left_at, ServedComesTo, beginning}
use Rattle.uicc_run.proofs.PlayingLemmas.{carried_out}

-- the lines up to `start`
abbrev pub opening : List ScriptLine → List ScriptLine
opening section = section ++ Start ∷ []

module _ (given : Given) (first : CardView) (script : ScriptReader) (left : Option (List ℕ)) (now : Moment) (started : IsStarted given first script left now) where
  -- to the card
  pub plays_first : given.is_served ≡ false → IsPlaying given first script left None now
  plays_first unserved = record {
    done = carried_out given first started.found started.section [] started.card nothing None first started.lines started.opened (record { account_is = refl; keeps = refl; stays = refl });
    unserved = unserved;
    follows = started.follows;
    keeps = refl;
    seen = started.begins.seen;
    written = started.begins.written ∙ sym (taken_none given.before);
    counted = started.begins.counted;
    waits = started.begins.waits;
    rests = started.begins.rests;
  }

  -- to a handset
  pub serves_first : StandsAtStart given.text (opening started.section) (beginning given first) script left now
  serves_first = record { found = started.found; read = started.lines.read; follows = started.follows; begins = started.begins }

  pub serves_to : (left_then : Option (List ℕ)) (end : PlayEnd) (at : Moment) → PhoneComesTo given.text (opening started.section) (beginning given first) left_then end at → ServedComesTo given first left_then end (left_at at)
  serves_to left_then end at comes = record { section = started.section; card = started.card; described = started.lines.described; opened = started.opened; at = at; left_is = refl; comes = comes }
