-- What the run of a terminal's channels comes to.
use Rattle.std.proofs.Common.{◌≡◌, ◌⊎◌, ◌≤◌, ℕ, List, [], Option, Some, inl, inr, arith}
use Rattle.std.specs.Io.KnownBytes.{append_known}
use Rattle.uicc_types.specs.Counts.{Rose}
use Rattle.byte_streams.specs.Lines.{LineList}
use Rattle.script_reader.specs.declared.behind.PlayEnd.TheVariants as play
use Rattle.command_line.specs.Model.{AskForRun}
use Rattle.command_line.specs.declared.requests.Mode.TheVariants.{Bip}
use Rattle.bip_runs.proofs.ScriptsLemmas.{bad_ends_not, bad_stops_there, end_was_good, good_stops_not, stop_was_bad}
use Rattle.bip_runs.specs.Serving.{BipComesTo, IsFirstBadBip, IsGoodBip}
use Rattle.uicc_run.specs.Endings.{status_for}
use Rattle.uicc_run.specs.Headline.{last_text}
use Rattle.uicc_run.specs.Running.{ServesToEnd}
use Rattle.uicc_run.specs.Worlds.{World, Seen, seen}
use Rattle.uicc_run.specs.Scripts.{StopsAndTells, TellsNext}
use Rattle.uicc_run.specs.Terminals.{AskForBip, ComesToBip, TracesBip}
use Rattle.uicc_run.specs.declared.endings.Ending.{Ending}
use Rattle.uicc_run.specs.declared.endings.Ending.TheVariants.{NoMemory, Played}
use Rattle.uicc_run.proofs.TellsNextLemmas.{tells_it}

-- a run with these words is one
pub asks_for_run : (words : List (List ℕ)) → AskForBip words → AskForRun words
asks_for_run words asks = (record { mode = Bip; devices = asks.0 }, asks.1)

-- no status above 5
pub status_low : (own status : ℕ) → (status ≡ own) ⊎ (status ≡ 4) → own ≤ 5 → status ≤ 5
status_low own status (inl is) low = omega arith
status_low own status (inr is) low = omega arith

-- ---- what it comes to

-- There was no memory; all lines were carried out; it stopped at a line, whose number is told last; or the source or the sink failed.
abbrev Verdict : List ℕ → Option (List ℕ) → Option (List ℕ) → Option (List ℕ) → Option (List ℕ) → ℕ → Type 0
Verdict text before left put taken status =
    (status ≡ 5)
    ⊎ (((status ≡ 0) × BipComesTo text before left put play.Finished)
    ⊎ (((number : ℕ) × (status ≡ 2) × BipComesTo text before left put (play.BadLine number) × (taken ≡ append_known put (last_text (Played (play.BadLine number)))))
    ⊎ ((status ≡ 3) ⊎ (status ≡ 4))))

verdict_of : (text : List ℕ) (before left put taken : Option (List ℕ)) (ending : Ending) (status : ℕ) → ComesToBip text before left put ending → status ≡ status_for ending → taken ≡ append_known put (last_text ending) → Verdict text before left put taken status
verdict_of text before left put taken NoMemory status comes is told = inl is
verdict_of text before left put taken (Played play.Finished) status comes is told = inr (inl (is, comes))
verdict_of text before left put taken (Played (play.BadLine number)) status comes is told = inr (inr (inl (number, is, comes, told)))
verdict_of text before left put taken (Played play.ReadFailed) status comes is told = inr (inr (inr (inl is)))
verdict_of text before left put taken (Played play.SinkFailed) status comes is told = inr (inr (inr (inr is)))
verdict_of text before left put taken other status comes is told = absurd comes

verdict : (text : List ℕ) (before : Option (List ℕ)) (seen : Seen) (traces : TracesBip text before seen) → Verdict text before seen.left traces.put seen.taken seen.status
verdict text before seen traces = elim traces.closes [
  | inl whole ↦ verdict_of text before seen.left traces.put seen.taken traces.ending seen.status traces.comes whole.0 whole.1
  | inr broken ↦ inr (inr (inr (inr broken.0)))
]

-- a good script is carried out to its end
pub bip_completes : (text : List ℕ) (before : Option (List ℕ)) (seen : Seen) → TracesBip text before seen → IsGoodBip text → (seen.status ≡ 3 → ⊥) → (seen.status ≡ 4 → ⊥) → (seen.status ≡ 0) ⊎ (seen.status ≡ 5)
bip_completes text before seen traces good three four = elim (verdict text before seen traces) [
  | inl lacks ↦ inr lacks
  | inr (inl ends) ↦ inl ends.0
  | inr (inr (inl stops)) ↦ absurd (good_stops_not text before seen.left traces.put stops.0 good stops.2)
  | inr (inr (inr (inl is))) ↦ absurd (three is)
  | inr (inr (inr (inr is))) ↦ absurd (four is)
]

-- the last line tells the number of the line after these
pub bip_stops_bad : (text : List ℕ) (before : Option (List ℕ)) (seen : Seen) (found : LineList) → TracesBip text before seen → IsFirstBadBip text found → (seen.status ≡ 3 → ⊥) → (seen.status ≡ 4 → ⊥)
    → ((seen.status ≡ 2) × TellsNext found seen.taken) ⊎ (seen.status ≡ 5)
bip_stops_bad text before seen found traces bad three four = elim (verdict text before seen traces) [
  | inl lacks ↦ inr lacks
  | inr (inl ends) ↦ absurd (bad_ends_not text before seen.left traces.put found bad ends.1)
  | inr (inr (inl stops)) ↦ inl (stops.1, tells_it traces.put seen.taken found stops.0 (bad_stops_there text before seen.left traces.put found stops.0 bad stops.2) stops.3)
  | inr (inr (inr (inl is))) ↦ absurd (three is)
  | inr (inr (inr (inr is))) ↦ absurd (four is)
]

-- ---- what a status says of the script

pub bip_zero : (text : List ℕ) (before : Option (List ℕ)) (seen : Seen) → TracesBip text before seen → seen.status ≡ 0 → IsGoodBip text × (seen.left ≡ Some [])
bip_zero text before seen traces zero = elim (verdict text before seen traces) [
  | inl lacks ↦ absurd (omega (arith, lacks, zero))
  | inr (inl ends) ↦ (end_was_good text before seen.left traces.put ends.1, ends.1.cause.1.told)
  | inr (inr (inl stops)) ↦ let two = stops.1 in absurd (omega (arith, two, zero))
  | inr (inr (inr (inl is))) ↦ absurd (omega (arith, is, zero))
  | inr (inr (inr (inr is))) ↦ absurd (omega (arith, is, zero))
]

pub bip_two : (text : List ℕ) (before : Option (List ℕ)) (seen : Seen) → TracesBip text before seen → seen.status ≡ 2 → StopsAndTells (IsFirstBadBip text) text seen.left seen.taken
bip_two text before seen traces two = elim (verdict text before seen traces) [
  | inl lacks ↦ absurd (omega (arith, lacks, two))
  | inr (inl ends) ↦ let zero = ends.0 in absurd (omega (arith, zero, two))
  | inr (inr (inl stops)) ↦ record {
    found = stops.2.found;
    is = stop_was_bad text before seen.left traces.put stops.0 stops.2;
    tells = tells_it traces.put seen.taken stops.2.found stops.0 stops.2.cause.counted stops.3;
    reach = stops.2.cause.reach;
  }
  | inr (inr (inr (inl is))) ↦ absurd (omega (arith, is, two))
  | inr (inr (inr (inr is))) ↦ absurd (omega (arith, is, two))
]

-- ---- all of it

-- what a run comes to whose trace is that of the channels
pub serves_to_end : (words : List (List ℕ)) (status : ℕ) (before after : World)
    → ((text : List ℕ) → AskForBip words → before.left ≡ Some text → TracesBip text before.taken (seen status before after)) → (AskForBip words → status ≤ 5)
    → (status ≡ 3 → Rose before.source after.source) → (status ≡ 4 → Rose before.sink after.sink) → ServesToEnd words status before after
serves_to_end words status before after traced low read put = record {
  bip_statuses = low;
  bip_complete = λ text asks told sound good. bip_completes text before.taken (seen status before after) (traced text asks told) good (λ three. sound.source_sound (read three)) (λ four. sound.sink_sound (put four));
  bip_bad_line = λ text asks told sound found bad.
      bip_stops_bad text before.taken (seen status before after) found (traced text asks told) bad (λ three. sound.source_sound (read three)) (λ four. sound.sink_sound (put four));
  bip_complete_only = λ text asks told zero. bip_zero text before.taken (seen status before after) (traced text asks told) zero;
  bip_bad_line_only = λ text asks told two. bip_two text before.taken (seen status before after) (traced text asks told) two;
}
