-- The run of a terminal's channels: what it comes to, and when it comes to its end. No card is made or opened for it.
use Rattle.std.specs.Prelude.{◌≡◌, ℕ, List, Option, Some}
use Rattle.uicc_types.specs.Counts.{Rose}
use Rattle.byte_streams.specs.Streams.{CountsEach}
use Rattle.command_line.specs.Model.{IsRequest}
use Rattle.command_line.specs.declared.requests.Devices.{Devices}
use Rattle.command_line.specs.declared.requests.Mode.TheVariants.{Bip}
use Rattle.bip_runs.specs.Serving.{BipComesTo}
use Rattle.uicc_run.specs.Endings.{status_for}
use Rattle.uicc_run.specs.Headline.{Closes}
use Rattle.uicc_run.specs.Worlds.{Seen}
use Rattle.uicc_run.specs.declared.endings.Ending.{Ending}
use Rattle.uicc_run.specs.declared.endings.Ending.TheVariants.{NoMemory, Played}

-- the words ask for it
abbrev pub AskForBip : List (List ℕ) → Type 0
AskForBip words = (devices : Devices) × IsRequest words (record { mode = Bip; devices = devices })

-- What it comes to before its last line: where there was no memory, none of the script was taken.
abbrev pub ComesToBip : List ℕ → Option (List ℕ) → Option (List ℕ) → Option (List ℕ) → Ending → Type 0
ComesToBip text before left taken NoMemory = (left ≡ Some text) × (taken ≡ before)
ComesToBip text before left taken (Played end) = BipComesTo text before left taken end
ComesToBip text before left taken ending = ⊥

-- why it ended so, be its last line taken or not
pub record IsBipCaused (seen : Seen) (ending : Ending) : Type 0 where
  pub read_failed : CountsEach seen.source seen.source_then (status_for ending ≡ 3)
  pub sink_failed : status_for ending ≡ 4 → Rose seen.sink seen.sink_then

-- The run ended so, for this cause: what it comes to, then the last line.
pub record TracesBip (text : List ℕ) (before : Option (List ℕ)) (seen : Seen) : Type 0 where
  pub ending : Ending
  pub cause : IsBipCaused seen ending
  pub put : Option (List ℕ)
  pub comes : ComesToBip text before seen.left put ending
  pub closes : Closes ending put seen.taken seen.status

-- neither the source nor the sink failed
pub record IsUnbroken (seen : Seen) : Type 0 where
  pub source_sound : Rose seen.source seen.source_then → ⊥
  pub sink_sound : Rose seen.sink seen.sink_then → ⊥
