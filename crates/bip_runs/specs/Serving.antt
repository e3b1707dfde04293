-- Why and how the run of a terminal ends, and which scripts are carried out to their end.
use Rattle.std.specs.Io.KnownBytes.{append_known}
use Rattle.std.specs.Prelude.{◌≡◌, ℕ, List, [], ◌∷◌, ◌++◌, Option, Some, None}
use Rattle.uicc_types.specs.Told.{Becomes}
use Rattle.byte_streams.specs.Lines.{LineList, lines}
use Rattle.byte_streams.specs.Reading.{IsTextCutShort, IsReadOut}
use Rattle.byte_streams.specs.Streams.{TakesFront}
use Rattle.script_form.specs.Forms.{IsLine}
use Rattle.script_form.specs.declared.lines.ScriptLine.{ScriptLine}
use Rattle.script_reader.specs.Reading.{GoesOn}
use Rattle.script_reader.specs.Said.{AreRead, Say}
use Rattle.script_reader.specs.declared.behind.PlayEnd.{PlayEnd}
use Rattle.script_reader.specs.declared.behind.PlayEnd.TheVariants.{Finished, BadLine, ReadFailed, SinkFailed, ResetFailed}
use Rattle.bip_channels.specs.Channels.{BipChannel}
use Rattle.bip_channels.specs.History.{Tells}
use Rattle.bip_channels.specs.Traffic.{Occurrence, channel_at, channels_after, given_to, got_from}
use Rattle.bip_runs.specs.Parts.{moved, moved_by}
use Rattle.bip_runs.specs.Traces.{history, lines_of, shown, text_of, trace_of}
use Rattle.bip_runs.specs.declared.effects.Place.{Place}
use Rattle.bip_runs.specs.declared.effects.Place.TheVariants.{Before, Behind}

-- these lines of the text were read, each with one reading alone and in its place, and the script goes on here
pub record AreReadInPlace (found : LineList) (said : List ScriptLine) (place : Place) : Type 0 where
  pub read : AreRead found said
  pub in_place : moved_by Before said ≡ Some place

-- ---- why it ends

-- `start` is still to come
abbrev pub IsUnstarted : Place → Type 0
IsUnstarted Before = Unit {0}
IsUnstarted Behind = ⊥

-- What comes next is bad: a line in no form, one that may not stand here, or the end before `start`.
abbrev pub IsBadAt : Place → LineList → Type 0
IsBadAt place [] = IsUnstarted place
IsBadAt place (None ∷ more) = Unit {0}
IsBadAt place (Some bytes ∷ more) = (line : ScriptLine) → IsLine bytes line → moved place line ≡ None

-- Why a script goes no further, of which these lines were read: it was read out and `start` was in it, or the next line is bad, or the source
-- failed. That the sink failed is said apart, and no card is there that could be reset.
abbrev pub Stops : Place → List ℕ → LineList → Option (List ℕ) → PlayEnd → Type 0
Stops place text found left Finished = (place ≡ Behind) × IsReadOut text found left
Stops place text found left (BadLine number) = GoesOn text found left (IsBadAt place) number
Stops place text found left ReadFailed = IsTextCutShort text found left
Stops place text found left SinkFailed = ⊥
Stops place text found left ResetFailed = ⊥

-- ---- how it ends

-- On each channel, at each moment that it was open, the bytes that the card got since its OPEN are the first of those that were sent,
-- and these the first of those that it gave, in their order.
abbrev pub AreInOrder : List Occurrence → Type 0
AreInOrder history =
    (later earlier : List Occurrence) (place : ℕ) (channel : BipChannel) → history ≡ later ++ earlier → channel_at place earlier ≡ Some channel
    → Tells channel (given_to place earlier) (got_from place earlier)

-- The run ended so: the trace is that of the lines that were read.
pub record EndsServing (text : List ℕ) (before left taken : Option (List ℕ)) (end : PlayEnd) : Type 0 where
  pub found : LineList
  pub said : List ScriptLine
  pub place : Place
  pub lines_are : AreReadInPlace found said place
  pub cause : Stops place text found left end
  pub written : taken ≡ append_known before (trace_of said)
  pub in_order : AreInOrder (history said)

-- The sink failed in what the last of these lines shows: it has taken the trace of those before it, and the beginning of what that
-- one shows, be it none or all.
pub record StopsServing (text : List ℕ) (before taken : Option (List ℕ)) : Type 0 where
  pub found : LineList
  pub more : LineList
  pub said : List ScriptLine
  pub place : Place
  pub newest : Occurrence
  pub earlier : List Occurrence
  pub parted : lines text ≡ found ++ more
  pub lines_are : AreReadInPlace found said place
  pub happened : history said ≡ newest ∷ earlier
  pub written : Becomes (TakesFront (text_of (lines_of newest (channels_after earlier)))) (append_known before (shown earlier)) taken
  pub in_order : AreInOrder (history said)

-- what a run comes to by its end
abbrev pub BipComesTo : List ℕ → Option (List ℕ) → Option (List ℕ) → Option (List ℕ) → PlayEnd → Type 0
BipComesTo text before left taken SinkFailed = StopsServing text before taken
BipComesTo text before left taken ResetFailed = ⊥
BipComesTo text before left taken end = EndsServing text before left taken end

-- ---- which scripts are carried out to their end

-- these lines say this, each in its place, and the script goes on here
pub record AreInPlace (found : LineList) (said : List ScriptLine) (place : Place) : Type 0 where
  pub say : Say found said
  pub in_place : moved_by Before said ≡ Some place

-- each line of the text is in a form and in its place, and `start` is one of them
pub record IsGoodBip (text : List ℕ) : Type 0 where
  pub said : List ScriptLine
  pub good : AreInPlace (lines text) said Behind

-- The line after these is the first of the text that is in no form or out of its place, or the text ends there and has no `start`.
pub record IsFirstBadBip (text : List ℕ) (found : LineList) : Type 0 where
  pub said : List ScriptLine
  pub place : Place
  pub next : LineList
  pub parted : lines text ≡ found ++ next
  pub good : AreInPlace found said place
  pub is : IsBadAt place next
