-- Which scripts are carried out to their end, and after which lines the others stop.
use Rattle.std.specs.Io.KnownBytes.{append_known}
use Rattle.std.specs.List.{AllPass}
use Rattle.std.specs.Prelude.{◌≡◌, ◌⊎◌, ℕ, ◌+◌, List, [], ◌∷◌, ◌++◌, All, length, Option, Some, None, IfSome, Ok, Err}
use Rattle.uicc_types.specs.Counts.{Rose}
use Rattle.uicc_types.specs.Told.{Becomes}
use Rattle.byte_streams.specs.Lines.{LineList, lines}
use Rattle.byte_streams.specs.Reading.{IsTakenFor}
use Rattle.script_form.specs.Traces.{trace_text}
use Rattle.script_form.specs.declared.lines.ScriptLine.{ScriptLine}
use Rattle.script_form.specs.declared.lines.ScriptLine.TheVariants.{Start}
use Rattle.script_form.specs.declared.trace.TraceLine.TheVariants as line
use Rattle.script_reader.specs.Behind.{IsBadBehind}
use Rattle.script_reader.specs.Said.{Say}
use Rattle.card_state.specs.Persistent.{Persistent}
use Rattle.card_state.specs.Standing.{stands_for}
use Rattle.layout_section.specs.Laying.{KeepsFirstOr}
use Rattle.card_model.specs.States.{HasBox}
use Rattle.card_core.specs.Openings.{with_all_shelves}
use Rattle.card_core.specs.Boxes.{IsFirstWithoutBox}
use Rattle.section_lines.specs.SectionReading.{IsBadHere, IsTooMuchHere}
use Rattle.section_lines.specs.Script.{with_lines}
use Rattle.uicc_run.specs.Playing.{Given}
use Rattle.uicc_run.specs.Worlds.{Seen}
use Rattle.uicc_run.specs.Steps.{may_stand}
use Rattle.uicc_run.specs.Stores.{mark_of}
use Rattle.uicc_run.specs.Endings.{refusal_line}
use Rattle.uicc_run.specs.declared.endings.Refusal.{Refusal}
use Rattle.uicc_run.specs.declared.endings.Refusal.TheVariants.{NotACard, NoApplet}

-- These lines say what stands before `start` and after it, each in its place; those before it describe this card, over the one
-- that the run begins with.
pub record AreInPlace (given : Given) (found : LineList) (section played : List ScriptLine) (card : Option Persistent) : Type 0 where
  pub said : Say found (section ++ Start ∷ played)
  pub described : with_lines given.boxes given.first section ≡ Ok card
  pub in_place : AllPass (may_stand given.is_served) played

-- each line of the text is in a form and in its place, and `start` is one of them
pub record IsGoodScript (given : Given) : Type 0 where
  pub section : List ScriptLine
  pub played : List ScriptLine
  pub card : Option Persistent
  pub good : AreInPlace given (lines given.text) section played card

-- these lines of the text are good and stand before `start`, and so is what comes next
pub record StopsBefore (given : Given) (found : LineList) (IsNext : Option Persistent → LineList → Type 0) : Type 0 where
  pub section : List ScriptLine
  pub card : Option Persistent
  pub next : LineList
  pub parted : lines given.text ≡ found ++ next
  pub said : Say found section
  pub described : with_lines given.boxes given.first section ≡ Ok card
  pub is : IsNext card next

-- these lines of the text are good and go beyond `start`, and the next one is bad
pub record StopsBehind (given : Given) (found : LineList) : Type 0 where
  pub section : List ScriptLine
  pub played : List ScriptLine
  pub card : Option Persistent
  pub next : LineList
  pub parted : lines given.text ≡ found ++ next
  pub good : AreInPlace given found section played card
  pub is : IsBadBehind (may_stand given.is_served) next

-- The line after these is the first of the text that is in no form or out of its place, or the text ends there and has no `start`.
abbrev pub IsFirstBad : Given → LineList → Type 0
IsFirstBad given found = StopsBefore given found (IsBadHere given.boxes) ⊎ StopsBehind given found

-- the line after these is the first that can't be added, and there is no room for what it describes
abbrev pub IsFirstTooMuch : Given → LineList → Type 0
IsFirstTooMuch given found = StopsBefore given found (IsTooMuchHere given.boxes)

-- `start` comes after good lines, which describe this card, or none
pub record ReachesStart (given : Given) (card : Option Persistent) : Type 0 where
  pub found : LineList
  pub more : LineList
  pub section : List ScriptLine
  pub parted : lines given.text ≡ found ++ more
  pub said : Say found (section ++ Start ∷ [])
  pub described : with_lines given.boxes given.first section ≡ Ok card

-- the memory holds a card, and each applet that is registered in it has its box
pub record HoldsWholeCard (given : Given) : Type 0 where
  pub start : Persistent
  pub is : given.memory ≡ Ok start
  pub boxes : All (HasBox (with_all_shelves given.boxes)) start.rows

-- Where `start` comes and no card is described, the memory holds one that can be opened. A card that is described can be opened
-- always: each applet that is registered in it is that of a box.
abbrev pub CanOpen : Given → Type 0
CanOpen given = ReachesStart given None → HoldsWholeCard given

-- the memory holds a card, and this is the smallest shelf on which an applet is registered in it that lacks its box
pub record LacksApplet (given : Given) (shelf : ℕ) : Type 0 where
  pub start : Persistent
  pub is : given.memory ≡ Ok start
  pub first_missing : IsFirstWithoutBox start.rows (with_all_shelves given.boxes) shelf

-- it is for this that what the memory holds can't be opened
abbrev pub CannotOpen : Given → Refusal → Type 0
CannotOpen given (NotACard at) = given.memory ≡ Err at
CannotOpen given (NoApplet shelf) = LacksApplet given shelf

-- `start` comes after lines that describe no card, and it is for this that the memory's can't be opened
pub record StopsAtStart (given : Given) (why : Refusal) : Type 0 where
  pub reaches : ReachesStart given None
  pub cannot : CannotOpen given why

-- nothing was shown but the last line, which says why
abbrev pub TellsWhy : Given → Refusal → Option (List ℕ) → Type 0
TellsWhy given why taken = taken ≡ append_known given.before (trace_text (refusal_line why))

-- the run stopped at `start`, and told why
pub record RefusesAndTells (given : Given) (taken : Option (List ℕ)) : Type 0 where
  pub why : Refusal
  pub stops : StopsAtStart given why
  pub tells : TellsWhy given why taken

-- the first bad line of the script stands after these, and the run comes to it
abbrev pub MeetsBad : Given → LineList → Type 0
MeetsBad given found = StopsBefore given found (IsBadHere given.boxes) ⊎ (StopsBehind given found × CanOpen given)

-- The memory failed or lost power while it was formatted as the lines before `start` describe a card: its first eight bytes are the old
-- ones, or it holds the whole of that card.
pub record IsHalfMade (given : Given) (old new : Option (List ℕ)) : Type 0 where
  pub card : Persistent
  pub reaches : ReachesStart given (Some card)
  pub first_last : Becomes (KeepsFirstOr (mark_of given.pages) card) old new

-- a memory that tells these bytes holds just the card that the lines before `start` describe
pub record HoldsDescribed (given : Given) (told : Option (List ℕ)) : Type 0 where
  pub card : Persistent
  pub reaches : ReachesStart given (Some card)
  pub stands : IfSome told (λ content. stands_for (mark_of given.pages) content ≡ Ok card)

-- neither the source nor the sink failed, and the run didn't end for its memory
pub record IsUndisturbed (seen : Seen) : Type 0 where
  pub source_sound : Rose seen.source seen.source_then → ⊥
  pub sink_sound : Rose seen.sink seen.sink_then → ⊥
  pub memory_sound : seen.status ≡ 6 → ⊥

-- what the sink has taken, where it tells that, ends with the line that gives the number of the line after these
abbrev pub TellsNext : LineList → Option (List ℕ) → Type 0
TellsNext found taken = IfSome taken (λ text. (front : List ℕ) × (text ≡ front ++ trace_text (line.Line (length found + 1))))

-- The run stopped at a line that is so, and told its number, which is seen where the sink tells what it has taken. It took no more of the text
-- than it needs to know that line.
pub record StopsAndTells (IsAt : LineList → Type 0) (text : List ℕ) (left taken : Option (List ℕ)) : Type 0 where
  pub found : LineList
  pub is : IsAt found
  pub tells : TellsNext found taken
  pub reach : IsTakenFor text found left
