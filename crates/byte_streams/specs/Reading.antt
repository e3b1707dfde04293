-- Where a reader of lines stands in a text, and what has been and what is still to be handed out.
use Rattle.std.specs.Prelude.{◌≡◌, ◌⊎◌, ◌+◌, ◌≤◌, ◌<◌, length, ℕ, Bool, true, false, List, [], ◌∷◌, ◌++◌, Option, Some, None, IfSome, option_map, if◌then◌else◌}
use Rattle.byte_streams.specs.declared.limits.TheConstants.{LONGEST_LINE, MOST_BYTES}
use Rattle.byte_streams.specs.declared.next_line.NextLine.{NextLine}
use Rattle.byte_streams.specs.declared.next_line.NextLine.TheVariants.{Line, End, TooLong, Failed}
use Rattle.byte_streams.specs.Lines.{LineList, lines, known, lines_within, known_within}

-- the line that was found last; the bytes that were taken and not handed out; how many bytes the lines to come may take
-- up; and whether the source has told its end
pub record Reading : Type 0 where
  pub line : List ℕ
  pub held : List ℕ
  pub room : ℕ
  pub ended : Bool

-- nothing was taken yet
abbrev pub at_start : Reading
at_start = record { line = []; held = []; room = MOST_BYTES; ended = false }

-- a fact for one outcome
abbrev pub OnLine : NextLine → Type 0 → Type 0
OnLine Line P = P
OnLine End P = Unit {0}
OnLine TooLong P = Unit {0}
OnLine Failed P = Unit {0}

-- the bytes that are still to be handed out, where the source has this left
abbrev pub pending : Reading → List ℕ → List ℕ
pending reading rest = if reading.ended then reading.held else reading.held ++ rest

-- these bytes, where the source tells what it has left
abbrev pub bytes_left : Reading → Option (List ℕ) → Option (List ℕ)
bytes_left reading left = option_map (pending reading) left

-- the lines that are still to come, where the source tells what it has left
abbrev pub lines_left : Reading → Option (List ℕ) → Option LineList
lines_left reading left = option_map (lines_within reading.room) (bytes_left reading left)

-- the source has told its end, and all that was taken was handed out
abbrev pub IsSpent : Reading → Type 0
IsSpent reading = (reading.ended ≡ true) × (reading.held ≡ [])

-- nothing is lost where no line was found: the bytes that are still to be handed out, and how many of them lines may take
-- up, are what they were
pub record Stays (old : Reading) (left : Option (List ℕ)) (new : Reading) (left_then : Option (List ℕ)) : Type 0 where
  pub bytes : bytes_left new left_then ≡ bytes_left old left
  pub room : new.room ≡ old.room

-- the first of these lines is bad
abbrev pub BeginsBad : LineList → Type 0
BeginsBad found = (more : LineList) × (found ≡ None ∷ more)

-- what became of the lines that were still to come, in the search for this one: it is gone from them, or there are none, or the
-- first is bad, or they are what they were
abbrev pub Leaves : NextLine → List ℕ → Option LineList → Option LineList → Type 0
Leaves Line line before after = before ≡ option_map (λ more. Some line ∷ more) after
Leaves End line before after = before ≡ option_map (λ _. []) after
Leaves TooLong line before after = IfSome before BeginsBad
Leaves Failed line before after = after ≡ before

-- a line takes up room, and nothing else does
abbrev pub UsesRoom : NextLine → ℕ → ℕ → Type 0
UsesRoom Line before after = after < before
UsesRoom End before after = after ≡ before
UsesRoom TooLong before after = after ≡ before
UsesRoom Failed before after = after ≡ before

-- Of this text, these lines have been handed out, the reader holds what follows them, and the source has the rest.
pub record HasRead (text : List ℕ) (given : LineList) (reading : Reading) (left : Option (List ℕ)) : Type 0 where
  pub passed : List ℕ
  pub rest : List ℕ
  pub told : left ≡ Some rest
  pub whole : text ≡ passed ++ (reading.held ++ rest)
  pub at_end : reading.ended ≡ true → rest ≡ []
  pub lines_are : lines text ≡ given ++ lines_within reading.room (pending reading rest)
  pub known_are : (IsSpent reading → ⊥) → (more : List ℕ) → known (passed ++ more) ≡ given ++ known_within reading.room more

-- Of this text some was taken and the source has the rest. These lines are all that are known of what was taken, and
-- they are the first of the text.
pub record IsTextCutShort (text : List ℕ) (given : LineList) (left : Option (List ℕ)) : Type 0 where
  pub taken : List ℕ
  pub rest : List ℕ
  pub told : left ≡ Some rest
  pub whole : text ≡ taken ++ rest
  pub known_are : known taken ≡ given
  pub first : (more : LineList) × (lines text ≡ given ++ more)

-- Of this text some was taken and the source has the rest. What was taken and not handed out is at most one byte more than the
-- lines to come may take up.
pub record IsWithin (text : List ℕ) (reading : Reading) (left : Option (List ℕ)) : Type 0 where
  pub taken : List ℕ
  pub rest : List ℕ
  pub told : left ≡ Some rest
  pub whole : text ≡ taken ++ rest
  pub counted : length taken + reading.room ≤ MOST_BYTES + length reading.held
  pub held_few : length reading.held ≤ reading.room + 1

-- Of this text the source has handed on at most so many bytes.
pub record IsTaken (most : ℕ) (text : List ℕ) (left : Option (List ℕ)) : Type 0 where
  pub taken : List ℕ
  pub rest : List ℕ
  pub told : left ≡ Some rest
  pub whole : text ≡ taken ++ rest
  pub few : length taken ≤ most

-- The whole text was handed out as these lines, and the source has nothing left.
pub record IsReadOut (text : List ℕ) (given : LineList) (left : Option (List ℕ)) : Type 0 where
  pub told : left ≡ Some []
  pub lines_are : lines text ≡ given

-- Of this text no more was taken than it needs to know the line after these: but for the last piece, which has at most 602 bytes,
-- these lines alone are known. Or they are all lines of the text, and the source has nothing left.
pub record IsTakenFor (text : List ℕ) (given : LineList) (left : Option (List ℕ)) : Type 0 where
  pub first : List ℕ
  pub piece : List ℕ
  pub rest : List ℕ
  pub told : left ≡ Some rest
  pub whole : text ≡ first ++ (piece ++ rest)
  pub short : length piece ≤ LONGEST_LINE + 2
  pub known_are : (known first ≡ given) ⊎ IsReadOut text given left

-- what a search for the next line found of this text, where these lines were handed out before
abbrev pub Found : NextLine → List ℕ → LineList → Reading → Option (List ℕ) → Type 0
Found Line text given reading left = HasRead text (given ++ Some reading.line ∷ []) reading left
Found End text given reading left = IsReadOut text given left
Found TooLong text given reading left = (more : LineList) × (lines text ≡ given ++ None ∷ more)
Found Failed text given reading left = IsTextCutShort text given left

-- that, and no more was taken than it needs to know it
pub record FindsNext (text : List ℕ) (given : LineList) (reading : Reading) (left : Option (List ℕ)) (result : NextLine) : Type 0 where
  pub found : Found result text given reading left
  pub reach : IsTakenFor text given left
