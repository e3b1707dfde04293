-- The lines of a script's text. The text is cut at each 0A; a 0D before it is no part of the line, and neither is the 0A.
-- The last line may end with the text. A line is None where it is bad for its length or its place: it has more than 600
-- bytes, or it holds byte 16,777,217 of the text or comes after it, its own 0A counted with it.
use Rattle.std.specs.Prelude.{ℕ, ◌+◌, ◌-◌, List, [], ◌∷◌, length, Option, Some, None, ◌==◌, ◌&&◌, ◌||◌, nat_le, nat_lt, if◌then◌else◌}
use Rattle.std.specs.List.{slice_split}
use Rattle.std.specs.Str.Lines.{strip_carriage_return}
use Rattle.byte_streams.specs.declared.limits.TheConstants.{LONGEST_LINE, MOST_BYTES}

-- what comes of each line
abbrev pub LineList : Type 0
LineList = List (Option (List ℕ))

-- the text between the 0A: one part more than there are 0A
abbrev pub parts : List ℕ → List (List ℕ)
parts text = slice_split (λ byte. byte == 10) text

-- a line that takes up this many bytes of the text with its end, where this many may be taken up
abbrev pub admitted : ℕ → ℕ → List ℕ → Option (List ℕ)
admitted room size line = if nat_le (length line) LONGEST_LINE && nat_le size room then Some line else None

-- the lines of parts of which `last` says what the one after the last 0A comes to
abbrev pub lines_of : (ℕ → List ℕ → LineList) → ℕ → List (List ℕ) → LineList
lines_of last room [] = []
lines_of last room (part ∷ []) = last room part
lines_of last room (part ∷ next ∷ more) =
    admitted room (length part + 1) (strip_carriage_return part) ∷ lines_of last (room - (length part + 1)) (next ∷ more)

-- at the end of the text nothing is no line, and anything is one
abbrev pub last_line : ℕ → List ℕ → LineList
last_line room part = if length part == 0 then [] else admitted room (length part) part ∷ []

-- where more may come, a line is known without its 0A only where it is bad already: 602 bytes of it were taken, which
-- are more than 600 and a 0D, or more than may be taken up
abbrev pub begun_line : ℕ → List ℕ → LineList
begun_line room part = if nat_le (LONGEST_LINE + 2) (length part) || nat_lt room (length part) then None ∷ [] else []

-- the lines of a text, of which this many bytes may be taken up
abbrev pub lines_within : ℕ → List ℕ → LineList
lines_within room text = lines_of last_line room (parts text)

-- the lines that are known when these bytes were taken and more may come
abbrev pub known_within : ℕ → List ℕ → LineList
known_within room taken = lines_of begun_line room (parts taken)

-- the lines of a whole script
abbrev pub lines : List ℕ → LineList
lines text = lines_within MOST_BYTES text

-- the lines of a script that are known when this much of it was taken
abbrev pub known : List ℕ → LineList
known taken = known_within MOST_BYTES taken
