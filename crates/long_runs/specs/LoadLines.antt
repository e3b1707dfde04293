-- The lines that are made from a number: a row of the table for each value of a word's lowest three bits.
use Rattle.std.specs.Int.{w32, to_be_bytes}
use Rattle.std.specs.Prelude.{◌≡◌, ℕ, zero, suc, ◌+◌, ◌/◌, ◌%◌, List, [], ◌∷◌, slice_index_or, codes, Option, Some, None}
use Rattle.rand_pcg.specs.Lcg.{Lcg, started, increment_of}
use Rattle.rand_pcg.specs.Pcg.{multiplier_64, pcg32}
use Rattle.script_form.specs.declared.handset.HandsetLine.{HandsetLine}
use Rattle.script_form.specs.declared.handset.HandsetLine.TheVariants.{UserOk, UserEnd, UserType, UserPick, UserPress, NetPlace, NetPoll, Time}

-- a location in a network of the country 001, with the word's bytes as its area and cell, highest first
abbrev pub place_for : ℕ → List ℕ
place_for word = 0x00 ∷ 0xF1 ∷ 0x10 ∷ to_be_bytes w32 word

-- the lines that a word can stand for
abbrev pub choices : ℕ → List HandsetLine
choices word =
    UserPick (1 + word / 8 % 16)
    ∷ UserOk
    ∷ UserEnd
    ∷ NetPlace (place_for word)
    ∷ Time (1 + word / 8 % 300)
    ∷ UserPress
    ∷ UserType (codes "T")
    ∷ NetPoll
    ∷ []

-- the one that it stands for
unfoldable pub line_for : ℕ → HandsetLine
line_for word = slice_index_or (choices word) (word % 8) NetPoll

-- the words of a number: those of the generator PCG32 in its stream 1
abbrev pub words_from : ℕ → Lcg
words_from start = started 64 multiplier_64 start (increment_of 64 1)

-- the lines of the next words
unfoldable pub lines_of_words : ℕ → Lcg → List HandsetLine
lines_of_words zero words = []
lines_of_words (suc count) words = line_for (pcg32 words).0 ∷ lines_of_words count (pcg32 words).1

-- so many lines from a number
abbrev pub made_lines : ℕ → ℕ → List HandsetLine
made_lines start count = lines_of_words count (words_from start)

-- the first line is taken, if there is one
abbrev pub AreTaken : List HandsetLine → Option HandsetLine → List HandsetLine → Type 0
AreTaken before None after = (before ≡ []) × (after ≡ [])
AreTaken before (Some line) after = before ≡ line ∷ after
