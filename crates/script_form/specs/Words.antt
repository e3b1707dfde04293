-- The words of a line.
use Rattle.std.specs.Prelude.{ℕ, ◌==◌, List, [], Option, Some, None}
use Rattle.std.specs.Borrow.{Bor}
use Rattle.std.specs.List.{slice_split}

-- what stands between the spaces of a line: two spaces in a row have an empty word between them
unfoldable pub words : List ℕ → List (List ℕ)
words line = slice_split (λ byte. byte == 32) line

-- the words of what is left of a line, if anything is
abbrev pub words_left : Option (Bor (List ℕ)) → List (List ℕ)
words_left None = []
words_left (Some rest) = words rest.now
