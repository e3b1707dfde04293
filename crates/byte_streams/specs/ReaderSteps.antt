-- The steps in which a reader finds a line. No public clause cites this module.
use Rattle.std.specs.Prelude.{◌≡◌, ℕ, ◌+◌, ◌-◌, ◌<◌, ◌⊎◌, true, List, [], ◌∷◌, ◌++◌, length, take, drop, Option, Some}
use Rattle.std.specs.Io.KnownBytes.{prepend_known, IsAtEnd}
use Rattle.std.specs.Str.Lines.{strip_carriage_return}
use Rattle.byte_streams.specs.Lines.{admitted}
use Rattle.byte_streams.specs.Reading.{Reading}
use Rattle.byte_streams.specs.Search.{NoEndBelow}

-- more was taken from the source, or its end was told, and nothing was handed out
pub record Continues (old : Reading) (left : Option (List ℕ)) (new : Reading) (left_then : Option (List ℕ)) : Type 0 where
  pub part : List ℕ
  pub held : new.held ≡ old.held ++ part
  pub handed : left ≡ prepend_known part left_then
  pub room : new.room ≡ old.room
  pub idle : old.ended ≡ true → new.held ≡ old.held
  pub stays : old.ended ≡ true → new.ended ≡ true
  pub at_end : new.ended ≡ true → (old.ended ≡ true) ⊎ IsAtEnd left_then

-- the first line of what is held, up to its end, was handed out
pub record PassesLine (old new : Reading) : Type 0 where
  pub body : List ℕ
  pub none : NoEndBelow body (length body)
  pub held : old.held ≡ body ++ (10 ∷ new.held)
  pub room : new.room ≡ old.room - (length body + 1)
  pub ended : new.ended ≡ old.ended
  pub line : admitted old.room (length body + 1) (strip_carriage_return body) ≡ Some new.line

-- all that is held was handed out as the last line
pub record PassesLast (old new : Reading) : Type 0 where
  pub ended : old.ended ≡ true
  pub none : NoEndBelow old.held (length old.held)
  pub some : 0 < length old.held
  pub nothing_held : new.held ≡ []
  pub stays : new.ended ≡ true
  pub line : admitted old.room (length old.held) old.held ≡ Some new.line

-- a line of so many bytes was handed out, which takes up so many with its end
abbrev pub after_line : Reading → ℕ → ℕ → Reading
after_line reading line size =
    record { line = take line reading.held; held = drop size reading.held; room = reading.room - size; ended = reading.ended }
