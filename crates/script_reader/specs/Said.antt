-- The lines of a text, and what they say, one for one.
use Rattle.std.specs.Prelude.{ℕ, List, [], ◌∷◌, Some, None}
use Rattle.byte_streams.specs.Lines.{LineList}
use Rattle.script_form.specs.Forms.{IsLine}
use Rattle.script_form.specs.Reads.{IsOnly}
use Rattle.script_form.specs.declared.lines.ScriptLine.{ScriptLine}

-- the lines of a text and what they say are in this relation, one for one, and none is too long
abbrev pub Each : (List ℕ → ScriptLine → Type 0) → LineList → List ScriptLine → Type 0
Each R [] [] = Unit {0}
Each R [] (line ∷ said) = ⊥
Each R (found ∷ more) [] = ⊥
Each R (None ∷ more) (line ∷ said) = ⊥
Each R (Some bytes ∷ more) (line ∷ said) = R bytes line × Each R more said

-- these lines say this
abbrev pub Say : LineList → List ScriptLine → Type 0
Say = Each IsLine

-- these lines say this and nothing else
abbrev pub AreRead : LineList → List ScriptLine → Type 0
AreRead = Each (λ bytes line. IsOnly (IsLine bytes) line)
