-- Lines of a text, and what they say, one for one.
use Rattle.std.proofs.Common.{ℕ, List, [], ◌∷◌, ◌++◌, Some, None}
use Rattle.byte_streams.specs.Lines.{LineList}
use Rattle.script_form.specs.Forms.{IsLine}
use Rattle.script_form.specs.Reads.{IsOnly}
use Rattle.script_form.specs.declared.lines.ScriptLine.{ScriptLine}
use Rattle.script_reader.specs.Said.{AreRead, Each, Say}

-- lines after lines
pub Each-append : (R : List ℕ → ScriptLine → Type 0) (found more : LineList) (said others : List ScriptLine) → Each R found said → Each R more others → Each R (found ++ more) (said ++ others)
Each-append R [] more [] others first rest = rest
Each-append R [] more (line ∷ said) others first rest = absurd first
Each-append R (None ∷ found) more [] others first rest = absurd first
Each-append R (Some bytes ∷ found) more [] others first rest = absurd first
Each-append R (None ∷ found) more (line ∷ said) others first rest = absurd first
Each-append R (Some bytes ∷ found) more (line ∷ said) others first rest =
    (first.0, Each-append R found more said others first.1 rest)

-- one more line
pub AreRead-more : (found : LineList) (said : List ScriptLine) (bytes : List ℕ) (line : ScriptLine) → AreRead found said → IsOnly (IsLine bytes) line → AreRead (found ++ Some bytes ∷ []) (said ++ line ∷ [])
AreRead-more found said bytes line first one =
    Each-append (λ b l. IsOnly (IsLine b) l) found (Some bytes ∷ []) said (line ∷ []) first (one, tt)

-- what is said and nothing else is said
pub Say-from_read : (found : LineList) (said : List ScriptLine) → AreRead found said → Say found said
Say-from_read [] [] read = tt
Say-from_read [] (line ∷ said) read = absurd read
Say-from_read (None ∷ found) [] read = absurd read
Say-from_read (Some bytes ∷ found) [] read = absurd read
Say-from_read (None ∷ found) (line ∷ said) read = absurd read
Say-from_read (Some bytes ∷ found) (line ∷ said) read = (read.0.so, Say-from_read found said read.1)
