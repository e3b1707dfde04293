-- Readings of the lines of a script: two of one line agree.
use Rattle.std.proofs.Common.{◌≡◌, ℕ, List, sym}
use Rattle.script_form.specs.Forms.{IsLine}
use Rattle.script_form.specs.Reads.{IsOnly}
use Rattle.script_form.specs.declared.lines.ScriptLine.{ScriptLine}

abbrev pub Only : List ℕ → ScriptLine → Type 0
Only bytes line = IsOnly (IsLine bytes) line

-- what is read is said
abbrev pub Says : (List ℕ → ScriptLine → Type 0) → Type 0
Says R = (bytes : List ℕ) (line : ScriptLine) → R bytes line → IsLine bytes line

-- what two readings of a line have in common
abbrev pub Agree : (List ℕ → ScriptLine → Type 0) → (List ℕ → ScriptLine → Type 0) → Type 0
Agree R S = (bytes : List ℕ) (line other : ScriptLine) → R bytes line → S bytes other → line ≡ other

pub only_first : Agree Only IsLine
only_first bytes line other only says = sym (only.only other says)

pub only_last : Agree IsLine Only
only_last bytes line other says only = only.only line says

pub only_says : Says Only
only_says bytes line only = only.so

pub says_itself : Says IsLine
says_itself bytes line says = says
