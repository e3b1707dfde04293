-- The card of a long run, as its rows describe it.
use Rattle.std.specs.Prelude.{◌≡◌, ℕ, ◌+◌, List, take, Option, Some, Result, Ok, Err, slice_get}
use Rattle.script_form.specs.declared.lines.ScriptLine.{ScriptLine}
use Rattle.card_state.specs.Persistent.{Persistent}
use Rattle.card_state.specs.declared.faults.SectionFault.{SectionFault}
use Rattle.applet_trait.specs.Minds.{AppletState}
use Rattle.section_lines.specs.Script.{described, with_lines}
use Rattle.long_runs.specs.FixedRows.{fixed_rows}

-- So many rows were added, and describe this card.
abbrev pub AreDescribed : List (Option AppletState) → Persistent → ℕ → Persistent → Type 0
AreDescribed cast old count new = with_lines cast (Some old) (take count fixed_rows) ≡ Ok (Some new)

-- the row with this number, counted from 1, is the first that can't be added
pub record IsFirstRefused (cast : List (Option AppletState)) (old new : Persistent) (number : ℕ) : Type 0 where
  pub place : ℕ
  pub row : ScriptLine
  pub fault : SectionFault
  pub number_is : number ≡ place + 1
  pub row_is : slice_get fixed_rows place ≡ Some row
  pub before : AreDescribed cast old place new
  pub refused : described cast new row ≡ Err fault

-- all rows were added, or those before the first that can't be
abbrev pub GivesRows : List (Option AppletState) → Persistent → Persistent → Result (Unit {0}) ℕ → Type 0
GivesRows cast old new (Ok done) = with_lines cast (Some old) fixed_rows ≡ Ok (Some new)
GivesRows cast old new (Err number) = IsFirstRefused cast old new number
