-- What the calls of a section come to, one after the other.
use Rattle.std.specs.Prelude.{◌≡◌, ◌↔◌, List, [], ◌∷◌, ◌++◌, Ok, Err}
use Rattle.card_state.specs.declared.faults.SectionFault.{SectionFault}
use Rattle.card_state.specs.Persistent.{Persistent}
use Rattle.card_state.specs.Sections.{SectionLine, bare_card, made}
use Rattle.layout_section.specs.Adding.{AddsLine}

-- calls for these lines, one after the other, each of which is taken
abbrev pub TakesLines : List SectionLine → Persistent → Persistent → Type 0
TakesLines [] old new = new ≡ old
TakesLines (line ∷ lines) old new = (next : Persistent) × AddsLine line old (Ok tt) next × TakesLines lines next new

-- A new section takes these lines exactly where they describe a state, and comes to that.
abbrev pub LinesAreMade : Type 0
LinesAreMade = (lines : List SectionLine) (state : Persistent) → TakesLines lines bare_card state ↔ (made lines ≡ Ok state)

-- A section that these lines describe takes one line more exactly where they describe a state with it, and comes to that.
abbrev pub OneMoreIsMade : Type 0
OneMoreIsMade =
    (lines : List SectionLine) (line : SectionLine) (old new : Persistent)
    → made lines ≡ Ok old → AddsLine line old (Ok tt) new ↔ (made (lines ++ line ∷ []) ≡ Ok new)

-- It refuses that line exactly where they describe none with it, for the same reason.
abbrev pub RefusedIsNotMade : Type 0
RefusedIsNotMade =
    (lines : List SectionLine) (line : SectionLine) (old : Persistent) (fault : SectionFault)
    → made lines ≡ Ok old → AddsLine line old (Err fault) old ↔ (made (lines ++ line ∷ []) ≡ Err fault)

-- whatever follows a fault
abbrev pub FaultsStay : Type 0
FaultsStay = (lines rest : List SectionLine) (fault : SectionFault) → made lines ≡ Err fault → made (lines ++ rest) ≡ Err fault
