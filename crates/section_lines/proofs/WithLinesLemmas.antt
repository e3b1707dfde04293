-- What the lines of a section come to, one after the other.
use Rattle.std.proofs.Common.{◌≡◌, List, [], ◌∷◌, ◌++◌, Option, Result, Ok, Err, refl, ap, ◌∙◌}
use Rattle.script_form.specs.declared.lines.ScriptLine.{ScriptLine}
use Rattle.card_state.specs.Persistent.{Persistent}
use Rattle.card_state.specs.declared.faults.SectionFault.{SectionFault}
use Rattle.applet_trait.specs.Minds.{AppletState}
use Rattle.section_lines.specs.Script.{then_on, with_line, with_lines}

-- lines after lines add to what the first ones come to
then_same : (cast : List (Option AppletState)) (first rest : List ScriptLine) → ((card : Option Persistent) → with_lines cast card (first ++ rest) ≡ then_on (λ c. with_lines cast c rest) (with_lines cast card first))
    → (next : Result (Option Persistent) SectionFault) → then_on (λ c. with_lines cast c (first ++ rest)) next ≡ then_on (λ c. with_lines cast c rest) (then_on (λ c. with_lines cast c first) next)
then_same cast first rest same (Err fault) = refl
then_same cast first rest same (Ok card) = same card

pub with_lines-append : (cast : List (Option AppletState)) (first rest : List ScriptLine) (card : Option Persistent) → with_lines cast card (first ++ rest) ≡ then_on (λ c. with_lines cast c rest) (with_lines cast card first)
with_lines-append cast [] rest card = refl
with_lines-append cast (line ∷ first) rest card = then_same cast first rest (with_lines-append cast first rest) (with_line cast card line)

-- one more line
pub with_lines-more : (cast : List (Option AppletState)) (card next : Option Persistent) (came : Result (Option Persistent) SectionFault) (first : List ScriptLine) (line : ScriptLine) → with_lines cast card first ≡ Ok next → with_line cast next line ≡ came
    → with_lines cast card (first ++ line ∷ []) ≡ then_on (λ c. Ok c) came
with_lines-more cast card next came first line comes adds =
    with_lines-append cast first (line ∷ []) card ∙ ap (λ so_far. then_on (λ c. with_lines cast c (line ∷ [])) so_far) comes ∙ ap (λ added. then_on (λ c. Ok c) added) adds

-- where lines describe a card, the first of them does, and the others do over it
pub record Splits (cast : List (Option AppletState)) (card new : Option Persistent) (line : ScriptLine) (more : List ScriptLine) : Type 0 where
  pub next : Option Persistent
  pub one : with_line cast card line ≡ Ok next
  pub others : with_lines cast next more ≡ Ok new

splits_at : (cast : List (Option AppletState)) (new : Option Persistent) (more : List ScriptLine) (adds : Result (Option Persistent) SectionFault) → then_on (λ c. with_lines cast c more) adds ≡ Ok new
    → (next : Option Persistent) × (adds ≡ Ok next) × (with_lines cast next more ≡ Ok new)
splits_at cast new more (Err fault) comes = absurd (cc)
splits_at cast new more (Ok next) comes = (next, refl, comes)

pub splits : (cast : List (Option AppletState)) (card new : Option Persistent) (line : ScriptLine) (more : List ScriptLine) → with_lines cast card (line ∷ more) ≡ Ok new → Splits cast card new line more
splits cast card new line more comes = let parts = splits_at cast new more (with_line cast card line) comes in record { next = parts.0; one = parts.1; others = parts.2 }
