-- The state that lines describe, line by line.
use Rattle.std.proofs.Common.{◌≡◌, ◌↔◌, List, [], ◌∷◌, ◌++◌, Result, Ok, Err, refl, sym, ◌∙◌, ap}
use Rattle.card_state.specs.declared.faults.SectionFault.{SectionFault}
use Rattle.card_state.specs.Persistent.{Persistent}
use Rattle.card_state.specs.Sections.{SectionLine, bare_card, line_added, made_from, made}
use Rattle.layout_section.specs.Adding.{Adds, AddsLine}
use Rattle.layout_section.specs.Laws.{TakesLines}

-- ---- one line

taken : (outcome : Result Persistent SectionFault) (old new : Persistent) → Adds outcome old (Ok tt) new → outcome ≡ Ok new
taken (Ok state) old new follows = ap Ok (sym follows.1)
taken (Err fault) old new follows = absurd (let never : Ok tt ≡ Err fault = follows.0 in cc)

takes : (outcome : Result Persistent SectionFault) (old new : Persistent) → outcome ≡ Ok new → Adds outcome old (Ok tt) new
takes (Ok state) old new is = (refl, sym (same_state state new is)) where
  same_state : (a b : Persistent) → (let left : Result Persistent SectionFault = Ok a in left) ≡ Ok b → a ≡ b
  same_state a b same = cc
takes (Err fault) old new is = absurd (let never : (let left : Result Persistent SectionFault = Err fault in left) ≡ Ok new = is in cc)

refused : (outcome : Result Persistent SectionFault) (old new : Persistent) (fault : SectionFault) → Adds outcome old (Err fault) new → outcome ≡ Err fault
refused (Ok state) old new fault follows = absurd (let never : (let left : Result (Unit {0}) SectionFault = Err fault in left) ≡ Ok tt = follows.0 in cc)
refused (Err other) old new fault follows = ap Err (same_fault fault other follows.0) where
  same_fault : (a b : SectionFault) → (let left : Result (Unit {0}) SectionFault = Err a in left) ≡ Err b → b ≡ a
  same_fault a b same = cc

refuses : (outcome : Result Persistent SectionFault) (old : Persistent) (fault : SectionFault) → outcome ≡ Err fault → Adds outcome old (Err fault) old
refuses (Ok state) old fault is = absurd (let never : (let left : Result Persistent SectionFault = Ok state in left) ≡ Err fault = is in cc)
refuses (Err other) old fault is = (ap Err (same_fault other fault is), refl) where
  same_fault : (a b : SectionFault) → (let left : Result Persistent SectionFault = Err a in left) ≡ Err b → b ≡ a
  same_fault a b same = cc

-- ---- lines

no_more : (fault : SectionFault) (lines : List SectionLine) → made_from (Err fault) lines ≡ Err fault
no_more fault [] = refl
no_more fault (line ∷ lines) = refl

made_on : (outcome : Result Persistent SectionFault) (lines rest : List SectionLine) → made_from outcome (lines ++ rest) ≡ made_from (made_from outcome lines) rest
made_on outcome [] rest = refl
made_on (Ok state) (line ∷ lines) rest = made_on (line_added state line) lines rest
made_on (Err fault) (line ∷ lines) rest = sym (no_more fault rest)

lines_taken : (lines : List SectionLine) (old new : Persistent) → TakesLines lines old new → made_from (Ok old) lines ≡ Ok new
lines_taken [] old new same = ap Ok (sym same)
lines_taken (line ∷ lines) old new takes_them =
    ap (λ (outcome : Result Persistent SectionFault). made_from outcome lines) (taken (line_added old line) old takes_them.0 takes_them.1) ∙ lines_taken lines takes_them.0 new takes_them.2

takes_lines : (lines : List SectionLine) (old new : Persistent) → made_from (Ok old) lines ≡ Ok new → TakesLines lines old new
takes_lines [] old new is = sym (same_state old new is) where
  same_state : (a b : Persistent) → (let left : Result Persistent SectionFault = Ok a in left) ≡ Ok b → a ≡ b
  same_state a b same = cc
takes_lines (line ∷ lines) old new is = by_outcome (λ next rest. takes_lines lines next new rest) (line_added old line) refl is where
  by_outcome : ((next : Persistent) → made_from (Ok next) lines ≡ Ok new → TakesLines lines next new) → (outcome : Result Persistent SectionFault) → line_added old line ≡ outcome
      → made_from outcome lines ≡ Ok new → (next : Persistent) × AddsLine line old (Ok tt) next × TakesLines lines next new
  by_outcome later (Ok next) this rest = (next, takes (line_added old line) old next this, later next rest)
  by_outcome later (Err fault) this rest =
      absurd (let never : (let left : Result Persistent SectionFault = Err fault in left) ≡ Ok new = sym (no_more fault lines) ∙ rest in cc)

pub lines_are_made : (lines : List SectionLine) (state : Persistent) → TakesLines lines bare_card state ↔ (made lines ≡ Ok state)
lines_are_made lines state = (lines_taken lines bare_card state, takes_lines lines bare_card state)

-- what lines come to with one more
with_line : (lines : List SectionLine) (line : SectionLine) (old : Persistent) → made lines ≡ Ok old → made (lines ++ line ∷ []) ≡ line_added old line
with_line lines line old before = made_on (Ok bare_card) lines (line ∷ []) ∙ ap (λ (outcome : Result Persistent SectionFault). made_from outcome (line ∷ [])) before

pub one_more_is_made : (lines : List SectionLine) (line : SectionLine) (old new : Persistent) → made lines ≡ Ok old → AddsLine line old (Ok tt) new ↔ (made (lines ++ line ∷ []) ≡ Ok new)
one_more_is_made lines line old new before =
    let all : made (lines ++ line ∷ []) ≡ line_added old line = with_line lines line old before in
    (λ adds. all ∙ taken (line_added old line) old new adds, λ is. takes (line_added old line) old new (sym all ∙ is))

pub refused_is_not_made : (lines : List SectionLine) (line : SectionLine) (old : Persistent) (fault : SectionFault) → made lines ≡ Ok old → AddsLine line old (Err fault) old ↔ (made (lines ++ line ∷ []) ≡ Err fault)
refused_is_not_made lines line old fault before =
    let all : made (lines ++ line ∷ []) ≡ line_added old line = with_line lines line old before in
    (λ adds. all ∙ refused (line_added old line) old old fault adds, λ is. refuses (line_added old line) old fault (sym all ∙ is))

pub faults_stay : (lines rest : List SectionLine) (fault : SectionFault) → made lines ≡ Err fault → made (lines ++ rest) ≡ Err fault
faults_stay lines rest fault before =
    made_on (Ok bare_card) lines rest ∙ ap (λ (outcome : Result Persistent SectionFault). made_from outcome rest) before ∙ no_more fault rest
