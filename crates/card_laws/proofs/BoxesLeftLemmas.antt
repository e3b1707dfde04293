-- What boxes a fault leaves.
use Rattle.std.proofs.Common.{◌≡◌, ℕ, zero, suc, ◌+◌, add-zero, Bool, true, false, List, [], ◌∷◌, map, Option, None, refl, sym, ◌∙◌, ap, subst, arith, ◌&&◌, if◌then◌else◌, is_some, is_none, slice_index_or, IfSome}
use Rattle.std.specs.List.{enumerate_from}
use Rattle.std.proofs.lemmas.Bool.{false≢true}
use Rattle.std.proofs.lemmas.List.{get_or_default}
use Rattle.card_state.specs.Persistent.{Registration}
use Rattle.applet_trait.specs.Minds.{AppletState}
use Rattle.toolkit_model.specs.Steps.{HaveMinds}
use Rattle.toolkit_model.specs.Registry.{row_on}
use Rattle.card_model.specs.Runs.{box_left, boxes_left}
use Rattle.card_model.specs.States.{IsOfKnownKind, AreOfKnownKinds}
use Rattle.card_laws.proofs.HaveFixedLemmas.{row_there}
use Rattle.card_laws.proofs.AreOfKnownKindsLemmas.{at_shelf}

same_either : (b : Bool) (box : Option AppletState) → (if b then box else box) ≡ box
same_either true box = refl
same_either false box = refl

boxes_from : (before after : List Registration) (start : ℕ) (boxes : List (Option AppletState)) (k : ℕ)
    → slice_index_or (map (λ box. box_left before after box.0 box.1) (enumerate_from start boxes)) k None ≡ box_left before after (start + k) (slice_index_or boxes k None)
boxes_from before after start [] k = sym (same_either (is_some (row_on before (start + k)) && is_none (row_on after (start + k))) None)
boxes_from before after start (box ∷ boxes) zero = ap (λ (shelf : ℕ). box_left before after shelf box) (sym (add-zero start))
boxes_from before after start (box ∷ boxes) (suc k) =
    let shift : start + 1 + k ≡ start + suc k = omega arith in
    boxes_from before after (start + 1) boxes k ∙ ap (λ (shelf : ℕ). box_left before after shelf (slice_index_or boxes k None)) shift

pub left_at : (before after : List Registration) (boxes : List (Option AppletState)) (shelf : ℕ) → slice_index_or (boxes_left before after boxes) shelf None ≡ box_left before after shelf (slice_index_or boxes shelf None)
left_at before after boxes shelf =
    let same : 0 + shelf ≡ shelf = omega arith in
    boxes_from before after 0 boxes shelf ∙ ap (λ (at : ℕ). box_left before after at (slice_index_or boxes shelf None)) same

pub stays_there : (was gone : Bool) (box : Option AppletState) → gone ≡ false → (if was && gone then None else box) ≡ box
stays_there true true box is = absurd (false≢true (sym is))
stays_there true false box is = refl
stays_there false gone box is = refl

-- a box that is left is of the kind that it was
one_left : (was gone : Bool) (box : Option AppletState) → IfSome box IsOfKnownKind → IfSome (if was && gone then None else box) IsOfKnownKind
one_left true true box is = tt
one_left true false box is = is
one_left false gone box is = is

pub kinds_left : (before after : List Registration) (boxes : List (Option AppletState)) → AreOfKnownKinds boxes → AreOfKnownKinds (boxes_left before after boxes)
kinds_left before after boxes are = λ k d low.
    subst (λ (box : Option AppletState). IfSome box IsOfKnownKind) (sym (get_or_default (boxes_left before after boxes) k d None low ∙ left_at before after boxes k))
    (one_left (is_some (row_on before k)) (is_none (row_on after k)) (slice_index_or boxes k None) (at_shelf boxes k are))

-- an applet that is registered still has its box
pub minds_left : (before after : List Registration) (boxes : List (Option AppletState)) → HaveMinds after boxes → HaveMinds after (boxes_left before after boxes)
minds_left before after boxes have = λ k d low.
    let shelf : ℕ = (slice_index_or after k d).shelf in
    let box : Option AppletState = slice_index_or boxes shelf None in
    let same : slice_index_or (boxes_left before after boxes) shelf None ≡ box =
    left_at before after boxes shelf ∙ stays_there (is_some (row_on before shelf)) (is_none (row_on after shelf)) box (row_there after k d low) in
    ap is_some same ∙ have k d low
