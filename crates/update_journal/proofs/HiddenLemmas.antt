-- An image with FF in place of the journal's own bytes, byte by byte, and pieces that are written into it.
use Rattle.std.proofs.Common.{◌≡◌, ℕ, ◌+◌, ◌-◌, ◌≤◌, ◌<◌, List, [], ◌∷◌, ◌++◌, length, take, drop, get_or, refl, sym, ◌∙◌, ap, subst, arith, length-append}
use Rattle.std.proofs.lemmas.List.{length-take, get_or_append_left, get_or-append_right, get_or-take, get_or-drop}
use Rattle.std.proofs.lemmas.List.Elements.{All-head, All-tail}
use Rattle.std.proofs.lemmas.Grind.{same_number_lists}
use Rattle.list_laws.specs.Patches.{patched, Torn}
use Rattle.list_laws.proofs.PatchesLemmas.{length-patched, patched_before, patched_inside, patched_after}
use Rattle.store_form.specs.Pieces.{Piece, applied, IsUsable, IsUsablePiece}
use Rattle.store_form.specs.Spared.{AreUsable}
use Rattle.update_journal.specs.Journal.{hidden}
use Rattle.update_journal.specs.Hidden.{length-hidden, filling, length-filling, hidden_own}

pub hidden_below : (image : List ℕ) (k : ℕ) → k < 64 → k < length image → get_or (hidden image) k 0 ≡ get_or image k 0
unfolding hidden
hidden_below image k low there =
    get_or_append_left (take 64 image ++ filling image) (drop 832 image) 0 k (omega (arith, length-append (take 64 image) (filling image), length-take 64 image))
    ∙ get_or_append_left (take 64 image) (filling image) 0 k (omega (arith, length-take 64 image)) ∙ get_or-take 64 image k 0 low

pub hidden_above : (image : List ℕ) (k : ℕ) → 832 ≤ k → k < length image → get_or (hidden image) k 0 ≡ get_or image k 0
unfolding hidden
hidden_above image k high there =
    let back : 832 + (k - 832) ≡ k = omega arith in
    get_or-append_right (take 64 image ++ filling image) (drop 832 image) 832 k 0 (omega (arith, length-append (take 64 image) (filling image), length-take 64 image, length-filling image)) high
    ∙ get_or-drop 832 image (k - 832) 0 ∙ ap (λ (n : ℕ). get_or image n 0) back

-- only what stands outside the journal's own bytes is seen
pub hidden-Torn : (old new : List ℕ) → Torn 64 768 old new → hidden new ≡ hidden old
hidden-Torn old new torn =
    let long : length new ≡ length old = torn.same_length in
    same_number_lists _ _ (length-hidden new ∙ long ∙ sym (length-hidden old)) (λ k h. grind (arith, length-hidden new, torn.before k, torn.after k, hidden_below, hidden_own, hidden_above))

pub hidden-patched : (at : ℕ) (bytes image : List ℕ) → 0 < length bytes → IsUsable (length image) at (length bytes) → hidden (patched at bytes image) ≡ patched at bytes (hidden image)
hidden-patched at bytes image some usable =
    let inside : at + length bytes ≤ length image = usable.inside in
    let outside : at < 832 → at + length bytes ≤ 64 = usable.outside some in
    let first : length (patched at bytes image) ≡ length image = length-patched at bytes image inside in
    let second : length (hidden image) ≡ length image = length-hidden image in
    let within : at + length bytes ≤ length (hidden image) = omega arith in
    let third : length (patched at bytes (hidden image)) ≡ length (hidden image) = length-patched at bytes (hidden image) within in
    let fourth : length (hidden (patched at bytes image)) ≡ length (patched at bytes image) = length-hidden (patched at bytes image) in
    same_number_lists _ _ (omega arith) (λ k h. grind (arith, hidden_below, hidden_own, hidden_above, patched_before at bytes image inside k, patched_inside at bytes image inside k, patched_after at bytes image inside k, patched_before at bytes (hidden image) within k, patched_inside at bytes (hidden image) within k, patched_after at bytes (hidden image) within k))

pub hidden-applied : (pieces : List Piece) (image : List ℕ) → AreUsable pieces (length image) → hidden (applied pieces image) ≡ applied pieces (hidden image)
hidden-applied [] image usable = refl
hidden-applied (piece ∷ pieces) image usable =
    let first = All-head (IsUsablePiece (length image)) piece pieces usable in
    let kept : length (patched piece.place piece.bytes image) ≡ length image = length-patched piece.place piece.bytes image first.range.inside in
    let rest = All-tail (IsUsablePiece (length image)) piece pieces usable in
    let P : ℕ → Type 0 = λ n. AreUsable pieces n in
    hidden-applied pieces (patched piece.place piece.bytes image) (subst P (sym kept) rest) ∙ ap (λ (l : List ℕ). applied pieces l) (hidden-patched piece.place piece.bytes image first.some first.range)
