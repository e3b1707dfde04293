-- Pieces that are written, also again or in part: they change only what stands in their ranges, and once all of them are
-- written nothing else of those ranges is left.
use Rattle.std.proofs.Common.{◌≡◌, ◌⊎◌, ℕ, suc, zero, ◌+◌, ◌≤◌, ◌<◌, List, [], ◌∷◌, length, take, slice_get, Some, None, All, get_or, sym, inl, inr, ⊎_elim, ◌∙◌, subst, arith, refl}
use Rattle.std.proofs.lemmas.Bool.{cases_lt}
use Rattle.std.proofs.lemmas.Option.{same_Some}
use Rattle.std.proofs.lemmas.List.Elements.{All-head, All-tail}
use Rattle.std.proofs.lemmas.Grind.{same_number_lists}
use Rattle.list_laws.specs.Patches.{patched, Torn}
use Rattle.list_laws.proofs.PatchesLemmas.{All-patched, patched_before, patched_inside, patched_after, length-patched}
use Rattle.store_form.specs.declared.store.TheConstants.{OWN_START, OWN_END}
use Rattle.store_form.specs.Pieces.{Piece, applied, IsUsablePiece}
use Rattle.store_form.specs.Spared.{AreUsable, Spare, Rewritten}

pub length-applied : (pieces : List Piece) (image : List ℕ) → AreUsable pieces (length image) → length (applied pieces image) ≡ length image
length-applied [] image usable = refl
length-applied (piece ∷ pieces) image usable =
    let first = All-head (IsUsablePiece (length image)) piece pieces usable in
    let kept : length (patched piece.place piece.bytes image) ≡ length image = length-patched piece.place piece.bytes image first.range.inside in
    let rest = All-tail (IsUsablePiece (length image)) piece pieces usable in
    let P : ℕ → Type 0 = λ n. AreUsable pieces n in
    length-applied pieces (patched piece.place piece.bytes image) (subst P (sym kept) rest) ∙ kept

-- what is known of the first piece of a list of usable ones, and of the others in the image that it makes
pub record First (size : ℕ) (piece : Piece) (pieces : List Piece) (image : List ℕ) : Type 0 where
  pub here : IsUsablePiece size piece
  pub long : length (patched piece.place piece.bytes image) ≡ size
  pub others : AreUsable pieces size

pub first_of_usable : (size : ℕ) (piece : Piece) (pieces : List Piece) (image : List ℕ) → length image ≡ size → AreUsable (piece ∷ pieces) size → First size piece pieces image
first_of_usable size piece pieces image long usable =
    let here = All-head (IsUsablePiece size) piece pieces usable in
    record { here = here; long = length-patched piece.place piece.bytes image (omega (arith, here.range.inside)) ∙ long; others = All-tail (IsUsablePiece size) piece pieces usable }

-- pieces change only what stands in their ranges
pub Rewritten_applied : (size : ℕ) (pieces : List Piece) (image : List ℕ) → length image ≡ size → AreUsable pieces size → Rewritten pieces image (applied pieces image)
Rewritten_applied size [] image long usable = record { same_length = refl; spared = λ k spare. refl }
Rewritten_applied size (piece ∷ pieces) image long usable =
    let first = first_of_usable size piece pieces image long usable in
    let inside : piece.place + length piece.bytes ≤ length image = omega (arith, first.here.range.inside) in
    let rest = Rewritten_applied size pieces (patched piece.place piece.bytes image) first.long first.others in
    record {
      same_length = rest.same_length ∙ first.long ∙ sym long;
      spared = λ k spare. rest.spared k spare.1
          ∙ ⊎_elim (λ low. patched_before piece.place piece.bytes image inside k low) (λ high. patched_after piece.place piece.bytes image inside k high) spare.0;
    }

-- what holds of each byte of the pieces, and of each of the image, holds of each afterwards
pub All-applied : (P : ℕ → Type 0) (pieces : List Piece) (image : List ℕ) → All (λ piece. All P piece.bytes) pieces → All P image → All P (applied pieces image)
All-applied P [] image put held = held
All-applied P (piece ∷ pieces) image put held =
    All-applied P pieces (patched piece.place piece.bytes image) (All-tail (λ piece. All P piece.bytes) piece pieces put)
    (All-patched P piece.place piece.bytes image (All-head (λ piece. All P piece.bytes) piece pieces put) held)

pub Rewritten_again : (pieces : List Piece) (old mid new : List ℕ) → Rewritten pieces old mid → Rewritten pieces mid new → Rewritten pieces old new
Rewritten_again pieces old mid new first second = record {
  same_length = second.same_length ∙ first.same_length;
  spared = λ k spare. second.spared k spare ∙ first.spared k spare;
}

-- beside one piece, or in it
patched_same : (piece : Piece) (old new : List ℕ) (k : ℕ) → length new ≡ length old → piece.place + length piece.bytes ≤ length old
    → ((k < piece.place) ⊎ (piece.place + length piece.bytes ≤ k) → get_or new k 0 ≡ get_or old k 0) → get_or (patched piece.place piece.bytes new) k 0 ≡ get_or (patched piece.place piece.bytes old) k 0
patched_same piece old new k long fits same =
    let fits' : piece.place + length piece.bytes ≤ length new = omega arith in
    elim (cases_lt k piece.place) [
      | inl low ↦ patched_before piece.place piece.bytes new fits' k low ∙ same (inl low) ∙ sym (patched_before piece.place piece.bytes old fits k low)
      | inr from ↦ elim (cases_lt k (piece.place + length piece.bytes)) [
        | inl to ↦ patched_inside piece.place piece.bytes new fits' k from to ∙ sym (patched_inside piece.place piece.bytes old fits k from to)
        | inr high ↦ patched_after piece.place piece.bytes new fits' k high ∙ same (inr high) ∙ sym (patched_after piece.place piece.bytes old fits k high)
      ]
    ]

-- once all pieces are written, no difference is left
pub applied-Rewritten : (size : ℕ) (pieces : List Piece) (old new : List ℕ) → length old ≡ size → AreUsable pieces size → Rewritten pieces old new → applied pieces new ≡ applied pieces old
applied-Rewritten size [] old new long usable rewritten = same_number_lists new old rewritten.same_length (λ k h. rewritten.spared k tt)
applied-Rewritten size (piece ∷ pieces) old new long usable rewritten =
    let before = first_of_usable size piece pieces old long usable in
    let after = first_of_usable size piece pieces new (rewritten.same_length ∙ long) usable in
    let inside : piece.place + length piece.bytes ≤ length old = omega (arith, before.here.range.inside) in
    applied-Rewritten size pieces (patched piece.place piece.bytes old) (patched piece.place piece.bytes new) before.long before.others
    (record {
      same_length = after.long ∙ sym before.long;
      spared = λ k spare. patched_same piece old new k rewritten.same_length inside (λ beside. rewritten.spared k (beside, spare));
    })

-- writing them twice is writing them once
pub applied-applied : (size : ℕ) (pieces : List Piece) (image : List ℕ) → length image ≡ size → AreUsable pieces size → applied pieces (applied pieces image) ≡ applied pieces image
applied-applied size pieces image long usable = applied-Rewritten size pieces image (applied pieces image) long usable (Rewritten_applied size pieces image long usable)

Spare-take : (pieces : List Piece) (count k : ℕ) → Spare pieces k → Spare (take count pieces) k
Spare-take pieces zero k spare = tt
Spare-take [] (suc count) k spare = tt
Spare-take (piece ∷ pieces) (suc count) k spare = (spare.0, Spare-take pieces count k spare.1)

spare_of : (pieces : List Piece) (at k : ℕ) (piece : Piece) → slice_get pieces at ≡ Some piece → Spare pieces k → (k < piece.place) ⊎ (piece.place + length piece.bytes ≤ k)
spare_of [] at k piece there spare = absurd (let none : None ≡ Some piece = there in cc)
spare_of (first ∷ pieces) zero k piece there spare = let P : Piece → Type 0 = λ p. (k < p.place) ⊎ (p.place + length p.bytes ≤ k) in subst P (same_Some first piece there) spare.0
spare_of (first ∷ pieces) (suc at) k piece there spare = spare_of pieces at k piece there spare.1

-- some of the pieces, and then a part of the next
pub Rewritten_part : (pieces : List Piece) (at : ℕ) (piece : Piece) (old new : List ℕ) → slice_get pieces at ≡ Some piece → Torn piece.place (length piece.bytes) old new → Rewritten pieces old new
Rewritten_part pieces at piece old new there torn = record {
  same_length = torn.same_length;
  spared = λ k spare. ⊎_elim (λ low. torn.before k low) (λ high. torn.after k high) (spare_of pieces at k piece there spare);
}

pub Rewritten_take : (pieces : List Piece) (count : ℕ) (old new : List ℕ) → Rewritten (take count pieces) old new → Rewritten pieces old new
Rewritten_take pieces count old new rewritten = record { same_length = rewritten.same_length; spared = λ k spare. rewritten.spared k (Spare-take pieces count k spare) }

-- no piece has one of the store's own bytes
pub Spare_own : (size : ℕ) (pieces : List Piece) (k : ℕ) → AreUsable pieces size → OWN_START ≤ k → k < OWN_END → Spare pieces k
Spare_own size [] k usable low high = tt
Spare_own size (piece ∷ pieces) k usable low high =
    let here = All-head (IsUsablePiece size) piece pieces usable in
    let beside : (k < piece.place) ⊎ (piece.place + length piece.bytes ≤ k) =
    elim (cases_lt k piece.place) [ inl below ↦ inl below | inr from ↦ inr (omega (arith, here.range.outside here.some)) ] in
    (beside, Spare_own size pieces k (All-tail (IsUsablePiece size) piece pieces usable) low high)
