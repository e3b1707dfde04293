-- What holds of the stable bytes of every image.
use Rattle.std.specs.Prelude.{◌≡◌, ℕ, ◌≤◌, ◌<◌, Bool, true, false, if◌then◌else◌, List, [], length, slice_index, slice_range, Option, Some, None, option_map, unwrap_or, IfSome}
use Rattle.std.proofs.Common.{refl, sym, ◌∙◌, arith}
use Rattle.std.proofs.lemmas.List.Elements.{All-nil}
use Rattle.store_form.specs.Pieces.{Piece, applied, IsUsablePiece}
use Rattle.store_form.specs.Spared.{AreUsable}
use Rattle.store_form.proofs.SparedLemmas.{length-applied}
use Rattle.update_journal.specs.Entries.{pieces_in}
use Rattle.update_journal.specs.Hidden.{length-hidden, hidden_own}
use Rattle.update_journal.specs.Journal.{is_open, pending, stable_of}
use Rattle.update_journal.specs.WellFormed.{usable_from_area}

usable_or_none : (size : ℕ) (area : List ℕ) (found : Option (List Piece)) → found ≡ pieces_in size area → AreUsable (unwrap_or found []) size
usable_or_none size area None is = All-nil (IsUsablePiece size)
usable_or_none size area (Some pieces) is = usable_from_area size area pieces (sym is)

usable_if : (size : ℕ) (area : List ℕ) (b : Bool) → AreUsable (if b then unwrap_or (pieces_in size area) [] else []) size
usable_if size area true = usable_or_none size area (pieces_in size area) refl
usable_if size area false = All-nil (IsUsablePiece size)

-- the pieces of the commit that is to be ended lie in the image, and outside the journal's own bytes
pub usable-pending : (image : List ℕ) → AreUsable (pending image) (length image)
unfolding pending
usable-pending image = usable_if (length image) (slice_range image 128 832) (is_open image)

-- the stable bytes are as many as the image has
pub length-stable_of : (image : List ℕ) → length (stable_of image) ≡ length image
unfolding stable_of
length-stable_of image = length-hidden (applied (pending image) image) ∙ length-applied (pending image) image (usable-pending image)

-- bytes 64 to 831 of the stable bytes are FF
pub stable_own : (image : List ℕ) (k : ℕ) → 64 ≤ k → k < 832 → k < length image → slice_index (stable_of image) k ≡ 255
unfolding stable_of
stable_own image k low high there = hidden_own (applied (pending image) image) k low high (omega (arith, length-applied (pending image) image (usable-pending image)))

-- the same of what a device tells
pub told_stable : (told : Option (List ℕ)) (size : ℕ) → IfSome told (λ held. length held ≡ size) → IfSome (option_map stable_of told) (λ held. length held ≡ size)
told_stable None size long = long
told_stable (Some image) size long = length-stable_of image ∙ long

-- so it is where a device tells its bytes
pub told_own : (told : Option (List ℕ)) (size k : ℕ) → IfSome told (λ held. length held ≡ size) → 64 ≤ k → k < 832 → k < size → IfSome (option_map stable_of told) (λ held. slice_index held k ≡ 255)
told_own None size k long low high there = long
told_own (Some image) size k long low high there = stable_own image k low high (omega arith)
