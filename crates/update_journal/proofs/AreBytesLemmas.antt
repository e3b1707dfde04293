-- What a journal tells are bytes, where its device tells bytes.
use Rattle.std.specs.Int.{w16, from_be_bytes}
use Rattle.std.proofs.Common.{ℕ, zero, suc, ◌<◌, ◌^◌, ◌&&◌, Bool, true, false, nat_le, if◌then◌else◌, List, [], ◌∷◌, ◌++◌, length, take, drop, slice_range, replicate, Option, Some, None, option_map, option_and_then, unwrap_or, All, IfSome, arith}
use Rattle.std.proofs.lemmas.List.Elements.{All-append, All-cons, All-drop, All-nil, All-replicate, All-take}
use Rattle.uicc_types.specs.Told.{AreBytes}
use Rattle.store_form.specs.Pieces.{Piece, applied}
use Rattle.store_form.proofs.SparedLemmas.{All-applied}
use Rattle.update_journal.specs.Entries.{first_piece, first_pieces, are_well_formed, if_well_formed, pieces_in}
use Rattle.update_journal.specs.Journal.{is_open, pending, hidden, stable_of}

abbrev IsByte : ℕ → Type 0
IsByte byte = byte < 2 ^ 8

abbrev HaveBytes : List Piece → Type 0
HaveBytes = All (λ piece. AreBytes piece.bytes)

abbrev IsOfBytes : Piece × List ℕ → Type 0
IsOfBytes found = AreBytes found.0.bytes × AreBytes found.1

abbrev place_of : ℕ → ℕ → ℕ
place_of upper lower = from_be_bytes w16 (upper ∷ lower ∷ [])

split_at : (place count : ℕ) (rest : List ℕ) (b : Bool) → AreBytes rest → IfSome (if b then Some (record { place = place; bytes = take count rest }, drop count rest) else None) IsOfBytes
split_at place count rest true held = (All-take IsByte count rest held, All-drop IsByte count rest held)
split_at place count rest false held = tt

first_of : (bytes : List ℕ) → AreBytes bytes → IfSome (first_piece bytes) IsOfBytes
first_of [] held = tt
first_of (p0 ∷ []) held = tt
first_of (p0 ∷ p1 ∷ []) held = tt
first_of (p0 ∷ p1 ∷ l0 ∷ []) held = tt
first_of (p0 ∷ p1 ∷ l0 ∷ l1 ∷ rest) held =
    split_at (place_of p0 p1) (place_of l0 l1) rest (nat_le (place_of l0 l1) (length rest)) (All-drop IsByte 4 (p0 ∷ p1 ∷ l0 ∷ l1 ∷ rest) held)

join_to : (piece : Piece) (found : Option (List Piece)) → AreBytes piece.bytes → IfSome found HaveBytes → IfSome (option_map (λ pieces. piece ∷ pieces) found) HaveBytes
join_to piece None first rest = tt
join_to piece (Some pieces) first rest = All-cons (λ p. AreBytes p.bytes) piece pieces first rest

after_first : (count : ℕ) (found : Option (Piece × List ℕ)) → IfSome found IsOfBytes → ((rest : List ℕ) → AreBytes rest → IfSome (first_pieces count rest) HaveBytes)
    → IfSome (option_and_then (λ found. option_map (λ pieces. found.0 ∷ pieces) (first_pieces count found.1)) found) HaveBytes
after_first count None first rest = tt
after_first count (Some found) first rest = join_to found.0 (first_pieces count found.1) first.0 (rest found.1 first.1)

pieces_of : (count : ℕ) (bytes : List ℕ) → AreBytes bytes → IfSome (first_pieces count bytes) HaveBytes
pieces_of zero bytes held = All-nil (λ piece. AreBytes piece.bytes)
pieces_of (suc count) bytes held = after_first count (first_piece bytes) (first_of bytes held) (λ rest held. pieces_of count rest held)

if_formed : (pieces : List Piece) (b : Bool) → HaveBytes pieces → IfSome (if b then Some pieces else None) HaveBytes
if_formed pieces true held = held
if_formed pieces false held = tt

formed : (size : ℕ) (found : Option (List Piece)) → IfSome found HaveBytes → IfSome (option_and_then (if_well_formed size) found) HaveBytes
formed size None held = tt
formed size (Some pieces) held = if_formed pieces (are_well_formed size pieces) held

if_counted : (size count : ℕ) (bytes : List ℕ) (b : Bool) → AreBytes bytes → IfSome (if b then option_and_then (if_well_formed size) (first_pieces count bytes) else None) HaveBytes
if_counted size count bytes true held = formed size (first_pieces count bytes) (pieces_of count bytes held)
if_counted size count bytes false held = tt

spelled : (size : ℕ) (area : List ℕ) → AreBytes area → IfSome (pieces_in size area) HaveBytes
unfolding pieces_in
spelled size [] held = tt
spelled size (count ∷ bytes) held = if_counted size count bytes (nat_le 1 count && nat_le count 4) (All-drop IsByte 1 (count ∷ bytes) held)

or_none : (found : Option (List Piece)) → IfSome found HaveBytes → HaveBytes (unwrap_or found [])
or_none None held = All-nil (λ piece. AreBytes piece.bytes)
or_none (Some pieces) held = held

if_open : (found : Option (List Piece)) (b : Bool) → IfSome found HaveBytes → HaveBytes (if b then unwrap_or found [] else [])
if_open found true held = or_none found held
if_open found false held = All-nil (λ piece. AreBytes piece.bytes)

area_of : (image : List ℕ) → AreBytes image → AreBytes (slice_range image 128 832)
area_of image held = All-take IsByte 704 (drop 128 image) (All-drop IsByte 128 image held)

pending_bytes : (image : List ℕ) → AreBytes image → HaveBytes (pending image)
unfolding pending
pending_bytes image held =
    if_open (pieces_in (length image) (slice_range image 128 832)) (is_open image) (spelled (length image) (slice_range image 128 832) (area_of image held))

hidden_bytes : (image : List ℕ) → AreBytes image → AreBytes (hidden image)
unfolding hidden
hidden_bytes image held =
    let own : AreBytes (replicate (length (slice_range image 64 832)) 255) = All-replicate IsByte (length (slice_range image 64 832)) 255 (omega arith) in
    All-append IsByte (take 64 image ++ replicate (length (slice_range image 64 832)) 255) (drop 832 image)
    (All-append IsByte (take 64 image) (replicate (length (slice_range image 64 832)) 255) (All-take IsByte 64 image held) own) (All-drop IsByte 832 image held)

stable_bytes : (image : List ℕ) → AreBytes image → AreBytes (stable_of image)
unfolding stable_of
stable_bytes image held = hidden_bytes (applied (pending image) image) (All-applied IsByte (pending image) image (pending_bytes image held) held)

pub told_bytes : (told : Option (List ℕ)) → IfSome told AreBytes → IfSome (option_map stable_of told) AreBytes
told_bytes None held = tt
told_bytes (Some image) held = stable_bytes image held
