-- A list of writes after one more piece, and what it gives of its pieces.
use Rattle.std.proofs.Common.{get_or, zero-add, ◌≡◌, ℕ, ◌+◌, ◌-◌, ◌≤◌, ◌<◌, ◌^◌, List, [], ◌∷◌, ◌++◌, length, take, drop, map, refl, sym, ◌∙◌, ap, arith, length-append, length-drop, All, slice_range, slice_get, option_map, Option, Some}
use Rattle.std.proofs.lemmas.List.{map-append, length-map, take-append-le, drop-append-le, take_all, drop_at}
use Rattle.std.proofs.lemmas.List.Elements.{All-head, All-tail, All-weaker, All-push, All-map, All-nil}
use Rattle.std.proofs.lemmas.List.Sums.{sum_by-append}
use Rattle.std.proofs.lemmas.Option.{slice_get-map, slice_get-get_or}
use Rattle.store_form.specs.declared.writes.Span.{Span}
use Rattle.store_form.specs.Pieces.{Piece, byte_total, IsWithinBounds}
use Rattle.store_form.specs.Spans.{piece_of, pieces_of, IsIn, AreWhole}

pub length-pieces_of : (bytes : List ℕ) (spans : List Span) → length (pieces_of bytes spans) ≡ length spans
unfolding pieces_of
length-pieces_of bytes spans = length-map spans (piece_of bytes)

slice_range-append : (bytes more : List ℕ) (from to : ℕ) → from ≤ to → to ≤ length bytes → slice_range (bytes ++ more) from to ≡ slice_range bytes from to
slice_range-append bytes more from to order inside =
    ap (λ (l : List ℕ). take (to - from) l) (drop-append-le from bytes more (omega arith))
    ∙ take-append-le (to - from) (drop from bytes) more (omega (arith, length-drop from bytes))

-- bytes added at the end change no piece
pieces_of-append : (bytes more : List ℕ) (spans : List Span) → All (IsIn bytes) spans → pieces_of (bytes ++ more) spans ≡ pieces_of bytes spans
unfolding pieces_of
pieces_of-append bytes more [] each = refl
pieces_of-append bytes more (span ∷ spans) each =
    let first = All-head (IsIn bytes) span spans each in
    let here : piece_of (bytes ++ more) span ≡ piece_of bytes span =
    ap (λ (l : List ℕ). record { place = span.place; bytes = l }) (slice_range-append bytes more span.start span.end first.order first.inside) in
    ap (λ (p : Piece). p ∷ map (piece_of (bytes ++ more)) spans) here
    ∙ ap (λ (ps : List Piece). piece_of bytes span ∷ ps) (pieces_of-append bytes more spans (All-tail (IsIn bytes) span spans each))

stays_in : (bytes more : List ℕ) (span : Span) → IsIn bytes span → IsIn (bytes ++ more) span
stays_in bytes more span here =
    record { place = here.place; order = here.order; inside = omega (arith, here.inside, length-append bytes more) }

pub byte_total-push : (pieces : List Piece) (place : ℕ) (more : List ℕ) → byte_total (pieces ++ (record { place = place; bytes = more }) ∷ []) ≡ byte_total pieces + length more
byte_total-push pieces place more =
    sum_by-append (λ (p : Piece). length p.bytes) pieces ((record { place = place; bytes = more }) ∷ []) ∙ ap (λ (n : ℕ). byte_total pieces + n) (zero-add (length more))

module _ (place : ℕ) (bytes more : List ℕ) (spans : List Span) (whole : AreWhole bytes spans) where
  abbrev added : Span
  added = record { place = place; start = length bytes; end = length bytes + length more }

  last_piece : piece_of (bytes ++ more) added ≡ record { place = place; bytes = more }
  last_piece =
      let all : take (length bytes + length more - length bytes) more ≡ more = take_all _ _ (omega arith) in
      ap (λ (l : List ℕ). record { place = place; bytes = take (length bytes + length more - length bytes) l }) (drop_at bytes more (length bytes) refl)
      ∙ ap (λ (l : List ℕ). record { place = place; bytes = l }) all

  pub pieces_of-push : pieces_of (bytes ++ more) (spans ++ added ∷ []) ≡ pieces_of bytes spans ++ (record { place = place; bytes = more }) ∷ []
  unfolding pieces_of
  pieces_of-push =
      map-append (piece_of (bytes ++ more)) spans (added ∷ [])
      ∙ ap (λ (ps : List Piece). ps ++ piece_of (bytes ++ more) added ∷ []) (pieces_of-append bytes more spans whole.each)
      ∙ ap (λ (p : Piece). pieces_of bytes spans ++ p ∷ []) last_piece

  pub AreWhole_push : place < 2 ^ 16 → length bytes + length more ≤ 640 → length spans < 4 → AreWhole (bytes ++ more) (spans ++ added ∷ [])
  AreWhole_push fits room few = record {
    each = All-push (IsIn (bytes ++ more)) spans added (All-weaker (IsIn bytes) (IsIn (bytes ++ more)) (stays_in bytes more) spans whole.each)
        (record { place = fits; order = omega arith; inside = omega (arith, length-append bytes more) });
    total = ap byte_total pieces_of-push ∙ byte_total-push (pieces_of bytes spans) place more ∙ ap (λ (n : ℕ). n + length more) whole.total ∙ sym (length-append bytes more);
    room = omega (arith, length-append bytes more);
    few = omega (arith, length-append spans (added ∷ []));
  }

pub AreWhole_none : AreWhole [] []
unfolding pieces_of
AreWhole_none = record { each = All-nil (IsIn []); total = refl; room = omega arith; few = omega arith }

pub pieces_of-none : pieces_of [] [] ≡ []
unfolding pieces_of
pieces_of-none = refl

places_fit : (bytes : List ℕ) (spans : List Span) → All (IsIn bytes) spans → All (λ piece. piece.place < 2 ^ 16) (pieces_of bytes spans)
unfolding pieces_of
places_fit bytes spans each =
    All-map (λ (piece : Piece). piece.place < 2 ^ 16) (piece_of bytes) spans (All-weaker (IsIn bytes) (λ (span : Span). span.place < 2 ^ 16) (λ (span : Span) here. here.place) spans each)

pub bounds : (bytes : List ℕ) (spans : List Span) → AreWhole bytes spans → IsWithinBounds (pieces_of bytes spans)
bounds bytes spans whole = record {
  count = omega (arith, whole.few, length-pieces_of bytes spans);
  total = omega (arith, whole.room, whole.total);
  places = places_fit bytes spans whole.each;
}

-- the piece of a span that stands at this index
pub slice_get-pieces_of : (bytes : List ℕ) (spans : List Span) (at : ℕ) (d : Span) → at < length spans → slice_get (pieces_of bytes spans) at ≡ Some (piece_of bytes (get_or spans at d))
unfolding pieces_of
slice_get-pieces_of bytes spans at d there =
    slice_get-map (piece_of bytes) spans at ∙ ap (λ (o : Option Span). option_map (piece_of bytes) o) (slice_get-get_or spans at d there)
