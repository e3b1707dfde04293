-- Entries of a map that are spelled one after the other, and what is committed below for each piece.
use Rattle.std.proofs.Common.{get_or, ◌≡◌, ℕ, ◌+◌, ◌-◌, ◌*◌, ◌/◌, ◌<◌, ◌≤◌, List, [], ◌∷◌, ◌++◌, length, take, drop, sym, ◌∙◌, ap, ⊎_elim, arith, slice_range}
use Rattle.std.specs.Int.{w16, to_be_bytes}
use Rattle.std.proofs.lemmas.Grind.{flat_map-append}
use Rattle.std.proofs.lemmas.List.{append-nil, length-drop, get_or-drop, take_more}
use Rattle.list_laws.proofs.SliceRangeLemmas.{length-range}
use Rattle.store_form.specs.Pieces.{Piece, IsUsablePiece}
use Rattle.page_store.specs.Tables.{Kept, IsPool}
use Rattle.page_store.specs.Commits.{first_page, end_page, inner_piece}
use Rattle.page_store.proofs.EntriesPieceLemmas.{bytes_of, length-bytes_of, low_or_high, entries_are, small_entries}

-- one entry more
pub entries_more : (entries : List ℕ) (first k : ℕ) → first ≤ k → k < length entries → bytes_of (slice_range entries first (k + 1)) ≡ bytes_of (slice_range entries first k) ++ to_be_bytes w16 (get_or entries k 0)
entries_more entries first k low there =
    let one_on : k + 1 - first ≡ k - first + 1 = omega arith in
    let on : first + (k - first) ≡ k = omega arith in
    let next : take (k + 1 - first) (drop first entries) ≡ take (k - first) (drop first entries) ++ get_or entries k 0 ∷ [] =
    ap (λ n. take n (drop first entries)) one_on ∙ take_more (drop first entries) (k - first) 0 (omega (arith, length-drop first entries))
    ∙ ap (λ n. take (k - first) (drop first entries) ++ n ∷ []) (get_or-drop first entries (k - first) 0 ∙ ap (λ n. get_or entries n 0) on) in
    ap bytes_of next ∙ flat_map-append (to_be_bytes w16) (slice_range entries first k) (get_or entries k 0 ∷ []) ∙ ap (λ (l : List ℕ). bytes_of (slice_range entries first k) ++ l) (append-nil (to_be_bytes w16 (get_or entries k 0)))

pub length_so_far : (entries : List ℕ) (first k : ℕ) → first ≤ k → k ≤ length entries → length (bytes_of (slice_range entries first k)) ≡ 2 * (k - first)
length_so_far entries first k low there =
    let on : k ≡ first + (k - first) = omega arith in
    length-bytes_of (slice_range entries first k) ∙ ap (λ n. 2 * n) (ap (λ n. length (slice_range entries first n)) on ∙ length-range entries first (k - first) (omega arith))

abbrev piece_at : ℕ → List ℕ → Piece
piece_at place bytes = record { place = place; bytes = bytes }

same_piece : (p q : ℕ) (x y : List ℕ) → p ≡ q → x ≡ y → piece_at p x ≡ piece_at q y
same_piece p q x y first second = ap (λ n. piece_at n x) first ∙ ap (λ (l : List ℕ). piece_at q l) second

-- the entries of the pages that so many bytes from a place on touch
abbrev pub bytes_from : List ℕ → ℕ → ℕ → List ℕ
bytes_from entries place count = bytes_of (slice_range entries (place / 64 - 13) ((place + count - 1) / 64 + 1 - 13))

-- what is added for a piece of mapped pages
pub high_piece : (kept : Kept) → IsPool kept → (piece : Piece) → IsUsablePiece 65536 piece → 64 ≤ piece.place → (place : ℕ) (bytes : List ℕ) → place ≡ 832 + 2 * (first_page piece - 13) → bytes ≡ bytes_of (slice_range kept.entries (first_page piece - 13) (end_page piece - 13))
    → piece_at place bytes ≡ inner_piece kept.entries piece
high_piece kept pool piece usable high place bytes at are =
    let small = small_entries kept pool in
    ⊎_elim {C = piece_at place bytes ≡ inner_piece kept.entries piece} (λ low. absurd (omega (arith, low.0)))
    (λ up. sym (up.1 ∙ entries_are kept.entries pool.count small piece ∙ sym (same_piece place (832 + 2 * (first_page piece - 13)) bytes (bytes_of (slice_range kept.entries (first_page piece - 13) (end_page piece - 13))) at are)))
    (low_or_high kept.entries pool.count small piece usable)
