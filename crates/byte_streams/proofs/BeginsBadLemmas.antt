-- Lines that are bad for their length or their place, and bytes in which no line is known.
use Rattle.std.proofs.Common.{◌≡◌, ℕ, ◌+◌, ◌-◌, ◌<◌, ◌≤◌, ◌⊎◌, ◌&&◌, min, true, false, cond, eqb, leb, List, [], ◌∷◌, ◌++◌, length, take, get_or, Some, None, suc, inl, inr, refl, ap, subst, ◌∙◌, arith, append-nil, length-append, length-take}
use Rattle.std.specs.List.{onto_first}
use Rattle.std.specs.Str.Lines.{strip_carriage_return}
use Rattle.std.proofs.lemmas.Bool.{cases_lt, le-ltb, lt-leb, ne_eqb}
use Rattle.std.proofs.lemmas.List.Splits.{slice_split-cons_no}
use Rattle.byte_streams.specs.Lines.{admitted, known_within, last_line, lines_of, lines_within, parts}
use Rattle.byte_streams.specs.declared.limits.TheConstants.{LONGEST_LINE}
use Rattle.byte_streams.specs.declared.window.TheConstants.{SIZE}
use Rattle.byte_streams.specs.Reading.{BeginsBad, Reading, pending}
use Rattle.byte_streams.specs.Search.{NoEndBelow}
use Rattle.byte_streams.proofs.LineLemmas.{parts-cons, parts_none}

-- whatever follows, the first line that is pending is bad
abbrev pub IsBad : Reading → Type 0
IsBad reading = (rest : List ℕ) → BeginsBad (lines_within reading.room (pending reading rest))

-- too many bytes for a line, or for the lines to come
abbrev pub IsTooMany : ℕ → ℕ → Type 0
IsTooMany room count = (SIZE ≤ count) ⊎ (room < count)

pub admitted-none : (room size : ℕ) (line : List ℕ) → (LONGEST_LINE < length line) ⊎ (room < size) → admitted room size line ≡ None
admitted-none room size line (inl long) = rw (lt-leb (length line) LONGEST_LINE long) refl
admitted-none room size line (inr past) =
    rw (lt-leb size room past) (elim (leb (length line) LONGEST_LINE) as (λ b. cond (b && false) (Some line) None ≡ None) [ true ↦ refl | false ↦ refl ])

pub length-strip : (line : List ℕ) → length line ≤ length (strip_carriage_return line) + 1
length-strip line =
    elim (eqb (get_or line (length line - 1) 0) 13) as (λ b. length line ≤ length (cond b (take (length line - 1) line) line) + 1) [
      | true ↦ omega (arith, length-take (length line - 1) line)
      | false ↦ omega arith
    ]

-- a part that has too many bytes is a bad line, whatever follows
pub too_many_bad : (room : ℕ) (part : List ℕ) (others : List (List ℕ)) → IsTooMany room (length part) → BeginsBad (lines_of last_line room (part ∷ others))
too_many_bad room part [] many =
    let some : eqb (length part) 0 ≡ false = ne_eqb _ _ (λ none. elim many [ inl long ↦ omega arith | inr past ↦ omega arith ]) in
    let bad : (LONGEST_LINE < length part) ⊎ (room < length part) = elim many [ inl long ↦ inl (omega arith) | inr past ↦ inr past ] in
    ([], rw (some, admitted-none room (length part) part bad) refl)
too_many_bad room part (next ∷ others) many =
    let line = strip_carriage_return part in
    let bad : (LONGEST_LINE < length line) ⊎ (room < length part + 1) =
    elim many [ inl long ↦ inl (omega (arith, length-strip part)) | inr past ↦ inr (omega arith) ] in
    (lines_of last_line (room - (length part + 1)) (next ∷ others), rw (admitted-none room (length part + 1) line bad) refl)

-- bytes without an end go to the front of the first part of what follows
pub parts_front : (held rest first : List ℕ) (others : List (List ℕ)) → NoEndBelow held (length held) → parts rest ≡ first ∷ others
    → parts (held ++ rest) ≡ (held ++ first) ∷ others
parts_front [] rest first others none follow = follow
parts_front (byte ∷ held) rest first others none follow =
    let here : eqb byte 10 ≡ false = ne_eqb _ _ (none 0 (omega arith)) in
    slice_split-cons_no (λ b. eqb b 10) byte (held ++ rest) here
    ∙ ap (onto_first byte) (parts_front held rest first others (λ place below. none (suc place) (omega arith)) follow)

pub too_many_held : (room : ℕ) (held rest : List ℕ) → NoEndBelow held (length held) → IsTooMany room (length held)
    → BeginsBad (lines_within room (held ++ rest))
too_many_held room held rest none many =
    let follow = parts-cons rest in
    let more : length (held ++ follow.0) ≡ length held + length follow.0 = length-append held follow.0 in
    let all : IsTooMany room (length (held ++ follow.0)) = elim many [ inl long ↦ inl (omega arith) | inr past ↦ inr (omega arith) ] in
    rw (parts_front held rest follow.0 follow.1 none follow.2) (too_many_bad room (held ++ follow.0) follow.1 all)

-- as many bytes as may be held, and no end of a line
pub full_bad : (reading : Reading) → NoEndBelow reading.held (length reading.held) → length reading.held ≡ min SIZE (reading.room + 1) → IsBad reading
full_bad reading none full rest =
    let many : IsTooMany reading.room (length reading.held) =
    elim (cases_lt reading.room (length reading.held)) [ inl past ↦ inr past | inr within ↦ inl (omega arith) ] in
    elim reading.ended as (λ b. BeginsBad (lines_within reading.room (cond b reading.held (reading.held ++ rest)))) [
      | true ↦ subst (λ (bytes : List ℕ). BeginsBad (lines_within reading.room bytes)) (append-nil reading.held) (too_many_held reading.room reading.held [] none many)
      | false ↦ too_many_held reading.room reading.held rest none many
    ]

-- fewer bytes, and no end of a line: no line is known
pub known_none : (room : ℕ) (held : List ℕ) → NoEndBelow held (length held) → length held < min SIZE (room + 1) → known_within room held ≡ []
known_none room held none fewer =
    rw (parts_none held none, lt-leb SIZE (length held) (omega arith), le-ltb room (length held) (omega arith)) refl
