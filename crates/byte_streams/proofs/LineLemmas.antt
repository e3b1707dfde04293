-- The lines of a text at the first end of one.
use Rattle.std.proofs.Common.{◌≡◌, ℕ, ◌+◌, ◌-◌, ◌<◌, true, false, cond, eqb, List, [], ◌∷◌, ◌++◌, length, take, drop, refl, sym, ap, ◌∙◌, add-one, drop-cons, arith, ne_eqb, take-append-drop, length-take-le, get_or-take}
use Rattle.std.specs.List.{All, onto_first}
use Rattle.std.specs.Str.Lines.{strip_carriage_return}
use Rattle.std.proofs.lemmas.List.Elements.{All-from_get_or}
use Rattle.std.proofs.lemmas.List.Splits.{slice_split_at, slice_split_none}
use Rattle.byte_streams.specs.Lines.{LineList, admitted, lines_of, parts}
use Rattle.byte_streams.specs.Search.{IsFirstEnd, NoEndBelow}

onto_first-cons : (byte : ℕ) (found : List (List ℕ)) → (first : List ℕ) × (others : List (List ℕ)) × (onto_first byte found ≡ first ∷ others)
onto_first-cons byte [] = (byte ∷ [], [], refl)
onto_first-cons byte (part ∷ others) = (byte ∷ part, others, refl)

-- a text has at least one part
pub parts-cons : (text : List ℕ) → (first : List ℕ) × (others : List (List ℕ)) × (parts text ≡ first ∷ others)
parts-cons [] = ([], [], refl)
parts-cons (byte ∷ text) =
    elim (eqb byte 10) as (λ b. (first : List ℕ) × (others : List (List ℕ)) × (cond b ([] ∷ parts text) (onto_first byte (parts text)) ≡ first ∷ others)) [
      | true ↦ ([], parts text, refl)
      | false ↦ onto_first-cons byte (parts text)
    ]

none_ends : (bytes : List ℕ) → NoEndBelow bytes (length bytes) → All (λ byte. eqb byte 10 ≡ false) bytes
none_ends bytes none = All-from_get_or (λ byte. eqb byte 10 ≡ false) bytes 0 (λ k inside. ne_eqb _ _ (none k inside))

pub parts_none : (bytes : List ℕ) → NoEndBelow bytes (length bytes) → parts bytes ≡ bytes ∷ []
parts_none bytes none = slice_split_none (λ byte. eqb byte 10) bytes (none_ends bytes none)

pub parts_at : (body more : List ℕ) → NoEndBelow body (length body) → parts (body ++ (10 ∷ more)) ≡ body ∷ parts more
parts_at body more none = slice_split_at (λ byte. eqb byte 10) body 10 more (none_ends body none) refl

-- the first line, and then the lines of what follows its end
pub lines_of_at : (last : ℕ → List ℕ → LineList) (room : ℕ) (body more : List ℕ) → NoEndBelow body (length body)
    → lines_of last room (parts (body ++ (10 ∷ more)))
    ≡ admitted room (length body + 1) (strip_carriage_return body) ∷ lines_of last (room - (length body + 1)) (parts more)
lines_of_at last room body more none =
    let p = parts-cons more in
    rw (parts_at body more none, p.2) refl

-- what is held up to the first end, and after it
pub held_at : (held : List ℕ) (place : ℕ) → IsFirstEnd held place → held ≡ take place held ++ (10 ∷ drop (place + 1) held)
held_at held place found =
    let inside : place < length held = found.inside in
    sym (take-append-drop place held)
    ∙ ap (λ (rest : List ℕ). take place held ++ rest) (drop-cons held place 0 inside ∙ rw (add-one, found.ends) refl)

pub none_before : (held : List ℕ) (place : ℕ) → IsFirstEnd held place → NoEndBelow (take place held) (length (take place held))
none_before held place found =
    let len : length (take place held) ≡ place = length-take-le place held (omega (arith, found.inside)) in
    λ k below. let lt : k < place = omega arith in rw (get_or-take place held k 0 lt) (found.first k lt)
