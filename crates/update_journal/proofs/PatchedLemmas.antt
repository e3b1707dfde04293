-- A range that is written part by part.
use Rattle.std.proofs.Common.{◌≡◌, ℕ, ◌+◌, ◌≤◌, List, [], ◌++◌, length, Option, None, Some, refl, sym, ◌∙◌, ap, subst, arith, length-append, append_assoc, option_map, IfSome}
use Rattle.list_laws.specs.Patches.{patched, Torn}
use Rattle.list_laws.proofs.PatchesLemmas.{patched-nil, patched-patched, Torn_patched, Torn_wider, Torn_again}
use Rattle.uicc_types.specs.Told.{Becomes}

-- what is told has so many bytes
abbrev pub HasLength : Option (List ℕ) → ℕ → Type 0
HasLength told size = IfSome told (λ held. length held ≡ size)

-- the bytes up to `place` are written, and these are left
pub record PartWritten (at place : ℕ) (bytes rest : List ℕ) (old now : Option (List ℕ)) : Type 0 where
  pub front : List ℕ
  pub split : bytes ≡ front ++ rest
  pub reached : place ≡ at + length front
  pub held : now ≡ option_map (patched at front) old

pub patched-none : (at : ℕ) (old : Option (List ℕ)) → old ≡ option_map (patched at []) old
patched-none at None = refl
patched-none at (Some image) = ap (λ (l : List ℕ). Some l) (sym (patched-nil at image))

pub begun : (at : ℕ) (bytes : List ℕ) (old : Option (List ℕ)) → PartWritten at at bytes bytes old old
begun at bytes old = record { front = []; split = refl; reached = omega arith; held = patched-none at old }

pub patched_on : (at place size : ℕ) (front next : List ℕ) (old : Option (List ℕ)) → HasLength old size → place ≡ at + length front → place + length next ≤ size
    → option_map (patched place next) (option_map (patched at front) old) ≡ option_map (patched at (front ++ next)) old
patched_on at place size front next None told is fits = refl
patched_on at place size front next (Some image) told is fits =
    let within : place + length next ≤ length image = omega arith in ap (λ (l : List ℕ). Some l) (patched-patched at place front next image is within)

pub goes_on : (at place next_place size : ℕ) (bytes rest next behind : List ℕ) (old mid new : Option (List ℕ)) → HasLength old size → at + length bytes ≤ size
    → PartWritten at place bytes rest old mid → rest ≡ next ++ behind → next_place ≡ place + length next → new ≡ option_map (patched place next) mid → PartWritten at next_place bytes behind old new
goes_on at place next_place size bytes rest next behind old mid new told fits so_far cut next_is put = record {
  front = so_far.front ++ next;
  split = so_far.split ∙ ap (λ (l : List ℕ). so_far.front ++ l) cut ∙ sym (append_assoc so_far.front next behind);
  reached = omega (arith, so_far.reached, next_is, length-append so_far.front next);
  held = put ∙ ap (λ (o : Option (List ℕ)). option_map (patched place next) o) so_far.held
      ∙ patched_on at place size so_far.front next old told so_far.reached (omega (arith, long, so_far.reached, fits));
}
  where
    long : length bytes ≡ length so_far.front + (length next + length behind)
    long = ap length so_far.split ∙ length-append so_far.front rest ∙ ap (λ (l : List ℕ). length so_far.front + length l) cut ∙ ap (λ (n : ℕ). length so_far.front + n) (length-append next behind)

pub torn_on : (at place count size : ℕ) (bytes front : List ℕ) (old new : Option (List ℕ)) → HasLength old size → at + length bytes ≤ size → place ≡ at + length front → length front + count ≤ length bytes
    → Becomes (Torn place count) (option_map (patched at front) old) new → Becomes (Torn at (length bytes)) old new
torn_on at place count size bytes front None None told fits is within torn = tt
torn_on at place count size bytes front None (Some image) told fits is within torn = torn
torn_on at place count size bytes front (Some image) None told fits is within torn = torn
torn_on at place count size bytes front (Some image) (Some left) told fits is within torn =
    let first : Torn at (length bytes) image (patched at front image) =
    Torn_wider at (length front) at (length bytes) image (patched at front image) (omega arith) (omega arith) (Torn_patched at (length front) front image refl (omega arith)) in
    Torn_again at (length bytes) image (patched at front image) left first (Torn_wider place count at (length bytes) (patched at front image) left (omega arith) (omega arith) torn)

-- the next part was torn
pub torn_short : (at place size : ℕ) (bytes rest next behind : List ℕ) (old mid new : Option (List ℕ)) → HasLength old size → at + length bytes ≤ size → PartWritten at place bytes rest old mid → rest ≡ next ++ behind
    → Becomes (Torn place (length next)) mid new → Becomes (Torn at (length bytes)) old new
torn_short at place size bytes rest next behind old mid new told fits so_far cut torn =
    let P : Option (List ℕ) → Type 0 = λ o. Becomes (Torn place (length next)) o new in
    let long : length bytes ≡ length so_far.front + length rest = ap length so_far.split ∙ length-append so_far.front rest in
    let part : length rest ≡ length next + length behind = ap length cut ∙ length-append next behind in
    torn_on at place (length next) size bytes so_far.front old new told fits so_far.reached (omega (arith, long, part)) (subst P so_far.held torn)
