-- What the computed reading finds is spelled so, and what is spelled so is found.
use Rattle.std.proofs.Common.{◌≡◌, ℕ, ◌<◌, ◌≤◌, Bool, true, false, nat_le, nat_eq, cond, ⊎_elim, List, [], ◌∷◌, ◌++◌, length, take, drop, Option, Some, None, refl, sym, ap, ◌∙◌, arith, take-append-drop}
use Rattle.std.proofs.lemmas.Option.{option_and_then_some, cond_some, some_pair_parts}
use Rattle.std.proofs.lemmas.Bool.{cases_lt}
use Rattle.std.proofs.lemmas.Grind.{common_steps}
use Rattle.std.proofs.Math.Seq.{take-append_seam, drop-append_seam}
use Rattle.access_rules.specs.Objects.{length_bytes, object}
use Rattle.access_rules.specs.Reading.{long_length_in, length_in, Part, part_of, part_in}
use Rattle.access_rules.proofs.ObjectLemmas.{object-parts}

long_length_found : (bytes rest : List ℕ) (n : ℕ) → long_length_in bytes ≡ Some (n, rest) → (127 < n) × (n < 256) × (bytes ≡ n ∷ rest)
unfolding long_length_in
long_length_found [] rest n found = cc
long_length_found (m ∷ more) rest n found =
    let chosen = cond_some _ _ _ found in
    let same : m ≡ n = ap (λ pair. pair.0) chosen.1 in
    let left : more ≡ rest = ap (λ pair. pair.1) chosen.1 in
    (grind (arith, common_steps), grind (arith, common_steps), cc)

long_length_only : (n : ℕ) (rest : List ℕ) → 127 < n → n < 256 → long_length_in (n ∷ rest) ≡ Some (n, rest)
unfolding long_length_in
long_length_only n rest long short = grind (arith, common_steps)

one_byte_length : (n : ℕ) → n ≤ 127 → length_bytes n ≡ n ∷ []
one_byte_length n short = grind (arith, common_steps)

two_byte_length : (n : ℕ) → 127 < n → length_bytes n ≡ 0x81 ∷ n ∷ []
two_byte_length n long = grind (arith, common_steps)

length_at_most_127 : (n : ℕ) (rest : List ℕ) → n ≤ 127 → length_in (n ∷ rest) ≡ Some (n, rest)
unfolding length_in
length_at_most_127 n rest short = grind (arith, common_steps)

length_above_127 : (m : ℕ) (rest : List ℕ) → 127 < m → length_in (m ∷ rest) ≡ cond (nat_eq m 0x81) (long_length_in rest) None
unfolding length_in
length_above_127 m rest long = grind (arith, common_steps)

cond_none : {A : Type 0} (b : Bool) (o : Option A) (x : A) → cond b o None ≡ Some x → (b ≡ true) × (o ≡ Some x)
cond_none true o x h = (refl, h)
cond_none false o x h = cc

length_found : (bytes rest : List ℕ) (n : ℕ) → length_in bytes ≡ Some (n, rest) → (n < 256) × (bytes ≡ length_bytes n ++ rest)
unfolding length_in
length_found [] rest n found = cc
length_found (m ∷ more) rest n found = ⊎_elim long short (cases_lt 127 m)
  where
    short : m ≤ 127 → (n < 256) × (m ∷ more ≡ length_bytes n ++ rest)
    short small =
        let read = sym (length_at_most_127 m more small) ∙ found in
        let same : m ≡ n = (some_pair_parts _ _ _ _ read).0 in
        let left : more ≡ rest = (some_pair_parts _ _ _ _ read).1 in
        (omega arith, rw (← same, one_byte_length m small, ← left) refl)

    long : 127 < m → (n < 256) × (m ∷ more ≡ length_bytes n ++ rest)
    long big =
        let read = cond_none (nat_eq m 0x81) (long_length_in more) (n, rest) (sym (length_above_127 m more big) ∙ found) in
        let parts = long_length_found more rest n read.1 in
        let first : m ≡ 0x81 = grind (arith, common_steps) in
        (parts.1, rw (two_byte_length n parts.0, first, parts.2) refl)

length_only : (n : ℕ) (rest : List ℕ) → n < 256 → length_in (length_bytes n ++ rest) ≡ Some (n, rest)
length_only n rest fits = ⊎_elim long short (cases_lt 127 n)
  where
    short : n ≤ 127 → length_in (length_bytes n ++ rest) ≡ Some (n, rest)
    short small = rw (one_byte_length n small) (length_at_most_127 n rest small)

    long : 127 < n → length_in (length_bytes n ++ rest) ≡ Some (n, rest)
    long big = rw (two_byte_length n big) (length_above_127 0x81 (n ∷ rest) (omega arith) ∙ long_length_only n rest big fits)

part_of_found : (tag n : ℕ) (bytes : List ℕ) (part : Part) → part_of tag n bytes ≡ Some part
    → (n ≡ length part.value) × (bytes ≡ part.value ++ part.rest) × (tag ≡ part.tag)
unfolding part_of
part_of_found tag n bytes part found =
    let chosen = cond_some _ _ _ found in
    let within : n ≤ length bytes = grind (arith, common_steps) in
    let valued : take n bytes ≡ part.value = ap (λ part. part.value) chosen.1 in
    let left : drop n bytes ≡ part.rest = ap (λ part. part.rest) chosen.1 in
    (grind (arith, common_steps), rw (← valued, ← left) (sym (take-append-drop n bytes)), ap (λ part. part.tag) chosen.1)

part_of_only : (tag : ℕ) (value rest : List ℕ) → part_of tag (length value) (value ++ rest) ≡ Some (record { tag = tag; value = value; rest = rest })
unfolding part_of
part_of_only tag value rest =
    let within : nat_le (length value) (length (value ++ rest)) ≡ true = grind (arith, common_steps) in
    rw (within, take-append_seam value rest, drop-append_seam value rest) refl

pub part_found : (bytes : List ℕ) (part : Part) → part_in bytes ≡ Some part → (length part.value < 256) × (bytes ≡ object part.tag part.value ++ part.rest)
unfolding part_in
part_found [] part found = cc
part_found (tag ∷ bytes) part found =
    option_and_then_some (λ measured. part_of tag measured.0 measured.1) (length_in bytes) part found (λ measured is_measured is_part.
    let long = length_found bytes measured.1 measured.0 is_measured in
    let cut = part_of_found tag measured.0 measured.1 part is_part in
    (rw (← cut.0) long.0, rw (long.1, cut.0, cut.1, cut.2) (sym (object-parts part.tag part.value part.rest))))

pub part_only : (tag : ℕ) (value rest : List ℕ) → length value < 256 → part_in (object tag value ++ rest) ≡ Some (record { tag = tag; value = value; rest = rest })
unfolding part_in
part_only tag value rest fits =
    rw (object-parts tag value rest, length_only (length value) (value ++ rest) fits) (part_of_only tag value rest)
