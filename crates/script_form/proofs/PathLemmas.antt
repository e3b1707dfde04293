-- Identifiers, one after the other, against the paths that bytes may be.
use Rattle.std.proofs.Common.{◌≡◌, ℕ, ◌+◌, ◌*◌, ◌<◌, ◌≤◌, suc, List, [], ◌∷◌, ◌++◌, length, sym, ap, subst, ◌∙◌, arith, refl, ◌/◌, ◌%◌, All, append-nil, length-append}
use Rattle.uicc_types.specs.declared.identifiers.FileId.{FileId}
use Rattle.script_form.specs.Reads.{IsOnly}
use Rattle.script_form.specs.Values.{IsFree, SpellsPath, identifier_bytes, path_bytes}

-- an identifier has two bytes
pub length-path : (path : List FileId) → length (path_bytes path) ≡ 2 * length path
length-path [] = refl
length-path (identifier ∷ path) = omega (arith, length-path path)

-- two bytes are one identifier's
pub same_identifier : (a b : FileId) → a.0 / 256 ≡ b.0 / 256 → a.0 % 256 ≡ b.0 % 256 → a ≡ b
same_identifier a b high low =
    let number : a.0 ≡ b.0 = omega arith in
    ap (λ (n : ℕ). let id : FileId = record { 0 = n } in id) number

goes_on : (first identifier : FileId) (other path more : List FileId) → first ≡ identifier → other ≡ path ++ more → first ∷ other ≡ identifier ∷ (path ++ more)
goes_on first identifier other path more same below = ap (λ (f : FileId). f ∷ other) same ∙ ap (λ (o : List FileId). identifier ∷ o) below

-- what follows the bytes of a path in those of another is what that one has more
pub split_off : (path other : List FileId) (rest : List ℕ) → path_bytes other ≡ path_bytes path ++ rest
    → (more : List FileId) × (other ≡ path ++ more) × (path_bytes more ≡ rest)
split_off [] other rest is = (other, refl, is)
split_off (identifier ∷ path) [] rest is = cc
split_off (identifier ∷ path) (first ∷ other) rest is =
    let high : first.0 / 256 ≡ identifier.0 / 256 = cc in
    let low : first.0 % 256 ≡ identifier.0 % 256 = cc in
    let behind : path_bytes other ≡ path_bytes path ++ rest = cc in
    let below = split_off path other rest behind in
    (below.0, goes_on first identifier other path below.0 (same_identifier first identifier high low) below.1, below.2)

-- no path begins with an identifier that a file may not have
pub no_first : (bytes : List ℕ) → ((identifier : FileId) (rest : List ℕ) → IsFree identifier → bytes ≡ identifier_bytes identifier ++ rest → ⊥)
    → (path : List FileId) → SpellsPath bytes path → ⊥
no_first bytes none [] spells = absurd (omega (arith, spells.some))
no_first bytes none (identifier ∷ path) spells = none identifier (path_bytes path) (spells.free 0 identifier (omega arith)) spells.spelled

free_at : (path more : List FileId) (identifier : FileId) → All IsFree (path ++ identifier ∷ more) → IsFree identifier
free_at [] more identifier all = all 0 identifier (omega arith)
free_at (first ∷ path) more identifier all = free_at path more identifier (λ k d low. all (suc k) d (omega arith))

-- nor does one go on with it
pub dead_end : (bytes rest : List ℕ) (path : List FileId) → bytes ≡ path_bytes path ++ rest → 0 < length rest
    → ((identifier : FileId) (behind : List ℕ) → IsFree identifier → rest ≡ identifier_bytes identifier ++ behind → ⊥)
    → (other : List FileId) → SpellsPath bytes other → ⊥
dead_end bytes rest path so_far some none other spells =
    let more = split_off path other rest (sym spells.spelled ∙ so_far) in
    on_with more.0 (subst (All IsFree) more.1 spells.free) more.2
  where
    on_with : (more : List FileId) → All IsFree (path ++ more) → path_bytes more ≡ rest → ⊥
    on_with [] free is = let empty : 0 ≡ length rest = ap length is in omega (arith, empty, some)
    on_with (identifier ∷ below) free is = none identifier (path_bytes below) (free_at path below identifier free) (sym is)

-- where nothing is left, the bytes are the path so far and no other
pub one_path : (bytes rest : List ℕ) (path : List FileId) → bytes ≡ path_bytes path ++ rest → length rest ≡ 0 → 0 < length path → All IsFree path → IsOnly (SpellsPath bytes) path
one_path bytes (byte ∷ rest) path so_far none some free = absurd (omega (arith, none))
one_path bytes [] path so_far none some free = record {
  so = record { spelled = so_far ∙ append-nil (path_bytes path); some = some; free = free };
  only = λ other spells.
      let more = split_off path other [] (sym spells.spelled ∙ so_far) in
      ends_there more.0 other more.1 more.2;
}
  where
    ends_there : (more other : List FileId) → other ≡ path ++ more → path_bytes more ≡ [] → other ≡ path
    ends_there [] other is none = is ∙ append-nil path
    ends_there (identifier ∷ below) other is none = cc

-- a path whose bytes, and some after them, are few enough has room for one more
pub has_room : (bytes rest : List ℕ) (path : List FileId) (most : ℕ) → bytes ≡ path_bytes path ++ rest → length bytes ≤ 2 * most → 2 ≤ length rest → length path < most
has_room bytes rest path most so_far few some =
    let both : length bytes ≡ length (path_bytes path) + length rest = ap length so_far ∙ length-append (path_bytes path) rest in
    omega (arith, both, length-path path, few, some)
