-- What is found in a record, and how a sum is spelled in one.
use Rattle.std.proofs.Common.{◌≡◌, ℕ, zero, suc, ◌+◌, ◌*◌, ◌/◌, ◌%◌, ◌^◌, ◌<◌, true, List, [], ◌∷◌, ◌++◌, length, take, drop, refl, sym, ◌∙◌, ap, subst, ⊎_elim, arith, ◌==◌, All}
use Rattle.std.specs.List.{starts_with}
use Rattle.std.specs.Cmp.Lexicographic.{bytes_decides}
use Rattle.std.proofs.lemmas.Bool.{eqb-true, or_right, or_left, or_cases}
use Rattle.std.proofs.lemmas.List.{take-append-drop, nil_from_length}
use Rattle.std.proofs.lemmas.List.Elements.{All-nil, All-cons}
use Rattle.std.proofs.Math.Arith.{mod-mul}
use Rattle.std.proofs.Math.Nat.{pow-succ', mod-eq_of_lt}
use Rattle.file_model.specs.Records.{has_within, number_of, bytes_of}
use Rattle.file_model.specs.Laws.{FindsWholeParts, SpellsNumbers}

-- the bytes stand in the record
abbrev StandsIn : List ℕ → List ℕ → Type 0
StandsIn wanted bytes = (before : List ℕ) × (behind : List ℕ) × (bytes ≡ before ++ wanted ++ behind)

found_stands : (wanted bytes : List ℕ) → has_within wanted bytes ≡ true → StandsIn wanted bytes
found_stands wanted [] found = ([], [], sym (ap (λ (w : List ℕ). [] ++ w ++ []) (nil_from_length wanted (eqb-true (length wanted) 0 found))))
found_stands wanted (byte ∷ bytes) found =
    ⊎_elim {C = StandsIn wanted (byte ∷ bytes)}
    (λ here.
    let same : wanted ≡ take (length wanted) (byte ∷ bytes) = (bytes_decides wanted (take (length wanted) (byte ∷ bytes))).0 here in
    ([], drop (length wanted) (byte ∷ bytes), sym (ap (λ (w : List ℕ). w ++ drop (length wanted) (byte ∷ bytes)) same ∙ take-append-drop (length wanted) (byte ∷ bytes))))
    (λ later. let rest = found_stands wanted bytes later in (byte ∷ rest.0, rest.1, ap (λ (r : List ℕ). byte ∷ r) rest.2))
    (or_cases (starts_with (λ a b. a == b) (byte ∷ bytes) wanted) (has_within wanted bytes) found)

front_is : (wanted behind : List ℕ) → take (length wanted) (wanted ++ behind) ≡ wanted
front_is [] behind = refl
front_is (byte ∷ wanted) behind = ap (λ (w : List ℕ). byte ∷ w) (front_is wanted behind)

starts_so : (wanted behind : List ℕ) → starts_with (λ a b. a == b) (wanted ++ behind) wanted ≡ true
starts_so wanted behind = (bytes_decides wanted (take (length wanted) (wanted ++ behind))).1 (sym (front_is wanted behind))

at_front : (wanted bytes : List ℕ) → starts_with (λ a b. a == b) bytes wanted ≡ true → has_within wanted bytes ≡ true
at_front [] [] starts = refl
at_front (byte ∷ wanted) [] starts = cc
at_front wanted (byte ∷ bytes) starts = or_left (starts_with (λ a b. a == b) (byte ∷ bytes) wanted) (has_within wanted bytes) starts

stands_found : (wanted before behind : List ℕ) → has_within wanted (before ++ wanted ++ behind) ≡ true
stands_found wanted [] behind = at_front wanted (wanted ++ behind) (starts_so wanted behind)
stands_found wanted (byte ∷ before) behind =
    or_right (starts_with (λ a b. a == b) (byte ∷ (before ++ wanted ++ behind)) wanted) (has_within wanted (before ++ wanted ++ behind)) (stands_found wanted before behind)

pub finds_whole_parts : FindsWholeParts
finds_whole_parts wanted bytes = (found_stands wanted bytes, λ stands. subst (λ (b : List ℕ). has_within wanted b ≡ true) (sym stands.2) (stands_found wanted stands.0 stands.1))

-- ---- numbers

pub length-bytes_of : (width number : ℕ) → length (bytes_of width number) ≡ width
length-bytes_of zero number = refl
length-bytes_of (suc width) number = ap suc (length-bytes_of width number)

low_bytes : (width number : ℕ) → All (λ byte. byte < 256) (bytes_of width number)
low_bytes zero number = All-nil (λ byte. byte < 256)
low_bytes (suc width) number = All-cons (λ byte. byte < 256) ((number / 256 ^ width) % 256) (bytes_of width number) (omega arith) (low_bytes width number)

some_power : (width : ℕ) → 0 < 256 ^ width
some_power zero = omega arith
some_power (suc width) = omega (arith, pow-succ' 256 width, some_power width)

number_so : (width number : ℕ) → number_of (bytes_of width number) ≡ number % 256 ^ width
number_so zero number = omega arith
number_so (suc width) number =
    ap (λ (n : ℕ). ((number / 256 ^ width) % 256) * 256 ^ n + number_of (bytes_of width number)) (length-bytes_of width number)
    ∙ ap (λ (n : ℕ). ((number / 256 ^ width) % 256) * 256 ^ width + n) (number_so width number)
    ∙ sym (mod-mul number {m = 256} {c = 256 ^ width} (omega arith) (some_power width))
    ∙ ap (λ (n : ℕ). number % n) (sym (pow-succ' 256 width))

pub spells_numbers : SpellsNumbers
spells_numbers width number low = (length-bytes_of width number, low_bytes width number, number_so width number ∙ mod-eq_of_lt low)
