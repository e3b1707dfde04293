-- Codes of events, ascending, are those of their bits.
use Rattle.std.proofs.Common.{◌≡◌, refl, sym, ap, ◌∙◌, ℕ, zero, suc, ◌<◌, ◌==◌, ◌||◌, Bool, true, false, cond, List, [], ◌∷◌, map, filter, All, AllPairs, Contains, arith}
use Rattle.std.specs.List.{list_any}
use Rattle.std.proofs.lemmas.Bool.Decides.{nat_tests}
use Rattle.std.proofs.lemmas.List.Elements.{All-cons, All-head, All-tail, All-weaker, All-contains}
use Rattle.list_laws.proofs.AllPairsLemmas.{pairs_head, pairs_tail}
use Rattle.card_state.specs.Kinds.{event_codes, known_codes, codes_of}
use Rattle.card_state.specs.Soundness.{AreEventCodes}
use Rattle.card_state.proofs.AreEventCodesLemmas.{codes_known}
use Rattle.card_state.proofs.BitsForLemmas.{codes_back}
use Rattle.toolkit_model.specs.Changes.{events_of}

abbrev is_among : List ℕ → ℕ → Bool
is_among codes code = list_any (λ other. other == code) codes

-- ---- ascending codes are in that order

named : (is_in : ℕ → Bool) (events : List (ℕ × ℕ)) → map (λ (event : ℕ × ℕ). event.0) (filter (λ (event : ℕ × ℕ). is_in event.0) events) ≡ filter is_in (map (λ (event : ℕ × ℕ). event.0) events)
named is_in [] = refl
named is_in (event ∷ events) = by_first (is_in event.0) (named is_in events)
  where
    by_first : (b : Bool) → map (λ (e : ℕ × ℕ). e.0) (filter (λ (e : ℕ × ℕ). is_in e.0) events) ≡ filter is_in (map (λ (e : ℕ × ℕ). e.0) events)
        → map (λ (e : ℕ × ℕ). e.0) (cond b (event ∷ filter (λ (e : ℕ × ℕ). is_in e.0) events) (filter (λ (e : ℕ × ℕ). is_in e.0) events))
        ≡ cond b (event.0 ∷ filter is_in (map (λ (e : ℕ × ℕ). e.0) events)) (filter is_in (map (λ (e : ℕ × ℕ). e.0) events))
    by_first true later = ap (λ (rest : List ℕ). event.0 ∷ rest) later
    by_first false later = later

same_filter : (p q : ℕ → Bool) (codes : List ℕ) → All (λ code. p code ≡ q code) codes → filter p codes ≡ filter q codes
same_filter p q [] same = refl
same_filter p q (code ∷ codes) same =
    ap (λ (b : Bool). cond b (code ∷ filter p codes) (filter p codes)) (All-head (λ c. p c ≡ q c) code codes same)
    ∙ ap (λ (rest : List ℕ). cond (q code) (code ∷ rest) rest) (same_filter p q codes (All-tail (λ c. p c ≡ q c) code codes same))

not_same : (a b : ℕ) → a < b → (a == b) ≡ false
not_same a b less = grind (arith, nat_tests, less)

not_same_back : (a b : ℕ) → b < a → (a == b) ≡ false
not_same_back a b less = grind (arith, nat_tests, less)

above : (codes : List ℕ) (code : ℕ) → All (λ other. code < other) codes → is_among codes code ≡ false
above [] code all = refl
above (first ∷ codes) code all =
    ap (λ (b : Bool). b || is_among codes code) (not_same_back first code (All-head (λ other. code < other) first codes all)) ∙ above codes code (All-tail (λ other. code < other) first codes all)

later : (first : ℕ) (table : List ℕ) (code : ℕ) → Contains (first ∷ table) code → first < code → Contains table code
later first table code (zero, low, is) less = absurd (omega (arith, is, less))
later first table code (suc k, low, is) less = (k, omega (arith, low), is)

none_in : (code : ℕ) → Contains [] code → ⊥
none_in code (k, low, is) = absurd (omega (arith, low))

all_in : (first : ℕ) (table codes : List ℕ) → All (Contains (first ∷ table)) codes → All (λ code. first < code) codes → All (Contains table) codes
all_in first table codes known after = λ k d low. later first table _ (known k d low) (after k d low)

abbrev Ascends : List ℕ → Type 0
Ascends codes = AllPairs (λ a b. a < b) codes

-- the first code is the first of the table, or comes after it
code_first : (first : ℕ) (table : List ℕ) (code : ℕ) (codes : List ℕ) → Ascends (first ∷ table) → Ascends (code ∷ codes) → All (Contains (first ∷ table)) (code ∷ codes) → Contains (first ∷ table) code
    → (All (Contains table) codes → filter (is_among codes) table ≡ codes) → (All (Contains table) (code ∷ codes) → filter (is_among (code ∷ codes)) table ≡ code ∷ codes)
    → filter (is_among (code ∷ codes)) (first ∷ table) ≡ code ∷ codes
code_first first table code codes ascends ascend known (zero, low, is) without with_it =
    let same : code ≡ first = sym is in
    let here : (code == first) ≡ true = grind (arith, nat_tests, same) in
    let after_first : All (λ other. first < other) table = pairs_head (λ a b. a < b) first table ascends in
    let after_code : All (λ other. code < other) codes = pairs_head (λ a b. a < b) code codes ascend in
    let rest : filter (is_among (code ∷ codes)) table ≡ filter (is_among codes) table =
    same_filter (is_among (code ∷ codes)) (is_among codes) table
    (All-weaker (λ other. first < other) (λ other. is_among (code ∷ codes) other ≡ is_among codes other) (λ other less. ap (λ (b : Bool). b || is_among codes other) (not_same code other (omega (arith, same, less)))) table after_first) in
    ap (λ (b : Bool). cond (b || is_among codes first) (first ∷ filter (is_among (code ∷ codes)) table) (filter (is_among (code ∷ codes)) table)) here
    ∙ ap (λ (found : List ℕ). first ∷ found) (rest ∙ without (all_in first table codes (All-tail (Contains (first ∷ table)) code codes known)
    (All-weaker (λ other. code < other) (λ other. first < other) (λ other less. omega (arith, same, less)) codes after_code)))
    ∙ ap (λ (n : ℕ). n ∷ codes) (sym same)
code_first first table code codes ascends ascend known (suc k, low, is) without with_it =
    let there : Contains table code = (k, omega (arith, low), is) in
    let less : first < code = All-contains (λ other. first < other) table code (pairs_head (λ a b. a < b) first table ascends) there in
    let all : All (λ other. first < other) codes = All-weaker (λ other. code < other) (λ other. first < other) (λ other more. omega (arith, less, more)) codes (pairs_head (λ a b. a < b) code codes ascend) in
    let none : is_among (code ∷ codes) first ≡ false = ap (λ (b : Bool). b || is_among codes first) (not_same_back code first less) ∙ above codes first all in
    ap (λ (b : Bool). cond b (first ∷ filter (is_among (code ∷ codes)) table) (filter (is_among (code ∷ codes)) table)) none
    ∙ with_it (All-cons (Contains table) code codes there (all_in first table codes (All-tail (Contains (first ∷ table)) code codes known) all))

in_order : (table codes : List ℕ) → Ascends table → Ascends codes → All (Contains table) codes → filter (is_among codes) table ≡ codes
in_order [] [] ascends ascend known = refl
in_order [] (code ∷ codes) ascends ascend known = absurd (none_in code (All-head (Contains []) code codes known))
in_order (first ∷ table) [] ascends ascend known = in_order table [] (pairs_tail (λ a b. a < b) first table ascends) ascend (λ k d low. absurd (omega (arith, low)))
in_order (first ∷ table) (code ∷ codes) ascends ascend known =
    code_first first table code codes ascends ascend known (All-head (Contains (first ∷ table)) code codes known)
    (λ all. in_order table codes (pairs_tail (λ a b. a < b) first table ascends) (pairs_tail (λ a b. a < b) code codes ascend) all)
    (λ all. in_order table (code ∷ codes) (pairs_tail (λ a b. a < b) first table ascends) ascend all)

pub codes_again : (codes : List ℕ) → AreEventCodes codes → codes_of (events_of codes) ≡ codes
codes_again codes are =
    codes_back codes ∙ named (is_among codes) event_codes ∙ in_order known_codes codes (codes_known 4095).ascending are.ascending are.known
