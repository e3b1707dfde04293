-- What a commit of one piece changes of the table of entries: one entry, or the next sequence number, or nothing.
use Rattle.std.proofs.Common.{◌≡◌, ℕ, ◌+◌, ◌≤◌, ◌<◌, ◌==◌, Bool, true, false, nat_lt, if◌then◌else◌, List, [], length, refl, ◌∙◌, ap, inl, ⊎_elim, arith}
use Rattle.std.specs.Int.{w16, from_be_bytes}
use Rattle.std.proofs.lemmas.Bool.{cases_lt}
use Rattle.std.proofs.lemmas.Bool.Decides.{nat_tests}
use Rattle.list_laws.specs.Patches.{patched, IsApart}
use Rattle.list_laws.proofs.PatchesLemmas.{get_or-patched_apart, range-patched_apart}
use Rattle.card_state.specs.Blank.{unused_row}
use Rattle.card_state.specs.Places.{pin_place, row_place, kept_place, node_place, row_count}
use Rattle.card_state.proofs.RowPlaceLemmas.{row_place_low, row_place_high, below_32}
use Rattle.card_state.specs.Decoding.{number_at, is_wide, row_bytes, kept_bytes, node_in, pin_in, row_in, row_when, node_at, pin_at, row_at}

-- ---- places

pub row_inside : (shelf : ℕ) → shelf < 32 → row_place shelf + 51 ≤ 65536
row_inside shelf low =
    ⊎_elim {C = row_place shelf + 51 ≤ 65536} (λ h. omega (arith, row_place_low shelf h)) (λ h. omega (arith, row_place_high shelf h)) (cases_lt shelf 16)

-- ---- choices

if_same : {X : Type 0} (test : Bool) (a b e : X) → (test ≡ true → a ≡ b) → (if test then a else e) ≡ (if test then b else e)
if_same true a b e same = same refl
if_same false a b e same = refl

row_when_same : (wide : Bool) (shelf : ℕ) (bytes more bytes' more' : List ℕ) → (shelf < row_count wide → bytes ≡ bytes') → (wide ≡ true → shelf < 32 → more ≡ more')
    → row_when wide shelf bytes more ≡ row_when wide shelf bytes' more'
row_when_same true shelf bytes more bytes' more' first second =
    if_same (nat_lt shelf 32) (row_in bytes more) (row_in bytes' more') unused_row
    (λ passed.
    let low : shelf < 32 = grind (arith, nat_tests) in
    ap (λ (l : List ℕ). row_in l more) (first low) ∙ ap (λ (l : List ℕ). row_in bytes' l) (second refl low))
row_when_same false shelf bytes more bytes' more' first second =
    if_same (nat_lt shelf 16) (row_in bytes []) (row_in bytes' []) unused_row
    (λ passed. let low : shelf < 16 = grind (arith, nat_tests) in ap (λ (l : List ℕ). row_in l []) (first low))

-- ---- what a piece leaves as it is

module _ (place : ℕ) (bytes content : List ℕ) (long : length content ≡ 65536) (fits : place + length bytes ≤ length content) where
  abbrev now : List ℕ
  now = patched place bytes content

  pub wide_stays : 8 ≤ place → is_wide now ≡ is_wide content
  wide_stays high = ap (λ (n : ℕ). n == 2) (get_or-patched_apart place bytes content fits 4 (inl (omega arith)))

  pub next_stays : 8 ≤ place → number_at now 6 ≡ number_at content 6
  next_stays high = ap (λ (l : List ℕ). from_be_bytes w16 l) (range-patched_apart place bytes content fits 6 2 (omega arith) (inl (omega arith)))

  pub node_stays : (number : ℕ) → number < 128 → IsApart (node_place number) 16 place (length bytes) → node_at now number ≡ node_at content number
  node_stays number low apart = ap node_in (range-patched_apart place bytes content fits (node_place number) 16 (omega arith) apart)

  pub pin_stays : (slot : ℕ) → slot < 3 → IsApart (pin_place slot) 20 place (length bytes) → pin_at now slot ≡ pin_at content slot
  pin_stays slot low apart = ap pin_in (range-patched_apart place bytes content fits (pin_place slot) 20 (omega arith) apart)

  pub row_stays : (shelf : ℕ) → is_wide now ≡ is_wide content → (shelf < row_count (is_wide content) → IsApart (row_place shelf) 51 place (length bytes))
      → (is_wide content ≡ true → shelf < 32 → IsApart (kept_place shelf) 32 place (length bytes)) → row_at now shelf ≡ row_at content shelf
  row_stays shelf same row_apart kept_apart =
      ap (λ (w : Bool). row_when w shelf (row_bytes now shelf) (kept_bytes now shelf)) same
      ∙ row_when_same (is_wide content) shelf (row_bytes now shelf) (kept_bytes now shelf) (row_bytes content shelf) (kept_bytes content shelf)
      (λ low. range-patched_apart place bytes content fits (row_place shelf) 51 (omega (arith, row_inside shelf (below_32 (is_wide content) shelf low))) (row_apart low))
      (λ wide low. range-patched_apart place bytes content fits (kept_place shelf) 32 (omega arith) (kept_apart wide low))
