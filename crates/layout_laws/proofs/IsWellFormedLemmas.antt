-- A memory stays well formed where a piece that isn't among its first bytes leaves each entry its form.
use Rattle.std.proofs.Common.{◌≡◌, ◌⊎◌, ℕ, ◌+◌, ◌≤◌, ◌<◌, ◌==◌, ◌&&◌, Bool, true, false, IsTrue, List, length, slice_index, sym, ◌∙◌, ap, subst, inl, inr, ⊎_elim, lit≤, arith}
use Rattle.std.proofs.lemmas.Bool.{cases_lt}
use Rattle.std.proofs.lemmas.Bool.Decides.{nat_tests}
use Rattle.list_laws.specs.Patches.{patched, IsApart}
use Rattle.list_laws.proofs.PatchesLemmas.{length-patched, patched_before}
use Rattle.card_state.specs.Places.{memory_size, pin_place, row_place, node_place, row_count, data_place, data_end}
use Rattle.card_state.specs.Decoding.{bytes_at, is_wide, node_bytes, pin_bytes, row_bytes}
use Rattle.card_state.specs.Checks.{is_version}
use Rattle.card_state.proofs.RowPlaceLemmas.{row_below_kept, below_32}
use Rattle.card_state.specs.Forms.{IsPinForm, IsRowForm, IsNodeForm, IsWellFormed}
use Rattle.layout_entries.specs.Laws.{KeepsBytesBeside}

-- ---- places

-- a row stands among the rows below the entries of the files, or in a wide card after the bytes of the files
pub row_where : (wide : Bool) (shelf : ℕ) → shelf < row_count wide → ((896 ≤ row_place shelf) × (row_place shelf + 51 ≤ 1920)) ⊎ ((data_end wide ≤ row_place shelf) × (row_place shelf + 51 ≤ 64512))
row_where false shelf low = inl (grind (arith, nat_tests), grind (arith, nat_tests))
row_where true shelf low =
    ⊎_elim {C = ((896 ≤ row_place shelf) × (row_place shelf + 51 ≤ 1920)) ⊎ ((63488 ≤ row_place shelf) × (row_place shelf + 51 ≤ 64512))}
    (λ lower. inl (grind (arith, nat_tests), grind (arith, nat_tests))) (λ upper. inr (grind (arith, nat_tests), grind (arith, nat_tests))) (cases_lt shelf 16)

-- ---- the first bytes

abbrev are_mark : ℕ → ℕ → ℕ → ℕ → Bool
are_mark a b c d = a == 0x55 && b == 0x49 && c == 0x43 && d == 0x43

pub same_mark : (a a' b b' c c' d d' : ℕ) → a ≡ a' → b ≡ b' → c ≡ c' → d ≡ d' → IsTrue (are_mark a' b' c' d') → IsTrue (are_mark a b c d)
same_mark a a' b b' c c' d d' p q r s is = rw (p, q, r, s) is

module _ (beside : KeepsBytesBeside) (store_mark : ℕ) (content : List ℕ) (long : length content ≡ memory_size) (place : ℕ) (bytes : List ℕ) (fits : place + length bytes ≤ memory_size) where
  abbrev now : List ℕ
  now = patched place bytes content

  inside : place + length bytes ≤ length content
  inside = omega arith

  pub now_long : length now ≡ memory_size
  now_long = length-patched place bytes content inside ∙ long

  byte_before : (k : ℕ) → k < place → slice_index now k ≡ slice_index content k
  byte_before k low = patched_before place bytes content inside k low

  pub wide_stays : 6 ≤ place → is_wide now ≡ is_wide content
  wide_stays high = ap (λ (n : ℕ). n == 2) (byte_before 4 (omega arith))

  -- an entry that the piece doesn't touch keeps its form
  form_stays : (Form : List ℕ → Type 0) (at count : ℕ) → at + count ≤ memory_size → IsApart at count place (length bytes) ⊎ Form (bytes_at now at count) → Form (bytes_at content at count)
      → Form (bytes_at now at count)
  form_stays Form at count within how was =
      ⊎_elim {C = Form (bytes_at now at count)} (λ apart. subst Form (sym (beside content bytes place at count inside (omega arith) apart)) was) (λ new. new) how

  pub formed_still : IsWellFormed store_mark content → 6 ≤ place
      → ((slot : ℕ) → slot < 3 → IsApart (pin_place slot) 20 place (length bytes) ⊎ IsPinForm slot (pin_bytes now slot))
      → ((shelf : ℕ) → shelf < row_count (is_wide content) → IsApart (row_place shelf) 51 place (length bytes) ⊎ IsRowForm (is_wide content) (row_bytes now shelf))
      → ((number : ℕ) → number < 128 → IsApart (node_place number) 16 place (length bytes) ⊎ IsNodeForm (node_bytes now number))
      → IsWellFormed store_mark now
  formed_still formed high pins rows nodes = record {
    mark = same_mark _ _ _ _ _ _ _ _ (byte_before 0 (omega arith)) (byte_before 1 (omega arith)) (byte_before 2 (omega arith)) (byte_before 3 (omega arith)) formed.mark;
    version = subst (λ (n : ℕ). IsTrue (is_version n)) (sym (byte_before 4 (omega arith))) formed.version;
    store = byte_before 5 (omega arith) ∙ formed.store;
    pins = λ slot low. form_stays (IsPinForm slot) (pin_place slot) 20 (omega arith) (pins slot low) (formed.pins slot low);
    rows =
        subst (λ (w : Bool). (shelf : ℕ) → shelf < row_count w → IsRowForm w (row_bytes now shelf)) (sym (wide_stays high))
        (λ shelf low. form_stays (IsRowForm (is_wide content)) (row_place shelf) 51 (omega (arith, row_below_kept shelf (below_32 (is_wide content) shelf low))) (rows shelf low) (formed.rows shelf low));
    nodes = λ number low. form_stays IsNodeForm (node_place number) 16 (omega arith) (nodes number low) (formed.nodes number low);
  }

  -- ---- pieces that are in no entry

  -- the next sequence number
  pub formed_low : IsWellFormed store_mark content → 6 ≤ place → place + length bytes ≤ 832 → IsWellFormed store_mark now
  formed_low formed high low =
      formed_still formed high (λ slot few. inl (inr (omega arith)))
      (λ shelf few. inl (⊎_elim {C = IsApart (row_place shelf) 51 place (length bytes)} (λ lower. inr (omega (arith, lower.0))) (λ upper. inr (omega (arith, upper.0, least_end (is_wide content)))) (row_where (is_wide content) shelf few)))
      (λ number few. inl (inr (omega arith)))
    where
      least_end : (wide : Bool) → 63488 ≤ data_end wide
      least_end true = lit≤ tt
      least_end false = lit≤ tt

  -- bytes of the files
  pub formed_data : IsWellFormed store_mark content → data_place ≤ place → place + length bytes ≤ data_end (is_wide content) → IsWellFormed store_mark now
  formed_data formed low high =
      formed_still formed (omega arith) (λ slot few. inl (inl (omega arith)))
      (λ shelf few. inl (⊎_elim {C = IsApart (row_place shelf) 51 place (length bytes)} (λ lower. inl (omega (arith, lower.1))) (λ upper. inr (omega (arith, upper.0))) (row_where (is_wide content) shelf few)))
      (λ number few. inl (inl (omega arith)))

  -- kept bytes that stand apart from their rows
  pub formed_apart : IsWellFormed store_mark content → 64512 ≤ place → IsWellFormed store_mark now
  formed_apart formed low =
      formed_still formed (omega arith) (λ slot few. inl (inl (omega arith)))
      (λ shelf few. inl (inl (omega (arith, row_below_kept shelf (below_32 (is_wide content) shelf few)))))
      (λ number few. inl (inl (omega arith)))
