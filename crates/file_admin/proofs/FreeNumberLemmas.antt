-- The smallest free number of a file.
use Rattle.std.proofs.Common.{get_or, ◌≡◌, ℕ, zero, suc, ◌+◌, ◌≤◌, ◌<◌, Bool, true, false, cond, List, Option, Some, None, length, refl, sym, ◌∙◌, ap, subst, arith, inl, inr, ⊎_elim, ◌⊎◌, ◌-◌, not, find, is_none, option_and_then}
use Rattle.std.specs.List.{range_with_len}
use Rattle.std.proofs.lemmas.Bool.{cases_eq}
use Rattle.std.proofs.lemmas.Option.{slice_get-get_or}
use Rattle.card_state.specs.Blank.{unused_node}
use Rattle.card_state.specs.declared.entries.Node.{Node}
use Rattle.card_state.specs.declared.entries.Loaded.{Loaded}
use Rattle.card_state.specs.Persistent.{File}
use Rattle.card_state.specs.States.{file_of, state_of}
use Rattle.card_state.specs.StateLaws.{file_with_number, FilesAreEntries}
use Rattle.card_state.specs.Used.{file_if}
use Rattle.file_model.specs.Rooms.{free_number}

-- ---- the first of some numbers, one after the other, that passes

either : (a b : ℕ) → a ≤ b → (a ≡ b) ⊎ (a < b)
either a b le = ⊎_elim {C = (a ≡ b) ⊎ (a < b)} (λ same. inl same) (λ other. inr (omega (arith, other))) (cases_eq a b)

pub first_number : (p : ℕ → Bool) (from count n : ℕ) → from ≤ n → n < from + count → ((k : ℕ) → from ≤ k → k < n → p k ≡ false) → p n ≡ true → find p (range_with_len from count) ≡ Some n
first_number p from zero n low high fail pass = absurd (omega arith)
first_number p from (suc count) n low high fail pass = ⊎_elim {C = cond (p from) (Some from) (find p (range_with_len (from + 1) count)) ≡ Some n}
    (λ here. ap (λ b. cond b (Some from) (find p (range_with_len (from + 1) count))) (subst (λ m. p m ≡ true) (sym here) pass) ∙ ap Some here)
    (λ later.
    ap (λ b. cond b (Some from) (find p (range_with_len (from + 1) count))) (fail from (omega arith) later)
    ∙ first_number p (from + 1) count n (omega arith) (omega (arith, high)) (λ k after before. fail k (omega arith) before) pass)
    (either from n low)

pub no_number : (p : ℕ → Bool) (from count : ℕ) → ((k : ℕ) → from ≤ k → k < from + count → p k ≡ false) → find p (range_with_len from count) ≡ None
no_number p from zero fail = refl
no_number p from (suc count) fail =
    ap (λ b. cond b (Some from) (find p (range_with_len (from + 1) count))) (fail from (omega arith) (omega arith))
    ∙ no_number p (from + 1) count (λ k after before. fail k (omega arith) (omega (arith, before)))

-- ---- in a table

abbrev pub entry_at : Loaded → ℕ → Node
entry_at table number = get_or table.nodes number unused_node

unused : (content : List ℕ) (number : ℕ) (node : Node) → is_none (file_if content number node) ≡ not node.used
unused content number node = either node.used where
  either : (b : Bool) → is_none (cond b (Some (file_of content number node)) None) ≡ not b
  either true = refl
  either false = refl

-- no file has a number exactly where its entry is not used
pub number_is_free : (table : Loaded) (content : List ℕ) (number : ℕ) → FilesAreEntries → number < length table.nodes
    → is_none (file_with_number (state_of table content) number) ≡ not (entry_at table number).used
number_is_free table content number law low =
    ap (λ (o : Option File). is_none o) (law table content number ∙ ap (option_and_then (file_if content number)) (slice_get-get_or table.nodes number unused_node low))
    ∙ unused content number (entry_at table number)

-- the entries from the DF's on up to this one are used
abbrev pub AreUsed : Loaded → ℕ → ℕ → Type 0
AreUsed table df n = (k : ℕ) → df + 1 ≤ k → k < n → (entry_at table k).used ≡ true

module _ (table : Loaded) (content : List ℕ) (law : FilesAreEntries) (whole : length table.nodes ≡ 128) where
  abbrev is_free : ℕ → Bool
  is_free number = is_none (file_with_number (state_of table content) number)

  fails : (df n : ℕ) → AreUsed table df n → (k : ℕ) → df + 1 ≤ k → k < n → k < 128 → is_free k ≡ false
  fails df n used k after before low = number_is_free table content k law (omega arith) ∙ ap not (used k after before)

  pub number_found : (df n : ℕ) → AreUsed table df n → df + 1 ≤ n → n < 128 → (entry_at table n).used ≡ false → Some n ≡ free_number (state_of table content) df
  unfolding free_number
  number_found df n used after low free =
      sym (first_number is_free (df + 1) (128 - (df + 1)) n after (omega arith) (λ k from before. fails df n used k from before (omega arith))
      (number_is_free table content n law (omega arith) ∙ ap not free))

  pub no_number_found : (df n : ℕ) → AreUsed table df n → 128 ≤ n → None ≡ free_number (state_of table content) df
  unfolding free_number
  no_number_found df n used all =
      sym (no_number is_free (df + 1) (128 - (df + 1)) (λ k from before.
      let low : k < 128 = omega arith in fails df n used k from (omega arith) low))
