-- Rows that are kept one after the other.
use Rattle.std.proofs.Common.{◌≡◌, ℕ, ◌+◌, ◌<◌, ◌≤◌, List, ◌++◌, length, take, drop, set, get_or, ◌∙◌, ap, arith}
use Rattle.std.proofs.lemmas.List.{take_all, drop_all, append-nil}
use Rattle.list_laws.proofs.EditLemmas.{set_more}
use Rattle.card_state.specs.declared.entries.Row.{Row}

module _ (rows first places : List Row) (shelf : ℕ) where
  pub one_more : (d : Row) → length rows ≡ length first → places ≡ take shelf rows ++ drop shelf first → shelf < length first → (row : Row) → row ≡ get_or rows shelf d → set places shelf row ≡ take (shelf + 1) rows ++ drop (shelf + 1) first
  one_more d as_many so_far low row is =
      ap (λ (list : List Row). set list shelf row) so_far ∙ ap (set (take shelf rows ++ drop shelf first) shelf) is ∙ set_more rows first shelf d as_many low

  pub all_kept : length rows ≡ length first → places ≡ take shelf rows ++ drop shelf first → length first ≤ shelf → places ≡ rows
  all_kept as_many so_far high = so_far ∙ ap (λ list. take shelf rows ++ list) (drop_all shelf first high) ∙ append-nil (take shelf rows) ∙ take_all shelf rows (omega (arith, high, as_many))
