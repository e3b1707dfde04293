-- What the boxes are while one after the other is woken.
use Rattle.std.proofs.Common.{◌≡◌, ℕ, zero, suc, ◌+◌, ◌<◌, ◌≤◌, Bool, true, false, List, [], ◌∷◌, ◌++◌, length, take, drop, set, get_or, slice_get, Option, Some, None, option_map, option_and_then, refl, sym, ◌∙◌, ap, arith}
use Rattle.std.proofs.lemmas.List.{map-set, get_or-map, take_all, drop_all, append-nil, length-map}
use Rattle.std.proofs.lemmas.Option.{slice_get_read}
use Rattle.list_laws.proofs.EditLemmas.{set_more}
use Rattle.card_state.specs.declared.entries.Row.{Row}
use Rattle.card_state.specs.declared.entries.Loaded.{Loaded}
use Rattle.card_state.specs.States.{rows_of, state_of}
use Rattle.card_state.specs.StateLaws.{RowsAreEntries}
use Rattle.card_state.specs.Used.{registration_if}
use Rattle.applet_trait.specs.Minds.{AppletState, minds_of}
use Rattle.toolkit_model.specs.Registry.{row_on}
use Rattle.toolkit_model.specs.Commands.{woken_mind, woken_boxes}
use Rattle.card_model.proofs.WokenLemmas.{length-woken_boxes, woken_at}
use Rattle.card_core.specs.Boxes.{woken_beside}

-- what stands after those that were put over
behind : {X : Type 0} (front back : List X) (k : ℕ) (d : X) → length front ≡ length back → k < length back → get_or (take k front ++ drop k back) k d ≡ get_or back k d
behind front [] k d same low = absurd (omega (arith, low))
behind [] (y ∷ back) k d same low = absurd (omega (arith, same))
behind (x ∷ front) (y ∷ back) zero d same low = refl
behind (x ∷ front) (y ∷ back) (suc k) d same low = behind front back k d (omega (arith, same)) (omega (arith, low))

-- a row that is used wakes its box as its registration does
beside_used : (used : Bool) (shelf : ℕ) (row : Row) (box : Option AppletState) → row.used ≡ used → woken_beside row box ≡ option_map (woken_mind (registration_if shelf row)) box
beside_used true shelf row None is = rw is refl
beside_used true shelf row (Some mind) is = rw is refl
beside_used false shelf row None is = rw is refl
beside_used false shelf row (Some mind) is = rw is refl

row_of_table : RowsAreEntries → (table : Loaded) (shelf : ℕ) (row : Row) → slice_get table.rows shelf ≡ Some row → row_on (rows_of table) shelf ≡ registration_if shelf row
unfolding state_of
row_of_table entries table shelf row is = entries table [] shelf ∙ ap (option_and_then (registration_if shelf)) is

module _ {B : Type 0} (mind : B → AppletState) (entries : RowsAreEntries) (table : Loaded) (old boxes : List (Option B)) (shelf : ℕ) where
  abbrev pub Woken : List (Option AppletState)
  Woken = woken_boxes (rows_of table) (minds_of mind old)

  as_many : length Woken ≡ length (minds_of mind old)
  as_many = length-woken_boxes (rows_of table) (minds_of mind old)

  -- one more box is woken
  pub woke_more : (row : Row) (box new : Option B) → shelf < length table.rows → shelf < length (minds_of mind old) → shelf < length boxes
      → row ≡ get_or table.rows shelf row
      → minds_of mind boxes ≡ take shelf Woken ++ drop shelf (minds_of mind old)
      → option_map mind new ≡ woken_beside row (option_map mind (get_or boxes shelf box))
      → minds_of mind (set boxes shelf new) ≡ take (shelf + 1) Woken ++ drop (shelf + 1) (minds_of mind old)
  woke_more row box new low_row low low_box row_is so_far woke =
      let mind_now : Option AppletState = option_map mind (get_or boxes shelf box) in
      let mind_is : mind_now ≡ get_or (minds_of mind old) shelf None =
      sym (get_or-map (option_map mind) boxes shelf box None low_box) ∙ ap (λ list. get_or list shelf None) so_far ∙ behind Woken (minds_of mind old) shelf None as_many low in
      let as_registered : woken_beside row mind_now ≡ get_or Woken shelf None =
      beside_used row.used shelf row mind_now refl
      ∙ ap (λ found. option_map (woken_mind found) mind_now) (sym (row_of_table entries table shelf row (slice_get_read table.rows (length table.rows) shelf row refl low_row row_is)))
      ∙ ap (option_map (woken_mind (row_on (rows_of table) shelf))) mind_is
      ∙ sym (woken_at (rows_of table) (minds_of mind old) shelf) in
      map-set (option_map mind) boxes shelf new
      ∙ ap (λ list. set list shelf (option_map mind new)) so_far
      ∙ ap (set (take shelf Woken ++ drop shelf (minds_of mind old)) shelf) (woke ∙ as_registered)
      ∙ set_more Woken (minds_of mind old) shelf None as_many low

  -- all are woken
  pub all_woke : length old ≤ shelf → minds_of mind boxes ≡ take shelf Woken ++ drop shelf (minds_of mind old) → minds_of mind boxes ≡ Woken
  all_woke high so_far =
      let many : length (minds_of mind old) ≤ shelf = omega (arith, high, length-map old (option_map mind)) in
      so_far
      ∙ ap (λ list. take shelf Woken ++ list) (drop_all shelf (minds_of mind old) many) ∙ append-nil (take shelf Woken)
      ∙ take_all shelf Woken (omega (arith, many, as_many))
