-- The events of a row that is registered for one more, or for one less.
use Rattle.std.proofs.Common.{◌≡◌, refl, sym, ap, ◌∙◌, ℕ, ◌<◌, ◌^◌, Bool, true, false, not, ◌==◌, cond, List, [], ◌∷◌, filter, Option, Some, None, slice_get, IsSome, IsSomeAnd}
use Rattle.std.specs.Option.{option_map_or}
use Rattle.std.proofs.lemmas.Option.{get_or_from_slice_get}
use Rattle.card_state.specs.declared.entries.Row.{Row}
use Rattle.card_state.specs.declared.entries.Loaded.{Loaded}
use Rattle.card_state.specs.Blank.{unused_row}
use Rattle.card_state.specs.Changes.{PutEvents}
use Rattle.card_state.specs.Kinds.{codes_of}
use Rattle.card_state.specs.Persistent.{Registration}
use Rattle.card_state.specs.Sections.{sorted_codes}
use Rattle.card_state.specs.StateLaws.{RowsAreEntries, StatesAreOfTables}
use Rattle.card_state.specs.States.{rows_of}
use Rattle.card_commits.specs.Entries.{HasRowOn, row_at}
use Rattle.toolkit_model.specs.Registry.{is_on, row_on, with_changed, with_code, without_code}
use Rattle.toolkit_model.specs.Changes.{events_of, codes_on}
use Rattle.toolkit_model.proofs.EventsOfLemmas.{events_are}
use Rattle.proactive_handler.proofs.HasRowOnLemmas.{row_shown, row_kept}

-- ---- the row of a shelf, with other codes

module _ (shelf : ℕ) (change : List ℕ → List ℕ) where
  abbrev changed : Registration → Registration
  changed row = record row { codes = change row.codes }

  abbrev codes_in : Option Registration → List ℕ
  codes_in found = option_map_or (λ row. row.codes) found []

  codes_changed : (rows : List Registration) → IsSome (row_on rows shelf) → codes_on (with_changed rows shelf changed) shelf ≡ change (codes_on rows shelf)
  codes_changed [] there = absurd (cc there)
  codes_changed (row ∷ rows) there = by_first (is_on shelf row) refl (codes_changed rows) there
    where
      by_first : (b : Bool) → is_on shelf row ≡ b → (IsSome (row_on rows shelf) → codes_on (with_changed rows shelf changed) shelf ≡ change (codes_on rows shelf)) → IsSome (cond b (Some row) (row_on rows shelf))
          → codes_in (row_on (cond b (changed row) row ∷ with_changed rows shelf changed) shelf) ≡ change (codes_in (cond b (Some row) (row_on rows shelf)))
      by_first true is later found = ap (λ (b : Bool). codes_in (cond b (Some (changed row)) (row_on (with_changed rows shelf changed) shelf))) is
      by_first false is later found = ap (λ (b : Bool). codes_in (cond b (Some row) (row_on (with_changed rows shelf changed) shelf))) is ∙ later found

-- ---- a row that is there

module _ (table : Loaded) (shelf : ℕ) (tables : StatesAreOfTables) (entries : RowsAreEntries) (has : HasRowOn table shelf) where
  codes_at : (entry : Option Row) → slice_get table.rows shelf ≡ entry → IsSomeAnd entry (λ row. row.used ≡ true) → codes_on (rows_of table) shelf ≡ codes_of (row_at table shelf).events
  codes_at None there used = absurd used
  codes_at (Some row) there used =
      ap (λ (found : Option Registration). option_map_or (λ (r : Registration). r.codes) found []) (row_kept table shelf row tables entries there used)
      ∙ ap (λ (r : Row). codes_of r.events) (sym (get_or_from_slice_get table.rows shelf row unused_row there))

  codes_here : codes_on (rows_of table) shelf ≡ codes_of (row_at table shelf).events
  codes_here = codes_at (slice_get table.rows shelf) refl has

  module _ (at : ℕ) (here : at ≡ shelf) (code events : ℕ) (low : events < 2 ^ 12) where
    puts : (change : List ℕ → List ℕ) → codes_of events ≡ change (codes_of (row_at table shelf).events) → PutEvents shelf events ≡ PutEvents at (events_of (codes_on (with_changed (rows_of table) shelf (λ row. record row { codes = change row.codes })) at))
    puts change told =
        let rows : List Registration = with_changed (rows_of table) shelf (λ row. record row { codes = change row.codes }) in
        let codes : codes_on rows shelf ≡ codes_of events = codes_changed shelf change (rows_of table) (row_shown table shelf tables entries has) ∙ ap change codes_here ∙ sym told in
        ap (λ (n : ℕ). PutEvents shelf n) (events_are events (codes_on rows shelf) low (sym codes)) ∙ ap (λ (n : ℕ). PutEvents n (events_of (codes_on rows n))) (sym here)

    pub puts_more : codes_of events ≡ sorted_codes (code ∷ codes_of (row_at table shelf).events) → PutEvents shelf events ≡ PutEvents at (events_of (codes_on (with_code (rows_of table) shelf code) at))
    puts_more told = puts (λ codes. sorted_codes (code ∷ codes)) told

    pub puts_less : codes_of events ≡ filter (λ other. not (other == code)) (codes_of (row_at table shelf).events) → PutEvents shelf events ≡ PutEvents at (events_of (codes_on (without_code (rows_of table) shelf code) at))
    puts_less told = puts (λ codes. filter (λ other. not (other == code)) codes) told
