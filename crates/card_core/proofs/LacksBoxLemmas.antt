-- From the rows of a table and their boxes to the registered applets and theirs.
use Rattle.std.proofs.Common.{◌≡◌, ℕ, ◌==◌, ◌&&◌, ◌<◌, ◌+◌, Bool, true, false, not, List, [], length, map, option_map, ◌≤◌, ⊎_elim, slice_get, slice_index_or, Option, Some, None, option_and_then, unwrap_or, refl, sym, ◌∙◌, ap, subst, arith, All, Contains, IfSome, IsSomeAnd}
use Rattle.std.proofs.lemmas.List.Elements.{All-contains_itself}
use Rattle.std.proofs.lemmas.Option.{slice_get_within, slice_get_read}
use Rattle.std.proofs.lemmas.List.{get_or-map, get_or_default}
use Rattle.std.proofs.lemmas.Bool.{cases_lt, eqb-true, eq-eqb, not-false, not-true, false≢true, true≢false}
use Rattle.list_laws.proofs.FindLemmas.{find_Some}
use Rattle.card_state.specs.declared.entries.Row.{Row}
use Rattle.card_state.specs.declared.entries.Loaded.{Loaded}
use Rattle.card_state.specs.Persistent.{Registration}
use Rattle.card_state.specs.States.{rows_of, registration_of, state_of}
use Rattle.card_state.specs.StateLaws.{RowsAreEntries, RowsComeFromEntries, IsOfRow}
use Rattle.card_state.specs.Used.{registration_if}
use Rattle.applet_trait.specs.Minds.{AppletState}
use Rattle.toolkit_model.specs.Registry.{row_on}
use Rattle.card_model.specs.States.{HasBox, IsOfKnownKind, AreOfKnownKinds}
use Rattle.card_core.specs.Boxes.{is_of_kind, lacks_box, IsFirstWithoutBox}

-- ---- one row and its box

has_of_kind : (row : Row) (box : Option AppletState) → row.used ≡ true → lacks_box row box ≡ false → IsSomeAnd box (λ mind. mind.kind ≡ row.kind)
has_of_kind row None used is = absurd (true≢false (sym (ap (λ (b : Bool). b && true) used) ∙ is))
has_of_kind row (Some mind) used is = eqb-true mind.kind row.kind (not-false (mind.kind == row.kind) (sym (ap (λ (b : Bool). b && not (mind.kind == row.kind)) used) ∙ is))

lacks_used : (used : Bool) (row : Row) (box : Option AppletState) → row.used ≡ used → lacks_box row box ≡ true → row.used ≡ true
lacks_used true row box is lacks = is
lacks_used false row box is lacks = absurd (false≢true (sym (ap (λ (b : Bool). b && not (is_of_kind row.kind box)) is) ∙ lacks))

lacks_of_kind : (row : Row) (box : Option AppletState) → row.used ≡ true → lacks_box row box ≡ true → IsSomeAnd box (λ mind. mind.kind ≡ row.kind) → ⊥
lacks_of_kind row None used lacks has = has
lacks_of_kind row (Some mind) used lacks has =
    true≢false (sym (eq-eqb mind.kind row.kind has) ∙ not-true (mind.kind == row.kind) (sym (ap (λ (b : Bool). b && not (mind.kind == row.kind)) used) ∙ lacks))

module _ (entries : RowsAreEntries) (come : RowsComeFromEntries) (table : Loaded) (boxes : List (Option AppletState)) where
  -- the rows of the shelves below this one have their boxes
  abbrev pub HaveBelow : ℕ → Type 0
  HaveBelow end = (shelf : ℕ) (row : Row) → shelf < end → slice_get table.rows shelf ≡ Some row → lacks_box row (slice_index_or boxes shelf None) ≡ false

  has_below : (end : ℕ) → HaveBelow end → (row : Registration) → Contains (rows_of table) row → row.shelf < end → HasBox boxes row
  unfolding state_of
  has_below end have row there low =
      let of_row : IsOfRow table row = come table [] row there in
      let has : IsSomeAnd (slice_index_or boxes row.shelf None) (λ mind. mind.kind ≡ of_row.entry.kind) =
      has_of_kind of_row.entry (slice_index_or boxes row.shelf None) of_row.has.used (have row.shelf of_row.entry low of_row.has.there) in
      subst (λ (kind : ℕ). IsSomeAnd (slice_index_or boxes row.shelf None) (λ mind. mind.kind ≡ kind)) (sym (ap (λ (found : Registration). found.kind) of_row.same)) has

  pub all_have : (end : ℕ) → length table.rows ≡ end → HaveBelow end → All (HasBox boxes) (rows_of table)
  unfolding state_of
  all_have end long have k d low =
      let row : Registration = slice_index_or (rows_of table) k d in
      let there : Contains (rows_of table) row = All-contains_itself (rows_of table) k d low in
      let of_row : IsOfRow table row = come table [] row there in
      has_below end have row there (omega (arith, long, slice_get_within table.rows row.shelf of_row.entry of_row.has.there))

  pub first_found : (shelf : ℕ) (entry : Row) → slice_get table.rows shelf ≡ Some entry → lacks_box entry (slice_index_or boxes shelf None) ≡ true → HaveBelow shelf → IsFirstWithoutBox (rows_of table) boxes shelf
  unfolding state_of
  first_found shelf entry is lacks have =
      let used : entry.used ≡ true = lacks_used entry.used entry (slice_index_or boxes shelf None) refl lacks in
      let registered : registration_if shelf entry ≡ Some (registration_of shelf entry) = rw used refl in
      let found : row_on (rows_of table) shelf ≡ Some (registration_of shelf entry) = entries table [] shelf ∙ ap (option_and_then (registration_if shelf)) is ∙ registered in
      record {
        row = registration_of shelf entry;
        there = (find_Some (λ (row : Registration). row.shelf == shelf) (rows_of table) (registration_of shelf entry) found).0;
        on_shelf = refl;
        lacks = lacks_of_kind entry (slice_index_or boxes shelf None) used lacks;
        before = λ k d low smaller. has_below shelf have (slice_index_or (rows_of table) k d) (All-contains_itself (rows_of table) k d low) smaller;
      }

-- the box of a shelf, by its mind
pub box_at : {B : Type 0} (mind : B → AppletState) (boxes : List (Option B)) (shelf : ℕ) (box : Option B) → shelf < length boxes → box ≡ slice_index_or boxes shelf box → slice_index_or (map (option_map mind) boxes) shelf None ≡ option_map mind box
box_at mind boxes shelf box low is = get_or-map (option_map mind) boxes shelf box None low ∙ ap (option_map mind) (sym is)

-- the row of a shelf, read from the rows of the table
pub row_at : (rows read : List Row) (shelf at : ℕ) (row : Row) → read ≡ rows → at ≡ shelf → shelf < length read → row ≡ slice_index_or read at row → slice_get rows shelf ≡ Some row
row_at rows read shelf at row same here low is = ap (λ (list : List Row). slice_get list shelf) (sym same) ∙ slice_get_read read (length read) shelf row refl low (subst (λ (k : ℕ). row ≡ slice_index_or read k row) here is)

-- one shelf more
pub have_more : (table : Loaded) (boxes : List (Option AppletState)) (end : ℕ) (row : Row) → slice_get table.rows end ≡ Some row → lacks_box row (slice_index_or boxes end None) ≡ false
    → ((shelf : ℕ) (other : Row) → shelf < end → slice_get table.rows shelf ≡ Some other → lacks_box other (slice_index_or boxes shelf None) ≡ false)
    → (shelf : ℕ) (other : Row) → shelf < end + 1 → slice_get table.rows shelf ≡ Some other → lacks_box other (slice_index_or boxes shelf None) ≡ false
have_more table boxes end row there has have shelf other low is =
    ⊎_elim {C = lacks_box other (slice_index_or boxes shelf None) ≡ false}
    (λ (below : shelf < end). have shelf other below is)
    (λ (high : end ≤ shelf).
    let here : end ≡ shelf = omega (arith, high, low) in
    let same : Some row ≡ Some other = sym there ∙ ap (slice_get table.rows) here ∙ is in
    subst (λ (at : ℕ). lacks_box other (slice_index_or boxes at None) ≡ false) here (subst (λ (found : Option Row). lacks_box (unwrap_or found row) (slice_index_or boxes end None) ≡ false) same has))
    (cases_lt shelf end)

-- ---- kinds

-- the box of one shelf more is of a known kind
pub one_more : (boxes : List (Option AppletState)) (end : ℕ) → IfSome (slice_index_or boxes end None) IsOfKnownKind → ((shelf : ℕ) → shelf < end → IfSome (slice_index_or boxes shelf None) IsOfKnownKind)
    → (shelf : ℕ) → shelf < end + 1 → IfSome (slice_index_or boxes shelf None) IsOfKnownKind
one_more boxes end is are shelf low =
    ⊎_elim {C = IfSome (slice_index_or boxes shelf None) IsOfKnownKind}
    (λ (below : shelf < end). are shelf below)
    (λ (high : end ≤ shelf).
    let here : end ≡ shelf = omega (arith, high, low) in
    subst (λ (at : ℕ). IfSome (slice_index_or boxes at None) IsOfKnownKind) here is)
    (cases_lt shelf end)

pub all_of_kinds : (boxes : List (Option AppletState)) (end : ℕ) → length boxes ≡ end → ((shelf : ℕ) → shelf < end → IfSome (slice_index_or boxes shelf None) IsOfKnownKind) → AreOfKnownKinds boxes
all_of_kinds boxes end long are = λ k d low.
    subst (λ (box : Option AppletState). IfSome box IsOfKnownKind) (sym (get_or_default boxes k d None low)) (are k (omega (arith, low, long)))
