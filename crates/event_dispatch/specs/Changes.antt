-- The changes of the rows of a card, and an index that follows them (ETSI TS 102 241).
use Rattle.std.specs.Prelude.{◌≡◌, ◌≢◌, ℕ, false, true, List, [], ◌∷◌, All, Contains, Ok}
use Rattle.card_state.specs.Persistent.{Registration}
use Rattle.card_state.specs.Kinds.{known_codes}
use Rattle.card_state.specs.Sections.{with_row}
use Rattle.toolkit_model.specs.Order.{targets}
use Rattle.toolkit_model.specs.Orderly.{IsRegistered}
use Rattle.toolkit_model.specs.Registry.{is_taken, is_registered, registers, with_code, without_code, with_kept, without_row}
use Rattle.toolkit_model.specs.Steps.{AreRows}
use Rattle.event_dispatch.specs.Indexes.{targets_in, StandsFor}

-- rows that a card may have, registered for events alone
pub record AreListed (rows : List Registration) : Type 0 where
  pub rows_are : AreRows rows
  pub known : All (λ row. All (Contains known_codes) row.codes) rows

-- An applet is installed with its row, the one of a shelf is deleted, its row is registered for an event, or no longer, or it keeps
-- other bytes.
pub data RowChange : Type 0 where
  Installs : Registration → RowChange
  Deletes : ℕ → RowChange
  Registers : ℕ → ℕ → RowChange
  Deregisters : ℕ → ℕ → RowChange
  Keeps : ℕ → List ℕ → RowChange

-- the rows after it
abbrev pub changed : RowChange → List Registration → List Registration
changed (Installs row) rows = with_row rows row
changed (Deletes shelf) rows = without_row rows shelf
changed (Registers shelf code) rows = with_code rows shelf code
changed (Deregisters shelf code) rows = without_code rows shelf code
changed (Keeps shelf bytes) rows = with_kept rows shelf bytes

-- it is not refused, and changes the rows
abbrev pub MayChange : RowChange → List Registration → Type 0
MayChange (Installs row) rows = AreListed (with_row rows row) × (is_taken rows row ≡ false)
MayChange (Deletes shelf) rows = Unit {0}
MayChange (Registers shelf code) rows = IsRegistered rows shelf × (registers rows shelf code ≡ Ok true)
MayChange (Deregisters shelf code) rows = Unit {0}
MayChange (Keeps shelf bytes) rows = Unit {0}

-- The index has under a code what the rows have, and under each other what it had: the row of a shelf comes in under that code.
pub record ComesIn (rows : List Registration) (code : ℕ) (old new : List (List ℕ)) : Type 0 where
  pub here : targets_in new code ≡ targets rows code
  pub others : (other : ℕ) → other ≢ code → targets_in new other ≡ targets_in old other

-- What the call for a change makes of an index, as that call's own clauses say it: `installed`, `gone`, `added` and `removed`. For
-- bytes that are kept there is none.
abbrev pub Follows : RowChange → List Registration → List (List ℕ) → List (List ℕ) → Type 0
Follows (Installs row) rows old new = AreRows (with_row rows row) → StandsFor old (without_row (with_row rows row) row.shelf) → StandsFor new (with_row rows row)
Follows (Deletes shelf) rows old new = AreRows rows → StandsFor old rows → StandsFor new (without_row rows shelf)
Follows (Registers shelf code) rows old new =
    (AreRows (with_code rows shelf code) → is_registered (with_code rows shelf code) shelf code ≡ true
    → targets_in old code ≡ targets (without_row (with_code rows shelf code) shelf) code → targets_in new code ≡ targets (with_code rows shelf code) code)
    × ((other : ℕ) → other ≢ code → targets_in new other ≡ targets_in old other)
Follows (Deregisters shelf code) rows old new = AreRows rows → StandsFor old rows → StandsFor new (without_code rows shelf code)
Follows (Keeps shelf bytes) rows old new = new ≡ old

-- ---- changes, one after the other

-- the rows after all of these changes
abbrev pub changed_by : List RowChange → List Registration → List Registration
changed_by [] rows = rows
changed_by (change ∷ others) rows = changed_by others (changed change rows)

-- each of these changes may be made, one after the other
abbrev pub MayChangeAll : List RowChange → List Registration → Type 0
MayChangeAll [] rows = Unit {0}
MayChangeAll (change ∷ others) rows = MayChange change rows × MayChangeAll others (changed change rows)

-- the index followed each of these changes
abbrev pub FollowsAll : List RowChange → List Registration → List (List ℕ) → List (List ℕ) → Type 0
FollowsAll [] rows old new = new ≡ old
FollowsAll (change ∷ others) rows old new = (between : List (List ℕ)) × Follows change rows old between × FollowsAll others (changed change rows) between new

-- ---- the laws

-- The row of a shelf is registered for a code that it wasn't registered for. Then an index of the rows as they were is one that
-- `added` wants, and it makes it one of the rows as they are.
pub record IsRegistering (rows : List Registration) (shelf code : ℕ) (old : List (List ℕ)) : Type 0 where
  pub rows_are : AreRows (with_code rows shelf code)
  pub registered : is_registered (with_code rows shelf code) shelf code ≡ true
  pub lacks : targets_in old code ≡ targets (without_row (with_code rows shelf code) shelf) code
  pub stands : (new : List (List ℕ)) → ComesIn (with_code rows shelf code) code old new → StandsFor new (with_code rows shelf code)

-- each registration that may be made is one that an index follows
abbrev pub RegistrationsAreFollowed : Type 0
RegistrationsAreFollowed =
    (rows : List Registration) (shelf code : ℕ) (old : List (List ℕ))
    → AreListed rows → MayChange (Registers shelf code) rows → StandsFor old rows → IsRegistering rows shelf code old

-- the rows without the one that was installed are those that were there
abbrev pub InstallationsAreFollowed : Type 0
InstallationsAreFollowed =
    (rows : List Registration) (row : Registration)
    → AreRows rows → is_taken rows row ≡ false → without_row (with_row rows row) row.shelf ≡ rows

-- rows that an index is kept of, after any changes of them, and the index still
abbrev pub ChangesAreFollowed : Type 0
ChangesAreFollowed =
    (changes : List RowChange) (rows : List Registration) (old new : List (List ℕ))
    → AreListed rows → MayChangeAll changes rows → StandsFor old rows → FollowsAll changes rows old new
    → AreListed (changed_by changes rows) × StandsFor new (changed_by changes rows)
