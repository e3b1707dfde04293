-- What the commit of a row makes of a card.
use Rattle.std.proofs.Common.{◌≡◌, ◌≢◌, ◌⊎◌, ℕ, ◌+◌, ◌-◌, ◌*◌, ◌≤◌, ◌<◌, ◌^◌, ◌==◌, not, nat_lt, Bool, true, false, if◌then◌else◌, List, [], ◌∷◌, ◌++◌, length, map, filter, slice_get, Option, Some, None, IsSomeAnd, Contains, All, count_by, drop, refl, sym, ◌∙◌, ap, subst, lit≤, lit<, arith, length-take, length-drop}
use Rattle.std.proofs.lemmas.List.Elements.{All-contains, All-contains_itself, All-filter, All-weaker, All-nil, All-cons}
use Rattle.std.proofs.lemmas.Bool.Decides.{nat_tests}
use Rattle.std.proofs.lemmas.Option.{get_or_from_slice_get, same_Some}
use Rattle.list_laws.proofs.MapLemmas.{same_mapped}
use Rattle.list_laws.proofs.ContainsLemmas.{in_rest}
use Rattle.store_form.specs.Pieces.{Piece, applied, IsUsablePiece}
use Rattle.card_state.specs.declared.entries.Row.{Row}
use Rattle.card_state.specs.declared.entries.Loaded.{Loaded}
use Rattle.card_state.specs.Blank.{unused_row}
use Rattle.card_state.specs.Kinds.{codes_of, call_control_code}
use Rattle.card_state.specs.Sections.{sorted_codes}
use Rattle.card_state.specs.Persistent.{Registration, Persistent}
use Rattle.card_state.specs.Ranges.{HasRowRanges}
use Rattle.card_state.specs.Soundness.{IsSound, IsSoundRow}
use Rattle.card_state.specs.Changing.{placed, with_row_on, with_row_changed, with_codes, with_kept_committed}
use Rattle.card_state.specs.Places.{memory_size, row_place, row_count}
use Rattle.card_state.specs.Standing.{Stands, Agrees}
use Rattle.card_state.specs.StateLaws.{RowsComeFromEntries}
use Rattle.card_state.specs.States.{rows_of, registration_of}
use Rattle.card_state.specs.Used.{HasRow, registration_if}
use Rattle.card_state.proofs.SortedCodesLemmas.{of_sorted}
use Rattle.card_state.specs.StayingSound.{InstalledRowFits}
use Rattle.card_state.specs.Fitting.{FitsOnShelf, ShareNoCallControl}
use Rattle.layout_entries.specs.Adding.{HasRoom}
use Rattle.layout_entries.proofs.SpellingLemmas.{length-row_spelled}
use Rattle.layout_entries.specs.Spelling.{row_spelled, row_part, sequence_part, kept_part}
use Rattle.layout_laws.specs.Changes.{with_row}
use Rattle.layout_laws.specs.ChangeLaws.{kept_pieces}
use Rattle.layout_laws.specs.Known.{StandingIsCard, StandingIsOfTable}
use Rattle.layout_laws.specs.StandingLaws.{EventsStand, KeptBytesStand, RemovedRowStands, InstalledRowStands, NoOtherHasCallControl}
use Rattle.layout_laws.specs.Writing.{IsWholeRow}
use Rattle.card_commits.specs.Commits.{Commits}
use Rattle.card_commits.specs.Entries.{HasRowOn, row_at, with_row_at}
use Rattle.card_commits.specs.Rows.{MayInstall, with_row_installed, rows_alone, without_row_on}

-- a shelf with a row
pub row_there : (table : Loaded) (shelf : ℕ) → HasRowOn table shelf → HasRow table shelf (row_at table shelf)
row_there table shelf has = by_entry (slice_get table.rows shelf) refl has where
  by_entry : (entry : Option Row) → slice_get table.rows shelf ≡ entry → IsSomeAnd entry (λ row. row.used ≡ true) → HasRow table shelf (row_at table shelf)
  by_entry None is none = absurd none
  by_entry (Some row) is used = rw (get_or_from_slice_get table.rows shelf row unused_row is) (record { there = is; used = used })

-- a row that is used is shown as it is
shown : (table : Loaded) (shelf : ℕ) (row : Row) → row.used ≡ true → with_row table shelf row ≡ with_row_at table shelf row
shown table shelf row used = ap (λ (b : Bool). let set : Loaded = with_row_at table shelf (if b then row else unused_row) in set) used

module _ (of_table : StandingIsOfTable) (from_rows : RowsComeFromEntries) (mark : ℕ) (told : Option (List ℕ)) (table : Loaded) (shelf : ℕ) (row : Row) (has : HasRow table shelf row) where
  -- each row of the state on this shelf is the entry's
  only_row : (agrees : Agrees mark told table) (other : Registration) → Contains agrees.state.rows other → other.shelf ≡ shelf → other ≡ registration_of shelf row
  only_row agrees other there on =
      let is = (of_table mark agrees.content table agrees.state agrees.stands).0 in
      let entry = from_rows table agrees.content other (subst (λ (s : Persistent). Contains s.rows other) is there) in
      let same : entry.entry ≡ row = same_Some entry.entry row (sym entry.has.there ∙ ap (λ (n : ℕ). slice_get table.rows n) on ∙ has.there) in
      entry.same ∙ ap (λ (n : ℕ). registration_of n entry.entry) on ∙ ap (registration_of shelf) same

  -- two changes that are the same of the entry's row are the same of the state
  pub same_change : (agrees : Agrees mark told table) (f g : Registration → Registration) → f (registration_of shelf row) ≡ g (registration_of shelf row) → with_row_changed f shelf agrees.state ≡ with_row_changed g shelf agrees.state
  unfolding with_row_changed
  same_change agrees f g same =
      ap (λ (rows : List Registration). record agrees.state { rows = rows })
      (same_mapped (λ (r : Registration). if r.shelf == shelf then f r else r) (λ (r : Registration). if r.shelf == shelf then g r else r) agrees.state.rows
      (All-weaker (Contains agrees.state.rows) (λ r. (if r.shelf == shelf then f r else r) ≡ (if r.shelf == shelf then g r else r)) each agrees.state.rows (All-contains_itself agrees.state.rows)))
    where
      by_test : (r : Registration) (b : Bool) → (r.shelf == shelf) ≡ b → Contains agrees.state.rows r → (if b then f r else r) ≡ (if b then g r else r)
      by_test r false is there = refl
      by_test r true is there =
          let it : r ≡ registration_of shelf row = only_row agrees r there (grind (arith, nat_tests)) in
          ap f it ∙ same ∙ sym (ap g it)

      each : (r : Registration) → Contains agrees.state.rows r → (if r.shelf == shelf then f r else r) ≡ (if r.shelf == shelf then g r else r)
      each r there = by_test r (r.shelf == shelf) refl there

  -- ---- events

  abbrev pub anew : ℕ → Row
  anew events = record row { events = events }

  pub events_commit : EventsStand → (events : ℕ) (change : Registration → Registration) → events < 2 ^ 12 → (Contains (codes_of events) call_control_code → Contains (codes_of row.events) call_control_code) ⊎ NoOtherHasCallControl table shelf
      → (let old = registration_of shelf row in let new : Registration = record old { codes = codes_of events } in new ≡ change old)
      → Commits mark told table (row_part shelf (record row { events = events }) 5 7 ∷ []) (with_row_at table shelf (record row { events = events })) (with_row_changed change shelf)
  events_commit stands events change low call_control same agrees =
      let stood = stands mark agrees.content table agrees.state shelf events row agrees.stands has low call_control in
      let here = subst (λ (t : Loaded). Stands mark (applied (row_part shelf (record row { events = events }) 5 7 ∷ []) agrees.content) t (with_codes shelf (codes_of events) agrees.state)) (shown table shelf (record row { events = events }) has.used) stood in
      subst (λ (s : Persistent). Stands mark (applied (row_part shelf (record row { events = events }) 5 7 ∷ []) agrees.content) (with_row_at table shelf (record row { events = events })) s)
      (same_change agrees (λ r. record r { codes = codes_of events }) change same) here

  -- ---- what a row keeps, and that there is none

  pub kept_commit : KeptBytesStand → (kept : List ℕ) (to : ℕ) (pieces : List Piece) → length kept ≤ 32 → to ≡ 19 + length kept → pieces ≡ row_part shelf (record row { kept = kept }) 18 to ∷ []
      → Commits mark told table pieces (with_row_at table shelf (record row { kept = kept })) (with_kept_committed shelf kept)
  kept_commit stands kept to pieces few end is agrees =
      let stood = stands mark agrees.content table agrees.state shelf to kept row agrees.stands has few (omega (arith, end)) (omega (arith, end, few)) in
      let here = subst (λ (t : Loaded). Stands mark (applied (row_part shelf (record row { kept = kept }) 18 to ∷ []) agrees.content) t (with_kept_committed shelf kept agrees.state)) (shown table shelf (record row { kept = kept }) has.used) stood in
      rw is here

  -- and so of a copy of the row
  pub kept_copied : KeptBytesStand → (copy : Row) (kept kept' : List ℕ) (to : ℕ) (pieces : List Piece) → copy ≡ row → kept' ≡ kept → length kept ≤ 32 → to ≡ 19 + length kept
      → pieces ≡ row_part shelf (record copy { kept = kept' }) 18 to ∷ [] → Commits mark told table pieces (with_row_at table shelf (record copy { kept = kept' })) (with_kept_committed shelf kept)
  kept_copied stands copy kept kept' to pieces same same_kept few end is =
      let one : pieces ≡ row_part shelf (record row { kept = kept }) 18 to ∷ [] =
      is ∙ ap (λ (r : Row). row_part shelf (record r { kept = kept' }) 18 to ∷ []) same ∙ ap (λ (k : List ℕ). row_part shelf (record row { kept = k }) 18 to ∷ []) same_kept in
      rw (same, same_kept) (kept_commit stands kept to pieces few end one)

  pub removed_commit : RemovedRowStands → (pieces : List Piece) → pieces ≡ row_part shelf (record row { used = false }) 0 1 ∷ [] → Commits mark told table pieces (with_row_at table shelf unused_row) (without_row_on shelf)
  removed_commit stands pieces is agrees = rw is (stands mark agrees.content table agrees.state shelf row agrees.stands has)

  pub removed_copied : RemovedRowStands → (copy none : Row) (pieces : List Piece) → copy ≡ row → none ≡ unused_row → pieces ≡ row_part shelf (record copy { used = false }) 0 1 ∷ []
      → Commits mark told table pieces (with_row_at table shelf none) (without_row_on shelf)
  removed_copied stands copy none pieces same gone is =
      rw gone (removed_commit stands pieces (is ∙ ap (λ (r : Row). row_part shelf (record r { used = false }) 0 1 ∷ []) same))

-- ---- what the table tells of rows afterwards

module _ (of_table : StandingIsOfTable) (mark : ℕ) (told : Option (List ℕ)) (table : Loaded) where
  pub rows_after : (pieces : List Piece) (table' : Loaded) (change : Persistent → Persistent) (agrees : Agrees mark told table) → Commits mark told table pieces table' change → rows_of table' ≡ (change agrees.state).rows
  rows_after pieces table' change agrees commits = sym (of_table mark (applied pieces agrees.content) table' (change agrees.state) (commits agrees)).1.rows

  rows_before : (agrees : Agrees mark told table) → agrees.state.rows ≡ rows_of table
  rows_before agrees = (of_table mark agrees.content table agrees.state agrees.stands).1.rows

  pub changed_rows : (change : Registration → Registration) (shelf : ℕ) (agrees : Agrees mark told table) → (with_row_changed change shelf agrees.state).rows ≡ (with_row_changed change shelf (rows_alone table)).rows
  unfolding with_row_changed
  changed_rows change shelf agrees = ap (map (λ (r : Registration). if r.shelf == shelf then change r else r)) (rows_before agrees)

-- ---- room for the pieces of a whole row

part_short : (shelf from to : ℕ) (row : Row) → length (row_part shelf row from to).bytes ≤ to - from
part_short shelf from to row = omega (arith, length-take (to - from) (drop from (row_spelled row)))

pub room_behind : (shelf : ℕ) (row : Row) (pieces : List Piece) → pieces ≡ row_part shelf row 0 51 ∷ [] → HasRoom pieces 2
room_behind shelf row pieces is = rw is (lit< tt, omega (arith, part_short shelf 0 51 row))

pub room_at_end : (shelf next : ℕ) (row : Row) (first pieces : List Piece) → first ≡ row_part shelf row 0 51 ∷ [] → pieces ≡ first ++ sequence_part next ∷ [] → HasRoom pieces 32
room_at_end shelf next row first pieces is then_is =
    let both : pieces ≡ row_part shelf row 0 51 ∷ sequence_part next ∷ [] = then_is ∙ ap (λ (list : List Piece). list ++ sequence_part next ∷ []) is in
    rw both (lit< tt, omega (arith, part_short shelf 0 51 row))

-- ---- which bytes may be named

row_place_low : (shelf : ℕ) → shelf < 32 → (832 ≤ row_place shelf) × (row_place shelf + 64 ≤ 65536)
row_place_low shelf low = by_test (nat_lt shelf 16) refl where
  by_test : (b : Bool) → nat_lt shelf 16 ≡ b → (832 ≤ (if b then 896 + 64 * shelf else 63488 + 64 * (shelf - 16))) × ((if b then 896 + 64 * shelf else 63488 + 64 * (shelf - 16)) + 64 ≤ 65536)
  by_test true is = let below : shelf < 16 = grind (arith, nat_tests) in (omega arith, omega arith)
  by_test false is = (omega arith, omega arith)

pub part_usable : (shelf from to : ℕ) (row : Row) → shelf < 32 → from < to → to ≤ 51 → IsUsablePiece memory_size (row_part shelf row from to)
part_usable shelf from to row low order inside =
    let place = row_place_low shelf low in
    let long : length (row_part shelf row from to).bytes ≡ to - from =
    omega (arith, order, inside, length-row_spelled row, length-take (to - from) (drop from (row_spelled row)), length-drop from (row_spelled row)) in
    record { some = omega (arith, long, order); range = record { inside = omega (arith, long, order, inside, place.1); outside = λ some below. absurd (omega (arith, place.0)) } }

sequence_usable : (next : ℕ) → IsUsablePiece memory_size (sequence_part next)
sequence_usable next = record { some = lit< tt; range = record { inside = lit≤ tt; outside = λ some below. lit≤ tt } }

kept_usable : (shelf : ℕ) (row : Row) → shelf < 32 → 32 < length row.kept → length row.kept ≤ 64 → IsUsablePiece memory_size (kept_part shelf row)
kept_usable shelf row low many few =
    let long : length (drop 32 row.kept) ≡ length row.kept - 32 = length-drop 32 row.kept in
    record { some = omega (arith, long); range = record { inside = omega (arith, long); outside = λ some below. absurd (omega arith) } }

pub installed_usable : (shelf next : ℕ) (row : Row) (pieces : List Piece) → shelf < 32 → length row.kept ≤ 64 → pieces ≡ row_part shelf row 0 51 ∷ sequence_part next ∷ kept_pieces shelf row → All (IsUsablePiece memory_size) pieces
installed_usable shelf next row pieces low few is =
    subst (All (IsUsablePiece memory_size)) (sym is)
    (All-cons (IsUsablePiece memory_size) (row_part shelf row 0 51) (sequence_part next ∷ kept_pieces shelf row) (part_usable shelf 0 51 row low (omega arith) (omega arith))
    (All-cons (IsUsablePiece memory_size) (sequence_part next) (kept_pieces shelf row) (sequence_usable next) (by_test (nat_lt 32 (length row.kept)) refl)))
  where
    by_test : (b : Bool) → nat_lt 32 (length row.kept) ≡ b → All (IsUsablePiece memory_size) (if b then kept_part shelf row ∷ [] else [])
    by_test true is_long = All-cons (IsUsablePiece memory_size) (kept_part shelf row) [] (kept_usable shelf row low (grind (arith, nat_tests)) few) (All-nil (IsUsablePiece memory_size))
    by_test false is_long = All-nil (IsUsablePiece memory_size)

-- ---- codes

-- call control is among the codes with one more only if it was, or if it is the one
pub still_call_control : (code : ℕ) (old new : List ℕ) → code ≢ call_control_code → new ≡ sorted_codes (code ∷ old) → Contains new call_control_code → Contains old call_control_code
still_call_control code old new other is there = in_rest code old call_control_code other (of_sorted (code ∷ old) call_control_code (subst (λ (codes : List ℕ). Contains codes call_control_code) is there))

pub left_call_control : (code : ℕ) (old new : List ℕ) → new ≡ filter (λ other. not (other == code)) old → Contains new call_control_code → Contains old call_control_code
left_call_control code old new is there =
    All-contains (Contains old) new call_control_code
    (subst (All (Contains old)) (sym is) (All-filter (λ other. not (other == code)) (Contains old) old (All-contains_itself old))) there

-- a commit of the same row
pub carried : (mark : ℕ) (told : Option (List ℕ)) (table : Loaded) (shelf from to : ℕ) (row row' : Row) (pieces : List Piece) (change : Persistent → Persistent) → row' ≡ row → pieces ≡ row_part shelf row' from to ∷ []
    → Commits mark told table (row_part shelf row from to ∷ []) (with_row_at table shelf row) change → Commits mark told table pieces (with_row_at table shelf row') change
carried mark told table shelf from to row row' pieces change same is commits agrees = rw (is, same) (commits agrees)

-- ---- a new row

fits_state : (of_table : StandingIsOfTable) (mark : ℕ) (told : Option (List ℕ)) (table : Loaded) (agrees : Agrees mark told table) (row : Registration)
    → FitsOnShelf (record (rows_alone table) { next_sequence = table.next + 1 }) row → FitsOnShelf (record agrees.state { next_sequence = table.next + 1 }) row
fits_state of_table mark told table agrees row fits =
    let of = (of_table mark agrees.content table agrees.state agrees.stands).1 in
    record {
      sound = subst (λ (w : Bool). IsSoundRow w (table.next + 1) row) (sym of.wide) fits.sound;
      sequence = subst (λ (rows : List Registration). All (λ other. other.shelf ≢ row.shelf → other.sequence ≢ row.sequence) rows) (sym of.rows) fits.sequence;
      call_control = subst (λ (rows : List Registration). All (λ other. other.shelf ≢ row.shelf → ShareNoCallControl row other) rows) (sym of.rows) fits.call_control;
      text = subst (λ (rows : List Registration). (length row.text ≡ 0) ⊎ (count_by (λ other. not (length other.text == 0)) rows < 16)) (sym of.rows) fits.text;
    }

pub install_commit : (is_card : StandingIsCard) (of_table : StandingIsOfTable) → InstalledRowStands → InstalledRowFits → (mark : ℕ) (told : Option (List ℕ)) (table : Loaded) (shelf : ℕ) (row : Row) (next : ℕ) (pieces : List Piece)
    → MayInstall table shelf row → HasRowRanges row → next ≡ table.next + 1 → pieces ≡ row_part shelf row 0 51 ∷ sequence_part next ∷ kept_pieces shelf row
    → Commits mark told table pieces (record (with_row_at table shelf row) { next = next }) (with_row_installed (registration_of shelf row))
install_commit is_card of_table stands stays mark told table shelf row next pieces may ranges after is agrees =
    let state : Persistent = agrees.state in
    let new : Registration = registration_of shelf row in
    let of = (of_table mark agrees.content table state agrees.stands).1 in
    let card = is_card mark agrees.content table state agrees.stands in
    let sound : IsSound state = subst IsSound (sym card.1) card.0.sound in
    let fits = fits_state of_table mark told table agrees new may.fits in
    let some : registration_if shelf row ≡ Some new = ap (λ (b : Bool). let one : Option Registration = if b then Some new else None in one) may.used in
    let put : Option Registration → Persistent = λ one. record (with_row_on state shelf one) { next_sequence = table.next + 1 } in
    let new_sound : IsSound (put (Some new)) = stays state shelf (table.next + 1) new sound refl (omega (arith, of.next)) fits in
    let low : table.next + 1 < 2 ^ 16 = omega (arith, may.left) in
    let whole : IsWholeRow table.wide shelf row = record { low = may.fits.sound.shelf; ranges = ranges; kept = may.fits.sound.kept; events = may.events } in
    let content : List ℕ = applied (row_part shelf row 0 51 ∷ sequence_part (table.next + 1) ∷ kept_pieces shelf row) agrees.content in
    let stood : Stands mark content (record (with_row table shelf row) { next = table.next + 1 }) (put (registration_if shelf row)) =
    stands mark agrees.content table state shelf (table.next + 1) row agrees.stands whole low (subst (λ (one : Option Registration). IsSound (put one)) (sym some) new_sound) in
    let here : Stands mark content (record (with_row_at table shelf row) { next = table.next + 1 }) (put (Some new)) =
    subst (λ (t : Loaded). Stands mark content (record t { next = table.next + 1 }) (put (Some new))) (shown table shelf row may.used) (subst (λ (one : Option Registration). Stands mark content (record (with_row table shelf row) { next = table.next + 1 }) (put one)) some stood) in
    let numbered : Stands mark content (record (with_row_at table shelf row) { next = table.next + 1 }) (with_row_installed new state) =
    subst (λ (n : ℕ). Stands mark content (record (with_row_at table shelf row) { next = table.next + 1 }) (record (with_row_on state shelf (Some new)) { next_sequence = n + 1 })) (sym of.next) here in
    rw (is, after) numbered

-- ---- what the table tells of rows

pub placed_rows : (of_table : StandingIsOfTable) (mark : ℕ) (told : Option (List ℕ)) (table : Loaded) (shelf : ℕ) (one : Option Registration) (agrees : Agrees mark told table) → (with_row_on agrees.state shelf one).rows ≡ (with_row_on (rows_alone table) shelf one).rows
placed_rows of_table mark told table shelf one agrees = ap (placed (λ r. r.shelf) shelf one) (of_table mark agrees.content table agrees.state agrees.stands).1.rows

pub few_rows : (wide : Bool) → row_count wide ≤ 32
few_rows true = lit≤ tt
few_rows false = lit≤ tt
