-- Commits of one attribute of a file or of a row that is there.
use Rattle.std.proofs.Common.{◌≡◌, ◌≢◌, ◌⊎◌, ℕ, ◌+◌, ◌≤◌, ◌<◌, ◌^◌, ◌==◌, not, Bool, true, false, IsTrue, if◌then◌else◌, List, ◌∷◌, ◌++◌, ◌-◌, take, drop, length, filter, Option, Some, None, All, Contains, refl, sym, ◌∙◌, ap, subst, inl, inr, ⊎_elim, lit≤, arith, length-take, length-drop, length-append}
use Rattle.std.proofs.lemmas.Bool.{ne_eqb, not_from_false}
use Rattle.std.proofs.lemmas.List.Elements.{All-contains}
use Rattle.std.proofs.lemmas.Option.{get_or_from_slice_get, slice_get_within}
use Rattle.list_laws.proofs.MapLemmas.{mapped_too}
use Rattle.list_laws.specs.Patches.{patched}
use Rattle.list_laws.proofs.ContainsLemmas.{in_rest, of_filtered}
use Rattle.store_form.specs.Pieces.{Piece}
use Rattle.card_state.proofs.AreEventCodesLemmas.{codes_known}
use Rattle.card_state.specs.Standing.{state_in, Stands}
use Rattle.card_state.specs.declared.entries.Node.{Node}
use Rattle.card_state.specs.declared.entries.PinSlot.{PinSlot}
use Rattle.card_state.specs.declared.entries.Row.{Row}
use Rattle.card_state.specs.declared.entries.Loaded.{Loaded}
use Rattle.card_state.specs.Kinds.{df_kind, is_ef_kind, activated, deactivated, event_codes, codes_of, call_control_code}
use Rattle.card_state.specs.Places.{kept_limit}
use Rattle.card_state.specs.Decoding.{row_bytes, table_of, bytes_apart}
use Rattle.card_state.specs.Persistent.{File, Registration, Persistent}
use Rattle.card_state.specs.States.{contents_of, file_of, ef_file, pin_state, registration_of, used_rows, present_pins, files_of, pins_of, rows_of, state_of}
use Rattle.card_state.specs.Soundness.{IsEf, AreDistinct, AreDifferent, IsSoundRow, IsSound}
use Rattle.card_state.specs.Ranges.{HasRowRanges}
use Rattle.card_state.specs.Sections.{sorted_codes}
use Rattle.card_state.specs.Events.{SetsBit, ClearsBit, SettingAddsCode, ClearingRemovesCode}
use Rattle.card_state.specs.SoundnessLaws.{StandingIsSound, SoundStands}
use Rattle.card_state.specs.Used.{HasNode, HasPin, HasRow, file_if, registration_if}
use Rattle.card_state.specs.Changing.{with_file_at, with_row_on, with_file_changed, with_life, with_row_changed, with_codes, with_code_committed, without_code_committed, with_kept_committed}
use Rattle.card_state.proofs.SortedCodesLemmas.{of_sorted}
use Rattle.card_state.proofs.PlacedLemmas.{contains_filtered, placed_is_changed}
use Rattle.card_state.proofs.FittingLemmas.{without_file, without_row, with_row_anew, file_anew_fits}
use Rattle.card_state.proofs.IsEfKindLemmas.{not_df}
use Rattle.layout_entries.specs.Spelling.{node_part, row_part, kept_part}
use Rattle.layout_entries.specs.Fields.{merged_node, merged_row, kept_anew}
use Rattle.layout_entries.specs.Laws.{after, KeepsBytesBeside, ChangesBytesAround, ChangesOneNode, RowsAreReadBack}
use Rattle.layout_laws.specs.Bare.{bare_node, bare_row}
use Rattle.layout_laws.proofs.BareLemmas.{bare_node_ranges, bare_node_flag, bare_node_life, bare_row_ranges, bare_row_flag, bare_row_events}
use Rattle.layout_laws.specs.Changes.{with_node, with_row}
use Rattle.layout_laws.specs.ChangeLaws.{ChangesFile, ChangesRow, ChangesKeptBytes, ChangesBytesApart}
use Rattle.layout_laws.proofs.EnumerateFromLemmas.{is_shown}
use Rattle.layout_laws.specs.StandingLaws.{NoOtherHasCallControl}
use Rattle.layout_laws.proofs.HasNodeLemmas.{row_seen, row_flag, row_events}
use Rattle.layout_laws.proofs.ContentsOfLemmas.{file_there, ef_of}
use Rattle.layout_laws.proofs.StandsLemmas.{state_is, sound, formed, has_node, right_head}
use Rattle.layout_laws.proofs.WritingLemmas.{file_put, row_put, row_limit, kept_changed, apart_changed}

-- ---- entries that are used

row_in_state : (content : List ℕ) (shelf : ℕ) (row : Row) → HasRow (table_of content) shelf row → Contains (state_in content).rows (registration_of shelf row)
unfolding state_of files_of pins_of rows_of
row_in_state content shelf row has =
    let rows : List Row = (table_of content).rows in
    mapped_too (λ (e : ℕ × Row). registration_of e.0 e.1) (used_rows rows) (shelf, row) (is_shown (λ (r : Row). r.used) 0 shelf shelf rows row (omega arith) has.there has.used)

pin_in_state : (content : List ℕ) (slot : ℕ) (pin : PinSlot) → HasPin (table_of content) slot pin → Contains (state_in content).pins (pin_state pin)
unfolding state_of files_of pins_of rows_of
pin_in_state content slot pin has =
    let pins : List PinSlot = (table_of content).pins in
    let present : not (pin.key == 0) ≡ true = not_from_false (pin.key == 0) (ne_eqb pin.key 0 has.key) in
    mapped_too pin_state (present_pins pins) pin (contains_filtered (λ (p : PinSlot). not (p.key == 0)) pins pin slot (slice_get_within pins slot pin has.there) (get_or_from_slice_get pins slot pin pin has.there) present)

-- ---- attributes

-- ---- codes

module _ (is_sound : StandingIsSound) (sound_stands : SoundStands) (store_mark : ℕ) (content : List ℕ) (table : Loaded) (state : Persistent) (stands : Stands store_mark content table state) where
  same_state : state ≡ state_in content
  same_state = state_is is_sound sound_stands store_mark content table state stands

  this_sound : IsSound state
  this_sound = sound is_sound sound_stands store_mark content table state stands

  has_row : (shelf : ℕ) (row : Row) → HasRow table shelf row → HasRow (table_of content) shelf row
  has_row shelf row has = subst (λ (t : Loaded). HasRow t shelf row) (sym stands.entries) has

  pub file_in : (number : ℕ) (node : Node) → HasNode table number node → Contains state.files (file_of content number node)
  file_in number node has =
      subst (λ (s : Persistent). Contains s.files (file_of content number node)) (sym same_state)
      (file_there content number node (has_node is_sound sound_stands store_mark content table state stands number node has))

  pub pin_in : (slot : ℕ) (pin : PinSlot) → HasPin table slot pin → Contains state.pins (pin_state pin)
  pin_in slot pin has =
      subst (λ (s : Persistent). Contains s.pins (pin_state pin)) (sym same_state) (pin_in_state content slot pin (subst (λ (t : Loaded). HasPin t slot pin) (sym stands.entries) has))

  pub row_in : (shelf : ℕ) (row : Row) → HasRow table shelf row → Contains state.rows (registration_of shelf row)
  row_in shelf row has = subst (λ (s : Persistent). Contains s.rows (registration_of shelf row)) (sym same_state) (row_in_state content shelf row (has_row shelf row has))

  pub known_events : (shelf : ℕ) (row : Row) → HasRow table shelf row → row.events < 2 ^ 12
  known_events shelf row has =
      let seen = row_seen content shelf row (has_row shelf row has) in
      let more : List ℕ = bytes_apart content shelf in
      let form = (formed is_sound sound_stands store_mark content table state stands).rows shelf seen.0 in
      let flag = row_flag (row_bytes content shelf) more row seen.1 has.used in
      subst (λ (n : ℕ). n < 2 ^ 12) (row_events (row_bytes content shelf) more row seen.1) (form.events flag)

  -- ---- the life cycle status

  life_set : (number life : ℕ) (node : Node) → (node.kind == df_kind) ≡ false → file_of content number (record node { life = life }) ≡ record (file_of content number node) { life = life }
  unfolding contents_of
  life_set number life node other = ef_of content number (record node { life = life }) other ∙ ap (λ (f : File). record f { life = life }) (sym (ef_of content number node other))

  pub life_changed : (beside : KeepsBytesBeside) (around : ChangesBytesAround) (entries : ChangesOneNode) (commit : ChangesFile) (number life : ℕ) (node : Node) → HasNode table number node
      → IsTrue (is_ef_kind node.kind) → (life ≡ deactivated) ⊎ (life ≡ activated)
      → Stands store_mark (after (node_part number (record node { life = life }) 6 7) content) (with_node table number (record node { life = life })) (with_life number life state)
  unfolding merged_node with_file_changed
  life_changed beside around entries commit number life node has is_ef known =
      let new : Node = record node { life = life } in
      let old_file : File = file_of content number node in
      let other : (node.kind == df_kind) ≡ false = not_df node.kind is_ef in
      let is_there : old_file ≡ ef_file content number node = ef_of content number node other in
      let number_is : old_file.number ≡ number = ap (λ (f : File). f.number) is_there in
      let file_is_ef : IsEf old_file = subst IsEf (sym is_there) is_ef in
      let head = right_head is_sound sound_stands store_mark content table state stands number node has in
      let file_is : file_if content number new ≡ Some (record old_file { life = life }) =
      ap (λ (b : Bool). let shown : Option File = if b then Some (file_of content number new) else None in shown) has.used ∙ ap (λ (f : File). let some : Option File = Some f in some) (life_set number life node other) in
      let new_sound : IsSound (with_file_at state number (Some (record old_file { life = life }))) =
      file_anew_fits state number old_file (record old_file { life = life }) this_sound number_is (record { there = file_in number node has; is_ef = file_is_ef; others = refl; life = known }) in
      let in_place : with_file_at state number (Some (record old_file { life = life })) ≡ with_life number life state =
      ap (λ (list : List File). record state { files = list })
      (placed_is_changed (λ (f : File). f.number) number (λ (f : File). record f { life = life }) AreDistinct (λ a b d. d.number) state.files old_file this_sound.distinct_files (file_in number node has) number_is) in
      subst (Stands store_mark (after (node_part number new 6 7) content) (with_node table number new)) (ap (λ (f : Option File). with_file_at state number f) file_is ∙ in_place)
      (subst (λ (piece : Piece). Stands store_mark (after piece content) (with_node table number new) (with_file_at state number (file_if content number new))) (bare_node_life number new)
      (file_put is_sound sound_stands beside around store_mark content table state stands entries commit number 6 7 node (bare_node new) new has
      (record { order = lit≤ tt; inside = lit≤ tt; uncut = refl }) (bare_node_ranges new) refl (inl (record { kind = refl; place = refl; size = refl })) (record { cyclic = head.cyclic; other = head.other })
      (subst (λ (f : Option File). IsSound (with_file_at state number f)) (sym file_is) new_sound)))

  pub file_removed : (beside : KeepsBytesBeside) (around : ChangesBytesAround) (entries : ChangesOneNode) (commit : ChangesFile) (number : ℕ) (node : Node) → HasNode table number node
      → number ≢ 0 → All (λ other. other.parent ≢ number) state.files
      → Stands store_mark (after (node_part number (record node { used = false }) 0 1) content) (with_node table number (record node { used = false })) (with_file_at state number None)
  unfolding merged_node
  file_removed beside around entries commit number node has not_mf empty =
      let new : Node = record node { used = false } in
      let head = right_head is_sound sound_stands store_mark content table state stands number node has in
      subst (λ (piece : Piece). Stands store_mark (after piece content) (with_node table number new) (with_file_at state number None)) (bare_node_flag number new)
      (file_put is_sound sound_stands beside around store_mark content table state stands entries commit number 0 1 node (bare_node new) new has
      (record { order = lit≤ tt; inside = lit≤ tt; uncut = refl }) (bare_node_ranges new) refl (inl (record { kind = refl; place = refl; size = refl })) (record { cyclic = head.cyclic; other = head.other })
      (without_file state number this_sound empty not_mf))

  -- ---- attributes of a row

  shown_new : (shelf : ℕ) (new : Row) → new.used ≡ true → registration_if shelf new ≡ Some (registration_of shelf new)
  shown_new shelf new used_too = ap (λ (b : Bool). let shown : Option Registration = if b then Some (registration_of shelf new) else None in shown) used_too

  row_sound : (shelf : ℕ) (row : Row) → HasRow table shelf row → IsSoundRow state.is_wide state.next_sequence (registration_of shelf row)
  row_sound shelf row has = All-contains (IsSoundRow state.is_wide state.next_sequence) state.rows (registration_of shelf row) this_sound.rows (row_in shelf row has)

  least_limit : (wide : Bool) → 32 ≤ kept_limit wide
  least_limit true = lit≤ tt
  least_limit false = lit≤ tt

  most_kept : (wide : Bool) → kept_limit wide ≤ 64
  most_kept true = lit≤ tt
  most_kept false = lit≤ tt

  -- the row on a shelf is changed in its place
  in_place : (shelf : ℕ) (row : Row) (change : Registration → Registration) → HasRow table shelf row → with_row_on state shelf (Some (change (registration_of shelf row))) ≡ with_row_changed change shelf state
  unfolding with_row_changed
  in_place shelf row change has =
      ap (λ (list : List Registration). record state { rows = list })
      (placed_is_changed (λ (r : Registration). r.shelf) shelf change AreDifferent (λ a b d. d.shelf) state.rows (registration_of shelf row) this_sound.distinct_rows (row_in shelf row has) refl)

  rows_are : state.rows ≡ rows_of table
  unfolding state_of
  rows_are = ap (λ (s : Persistent). s.rows) same_state ∙ ap rows_of stands.entries

  module _ (beside : KeepsBytesBeside) (around : ChangesBytesAround) (back : RowsAreReadBack) (commit : ChangesRow) (shelf : ℕ) (row : Row) (has : HasRow table shelf row) where
    ranges : (new : Row) → new.events < 2 ^ 12 → new.text ≡ row.text → new.kept ≡ row.kept → HasRowRanges (bare_row new)
    ranges new events text kept =
        let s = row_sound shelf row has in
        bare_row_ranges new (omega arith) (omega (arith, s.text, ap length text)) (omega (arith, s.kept, ap length kept, most_kept state.is_wide))

    pub row_removed : Stands store_mark (after (row_part shelf (record row { used = false }) 0 1) content) (with_row table shelf (record row { used = false })) (with_row_on state shelf None)
    unfolding merged_row
    row_removed =
        let new : Row = record row { used = false } in
        let known : row.events < 2 ^ 12 = known_events shelf row has in
        subst (λ (piece : Piece). Stands store_mark (after piece content) (with_row table shelf new) (with_row_on state shelf None)) (bare_row_flag shelf new)
        (row_put is_sound sound_stands beside around store_mark content table state stands back commit shelf 0 1 row (bare_row new) new has
        (record { order = lit≤ tt; inside = lit≤ tt; uncut = refl }) (ranges new known refl refl) refl (inr (lit≤ tt)) (row_limit is_sound sound_stands beside around store_mark content table state stands shelf row has) known
        (without_row state this_sound shelf))

    -- the row with other events in the place of the old one
    events_put : (events : ℕ) → events < 2 ^ 12 → (Contains (codes_of events) call_control_code → Contains (codes_of row.events) call_control_code) ⊎ NoOtherHasCallControl table shelf
        → Stands store_mark (after (row_part shelf (record row { events = events }) 5 7) content) (with_row table shelf (record row { events = events }))
        (with_row_on state shelf (Some (registration_of shelf (record row { events = events }))))
    unfolding merged_row
    events_put events low call_control =
        let new : Row = record row { events = events } in
        let old : Registration = registration_of shelf row in
        let may : (Contains (codes_of events) call_control_code → Contains old.codes call_control_code)
        ⊎ All (λ other. other.shelf ≢ shelf → Contains (codes_of events) call_control_code → Contains other.codes call_control_code → ⊥) state.rows =
        ⊎_elim {C = (Contains (codes_of events) call_control_code → Contains old.codes call_control_code) ⊎ All (λ other. other.shelf ≢ shelf → Contains (codes_of events) call_control_code → Contains other.codes call_control_code → ⊥) state.rows}
        (λ had. inl had)
        (λ free.
        inr
        (λ k d inside apart in_new in_other.
        subst (All (λ other. other.shelf ≢ shelf → Contains other.codes call_control_code → ⊥)) (sym rows_are) free k d inside apart in_other))
        call_control in
        let new_sound : IsSound (with_row_on state shelf (Some (registration_of shelf new))) = with_row_anew state this_sound old (codes_of events) row.kept (row_in shelf row has) (codes_known events) (row_sound shelf row has).kept may in
        subst (λ (r : Option Registration). Stands store_mark (after (row_part shelf new 5 7) content) (with_row table shelf new) (with_row_on state shelf r)) (shown_new shelf new has.used)
        (subst (λ (piece : Piece). Stands store_mark (after piece content) (with_row table shelf new) (with_row_on state shelf (registration_if shelf new))) (bare_row_events shelf new)
        (row_put is_sound sound_stands beside around store_mark content table state stands back commit shelf 5 7 row (bare_row new) new has
        (record { order = lit≤ tt; inside = lit≤ tt; uncut = refl }) (ranges new low refl refl) refl (inr (lit≤ tt)) (row_limit is_sound sound_stands beside around store_mark content table state stands shelf row has) low
        (subst (λ (r : Option Registration). IsSound (with_row_on state shelf r)) (sym (shown_new shelf new has.used)) new_sound)))

    codes_put : (events : ℕ) (change : List ℕ → List ℕ) → events < 2 ^ 12 → codes_of events ≡ change (codes_of row.events)
        → (Contains (codes_of events) call_control_code → Contains (codes_of row.events) call_control_code) ⊎ NoOtherHasCallControl table shelf
        → Stands store_mark (after (row_part shelf (record row { events = events }) 5 7) content) (with_row table shelf (record row { events = events }))
        (with_row_changed (λ r. record r { codes = change r.codes }) shelf state)
    codes_put events change low is call_control =
        let new : Row = record row { events = events } in
        subst (Stands store_mark (after (row_part shelf new 5 7) content) (with_row table shelf new))
        (ap (λ (codes : List ℕ). with_row_on state shelf (Some (record (registration_of shelf row) { codes = codes }))) is ∙ in_place shelf row (λ r. record r { codes = change r.codes }) has)
        (events_put events low call_control)

    pub events_changed : (events : ℕ) → events < 2 ^ 12 → (Contains (codes_of events) call_control_code → Contains (codes_of row.events) call_control_code) ⊎ NoOtherHasCallControl table shelf
        → Stands store_mark (after (row_part shelf (record row { events = events }) 5 7) content) (with_row table shelf (record row { events = events })) (with_codes shelf (codes_of events) state)
    events_changed events low call_control = codes_put events (λ codes. codes_of events) low refl call_control

    pub registered : (set : SettingAddsCode) (code bit events : ℕ) → events < 2 ^ 12 → Contains event_codes (code, bit) → SetsBit bit row.events events → (code ≢ call_control_code) ⊎ NoOtherHasCallControl table shelf
        → Stands store_mark (after (row_part shelf (record row { events = events }) 5 7) content) (with_row table shelf (record row { events = events })) (with_code_committed shelf code state)
    registered set code bit events low known sets call_control =
        let old : List ℕ = codes_of row.events in
        let is : codes_of events ≡ sorted_codes (code ∷ old) = set code bit row.events events known sets in
        codes_put events (λ codes. sorted_codes (code ∷ codes)) low is
        (⊎_elim {C = (Contains (codes_of events) call_control_code → Contains old call_control_code) ⊎ NoOtherHasCallControl table shelf}
        (λ other. inl (λ there. in_rest code old call_control_code other (of_sorted (code ∷ old) call_control_code (subst (λ (codes : List ℕ). Contains codes call_control_code) is there))))
        (λ free. inr free) call_control)

    pub deregistered : (clear : ClearingRemovesCode) (code bit events : ℕ) → events < 2 ^ 12 → Contains event_codes (code, bit) → ClearsBit bit row.events events
        → Stands store_mark (after (row_part shelf (record row { events = events }) 5 7) content) (with_row table shelf (record row { events = events })) (without_code_committed shelf code state)
    deregistered clear code bit events low known clears =
        let old : List ℕ = codes_of row.events in
        let is : codes_of events ≡ filter (λ other. not (other == code)) old = clear code bit row.events events known clears in
        codes_put events (λ codes. filter (λ other. not (other == code)) codes) low is
        (inl (λ there. of_filtered (λ other. not (other == code)) old call_control_code (subst (λ (codes : List ℕ). Contains codes call_control_code) is there)))

  -- ---- what a row keeps

  module _ (beside : KeepsBytesBeside) (around : ChangesBytesAround) (shelf : ℕ) (row : Row) (has : HasRow table shelf row) where
    keeping : List ℕ → Row
    keeping kept = record row { kept = kept }

    kept_sound : (kept : List ℕ) → length kept ≤ kept_limit state.is_wide → IsSound (with_row_on state shelf (registration_if shelf (keeping kept)))
    unfolding keeping
    kept_sound kept few =
        subst (λ (r : Option Registration). IsSound (with_row_on state shelf r)) (sym (shown_new shelf (keeping kept) has.used))
        (with_row_anew state this_sound (registration_of shelf row) (registration_of shelf row).codes kept (row_in shelf row has) (row_sound shelf row has).codes few (inl (λ had. had)))

    -- the state with the row that keeps these bytes
    kept_in_place : (kept : List ℕ) → with_row_on state shelf (registration_if shelf (keeping kept)) ≡ with_kept_committed shelf kept state
    unfolding keeping
    kept_in_place kept =
        ap (λ (r : Option Registration). with_row_on state shelf r) (shown_new shelf (keeping kept) has.used) ∙ in_place shelf row (λ r. record r { kept = kept }) has

    pub kept_stands : (back : RowsAreReadBack) (commit : ChangesKeptBytes) (to : ℕ) (kept : List ℕ) → length kept ≤ 32 → 19 + length kept ≤ to → to ≤ 51
        → Stands store_mark (after (row_part shelf (record row { kept = kept }) 18 to) content) (with_row table shelf (record row { kept = kept })) (with_kept_committed shelf kept state)
    unfolding keeping
    kept_stands back commit to kept few enough inside =
        let new : Row = record row { kept = kept } in
        subst (Stands store_mark (after (row_part shelf new 18 to) content) (with_row table shelf new)) (kept_in_place kept)
        (kept_changed is_sound sound_stands beside around store_mark content table state stands back commit shelf to kept row has (row_sound shelf row has).text few enough inside
        (kept_sound kept (omega (arith, least_limit state.is_wide))))

    length-kept_anew : (old new : List ℕ) → length (kept_anew old new) ≡ length old
    unfolding patched
    length-kept_anew old new =
        let put : List ℕ = take (length old - 32) (drop 32 new) in
        omega (
          arith,
          length-append (take 32 old ++ put) (drop (32 + length put) old),
          length-append (take 32 old) put,
          length-take 32 old,
          length-take (length old - 32) (drop 32 new),
          length-drop (32 + length put) old,
        )

    pub apart_stands : (commit : ChangesBytesApart) (new : Row) → table.wide ≡ true → length new.kept ≤ 64
        → Stands store_mark (after (kept_part shelf new) content) (with_row table shelf (record row { kept = kept_anew row.kept new.kept })) (with_kept_committed shelf (kept_anew row.kept new.kept) state)
    unfolding keeping
    apart_stands commit new is few =
        let kept : List ℕ = kept_anew row.kept new.kept in
        subst (Stands store_mark (after (kept_part shelf new) content) (with_row table shelf (record row { kept = kept }))) (kept_in_place kept)
        (apart_changed is_sound sound_stands beside around store_mark content table state stands commit shelf row new has is few
        (kept_sound kept (omega (arith, length-kept_anew row.kept new.kept, (row_sound shelf row has).kept))))
