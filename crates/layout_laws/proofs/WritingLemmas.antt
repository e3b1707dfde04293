-- Commits of entries.
use Rattle.std.proofs.Common.{◌≡◌, ◌⊎◌, ℕ, ◌+◌, ◌≤◌, ◌<◌, ◌^◌, Bool, true, false, nat_lt, if◌then◌else◌, List, [], ◌∷◌, length, drop, slice_index, refl, sym, ◌∙◌, ap, subst, inl, inr, ⊎_elim, lit≤, arith, length-drop}
use Rattle.std.proofs.lemmas.Bool.Decides.{nat_tests}
use Rattle.store_form.specs.Pieces.{Piece, applied}
use Rattle.card_state.specs.Standing.{state_in, Stands}
use Rattle.card_state.specs.declared.entries.Node.{Node}
use Rattle.card_state.specs.declared.entries.PinSlot.{PinSlot}
use Rattle.card_state.specs.declared.entries.Row.{Row}
use Rattle.card_state.specs.declared.entries.Loaded.{Loaded}
use Rattle.card_state.specs.Places.{memory_size, pin_place, row_place, kept_place, node_place, row_count, kept_limit}
use Rattle.card_state.specs.Numbers.{two_bytes}
use Rattle.card_state.specs.Decoding.{is_wide, row_bytes, pin_bytes, table_of, bytes_apart}
use Rattle.card_state.specs.Persistent.{Persistent}
use Rattle.card_state.specs.States.{pin_state}
use Rattle.card_state.specs.Soundness.{IsSound}
use Rattle.card_state.specs.Ranges.{HasNodeRanges, HasPinRanges, HasRowRanges}
use Rattle.card_state.specs.Forms.{HasRightHead, IsWellFormed}
use Rattle.card_state.specs.SoundnessLaws.{StandingIsSound, SoundStands}
use Rattle.card_state.specs.Used.{HasOwnKeys, HasNode, HasPin, HasRow, pin_if, LiesAmongFiles, file_if, registration_if}
use Rattle.card_state.specs.Changing.{with_file_at, with_row_on, with_pin_in, with_pin_for}
use Rattle.card_state.proofs.RowPlaceLemmas.{below_32, row_below_kept}
use Rattle.card_state.proofs.WithContentsLemmas.{pin_sound, sequence_sound}
use Rattle.layout_entries.specs.Spelling.{node_spelled, pin_spelled, row_spelled, node_part, pin_part, row_part, kept_part, sequence_part}
use Rattle.layout_entries.specs.Fields.{node_fields, row_fields, AreWholeFields, is_among, merged_node, merged_row, kept_anew, reread_node, reread_pin, reread_row, node_there}
use Rattle.layout_entries.specs.Laws.{after, KeepsBytesBeside, ChangesBytesAround, ChangesOneNode, RowsAreReadBack}
use Rattle.layout_laws.specs.Cards.{Holds, LiesWhere}
use Rattle.layout_laws.specs.Bare.{bare_row}
use Rattle.layout_laws.proofs.BareLemmas.{bare_row_ranges, bare_row_kept}
use Rattle.layout_laws.specs.Changes.{with_node, with_slot, with_row}
use Rattle.layout_laws.specs.ChangeLaws.{ChangesFile, AddsFile, RereadsFile, ChangesPin, AddsPin, RereadsPin, ChangesRow, AddsRow, InstallsRow, RereadsRow, ChangesKeptBytes, ChangesBytesApart, ChangesNextSequence, kept_pieces}
use Rattle.layout_laws.specs.Standing.{StandsForNoOther}
use Rattle.layout_laws.specs.Writing.{IsFileChange, IsPinChange, IsRowChange, IsWholeFile, IsWholePin, IsWholeRow}
use Rattle.layout_laws.proofs.IsWellFormedLemmas.{now_long, formed_low, formed_apart}
use Rattle.layout_laws.proofs.HasNodeLemmas.{node_seen, pin_seen, row_seen, pin_key, row_flag, row_keeps, row_events}
use Rattle.layout_laws.proofs.FormsLemmas.{events_uncut, node_formed, own_key_there, pin_formed, row_formed}
use Rattle.layout_laws.proofs.IsWholePinLemmas.{pin_fits}
use Rattle.layout_laws.proofs.StandsLemmas.{part_long, sound, card, formed, wide_is, has_node, held_alone, carried}

whole_node : AreWholeFields node_fields 16 0 16
whole_node = record { order = lit≤ tt; inside = lit≤ tt; uncut = refl }

-- fields that don't reach the kept bytes leave them
kept_stay : (from to : ℕ) (old new : Row) → to ≤ 18 → merged_row from to old new ≡ new → new.kept ≡ old.kept
unfolding merged_row
kept_stay from to old new short rest =
    let failed : is_among from to 18 51 ≡ false = grind (arith, nat_tests) in
    sym (sym (ap (λ (b : Bool). if b then new.kept else old.kept) failed) ∙ ap (λ (r : Row). r.kept) rest)

least_limit : (wide : Bool) → 32 ≤ kept_limit wide
least_limit true = lit≤ tt
least_limit false = lit≤ tt

module _ (is_sound : StandingIsSound) (sound_stands : SoundStands) (beside : KeepsBytesBeside) (around : ChangesBytesAround)
    (store_mark : ℕ) (content : List ℕ) (table : Loaded) (state : Persistent) (stands : Stands store_mark content table state) where
  abbrev well : IsWellFormed store_mark content
  well = formed is_sound sound_stands store_mark content table state stands

  wide : is_wide content ≡ table.wide
  wide = wide_is is_sound sound_stands store_mark content table state stands

  -- ---- files

  -- some fields, those of another entry
  pub file_put : (entries : ChangesOneNode) (commit : ChangesFile) (number from to : ℕ) (old part new : Node) → HasNode table number old → AreWholeFields node_fields 16 from to → HasNodeRanges part
      → merged_node from to old part ≡ new → LiesWhere old new ⊎ LiesAmongFiles table.wide new → HasRightHead new → IsSound (with_file_at state number (file_if content number new))
      → Stands store_mark (after (node_part number part from to) content) (with_node table number new) (with_file_at state number (file_if content number new))
  file_put entries commit number from to old part new there fields ranges rest_there lies_there head new_sound =
      let has = has_node is_sound sound_stands store_mark content table state stands number old there in
      let seen = node_seen content number old has in
      let rest : merged_node from to (node_there content number) part ≡ new = ap (λ (n : Node). merged_node from to n part) seen.1 ∙ rest_there in
      let lies : LiesWhere old new ⊎ LiesAmongFiles (is_wide content) new = subst (λ (w : Bool). LiesWhere old new ⊎ LiesAmongFiles w new) (sym wide) lies_there in
      carried is_sound sound_stands store_mark content table state stands (after (node_part number part from to) content) (λ t. with_node t number new) (λ s. with_file_at s number (file_if content number new))
      (part_long content (node_spelled part) (node_place number) 16 from to stands.long fields.order fields.inside (omega (arith, seen.0)))
      (node_formed beside around store_mark content stands.long well entries number from to part new seen.0 fields ranges rest head)
      (commit content number from to old part new (card is_sound sound_stands store_mark content table state stands) has fields ranges rest_there lies) new_sound

  pub file_changed : (entries : ChangesOneNode) (commit : ChangesFile) (number from to : ℕ) (old new : Node) → IsFileChange table number from to old new → IsSound (with_file_at state number (file_if content number new))
      → Stands store_mark (after (node_part number new from to) content) (with_node table number new) (with_file_at state number (file_if content number new))
  file_changed entries commit number from to old new change new_sound =
      file_put entries commit number from to old new new change.there change.fields change.ranges change.rest change.lies change.head new_sound

  pub file_added : (entries : ChangesOneNode) (commit : AddsFile) (number : ℕ) (node : Node) → IsWholeFile table.wide number node → IsSound (with_file_at state number (file_if content number node))
      → Stands store_mark (after (node_part number node 0 16) content) (with_node table number node) (with_file_at state number (file_if content number node))
  unfolding merged_node
  file_added entries commit number node whole new_sound =
      carried is_sound sound_stands store_mark content table state stands (after (node_part number node 0 16) content) (λ t. with_node t number node) (λ s. with_file_at s number (file_if content number node))
      (part_long content (node_spelled node) (node_place number) 16 0 16 stands.long (lit≤ tt) (lit≤ tt) (omega (arith, whole.low)))
      (node_formed beside around store_mark content stands.long well entries number 0 16 node node whole.low whole_node whole.ranges refl whole.head)
      (commit content number node (card is_sound sound_stands store_mark content table state stands) whole.low whole.ranges (subst (λ (w : Bool). LiesAmongFiles w node) (sym wide) whole.lies)) new_sound

  -- ---- PINs

  pub pin_changed : (commit : ChangesPin) (slot from to : ℕ) (old new : PinSlot) → IsPinChange table slot from to old new
      → Stands store_mark (after (pin_part slot new from to) content) (with_slot table slot new) (with_pin_for state (pin_state new))
  pin_changed commit slot from to old new change =
      let has : HasPin (table_of content) slot old = subst (λ (t : Loaded). HasPin t slot old) (sym stands.entries) change.there in
      let seen = pin_seen content slot old has in
      let key : slice_index (pin_bytes content slot) 0 ≡ new.key = pin_key (pin_bytes content slot) old seen.1 ∙ sym change.key in
      carried is_sound sound_stands store_mark content table state stands (after (pin_part slot new from to) content) (λ t. with_slot t slot new) (λ s. with_pin_for s (pin_state new))
      (part_long content (pin_spelled new) (pin_place slot) 20 from to stands.long change.fields.order change.fields.inside (omega (arith, seen.0)))
      (pin_formed beside around store_mark content stands.long well slot from to new seen.0 change.fields change.ranges (inl (key, λ none. change.there.key (sym change.key ∙ none))))
      (commit content slot from to old new (card is_sound sound_stands store_mark content table state stands) has change.fields change.ranges change.rest change.key)
      (pin_sound state (sound is_sound sound_stands store_mark content table state stands) (pin_state new) change.tries change.unblock_tries)

  -- a whole slot
  pub pin_added : (commit : AddsPin) (slot : ℕ) (pin : PinSlot) → IsWholePin slot pin
      → Stands store_mark (after (pin_part slot pin 0 20) content) (with_slot table slot pin) (with_pin_in state slot (pin_if pin))
  pin_added commit slot pin new =
      let own : HasOwnKeys (table_of content) =
      λ k other has. let seen = pin_seen content k other has in own_key_there beside around store_mark content stands.long well k seen.0 other.key (pin_key (pin_bytes content k) other seen.1) has.key in
      carried is_sound sound_stands store_mark content table state stands (after (pin_part slot pin 0 20) content) (λ t. with_slot t slot pin) (λ s. with_pin_in s slot (pin_if pin))
      (part_long content (pin_spelled pin) (pin_place slot) 20 0 20 stands.long (lit≤ tt) (lit≤ tt) (omega (arith, new.low)))
      (pin_formed beside around store_mark content stands.long well slot 0 20 pin new.low (record { order = lit≤ tt; inside = lit≤ tt; uncut = refl }) new.ranges (inr ((refl, refl), new.key)))
      (commit content slot pin (card is_sound sound_stands store_mark content table state stands) own new.low new.ranges)
      (pin_fits state (sound is_sound sound_stands store_mark content table state stands) slot pin new)

  -- ---- rows

  row_long : (shelf from to : ℕ) (row : Row) → shelf < row_count (is_wide content) → from ≤ to → to ≤ 51 → length (after (row_part shelf row from to) content) ≡ memory_size
  row_long shelf from to row low order inside =
      part_long content (row_spelled row) (row_place shelf) 51 from to stands.long order inside (omega (arith, row_below_kept shelf (below_32 (is_wide content) shelf low)))

  -- some fields, those of another row
  pub row_put : (back : RowsAreReadBack) (commit : ChangesRow) (shelf from to : ℕ) (old part new : Row) → HasRow table shelf old → AreWholeFields row_fields 51 from to → HasRowRanges part
      → merged_row from to old part ≡ new → (length part.kept ≤ 32) ⊎ (to ≤ 18) → length part.kept ≤ kept_limit (is_wide content) → part.events < 2 ^ 12 → IsSound (with_row_on state shelf (registration_if shelf new))
      → Stands store_mark (after (row_part shelf part from to) content) (with_row table shelf new) (with_row_on state shelf (registration_if shelf new))
  row_put back commit shelf from to old part new there fields ranges rest short kept known new_sound =
      let has : HasRow (table_of content) shelf old = subst (λ (t : Loaded). HasRow t shelf old) (sym stands.entries) there in
      let seen = row_seen content shelf old has in
      let flag : slice_index (row_bytes content shelf) 0 ≡ 1 = row_flag (row_bytes content shelf) (bytes_apart content shelf) old seen.1 there.used in
      carried is_sound sound_stands store_mark content table state stands (after (row_part shelf part from to) content) (λ t. with_row t shelf new) (λ s. with_row_on s shelf (registration_if shelf new))
      (row_long shelf from to part seen.0 fields.order fields.inside)
      (row_formed beside around store_mark content stands.long well back shelf from to part seen.0 fields.order fields.inside (events_uncut from to fields.uncut) ranges known kept (inr flag))
      (commit content shelf from to old part new (card is_sound sound_stands store_mark content table state stands) has fields ranges rest short) new_sound

  -- a row that is used keeps no more than there is room for
  pub row_limit : (shelf : ℕ) (row : Row) → HasRow table shelf row → length row.kept ≤ kept_limit (is_wide content)
  row_limit shelf row there =
      let seen = row_seen content shelf row (subst (λ (t : Loaded). HasRow t shelf row) (sym stands.entries) there) in
      let more : List ℕ = bytes_apart content shelf in
      let flag : slice_index (row_bytes content shelf) 0 ≡ 1 = row_flag (row_bytes content shelf) more row seen.1 there.used in
      omega (arith, row_keeps (row_bytes content shelf) more row seen.1, (well.rows shelf seen.0).kept_length flag)

  pub row_changed : (back : RowsAreReadBack) (commit : ChangesRow) (shelf from to : ℕ) (old new : Row) → IsRowChange table shelf from to old new → IsSound (with_row_on state shelf (registration_if shelf new))
      → Stands store_mark (after (row_part shelf new from to) content) (with_row table shelf new) (with_row_on state shelf (registration_if shelf new))
  row_changed back commit shelf from to old new change new_sound =
      let kept : length new.kept ≤ kept_limit (is_wide content) =
      ⊎_elim {C = length new.kept ≤ kept_limit (is_wide content)} (λ few. omega (arith, least_limit (is_wide content)))
      (λ short. omega (arith, row_limit shelf old change.there, ap length (kept_stay from to old new short change.rest))) change.kept in
      row_put back commit shelf from to old new new change.there change.fields change.ranges change.rest change.kept kept change.events new_sound

  -- what a row keeps with its length, and any number of the bytes after
  pub kept_changed : (back : RowsAreReadBack) (commit : ChangesKeptBytes) (shelf to : ℕ) (kept : List ℕ) (row : Row) → HasRow table shelf row → length row.text ≤ 10 → length kept ≤ 32 → 19 + length kept ≤ to → to ≤ 51
      → IsSound (with_row_on state shelf (registration_if shelf (record row { kept = kept })))
      → Stands store_mark (after (row_part shelf (record row { kept = kept }) 18 to) content) (with_row table shelf (record row { kept = kept })) (with_row_on state shelf (registration_if shelf (record row { kept = kept })))
  kept_changed back commit shelf to kept row has text few enough inside new_sound =
      let new : Row = record row { kept = kept } in
      let seen = row_seen content shelf row (subst (λ (t : Loaded). HasRow t shelf row) (sym stands.entries) has) in
      let more : List ℕ = bytes_apart content shelf in
      let flag : slice_index (row_bytes content shelf) 0 ≡ 1 = row_flag (row_bytes content shelf) more row seen.1 has.used in
      let known : row.events < 2 ^ 12 = subst (λ (n : ℕ). n < 2 ^ 12) (row_events (row_bytes content shelf) more row seen.1) ((well.rows shelf seen.0).events flag) in
      let order : 18 ≤ to = omega arith in
      let formed_now : IsWellFormed store_mark (after (row_part shelf (bare_row new) 18 to) content) =
      row_formed beside around store_mark content stands.long well back shelf 18 to (bare_row new) seen.0 order inside refl
      (bare_row_ranges new (omega arith) text (omega arith)) known (omega (arith, least_limit (is_wide content))) (inr flag) in
      carried is_sound sound_stands store_mark content table state stands (after (row_part shelf new 18 to) content) (λ t. with_row t shelf new) (λ s. with_row_on s shelf (registration_if shelf new))
      (row_long shelf 18 to new seen.0 order inside)
      (subst (λ (piece : Piece). IsWellFormed store_mark (after piece content)) (bare_row_kept shelf to new) formed_now)
      (subst (λ (r : Row). let anew = record r { kept = kept } in Holds (after (row_part shelf new 18 to) content) (with_row (table_of content) shelf anew) (with_row_on (state_in content) shelf (registration_if shelf anew))) seen.1
      (commit content shelf to new (card is_sound sound_stands store_mark content table state stands) seen.0 few enough inside))
      new_sound

  -- the bytes that a row keeps apart
  pub apart_changed : (commit : ChangesBytesApart) (shelf : ℕ) (old new : Row) → HasRow table shelf old → table.wide ≡ true → length new.kept ≤ 64
      → IsSound (with_row_on state shelf (registration_if shelf (record old { kept = kept_anew old.kept new.kept })))
      → Stands store_mark (after (kept_part shelf new) content) (with_row table shelf (record old { kept = kept_anew old.kept new.kept }))
      (with_row_on state shelf (registration_if shelf (record old { kept = kept_anew old.kept new.kept })))
  apart_changed commit shelf old new has is few new_sound =
      let row : Row = record old { kept = kept_anew old.kept new.kept } in
      let seen = row_seen content shelf old (subst (λ (t : Loaded). HasRow t shelf old) (sym stands.entries) has) in
      let low : shelf < 32 = below_32 (is_wide content) shelf seen.0 in
      let ends : kept_place shelf + length (drop 32 new.kept) ≤ memory_size = omega (arith, length-drop 32 new.kept) in
      carried is_sound sound_stands store_mark content table state stands (after (kept_part shelf new) content) (λ t. with_row t shelf row) (λ s. with_row_on s shelf (registration_if shelf row))
      (now_long beside store_mark content stands.long (kept_place shelf) (drop 32 new.kept) ends)
      (formed_apart beside store_mark content stands.long (kept_place shelf) (drop 32 new.kept) ends well (omega arith))
      (subst (λ (r : Row). let anew = record r { kept = kept_anew r.kept new.kept } in Holds (after (kept_part shelf new) content) (with_row (table_of content) shelf anew) (with_row_on (state_in content) shelf (registration_if shelf anew))) seen.1
      (commit content shelf new (card is_sound sound_stands store_mark content table state stands) (wide ∙ is) low few))
      new_sound

  abbrev low_on : (shelf : ℕ) (row : Row) → IsWholeRow table.wide shelf row → shelf < row_count (is_wide content)
  low_on shelf row whole = subst (λ (w : Bool). shelf < row_count w) (sym wide) whole.low

  abbrev kept_in : (shelf : ℕ) (row : Row) → IsWholeRow table.wide shelf row → length row.kept ≤ kept_limit (is_wide content)
  kept_in shelf row whole = subst (λ (w : Bool). length row.kept ≤ kept_limit w) (sym wide) whole.kept

  whole_formed : (back : RowsAreReadBack) (shelf : ℕ) (row : Row) → IsWholeRow table.wide shelf row → IsWellFormed store_mark (after (row_part shelf row 0 51) content)
  whole_formed back shelf row whole =
      row_formed beside around store_mark content stands.long well back shelf 0 51 row (low_on shelf row whole) (lit≤ tt) (lit≤ tt) refl whole.ranges whole.events (kept_in shelf row whole) (inl (refl, refl))

  -- with the kept bytes that stand apart, if there are such
  kept_too : (shelf : ℕ) (row : Row) (mid : List ℕ) → shelf < 32 → HasRowRanges row → length mid ≡ memory_size → IsWellFormed store_mark mid
      → (length (applied (kept_pieces shelf row) mid) ≡ memory_size) × IsWellFormed store_mark (applied (kept_pieces shelf row) mid)
  kept_too shelf row mid low ranges long mid_formed = by_test (nat_lt 32 (length row.kept)) where
    apart : List ℕ
    apart = drop 32 row.kept

    ends : kept_place shelf + length apart ≤ memory_size
    ends = omega (arith, length-drop 32 row.kept, ranges.kept)

    by_test : (b : Bool) → (length (applied (if b then kept_part shelf row ∷ [] else []) mid) ≡ memory_size) × IsWellFormed store_mark (applied (if b then kept_part shelf row ∷ [] else []) mid)
    by_test true = (now_long beside store_mark mid long (kept_place shelf) apart ends, formed_apart beside store_mark mid long (kept_place shelf) apart ends mid_formed (omega arith))
    by_test false = (long, mid_formed)

  pub row_added : (back : RowsAreReadBack) (commit : AddsRow) (shelf : ℕ) (row : Row) → IsWholeRow table.wide shelf row → IsSound (with_row_on state shelf (registration_if shelf row))
      → Stands store_mark (applied (row_part shelf row 0 51 ∷ kept_pieces shelf row) content) (with_row table shelf row) (with_row_on state shelf (registration_if shelf row))
  row_added back commit shelf row whole new_sound =
      let low = low_on shelf row whole in
      let after_row = kept_too shelf row (after (row_part shelf row 0 51) content) (below_32 (is_wide content) shelf low) whole.ranges (row_long shelf 0 51 row low (lit≤ tt) (lit≤ tt)) (whole_formed back shelf row whole) in
      carried is_sound sound_stands store_mark content table state stands (applied (row_part shelf row 0 51 ∷ kept_pieces shelf row) content) (λ t. with_row t shelf row) (λ s. with_row_on s shelf (registration_if shelf row))
      after_row.0 after_row.1
      (commit content shelf row (card is_sound sound_stands store_mark content table state stands) low whole.ranges (kept_in shelf row whole)) new_sound

  pub row_installed : (back : RowsAreReadBack) (commit : InstallsRow) (shelf next : ℕ) (row : Row) → IsWholeRow table.wide shelf row → next < 2 ^ 16
      → IsSound (record (with_row_on state shelf (registration_if shelf row)) { next_sequence = next })
      → Stands store_mark (applied (row_part shelf row 0 51 ∷ sequence_part next ∷ kept_pieces shelf row) content)
      (record (with_row table shelf row) { next = next }) (record (with_row_on state shelf (registration_if shelf row)) { next_sequence = next })
  row_installed back commit shelf next row whole next_low new_sound =
      let low = low_on shelf row whole in
      let first : List ℕ = after (row_part shelf row 0 51) content in
      let first_long : length first ≡ memory_size = row_long shelf 0 51 row low (lit≤ tt) (lit≤ tt) in
      let second : List ℕ = after (sequence_part next) first in
      let second_long : length second ≡ memory_size = now_long beside store_mark first first_long 6 (two_bytes next) (lit≤ tt) in
      let second_formed : IsWellFormed store_mark second = formed_low beside store_mark first first_long 6 (two_bytes next) (lit≤ tt) (whole_formed back shelf row whole) (lit≤ tt) (lit≤ tt) in
      let all = kept_too shelf row second (below_32 (is_wide content) shelf low) whole.ranges second_long second_formed in
      carried is_sound sound_stands store_mark content table state stands (applied (row_part shelf row 0 51 ∷ sequence_part next ∷ kept_pieces shelf row) content)
      (λ t. record (with_row t shelf row) { next = next }) (λ s. record (with_row_on s shelf (registration_if shelf row)) { next_sequence = next })
      all.0 all.1
      (commit content shelf next row (card is_sound sound_stands store_mark content table state stands) low whole.ranges (kept_in shelf row whole) next_low) new_sound

  pub sequence_changed : (commit : ChangesNextSequence) (next : ℕ) → next < 2 ^ 16 → state.next_sequence ≤ next
      → Stands store_mark (after (sequence_part next) content) (record table { next = next }) (record state { next_sequence = next })
  sequence_changed commit next low more =
      carried is_sound sound_stands store_mark content table state stands (after (sequence_part next) content) (λ t. record t { next = next }) (λ s. record s { next_sequence = next })
      (now_long beside store_mark content stands.long 6 (two_bytes next) (lit≤ tt))
      (formed_low beside store_mark content stands.long 6 (two_bytes next) (lit≤ tt) well (lit≤ tt) (lit≤ tt))
      (commit content next (card is_sound sound_stands store_mark content table state stands) low)
      (sequence_sound state (sound is_sound sound_stands store_mark content table state stands) next more)

  -- ---- any bytes of an entry

  pub file_reread : (commit : RereadsFile) (number from to : ℕ) (node : Node) → number < 128 → from ≤ to → to ≤ 16 → LiesAmongFiles table.wide (reread_node content number from to node)
      → (let new = reread_node content number from to node in
      StandsForNoOther store_mark (after (node_part number node from to) content) (with_node table number new) (with_file_at state number (file_if content number new)))
  file_reread commit number from to node low order inside lies =
      let new : Node = reread_node content number from to node in
      held_alone is_sound sound_stands store_mark content table state stands (after (node_part number node from to) content) (λ t. with_node t number new) (λ s. with_file_at s number (file_if content number new))
      (part_long content (node_spelled node) (node_place number) 16 from to stands.long order inside (omega arith))
      (commit content number from to node (card is_sound sound_stands store_mark content table state stands) low order inside (subst (λ (w : Bool). LiesAmongFiles w new) (sym wide) lies))

  pub pin_reread : (commit : RereadsPin) (slot from to : ℕ) (old pin : PinSlot) → HasPin table slot old → from ≤ to → to ≤ 20 → HasPinRanges pin → (reread_pin content slot from to pin).key ≡ old.key
      → (let new = reread_pin content slot from to pin in
      StandsForNoOther store_mark (after (pin_part slot pin from to) content) (with_slot table slot new) (with_pin_for state (pin_state new)))
  pin_reread commit slot from to old pin has order inside ranges same =
      let new : PinSlot = reread_pin content slot from to pin in
      let here : HasPin (table_of content) slot old = subst (λ (t : Loaded). HasPin t slot old) (sym stands.entries) has in
      held_alone is_sound sound_stands store_mark content table state stands (after (pin_part slot pin from to) content) (λ t. with_slot t slot new) (λ s. with_pin_for s (pin_state new))
      (part_long content (pin_spelled pin) (pin_place slot) 20 from to stands.long order inside (omega (arith, (pin_seen content slot old here).0)))
      (commit content slot from to old pin (card is_sound sound_stands store_mark content table state stands) here order inside ranges same)

  pub row_reread : (commit : RereadsRow) (shelf from to : ℕ) (row : Row) → shelf < row_count table.wide → from ≤ to → to ≤ 51
      → (let new = reread_row content shelf from to row in
      StandsForNoOther store_mark (after (row_part shelf row from to) content) (with_row table shelf new) (with_row_on state shelf (registration_if shelf new)))
  row_reread commit shelf from to row low order inside =
      let new : Row = reread_row content shelf from to row in
      let here : shelf < row_count (is_wide content) = subst (λ (w : Bool). shelf < row_count w) (sym wide) low in
      held_alone is_sound sound_stands store_mark content table state stands (after (row_part shelf row from to) content) (λ t. with_row t shelf new) (λ s. with_row_on s shelf (registration_if shelf new))
      (row_long shelf from to row here order inside)
      (commit content shelf from to row (card is_sound sound_stands store_mark content table state stands) here order inside)
