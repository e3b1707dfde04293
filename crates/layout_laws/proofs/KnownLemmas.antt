-- What is known of a memory that stands for a state, from the table of its entries.
use Rattle.std.proofs.Common.{◌≡◌, ◌≢◌, ◌⊎◌, ℕ, ◌+◌, ◌≤◌, ◌<◌, ◌==◌, Bool, true, false, if◌then◌else◌, List, length, Option, Some, None, option_and_then, count_by, Contains, get_or, refl, sym, ◌∙◌, ap, subst}
use Rattle.std.proofs.lemmas.Bool.{ne_eqb, false≢true}
use Rattle.std.proofs.lemmas.List.FromFn.{length-map-range_with_len}
use Rattle.std.proofs.lemmas.List.Elements.{All-contains_itself}
use Rattle.card_state.specs.declared.entries.Node.{Node}
use Rattle.card_state.specs.declared.entries.PinSlot.{PinSlot}
use Rattle.card_state.specs.declared.entries.Row.{Row}
use Rattle.card_state.specs.declared.entries.Loaded.{Loaded}
use Rattle.card_state.specs.Kinds.{df_kind, is_ef_kind}
use Rattle.card_state.specs.Places.{row_count}
use Rattle.card_state.specs.Decoding.{pin_at, table_of}
use Rattle.card_state.specs.Persistent.{File, Pin, Registration, Persistent}
use Rattle.card_state.specs.Checks.{key_of_slot}
use Rattle.card_state.specs.Sections.{has_text}
use Rattle.card_state.specs.States.{file_of, df_file, ef_file, pin_state, registration_of, state_of}
use Rattle.card_state.specs.StateLaws.{file_with_number, pin_with_key, row_on_shelf, FilesAreEntries, PinsAreEntries, RowsAreEntries, FilesComeFromEntries, IsOfTable, StatesAreOfTables, TextsAreCounted}
use Rattle.card_state.specs.Soundness.{IsEf}
use Rattle.card_state.specs.Standing.{Stands}
use Rattle.card_state.specs.Used.{HasNode, HasPin, HasRow, LiesAmongFiles, file_if, pin_if, registration_if}
use Rattle.card_state.specs.Holding.{StandingFilesHold, StandingKeysAreOwn}
use Rattle.card_state.specs.SoundnessLaws.{StandingIsSound, SoundStands}
use Rattle.layout_laws.specs.Standing.{IsFileEntry, IsPinEntry, IsRowEntry}
use Rattle.layout_laws.specs.Known.{FileOfNumber, PinOfKey, RowOfShelf, TextsOfTable, StandingIsOfTable, IsBesideNodes, RangesAreFree}
use Rattle.layout_laws.proofs.HasNodeLemmas.{node_seen, pin_seen, row_seen}
use Rattle.layout_laws.proofs.ContentsOfLemmas.{lies, ef_of}
use Rattle.layout_laws.proofs.StandsLemmas.{card, wide_is, has_node, right_head}
use Rattle.layout_laws.proofs.StandingLawsLemmas.{file_in, pin_in, row_in, known_events}

module _ (is_sound : StandingIsSound) where
  -- its state is that of the table over its bytes
  pub of_table : (store_mark : ℕ) (content : List ℕ) (table : Loaded) (state : Persistent) → Stands store_mark content table state → state ≡ state_of table content
  of_table store_mark content table state stands =
      (is_sound store_mark content state stands.long stands.decoded).0 ∙ ap (λ (t : Loaded). state_of t content) stands.entries

  pub standing_of_table : StatesAreOfTables → StandingIsOfTable
  standing_of_table law store_mark content table state stands =
      let is : state ≡ state_of table content = of_table store_mark content table state stands in
      (is, subst (IsOfTable table) (sym is) (law table content))

  -- ---- by a number, a key, a shelf

  pub file_of_number : FilesAreEntries → FileOfNumber
  file_of_number law store_mark content table state number stands =
      ap (λ (s : Persistent). file_with_number s number) (of_table store_mark content table state stands) ∙ law table content number

  pins_long : (store_mark : ℕ) (content : List ℕ) (table : Loaded) (state : Persistent) → Stands store_mark content table state → length table.pins ≡ 3
  unfolding table_of
  pins_long store_mark content table state stands = ap (λ (t : Loaded). length t.pins) (sym stands.entries) ∙ length-map-range_with_len (pin_at content) 0 3

  pub pin_of_key : PinsAreEntries → StandingKeysAreOwn → PinOfKey
  pin_of_key law own store_mark content table state slot stands low =
      ap (λ (s : Persistent). pin_with_key s (key_of_slot slot)) (of_table store_mark content table state stands)
      ∙ law table content slot (own store_mark content table state stands) (pins_long store_mark content table state stands) low

  pub row_of_shelf : RowsAreEntries → RowOfShelf
  row_of_shelf law store_mark content table state shelf stands =
      ap (λ (s : Persistent). row_on_shelf s shelf) (of_table store_mark content table state stands) ∙ law table content shelf

  pub texts_of_table : TextsAreCounted → TextsOfTable
  texts_of_table law store_mark content table state stands = ap (λ (s : Persistent). count_by has_text s.rows) (of_table store_mark content table state stands) ∙ law table content

  -- ---- ranges

  ef_beside : (content : List ℕ) (table : Loaded) (place count : ℕ) (file : File) (node : Node) → IsBesideNodes table place count → HasNode table file.number node → file ≡ file_of content file.number node → IsEf file
      → (file.place + file.size ≤ place) ⊎ (place + count ≤ file.place)
  ef_beside content table place count file node free has same is_ef =
      let kind_is : file.kind ≡ node.kind = ap (λ (f : File). f.kind) same ∙ by_kind (node.kind == df_kind) in
      let other : node.kind ≢ df_kind = λ df. absurd (let none : is_ef_kind df_kind ≡ true = ap is_ef_kind (sym (kind_is ∙ df)) ∙ is_ef in false≢true none) in
      let is : file ≡ ef_file content file.number node = same ∙ ef_of content file.number node (ne_eqb node.kind df_kind other) in
      let P : File → Type 0 = λ f. (f.place + f.size ≤ place) ⊎ (place + count ≤ f.place) in
      subst P (sym is) (free.beside file.number node has other)
    where
      by_kind : (b : Bool) → (if b then df_file file.number node else ef_file content file.number node).kind ≡ node.kind
      by_kind true = refl
      by_kind false = refl

  pub ranges_free : FilesComeFromEntries → RangesAreFree
  ranges_free law store_mark content table state place count stands free = record {
    from = free.from;
    to = free.to;
    beside = λ k d low is_ef.
        let file : File = get_or state.files k d in
        let there : Contains (state_of table content).files file = subst (λ (s : Persistent). Contains s.files file) (of_table store_mark content table state stands) (All-contains_itself state.files k d low) in
        let of = law table content file there in
        ef_beside content table place count file of.node free of.has of.same is_ef;
  }

  -- ---- entries that are used

  module _ (sound_stands : SoundStands) (store_mark : ℕ) (content : List ℕ) (table : Loaded) (state : Persistent) (stands : Stands store_mark content table state) where
    pub file_entry : FilesAreEntries → StandingFilesHold → (number : ℕ) (node : Node) → HasNode table number node → IsFileEntry content table state number node
    file_entry law holding number node has =
        let here = has_node is_sound sound_stands store_mark content table state stands number node has in
        record {
          low = (node_seen content number node here).0;
          there = file_in is_sound sound_stands store_mark content table state stands number node has;
          found =
              file_of_number law store_mark content table state number stands ∙ ap (option_and_then (file_if content number)) has.there
              ∙ ap (λ (b : Bool). let shown : Option File = if b then Some (file_of content number node) else None in shown) has.used;
          holds = holding store_mark content table state number node stands has;
          lies =
              subst (λ (w : Bool). LiesAmongFiles w node) (wide_is is_sound sound_stands store_mark content table state stands)
              (λ other. lies content (card is_sound sound_stands store_mark content table state stands) number node here (ne_eqb node.kind df_kind other));
          head = right_head is_sound sound_stands store_mark content table state stands number node has;
        }

    pub pin_entry : PinsAreEntries → StandingKeysAreOwn → (slot : ℕ) (pin : PinSlot) → HasPin table slot pin → IsPinEntry state slot pin
    pin_entry law own slot pin has =
        let low : slot < 3 = (pin_seen content slot pin (subst (λ (t : Loaded). HasPin t slot pin) (sym stands.entries) has)).0 in
        let key : pin.key ≡ key_of_slot slot = own store_mark content table state stands slot pin has in
        record {
          low = low;
          own = key;
          there = pin_in is_sound sound_stands store_mark content table state stands slot pin has;
          found =
              ap (pin_with_key state) key ∙ pin_of_key law own store_mark content table state slot stands low ∙ ap (option_and_then pin_if) has.there
              ∙ ap (λ (b : Bool). let shown : Option Pin = if b then None else Some (pin_state pin) in shown) (ne_eqb pin.key 0 has.key);
        }

    pub row_entry : RowsAreEntries → (shelf : ℕ) (row : Row) → HasRow table shelf row → IsRowEntry table state shelf row
    row_entry law shelf row has = record {
      low =
          subst (λ (w : Bool). shelf < row_count w) (wide_is is_sound sound_stands store_mark content table state stands)
          (row_seen content shelf row (subst (λ (t : Loaded). HasRow t shelf row) (sym stands.entries) has)).0;
      there = row_in is_sound sound_stands store_mark content table state stands shelf row has;
      found =
          row_of_shelf law store_mark content table state shelf stands ∙ ap (option_and_then (registration_if shelf)) has.there
          ∙ ap (λ (b : Bool). let shown : Option Registration = if b then Some (registration_of shelf row) else None in shown) has.used;
      events = known_events is_sound sound_stands store_mark content table state stands shelf row has;
    }
