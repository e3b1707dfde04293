-- A card of version 1 of the layout that becomes one of version 2.
use Rattle.std.proofs.Common.{◌≡◌, ◌≢◌, ℕ, ◌+◌, ◌-◌, ◌*◌, ◌≤◌, ◌<◌, ◌==◌, Bool, true, false, not, ◌&&◌, ◌||◌, nat_le, if◌then◌else◌, List, [], ◌∷◌, length, drop, map, filter, slice_index, slice_range, Result, Ok, get_or, refl, sym, ◌∙◌, ap, subst, inl, inr, ⊎_elim, lit≤, lit<, arith}
use Rattle.std.specs.List.{enumerate_from, list_all}
use Rattle.std.proofs.lemmas.Bool.{cases_lt, cases_Bool, eqb-true, lt-ltb, le-ltb, leb-true, ne_eqb}
use Rattle.std.proofs.lemmas.Bool.Decides.{nat_tests}
use Rattle.std.proofs.lemmas.List.{length-take, length-drop, take-append-le}
use Rattle.std.proofs.lemmas.List.Elements.{All-weaker}
use Rattle.std.proofs.lemmas.List.Sums.{AllPass-from_list_all}
use Rattle.list_laws.proofs.MapLemmas.{same_numbered, same_mapped}
use Rattle.list_laws.proofs.SliceRangeLemmas.{length-range, get_or-range}
use Rattle.list_laws.specs.Patches.{patched}
use Rattle.list_laws.proofs.PatchesLemmas.{length-patched, patched_before, patched_inside, patched_after, Torn_patched, range-patched_there}
use Rattle.card_state.specs.declared.entries.Node.{Node}
use Rattle.card_state.specs.declared.entries.Row.{Row}
use Rattle.card_state.specs.declared.entries.Loaded.{Loaded}
use Rattle.card_state.specs.Blank.{unused_row}
use Rattle.card_state.specs.Kinds.{df_kind, is_ef_kind}
use Rattle.card_state.specs.Places.{memory_size, pin_place, row_place, node_place, row_count, kept_limit, data_end}
use Rattle.card_state.specs.Decoding.{bytes_at, is_wide, row_of, row_in, row_when, rows_when, row_bytes, kept_bytes, row_at, table_of}
use Rattle.card_state.specs.Checks.{is_version}
use Rattle.card_state.specs.Persistent.{File, Persistent}
use Rattle.card_state.specs.States.{file_bytes, file_of, df_file, ef_file, used_nodes, files_of, pins_of, rows_of, state_of}
use Rattle.card_state.specs.Soundness.{IsEf, IsSoundFile, IsSoundRow, IsSound}
use Rattle.card_state.specs.Standing.{state_in, Stands}
use Rattle.card_state.specs.Migration.{ends_low, migrated, entry_ends_low, entries_end_low, no_upper_rows}
use Rattle.card_state.proofs.MigrationLemmas.{length-no_upper_rows, get_or-no_upper_rows}
use Rattle.card_state.specs.Forms.{IsPinForm, IsRowForm, IsNodeForm, IsWellFormed}
use Rattle.card_state.specs.SoundnessLaws.{StandingIsSound, SoundStands}
use Rattle.card_state.specs.Used.{HasNode}
use Rattle.card_state.proofs.RowPlaceLemmas.{data_end_inside, row_below_kept, below_32}
use Rattle.layout_entries.specs.Spelling.{version_part}
use Rattle.layout_entries.specs.Laws.{after, KeepsBytesBeside, ChangesBytesAround, ChangesVersion}
use Rattle.layout_laws.specs.Cards.{IsCard}
use Rattle.layout_laws.proofs.LiesAmongFilesLemmas.{same_file}
use Rattle.layout_laws.specs.StandingLaws.{FreeBytesDontCount}
use Rattle.layout_laws.specs.Migrating.{LowEndsAreSeen, OthersStay, UpperRowsAreFree, WideVersionStands}
use Rattle.layout_laws.proofs.IsWellFormedLemmas.{same_mark}
use Rattle.layout_laws.proofs.ContentsOfLemmas.{all_used, lies}
use Rattle.layout_laws.proofs.StandsLemmas.{state_is, sound, card, formed, wide_is}

-- ---- where files end

low_node : (content : List ℕ) (number : ℕ) (node : Node) → ends_low (file_of content number node) ≡ (not (is_ef_kind node.kind) || nat_le (node.place + node.size) (data_end true))
low_node content number node = by_test (node.kind == df_kind) refl where
  by_test : (b : Bool) → (node.kind == df_kind) ≡ b → ends_low (if b then df_file number node else ef_file content number node) ≡ (not (is_ef_kind node.kind) || nat_le (node.place + node.size) (data_end true))
  by_test true is = let kind : node.kind ≡ df_kind = eqb-true node.kind df_kind is in rw kind refl
  by_test false is = refl

abbrev seen : ℕ → List Node → List (ℕ × Node)
seen start list = filter (λ e. e.1.used) (enumerate_from start list)

low_entries : (content : List ℕ) (start : ℕ) (list : List Node) → list_all ends_low (map (λ e. file_of content e.0 e.1) (seen start list)) ≡ list_all entry_ends_low list
low_entries content start [] = refl
low_entries content start (node ∷ list) = by_test node.used (low_entries content (start + 1) list) where
  by_test : (b : Bool) → list_all ends_low (map (λ e. file_of content e.0 e.1) (seen (start + 1) list)) ≡ list_all entry_ends_low list
      → list_all ends_low (map (λ e. file_of content e.0 e.1) (if b then (start, node) ∷ seen (start + 1) list else seen (start + 1) list))
      ≡ ((not (b && is_ef_kind node.kind) || nat_le (node.place + node.size) (data_end true)) && list_all entry_ends_low list)
  by_test true same =
      ap (λ (b : Bool). b && list_all ends_low (map (λ e. file_of content e.0 e.1) (seen (start + 1) list))) (low_node content start node)
      ∙ ap (λ (b : Bool). (not (is_ef_kind node.kind) || nat_le (node.place + node.size) (data_end true)) && b) same
  by_test false same = same

ends_where : (file : File) → ends_low file ≡ true → IsEf file → file.place + file.size ≤ data_end true
ends_where file low is_ef =
    let passed : nat_le (file.place + file.size) (data_end true) ≡ true = ap (λ (b : Bool). not b || nat_le (file.place + file.size) (data_end true)) (sym is_ef) ∙ low in
    leb-true (file.place + file.size) (data_end true) passed

-- ---- rows

unused_in : (bytes more : List ℕ) → (slice_index bytes 0 == 1) ≡ false → row_in bytes more ≡ unused_row
unfolding row_of
unused_in bytes more failed = ap (λ (b : Bool). if b then row_of bytes more else unused_row) failed

-- a row that keeps few bytes by its length has none apart
few_kept : (bytes more : List ℕ) → length bytes ≡ 51 → (slice_index bytes 0 ≡ 1 → slice_index bytes 18 ≤ 32) → row_in bytes more ≡ row_in bytes []
unfolding row_of
few_kept bytes more long few =
    ⊎_elim {C = row_in bytes more ≡ row_in bytes []}
    (λ flag.
    let kept : List ℕ = slice_range bytes 19 51 in
    let count : ℕ = slice_index bytes 18 in
    let inside : count ≤ length kept = omega (arith, few (eqb-true (slice_index bytes 0) 1 flag), length-take 32 (drop 19 bytes), length-drop 19 bytes) in
    ap (λ (list : List ℕ). let row : Row = record (row_of bytes []) { kept = list } in if row.used then row else unused_row)
    (take-append-le count kept more inside ∙ sym (take-append-le count kept [] inside)))
    (λ unused. unused_in bytes more unused ∙ sym (unused_in bytes [] unused)) (cases_Bool (slice_index bytes 0 == 1))

wide_row : (shelf : ℕ) (bytes more : List ℕ) → shelf < 32 → row_when true shelf bytes more ≡ row_in bytes more
wide_row shelf bytes more low = ap (λ (b : Bool). if b then row_in bytes more else unused_row) (lt-ltb shelf 32 low)

narrow_row : (shelf : ℕ) (bytes more : List ℕ) → shelf < 16 → row_when false shelf bytes more ≡ row_in bytes []
narrow_row shelf bytes more low = ap (λ (b : Bool). if b then row_in bytes [] else unused_row) (lt-ltb shelf 16 low)

no_narrow_row : (shelf : ℕ) (bytes more : List ℕ) → 16 ≤ shelf → row_when false shelf bytes more ≡ unused_row
no_narrow_row shelf bytes more high = ap (λ (b : Bool). if b then row_in bytes [] else unused_row) (le-ltb shelf 16 high)

upper_place : (shelf : ℕ) → 16 ≤ shelf → row_place shelf + 0 ≡ 63488 + 64 * (shelf - 16)
upper_place shelf high = grind (arith, nat_tests)

narrow_form : (bytes : List ℕ) → IsRowForm false bytes → IsRowForm true bytes
narrow_form bytes form = record { used = form.used; events = form.events; text_length = form.text_length; kept_length = λ is. omega (arith, form.kept_length is) }

unused_form : (bytes : List ℕ) → slice_index bytes 0 ≡ 0 → IsRowForm true bytes
unused_form bytes none = record {
  used = omega arith;
  events = λ is. absurd (omega arith);
  text_length = λ is. absurd (omega arith);
  kept_length = λ is. absurd (omega arith);
}

-- ---- the version

module _ (beside : KeepsBytesBeside) (version : ChangesVersion) (store_mark : ℕ) (content : List ℕ) (long : length content ≡ memory_size) (well : IsWellFormed store_mark content)
    (narrow : is_wide content ≡ false) (zeros : bytes_at content (data_end true) 1024 ≡ no_upper_rows) where
  abbrev now : List ℕ
  now = after (version_part true) content

  few : (shelf : ℕ) → shelf < 16 → IsRowForm false (row_bytes content shelf)
  few shelf low = subst (λ (w : Bool). (n : ℕ) → n < row_count w → IsRowForm w (row_bytes content n)) narrow well.rows shelf low

  upper_unused : (shelf : ℕ) → 16 ≤ shelf → shelf < 32 → slice_index (row_bytes content shelf) 0 ≡ 0
  upper_unused shelf high low =
      let at : ℕ = 64 * (shelf - 16) in
      let inside : at < 1024 = omega arith in
      get_or-range content (row_place shelf) 51 0 (lit< tt) ∙ ap (λ (n : ℕ). get_or content n 0) (upper_place shelf high)
      ∙ sym (get_or-range content 63488 1024 at inside) ∙ ap (λ (list : List ℕ). get_or list at 0) zeros ∙ get_or-no_upper_rows at inside

  row_long : (shelf : ℕ) → shelf < 32 → length (row_bytes content shelf) ≡ 51
  row_long shelf low = length-range content (row_place shelf) 51 (omega (arith, row_below_kept shelf low))

  same_row : (shelf : ℕ) → shelf < 32 → row_when true shelf (row_bytes content shelf) (kept_bytes content shelf) ≡ row_at content shelf
  same_row shelf low =
      let bytes : List ℕ = row_bytes content shelf in
      let more : List ℕ = kept_bytes content shelf in
      wide_row shelf bytes more low
      ∙ ⊎_elim {C = row_in bytes more ≡ row_when false shelf bytes more}
      (λ lower. few_kept bytes more (row_long shelf low) (few shelf lower).kept_length ∙ sym (narrow_row shelf bytes more lower))
      (λ upper. unused_in bytes more (ap (λ (n : ℕ). n == 1) (upper_unused shelf upper low)) ∙ sym (no_narrow_row shelf bytes more upper)) (cases_lt shelf 16)
      ∙ ap (λ (w : Bool). row_when w shelf bytes more) (sym narrow)

  rows_same : rows_when true content ≡ (table_of content).rows
  unfolding table_of
  rows_same = same_numbered (λ shelf. row_when true shelf (row_bytes content shelf) (kept_bytes content shelf)) (row_at content) 32 same_row

  pub now_table : table_of now ≡ record (table_of content) { wide = true }
  now_table = version content true long ∙ ap (λ (rows : List Row). record (table_of content) { rows = rows; wide = true }) rows_same

  pub now_long : length now ≡ memory_size
  now_long = length-patched 4 (2 ∷ []) content (omega arith) ∙ long

  bytes_same : (at count : ℕ) → 5 ≤ at → at + count ≤ memory_size → bytes_at now at count ≡ bytes_at content at count
  bytes_same at count high fits = beside content (2 ∷ []) 4 at count (omega arith) (omega arith) (inr (omega arith))

  byte_before : (k : ℕ) → k < 4 → slice_index now k ≡ slice_index content k
  byte_before k low = patched_before 4 (2 ∷ []) content (omega arith) k low

  version_now : slice_index now 4 ≡ 2
  version_now = patched_inside 4 (2 ∷ []) content (omega arith) 4 (lit≤ tt) (lit< tt)

  form_now : (Form : List ℕ → Type 0) (at count : ℕ) → 5 ≤ at → at + count ≤ memory_size → Form (bytes_at content at count) → Form (bytes_at now at count)
  form_now Form at count high fits form = subst Form (sym (bytes_same at count high fits)) form

  row_now : (shelf : ℕ) → shelf < 32 → IsRowForm true (row_bytes now shelf)
  row_now shelf low =
      form_now (IsRowForm true) (row_place shelf) 51 (omega (arith, row_above shelf)) (omega (arith, row_below_kept shelf low))
      (⊎_elim {C = IsRowForm true (row_bytes content shelf)} (λ lower. narrow_form (row_bytes content shelf) (few shelf lower)) (λ upper. unused_form (row_bytes content shelf) (upper_unused shelf upper low)) (cases_lt shelf 16))
    where
      row_above : (n : ℕ) → 896 ≤ row_place n
      row_above n = grind (arith, nat_tests)

  pub now_formed : IsWellFormed store_mark now
  now_formed = record {
    mark = same_mark _ _ _ _ _ _ _ _ (byte_before 0 (lit< tt)) (byte_before 1 (lit< tt)) (byte_before 2 (lit< tt)) (byte_before 3 (lit< tt)) well.mark;
    version = ap is_version version_now;
    store = patched_after 4 (2 ∷ []) content (omega arith) 5 (lit≤ tt) ∙ well.store;
    pins = λ slot low. form_now (IsPinForm slot) (pin_place slot) 20 (omega arith) (omega arith) (well.pins slot low);
    rows = subst (λ (w : Bool). (shelf : ℕ) → shelf < row_count w → IsRowForm w (row_bytes now shelf)) (sym (ap (λ (n : ℕ). n == 2) version_now)) row_now;
    nodes = λ number low. form_now IsNodeForm (node_place number) 16 (omega arith) (omega arith) (well.nodes number low);
  }

  module _ (this_card : IsCard content) where
    same_bytes : (number : ℕ) (node : Node) → HasNode (table_of content) number node → node.kind ≢ df_kind → file_bytes now node ≡ file_bytes content node
    same_bytes number node has other =
        let bounds = lies content this_card number node has (ne_eqb node.kind df_kind other) in
        bytes_same node.place node.size (omega (arith, bounds.0)) (omega (arith, bounds.1, data_end_inside (is_wide content)))

    pub now_state : state_in now ≡ record (state_in content) { is_wide = true }
    unfolding state_of files_of pins_of rows_of
    now_state =
        ap (λ (t : Loaded). state_of t now) now_table
        ∙ ap (λ (list : List File). record (state_in content) { is_wide = true; files = list })
        (same_mapped (λ e. file_of now e.0 e.1) (λ e. file_of content e.0 e.1) (used_nodes (table_of content).nodes)
        (λ k d low. let e : ℕ × Node = get_or (used_nodes (table_of content).nodes) k d in same_file content now e.0 e.1 (same_bytes e.0 e.1 (all_used content k d low))))

-- ---- states

module _ (state : Persistent) (is_sound : IsSound state) (low : list_all ends_low state.files ≡ true) where
  wide_file : (files : List File) (file : File) → ends_low file ≡ true → IsSoundFile state.is_wide files file → IsSoundFile true files file
  wide_file files file ends s = record {
    kind = s.kind;
    tree = s.tree;
    number = s.number;
    contents = s.contents;
    df = s.df;
    ef = λ is_ef. let e = s.ef is_ef in record { short = e.short; life = e.life; from = e.from; some = e.some; to = ends_where file ends is_ef };
  }

  least_kept : (wide : Bool) (count : ℕ) → count ≤ kept_limit wide → count ≤ 64
  least_kept true count few = few
  least_kept false count few = omega arith

  pub wide_sound : IsSound (record state { is_wide = true })
  wide_sound = record {
    files = λ k d inside. wide_file state.files (get_or state.files k d) (AllPass-from_list_all ends_low state.files low k d inside) (is_sound.files k d inside);
    mf_there = is_sound.mf_there;
    distinct_files = is_sound.distinct_files;
    pins = is_sound.pins;
    ordered_pins = is_sound.ordered_pins;
    rows =
        All-weaker (IsSoundRow state.is_wide state.next_sequence) (IsSoundRow true state.next_sequence)
        (λ row s. record {
          shelf = below_32 state.is_wide row.shelf s.shelf;
          kind = s.kind;
          priority = s.priority;
          sequence = s.sequence;
          codes = s.codes;
          text = s.text;
          kept = least_kept state.is_wide (length row.kept) s.kept;
        }) state.rows is_sound.rows;
    distinct_rows = is_sound.distinct_rows;
    texts = is_sound.texts;
  }

-- ---- a memory that stands

there : (content bytes : List ℕ) (count : ℕ) → length bytes ≡ count → 63488 + length bytes ≤ length content → bytes_at (patched 63488 bytes content) 63488 count ≡ bytes
there content bytes count is inside = subst (λ (n : ℕ). bytes_at (patched 63488 bytes content) 63488 n ≡ bytes) is (range-patched_there 63488 bytes content inside)

module _ (is_sound : StandingIsSound) where
  pub low_ends_seen : LowEndsAreSeen
  unfolding state_of files_of entries_end_low
  low_ends_seen store_mark content table state stands =
      ap (λ (s : Persistent). list_all ends_low s.files) (is_sound store_mark content state stands.long stands.decoded).0
      ∙ low_entries content 0 (table_of content).nodes ∙ ap (λ (t : Loaded). list_all entry_ends_low t.nodes) stands.entries

  state_wide : (store_mark : ℕ) (content : List ℕ) (table : Loaded) (state : Persistent) → Stands store_mark content table state → state.is_wide ≡ table.wide
  unfolding state_of
  state_wide store_mark content table state stands =
      ap (λ (s : Persistent). s.is_wide) (is_sound store_mark content state stands.long stands.decoded).0 ∙ ap (λ (t : Loaded). t.wide) stands.entries

  pub others_stay : OthersStay
  unfolding migrated
  others_stay store_mark content table state stands how =
      ⊎_elim {C = (if list_all ends_low state.files then record state { is_wide = true } else state) ≡ state}
      (λ wide. by_test (list_all ends_low state.files) (ap (λ (w : Bool). record state { is_wide = w }) (sym wide ∙ sym (state_wide store_mark content table state stands))))
      (λ high. ap (λ (b : Bool). if b then record state { is_wide = true } else state) (low_ends_seen store_mark content table state stands ∙ high)) how
    where
      by_test : (b : Bool) → record state { is_wide = true } ≡ state → (if b then record state { is_wide = true } else state) ≡ state
      by_test true same = same
      by_test false same = refl

  pub upper_rows_free : UpperRowsAreFree
  upper_rows_free store_mark content table state stands narrow low =
      let all_low : list_all ends_low state.files ≡ true = low_ends_seen store_mark content table state stands ∙ low in
      record {
        from = lit≤ tt;
        to = subst (λ (w : Bool). data_end true + 1024 ≤ data_end w) (sym narrow) (lit≤ tt);
        beside = λ k d inside is_ef. inl (ends_where (get_or state.files k d) (AllPass-from_list_all ends_low state.files all_low k d inside) is_ef);
      }

  pub wide_version_stands : SoundStands → KeepsBytesBeside → ChangesBytesAround → ChangesVersion → FreeBytesDontCount → WideVersionStands
  unfolding migrated
  wide_version_stands sound_stands beside around version free_stands store_mark content table state stands narrow low =
      let zeros : List ℕ = no_upper_rows in
      let zeros_long : length zeros ≡ 1024 = length-no_upper_rows in
      let inside : 63488 + length zeros ≤ length content = omega (arith, stands.long) in
      let mid : List ℕ = patched 63488 zeros content in
      let mid_stands : Stands store_mark mid table state =
      free_stands store_mark content mid table state 63488 1024 stands (upper_rows_free store_mark content table state stands narrow low) (Torn_patched 63488 1024 zeros content zeros_long inside) in
      let mid_zeros : bytes_at mid 63488 1024 ≡ zeros = there content zeros 1024 zeros_long inside in
      let mid_narrow : is_wide mid ≡ false = wide_is is_sound sound_stands store_mark mid table state mid_stands ∙ narrow in
      let well : IsWellFormed store_mark mid = formed is_sound sound_stands store_mark mid table state mid_stands in
      let all_low : list_all ends_low state.files ≡ true = low_ends_seen store_mark content table state stands ∙ low in
      let new : List ℕ = after (version_part true) mid in
      let held : state_in new ≡ record state { is_wide = true } =
      now_state beside version store_mark mid mid_stands.long well mid_narrow mid_zeros (card is_sound sound_stands store_mark mid table state mid_stands)
      ∙ ap (λ (s : Persistent). record s { is_wide = true }) (sym (state_is is_sound sound_stands store_mark mid table state mid_stands)) in
      let migrates : migrated state ≡ record state { is_wide = true } = ap (λ (b : Bool). if b then record state { is_wide = true } else state) all_low in
      let new_sound : IsSound (state_in new) = subst IsSound (sym held) (wide_sound state (sound is_sound sound_stands store_mark content table state stands) all_low) in
      let new_long : length new ≡ memory_size = now_long beside version store_mark mid mid_stands.long well mid_narrow mid_zeros in
      record {
        long = new_long;
        entries = now_table beside version store_mark mid mid_stands.long well mid_narrow mid_zeros ∙ ap (λ (t : Loaded). record t { wide = true }) mid_stands.entries;
        decoded =
            (sound_stands store_mark new new_long).1 (now_formed beside version store_mark mid mid_stands.long well mid_narrow mid_zeros, new_sound)
            ∙ ap (λ (s : Persistent). let ok : Result Persistent ℕ = Ok s in ok) (held ∙ sym migrates);
      }
