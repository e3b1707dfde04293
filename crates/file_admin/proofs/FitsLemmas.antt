-- What a store holds once a file was given another size, by the change that this is.
use Rattle.std.proofs.Common.{◌≡◌, ◌≢◌, ◌⊎◌, ℕ, ◌+◌, ◌-◌, ◌≤◌, ◌<◌, ◌++◌, Bool, List, [], ◌∷◌, length, replicate, Option, Some, None, option_map, unwrap_or, if◌then◌else◌, nat_lt, true, false, ◌==◌, Result, Ok, Err, refl, sym, ◌∙◌, ap, subst, inl, inr, ⊎_elim, arith, length-append}
use Rattle.std.proofs.lemmas.Bool.{cond-false, cond-true, lt-ltb, le-ltb, ne_eqb}
use Rattle.std.proofs.lemmas.List.{length-replicate}
use Rattle.std.proofs.lemmas.Option.{get_or_from_slice_get}
use Rattle.std.proofs.lemmas.Result.{on_err_weaker}
use Rattle.list_laws.proofs.IfSomeLemmas.{if_some}
use Rattle.list_laws.proofs.PatchesLemmas.{Torn_patched}
use Rattle.list_laws.proofs.SliceRangeLemmas.{length-range}
use Rattle.list_laws.specs.Patches.{Torn}
use Rattle.uicc_types.specs.Told.{Becomes}
use Rattle.uicc_types.specs.declared.answers.StatusWord.{StatusWord}
use Rattle.store_form.specs.declared.store.StoreFault.{StoreFault}
use Rattle.store_form.specs.Pieces.{Piece, applied}
use Rattle.card_state.specs.declared.entries.Node.{Node}
use Rattle.card_state.specs.declared.entries.Loaded.{Loaded}
use Rattle.card_state.specs.Blank.{unused_node}
use Rattle.card_state.specs.Changes.{Change, FitFile}
use Rattle.card_state.specs.Decoding.{table_of}
use Rattle.card_state.specs.Kinds.{df_kind, transparent_kind}
use Rattle.card_state.specs.Memory.{Memory, held, IsMounted}
use Rattle.card_state.specs.Persistent.{File, Persistent}
use Rattle.card_state.specs.Places.{memory_size}
use Rattle.card_state.specs.Standing.{Stands, Agrees}
use Rattle.card_state.specs.StateLaws.{file_with_number}
use Rattle.card_state.specs.States.{file_bytes, df_file, ef_file, file_of}
use Rattle.card_state.specs.Used.{HasNode}
use Rattle.file_model.specs.Files.{node_at}
use Rattle.file_model.specs.Resizing.{file_resized}
use Rattle.file_model.specs.Rooms.{room_at}
use Rattle.layout_entries.specs.Laws.{after}
use Rattle.layout_entries.specs.Spelling.{node_part}
use Rattle.layout_laws.specs.Known.{NodesAreFiles, StandingIsOfTable}
use Rattle.layout_laws.specs.Stores.{AgreeingStands}
use Rattle.card_commits.specs.Prepared.{moved}
use Rattle.card_commits.specs.Writing.{pieces_of, fit_pieces, moved_if, prepared_for, written, WritesPieces}
use Rattle.card_commits.proofs.FilledLemmas.{Told, KeepsTo}
use Rattle.card_commits.proofs.WritesAllLemmas.{one_written}
use Rattle.file_admin.specs.Writes.{range_for, WritesTree, WritesOver}
use Rattle.file_admin.specs.Written.{as_it_was}
use Rattle.file_admin.proofs.AnswersTreeLemmas.{of_held}

-- ---- over what was prepared

-- what a piece writes over it is what the change writes
over_written : (mark : ℕ) (told : Told) (table : Loaded) (prepared : List ℕ → List ℕ) (piece : Piece) (change : Change) → Agrees mark told table → piece ∷ [] ≡ pieces_of table change
    → ((content : List ℕ) → table_of content ≡ table → prepared content ≡ prepared_for change content) → option_map (λ content. after piece (prepared content)) told ≡ option_map (written change) told
unfolding written
over_written mark None table prepared piece change agrees is same = refl
over_written mark (Some content) table prepared piece change agrees is same =
    let entries : table_of content ≡ table = ap table_of agrees.told_is ∙ agrees.stands.entries in
    ap (λ (p : List Piece). let some : Told = Some (applied p (prepared content)) in some) (is ∙ ap (λ (t : Loaded). pieces_of t change) (sym entries))
    ∙ ap (λ (c : List ℕ). let some : Told = Some (applied (pieces_of (table_of content) change) c) in some) (same content entries)

becomes_same : (old new : Told) → new ≡ old → Becomes (Torn 0 0) old new
becomes_same None new same = subst (λ (o : Told). Becomes (Torn 0 0) None o) (sym same) tt
becomes_same (Some content) new same = subst (λ (o : Told). Becomes (Torn 0 0) (Some content) o) (sym same) (record { same_length = refl; before = λ k low. refl; after = λ k high. refl })

-- a commit alone
pub over_nothing : {T : Type 0} (old new : Memory) (piece : Piece) (result : Result T StoreFault) → WritesPieces old new result (piece ∷ []) → WritesOver old new result as_it_was 0 0 piece
over_nothing old new piece result wrote = record {
  ok = wrote.ok;
  stopped =
      on_err_weaker result
      (λ how. ⊎_elim {C = Becomes (Torn 0 0) old.told new.told ⊎ (new.told ≡ option_map (λ content. after piece (as_it_was content)) old.told)} (λ kept. inl (becomes_same old.told new.told kept)) (λ put. inr put) how) wrote.whole;
}

-- the bytes of a file that grows keep to its new place
pub moved_keeps : (node : Node) (place size : ℕ) → node.place + node.size ≤ memory_size → node.size < size → place + size ≤ memory_size → KeepsTo place size (moved node place size)
moved_keeps node place size source more inside content long =
    let held : length (file_bytes content node) ≡ node.size = length-range content node.place node.size (omega arith) in
    let blank : length {A = ℕ} (replicate (size - node.size) 255) ≡ size - node.size = length-replicate {A = ℕ} (size - node.size) 255 in
    let both : length (file_bytes content node ++ replicate (size - node.size) 255) ≡ size = omega (arith, length-append (file_bytes content node) (replicate (size - node.size) 255), held, blank) in
    Torn_patched place size (file_bytes content node ++ replicate (size - node.size) 255) content both (omega (arith, both))

-- ---- the change

abbrev pub fit : ℕ → ℕ → Persistent → Change
fit number size state = FitFile number (option_map (file_resized (room_at state size) size) (file_with_number state number))

pub is_no_df : (kind : ℕ) → kind ≡ transparent_kind → kind ≢ df_kind
is_no_df kind is df = omega (arith, is, df)

module _ (nodes : NodesAreFiles) (table : Loaded) (number : ℕ) (node : Node) (has : HasNode table number node) (kind : node.kind ≡ transparent_kind) (size : ℕ) where
  entry : node_at table number ≡ node
  entry = get_or_from_slice_get table.nodes number node unused_node has.there

  module _ (mark : ℕ) (content : List ℕ) (state : Persistent) (stands : Stands mark content table state) where
    abbrev file : File
    file = file_of content number node

    abbrev new : File
    new = file_resized (room_at state size) size file

    found : fit number size state ≡ FitFile number (Some new)
    found = ap (λ (o : Option File). FitFile number (option_map (file_resized (room_at state size) size) o)) (nodes mark content table state number node stands has).found

    is_ef : file ≡ ef_file content number node
    is_ef = cond-false (node.kind == df_kind) (df_file number node) (ef_file content number node) (ne_eqb node.kind df_kind (is_no_df node.kind kind))

    lies : file.place ≡ node.place
    lies = ap (λ (f : File). f.place) is_ef

    sized : file.size ≡ node.size
    sized = ap (λ (f : File). f.size) is_ef

    -- ---- fewer bytes

    module _ (fewer : size < node.size) where
      no_more : nat_lt node.size size ≡ false
      no_more = le-ltb node.size size (omega (arith, fewer))

      stays : new.place ≡ node.place
      stays = cond-false (nat_lt file.size size) (unwrap_or (room_at state size) file.place) file.place (ap (λ (n : ℕ). nat_lt n size) sized ∙ no_more) ∙ lies

      shrunk_pieces : node_part number (record node { size = size }) 12 14 ∷ [] ≡ pieces_of table (FitFile number (Some new))
      unfolding pieces_of
      shrunk_pieces =
          sym (ap (λ (n : Node). fit_pieces number n (Some new)) entry
          ∙ ap (λ (b : Bool). (if b then node_part number (record node { place = new.place; size = size }) 10 14 else node_part number (record node { place = new.place; size = size }) 12 14) ∷ []) no_more
          ∙ ap (λ (p : ℕ). node_part number (record node { place = p; size = size }) 12 14 ∷ []) stays)

      shrunk_bytes : (bytes : List ℕ) → table_of bytes ≡ table → bytes ≡ prepared_for (FitFile number (Some new)) bytes
      unfolding prepared_for
      shrunk_bytes bytes entries =
          sym (ap (λ (n : Node). moved_if n (Some new) bytes) (ap (λ (t : Loaded). node_at t number) entries ∙ entry)
          ∙ cond-false (nat_lt node.size size) (moved node new.place size bytes) bytes no_more)

      pub shrunk_told : (mark' : ℕ) (told : Told) → Agrees mark' told table
          → option_map (λ bytes. after (node_part number (record node { size = size }) 12 14) (as_it_was bytes)) told ≡ option_map (written (fit number size state)) told
      shrunk_told mark' told agrees =
          over_written mark' told table as_it_was (node_part number (record node { size = size }) 12 14) (FitFile number (Some new)) agrees shrunk_pieces shrunk_bytes
          ∙ ap (λ (c : Change). option_map (written c) told) (sym found)

      pub shrunk_range : range_for table (fit number size state) ≡ (0, 0)
      shrunk_range =
          ap (range_for table) found ∙ ap (λ (n : Node). if nat_lt n.size size then (new.place, size) else (0, 0)) entry
          ∙ cond-false (nat_lt node.size size) (new.place, size) (0, 0) no_more

    -- ---- more bytes

    module _ (more : node.size < size) (place : ℕ) (room : room_at state size ≡ Some place) where
      is_more : nat_lt node.size size ≡ true
      is_more = lt-ltb node.size size more

      goes : new.place ≡ place
      goes =
          cond-true (nat_lt file.size size) (unwrap_or (room_at state size) file.place) file.place (ap (λ (n : ℕ). nat_lt n size) sized ∙ is_more)
          ∙ ap (λ (o : Option ℕ). unwrap_or o file.place) room

      grown_pieces : node_part number (record node { place = place; size = size }) 10 14 ∷ [] ≡ pieces_of table (FitFile number (Some new))
      unfolding pieces_of
      grown_pieces =
          sym (ap (λ (n : Node). fit_pieces number n (Some new)) entry
          ∙ ap (λ (b : Bool). (if b then node_part number (record node { place = new.place; size = size }) 10 14 else node_part number (record node { place = new.place; size = size }) 12 14) ∷ []) is_more
          ∙ ap (λ (p : ℕ). node_part number (record node { place = p; size = size }) 10 14 ∷ []) goes)

      grown_bytes : (bytes : List ℕ) → table_of bytes ≡ table → moved node place size bytes ≡ prepared_for (FitFile number (Some new)) bytes
      unfolding prepared_for
      grown_bytes bytes entries =
          sym (ap (λ (n : Node). moved_if n (Some new) bytes) (ap (λ (t : Loaded). node_at t number) entries ∙ entry)
          ∙ cond-true (nat_lt node.size size) (moved node new.place size bytes) bytes is_more
          ∙ ap (λ (p : ℕ). moved node p size bytes) goes)

      pub grown_told : (mark' : ℕ) (told : Told) → Agrees mark' told table
          → option_map (λ bytes. after (node_part number (record node { place = place; size = size }) 10 14) (moved node place size bytes)) told ≡ option_map (written (fit number size state)) told
      grown_told mark' told agrees =
          over_written mark' told table (moved node place size) (node_part number (record node { place = place; size = size }) 10 14) (FitFile number (Some new)) agrees grown_pieces grown_bytes
          ∙ ap (λ (c : Change). option_map (written c) told) (sym found)

      pub grown_range : range_for table (fit number size state) ≡ (place, size)
      grown_range =
          ap (range_for table) found ∙ ap (λ (n : Node). if nat_lt n.size size then (new.place, size) else (0, 0)) entry
          ∙ cond-true (nat_lt node.size size) (new.place, size) (0, 0) is_more ∙ ap (λ (p : ℕ). (p, size)) goes

-- ---- what was written

module _ (of_table : StandingIsOfTable) (known : AgreeingStands) (before : Memory) (mounted : IsMounted before) (change : Persistent → Change) (prepared : List ℕ → List ℕ) (place count : ℕ) (piece : Piece)
    (told_is : (mark : ℕ) (content : List ℕ) (state : Persistent) → Stands mark content before.table state → option_map (λ bytes. after piece (prepared bytes)) before.told ≡ option_map (written (change state)) before.told) where
  told_held : (state : Persistent) → held before ≡ Some state → option_map (λ bytes. after piece (prepared bytes)) before.told ≡ option_map (written (change state)) before.told
  told_held = of_held of_table known before mounted (λ s. option_map (λ bytes. after piece (prepared bytes)) before.told ≡ option_map (written (change s)) before.told) told_is

  pub fit_writes : {T : Type 0} (done : T) (status : StatusWord) (after_all : Memory) → WritesOver before after_all (Ok done) prepared place count piece → WritesTree {E = StoreFault} (Ok status) before after_all (λ state. change state ∷ [])
  fit_writes done status after_all over = if_some (held before) _ (λ state is. over.ok ∙ told_held state is ∙ one_written (change state) before.told)

  pub fit_stops : {T : Type 0} (fault : StoreFault) (after_all : Memory) → ((mark : ℕ) (content : List ℕ) (state : Persistent) → Stands mark content before.table state → range_for before.table (change state) ≡ (place, count))
      → WritesOver {T = T} before after_all (Err fault) prepared place count piece → WritesTree {X = StatusWord} (Err fault) before after_all (λ state. change state ∷ [])
  fit_stops fault after_all range over = if_some (held before) _ (λ state is.
      let at = of_held of_table known before mounted (λ s. range_for before.table (change s) ≡ (place, count)) range state is in
      ⊎_elim {C = Becomes (Torn (range_for before.table (change state)).0 (range_for before.table (change state)).1) before.told after_all.told ⊎ (after_all.told ≡ option_map (written (change state)) before.told)}
      (λ torn. inl (subst (λ (r : ℕ × ℕ). Becomes (Torn r.0 r.1) before.told after_all.told) (sym at) torn)) (λ put. inr (put ∙ told_held state is)) over.stopped)
