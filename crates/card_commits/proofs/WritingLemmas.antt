-- Which bytes a store holds once some pieces were committed, by the change that they make.
use Rattle.std.proofs.Common.{◌≡◌, ◌⊎◌, ℕ, ◌+◌, ◌*◌, ◌==◌, false, List, [], ◌∷◌, length, find, Option, Some, None, option_map, Result, Ok, Err, IsErr, refl, sym, ◌∙◌, ap, inl, inr, ⊎_elim}
use Rattle.std.proofs.lemmas.Option.{get_or_from_slice_get}
use Rattle.std.proofs.lemmas.Result.{on_ok_weaker, on_err_weaker}
use Rattle.store_form.specs.declared.store.StoreFault.{StoreFault}
use Rattle.store_form.specs.Pieces.{Piece, applied}
use Rattle.card_state.specs.declared.entries.Node.{Node}
use Rattle.card_state.specs.declared.entries.PinSlot.{PinSlot}
use Rattle.card_state.specs.declared.entries.Row.{Row}
use Rattle.card_state.specs.declared.entries.Loaded.{Loaded}
use Rattle.card_state.specs.Blank.{unused_node}
use Rattle.card_state.specs.Changes.{Change, PutBytes, PutRecord, PutNewest, PutLife, TakeFile, AddRow, TakeRow, PutEvents, PutKept}
use Rattle.card_state.specs.Decoding.{table_of}
use Rattle.card_state.specs.Memory.{Memory}
use Rattle.card_state.specs.Persistent.{Pin}
use Rattle.card_state.specs.Soundness.{slot_of_key}
use Rattle.card_state.specs.Standing.{Agrees}
use Rattle.card_state.specs.States.{pins_of, pin_state}
use Rattle.card_state.specs.Used.{HasNode, HasPin}
use Rattle.card_state.proofs.KeyOfSlotLemmas.{slot_back}
use Rattle.file_model.specs.Files.{node_at}
use Rattle.file_model.specs.Pins.{pin_found, with_pin}
use Rattle.file_model.proofs.GuardsLemmas.{itself_found}
use Rattle.layout_entries.specs.Spelling.{node_part, pin_part, row_part, sequence_part}
use Rattle.layout_laws.specs.ChangeLaws.{kept_pieces}
use Rattle.layout_laws.specs.Known.{StandingIsOfTable, SlotsArePins}
use Rattle.layout_laws.specs.Standing.{IsPinEntry}
use Rattle.card_commits.specs.declared.pins.PinChange.{PinChange}
use Rattle.card_commits.specs.declared.pins.PinChange.TheVariants.{Tries, UnblockTries, Value, Enabled, Unblocked}
use Rattle.card_commits.specs.Entries.{row_at, with_head_moved}
use Rattle.card_commits.specs.Pins.{changed_pin, span_of, span_set, fields_of, put_pin}
use Rattle.card_commits.specs.Writing.{pieces_of, pin_pieces, prepared_for, written, WritesChange, WritesPieces}

-- nothing is prepared for the change
abbrev pub IsUnprepared : Change → Type 0
IsUnprepared change = (content : List ℕ) → prepared_for change content ≡ content

-- the pieces of a change write what the change writes
pub written_by : (mark : ℕ) (told : Option (List ℕ)) (table : Loaded) (pieces : List Piece) (change : Change) → Agrees mark told table → pieces ≡ pieces_of table change → IsUnprepared change
    → option_map (applied pieces) told ≡ option_map (written change) told
unfolding written
written_by mark None table pieces change agrees is plain = refl
written_by mark (Some content) table pieces change agrees is plain =
    let same : content ≡ agrees.content = agrees.told_is in
    ap (λ (p : List Piece). Some (applied p content)) (is ∙ ap (λ (t : Loaded). pieces_of t change) (sym agrees.stands.entries) ∙ ap (λ (c : List ℕ). pieces_of (table_of c) change) (sym same))
    ∙ ap (λ (c : List ℕ). Some (applied (pieces_of (table_of content) change) c)) (sym (plain content))

-- a commit of its pieces is one of the change
pub writes : {T : Type 0} (old new : Memory) (result : Result T StoreFault) (mark : ℕ) (table : Loaded) (pieces : List Piece) (change : Change) → Agrees mark old.told table → pieces ≡ pieces_of table change → IsUnprepared change
    → WritesPieces old new result pieces → WritesChange old new result change
writes old new result mark table pieces change agrees is plain wrote =
    let by = written_by mark old.told table pieces change agrees is plain in
    record {
      ok = on_ok_weaker result (λ told. told ∙ by) wrote.ok;
      whole = on_err_weaker result (λ how. ⊎_elim {C = (new.told ≡ old.told) ⊎ (new.told ≡ option_map (written change) old.told)} (λ kept. inl kept) (λ told. inr (told ∙ by)) how) wrote.whole;
    }

-- one that a fault stopped, as the call tells that hands the fault on
pub handed_on : {T U : Type 0} (old new : Memory) (change : Change) (fault : StoreFault) (result : Result T StoreFault) → IsErr result → WritesChange {T = U} old new (Err fault) change → WritesChange old new result change
handed_on old new change fault (Ok value) is given = absurd (cc)
handed_on old new change fault (Err told) is given = record { ok = tt; whole = given.whole }

pub pieces_handed_on : {T U : Type 0} (old new : Memory) (pieces : List Piece) (fault : StoreFault) (result : Result T StoreFault) → IsErr result → WritesPieces {T = U} old new (Err fault) pieces → WritesPieces old new result pieces
pieces_handed_on old new pieces fault (Ok value) is given = absurd (cc)
pieces_handed_on old new pieces fault (Err told) is given = record { ok = tt; whole = given.whole }

-- ---- the pieces of each kind of change

pub bytes_pieces : (table : Loaded) (number offset : ℕ) (bytes : List ℕ) (node : Node) (pieces : List Piece) → node ≡ node_at table number → pieces ≡ record { place = node.place + offset; bytes = bytes } ∷ []
    → pieces ≡ pieces_of table (PutBytes number offset bytes)
unfolding pieces_of
bytes_pieces table number offset bytes node pieces same is = is ∙ ap (λ (n : Node). let piece : Piece = record { place = n.place + offset; bytes = bytes } in piece ∷ []) same

pub record_pieces : (table : Loaded) (number index : ℕ) (bytes : List ℕ) (node : Node) (pieces : List Piece) → node ≡ node_at table number → pieces ≡ record { place = node.place + index * node.length; bytes = bytes } ∷ []
    → pieces ≡ pieces_of table (PutRecord number index bytes)
unfolding pieces_of
record_pieces table number index bytes node pieces same is = is ∙ ap (λ (n : Node). let piece : Piece = record { place = n.place + index * n.length; bytes = bytes } in piece ∷ []) same

pub newest_pieces : (table : Loaded) (number place : ℕ) (bytes : List ℕ) (node moved : Node) (pieces : List Piece) → node ≡ node_at table number → moved ≡ with_head_moved node → place ≡ moved.place + moved.head * moved.length
    → pieces ≡ record { place = place; bytes = bytes } ∷ node_part number moved 15 16 ∷ [] → pieces ≡ pieces_of table (PutNewest number bytes)
unfolding pieces_of
newest_pieces table number place bytes node moved pieces same is at wrote =
    wrote ∙ ap (λ (p : ℕ). let piece : Piece = record { place = p; bytes = bytes } in piece ∷ node_part number moved 15 16 ∷ []) at
    ∙ ap (λ (n : Node). let piece : Piece = record { place = n.place + n.head * n.length; bytes = bytes } in piece ∷ node_part number n 15 16 ∷ []) (is ∙ ap (λ (n : Node). with_head_moved n) same)

pub life_pieces : (table : Loaded) (number life : ℕ) (node : Node) (pieces : List Piece) → node ≡ node_at table number → pieces ≡ node_part number (record node { life = life }) 6 7 ∷ [] → pieces ≡ pieces_of table (PutLife number life)
unfolding pieces_of
life_pieces table number life node pieces same is = is ∙ ap (λ (n : Node). node_part number (record n { life = life }) 6 7 ∷ []) same

pub gone_pieces : (table : Loaded) (number : ℕ) (node : Node) (pieces : List Piece) → HasNode table number node → pieces ≡ node_part number (record node { used = false }) 0 1 ∷ [] → pieces ≡ pieces_of table (TakeFile number)
unfolding pieces_of
gone_pieces table number node pieces has is = is ∙ ap (λ (n : Node). node_part number (record n { used = false }) 0 1 ∷ []) (sym (get_or_from_slice_get table.nodes number node unused_node has.there))

pub taken_pieces : (table : Loaded) (shelf : ℕ) (row : Row) (pieces : List Piece) → row ≡ row_at table shelf → pieces ≡ row_part shelf (record row { used = false }) 0 1 ∷ [] → pieces ≡ pieces_of table (TakeRow shelf)
unfolding pieces_of
taken_pieces table shelf row pieces same is = is ∙ ap (λ (r : Row). row_part shelf (record r { used = false }) 0 1 ∷ []) same

pub events_pieces : (table : Loaded) (shelf events : ℕ) (row : Row) (pieces : List Piece) → row ≡ row_at table shelf → pieces ≡ row_part shelf (record row { events = events }) 5 7 ∷ [] → pieces ≡ pieces_of table (PutEvents shelf events)
unfolding pieces_of
events_pieces table shelf events row pieces same is = is ∙ ap (λ (r : Row). row_part shelf (record r { events = events }) 5 7 ∷ []) same

pub kept_pieces_put : (table : Loaded) (shelf to : ℕ) (kept kept' : List ℕ) (row : Row) (pieces : List Piece) → row ≡ row_at table shelf → kept' ≡ kept → to ≡ 19 + length kept
    → pieces ≡ row_part shelf (record row { kept = kept' }) 18 to ∷ [] → pieces ≡ pieces_of table (PutKept shelf kept)
unfolding pieces_of
kept_pieces_put table shelf to kept kept' row pieces same same_kept end is =
    is ∙ ap (λ (n : ℕ). row_part shelf (record row { kept = kept' }) 18 n ∷ []) end
    ∙ ap (λ (k : List ℕ). row_part shelf (record row { kept = k }) 18 (19 + length kept) ∷ []) same_kept
    ∙ ap (λ (r : Row). row_part shelf (record r { kept = kept }) 18 (19 + length kept) ∷ []) same

pub added_pieces : (table : Loaded) (shelf next : ℕ) (row : Row) (pieces : List Piece) → next ≡ table.next + 1 → pieces ≡ row_part shelf row 0 51 ∷ sequence_part next ∷ kept_pieces shelf row → pieces ≡ pieces_of table (AddRow shelf row)
unfolding pieces_of
added_pieces table shelf next row pieces same is = is ∙ ap (λ (n : ℕ). row_part shelf row 0 51 ∷ sequence_part n ∷ kept_pieces shelf row) same

-- ---- a PIN

same_key : (change : PinChange) (pin : PinSlot) → (changed_pin change pin).key ≡ pin.key
unfolding changed_pin
same_key (Tries tries) pin = refl
same_key (UnblockTries tries) pin = refl
same_key (Value value) pin = refl
same_key (Enabled enabled) pin = refl
same_key (Unblocked value) pin = refl

-- what a change of the PIN in a slot writes
module _ (of_table : StandingIsOfTable) (slots : SlotsArePins) (mark : ℕ) (told : Option (List ℕ)) (table : Loaded) (agrees : Agrees mark told table) (slot : ℕ) (pin : PinSlot) (has : HasPin table slot pin) (change : PinChange) where
  abbrev new_pin : PinSlot
  new_pin = changed_pin change pin

  entry : IsPinEntry agrees.state slot pin
  entry = slots mark agrees.content table agrees.state slot pin agrees.stands has

  before_found : pin_found (pins_of table) new_pin.key ≡ Some (pin_state pin)
  unfolding pin_found
  before_found =
      ap (λ (key : ℕ). find (λ (p : Pin). p.key == key) (pins_of table)) (same_key change pin)
      ∙ ap (λ (pins : List Pin). find (λ (p : Pin). p.key == pin.key) pins) (sym (of_table mark agrees.content table agrees.state agrees.stands).1.pins) ∙ entry.found

  after_found : pin_found (with_pin (pins_of table) (pin_state new_pin)) pin.key ≡ Some (pin_state new_pin)
  after_found = ap (λ (key : ℕ). pin_found (with_pin (pins_of table) (pin_state new_pin)) key) (sym (same_key change pin)) ∙ itself_found (pins_of table) (pin_state new_pin) (pin_state pin) before_found

  slot_is : slot_of_key new_pin.key ≡ slot
  slot_is = ap slot_of_key (same_key change pin ∙ entry.own) ∙ slot_back slot entry.low

  pub pin_pieces_put : (new : PinSlot) (from to : ℕ) (pieces : List Piece) → new ≡ changed_pin change pin → (from, to) ≡ span_of change → pieces ≡ pin_part slot new from to ∷ [] → pieces ≡ pieces_of table (put_pin change (pins_of table) pin)
  unfolding pieces_of
  pin_pieces_put new from to pieces same span is =
      is ∙ ap (λ (p : PinSlot). pin_part slot p from to ∷ []) same
      ∙ ap (λ (s : ℕ × ℕ). pin_part slot new_pin s.0 s.1 ∷ []) span
      ∙ ap (λ (s : ℕ). pin_part s new_pin (span_set (fields_of change)).0 (span_set (fields_of change)).1 ∷ []) (sym slot_is)
      ∙ ap (λ (o : Option Pin). pin_pieces (fields_of change) o) (sym after_found)
