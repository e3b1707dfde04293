-- What the state says that a file holds, and what stands in the memory at its place.
use Rattle.std.proofs.Common.{◌≡◌, ℕ, ◌+◌, ◌-◌, ◌≤◌, IsTrue, List, length, take, drop, slice_range, All, Option, Some, None, option_map, IfSome, sym, ◌∙◌, ap, subst, arith}
use Rattle.card_state.specs.declared.entries.Node.{Node}
use Rattle.card_state.specs.declared.entries.Loaded.{Loaded}
use Rattle.card_state.specs.Kinds.{transparent_kind, has_records}
use Rattle.card_state.specs.Persistent.{Contents, Persistent}
use Rattle.card_state.specs.States.{state_of, file_of, record_count}
use Rattle.card_state.proofs.KeyOfSlotLemmas.{number_of_file}
use Rattle.card_state.specs.Standing.{Stands, standing, Agrees}
use Rattle.card_state.specs.Used.{HasNode}
use Rattle.file_model.specs.Holdings.{contents_if, held_by, bytes_held, records_held, bytes_in, records_in}
use Rattle.layout_laws.specs.Standing.{IsFileNumbered, IsFileEntry}
use Rattle.layout_laws.specs.Stores.{AgreeingStands}
use Rattle.layout_laws.specs.Known.{StandingIsOfTable, NodesAreFiles}
use Rattle.layout_laws.specs.StandingLaws.{BytesAreRead}

-- ---- what the store stands for

module _ (agreeing : AgreeingStands) (of_table : StandingIsOfTable) (mark : ℕ) (table : Loaded) where
  -- where the store tells its bytes, it stands for the state that the table agrees with
  pub state_known : (told : Option (List ℕ)) (agrees : Agrees mark told table) → standing mark told ≡ option_map (λ _. agrees.state) told
  state_known None agrees = agreeing mark None table agrees
  state_known (Some held) agrees =
      let is : agrees.state ≡ state_of table agrees.content = (of_table mark agrees.content table agrees.state agrees.stands).0 in
      agreeing mark (Some held) table agrees ∙ ap (λ (state : Persistent). let some : Option Persistent = Some state in some) (ap (state_of table) agrees.told_is ∙ sym is)

  -- what is known of that state is known of what the store stands for
  pub of_standing : (told : Option (List ℕ)) (agrees : Agrees mark told table) (P : Persistent → Type 0) → IfSome told (λ held. P agrees.state) → IfSome (standing mark told) P
  of_standing None agrees P known = subst (λ (s : Option Persistent). IfSome s P) (sym (state_known None agrees)) tt
  of_standing (Some held) agrees P known = subst (λ (s : Option Persistent). IfSome s P) (sym (state_known (Some held) agrees)) known

  -- the bytes that it tells are those that the table agrees with
  pub held_known : (told : Option (List ℕ)) (agrees : Agrees mark told table) (Q : List ℕ → Type 0) (P : Persistent → Type 0) → (Q agrees.content → P agrees.state) → IfSome told Q → IfSome (standing mark told) P
  held_known None agrees Q P known held = of_standing None agrees P tt
  held_known (Some bytes) agrees Q P known held = of_standing (Some bytes) agrees P (known (subst Q agrees.told_is held))

-- ---- what a file holds

module _ (nodes_are_files : NodesAreFiles) (mark : ℕ) (content : List ℕ) (table : Loaded) (state : Persistent) (stands : Stands mark content table state) (number : ℕ) (node : Node) (has : HasNode table number node) where
  pub entry : IsFileEntry content table state number node
  entry = nodes_are_files mark content table state number node stands has

  pub numbered : IsFileNumbered state number (file_of content number node)
  numbered = record { there = entry.there; number_is = number_of_file content number node }

  pub held_is : held_by state number ≡ (file_of content number node).contents
  unfolding held_by
  held_is = ap contents_if entry.found

  pub bytes_are_many : node.kind ≡ transparent_kind → length (bytes_in state number) ≡ node.size
  bytes_are_many kind =
      let holds = entry.holds.transparent kind in
      ap (λ (contents : Contents). length (bytes_held contents)) (held_is ∙ holds.held) ∙ holds.long

  pub records_are_many : IsTrue (has_records node.kind) → (length (records_in state number) ≡ record_count node) × All (λ bytes. length bytes ≡ node.length) (records_in state number)
  records_are_many kind =
      let holds = entry.holds.in_records kind in
      let is : records_in state number ≡ holds.records = ap records_held (held_is ∙ holds.held) in
      (ap length is ∙ holds.many, subst (All (λ bytes. length bytes ≡ node.length)) (sym is) holds.whole)

  pub bytes_read : BytesAreRead → (offset count : ℕ) → node.kind ≡ transparent_kind → offset + count ≤ node.size
      → slice_range content (node.place + offset) (node.place + offset + count) ≡ take count (drop offset (bytes_in state number))
  bytes_read read offset count kind inside =
      let holds = entry.holds.transparent kind in
      let is : bytes_in state number ≡ holds.bytes = ap bytes_held (held_is ∙ holds.held) in
      let same : offset + count - offset ≡ count = omega arith in
      read mark content table state number offset count node (file_of content number node) holds.bytes stands has numbered holds.held (omega (arith, inside, holds.long))
      ∙ ap (λ (n : ℕ). take n (drop offset holds.bytes)) same
      ∙ ap (λ (bytes : List ℕ). take count (drop offset bytes)) (sym is)
