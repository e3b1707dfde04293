-- What the table and the state tell of each other.
use Rattle.std.proofs.Common.{◌≡◌, ◌≢◌, ℕ, ◌==◌, Bool, true, false, IsTrue, if◌then◌else◌, List, length, All, Option, Some, None, IsSome, refl, sym, ◌∙◌, ap, subst, arith}
use Rattle.std.proofs.lemmas.Option.{same_Some}
use Rattle.std.proofs.lemmas.Bool.Decides.{nat_tests}
use Rattle.card_state.specs.declared.entries.Node.{Node}
use Rattle.card_state.specs.declared.entries.Loaded.{Loaded}
use Rattle.card_state.specs.Kinds.{df_kind, transparent_kind, has_records}
use Rattle.card_state.specs.Persistent.{Persistent}
use Rattle.card_state.specs.Soundness.{IsSound}
use Rattle.card_state.specs.Standing.{standing, Agrees}
use Rattle.card_state.specs.States.{state_of}
use Rattle.card_state.specs.Used.{HasNode}
use Rattle.file_model.specs.declared.descriptors.Descriptor.{Descriptor}
use Rattle.file_model.specs.declared.descriptors.Wanted.TheVariants.{Number}
use Rattle.file_model.specs.Files.{df_descriptor, ef_descriptor, descriptor_of, descriptors_of, descriptors_in, file_found, node_at}
use Rattle.file_model.specs.Holdings.{bytes_in, records_in}
use Rattle.file_model.specs.Laws.{NumbersAreEntries, TablesTellFiles}
use Rattle.layout_laws.specs.Known.{StandingIsCard, StandingIsOfTable, NodesAreFiles}
use Rattle.layout_laws.specs.Stores.{AgreeingStands}
use Rattle.card_commits.specs.Laws.{IsTold, TablesTellStates, BytesFillFiles, RecordsFillFiles}
use Rattle.card_commits.proofs.EntriesLemmas.{entry_of, found_is, kind_told, records_told}
use Rattle.card_commits.proofs.HeldByLemmas.{state_known, bytes_are_many, records_are_many}

module _ (agreeing : AgreeingStands) (of_table : StandingIsOfTable) where
  -- the state that a store stands for is the one that the table agrees with
  pub same_state : (mark : ℕ) (told : Option (List ℕ)) (table : Loaded) (state : Persistent) (agrees : Agrees mark told table) → standing mark told ≡ Some state → agrees.state ≡ state
  same_state mark None table state agrees is = absurd (let none : None ≡ Some state = sym (state_known agreeing of_table mark table None agrees) ∙ is in cc)
  same_state mark (Some held) table state agrees is = same_Some agrees.state state (sym (state_known agreeing of_table mark table (Some held) agrees) ∙ is)

  pub tables_tell : StandingIsCard → TablesTellFiles → TablesTellStates
  tables_tell is_card tell mark told table state agrees is =
      let same : agrees.state ≡ state = same_state mark told table state agrees is in
      let card = is_card mark agrees.content table agrees.state agrees.stands in
      let of = of_table mark agrees.content table agrees.state agrees.stands in
      let sound : IsSound (state_of table agrees.content) = subst IsSound (sym card.1 ∙ of.0) card.0.sound in
      let files : descriptors_in agrees.state ≡ descriptors_of table = ap descriptors_in of.0 ∙ tell table agrees.content sound in
      subst (IsTold table) same (record { files = files; pins = of.1.pins; rows = of.1.rows; next = of.1.next; wide = of.1.wide })

  -- ---- what a file holds

  size_of_ef : (number : ℕ) (node : Node) → node.kind ≢ df_kind → (descriptor_of number node).size ≡ node.size
  unfolding descriptor_of
  size_of_ef number node other = by_test (node.kind == df_kind) refl where
    by_test : (b : Bool) → (node.kind == df_kind) ≡ b → (if b then df_descriptor number node else ef_descriptor number node).size ≡ node.size
    by_test true is = absurd (other (grind (arith, nat_tests)))
    by_test false is = refl

  module _ (numbers : NumbersAreEntries) (nodes_are_files : NodesAreFiles) where
    has : (table : Loaded) (number : ℕ) (file : Descriptor) → file_found (descriptors_of table) (Number number) ≡ Some file → HasNode table number (node_at table number)
    has table number file found = entry_of numbers table number (subst IsSome (sym found) refl)

    told_is : (table : Loaded) (number : ℕ) (file : Descriptor) → file_found (descriptors_of table) (Number number) ≡ Some file → descriptor_of number (node_at table number) ≡ file
    told_is table number file found = same_Some _ _ (sym (found_is numbers table number (node_at table number) (has table number file found)) ∙ found)

    pub bytes_fill : BytesFillFiles
    bytes_fill mark told table state number file agrees is found transparent =
        let node : Node = node_at table number in
        let here = has table number file found in
        let same = told_is table number file found in
        let kind : node.kind ≡ transparent_kind = sym (kind_told number node) ∙ ap (λ (f : Descriptor). f.kind) same ∙ transparent in
        let other : node.kind ≢ df_kind = λ df. absurd (let both : transparent_kind ≡ df_kind = sym kind ∙ df in cc) in
        subst (λ (s : Persistent). length (bytes_in s number) ≡ file.size) (same_state mark told table state agrees is)
        (bytes_are_many nodes_are_files mark agrees.content table agrees.state agrees.stands number node here kind ∙ sym (size_of_ef number node other) ∙ ap (λ (f : Descriptor). f.size) same)

    pub records_fill : RecordsFillFiles
    records_fill mark told table state number file agrees is found records =
        let node : Node = node_at table number in
        let here = has table number file found in
        let same = told_is table number file found in
        let kind : IsTrue (has_records node.kind) = subst (λ (k : ℕ). IsTrue (has_records k)) (sym (sym (kind_told number node) ∙ ap (λ (f : Descriptor). f.kind) same)) records in
        let tells = records_told number node kind in
        let many = records_are_many nodes_are_files mark agrees.content table agrees.state agrees.stands number node here kind in
        let count = many.0 ∙ sym tells.0 ∙ ap (λ (f : Descriptor). f.count) same in
        let width : node.length ≡ file.width = sym tells.1 ∙ ap (λ (f : Descriptor). f.width) same in
        let each : All (λ bytes. length bytes ≡ file.width) (records_in agrees.state number) = subst (λ (w : ℕ). All (λ bytes. length bytes ≡ w) (records_in agrees.state number)) width many.1 in
        subst (λ (s : Persistent). (length (records_in s number) ≡ file.count) × All (λ bytes. length bytes ≡ file.width) (records_in s number)) (same_state mark told table state agrees is) (count, each)
