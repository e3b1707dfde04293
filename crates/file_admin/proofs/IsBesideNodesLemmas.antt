-- A place that is no file's is beside the bytes of each EF of the table.
use Rattle.std.proofs.Common.{◌≡◌, ℕ, ◌≤◌, ◌+◌, List, Contains, sym, ◌∙◌, ap, subst, ⊎_elim, ◌⊎◌}
use Rattle.std.proofs.lemmas.List.Elements.{All-contains}
use Rattle.card_state.specs.declared.entries.Loaded.{Loaded}
use Rattle.card_state.specs.Persistent.{File, Persistent}
use Rattle.card_state.specs.Soundness.{IsEf, IsSound, IsSoundFile}
use Rattle.card_state.specs.Standing.{Stands}
use Rattle.card_state.specs.States.{ef_file, file_of}
use Rattle.layout_laws.specs.Cards.{IsFreeRange}
use Rattle.layout_laws.proofs.LiesAmongFilesLemmas.{ef_of}
use Rattle.layout_laws.specs.Known.{NodesAreFiles, IsBesideNodes}

pub beside_nodes : NodesAreFiles → (mark : ℕ) (content : List ℕ) (table : Loaded) (state : Persistent) → Stands mark content table state → IsSound state → (place count : ℕ) → IsFreeRange table.wide state.files place count
    → IsBesideNodes table place count
beside_nodes nodes mark content table state stands sound place count free = record {
  from = free.from;
  to = free.to;
  beside = λ number node has other.
      let file : File = file_of content number node in
      let there : Contains state.files file = (nodes mark content table state number node stands has).there in
      let is : file ≡ ef_file content number node = ef_of content number node other in
      let ef : IsEf file =
      ⊎_elim {C = IsEf file} (λ df. absurd (other (sym (ap (λ (f : File). f.kind) is) ∙ df))) (λ ef. ef)
      (All-contains (IsSoundFile state.is_wide state.files) state.files file sound.files there).kind in
      subst (λ (f : File). (f.place + f.size ≤ place) ⊎ (place + count ≤ f.place)) is
      (All-contains (λ (f : File). IsEf f → (f.place + f.size ≤ place) ⊎ (place + count ≤ f.place)) state.files file free.beside there ef);
}
