-- What DELETE FILE has done to a card once the entry of the file was committed as one that is not used.
use Rattle.std.proofs.Common.{◌≡◌, ℕ, false, List, [], ◌∷◌, Option, None, refl, sym, ◌∙◌, ap, subst, Result, Ok}
use Rattle.uicc_types.specs.declared.answers.StatusWord.{StatusWord}
use Rattle.uicc_types.specs.declared.answers.TheConstants.StatusWord.{DONE}
use Rattle.card_state.specs.declared.entries.Node.{Node}
use Rattle.card_state.specs.declared.entries.Loaded.{Loaded}
use Rattle.card_state.specs.Changing.{with_file_at}
use Rattle.card_state.specs.Persistent.{Persistent}
use Rattle.card_state.specs.Standing.{Stands}
use Rattle.card_state.specs.Used.{HasNode}
use Rattle.file_model.specs.declared.descriptors.Descriptor.{Descriptor}
use Rattle.file_model.specs.declared.selections.Selection.{Selection}
use Rattle.file_model.specs.Files.{descriptors_of, descriptors_in}
use Rattle.file_model.specs.Laws.{TablesTellFiles}
use Rattle.file_model.specs.Deleting.{is_in_use, deleting}
use Rattle.file_model.specs.TreeOutcomes.{TreeOutcome, all_without_ef, child_named}
use Rattle.layout_entries.specs.Laws.{after}
use Rattle.layout_entries.specs.Spelling.{node_part}
use Rattle.layout_laws.specs.Changes.{with_node}
use Rattle.layout_laws.specs.Known.{StandingIsCard, StandingIsOfTable}
use Rattle.file_admin.specs.WrittenFiles.{DeletedFilesStand}
use Rattle.file_admin.specs.Outcomes.{passed_by, AnswersTree, IsNamedIn}
use Rattle.file_admin.specs.Written.{IsWrittenOver, as_it_was}
use Rattle.file_admin.proofs.AnswersTreeLemmas.{done}
use Rattle.file_admin.proofs.StandsLemmas.{listed}

module _ (table : Loaded) (channels : List (Option Selection)) (file : Descriptor) where
  abbrev meaning : Persistent → Result TreeOutcome StatusWord
  meaning state = Ok (deleting state channels file)

  abbrev pub change : Persistent → Persistent
  change state = with_file_at state file.number None

  pub passes_one : (mark : ℕ) (content : List ℕ) (state : Persistent) → Stands mark content table state → passed_by channels (meaning state) ≡ change state ∷ []
  unfolding deleting
  passes_one mark content state stands = refl

  module _ (card : StandingIsCard) (of_table : StandingIsOfTable) (tells : TablesTellFiles) (stand : DeletedFilesStand) (node : Node) (has : HasNode table file.number node) (named : IsNamedIn (descriptors_of table) file)
      (unused : is_in_use (descriptors_of table) channels file ≡ false) where
    pub written : IsWrittenOver table as_it_was file.number (record node { used = false }) 0 1 change
    written mark content state stands =
        let same : descriptors_in state ≡ descriptors_of table = listed card of_table mark content table state stands tells in
        stand mark content table state channels named.df named.bytes file node stands
        (ap (λ (files : List Descriptor). child_named files named.df named.bytes) same ∙ named.named) (ap (λ (files : List Descriptor). is_in_use files channels file) same ∙ unused) has

    pub done_answers : (new : List (Option Selection)) (table' : Loaded) → new ≡ all_without_ef file.number channels → table' ≡ with_node table file.number (record node { used = false })
        → AnswersTree table table' DONE channels new meaning
    unfolding deleting
    done_answers new table' left is_table mark content state stands =
        done mark state (meaning state) channels (deleting state channels file) new (after (node_part file.number (record node { used = false }) 0 1) content) table' refl left
        (subst (λ (t : Loaded). Stands mark (after (node_part file.number (record node { used = false }) 0 1) content) t (change state)) (sym is_table) (written mark content state stands))
