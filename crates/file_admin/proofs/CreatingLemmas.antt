-- What CREATE FILE has done to a card once the bytes of the file were prepared and its entry was committed.
use Rattle.std.proofs.Common.{◌≡◌, ℕ, ◌≤◌, Bool, false, List, [], ◌∷◌, replicate, Option, Some, None, option_map, refl, sym, ◌∙◌, ap, subst, arith, slice_set, IsTrue, IsSomeAnd, Result, Ok, Err}
use Rattle.list_laws.specs.Patches.{patched}
use Rattle.uicc_types.specs.declared.answers.StatusWord.{StatusWord}
use Rattle.uicc_types.specs.declared.answers.TheConstants.StatusWord.{DONE, NO_ROOM}
use Rattle.card_state.specs.declared.entries.Node.{Node}
use Rattle.card_state.specs.declared.entries.Loaded.{Loaded}
use Rattle.card_state.specs.Changes.{MakeFile}
use Rattle.card_state.specs.Changing.{with_file_at}
use Rattle.card_state.specs.Persistent.{File, Persistent}
use Rattle.card_state.specs.Ranges.{HasNodeRanges}
use Rattle.card_state.specs.Standing.{Stands}
use Rattle.card_state.specs.States.{state_of}
use Rattle.file_model.specs.declared.descriptors.Descriptor.{Descriptor}
use Rattle.file_model.specs.declared.descriptors.Wanted.TheVariants.{Number}
use Rattle.file_model.specs.declared.selections.Selection.{Selection}
use Rattle.file_model.specs.Chains.{given}
use Rattle.file_model.specs.Files.{descriptors_of, descriptors_in, descriptor_in, file_found, is_df}
use Rattle.file_model.specs.Laws.{TablesTellFiles}
use Rattle.file_model.specs.Selections.{selection_of}
use Rattle.file_model.specs.declared.asked.NewFile.{NewFile}
use Rattle.file_model.specs.declared.asked.NewFile.TheVariants.{Df, Ef}
use Rattle.file_model.specs.Creating.{is_there, file_made, made_in, creating, created_if_room}
use Rattle.file_model.specs.TreeOutcomes.{TreeOutcome, df_on}
use Rattle.file_model.specs.Templates.{may_be_made}
use Rattle.file_model.proofs.IsLawfulTreeCommandLemmas.{number_made}
use Rattle.layout_entries.specs.Laws.{after}
use Rattle.layout_entries.specs.Spelling.{node_part}
use Rattle.layout_laws.specs.Cards.{IsFreeRange}
use Rattle.layout_laws.specs.Changes.{with_node}
use Rattle.layout_laws.specs.Known.{StandingIsCard, StandingIsOfTable, NodesAreFiles, IsBesideNodes}
use Rattle.card_commits.specs.Prepared.{filled}
use Rattle.file_admin.specs.declared.new_entries.NewEntry.{NewEntry}
use Rattle.file_admin.specs.NewEntries.{node_made, byte_count, blank_bytes}
use Rattle.file_admin.specs.WrittenFiles.{MadeBytesAreFree, MadeFilesStand}
use Rattle.file_admin.specs.Outcomes.{passed_by, changes_by, AnswersTree, TreeComesTo}
use Rattle.file_admin.specs.Written.{IsWrittenOver}
use Rattle.file_admin.proofs.AnswersTreeLemmas.{done}
use Rattle.file_admin.proofs.IsBesideNodesLemmas.{beside_nodes}
use Rattle.file_admin.proofs.StandsLemmas.{listed, same_state, sound_state}

size_made : (df place : ℕ) (asked : NewFile) → (node_made df place asked).size ≡ byte_count asked
size_made df place (Df id) = refl
size_made df place (Ef id shape short rule) = refl

module _ (card : StandingIsCard) (of_table : StandingIsOfTable) (tells : TablesTellFiles) (table : Loaded) (channels : List (Option Selection)) (channel : ℕ) (df : ℕ) (same_df : df ≡ df_on channels channel) (asked : NewFile) where
  abbrev meaning : Persistent → Result TreeOutcome StatusWord
  meaning state = created_if_room state channels channel asked

  module _ (entry : Option NewEntry) (made : (content : List ℕ) → made_in (state_of table content) df asked ≡ option_map (λ it. file_made it.number df it.node.place asked) entry) where
    made_here : (mark : ℕ) (content : List ℕ) (state : Persistent) → Stands mark content table state → made_in state df asked ≡ option_map (λ it. file_made it.number df it.node.place asked) entry
    made_here mark content state stands = ap (λ (s : Persistent). made_in s df asked) (same_state card of_table mark content table state stands) ∙ made content

    found : (mark : ℕ) (content : List ℕ) (state : Persistent) → Stands mark content table state
        → meaning state ≡ given (option_map (λ it. file_made it.number df it.node.place asked) entry) NO_ROOM (λ file. Ok (creating state channels channel file))
    found mark content state stands =
        ap (λ (n : ℕ). given (made_in state n asked) NO_ROOM (λ file. Ok (creating state channels channel file))) (sym same_df)
        ∙ ap (λ (o : Option File). given o NO_ROOM (λ file. Ok (creating state channels channel file))) (made_here mark content state stands)

    pub full : entry ≡ None → TreeComesTo table meaning (λ _. Err NO_ROOM)
    unfolding given
    full none mark content state stands =
        found mark content state stands
        ∙ ap (λ (o : Option NewEntry). given (option_map (λ it. file_made it.number df it.node.place asked) o) NO_ROOM (λ file. Ok (creating state channels channel file))) none

    -- ---- carried out

    module _ (it : NewEntry) (some : entry ≡ Some it) where
      abbrev pub file : File
      file = file_made it.number df it.node.place asked

      meaning_found : (mark : ℕ) (content : List ℕ) (state : Persistent) → Stands mark content table state → meaning state ≡ Ok (creating state channels channel file)
      unfolding given
      meaning_found mark content state stands =
          found mark content state stands
          ∙ ap (λ (o : Option NewEntry). given (option_map (λ e. file_made e.number df e.node.place asked) o) NO_ROOM (λ f. Ok (creating state channels channel f))) some

      abbrev pub change : Persistent → Persistent
      change state = with_file_at state it.number (Some file)

      pub named : file.number ≡ it.number
      named = number_made it.number df it.node.place asked

      pub passes_one : (mark : ℕ) (content : List ℕ) (state : Persistent) → Stands mark content table state → passed_by channels (meaning state) ≡ change state ∷ []
      unfolding creating
      passes_one mark content state stands =
          ap (passed_by channels) (meaning_found mark content state stands) ∙ ap (λ (n : ℕ). with_file_at state n (Some file) ∷ []) named

      -- its change is that of the new file
      pub makes_one : (mark : ℕ) (content : List ℕ) (state : Persistent) → Stands mark content table state → changes_by channels (meaning state) ≡ MakeFile file ∷ []
      unfolding creating
      makes_one mark content state stands = ap (changes_by channels) (meaning_found mark content state stands)

      module _ (node_is : it.node ≡ node_made df it.node.place asked) where
        sized : it.node.size ≡ byte_count asked
        sized = ap (λ (n : Node). n.size) node_is ∙ size_made df it.node.place asked

        only_file : (mark : ℕ) (content : List ℕ) (state : Persistent) → Stands mark content table state → made_in state df asked ≡ Some file
        only_file mark content state stands = made_here mark content state stands ∙ ap (option_map (λ e. file_made e.number df e.node.place asked)) some

        pub beside : MadeBytesAreFree → NodesAreFiles → (mark : ℕ) (content : List ℕ) (state : Persistent) → Stands mark content table state → 1 ≤ it.node.size → IsBesideNodes table it.node.place it.node.size
        beside free nodes mark content state stands bytes =
            let sound = sound_state card of_table mark content table state stands in
            let wide : state.is_wide ≡ table.wide = (of_table mark content table state stands).1.wide in
            let range = free state df it.number it.node.place asked sound (only_file mark content state stands) (omega (arith, bytes, sized)) in
            subst (IsBesideNodes table it.node.place) (sym sized)
            (beside_nodes nodes mark content table state stands sound it.node.place (byte_count asked) (subst (λ (w : Bool). IsFreeRange w state.files it.node.place (byte_count asked)) wide range))

        pub written : MadeFilesStand → IsTrue (may_be_made asked) → is_there (descriptors_of table) df asked ≡ false → HasNodeRanges it.node → IsSomeAnd (file_found (descriptors_of table) (Number df)) (λ f. IsTrue (is_df f))
            → IsWrittenOver table (filled it.node.place it.node.size) it.number it.node 0 16 change
        written stand may new ranges has mark content state stands =
            let same : descriptors_in state ≡ descriptors_of table = listed card of_table mark content table state stands tells in
            let has' = subst (λ (files : List Descriptor). IsSomeAnd (file_found files (Number df)) (λ f. IsTrue (is_df f))) (sym same) has in
            let new' : is_there (descriptors_in state) df asked ≡ false = ap (λ (files : List Descriptor). is_there files df asked) same ∙ new in
            let stood = stand mark content table state df it.number it.node.place asked stands has' may (subst HasNodeRanges node_is ranges) new' (only_file mark content state stands) in
            let at_node : Stands mark (after (node_part it.number it.node 0 16) (patched it.node.place (blank_bytes asked) content)) (with_node table it.number it.node) (change state) =
            subst (λ (n : Node). Stands mark (after (node_part it.number n 0 16) (patched it.node.place (blank_bytes asked) content)) (with_node table it.number n) (change state)) (sym node_is) stood in
            subst (λ (n : ℕ). Stands mark (after (node_part it.number it.node 0 16) (patched it.node.place (replicate n 0xFF) content)) (with_node table it.number it.node) (change state)) (sym sized) at_node

        pub done_answers : IsWrittenOver table (filled it.node.place it.node.size) it.number it.node 0 16 change → (at : ℕ) (new : List (Option Selection)) (selection : Selection) (table' : Loaded) → at ≡ channel
            → new ≡ slice_set channels at (Some selection) → selection ≡ selection_of (descriptor_in file) → table' ≡ with_node table it.number it.node → AnswersTree table table' DONE channels new meaning
        unfolding creating
        done_answers over at new selection table' same_channel left chosen is_table mark content state stands =
            done mark state (meaning state) channels (creating state channels channel file) new (after (node_part it.number it.node 0 16) (filled it.node.place it.node.size content)) table' (meaning_found mark content state stands)
            (left ∙ (λ i. slice_set channels (same_channel i) (Some (chosen i))))
            (subst (λ (t : Loaded). Stands mark (after (node_part it.number it.node 0 16) (filled it.node.place it.node.size content)) t (with_file_at state file.number (Some file))) (sym is_table)
            (subst (λ (n : ℕ). Stands mark (after (node_part it.number it.node 0 16) (filled it.node.place it.node.size content)) (with_node table it.number it.node) (with_file_at state n (Some file))) (sym named) (over mark content state stands)))
