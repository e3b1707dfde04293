-- The three commands keep the card sound, and what is selected is there.
use Rattle.std.proofs.Common.{get_or, ◌≡◌, ℕ, zero, suc, ◌≤◌, ◌<◌, Bool, true, false, cond, List, [], ◌∷◌, ◌++◌, filter, replicate, length, Option, Some, None, Result, refl, sym, ◌∙◌, ap, subst, ⊎_elim, arith, ◌≢◌, ◌==◌, ◌||◌, not, nat_lt, is_some, slice_set, All, AllPairs, Contains, IfSome, IsSomeAnd, IsTrue, MatchResult, option_map}
use Rattle.std.specs.Option.{option_map_or}
use Rattle.std.specs.List.{list_any}
use Rattle.std.proofs.lemmas.Bool.{and_from, or_parts, both_ways, cases_Bool, cases_eq, cond-true, cond-false, eq-eqb, ne_eqb, eqb-true, leb-true, not-false, not_from_false}
use Rattle.std.proofs.lemmas.Option.{option_and_then_some, same_Some}
use Rattle.std.proofs.lemmas.List.{length-set, length-map, length-replicate}
use Rattle.std.proofs.lemmas.List.Folds.{list_any_at}
use Rattle.std.proofs.lemmas.List.Elements.{All-weaker, All-set, All-map, All-append, All-filter, All-cons, All-nil, All-contains}
use Rattle.list_laws.proofs.CondLemmas.{mapped_Some, second_false}
use Rattle.list_laws.proofs.FindLemmas.{find_Some, numbered_found}
use Rattle.uicc_types.specs.declared.answers.StatusWord.{StatusWord}
use Rattle.card_state.specs.declared.shapes.Shape.TheVariants.{Transparent, Linear, Cyclic}
use Rattle.card_state.specs.Changes.{FitFile}
use Rattle.card_state.specs.Changing.{listed, placed, with_file_at}
use Rattle.card_state.specs.Kinds.{df_kind, transparent_kind, is_ef_kind}
use Rattle.card_state.specs.Persistent.{Contents, Files, Bytes, Records, File, Persistent}
use Rattle.card_state.specs.Soundness.{mf, IsSound}
use Rattle.card_state.specs.StateLaws.{file_with_number}
use Rattle.card_state.proofs.NewFileLemmas.{is_ef_shape}
use Rattle.card_state.specs.Fitting.{FitsAmong}
use Rattle.card_state.specs.StayingSound.{FileFits, FileMayGo}
use Rattle.file_model.specs.declared.descriptors.Descriptor.{Descriptor}
use Rattle.file_model.specs.declared.descriptors.Wanted.TheVariants.{Number}
use Rattle.file_model.specs.declared.selections.Selection.{Selection}
use Rattle.file_model.proofs.SelectionOfLemmas.{selection_of_df, selection_of_ef}
use Rattle.file_model.specs.Chains.{refused_if, given}
use Rattle.file_model.specs.Files.{record_width, record_count, descriptor_in, descriptors_in, is_df, is_ef, lies_in, file_found}
use Rattle.file_model.specs.Laws.{IsSoundCard}
use Rattle.apdu_form.specs.Fields.{has_no_parameters, has_data}
use Rattle.file_model.specs.Outcomes.{is_deactivated}
use Rattle.file_model.specs.Selections.{IsSelection, selection_of}
use Rattle.file_model.specs.declared.asked.NewFile.{NewFile}
use Rattle.file_model.specs.declared.asked.NewFile.TheVariants.{Df, Ef}
use Rattle.file_model.specs.Creating.{is_there, file_made, place_for, made_in, creating, created}
use Rattle.file_model.specs.Deleting.{is_in_use, deleting, deleted}
use Rattle.file_model.specs.LawfulTrees.{AreSelected, IsLawfulTree, tree_refusals, IsLawfulTreeCommand}
use Rattle.file_model.specs.TreeOutcomes.{TreeOutcome, df_on, is_current, without_ef, all_without_ef, child_named}
use Rattle.file_model.specs.Resizing.{size_asked, may_have, contents_refitted, has_no_room, file_resized, resizing, resized}
use Rattle.file_model.specs.Rooms.{room_at, free_number}
use Rattle.file_model.specs.Templates.{asked_in, may_be_made}
use Rattle.file_model.proofs.FileMadeLemmas.{IsNewNumber, new_number, made_files_fit}
use Rattle.file_model.proofs.KeepsSelectionLemmas.{IsAlike, alike_itself, IsKept, same_kept, kept_selection, kept_df}
use Rattle.file_model.proofs.ChildNamedLemmas.{child_there, deleted_files_may_go}
use Rattle.file_model.proofs.FileFoundLemmas.{told_numbered, told_others, told_this}
use Rattle.file_model.proofs.TemplatesLemmas.{parts_of, asked_found}
use Rattle.file_model.proofs.FileResizedLemmas.{resized_files_fit}

-- ---- chains

pub unless_so : (P : TreeOutcome → Type 0) (R : StatusWord → Type 0) (bad : Bool) (status : StatusWord) (next : Result TreeOutcome StatusWord)
    → R status → (bad ≡ false → MatchResult next P R) → MatchResult (refused_if bad status next) P R
unfolding refused_if
unless_so P R true status next refused rest = refused
unless_so P R false status next refused rest = rest refl

pub given_so : {X : Type 0} (P : TreeOutcome → Type 0) (R : StatusWord → Type 0) (o : Option X) (status : StatusWord) (next : X → Result TreeOutcome StatusWord)
    → R status → ((x : X) → o ≡ Some x → MatchResult (next x) P R) → MatchResult (given o status next) P R
unfolding given
given_so P R None status next refused rest = refused
given_so P R (Some x) status next refused rest = rest x refl

abbrev IsRefusal : StatusWord → Type 0
IsRefusal = Contains tree_refusals

-- ---- the files of a state with one more, one less, or another

placed_all : (P : File → Type 0) (number : ℕ) (file : Option File) (files : List File) → All P files → IfSome file P → All P (placed (λ f. f.number) number file files)
placed_all P number file files each new =
    All-append P (filter (λ f. nat_lt f.number number) files ++ listed file) (filter (λ f. nat_lt number f.number) files)
    (All-append P (filter (λ f. nat_lt f.number number) files) (listed file) (All-filter (λ f. nat_lt f.number number) P files each) (one file new))
    (All-filter (λ f. nat_lt number f.number) P files each)
  where
    one : (o : Option File) → IfSome o P → All P (listed o)
    one None is = All-nil P
    one (Some f) is = All-cons P f [] is (All-nil P)

abbrev IsNarrow : File → Type 0
IsNarrow file = record_width file.contents ≤ 255

-- ---- on all channels

-- what is kept of each selection that is lawful in the old state is lawful in the new one
abbrev pub Keeps : Persistent → Persistent → Type 0
Keeps old new = (selection : Selection) → IsSelection (descriptors_in old) selection → IsSelection (descriptors_in new) selection

pub each_channel : (old new : Persistent) (channels : List (Option Selection)) → Keeps old new → AreSelected (descriptors_in old) channels → AreSelected (descriptors_in new) channels
each_channel old new channels keeps selected =
    All-weaker (λ channel. IfSome channel (IsSelection (descriptors_in old))) (λ channel. IfSome channel (IsSelection (descriptors_in new))) one channels selected
  where
    one : (channel : Option Selection) → IfSome channel (IsSelection (descriptors_in old)) → IfSome channel (IsSelection (descriptors_in new))
    one None is = is
    one (Some selection) is = keeps selection is

-- ---- CREATE FILE

-- a number that is found is not new
not_new : (state : Persistent) (df number n : ℕ) (file : Descriptor) → IsNewNumber state df number → file_found (descriptors_in state) (Number n) ≡ Some file → n ≢ number
unfolding descriptor_in
not_new state df number n told new found same =
    let known = mapped_Some descriptor_in (file_with_number state n) told (sym (told_numbered state n) ∙ found) in
    let there = find_Some (λ (f : File). f.number == n) state.files known.0 known.1 in
    All-contains (λ (f : File). f.number ≢ number) state.files known.0 new.others there.0 (eqb-true known.0.number n there.1 ∙ same)

pub created_keeps : (state : Persistent) (df number : ℕ) (file : File) → IsNewNumber state df number → file.number ≡ number → Keeps state (with_file_at state number (Some file))
created_keeps state df number file new named selection is =
    kept_selection (descriptors_in state) (descriptors_in (with_file_at state number (Some file))) selection.df selection.ef selection.pointer is
    (kept selection.df) (on_ef selection.ef)
  where
    kept : (n : ℕ) → IsKept (descriptors_in state) (descriptors_in (with_file_at state number (Some file))) n
    kept n told found = (told, told_others state number n (Some file) named (not_new state df number n told new found) ∙ found, alike_itself told)

    on_ef : (ef : Option ℕ) → IfSome ef (IsKept (descriptors_in state) (descriptors_in (with_file_at state number (Some file))))
    on_ef None = tt
    on_ef (Some n) = kept n

-- the new file is selected
df_selected : (state : Persistent) (number : ℕ) (file : File) → file.number ≡ number → file.kind ≡ df_kind → IsSelection (descriptors_in (with_file_at state number (Some file))) (selection_of (descriptor_in file))
unfolding descriptor_in
df_selected state number file named kind =
    let new : List Descriptor = descriptors_in (with_file_at state number (Some file)) in
    let is : IsTrue (is_df (descriptor_in file)) = eq-eqb file.kind df_kind kind in
    let found : file_found new (Number file.number) ≡ Some (descriptor_in file) = ap (λ (n : ℕ). file_found new (Number n)) named ∙ told_this state number (Some file) named in
    subst (IsSelection new) (sym (selection_of_df (descriptor_in file) is))
    (record { df = subst (λ (o : Option Descriptor). IsSomeAnd o (λ it. IsTrue (is_df it))) (sym found) is; ef = tt; pointer = tt })

ef_selected : (state : Persistent) (df number : ℕ) (file : File) → IsNewNumber state df number → file.number ≡ number → file.parent ≡ df → IsTrue (is_ef_kind file.kind)
    → IsSomeAnd (file_found (descriptors_in state) (Number df)) (λ it. IsTrue (is_df it)) → IsSelection (descriptors_in (with_file_at state number (Some file))) (selection_of (descriptor_in file))
unfolding descriptor_in
ef_selected state df number file new named of_it ef has =
    let now : List Descriptor = descriptors_in (with_file_at state number (Some file)) in
    let other : (is_df (descriptor_in file)) ≡ false = ne_eqb file.kind df_kind (λ same. both_ways (is_ef_kind df_kind) refl (subst (λ (k : ℕ). is_ef_kind k ≡ true) same ef)) in
    let found : file_found now (Number file.number) ≡ Some (descriptor_in file) = ap (λ (n : ℕ). file_found now (Number n)) named ∙ told_this state number (Some file) named in
    let above : file_found now (Number file.parent) ≡ file_found (descriptors_in state) (Number df) =
    ap (λ (n : ℕ). file_found now (Number n)) of_it ∙ told_others state number df (Some file) named (λ same. omega (arith, new.above, same)) in
    subst (IsSelection now) (sym (selection_of_ef (descriptor_in file) other))
    (record {
      df = subst (λ (o : Option Descriptor). IsSomeAnd o (λ it. IsTrue (is_df it))) (sym above) has;
      ef = subst (λ (o : Option Descriptor). IsSomeAnd o (λ it. IsTrue (is_ef it) × IsTrue (lies_in file.parent it))) (sym found)
          (ef, and_from (file.parent == file.parent) (not (file.number == 0)) (eq-eqb file.parent file.parent refl) (not_from_false (file.number == 0) (ne_eqb file.number 0 (λ none. omega (arith, none, named, new.above)))));
      pointer = tt;
    })

pub made_selected : (state : Persistent) (df number place : ℕ) (asked : NewFile) → IsNewNumber state df number → IsSomeAnd (file_found (descriptors_in state) (Number df)) (λ it. IsTrue (is_df it))
    → IsSelection (descriptors_in (with_file_at state number (Some (file_made number df place asked)))) (selection_of (descriptor_in (file_made number df place asked)))
made_selected state df number place (Df id) new has = df_selected state number (file_made number df place (Df id)) refl refl
made_selected state df number place (Ef id shape short rule) new has = ef_selected state df number (file_made number df place (Ef id shape short rule)) new refl refl (is_ef_shape shape) has

first_width : (count width : ℕ) → width ≤ 255 → record_width (Records (replicate count (replicate width 0xFF))) ≤ 255
first_width zero width low = omega arith
first_width (suc count) width low = omega (arith, length-replicate {A = ℕ} width 0xFF, low)

made_narrow : (number df place : ℕ) (asked : NewFile) → may_be_made asked ≡ true → IsNarrow (file_made number df place asked)
made_narrow number df place (Df id) may = omega arith
made_narrow number df place (Ef id (Transparent size) short rule) may = omega arith
made_narrow number df place (Ef id (Linear width count) short rule) may = first_width count width (leb-true width 255 (parts_of id (Linear width count) short rule may).third)
made_narrow number df place (Ef id (Cyclic width count) short rule) may = first_width count width (leb-true width 255 (parts_of id (Cyclic width count) short rule may).third)

pub number_made : (number df place : ℕ) (asked : NewFile) → (file_made number df place asked).number ≡ number
number_made number df place (Df id) = refl
number_made number df place (Ef id shape short rule) = refl

-- a channel that was given a selection is open, and each other one is as it was
open_set : (channels : List (Option Selection)) (channel : ℕ) (selection : Selection) (k : ℕ) → is_some (get_or channels k None) ≡ true → is_some (get_or (slice_set channels channel (Some selection)) k None) ≡ true
open_set [] channel selection k is_open = is_open
open_set (c ∷ cs) zero selection zero is_open = refl
open_set (c ∷ cs) zero selection (suc k) is_open = is_open
open_set (c ∷ cs) (suc channel) selection zero is_open = is_open
open_set (c ∷ cs) (suc channel) selection (suc k) is_open = open_set cs channel selection k is_open

made_lawful : FileFits → (state : Persistent) (channels : List (Option Selection)) (channel df number place : ℕ) (asked : NewFile)
    → IsSoundCard state → AreSelected (descriptors_in state) channels → IsSomeAnd (file_found (descriptors_in state) (Number df)) (λ it. IsTrue (is_df it)) → may_be_made asked ≡ true → IsNewNumber state df number
    → FitsAmong state (file_made number df place asked) → IsLawfulTree state channels (creating state channels channel (file_made number df place asked))
unfolding creating
made_lawful fits state channels channel df number place asked card selected has may new among =
    let file : File = file_made number df place asked in
    let named : file.number ≡ number = number_made number df place asked in
    let next : Persistent = with_file_at state file.number (Some file) in
    let same : with_file_at state number (Some file) ≡ next = ap (λ (n : ℕ). with_file_at state n (Some file)) (sym named) in
    let keeps : Keeps state next = subst (Keeps state) same (created_keeps state df number file new named) in
    let chosen : IsSelection (descriptors_in next) (selection_of (descriptor_in file)) =
    subst (λ (s : Persistent). IsSelection (descriptors_in s) (selection_of (descriptor_in file))) same (made_selected state df number place asked new has) in
    record {
      commits = omega arith;
      steps = (record { number = file.number; file = Some file; named = refl; changed = refl }, tt);
      sound = All-cons IsSoundCard next [] (record {
        sound = fits state file.number file card.sound refl among;
        short = placed_all IsNarrow file.number (Some file) state.files card.short (made_narrow number df place asked may);
      }) (All-nil IsSoundCard);
      many = length-set channels channel (Some (selection_of (descriptor_in file)));
      still_open = open_set channels channel (selection_of (descriptor_in file));
      selected = All-set (λ (c : Option Selection). IfSome c (IsSelection (descriptors_in next))) channels channel (Some (selection_of (descriptor_in file))) chosen (each_channel state next channels keeps selected);
    }

-- the MF is the file with the number 0
mf_there : (state : Persistent) → IsSound state → IsSomeAnd (file_found (descriptors_in state) (Number 0)) (λ it. IsTrue (is_df it))
unfolding descriptor_in
mf_there state sound =
    let ascend : AllPairs (λ a b. a.number < b.number) state.files = λ i j d less low. (sound.distinct_files i j d less low).number in
    let found : file_found (descriptors_in state) (Number 0) ≡ Some (descriptor_in mf) = told_numbered state 0 ∙ ap (option_map descriptor_in) (numbered_found (λ (f : File). f.number) state.files mf ascend sound.mf_there) in
    subst (λ (o : Option Descriptor). IsSomeAnd o (λ it. IsTrue (is_df it))) (sym found) refl

-- the current DF of a channel is there; of one that is closed it is the MF
pub df_there : (state : Persistent) (channels : List (Option Selection)) (channel : ℕ) → IsSound state → AreSelected (descriptors_in state) channels
    → IsSomeAnd (file_found (descriptors_in state) (Number (df_on channels channel))) (λ it. IsTrue (is_df it))
df_there state channels channel sound selected = of (get_or channels channel None) refl
  where
    inside : (k : ℕ) (cs : List (Option Selection)) → is_some (get_or cs k None) ≡ true → k < length cs
    inside k [] is = cc
    inside zero (c ∷ cs) is = omega arith
    inside (suc k) (c ∷ cs) is = omega (arith, inside k cs is)

    of : (o : Option Selection) → get_or channels channel None ≡ o → IsSomeAnd (file_found (descriptors_in state) (Number (option_map_or (λ selection. selection.df) (get_or channels channel None) 0))) (λ it. IsTrue (is_df it))
    of None is = subst (λ (o : Option Selection). IsSomeAnd (file_found (descriptors_in state) (Number (option_map_or (λ s. s.df) o 0))) (λ it. IsTrue (is_df it))) (sym is) (mf_there state sound)
    of (Some selection) is =
        let lawful : IsSelection (descriptors_in state) selection = subst (λ (o : Option Selection). IfSome o (IsSelection (descriptors_in state))) is (selected channel None (inside channel channels (ap is_some is))) in
        subst (λ (o : Option Selection). IsSomeAnd (file_found (descriptors_in state) (Number (option_map_or (λ s. s.df) o 0))) (λ it. IsTrue (is_df it))) (sym is) lawful.df

refused : (status : StatusWord) (k : ℕ) → k < 9 → get_or tree_refusals k status ≡ status → IsRefusal status
refused status k low is = (k, low, is)

pub created_so : FileFits → IsLawfulTreeCommand created
unfolding created
created_so fits state seen channels channel apdu card selected =
    let P : TreeOutcome → Type 0 = IsLawfulTree state channels in
    let df : ℕ = df_on channels channel in
    unless_so P IsRefusal (not (has_no_parameters apdu)) _ _ (refused _ 0 (omega arith) refl) (λ _.
    unless_so P IsRefusal (not (has_data apdu)) _ _ (refused _ 1 (omega arith) refl) (λ _.
    unless_so P IsRefusal (not seen.adm1) _ _ (refused _ 5 (omega arith) refl) (λ _.
    given_so P IsRefusal (asked_in apdu.body) _ _ (refused _ 6 (omega arith) refl) (λ asked read.
    unless_so P IsRefusal (is_there (descriptors_in state) df asked) _ _ (refused _ 7 (omega arith) refl) (λ new.
    given_so P IsRefusal (made_in state df asked) _ _ (refused _ 8 (omega arith) refl) (λ file made.
    let may : may_be_made asked ≡ true = (asked_found apdu.body asked read).0 in
    let has = df_there state channels channel card.sound selected in
    let among : FitsAmong state file = made_files_fit state df asked file card.sound has may new made in
    option_and_then_some (λ place. option_map (λ number. file_made number df place asked) (free_number state df)) (place_for state asked) file made
    (λ place found with_number.
    let numbered = mapped_Some (λ number. file_made number df place asked) (free_number state df) file with_number in
    subst (λ (f : File). IsLawfulTree state channels (creating state channels channel f)) numbered.2
    (made_lawful fits state channels channel df numbered.0 place asked card selected has may (new_number state df numbered.0 numbered.1) (subst (FitsAmong state) (sym numbered.2) among)))))))))

-- ---- DELETE FILE

module _ (state : Persistent) (channels : List (Option Selection)) (told : Descriptor) (this : file_found (descriptors_in state) (Number told.number) ≡ Some told)
    (unused : is_in_use (descriptors_in state) channels told ≡ false) where
  abbrev after : Persistent
  after = with_file_at state told.number None

  -- it is the current DF of no channel
  df_differs : (k : ℕ) (d : Option Selection) (selection : Selection) → k < length channels → get_or channels k d ≡ Some selection → IsSelection (descriptors_in state) selection → selection.df ≢ told.number
  df_differs k d selection low is lawful same =
      let current : is_current channels told.number ≡ true =
      list_any_at (λ channel. option_map_or (λ s. s.df == told.number) channel false) channels k d low
      (ap (λ (channel : Option Selection). option_map_or (λ s. s.df == told.number) channel false) is ∙ eq-eqb selection.df told.number same) in
      let holds : IsTrue (is_df told) = subst (λ (o : Option Descriptor). IsSomeAnd o (λ it. IsTrue (is_df it))) (ap (λ (m : ℕ). file_found (descriptors_in state) (Number m)) same ∙ this) lawful.df in
      both_ways (is_current channels told.number)
      (or_parts (list_any (lies_in told.number) (descriptors_in state)) (is_current channels told.number) (second_false (is_df told) (list_any (lies_in told.number) (descriptors_in state) || is_current channels told.number) unused holds)).1
      current

  others_kept : (n : ℕ) → n ≢ told.number → IsKept (descriptors_in state) (descriptors_in after) n
  others_kept n other = same_kept (descriptors_in state) (descriptors_in after) n (told_others state told.number n None tt other)

  -- what is left of a selection is there
  left : (df : ℕ) (ef pointer : Option ℕ) → IsSelection (descriptors_in state) (record { df = df; ef = ef; pointer = pointer }) → df ≢ told.number
      → IsSelection (descriptors_in after) (without_ef told.number (record { df = df; ef = ef; pointer = pointer }))
  left df None pointer is other = kept_selection (descriptors_in state) (descriptors_in after) df None pointer is (others_kept df other) tt
  left df (Some ef) pointer is other = ⊎_elim {C = IsSelection (descriptors_in after) (without_ef told.number (record { df = df; ef = Some ef; pointer = pointer }))}
      (λ same. subst (IsSelection (descriptors_in after)) (sym (cond-true (ef == told.number) (record { df = df; ef = None; pointer = None }) (record { df = df; ef = Some ef; pointer = pointer }) (eq-eqb ef told.number same)))
      (kept_df (descriptors_in state) (descriptors_in after) df (Some ef) pointer is (others_kept df other)))
      (λ differs. subst (IsSelection (descriptors_in after)) (sym (cond-false (ef == told.number) (record { df = df; ef = None; pointer = None }) (record { df = df; ef = Some ef; pointer = pointer }) (ne_eqb ef told.number differs)))
      (kept_selection (descriptors_in state) (descriptors_in after) df (Some ef) pointer is (others_kept df other) (others_kept ef differs)))
      (cases_eq ef told.number)

  pub all_left : AreSelected (descriptors_in state) channels → AreSelected (descriptors_in after) (all_without_ef told.number channels)
  all_left selected = All-map (λ (c : Option Selection). IfSome c (IsSelection (descriptors_in after))) (option_map (without_ef told.number)) channels (λ k d low. one k d low (get_or channels k d) refl)
    where
      one : (k : ℕ) (d : Option Selection) → k < length channels → (channel : Option Selection) → get_or channels k d ≡ channel → IfSome (option_map (without_ef told.number) (get_or channels k d)) (IsSelection (descriptors_in after))
      one k d low None is = subst (λ (o : Option Selection). IfSome (option_map (without_ef told.number) o) (IsSelection (descriptors_in after))) (sym is) tt
      one k d low (Some selection) is =
          let lawful : IsSelection (descriptors_in state) selection = subst (λ (o : Option Selection). IfSome o (IsSelection (descriptors_in state))) is (selected k d low) in
          subst (λ (o : Option Selection). IfSome (option_map (without_ef told.number) o) (IsSelection (descriptors_in after))) (sym is)
          (left selection.df selection.ef selection.pointer lawful (df_differs k d selection low is lawful))

-- a child is found by its number
pub child_numbered : (state : Persistent) (df : ℕ) (bytes : List ℕ) (told : Descriptor) → IsSound state → child_named (descriptors_in state) df bytes ≡ Some told → file_found (descriptors_in state) (Number told.number) ≡ Some told
unfolding descriptor_in
child_numbered state df bytes told sound named =
    let child = child_there state df bytes told named in
    let same : child.0.number ≡ told.number = ap (λ (d : Descriptor). d.number) child.2 in
    told_numbered state told.number
    ∙ ap (option_map descriptor_in) (ap (file_with_number state) (sym same) ∙ numbered_found (λ (f : File). f.number) state.files child.0 (λ i j d less low. (sound.distinct_files i j d less low).number) child.1.there)
    ∙ ap (λ (d : Descriptor). Some d) child.2

-- an EF that goes from a channel leaves it open
open_left : (number : ℕ) (channels : List (Option Selection)) (k : ℕ) → is_some (get_or channels k None) ≡ true → is_some (get_or (all_without_ef number channels) k None) ≡ true
open_left number [] k is_open = is_open
open_left number (None ∷ channels) zero is_open = is_open
open_left number (Some selection ∷ channels) zero is_open = refl
open_left number (c ∷ channels) (suc k) is_open = open_left number channels k is_open

deleted_lawful : FileMayGo → (state : Persistent) (channels : List (Option Selection)) (df : ℕ) (bytes : List ℕ) (told : Descriptor) → IsSoundCard state → AreSelected (descriptors_in state) channels
    → child_named (descriptors_in state) df bytes ≡ Some told → is_in_use (descriptors_in state) channels told ≡ false → IsLawfulTree state channels (deleting state channels told)
unfolding deleting
deleted_lawful goes state channels df bytes told card selected named unused =
    let may = deleted_files_may_go state channels df bytes told card.sound named unused in
    record {
      commits = omega arith;
      steps = (record { number = told.number; file = None; named = tt; changed = refl }, tt);
      sound = All-cons IsSoundCard (with_file_at state told.number None) [] (record {
        sound = goes state told.number card.sound may.0 may.1;
        short = placed_all IsNarrow told.number None state.files card.short tt;
      }) (All-nil IsSoundCard);
      many = length-map channels (option_map (without_ef told.number));
      still_open = open_left told.number channels;
      selected = all_left state channels told (child_numbered state df bytes told card.sound named) unused selected;
    }

pub deleted_so : FileMayGo → IsLawfulTreeCommand deleted
unfolding deleted
deleted_so goes state seen channels channel apdu card selected =
    let P : TreeOutcome → Type 0 = IsLawfulTree state channels in
    let df : ℕ = df_on channels channel in
    unless_so P IsRefusal (not (has_no_parameters apdu)) _ _ (refused _ 0 (omega arith) refl) (λ _.
    unless_so P IsRefusal (not (length apdu.body == 2)) _ _ (refused _ 1 (omega arith) refl) (λ _.
    given_so P IsRefusal (child_named (descriptors_in state) df apdu.body) _ _ (refused _ 2 (omega arith) refl) (λ told named.
    unless_so P IsRefusal (not seen.adm1) _ _ (refused _ 5 (omega arith) refl) (λ _.
    unless_so P IsRefusal (is_in_use (descriptors_in state) channels told) _ _ (refused _ 4 (omega arith) refl) (λ unused.
    deleted_lawful goes state channels df apdu.body told card selected named unused)))))

-- ---- RESIZE FILE

count_stays : (size : ℕ) (contents : Contents) → record_count (contents_refitted size contents) ≡ record_count contents
count_stays size Files = refl
count_stays size (Bytes bytes) = refl
count_stays size (Records records) = refl

width_stays : (size : ℕ) (contents : Contents) → record_width (contents_refitted size contents) ≡ record_width contents
width_stays size Files = refl
width_stays size (Bytes bytes) = refl
width_stays size (Records records) = refl

module _ (state : Persistent) (room : Option ℕ) (size : ℕ) (file : File) (this : file_with_number state file.number ≡ Some file) where
  abbrev new : File
  new = file_resized room size file

  abbrev next : Persistent
  next = with_file_at state file.number (Some new)

  resized_alike : IsAlike (descriptor_in file) (descriptor_in new)
  unfolding descriptor_in
  resized_alike = record { number = refl; parent = refl; kind = refl; count = count_stays size file.contents }

  resized_kept : (n : ℕ) → IsKept (descriptors_in state) (descriptors_in next) n
  resized_kept n told found = ⊎_elim {C = (b : Descriptor) × (file_found (descriptors_in next) (Number n) ≡ Some b) × IsAlike told b}
      (λ same.
      let is_told : told ≡ descriptor_in file = same_Some told (descriptor_in file) (sym found ∙ ap (λ (m : ℕ). file_found (descriptors_in state) (Number m)) same ∙ told_numbered state file.number ∙ ap (option_map descriptor_in) this) in (
        descriptor_in new,
        ap (λ (m : ℕ). file_found (descriptors_in next) (Number m)) same ∙ told_this state file.number (Some new) refl,
        subst (λ (t : Descriptor). IsAlike t (descriptor_in new)) (sym is_told) resized_alike,
      ))
      (λ other. (told, told_others state file.number n (Some new) refl other ∙ found, alike_itself told))
      (cases_eq n file.number)

  ef_kept : (ef : Option ℕ) → IfSome ef (IsKept (descriptors_in state) (descriptors_in next))
  ef_kept None = tt
  ef_kept (Some n) = resized_kept n

  pub resized_keeps : Keeps state next
  resized_keeps selection is = kept_selection (descriptors_in state) (descriptors_in next) selection.df selection.ef selection.pointer is (resized_kept selection.df) (ef_kept selection.ef)

nothing_done : (state : Persistent) (channels : List (Option Selection)) → AreSelected (descriptors_in state) channels → IsLawfulTree state channels (record { channels = channels; passed = []; changes = [] })
nothing_done state channels selected = record { commits = omega arith; steps = tt; sound = All-nil IsSoundCard; many = refl; still_open = λ channel is_open. is_open; selected = selected }

file_lawful : FileFits → (state : Persistent) (channels : List (Option Selection)) (size : ℕ) (file : File) → IsSoundCard state → AreSelected (descriptors_in state) channels → Contains state.files file
    → file.kind ≡ transparent_kind → IsTrue (may_have size) → has_no_room state size (descriptor_in file) ≡ false → IsLawfulTree state channels (resizing state channels size (descriptor_in file))
unfolding resizing descriptor_in
file_lawful fits state channels size file card selected there kind may room =
    let new : File = file_resized (room_at state size) size file in
    let next : Persistent = with_file_at state file.number (Some new) in
    let this : file_with_number state file.number ≡ Some file = numbered_found (λ (f : File). f.number) state.files file (λ i j d less low. (card.sound.distinct_files i j d less low).number) there in
    let narrow : IsNarrow file = All-contains IsNarrow state.files file card.short there in
    let done : IsLawfulTree state channels (record { channels = channels; passed = next ∷ []; changes = FitFile file.number (Some new) ∷ [] }) = record {
      commits = omega arith;
      steps = (record { number = file.number; file = Some new; named = refl; changed = refl }, tt);
      sound = All-cons IsSoundCard next [] (record {
        sound = fits state file.number new card.sound refl (resized_files_fit state size file card.sound there kind may room);
        short = placed_all IsNarrow file.number (Some new) state.files card.short (omega (arith, narrow, width_stays size file.contents));
      }) (All-nil IsSoundCard);
      many = refl;
      still_open = λ channel is_open. is_open;
      selected = each_channel state next channels (resized_keeps state (room_at state size) size file this) selected;
    } in
    ⊎_elim {C = IsLawfulTree state channels (record { channels = channels; passed = cond (file.size == size) [] (with_file_at state file.number (option_map (file_resized (room_at state size) size) (file_with_number state file.number)) ∷ []); changes = cond (file.size == size) [] (FitFile file.number (option_map (file_resized (room_at state size) size) (file_with_number state file.number)) ∷ []) })}
    (λ same. subst (λ (b : Bool). IsLawfulTree state channels (record { channels = channels; passed = cond b [] (with_file_at state file.number (option_map (file_resized (room_at state size) size) (file_with_number state file.number)) ∷ []); changes = cond b [] (FitFile file.number (option_map (file_resized (room_at state size) size) (file_with_number state file.number)) ∷ []) })) (sym same) (nothing_done state channels selected))
    (λ other. subst (λ (b : Bool). IsLawfulTree state channels (record { channels = channels; passed = cond b [] (with_file_at state file.number (option_map (file_resized (room_at state size) size) (file_with_number state file.number)) ∷ []); changes = cond b [] (FitFile file.number (option_map (file_resized (room_at state size) size) (file_with_number state file.number)) ∷ []) })) (sym other)
    (subst (λ (o : Option File). IsLawfulTree state channels (record { channels = channels; passed = with_file_at state file.number (option_map (file_resized (room_at state size) size) o) ∷ []; changes = FitFile file.number (option_map (file_resized (room_at state size) size) o) ∷ [] })) (sym this) done))
    (cases_Bool (file.size == size))

resized_lawful : FileFits → (state : Persistent) (channels : List (Option Selection)) (df size : ℕ) (bytes : List ℕ) (told : Descriptor) → IsSoundCard state → AreSelected (descriptors_in state) channels
    → child_named (descriptors_in state) df bytes ≡ Some told → not (told.kind == transparent_kind) ≡ false → not (may_have size) ≡ false → has_no_room state size told ≡ false → IsLawfulTree state channels (resizing state channels size told)
unfolding descriptor_in
resized_lawful fits state channels df size bytes told card selected named kind may room =
    let child = child_there state df bytes told named in
    let transparent : child.0.kind ≡ transparent_kind = ap (λ (d : Descriptor). d.kind) child.2 ∙ eqb-true told.kind transparent_kind (not-false (told.kind == transparent_kind) kind) in
    subst (λ (d : Descriptor). IsLawfulTree state channels (resizing state channels size d)) child.2
    (file_lawful fits state channels size child.0 card selected child.1.there transparent (not-false (may_have size) may) (subst (λ (d : Descriptor). has_no_room state size d ≡ false) (sym child.2) room))

pub resized_so : FileFits → IsLawfulTreeCommand resized
unfolding resized
resized_so fits state seen channels channel apdu card selected =
    let P : TreeOutcome → Type 0 = IsLawfulTree state channels in
    let df : ℕ = df_on channels channel in
    let size : ℕ = size_asked apdu in
    unless_so P IsRefusal (not (has_no_parameters apdu)) _ _ (refused _ 0 (omega arith) refl) (λ _.
    unless_so P IsRefusal (not (length apdu.body == 4)) _ _ (refused _ 1 (omega arith) refl) (λ _.
    given_so P IsRefusal (child_named (descriptors_in state) df apdu.body) _ _ (refused _ 2 (omega arith) refl) (λ told named.
    unless_so P IsRefusal (not (told.kind == transparent_kind)) _ _ (refused _ 3 (omega arith) refl) (λ kind.
    unless_so P IsRefusal (is_deactivated told) _ _ (refused _ 4 (omega arith) refl) (λ _.
    unless_so P IsRefusal (not seen.adm1) _ _ (refused _ 5 (omega arith) refl) (λ _.
    unless_so P IsRefusal (not (may_have size)) _ _ (refused _ 6 (omega arith) refl) (λ may.
    unless_so P IsRefusal (has_no_room state size told) _ _ (refused _ 8 (omega arith) refl) (λ room.
    resized_lawful fits state channels df size apdu.body told card selected named kind may room))))))))
