-- Answers of good cards, put together from what the commands on files, PINs and channels come to.
use Rattle.std.proofs.Common.{mod-lt, get_or, ◌≡◌, ◌⊎◌, inl, inr, ⊎_elim, ℕ, zero, suc, ◌<◌, ◌≤◌, Bool, true, false, List, [], ◌∷◌, length, map, Option, Some, None, refl, sym, ◌∙◌, ap, subst, arith, ◌==◌, ◌%◌, Err, All, Contains, MatchResult, IfSome, slice_index_or, slice_set, is_some, unwrap_or, not, ◌&&◌, nat_le, if◌then◌else◌, length-set, get_or-set_other}
use Rattle.std.proofs.lemmas.Bool.{false≢true, cases_eq, cond-true, cond-false, eq-eqb, ne_eqb, leb-true, and_parts}
use Rattle.std.proofs.lemmas.List.Elements.{All-nil, All-cons, All-map}
use Rattle.std.proofs.lemmas.Grind.{get_or-set_at}
use Rattle.list_laws.proofs.FindLemmas.{find_Some}
use Rattle.uicc_types.specs.declared.answers.TheConstants.StatusWord.{DONE, END_OF_FILE, FILE_DEACTIVATED, WRONG_PARAMETERS}
use Rattle.uicc_types.specs.declared.answers.StatusWord.{StatusWord}
use Rattle.apdu_form.specs.Model.{Apdu}
use Rattle.card_state.specs.Changing.{with_file_changed}
use Rattle.card_state.specs.Persistent.{Pin, Persistent, Registration}
use Rattle.card_state.specs.Soundness.{IsSound}
use Rattle.file_model.proofs.ChainsLemmas.{unless_so, given_so}
use Rattle.file_model.specs.Files.{descriptors_in}
use Rattle.file_model.specs.Laws.{ChangesOneFile, ChangesOnePin, ChangesTriesAlone, EachStep, IsSoundCard, IsLawfulOutcome, IsLawfulPinOutcome, TellsTries}
use Rattle.apdu_form.specs.Fields.{has_no_data}
use Rattle.file_model.specs.Outcomes.{FileOutcome, PinOutcome, last_of}
use Rattle.file_model.specs.Selections.{IsSelection}
use Rattle.file_model.specs.declared.selections.Selection.{Selection}
use Rattle.file_model.specs.declared.selections.TheConstants.Selection.{AT_START}
use Rattle.apdu_form.specs.Classes.{names_channel, channel_of}
use Rattle.file_model.specs.Channels.{selected_on, is_open, ChannelOutcome, closed_channel, first_selection, is_le_of_number, channel_opened, channel_closed, channel_tried}
use Rattle.file_model.specs.LawfulTrees.{ChangesOneNode, IsLawfulTree}
use Rattle.file_model.specs.TreeOutcomes.{TreeOutcome}
use Rattle.file_model.proofs.AtStartLemmas.{start_is_selected}
use Rattle.file_model.specs.declared.commands.PinCommand.{PinCommand}
use Rattle.toolkit_model.specs.Orderly.{IsOrderly}
use Rattle.card_model.specs.Answers.{is_carried_out, on_files, on_pins, on_channels, on_trees, with_pins, selection_on}
use Rattle.card_model.specs.Laws.{ChangesOneThing, ChangesAtMostTries, IsKnownStatus, IsLawfulAnswer, statuses}
use Rattle.card_model.proofs.RowNamedLemmas.{all_hold}
use Rattle.card_model.proofs.IsKnownStatusLemmas.{among}
use Rattle.card_model.specs.States.{CardState, AreChannels, HasBox, IsGood}

-- ---- channels

-- a class byte names one of four channels
pub channel_low : (class : ℕ) → channel_of class < 4
channel_low class = by_name (names_channel class) where
  by_name : (b : Bool) → (if b then class % 4 else 0) < 4
  by_name true = mod-lt class (omega arith)
  by_name false = omega arith

-- what is selected on a channel is there
chosen_is : (persistent : Persistent) → IsSound persistent → (found : Option Selection) → IfSome found (IsSelection (descriptors_in persistent)) → IsSelection (descriptors_in persistent) (unwrap_or found AT_START)
chosen_is persistent sound None is = start_is_selected persistent sound
chosen_is persistent sound (Some selection) is = is

pub selected_is : (card : CardState) → IsGood card → (channel : ℕ) → channel < 4 → IsSelection (descriptors_in card.persistent) (selection_on card channel)
selected_is card good channel low =
    chosen_is card.persistent good.sound.sound (selected_on card.channels channel) (good.channels.selected channel None (omega (arith, good.channels.four)))

still_if : {P Q : Selection → Type 0} (found : Option Selection) → ((selection : Selection) → P selection → Q selection) → IfSome found P → IfSome found Q
still_if None still is = _
still_if (Some selection) still is = still selection is

module _ (old new : Persistent) (channels : List (Option Selection)) (are : AreChannels old channels)
    (others : (other : Selection) → IsSelection (descriptors_in old) other → IsSelection (descriptors_in new) other) where
  -- a channel was given something else
  pub channels_set : (channel : ℕ) (given : Option Selection) → channel < 4 → (channel ≡ 0 → is_some given ≡ true) → IfSome given (IsSelection (descriptors_in new)) → AreChannels new (slice_set channels channel given)
  channels_set channel given low basic is = record {
    four = length-set channels channel given ∙ are.four;
    basic = ⊎_elim {C = is_some (slice_index_or (slice_set channels channel given) 0 None) ≡ true}
        (λ same. ap is_some (get_or-set_at channels channel 0 given None same (omega (arith, are.four))) ∙ basic (sym same))
        (λ other. ap is_some (get_or-set_other channels channel 0 given None other) ∙ are.basic)
        (cases_eq 0 channel);
    selected = λ k d inside.
        let low_k : k < length channels = omega (arith, length-set channels channel given) in
        ⊎_elim {C = IfSome (get_or (slice_set channels channel given) k d) (IsSelection (descriptors_in new))}
        (λ same. subst (λ (found : Option Selection). IfSome found (IsSelection (descriptors_in new))) (sym (get_or-set_at channels channel k given d same (omega (arith, are.four)))) is)
        (λ other. subst (λ (found : Option Selection). IfSome found (IsSelection (descriptors_in new))) (sym (get_or-set_other channels channel k given d other)) (still_if (get_or channels k d) others (are.selected k d low_k)))
        (cases_eq k channel);
  }

  -- no channel was
  pub channels_stay : AreChannels new channels
  channels_stay = record { four = are.four; basic = are.basic; selected = λ k d low. still_if (get_or channels k d) others (are.selected k d low) }

-- ---- what commits leave alone

rows_of_change : (old new : Persistent) → ChangesOneFile old new → new.rows ≡ old.rows
unfolding with_file_changed
rows_of_change old new step = ap (λ (state : Persistent). state.rows) step.changed

-- where each step of one kind is one of another
pub each_too : {X : Type 0} (R S : X → X → Type 0) → ((old new : X) → R old new → S old new) → (state : X) (passed : List X) → EachStep R state passed → EachStep S state passed
each_too R S too state [] steps = tt
each_too R S too state (next ∷ passed) steps = (too state next steps.0, each_too R S too next passed steps.1)

-- where no step changes the rows
rows_kept : (R : Persistent → Persistent → Type 0) → ((old new : Persistent) → R old new → new.rows ≡ old.rows) → (state : Persistent) (rows : List Registration) (passed : List Persistent) → state.rows ≡ rows
    → EachStep R state passed → All (λ (next : Persistent). next.rows ≡ rows) passed
rows_kept R keeps state rows [] same steps = All-nil (λ (next : Persistent). next.rows ≡ rows)
rows_kept R keeps state rows (next ∷ passed) same steps =
    let here : next.rows ≡ rows = keeps state next steps.0 ∙ same in
    All-cons (λ (each : Persistent). each.rows ≡ rows) next passed here (rows_kept R keeps next rows passed here steps.1)

pub last_is : (P : Persistent → Type 0) (state : Persistent) (passed : List Persistent) → P state → All P passed → P (last_of state passed)
last_is P state [] here all = here
last_is P state (next ∷ passed) here all = last_is P next passed (all 0 next (omega arith)) (λ k d low. all (suc k) d (omega arith))

pub last_with_pins : (state : Persistent) (pins : List Pin) (passed : List (List Pin)) → last_of (with_pins state pins) (map (with_pins state) passed) ≡ with_pins state (last_of pins passed)
last_with_pins state pins [] = refl
last_with_pins state pins (next ∷ passed) = last_with_pins state next passed

-- ---- commands on files

abbrev done_statuses : List StatusWord
done_statuses = DONE ∷ END_OF_FILE ∷ FILE_DEACTIVATED ∷ []

done_carried : (status : StatusWord) → Contains done_statuses status → is_carried_out status ≡ true
done_carried = all_hold is_carried_out done_statuses refl

module _ (card : CardState) (good : IsGood card) where
  pub files_lawful : (channel key : ℕ) (outcome : FileOutcome) → channel < 4 → IsLawfulOutcome card.persistent outcome → IsLawfulAnswer card false key (on_files card channel outcome)
  files_lawful channel key outcome low lawful =
      let last : Persistent = last_of card.persistent outcome.passed in
      let rows : All (λ (next : Persistent). next.rows ≡ card.persistent.rows) outcome.passed = rows_kept ChangesOneFile rows_of_change card.persistent card.persistent.rows outcome.passed refl lawful.steps in
      let same : last.rows ≡ card.persistent.rows = last_is (λ state. state.rows ≡ card.persistent.rows) card.persistent outcome.passed refl rows in
      record {
        good = record {
          sound = last_is IsSoundCard card.persistent outcome.passed good.sound lawful.sound;
          channels = channels_set card.persistent last card.channels good.channels lawful.others channel (Some outcome.selection) low (λ zero. refl) lawful.selection;
          shelves = good.shelves;
          boxes = subst (λ (list : List Registration). All (HasBox card.boxes) list) (sym same) good.boxes;
          kinds = good.kinds;
          session = subst (λ (list : List Registration). IsOrderly list card.session) (sym same) good.session;
        };
        ends = refl;
        steps = each_too ChangesOneFile (ChangesOneThing false) (λ old new step. inl step) card.persistent outcome.passed lawful.steps;
        sound = lawful.sound;
        rows = rows;
        boxes = refl;
        session = refl;
        short = lawful.short;
        status = inl (inl (among done_statuses statuses refl outcome.status lawful.status));
        refused = λ not_done. absurd (false≢true (sym not_done ∙ done_carried outcome.status lawful.status));
      }

  -- ---- commands that make, delete and resize files

  pub trees_lawful : (key : ℕ) (outcome : TreeOutcome) → IsLawfulTree card.persistent card.channels outcome → IsLawfulAnswer card true key (on_trees card outcome)
  trees_lawful key outcome lawful =
      let rows : All (λ (next : Persistent). next.rows ≡ card.persistent.rows) outcome.passed = rows_kept ChangesOneNode (λ old new step. ap (λ (each : Persistent). each.rows) step.changed) card.persistent card.persistent.rows outcome.passed refl lawful.steps in
      let same : (last_of card.persistent outcome.passed).rows ≡ card.persistent.rows = last_is (λ state. state.rows ≡ card.persistent.rows) card.persistent outcome.passed refl rows in
      record {
        good = record {
          sound = last_is IsSoundCard card.persistent outcome.passed good.sound lawful.sound;
          channels = record {
            four = lawful.many ∙ good.channels.four;
            basic = lawful.still_open 0 good.channels.basic;
            selected = lawful.selected;
          };
          shelves = good.shelves;
          boxes = subst (λ (list : List Registration). All (HasBox card.boxes) list) (sym same) good.boxes;
          kinds = good.kinds;
          session = subst (λ (list : List Registration). IsOrderly list card.session) (sym same) good.session;
        };
        ends = refl;
        steps = each_too ChangesOneNode (ChangesOneThing true) (λ old new step. step) card.persistent outcome.passed lawful.steps;
        sound = lawful.sound;
        rows = rows;
        boxes = refl;
        session = refl;
        short = omega arith;
        status = inl (inl (0, omega arith, refl));
        refused = λ not_done. absurd (false≢true (sym not_done));
      }

  -- ---- PIN commands

  abbrev held : Persistent
  held = card.persistent

  last_pins : (pins : List Pin) (passed : List (List Pin)) → last_of (with_pins held pins) (map (with_pins held) passed) ≡ with_pins held (last_of pins passed)
  last_pins pins [] = refl
  last_pins pins (next ∷ passed) = last_pins next passed

  steps_of_pins : (key : ℕ) (pins : List Pin) (passed : List (List Pin)) → EachStep (ChangesOnePin key) pins passed → EachStep (ChangesOneThing false) (with_pins held pins) (map (with_pins held) passed)
  steps_of_pins key pins [] steps = tt
  steps_of_pins key pins (next ∷ passed) steps = (inr (record { key = key; changed = steps.0; alone = refl }), steps_of_pins key next passed steps.1)

  sound_with : (pins : List Pin) → IsSound (with_pins held pins) → IsSoundCard (with_pins held pins)
  sound_with pins sound = record { sound = sound; short = good.sound.short }

  sound_pins : (pins : List Pin) (passed : List (List Pin)) → IsSoundCard (with_pins held pins) → All (λ each. IsSound (with_pins held each)) passed → IsSoundCard (with_pins held (last_of pins passed))
  sound_pins pins [] here all = here
  sound_pins pins (next ∷ passed) here all = sound_pins next passed (sound_with next (all 0 next (omega arith))) (λ k d low. all (suc k) d (omega arith))

  same_files : (pins : List Pin) (other : Selection) → IsSelection (descriptors_in held) other → IsSelection (descriptors_in (with_pins held pins)) other
  unfolding descriptors_in
  same_files pins other is = is

  known_pin : (status : StatusWord) → (status ≡ DONE) ⊎ TellsTries status → IsKnownStatus status
  known_pin status (inl is) = inl (0, omega arith, sym is)
  known_pin status (inr tells) = inr (inr (inl tells))

  last_tries : (key : ℕ) (pins : List Pin) (passed : List (List Pin)) → (pins ≡ held.pins) ⊎ ChangesTriesAlone key held.pins pins → All (ChangesTriesAlone key held.pins) passed → (last_of pins passed ≡ held.pins) ⊎ ChangesTriesAlone key held.pins (last_of pins passed)
  last_tries key pins [] here all = here
  last_tries key pins (next ∷ passed) here all = last_tries key next passed (inr (all 0 next (omega arith))) (λ k d low. all (suc k) d (omega arith))

  refused_pin : (command : PinCommand) (at : ℕ) (outcome : PinOutcome) (key : ℕ) → IsLawfulPinOutcome held card.verified key outcome → (outcome.status ≡ DONE) ⊎ TellsTries outcome.status
      → is_carried_out outcome.status ≡ false → ChangesAtMostTries key outcome.status card (on_pins card command at outcome).state
  refused_pin command at outcome key lawful (inl done) not_done = absurd (false≢true (sym not_done ∙ ap is_carried_out done))
  refused_pin command at outcome key lawful (inr tells) not_done =
      let left = lawful.refused tells in
      inr (
        tells,
        record {
          persistent = refl;
          pins = last_tries key held.pins outcome.passed (inl refl) left.1;
          marks = left.0;
          channels = refl;
          session = refl;
          boxes = refl;
        },
      )

  pub pins_lawful : (command : PinCommand) (at key : ℕ) (outcome : PinOutcome) → IsLawfulPinOutcome held card.verified key outcome → IsLawfulAnswer card false key (on_pins card command at outcome)
  pins_lawful command at key outcome lawful =
      let last : List Pin = last_of held.pins outcome.passed in
      record {
        good = record {
          sound = sound_pins held.pins outcome.passed good.sound lawful.sound;
          channels = channels_stay held (with_pins held last) card.channels good.channels (same_files last);
          shelves = good.shelves;
          boxes = good.boxes;
          kinds = good.kinds;
          session = good.session;
        };
        ends = last_pins held.pins outcome.passed;
        steps = steps_of_pins key held.pins outcome.passed lawful.steps;
        sound = All-map IsSoundCard (with_pins held) outcome.passed (λ k d low. sound_with (get_or outcome.passed k d) (lawful.sound k d low));
        rows = All-map (λ (state : Persistent). state.rows ≡ held.rows) (with_pins held) outcome.passed (λ k d low. refl);
        boxes = refl;
        session = refl;
        short = omega arith;
        status = inl (known_pin outcome.status lawful.status);
        refused = refused_pin command at outcome key lawful lawful.status;
      }

  -- ---- MANAGE CHANNEL

  pub channels_lawful : (key : ℕ) (outcome : ChannelOutcome) → AreChannels held outcome.channels → length outcome.body ≤ 256 → IsLawfulAnswer card false key (on_channels card outcome)
  channels_lawful key outcome are short = record {
    good = record { sound = good.sound; channels = are; shelves = good.shelves; boxes = good.boxes; kinds = good.kinds; session = good.session };
    ends = refl;
    steps = tt;
    sound = All-nil IsSoundCard;
    rows = All-nil (λ (state : Persistent). state.rows ≡ held.rows);
    boxes = refl;
    session = refl;
    short = short;
    status = inl (inl (0, omega arith, refl));
    refused = λ not_done. absurd (false≢true (sym not_done));
  }

  abbrev IsChannels : ChannelOutcome → Type 0
  IsChannels outcome = AreChannels held outcome.channels × (length outcome.body ≤ 256)

  -- what a channel begins with is there
  first_is : (from : ℕ) (selection : Selection) → IsSelection (descriptors_in held) selection → IsSelection (descriptors_in held) (first_selection from selection)
  first_is from selection is =
      ⊎_elim {C = IsSelection (descriptors_in held) (first_selection from selection)}
      (λ zero. subst (IsSelection (descriptors_in held)) (sym (cond-true (from == 0) AT_START (record { df = selection.df; ef = None; pointer = None }) (eq-eqb from 0 zero))) (start_is_selected held good.sound.sound))
      (λ other. subst (IsSelection (descriptors_in held)) (sym (cond-false (from == 0) AT_START (record { df = selection.df; ef = None; pointer = None }) (ne_eqb from 0 other))) (record { df = is.df; ef = _; pointer = _ }))
      (cases_eq from 0)

  closed_is : (channel : ℕ) → closed_channel card.channels ≡ Some channel → (1 ≤ channel) × (channel ≤ 3)
  closed_is channel is = among channel (find_Some (λ k. not (is_open card.channels k)) (1 ∷ 2 ∷ 3 ∷ []) channel is).0 where
    among : (channel : ℕ) → Contains (1 ∷ 2 ∷ 3 ∷ []) channel → (1 ≤ channel) × (channel ≤ 3)
    among channel (zero, low, is) = (omega (arith, is), omega (arith, is))
    among channel (suc zero, low, is) = (omega (arith, is), omega (arith, is))
    among channel (suc (suc zero), low, is) = (omega (arith, is), omega (arith, is))
    among channel (suc (suc (suc k)), low, is) = absurd (omega (arith, low))

  opened_lawful : (apdu : Apdu) → MatchResult (channel_opened card.channels (selection_on card (channel_of apdu.class)) apdu) IsChannels (Contains statuses)
  opened_lawful apdu =
      unless_so IsChannels (Contains statuses) (not (has_no_data apdu && is_le_of_number apdu.expected)) _ _ (3, omega arith, refl) (λ fits.
      given_so IsChannels (Contains statuses) (closed_channel card.channels) _ _ (12, omega arith, refl) (λ channel is.
      let low : (1 ≤ channel) × (channel ≤ 3) = closed_is channel is in (
        channels_set held held card.channels good.channels (λ other is. is) channel (Some (first_selection (channel_of apdu.class) (selection_on card (channel_of apdu.class)))) (omega (arith, low.1)) (λ zero. refl)
            (first_is (channel_of apdu.class) (selection_on card (channel_of apdu.class)) (selected_is card good (channel_of apdu.class) (channel_low apdu.class))),
        omega arith,
      )))

  closed_lawful : (apdu : Apdu) → 1 ≤ apdu.p2 → apdu.p2 ≤ 3 → MatchResult (channel_closed card.channels apdu) IsChannels (Contains statuses)
  closed_lawful apdu from to =
      unless_so IsChannels (Contains statuses) (not (has_no_data apdu)) _ _ (3, omega arith, refl) (λ fits.
      unless_so IsChannels (Contains statuses) (not (is_open card.channels apdu.p2)) _ _ (10, omega arith, refl) (λ open_there.
      (channels_set held held card.channels good.channels (λ other is. is) apdu.p2 None (omega (arith, to)) (λ zero. absurd (omega (arith, zero, from))) _, omega arith)))

  pub managed_lawful : (apdu : Apdu) → MatchResult (channel_tried card.channels (selection_on card (channel_of apdu.class)) apdu) IsChannels (Contains statuses)
  unfolding channel_tried
  managed_lawful apdu = by_p1 (apdu.p1 == 0x00 && apdu.p2 == 0x00) (apdu.p1 == 0x80 && nat_le 1 apdu.p2 && nat_le apdu.p2 3) refl where
    by_p1 : (first second : Bool) → (apdu.p1 == 0x80 && nat_le 1 apdu.p2 && nat_le apdu.p2 3) ≡ second
        → MatchResult (if first then channel_opened card.channels (selection_on card (channel_of apdu.class)) apdu else if second then channel_closed card.channels apdu else Err WRONG_PARAMETERS) IsChannels (Contains statuses)
    by_p1 true second is = opened_lawful apdu
    by_p1 false true is =
        let parts = and_parts (apdu.p1 == 0x80 && nat_le 1 apdu.p2) (nat_le apdu.p2 3) is in
        let firsts = and_parts (apdu.p1 == 0x80) (nat_le 1 apdu.p2) parts.0 in
        closed_lawful apdu (leb-true 1 apdu.p2 firsts.1) (leb-true apdu.p2 3 parts.1)
    by_p1 false false is = (15, omega arith, refl)
