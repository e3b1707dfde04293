-- What a fault in a command of the toolkit leaves of the card.
use Rattle.std.proofs.Common.{◌==◌, ◌≡◌, ◌≢◌, ◌⊎◌, inl, inr, ⊎_elim, ℕ, ◌<◌, ◌+◌, zero, suc, true, false, List, [], ◌∷◌, map, length, Option, Some, None, option_map, Result, Ok, Err, refl, sym, ◌∙◌, ap, subst, arith, All, IsSomeAnd, is_none, slice_index_or}
use Rattle.std.proofs.lemmas.Bool.{false≢true, true≢false, eqb-true}
use Rattle.std.proofs.lemmas.List.{length-map}
use Rattle.std.proofs.lemmas.List.Elements.{Contains-get_or}
use Rattle.list_laws.proofs.FindLemmas.{find_Some}
use Rattle.list_laws.proofs.MapLemmas.{all_unmapped}
use Rattle.uicc_types.specs.declared.answers.StatusWord.{StatusWord}
use Rattle.uicc_types.specs.declared.identifiers.Shelf.{Shelf}
use Rattle.uicc_types.specs.declared.answers.Answer.{Answer}
use Rattle.apdu_form.specs.Model.{Apdu}
use Rattle.store_form.specs.declared.store.StoreFault.{StoreFault}
use Rattle.card_state.specs.Persistent.{Registration, Persistent}
use Rattle.card_state.specs.StateLaws.{RowsAreEntries}
use Rattle.card_state.specs.States.{rows_of}
use Rattle.file_model.specs.Chains.{and_given}
use Rattle.card_commits.specs.Laws.{IsTold}
use Rattle.applet_trait.specs.Minds.{AppletState}
use Rattle.toolkit_model.specs.Passing.{passed_rows}
use Rattle.toolkit_model.specs.Registry.{row_on}
use Rattle.toolkit_model.specs.Commands.{woken_boxes}
use Rattle.proactive_handler.specs.Boxes.{kinds_of}
use Rattle.card_model.specs.Runs.{IsLeft, boxes_left}
use Rattle.card_model.specs.States.{CardState, woken}
use Rattle.card_model.specs.Toolkit.{ToolkitOutcome, states_passed, with_rows, toolkit_outcome}
use Rattle.card_model.specs.declared.instructions.Instruction.TheVariants.{Toolkit}
use Rattle.card_model.specs.declared.instructions.CatCommand.{CatCommand}
use Rattle.card_model.specs.declared.instructions.CatCommand.TheVariants.{DeleteApplet}
use Rattle.card_model.specs.Answers.{settled, on_toolkit, toolkit_tried, seen_by}
use Rattle.cat_commands.specs.Carrying.{IsToolkitCutShort, state_at, Carries}
use Rattle.cat_commands.specs.Deleting.{HasNoRow, LeavesUnregistered}
use Rattle.card_laws.specs.Moving.{HaveFixed, command_by, rows_after, HasOrder, LeavesRows}
use Rattle.card_laws.specs.ToolkitLaws.{CommandsLeaveRows}
use Rattle.card_core.specs.Cards.{held_by, card_with, card_due, boxes_kept}
use Rattle.card_core.specs.Parts.{CardParts}
use Rattle.card_core.proofs.BoxesKeptLemmas.{at, kind_of, box_kept, kept_at, kept_there, kept_beside, kept_gone, length-kept, IsLeftSo, boxes_left_so}
use Rattle.card_core.proofs.RowOnLemmas.{same_shelves, Loses, lost, none_there, deleted_had}
use Rattle.card_core.proofs.HasToolkitLemmas.{scene_of, is_delete, LeavesBy, rows_left}

-- ---- the rows of a state on the way

abbrev rows_at : List Registration → List (List Registration) → ℕ → List Registration
rows_at before passed count = slice_index_or (before ∷ passed) count before

inner_rows : (base : Persistent) (next : ℕ) (passed : List (List Registration)) (count : ℕ) → (slice_index_or (map (with_rows base next) passed) count base).rows ≡ slice_index_or passed count base.rows
inner_rows base next [] count = refl
inner_rows base next (rows ∷ passed) zero = refl
inner_rows base next (rows ∷ passed) (suc count) = inner_rows base next passed count

state_rows : (outcome : ToolkitOutcome) (base : Persistent) (count : ℕ) → (state_at outcome count base).rows ≡ rows_at base.rows (passed_rows outcome.passed.log) count
state_rows outcome base zero = refl
state_rows outcome base (suc count) = inner_rows base outcome.next_sequence (passed_rows outcome.passed.log) count

-- ---- kinds

pub kind_at : (boxes : List (Option AppletState)) (k : ℕ) → kind_of (at boxes k) ≡ slice_index_or (kinds_of boxes) k None
kind_at [] k = refl
kind_at (box ∷ boxes) zero = refl
kind_at (box ∷ boxes) (suc k) = kind_at boxes k

pub no_row_there : (rows : List Registration) (gone k : ℕ) (row : Registration) → HasNoRow rows gone → row_on rows k ≡ Some row → k ≢ gone
no_row_there rows gone k row none is same =
    let found = find_Some (λ each. each.shelf == k) rows row is in
    let there = found.0 in
    none there.0 row there.1 (ap (λ (each : Registration). each.shelf) there.2 ∙ eqb-true row.shelf k found.1 ∙ same)

-- ---- the card

module _ (entries : RowsAreEntries) (command : CatCommand) (apdu : Apdu) (old new : CardParts) (card : CardState) (outcome : ToolkitOutcome) (told : IsTold old.table card.persistent) (boxes : card.boxes ≡ old.boxes)
    (fixed : All (HaveFixed (rows_after (command_by (Toolkit command) card apdu) card.persistent.rows)) (passed_rows outcome.passed.log))
    (had : command ≡ DeleteApplet → is_none (row_on card.persistent.rows apdu.p2) ≡ false)
    (kinds : kinds_of new.boxes ≡ kinds_of old.boxes) (others : LeavesUnregistered old.table new.table old.boxes new.boxes) (leaves : LeavesBy command apdu new.leaving) where
  abbrev before : List Registration
  before = card.persistent.rows

  abbrev passed : List (List Registration)
  passed = passed_rows outcome.passed.log

  abbrev changed : List Registration
  changed = rows_after (command_by (Toolkit command) card apdu) before

  -- later states have their rows on the same shelves
  shelves_later : (count : ℕ) → count < length passed → (d : List Registration) (k : ℕ) → is_none (row_on (slice_index_or passed count d) k) ≡ is_none (row_on changed k)
  shelves_later count low d k = same_shelves changed (slice_index_or passed count d) k (fixed count d low)

  -- no row comes and goes
  none_between : (count behind : ℕ) → (behind ≡ count) ⊎ (behind ≡ count + 1) → count < length passed → (k : ℕ) → is_none (row_on before k) ≡ true → is_none (row_on (rows_at before passed behind) k) ≡ true
      → is_none (row_on (slice_index_or (rows_of old.table ∷ passed) count []) k) ≡ true
  none_between zero behind near low k was is = ap (λ (rows : List Registration). is_none (row_on rows k)) (sym told.rows) ∙ was
  none_between (suc count) zero near low k was is = absurd (⊎_elim {C = ⊥} (λ same. omega (arith, same)) (λ one. omega (arith, one)) near)
  none_between (suc count) (suc behind) near low k was is =
      let there : behind < length passed = ⊎_elim {C = behind < length passed} (λ same. omega (arith, same, low)) (λ one. omega (arith, one, low)) near in
      shelves_later count (omega (arith, low)) [] k ∙ sym (shelves_later behind there before k) ∙ is

  -- a row that is gone is that of the deleted applet
  gone_is : (behind : ℕ) → behind < length (before ∷ passed) → (k : ℕ) → is_none (row_on before k) ≡ false → is_none (row_on (rows_at before passed behind) k) ≡ true → Loses command apdu k
  gone_is zero low k was is = absurd (true≢false (sym is ∙ was))
  gone_is (suc behind) low k was is = lost card command apdu k (sym (shelves_later behind (omega (arith, low)) before k) ∙ is) was

  module _ (count behind : ℕ) (near : (behind ≡ count) ⊎ (behind ≡ count + 1)) (one_more : count < length passed)
      (rows_are : rows_of new.table ≡ slice_index_or (rows_of old.table ∷ passed) count []) (held : held_by new ≡ Some (state_at outcome behind card.persistent)) where
    abbrev now : Persistent
    now = state_at outcome behind card.persistent

    now_rows : now.rows ≡ rows_at before passed behind
    now_rows = state_rows outcome card.persistent behind

    reached : behind < length (before ∷ passed)
    reached = ⊎_elim {C = behind < length (before ∷ passed)} (λ same. omega (arith, same, one_more)) (λ one. omega (arith, one, one_more)) near

    none_now : (k : ℕ) → row_on now.rows k ≡ None → is_none (row_on (rows_at before passed behind) k) ≡ true
    none_now k is = ap (λ (rows : List Registration). is_none (row_on rows k)) (sym now_rows) ∙ ap is_none is

    -- a registered applet has its kind
    kind_stays : (k : ℕ) (row : Registration) → row_on now.rows k ≡ Some row → kind_of (at new.boxes k) ≡ kind_of (at old.boxes k)
    kind_stays k row is = kind_at new.boxes k ∙ ap (λ (list : List (Option ℕ)). slice_index_or list k None) kinds ∙ sym (kind_at old.boxes k)

    -- one that never was there stays
    never_there : (k : ℕ) → row_on now.rows k ≡ None → row_on before k ≡ None → box_kept new.leaving now.rows k (at new.boxes k) ≡ at old.boxes k
    never_there k is was =
        let none_was : is_none (row_on before k) ≡ true = ap is_none was in
        let none_is : is_none (row_on (rows_of new.table) k) ≡ true =
        ap (λ (rows : List Registration). is_none (row_on rows k)) rows_are ∙ none_between count behind near one_more k none_was (none_now k is) in
        let none_first : is_none (row_on (rows_of old.table) k) ≡ true = ap (λ (rows : List Registration). is_none (row_on rows k)) (sym told.rows) ∙ none_was in
        let same : at new.boxes k ≡ at old.boxes k = others k (none_there entries old.table k none_first) (none_there entries new.table k none_is) in
        ⊎_elim {C = box_kept new.leaving now.rows k (at new.boxes k) ≡ at old.boxes k}
        (λ stays. ap (λ (leaving : Option Shelf). box_kept leaving now.rows k (at new.boxes k)) stays.0 ∙ same)
        (λ goes.
        ap (λ (leaving : Option Shelf). box_kept leaving now.rows k (at new.boxes k)) goes.1
        ∙ kept_beside (record { 0 = apdu.p2 }) now.rows k (at new.boxes k) (λ equal. true≢false (sym none_was ∙ ap (λ (shelf : ℕ). is_none (row_on before shelf)) (sym equal) ∙ had goes.0))
        ∙ same)
        leaves

    -- one that is registered no more is gone
    no_more : (k : ℕ) (row : Registration) → row_on now.rows k ≡ None → row_on before k ≡ Some row → box_kept new.leaving now.rows k (at new.boxes k) ≡ None
    no_more k row is was =
        let loses : Loses command apdu k = gone_is behind reached k (ap is_none was) (none_now k is) in
        let none_is : is_none (row_on now.rows apdu.p2) ≡ true = ap (λ (shelf : ℕ). is_none (row_on now.rows shelf)) (sym loses.1) ∙ ap is_none is in
        ⊎_elim {C = box_kept new.leaving now.rows k (at new.boxes k) ≡ None}
        (λ stays. absurd (false≢true (sym stays.1 ∙ ap is_delete loses.0)))
        (λ goes.
        ap (λ (leaving : Option Shelf). box_kept leaving now.rows k (at new.boxes k)) goes.1
        ∙ ap (λ (shelf : ℕ). box_kept (Some (record { 0 = apdu.p2 })) now.rows shelf (at new.boxes k)) loses.1
        ∙ kept_gone (record { 0 = apdu.p2 }) now.rows (at new.boxes k) none_is)
        leaves

    each_so : (k : ℕ) → IsLeftSo (row_on now.rows k) (row_on before k) (at (boxes_kept new.leaving now.rows new.boxes) k) (at card.boxes k)
    each_so k =
        subst (λ (list : List (Option AppletState)). IsLeftSo (row_on now.rows k) (row_on before k) (at (boxes_kept new.leaving now.rows new.boxes) k) (at list k)) (sym boxes)
        (subst (λ (box : Option AppletState). IsLeftSo (row_on now.rows k) (row_on before k) box (at old.boxes k)) (sym (kept_at new.leaving now.rows new.boxes k)) (by_rows (row_on now.rows k) (row_on before k) refl refl)) where
          by_rows : (after was : Option Registration) → row_on now.rows k ≡ after → row_on before k ≡ was → IsLeftSo after was (box_kept new.leaving now.rows k (at new.boxes k)) (at old.boxes k)
          by_rows (Some row) None is was_is = ap kind_of (kept_there new.leaving now.rows k (at new.boxes k) (ap is_none is)) ∙ kind_stays k row is
          by_rows (Some row) (Some other) is was_is = ap kind_of (kept_there new.leaving now.rows k (at new.boxes k) (ap is_none is)) ∙ kind_stays k row is
          by_rows None None is was_is = never_there k is was_is
          by_rows None (Some row) is was_is = no_more k row is was_is

    pub broken_there : length new.boxes ≡ length old.boxes → IsSomeAnd (card_due new) (IsLeft card (card.persistent ∷ states_passed card.persistent outcome))
    unfolding card_due woken
    broken_there long =
        let counted : length (states_passed card.persistent outcome) ≡ length passed = length-map passed (with_rows card.persistent outcome.next_sequence) in
        let low : behind < length (card.persistent ∷ states_passed card.persistent outcome) = omega (arith, reached, counted) in
        let woke : woken_boxes now.rows (boxes_kept new.leaving now.rows new.boxes) ≡ woken_boxes now.rows (boxes_left before now.rows card.boxes) =
        boxes_left_so before now.rows (boxes_kept new.leaving now.rows new.boxes) card.boxes (length-kept new.leaving now.rows new.boxes ∙ long ∙ sym (ap length boxes)) each_so in
        subst (λ (o : Option Persistent). IsSomeAnd (option_map (card_with true new) o) (IsLeft card (card.persistent ∷ states_passed card.persistent outcome))) (sym held) (record {
          persistent = now;
          passed = Contains-get_or (card.persistent ∷ states_passed card.persistent outcome) behind card.persistent low;
          woke = ap (λ (list : List (Option AppletState)). record (woken now (boxes_kept new.leaving now.rows new.boxes)) { boxes = list }) woke;
        })

-- ---- a command that a fault stopped

all_fixed : (card : CardState) (command : CatCommand) (apdu : Apdu) (outcome : ToolkitOutcome) → LeavesRows (command_by (Toolkit command) card apdu) card (on_toolkit card outcome)
    → All (HaveFixed (rows_after (command_by (Toolkit command) card apdu) card.persistent.rows)) (passed_rows outcome.passed.log)
all_fixed card command apdu outcome leaves =
    all_unmapped (λ (state : Persistent). HaveFixed (rows_after (command_by (Toolkit command) card apdu) card.persistent.rows) state.rows) (with_rows card.persistent outcome.next_sequence) (passed_rows outcome.passed.log) leaves.fixed

deletes_row : (command : CatCommand) (card : CardState) (apdu : Apdu) (outcome : ToolkitOutcome) → toolkit_outcome command card (seen_by card) apdu ≡ Ok outcome → command ≡ DeleteApplet → is_none (row_on card.persistent.rows apdu.p2) ≡ false
unfolding toolkit_outcome
deletes_row command card apdu outcome came deletes = deleted_had card (seen_by card) apdu outcome (sym (ap (λ (each : CatCommand). toolkit_outcome each card (seen_by card) apdu) deletes) ∙ came)

module _ (entries : RowsAreEntries) (command : CatCommand) (apdu : Apdu) (old new : CardParts) (kinds : kinds_of new.boxes ≡ kinds_of old.boxes) (others : LeavesUnregistered old.table new.table old.boxes new.boxes)
    (leaves : LeavesBy command apdu new.leaving) (long : length new.boxes ≡ length old.boxes) where
  pub short_left : (card : CardState) (outcome : ToolkitOutcome) → IsTold old.table card.persistent → card.boxes ≡ old.boxes → held_by old ≡ Some card.persistent
      → All (HaveFixed (rows_after (command_by (Toolkit command) card apdu) card.persistent.rows)) (passed_rows outcome.passed.log) → (command ≡ DeleteApplet → is_none (row_on card.persistent.rows apdu.p2) ≡ false)
      → IsToolkitCutShort outcome (scene_of old) (scene_of new) → IsSomeAnd (card_due new) (IsLeft card (card.persistent ∷ states_passed card.persistent outcome))
  short_left card outcome told boxes held fixed had short =
      ⊎_elim {C = IsSomeAnd (card_due new) (IsLeft card (card.persistent ∷ states_passed card.persistent outcome))}
      (λ before.
      broken_there entries command apdu old new card outcome told boxes fixed had kinds others leaves short.count short.count (inl refl) short.one_more short.rows_are
      (before ∙ ap (option_map (state_at outcome short.count)) held) long)
      (λ behind.
      broken_there entries command apdu old new card outcome told boxes fixed had kinds others leaves short.count (short.count + 1) (inr refl) short.one_more short.rows_are
      (behind ∙ ap (option_map (state_at outcome (short.count + 1))) held) long)
      short.stands

  pub toolkit_left : CommandsLeaveRows → (X : Type 0) (out : Answer) (fault : StoreFault) (state : Persistent) → IsTold old.table state → held_by old ≡ Some state → HasOrder (card_with false old state)
      → (tried : Result ToolkitOutcome StatusWord) → toolkit_outcome command (card_with false old state) (seen_by (card_with false old state)) apdu ≡ tried → Carries {X = X} tried out (scene_of old) (scene_of new) (Err fault)
      → IsSomeAnd (card_due new) (IsLeft (card_with false old state) (state ∷ (settled (card_with false old state) (toolkit_tried (card_with false old state) tried)).commits))
  unfolding and_given
  toolkit_left law X out fault state told held ready (Err status) came carried = absurd carried
  toolkit_left law X out fault state told held ready (Ok outcome) came short =
      let card : CardState = card_with false old state in
      short_left card outcome told refl held (all_fixed card command apdu outcome (rows_left law command card apdu outcome ready came)) (deletes_row command card apdu outcome came) short
