-- Each accepted command leaves a good toolkit (`steps_stay_good`, for the law `steps_leave_good`), and the row that INSTALL
-- answers is sound (`installed_sound`, for `installed_rows_are_sound`). All else is private.
use Rattle.std.proofs.Common.{◌≡◌, ℕ, zero, suc, ◌+◌, ◌≤◌, ◌<◌, Bool, true, false, cond, List, [], ◌∷◌, ◌++◌, length, map, Option, Some, None, Result, Ok, Err, get_or, arith, refl, sym, ◌∙◌, ap, subst, ⊎_elim, ◌==◌, not, ◌&&◌, ◌||◌, nat_le, nat_lt, filter, All, AllPairs, Contains, is_some, IfSome, IsSomeAnd, length-set}
use Rattle.std.specs.List.{list_any, list_all, enumerate_from}
use Rattle.std.proofs.lemmas.Bool.{eqb-false, eqb-true, leb-true, ltb-false, or_parts, cond_both, and_parts}
use Rattle.std.proofs.lemmas.List.Elements.{All-nil, All-cons, All-map, All-append, All-filter, All-weaker, All-contains_itself, filter_map-append}
use Rattle.std.proofs.lemmas.List.Kept.{AllPairs-filter}
use Rattle.list_laws.proofs.CondLemmas.{chosen, second_false}
use Rattle.list_laws.proofs.MapLemmas.{all_unmapped}
use Rattle.list_laws.proofs.AllPairsLemmas.{pairs_map, pairs_unmap}
use Rattle.list_laws.proofs.ContainsLemmas.{in_rest, of_filtered}
use Rattle.uicc_types.specs.declared.events.TheConstants.{CALL_CONTROL}
use Rattle.card_state.proofs.AreEventCodesLemmas.{codes_known}
use Rattle.card_state.specs.Kinds.{event_codes, known_codes, call_control_code}
use Rattle.card_state.specs.Persistent.{Registration}
use Rattle.card_state.specs.Places.{row_count, kept_limit}
use Rattle.card_state.specs.Sections.{Installation, is_installation, is_code, are_different, counted, installation_of, needs_wide, is_call_control, sorted_codes, new_row, with_row}
use Rattle.card_state.specs.Soundness.{AreEventCodes, IsSoundRow}
use Rattle.card_state.proofs.SortedCodesLemmas.{of_sorted}
use Rattle.card_state.specs.AppletKinds.{IsAppletKind}
use Rattle.toolkit_commands.specs.declared.commands.Proactive.{Proactive}
use Rattle.toolkit_commands.specs.declared.responses.Response.{Response as Reply}
use Rattle.timer_table.specs.Timers.{smallest_free}
use Rattle.applet_trait.specs.declared.stimuli.Stimulus.{Stimulus}
use Rattle.applet_trait.specs.declared.stimuli.Stimulus.TheVariants.{Event, Response}
use Rattle.applet_trait.specs.declared.stimuli.Act.{Act}
use Rattle.applet_trait.specs.declared.stimuli.Act.TheVariants.{Done, Send, Keep, Register, Deregister, TakeTimer, FreeTimer, Answer}
use Rattle.applet_trait.specs.Minds.{AppletState}
use Rattle.applet_trait.specs.Turns.{act}
use Rattle.toolkit_model.specs.declared.faults.RowFault.{RowFault}
use Rattle.toolkit_model.specs.declared.faults.RowFault.TheVariants.{BadData, NoBox, Narrow, Taken, MenuFull, Spent}
use Rattle.toolkit_model.specs.Sessions.{Outstanding, LateTrigger}
use Rattle.toolkit_model.specs.Passing.{ToolkitState, Happening, Committed, Passed, noting, rows_in, passed_rows}
use Rattle.toolkit_model.specs.Registry.{faulty_if, is_on, is_taken, is_menu_full, last_sequence, is_answered, is_registered, without_row, with_changed, with_code, without_code, with_kept, registers, deregisters}
use Rattle.toolkit_model.specs.Changes.{change_by}
use Rattle.toolkit_model.specs.Running.{Setting, Works, Carried, Ran, is_admitted, admitted, is_held_by, carried, changing, taking, committed, going_on, run_on, most_acts, setting_of, works_of, mind_on, run_of_mind, run_of_row}
use Rattle.toolkit_model.specs.Driving.{running, with_next_command}
use Rattle.toolkit_model.specs.Commands.{fetched, resumed, with_nothing_out, answered, registering, unregistering, woken_box, toolkit_woken, woken_boxes}
use Rattle.toolkit_model.specs.Steps.{AreRows, Install, IsAccepted, moved}
use Rattle.toolkit_model.specs.Kinds.{AreOfKinds, IsOfKinds}
use Rattle.toolkit_model.specs.OrderlySessions.{IsInOrder}
use Rattle.toolkit_model.specs.Sound.{AreSoundRows, IsSoundToolkit, IsGoodToolkit, BringsSound, StepsLeaveGood, InstalledRowsAreSound}
use Rattle.toolkit_model.proofs.TriggerOrderLemmas.{there_code}
use Rattle.toolkit_model.proofs.CarriedLemmas.{IsHarmless, changed_rows}
use Rattle.toolkit_model.proofs.CommandsLemmas.{is_either, rows_without}
use Rattle.toolkit_model.proofs.InstallationsAreAcceptedLemmas.{with_all, with_pairs, unless_passed, given_passed, then_passed, value_of, other_of, free_all, none_read, if_left, if_roomy, if_free, if_wide, if_there}
use Rattle.toolkit_model.proofs.KindsLemmas.{SameKind, run_stays, registering_stays, unregistering_stays, wakes_keep_kinds}
use Rattle.toolkit_model.proofs.DrivingLemmas.{HasLaws, IsStepping}
use Rattle.toolkit_model.proofs.MovedByLemmas.{command_moves}
use Rattle.toolkit_model.proofs.IsInOrderLemmas.{good_from, stay_in_order}

-- ---- tests

never_both : (a b : Bool) → a ≡ true → b ≡ true → (a && b) ≡ false → ⊥
never_both true true one two is = cc
never_both true false one two is = cc
never_both false b one two is = cc

never_first : (a b c : Bool) → a ≡ true → b ≡ true → (a && (b || c)) ≡ false → ⊥
never_first true true c one two is = cc
never_first true false c one two is = cc
never_first false b c one two is = cc

without_first : (a b c : Bool) → (a && (b || c)) ≡ false → (a && c) ≡ false
without_first true true c is = cc
without_first true false c is = is
without_first false b c is = refl

-- ---- codes

-- the table of the codes ascends
table_ascends : AllPairs (λ a b. a < b) known_codes
table_ascends = (codes_known 4095).ascending

abbrev code_of : ℕ × ℕ → ℕ
code_of event = event.0

sorted_known : (codes : List ℕ) → AreEventCodes (sorted_codes codes)
sorted_known codes =
    let is_there : ℕ × ℕ → Bool = λ event. list_any (λ code. code == event.0) codes in
    record {
      known = All-map (Contains known_codes) code_of (filter is_there event_codes) (All-filter is_there (λ event. Contains known_codes event.0) event_codes (all_unmapped (Contains known_codes) code_of event_codes (All-contains_itself known_codes)));
      ascending = pairs_map (λ a b. a < b) code_of (filter is_there event_codes) (AllPairs-filter (λ a b. a.0 < b.0) is_there event_codes (pairs_unmap (λ a b. a < b) code_of event_codes table_ascends));
    }

filtered_known : (stays : ℕ → Bool) (codes : List ℕ) → AreEventCodes codes → AreEventCodes (filter stays codes)
filtered_known stays codes are = record {
  known = All-filter stays (Contains known_codes) codes are.known;
  ascending = AllPairs-filter (λ a b. a < b) stays codes are.ascending;
}

-- ---- rows

abbrev Answers : Registration → Type 0
Answers row = Contains row.codes call_control_code

abbrev AreApart : Registration → Registration → Type 0
AreApart a b = Answers a → Answers b → ⊥

-- sound rows, with what the toolkit asks of them by itself
record AreSoundByParts (wide : Bool) (next : ℕ) (rows : List Registration) : Type 0 where
  are : AreRows rows
  each : All (IsSoundRow wide next) rows
  apart : AllPairs AreApart rows

sound_of : (wide : Bool) (next : ℕ) (rows : List Registration) → AreSoundByParts wide next rows → AreSoundRows wide next rows
sound_of wide next rows hold = record {
  each = hold.each;
  different = λ i j d less low. record { shelf = hold.are.shelves i j d less low; sequence = hold.are.sequences i j d less low; call_control = hold.apart i j d less low };
  texts = hold.are.few_texts;
}

rows_of : (wide : Bool) (next : ℕ) (rows : List Registration) → AreSoundRows wide next rows → AreRows rows
rows_of wide next rows sound = record {
  shelves = λ i j d less low. (sound.different i j d less low).shelf;
  sequences = λ i j d less low. (sound.different i j d less low).sequence;
  texts = λ k d low. (sound.each k d low).text;
  few_texts = sound.texts;
}

hold_of : (wide : Bool) (next : ℕ) (rows : List Registration) → AreSoundRows wide next rows → AreSoundByParts wide next rows
hold_of wide next rows sound = record { are = rows_of wide next rows sound; each = sound.each; apart = λ i j d less low. (sound.different i j d less low).call_control }

-- the next number may rise
rising_row : (wide : Bool) (next later : ℕ) → next ≤ later → (row : Registration) → IsSoundRow wide next row → IsSoundRow wide later row
rising_row wide next later less row sound = record {
  shelf = sound.shelf;
  kind = sound.kind;
  priority = sound.priority;
  sequence = omega (arith, sound.sequence, less);
  codes = sound.codes;
  text = sound.text;
  kept = sound.kept;
}

-- ---- a row is changed

record IsSound (wide : Bool) (next : ℕ) (change : Registration → Registration) : Type 0 where
  harmless : IsHarmless change
  sound : (row : Registration) → IsSoundRow wide next row → IsSoundRow wide next (change row)

changed_hold : (wide : Bool) (next : ℕ) (change : Registration → Registration) (shelf : ℕ) (rows : List Registration) → IsSound wide next change
    → AllPairs (λ a b. AreApart (cond (is_on shelf a) (change a) a) (cond (is_on shelf b) (change b) b)) rows → AreSoundByParts wide next rows → AreSoundByParts wide next (with_changed rows shelf change)
changed_hold wide next change shelf rows is apart hold =
    let one : Registration → Registration = λ row. cond (is_on shelf row) (change row) row in
    record {
      are = changed_rows change shelf rows is.harmless hold.are;
      each = All-map (IsSoundRow wide next) one rows (λ k d low.
          let row : Registration = get_or rows k d in
          cond_both (is_on shelf row) (change row) row (IsSoundRow wide next) (λ h. is.sound row (hold.each k d low)) (λ h. hold.each k d low));
      apart = pairs_map AreApart one rows apart;
    }

-- where no row is to answer call control that didn't
still_answers : (change : Registration → Registration) (shelf : ℕ) → ((row : Registration) → Answers (change row) → Answers row) → (row : Registration) → Answers (cond (is_on shelf row) (change row) row) → Answers row
still_answers change shelf fewer row = cond_both (is_on shelf row) (change row) row (λ (each : Registration). Answers each → Answers row) (λ h. fewer row) (λ h answers. answers)

apart_still : (change : Registration → Registration) (shelf : ℕ) (rows : List Registration) → ((row : Registration) → Answers (change row) → Answers row) → AllPairs AreApart rows
    → AllPairs (λ a b. AreApart (cond (is_on shelf a) (change a) a) (cond (is_on shelf b) (change b) b)) rows
apart_still change shelf rows fewer apart = λ i j d less low one other.
    apart i j d less low (still_answers change shelf fewer (get_or rows i d) one) (still_answers change shelf fewer (get_or rows j d) other)

-- where no row of another shelf answers it
abbrev NoOther : ℕ → Registration → Type 0
NoOther shelf row = is_on shelf row ≡ false → Answers row → ⊥

on_shelf : (shelf : ℕ) (row : Registration) (change : Registration → Registration) → NoOther shelf row → Answers (cond (is_on shelf row) (change row) row) → is_on shelf row ≡ true
on_shelf shelf row change none =
    cond_both (is_on shelf row) (change row) row (λ (each : Registration). Answers each → is_on shelf row ≡ true) (λ h answers. h) (λ h answers. absurd (none h answers))

two_on : (a b c : ℕ) → (a == c) ≡ true → (b == c) ≡ true → a < b → ⊥
two_on a b c first second less = omega (arith, less, eqb-true a c first, eqb-true b c second)

apart_alone : (change : Registration → Registration) (shelf : ℕ) (rows : List Registration) → AllPairs (λ a b. a.shelf < b.shelf) rows → All (NoOther shelf) rows
    → AllPairs (λ a b. AreApart (cond (is_on shelf a) (change a) a) (cond (is_on shelf b) (change b) b)) rows
apart_alone change shelf rows shelves none = λ i j d less low one other.
    two_on (get_or rows i d).shelf (get_or rows j d).shelf shelf
    (on_shelf shelf (get_or rows i d) change (none i d (omega (arith, less, low))) one)
    (on_shelf shelf (get_or rows j d) change (none j d low) other) (shelves i j d less low)

no_other : (shelf : ℕ) (rows : List Registration) → is_answered rows shelf ≡ false → All (NoOther shelf) rows
no_other shelf [] none = All-nil (NoOther shelf)
no_other shelf (row ∷ others) none =
    let two = or_parts (not (is_on shelf row) && is_call_control row) (is_answered others shelf) none in
    All-cons (NoOther shelf) row others
    (λ other answers. never_both (not (is_on shelf row)) (is_call_control row) (ap not other) (there_code call_control_code row.codes answers) two.0)
    (no_other shelf others two.1)

-- ---- what an act makes of the rows

module _ (wide : Bool) (next : ℕ) where
  abbrev Sound : List Registration → Type 0
  Sound rows = AreSoundByParts wide next rows

  code_sound : (code : ℕ) → IsSound wide next (λ row. record row { codes = sorted_codes (code ∷ row.codes) })
  code_sound code = record {
    harmless = record { shelf = λ row. refl; sequence = λ row. refl; text = λ row. refl };
    sound = λ row sound. record { shelf = sound.shelf; kind = sound.kind; priority = sound.priority; sequence = sound.sequence; codes = sorted_known (code ∷ row.codes); text = sound.text; kept = sound.kept };
  }

  -- another code than that of call control, or that one where no other row has it
  with_code_sound : (rows : List Registration) (shelf code : ℕ) → (code == CALL_CONTROL && is_answered rows shelf) ≡ false → Sound rows → Sound (with_code rows shelf code)
  with_code_sound rows shelf code free hold =
      let change : Registration → Registration = λ row. record row { codes = sorted_codes (code ∷ row.codes) } in
      changed_hold wide next change shelf rows (code_sound code)
      (⊎_elim {C = AllPairs (λ a b. AreApart (cond (is_on shelf a) (change a) a) (cond (is_on shelf b) (change b) b)) rows}
      (λ calls. apart_alone change shelf rows hold.are.shelves (no_other shelf rows (second_false (code == CALL_CONTROL) (is_answered rows shelf) free calls)))
      (λ other. apart_still change shelf rows (λ row answers. in_rest code row.codes call_control_code (eqb-false code CALL_CONTROL other) (of_sorted (code ∷ row.codes) call_control_code answers)) hold.apart)
      (is_either (code == CALL_CONTROL)))
      hold

  without_code_sound : (rows : List Registration) (shelf code : ℕ) → Sound rows → Sound (without_code rows shelf code)
  without_code_sound rows shelf code hold =
      let stays : ℕ → Bool = λ other. not (other == code) in
      let change : Registration → Registration = λ row. record row { codes = filter stays row.codes } in
      changed_hold wide next change shelf rows
      (record {
        harmless = record { shelf = λ row. refl; sequence = λ row. refl; text = λ row. refl };
        sound = λ row sound. record { shelf = sound.shelf; kind = sound.kind; priority = sound.priority; sequence = sound.sequence; codes = filtered_known stays row.codes sound.codes; text = sound.text; kept = sound.kept };
      })
      (apart_still change shelf rows (λ row answers. of_filtered stays row.codes call_control_code answers) hold.apart)
      hold

  fits_any : (is_wide : Bool) (count : ℕ) → count ≤ 32 → count ≤ kept_limit is_wide
  fits_any true count less = omega (arith, less)
  fits_any false count less = less

  with_kept_sound : (rows : List Registration) (shelf : ℕ) (bytes : List ℕ) → length bytes ≤ 32 → Sound rows → Sound (with_kept rows shelf bytes)
  with_kept_sound rows shelf bytes few hold =
      let change : Registration → Registration = λ row. record row { kept = bytes } in
      changed_hold wide next change shelf rows
      (record {
        harmless = record { shelf = λ row. refl; sequence = λ row. refl; text = λ row. refl };
        sound = λ row sound. record { shelf = sound.shelf; kind = sound.kind; priority = sound.priority; sequence = sound.sequence; codes = sound.codes; text = sound.text; kept = fits_any wide (length bytes) few };
      })
      (apart_still change shelf rows (λ row answers. answers) hold.apart)
      hold

  changing_sound : (works : Works) (rows : List Registration) (result : Result Bool RowFault) → (result ≡ Ok true → Sound rows) → Sound works.rows → Sound (changing works rows result).works.rows
  changing_sound works rows (Ok true) new hold = new refl
  changing_sound works rows (Ok false) new hold = hold
  changing_sound works rows (Err fault) new hold = hold

  taking_sound : (shelf : ℕ) (works : Works) (found : Option ℕ) → Sound works.rows → Sound (taking shelf works found).works.rows
  taking_sound shelf works (Some timer) hold = hold
  taking_sound shelf works None hold = hold

  registered_free : (rows : List Registration) (shelf code : ℕ) → registers rows shelf code ≡ Ok true → (code == CALL_CONTROL && is_answered rows shelf) ≡ false
  registered_free rows shelf code is =
      let known = unless_passed (not (is_code code)) BadData (faulty_if (code == CALL_CONTROL && is_answered rows shelf) Taken (Ok (not (is_registered rows shelf code)))) true is in
      (unless_passed (code == CALL_CONTROL && is_answered rows shelf) Taken (Ok (not (is_registered rows shelf code))) true known.1).0

  carried_sound : (at : Setting) (does : Act) (works : Works) → Sound works.rows → Sound (carried at does works).works.rows
  carried_sound at Done works hold = hold
  carried_sound at (Send command) works hold = cond_both (is_admitted at works.timers command) _ _ (λ (done : Carried). Sound done.works.rows) (λ h. hold) (λ h. hold)
  carried_sound at (Keep bytes) works hold =
      cond_both (nat_le (length bytes) 32) _ _ (λ (done : Carried). Sound done.works.rows) (λ h. with_kept_sound works.rows at.shelf bytes (leb-true (length bytes) 32 h) hold) (λ h. hold)
  carried_sound at (Register code) works hold =
      changing_sound works (with_code works.rows at.shelf code) (registers works.rows at.shelf code) (λ is. with_code_sound works.rows at.shelf code (registered_free works.rows at.shelf code is) hold) hold
  carried_sound at (Deregister code) works hold =
      changing_sound works (without_code works.rows at.shelf code) (deregisters works.rows at.shelf code) (λ is. without_code_sound works.rows at.shelf code hold) hold
  carried_sound at TakeTimer works hold = taking_sound at.shelf works (smallest_free works.timers) hold
  carried_sound at (FreeTimer timer) works hold = cond_both (is_held_by works.timers at.shelf timer) _ _ (λ (done : Carried). Sound done.works.rows) (λ h. hold) (λ h. hold)
  carried_sound at (Answer allows) works hold = hold

  -- ---- a run

  record RanSound (ran : Ran) : Type 0 where
    rows : Sound ran.works.rows
    commits : All Sound (passed_rows ran.log)

  noted_sound : (at : Setting) (does : Act) (done : Carried) (more : List Happening) → Sound done.works.rows → All Sound (passed_rows more) → All Sound (passed_rows (committed at does done ++ more))
  noted_sound at does done more hold all =
      cond_both done.is_committed (Committed (change_by at.shelf does done.works.rows) done.works.rows ∷ []) [] (λ (log : List Happening). All Sound (passed_rows (log ++ more))) (λ h. All-cons Sound done.works.rows (passed_rows more) hold all) (λ h. all)

  going_sound : (works : Works) (sent : Option Proactive) (go : Stimulus → Works → Ran) (tells : Option Stimulus) → Sound works.rows → ((stimulus : Stimulus) → RanSound (go stimulus works)) → RanSound (going_on works sent go tells)
  going_sound works sent go None hold more = record { rows = hold; commits = All-nil Sound }
  going_sound works sent go (Some stimulus) hold more = more stimulus

  run_sound : (fuel : ℕ) (at : Setting) (stimulus : Stimulus) (works : Works) → Sound works.rows → RanSound (run_on fuel at stimulus works)
  unfolding run_on
  run_sound zero at stimulus works hold = record { rows = hold; commits = All-nil Sound }
  run_sound (suc fuel) at stimulus works hold =
      let made = act works.mind stimulus in
      let turned : Works = record works { mind = made.next } in
      let done = carried at made.does turned in
      let now : Sound done.works.rows = carried_sound at made.does turned hold in
      let rest = going_sound done.works (admitted at works.timers made.does) (run_on fuel at) done.tells now (λ told. run_sound fuel at told done.works now) in
      record { rows = rest.rows; commits = noted_sound at made.does done (going_on done.works (admitted at works.timers made.does) (run_on fuel at) done.tells).log now rest.commits }

  -- ---- steps

  -- what each step keeps: sound rows, 32 shelves, and applets of the kinds of their rows
  record Stands (state : ToolkitState) : Type 0 where
    rows : Sound state.rows
    shelves : length state.minds ≡ 32
    kinds : IsOfKinds state

  record StandsAfter (passed : Passed) : Type 0 where
    state : Stands passed.state
    commits : All Sound (passed_rows passed.log)

  abbrev StaysSound : ToolkitState → Passed → Type 0
  StaysSound state passed = Stands state → StandsAfter passed

  -- nothing of it is changed
  quiet : (state : ToolkitState) → Stands state → StandsAfter (record { state = state; log = [] })
  quiet state stands = record { state = stands; commits = All-nil Sound }

  run_after : SameKind → (shelf : ℕ) (stimulus : Stimulus) (is_resumed : Bool) (state : ToolkitState) (mind : Option AppletState) → IsOfKinds (run_of_mind shelf stimulus is_resumed state mind).state
      → Stands state → StandsAfter (run_of_mind shelf stimulus is_resumed state mind)
  run_after same shelf stimulus is_resumed state None kinds stands = quiet state stands
  run_after same shelf stimulus is_resumed state (Some mind) kinds stands =
      let ran = run_sound most_acts (setting_of shelf stimulus state) stimulus (works_of mind state) stands.rows in
      record {
        state = record { rows = ran.rows; shelves = length-set _ _ _ ∙ stands.shelves; kinds = kinds };
        commits = ran.commits;
      }

  run_stands : SameKind → (shelf : ℕ) (stimulus : Stimulus) (is_resumed : Bool) (state : ToolkitState) → Stands state → StandsAfter (run_of_row shelf stimulus is_resumed state)
  unfolding run_of_row
  run_stands same shelf stimulus is_resumed state stands =
      run_after same shelf stimulus is_resumed state (mind_on state.minds shelf) (run_stays same shelf stimulus is_resumed state stands.kinds) stands

  running_stands : SameKind → (trigger : LateTrigger) (state : ToolkitState) → Stands state → StandsAfter (running trigger state)
  running_stands same trigger state stands = run_stands same trigger.shelf (Event trigger.code trigger.body) false state stands

  settled_stands : (state : ToolkitState) → Stands state → Stands (with_next_command state)
  unfolding with_next_command
  settled_stands state stands = record { rows = stands.rows; shelves = stands.shelves; kinds = stands.kinds }

  fetched_stands : (out : Outstanding) (state : ToolkitState) → Stands state → StandsAfter (fetched out state)
  unfolding fetched
  fetched_stands out state stands = record { state = record { rows = stands.rows; shelves = stands.shelves; kinds = stands.kinds }; commits = All-nil Sound }

  resumed_stands : SameKind → (owner : Option ℕ) (reply : Reply) (state : ToolkitState) → Stands state → StandsAfter (resumed owner reply state)
  resumed_stands same None reply state stands = quiet state stands
  resumed_stands same (Some shelf) reply state stands = run_stands same shelf (Response reply.result reply.item reply.text) true state stands

  answered_stands : SameKind → (out : Outstanding) (reply : Reply) (state : ToolkitState) → Stands state → StandsAfter (answered out reply state)
  unfolding answered
  answered_stands same out reply state stands =
      let after = resumed_stands same out.owner reply (with_nothing_out state) (record { rows = stands.rows; shelves = stands.shelves; kinds = stands.kinds }) in
      record { state = after.state; commits = after.commits }

  -- no row answers call control, or the new one doesn't
  neither_answers : (rows : List Registration) (row : Registration) → (is_call_control row && list_any is_call_control rows) ≡ false → All (λ other. AreApart other row) rows
  neither_answers [] row none = All-nil (λ other. AreApart other row)
  neither_answers (first ∷ others) row none =
      All-cons (λ other. AreApart other row) first others
      (λ other here.
      never_first (is_call_control row) (is_call_control first) (list_any is_call_control others) (there_code call_control_code row.codes here) (there_code call_control_code first.codes other) none)
      (neither_answers others row (without_first (is_call_control row) (is_call_control first) (list_any is_call_control others) none))

  installed_hold : (rows : List Registration) (row : Registration) → AreRows (with_row rows row) → is_taken rows row ≡ false → IsSoundRow wide next row → Sound rows → Sound (with_row rows row)
  installed_hold rows row are taken sound hold =
      let two = or_parts (list_any (is_on row.shelf) rows) (is_call_control row && list_any is_call_control rows) taken in
      let alone = neither_answers rows row two.1 in
      record {
        are = are;
        each = with_all row (IsSoundRow wide next) rows sound hold.each;
        apart = with_pairs row AreApart rows hold.are.shelves (free_all row.shelf rows two.0)
            (All-weaker (λ other. AreApart other row) (λ other. other.shelf < row.shelf → AreApart other row) (λ other apart below. apart) rows alone)
            (All-weaker (λ other. AreApart other row) (λ other. row.shelf < other.shelf → AreApart row other) (λ other apart above one two. apart two one) rows alone) hold.apart;
      }

  registering_stands : (row : Registration) (state : ToolkitState) → IsAccepted (Install row) state → IsSoundRow wide next row → Stands state → StandsAfter (registering row state)
  registering_stands row state accepted sound stands =
      let rows = installed_hold state.rows row accepted.0 accepted.2 sound stands.rows in
      record {
        state = record { rows = rows; shelves = length-set _ _ _ ∙ stands.shelves; kinds = registering_stays row state stands.kinds };
        commits = All-cons Sound (with_row state.rows row) [] rows (All-nil Sound);
      }

  unregistering_stands : (shelf : ℕ) (state : ToolkitState) → Stands state → StandsAfter (unregistering shelf state)
  unregistering_stands shelf state stands =
      let stays : Registration → Bool = λ row. not (is_on shelf row) in
      let rows : Sound (without_row state.rows shelf) = record {
        are = rows_without state.rows shelf stands.rows.are;
        each = All-filter stays (IsSoundRow wide next) state.rows stands.rows.each;
        apart = AllPairs-filter AreApart stays state.rows stands.rows.apart;
      } in
      record {
        state = record { rows = rows; shelves = length-set _ _ _ ∙ stands.shelves; kinds = unregistering_stays shelf state stands.kinds };
        commits = All-cons Sound (without_row state.rows shelf) [] rows (All-nil Sound);
      }

  woken_count : (rows : List Registration) (from : ℕ) (minds : List (Option AppletState)) → length (map (woken_box rows) (enumerate_from from minds)) ≡ length minds
  woken_count rows from [] = refl
  woken_count rows from (mind ∷ others) = omega (arith, woken_count rows (from + 1) others)

  kind_if : (found : Option AppletState) (kind : ℕ) → IsSomeAnd found (λ mind. mind.kind ≡ kind) → IfSome found (λ mind. mind.kind ≡ kind)
  kind_if (Some mind) kind is = is
  kind_if None kind is = tt

  mind_if : (found : Option AppletState) (kind : ℕ) → IsSomeAnd found (λ mind. mind.kind ≡ kind) → is_some found ≡ true
  mind_if (Some mind) kind is = refl
  mind_if None kind is = absurd is

  both_if : (found : Option AppletState) (kind : ℕ) → is_some found ≡ true → IfSome found (λ mind. mind.kind ≡ kind) → IsSomeAnd found (λ mind. mind.kind ≡ kind)
  both_if (Some mind) kind there is = is
  both_if None kind there is = cc

  stands_of : (rows : List Registration) (minds : List (Option AppletState)) → IsSoundToolkit wide next rows minds → AreOfKinds rows minds
  stands_of rows minds sound = λ k d low. kind_if (mind_on minds (get_or rows k d).shelf) (get_or rows k d).kind (sound.applets k d low)

  woken_stands : (rows : List Registration) (minds : List (Option AppletState)) → IsSoundToolkit wide next rows minds → Stands (toolkit_woken rows minds)
  unfolding toolkit_woken woken_boxes
  woken_stands rows minds sound = record {
    rows = hold_of wide next rows sound.rows_are;
    shelves = woken_count rows 0 minds ∙ sound.shelves;
    kinds = wakes_keep_kinds rows minds (stands_of rows minds sound);
  }

  joined_stands : (state : ToolkitState) (first second : Passed) → StaysSound state first → StaysSound first.state second → StaysSound state (noting first.log second)
  joined_stands state first second one other stands =
      let before = one stands in
      let after = other before.state in
      record {
        state = record { rows = after.state.rows; shelves = after.state.shelves; kinds = after.state.kinds };
        commits = subst (All Sound) (sym (filter_map-append rows_in first.log second.log)) (All-append Sound (passed_rows first.log) (passed_rows second.log) before.commits after.commits);
      }

  same_stands : (state after : ToolkitState) → after.rows ≡ state.rows → after.minds ≡ state.minds → Stands state → Stands after
  same_stands state after rows minds stands = record {
    rows = subst Sound (sym rows) stands.rows;
    shelves = ap length minds ∙ stands.shelves;
    kinds = subst (λ (each : List Registration). AreOfKinds each after.minds) (sym rows) (subst (AreOfKinds state.rows) (sym minds) stands.kinds);
  }

  staying : SameKind → IsStepping (BringsSound wide next) StaysSound
  staying same = record {
    still = λ state stands. quiet state stands;
    joined = joined_stands;
    ran = λ state trigger ready idle there own stands. running_stands same trigger state stands;
    given_run = λ state trigger ready suspends idle there stands.
        let after = running_stands same trigger state stands in
        record { state = after.state; commits = after.commits };
    given_late = λ state trigger ready busy stands. record { state = same_stands state _ refl refl stands; commits = All-nil Sound };
    caught = λ state found ready first stands. running_stands same found.0 _ (same_stands state _ refl refl stands);
    settles = λ state ready stands. quiet (with_next_command state) (settled_stands state stands);
    profiles = λ state bytes stands. quiet _ (same_stands state _ refl refl stands);
    reports = λ state code stands. quiet _ (same_stands state _ refl refl stands);
    fetches = λ state out ready is stands. fetched_stands out state stands;
    answers = λ state out reply ready is stands. answered_stands same out reply state stands;
    registers = λ state row accepted sound stands. registering_stands row state accepted sound stands;
    unregisters = λ state shelf ready idle stands. unregistering_stands shelf state stands;
    wakes = λ state rows minds sound stands. record { state = woken_stands rows minds sound; commits = All-nil Sound };
  }

-- ---- a command

order_of : (wide : Bool) (next : ℕ) (state : ToolkitState) → IsGoodToolkit wide next state → IsInOrder state
order_of wide next state good = record {
  rows = rows_of wide next state.rows good.sound.rows_are;
  session = good.session;
  minds = λ k d low. mind_if wide next (mind_on state.minds (get_or state.rows k d).shelf) (get_or state.rows k d).kind (good.sound.applets k d low);
}

start_of : (wide : Bool) (next later : ℕ) (state : ToolkitState) → next ≤ later → IsGoodToolkit wide next state → Stands wide later state
start_of wide next later state less good =
    let hold = hold_of wide next state.rows good.sound.rows_are in
    record {
      rows = record { are = hold.are; each = All-weaker (IsSoundRow wide next) (IsSoundRow wide later) (rising_row wide next later less) state.rows hold.each; apart = hold.apart };
      shelves = good.sound.shelves;
      kinds = stands_of wide next state.rows state.minds good.sound;
    }

pub steps_stay_good : HasLaws → SameKind → StepsLeaveGood
steps_stay_good laws same wide next later command state good less accepted brings =
    let order = order_of wide next state good in
    let after = (moved command state).state in
    let now : IsInOrder after = stay_in_order laws (command ∷ []) state order (accepted, tt) in
    let left = (command_moves laws (staying wide later same) command state accepted brings (good_from state order)).moved (start_of wide next later state less good) in
    record {
      state = record {
        sound = record {
          rows_are = sound_of wide later after.rows left.state.rows;
          shelves = left.state.shelves;
          applets = λ k d low. both_if wide later (mind_on after.minds (get_or after.rows k d).shelf) (get_or after.rows k d).kind (now.minds k d low) (left.state.kinds k d low);
        };
        session = now.session;
      };
      commits = All-weaker (AreSoundByParts wide later) (AreSoundRows wide later) (sound_of wide later) (passed_rows (moved command state).log) left.commits;
    }

-- ---- INSTALL

-- what was read is an installation
read_parts : (content : List ℕ) (found : Installation) → installation_of content ≡ Some found → (length found.text ≤ 10) × (length found.kept ≤ 64)
read_parts content found is =
    let codes = then_passed (counted content) _ found is in
    let text = then_passed (counted codes.0.1) _ found codes.1 in
    let read : Installation = record { codes = codes.0.0; text = text.0.0; kept = text.0.1 } in
    ⊎_elim {C = (length found.text ≤ 10) × (length found.kept ≤ 64)}
    (λ passed.
    let first = and_parts (list_all is_code read.codes && are_different read.codes && nat_le (length read.text) 10) (nat_le (length read.kept) 64) passed.0 in
    let second = and_parts (list_all is_code read.codes && are_different read.codes) (nat_le (length read.text) 10) first.0 in
    subst (λ (each : Installation). (length each.text ≤ 10) × (length each.kept ≤ 64)) (ap (other_of read) passed.1) (leb-true (length read.text) 10 second.1, leb-true (length read.kept) 64 first.1))
    (λ failed. none_read found ((length found.text ≤ 10) × (length found.kept ≤ 64)) failed.1)
    (chosen (is_installation read) (Some read) None (Some found) text.1)

abbrev IsKind : ℕ → Type 0
IsKind kind = IsAppletKind kind

-- a row that a card has room for
shelf_fits : (wide : Bool) (row : Registration) → (needs_wide row && not wide) ≡ false → row.shelf < 32 → length row.kept ≤ 64 → (row.shelf < row_count wide) × (length row.kept ≤ kept_limit wide)
shelf_fits true row fits low few = (low, few)
shelf_fits false row fits low few = narrow (nat_lt 15 row.shelf) (nat_lt 32 (length row.kept)) refl refl fits where
  narrow : (a b : Bool) → nat_lt 15 row.shelf ≡ a → nat_lt 32 (length row.kept) ≡ b → ((a || b) && true) ≡ false → (row.shelf < 16) × (length row.kept ≤ 32)
  narrow true b first second is = cc
  narrow false true first second is = cc
  narrow false false first second is = (omega (arith, ltb-false 15 row.shelf first), omega (arith, ltb-false 32 (length row.kept) second))

pub installed_sound : InstalledRowsAreSound
installed_sound card kind shelf priority content row low some_priority kinds is =
    let found = given_passed (installation_of content) BadData (if_there card kind shelf priority) row is in
    let known = given_passed kind NoBox (λ known. if_wide card (new_row card shelf priority known found.0)) row found.2 in
    let new : Registration = new_row card shelf priority known.0 found.0 in
    let width = unless_passed (needs_wide new && not card.is_wide) Narrow (if_free card new) row known.2 in
    let free = unless_passed (is_taken card.rows new) Taken (if_roomy card new) row width.1 in
    let room = unless_passed (is_menu_full card.rows new) MenuFull (if_left card new) row free.1 in
    let left = unless_passed (card.next_sequence == last_sequence) Spent (Ok new) row room.1 in
    let parts = read_parts content found.0 found.1 in
    let fits = shelf_fits card.is_wide new width.0 low parts.1 in
    let is_kind : IsKind known.0 = subst (λ (each : Option ℕ). IfSome each IsKind) known.1 kinds in
    subst (IsSoundRow card.is_wide (card.next_sequence + 1)) (ap (value_of new) left.1)
    (record {
      shelf = fits.0;
      kind = is_kind;
      priority = some_priority;
      sequence = omega arith;
      codes = sorted_known found.0.codes;
      text = parts.0;
      kept = fits.1;
    })
