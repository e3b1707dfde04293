-- What each command of the toolkit comes to: it is accepted, and moves the toolkit of the card.
use Rattle.std.proofs.Common.{◌≡◌, ℕ, ◌+◌, ◌<◌, Bool, true, false, List, [], ◌∷◌, map, Option, Some, None, Result, Ok, Err, refl, sym, ◌∙◌, ap, subst, arith, ◌≤◌, All, Contains, IfOk, IsSomeAnd, MatchResult, ◌==◌, not, ◌&&◌, option_map, option_and_then, IfSome, nat_le}
use Rattle.std.proofs.lemmas.Bool.{eqb-true, leb-true, and_parts, not-false}
use Rattle.std.proofs.lemmas.List.Elements.{All-nil, All-cons, All-head, All-tail, All-filter}
use Rattle.list_laws.proofs.FindLemmas.{find_Some}
use Rattle.list_laws.proofs.MapLemmas.{mapped_too}
use Rattle.uicc_types.specs.declared.answers.StatusWord.{StatusWord}
use Rattle.apdu_form.specs.Model.{Apdu}
use Rattle.card_state.specs.Changes.{Change, changed, states_after}
use Rattle.card_state.specs.Persistent.{Registration, Persistent}
use Rattle.card_state.specs.Sections.{Installation, installation_of, needs_wide, new_row, with_row}
use Rattle.card_state.specs.AppletKinds.{IsAppletKind}
use Rattle.access_rules.specs.declared.rules.Verified.{Verified}
use Rattle.file_model.specs.Chains.{and_given}
use Rattle.file_model.specs.Outcomes.{last_of}
use Rattle.file_model.proofs.ChainsLemmas.{unless_so, given_so}
use Rattle.toolkit_commands.specs.Envelopes.{envelope_of}
use Rattle.applet_trait.specs.Minds.{AppletState}
use Rattle.toolkit_model.specs.declared.faults.RowFault.{RowFault}
use Rattle.toolkit_model.specs.declared.faults.RowFault.TheVariants.{BadData, NoBox, Narrow, Taken, MenuFull, Spent, NoRow, NotIdle}
use Rattle.toolkit_model.specs.Orderly.{IsRegistered, asks}
use Rattle.toolkit_model.specs.Passing.{ToolkitState, Happening, Passed, passed_rows, changes_in}
use Rattle.toolkit_model.specs.Registry.{faulty_if, unless_missing, is_on, row_on, is_taken, is_menu_full, last_sequence, installed_row, deleted_row, without_row}
use Rattle.toolkit_model.specs.Running.{mind_on}
use Rattle.toolkit_model.specs.Driving.{is_idle}
use Rattle.toolkit_model.specs.Commands.{unfetched, unanswered, reply_to, is_busy, command_bytes, call_data, fetched, responded, enveloped, installed, delete_carried}
use Rattle.toolkit_model.specs.Steps.{AreRows, HasMind, HaveMinds, ToolkitInput, Profile, Report, Fetch, Respond, Install, Delete, IsAccepted, moved}
use Rattle.toolkit_model.specs.Installing.{InstallationsAreAccepted}
use Rattle.toolkit_model.specs.Sound.{HasApplet, InstalledRowsAreSound}
use Rattle.toolkit_model.proofs.InstallationsAreAcceptedLemmas.{with_all}
use Rattle.toolkit_model.proofs.CommandsLemmas.{rows_without}
use Rattle.card_model.specs.Chained.{Any}
use Rattle.card_model.proofs.ChainedLemmas.{past}
use Rattle.card_model.specs.States.{CardState, IsOfKnownKind, AreOfKnownKinds}
use Rattle.card_model.specs.Toolkit.{has_shelf, ToolkitOutcome, toolkit_of, coming_to, with_rows, states_passed, row_or_status, kind_in, profile_taken, command_fetched, response_taken, envelope_taken, applet_installed, applet_deleted, toolkit_outcome}
use Rattle.card_model.specs.declared.instructions.CatCommand.{CatCommand}
use Rattle.card_model.specs.declared.instructions.CatCommand.TheVariants as toolkit
use Rattle.card_laws.specs.Moving.{rows_by, HaveFixed, if_row, HasOrder, command_of}
use Rattle.card_laws.proofs.HaveFixedLemmas.{AreBelow, rows_fixed, below_fixed, minds_fixed, applets_fixed}
use Rattle.card_laws.proofs.AreOfKnownKindsLemmas.{BringsGood, at_shelf}
use Rattle.card_laws.proofs.MakesLemmas.{AreFit, right_passes, add_makes, take_makes, with_fit}
use Rattle.card_laws.proofs.PassedRowsLemmas.{Commits, now_fixed, profiled_commits, enveloped_commits, fetched_commits, responded_commits, CommitsFirst, installed_commits, deleted_commits}

-- ---- the next sequence number
-- the next one is in each commit
pub numbered_last : (state : Persistent) (base : Persistent) (next : ℕ) (rows : List (List Registration)) → state.next_sequence ≡ next → (last_of state (map (with_rows base next) rows)).next_sequence ≡ next
numbered_last state base next [] is = is
numbered_last state base next (first ∷ others) is = numbered_last (with_rows base next first) base next others refl

-- ---- what a command comes to

-- Rows over which the card can wake.
pub record CanStand (card : CardState) (next : ℕ) (rows : List Registration) : Type 0 where
  pub are_rows : AreRows rows
  pub minds : HaveMinds rows card.boxes
  pub below : AreBelow next rows
  pub applets : All (HasApplet card.boxes) card.persistent.rows → All (HasApplet card.boxes) rows

stands_fixed : (card : CardState) (next : ℕ) (rows now : List Registration) → CanStand card next rows → HaveFixed rows now → CanStand card next now
stands_fixed card next rows now stands same = record {
  are_rows = rows_fixed rows now same stands.are_rows;
  minds = minds_fixed rows now same card.boxes stands.minds;
  below = below_fixed rows now same next stands.below;
  applets = λ have. applets_fixed rows now same card.boxes (stands.applets have);
}

each_stands : (card : CardState) (next : ℕ) (rows : List Registration) (passed : List (List Registration)) → CanStand card next rows → All (HaveFixed rows) passed → All (CanStand card next) passed
each_stands card next rows [] stands all = All-nil (CanStand card next)
each_stands card next rows (first ∷ others) stands all =
    All-cons (CanStand card next) first others (stands_fixed card next rows first stands (All-head (HaveFixed rows) first others all)) (each_stands card next rows others stands (All-tail (HaveFixed rows) first others all))

pub record Comes (card : CardState) (command : ToolkitInput) (outcome : ToolkitOutcome) : Type 0 where
  pub accepted : IsAccepted command (toolkit_of card)
  pub passed : outcome.passed ≡ moved command (toolkit_of card)
  pub ends : last_of card.persistent.rows (passed_rows (moved command (toolkit_of card)).log) ≡ (moved command (toolkit_of card)).state.rows
  pub below : AreBelow outcome.next_sequence (moved command (toolkit_of card)).state.rows
  pub each : All (CanStand card outcome.next_sequence) (passed_rows (moved command (toolkit_of card)).log)
  pub fixed : All (HaveFixed (rows_by command card.persistent.rows)) (passed_rows (moved command (toolkit_of card)).log)
  pub later : card.persistent.next_sequence ≤ outcome.next_sequence
  pub brings : AreOfKnownKinds card.boxes → BringsGood card.persistent.is_wide outcome.next_sequence command
  pub next : (last_of card.persistent (states_passed card.persistent outcome)).next_sequence ≡ outcome.next_sequence
  pub changes : All AreFit (passed_rows (moved command (toolkit_of card)).log)
      → map (with_rows card.persistent outcome.next_sequence) (passed_rows (moved command (toolkit_of card)).log) ≡ states_after card.persistent (changes_in (moved command (toolkit_of card)).log)

abbrev pub ComesTo : CardState → Option ToolkitInput → Result ToolkitOutcome StatusWord → Type 0
ComesTo card command result = MatchResult result (λ outcome. IsSomeAnd command (λ each. Comes card each outcome)) Any

-- where it makes no row and deletes none
pub comes_by : (card : CardState) → HasOrder card → (command : ToolkitInput) (body : List ℕ) → IsAccepted command (toolkit_of card) → Commits (toolkit_of card) (moved command (toolkit_of card))
    → rows_by command card.persistent.rows ≡ card.persistent.rows → BringsGood card.persistent.is_wide card.persistent.next_sequence command → Comes card command (coming_to card body (moved command (toolkit_of card)))
comes_by card ready command body accepted commits same brings = record {
  fixed = subst (λ (rows : List Registration). All (HaveFixed rows) (passed_rows (moved command (toolkit_of card)).log)) (sym same) commits.each;
  later = omega arith;
  brings = λ kinds. brings;
  accepted = accepted;
  passed = refl;
  ends = commits.ends;
  below = below_fixed card.persistent.rows (moved command (toolkit_of card)).state.rows (now_fixed card.persistent.rows (moved command (toolkit_of card)).state.rows (moved command (toolkit_of card)).log commits)
      card.persistent.next_sequence ready.sequences;
  each = each_stands card card.persistent.next_sequence card.persistent.rows (passed_rows (moved command (toolkit_of card)).log) (record { are_rows = ready.order.rows; minds = ready.order.minds; below = ready.sequences; applets = λ have. have }) commits.each;
  next = numbered_last card.persistent card.persistent card.persistent.next_sequence (passed_rows (moved command (toolkit_of card)).log) refl;
  changes = λ fit. right_passes card.persistent.rows (moved command (toolkit_of card)).log (moved command (toolkit_of card)).state.rows card.persistent refl commits.right fit;
}

-- where it commits its own change first
first_ends : {change : Change} (rows changed : List Registration) (passed : Passed) → CommitsFirst change changed passed → last_of rows (passed_rows passed.log) ≡ passed.state.rows
first_ends rows changed passed commits = ap (λ log. last_of rows (passed_rows log)) commits.first ∙ commits.others.ends

first_below : {change : Change} (next : ℕ) (changed : List Registration) (passed : Passed) → CommitsFirst change changed passed → AreBelow next changed → AreBelow next passed.state.rows
first_below next changed passed commits below = below_fixed changed passed.state.rows (now_fixed changed passed.state.rows commits.rest commits.others) next below

first_each : {change : Change} (card : CardState) (next : ℕ) (changed : List Registration) (passed : Passed) → CommitsFirst change changed passed → CanStand card next changed → All (CanStand card next) (passed_rows passed.log)
first_each card next changed passed commits stands =
    subst (λ log. All (CanStand card next) (passed_rows log)) (sym commits.first)
    (All-cons (CanStand card next) changed (passed_rows commits.rest) stands (each_stands card next changed (passed_rows commits.rest) stands commits.others.each))

first_fixed : {change : Change} (changed : List Registration) (passed : Passed) → CommitsFirst change changed passed → All (HaveFixed changed) (passed_rows passed.log)
first_fixed changed passed commits =
    subst (λ log. All (HaveFixed changed) (passed_rows log)) (sym commits.first)
    (All-cons (HaveFixed changed) changed (passed_rows commits.rest) refl commits.others.each)

first_next : {change : Change} (state : Persistent) (next : ℕ) (changed : List Registration) (passed : Passed) → CommitsFirst change changed passed → (last_of state (map (with_rows state next) (passed_rows passed.log))).next_sequence ≡ next
first_next state next changed passed commits =
    ap (λ log. (last_of state (map (with_rows state next) (passed_rows log))).next_sequence) commits.first ∙ numbered_last (with_rows state next changed) state next (passed_rows commits.rest) refl

first_passes : {change : Change} (card : Persistent) (next : ℕ) (changed_rows : List Registration) (passed : Passed) → CommitsFirst change changed_rows passed → (AreFit changed_rows → changed card change ≡ with_rows card next changed_rows)
    → All AreFit (passed_rows passed.log) → map (with_rows card next) (passed_rows passed.log) ≡ states_after card (changes_in passed.log)
unfolding states_after
first_passes card next changed_rows passed commits first fit =
    let fits : All AreFit (changed_rows ∷ passed_rows commits.rest) = subst (λ (log : List Happening). All AreFit (passed_rows log)) commits.first fit in
    ap (λ (log : List Happening). map (with_rows card next) (passed_rows log)) commits.first
    ∙ ap (λ (states : List Persistent). with_rows card next changed_rows ∷ states)
    (right_passes changed_rows commits.rest passed.state.rows (with_rows card next changed_rows) refl commits.others.right (All-tail AreFit changed_rows (passed_rows commits.rest) fits))
    ∙ ap (λ (state : Persistent). state ∷ states_after state (changes_in commits.rest)) (sym (first (All-head AreFit changed_rows (passed_rows commits.rest) fits)))
    ∙ sym (ap (λ (log : List Happening). states_after card (changes_in log)) commits.first)

-- ---- rows

row_so : {X : Type 0} (P : X → Type 0) (found : Result Registration RowFault) (next : Registration → Result X StatusWord) → ((row : Registration) → found ≡ Ok row → MatchResult (next row) P Any)
    → MatchResult (and_given (row_or_status found) next) P Any
unfolding and_given
row_so P (Ok row) next rest = rest row refl
row_so P (Err fault) next rest = tt

pub tests_so : (P : Registration → Type 0) (narrow taken full spent : Bool) (row : Registration) → P row → IfOk (faulty_if narrow Narrow (faulty_if taken Taken (faulty_if full MenuFull (faulty_if spent Spent (Ok row))))) P
tests_so P true taken full spent row holds = tt
tests_so P false true full spent row holds = tt
tests_so P false false true spent row holds = tt
tests_so P false false false true row holds = tt
tests_so P false false false false row holds = holds

-- the row that INSTALL makes of these data and a kind
abbrev made : Persistent → ℕ → ℕ → Option Installation → Option ℕ → Result Registration RowFault
made state shelf priority found kind =
    unless_missing found BadData (λ installation.
    unless_missing kind NoBox (λ known.
    let row = new_row state shelf priority known installation in
    faulty_if (needs_wide row && not state.is_wide) Narrow (
    faulty_if (is_taken state.rows row) Taken (
    faulty_if (is_menu_full state.rows row) MenuFull (
    faulty_if (state.next_sequence == last_sequence) Spent (Ok row))))))

-- it takes the next sequence number, and is of that kind
abbrev IsNew : Persistent → Option ℕ → ℕ → Registration → Type 0
IsNew state kind shelf row = (row.sequence ≡ state.next_sequence) × (kind ≡ Some row.kind) × (row.shelf ≡ shelf)

takes_next : (state : Persistent) (shelf priority : ℕ) (found : Option Installation) (kind : Option ℕ) → IfOk (made state shelf priority found kind) (IsNew state kind shelf)
takes_next state shelf priority None kind = tt
takes_next state shelf priority (Some installation) None = tt
takes_next state shelf priority (Some installation) (Some known) =
    let row : Registration = new_row state shelf priority known installation in
    tests_so (IsNew state (Some known) shelf) (needs_wide row && not state.is_wide) (is_taken state.rows row) (is_menu_full state.rows row) (state.next_sequence == last_sequence) row (refl, refl, refl)

is_new : (state : Persistent) (kind : Option ℕ) (shelf priority : ℕ) (content : List ℕ) (row : Registration) → installed_row state kind shelf priority content ≡ Ok row → IsNew state kind shelf row
is_new state kind shelf priority content row is = subst (λ found. IfOk found (IsNew state kind shelf)) is (takes_next state shelf priority (installation_of content) kind)

-- the applet on its shelf is of that kind
has_applet : (box : Option AppletState) (kind : ℕ) → option_map (λ (mind : AppletState). mind.kind) box ≡ Some kind → IsSomeAnd box (λ mind. mind.kind ≡ kind)
has_applet None kind is = absurd (cc)
has_applet (Some mind) kind is = cc

kind_known : (boxes : List (Option AppletState)) (shelf : ℕ) → AreOfKnownKinds boxes → IfSome (option_map (λ (mind : AppletState). mind.kind) (mind_on boxes shelf)) IsAppletKind
kind_known boxes shelf kinds = by_box (mind_on boxes shelf) (at_shelf boxes shelf kinds) where
  by_box : (box : Option AppletState) → IfSome box IsOfKnownKind → IfSome (option_map (λ (mind : AppletState). mind.kind) box) IsAppletKind
  by_box None known = tt
  by_box (Some mind) known = known

-- a row that DELETE finds is there, and its applet is idle
deleted_is : (found : Option Registration) (idle : Bool) (row : Registration) → unless_missing found NoRow (λ each. faulty_if (not idle) NotIdle (Ok each)) ≡ Ok row → (found ≡ Some row) × (idle ≡ true)
deleted_is None idle row is = cc
deleted_is (Some other) true row is = (cc, refl)
deleted_is (Some other) false row is = cc

pub record IsRowOn (rows : List Registration) (shelf : ℕ) (row : Registration) : Type 0 where
  pub registered : IsRegistered rows shelf
  pub shelf_is : row.shelf ≡ shelf

found_there : (rows : List Registration) (shelf : ℕ) (row : Registration) → row_on rows shelf ≡ Some row → IsRowOn rows shelf row
found_there rows shelf row is =
    let found = find_Some (is_on shelf) rows row is in
    let same : row.shelf ≡ shelf = eqb-true row.shelf shelf found.1 in
    record { registered = subst (Contains (map (λ each. each.shelf) rows)) same (mapped_too (λ (each : Registration). each.shelf) rows row found.0); shelf_is = same }

-- ---- the commands

module _ (installs : InstallationsAreAccepted) (sounds : InstalledRowsAreSound) (card : CardState) (ready : HasOrder card) (apdu : Apdu) where
  abbrev at : ToolkitState
  at = toolkit_of card

  abbrev P : Option ToolkitInput → ToolkitOutcome → Type 0
  P command outcome = IsSomeAnd command (λ each. Comes card each outcome)

  profile_comes : ComesTo card (Some (Profile apdu.body)) (profile_taken card apdu)
  unfolding profile_taken
  profile_comes = past (P (Some (Profile apdu.body))) _ _ _ (past (P (Some (Profile apdu.body))) _ _ _ (comes_by card ready (Profile apdu.body) [] tt (profiled_commits apdu.body at) refl (tt, tt)))

  fetch_comes : ComesTo card (option_map (λ out. Fetch out) (unfetched card.session)) (command_fetched card apdu)
  unfolding command_fetched
  fetch_comes =
      let Q : ToolkitOutcome → Type 0 = P (option_map (λ out. Fetch out) (unfetched card.session)) in
      past Q _ _ _ (past Q _ _ _ (given_so Q Any (unfetched card.session) _ _ tt (λ out is. past Q _ _ _ (
      subst (λ found. P (option_map (λ each. Fetch each) found) (coming_to card (command_bytes out) (fetched out at))) (sym is) (comes_by card ready (Fetch out) (command_bytes out) is (fetched_commits out at) refl (tt, tt))))))

  response_comes : ComesTo card (option_and_then (λ out. option_map (λ reply. Respond out reply) (reply_to out apdu.body)) (unanswered card.session)) (response_taken card apdu)
  unfolding response_taken
  response_comes =
      let Q : ToolkitOutcome → Type 0 = P (option_and_then (λ out. option_map (λ reply. Respond out reply) (reply_to out apdu.body)) (unanswered card.session)) in
      past Q _ _ _ (past Q _ _ _ (given_so Q Any (unanswered card.session) _ _ tt (λ out is. given_so Q Any (reply_to out apdu.body) _ _ tt (λ reply answers.
      subst (λ found. P (option_and_then (λ each. option_map (λ said. Respond each said) (reply_to each apdu.body)) found) (coming_to card [] (responded out reply at))) (sym is) (
      subst (λ found. P (option_map (λ said. Respond out said) found) (coming_to card [] (responded out reply at))) (sym answers) (comes_by card ready (Respond out reply) [] is (responded_commits out reply at) refl (tt, tt)))))))

  envelope_comes : ComesTo card (option_map (λ envelope. Report envelope) (envelope_of apdu.body)) (envelope_taken card apdu)
  unfolding envelope_taken
  envelope_comes =
      let Q : ToolkitOutcome → Type 0 = P (option_map (λ envelope. Report envelope) (envelope_of apdu.body)) in
      past Q _ _ _ (past Q _ _ _ (given_so Q Any (envelope_of apdu.body) _ _ tt (λ envelope is. unless_so Q Any (is_busy envelope at) _ _ tt (λ free.
      subst (λ found. P (option_map (λ each. Report each) found) (coming_to card (call_data envelope at) (enveloped envelope at))) (sym is) (comes_by card ready (Report envelope) (call_data envelope at) free (enveloped_commits envelope at) refl (tt, tt))))))

  -- a row that is registered
  install_one : (row : Registration) → 1 ≤ apdu.p1 → apdu.p2 < 32 → installed_row card.persistent (kind_in card apdu.p2) apdu.p2 apdu.p1 apdu.body ≡ Ok row
      → Comes card (Install row) (record { body = []; passed = installed row at; next_sequence = card.persistent.next_sequence + 1 })
  install_one row some low is =
      let commits = installed_commits row at in
      let next : ℕ = card.persistent.next_sequence + 1 in
      let new : IsNew card.persistent (kind_in card apdu.p2) apdu.p2 row = is_new card.persistent (kind_in card apdu.p2) apdu.p2 apdu.p1 apdu.body row is in
      let number : row.sequence ≡ card.persistent.next_sequence = new.0 in
      let accepted : IsAccepted (Install row) at = installs card.persistent at apdu.p2 apdu.p1 apdu.body row refl ready.order.rows ready.sequences is in
      let below : AreBelow next (with_row card.persistent.rows row) =
      with_all row (λ each. each.sequence < next) card.persistent.rows (omega (arith, number)) (λ k d low. let less = ready.sequences k d low in omega (arith, less)) in
      record {
        accepted = accepted;
        passed = refl;
        ends = first_ends card.persistent.rows (with_row card.persistent.rows row) (installed row at) commits;
        below = first_below next (with_row card.persistent.rows row) (installed row at) commits below;
        each = first_each card next (with_row card.persistent.rows row) (installed row at) commits (record {
          are_rows = accepted.0;
          minds = with_all row (λ each. HasMind card.boxes each.shelf) card.persistent.rows accepted.1 ready.order.minds;
          below = below;
          applets = λ have. with_all row (HasApplet card.boxes) card.persistent.rows
              (subst (λ (shelf : ℕ). IsSomeAnd (mind_on card.boxes shelf) (λ mind. mind.kind ≡ row.kind)) (sym new.2) (has_applet (mind_on card.boxes apdu.p2) row.kind new.1)) have;
        });
        fixed = first_fixed (with_row card.persistent.rows row) (installed row at) commits;
        later = omega arith;
        brings = λ kinds.
            let sound = sounds card.persistent (kind_in card apdu.p2) apdu.p2 apdu.p1 apdu.body row low some (kind_known card.boxes apdu.p2 kinds) is in
            (sound, sound.kind);
        next = first_next card.persistent next (with_row card.persistent.rows row) (installed row at) commits;
        changes = λ fit. first_passes card.persistent next (with_row card.persistent.rows row) (installed row at) commits (λ with_it. add_makes card.persistent row (with_fit card.persistent.rows row with_it)) fit;
      }

  install_comes : (seen : Verified) → ComesTo card (if_row (installed_row card.persistent (kind_in card apdu.p2) apdu.p2 apdu.p1 apdu.body)) (applet_installed card seen apdu)
  unfolding applet_installed
  install_comes seen =
      let Q : ToolkitOutcome → Type 0 = P (if_row (installed_row card.persistent (kind_in card apdu.p2) apdu.p2 apdu.p1 apdu.body)) in
      unless_so Q Any (not (nat_le 1 apdu.p1 && has_shelf apdu)) _ _ tt (λ fits. past Q _ _ _ (past Q _ _ _ (row_so Q (installed_row card.persistent (kind_in card apdu.p2) apdu.p2 apdu.p1 apdu.body) _ (λ row is.
      let both = and_parts (nat_le 1 apdu.p1) (has_shelf apdu) (not-false (nat_le 1 apdu.p1 && has_shelf apdu) fits) in
      let low : apdu.p2 ≤ 31 = leb-true apdu.p2 31 both.1 in
      subst (λ found. P (if_row found) (record { body = []; passed = installed row at; next_sequence = card.persistent.next_sequence + 1 })) (sym is) (install_one row (leb-true 1 apdu.p1 both.0) (omega (arith, low)) is)))))

  -- a row that goes
  delete_one : (row : Registration) → deleted_row card.persistent.rows apdu.p2 (is_idle (asks card.session) apdu.p2) ≡ Ok row → Comes card (Delete apdu.p2) (coming_to card [] (delete_carried row.shelf at))
  delete_one row is =
      let parts = deleted_is (row_on card.persistent.rows apdu.p2) (is_idle (asks card.session) apdu.p2) row is in
      let there = found_there card.persistent.rows apdu.p2 row parts.0 in
      let commits = deleted_commits apdu.p2 at in
      let below : AreBelow card.persistent.next_sequence (without_row card.persistent.rows apdu.p2) =
      All-filter (λ each. not (is_on apdu.p2 each)) (λ each. each.sequence < card.persistent.next_sequence) card.persistent.rows ready.sequences in
      subst (λ (shelf : ℕ). Comes card (Delete apdu.p2) (coming_to card [] (delete_carried shelf at))) (sym there.shelf_is) (record {
        accepted = (there.registered, parts.1);
        passed = refl;
        ends = first_ends card.persistent.rows (without_row card.persistent.rows apdu.p2) (delete_carried apdu.p2 at) commits;
        below = first_below card.persistent.next_sequence (without_row card.persistent.rows apdu.p2) (delete_carried apdu.p2 at) commits below;
        each = first_each card card.persistent.next_sequence (without_row card.persistent.rows apdu.p2) (delete_carried apdu.p2 at) commits (record {
          are_rows = rows_without card.persistent.rows apdu.p2 ready.order.rows;
          minds = All-filter (λ each. not (is_on apdu.p2 each)) (λ each. HasMind card.boxes each.shelf) card.persistent.rows ready.order.minds;
          below = below;
          applets = λ have. All-filter (λ each. not (is_on apdu.p2 each)) (HasApplet card.boxes) card.persistent.rows have;
        });
        fixed = first_fixed (without_row card.persistent.rows apdu.p2) (delete_carried apdu.p2 at) commits;
        later = omega arith;
        brings = λ kinds. (tt, tt);
        next = first_next card.persistent card.persistent.next_sequence (without_row card.persistent.rows apdu.p2) (delete_carried apdu.p2 at) commits;
        changes = λ fit. first_passes card.persistent card.persistent.next_sequence (without_row card.persistent.rows apdu.p2) (delete_carried apdu.p2 at) commits (λ without_it. take_makes card.persistent apdu.p2 ready.order.rows.shelves) fit;
      })

  delete_comes : (seen : Verified) → ComesTo card (Some (Delete apdu.p2)) (applet_deleted card seen apdu)
  unfolding applet_deleted
  delete_comes seen =
      let Q : ToolkitOutcome → Type 0 = P (Some (Delete apdu.p2)) in
      past Q _ _ _ (past Q _ _ _ (past Q _ _ _ (row_so Q (deleted_row card.persistent.rows apdu.p2 (is_idle (asks card.session) apdu.p2)) _ (λ row is. delete_one row is))))

  pub outcome_comes : (command : CatCommand) (seen : Verified) → ComesTo card (command_of command card apdu) (toolkit_outcome command card seen apdu)
  unfolding toolkit_outcome
  outcome_comes toolkit.TerminalProfile seen = profile_comes
  outcome_comes toolkit.Fetch seen = fetch_comes
  outcome_comes toolkit.TerminalResponse seen = response_comes
  outcome_comes toolkit.Envelope seen = envelope_comes
  outcome_comes toolkit.InstallApplet seen = install_comes seen
  outcome_comes toolkit.DeleteApplet seen = delete_comes seen
