-- No row comes to a shelf but by an INSTALL.
use Rattle.std.proofs.Common.{◌≡◌, ◌≢◌, ℕ, zero, suc, ◌==◌, Bool, true, false, List, [], ◌∷◌, map, Option, Some, None, Result, Ok, Err, refl, sym, ◌∙◌, ap, subst, arith, All, Contains, IfOk, IsSomeAnd, is_none, not, slice_get, slice_index_or, option_and_then, if◌then◌else◌, ◌&&◌, true≢false}
use Rattle.std.proofs.lemmas.List.Elements.{All-nil, All-head, All-tail, All-filter, Contains-get_or}
use Rattle.uicc_types.specs.declared.answers.StatusWord.{StatusWord}
use Rattle.apdu_form.specs.Model.{Apdu}
use Rattle.card_state.specs.declared.entries.Loaded.{Loaded}
use Rattle.card_state.specs.declared.entries.Row.{Row}
use Rattle.card_state.specs.Persistent.{Registration, Persistent}
use Rattle.card_state.specs.Sections.{Installation, installation_of, needs_wide, new_row}
use Rattle.card_state.specs.StateLaws.{RowsAreEntries}
use Rattle.card_state.specs.States.{rows_of, state_of, registration_of}
use Rattle.card_state.specs.Used.{registration_if}
use Rattle.file_model.specs.Chains.{and_given}
use Rattle.card_commits.specs.Laws.{IsTold}
use Rattle.card_commits.specs.Entries.{HasRowOn}
use Rattle.toolkit_commands.specs.Envelopes.{envelope_of}
use Rattle.toolkit_model.specs.Registry.{row_on, unless_missing, faulty_if, without_row, installed_row, is_taken, is_menu_full, last_sequence}
use Rattle.toolkit_model.specs.declared.faults.RowFault.{RowFault}
use Rattle.toolkit_model.specs.declared.faults.RowFault.TheVariants.{BadData, NoBox, Narrow, Taken, MenuFull, Spent}
use Rattle.toolkit_model.specs.Commands.{unfetched, unanswered}
use Rattle.toolkit_model.proofs.InstallationsAreAcceptedLemmas.{with_all}
use Rattle.card_model.specs.Answers.{Answered, settled, carried_out, toolkit_tried, seen_by}
use Rattle.card_model.specs.States.{CardState}
use Rattle.card_model.specs.Toolkit.{ToolkitOutcome, kind_in, toolkit_outcome}
use Rattle.card_model.specs.declared.instructions.Instruction.TheVariants.{Toolkit}
use Rattle.card_model.specs.declared.instructions.CatCommand.{CatCommand}
use Rattle.card_model.specs.declared.instructions.CatCommand.TheVariants as commands
use Rattle.cat_commands.specs.Deleting.{HasNoRow}
use Rattle.card_laws.specs.ToolkitLaws.{CommandsLeaveRows, TellingLeavesRows}
use Rattle.card_laws.specs.Moving.{HaveFixed, HasOrder, if_row, command_by, rows_after}
use Rattle.card_laws.proofs.ToolkitOutcomeLemmas.{tests_so}
use Rattle.card_core.specs.Cards.{card_with}
use Rattle.card_core.specs.Moves.{HasRowsOf, polled_on}
use Rattle.card_core.specs.Parts.{CardParts}
use Rattle.card_core.proofs.IsToolkitCutShortLemmas.{no_row_there}
use Rattle.card_core.proofs.HasToolkitLemmas.{by_toolkit, rows_left}
use Rattle.card_core.proofs.RowOnLemmas.{at_it, fetching, none_there, reported, responding, same_shelves}

-- ---- shelves without a row

has_none : (rows : List Registration) (k : ℕ) → is_none (row_on rows k) ≡ true → HasNoRow rows k
has_none rows k none = λ i d low same. true≢false (sym none ∙ at_it rows k (slice_index_or rows i d) (Contains-get_or rows i d low) same)

is_there_none : (rows : List Registration) (k : ℕ) → HasNoRow rows k → is_none (row_on rows k) ≡ true
is_there_none rows k none = by_found (row_on rows k) refl where
  by_found : (found : Option Registration) → row_on rows k ≡ found → is_none found ≡ true
  by_found None is = refl
  by_found (Some row) is = absurd (no_row_there rows k k row none is refl)

none_registered : (shelf : ℕ) (o : Option Row) → (IsSomeAnd o (λ row. row.used ≡ true) → ⊥) → is_none (option_and_then (registration_if shelf) o) ≡ true
none_registered shelf None lacks = refl
none_registered shelf (Some row) lacks = by_used row.used refl where
  by_used : (used : Bool) → row.used ≡ used → is_none (if used then Some (registration_of shelf row) else None) ≡ true
  by_used true is = absurd (lacks is)
  by_used false is = refl

none_on : RowsAreEntries → (table : Loaded) (shelf : ℕ) → (HasRowOn table shelf → ⊥) → is_none (row_on (rows_of table) shelf) ≡ true
unfolding state_of
none_on entries table shelf lacks = ap is_none (entries table [] shelf) ∙ none_registered shelf (slice_get table.rows shelf) lacks

-- ---- the row that is installed

abbrev IsFor : ℕ → Registration → Type 0
IsFor shelf row = row.shelf ≡ shelf

new_so : (state : Persistent) (shelf priority : ℕ) (found : Option Installation) (kind : Option ℕ)
    → IfOk (unless_missing found BadData (λ installation.
    unless_missing kind NoBox (λ known.
    let row = new_row state shelf priority known installation in
    faulty_if (needs_wide row && not state.is_wide) Narrow (
    faulty_if (is_taken state.rows row) Taken (
    faulty_if (is_menu_full state.rows row) MenuFull (
    faulty_if (state.next_sequence == last_sequence) Spent (Ok row))))))) (IsFor shelf)
new_so state shelf priority None kind = tt
new_so state shelf priority (Some installation) None = tt
new_so state shelf priority (Some installation) (Some known) =
    let row : Registration = new_row state shelf priority known installation in
    tests_so (IsFor shelf) (needs_wide row && not state.is_wide) (is_taken state.rows row) (is_menu_full state.rows row) (state.next_sequence == last_sequence) row refl

installed_there : (state : Persistent) (kind : Option ℕ) (shelf priority : ℕ) (content : List ℕ) → IfOk (installed_row state kind shelf priority content) (IsFor shelf)
installed_there state kind shelf priority content = new_so state shelf priority (installation_of content) kind

module _ (rows : List Registration) (k : ℕ) (none : HasNoRow rows k) where
  by_install : (found : Result Registration RowFault) (shelf : ℕ) → IfOk found (IsFor shelf) → k ≢ shelf → HasNoRow (rows_after (if_row found) rows) k
  by_install (Ok row) shelf there apart = with_all row (λ each. each.shelf ≢ k) rows (λ same. apart (sym same ∙ there)) none
  by_install (Err fault) shelf there apart = none

  by_delete : (gone : ℕ) → HasNoRow (without_row rows gone) k
  by_delete gone = All-filter (λ row. not (row.shelf == gone)) (λ row. row.shelf ≢ k) rows none

  still : (now : List Registration) → now ≡ rows → HasNoRow now k
  still now same = subst (λ (list : List Registration). HasNoRow list k) (sym same) none

-- a shelf without a row has none after a command, unless this is an INSTALL on it
none_after : (command : CatCommand) (card : CardState) (apdu : Apdu) (k : ℕ) → (command ≡ commands.InstallApplet → k ≢ apdu.p2) → HasNoRow card.persistent.rows k
    → HasNoRow (rows_after (command_by (Toolkit command) card apdu) card.persistent.rows) k
none_after commands.TerminalProfile card apdu k apart none = none
none_after commands.Fetch card apdu k apart none = still card.persistent.rows k none _ (fetching card.persistent.rows (unfetched card.session))
none_after commands.TerminalResponse card apdu k apart none = still card.persistent.rows k none _ (responding card.persistent.rows apdu.body (unanswered card.session))
none_after commands.Envelope card apdu k apart none = still card.persistent.rows k none _ (reported card.persistent.rows (envelope_of apdu.body))
none_after commands.InstallApplet card apdu k apart none =
    by_install card.persistent.rows k none (installed_row card.persistent (kind_in card apdu.p2) apdu.p2 apdu.p1 apdu.body) apdu.p2 (installed_there card.persistent (kind_in card apdu.p2) apdu.p2 apdu.p1 apdu.body) (apart refl)
none_after commands.DeleteApplet card apdu k apart none = by_delete card.persistent.rows k none apdu.p2

-- ---- where a fault stopped it

abbrev AllFixed : List Registration → List Persistent → Type 0
AllFixed changed commits = All (λ state. HaveFixed changed state.rows) commits

fixed_in : (changed : List Registration) (commits : List Persistent) → AllFixed changed commits → (rows : List Registration) → Contains (map (λ (state : Persistent). state.rows) commits) rows → HaveFixed changed rows
fixed_in changed [] all rows has = absurd (omega (arith, has.1))
fixed_in changed (state ∷ more) all rows (zero, low, same) = subst (HaveFixed changed) same (All-head (λ (each : Persistent). HaveFixed changed each.rows) state more all)
fixed_in changed (state ∷ more) all rows (suc at, low, same) = fixed_in changed more (All-tail (λ (each : Persistent). HaveFixed changed each.rows) state more all) rows (at, omega (arith, low), same)

none_stopped : (changed : List Registration) (state : Persistent) (commits : List Persistent) (rows : List Registration) (k : ℕ) → AllFixed changed commits → Contains (map (λ (each : Persistent). each.rows) (state ∷ commits)) rows
    → HasNoRow state.rows k → HasNoRow changed k → is_none (row_on rows k) ≡ true
none_stopped changed state commits rows k fixed (zero, low, same) before after = subst (λ (list : List Registration). is_none (row_on list k) ≡ true) same (is_there_none state.rows k before)
none_stopped changed state commits rows k fixed (suc at, low, same) before after =
    same_shelves changed rows k (fixed_in changed commits fixed rows (at, omega (arith, low), same)) ∙ is_there_none changed k after

toolkit_fixed : CommandsLeaveRows → (command : CatCommand) → (card : CardState) (apdu : Apdu) → HasOrder card
    → AllFixed (rows_after (command_by (Toolkit command) card apdu) card.persistent.rows) (settled card (carried_out (Toolkit command) card apdu)).commits
unfolding and_given
toolkit_fixed law command card apdu ready =
    subst (λ (came : Result Answered StatusWord). AllFixed (rows_after (command_by (Toolkit command) card apdu) card.persistent.rows) (settled card came).commits) (sym (by_toolkit command card apdu))
    (by_outcome (toolkit_outcome command card (seen_by card) apdu) refl) where
      by_outcome : (came : Result ToolkitOutcome StatusWord) → toolkit_outcome command card (seen_by card) apdu ≡ came → AllFixed (rows_after (command_by (Toolkit command) card apdu) card.persistent.rows) (settled card (toolkit_tried card came)).commits
      by_outcome (Ok outcome) came = (rows_left law command card apdu outcome ready came).fixed
      by_outcome (Err status) came = All-nil (λ (state : Persistent). HaveFixed (rows_after (command_by (Toolkit command) card apdu) card.persistent.rows) state.rows)

module _ (entries : RowsAreEntries) (old mid : CardParts) (state : Persistent) (told : IsTold old.table state) (ready : HasOrder (card_with false old state)) (k : ℕ) (lacks : HasRowOn old.table k → ⊥) where
  none_before : HasNoRow state.rows k
  none_before = subst (λ (rows : List Registration). HasNoRow rows k) (sym told.rows) (has_none (rows_of old.table) k (none_on entries old.table k lacks))

  -- a command of the toolkit
  pub none_comes : CommandsLeaveRows → (command : CatCommand) → (apdu : Apdu) → (command ≡ commands.InstallApplet → k ≢ apdu.p2)
      → HasRowsOf (state ∷ (settled (card_with false old state) (carried_out (Toolkit command) (card_with false old state) apdu)).commits) mid → HasRowOn mid.table k → ⊥
  none_comes law command apdu apart stopped =
      let card : CardState = card_with false old state in
      none_there entries mid.table k
      (none_stopped (rows_after (command_by (Toolkit command) card apdu) state.rows) state (settled card (carried_out (Toolkit command) card apdu)).commits (rows_of mid.table) k (toolkit_fixed law command card apdu ready) stopped none_before
      (none_after command card apdu k apart none_before))

  -- STATUS, of which applets are told
  pub none_polled : TellingLeavesRows → HasRowsOf (state ∷ (polled_on (card_with false old state)).commits) mid → HasRowOn mid.table k → ⊥
  none_polled law stopped =
      let card : CardState = card_with false old state in
      none_there entries mid.table k (none_stopped state.rows state (polled_on card).commits (rows_of mid.table) k (law card ready).fixed stopped none_before none_before)
