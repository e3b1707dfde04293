-- Which shelves have a row, before and after a command.
use Rattle.std.proofs.Common.{◌≡◌, ◌≢◌, ℕ, zero, suc, ◌==◌, Bool, true, false, not, cond, List, [], ◌∷◌, ◌++◌, map, Option, Some, None, option_map, refl, sym, ◌∙◌, ap, subst, ⊎_elim, arith, find, filter, nat_lt, is_ok, is_some, is_none, Contains, IsSomeAnd, MatchResult, option_and_then, slice_get, if◌then◌else◌, Result, Ok, Err}
use Rattle.std.proofs.lemmas.Bool.{false≢true, true≢false, eqb-true, eq-eqb, cases_eq}
use Rattle.std.proofs.lemmas.Bool.Decides.{nat_tests}
use Rattle.std.proofs.lemmas.List.Elements.{Contains-append_left, Contains-append_right}
use Rattle.list_laws.proofs.FindLemmas.{find-map, find_Some}
use Rattle.list_laws.proofs.IfSomeLemmas.{none_of}
use Rattle.list_laws.proofs.ContainsLemmas.{kept_there, first_there}
use Rattle.uicc_types.specs.declared.answers.StatusWord.{StatusWord}
use Rattle.apdu_form.specs.Model.{Apdu}
use Rattle.card_state.specs.declared.entries.Loaded.{Loaded}
use Rattle.card_state.specs.declared.entries.Row.{Row}
use Rattle.card_state.specs.Persistent.{Registration}
use Rattle.card_state.specs.Sections.{with_row}
use Rattle.card_state.specs.StateLaws.{RowsAreEntries}
use Rattle.card_state.specs.States.{rows_of, state_of, registration_of}
use Rattle.card_state.specs.Used.{registration_if}
use Rattle.access_rules.specs.declared.rules.Verified.{Verified}
use Rattle.file_model.specs.Chains.{and_given}
use Rattle.card_commits.specs.Entries.{HasRowOn}
use Rattle.toolkit_commands.specs.declared.envelopes.Envelope.{Envelope}
use Rattle.toolkit_commands.specs.declared.responses.Response.{Response as Reply}
use Rattle.toolkit_commands.specs.Envelopes.{envelope_of}
use Rattle.toolkit_model.specs.Registry.{unless_missing, faulty_if, without_row, installed_row, deleted_row, row_on}
use Rattle.toolkit_model.specs.declared.faults.RowFault.{RowFault}
use Rattle.toolkit_model.specs.declared.faults.RowFault.TheVariants.{NoRow, NotIdle}
use Rattle.toolkit_model.specs.Commands.{unfetched, unanswered, reply_to}
use Rattle.toolkit_model.specs.Driving.{is_idle}
use Rattle.toolkit_model.specs.Orderly.{asks}
use Rattle.toolkit_model.specs.Sessions.{Outstanding}
use Rattle.toolkit_model.specs.Steps.{Report, Fetch, Respond}
use Rattle.applet_registry.specs.Rows.{allowed}
use Rattle.card_model.specs.States.{CardState}
use Rattle.card_model.specs.Chained.{Any}
use Rattle.card_model.proofs.ChainedLemmas.{past}
use Rattle.card_model.specs.Toolkit.{ToolkitOutcome, applet_deleted, row_or_status, kind_in}
use Rattle.card_model.specs.declared.instructions.Instruction.TheVariants.{Toolkit}
use Rattle.card_model.specs.declared.instructions.CatCommand.{CatCommand}
use Rattle.card_model.specs.declared.instructions.CatCommand.TheVariants as commands
use Rattle.card_laws.specs.Moving.{fixed, HaveFixed, if_row, command_by, rows_after}

-- ---- finding

some_found : {X : Type 0} (p : X → Bool) (xs : List X) (x : X) → Contains xs x → p x ≡ true → is_some (find p xs) ≡ true
some_found p [] x there is = absurd (omega (arith, there.1))
some_found p (y ∷ ys) x (zero, low, same) is = ap (λ (b : Bool). is_some (cond b (Some y) (find p ys))) (ap p same ∙ is)
some_found p (y ∷ ys) x (suc k, low, same) is = later (p y) (some_found p ys x (k, omega (arith, low), same) is) where
  later : (b : Bool) → is_some (find p ys) ≡ true → is_some (cond b (Some y) (find p ys)) ≡ true
  later true found = refl
  later false found = found

-- ---- rows

abbrev is_at : ℕ → Registration → Bool
is_at shelf row = row.shelf == shelf

is_none_mapped : {X Y : Type 0} (f : X → Y) (o : Option X) → is_none (option_map f o) ≡ is_none o
is_none_mapped f None = refl
is_none_mapped f (Some x) = refl

none_fixed : (rows : List Registration) (shelf : ℕ) → is_none (row_on (map fixed rows) shelf) ≡ is_none (row_on rows shelf)
none_fixed rows shelf = ap is_none (find-map (is_at shelf) fixed rows) ∙ is_none_mapped fixed (row_on rows shelf)

-- rows that are the same but for codes and kept bytes stand on the same shelves
pub same_shelves : (rows now : List Registration) (shelf : ℕ) → HaveFixed rows now → is_none (row_on now shelf) ≡ is_none (row_on rows shelf)
same_shelves rows now shelf have = sym (none_fixed now shelf) ∙ ap (λ (list : List Registration). is_none (row_on list shelf)) have ∙ none_fixed rows shelf

some_not_none : {X : Type 0} (o : Option X) → is_some o ≡ true → is_none o ≡ false
some_not_none None is = absurd (false≢true is)
some_not_none (Some x) is = refl

-- the row that is there, and where it stands
there_by : (rows : List Registration) (shelf : ℕ) (o : Option Registration) → row_on rows shelf ≡ o → is_none o ≡ false → (row : Registration) × Contains rows row × (row.shelf ≡ shelf)
there_by rows shelf None is some = absurd (true≢false some)
there_by rows shelf (Some row) is some =
    let found = find_Some (is_at shelf) rows row is in
    (row, found.0, eqb-true row.shelf shelf found.1)

pub at_it : (rows : List Registration) (shelf : ℕ) (row : Registration) → Contains rows row → row.shelf ≡ shelf → is_none (row_on rows shelf) ≡ false
at_it rows shelf row there is = some_not_none (row_on rows shelf) (some_found (is_at shelf) rows row there (eq-eqb row.shelf shelf is))

between : (a b c : ℕ) → nat_lt a b ≡ false → nat_lt b a ≡ false → a ≡ c → b ≡ c
between a b c first second same = grind (arith, nat_tests, first, second, same)

-- an installed row takes no other away
module _ (rows : List Registration) (row : Registration) (shelf : ℕ) where
  abbrev below : List Registration
  below = filter (λ other. nat_lt other.shelf row.shelf) rows

  abbrev above : List Registration
  above = filter (λ other. nat_lt row.shelf other.shelf) rows

  by_place : (old : Registration) → Contains rows old → old.shelf ≡ shelf → (less more : Bool) → nat_lt old.shelf row.shelf ≡ less → nat_lt row.shelf old.shelf ≡ more → is_none (row_on (with_row rows row) shelf) ≡ false
  by_place old there on_it true more is is' =
      at_it (with_row rows row) shelf old (Contains-append_left (below ++ row ∷ []) above old (Contains-append_left below (row ∷ []) old (kept_there (λ other. nat_lt other.shelf row.shelf) rows old there is))) on_it
  by_place old there on_it false true is is' = at_it (with_row rows row) shelf old (Contains-append_right (below ++ row ∷ []) above old (kept_there (λ other. nat_lt row.shelf other.shelf) rows old there is')) on_it
  by_place old there on_it false false is is' =
      at_it (with_row rows row) shelf row (Contains-append_left (below ++ row ∷ []) above row (Contains-append_right below (row ∷ []) row (first_there row []))) (between old.shelf row.shelf shelf is is' on_it)

  installed_stays : is_none (row_on rows shelf) ≡ false → is_none (row_on (with_row rows row) shelf) ≡ false
  installed_stays some =
      let old = there_by rows shelf (row_on rows shelf) refl some in
      by_place old.0 old.1 old.2 (nat_lt old.0.shelf row.shelf) (nat_lt row.shelf old.0.shelf) refl refl

not_eqb : (a b : ℕ) → a ≢ b → not (a == b) ≡ true
not_eqb a b apart = by_test (a == b) refl where
  by_test : (t : Bool) → (a == b) ≡ t → not t ≡ true
  by_test true is = absurd (apart (eqb-true a b is))
  by_test false is = refl

-- a deleted row takes no other away
deleted_stays : (rows : List Registration) (gone shelf : ℕ) → shelf ≢ gone → is_none (row_on rows shelf) ≡ false → is_none (row_on (without_row rows gone) shelf) ≡ false
deleted_stays rows gone shelf apart some =
    let old = there_by rows shelf (row_on rows shelf) refl some in
    at_it (without_row rows gone) shelf old.0 (kept_there (λ each. not (each.shelf == gone)) rows old.0 old.1 (not_eqb old.0.shelf gone (λ same. apart (sym old.2 ∙ same)))) old.2

-- ---- commands

-- the one command that takes a row away
abbrev pub Loses : CatCommand → Apdu → ℕ → Type 0
Loses command apdu shelf = (command ≡ commands.DeleteApplet) × (shelf ≡ apdu.p2)

module _ (rows : List Registration) where
  pub reported : (found : Option Envelope) → rows_after (option_map (λ envelope. Report envelope) found) rows ≡ rows
  reported None = refl
  reported (Some envelope) = refl

  pub fetching : (found : Option Outstanding) → rows_after (option_map (λ out. Fetch out) found) rows ≡ rows
  fetching None = refl
  fetching (Some out) = refl

  pub responding : (body : List ℕ) (found : Option Outstanding) → rows_after (option_and_then (λ out. option_map (λ reply. Respond out reply) (reply_to out body)) found) rows ≡ rows
  responding body None = refl
  responding body (Some out) = by_reply (reply_to out body) where
    by_reply : (found : Option Reply) → rows_after (option_map (λ reply. Respond out reply) found) rows ≡ rows
    by_reply None = refl
    by_reply (Some reply) = refl

  installing : (found : Result Registration RowFault) (shelf : ℕ) → is_none (row_on rows shelf) ≡ false → is_none (row_on (rows_after (if_row found) rows) shelf) ≡ false
  installing (Ok row) shelf some = installed_stays rows row shelf some
  installing (Err fault) shelf some = some

  kept : (P : Type 0) (now : List Registration) (shelf : ℕ) → now ≡ rows → is_none (row_on now shelf) ≡ true → is_none (row_on rows shelf) ≡ false → P
  kept P now shelf same none some = absurd (true≢false (sym none ∙ ap (λ (list : List Registration). is_none (row_on list shelf)) same ∙ some))

pub lost : (card : CardState) (command : CatCommand) (apdu : Apdu) (shelf : ℕ) → is_none (row_on (rows_after (command_by (Toolkit command) card apdu) card.persistent.rows) shelf) ≡ true
    → is_none (row_on card.persistent.rows shelf) ≡ false → Loses command apdu shelf
lost card commands.TerminalProfile apdu shelf none some = kept card.persistent.rows _ _ shelf refl none some
lost card commands.Fetch apdu shelf none some = kept card.persistent.rows _ _ shelf (fetching card.persistent.rows (unfetched card.session)) none some
lost card commands.TerminalResponse apdu shelf none some = kept card.persistent.rows _ _ shelf (responding card.persistent.rows apdu.body (unanswered card.session)) none some
lost card commands.Envelope apdu shelf none some = kept card.persistent.rows _ _ shelf (reported card.persistent.rows (envelope_of apdu.body)) none some
lost card commands.InstallApplet apdu shelf none some =
    absurd (true≢false (sym none ∙ installing card.persistent.rows (installed_row card.persistent (kind_in card apdu.p2) apdu.p2 apdu.p1 apdu.body) shelf some))
lost card commands.DeleteApplet apdu shelf none some =
    ⊎_elim {C = Loses commands.DeleteApplet apdu shelf} (λ same. (refl, same)) (λ apart. absurd (true≢false (sym none ∙ deleted_stays card.persistent.rows apdu.p2 shelf apart some))) (cases_eq shelf apdu.p2)

-- ---- DELETE finds a row

abbrev HasRow : CardState → Apdu → ToolkitOutcome → Type 0
HasRow card apdu outcome = is_none (row_on card.persistent.rows apdu.p2) ≡ false

found_row : (card : CardState) (apdu : Apdu) (o : Option Registration) (idle : Bool) (next : Registration → Result ToolkitOutcome StatusWord)
    → is_none o ≡ is_none (row_on card.persistent.rows apdu.p2) → MatchResult (and_given (row_or_status (unless_missing o NoRow (λ row. faulty_if (not idle) NotIdle (Ok row)))) next) (HasRow card apdu) Any
unfolding and_given
found_row card apdu None idle next is = tt
found_row card apdu (Some row) false next is = tt
found_row card apdu (Some row) true next is = by_next (next row) where
  by_next : (result : Result ToolkitOutcome StatusWord) → MatchResult result (HasRow card apdu) Any
  by_next (Ok outcome) = sym is
  by_next (Err status) = tt

delete_finds : (card : CardState) (seen : Verified) (apdu : Apdu) → MatchResult (applet_deleted card seen apdu) (HasRow card apdu) Any
unfolding applet_deleted
delete_finds card seen apdu =
    let H : ToolkitOutcome → Type 0 = HasRow card apdu in
    past H _ _ _ (past H _ _ _ (past H _ _ _ (found_row card apdu (row_on card.persistent.rows apdu.p2) (is_idle (asks card.session) apdu.p2) _ refl)))

pub deleted_had : (card : CardState) (seen : Verified) (apdu : Apdu) (outcome : ToolkitOutcome) → applet_deleted card seen apdu ≡ Ok outcome → is_none (row_on card.persistent.rows apdu.p2) ≡ false
deleted_had card seen apdu outcome is = subst (λ result. MatchResult result (HasRow card apdu) Any) is (delete_finds card seen apdu)

-- ---- the table

no_row : (shelf : ℕ) (o : Option Row) → IsSomeAnd o (λ row. row.used ≡ true) → option_and_then (registration_if shelf) o ≡ None → ⊥
no_row shelf None has is = has
no_row shelf (Some row) has is = by_used row.used has refl where
  by_used : (used : Bool) → used ≡ true → row.used ≡ used → ⊥
  by_used false on same = false≢true on
  by_used true on same = true≢false (ap is_some (sym (ap (λ (b : Bool). if b then Some (registration_of shelf row) else None) same) ∙ is))

-- where the table has no row on a shelf
pub none_there : RowsAreEntries → (table : Loaded) (shelf : ℕ) → is_none (row_on (rows_of table) shelf) ≡ true → HasRowOn table shelf → ⊥
unfolding state_of
none_there entries table shelf none has = no_row shelf (slice_get table.rows shelf) has (sym (entries table [] shelf) ∙ none_of (row_on (rows_of table) shelf) none)

-- ---- the row of an idle applet may go exactly where it is there

may_go : (o : Option Registration) → is_ok (allowed (unless_missing o NoRow (λ row. faulty_if (not true) NotIdle (Ok row)))) ≡ is_some o
may_go None = refl
may_go (Some row) = refl

pub may_go_is : (rows : List Registration) (shelf : ℕ) → is_ok (allowed (deleted_row rows shelf true)) ≡ is_some (row_on rows shelf)
may_go_is rows shelf = may_go (row_on rows shelf)
