-- What a card refuses a command with is the status of the first condition that holds.
use Rattle.std.proofs.Common.{◌≡◌, ℕ, zero, suc, ◌+◌, ◌≤◌, Bool, true, false, cond, List, [], ◌∷◌, ◌++◌, length, Option, Some, None, Result, Ok, Err, refl, sym, ◌∙◌, ap, subst, inl, inr, arith, not, ◌&&◌, ◌||◌, ◌==◌, ◌/◌, if◌then◌else◌, is_none, find, option_map, All, Contains, IfSome, MatchResult}
use Rattle.std.specs.Prelude.{⊤}
use Rattle.std.specs.List.{list_all}
use Rattle.std.proofs.lemmas.Bool.{false≢true, ne_eqb, not-true}
use Rattle.std.proofs.lemmas.List.Elements.{All-contains, All-head, All-tail}
use Rattle.list_laws.proofs.FindLemmas.{find_Some}
use Rattle.uicc_types.specs.Told.{AreBytes}
use Rattle.uicc_types.specs.declared.answers.StatusWord.{StatusWord}
use Rattle.uicc_types.specs.declared.answers.TheConstants.StatusWord.{DONE, END_OF_FILE, FILE_DEACTIVATED, CONDITIONS_NOT_SATISFIED, NO_FREE_CHANNEL, WRONG_LENGTH, WRONG_PARAMETERS}
use Rattle.access_rules.specs.declared.rules.Verified.{Verified}
use Rattle.apdu_form.specs.Classes.{channel_of}
use Rattle.apdu_form.specs.Fields.{has_no_data}
use Rattle.apdu_form.specs.Model.{Apdu, IsCommand, cut_to}
use Rattle.card_state.specs.Persistent.{Persistent, Pin, Registration}
use Rattle.card_state.specs.Soundness.{IsSoundPin}
use Rattle.file_model.specs.Chains.{and_given, given, refused_if}
use Rattle.file_model.specs.Channels.{ChannelOutcome, channel_closed, channel_opened, channel_tried, closed_channel, is_le_of_number, is_open}
use Rattle.file_model.specs.Commands.{contents_outcome, file_outcome, pin_outcome}
use Rattle.file_model.specs.LawfulTrees.{IsLawfulTree, IsLawfulTreeCommand, tree_refusals}
use Rattle.file_model.specs.Files.{descriptors_in}
use Rattle.file_model.specs.Laws.{IsFileRefusal, IsLawfulCommand, IsLawfulOutcome, file_refusals}
use Rattle.file_model.specs.Outcomes.{FileOutcome, PinOutcome}
use Rattle.file_model.specs.Pins.{pin_changed, pin_disabled, pin_enabled, pin_found, pin_presented, pin_unblocked, pin_verified, presented, told, tries_left, unblock_presented}
use Rattle.file_model.specs.Records.{other_length}
use Rattle.file_model.specs.Selections.{IsSelection}
use Rattle.file_model.specs.TreeCommands.{tree_outcome}
use Rattle.file_model.specs.TreeOutcomes.{TreeOutcome}
use Rattle.file_model.specs.declared.commands.ContentsCommand.TheVariants as ContentsCommands
use Rattle.file_model.specs.declared.commands.FileCommand.{FileCommand}
use Rattle.file_model.specs.declared.commands.FileCommand.TheVariants as FileCommands
use Rattle.file_model.specs.declared.commands.PinCommand.{PinCommand}
use Rattle.file_model.specs.declared.commands.PinCommand.TheVariants as PinCommands
use Rattle.file_model.specs.declared.selections.Selection.{Selection}
use Rattle.file_model.specs.declared.tree_commands.TreeCommand.{TreeCommand}
use Rattle.file_model.specs.declared.tree_commands.TreeCommand.TheVariants as TreeCommands
use Rattle.toolkit_model.specs.Commands.{command_bytes, pending, unfetched}
use Rattle.toolkit_model.specs.Registry.{faulty_if, unless_missing}
use Rattle.toolkit_model.specs.Sessions.{Outstanding}
use Rattle.toolkit_model.specs.declared.faults.RowFault.{RowFault}
use Rattle.toolkit_model.specs.declared.faults.RowFault.TheVariants.{BadData, MenuFull, Narrow, NoBox, NoRow, NotIdle, Spent, Taken}
use Rattle.card_model.proofs.AnswersLemmas.{channel_low, selected_is}
use Rattle.card_model.proofs.IsLawfulAnswerLemmas.{not_carried}
use Rattle.card_model.proofs.RowNamedLemmas.{all_hold}
use Rattle.card_model.proofs.ToldPendingLemmas.{pending_few, told_done}
use Rattle.card_model.proofs.TriedLemmas.{all_so, command_is}
use Rattle.card_model.specs.Answers.{Answered, answer, answer_of, carried_out, carried_with, cut_answer, event_told, is_carried_out, is_status, on_channels, on_files, on_pins, on_toolkit, on_trees, refusal, seen_by, selection_on, settled, told_pending, tried}
use Rattle.card_model.specs.Instructions.{instruction_tried, is_known}
use Rattle.card_model.specs.States.{CardState, IsGood}
use Rattle.card_model.specs.Toolkit.{ToolkitOutcome, applet_deleted, applet_installed, command_fetched, envelope_taken, profile_taken, response_taken, row_or_status, row_status, toolkit_outcome}
use Rattle.card_model.specs.declared.instructions.CatCommand.{CatCommand}
use Rattle.card_model.specs.declared.instructions.CatCommand.TheVariants as CatCommands
use Rattle.card_model.specs.declared.instructions.Instruction.{Instruction}
use Rattle.card_model.specs.declared.instructions.Instruction.TheVariants.{File, ManageChannel, Pin as OnPin, Toolkit, Tree}
use Rattle.card_laws.specs.CardRefusals.{closes_channel, first_of, opens_channel, refusals_in_order, refusals_of, refusals_of_change_pin, refusals_of_disable_pin, refusals_of_enable_pin, refusals_of_manage_channel, refusals_of_unblock_pin, refusals_of_verify_pin, refusals_on_files, refusals_on_pins, refusals_on_toolkit, refusals_on_trees}
use Rattle.card_laws.specs.CardRefusalLaws.{ConditionsRefuse, RefusesInOrder}
use Rattle.card_laws.specs.Lawful.{RefusalsChangeTriesAndMarkAlone}
use Rattle.card_laws.specs.RefusalLaws.{DoesNotHold, IsFirst, IsTestedBy}
use Rattle.card_laws.specs.Refusals.{Refusal, of_found}
use Rattle.card_laws.specs.ToolkitLaws.{AnswersLeaveGoodCards}
use Rattle.card_laws.proofs.IsStatusLemmas.{few_fetched}
use Rattle.card_laws.proofs.TakenLemmas.{of_running}
use Rattle.card_laws.proofs.RefusalLawsLemmas.{activate_refused, create_refused, deactivate_refused, delete_refused, increase_refused, read_binary_refused, read_record_refused, resize_refused, search_record_refused, select_refused, status_tested, update_binary_refused, update_record_refused}

-- ---- the first condition that holds

skipped : (b : Bool) (refusal : Refusal) (found : Option Refusal) → b ≡ false → option_map (λ (each : Refusal). each.1) (cond b (Some refusal) found) ≡ option_map (λ (each : Refusal). each.1) found
skipped true refusal found is = absurd (false≢true (sym is))
skipped false refusal found is = refl

none_first : (refusals : List Refusal) → All DoesNotHold refusals → first_of refusals ≡ None
none_first [] none = refl
none_first (refusal ∷ rest) none =
    skipped refusal.0 refusal (find (λ (each : Refusal). each.0) rest) (All-head DoesNotHold refusal rest none) ∙ none_first rest (All-tail DoesNotHold refusal rest none)

one_first : (before behind : List Refusal) (status : StatusWord) → All DoesNotHold before → first_of (before ++ (true, status) ∷ behind) ≡ Some status
one_first [] behind status none = refl
one_first (refusal ∷ before) behind status none =
    skipped refusal.0 refusal (find (λ (each : Refusal). each.0) (before ++ (true, status) ∷ behind)) (All-head DoesNotHold refusal before none) ∙ one_first before behind status (All-tail DoesNotHold refusal before none)

is_first : (refusals : List Refusal) (status : StatusWord) → IsFirst refusals status → first_of refusals ≡ Some status
is_first refusals status first = ap first_of first.stands ∙ one_first first.before first.behind status first.none_before

-- ---- statuses

-- what is refused with a status
abbrev told_by : StatusWord → Option StatusWord
told_by status = if is_carried_out status then None else Some status

abbrev Refuses : StatusWord → Type 0
Refuses status = is_carried_out status ≡ false

abbrev told_if : StatusWord → Bool → Option StatusWord
told_if status is = if is then None else Some status

told_none : (status : StatusWord) → is_carried_out status ≡ true → told_by status ≡ None
told_none status is = ap (told_if status) is

told_one : (status : StatusWord) → Refuses status → told_by status ≡ Some status
told_one status is = ap (told_if status) is

none_of_four : (a b c d : Bool) → a ≡ false → b ≡ false → c ≡ false → d ≡ false → (a || b || c || d) ≡ false
none_of_four true b c d one two three four = absurd (false≢true (sym one))
none_of_four false true c d one two three four = absurd (false≢true (sym two))
none_of_four false false true d one two three four = absurd (false≢true (sym three))
none_of_four false false false d one two three four = four

-- `63CX` and `6CXX`
word_refuses : (n : ℕ) → 0x6300 ≤ n → n ≤ 0x6CFF → Refuses (record { 0 = n })
word_refuses n high low =
    let pending : (n / 256 ≡ 0x91) → ⊥ = λ is. omega (arith, is, low) in
    none_of_four (n == DONE.0) (n / 256 == 0x91) (n == END_OF_FILE.0) (n == FILE_DEACTIVATED.0)
    (ne_eqb n DONE.0 (λ is. omega (arith, is, low))) (ne_eqb (n / 256) 0x91 pending) (ne_eqb n END_OF_FILE.0 (λ is. omega (arith, is, high))) (ne_eqb n FILE_DEACTIVATED.0 (λ is. omega (arith, is, high)))

tries_refuse : (tries : ℕ) → tries ≤ 10 → Refuses (tries_left tries)
tries_refuse tries few = word_refuses (0x63C0 + tries) (omega arith) (omega (arith, few))

length_refuses : (count : ℕ) → count ≤ 255 → Refuses (other_length count)
length_refuses count few = word_refuses (0x6C00 + count) (omega arith) (omega (arith, few))

listed_refuse : (xs : List StatusWord) → list_all (λ word. not (is_carried_out word)) xs ≡ true → (status : StatusWord) → Contains xs status → Refuses status
listed_refuse xs all status there = not-true (is_carried_out status) (all_hold (λ word. not (is_carried_out word)) xs all status there)

file_refuses : (status : StatusWord) → IsFileRefusal status → Refuses status
file_refuses status (inl there) = listed_refuse file_refusals refl status there
file_refuses status (inr (width, few, is)) = subst Refuses (sym is) (length_refuses width few)

-- what is told of bytes to fetch tells of no refusal
told_alike : (count : Option ℕ) (status : StatusWord) → IfSome count (λ n. n ≤ 255) → told_by (told_pending count status) ≡ told_by status
told_alike None status few = refl
told_alike (Some count) status few = by_done (status.0 == DONE.0) refl where
  by_done : (b : Bool) → (status.0 == DONE.0) ≡ b → told_by (if b then record { 0 = 0x9100 + count } else status) ≡ told_by status
  by_done true is =
      let done : is_carried_out status ≡ true = ap (λ (a : Bool). a || (status.0 / 256 == 0x91) || (status.0 == END_OF_FILE.0) || (status.0 == FILE_DEACTIVATED.0)) is in
      told_none (record { 0 = 0x9100 + count }) (told_done (Some count) few) ∙ sym (told_none status done)
  by_done false is = refl

-- ---- a chain of tests is its list of conditions

-- what a result is refused with: a command that is carried out with a status of a refusal counts as refused
abbrev refused_in : {X : Type 0} → (X → StatusWord) → Result X StatusWord → Option StatusWord
refused_in word (Ok x) = told_by (word x)
refused_in word (Err status) = Some status

record InOrder {X : Type 0} (word : X → StatusWord) (refusals : List Refusal) (result : Result X StatusWord) : Type 0 where
  first : refused_in word result ≡ first_of refusals
  refuses : MatchResult result (λ x. ⊤) Refuses

module _ {X : Type 0} (word : X → StatusWord) where
  done : (x : X) → is_carried_out (word x) ≡ true → InOrder word [] (Ok x)
  done x is = record { first = told_none (word x) is; refuses = tt }

  skip : (status : StatusWord) (rest : List Refusal) (result : Result X StatusWord) → InOrder word rest result → InOrder word ((false, status) ∷ rest) result
  skip status rest result is = record { first = is.first; refuses = is.refuses }

  past : (bad : Bool) (status : StatusWord) (rest : List Refusal) (next : Result X StatusWord) → Refuses status → InOrder word rest next → InOrder word ((bad, status) ∷ rest) (refused_if bad status next)
  unfolding refused_if
  past true status rest next refuses is = record { first = refl; refuses = refuses }
  past false status rest next refuses is = record { first = is.first; refuses = is.refuses }

  past_some : {Y : Type 0} (o : Option Y) (status : StatusWord) (rest : Y → List Refusal) (next : Y → Result X StatusWord) → Refuses status → ((y : Y) → o ≡ Some y → InOrder word (rest y) (next y))
      → InOrder word ((is_none o, status) ∷ of_found o rest) (given o status next)
  unfolding given
  past_some None status rest next refuses is = record { first = refl; refuses = refuses }
  past_some (Some y) status rest next refuses is = skip status (rest y) (next y) (is y refl)

  past_found : {Y : Type 0} (o : Option Y) (status : StatusWord) (rest : List Refusal) (next : Y → Result X StatusWord) → Refuses status → ((y : Y) → InOrder word rest (next y))
      → InOrder word ((is_none o, status) ∷ rest) (given o status next)
  unfolding given
  past_found None status rest next refuses is = record { first = refl; refuses = refuses }
  past_found (Some y) status rest next refuses is = skip status rest (next y) (is y)

  -- tests before others

  past_before : {Y : Type 0} (bad : Bool) (status : StatusWord) (rest : List Refusal) (first : Result Y StatusWord) (next : Y → Result X StatusWord) → Refuses status → InOrder word rest (and_given first next)
      → InOrder word ((bad, status) ∷ rest) (and_given (refused_if bad status first) next)
  unfolding refused_if and_given
  past_before true status rest first next refuses is = record { first = refl; refuses = refuses }
  past_before false status rest first next refuses is = skip status rest (and_given first next) is

  some_before : {Y Z : Type 0} (o : Option Z) (status : StatusWord) (rest : Z → List Refusal) (first : Z → Result Y StatusWord) (next : Y → Result X StatusWord) → Refuses status
      → ((z : Z) → InOrder word (rest z) (and_given (first z) next)) → InOrder word ((is_none o, status) ∷ of_found o rest) (and_given (given o status first) next)
  unfolding given and_given
  some_before None status rest first next refuses is = record { first = refl; refuses = refuses }
  some_before (Some z) status rest first next refuses is = skip status (rest z) (and_given (first z) next) (is z)

  -- tests of a row

  row_if : (bad : Bool) (fault : RowFault) (rest : List Refusal) (first : Result Registration RowFault) (next : Registration → Result X StatusWord) → Refuses (row_status fault)
      → InOrder word rest (and_given (row_or_status first) next) → InOrder word ((bad, row_status fault) ∷ rest) (and_given (row_or_status (faulty_if bad fault first)) next)
  unfolding and_given
  row_if true fault rest first next refuses is = record { first = refl; refuses = refuses }
  row_if false fault rest first next refuses is = skip (row_status fault) rest (and_given (row_or_status first) next) is

  row_some : {Z : Type 0} (o : Option Z) (fault : RowFault) (rest : Z → List Refusal) (first : Z → Result Registration RowFault) (next : Registration → Result X StatusWord) → Refuses (row_status fault)
      → ((z : Z) → InOrder word (rest z) (and_given (row_or_status (first z)) next)) → InOrder word ((is_none o, row_status fault) ∷ of_found o rest) (and_given (row_or_status (unless_missing o fault first)) next)
  unfolding and_given
  row_some None fault rest first next refuses is = record { first = refl; refuses = refuses }
  row_some (Some z) fault rest first next refuses is = skip (row_status fault) (rest z) (and_given (row_or_status (first z)) next) (is z)

  row_found : {Z : Type 0} (o : Option Z) (fault : RowFault) (rest : List Refusal) (first : Z → Result Registration RowFault) (next : Registration → Result X StatusWord) → Refuses (row_status fault)
      → ((z : Z) → InOrder word rest (and_given (row_or_status (first z)) next)) → InOrder word ((is_none o, row_status fault) ∷ rest) (and_given (row_or_status (unless_missing o fault first)) next)
  unfolding and_given
  row_found None fault rest first next refuses is = record { first = refl; refuses = refuses }
  row_found (Some z) fault rest first next refuses is = skip (row_status fault) rest (and_given (row_or_status (first z)) next) (is z)

-- what is made of what a command comes to
mapped : {X Y : Type 0} (word : X → StatusWord) (later : Y → StatusWord) (f : X → Y) (refusals : List Refusal) (result : Result X StatusWord) → ((x : X) → later (f x) ≡ word x)
    → InOrder word refusals result → InOrder later refusals (and_given result (λ x. Ok (f x)))
unfolding and_given
mapped word later f refusals (Err status) same is = record { first = is.first; refuses = is.refuses }
mapped word later f refusals (Ok x) same is = record { first = ap told_by (same x) ∙ is.first; refuses = tt }

-- a command of which its list is known to be the first
tested : {X : Type 0} (word : X → StatusWord) (refusals : List Refusal) (result : Result X StatusWord) → IsTestedBy refusals result → MatchResult result (λ x. is_carried_out (word x) ≡ true) Refuses → InOrder word refusals result
tested word refusals (Err status) by is = record { first = sym (is_first refusals status ((by.refused status).0 refl)); refuses = is }
tested word refusals (Ok x) by is = record { first = told_none (word x) is ∙ sym (none_first refusals (by.carried_out.0 (x, refl))); refuses = tt }

-- ---- commands on PINs

abbrev pin_word : PinOutcome → StatusWord
pin_word outcome = outcome.status

few_tries : (pins : List Pin) (key : ℕ) (pin : Pin) → All IsSoundPin pins → pin_found pins key ≡ Some pin → (pin.tries ≤ 10) × (pin.unblock_tries ≤ 10)
unfolding pin_found
few_tries pins key pin sound is =
    let one : IsSoundPin pin = All-contains IsSoundPin pins pin sound (find_Some (λ (p : Pin). p.key == key) pins pin is).0 in
    (omega (arith, one.tries), one.unblock_tries)

module _ (pins : List Pin) (sound : All IsSoundPin pins) (verified : Verified) (apdu : Apdu) where
  last_test : (is_right : Bool) (taken : Pin) (tries : ℕ) (restored : Pin) (marks : Verified) → tries ≤ 10 → InOrder pin_word ((not is_right, tries_left tries) ∷ []) (Ok (presented pins verified is_right taken tries restored marks))
  unfolding presented
  last_test true taken tries restored marks few = record { first = refl; refuses = tt }
  last_test false taken tries restored marks few = record { first = told_one (tries_left tries) (tries_refuse tries few); refuses = tt }

  past_asking : (asks : Bool) (tries : ℕ) (rest : List Refusal) (next : Result PinOutcome StatusWord) → tries ≤ 10 → InOrder pin_word rest next
      → InOrder pin_word ((asks, tries_left tries) ∷ rest) (if asks then Ok (told verified tries) else next)
  past_asking true tries rest next few is = record { first = told_one (tries_left tries) (tries_refuse tries few); refuses = tt }
  past_asking false tries rest next few is = record { first = is.first; refuses = is.refuses }

  verify_in_order : InOrder pin_word (refusals_of_verify_pin pins apdu) (pin_verified pins verified apdu)
  unfolding pin_verified pin_presented
  verify_in_order =
      past pin_word _ _ _ _ refl (past pin_word _ _ _ _ refl (past pin_word _ _ _ _ refl (past_some pin_word _ _ _ _ refl (λ pin is.
      let few = few_tries pins apdu.p2 pin sound is in
      past pin_word _ _ _ _ refl (past_asking _ _ _ _ few.0 (past pin_word _ _ _ _ refl (last_test _ _ _ _ _ (omega (arith, few.0)))))))))

  change_in_order : InOrder pin_word (refusals_of_change_pin pins apdu) (pin_changed pins verified apdu)
  unfolding pin_changed pin_presented
  change_in_order =
      past pin_word _ _ _ _ refl (past pin_word _ _ _ _ refl (past pin_word _ _ _ _ refl (past_some pin_word _ _ _ _ refl (λ pin is.
      let few = few_tries pins apdu.p2 pin sound is in
      past pin_word _ _ _ _ refl (past pin_word _ _ _ _ refl (last_test _ _ _ _ _ (omega (arith, few.0))))))))

  disable_in_order : InOrder pin_word (refusals_of_disable_pin pins apdu) (pin_disabled pins verified apdu)
  unfolding pin_disabled pin_presented
  disable_in_order =
      past pin_word _ _ _ _ refl (past pin_word _ _ _ _ refl (past pin_word _ _ _ _ refl (past_some pin_word _ _ _ _ refl (λ pin is.
      let few = few_tries pins apdu.p2 pin sound is in
      past pin_word _ _ _ _ refl (past pin_word _ _ _ _ refl (last_test _ _ _ _ _ (omega (arith, few.0))))))))

  enable_in_order : InOrder pin_word (refusals_of_enable_pin pins apdu) (pin_enabled pins verified apdu)
  unfolding pin_enabled pin_presented
  enable_in_order =
      past pin_word _ _ _ _ refl (past pin_word _ _ _ _ refl (past pin_word _ _ _ _ refl (past_some pin_word _ _ _ _ refl (λ pin is.
      let few = few_tries pins apdu.p2 pin sound is in
      past pin_word _ _ _ _ refl (past pin_word _ _ _ _ refl (last_test _ _ _ _ _ (omega (arith, few.0))))))))

  unblock_in_order : InOrder pin_word (refusals_of_unblock_pin pins apdu) (pin_unblocked pins verified apdu)
  unfolding pin_unblocked unblock_presented
  unblock_in_order =
      past pin_word _ _ _ _ refl (past pin_word _ _ _ _ refl (past pin_word _ _ _ _ refl (past_some pin_word _ _ _ _ refl (λ pin is.
      let few = few_tries pins apdu.p2 pin sound is in
      past pin_word _ _ _ _ refl (past_asking _ _ _ _ few.1 (last_test _ _ _ _ _ (omega (arith, few.1))))))))

-- ---- MANAGE CHANNEL

abbrev channel_word : ChannelOutcome → StatusWord
channel_word outcome = DONE

module _ (channels : List (Option Selection)) (selection : Selection) (apdu : Apdu) where
  abbrev channel_tests : Bool → Bool → List Refusal
  channel_tests opens closes =
      (not (opens || closes), WRONG_PARAMETERS)
      ∷ (not (if opens then has_no_data apdu && is_le_of_number apdu.expected else has_no_data apdu), WRONG_LENGTH)
      ∷ (opens && is_none (closed_channel channels), NO_FREE_CHANNEL)
      ∷ (not opens && not (is_open channels apdu.p2), CONDITIONS_NOT_SATISFIED)
      ∷ []

  by_parameters : (opens closes : Bool) → InOrder channel_word (channel_tests opens closes) (if opens then channel_opened channels selection apdu else if closes then channel_closed channels apdu else Err WRONG_PARAMETERS)
  by_parameters true closes = skip channel_word _ _ _ (past channel_word _ _ _ _ refl (past_found channel_word _ _ _ _ refl (λ channel. skip channel_word _ _ _ (done channel_word _ refl))))
  by_parameters false true = skip channel_word _ _ _ (past channel_word _ _ _ _ refl (skip channel_word _ _ _ (past channel_word _ _ _ _ refl (done channel_word _ refl))))
  by_parameters false false = record { first = refl; refuses = refl }

  channel_in_order : InOrder channel_word (refusals_of_manage_channel channels apdu) (channel_tried channels selection apdu)
  unfolding channel_tried
  channel_in_order = by_parameters (opens_channel apdu) (closes_channel apdu)

-- ---- commands of the toolkit

abbrev toolkit_word : ToolkitOutcome → StatusWord
toolkit_word outcome = DONE

module _ (card : CardState) (good : IsGood card) (seen : Verified) (apdu : Apdu) where
  fetch_in_order : (out : Outstanding) → unfetched card.session ≡ Some out → Refuses (other_length (length (command_bytes out)))
  fetch_in_order out is = length_refuses (length (command_bytes out)) (few_fetched card.session out good.session.underway.out_sendable is)

  toolkit_in_order : (command : CatCommand) → InOrder toolkit_word (refusals_on_toolkit command card seen apdu) (toolkit_outcome command card seen apdu)
  unfolding toolkit_outcome profile_taken command_fetched response_taken envelope_taken applet_installed applet_deleted and_given
  toolkit_in_order CatCommands.TerminalProfile = past toolkit_word _ _ _ _ refl (past toolkit_word _ _ _ _ refl (done toolkit_word _ refl))
  toolkit_in_order CatCommands.Fetch =
      past toolkit_word _ _ _ _ refl (past toolkit_word _ _ _ _ refl (past_some toolkit_word _ _ _ _ refl (λ out is.
      past toolkit_word _ _ _ _ (fetch_in_order out is) (done toolkit_word _ refl))))
  toolkit_in_order CatCommands.TerminalResponse =
      past toolkit_word _ _ _ _ refl (past toolkit_word _ _ _ _ refl (past_some toolkit_word _ _ _ _ refl (λ out is.
      past_found toolkit_word _ _ _ _ refl (λ reply. done toolkit_word _ refl))))
  toolkit_in_order CatCommands.Envelope =
      past toolkit_word _ _ _ _ refl (past toolkit_word _ _ _ _ refl (past_some toolkit_word _ _ _ _ refl (λ envelope is.
      past toolkit_word _ _ _ _ refl (done toolkit_word _ refl))))
  toolkit_in_order CatCommands.InstallApplet =
      past toolkit_word _ _ _ _ refl (past toolkit_word _ _ _ _ refl (past toolkit_word _ _ _ _ refl (
      row_some toolkit_word _ BadData _ _ _ refl (λ installation.
      row_some toolkit_word _ NoBox _ _ _ refl (λ kind.
      row_if toolkit_word _ Narrow _ _ _ refl (
      row_if toolkit_word _ Taken _ _ _ refl (
      row_if toolkit_word _ MenuFull _ _ _ refl (
      row_if toolkit_word _ Spent _ _ _ refl (done toolkit_word _ refl)))))))))
  toolkit_in_order CatCommands.DeleteApplet =
      past toolkit_word _ _ _ _ refl (past toolkit_word _ _ _ _ refl (past toolkit_word _ _ _ _ refl (
      row_found toolkit_word _ NoRow _ _ _ refl (λ row.
      row_if toolkit_word _ NotIdle _ _ _ refl (done toolkit_word _ refl)))))

-- ---- commands on files

abbrev file_word : FileOutcome → StatusWord
file_word outcome = outcome.status

abbrev tree_word : TreeOutcome → StatusWord
tree_word outcome = DONE

abbrev card_word : Answered → StatusWord
card_word answered = answered.status

lawful_file : (card : CardState) (result : Result FileOutcome StatusWord) → MatchResult result (IsLawfulOutcome card.persistent) IsFileRefusal → MatchResult result (λ outcome. is_carried_out (file_word outcome) ≡ true) Refuses
lawful_file card (Err status) is = file_refuses status is
lawful_file card (Ok outcome) is = all_hold is_carried_out (DONE ∷ END_OF_FILE ∷ FILE_DEACTIVATED ∷ []) refl outcome.status is.status

lawful_tree : (card : CardState) (result : Result TreeOutcome StatusWord) → MatchResult result (IsLawfulTree card.persistent card.channels) (Contains tree_refusals) → MatchResult result (λ outcome. is_carried_out (tree_word outcome) ≡ true) Refuses
lawful_tree card (Err status) is = listed_refuse tree_refusals refl status is
lawful_tree card (Ok outcome) is = refl

file_tested : (state : Persistent) (seen : Verified) (selection : Selection) (apdu : Apdu) → IsSelection (descriptors_in state) selection → (command : FileCommand) → IsTestedBy (refusals_on_files command state seen selection apdu) (file_outcome command state seen selection apdu)
unfolding file_outcome contents_outcome
file_tested state seen selection apdu lawful FileCommands.Select = select_refused state seen selection apdu
file_tested state seen selection apdu lawful FileCommands.Status = status_tested state seen selection apdu lawful
file_tested state seen selection apdu lawful (FileCommands.Contents ContentsCommands.ReadBinary) = read_binary_refused state seen selection apdu
file_tested state seen selection apdu lawful (FileCommands.Contents ContentsCommands.UpdateBinary) = update_binary_refused state seen selection apdu
file_tested state seen selection apdu lawful (FileCommands.Contents ContentsCommands.ReadRecord) = read_record_refused state seen selection apdu
file_tested state seen selection apdu lawful (FileCommands.Contents ContentsCommands.UpdateRecord) = update_record_refused state seen selection apdu
file_tested state seen selection apdu lawful (FileCommands.Contents ContentsCommands.SearchRecord) = search_record_refused state seen selection apdu
file_tested state seen selection apdu lawful (FileCommands.Contents ContentsCommands.Increase) = increase_refused state seen selection apdu
file_tested state seen selection apdu lawful (FileCommands.Contents ContentsCommands.Deactivate) = deactivate_refused state seen selection apdu
file_tested state seen selection apdu lawful (FileCommands.Contents ContentsCommands.Activate) = activate_refused state seen selection apdu

tree_tested : (state : Persistent) (seen : Verified) (channels : List (Option Selection)) (channel : ℕ) (apdu : Apdu) (command : TreeCommand)
    → IsTestedBy (refusals_on_trees command state seen channels channel apdu) (tree_outcome command state seen channels channel apdu)
unfolding tree_outcome
tree_tested state seen channels channel apdu TreeCommands.Create = create_refused state seen channels channel apdu
tree_tested state seen channels channel apdu TreeCommands.Delete = delete_refused state seen channels channel apdu
tree_tested state seen channels channel apdu TreeCommands.Resize = resize_refused state seen channels channel apdu

-- ---- each instruction

pin_in_order : (pins : List Pin) → All IsSoundPin pins → (verified : Verified) (apdu : Apdu) (command : PinCommand) → InOrder pin_word (refusals_on_pins command pins apdu) (pin_outcome command pins verified apdu)
pin_in_order pins sound verified apdu PinCommands.Verify = verify_in_order pins sound verified apdu
pin_in_order pins sound verified apdu PinCommands.Change = change_in_order pins sound verified apdu
pin_in_order pins sound verified apdu PinCommands.Disable = disable_in_order pins sound verified apdu
pin_in_order pins sound verified apdu PinCommands.Enable = enable_in_order pins sound verified apdu
pin_in_order pins sound verified apdu PinCommands.Unblock = unblock_in_order pins sound verified apdu

abbrev FilesAreLawful : Type 0
FilesAreLawful = (command : FileCommand) → IsLawfulCommand (file_outcome command)

abbrev TreesAreLawful : Type 0
TreesAreLawful = (command : TreeCommand) → IsLawfulTreeCommand (tree_outcome command)

event_word : (is_event : Bool) (answered : Answered) → (event_told is_event answered).status ≡ answered.status
event_word true answered = refl
event_word false answered = refl

module _ (files : FilesAreLawful) (trees : TreesAreLawful) (card : CardState) (good : IsGood card) (bytes : List ℕ) (are : AreBytes bytes) where
  module _ (apdu : Apdu) (is : IsCommand bytes apdu) where
    abbrev selection : Selection
    selection = selection_on card (channel_of apdu.class)

    on_file : (command : FileCommand) → InOrder file_word (refusals_on_files command card.persistent (seen_by card) selection apdu) (file_outcome command card.persistent (seen_by card) selection apdu)
    on_file command =
        let selected = selected_is card good (channel_of apdu.class) (channel_low apdu.class) in
        tested file_word _ _ (file_tested card.persistent (seen_by card) selection apdu selected command) (lawful_file card _ (
        files command bytes apdu card.persistent (seen_by card) selection is good.sound selected))

    on_tree : (command : TreeCommand) → InOrder tree_word (refusals_on_trees command card.persistent (seen_by card) card.channels (channel_of apdu.class) apdu) (tree_outcome command card.persistent (seen_by card) card.channels (channel_of apdu.class) apdu)
    on_tree command =
        tested tree_word _ _ (tree_tested card.persistent (seen_by card) card.channels (channel_of apdu.class) apdu command) (lawful_tree card _ (
        trees command card.persistent (seen_by card) card.channels (channel_of apdu.class) apdu good.sound good.channels.selected))

    carried_in_order : (instruction : Instruction) → InOrder card_word (refusals_of instruction card apdu) (carried_out instruction card apdu)
    unfolding carried_out
    carried_in_order (File command) = mapped file_word card_word (on_files card (channel_of apdu.class)) _ _ (λ outcome. refl) (on_file command)
    carried_in_order (OnPin command) = mapped pin_word card_word (on_pins card command apdu.p2) _ _ (λ outcome. refl) (pin_in_order card.persistent.pins good.sound.sound.pins card.verified apdu command)
    carried_in_order ManageChannel = mapped channel_word card_word (on_channels card) _ _ (λ outcome. refl) (channel_in_order card.channels selection apdu)
    carried_in_order (Toolkit command) = mapped toolkit_word card_word (on_toolkit card) _ _ (λ outcome. refl) (toolkit_in_order card good (seen_by card) apdu command)
    carried_in_order (Tree command) = mapped tree_word card_word (on_trees card) _ _ (λ outcome. refl) (on_tree command)

    -- the applets are told of STATUS, and the data are cut to Le
    instruction_in_order : (instruction : Instruction) → InOrder card_word (refusals_of instruction card apdu) (and_given (carried_with true instruction card apdu) (λ answered. Ok (cut_answer apdu.expected answered)))
    instruction_in_order instruction =
        mapped card_word card_word (cut_answer apdu.expected) _ _ (λ answered. refl) (
        mapped card_word card_word (event_told (is_status instruction)) _ _ (event_word (is_status instruction)) (carried_in_order instruction))

  tried_in_order : InOrder card_word (refusals_in_order card bytes) (tried is_known card bytes)
  unfolding tried instruction_tried and_given
  tried_in_order =
      past_some card_word _ _ _ _ refl (λ apdu read.
      past_before card_word _ _ _ _ _ refl (
      past_before card_word _ _ _ _ _ refl (
      past_before card_word _ _ _ _ _ refl (
      past_before card_word _ _ _ _ _ refl (
      some_before card_word _ _ _ _ _ refl (λ row.
      past_before card_word _ _ _ _ _ refl (instruction_in_order apdu (command_is bytes apdu are read) row.instruction)))))))

-- ---- the answer

settled_word : (card : CardState) (result : Result Answered StatusWord) → MatchResult result (λ answered. ⊤) Refuses → told_by (settled card result).status ≡ refused_in card_word result
settled_word card (Err status) refuses = told_one status refuses
settled_word card (Ok answered) refuses = refl

answer_refuses : (card : CardState) (bytes : List ℕ) → IsGood (answer card bytes).state → InOrder card_word (refusals_in_order card bytes) (tried is_known card bytes) → refusal is_known card bytes ≡ first_of (refusals_in_order card bytes)
unfolding refusal answer_of
answer_refuses card bytes good is =
    let answered : Answered = settled card (tried is_known card bytes) in
    told_alike (pending answered.state.session) answered.status (pending_few answered.state.session good.session.underway.out_sendable) ∙ settled_word card (tried is_known card bytes) is.refuses ∙ is.first

pub refuses_in_order : FilesAreLawful → TreesAreLawful → AnswersLeaveGoodCards → RefusesInOrder
refuses_in_order files trees stay card bytes good are = answer_refuses card bytes (stay is_known card bytes refl good are).0 (tried_in_order files trees card good bytes are)

-- ---- no data

-- what is answered with a status of a refusal has no data
abbrev Bare : Result Answered StatusWord → Type 0
Bare result = MatchResult result (λ answered. Refuses answered.status → answered.body ≡ []) (λ status. ⊤)

bare_made : {X : Type 0} (word : X → StatusWord) (f : X → Answered) (result : Result X StatusWord) → ((x : X) → (f x).status ≡ word x) → MatchResult result (λ x. is_carried_out (word x) ≡ true) Refuses
    → Bare (and_given result (λ x. Ok (f x)))
unfolding and_given
bare_made word f (Err status) same is = tt
bare_made word f (Ok x) same is = λ refuses. absurd (false≢true (sym refuses ∙ ap is_carried_out (same x) ∙ is))

bare_so : {X : Type 0} (f : X → Answered) (result : Result X StatusWord) → ((x : X) → Refuses (f x).status → (f x).body ≡ []) → Bare (and_given result (λ x. Ok (f x)))
unfolding and_given
bare_so f (Err status) so = tt
bare_so f (Ok x) so = so x

bare_told : (is_event : Bool) (result : Result Answered StatusWord) → Bare result → Bare (and_given result (λ answered. Ok (event_told is_event answered)))
unfolding and_given
bare_told is_event (Err status) bare = tt
bare_told true (Ok answered) bare = bare
bare_told false (Ok answered) bare = bare

cut_none : (expected : Option ℕ) → cut_to expected [] ≡ []
cut_none None = refl
cut_none (Some zero) = refl
cut_none (Some (suc most)) = refl

bare_cut : (expected : Option ℕ) (result : Result Answered StatusWord) → Bare result → Bare (and_given result (λ answered. Ok (cut_answer expected answered)))
unfolding and_given
bare_cut expected (Err status) bare = tt
bare_cut expected (Ok answered) bare = λ refuses. ap (cut_to expected) (bare refuses) ∙ cut_none expected

bare_settled : (card : CardState) (result : Result Answered StatusWord) → Bare result → Refuses (settled card result).status → (settled card result).body ≡ []
bare_settled card (Err status) bare refuses = refl
bare_settled card (Ok answered) bare refuses = bare refuses

module _ (files : FilesAreLawful) (card : CardState) (good : IsGood card) (bytes : List ℕ) (are : AreBytes bytes) where
  carried_bare : (apdu : Apdu) → IsCommand bytes apdu → (instruction : Instruction) → Bare (carried_out instruction card apdu)
  unfolding carried_out
  carried_bare apdu is (File command) =
      bare_made file_word (on_files card (channel_of apdu.class)) _ (λ outcome. refl) (lawful_file card _ (
      files command bytes apdu card.persistent (seen_by card) (selection_on card (channel_of apdu.class)) is good.sound (selected_is card good (channel_of apdu.class) (channel_low apdu.class))))
  carried_bare apdu is (OnPin command) = bare_so (on_pins card command apdu.p2) _ (λ outcome refuses. refl)
  carried_bare apdu is ManageChannel = bare_so (on_channels card) _ (λ outcome refuses. absurd (false≢true (sym refuses)))
  carried_bare apdu is (Toolkit command) = bare_so (on_toolkit card) _ (λ outcome refuses. absurd (false≢true (sym refuses)))
  carried_bare apdu is (Tree command) = bare_so (on_trees card) _ (λ outcome refuses. refl)

  tried_bare : Bare (tried is_known card bytes)
  tried_bare =
      of_running is_known card bytes refl Bare (all_so _ (λ status. tt)) (λ apdu instruction read.
      bare_cut apdu.expected _ (bare_told (is_status instruction) _ (carried_bare apdu (command_is bytes apdu are read.read) instruction)))

  no_data : IsGood (answer card bytes).state → (status : StatusWord) → refusal is_known card bytes ≡ Some status → (answer card bytes).body ≡ []
  unfolding refusal answer_of
  no_data left status is =
      let answered : Answered = settled card (tried is_known card bytes) in
      let same = told_alike (pending answered.state.session) answered.status (pending_few answered.state.session left.session.underway.out_sendable) in
      bare_settled card (tried is_known card bytes) tried_bare (not_carried (is_carried_out answered.status) answered.status status (sym same ∙ is)).0

status_told : (card : CardState) (bytes : List ℕ) (status : StatusWord) → refusal is_known card bytes ≡ Some status → (answer card bytes).status ≡ status
unfolding refusal
status_told card bytes status is = (not_carried (is_carried_out (answer card bytes).status) (answer card bytes).status status is).1

pub conditions_refuse : FilesAreLawful → AnswersLeaveGoodCards → RefusesInOrder → RefusalsChangeTriesAndMarkAlone → ConditionsRefuse
conditions_refuse files stay in_order keep card bytes status good are first =
    let is : refusal is_known card bytes ≡ Some status = in_order card bytes good are ∙ first in
    record {
      status_is = status_told card bytes status is;
      body = no_data files card good bytes are (stay is_known card bytes refl good are).0 status is;
      keeps = keep is_known card bytes status good are is;
    }
