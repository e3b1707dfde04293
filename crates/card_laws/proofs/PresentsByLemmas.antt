-- What each command is answered, and what each step of a run does to the tries of a key.
use Rattle.std.proofs.Common.{◌≡◌, ℕ, zero, suc, ◌≤◌, ◌<◌, Bool, true, false, List, [], ◌∷◌, ◌++◌, length, take, Some, refl, sym, ◌∙◌, ap, inl, inr, arith, ◌==◌, ◌&&◌, Contains, IfOk, MatchResult, slice_index_or, Result, Ok, Err}
use Rattle.std.proofs.lemmas.Bool.{false≢true}
use Rattle.uicc_types.specs.declared.answers.StatusWord.{StatusWord}
use Rattle.uicc_types.specs.declared.answers.TheConstants.StatusWord.{WRONG_LENGTH, NO_SUCH_CLASS, NO_SECURE_MESSAGING, NO_SUCH_CHANNEL, NO_SUCH_INSTRUCTION}
use Rattle.apdu_form.specs.Model.{Apdu, command_in}
use Rattle.card_state.specs.Persistent.{Persistent}
use Rattle.file_model.specs.Chains.{and_given}
use Rattle.file_model.specs.Commands.{pin_outcome}
use Rattle.file_model.specs.declared.commands.FileCommand.TheVariants.{Status}
use Rattle.file_model.specs.declared.commands.PinCommand.{PinCommand}
use Rattle.file_model.specs.declared.selections.Selection.{Selection}
use Rattle.file_model.specs.Guards.{Guard, OfPin, OfUnblock, guard_of, IsGuarded as IsGuardedBy, GuardsPins}
use Rattle.file_model.specs.Laws.{EachStep}
use Rattle.apdu_form.specs.Fields.{has_data}
use Rattle.file_model.specs.Outcomes.{FileOutcome, PinOutcome, last_of}
use Rattle.file_model.specs.TreeOutcomes.{TreeOutcome}
use Rattle.apdu_form.specs.Classes.{family, channel_of}
use Rattle.file_model.specs.Channels.{ChannelOutcome}
use Rattle.toolkit_model.specs.Commands.{polled}
use Rattle.toolkit_model.specs.Passing.{passed_rows}
use Rattle.card_model.specs.Answers.{Answered, settled, file_tried, pin_tried, managed, tree_tried, toolkit_tried, selection_on, seen_by, carried_out, on_files, then_polled, carried_with, tried, answer_of, passed}
use Rattle.card_model.proofs.TriedLemmas.{cut_so, of_tried}
use Rattle.card_model.specs.Instructions.{has_toolkit}
use Rattle.card_model.specs.States.{CardState}
use Rattle.card_model.specs.Toolkit.{ToolkitOutcome, toolkit_of, coming_to, states_passed}
use Rattle.card_model.specs.declared.instructions.Instruction.{Instruction}
use Rattle.card_model.specs.declared.instructions.Instruction.TheVariants.{File, Pin, ManageChannel, Toolkit, Tree}
use Rattle.card_model.specs.Chained.{Any}
use Rattle.card_model.proofs.RowNamedLemmas.{IsNamed, named_so}
use Rattle.card_model.specs.OtherFiles.{HaveOtherFiles}
use Rattle.card_model.proofs.OtherFilesLemmas.{file_leaves, tree_leaves}
use Rattle.card_model.proofs.IsCountedLemmas.{last_joined}
use Rattle.card_laws.specs.Guesses.{presents_by, is_trial, if_command, tries_of}
use Rattle.card_laws.specs.GuessLaws.{SetsNoTries}
use Rattle.card_laws.proofs.TellsTriesLemmas.{IsGuarded, NoGuess, PresentsNone, PresentsBy, EachKeepsOrFills, none_told, refused_guarded, quiet_guarded, pin_guarded, cut_guarded, pending_guarded}
use Rattle.card_laws.proofs.HaveSamePinsLemmas.{HaveSamePins, same_with_files, same_with_rows, same_joined, same_last}
use Rattle.card_laws.proofs.WithPinLemmas.{KeepsOrFills}
use Rattle.card_laws.proofs.PinOutcomeLemmas.{Comes, TellsNone, pin_comes}

-- ---- commands

-- the instruction byte presents a value as its command does
abbrev is_of : Guard → Guard → Bool
is_of OfPin OfPin = true
is_of OfUnblock OfUnblock = true
is_of _ _ = false

abbrev is_presented : Guard → Instruction → Bool
is_presented guard (Pin command) = is_of guard (guard_of command)
is_presented guard _ = false

abbrev Presents : Instruction → ℕ → ℕ → Type 0
Presents instruction class ins = (presents_by OfPin ins ≡ is_presented OfPin instruction) × (presents_by OfUnblock ins ≡ is_presented OfUnblock instruction)

named_presents : (knows : Instruction → Bool) (class ins : ℕ) (instruction : Instruction) → IsNamed knows class ins instruction → Presents instruction class ins
named_presents =
    named_so Presents
    ((refl, refl), ((refl, refl), ((refl, refl), ((refl, refl), ((refl, refl), ((refl, refl), ((refl, refl), ((refl, refl), ((refl, refl), ((refl, refl), ((refl, refl), ((refl, refl), ((refl, refl), ((refl, refl), ((refl, refl), ((refl, refl), ((refl, refl), ((refl, refl), ((refl, refl), ((refl, refl), ((refl, refl), ((refl, refl), ((refl, refl), ((refl, refl), ((refl, refl), tt)))))))))))))))))))))))))

none_by : (ins : ℕ) → (presents_by OfPin ins ≡ false) × (presents_by OfUnblock ins ≡ false) → (guard : Guard) → presents_by guard ins ≡ false
none_by ins is OfPin = is.0
none_by ins is OfUnblock = is.1

-- of one on PINs, against its guard and no other
by_guard : (ins : ℕ) (guard : Guard) → (presents_by OfPin ins ≡ is_of OfPin guard) × (presents_by OfUnblock ins ≡ is_of OfUnblock guard) → (presents_by guard ins ≡ true) × PresentsBy guard ins
by_guard ins OfPin is = (is.0, only) where
  only : PresentsBy OfPin ins
  only OfPin shown = refl
  only OfUnblock shown = absurd (false≢true (sym is.1 ∙ shown))
by_guard ins OfUnblock is = (is.1, only) where
  only : PresentsBy OfUnblock ins
  only OfPin shown = absurd (false≢true (sym is.0 ∙ shown))
  only OfUnblock shown = refl

module _ (guards : (command : PinCommand) → GuardsPins (guard_of command) (pin_outcome command)) (card : CardState) (bytes : List ℕ) where
  abbrev Q : Result Answered StatusWord → Type 0
  Q result = MatchResult result (IsGuarded card bytes) (NoGuess bytes)

  module _ (apdu : Apdu) (read : command_in bytes ≡ Some apdu) where
    quiet : ((guard : Guard) → presents_by guard apdu.ins ≡ false) → PresentsNone bytes
    quiet none guard key = ap (if_command (is_trial guard key)) read ∙ ap (λ (b : Bool). b && apdu.p2 == key && has_data apdu) (none guard)

    file_so : (outcome : Result FileOutcome StatusWord) → ((guard : Guard) → presents_by guard apdu.ins ≡ false) → MatchResult outcome (λ done. HaveOtherFiles card.persistent done.passed) Any → Q (file_tried card apdu outcome)
    unfolding and_given
    file_so (Err status) none leaves = λ guard key shown. absurd (false≢true (sym (quiet none guard key) ∙ shown))
    file_so (Ok outcome) none leaves = quiet_guarded card bytes _ (quiet none) refl (same_with_files card.persistent outcome.passed leaves) refl

    channel_so : (outcome : Result ChannelOutcome StatusWord) → ((guard : Guard) → presents_by guard apdu.ins ≡ false) → Q (managed card outcome)
    unfolding and_given
    channel_so (Err status) none = λ guard key shown. absurd (false≢true (sym (quiet none guard key) ∙ shown))
    channel_so (Ok outcome) none = quiet_guarded card bytes _ (quiet none) refl tt refl

    tree_so : (outcome : Result TreeOutcome StatusWord) → ((guard : Guard) → presents_by guard apdu.ins ≡ false) → MatchResult outcome (λ done. HaveOtherFiles card.persistent done.passed) Any → Q (tree_tried card outcome)
    unfolding and_given
    tree_so (Err status) none leaves = λ guard key shown. absurd (false≢true (sym (quiet none guard key) ∙ shown))
    tree_so (Ok outcome) none leaves = quiet_guarded card bytes _ (quiet none) refl (same_with_files card.persistent outcome.passed leaves) refl

    toolkit_so : (outcome : Result ToolkitOutcome StatusWord) → ((guard : Guard) → presents_by guard apdu.ins ≡ false) → Q (toolkit_tried card outcome)
    unfolding and_given
    toolkit_so (Err status) none = λ guard key shown. absurd (false≢true (sym (quiet none guard key) ∙ shown))
    toolkit_so (Ok outcome) none = quiet_guarded card bytes _ (quiet none) refl (same_with_rows card.persistent card.persistent outcome.next_sequence (passed_rows outcome.passed.log) refl) refl

    pin_so : (command : PinCommand) (key : ℕ) (guard : Guard) (outcome : Result PinOutcome StatusWord) → presents_by guard apdu.ins ≡ true → PresentsBy guard apdu.ins
        → MatchResult outcome (Comes guard card.persistent.pins card.verified apdu) TellsNone → IfOk outcome (IsGuardedBy guard card.persistent.pins apdu.p2) → Q (pin_tried card command key outcome)
    unfolding and_given
    pin_so command key guard (Err status) shows only comes guarded = none_told bytes status comes
    pin_so command key guard (Ok outcome) shows only comes guarded = pin_guarded card bytes apdu read guard shows only command key outcome comes guarded.steps

    abbrev selection : Selection
    selection = selection_on card (channel_of apdu.class)

    carried_so : (instruction : Instruction) → Presents instruction 0 apdu.ins → Q (carried_out instruction card apdu)
    unfolding carried_out
    carried_so (File command) is = file_so _ (none_by apdu.ins is) (file_leaves card.persistent (seen_by card) selection apdu command)
    carried_so (Pin command) is =
        let by = by_guard apdu.ins (guard_of command) is in
        pin_so command apdu.p2 (guard_of command) _ by.0 by.1 (pin_comes card.persistent.pins card.verified apdu command) (guards command card.persistent.pins card.verified apdu)
    carried_so ManageChannel is = channel_so _ (none_by apdu.ins is)
    carried_so (Toolkit command) is = toolkit_so _ (none_by apdu.ins is)
    carried_so (Tree command) is = tree_so _ (none_by apdu.ins is) (tree_leaves card.persistent (seen_by card) card.channels (channel_of apdu.class) apdu command)

    -- applets that are told of STATUS leave the PINs, too
    status_so : (outcome : Result FileOutcome StatusWord) → ((guard : Guard) → presents_by guard apdu.ins ≡ false) → MatchResult outcome (λ done. HaveOtherFiles card.persistent done.passed) Any
        → Q (and_given (file_tried card apdu outcome) (λ answered. Ok (then_polled answered)))
    unfolding and_given
    status_so (Err status) none leaves = λ guard key shown. absurd (false≢true (sym (quiet none guard key) ∙ shown))
    status_so (Ok outcome) none leaves =
        let same : HaveSamePins card.persistent outcome.passed = same_with_files card.persistent outcome.passed leaves in
        let left : CardState = (on_files card (channel_of apdu.class) outcome).state in
        let later : ToolkitOutcome = coming_to left [] (polled (toolkit_of left)) in
        let later_same : HaveSamePins card.persistent (states_passed left.persistent later) =
        same_with_rows card.persistent left.persistent later.next_sequence (passed_rows later.passed.log) (same_last card.persistent outcome.passed same) in
        quiet_guarded card bytes _ (quiet none) (last_joined card.persistent outcome.passed (states_passed left.persistent later))
        (same_joined card.persistent outcome.passed (states_passed left.persistent later) same later_same) refl

    -- no other command is an event
    no_event : (result : Result Answered StatusWord) → Q result → Q (and_given result (λ answered. Ok answered))
    unfolding and_given
    no_event (Err status) holds = holds
    no_event (Ok answered) holds = holds

    carried_with_so : (runs_applets : Bool) (instruction : Instruction) → Presents instruction 0 apdu.ins → Q (carried_with runs_applets instruction card apdu)
    unfolding carried_out
    carried_with_so false instruction is = carried_so instruction is
    carried_with_so true (File Status) is = status_so _ (none_by apdu.ins is) (file_leaves card.persistent (seen_by card) selection apdu Status)
    carried_with_so true instruction is = no_event (carried_out instruction card apdu) (carried_so instruction is)

  settled_so : (result : Result Answered StatusWord) → Q result → IsGuarded card bytes (settled card result)
  settled_so (Err status) none = refused_guarded card bytes status none
  settled_so (Ok answered) guarded = guarded

  -- a card of any commands
  pub answer_guarded : (knows : Instruction → Bool) → IsGuarded card bytes (answer_of knows card bytes)
  unfolding answer_of
  answer_guarded knows =
      let told : (status : StatusWord) → TellsNone status → NoGuess bytes status = none_told bytes in
      pending_guarded card bytes (settled card (tried knows card bytes)) (settled_so (tried knows card bytes) (
      of_tried knows card bytes Q (record { length_is = told WRONG_LENGTH refl; class_is = told NO_SUCH_CLASS refl; secure_is = told NO_SECURE_MESSAGING refl; channel_is = told NO_SUCH_CHANNEL refl; instruction_is = told NO_SUCH_INSTRUCTION refl })
      (λ apdu instruction read. cut_so (IsGuarded card bytes) (NoGuess bytes) apdu.expected _ (cut_guarded card bytes apdu.expected)
      (carried_with_so apdu read.read (has_toolkit knows) instruction (named_presents knows (family apdu.class) apdu.ins instruction read.named)))))

-- ---- commits

-- the last of some states is among them
pub last_among : {X : Type 0} (x : X) (xs : List X) → Contains (x ∷ xs) (last_of x xs)
last_among x [] = (0, omega arith, refl)
last_among x (y ∷ ys) = let rest = last_among y ys in (suc rest.0, omega (arith, rest.1), rest.2)

-- some of the first commits end in the state at their place
pub taken_last : {X : Type 0} (x y : X) (xs : List X) (k : ℕ) → k < length (x ∷ xs) → slice_index_or (x ∷ xs) k y ≡ y → last_of x (take k xs) ≡ y
taken_last x y xs zero low is = is
taken_last x y [] (suc k) low is = absurd (omega (arith, low))
taken_last x y (z ∷ zs) (suc k) low is = taken_last z y zs k (omega (arith, low)) is

pub each_taken : {X : Type 0} (R : X → X → Type 0) (x : X) (xs : List X) (k : ℕ) → EachStep R x xs → EachStep R x (take k xs)
each_taken R x [] zero steps = tt
each_taken R x [] (suc k) steps = tt
each_taken R x (y ∷ ys) zero steps = tt
each_taken R x (y ∷ ys) (suc k) steps = (steps.0, each_taken R y ys k steps.1)

pub each_front : {X : Type 0} (R : X → X → Type 0) (x : X) (xs ys : List X) → EachStep R x (xs ++ ys) → EachStep R x xs
each_front R x [] ys steps = tt
each_front R x (z ∷ zs) ys steps = (steps.0, each_front R z zs ys steps.1)

pub each_back : {X : Type 0} (R : X → X → Type 0) (x : X) (xs ys : List X) → EachStep R x (xs ++ ys) → EachStep R (last_of x xs) ys
each_back R x [] ys steps = steps
each_back R x (z ∷ zs) ys steps = each_back R z zs ys steps.1

-- where no commit gives all tries, none comes back
no_more : (guard : Guard) (key : ℕ) (old new : Persistent) → KeepsOrFills guard key old.pins new.pins → SetsNoTries guard key old new → tries_of guard key new.pins ≤ tries_of guard key old.pins
no_more guard key old new (inl less) sets = less
no_more guard key old new (inr full) sets = omega (arith, full, sets full)

pub fewer : (guard : Guard) (key : ℕ) (state : Persistent) (passed : List Persistent) → EachStep EachKeepsOrFills state passed → EachStep (SetsNoTries guard key) state passed
    → tries_of guard key (last_of state passed).pins ≤ tries_of guard key state.pins
fewer guard key state [] keeps sets = omega arith
fewer guard key state (next ∷ passed) keeps sets =
    let first = no_more guard key state next (keeps.0 guard key) sets.0 in
    let rest = fewer guard key next passed keeps.1 sets.1 in
    omega (arith, first, rest)
