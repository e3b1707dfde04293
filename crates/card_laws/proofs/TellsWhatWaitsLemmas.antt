-- What the status of an answer tells of the command that there is to fetch.
use Rattle.std.proofs.Common.{◌≡◌, ◌⊎◌, inl, inr, ℕ, ◌+◌, ◌≤◌, Bool, true, false, List, [], ◌∷◌, Option, Some, None, Result, Ok, Err, refl, sym, ◌∙◌, ap, subst, arith, ◌==◌, ◌/◌, ◌||◌, not, if◌then◌else◌, MatchResult, Contains}
use Rattle.std.specs.List.{list_all}
use Rattle.std.proofs.lemmas.Bool.{false≢true, eq-eqb, ne_eqb, not-true}
use Rattle.uicc_types.specs.Told.{AreBytes}
use Rattle.uicc_types.specs.declared.answers.StatusWord.{StatusWord}
use Rattle.uicc_types.specs.declared.answers.TheConstants.StatusWord.{DONE, END_OF_FILE, FILE_DEACTIVATED}
use Rattle.apdu_form.specs.Model.{Apdu, IsCommand}
use Rattle.file_model.specs.declared.selections.Selection.{Selection}
use Rattle.file_model.specs.Chains.{and_given}
use Rattle.file_model.specs.Laws.{IsLawfulOutcome, IsFileRefusal, file_refusals, IsLawfulCommand, TellsTries, IsLawfulPinOutcome, pin_refusals, IsLawfulPinCommand}
use Rattle.file_model.specs.Outcomes.{FileOutcome, PinOutcome}
use Rattle.file_model.specs.Pins.{tries_left}
use Rattle.file_model.specs.TreeOutcomes.{TreeOutcome}
use Rattle.file_model.specs.LawfulTrees.{IsLawfulTreeCommand, tree_refusals}
use Rattle.apdu_form.specs.Classes.{channel_of}
use Rattle.file_model.specs.Channels.{ChannelOutcome}
use Rattle.file_model.specs.declared.commands.FileCommand.{FileCommand}
use Rattle.file_model.specs.declared.commands.PinCommand.{PinCommand}
use Rattle.file_model.specs.declared.tree_commands.TreeCommand.{TreeCommand}
use Rattle.file_model.specs.Commands.{file_outcome, pin_outcome}
use Rattle.file_model.specs.TreeCommands.{tree_outcome}
use Rattle.toolkit_model.specs.Commands.{pending}
use Rattle.card_model.specs.Answers.{Answered, settled, told_pending, file_tried, pin_tried, managed, tree_tried, toolkit_tried, selection_on, seen_by, is_status, event_told, carried_out, carried_with, tried, answer_of}
use Rattle.card_model.specs.Instructions.{has_toolkit}
use Rattle.card_model.proofs.RowNamedLemmas.{all_hold}
use Rattle.card_model.specs.States.{CardState, IsGood}
use Rattle.card_model.specs.Toolkit.{ToolkitOutcome}
use Rattle.card_model.specs.declared.instructions.Instruction.{Instruction}
use Rattle.card_model.specs.declared.instructions.Instruction.TheVariants.{File, Pin, ManageChannel, Toolkit, Tree}
use Rattle.card_model.proofs.TriedLemmas.{cut_so, command_is}
use Rattle.card_model.proofs.AnswersLemmas.{channel_low, selected_is, managed_lawful}
use Rattle.card_model.specs.Laws.{statuses}
use Rattle.card_laws.specs.Announcing.{TellsWhatWaits}
use Rattle.card_laws.proofs.TakingLemmas.{outcome_is}
use Rattle.card_laws.proofs.InsOfLemmas.{IsRefusal, length_refused}
use Rattle.card_laws.proofs.TakenLemmas.{of_running}

-- ---- statuses

-- the status of a command that was carried out, before it tells of what waits: it isn't `91XX`
abbrev IsPlain : StatusWord → Type 0
IsPlain status = (status.0 / 256 == 0x91) ≡ false

abbrev is_plain : StatusWord → Bool
is_plain status = not (status.0 / 256 == 0x91)

listed_plain : (listed : List StatusWord) → list_all is_plain listed ≡ true → (status : StatusWord) → Contains listed status → IsPlain status
listed_plain listed all status there = not-true (status.0 / 256 == 0x91) (all_hold is_plain listed all status there)

second_false : (a b c d : Bool) → (a || b || c || d) ≡ false → b ≡ false
second_false true b c d is = absurd (false≢true (sym is))
second_false false true c d is = absurd (false≢true (sym is))
second_false false false c d is = refl

refusal_plain : (status : StatusWord) → IsRefusal status → IsPlain status
refusal_plain status is = second_false (status.0 == DONE.0) (status.0 / 256 == 0x91) (status.0 == END_OF_FILE.0) (status.0 == FILE_DEACTIVATED.0) is

file_plain : (status : StatusWord) → IsFileRefusal status → IsPlain status
file_plain status (inl there) = listed_plain file_refusals refl status there
file_plain status (inr width) = subst IsPlain (sym width.2) (refusal_plain _ (length_refused width.0 width.1))

tries_plain : (status : StatusWord) → (status ≡ DONE) ⊎ TellsTries status → IsPlain status
tries_plain status (inl done) = subst IsPlain (sym done) refl
tries_plain status (inr tells) = let few = tells.1 in subst IsPlain (sym tells.2) (ne_eqb ((tries_left tells.0).0 / 256) 0x91 (λ is. omega (arith, is, few)))

-- ---- what is told

by_none : (status : StatusWord) → IsPlain status → (size : ℕ) → size ≤ 255 → status.0 ≡ 0x9100 + size → {X : Type 0} → X
by_none status plain size few is = absurd (false≢true (sym plain ∙ eq-eqb (status.0 / 256) 0x91 (omega (arith, few, is))))

told_waits : (count : Option ℕ) (status : StatusWord) → IsPlain status → (size : ℕ) → size ≤ 255 → (told_pending count status).0 ≡ 0x9100 + size → count ≡ Some size
told_waits None status plain size few is = by_none status plain size few is
told_waits (Some count) status plain size few is = by_done (status.0 == DONE.0) is where
  by_done : (b : Bool) → (if b then record { 0 = 0x9100 + count } else status).0 ≡ 0x9100 + size → Some count ≡ Some size
  by_done true same = ap (λ (n : ℕ). Some n) (omega (arith, same))
  by_done false same = by_none status plain size few same

told_none : (count : Option ℕ) (status : StatusWord) → told_pending count status ≡ DONE → count ≡ None
told_none None status is = refl
told_none (Some count) status is = by_done (status.0 == DONE.0) refl is where
  by_done : (b : Bool) → (status.0 == DONE.0) ≡ b → (if b then record { 0 = 0x9100 + count } else status) ≡ DONE → Some count ≡ None
  by_done true done same = let numbers : 0x9100 + count ≡ 0x9000 = ap (λ (each : StatusWord). each.0) same in absurd (omega (arith, numbers))
  by_done false other same = absurd (false≢true (sym other ∙ eq-eqb status.0 DONE.0 (ap (λ (each : StatusWord). each.0) same)))

-- ---- each instruction

abbrev PlainIn : Result Answered StatusWord → Type 0
PlainIn result = MatchResult result (λ answered. IsPlain answered.status) IsPlain

module _ (card : CardState) (good : IsGood card) (apdu : Apdu) where
  of_file : (outcome : Result FileOutcome StatusWord) → MatchResult outcome (IsLawfulOutcome card.persistent) IsFileRefusal → PlainIn (file_tried card apdu outcome)
  unfolding and_given
  of_file (Err status) is = file_plain status is
  of_file (Ok outcome) is = listed_plain (DONE ∷ END_OF_FILE ∷ FILE_DEACTIVATED ∷ []) refl outcome.status is.status

  of_pin : (command : PinCommand) (key : ℕ) (outcome : Result PinOutcome StatusWord) → MatchResult outcome (IsLawfulPinOutcome card.persistent card.verified apdu.p2) (Contains pin_refusals) → PlainIn (pin_tried card command key outcome)
  unfolding and_given
  of_pin command key (Err status) is = listed_plain pin_refusals refl status is
  of_pin command key (Ok outcome) is = tries_plain outcome.status is.status

  of_channel : (P : ChannelOutcome → Type 0) (outcome : Result ChannelOutcome StatusWord) → MatchResult outcome P (Contains statuses) → PlainIn (managed card outcome)
  unfolding and_given
  of_channel P (Err status) is = listed_plain statuses refl status is
  of_channel P (Ok outcome) is = refl

  of_tree : (P : TreeOutcome → Type 0) (outcome : Result TreeOutcome StatusWord) → MatchResult outcome P (Contains tree_refusals) → PlainIn (tree_tried card outcome)
  unfolding and_given
  of_tree P (Err status) is = listed_plain tree_refusals refl status is
  of_tree P (Ok outcome) is = refl

  of_toolkit : (P : ToolkitOutcome → Type 0) (outcome : Result ToolkitOutcome StatusWord) → MatchResult outcome P IsRefusal → PlainIn (toolkit_tried card outcome)
  unfolding and_given
  of_toolkit P (Err status) is = refusal_plain status is
  of_toolkit P (Ok outcome) is = refl

  module _ (files : (command : FileCommand) → IsLawfulCommand (file_outcome command)) (pins : (command : PinCommand) → IsLawfulPinCommand (pin_outcome command))
      (trees : (command : TreeCommand) → IsLawfulTreeCommand (tree_outcome command)) (bytes : List ℕ) (is : IsCommand bytes apdu)
    where
      abbrev selection : Selection
      selection = selection_on card (channel_of apdu.class)

      carried_plain : (instruction : Instruction) → PlainIn (carried_out instruction card apdu)
      unfolding carried_out
      carried_plain (File command) = of_file _ (files command bytes apdu card.persistent (seen_by card) selection is good.sound (selected_is card good (channel_of apdu.class) (channel_low apdu.class)))
      carried_plain (Pin command) = of_pin command apdu.p2 _ (pins command card.persistent card.verified apdu good.sound.sound)
      carried_plain ManageChannel = of_channel _ _ (managed_lawful card good apdu)
      carried_plain (Toolkit command) = of_toolkit _ _ (outcome_is card apdu good (seen_by card) command)
      carried_plain (Tree command) = of_tree _ _ (trees command card.persistent (seen_by card) card.channels (channel_of apdu.class) apdu good.sound good.channels.selected)

      event_plain : (b : Bool) (result : Result Answered StatusWord) → PlainIn result → PlainIn (and_given result (λ answered. Ok (event_told b answered)))
      unfolding and_given
      event_plain b (Err status) plain = plain
      event_plain true (Ok answered) plain = plain
      event_plain false (Ok answered) plain = plain

      carried_with_plain : (instruction : Instruction) → PlainIn (carried_with true instruction card apdu)
      carried_with_plain instruction = event_plain (is_status instruction) (carried_out instruction card apdu) (carried_plain instruction)

-- ---- the answer

module _ (files : (command : FileCommand) → IsLawfulCommand (file_outcome command)) (pins : (command : PinCommand) → IsLawfulPinCommand (pin_outcome command))
    (trees : (command : TreeCommand) → IsLawfulTreeCommand (tree_outcome command)) (knows : Instruction → Bool) (card : CardState) (bytes : List ℕ) (runs : has_toolkit knows ≡ true) (good : IsGood card)
  where
    tried_plain : AreBytes bytes → PlainIn (tried knows card bytes)
    tried_plain are =
        of_running knows card bytes runs PlainIn (record { length_is = refl; class_is = refl; secure_is = refl; channel_is = refl; instruction_is = refl })
        (λ apdu instruction read. cut_so (λ answered. IsPlain answered.status) IsPlain apdu.expected _ (λ answered plain. plain) (carried_with_plain card good apdu files pins trees bytes (command_is bytes apdu are read.read) instruction))

    settled_plain : (result : Result Answered StatusWord) → PlainIn result → IsPlain (settled card result).status
    settled_plain (Err status) plain = plain
    settled_plain (Ok answered) plain = plain

    pub answer_tells : AreBytes bytes → TellsWhatWaits (answer_of knows card bytes)
    unfolding answer_of
    answer_tells are =
        let answered : Answered = settled card (tried knows card bytes) in
        let plain : IsPlain answered.status = settled_plain (tried knows card bytes) (tried_plain are) in
        record {
          waits = told_waits (pending answered.state.session) answered.status plain;
          none = told_none (pending answered.state.session) answered.status;
        }
