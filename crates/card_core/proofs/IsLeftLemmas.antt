-- What a fault leaves of a card where a command leaves the rows and the boxes alone.
use Rattle.std.proofs.Common.{◌≡◌, ℕ, ◌≤◌, Bool, true, false, List, ◌∷◌, length, Option, Some, None, option_map, Result, Ok, Err, refl, sym, ◌∙◌, ap, subst, All, IsSomeAnd, MatchResult, Contains, is_none}
use Rattle.std.specs.Prelude.{⊤}
use Rattle.std.proofs.lemmas.Bool.{true≢false}
use Rattle.std.proofs.lemmas.List.Elements.{All-nil, All-cons, All-contains}
use Rattle.list_laws.proofs.ContainsLemmas.{front_of}
use Rattle.uicc_types.specs.declared.answers.StatusWord.{StatusWord}
use Rattle.apdu_form.specs.Model.{Apdu}
use Rattle.card_state.specs.Persistent.{Registration, Persistent}
use Rattle.file_model.specs.Chains.{and_given}
use Rattle.file_model.specs.declared.commands.FileCommand.TheVariants.{Select, Status, Contents}
use Rattle.applet_trait.specs.Minds.{AppletState}
use Rattle.toolkit_model.specs.Registry.{row_on}
use Rattle.toolkit_model.specs.Commands.{woken_boxes}
use Rattle.toolkit_model.specs.Steps.{ToolkitInput}
use Rattle.card_model.specs.Answers.{Answered, settled, carried_out, event_told, is_status}
use Rattle.card_model.specs.Instructions.{is_of_toolkit}
use Rattle.card_model.specs.Runs.{IsLeft, boxes_left}
use Rattle.card_model.specs.States.{CardState, woken}
use Rattle.card_model.specs.declared.instructions.Instruction.{Instruction}
use Rattle.card_model.specs.declared.instructions.Instruction.TheVariants.{File, Pin as OnPins, ManageChannel, Toolkit, Tree}
use Rattle.card_laws.specs.ToolkitLaws.{CommandsLeaveRows}
use Rattle.card_laws.specs.Moving.{HaveFixed, HasOrder, LeavesRows, command_by, rows_after}
use Rattle.card_core.specs.Cards.{held_by, boxes_kept, card_with, card_due}
use Rattle.card_core.specs.Known.{IsLeftAt}
use Rattle.card_core.specs.Parts.{CardParts}
use Rattle.card_core.proofs.BoxesKeptLemmas.{at, IsLeftSo, boxes_left_so}
use Rattle.card_core.proofs.RowOnLemmas.{same_shelves}
use Rattle.card_core.proofs.StopsAtLemmas.{stops_one}

-- ---- the rows

unchanged : (instruction : Instruction) (card : CardState) (apdu : Apdu) → is_of_toolkit instruction ≡ false → rows_after (command_by instruction card apdu) card.persistent.rows ≡ card.persistent.rows
unchanged (File Select) card apdu beside = refl
unchanged (File Status) card apdu beside = refl
unchanged (File (Contents command)) card apdu beside = refl
unchanged (OnPins command) card apdu beside = refl
unchanged ManageChannel card apdu beside = refl
unchanged (Toolkit command) card apdu beside = absurd (true≢false beside)
unchanged (Tree command) card apdu beside = refl

abbrev Fixed : CardState → List Persistent → Type 0
Fixed card commits = All (λ state. HaveFixed card.persistent.rows state.rows) commits

told_fixed : (card : CardState) (command : Option ToolkitInput) (event : Bool) (answered : Answered) → rows_after command card.persistent.rows ≡ card.persistent.rows → LeavesRows command card (event_told event answered) → Fixed card answered.commits
told_fixed card command false answered same leaves = subst (λ (rows : List Registration). All (λ state. HaveFixed rows state.rows) answered.commits) same leaves.fixed
told_fixed card command true answered same leaves =
    subst (λ (rows : List Registration). All (λ state. HaveFixed rows state.rows) answered.commits) same (front_of (λ state. HaveFixed (rows_after command card.persistent.rows) state.rows) answered.commits _ leaves.fixed)

settled_fixed : (card : CardState) (command : Option ToolkitInput) (event : Bool) (result : Result Answered StatusWord) → rows_after command card.persistent.rows ≡ card.persistent.rows
    → MatchResult (and_given result (λ answered. Ok (event_told event answered))) (λ answered. LeavesRows command card answered) (λ status. ⊤) → Fixed card (settled card result).commits
unfolding and_given
settled_fixed card command event (Err status) same leaves = All-nil (λ (state : Persistent). HaveFixed card.persistent.rows state.rows)
settled_fixed card command event (Ok answered) same leaves = told_fixed card command event answered same leaves

-- ---- the boxes

same_left : (card : CardState) (now : Persistent) → HaveFixed card.persistent.rows now.rows → woken_boxes now.rows card.boxes ≡ woken_boxes now.rows (boxes_left card.persistent.rows now.rows card.boxes)
same_left card now same = boxes_left_so card.persistent.rows now.rows card.boxes card.boxes refl (λ k. by_rows k (row_on now.rows k) (row_on card.persistent.rows k) refl refl) where
  by_rows : (k : ℕ) (after was : Option Registration) → row_on now.rows k ≡ after → row_on card.persistent.rows k ≡ was → IsLeftSo after was (at card.boxes k) (at card.boxes k)
  by_rows k (Some row) None is was_is = refl
  by_rows k (Some row) (Some other) is was_is = refl
  by_rows k None None is was_is = refl
  by_rows k None (Some row) is was_is = absurd (true≢false (sym (ap is_none is) ∙ same_shelves card.persistent.rows now.rows k same ∙ ap is_none was_is))

still_left : (new : CardParts) (card : CardState) (commits : List Persistent) → new.leaving ≡ None → new.boxes ≡ card.boxes → Fixed card commits → (held : Option Persistent)
    → IsSomeAnd held (Contains (card.persistent ∷ commits)) → IsSomeAnd (option_map (card_with true new) held) (IsLeft card (card.persistent ∷ commits))
unfolding woken
still_left new card commits stays boxes fixed None one = one
still_left new card commits stays boxes fixed (Some now) one =
    let same : HaveFixed card.persistent.rows now.rows =
    All-contains (λ (state : Persistent). HaveFixed card.persistent.rows state.rows) (card.persistent ∷ commits) now (All-cons (λ (state : Persistent). HaveFixed card.persistent.rows state.rows) card.persistent commits refl fixed) one in
    let kept : boxes_kept new.leaving now.rows new.boxes ≡ card.boxes = ap (λ leaving. boxes_kept leaving now.rows new.boxes) stays ∙ boxes in
    record {
      persistent = now;
      passed = one;
      woke = ap (λ (list : List (Option AppletState)). record (woken now new.boxes) { boxes = list }) (ap (woken_boxes now.rows) kept ∙ same_left card now same);
    }

-- ---- the card

pub fault_left : CommandsLeaveRows → (instruction : Instruction) (apdu : Apdu) → is_of_toolkit instruction ≡ false → (card : CardState) (new : CardParts) → new.leaving ≡ None → new.boxes ≡ card.boxes → HasOrder card
    → IsSomeAnd (held_by new) (Contains (card.persistent ∷ (settled card (carried_out instruction card apdu)).commits))
    → IsSomeAnd (card_due new) (IsLeft card (card.persistent ∷ (settled card (carried_out instruction card apdu)).commits))
unfolding card_due
fault_left law instruction apdu beside card new stays boxes ready holds =
    still_left new card (settled card (carried_out instruction card apdu)).commits stays boxes
    (settled_fixed card (command_by instruction card apdu) (is_status instruction) (carried_out instruction card apdu) (unchanged instruction card apdu beside) (law card instruction apdu ready)) (held_by new) holds

-- ---- a command that commits once at most

pub left_once : CommandsLeaveRows → (instruction : Instruction) (apdu : Apdu) → is_of_toolkit instruction ≡ false → (old new : CardParts) (state : Persistent) → new.leaving ≡ None → new.boxes ≡ old.boxes → HasOrder (card_with false old state)
    → length (settled (card_with false old state) (carried_out instruction (card_with false old state) apdu)).commits ≤ 1 → new.commits ≡ old.commits
    → IsSomeAnd (held_by new) (Contains (state ∷ (settled (card_with false old state) (carried_out instruction (card_with false old state) apdu)).commits))
    → IsLeftAt old new (card_with false old state) (settled (card_with false old state) (carried_out instruction (card_with false old state) apdu)).commits
left_once law instruction apdu beside old new state stays boxes order few same one =
    let card : CardState = card_with false old state in
    record {
      left = fault_left law instruction apdu beside card new stays boxes order one;
      stops = stops_one state (settled card (carried_out instruction card apdu)).commits old.commits new.commits (held_by new) few same one;
    }
