-- The scene of a card, on which commands of the toolkit are carried out.
use Rattle.std.proofs.Common.{◌≡◌, ◌⊎◌, inl, inr, ℕ, Bool, true, false, List, Option, Some, None, Result, Ok, refl, sym, ◌∙◌, ap, subst, MatchResult}
use Rattle.std.specs.Prelude.{⊤}
use Rattle.uicc_types.specs.declared.answers.Answer.{Answer}
use Rattle.uicc_types.specs.declared.answers.StatusWord.{StatusWord}
use Rattle.uicc_types.specs.declared.identifiers.Shelf.{Shelf}
use Rattle.apdu_form.specs.Model.{Apdu}
use Rattle.store_form.specs.declared.store.StoreFault.{StoreFault}
use Rattle.card_state.specs.declared.entries.Loaded.{Loaded}
use Rattle.card_state.specs.Persistent.{Persistent}
use Rattle.card_state.specs.States.{pins_of}
use Rattle.access_rules.specs.declared.rules.Verified.{Verified}
use Rattle.file_model.specs.Access.{keys_seen}
use Rattle.file_model.specs.Chains.{and_given}
use Rattle.file_model.specs.Files.{descriptors_of}
use Rattle.card_commits.specs.Laws.{IsTold}
use Rattle.applet_trait.specs.Minds.{AppletState}
use Rattle.toolkit_model.specs.Steps.{ToolkitInput}
use Rattle.proactive_handler.specs.Steps.{Scene, scene}
use Rattle.card_model.specs.Answers.{Answered, carried_out, event_told, on_toolkit, toolkit_tried, seen_by}
use Rattle.card_model.specs.States.{CardState}
use Rattle.card_model.specs.Toolkit.{ToolkitOutcome, toolkit_outcome}
use Rattle.card_model.specs.declared.instructions.Instruction.TheVariants.{Toolkit}
use Rattle.card_model.specs.declared.instructions.CatCommand.{CatCommand}
use Rattle.card_model.specs.declared.instructions.CatCommand.TheVariants.{TerminalProfile, Fetch, TerminalResponse, Envelope, InstallApplet, DeleteApplet}
use Rattle.cat_commands.specs.Carrying.{HasToolkit, Carries, CarriesOut}
use Rattle.card_laws.specs.ToolkitLaws.{CommandsLeaveRows}
use Rattle.card_laws.specs.Moving.{HasOrder, LeavesRows, command_by}
use Rattle.card_core.specs.Cards.{memory_of, card_with}
use Rattle.card_core.specs.Commands.{leaving_by}
use Rattle.card_core.specs.Parts.{CardParts}
use Rattle.card_core.proofs.KnownLemmas.{sees_by}

-- ---- which command it is

pub by_toolkit : (command : CatCommand) (card : CardState) (apdu : Apdu) → carried_out (Toolkit command) card apdu ≡ toolkit_tried card (toolkit_outcome command card (seen_by card) apdu)
unfolding carried_out
by_toolkit command card apdu = refl

-- a DELETE alone lets an applet leave
abbrev pub is_delete : CatCommand → Bool
is_delete DeleteApplet = true
is_delete _ = false

abbrev pub LeavesBy : CatCommand → Apdu → Option Shelf → Type 0
LeavesBy command apdu leaving = ((leaving ≡ None) × (is_delete command ≡ false)) ⊎ ((command ≡ DeleteApplet) × (leaving ≡ Some (record { 0 = apdu.p2 })))

pub leaves_by : (command : CatCommand) (apdu : Apdu) → LeavesBy command apdu (leaving_by command apdu)
leaves_by DeleteApplet apdu = inr (refl, refl)
leaves_by TerminalProfile apdu = inl (refl, refl)
leaves_by Fetch apdu = inl (refl, refl)
leaves_by TerminalResponse apdu = inl (refl, refl)
leaves_by Envelope apdu = inl (refl, refl)
leaves_by InstallApplet apdu = inl (refl, refl)

-- ---- the scene of a card

abbrev pub scene_of : CardParts → Scene
scene_of parts = scene (memory_of parts) parts.index parts.session parts.boxes

pub has_toolkit_of : (parts : CardParts) (state : Persistent) → IsTold parts.table state → HasToolkit (scene_of parts) (card_with false parts state)
has_toolkit_of parts state told = record { told = told; session_is = refl; boxes_are = refl }

-- ---- what its commits leave of the rows

commits_leave : (command : Option ToolkitInput) (card : CardState) (outcome : ToolkitOutcome) (event : Bool) (result : Result Answered StatusWord) → result ≡ Ok (on_toolkit card outcome) → event ≡ false
    → MatchResult (and_given result (λ answered. Ok (event_told event answered))) (λ answered. LeavesRows command card answered) (λ status. ⊤) → LeavesRows command card (on_toolkit card outcome)
unfolding and_given
commits_leave command card outcome event result is silent leaves =
    subst (λ (b : Bool). LeavesRows command card (event_told b (on_toolkit card outcome))) silent
    (subst (λ (came : Result Answered StatusWord). MatchResult (and_given came (λ answered. Ok (event_told event answered))) (λ answered. LeavesRows command card answered) (λ status. ⊤)) is leaves)

pub rows_left : CommandsLeaveRows → (command : CatCommand) → (card : CardState) (apdu : Apdu) (outcome : ToolkitOutcome) → HasOrder card
    → toolkit_outcome command card (seen_by card) apdu ≡ Ok outcome → LeavesRows (command_by (Toolkit command) card apdu) card (on_toolkit card outcome)
unfolding and_given
rows_left law command card apdu outcome ready came =
    commits_leave (command_by (Toolkit command) card apdu) card outcome false (carried_out (Toolkit command) card apdu) (by_toolkit command card apdu ∙ ap (toolkit_tried card) came) refl (law card (Toolkit command) apdu ready)

-- ---- what is lent

abbrev pub LentScene : CardParts → Loaded → List (Option AppletState) → Scene
LentScene parts table minds = scene (record (memory_of parts) { table = table }) parts.index parts.session minds

-- what is said of a table and boxes that were lent holds of the card's own
pub lent : (F : Scene → Scene → Type 0) (old new : CardParts) (table : Loaded) (minds now : List (Option AppletState)) → table ≡ old.table → minds ≡ old.boxes → now ≡ new.boxes → F (LentScene old table minds) (LentScene new new.table now) → F (scene_of old) (scene_of new)
lent F old new table minds now same was is holds =
    subst (λ (t : Loaded). F (LentScene old t old.boxes) (scene_of new)) same (subst (λ (m : List (Option AppletState)). F (LentScene old table m) (scene_of new)) was (subst (λ (n : List (Option AppletState)). F (LentScene old table minds) (LentScene new new.table n)) is holds))

-- what a command does to each card that the scene may be
pub carried_so : {X : Type 0} (command : CatCommand) (apdu : Apdu) (out : Answer) (old new : CardParts) (result : Result X StoreFault)
    → CarriesOut (λ card. toolkit_outcome command card (keys_seen (pins_of old.table) old.verified) apdu) out (scene_of old) (scene_of new) result
    → (state : Persistent) → IsTold old.table state → Carries (toolkit_outcome command (card_with false old state) (seen_by (card_with false old state)) apdu) out (scene_of old) (scene_of new) result
carried_so command apdu out old new result carries state told =
    subst (λ (keys : Verified). Carries (toolkit_outcome command (card_with false old state) keys apdu) out (scene_of old) (scene_of new) result) (sees_by old old.table refl state told) (carries (card_with false old state) (has_toolkit_of old state told))

-- ---- the selections

pub files_beside_rows : (old new : Loaded) → new ≡ record old { rows = new.rows; next = new.next } → descriptors_of new ≡ descriptors_of old
unfolding descriptors_of
files_beside_rows old new is = ap descriptors_of is

-- where the rows alone are others
pub rows_alone_moved : (old new : Loaded) → new ≡ record old { rows = new.rows } → new ≡ record old { rows = new.rows; next = new.next }
rows_alone_moved old new is = is ∙ ap (λ (next : ℕ). record old { rows = new.rows; next = next }) (sym (ap (λ (table : Loaded). table.next) is))
