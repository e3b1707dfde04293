-- The applets that are registered in a card that a script describes have their boxes.
use Rattle.std.proofs.Common.{◌≡◌, ℕ, zero, suc, ◌-◌, List, [], ◌∷◌, ◌++◌, length, replicate, Option, Some, None, refl, sym, subst, All, IfSome, IsSomeAnd, option_map, slice_index_or}
use Rattle.std.proofs.lemmas.List.Elements.{All-nil}
use Rattle.card_state.specs.Persistent.{Registration}
use Rattle.applet_trait.specs.Minds.{AppletState}
use Rattle.card_model.specs.States.{HasBox}
use Rattle.card_core.specs.Openings.{with_all_shelves}
use Rattle.command_line.specs.Model.{AskForRun, IsRequest}
use Rattle.command_line.specs.declared.requests.Mode.{Mode}
use Rattle.command_line.specs.declared.requests.Request.{Request}
use Rattle.command_line.specs.declared.requests.Mode.TheVariants as mode
use Rattle.section_lines.specs.RowLaws.{AreOfTheirBoxes, IsOfItsBox}
use Rattle.uicc_run.specs.Opening.{first_of, IsAskedFor}
use Rattle.uicc_run.specs.Playing.{Given}

-- what stands in a list stands in a longer one
stays_in : {A : Type 0} → (boxes more : List (Option A)) (shelf : ℕ) (mind : A) → slice_index_or boxes shelf None ≡ Some mind → slice_index_or (boxes ++ more) shelf None ≡ Some mind
stays_in [] more shelf mind is = absurd (cc)
stays_in (box ∷ boxes) more zero mind is = is
stays_in (box ∷ boxes) more (suc shelf) mind is = stays_in boxes more shelf mind is

-- a row that is of the kind of the box on its shelf has its box
kind_there : (kind : ℕ) (box : Option AppletState) → option_map (λ (mind : AppletState). mind.kind) box ≡ Some kind → (mind : AppletState) × (box ≡ Some mind) × (mind.kind ≡ kind)
kind_there kind None is = absurd (cc)
kind_there kind (Some mind) is = (mind, refl, cc)

has_box : (cast : List (Option AppletState)) (row : Registration) → IsOfItsBox cast row → HasBox (with_all_shelves cast) row
has_box cast row is =
    let found = kind_there row.kind (slice_index_or cast row.shelf None) is in
    subst (λ (box : Option AppletState). IsSomeAnd box (λ (mind : AppletState). mind.kind ≡ row.kind)) (sym (stays_in cast (replicate (32 - length cast) None) row.shelf found.0 found.1)) found.2

pub have_boxes : (cast : List (Option AppletState)) (rows : List Registration) → All (IsOfItsBox cast) rows → All (HasBox (with_all_shelves cast)) rows
have_boxes cast rows all = λ k d low. has_box cast (slice_index_or rows k d) (all k d low)

-- the rows of the card that lines are added to, if there is one, are of their boxes
abbrev pub IsBoxed : Given → Type 0
IsBoxed given = IfSome given.first (AreOfTheirBoxes given.boxes)

first_boxed : (cast : List (Option AppletState)) (asked : Mode) → IfSome (first_of asked) (AreOfTheirBoxes cast)
first_boxed cast mode.Open = tt
first_boxed cast mode.Bip = tt
first_boxed cast other = All-nil (IsOfItsBox cast)

-- so they are in a run for which its words ask: there are none
pub is_boxed : (given : Given) (words : List (List ℕ)) → ((asked : Request) → IsRequest words asked → IsAskedFor given asked) → AskForRun words → IsBoxed given
is_boxed given words wish asks =
    subst (λ first. IfSome first (AreOfTheirBoxes given.boxes)) (sym (wish asks.0 asks.1).first_is) (first_boxed given.boxes asks.0.mode)
