-- The boxes of a card that is handed back, and those of one that was opened.
use Rattle.std.proofs.Common.{◌≡◌, ℕ, zero, suc, Bool, true, false, List, ◌∷◌, Option, Some, None, refl, sym, ap, ◌∙◌, subst, option_map, All, if◌then◌else◌, is_none, slice_index_or, slice_set}
use Rattle.std.specs.List.{list_all}
use Rattle.list_laws.proofs.CondLemmas.{mapped_Some}
use Rattle.uicc_types.specs.declared.identifiers.Shelf.{Shelf}
use Rattle.uicc_types.specs.declared.plans.TheConstants.Plan.{NONE}
use Rattle.card_state.specs.Migration.{ends_low, migrated}
use Rattle.card_state.specs.Persistent.{Persistent, Registration}
use Rattle.applet_trait.specs.Minds.{AppletState, kind_on}
use Rattle.toolkit_model.specs.Registry.{row_on}
use Rattle.toolkit_model.specs.Commands.{woken_boxes, woken_mind}
use Rattle.card_model.specs.States.{CardState, HasBox, IsGood, Machine, woken}
use Rattle.card_model.proofs.WokenLemmas.{woken_at, woken_kind}
use Rattle.card_core.specs.Cards.{boxes_kept, card_of, card_with, held_by}
use Rattle.card_core.specs.Openings.{with_all_shelves}
use Rattle.card_core.specs.Parts.{CardParts}
use Rattle.card_core.proofs.RestartLemmas.{had_box}
use Rattle.run_steps.specs.Ends.{End, moment_at}
use Rattle.run_steps.specs.Taking.{machine_of, moment}
use Rattle.run_steps.specs.Stepping.{Moment}
use Rattle.run_steps.proofs.StandingLemmas.{machine_is}
use Rattle.uicc_run.specs.Playing.{HasKindsOf, first_machine}

-- waking keeps the kinds of the boxes
kind_in : (row : Option Registration) (box : Option AppletState) → option_map (λ (mind : AppletState). mind.kind) (option_map (woken_mind row) box) ≡ option_map (λ (mind : AppletState). mind.kind) box
kind_in row None = refl
kind_in row (Some mind) = ap Some (woken_kind row mind mind.kind refl)

woken_kinds : (rows : List Registration) (boxes : List (Option AppletState)) (shelf : ℕ) → kind_on (woken_boxes rows boxes) shelf ≡ kind_on boxes shelf
woken_kinds rows boxes shelf = ap (option_map (λ (mind : AppletState). mind.kind)) (woken_at rows boxes shelf) ∙ kind_in (row_on rows shelf) (slice_index_or boxes shelf None)

-- the box that leaves is the only one that may be left out
emptied : (boxes : List (Option AppletState)) (at : ℕ) → HasKindsOf (slice_set boxes at None) boxes
emptied (box ∷ boxes) zero zero kind is = absurd (cc)
emptied (box ∷ boxes) (suc at) (suc shelf) kind is = emptied boxes at shelf kind is
emptied boxes at shelf kind is = is

emptied_if : (gone : Bool) (boxes : List (Option AppletState)) (at : ℕ) → HasKindsOf (if gone then slice_set boxes at None else boxes) boxes
emptied_if true boxes at = emptied boxes at
emptied_if false boxes at = λ shelf kind is. is

kept_kinds : (leaving : Option Shelf) (rows : List Registration) (boxes : List (Option AppletState)) → HasKindsOf (boxes_kept leaving rows boxes) boxes
kept_kinds None rows boxes = λ shelf kind is. is
kept_kinds (Some left) rows boxes = emptied_if (is_none (row_on rows left.0)) boxes left.0

kinds_with : (due : Bool) (parts : CardParts) (persistent : Persistent) → HasKindsOf (card_with due parts persistent).boxes parts.boxes
unfolding woken
kinds_with true parts persistent = λ shelf kind is.
    kept_kinds parts.leaving persistent.rows parts.boxes shelf kind (sym (woken_kinds persistent.rows (boxes_kept parts.leaving persistent.rows parts.boxes) shelf) ∙ is)
kinds_with false parts persistent = λ shelf kind is. is

card_kinds : (parts : CardParts) (card : CardState) → card_of parts ≡ Some card → HasKindsOf card.boxes parts.boxes
unfolding card_of
card_kinds parts card is =
    let found = mapped_Some (card_with parts.is_due parts) (held_by parts) card is in
    subst (λ (c : CardState). HasKindsOf c.boxes parts.boxes) found.2 (kinds_with parts.is_due parts found.0)

pub machine_kinds : (parts : CardParts) (machine : Machine) → machine_of parts ≡ Some machine → HasKindsOf machine.card.boxes parts.boxes
machine_kinds parts machine is = card_kinds parts machine.card (machine_is parts machine is).card

wide_rows : (wide : Bool) (state : Persistent) → (if wide then record state { is_wide = true } else state).rows ≡ state.rows
wide_rows true state = refl
wide_rows false state = refl

migrated_rows : (state : Persistent) → (migrated state).rows ≡ state.rows
unfolding migrated
migrated_rows state = wide_rows (list_all ends_low state.files) state

-- each applet of a card that was opened has its box
pub boxes_there : (start : Persistent) (boxes : List (Option AppletState)) → IsGood (first_machine start boxes).card → All (HasBox (with_all_shelves boxes)) start.rows
unfolding woken
boxes_there start boxes good =
    subst (λ (rows : List Registration). All (HasBox (with_all_shelves boxes)) rows) (migrated_rows start)
    (λ k d low. had_box (migrated start).rows (with_all_shelves boxes) (slice_index_or (migrated start).rows k d) (good.boxes k d low))

-- ---- at its end of a link

-- what holds of a card for which no plan waits holds of its end
pub at_end : (P : Moment → Type 0) (end : End) (parts : CardParts) (taken : Option (List ℕ)) → end.parts ≡ parts → end.waiting ≡ NONE → P (moment parts taken NONE) → P (moment_at end taken)
at_end P end parts taken same none holds = subst (λ w. P (moment end.parts taken w)) (sym none) (subst (λ p. P (moment p taken NONE)) (sym same) holds)
