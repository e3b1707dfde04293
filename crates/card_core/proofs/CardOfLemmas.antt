-- What a card stands for, from its parts.
use Rattle.std.proofs.Common.{◌≡◌, Bool, true, false, List, Option, Some, None, option_map, refl, sym, ◌∙◌, ap, subst, IfSome, is_some}
use Rattle.list_laws.proofs.IfSomeLemmas.{is_some-map, if_some_at}
use Rattle.card_state.specs.Persistent.{Persistent}
use Rattle.access_rules.specs.declared.rules.Verified.{Verified}
use Rattle.file_model.specs.declared.selections.Selection.{Selection}
use Rattle.applet_trait.specs.Minds.{AppletState}
use Rattle.toolkit_model.specs.Sessions.{SessionState}
use Rattle.card_model.specs.States.{CardState}
use Rattle.card_core.specs.Starts.{HoldsCard}
use Rattle.card_core.specs.Parts.{CardParts}
use Rattle.card_core.specs.Cards.{held_by, card_with, card_of, card_due}

pub if_mapped : {X Y : Type 0} (f : X → Y) (P : Y → Type 0) (o : Option X) → ((x : X) → o ≡ Some x → P (f x)) → IfSome (option_map f o) P
if_mapped f P None each = tt
if_mapped f P (Some x) each = each x refl

-- ---- where no recovery is due

pub card_is : (parts : CardParts) (persistent : Persistent) → parts.is_due ≡ false → held_by parts ≡ Some persistent → card_of parts ≡ Some (card_with false parts persistent)
unfolding card_of
card_is parts persistent rests held =
    ap (λ (due : Bool). option_map (card_with due parts) (held_by parts)) rests ∙ ap (option_map (card_with false parts)) held

-- what holds of each card that the parts may stand for
pub if_card : (parts : CardParts) (P : CardState → Type 0) → parts.is_due ≡ false → ((persistent : Persistent) → held_by parts ≡ Some persistent → P (card_with false parts persistent)) → IfSome (card_of parts) P
unfolding card_of
if_card parts P rests each =
    subst (λ (due : Bool). IfSome (option_map (card_with due parts) (held_by parts)) P) (sym rests) (if_mapped (card_with false parts) P (held_by parts) each)

pub use_card : (parts : CardParts) (P : CardState → Type 0) (persistent : Persistent) → parts.is_due ≡ false → held_by parts ≡ Some persistent → IfSome (card_of parts) P → P (card_with false parts persistent)
use_card parts P persistent rests held holds = if_some_at (card_of parts) P (card_with false parts persistent) holds (card_is parts persistent rests held)

-- the card with these parts
pub card_made : Persistent → List (Option Selection) → Verified → SessionState → List (Option AppletState) → CardState
card_made persistent channels verified session boxes = record {
  persistent = persistent;
  channels = channels;
  verified = verified;
  session = session;
  boxes = boxes;
}

pub card_then : (parts : CardParts) (persistent : Persistent) (channels : List (Option Selection)) (verified : Verified) (session : SessionState) (boxes : List (Option AppletState))
    → parts.is_due ≡ false → held_by parts ≡ Some persistent → parts.channels ≡ channels → parts.verified ≡ verified → parts.session ≡ session → parts.boxes ≡ boxes
    → card_of parts ≡ Some (record { persistent = persistent; channels = channels; verified = verified; session = session; boxes = boxes })
unfolding card_made
card_then parts persistent channels verified session boxes rests held channels_are verified_is session_is boxes_are =
    card_is parts persistent rests held
    ∙ ap (λ (now : List (Option Selection)). Some (card_made persistent now parts.verified parts.session parts.boxes)) channels_are
    ∙ ap (λ (now : Verified). Some (card_made persistent channels now parts.session parts.boxes)) verified_is
    ∙ ap (λ (now : SessionState). Some (card_made persistent channels verified now parts.boxes)) session_is
    ∙ ap (λ (now : List (Option AppletState)). Some (card_made persistent channels verified session now)) boxes_are

-- ---- whether there is a card

pub card_told : (parts : CardParts) → HoldsCard parts.store_mark parts.told → is_some (card_of parts) ≡ is_some parts.told
unfolding card_of
card_told parts holds = is_some-map (card_with parts.is_due parts) (held_by parts) ∙ holds

pub due_told : (parts : CardParts) → HoldsCard parts.store_mark parts.told → is_some (card_due parts) ≡ is_some parts.told
unfolding card_due
due_told parts holds = is_some-map (card_with true parts) (held_by parts) ∙ holds
