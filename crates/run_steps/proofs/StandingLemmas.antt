-- What a card of the code stands for as a machine: what its store holds, and the minds in its boxes.
use Rattle.std.proofs.Common.{◌≡◌, Bool, true, false, Some, refl, sym, ap, ◌∙◌, option_map}
use Rattle.list_laws.proofs.CondLemmas.{mapped_Some}
use Rattle.card_state.specs.Persistent.{Persistent}
use Rattle.card_model.specs.States.{CardState, Machine, woken}
use Rattle.card_core.specs.Cards.{card_of, card_with, held_by}
use Rattle.card_core.specs.Parts.{CardParts}
use Rattle.run_steps.specs.Taking.{machine_of}
use Rattle.run_steps.specs.Standing.{IsMachine}

pub machine_is : (parts : CardParts) (machine : Machine) → machine_of parts ≡ Some machine → IsMachine parts machine
machine_is parts machine is =
    let found = mapped_Some (λ card. record { card = card; on = parts.is_on }) (card_of parts) machine is in
    record { card = found.1 ∙ ap (λ (m : Machine). Some m.card) found.2; on = ap (λ (m : Machine). m.on) found.2 }

pub is_machine : (parts : CardParts) (card : CardState) (on : Bool) → card_of parts ≡ Some card → parts.is_on ≡ on → machine_of parts ≡ Some (record { card = card; on = on })
is_machine parts card on is power =
    let Made : Bool → Machine = λ b. record { card = card; on = b } in
    ap (option_map (λ c. record { card = c; on = parts.is_on })) is ∙ ap (λ b. Some (Made b)) power

-- what its store stands for
persistent_with : (due : Bool) (parts : CardParts) (persistent : Persistent) → (card_with due parts persistent).persistent ≡ persistent
unfolding woken
persistent_with true parts persistent = refl
persistent_with false parts persistent = refl

pub card_stands : (parts : CardParts) (card : CardState) → card_of parts ≡ Some card → held_by parts ≡ Some card.persistent
unfolding card_of
card_stands parts card is =
    let found = mapped_Some (card_with parts.is_due parts) (held_by parts) card is in
    found.1 ∙ ap Some (sym (persistent_with parts.is_due parts found.0) ∙ ap (λ (c : CardState). c.persistent) found.2)

pub machine_stands : (parts : CardParts) (machine : Machine) → machine_of parts ≡ Some machine → held_by parts ≡ Some machine.card.persistent
machine_stands parts machine is = card_stands parts machine.card (machine_is parts machine is).card

-- the minds in its boxes, where none of them is to be woken
minds_with : (due : Bool) (parts : CardParts) (persistent : Persistent) → due ≡ false → (card_with due parts persistent).boxes ≡ parts.boxes
minds_with true parts persistent rests = absurd (cc)
minds_with false parts persistent rests = refl

card_minds : (parts : CardParts) (card : CardState) → card_of parts ≡ Some card → parts.is_due ≡ false → parts.boxes ≡ card.boxes
unfolding card_of
card_minds parts card is rests =
    let found = mapped_Some (card_with parts.is_due parts) (held_by parts) card is in
    sym (minds_with parts.is_due parts found.0 rests) ∙ ap (λ (c : CardState). c.boxes) found.2

pub machine_minds : (parts : CardParts) (machine : Machine) → machine_of parts ≡ Some machine → parts.is_due ≡ false → parts.boxes ≡ machine.card.boxes
machine_minds parts machine is rests = card_minds parts machine.card (machine_is parts machine is).card rests
