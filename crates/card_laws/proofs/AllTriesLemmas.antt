-- A sound card has few tries.
use Rattle.std.proofs.Common.{◌≡◌, ℕ, ◌≤◌, List, Option, Some, None, refl, arith, ◌==◌, All}
use Rattle.std.proofs.lemmas.List.Elements.{All-contains}
use Rattle.list_laws.proofs.FindLemmas.{find_Some}
use Rattle.card_state.specs.Persistent.{Pin}
use Rattle.card_state.specs.Soundness.{IsSoundPin}
use Rattle.file_model.specs.Guards.{Guard, OfPin, OfUnblock, tries_by}
use Rattle.file_model.specs.Pins.{pin_found}
use Rattle.card_model.specs.States.{Machine, IsGood}
use Rattle.card_laws.specs.Guesses.{tries_if, tries_of, all_tries}

sound_few : (guard : Guard) (pin : Pin) → IsSoundPin pin → tries_by guard pin ≤ all_tries guard
sound_few OfPin pin sound = sound.tries
sound_few OfUnblock pin sound = sound.unblock_tries

few_of : (guard : Guard) (pins : List Pin) (key : ℕ) → All IsSoundPin pins → tries_of guard key pins ≤ all_tries guard
unfolding pin_found
few_of guard pins key sound = by_found (pin_found pins key) refl where
  by_found : (found : Option Pin) → pin_found pins key ≡ found → tries_if guard found ≤ all_tries guard
  by_found None is = omega arith
  by_found (Some pin) is = sound_few guard pin (All-contains IsSoundPin pins pin sound (find_Some (λ (p : Pin). p.key == key) pins pin is).0)

pub tries_few : (guard : Guard) (key : ℕ) (old : Machine) → IsGood old.card → tries_of guard key old.card.persistent.pins ≤ all_tries guard
tries_few guard key old good = few_of guard old.card.persistent.pins key good.sound.sound.pins
