-- Wrong values with a loss of power between them, worked out: a run of a card, what it committed, and how many guesses it shows.
use Rattle.std.proofs.Common.{◌≡◌, ℕ, false, arith, inl, inr, List, [], ◌∷◌, refl}
use Rattle.uicc_types.specs.declared.runs.Step.{Step}
use Rattle.uicc_types.specs.declared.runs.Step.TheVariants as step
use Rattle.uicc_types.specs.declared.runs.TraceItem.{TraceItem}
use Rattle.uicc_types.specs.declared.runs.TraceItem.TheVariants as item
use Rattle.apdu_form.specs.Model.{command_in, fields_in}
use Rattle.card_state.specs.Persistent.{Persistent}
use Rattle.card_state.specs.Soundness.{mf}
use Rattle.file_model.specs.Chains.{refused_if, given, and_given}
use Rattle.file_model.specs.Guards.{OfPin}
use Rattle.file_model.specs.Pins.{pin_found, presented, pin_presented, pin_verified}
use Rattle.toolkit_model.specs.Commands.{woken_boxes}
use Rattle.card_model.specs.Answers.{carried_out, tried, answer_of, answer, passed}
use Rattle.card_model.specs.Instructions.{instruction_tried}
use Rattle.card_model.specs.Runs.{IsRun, IsLeft}
use Rattle.card_model.specs.States.{CardState, powered, unpowered, woken}
use Rattle.card_laws.specs.Commits.{commits_in}
use Rattle.card_laws.specs.Guesses.{guesses, IsOneLess}
use Rattle.card_laws.proofs.worked.GuessCounts.{pin_1, wrong}

-- a card with the PIN alone, and so many tries
abbrev held_with : ℕ → Persistent
held_with tries = record { is_wide = false; files = mf ∷ []; pins = record pin_1 { tries = tries } ∷ []; rows = []; next_sequence = 0 }

abbrev card_with : ℕ → CardState
card_with tries = woken (held_with tries) []

-- power is lost once the second value has taken its try
left : IsLeft (card_with 2) (passed (card_with 2) wrong) (card_with 1)
unfolding refused_if given and_given command_in fields_in instruction_tried carried_out tried answer_of woken woken_boxes pin_found presented pin_presented pin_verified
left = record { persistent = held_with 1; passed = (1, omega arith, refl); woke = refl }

-- a value, one that is cut, a reset, a value, and one more: the card tells two of them to be wrong, and is blocked
abbrev steps : List Step
steps = step.Apdu wrong ∷ step.Apdu wrong ∷ step.Reset ∷ step.Apdu wrong ∷ step.Apdu wrong ∷ []

abbrev last_shown : List TraceItem
last_shown = item.Command wrong ∷ item.Answer [] (record { 0 = 0x6983 }) ∷ []

abbrev then_shown : List TraceItem
then_shown = item.Command wrong ∷ item.Answer [] (record { 0 = 0x63C0 }) ∷ last_shown

abbrev shown : List TraceItem
shown = item.Command wrong ∷ item.Answer [] (record { 0 = 0x63C2 }) ∷ item.Command wrong ∷ item.Cut ∷ item.Reset ∷ then_shown

abbrev four_values : IsRun (powered (card_with 3)) steps shown (powered (card_with 0))
unfolding refused_if given and_given command_in fields_in instruction_tried carried_out tried answer_of woken woken_boxes pin_found presented pin_presented pin_verified
four_values =
    inl (record {
      front = item.Command wrong ∷ item.Answer [] (record { 0 = 0x63C2 }) ∷ [];
      middle = powered (card_with 2);
      back = item.Command wrong ∷ item.Cut ∷ item.Reset ∷ then_shown;
      first = inl (record { seen = refl; moved = refl });
      rest = inl (record {
        front = item.Command wrong ∷ item.Cut ∷ [];
        middle = unpowered (card_with 1);
        back = item.Reset ∷ then_shown;
        first = inr (inr (record { seen = refl; card = card_with 1; left = left; moved = refl }));
        rest = inl (record {
          front = item.Reset ∷ [];
          middle = powered (card_with 1);
          back = then_shown;
          first = inl (record { seen = refl; moved = refl });
          rest = inl (record {
            front = item.Command wrong ∷ item.Answer [] (record { 0 = 0x63C0 }) ∷ [];
            middle = powered (card_with 0);
            back = last_shown;
            first = inl (record { seen = refl; moved = refl });
            rest = inl (record {
              front = last_shown;
              middle = powered (card_with 0);
              back = [];
              first = inl (record { seen = refl; moved = refl });
              rest = record { seen = refl; stays = refl };
              seen = refl;
            });
            seen = refl;
          });
          seen = refl;
        });
        seen = refl;
      });
      seen = refl;
    })

-- the first of them takes one of three tries, and two are told to be left
one_of_three : IsOneLess OfPin 0x01 (answer (card_with 3) wrong).status (card_with 3).persistent.pins (answer (card_with 3) wrong).state.persistent.pins
unfolding refused_if given and_given command_in fields_in instruction_tried carried_out tried answer_of woken woken_boxes pin_found presented pin_presented pin_verified
one_of_three = record { takes = record { pin = record pin_1 { tries = 3 }; found = refl; some = omega arith; changed = refl }; one = refl; told = refl }

-- three commits, each with one try less; one of the tries was lost with the power
committed : commits_in (powered (card_with 3)) steps shown (powered (card_with 0)) four_values ≡ held_with 2 ∷ held_with 1 ∷ held_with 0 ∷ []
unfolding refused_if given and_given command_in fields_in instruction_tried carried_out tried answer_of woken woken_boxes pin_found presented pin_presented pin_verified left
committed = refl

two_guesses : guesses OfPin 0x01 shown ≡ 2
unfolding command_in fields_in
two_guesses = refl
