-- A card refuses a command for the first thing that speaks against it, and for nothing else (ETSI TS 102 221, 10.2).
use Rattle.std.specs.Prelude.{◌≡◌, ℕ, List, [], Some}
use Rattle.uicc_types.specs.Told.{AreBytes}
use Rattle.uicc_types.specs.declared.answers.StatusWord.{StatusWord}
use Rattle.card_model.specs.Answers.{Answered, answer, refusal}
use Rattle.card_model.specs.Instructions.{is_known}
use Rattle.card_model.specs.Laws.{ChangesAtMostTries, key_named}
use Rattle.card_model.specs.States.{CardState, IsGood}
use Rattle.card_laws.specs.CardRefusals.{first_of, refusals_in_order}

-- What a good card refuses a command with is the status of the first condition of the whole order that holds; it refuses none for which
-- no condition holds.
abbrev pub RefusesInOrder : Type 0
RefusesInOrder = (card : CardState) (bytes : List ℕ) → IsGood card → AreBytes bytes → refusal is_known card bytes ≡ first_of (refusals_in_order card bytes)

-- It is answered with this status and no data, and nothing changes; or the tries and the mark of the key that it names alone, where the
-- status tells how many tries are left.
pub record IsAnsweredSo (card : CardState) (key : ℕ) (status : StatusWord) (answered : Answered) : Type 0 where
  pub status_is : answered.status ≡ status
  pub body : answered.body ≡ []
  pub keeps : ChangesAtMostTries key status card answered.state

-- Where a condition of the list holds, the card answers the status of the first that does, without data, and changes nothing, or the tries and
-- the mark of the key that the status tells of.
abbrev pub ConditionsRefuse : Type 0
ConditionsRefuse =
    (card : CardState) (bytes : List ℕ) (status : StatusWord) → IsGood card → AreBytes bytes
    → first_of (refusals_in_order card bytes) ≡ Some status → IsAnsweredSo card (key_named bytes) status (answer card bytes)
