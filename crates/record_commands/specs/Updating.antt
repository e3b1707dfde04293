-- What UPDATE RECORD, INCREASE and a change of the life cycle write.
use Rattle.std.specs.Prelude.{ℕ, ◌-◌, ◌==◌, if◌then◌else◌, List, [], ◌∷◌, Result, Ok, Err}
use Rattle.uicc_types.specs.declared.answers.StatusWord.{StatusWord}
use Rattle.card_state.specs.Changes.{Change, PutRecord, PutNewest, PutLife}
use Rattle.card_state.specs.Persistent.{Persistent}
use Rattle.card_state.specs.Changing.{with_record, with_newest_record}
use Rattle.file_model.specs.declared.descriptors.Descriptor.{Descriptor}
use Rattle.file_model.specs.Records.{is_cyclic}

-- the state once a record was written: a cyclic file has a new first one
abbrev pub record_written : Descriptor → ℕ → List ℕ → Persistent → Persistent
record_written file number bytes state =
    if is_cyclic file then with_newest_record file.number bytes state
    else with_record file.number (number - 1) bytes state

-- and that as a change of the card
abbrev pub put_record : Descriptor → ℕ → List ℕ → Change
put_record file number bytes = if is_cyclic file then PutNewest file.number bytes else PutRecord file.number (number - 1) bytes

-- the change of an UPDATE RECORD, where a record is found
abbrev pub record_puts : Descriptor → List ℕ → Result ℕ StatusWord → List Change
record_puts file bytes (Ok number) = put_record file number bytes ∷ []
record_puts file bytes (Err status) = []

-- the change of an INCREASE, where the sum fits
abbrev pub sum_puts : Descriptor → Result (List ℕ) StatusWord → List Change
sum_puts file (Ok sum) = PutNewest file.number sum ∷ []
sum_puts file (Err status) = []

-- the change of a life cycle status, where it is another one
abbrev pub life_puts : Descriptor → ℕ → List Change
life_puts file life = if file.life == life then [] else PutLife file.number life ∷ []
