-- The bytes of an answer as the card sends them (ISO 7816-4, 5.1).
use Rattle.std.specs.Int.{to_be_bytes, w16}
use Rattle.std.specs.Prelude.{ℕ, ◌++◌, List}
use Rattle.uicc_types.specs.declared.answers.Answer.{Answer}

-- SW1 SW2: the status, the upper byte first
abbrev pub status_bytes : ℕ → List ℕ
status_bytes status = to_be_bytes w16 status

-- the data, and the status after them
abbrev pub answer_bytes : Answer → List ℕ
answer_bytes answer = answer.body ++ status_bytes answer.status.0
