-- Of what the memory of a card stands for, some numbers fit into the bytes that they are written in, which no check tests: identifiers, the
-- record of a rule, the next sequence number; and a PIN has its eight.
use Rattle.std.specs.Prelude.{◌≡◌, ℕ, ◌<◌, ◌^◌, List, length, All, IfSome, Ok}
use Rattle.uicc_types.specs.Told.{AreBytes}
use Rattle.card_state.specs.Persistent.{File, Persistent, Pin}
use Rattle.card_state.specs.Places.{memory_size}
use Rattle.card_state.specs.Standing.{stands_for}

-- an identifier of two bytes; of the record that rules the access, two for its file and one for its number (ETSI TS 102 221, 11.1.1.4)
pub record FitsFile (file : File) : Type 0 where
  pub id : file.id < 2 ^ 16
  pub rule : IfSome file.rule (λ rule. (rule.arr < 2 ^ 16) × (rule.number < 2 ^ 8))

-- eight bytes (9.5.1)
pub record IsPinValue (value : List ℕ) : Type 0 where
  pub long : length value ≡ 8
  pub bytes : AreBytes value

-- both values of a PIN have eight bytes
pub record FitsPin (pin : Pin) : Type 0 where
  pub value : IsPinValue pin.value
  pub unblock : IsPinValue pin.unblock

-- the next sequence number has two bytes
pub record FitsMemory (state : Persistent) : Type 0 where
  pub files : All FitsFile state.files
  pub pins : All FitsPin state.pins
  pub next : state.next_sequence < 2 ^ 16

-- whatever bytes the memory of a card has
abbrev pub WhatStandsFits : Type 0
WhatStandsFits =
    (store_mark : ℕ) (content : List ℕ) (state : Persistent)
    → length content ≡ memory_size → AreBytes content → stands_for store_mark content ≡ Ok state → FitsMemory state
