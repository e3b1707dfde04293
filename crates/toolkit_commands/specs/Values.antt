-- What the values of single objects say (ETSI TS 102 223, clause 8): BadData is the only fault here.
use Rattle.std.specs.Prelude.{ℕ, ◌+◌, ◌*◌, ◌/◌, ◌%◌, Bool, false, ◌&&◌, List, [], ◌∷◌, length, Result, Ok, Err, nat_le, ◌==◌, if◌then◌else◌}
use Rattle.comprehension_tlv.specs.Model.{Object}
use Rattle.toolkit_commands.specs.declared.faults.ProactiveFault.{ProactiveFault}
use Rattle.toolkit_commands.specs.declared.faults.ProactiveFault.TheVariants.{BadData}
use Rattle.toolkit_commands.specs.declared.items.Item.{Item}
use Rattle.toolkit_commands.specs.declared.commands.TimeValue.{TimeValue}
use Rattle.toolkit_commands.specs.declared.qualifiers.TheConstants.{EIGHT_BITS, IN_SECONDS}

-- what was read is read on by the next step; a fault ends the reading
infixl 10 ◌>>=◌
abbrev pub ◌>>=◌ : {A B : Type 0} → Result A ProactiveFault → (A → Result B ProactiveFault) → Result B ProactiveFault
(Ok x) >>= f = f x
(Err e) >>= f = Err e

-- a value of one byte; of another length it is wrong
abbrev pub one_byte : List ℕ → Result ℕ ProactiveFault
one_byte (n ∷ []) = Ok n
one_byte _ = Err BadData

-- a value of two bytes; of another length it is wrong
abbrev pub two_bytes : List ℕ → Result (ℕ × ℕ) ProactiveFault
two_bytes (m ∷ n ∷ []) = Ok (m, n)
two_bytes _ = Err BadData

-- a value of three bytes; of another length it is wrong
abbrev pub three_bytes : List ℕ → Result (ℕ × ℕ × ℕ) ProactiveFault
three_bytes (m ∷ n ∷ k ∷ []) = Ok (m, n, k)
three_bytes _ = Err BadData

-- a duration in seconds: the unit 01, and how many (8.8); no other unit is read
abbrev pub seconds_of : List ℕ → Result ℕ ProactiveFault
seconds_of (unit ∷ seconds ∷ []) = if unit == IN_SECONDS then Ok seconds else Err BadData
seconds_of _ = Err BadData

-- a text string, without the byte of its coding, which has to be 04, eight bits (8.15)
abbrev pub text_of : List ℕ → Result (List ℕ) ProactiveFault
text_of [] = Err BadData
text_of (coding ∷ text) = if coding == EIGHT_BITS then Ok text else Err BadData

-- a text of at most 10 bytes, which is this card's own bound for titles and items
abbrev pub short_text_of : List ℕ → Result (List ℕ) ProactiveFault
short_text_of text = if nat_le (length text) 10 then Ok text else Err BadData

-- an item: its identifier, and a text of at most 10 bytes (8.9)
abbrev pub item_read : List ℕ → Result Item ProactiveFault
item_read [] = Err BadData
item_read (id ∷ text) = short_text_of text >>= λ short. Ok (record { id = id; text = short })

-- the number of a timer, from 1 to 8 (8.37)
abbrev pub timer_of : List ℕ → Result ℕ ProactiveFault
timer_of (timer ∷ []) = if nat_le 1 timer && nat_le timer 8 then Ok timer else Err BadData
timer_of _ = Err BadData

-- two decimal digits, the lower one in the upper half of the byte
abbrev pub swapped_decimal : ℕ → Result ℕ ProactiveFault
swapped_decimal byte =
    if nat_le (byte / 16) 9 && nat_le (byte % 16) 9 then Ok (10 * (byte % 16) + byte / 16) else Err BadData

-- hours, minutes and seconds, each in two decimal digits (8.38)
abbrev pub time_of : List ℕ → Result TimeValue ProactiveFault
time_of value = do
  digits ← three_bytes value
  hours ← swapped_decimal digits.0
  minutes ← swapped_decimal digits.1
  seconds ← swapped_decimal digits.2
  Ok (record { hours = hours; minutes = minutes; seconds = seconds })

-- two device identities
abbrev pub is_pair : List ℕ → ℕ → ℕ → Bool
is_pair (m ∷ n ∷ []) a b = (m == a) && (n == b)
is_pair _ a b = false

-- the value of a timer that has none
abbrev pub no_time : TimeValue
no_time = record { hours = 0; minutes = 0; seconds = 0 }

-- ---- items

-- the values of all objects with the tag, in order
abbrev pub values : ℕ → List Object → List (List ℕ)
values tag [] = []
values tag (object ∷ others) = if object.tag == tag then object.value ∷ values tag others else values tag others

-- the items of these values, in order
abbrev pub items_of : List (List ℕ) → Result (List Item) ProactiveFault
items_of [] = Ok []
items_of (value ∷ others) = item_read value >>= λ item. items_of others >>= λ items. Ok (item ∷ items)

-- at most 16 items, which is this card's own bound
abbrev pub at_most_16 : List Item → Result (List Item) ProactiveFault
at_most_16 items = if nat_le (length items) 16 then Ok items else Err BadData

-- the items of a choice, or those of a menu that is not empty: at most 16
abbrev pub choice_of : List (List ℕ) → Result (List Item) ProactiveFault
choice_of found = items_of found >>= at_most_16

-- one item of length 0 alone is the empty menu
abbrev pub menu_read : List (List ℕ) → Result (List Item) ProactiveFault
menu_read ([] ∷ []) = Ok []
menu_read found = choice_of found
