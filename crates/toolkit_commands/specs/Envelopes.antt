-- What an envelope says (ETSI TS 102 223, 7): one row a template. The first object with the tag counts.
use Rattle.std.specs.Prelude.{ℕ, ◌&&◌, List, [], ◌∷◌, Option, Some, None, Result, Ok, Err, nat_le, ◌==◌, if◌then◌else◌, option_and_then}
use Rattle.comprehension_tlv.specs.Reading.{value_of, template_of}
use Rattle.comprehension_tlv.specs.declared.faults.TlvFault.{TlvFault}
use Rattle.toolkit_commands.specs.declared.envelopes.Envelope.{Envelope}
use Rattle.toolkit_commands.specs.declared.envelopes.Envelope.TheVariants.{Menu, CallControl, Event, Timer}
use Rattle.toolkit_commands.specs.declared.tags.TheConstants.{MENU_SELECTION, CALL_CONTROL, EVENT_DOWNLOAD, TIMER_EXPIRATION, ADDRESS, ITEM_IDENTIFIER, EVENT_LIST, TIMER_IDENTIFIER}

-- what is there is read on by the next step, and else there is nothing
infixl 10 ◌>>=◌
abbrev pub ◌>>=◌ : {A B : Type 0} → Option A → (A → Option B) → Option B
o >>= f = option_and_then f o

-- what was found; nothing where the content is no list of objects
abbrev pub present : Result (Option (List ℕ)) TlvFault → Option (List ℕ)
present (Ok found) = found
present (Err fault) = None

-- the value of the first object with the tag, where the content is a list that has one
unfoldable pub value_in : ℕ → List ℕ → Option (List ℕ)
value_in tag content = present (value_of tag content)

-- a value of one byte
abbrev pub only_byte : List ℕ → Option ℕ
only_byte (n ∷ []) = Some n
only_byte _ = None

-- the same, where it is one byte
abbrev pub byte_in : ℕ → List ℕ → Option ℕ
byte_in tag content = value_in tag content >>= only_byte

-- a value of at least one byte
abbrev pub not_empty : List ℕ → Option (List ℕ)
not_empty [] = None
not_empty (first ∷ others) = Some (first ∷ others)

-- the number of a timer, from 1 to 8
abbrev pub timer_number : ℕ → Option ℕ
timer_number timer = if nat_le 1 timer && nat_le timer 8 then Some timer else None

-- By the tag of the template: the item of a menu selection (7.2), the address of a call (7.3.1), the code of an event, with the whole content (7.5),
-- or a timer that has expired (7.4). Other objects, which the standard has in each of these, may be missing.
unfoldable pub envelope_in : ℕ → List ℕ → Option Envelope
envelope_in tag content =
    if tag == MENU_SELECTION then byte_in ITEM_IDENTIFIER content >>= (λ item. Some (Menu item))
    else (if tag == CALL_CONTROL then value_in ADDRESS content >>= not_empty >>= (λ address. Some (CallControl address))
    else (if tag == EVENT_DOWNLOAD then byte_in EVENT_LIST content >>= (λ code. Some (Event code content))
    else (if tag == TIMER_EXPIRATION then byte_in TIMER_IDENTIFIER content >>= timer_number >>= (λ timer. Some (Timer timer))
    else None)))

-- what a template says, if it is an envelope
abbrev pub in_template : Result (ℕ × List ℕ) TlvFault → Option Envelope
in_template (Ok x) = envelope_in x.0 x.1
in_template (Err fault) = None

-- what the bytes say, if they are an envelope
unfoldable pub envelope_of : List ℕ → Option Envelope
envelope_of bytes = in_template (template_of bytes)
