-- What a command has beside its header (ISO 7816-4, 5.1).
use Rattle.std.specs.Prelude.{◌==◌, ◌&&◌, not, Bool, length, is_some}
use Rattle.apdu_form.specs.Model.{Apdu}

-- P1 and P2 are 00
abbrev pub has_no_parameters : Apdu → Bool
has_no_parameters apdu = apdu.p1 == 0x00 && apdu.p2 == 0x00

-- no data; a Le may be there
abbrev pub has_no_data : Apdu → Bool
has_no_data apdu = length apdu.body == 0

-- data; a Le may be there
abbrev pub has_data : Apdu → Bool
has_data apdu = not (length apdu.body == 0)

-- a Le alone
abbrev pub has_le_alone : Apdu → Bool
has_le_alone apdu = length apdu.body == 0 && is_some apdu.expected
