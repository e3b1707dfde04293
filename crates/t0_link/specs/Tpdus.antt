-- Command TPDUs of T=0: five bytes of header, the last of which, P3, counts the data that go over the line, and after them the data
-- that go to the card, if there are any (ISO 7816-3, protocol T=0; ETSI TS 102 221, 7.3.1.1).
use Rattle.std.specs.Prelude.{ℕ, ◌==◌, ◌&&◌, ◌||◌, Bool, true, false, if◌then◌else◌, List, ◌∷◌, length, take, slice_index, Option, Some, None}
use Rattle.t0_link.specs.declared.instructions.TheConstants.{GET_RESPONSE, READ_BINARY, READ_RECORD, FETCH, STATUS, MANAGE_CHANNEL}
use Rattle.t0_link.specs.declared.tpdus.Transfer.{Transfer}
use Rattle.t0_link.specs.declared.tpdus.Transfer.TheVariants.{GetResponse, Outgoing, Incoming}

-- the data of reading, of FETCH, of STATUS and of a channel that is opened go from the card, those of any other command to it
abbrev pub is_outgoing : ℕ → ℕ → Bool
is_outgoing ins p1 = ins == READ_BINARY || ins == READ_RECORD || ins == FETCH || ins == STATUS || (ins == MANAGE_CHANNEL && p1 == 0)

-- the way of a command's data, by INS and P1
abbrev pub transfer_of : ℕ → ℕ → Transfer
transfer_of ins p1 = if ins == GET_RESPONSE then GetResponse else (if is_outgoing ins p1 then Outgoing else Incoming)

-- how many bytes of data follow the header: P3 of them where they go to the card
abbrev pub data_count : Transfer → ℕ → ℕ
data_count GetResponse p3 = 0
data_count Outgoing p3 = 0
data_count Incoming p3 = p3

-- this transfer, if so many data follow
abbrev pub with_data : Transfer → ℕ → List ℕ → Option Transfer
with_data transfer p3 body = if length body == data_count transfer p3 then Some transfer else None

-- the way of the data of a TPDU; none where the bytes are no TPDU
unfoldable pub transfer_in : List ℕ → Option Transfer
transfer_in (class ∷ ins ∷ p1 ∷ p2 ∷ p3 ∷ body) = with_data (transfer_of ins p1) p3 body
transfer_in _ = None

-- by the way of its data, an APDU is passed for a TPDU
abbrev pub is_passed_by : Option Transfer → Bool
is_passed_by None = false
is_passed_by (Some GetResponse) = false
is_passed_by (Some Outgoing) = true
is_passed_by (Some Incoming) = true

-- the link passes an APDU for this TPDU, and doesn't answer by itself
abbrev pub is_passed : List ℕ → Bool
is_passed tpdu = is_passed_by (transfer_in tpdu)

-- P3 of a TPDU
abbrev pub p3_of : List ℕ → ℕ
p3_of tpdu = slice_index tpdu 4

-- the APDU of a TPDU whose data go to the card: the same bytes, or the header alone where there are no data
abbrev pub apdu_of : List ℕ → List ℕ
apdu_of tpdu = if p3_of tpdu == 0 then take 4 tpdu else tpdu
