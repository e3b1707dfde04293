-- The cards of the worked examples, and commands to them.
use Rattle.std.proofs.Common.{ℕ, ◌+◌, ◌*◌, true, false, List, [], ◌∷◌, replicate, Option, Some, None, Ok, Err, Result}
use Rattle.uicc_types.specs.declared.answers.StatusWord.{StatusWord}
use Rattle.apdu_form.specs.Model.{Apdu}
use Rattle.card_state.specs.Changes.{Change}
use Rattle.card_state.specs.Persistent.{Files, Bytes, Records, File, Pin, Persistent}
use Rattle.card_state.specs.Soundness.{mf}
use Rattle.access_rules.specs.declared.rules.Verified.{Verified}
use Rattle.file_model.specs.declared.selections.Selection.{Selection}
use Rattle.file_model.specs.Outcomes.{FileOutcome, PinOutcome}

-- a file of a subscriber's number with the short identifier 2, two records of four bytes with 1, three of three in a ring
-- with 3, and two PINs
abbrev pub iccid_file : File
iccid_file = record {
  number = 1;
  parent = 0;
  kind = 0x41;
  id = 0x2FE2;
  short = 2;
  life = 5;
  rule = None;
  place = 3968;
  size = 10;
  contents = Bytes (0x98 ∷ 0x10 ∷ 0x10 ∷ 0x32 ∷ 0x54 ∷ 0x76 ∷ 0x98 ∷ 0x10 ∷ 0x32 ∷ 0x54 ∷ []);
}

abbrev pub linear_file : File
linear_file = record {
  number = 2;
  parent = 0;
  kind = 0x42;
  id = 0x6F3A;
  short = 1;
  life = 5;
  rule = None;
  place = 3978;
  size = 8;
  contents = Records ((0x41 ∷ 0xFF ∷ 0xFF ∷ 0xFF ∷ []) ∷ (0x42 ∷ 0xFF ∷ 0xFF ∷ 0xFF ∷ []) ∷ []);
}

abbrev pub cyclic_file : List (List ℕ) → File
cyclic_file records = record { number = 3; parent = 0; kind = 0x46; id = 0x6F39; short = 3; life = 5; rule = None; place = 3986; size = 9; contents = Records records }

abbrev pub user_pin : Pin
user_pin = record {
  key = 0x01;
  is_enabled = true;
  tries = 3;
  unblock_tries = 10;
  value = 0x31 ∷ 0x32 ∷ 0x33 ∷ 0x34 ∷ 0xFF ∷ 0xFF ∷ 0xFF ∷ 0xFF ∷ [];
  unblock = 0x31 ∷ 0x32 ∷ 0x33 ∷ 0x34 ∷ 0x35 ∷ 0x36 ∷ 0x37 ∷ 0x38 ∷ [];
}

abbrev pub admin_pin : Pin
admin_pin = record { key = 0x0A; is_enabled = true; tries = 3; unblock_tries = 10; value = replicate 8 0x38; unblock = replicate 8 0x30 }

abbrev pub card : Persistent
card = record { is_wide = true; files = mf ∷ iccid_file ∷ linear_file ∷ cyclic_file (replicate 3 (replicate 3 0xFF)) ∷ []; pins = user_pin ∷ admin_pin ∷ []; rows = []; next_sequence = 0 }

-- ---- what is selected

abbrev pub on_ef : ℕ → Option ℕ → Selection
on_ef number pointer = record { df = 0; ef = Some number; pointer = pointer }

abbrev pub in_df : ℕ → Selection
in_df number = record { df = number; ef = None; pointer = None }

abbrev pub nothing_verified : Verified
nothing_verified = record { pin1 = false; pin2 = false; adm1 = false }

abbrev pub command : ℕ → ℕ → ℕ → ℕ → List ℕ → Option ℕ → Apdu
command class ins p1 p2 body expected = record { class = class; ins = ins; p1 = p1; p2 = p2; body = body; expected = expected }

abbrev pub status : ℕ → StatusWord
status number = record { 0 = number }

-- an answer that commits nothing
abbrev pub answered : List ℕ → ℕ → Selection → Result FileOutcome StatusWord
answered body number selection = Ok (record { body = body; status = status number; selection = selection; passed = []; changes = [] })

-- an answer after one commit, which makes this change
abbrev pub committed : List ℕ → Selection → Persistent → Change → Result FileOutcome StatusWord
committed body selection next made = Ok (record { body = body; status = status 0x9000; selection = selection; passed = next ∷ []; changes = made ∷ [] })

abbrev pub refused : ℕ → Result FileOutcome StatusWord
refused number = Err (status number)

-- the PINs where the user's is this one, and what a PIN command comes to
abbrev pub with_user : Pin → List Pin
with_user pin = pin ∷ admin_pin ∷ []

abbrev pub answered_pin : ℕ → Verified → List (List Pin) → Result PinOutcome StatusWord
answered_pin number verified passed = Ok (record { status = status number; verified = verified; passed = passed })

abbrev pub refused_pin : ℕ → Result PinOutcome StatusWord
refused_pin number = Err (status number)

-- ---- other cards

abbrev pub with_files : List File → Persistent
with_files files = record card { files = mf ∷ files; pins = [] }

-- the card whose ring holds these records
abbrev pub with_ring : List (List ℕ) → Persistent
with_ring records = record card { files = mf ∷ iccid_file ∷ linear_file ∷ cyclic_file records ∷ [] }

-- the card whose first file, or whose second one, holds this
abbrev pub with_iccid : List ℕ → Persistent
with_iccid bytes = record card { files = mf ∷ record iccid_file { contents = Bytes bytes } ∷ linear_file ∷ cyclic_file (replicate 3 (replicate 3 0xFF)) ∷ [] }

abbrev pub with_linear : List (List ℕ) → Persistent
with_linear records = record card { files = mf ∷ iccid_file ∷ record linear_file { contents = Records records } ∷ cyclic_file (replicate 3 (replicate 3 0xFF)) ∷ [] }

-- a card whose first file is activated, and deactivated
abbrev pub busy_card : Persistent
busy_card = with_files (iccid_file ∷ linear_file ∷ [])

abbrev pub quiet_card : Persistent
quiet_card = with_files (record iccid_file { life = 4 } ∷ linear_file ∷ [])

-- a DF, and a file of two bytes in it
abbrev pub tree_card : Persistent
tree_card =
    with_files (
    record { number = 1; parent = 0; kind = 0x78; id = 0x7F10; short = 0; life = 5; rule = None; place = 0; size = 0; contents = Files }
    ∷ record { number = 2; parent = 1; kind = 0x41; id = 0x6F3C; short = 0; life = 5; rule = None; place = 3968; size = 2; contents = Bytes (0xFF ∷ 0xFF ∷ []) } ∷ [])

-- An EF_ARR whose one record lets PIN 1 read, and three files: one that it rules, one whose record isn't there, and one that
-- is deactivated besides.
abbrev pub ruled_file : ℕ → ℕ → ℕ → ℕ → File
ruled_file rule number id short = record {
  number = number;
  parent = 0;
  kind = 0x41;
  id = id;
  short = short;
  life = 5;
  rule = Some (record { arr = 0x2F06; number = rule });
  place = 3976 + 4 * number;
  size = 4;
  contents = Bytes (replicate 4 0xFF);
}

abbrev pub ruled_card : Persistent
ruled_card = record card {
  files = mf
      ∷ record { number = 1; parent = 0; kind = 0x42; id = 0x2F06; short = 0; life = 5; rule = None; place = 3968; size = 12; contents = Records ((0x80 ∷ 0x01 ∷ 0x01 ∷ 0xA4 ∷ 0x06 ∷ 0x83 ∷ 0x01 ∷ 0x01 ∷ 0x95 ∷ 0x01 ∷ 0x08 ∷ 0xFF ∷ []) ∷ []) }
      ∷ ruled_file 1 2 0x6F07 7 ∷ ruled_file 2 3 0x6F08 0 ∷ record (ruled_file 1 4 0x6F09 9) { life = 4 } ∷ [];
  pins = user_pin ∷ [];
}

abbrev pub pin1_verified : Verified
pin1_verified = record nothing_verified { pin1 = true }
