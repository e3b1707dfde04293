-- How the values of a script line are written, each in one word.
use Rattle.std.specs.Prelude.{◌≡◌, ◌≢◌, ℕ, ◌/◌, ◌%◌, ◌<◌, ◌≤◌, ◌⊎◌, Bool, true, false, All, List, [], ◌∷◌, ◌++◌, length, codes, decimal, Option, Some, None, Ok, nat_le, ◌&&◌}
use Rattle.std.specs.Char.{is_ascii_digit}
use Rattle.std.specs.List.{flat_map, list_all}
use Rattle.hex.specs.Hex.{decode_of}
use Rattle.uicc_types.specs.declared.identifiers.FileId.{FileId}
use Rattle.uicc_types.specs.declared.identifiers.Pin8.{Pin8}
use Rattle.uicc_types.specs.declared.identifiers.TheConstants.FileId.{MF, CURRENT_ADF}
use Rattle.uicc_types.specs.declared.keys.TheConstants.{PIN_1, PIN_2, ADM_1}
use Rattle.script_form.specs.declared.keywords.Keyword.{Keyword}
use Rattle.script_form.specs.declared.keywords.Keyword.TheVariants.{Df, Ef, Fill, Rec, Pin, Row, Start, Apdu, Tpdu, Reset, Cut, Fail, ReadFail, User, Net, Time, Cmd}
use Rattle.script_form.specs.declared.keywords.NetworkAct.{NetworkAct}
use Rattle.script_form.specs.declared.keywords.NetworkAct.TheVariants.{Place, Poll, Echo, Lose}
use Rattle.script_form.specs.declared.keywords.Structure.{Structure}
use Rattle.script_form.specs.declared.keywords.Structure.TheVariants.{Transparent, Linear, Cyclic}
use Rattle.script_form.specs.declared.keywords.UserAct.{UserAct}
use Rattle.script_form.specs.declared.keywords.UserAct.TheVariants.{Confirm, End, Back, Wait, Enter, Pick, Press, Idle, Dial}
use Rattle.script_form.specs.declared.lines.TheConstants.{LONGEST_PATH}

-- the word that a line of each kind begins with
abbrev pub keyword_text : Keyword → List ℕ
keyword_text Df = codes "df"
keyword_text Ef = codes "ef"
keyword_text Fill = codes "fill"
keyword_text Rec = codes "rec"
keyword_text Pin = codes "pin"
keyword_text Row = codes "row"
keyword_text Start = codes "start"
keyword_text Apdu = codes "apdu"
keyword_text Tpdu = codes "tpdu"
keyword_text Reset = codes "reset"
keyword_text Cut = codes "cut"
keyword_text Fail = codes "fail"
keyword_text ReadFail = codes "readfail"
keyword_text User = codes "user"
keyword_text Net = codes "net"
keyword_text Time = codes "time"
keyword_text Cmd = codes "cmd"

-- the word is that of this kind of line
abbrev pub IsKeyword : List ℕ → Keyword → Type 0
IsKeyword word keyword = word ≡ keyword_text keyword

-- the letter of each structure that an EF may have (ETSI TS 102 221, 8.2.2)
abbrev pub structure_letter : Structure → List ℕ
structure_letter Transparent = codes "t"
structure_letter Linear = codes "l"
structure_letter Cyclic = codes "c"

-- the word is the letter of this structure
abbrev pub IsStructure : List ℕ → Structure → Type 0
IsStructure word structure = word ≡ structure_letter structure

-- what a user does
abbrev pub user_act_text : UserAct → List ℕ
user_act_text Confirm = codes "ok"
user_act_text End = codes "end"
user_act_text Back = codes "back"
user_act_text Wait = codes "none"
user_act_text Enter = codes "type"
user_act_text Pick = codes "pick"
user_act_text Press = codes "press"
user_act_text Idle = codes "idle"
user_act_text Dial = codes "dial"

-- the word is that of this act of the user
abbrev pub IsUserAct : List ℕ → UserAct → Type 0
IsUserAct word act = word ≡ user_act_text act

-- what the network does
abbrev pub network_act_text : NetworkAct → List ℕ
network_act_text Place = codes "place"
network_act_text Poll = codes "poll"
network_act_text Echo = codes "echo"
network_act_text Lose = codes "drop"

-- the word is that of this act of the network
abbrev pub IsNetworkAct : List ℕ → NetworkAct → Type 0
IsNetworkAct word act = word ≡ network_act_text act

-- a byte that is shown as it is: the space and all that is seen of the basic character set (ISO 646)
abbrev pub is_printable : ℕ → Bool
is_printable byte = nat_le 0x20 byte && nat_le byte 0x7E

-- a text that a user may type, as it stands
pub record IsTyped (written text : List ℕ) : Type 0 where
  pub same : text ≡ written
  pub fits : length written ≤ 30
  pub printable : list_all is_printable written ≡ true

-- a number that a user may dial, as it stands: its digits count, also leading zeros
pub record IsDialled (word digits : List ℕ) : Type 0 where
  pub same : digits ≡ word
  pub some : 0 < length word
  pub fits : length word ≤ 20
  pub decimal : list_all is_ascii_digit word ≡ true

-- a number from the first bound to the second: its decimal digits, without a sign and without a leading zero
pub record IsNumber (least most : ℕ) (word : List ℕ) (number : ℕ) : Type 0 where
  pub digits : word ≡ decimal number
  pub above : least ≤ number
  pub below : number ≤ most

-- bytes, one at least and at most so many: two hexadecimal digits of either case for each
pub record IsHex (most : ℕ) (word bytes : List ℕ) : Type 0 where
  pub digits : decode_of word ≡ Ok bytes
  pub some : 0 < length bytes
  pub fits : length bytes ≤ most

-- exactly so many bytes
pub record IsSized (count : ℕ) (word bytes : List ℕ) : Type 0 where
  pub digits : decode_of word ≡ Ok bytes
  pub many : length bytes ≡ count

-- one byte
abbrev pub IsByte : List ℕ → ℕ → Type 0
IsByte word byte = IsSized 1 word (byte ∷ [])

-- the two bytes of an identifier, the upper one first
abbrev pub identifier_bytes : FileId → List ℕ
identifier_bytes identifier = identifier.0 / 256 ∷ identifier.0 % 256 ∷ []

-- an identifier in four hexadecimal digits
abbrev pub IsFourDigits : List ℕ → FileId → Type 0
IsFourDigits word identifier = IsSized 2 word (identifier_bytes identifier)

-- An identifier that a file other than the MF may have: it is neither the MF's nor that of the current application, which are reserved
-- (ETSI TS 102 221, 8.6).
pub record IsFree (identifier : FileId) : Type 0 where
  pub not_mf : identifier.0 ≢ MF.0
  pub not_application : identifier.0 ≢ CURRENT_ADF.0

-- the bytes of the identifiers of a path, from the MF's child down
abbrev pub path_bytes : List FileId → List ℕ
path_bytes path = flat_map identifier_bytes path

-- bytes are the identifiers of a path, one at least, each of a file other than the MF
pub record SpellsPath (bytes : List ℕ) (path : List FileId) : Type 0 where
  pub spelled : bytes ≡ path_bytes path
  pub some : 0 < length path
  pub free : All IsFree path

-- a path, in four hexadecimal digits for each of its one to eight identifiers
pub record IsPath (word : List ℕ) (path : List FileId) : Type 0 where
  pub digits : IsHex LONGEST_PATH word (path_bytes path)
  pub free : All IsFree path

-- a short file identifier, 1 to 30 (ETSI TS 102 221, 8.4.3); a dash for none
abbrev pub IsShort : List ℕ → Option ℕ → Type 0
IsShort word None = word ≡ codes "-"
IsShort word (Some short) = IsNumber 1 30 word short

-- the identifier of an EF_ARR, a colon, and the number of a record in it
pub record IsNamedRule (word : List ℕ) (rule : FileId × ℕ) : Type 0 where
  pub file : List ℕ
  pub number : List ℕ
  pub parted : word ≡ file ++ 58 ∷ number
  pub file_is : IsFourDigits file rule.0
  pub number_is : IsNumber 1 254 number rule.1

-- the access rule of a file; a dash where every operation is allowed
abbrev pub IsRule : List ℕ → Option (FileId × ℕ) → Type 0
IsRule word None = word ≡ codes "-"
IsRule word (Some rule) = IsNamedRule word rule

-- the reference of one of the three PINs that a card may have (ETSI TS 102 221, 9.5.1)
abbrev pub IsKey : ℕ → Type 0
IsKey key = (key ≡ PIN_1) ⊎ ((key ≡ PIN_2) ⊎ (key ≡ ADM_1))

-- one byte in hexadecimal digits, which is the reference of a PIN
abbrev pub IsPinKey : List ℕ → ℕ → Type 0
IsPinKey word key = IsByte word key × IsKey key

-- the eight bytes of a PIN
abbrev pub IsPinValue : List ℕ → Pin8 → Type 0
IsPinValue word value = IsSized 8 word value.0

-- whether a PIN is enabled, which that of the administrative key always is
abbrev pub IsSwitch : ℕ → List ℕ → Bool → Type 0
IsSwitch key word true = word ≡ codes "on"
IsSwitch key word false = (word ≡ codes "off") × (key ≢ ADM_1)
