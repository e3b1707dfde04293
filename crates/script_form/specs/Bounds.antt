-- The bounds that the values of script lines keep to.
use Rattle.std.specs.Prelude.{◌≡◌, ℕ, ◌<◌, ◌≤◌, true, All, List, length, Option, IfSome}
use Rattle.std.specs.Char.{is_ascii_digit}
use Rattle.std.specs.List.{list_all}
use Rattle.uicc_types.specs.declared.byte_lists.TheConstants.{LONGEST_COMMAND}
use Rattle.uicc_types.specs.declared.identifiers.FileId.{FileId}
use Rattle.uicc_types.specs.declared.keys.TheConstants.{ADM_1}
use Rattle.script_form.specs.declared.lines.TheConstants.{DEEPEST}
use Rattle.script_form.specs.declared.lines.ScriptLine.{ScriptLine}
use Rattle.script_form.specs.declared.lines.ScriptLine.TheVariants.{Passed, Start, Reset, Df, Transparent, Linear, Cyclic, Fill, Rec, Pin, Row, Apdu, Tpdu, Cut, Fail, ReadFail, UserOk, UserEnd, UserBack, UserNone, UserType, UserPick, UserPress, UserIdle, UserDial, NetPlace, NetPoll, Time, Cmd, Echo, Lose}
use Rattle.script_form.specs.Values.{IsFree, IsKey, is_printable}

-- what the path of a file keeps to
pub record IsBoundedPath (path : List FileId) : Type 0 where
  pub some : 0 < length path
  pub fits : length path ≤ DEEPEST
  pub free : All IsFree path

-- what a short file identifier and an access rule keep to
abbrev pub IsBoundedShort : Option ℕ → Type 0
IsBoundedShort short = IfSome short (λ s. (1 ≤ s) × (s ≤ 30))

-- a rule names a record from 1 to 254 of its EF_ARR
abbrev pub IsBoundedRule : Option (FileId × ℕ) → Type 0
IsBoundedRule rule = IfSome rule (λ r. (1 ≤ r.1) × (r.1 ≤ 254))

-- what the records of an EF keep to
abbrev pub AreBoundedRecords : ℕ → ℕ → Type 0
AreBoundedRecords length count = (1 ≤ length) × (length ≤ 255) × (1 ≤ count) × (count ≤ 254)

-- one byte or more, and at most so many
abbrev pub IsBoundedText : ℕ → List ℕ → Type 0
IsBoundedText most bytes = (0 < length bytes) × (length bytes ≤ most)

-- what the values of a line keep to
abbrev pub IsBounded : ScriptLine → Type 0
IsBounded Passed = Unit {0}
IsBounded Start = Unit {0}
IsBounded Reset = Unit {0}
IsBounded (Df path) = IsBoundedPath path
IsBounded (Transparent path size short rule) =
    IsBoundedPath path × (1 ≤ size) × (size ≤ 32767) × IsBoundedShort short × IsBoundedRule rule
IsBounded (Linear path length count short rule) =
    IsBoundedPath path × AreBoundedRecords length count × IsBoundedShort short × IsBoundedRule rule
IsBounded (Cyclic path length count short rule) =
    IsBoundedPath path × AreBoundedRecords length count × IsBoundedShort short × IsBoundedRule rule
IsBounded (Fill path offset bytes) = IsBoundedPath path × (offset ≤ 65535) × IsBoundedText 255 bytes
IsBounded (Rec path number bytes) = IsBoundedPath path × (number ≤ 255) × IsBoundedText 255 bytes
IsBounded (Pin key value enabled unblock) = IsKey key × (key ≡ ADM_1 → enabled ≡ true)
IsBounded (Row shelf priority content) = (shelf ≤ 255) × (1 ≤ priority) × (priority ≤ 255) × IsBoundedText 255 content
IsBounded (Apdu bytes) = IsBoundedText LONGEST_COMMAND bytes
IsBounded (Tpdu bytes) = IsBoundedText LONGEST_COMMAND bytes
IsBounded (Cut cut) = (1 ≤ cut.call) × (cut.call ≤ 999999999) × (cut.kept ≤ 64)
IsBounded (Fail fail) = (1 ≤ fail.call) × (fail.call ≤ 999999999)
IsBounded (ReadFail call) = (1 ≤ call) × (call ≤ 999999999)
IsBounded UserOk = Unit {0}
IsBounded UserEnd = Unit {0}
IsBounded UserBack = Unit {0}
IsBounded UserNone = Unit {0}
IsBounded (UserType text) = (length text ≤ 30) × (list_all is_printable text ≡ true)
IsBounded (UserPick id) = (1 ≤ id) × (id ≤ 255)
IsBounded UserPress = Unit {0}
IsBounded UserIdle = Unit {0}
IsBounded (UserDial digits) = IsBoundedText 20 digits × (list_all is_ascii_digit digits ≡ true)
IsBounded (NetPlace place) = IsBoundedText 32 place
IsBounded NetPoll = Unit {0}
IsBounded (Time seconds) = seconds ≤ 999999999
IsBounded (Cmd bytes) = IsBoundedText 255 bytes
IsBounded (Echo channel count) = (1 ≤ channel) × (channel ≤ 7) × (1 ≤ count) × (count ≤ 4096)
IsBounded (Lose channel) = (1 ≤ channel) × (channel ≤ 7)
