-- The forms of script lines.
use Rattle.std.specs.Prelude.{◌≡◌, ℕ, ◌≤◌, ◌==◌, Bool, true, List, [], ◌∷◌, length, Option, MatchBool}
use Rattle.uicc_types.specs.declared.byte_lists.TheConstants.{LONGEST_COMMAND}
use Rattle.uicc_types.specs.declared.identifiers.FileId.{FileId}
use Rattle.byte_streams.specs.declared.limits.TheConstants.{LONGEST_LINE}
use Rattle.script_form.specs.declared.keywords.Keyword.{Keyword}
use Rattle.script_form.specs.declared.keywords.Keyword.TheVariants as keyword
use Rattle.script_form.specs.declared.keywords.Structure.{Structure}
use Rattle.script_form.specs.declared.keywords.Structure.TheVariants as structure
use Rattle.script_form.specs.declared.keywords.NetworkAct.{NetworkAct}
use Rattle.script_form.specs.declared.keywords.NetworkAct.TheVariants as network
use Rattle.script_form.specs.declared.keywords.UserAct.{UserAct}
use Rattle.script_form.specs.declared.keywords.UserAct.TheVariants as user
use Rattle.script_form.specs.declared.lines.ScriptLine.{ScriptLine}
use Rattle.script_form.specs.declared.lines.ScriptLine.TheVariants.{Passed, Start, Reset, Df, Transparent, Linear, Cyclic, Fill, Rec, Pin, Row, Apdu, Tpdu, Cut, Fail, ReadFail, UserOk, UserEnd, UserBack, UserNone, UserType, UserPick, UserPress, UserIdle, UserDial, NetPlace, NetPoll, Time, Cmd, Echo, Lose}
use Rattle.script_form.specs.Values.{IsKeyword, IsStructure, IsUserAct, IsNetworkAct, IsByte, IsNumber, IsHex, IsPath, IsPinKey, IsPinValue, IsShort, IsSwitch, IsRule, IsTyped, IsDialled}
use Rattle.script_form.specs.Words.{words}

-- The first of the words is a value's, and those after it are in the form that this value asks for.
pub record Begins {X Y : Type 0} (First : List ℕ → X → Type 0) (Rest : X → List (List ℕ) → Y → Type 0) (all : List (List ℕ)) (line : Y) : Type 0 where
  pub word : List ℕ
  pub others : List (List ℕ)
  pub value : X
  pub parted : all ≡ word ∷ others
  pub first : First word value
  pub rest : Rest value others line

-- no word is left, and the line is known
pub record Ends {Y : Type 0} (known : Y) (all : List (List ℕ)) (line : Y) : Type 0 where
  pub none_left : all ≡ []
  pub is : line ≡ known

-- the words of a form, written one below the other
infixl 10 ◌>>=◌
abbrev pub ◌>>=◌ : {X Y : Type 0} → (List ℕ → X → Type 0) → (X → List (List ℕ) → Y → Type 0) → List (List ℕ) → Y → Type 0
First >>= Rest = Begins First Rest

-- what stands after the letter of an EF with records
abbrev pub record_form : (ℕ → ℕ → Option ℕ → Option (FileId × ℕ) → ScriptLine) → List (List ℕ) → ScriptLine → Type 0
record_form make = do
  length ← IsNumber 1 255
  count ← IsNumber 1 254
  short ← IsShort
  rule ← IsRule
  Ends (make length count short rule)

-- `ef PATH t SIZE SHORT RULE`, `ef PATH l LENGTH COUNT SHORT RULE`, the same with `c`: what stands after the letter
abbrev pub file_form : List FileId → Structure → List (List ℕ) → ScriptLine → Type 0
file_form path structure.Transparent = do
  size ← IsNumber 1 32767
  short ← IsShort
  rule ← IsRule
  Ends (Transparent path size short rule)
file_form path structure.Linear = record_form (Linear path)
file_form path structure.Cyclic = record_form (Cyclic path)

-- `cut K N XX`, what stands after K: so many bytes take their new value, and every other one takes XX
abbrev pub cut_whole : ℕ → List (List ℕ) → ScriptLine → Type 0
cut_whole call = do
  kept ← IsNumber 0 64
  rest ← IsByte
  Ends (Cut (record { call = call; kept = kept; rest = rest }))

-- `cut K N XX`, or `cut K` for `cut K 0 FF`: what stands after K
abbrev pub cut_form : ℕ → List (List ℕ) → ScriptLine → Type 0
cut_form call [] line = line ≡ Cut (record { call = call; kept = 0; rest = 0xFF })
cut_form call (word ∷ others) line = cut_whole call (word ∷ others) line

-- a line with a command, whose digits these are
pub record IsCommandLine (digits : List ℕ) (line : ScriptLine) : Type 0 where
  pub bytes : List ℕ
  pub hex : IsHex LONGEST_COMMAND digits bytes
  pub is : line ≡ Apdu bytes

-- a line with a TPDU, whose digits these are
pub record IsTransferLine (digits : List ℕ) (line : ScriptLine) : Type 0 where
  pub bytes : List ℕ
  pub hex : IsHex LONGEST_COMMAND digits bytes
  pub is : line ≡ Tpdu bytes

-- `user type TEXT`: what stands after `type` and a space is the text, with all its spaces
pub record IsTyping (all : List (List ℕ)) (line : ScriptLine) : Type 0 where
  pub text : List ℕ
  pub behind : all ≡ words text
  pub typed : IsTyped text text
  pub is : line ≡ UserType text

-- what stands after the word for what the user does
abbrev pub user_form : UserAct → List (List ℕ) → ScriptLine → Type 0
user_form user.Confirm = Ends UserOk
user_form user.End = Ends UserEnd
user_form user.Back = Ends UserBack
user_form user.Wait = Ends UserNone
user_form user.Enter = IsTyping
user_form user.Pick = do
  id ← IsNumber 1 255
  Ends (UserPick id)
user_form user.Press = Ends UserPress
user_form user.Idle = Ends UserIdle
user_form user.Dial = do
  digits ← IsDialled
  Ends (UserDial digits)

-- what stands after the word for what the network does
abbrev pub network_form : NetworkAct → List (List ℕ) → ScriptLine → Type 0
network_form network.Place = do
  place ← IsHex 32
  Ends (NetPlace place)
network_form network.Poll = Ends NetPoll
network_form network.Echo = do
  channel ← IsNumber 1 7
  count ← IsNumber 1 4096
  Ends (Echo channel count)
network_form network.Lose = do
  channel ← IsNumber 1 7
  Ends (Lose channel)

-- what stands after each keyword
abbrev pub form_of : Keyword → List (List ℕ) → ScriptLine → Type 0
form_of keyword.Df = do
  path ← IsPath
  Ends (Df path)
form_of keyword.Ef = do
  path ← IsPath
  structure ← IsStructure
  file_form path structure
form_of keyword.Fill = do
  path ← IsPath
  offset ← IsNumber 0 65535
  bytes ← IsHex 255
  Ends (Fill path offset bytes)
form_of keyword.Rec = do
  path ← IsPath
  number ← IsNumber 0 255
  bytes ← IsHex 255
  Ends (Rec path number bytes)
form_of keyword.Pin = do
  key ← IsPinKey
  value ← IsPinValue
  enabled ← IsSwitch key
  unblock ← IsPinValue
  Ends (Pin key value enabled unblock)
form_of keyword.Row = do
  shelf ← IsNumber 0 255
  priority ← IsNumber 1 255
  content ← IsHex 255
  Ends (Row shelf priority content)
form_of keyword.Start = Ends Start
form_of keyword.Apdu = do
  bytes ← IsHex LONGEST_COMMAND
  Ends (Apdu bytes)
form_of keyword.Tpdu = do
  bytes ← IsHex LONGEST_COMMAND
  Ends (Tpdu bytes)
form_of keyword.Reset = Ends Reset
form_of keyword.Cut = do
  call ← IsNumber 1 999999999
  cut_form call
form_of keyword.Fail = do
  call ← IsNumber 1 999999999
  rest ← IsByte
  Ends (Fail (record { call = call; rest = rest }))
form_of keyword.ReadFail = do
  call ← IsNumber 1 999999999
  Ends (ReadFail call)
form_of keyword.User = do
  act ← IsUserAct
  user_form act
form_of keyword.Net = do
  act ← IsNetworkAct
  network_form act
form_of keyword.Time = do
  seconds ← IsNumber 0 999999999
  Ends (Time seconds)
form_of keyword.Cmd = do
  bytes ← IsHex 255
  Ends (Cmd bytes)

-- a keyword, and what it asks for
abbrev pub IsStatement : List (List ℕ) → ScriptLine → Type 0
IsStatement = do
  keyword ← IsKeyword
  form_of keyword

-- an empty line, or one that begins with `#`
abbrev pub is_passed : List ℕ → Bool
is_passed [] = true
is_passed (first ∷ rest) = first == 35

-- what a line says, given without its end, which has no more bytes than a line may have
pub record IsLine (bytes : List ℕ) (line : ScriptLine) : Type 0 where
  pub fits : length bytes ≤ LONGEST_LINE
  pub says : MatchBool (is_passed bytes) (line ≡ Passed) (IsStatement (words bytes) line)

-- the line is in no form
abbrev pub IsBad : List ℕ → Type 0
IsBad bytes = (line : ScriptLine) → IsLine bytes line → ⊥
