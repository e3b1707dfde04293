-- What a line says keeps to its bounds.
use Rattle.std.proofs.Common.{◌≡◌, ℕ, ◌*◌, ◌≤◌, Bool, true, false, List, [], ◌∷◌, length, Option, Some, None, MatchBool, arith, lit≤, refl}
use Rattle.uicc_types.specs.declared.identifiers.FileId.{FileId}
use Rattle.uicc_types.specs.declared.keys.TheConstants.{ADM_1}
use Rattle.script_form.specs.declared.keywords.Keyword.{Keyword}
use Rattle.script_form.specs.declared.keywords.Keyword.TheVariants as keyword
use Rattle.script_form.specs.declared.keywords.NetworkAct.{NetworkAct}
use Rattle.script_form.specs.declared.keywords.NetworkAct.TheVariants as network
use Rattle.script_form.specs.declared.keywords.Structure.{Structure}
use Rattle.script_form.specs.declared.keywords.Structure.TheVariants as structure
use Rattle.script_form.specs.declared.keywords.UserAct.{UserAct}
use Rattle.script_form.specs.declared.keywords.UserAct.TheVariants as user
use Rattle.script_form.specs.declared.lines.ScriptLine.{ScriptLine}
use Rattle.script_form.specs.declared.lines.ScriptLine.TheVariants.{Passed, Start, Reset, Df, Transparent, Linear, Cyclic, Fill, Rec, Pin, Row, Apdu, Tpdu, Cut, Fail, ReadFail, UserOk, UserEnd, UserBack, UserNone, UserPick, UserPress, UserIdle, UserDial, NetPlace, NetPoll, Time, Cmd, Echo, Lose}
use Rattle.script_form.specs.Forms.{Ends, IsLine, IsStatement, IsTyping, cut_form, cut_whole, file_form, form_of, is_passed, network_form, record_form, user_form}
use Rattle.script_form.proofs.PathLemmas.{length-path}
use Rattle.script_form.specs.Values.{IsPath, IsRule, IsShort, IsSwitch, path_bytes}
use Rattle.script_form.specs.Words.{words}
use Rattle.script_form.specs.Bounds.{IsBoundedPath, IsBoundedShort, IsBoundedRule, AreBoundedRecords, IsBounded}

path_bounded : (word : List ℕ) (path : List FileId) → IsPath word path → IsBoundedPath path
path_bounded word path p =
    let two : length (path_bytes path) ≡ 2 * length path = length-path path in
    record { some = omega (arith, p.digits.some); fits = omega (arith, p.digits.fits); free = p.free }

short_bounded : (word : List ℕ) (short : Option ℕ) → IsShort word short → IsBoundedShort short
short_bounded word None s = tt
short_bounded word (Some short) s = (s.above, s.below)

rule_bounded : (word : List ℕ) (rule : Option (FileId × ℕ)) → IsRule word rule → IsBoundedRule rule
rule_bounded word None r = tt
rule_bounded word (Some rule) r = (r.number_is.above, r.number_is.below)

always_on : (key : ℕ) (word : List ℕ) (enabled : Bool) → IsSwitch key word enabled → key ≡ ADM_1 → enabled ≡ true
always_on key word true switch adm = refl
always_on key word false switch adm = absurd (switch.1 adm)

at_end : (known line : ScriptLine) (all : List (List ℕ)) → Ends known all line → IsBounded known → IsBounded line
at_end known line all e b = rw e.is b

records_bounded : (make : ℕ → ℕ → Option ℕ → Option (FileId × ℕ) → ScriptLine) (all : List (List ℕ)) (line : ScriptLine)
    → ((length count : ℕ) (short : Option ℕ) (rule : Option (FileId × ℕ)) → AreBoundedRecords length count → IsBoundedShort short → IsBoundedRule rule → IsBounded (make length count short rule))
    → record_form make all line → IsBounded line
records_bounded make all line bounds length =
    let count = length.rest in
    let short = count.rest in
    let rule = short.rest in
    at_end (make length.value count.value short.value rule.value) line rule.others rule.rest
    (bounds length.value count.value short.value rule.value
    (length.first.above, length.first.below, count.first.above, count.first.below)
    (short_bounded short.word short.value short.first) (rule_bounded rule.word rule.value rule.first))

file_bounded : (path : List FileId) (structure : Structure) (all : List (List ℕ)) (line : ScriptLine)
    → IsBoundedPath path → file_form path structure all line → IsBounded line
file_bounded path structure.Transparent all line free size =
    let short = size.rest in
    let rule = short.rest in
    at_end (Transparent path size.value short.value rule.value) line rule.others rule.rest
    (free, size.first.above, size.first.below, short_bounded short.word short.value short.first, rule_bounded rule.word rule.value rule.first)
file_bounded path structure.Linear all line free form =
    records_bounded (Linear path) all line (λ length count short rule records shorts rules. (free, records, shorts, rules)) form
file_bounded path structure.Cyclic all line free form =
    records_bounded (Cyclic path) all line (λ length count short rule records shorts rules. (free, records, shorts, rules)) form

whole_cut_bounded : (call : ℕ) (all : List (List ℕ)) (line : ScriptLine) → 1 ≤ call → call ≤ 999999999 → cut_whole call all line → IsBounded line
whole_cut_bounded call all line above below kept =
    let rest = kept.rest in
    at_end (Cut (record { call = call; kept = kept.value; rest = rest.value })) line rest.others rest.rest (above, below, kept.first.below)

cut_bounded : (call : ℕ) (all : List (List ℕ)) (line : ScriptLine) → 1 ≤ call → call ≤ 999999999 → cut_form call all line → IsBounded line
cut_bounded call [] line above below is = rw is (above, below, lit≤ tt)
cut_bounded call (word ∷ others) line above below form = whole_cut_bounded call (word ∷ others) line above below form

typing_bounded : (all : List (List ℕ)) (line : ScriptLine) → IsTyping all line → IsBounded line
typing_bounded all line typing = rw typing.is (typing.typed.fits, typing.typed.printable)

user_bounded : (act : UserAct) (all : List (List ℕ)) (line : ScriptLine) → user_form act all line → IsBounded line
user_bounded user.Confirm all line end = at_end UserOk line all end tt
user_bounded user.End all line end = at_end UserEnd line all end tt
user_bounded user.Back all line end = at_end UserBack line all end tt
user_bounded user.Wait all line end = at_end UserNone line all end tt
user_bounded user.Enter all line typing = typing_bounded all line typing
user_bounded user.Pick all line id =
    at_end (UserPick id.value) line id.others id.rest (id.first.above, id.first.below)
user_bounded user.Press all line end = at_end UserPress line all end tt
user_bounded user.Idle all line end = at_end UserIdle line all end tt
user_bounded user.Dial all line digits =
    let dialled = digits.first in
    at_end (UserDial digits.value) line digits.others digits.rest
    (rw dialled.same ((dialled.some, dialled.fits), dialled.decimal))

network_bounded : (act : NetworkAct) (all : List (List ℕ)) (line : ScriptLine) → network_form act all line → IsBounded line
network_bounded network.Place all line place =
    at_end (NetPlace place.value) line place.others place.rest (place.first.some, place.first.fits)
network_bounded network.Poll all line end = at_end NetPoll line all end tt
network_bounded network.Echo all line channel =
    let count = channel.rest in
    at_end (Echo channel.value count.value) line count.others count.rest
    (channel.first.above, channel.first.below, count.first.above, count.first.below)
network_bounded network.Lose all line channel =
    at_end (Lose channel.value) line channel.others channel.rest (channel.first.above, channel.first.below)

form_bounded : (keyword : Keyword) (all : List (List ℕ)) (line : ScriptLine) → form_of keyword all line → IsBounded line
form_bounded keyword.Df all line path =
    at_end (Df path.value) line path.others path.rest (path_bounded path.word path.value path.first)
form_bounded keyword.Ef all line path =
    let structure = path.rest in
    file_bounded path.value structure.value structure.others line (path_bounded path.word path.value path.first) structure.rest
form_bounded keyword.Fill all line path =
    let offset = path.rest in
    let bytes = offset.rest in
    at_end (Fill path.value offset.value bytes.value) line bytes.others bytes.rest
    (path_bounded path.word path.value path.first, offset.first.below, (bytes.first.some, bytes.first.fits))
form_bounded keyword.Rec all line path =
    let number = path.rest in
    let bytes = number.rest in
    at_end (Rec path.value number.value bytes.value) line bytes.others bytes.rest
    (path_bounded path.word path.value path.first, number.first.below, (bytes.first.some, bytes.first.fits))
form_bounded keyword.Pin all line key =
    let value = key.rest in
    let enabled = value.rest in
    let unblock = enabled.rest in
    at_end (Pin key.value value.value enabled.value unblock.value) line unblock.others unblock.rest
    (key.first.1, always_on key.value enabled.word enabled.value enabled.first)
form_bounded keyword.Row all line shelf =
    let priority = shelf.rest in
    let content = priority.rest in
    at_end (Row shelf.value priority.value content.value) line content.others content.rest
    (shelf.first.below, priority.first.above, priority.first.below, (content.first.some, content.first.fits))
form_bounded keyword.Start all line end = at_end Start line all end tt
form_bounded keyword.Apdu all line bytes =
    at_end (Apdu bytes.value) line bytes.others bytes.rest (bytes.first.some, bytes.first.fits)
form_bounded keyword.Tpdu all line bytes =
    at_end (Tpdu bytes.value) line bytes.others bytes.rest (bytes.first.some, bytes.first.fits)
form_bounded keyword.Reset all line end = at_end Reset line all end tt
form_bounded keyword.Cut all line call = cut_bounded call.value call.others line call.first.above call.first.below call.rest
form_bounded keyword.Fail all line call =
    let rest = call.rest in
    at_end (Fail (record { call = call.value; rest = rest.value })) line rest.others rest.rest (call.first.above, call.first.below)
form_bounded keyword.ReadFail all line call = at_end (ReadFail call.value) line call.others call.rest (call.first.above, call.first.below)
form_bounded keyword.User all line act = user_bounded act.value act.others line act.rest
form_bounded keyword.Net all line act = network_bounded act.value act.others line act.rest
form_bounded keyword.Time all line seconds =
    at_end (Time seconds.value) line seconds.others seconds.rest seconds.first.below
form_bounded keyword.Cmd all line bytes =
    at_end (Cmd bytes.value) line bytes.others bytes.rest (bytes.first.some, bytes.first.fits)

-- each line's values keep to their bounds
pub bounded : (bytes : List ℕ) (line : ScriptLine) → IsLine bytes line → IsBounded line
bounded bytes line l = by_kind (is_passed bytes) (words bytes) line l.says
  where
    by_kind : (passed : Bool) (all : List (List ℕ)) (line : ScriptLine)
        → MatchBool passed (line ≡ Passed) (IsStatement all line) → IsBounded line
    by_kind true all line is = rw is tt
    by_kind false all line keyword = form_bounded keyword.value keyword.others line keyword.rest
