-- From one line after `start` to the next, and why the lines end there.
use Rattle.std.proofs.Common.{◌≡◌, ℕ, true, List, [], ◌∷◌, ◌++◌, reverse, Option, Some, sym, ap, ◌∙◌, subst, rules}
use Rattle.std.proofs.lemmas.List.{append-nil, append_assoc, reverse-append}
use Rattle.std.proofs.lemmas.List.Elements.{All-nil, All-push}
use Rattle.std.proofs.lemmas.Grind.{flat_map-append}
use Rattle.uicc_types.specs.declared.plans.Plan.{Plan}
use Rattle.byte_streams.specs.Lines.{LineList}
use Rattle.script_form.specs.Forms.{IsLine}
use Rattle.script_form.specs.Reads.{IsOnly}
use Rattle.script_form.specs.declared.lines.ScriptLine.{ScriptLine}
use Rattle.script_reader.specs.Behind.{StopsReading}
use Rattle.script_reader.specs.Reading.{Finds, Follows}
use Rattle.script_reader.specs.Said.{AreRead}
use Rattle.script_reader.specs.declared.behind.PlayEnd.{PlayEnd}
use Rattle.script_reader.specs.declared.behind.PlayEnd.TheVariants.{SinkFailed, ResetFailed}
use Rattle.script_reader.specs.declared.reader.ScriptReader.{ScriptReader}
use Rattle.script_reader.proofs.AreReadLemmas.{AreRead-more}
use Rattle.card_core.specs.Parts.{CardParts}
use Rattle.terminal_side.specs.Kept.{Kept}
use Rattle.run_steps.proofs.SteppingLemmas.{stands_seen}
use Rattle.run_steps.specs.Stepping.{Moment}
use Rattle.run_steps.specs.Taking.{moment}
use Rattle.run_steps.specs.declared.steps.StepEnd.{StepEnd}
use Rattle.run_steps.specs.declared.steps.StepEnd.TheVariants as step_end
use Rattle.phone_runs.specs.Lines.{may_be_heard, phone_lines, phone_lines_of, AreServed, PhoneComesTo, PhoneEnds, StopsAmid, told_back}
use Rattle.phone_runs.specs.Logs.{PhoneLine, lines_back, shown}
use Rattle.phone_runs.specs.Runs.{Beginning, RunEnds}
use Rattle.phone_runs.specs.Settling.{Rests}
use Rattle.phone_runs.specs.BetweenLines.{EndsAmid, IsServing, StandsAtStart}
use Rattle.phone_runs.proofs.RunsAreLegalLemmas.{legal, of_the_card}
use Rattle.phone_runs.proofs.EndsAreBegunLemmas.{ended_begun}
use Rattle.phone_runs.proofs.EndsAreOfTheCardLemmas.{ended_of_card}

-- ---- what the lines tell the handset

pub told_none : (played : List ScriptLine) (line : ScriptLine) → phone_lines_of line ≡ [] → told_back (played ++ line ∷ []) ≡ told_back played
told_none played line none =
    ap reverse (flat_map-append phone_lines_of played (line ∷ []) ∙ ap (λ (more : List PhoneLine). phone_lines played ++ (more ++ [])) none ∙ append-nil (phone_lines played))

pub told_one : (played : List ScriptLine) (line : ScriptLine) (one : PhoneLine) → phone_lines_of line ≡ one ∷ [] → told_back (played ++ line ∷ []) ≡ one ∷ told_back played
told_one played line one is =
    ap reverse (flat_map-append phone_lines_of played (line ∷ []) ∙ ap (λ (last : List PhoneLine). phone_lines played ++ (last ++ [])) is) ∙ reverse-append (phone_lines played) (one ∷ [])

-- ---- the lines that were read

pub served_none : (opening : List ScriptLine) (found : LineList) → AreRead found opening → AreServed opening found []
served_none opening found read = record { read = subst (AreRead found) (sym (append-nil opening)) read; in_place = All-nil (λ line. may_be_heard line ≡ true) }

pub served_more : (opening : List ScriptLine) (found : LineList) (played : List ScriptLine) (bytes : List ℕ) (line : ScriptLine) → AreServed opening found played → IsOnly (IsLine bytes) line → may_be_heard line ≡ true
    → AreServed opening (found ++ Some bytes ∷ []) (played ++ line ∷ [])
served_more opening found played bytes line so_far only may = record {
  read = subst (AreRead (found ++ Some bytes ∷ [])) (append_assoc opening played (line ∷ [])) (AreRead-more found (opening ++ played) bytes line so_far.read only);
  in_place = All-push (λ l. may_be_heard l ≡ true) played line so_far.in_place may;
}

-- ---- where it goes on

-- the handset was started
pub starts_serving : (text : List ℕ) (opening : List ScriptLine) (given : Beginning) (script : ScriptReader) (left : Option (List ℕ)) (phone : Kept) (from now : Moment)
    → StandsAtStart text opening given script left from → Rests given [] phone now → IsServing text opening given script left phone now
starts_serving text opening given script left phone from now stands started = search (rules, stands, started, served_none opening stands.found stands.read)

-- a line that does nothing
pub serves_on : (text : List ℕ) (opening : List ScriptLine) (given : Beginning) (script next : ScriptReader) (left left_then : Option (List ℕ)) (phone : Kept) (now : Moment) (line : ScriptLine)
    → ((found : LineList) → Follows text found script left → Finds text found next left_then line) → may_be_heard line ≡ true → phone_lines_of line ≡ []
    → IsServing text opening given script left phone now → IsServing text opening given next left_then phone now
serves_on text opening given script next left left_then phone now line search_so may none serving =
    let finds = search_so serving.found serving.follows in
    search (rules, serving, served_more opening serving.found serving.played finds.bytes line serving.are_served finds.read may, finds, serving.told ∙ sym (told_none serving.played line none))

-- a line that the handset is told
pub serves_further : (text : List ℕ) (opening : List ScriptLine) (given : Beginning) (script next : ScriptReader) (left left_then : Option (List ℕ)) (phone phone_then : Kept) (from to : Moment) (line : ScriptLine) (one : PhoneLine)
    → ((found : LineList) → Follows text found script left → Finds text found next left_then line) → may_be_heard line ≡ true → phone_lines_of line ≡ one ∷ []
    → (serving : IsServing text opening given script left phone from) → Rests given (one ∷ lines_back serving.log) phone_then to
    → IsServing text opening given next left_then phone_then to
serves_further text opening given script next left left_then phone phone_then from to line one search_so may is serving further =
    let finds = search_so serving.found serving.follows in
    search (rules, further, served_more opening serving.found serving.played finds.bytes line serving.are_served finds.read may, finds, further.lines_are ∙ ap (λ (back : List PhoneLine). one ∷ back) serving.told ∙ sym (told_one serving.played line one is))

-- ---- where it ends amid a line

-- in the start of the handset
pub stops_at_start : (text : List ℕ) (opening : List ScriptLine) (given : Beginning) (script : ScriptReader) (left : Option (List ℕ)) (from now : Moment) (end : StepEnd)
    → StandsAtStart text opening given script left from → RunEnds given [] now end → StopsAmid text opening given end now
stops_at_start text opening given script left from now end stands ended = record {
  found = stands.found;
  more = _;
  played = [];
  parted = stands.follows.reads.lines_are;
  are_served = served_none opening stands.found stands.read;
  ended = ended;
  begun = ended_begun given [] now end ended;
  of_card = ended_of_card given [] now end ended;
}

-- in what a line asks for
pub stops_in_line : (text : List ℕ) (opening : List ScriptLine) (given : Beginning) (script next : ScriptReader) (left left_then : Option (List ℕ)) (phone : Kept) (from to : Moment) (line : ScriptLine) (one : PhoneLine) (end : StepEnd)
    → ((found : LineList) → Follows text found script left → Finds text found next left_then line) → may_be_heard line ≡ true → phone_lines_of line ≡ one ∷ []
    → (serving : IsServing text opening given script left phone from) → RunEnds given (one ∷ lines_back serving.log) to end
    → StopsAmid text opening given end to
stops_in_line text opening given script next left left_then phone from to line one end search_so may is serving ended =
    let finds = search_so serving.found serving.follows in
    let there : RunEnds given (told_back (serving.played ++ line ∷ [])) to end =
    subst (λ (back : List PhoneLine). RunEnds given back to end) (ap (λ (back : List PhoneLine). one ∷ back) serving.told ∙ sym (told_one serving.played line one is)) ended in
    search (rules, finds.parted ∙ sym (append_assoc serving.found (Some finds.bytes ∷ []) finds.more), served_more opening serving.found serving.played finds.bytes line serving.are_served finds.read may, ended_begun given (told_back (serving.played ++ line ∷ [])) to end there, ended_of_card given (told_back (serving.played ++ line ∷ [])) to end there)

-- a step that was the last
pub ends_amid : (text : List ℕ) (opening : List ScriptLine) (given : Beginning) (left : Option (List ℕ)) (end : StepEnd) (why : PlayEnd) (now : Moment) → EndsAmid end why → StopsAmid text opening given end now → PhoneComesTo text opening given left why now
ends_amid text opening given left step_end.SinkFailed why now is stops = subst (λ (w : PlayEnd). PhoneComesTo text opening given left w now) (sym is) stops
ends_amid text opening given left step_end.ResetFailed why now is stops = subst (λ (w : PlayEnd). PhoneComesTo text opening given left w now) (sym is) stops

-- ---- where no more are read

-- the lines end after those that were read
pub ends_serving : (text : List ℕ) (opening : List ScriptLine) (given : Beginning) (script : ScriptReader) (left left_then : Option (List ℕ)) (end : PlayEnd) (phone : Kept) (parts : CardParts) (taken : Option (List ℕ)) (waiting : Plan)
    → ((found : LineList) → Follows text found script left → StopsReading may_be_heard text found left_then end)
    → IsServing text opening given script left phone (moment parts taken waiting) → PhoneEnds text opening given left_then end (moment parts taken waiting)
ends_serving text opening given script left left_then end phone parts taken waiting cause serving =
    search (rules, serving, legal given.first serving.at.card serving.log serving.at.run serving.rests, of_the_card given.first serving.at.card serving.log serving.at.run, cause serving.found serving.follows, stands_seen parts taken waiting serving.at.card (shown serving.log) serving.at.seen serving.at.rests)

-- whatever the end is
pub lines_end : (text : List ℕ) (opening : List ScriptLine) (given : Beginning) (left : Option (List ℕ)) (end : PlayEnd) (now : Moment) → PhoneEnds text opening given left end now → PhoneComesTo text opening given left end now
lines_end text opening given left SinkFailed now ends = absurd ends.cause
lines_end text opening given left ResetFailed now ends = absurd ends.cause
lines_end text opening given left other now ends = ends
