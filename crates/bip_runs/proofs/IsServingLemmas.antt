-- From one line to the next, and why no more are carried out.
use Rattle.std.proofs.Common.{◌≡◌, ℕ, ◌+◌, false, List, [], ◌∷◌, ◌++◌, reverse, Option, Some, None, Ok, Err, refl, sym, ap, ◌∙◌, subst, flat_map, rules}
use Rattle.std.proofs.lemmas.Grind.{flat_map-append}
use Rattle.std.proofs.lemmas.List.{append-nil, append_assoc, reverse-append}
use Rattle.std.specs.Io.KnownBytes.{append_known}
use Rattle.uicc_types.specs.Told.{Becomes}
use Rattle.byte_streams.proofs.ReadingLemmas.{HasRead-start, IsTakenFor-read_out}
use Rattle.byte_streams.specs.Lines.{LineList}
use Rattle.byte_streams.specs.Reading.{at_start}
use Rattle.byte_streams.specs.Streams.{TakesFront}
use Rattle.script_form.specs.Forms.{IsLine}
use Rattle.script_form.specs.Reads.{IsOnly}
use Rattle.script_form.specs.declared.lines.ScriptLine.{ScriptLine}
use Rattle.script_reader.proofs.AreReadLemmas.{AreRead-more}
use Rattle.script_reader.specs.Behind.{end_for}
use Rattle.script_reader.specs.Reading.{Finds, Follows, GivesNext, IsUnread}
use Rattle.script_reader.specs.declared.behind.PlayEnd.{PlayEnd}
use Rattle.script_reader.specs.declared.behind.PlayEnd.TheVariants.{Finished, BadLine, SinkFailed, ResetFailed}
use Rattle.script_reader.specs.declared.faults.ScriptFault.{ScriptFault}
use Rattle.script_reader.specs.declared.reader.ScriptReader.{ScriptReader}
use Rattle.script_reader.specs.declared.faults.ScriptFault.TheVariants as fault
use Rattle.bip_channels.specs.Channels.{none_open}
use Rattle.bip_channels.specs.Kept.{Held, IsKept}
use Rattle.bip_channels.specs.Traffic.{Occurrence, channels_after}
use Rattle.bip_runs.specs.Parts.{Part, Blank, Begins, Does, Foreign, occurrences, occurrences_of, part_of, moved, step}
use Rattle.bip_runs.specs.Serving.{AreInOrder, AreReadInPlace, BipComesTo, EndsServing, IsBadAt, Stops, StopsServing}
use Rattle.bip_runs.specs.BetweenLines.{IsServing}
use Rattle.bip_runs.specs.Traces.{history, lines_of, shown, text_of}
use Rattle.bip_runs.specs.declared.effects.Place.{Place}
use Rattle.bip_runs.specs.declared.effects.Place.TheVariants.{Before, Behind}
use Rattle.bip_runs.proofs.ScriptsLemmas.{moved_by-more}

-- ---- what happens by lines

happens_none : (said : List ScriptLine) (line : ScriptLine) → occurrences_of line ≡ [] → history (said ++ line ∷ []) ≡ history said
happens_none said line none =
    ap reverse (flat_map-append occurrences_of said (line ∷ []) ∙ ap (λ (more : List Occurrence). flat_map occurrences_of said ++ (more ++ [])) none ∙ append-nil (flat_map occurrences_of said))

happens_one : (said : List ScriptLine) (line : ScriptLine) (one : Occurrence) → occurrences_of line ≡ one ∷ [] → history (said ++ line ∷ []) ≡ one ∷ history said
happens_one said line one is =
    ap reverse (flat_map-append occurrences_of said (line ∷ []) ∙ ap (λ (last : List Occurrence). flat_map occurrences_of said ++ (last ++ [])) is) ∙ reverse-append (flat_map occurrences_of said) (one ∷ [])

known_twice : (known : Option (List ℕ)) (first second : List ℕ) → append_known (append_known known first) second ≡ append_known known (first ++ second)
known_twice None first second = refl
known_twice (Some bytes) first second = ap Some (append_assoc bytes first second)

known_none : (known : Option (List ℕ)) → append_known known [] ≡ known
known_none None = refl
known_none (Some bytes) = ap Some (append-nil bytes)

-- ---- where a line leads

blank_stays : (place : Place) → step place Blank ≡ Some place
blank_stays Before = refl
blank_stays Behind = refl

foreign_nowhere : (place : Place) → step place Foreign ≡ None
foreign_nowhere Before = refl
foreign_nowhere Behind = refl

as_part : (place : Place) (line : ScriptLine) (part : Part) (to : Option Place) → part ≡ part_of line → step place part ≡ to → moved place line ≡ to
as_part place line part to is leads = subst (λ p. step place p ≡ to) is leads

happens_by : (line : ScriptLine) (part : Part) (these : List Occurrence) → part ≡ part_of line → occurrences part ≡ these → occurrences_of line ≡ these
happens_by line part these is so = subst (λ p. occurrences p ≡ these) is so

-- ---- before the first line

pub serves_first : (text : List ℕ) (before left taken : Option (List ℕ)) (script : ScriptReader) (held : List Held) → script.reader ≡ at_start → script.number ≡ 0 → left ≡ Some text → taken ≡ before → IsKept none_open held
    → IsServing text before Before script left taken held
serves_first text before left taken script held fresh zero told same kept = record {
  found = [];
  said = [];
  lines_are = record { read = tt; in_place = refl };
  follows = record { reads = HasRead-start text script.reader left fresh told; counts = zero };
  kept = kept;
  written = same ∙ sym (known_none before);
}

-- ---- one more line

read_more : (found : LineList) (said : List ScriptLine) (bytes : List ℕ) (line : ScriptLine) (place to : Place) → AreReadInPlace found said place → IsOnly (IsLine bytes) line → moved place line ≡ Some to → AreReadInPlace (found ++ Some bytes ∷ []) (said ++ line ∷ []) to
read_more found said bytes line place to are only leads = record {
  read = AreRead-more found said bytes line are.read only;
  in_place = moved_by-more Before said line place to are.in_place leads;
}

-- one that does nothing
serves_on : (text : List ℕ) (before : Option (List ℕ)) (place to : Place) (script next : ScriptReader) (left left_then taken : Option (List ℕ)) (held : List Held) (line : ScriptLine)
    → ((found : LineList) → Follows text found script left → Finds text found next left_then line) → moved place line ≡ Some to → occurrences_of line ≡ []
    → IsServing text before place script left taken held → IsServing text before to next left_then taken held
serves_on text before place to script next left left_then taken held line search_so leads none serving =
    let finds = search_so serving.found serving.follows in
    let same = happens_none serving.said line none in
    search (rules, read_more serving.found serving.said finds.bytes line place to serving.lines_are finds.read leads, finds, subst (λ h. IsKept (channels_after h) held) (sym same) serving.kept, serving.written ∙ ap (λ h. append_known before (shown h)) (sym same))

pub blank_serves : (text : List ℕ) (before : Option (List ℕ)) (place : Place) (script next : ScriptReader) (left left_then taken : Option (List ℕ)) (held : List Held) (line : ScriptLine)
    → ((found : LineList) → Follows text found script left → Finds text found next left_then line) → Blank ≡ part_of line
    → IsServing text before place script left taken held → IsServing text before place next left_then taken held
blank_serves text before place script next left left_then taken held line search_so is serving =
    serves_on text before place place script next left left_then taken held line search_so (as_part place line Blank (Some place) is (blank_stays place)) (happens_by line Blank [] is refl) serving

pub start_serves : (text : List ℕ) (before : Option (List ℕ)) (place : Place) (script next : ScriptReader) (left left_then taken : Option (List ℕ)) (held : List Held) (line : ScriptLine)
    → ((found : LineList) → Follows text found script left → Finds text found next left_then line) → Begins ≡ part_of line → place ≡ Before
    → IsServing text before place script left taken held → IsServing text before Behind next left_then taken held
start_serves text before place script next left left_then taken held line search_so is at serving =
    serves_on text before place Behind script next left left_then taken held line search_so (as_part place line Begins (Some Behind) is (ap (λ p. step p Begins) at)) (happens_by line Begins [] is refl) serving

-- one by which something happens
pub happening_serves : (text : List ℕ) (before : Option (List ℕ)) (place : Place) (script next : ScriptReader) (left left_then taken taken_then : Option (List ℕ)) (held held_then : List Held) (line : ScriptLine) (one : Occurrence)
    → ((found : LineList) → Follows text found script left → Finds text found next left_then line) → Does one ≡ part_of line → place ≡ Behind
    → ((earlier : List Occurrence) → IsKept (channels_after earlier) held → IsKept (channels_after (one ∷ earlier)) held_then)
    → ((earlier : List Occurrence) → IsKept (channels_after earlier) held → taken_then ≡ append_known taken (text_of (lines_of one (channels_after earlier))))
    → IsServing text before place script left taken held → IsServing text before place next left_then taken_then held_then
happening_serves text before place script next left left_then taken taken_then held held_then line one search_so is at keeps puts serving =
    let finds = search_so serving.found serving.follows in
    let earlier = history serving.said in
    let newer = happens_one serving.said line one (happens_by line (Does one) (one ∷ []) is refl) in
    let stays : step place (Does one) ≡ Some place = ap (λ p. step p (Does one)) at ∙ ap Some (sym at) in
    search (rules, read_more serving.found serving.said finds.bytes line place place serving.lines_are finds.read (as_part place line (Does one) (Some place) is stays), finds, subst (λ h. IsKept (channels_after h) held_then) (sym newer) (keeps earlier serving.kept), puts earlier serving.kept ∙ ap (λ t. append_known t (text_of (lines_of one (channels_after earlier)))) serving.written ∙ known_twice before (shown earlier) (text_of (lines_of one (channels_after earlier))) ∙ ap (λ h. append_known before (shown h)) (sym newer))

-- the sink failed in what it shows
pub happening_stops : (text : List ℕ) (before : Option (List ℕ)) (place : Place) (script next : ScriptReader) (left left_then taken taken_then : Option (List ℕ)) (held : List Held) (line : ScriptLine) (one : Occurrence)
    → ((h : List Occurrence) → AreInOrder h)
    → ((found : LineList) → Follows text found script left → Finds text found next left_then line) → Does one ≡ part_of line → place ≡ Behind
    → ((earlier : List Occurrence) → IsKept (channels_after earlier) held → Becomes (TakesFront (text_of (lines_of one (channels_after earlier)))) taken taken_then)
    → IsServing text before place script left taken held → StopsServing text before taken_then
happening_stops text before place script next left left_then taken taken_then held line one order search_so is at puts serving =
    let finds = search_so serving.found serving.follows in
    let earlier = history serving.said in
    let stays : step place (Does one) ≡ Some place = ap (λ p. step p (Does one)) at ∙ ap Some (sym at) in
    search (rules, finds.parted ∙ sym (append_assoc serving.found (Some finds.bytes ∷ []) finds.more), read_more serving.found serving.said finds.bytes line place place serving.lines_are finds.read (as_part place line (Does one) (Some place) is stays), happens_one serving.said line one (happens_by line (Does one) (one ∷ []) is refl), subst (λ t. Becomes (TakesFront (text_of (lines_of one (channels_after earlier)))) t taken_then) serving.written (puts earlier serving.kept), order (history (serving.said ++ line ∷ [])))

-- ---- where no more are carried out

ends_serving : (text : List ℕ) (before : Option (List ℕ)) (place : Place) (script : ScriptReader) (left left_then taken : Option (List ℕ)) (held : List Held) (end : PlayEnd)
    → ((h : List Occurrence) → AreInOrder h) → ((found : LineList) → Follows text found script left → Stops place text found left_then end)
    → IsServing text before place script left taken held → EndsServing text before left_then taken end
ends_serving text before place script left left_then taken held end order cause serving = search (rules, serving, cause serving.found serving.follows, order (history serving.said))

to_end : (text : List ℕ) (before left taken : Option (List ℕ)) (end : PlayEnd) → EndsServing text before left taken end → BipComesTo text before left taken end
to_end text before left taken SinkFailed ends = absurd ends.cause
to_end text before left taken ResetFailed ends = absurd ends.cause
to_end text before left taken other ends = ends

-- no more lines are read
pub no_more_serve : (text : List ℕ) (before : Option (List ℕ)) (place : Place) (script next : ScriptReader) (left left_then taken : Option (List ℕ)) (held : List Held) (end : PlayEnd) → ((h : List Occurrence) → AreInOrder h)
    → ((found : LineList) → Follows text found script left → Stops place text found left_then end)
    → IsServing text before place script left taken held → BipComesTo text before left_then taken end
no_more_serve text before place script next left left_then taken held end order cause serving =
    to_end text before left_then taken end (ends_serving text before place script left left_then taken held end order cause serving)

-- a line may not stand there
stops_at : (place : Place) (text : List ℕ) (found : LineList) (script : ScriptReader) (left : Option (List ℕ)) (line : ScriptLine) (number : ℕ) → Finds text found script left line → moved place line ≡ None → number ≡ script.number → Stops place text found left (BadLine number)
stops_at place text found script left line number finds out is = record {
  next = Some finds.bytes ∷ finds.more;
  parted = finds.parted;
  is = λ other says. subst (λ l. moved place l ≡ None) (sym (finds.read.only other says)) out;
  counted = is ∙ finds.counts;
  reach = finds.reach;
}

pub bad_serves : (text : List ℕ) (before : Option (List ℕ)) (place : Place) (script next : ScriptReader) (left left_then taken : Option (List ℕ)) (held : List Held) (line : ScriptLine) (part : Part) (number : ℕ) → ((h : List Occurrence) → AreInOrder h)
    → ((found : LineList) → Follows text found script left → Finds text found next left_then line) → part ≡ part_of line → step place part ≡ None → number ≡ next.number
    → IsServing text before place script left taken held → EndsServing text before left_then taken (BadLine number)
bad_serves text before place script next left left_then taken held line part number order search_so is nowhere counted serving =
    ends_serving text before place script left left_then taken held (BadLine number) order
    (λ found follows. stops_at place text found next left_then line number (search_so found follows) (as_part place line part None is nowhere) counted) serving

pub start_again : (place : Place) → place ≡ Behind → step place Begins ≡ None
start_again place at = ap (λ p. step p Begins) at

pub too_early : (place : Place) (one : Occurrence) → place ≡ Before → step place (Does one) ≡ None
too_early place one at = ap (λ p. step p (Does one)) at

pub nowhere : (place : Place) → step place Foreign ≡ None
nowhere place = foreign_nowhere place

-- ---- the next line

unread_is_bad : (place : Place) (next : LineList) → IsUnread next → IsBadAt place next
unread_is_bad place [] unread = absurd unread
unread_is_bad place (None ∷ more) unread = tt
unread_is_bad place (Some bytes ∷ more) unread = λ line says. absurd (unread line says)

-- the script itself is bad or fails
pub in_script : (place : Place) (text : List ℕ) (found : LineList) (script : ScriptReader) (left : Option (List ℕ)) (line : ScriptLine) (why : ScriptFault) (end : PlayEnd) → end ≡ end_for why
    → GivesNext text found script left line (Err why) → Stops place text found left end
in_script place text found script left line (fault.BadLine number) end is gives = subst (Stops place text found left) (sym is)
    (record { next = gives.next; parted = gives.parted; is = unread_is_bad place gives.next gives.is; counted = gives.counted; reach = gives.reach })
in_script place text found script left line (fault.NoRoom number) end is gives = absurd gives
in_script place text found script left line fault.ReadFailed end is gives = subst (Stops place text found left) (sym is) gives

-- it ends before `start`
pub at_end : (place : Place) (text : List ℕ) (found : LineList) (script : ScriptReader) (left : Option (List ℕ)) (line : ScriptLine) (why : ScriptFault) (end : PlayEnd) → place ≡ Before → GivesNext text found script left line (Ok false)
    → why ≡ fault.BadLine (script.number + 1) → end ≡ end_for why → Stops place text found left end
at_end place text found script left line why end at gives is end_is =
    subst (λ e. Stops place text found left e) (sym (end_is ∙ ap end_for is))
    (subst (λ p. Stops p text found left (BadLine (script.number + 1))) (sym at)
    (record { next = []; parted = gives.0.lines_are ∙ sym (append-nil found); is = tt; counted = ap (λ count. count + 1) gives.1; reach = IsTakenFor-read_out text found left gives.0 }))

-- after `start` it may end
pub at_last : (place : Place) (text : List ℕ) (found : LineList) (script : ScriptReader) (left : Option (List ℕ)) (line : ScriptLine) → place ≡ Behind → GivesNext text found script left line (Ok false) → Stops place text found left Finished
at_last place text found script left line at gives = (at, gives.0)
