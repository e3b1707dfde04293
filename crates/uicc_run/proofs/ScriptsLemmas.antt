-- What an undisturbed run comes to, by its script and the card that is to be opened.
use Rattle.std.proofs.Common.{◌≡◌, ℕ, ◌<◌, ◌≤◌, Bool, true, false, List, [], ◌∷◌, ◌++◌, Option, Some, None, is_some, Result, Ok, Err, refl, sym, ap, ◌∙◌, inl, inr, ⊎_elim, arith, subst, ◌⊎◌, All, IfSome, if◌then◌else◌, append-nil, rules}
use Rattle.std.proofs.lemmas.Bool.{cases_order}
use Rattle.std.proofs.lemmas.List.Elements.{All-contains, All-nil}
use Rattle.std.specs.Io.KnownBytes.{append_known}
use Rattle.byte_streams.specs.Lines.{LineList, lines}
use Rattle.byte_streams.specs.Reading.{IsTakenFor}
use Rattle.script_form.specs.Forms.{IsLine}
use Rattle.script_form.specs.Traces.{trace_text}
use Rattle.script_form.specs.declared.lines.ScriptLine.{ScriptLine}
use Rattle.script_form.specs.declared.lines.ScriptLine.TheVariants.{Start}
use Rattle.script_form.specs.declared.trace.TraceLine.TheVariants as line
use Rattle.script_reader.proofs.AreReadLemmas.{Say-from_read}
use Rattle.script_reader.specs.Reading.{GoesOn}
use Rattle.script_reader.specs.Said.{AreRead, Say}
use Rattle.script_reader.specs.declared.behind.PlayEnd.{PlayEnd}
use Rattle.script_reader.specs.declared.behind.PlayEnd.TheVariants as play
use Rattle.script_reader.specs.declared.faults.ScriptFault.TheVariants as script
use Rattle.card_state.specs.Persistent.{Persistent, Registration}
use Rattle.applet_trait.specs.Minds.{AppletState}
use Rattle.card_model.specs.States.{HasBox, IsGood, Machine}
use Rattle.card_core.specs.Openings.{with_all_shelves}
use Rattle.card_core.specs.Boxes.{IsFirstWithoutBox}
use Rattle.section_lines.specs.RowLaws.{AreOfTheirBoxes}
use Rattle.section_lines.specs.Script.{with_lines}
use Rattle.section_lines.proofs.RowsHaveBoxesLemmas.{rows_have_boxes}
use Rattle.run_steps.specs.Views.{CardView, ItsPower, TheCard}
use Rattle.phone_runs.specs.Lines.{PhoneEnds}
use Rattle.bip_runs.proofs.IsLineLemmas.{Only, only_first, only_last, only_says, says_itself}
use Rattle.uicc_run.specs.Making.{IsUnshown}
use Rattle.uicc_run.specs.Endings.{IsEarly, refusal_line, status_for}
use Rattle.uicc_run.specs.Headline.{Closes, Comes, IsNoCard, IsNotOpened, LacksBox, is_known, last_text}
use Rattle.uicc_run.specs.Playing.{AreReadInPlace, EndsSo, Given, IsFirst, IsOpened, Leaves, first_machine, ComesTo, ServedComesTo, beginning}
use Rattle.uicc_run.specs.Steps.{may_stand}
use Rattle.uicc_run.specs.Scripts.{AreInPlace, CanOpen, CannotOpen, HoldsWholeCard, IsFirstBad, IsFirstTooMuch, IsGoodScript, MeetsBad, ReachesStart, RefusesAndTells, StopsAndTells, StopsAtStart, StopsBefore, StopsBehind, TellsNext, TellsWhy}
use Rattle.uicc_run.specs.declared.endings.Ending.{Ending}
use Rattle.uicc_run.specs.declared.endings.Ending.TheVariants.{Usage, NoMemory, Section, MemoryFailed, NoCard, Played, Counted}
use Rattle.uicc_run.specs.declared.endings.Refusal.{Refusal}
use Rattle.uicc_run.specs.declared.endings.Refusal.TheVariants.{NotACard, NoApplet}
use Rattle.uicc_run.proofs.ReadingLemmas.{EndsBehind, HasStarted, has_started, reads_played, reads_served}
use Rattle.uicc_run.proofs.TellsNextLemmas.{tells_it, tells_same}
use Rattle.uicc_run.proofs.ServingLemmas.{opening}
use Rattle.uicc_run.proofs.HasBoxLemmas.{IsBoxed, have_boxes}
use Rattle.uicc_run.proofs.HasKindsOfLemmas.{boxes_there}
use Rattle.uicc_run.proofs.EndsForLemmas.{by_status}
use Rattle.uicc_run.proofs.OpeningLemmas.{none_stays}
use Rattle.uicc_run.proofs.WithLineLemmas.{Before, Behind, Rules, Stage, Stops, Walks, one_card, one_stop, passes_stop, walks_section, walks_whole, whole_no_stop}
use Rattle.uicc_run.specs.declared.endings.Task.TheVariants as task

abbrev rules_of : Given → Rules
rules_of given = record { cast = given.boxes; may = may_stand given.is_served }

-- ---- the card that is opened

-- where none is described it is the memory's
memory_holds : (cast : List (Option AppletState)) (first : Option Persistent) (memory : Result Persistent ℕ) (section : List ScriptLine) (start : Persistent) → with_lines cast first section ≡ Ok None → IsOpened cast first memory section start → memory ≡ Ok start
memory_holds cast (Some bare) memory section start is opened = absurd (cc)
memory_holds cast None memory section start is opened = opened.1

is_none : (card : Option Persistent) → is_some card ≡ false → card ≡ None
is_none None none = refl
is_none (Some card) none = absurd (cc)

one_start : (memory : Result Persistent ℕ) (start other : Persistent) → memory ≡ Ok start → memory ≡ Ok other → start ≡ other
one_start memory start other is so = cc

-- where a run stands after `start` and no card was described, the memory held one that could be opened
abbrev pub OpensAt : Given → Stage → Type 0
OpensAt given (Before card) = Unit {0}
OpensAt given (Behind None) = HoldsWholeCard given
OpensAt given (Behind (Some described)) = Unit {0}

-- the card that was opened was there to be opened
was_to_open : (given : Given) (section : List ScriptLine) (start : Persistent) (card : Option Persistent) → with_lines given.boxes given.first section ≡ Ok card → IsOpened given.boxes given.first given.memory section start → IsGood (first_machine start given.boxes).card → OpensAt given (Behind card)
was_to_open given section start (Some described) is opened good = tt
was_to_open given section start None is opened good = record {
  start = start;
  is = memory_holds given.boxes given.first given.memory section start is opened;
  boxes = boxes_there start given.boxes good;
}

-- why it can't be opened
cannot_open : (given : Given) (why : Refusal) → CannotOpen given why → HoldsWholeCard given → ⊥
cannot_open given (NotACard at) cannot can = let holds = can.is in cc
cannot_open given (NoApplet shelf) cannot can =
    let boxes = subst (λ (s : Persistent). All (HasBox (with_all_shelves given.boxes)) s.rows) (one_start given.memory can.start cannot.start can.is cannot.is) can.boxes in
    cannot.first_missing.lacks (All-contains (HasBox (with_all_shelves given.boxes)) cannot.start.rows cannot.first_missing.row boxes cannot.first_missing.there)

-- and there is one cause alone
not_below : (rows : List Registration) (boxes : List (Option AppletState)) (shelf other : ℕ) → IsFirstWithoutBox rows boxes shelf → IsFirstWithoutBox rows boxes other → shelf < other → ⊥
not_below rows boxes shelf other first second less =
    first.lacks (All-contains (λ row. row.shelf < other → HasBox boxes row) rows first.row second.before first.there (let on = first.on_shelf in omega arith))

one_shelf : (rows : List Registration) (boxes : List (Option AppletState)) (shelf other : ℕ) → IsFirstWithoutBox rows boxes shelf → IsFirstWithoutBox rows boxes other → shelf ≡ other
one_shelf rows boxes shelf other first second = elim (cases_order shelf other) [
  | inl same ↦ same
  | inr (inl less) ↦ absurd (not_below rows boxes shelf other first second less)
  | inr (inr more) ↦ absurd (not_below rows boxes other shelf second first more)
]

one_place : (memory : Result Persistent ℕ) (at other : ℕ) → memory ≡ Err at → memory ≡ Err other → at ≡ other
one_place memory at other is so = cc

one_cause : (given : Given) (why other : Refusal) → CannotOpen given why → CannotOpen given other → why ≡ other
one_cause given (NotACard at) (NotACard place) cannot could = ap NotACard (one_place given.memory at place cannot could)
one_cause given (NotACard at) (NoApplet shelf) cannot could = let holds = could.is in absurd (cc)
one_cause given (NoApplet shelf) (NotACard at) cannot could = let holds = cannot.is in absurd (cc)
one_cause given (NoApplet shelf) (NoApplet other) cannot could =
    let start = one_start given.memory cannot.start could.start cannot.is could.is in
    ap NoApplet (one_shelf could.start.rows (with_all_shelves given.boxes) shelf other (subst (λ (s : Persistent). IsFirstWithoutBox s.rows (with_all_shelves given.boxes) shelf) start cannot.first_missing) could.first_missing)

-- ---- where a run stops

-- the whole script was carried out
pub record Finishes (given : Given) (status : ℕ) : Type 0 where
  pub zero : status ≡ 0
  pub card : Option Persistent
  pub walk : Walks (rules_of given) Only (Before given.first) (lines given.text) (Behind card)
  pub good : IsGoodScript given

abbrev pub IsStop : Given → Bool → LineList → Type 0
IsStop given false found = IsFirstBad given found
IsStop given true found = IsFirstTooMuch given found

abbrev pub stop_status : Bool → ℕ
stop_status why = if why then 8 else 2

-- it stopped at a line
pub record Stopped (given : Given) (status : ℕ) (left taken : Option (List ℕ)) : Type 0 where
  pub why : Bool
  pub is : status ≡ stop_status why
  pub found : LineList
  pub next : LineList
  pub to : Stage
  pub parted : lines given.text ≡ found ++ next
  pub walk : Walks (rules_of given) Only (Before given.first) found to
  pub stops : Stops (rules_of given) to next why
  pub place : IsStop given why found
  pub tells : TellsNext found taken
  pub reach : IsTakenFor given.text found left

-- and with no other status
clash : (why : Bool) (status other : ℕ) → status ≡ stop_status why → status ≡ other → (2 ≡ other → ⊥) → (8 ≡ other → ⊥) → ⊥
clash false status other is so two eight = two (sym is ∙ so)
clash true status other is so two eight = eight (sym is ∙ so)

same_why : (why other : Bool) → stop_status why ≡ stop_status other → why ≡ other
same_why false false is = refl
same_why true true is = refl
same_why why other is = absurd (cc)

-- before `start`
abbrev stopped_before : (given : Given) (why : Bool) (status number : ℕ) (before taken left : Option (List ℕ)) (found : LineList) (section : List ScriptLine) (card : Option Persistent)
    → AreRead found section → with_lines given.boxes given.first section ≡ Ok card → GoesOn given.text found left (λ next. Stops (rules_of given) (Before card) next why) number
    → (StopsBefore given found (λ c next. Stops (rules_of given) (Before c) next why) → IsStop given why found) → status ≡ stop_status why → taken ≡ append_known before (trace_text (line.Line number) ++ []) → Stopped given status left taken
stopped_before given why status number before taken left found section card read described cause stop is told = record {
  why = why;
  is = is;
  found = found;
  next = cause.next;
  to = Before card;
  parted = cause.parted;
  walk = walks_section (rules_of given) Only found section given.first card read described;
  stops = cause.is;
  place = stop (record { section = section; card = card; next = cause.next; parted = cause.parted; said = Say-from_read found section read; described = described; is = cause.is });
  tells = tells_it before taken found number cause.counted told;
  reach = cause.reach;
}

-- after it
are_in_place : (given : Given) (found : LineList) (section played : List ScriptLine) (card : Option Persistent) → AreReadInPlace given found section played card → AreInPlace given found section played card
are_in_place given found section played card are = record { said = Say-from_read found (section ++ Start ∷ played) are.read; described = are.described; in_place = are.in_place }

walks_read : (given : Given) (found : LineList) (section played : List ScriptLine) (card : Option Persistent) → AreReadInPlace given found section played card → Walks (rules_of given) Only (Before given.first) found (Behind card)
walks_read given found section played card are = walks_whole (rules_of given) Only found section played given.first card are.read are.described are.in_place

abbrev stopped_behind : (given : Given) (status number : ℕ) (before taken left : Option (List ℕ)) (ends : EndsBehind given left (play.BadLine number)) → status ≡ 2
    → taken ≡ append_known before (trace_text (line.Line number) ++ []) → Stopped given status left taken
stopped_behind given status number before taken left ends is told = record {
  why = false;
  is = is;
  found = ends.found;
  next = ends.cause.next;
  to = Behind ends.card;
  parted = ends.cause.parted;
  walk = walks_read given ends.found ends.section ends.played ends.card ends.lines_are;
  stops = ends.cause.is;
  place = inr (record {
    section = ends.section;
    played = ends.played;
    card = ends.card;
    next = ends.cause.next;
    parted = ends.cause.parted;
    good = are_in_place given ends.found ends.section ends.played ends.card ends.lines_are;
    is = ends.cause.is;
  });
  tells = tells_it before taken ends.found number ends.cause.counted told;
  reach = ends.cause.reach;
}

-- the whole script was read
abbrev finished : (given : Given) (status : ℕ) (left : Option (List ℕ)) → EndsBehind given left play.Finished → status ≡ 0 → Finishes given status
finished given status left ends is =
    let all = ends.cause.lines_are in
    record {
      zero = is;
      card = ends.card;
      walk = subst (λ l. Walks (rules_of given) Only (Before given.first) l (Behind ends.card)) (sym all) (walks_read given ends.found ends.section ends.played ends.card ends.lines_are);
      good = record {
        section = ends.section;
        played = ends.played;
        card = ends.card;
        good = subst (λ l. AreInPlace given l ends.section ends.played ends.card) (sym all) (are_in_place given ends.found ends.section ends.played ends.card ends.lines_are);
      };
    }

-- ---- where the card was not opened

-- its memory, which tells its bytes, holds none that can be
pub record Refused (given : Given) (taken : Option (List ℕ)) : Type 0 where
  pub reaches : ReachesStart given None
  pub why : Refusal
  pub cannot : CannotOpen given why
  pub tells : TellsWhy given why taken

-- the last line says why
tells_why : (given : Given) (before taken : Option (List ℕ)) (why : Refusal) → before ≡ given.before → taken ≡ append_known before (trace_text (refusal_line why) ++ []) → TellsWhy given why taken
tells_why given before taken why was told =
    told ∙ ap (λ b. append_known b (trace_text (refusal_line why) ++ [])) was ∙ ap (append_known given.before) (append-nil (trace_text (refusal_line why)))

refused_so : (IsKnown : List ScriptLine → Option Persistent → Type 0) (given : Given) (known : Bool) (left taken : Option (List ℕ)) (leaves : Leaves) (why : Refusal) → (refused : IsNotOpened given known left leaves IsKnown) → refused.card ≡ None → CannotOpen given why → taken ≡ append_known leaves.taken (trace_text (refusal_line why) ++ []) → Refused given taken
refused_so IsKnown given known left taken leaves why refused none cannot told = record {
  reaches = record {
    found = refused.found;
    more = refused.more;
    section = refused.section;
    parted = refused.begins;
    said = Say-from_read refused.found (refused.section ++ Start ∷ []) refused.read;
    described = refused.described ∙ ap Ok none;
  };
  why = why;
  cannot = cannot;
  tells = tells_why given leaves.taken taken why refused.quiet.written told;
}

describes_none : (IsKnown : List ScriptLine → Option Persistent → Type 0) (given : Given) (known : Bool) (left : Option (List ℕ)) (leaves : Leaves) (refused : IsNotOpened given known left leaves IsKnown) → given.first ≡ None → refused.card ≡ None
describes_none IsKnown given known left leaves refused none =
    is_none refused.card (none_stays given.boxes refused.section refused.card (ap (λ f. with_lines given.boxes f refused.section) (sym none) ∙ refused.described))

no_card_so : (given : Given) (known : Bool) (at : ℕ) (left taken : Option (List ℕ)) (leaves : Leaves) → IsNotOpened given known left leaves (λ section card. IsNoCard given at leaves) → taken ≡ append_known leaves.taken (last_text (NoCard (NotACard at))) → known ≡ true → Refused given taken
no_card_so given known at left taken leaves refused told tells =
    let none = refused.known tells in
    refused_so (λ section card. IsNoCard given at leaves) given known left taken leaves (NotACard at) refused (describes_none (λ section card. IsNoCard given at leaves) given known left leaves refused none.no_section) none.first_failed told

-- a card that is described lacks no box
lacks_none : (cast : List (Option AppletState)) (first : Option Persistent) (memory : Result Persistent ℕ) (section : List ScriptLine) (start : Persistent) (shelf : ℕ) → ((IfSome first (AreOfTheirBoxes cast) → ⊥) → ⊥)
    → IsOpened cast first memory section start → IsFirstWithoutBox start.rows (with_all_shelves cast) shelf → first ≡ None
lacks_none cast None memory section start shelf boxed opened missing = refl
lacks_none cast (Some bare) memory section start shelf boxed opened missing =
    absurd (boxed (λ all. missing.lacks (All-contains (HasBox (with_all_shelves cast)) start.rows missing.row (have_boxes cast start.rows (rows_have_boxes cast section bare start all opened)) missing.there)))

no_box_so : (given : Given) (known : Bool) (shelf : ℕ) (left taken : Option (List ℕ)) (leaves : Leaves) → ((IsBoxed given → ⊥) → ⊥) → IsNotOpened given known left leaves (λ section card. LacksBox given shelf section leaves)
    → taken ≡ append_known leaves.taken (last_text (NoCard (NoApplet shelf))) → known ≡ true → Refused given taken
no_box_so given known shelf left taken leaves boxed refused told tells =
    let lacks = refused.known tells in
    let held = lacks.holds in
    let none = describes_none (λ section card. LacksBox given shelf section leaves) given known left leaves refused (lacks_none given.boxes given.first given.memory refused.section held.start shelf boxed held.opened lacks.first_missing) in
    refused_so (λ section card. LacksBox given shelf section leaves) given known left taken leaves (NoApplet shelf) refused none (record {
      start = held.start;
      is = memory_holds given.boxes given.first given.memory refused.section held.start (refused.described ∙ ap Ok none) held.opened;
      first_missing = lacks.first_missing;
    }) told

-- ---- where it was

-- the lines that were read after `start`, be they for the card or for a handset; and if the card is known, that it was there to be opened
abbrev EndsInLines : Given → Bool → Option (List ℕ) → PlayEnd → Type 0
EndsInLines given known left end = (ends : EndsBehind given left end) × (known ≡ true → OpensAt given (Behind ends.card))

known_opens : (given : Given) (section : List ScriptLine) (described : Option Persistent) (first : CardView) → with_lines given.boxes given.first section ≡ Ok described → IsFirst given section first → is_known first ≡ true → OpensAt given (Behind described)
known_opens given section described (TheCard machine) is opened known =
    was_to_open given section opened.start described is opened.opened (subst (λ (m : Machine). IsGood m.card) opened.machine_is opened.good)
known_opens given section described (ItsPower on) is opened known = absurd (cc)

ends_played : (given : Given) (known : Bool) (left : Option (List ℕ)) (end : PlayEnd) (leaves : Leaves) (first : CardView) → is_known first ≡ known → EndsSo given first left end leaves → EndsInLines given known left end
ends_played given known left end leaves first is ends =
    (reads_played given first left end leaves ends, λ tells. known_opens given ends.done.section ends.done.described first ends.done.lines.described ends.done.opened (is ∙ tells))

ends_served : (given : Given) (known : Bool) (left : Option (List ℕ)) (end : PlayEnd) (leaves : Leaves) (first : CardView) → is_known first ≡ known → given.is_served ≡ true → (served : ServedComesTo given first left end leaves)
    → PhoneEnds given.text (opening served.section) (beginning given first) left end served.at → EndsInLines given known left end
ends_served given known left end leaves first is to_handset served ends =
    (reads_served given first left end leaves to_handset served ends, λ tells. known_opens given served.section served.card first served.described served.opened (is ∙ tells))

behind_end : (given : Given) (known : Bool) (left : Option (List ℕ)) (leaves : Leaves) (first : CardView) → is_known first ≡ known → ComesTo given first left play.Finished leaves → EndsInLines given known left play.Finished
behind_end given known left leaves first is (inl card) = ends_played given known left play.Finished leaves first is card.1
behind_end given known left leaves first is (inr served) = ends_served given known left play.Finished leaves first is served.0 served.1 served.1.comes

behind_bad : (given : Given) (known : Bool) (left : Option (List ℕ)) (number : ℕ) (leaves : Leaves) (first : CardView) → is_known first ≡ known → ComesTo given first left (play.BadLine number) leaves → EndsInLines given known left (play.BadLine number)
behind_bad given known left number leaves first is (inl card) = ends_played given known left (play.BadLine number) leaves first is card.1
behind_bad given known left number leaves first is (inr served) = ends_served given known left (play.BadLine number) leaves first is served.0 served.1 served.1.comes

-- ---- what a run comes to by its lines

-- There was no memory to begin with; or it ended after its lines, or at one of them, with a card to open if that is known; or with a card that
-- could not be opened at `start`.
abbrev pub Verdict : Given → Bool → ℕ → Option (List ℕ) → Option (List ℕ) → Type 0
Verdict given known status left taken =
    (status ≡ 5)
    ⊎ (((finishes : Finishes given status) × (left ≡ Some []) × (known ≡ true → OpensAt given (Behind finishes.card)))
    ⊎ (((stopped : Stopped given status left taken) × (known ≡ true → OpensAt given stopped.to))
    ⊎ ((status ≡ 7) × HasStarted given × (known ≡ true → Refused given taken))))

finished_so : (given : Given) (known : Bool) (status : ℕ) (left taken : Option (List ℕ)) → EndsInLines given known left play.Finished → status ≡ 0 → Verdict given known status left taken
finished_so given known status left taken came is = inr (inl (finished given status left came.0 is, came.0.cause.told, came.1))

stopped_so : (given : Given) (known : Bool) (status number : ℕ) (before left taken : Option (List ℕ)) → EndsInLines given known left (play.BadLine number) → status ≡ 2 → taken ≡ append_known before (trace_text (line.Line number) ++ []) → Verdict given known status left taken
stopped_so given known status number before left taken came is told = inr (inr (inl (stopped_behind given status number before taken left came.0 is told, came.1)))

verdict_of : (given : Given) (known : Bool) (left taken : Option (List ℕ)) (ending : Ending) (leaves : Leaves) (status : ℕ) → status ≡ status_for ending → taken ≡ append_known leaves.taken (last_text ending) → Comes given known left ending leaves
    → (status ≡ 7 → (IsBoxed given → ⊥) → ⊥) → (ending ≡ Usage → ⊥) → (status_for ending ≡ 3 → ⊥) → (status_for ending ≡ 4 → ⊥) → (status_for ending ≡ 6 → ⊥) → Verdict given known status left taken
verdict_of given known left taken Usage leaves status is told comes boxed used three four six = absurd (used refl)
verdict_of given known left taken NoMemory leaves status is told comes boxed used three four six = inl is
verdict_of given known left taken (Section (script.BadLine number)) leaves status is told comes boxed used three four six = inr (inr (inl (stopped_before given false status number leaves.taken taken left _ _ _ comes.0.read comes.0.described comes.0.cause inl is told, λ tells. tt)))
verdict_of given known left taken (Section (script.NoRoom number)) leaves status is told comes boxed used three four six = inr (inr (inl (stopped_before given true status number leaves.taken taken left _ _ _ comes.0.read comes.0.described comes.0.cause (λ full. full) is told, λ tells. tt)))
verdict_of given known left taken (Section script.ReadFailed) leaves status is told comes boxed used three four six = absurd (three refl)
verdict_of given known left taken (MemoryFailed when) leaves status is told comes boxed used three four six = absurd (six refl)
verdict_of given known left taken (NoCard (NotACard at)) leaves status is told comes boxed used three four six = inr (inr (inr (is, has_started _ given known left leaves comes, no_card_so given known at left taken leaves comes told)))
verdict_of given known left taken (NoCard (NoApplet shelf)) leaves status is told comes boxed used three four six = inr (inr (inr (is, has_started _ given known left leaves comes, no_box_so given known shelf left taken leaves (boxed is) comes told)))
verdict_of given known left taken (Played play.Finished) leaves status is told comes boxed used three four six = finished_so given known status left taken (behind_end given known left leaves comes.0 comes.1 comes.2) is
verdict_of given known left taken (Played (play.BadLine number)) leaves status is told comes boxed used three four six = stopped_so given known status number leaves.taken left taken (behind_bad given known left number leaves comes.0 comes.1 comes.2) is told
verdict_of given known left taken (Played play.ReadFailed) leaves status is told comes boxed used three four six = absurd (three refl)
verdict_of given known left taken (Played play.SinkFailed) leaves status is told comes boxed used three four six = absurd (four refl)
verdict_of given known left taken (Played play.ResetFailed) leaves status is told comes boxed used three four six = absurd (six refl)
verdict_of given known left taken (Counted lines counts) leaves status is told comes boxed used three four six = absurd comes

-- the run of a program, but for one with another status
pub verdict : (given : Given) (known : Bool) (left taken : Option (List ℕ)) (ending : Ending) (leaves : Leaves) (status : ℕ) → Closes ending leaves.taken taken status → Comes given known left ending leaves
    → (status ≡ 7 → (IsBoxed given → ⊥) → ⊥) → (status ≡ 1 → ⊥) → (status ≡ 3 → ⊥) → (status ≡ 4 → ⊥) → (status ≡ 6 → ⊥) → Verdict given known status left taken
verdict given known left taken ending leaves status closes comes boxed one three four six =
    elim closes [
      | inl whole ↦ verdict_of given known left taken ending leaves status whole.0 whole.1 comes boxed (λ same. one (whole.0 ∙ ap status_for same)) (λ is. three (whole.0 ∙ is)) (λ is. four (whole.0 ∙ is)) (λ is. six (whole.0 ∙ is))
      | inr broken ↦ absurd (four broken.0)
    ]

-- a good script is carried out to its end
pub good_ends : (given : Given) (known : Bool) (status : ℕ) (left taken : Option (List ℕ)) → Verdict given known status left taken → IsGoodScript given → (status ≡ 0) ⊎ ((status ≡ 5) ⊎ (status ≡ 7))
good_ends given known status left taken (inl lacks) good = inr (inl lacks)
good_ends given known status left taken (inr (inl finishes)) good = inl finishes.0.zero
good_ends given known status left taken (inr (inr (inl stopped))) good =
    absurd (whole_no_stop (rules_of given) Only IsLine only_first says_itself stopped.0.found stopped.0.next (Before given.first) stopped.0.to stopped.0.why good.card stopped.0.walk stopped.0.stops
    (subst (λ l. Walks (rules_of given) IsLine (Before given.first) l (Behind good.card)) stopped.0.parted (walks_whole (rules_of given) IsLine (lines given.text) good.section good.played given.first good.card good.good.said good.good.described good.good.in_place)))
good_ends given known status left taken (inr (inr (inr refused))) good = inr (inr refused.0)

-- at a line at which it has to stop it does, if the card can be opened
stops_by : (given : Given) (known : Bool) (status : ℕ) (left taken : Option (List ℕ)) (found next : LineList) (to : Stage) (why : Bool) → Walks (rules_of given) IsLine (Before given.first) found to → Stops (rules_of given) to next why → lines given.text ≡ found ++ next
    → Verdict given known status left taken → ((status ≡ stop_status why) × TellsNext found taken) ⊎ ((status ≡ 5) ⊎ ((status ≡ 7) × HasStarted given))
stops_by given known status left taken found next to why walk stops parted (inl lacks) = inr (inl lacks)
stops_by given known status left taken found next to why walk stops parted (inr (inl finishes)) =
    absurd (whole_no_stop (rules_of given) IsLine Only only_last only_says found next (Before given.first) to why finishes.0.card walk stops (subst (λ l. Walks (rules_of given) Only (Before given.first) l (Behind finishes.0.card)) parted finishes.0.walk))
stops_by given known status left taken found next to why walk stops parted (inr (inr (inl stopped))) =
    let same = one_stop (rules_of given) Only IsLine only_first only_says says_itself stopped.0.found found stopped.0.next next (Before given.first) stopped.0.to to stopped.0.why why stopped.0.walk stopped.0.stops walk stops (sym stopped.0.parted ∙ parted) in
    inl (stopped.0.is ∙ ap stop_status same.cause, tells_same stopped.0.found found taken same.place stopped.0.tells)
stops_by given known status left taken found next to why walk stops parted (inr (inr (inr refused))) = inr (inr (refused.0, refused.1))

-- a run that comes to `start` has met no such line
passed_over : (given : Given) (found next : LineList) (card : Option Persistent) (why : Bool) → Walks (rules_of given) IsLine (Before given.first) found (Before card) → Stops (rules_of given) (Before card) next why → lines given.text ≡ found ++ next → HasStarted given → ⊥
passed_over given found next card why walk stops parted started =
    passes_stop (rules_of given) Only IsLine only_first only_says started.found started.more found next (Before given.first) why started.card card (walks_read given started.found started.section [] started.card started.lines_are) walk stops (sym started.parted ∙ parted)

stops_before : (given : Given) (known : Bool) (status : ℕ) (left taken : Option (List ℕ)) (found next : LineList) (section : List ScriptLine) (card : Option Persistent) (why : Bool) → Say found section → with_lines given.boxes given.first section ≡ Ok card → Stops (rules_of given) (Before card) next why
    → lines given.text ≡ found ++ next → Verdict given known status left taken → ((status ≡ stop_status why) × TellsNext found taken) ⊎ (status ≡ 5)
stops_before given known status left taken found next section card why said described stops parted verdict =
    let walk = walks_section (rules_of given) IsLine found section given.first card said described in
    elim (stops_by given known status left taken found next (Before card) why walk stops parted verdict) [
      | inl here ↦ inl here
      | inr (inl lacks) ↦ inr lacks
      | inr (inr refused) ↦ absurd (passed_over given found next card why walk stops parted refused.1)
    ]

stops_behind : (given : Given) (known : Bool) (status : ℕ) (left taken : Option (List ℕ)) (found : LineList) → StopsBehind given found → Verdict given known status left taken → ((status ≡ 2) × TellsNext found taken) ⊎ ((status ≡ 5) ⊎ ((status ≡ 7) × HasStarted given))
stops_behind given known status left taken found behind verdict =
    stops_by given known status left taken found behind.next (Behind behind.card) false (walks_whole (rules_of given) IsLine found behind.section behind.played given.first behind.card behind.good.said behind.good.described behind.good.in_place) behind.is behind.parted verdict

pub bad_stops : (given : Given) (known : Bool) (status : ℕ) (left taken : Option (List ℕ)) (found : LineList) → IsFirstBad given found → Verdict given known status left taken → ((status ≡ 2) × TellsNext found taken) ⊎ ((status ≡ 5) ⊎ ((status ≡ 7) × StopsBehind given found))
bad_stops given known status left taken found (inl before) verdict =
    elim (stops_before given known status left taken found before.next before.section before.card false before.said before.described before.is before.parted verdict) [
      | inl here ↦ inl here
      | inr lacks ↦ inr (inl lacks)
    ]
bad_stops given known status left taken found (inr behind) verdict =
    elim (stops_behind given known status left taken found behind verdict) [
      | inl here ↦ inl here
      | inr (inl lacks) ↦ inr (inl lacks)
      | inr (inr refused) ↦ inr (inr (refused.0, behind))
    ]

pub full_stops : (given : Given) (known : Bool) (status : ℕ) (left taken : Option (List ℕ)) (found : LineList) → IsFirstTooMuch given found → Verdict given known status left taken → ((status ≡ 8) × TellsNext found taken) ⊎ (status ≡ 5)
full_stops given known status left taken found before verdict = stops_before given known status left taken found before.next before.section before.card true before.said before.described before.is before.parted verdict

-- ---- what a status says of the script

-- it is good, and nothing of it is left
pub zero_ends : (given : Given) (known : Bool) (status : ℕ) (left taken : Option (List ℕ)) → Verdict given known status left taken → status ≡ 0 → IsGoodScript given × (left ≡ Some [])
zero_ends given known status left taken (inl lacks) is = absurd (omega arith)
zero_ends given known status left taken (inr (inl finishes)) is = (finishes.0.good, finishes.1)
zero_ends given known status left taken (inr (inr (inl stopped))) is = absurd (clash stopped.0.why status 0 stopped.0.is is (λ e. omega (arith, e)) (λ e. omega (arith, e)))
zero_ends given known status left taken (inr (inr (inr refused))) is = let seven = refused.0 in absurd (omega arith)

-- it stopped at a line that is so
pub stops_there : (why : Bool) (given : Given) (known : Bool) (status : ℕ) (left taken : Option (List ℕ)) → Verdict given known status left taken → status ≡ stop_status why → StopsAndTells (IsStop given why) given.text left taken
stops_there why given known status left taken (inl lacks) is = absurd (clash why status 5 is lacks (λ e. omega (arith, e)) (λ e. omega (arith, e)))
stops_there why given known status left taken (inr (inl finishes)) is = absurd (clash why status 0 is finishes.0.zero (λ e. omega (arith, e)) (λ e. omega (arith, e)))
stops_there why given known status left taken (inr (inr (inl stopped))) is =
    search (rules, stopped, subst (λ w. IsStop given w stopped.0.found) (same_why stopped.0.why why (sym stopped.0.is ∙ is)) stopped.0.place)
stops_there why given known status left taken (inr (inr (inr refused))) is = absurd (clash why status 7 is refused.0 (λ e. omega (arith, e)) (λ e. omega (arith, e)))

-- `start` was read, and a card that can't be opened is refused
seven_ends : (given : Given) (known : Bool) (status : ℕ) (left taken : Option (List ℕ)) → Verdict given known status left taken → status ≡ 7 → HasStarted given × (known ≡ true → Refused given taken)
seven_ends given known status left taken (inl lacks) is = absurd (omega arith)
seven_ends given known status left taken (inr (inl finishes)) is = let zero = finishes.0.zero in absurd (omega arith)
seven_ends given known status left taken (inr (inr (inl stopped))) is = absurd (clash stopped.0.why status 7 stopped.0.is is (λ e. omega (arith, e)) (λ e. omega (arith, e)))
seven_ends given known status left taken (inr (inr (inr refused))) is = (refused.1, refused.2)

pub seven_starts : (given : Given) (known : Bool) (status : ℕ) (left taken : Option (List ℕ)) → Verdict given known status left taken → status ≡ 7 → (card : Option Persistent) × ReachesStart given card
seven_starts given known status left taken verdict is =
    let started = (seven_ends given known status left taken verdict is).0 in (
      started.card,
      record {
        found = started.found;
        more = started.more;
        section = started.section;
        parted = started.parted;
        said = Say-from_read started.found (started.section ++ Start ∷ []) started.lines_are.read;
        described = started.lines_are.described;
      },
    )

-- ---- status 7

reached_by : (given : Given) (why : Refusal) → (stops : StopsAtStart given why) → Walks (rules_of given) IsLine (Before given.first) stops.reaches.found (Behind None)
reached_by given why stops = walks_whole (rules_of given) IsLine stops.reaches.found stops.reaches.section [] given.first None stops.reaches.said stops.reaches.described (All-nil (λ l. may_stand given.is_served l ≡ true))

-- a run that went beyond `start` had a card to open
not_opened_there : (given : Given) (why : Refusal) (found next : LineList) (card : Option Persistent) → (stops : StopsAtStart given why) → Walks (rules_of given) Only (Before given.first) found (Behind card) → OpensAt given (Behind card) → lines given.text ≡ found ++ next → ⊥
not_opened_there given why found next card stops walk can parted =
    let same = one_card (rules_of given) IsLine Only only_last stops.reaches.found stops.reaches.more found next (Before given.first) None card (reached_by given why stops) walk (sym stops.reaches.parted ∙ parted) in
    cannot_open given why stops.cannot (subst (λ c. OpensAt given (Behind c)) (sym same) can)

no_stop : (given : Given) (why : Refusal) (found next : LineList) (to : Stage) (cause : Bool) → (stops : StopsAtStart given why) → Walks (rules_of given) Only (Before given.first) found to → Stops (rules_of given) to next cause → OpensAt given to → lines given.text ≡ found ++ next → ⊥
no_stop given why found next (Before card) cause stops walk stop can parted =
    passes_stop (rules_of given) IsLine Only only_last says_itself stops.reaches.found stops.reaches.more found next (Before given.first) cause None card (reached_by given why stops) walk stop (sym stops.reaches.parted ∙ parted)
no_stop given why found next (Behind card) cause stops walk stop can parted = not_opened_there given why found next card stops walk can parted

-- where the card can't be opened it is refused, and the last line says why
pub refuses : (given : Given) (status : ℕ) (left taken : Option (List ℕ)) (why : Refusal) → StopsAtStart given why → Verdict given true status left taken → ((status ≡ 7) × TellsWhy given why taken) ⊎ (status ≡ 5)
refuses given status left taken why stops (inl lacks) = inr lacks
refuses given status left taken why stops (inr (inl finishes)) = absurd (not_opened_there given why (lines given.text) [] finishes.0.card stops finishes.0.walk (finishes.2 refl) (sym (append-nil (lines given.text))))
refuses given status left taken why stops (inr (inr (inl stopped))) = absurd (no_stop given why stopped.0.found stopped.0.next stopped.0.to stopped.0.why stops stopped.0.walk stopped.0.stops (stopped.1 refl) stopped.0.parted)
refuses given status left taken why stops (inr (inr (inr refused))) =
    let cause = refused.2 refl in inl (refused.0, subst (λ w. TellsWhy given w taken) (one_cause given cause.why why cause.cannot stops.cannot) cause.tells)

pub seven_refuses : (given : Given) (status : ℕ) (left taken : Option (List ℕ)) → Verdict given true status left taken → status ≡ 7 → RefusesAndTells given taken
seven_refuses given status left taken verdict is =
    let cause = (seven_ends given true status left taken verdict is).1 refl in record { why = cause.why; stops = record { reaches = cause.reaches; cannot = cause.cannot }; tells = cause.tells }

-- where it can be opened, it is
not_refused : (given : Given) (taken : Option (List ℕ)) → RefusesAndTells given taken → CanOpen given → ⊥
not_refused given taken refused can = cannot_open given refused.why refused.stops.cannot (can refused.stops.reaches)

pub completes : (given : Given) (status : ℕ) (left taken : Option (List ℕ)) → Verdict given true status left taken → IsGoodScript given → CanOpen given → (status ≡ 0) ⊎ (status ≡ 5)
completes given status left taken verdict good can =
    elim (good_ends given true status left taken verdict good) [
      | inl zero ↦ inl zero
      | inr (inl lacks) ↦ inr lacks
      | inr (inr seven) ↦ absurd (not_refused given taken (seven_refuses given status left taken verdict seven) can)
    ]

pub stops_bad : (given : Given) (status : ℕ) (left taken : Option (List ℕ)) (found : LineList) → MeetsBad given found → Verdict given true status left taken → ((status ≡ 2) × TellsNext found taken) ⊎ (status ≡ 5)
stops_bad given status left taken found (inl before) verdict = stops_before given true status left taken found before.next before.section before.card false before.said before.described before.is before.parted verdict
stops_bad given status left taken found (inr met) verdict =
    elim (stops_behind given true status left taken found met.0 verdict) [
      | inl here ↦ inl here
      | inr (inl lacks) ↦ inr lacks
      | inr (inr refused) ↦ absurd (not_refused given taken (seven_refuses given status left taken verdict refused.0) met.1)
    ]

-- ---- what an end is by its status

-- a status other than 4 is that of the end: a failing sink would make it 4
pub own_is : (ending : Ending) (status wanted : ℕ) → (status ≡ status_for ending) ⊎ (status ≡ 4) → status ≡ wanted → (4 ≡ wanted → ⊥) → status_for ending ≡ wanted
own_is ending status wanted closed is other = ⊎_elim {C = status_for ending ≡ wanted} (λ own. sym own ∙ is) (λ four. absurd (other (sym four ∙ is))) closed

pub five_is : (ending : Ending) (status : ℕ) → (status ≡ status_for ending) ⊎ (status ≡ 4) → status ≡ 5 → ending ≡ NoMemory
five_is ending status closed is = (by_status ending).five (own_is ending status 5 closed is (λ e. omega (arith, e)))

pub one_is : (ending : Ending) (status : ℕ) → (status ≡ status_for ending) ⊎ (status ≡ 4) → status ≡ 1 → ending ≡ Usage
one_is ending status closed is = (by_status ending).one (own_is ending status 1 closed is (λ e. omega (arith, e)))

-- a run that ends with 7 was asked for
pub not_usage : (ending : Ending) (status : ℕ) → (status ≡ status_for ending) ⊎ (status ≡ 4) → status ≡ 7 → ending ≡ Usage → ⊥
not_usage ending status closed seven usage =
    let one : status_for ending ≡ 1 = ap status_for usage in
    let own = own_is ending status 7 closed seven (λ e. omega (arith, e)) in omega (arith, own, one)

-- no status is greater than 8, and with 8 nothing was done to the memory
pub at_most_8 : (ending : Ending) → status_for ending ≤ 8
at_most_8 (Section (script.BadLine number)) = omega arith
at_most_8 (Played play.ResetFailed) = omega arith
at_most_8 other = omega arith

pub eight_is_early : (ending : Ending) → status_for ending ≡ 8 → IsEarly ending
eight_is_early (Section fault) is = tt
eight_is_early (Played play.ResetFailed) is = absurd (cc is)
eight_is_early other is = absurd (cc is)

-- a fault was counted in a reset, or nothing was shown but the last line
pub six_shows : (ending : Ending) (start before taken : Option (List ℕ)) (status : ℕ) (HasFault : Type 0) → Closes ending before taken status → (ending ≡ Played play.ResetFailed → HasFault) → (IsUnshown ending → before ≡ start) → status ≡ 6
    → HasFault ⊎ (taken ≡ append_known start (last_text (MemoryFailed task.Opening)))
six_shows ending start before taken status HasFault (inr broken) fault unshown six = let four = broken.0 in absurd (omega arith)
six_shows ending start before taken status HasFault (inl whole) fault unshown six =
    elim ((by_status ending).six (sym whole.0 ∙ six)) [
      | inl reset ↦ inl (fault reset)
      | inr alone ↦ inr (whole.1 ∙ ap (append_known before) alone.1 ∙ ap (λ b. append_known b (last_text (MemoryFailed task.Opening))) (unshown alone.0))
    ]
