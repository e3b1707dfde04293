-- From the lines before `start` to the card that is opened.
use Rattle.std.proofs.Common.{◌≡◌, rules, ℕ, Bool, true, false, List, [], ◌∷◌, ◌++◌, Option, Some, None, is_some, Result, Ok, Err, refl, sym, ap, ◌∙◌, arith, inl, inr, option_map, subst, ◌⊎◌, IfSome, IsOkAnd}
use Rattle.std.proofs.lemmas.List.Elements.{All-nil}
use Rattle.std.specs.Result.{result_ok}
use Rattle.list_laws.proofs.IfSomeLemmas.{if_some_at}
use Rattle.uicc_types.specs.Counts.{Caused, Meter}
use Rattle.uicc_types.specs.declared.plans.TheConstants.Plan.{NONE}
use Rattle.byte_streams.proofs.ReadingLemmas.{HasRead-start}
use Rattle.byte_streams.specs.Lines.{lines_within}
use Rattle.byte_streams.specs.Reading.{at_start, pending}
use Rattle.script_form.specs.declared.lines.ScriptLine.{ScriptLine}
use Rattle.script_form.specs.declared.lines.ScriptLine.TheVariants.{Passed, Start}
use Rattle.script_reader.proofs.AreReadLemmas.{Say-from_read}
use Rattle.script_reader.specs.declared.reader.ScriptReader.{ScriptReader}
use Rattle.card_state.specs.Migration.{migrated}
use Rattle.card_state.specs.Persistent.{Persistent}
use Rattle.card_state.specs.Standing.{stands_for, standing}
use Rattle.card_state.specs.declared.faults.SectionFault.{SectionFault}
use Rattle.layout_mount.proofs.MountedLemmas.{read_told}
use Rattle.applet_trait.specs.Minds.{AppletState}
use Rattle.card_model.specs.Counts.{IsCounted}
use Rattle.card_model.specs.Laws.{CountsJoin}
use Rattle.card_model.specs.States.{IsGood, Machine, woken}
use Rattle.card_core.specs.Cards.{card_of, held_by}
use Rattle.card_core.specs.Openings.{opened, with_all_shelves}
use Rattle.card_core.specs.Parts.{CardParts}
use Rattle.card_core.specs.Boxes.{IsFirstWithoutBox}
use Rattle.card_core.specs.Starts.{Finds, IsLeftMigrated, FaultLeaves}
use Rattle.card_core.specs.declared.opening_faults.OpenFault.{OpenFault}
use Rattle.card_core.specs.declared.opening_faults.OpenFault.TheVariants as fault
use Rattle.section_lines.specs.SectionReading.{AtStart, InSection}
use Rattle.section_lines.specs.Script.{described, then_on, with_lines}
use Rattle.run_steps.specs.Taking.{moment}
use Rattle.run_steps.specs.Views.{CardView, ItsPower, TheCard}
use Rattle.uicc_run.specs.Playing.{first_machine, Given, IsOpened, Leaves}
use Rattle.uicc_run.specs.Endings.{KeepsBytes, IsUnplanned}
use Rattle.uicc_run.specs.Headline.{Comes, FailsToOpen, HasNoMemory, HoldsStart, IsMigratedAtMost, IsNoCard, IsNotOpened, IsQuiet, LacksBox, is_known}
use Rattle.uicc_run.specs.Opening.{IsGiven}
use Rattle.uicc_run.specs.Making.{IsMade, StandsReady, ending_for, makes}
use Rattle.uicc_run.specs.BetweenLines.{IsStarted}
use Rattle.uicc_run.specs.Scripts.{ReachesStart}
use Rattle.uicc_run.specs.Steps.{may_stand}
use Rattle.uicc_run.specs.declared.endings.Ending.{Ending}
use Rattle.uicc_run.specs.declared.endings.Ending.TheVariants.{MemoryFailed, NoMemory}
use Rattle.run_steps.proofs.StandingLemmas.{is_machine}
use Rattle.uicc_run.specs.declared.endings.Task.TheVariants as task

-- ---- counts

-- a call that met no fault
pub caused_counted : {Failed Lost : Type 0} → (old new : Meter) → Caused old new Failed Lost → (Failed → ⊥) → (Lost → ⊥) → IsCounted old new [] []
caused_counted old new caused no_failure no_loss = search (rules, caused.no_fault no_failure, caused.no_cut no_loss, caused)

-- a call that shows nothing, be there a fault in it or none
pub caused_kept : {Failed Lost : Type 0} → (old new : Meter) → Caused old new Failed Lost → IsUnplanned old new
caused_kept old new caused = search (rules, caused)

-- after what met none
pub kept_on : {Failed Lost : Type 0} → (first middle last : Meter) → IsCounted first middle [] [] → Caused middle last Failed Lost → IsUnplanned first last
kept_on first middle last counted caused = record {
  faults_kept = omega (arith, counted.failures, caused.faults_kept);
  cuts_kept = omega (arith, counted.cuts, caused.cuts_kept);
  plans_kept = caused.plans_kept ∙ counted.plans;
  latest_kept = caused.latest_kept ∙ counted.latest;
  plan_kept = caused.plan_kept ∙ counted.in_force;
  settings_kept = caused.settings_kept ∙ counted.settings;
}

counted_kept : (old new : Meter) → IsCounted old new [] [] → IsUnplanned old new
counted_kept old new counted = record {
  faults_kept = omega (arith, counted.failures);
  cuts_kept = omega (arith, counted.cuts);
  plans_kept = counted.plans;
  latest_kept = counted.latest;
  plan_kept = counted.in_force;
  settings_kept = counted.settings;
}

-- ---- the card that the lines describe

-- a script that describes a card goes on describing one, and one that describes none doesn't begin
some_line : (cast : List (Option AppletState)) (more : List ScriptLine) (card : Option Persistent) → ((state : Persistent) → with_lines cast (Some state) more ≡ Ok card → is_some card ≡ true) → (came : Result Persistent SectionFault)
    → then_on (λ next. with_lines cast next more) (then_on (λ new. Ok (Some new)) came) ≡ Ok card → is_some card ≡ true
some_line cast more card rest (Ok new) is = rest new is
some_line cast more card rest (Err fault) is = absurd (cc)

pub some_stays : (cast : List (Option AppletState)) (lines : List ScriptLine) (state : Persistent) (card : Option Persistent) → with_lines cast (Some state) lines ≡ Ok card → is_some card ≡ true
some_stays cast [] state card is = cc
some_stays cast (line ∷ more) state card is = some_line cast more card (λ state' is'. some_stays cast more state' card is') (described cast state line) is

no_line : (cast : List (Option AppletState)) (line : ScriptLine) (more : List ScriptLine) (card : Option Persistent) → ((card' : Option Persistent) → with_lines cast None more ≡ Ok card' → is_some card' ≡ false) → with_lines cast None (line ∷ more) ≡ Ok card → is_some card ≡ false
no_line cast Passed more card rest is = rest card is
no_line cast other more card rest is = absurd (cc)

pub none_stays : (cast : List (Option AppletState)) (lines : List ScriptLine) (card : Option Persistent) → with_lines cast None lines ≡ Ok card → is_some card ≡ false
none_stays cast [] card is = cc
none_stays cast (line ∷ more) card is = no_line cast line more card (none_stays cast more) is

-- a section that describes no card is that of a card that is opened, and one that describes a card isn't
first_none : (cast : List (Option AppletState)) (first : Option Persistent) (section : List ScriptLine) → with_lines cast first section ≡ Ok None → first ≡ None
first_none cast (Some bare) section described = let some = some_stays cast section bare None described in absurd (cc)
first_none cast None section described = refl

first_some : (cast : List (Option AppletState)) (first : Option Persistent) (section : List ScriptLine) (card : Option Persistent) → with_lines cast first section ≡ Ok card → is_some card ≡ true → first ≡ None → ⊥
first_some cast first section card described some none =
    let no_card = none_stays cast section card (ap (λ f. with_lines cast f section) (sym none) ∙ described) in cc

-- ---- what a memory stands for

pub stands_found : (mark : ℕ) (told : Option (List ℕ)) (found : Result Persistent ℕ) → option_map (stands_for mark) told ≡ Some found → standing mark told ≡ result_ok found
unfolding standing
stands_found mark None found is = absurd (cc)
stands_found mark (Some content) found is = let same : stands_for mark content ≡ found = cc in ap result_ok same

ok_of : (found : Result Persistent ℕ) (start : Persistent) → result_ok found ≡ Some start → found ≡ Ok start
ok_of (Ok state) start is = let same : state ≡ start = cc in ap Ok same
ok_of (Err at) start is = absurd (cc)

found_standing : (mark : ℕ) (told : Option (List ℕ)) (start : Persistent) → standing mark told ≡ Some start → option_map (stands_for mark) told ≡ Some (Ok start)
unfolding standing
found_standing mark None start is = absurd (cc)
found_standing mark (Some content) start is = ap Some (ok_of (stands_for mark content) start is)

found_in : (mark : ℕ) (told : Option (List ℕ)) → is_some told ≡ true → (found : Result Persistent ℕ) × (option_map (stands_for mark) told ≡ Some found)
found_in mark None tells = absurd (cc)
found_in mark (Some content) tells = (stands_for mark content, refl)

pub memory_tells : (mark : ℕ) (told : Option (List ℕ)) (found : Result Persistent ℕ) → option_map (stands_for mark) told ≡ Some found → is_some told ≡ true
memory_tells mark None found is = absurd (cc)
memory_tells mark (Some content) found is = refl

found_no_card : (mark : ℕ) (told : Option (List ℕ)) (at : ℕ) → is_some told ≡ true → IfSome told (λ content. stands_for mark content ≡ Err at) → option_map (stands_for mark) told ≡ Some (Err at)
found_no_card mark None at tells is = absurd (cc)
found_no_card mark (Some content) at tells is = ap Some is

-- a card that lacks a box
missing_in : (boxes : List (Option AppletState)) (shelf : ℕ) (found : Result Persistent ℕ) → IsOkAnd found (λ state. IsFirstWithoutBox state.rows boxes shelf)
    → (start : Persistent) × (found ≡ Ok start) × IsFirstWithoutBox start.rows boxes shelf
missing_in boxes shelf (Ok state) is = (state, refl, is)
missing_in boxes shelf (Err at) is = absurd is

found_missing : (boxes : List (Option AppletState)) (shelf mark : ℕ) (told : Option (List ℕ)) → is_some told ≡ true → IfSome told (λ content. IsOkAnd (stands_for mark content) (λ state. IsFirstWithoutBox state.rows boxes shelf))
    → (start : Persistent) × (option_map (stands_for mark) told ≡ Some (Ok start)) × IsFirstWithoutBox start.rows boxes shelf
found_missing boxes shelf mark None tells is = absurd (cc)
found_missing boxes shelf mark (Some content) tells is = let found = missing_in boxes shelf (stands_for mark content) is in (found.0, ap Some found.1, found.2)

-- after a fault
pub still : (mark : ℕ) (told told_then : Option (List ℕ)) (memory : Result Persistent ℕ) → option_map (stands_for mark) told ≡ Some memory → IsLeftMigrated mark told told_then → IsMigratedAtMost memory (standing mark told_then)
still mark told told_then (Ok state) is left =
    if_some_at (standing mark told) (λ s. (standing mark told_then ≡ Some s) ⊎ (standing mark told_then ≡ Some (migrated s))) state left.card (stands_found mark told (Ok state) is)
still mark told told_then (Err at) is left = let none = stands_found mark told (Err at) is in ap (λ t. standing mark t) (left.no_card none) ∙ none

still_made : (card : Persistent) (mark : ℕ) (told told_then : Option (List ℕ)) → is_some told ≡ true → ((found : Result Persistent ℕ) → option_map (stands_for mark) told ≡ Some found → found ≡ Ok card) → IsLeftMigrated mark told told_then
    → IsMigratedAtMost (Ok card) (standing mark told_then)
still_made card mark told told_then tells made left =
    let found = found_in mark told tells in
    still mark told told_then (Ok card) (found.1 ∙ ap Some (made found.0 found.1)) left

-- ---- formatting

-- what a formatted store stands for
formatted : (mark : ℕ) (told : Option (List ℕ)) (state : Persistent) (found : Result Persistent ℕ) → IfSome told (λ content. stands_for mark content ≡ Ok state) → option_map (stands_for mark) told ≡ Some found → found ≡ Ok state
formatted mark None state found stands is = absurd (cc)
formatted mark (Some content) state found stands is = let same : stands_for mark content ≡ found = cc in sym same ∙ stands

opens_with : (given : Given) (section : List ScriptLine) (state start : Persistent) → (first : Option Persistent) → with_lines given.boxes first section ≡ Ok (Some state) → state ≡ start → IsOpened given.boxes first given.memory section start
opens_with given section state start (Some bare) described same = described ∙ ap (λ s. Ok (Some s)) same
opens_with given section state start None described same = let none = none_stays given.boxes section (Some state) described in absurd (cc)

opens_without : (given : Given) (section : List ScriptLine) (start : Persistent) → (first : Option Persistent) → with_lines given.boxes first section ≡ Ok None → given.memory ≡ Ok start → IsOpened given.boxes first given.memory section start
opens_without given section start (Some bare) described holds = let some = some_stays given.boxes section bare None described in absurd (cc)
opens_without given section start None described holds = (described, holds)

-- what is known of a store that was made ready, or left as it was
stands_ready : (given : Given) (section : List ScriptLine) (card : Option Persistent) (mark mark_then : ℕ) (told told_then : Option (List ℕ)) → with_lines given.boxes given.first section ≡ Ok card → option_map (stands_for mark) told ≡ Some given.memory
    → makes card mark told told_then → mark_then ≡ mark → StandsReady given section card (option_map (stands_for mark_then) told_then)
stands_ready given section (Some state) mark mark_then told told_then is_described memory makes_so same =
    let now : (found : Result Persistent ℕ) → option_map (stands_for mark_then) told_then ≡ Some found → found ≡ Ok state =
    λ found is. formatted mark told_then state found makes_so (ap (λ m. option_map (stands_for m) told_then) (sym same) ∙ is) in
    record {
      opens = λ start is. let found = now (Ok start) is in let one : state ≡ start = cc in opens_with given section state start given.first is_described one;
      described = λ other found same is. now found is ∙ ap Ok (let one : state ≡ other = cc in one);
      no_card = λ place is. let none = now (Err place) is in absurd (cc);
      kept = λ none. absurd (first_some given.boxes given.first section (Some state) is_described refl none);
    }
stands_ready given section None mark mark_then told told_then is_described memory makes_so same =
    let now : option_map (stands_for mark_then) told_then ≡ Some given.memory = ap (λ m. option_map (stands_for m) told_then) same ∙ ap (λ t. option_map (stands_for mark) t) makes_so ∙ memory in
    record {
      opens = λ start is. let holds : given.memory ≡ Ok start = cc in opens_without given section start given.first is_described holds;
      described = λ other found same is. absurd (cc);
      no_card = λ place is. first_none given.boxes given.first section is_described;
      kept = λ none. now;
    }

pub made_so : {Failed Lost : Type 0} → (given : Given) (is_told : Bool) (script : ScriptReader) (left taken : Option (List ℕ)) (card : Option Persistent) (mark mark_then : ℕ) (told told_then : Option (List ℕ)) (old new : Meter) (boxes : List (Option AppletState))
    → AtStart given.boxes given.first given.text script left card → taken ≡ given.before → (is_told ≡ true → option_map (stands_for mark) told ≡ Some given.memory) → old ≡ given.meter → boxes ≡ given.boxes
    → makes card mark told told_then → mark_then ≡ mark → Caused old new Failed Lost → (Failed → ⊥) → (Lost → ⊥) → IsMade given is_told script left taken (option_map (stands_for mark_then) told_then) new boxes
made_so given is_told script left taken card mark mark_then told told_then old new boxes at taken_is memory meter boxes_are makes_so same caused no_failure no_loss = record {
  card = card;
  at = at;
  taken_is = taken_is;
  counted = subst (λ m. IsCounted m new [] []) meter (caused_counted old new caused no_failure no_loss);
  boxes_are = boxes_are;
  known = λ is. stands_ready given at.section card mark mark_then told told_then at.described (memory is) makes_so same;
}

-- ---- opening

pub some_of : {A : Type 0} → (o : Option A) → is_some o ≡ true → (x : A) × (o ≡ Some x)
some_of None is = absurd (cc)
some_of (Some x) is = (x, refl)

-- the card itself was opened
starts : (given : Given) (script : ScriptReader) (left taken : Option (List ℕ)) (mark : ℕ) (told : Option (List ℕ)) (meter : Meter) (boxes : List (Option AppletState)) (parts : CardParts) → CountsJoin
    → IsMade given true script left taken (option_map (stands_for mark) told) meter boxes → is_some (standing mark told) ≡ true → card_of parts ≡ opened (standing mark told) boxes → parts.is_on ≡ true → parts.is_due ≡ false → IfSome (card_of parts) IsGood → Caused meter parts.meter ⊥ ⊥
    → (first : Machine) × IsStarted given (TheCard first) script left (moment parts taken NONE)
starts given script left taken mark told meter boxes parts join made holds is on rests good caused =
    let start = some_of (standing mark told) holds in
    let card : card_of parts ≡ Some (woken (migrated start.0) (with_all_shelves given.boxes)) =
    is ∙ ap (λ h. opened h boxes) start.1 ∙ ap (λ b. Some (woken (migrated start.0) (with_all_shelves b))) made.boxes_are in (
      first_machine start.0 given.boxes,
      record {
        found = made.at.given;
        section = made.at.section;
        card = made.card;
        lines = record { read = made.at.read; described = made.at.described; in_place = All-nil (λ line. may_stand given.is_served line ≡ true) };
        opened = record {
          start = start.0;
          opened = (made.known refl).opens start.0 (found_standing mark told start.0 start.1);
          machine_is = refl;
          good = if_some_at (card_of parts) IsGood (woken (migrated start.0) (with_all_shelves given.boxes)) good card;
        };
        follows = made.at.follows;
        begins = record {
          seen = is_machine parts (woken (migrated start.0) (with_all_shelves given.boxes)) true card on;
          written = made.taken_is;
          counted = join given.meter meter parts.meter [] [] [] [] made.counted (caused_counted meter parts.meter caused (λ so. so) (λ so. so));
          waits = refl;
          rests = λ calm. rests;
        };
      },
    )

-- of its power alone more is not known
starts_with_power : (given : Given) (script : ScriptReader) (left taken : Option (List ℕ)) (memory : Option (Result Persistent ℕ)) (meter : Meter) (boxes : List (Option AppletState)) (parts : CardParts) → CountsJoin
    → IsMade given false script left taken memory meter boxes → parts.is_on ≡ true → Caused meter parts.meter ⊥ ⊥ → IsStarted given (ItsPower true) script left (moment parts taken NONE)
starts_with_power given script left taken memory meter boxes parts join made on caused = record {
  found = made.at.given;
  section = made.at.section;
  card = made.card;
  lines = record { read = made.at.read; described = made.at.described; in_place = All-nil (λ line. may_stand given.is_served line ≡ true) };
  opened = refl;
  follows = made.at.follows;
  begins = record {
    seen = on;
    written = made.taken_is;
    counted = join given.meter meter parts.meter [] [] [] [] made.counted (caused_counted meter parts.meter caused (λ so. so) (λ so. so));
    waits = refl;
    rests = tt;
  };
}

-- the card was opened, and is known as far as its memory tells
pub starts_seen : (given : Given) (is_told : Bool) (script : ScriptReader) (left taken : Option (List ℕ)) (mark : ℕ) (told : Option (List ℕ)) (meter : Meter) (boxes : List (Option AppletState)) (parts : CardParts) → CountsJoin
    → IsMade given is_told script left taken (option_map (stands_for mark) told) meter boxes → (is_told ≡ true → is_some (standing mark told) ≡ true) → card_of parts ≡ opened (standing mark told) boxes → parts.is_on ≡ true → parts.is_due ≡ false → IfSome (card_of parts) IsGood
    → Caused meter parts.meter ⊥ ⊥ → (first : CardView) × (is_known first ≡ is_told) × IsStarted given first script left (moment parts taken NONE)
starts_seen given true script left taken mark told meter boxes parts join made holds is on rests good caused =
    let started = starts given script left taken mark told meter boxes parts join made (holds refl) is on rests good caused in
    (TheCard started.0, refl, started.1)
starts_seen given false script left taken mark told meter boxes parts join made holds is on rests good caused =
    (ItsPower true, refl, starts_with_power given script left taken _ meter boxes parts join made on caused)

-- it was not
abbrev pub not_opened : (IsKnown : List ScriptLine → Option Persistent → Type 0) (given : Given) (is_told : Bool) (script : ScriptReader) (left taken : Option (List ℕ)) (card held_then : Option Persistent) (meter_then : Meter) (boxes_then : List (Option AppletState))
    → (at : AtStart given.boxes given.first given.text script left card) → taken ≡ given.before → IsUnplanned given.meter meter_then → (is_told ≡ true → IsKnown at.section card)
    → IsNotOpened given is_told left (record { held = held_then; taken = taken; meter = meter_then; boxes = boxes_then }) IsKnown
not_opened IsKnown given is_told script left taken card held_then meter_then boxes_then at is counted known = record {
  found = at.given;
  more = lines_within script.reader.room (pending script.reader at.follows.reads.rest);
  section = at.section;
  card = card;
  begins = at.follows.reads.lines_are;
  read = at.read;
  described = at.described;
  reach = at.reach;
  quiet = record { written = is; counted = counted };
  known = known;
}

-- there was no memory to begin with, and the card's is as it was
no_memory_kept : (given : Given) (is_told : Bool) (script : ScriptReader) (left taken : Option (List ℕ)) (memory : Option (Result Persistent ℕ)) (held_then : Option Persistent) (meter meter_then : Meter) (boxes boxes_then : List (Option AppletState)) (found : Result Persistent ℕ)
    → (made : IsMade given is_told script left taken memory meter boxes) → StandsReady given made.at.section made.card memory → IsCounted given.meter meter_then [] [] → memory ≡ Some found → held_then ≡ result_ok found
    → (held_then ≡ result_ok given.memory) ⊎ IsNotOpened given is_told left (record { held = held_then; taken = taken; meter = meter_then; boxes = boxes_then }) (λ section card. HoldsStart given section held_then)
no_memory_kept given is_told script left taken memory held_then meter meter_then boxes boxes_then (Ok start) made ready counted is holds =
    inr (not_opened (λ section card. HoldsStart given section held_then) given is_told script left taken made.card held_then meter_then boxes_then made.at made.taken_is (counted_kept given.meter meter_then counted)
    (λ told. record { start = start; opened = ready.opens start is; memory_kept = holds }))
no_memory_kept given is_told script left taken memory held_then meter meter_then boxes boxes_then (Err place) made ready counted is holds =
    let was = ready.kept (ready.no_card place is) in
    let same : Err place ≡ given.memory = cc in
    inl (holds ∙ ap result_ok same)

module _ (given : Given) (is_told : Bool) (script : ScriptReader) (left taken : Option (List ℕ)) (mark mark_then : ℕ) (told told_then : Option (List ℕ)) (meter meter_then : Meter) (boxes boxes_then : List (Option AppletState))
    (join : CountsJoin) (tells : is_told ≡ true → is_some told ≡ true) (same : mark_then ≡ mark) (made : IsMade given is_told script left taken (option_map (stands_for mark) told) meter boxes) where
  abbrev left_so : Leaves
  left_so = record { held = standing mark_then told_then; taken = taken; meter = meter_then; boxes = boxes_then }

  abbrev not_opened_so : (IsKnown : List ScriptLine → Option Persistent → Type 0) → IsUnplanned given.meter meter_then → (is_told ≡ true → IsKnown made.at.section made.card) → IsNotOpened given is_told left left_so IsKnown
  not_opened_so IsKnown counted known = not_opened IsKnown given is_told script left taken made.card (standing mark_then told_then) meter_then boxes_then made.at made.taken_is counted known

  failed_to_open : IsLeftMigrated mark told told_then → IsUnplanned given.meter meter_then → IsNotOpened given is_told left left_so (λ section card. FailsToOpen given card (standing mark_then told_then))
  failed_to_open leaves counted = not_opened_so (λ section card. FailsToOpen given card (standing mark_then told_then)) counted (λ is. record {
    made_at_most = λ state described. subst (λ m. IsMigratedAtMost (Ok state) (standing m told_then)) (sym same) (still_made state mark told told_then (tells is) (λ found. (made.known is).described state found described) leaves);
    migrated_at_most = λ first. subst (λ m. IsMigratedAtMost given.memory (standing m told_then)) (sym same) (still mark told told_then given.memory ((made.known is).kept first) leaves);
  })

  pub refused : (why : OpenFault) → Finds why mark told (with_all_shelves boxes) → FaultLeaves why mark told told_then → Caused meter meter_then (why ≡ fault.Failed) (why ≡ fault.PowerLost)
      → Comes given is_told left (ending_for why) (record { held = standing mark_then told_then; taken = taken; meter = meter_then; boxes = boxes_then })
  refused (fault.NotACard at) finds leaves caused =
      let counted = join given.meter meter meter_then [] [] [] [] made.counted (caused_counted meter meter_then caused (λ so. cc) (λ so. cc)) in
      not_opened_so (λ section card. IsNoCard given at left_so) (counted_kept given.meter meter_then counted) (λ is.
      let found = found_no_card mark told at (tells is) (read_told told _ finds) in
      let first = (made.known is).no_card at found in
      let was = (made.known is).kept first in
      record { no_section = first; first_failed = cc; memory_kept = ap (λ m. standing m told_then) same ∙ ap (λ t. standing mark t) leaves ∙ stands_found mark told (Err at) found; counted = counted })
  refused (fault.NoBox shelf) finds leaves caused =
      let counted = join given.meter meter meter_then [] [] [] [] made.counted (caused_counted meter meter_then caused (λ so. cc) (λ so. cc)) in
      not_opened_so (λ section card. LacksBox given shelf section left_so) (counted_kept given.meter meter_then counted) (λ is.
      let found = found_missing (with_all_shelves boxes) shelf mark told (tells is) (read_told told _ finds) in
      record {
        holds = record { start = found.0; opened = (made.known is).opens found.0 found.1; memory_kept = ap (λ m. standing m told_then) same ∙ ap (λ t. standing mark t) leaves ∙ stands_found mark told (Ok found.0) found.1 };
        first_missing = subst (λ b. IsFirstWithoutBox found.0.rows (with_all_shelves b) shelf) made.boxes_are found.2;
        counted = counted;
      })
  refused fault.Failed finds leaves caused = failed_to_open leaves (kept_on given.meter meter meter_then made.counted caused)
  refused fault.PowerLost finds leaves caused = failed_to_open leaves (kept_on given.meter meter meter_then made.counted caused)
  refused fault.Memory finds leaves caused =
      let counted = join given.meter meter meter_then [] [] [] [] made.counted (caused_counted meter meter_then caused (λ so. cc) (λ so. cc)) in
      record {
        written = made.taken_is;
        counted = counted;
        begun_at_most = inr (not_opened_so (λ section card. Unit {0}) (counted_kept given.meter meter_then counted) (λ is. tt));
        memory_kept = λ is.
            let found = found_in mark told (tells is) in
            no_memory_kept given is_told script left taken _ (standing mark_then told_then) meter meter_then boxes boxes_then found.0 made (made.known is) counted found.1
            (ap (λ m. standing m told_then) same ∙ ap (λ t. standing mark t) leaves ∙ stands_found mark told found.0 found.1);
      }

-- a fault of a memory that holds no card leaves the bytes as they were
fault_keeps : (mark : ℕ) (told told_then : Option (List ℕ)) (held : Option Persistent) → standing mark told ≡ held → IsLeftMigrated mark told told_then → KeepsBytes (MemoryFailed task.Opening) held → told_then ≡ told
fault_keeps mark told told_then None stands leaves is = leaves.no_card stands
fault_keeps mark told told_then (Some card) stands leaves is = absurd is

-- and so does a refusal
pub refusal_keeps : (why : OpenFault) (mark : ℕ) (told told_then : Option (List ℕ)) → FaultLeaves why mark told told_then → KeepsBytes (ending_for why) (standing mark told) → told_then ≡ told
refusal_keeps fault.Failed mark told told_then leaves is = fault_keeps mark told told_then (standing mark told) refl leaves is
refusal_keeps fault.PowerLost mark told told_then leaves is = fault_keeps mark told told_then (standing mark told) refl leaves is
refusal_keeps other mark told told_then leaves is = leaves

-- what is kept of a memory is kept of one that stands for the same
pub keeps_so : (ending : Ending) (mark mark_then : ℕ) (told told_then : Option (List ℕ)) → mark_then ≡ mark → told_then ≡ told → KeepsBytes ending (standing mark told) → KeepsBytes ending (standing mark_then told_then)
keeps_so ending mark mark_then told told_then same_mark same keeps =
    subst (λ m. KeepsBytes ending (standing m told_then)) (sym same_mark) (subst (λ t. KeepsBytes ending (standing mark t)) (sym same) keeps)

-- what was made stays where there was no memory to open it
pub stays_made : (ending : Ending) (described : Persistent) (mark : ℕ) (made last : Option (List ℕ)) (held : Option Persistent) → ending ≡ NoMemory → IfSome made (λ content. stands_for mark content ≡ Ok described)
    → (KeepsBytes ending held → last ≡ made) → IfSome last (λ content. stands_for mark content ≡ Ok described)
stays_made ending described mark made last held is stands keeps =
    let kept : KeepsBytes ending held = subst (λ e. KeepsBytes e held) (sym is) tt in
    subst (λ t. IfSome t (λ content. stands_for mark content ≡ Ok described)) (sym (keeps kept)) stands

-- where no card is described, nothing is made
pub made_none : (card : Option Persistent) (mark : ℕ) (told told_then : Option (List ℕ)) → card ≡ None → makes card mark told told_then → told_then ≡ told
made_none None mark told told_then is made = made
made_none (Some card) mark told told_then is made = absurd (cc)

-- lines that were added to no card describe none
pub describes_none : (cast : List (Option AppletState)) (text : List ℕ) (script : ScriptReader) (left : Option (List ℕ)) (card : Option Persistent) → AtStart cast None text script left card → card ≡ None
describes_none cast text script left None at = refl
describes_none cast text script left (Some state) at = let none = none_stays cast at.section (Some state) at.described in absurd (cc)

-- the memory could not be formatted
pub not_made : {Failed Lost : Type 0} → (given : Given) (is_told : Bool) (script : ScriptReader) (left taken : Option (List ℕ)) (card held_then : Option Persistent) (meter meter_then : Meter) (boxes_then : List (Option AppletState)) → AtStart given.boxes given.first given.text script left card
    → taken ≡ given.before → is_some card ≡ true → meter ≡ given.meter → Caused meter meter_then Failed Lost
    → IsNotOpened given is_told left (record { held = held_then; taken = taken; meter = meter_then; boxes = boxes_then }) (λ section described. is_some described ≡ true)
not_made given is_told script left taken card held_then meter meter_then boxes_then at is some was caused =
    not_opened (λ section described. is_some described ≡ true) given is_told script left taken card held_then meter_then boxes_then at is (subst (λ m. IsUnplanned m meter_then) was (caused_kept meter meter_then caused)) (λ told. some)

-- nothing was done
pub none_counted : (given : Given) (meter : Meter) → meter ≡ given.meter → IsCounted given.meter meter [] []
none_counted given meter same =
    subst (λ m. IsCounted given.meter m [] []) (sym same) (record { failures = refl; cuts = refl; plans = refl; latest = refl; in_force = refl; settings = refl })

-- the script was not begun
pub not_begun : (given : Given) (is_told : Bool) (left taken : Option (List ℕ)) (mark : ℕ) (told : Option (List ℕ)) (meter : Meter) (boxes boxes_then : List (Option AppletState)) → left ≡ Some given.text → IsGiven given is_told taken (option_map (stands_for mark) told) meter boxes
    → HasNoMemory given is_told left (record { held = standing mark told; taken = taken; meter = meter; boxes = boxes_then })
not_begun given is_told left taken mark told meter boxes boxes_then text is = record {
  written = is.before_is;
  counted = none_counted given meter is.meter_is;
  begun_at_most = inl text;
  memory_kept = λ tells. inl (stands_found mark told given.memory (is.memory_is tells));
}

-- ---- closing

-- the device of a card that was given back stands for what the card did
pub given_back : (P : Leaves → Type 0) (taken : Option (List ℕ)) (parts : CardParts) (mark : ℕ) (told : Option (List ℕ)) (meter : Meter) (boxes : List (Option AppletState)) → mark ≡ parts.store_mark → told ≡ parts.told → meter ≡ parts.meter → boxes ≡ parts.boxes
    → P (record { held = held_by parts; taken = taken; meter = parts.meter; boxes = parts.boxes }) → P (record { held = standing mark told; taken = taken; meter = meter; boxes = boxes })
given_back P taken parts mark told meter boxes same_mark same_told same_meter same_boxes comes =
    let Held : Option Persistent → Meter → List (Option AppletState) → Leaves = λ h m b. record { held = h; taken = taken; meter = m; boxes = b } in
    subst P
    (ap (λ b. Held (held_by parts) parts.meter b) (sym same_boxes) ∙ ap (λ m. Held (held_by parts) m boxes) (sym same_meter) ∙ ap (λ t. Held (standing parts.store_mark t) meter boxes) (sym same_told) ∙ ap (λ k. Held (standing k told) meter boxes) (sym same_mark)) comes

-- ---- the beginning

-- before the first line
pub at_first : (cast : List (Option AppletState)) (first : Option Persistent) (text : List ℕ) (script : ScriptReader) (left : Option (List ℕ)) (card : Option Persistent) → script.reader ≡ at_start → script.number ≡ 0 → first ≡ card → left ≡ Some text
    → InSection cast first text script left card
at_first cast first text script left card fresh zero same told = record {
  section = [];
  given = [];
  read = tt;
  described = ap Ok same;
  follows = record { reads = HasRead-start text script.reader left fresh told; counts = zero };
}

-- with the same boxes
pub at_start_of : (boxes cast : List (Option AppletState)) (first : Option Persistent) (text : List ℕ) (script : ScriptReader) (left : Option (List ℕ)) (card : Option Persistent) → boxes ≡ cast → AtStart boxes first text script left card → AtStart cast first text script left card
at_start_of boxes cast first text script left card same at = subst (λ b. AtStart b first text script left card) same at

-- ---- a making that failed

pub described_some : (cast : List (Option AppletState)) (first : Option Persistent) (section : List ScriptLine) (card : Option Persistent) → with_lines cast first section ≡ Ok card → is_some first ≡ true → (state : Persistent) × (card ≡ Some state)
described_some cast (Some bare) section card described some = some_of card (some_stays cast section bare card described)
described_some cast None section card described some = absurd (cc)

-- a card that can't be opened was formatted before, if one was to be
pub formatted_then : (why : OpenFault) → ending_for why ≡ MemoryFailed task.Formatting → ⊥
formatted_then (fault.NotACard at) is = cc
formatted_then other is = cc

-- `start` was read
abbrev pub reached : (given : Given) (script : ScriptReader) (left : Option (List ℕ)) (card : Option Persistent) → AtStart given.boxes given.first given.text script left card → ReachesStart given card
reached given script left card at = record {
  found = at.given;
  more = lines_within script.reader.room (pending script.reader at.follows.reads.rest);
  section = at.section;
  parted = at.follows.reads.lines_are;
  said = Say-from_read at.given (at.section ++ Start ∷ []) at.read;
  described = at.described;
}

-- ---- where no card was open

pub unplanned_still : (meter : Meter) → IsUnplanned meter meter
unplanned_still meter = record { faults_kept = omega arith; cuts_kept = omega arith; plans_kept = refl; latest_kept = refl; plan_kept = refl; settings_kept = refl }

-- so it is with a run to which nothing was done
pub quiet_still : (given : Given) (taken : Option (List ℕ)) (held : Option Persistent) (meter : Meter) (boxes : List (Option AppletState)) → taken ≡ given.before → meter ≡ given.meter → IsQuiet given (record { held = held; taken = taken; meter = meter; boxes = boxes })
quiet_still given taken held meter boxes is same = record { written = is; counted = subst (λ m. IsUnplanned m meter) same (unplanned_still meter) }
