-- Runs over devices that are let go, and runs that were not begun.
use Rattle.std.proofs.Common.{◌≡◌, ◌≢◌, ◌⊎◌, ℕ, ◌+◌, Bool, true, false, List, [], Option, Some, None, refl, sym, ap, ◌∙◌, inl, inr, arith, subst, rules}
use Rattle.byte_streams.proofs.ReadingLemmas.{IsTaken-none}
use Rattle.byte_streams.specs.Streams.{CountsEach}
use Rattle.byte_streams.specs.declared.limits.TheConstants.{MOST_BYTES}
use Rattle.script_form.specs.Reads.{IsOnly}
use Rattle.eeprom_model.specs.Bench.{new_bench}
use Rattle.command_line.specs.Model.{AskForRun, IsRequest}
use Rattle.command_line.specs.declared.requests.Mode.TheVariants.{Load}
use Rattle.command_line.specs.declared.requests.Request.{Request}
use Rattle.uicc_run.specs.Answering.{AnswersAsAsked, HasLoaded, HasLoadedOnBench, HasOuterCauses, HasRun, HasRunOnBench, HasTrace, KeepsToScripts, NameNoImage, RefusesUseless}
use Rattle.uicc_run.specs.Causes.{IsCaused, IsLoadCaused, IsSeenCause}
use Rattle.uicc_run.specs.Endings.{HasFailed, status_for}
use Rattle.uicc_run.specs.Headline.{Closes, Traces}
use Rattle.uicc_run.specs.Loading.{LoadsFrom, TracesLoad}
use Rattle.uicc_run.specs.Opening.{IsAskedFor, RunsFrom}
use Rattle.uicc_run.specs.Pages.{AsksFor, AsksForNone, Shows}
use Rattle.uicc_run.specs.Playing.{Given}
use Rattle.uicc_run.specs.Running.{RunsAsAsked}
use Rattle.uicc_run.specs.Stores.{mark_of, size_of}
use Rattle.uicc_run.specs.Worlds.{World, left_in, new_meter, over_bench, seen}
use Rattle.uicc_run.specs.declared.endings.Ending.TheVariants.{NoMemory, Usage}
use Rattle.uicc_run.specs.declared.pages.Page.{Page}
use Rattle.uicc_run.proofs.EndsForLemmas.{ends_unbegun}
use Rattle.uicc_run.proofs.OpeningLemmas.{none_counted, not_begun}
use Rattle.uicc_run.proofs.RunningLemmas.{ComesFor, refused, runs_so}

-- ---- a run of which the device is let go

module _ {MemoryIsSame BoxesAreSame : Type 0} (given : Given) (status : ℕ) (before after : World) where
  pub gone : (told : Bool) (words : List (List ℕ)) → before.meter ≡ given.meter → Traces given told after.left (left_in given.pages after) status (IsCaused given words before after MemoryIsSame BoxesAreSame)
      → Traces given told after.left (left_in given.pages after) status (IsSeenCause words (seen status before after) given.meter after.meter)
  gone told words was traces = record {
    ending = traces.ending;
    cause = record {
      usage = traces.cause.usage;
      read_failed = traces.cause.read_failed;
      eeprom_failed = λ six. subst (λ m. HasFailed m after.meter) was (traces.cause.eeprom_failed six);
    };
    taken = traces.taken;
    comes = traces.comes;
    closes = traces.closes;
  }

  pub load_gone : (told : Bool) (start count : ℕ) → before.meter ≡ given.meter → TracesLoad given told start count before.taken (left_in given.pages after) status (IsLoadCaused given before after MemoryIsSame BoxesAreSame)
      → TracesLoad given told start count before.taken (left_in given.pages after) status (λ ending. status_for ending ≡ 6 → HasFailed given.meter after.meter)
  load_gone told start count was traces = record {
    ending = traces.ending;
    cause = λ six. subst (λ m. HasFailed m after.meter) was (traces.cause.eeprom_failed six);
    comes = traces.comes;
    closes = traces.closes;
  }

-- the device that it was made over is not told of, nor are the boxes at the end
abbrev without : World → World
without over = record over { contents = None; meter = new_meter }

abbrev boxless : World → World
boxless over = record over { contents = None; meter = new_meter; boxes = [] }

module _ {ScriptIsSame MemoryIsSame BoxesAreSame : Type 0} (words : List (List ℕ)) (status : ℕ) (over over_then : World) (new : over.meter ≡ new_meter) (ran : RunsAsAsked words status over over_then ScriptIsSame MemoryIsSame BoxesAreSame) where
  has_trace : (given : Given) (told : Bool) → RunsFrom given told words over → HasTrace given told words (seen status over over_then)
  has_trace given told from = record { held = _; meter = _; boxes = _; trace = gone given status over over_then told words from.others_are.meter_is (ran.traces.trace given told from) }

  pub has_loaded : (given : Given) (told : Bool) (start count : ℕ) → LoadsFrom given told start count words over → HasLoaded given told start count over.taken (seen status over over_then)
  has_loaded given told start count from = record {
    held = _;
    meter = _;
    boxes = _;
    trace = load_gone given status over over_then told start count from.over.meter_is (ran.traces.load given told start count from);
    complete = λ card sound fixed. ran.statuses.load.load_complete given told start count card from sound fixed;
  }

  pub has_run : (given : Given) → RunsFrom given true words over → HasRun given words (seen status over over_then)
  has_run given from = record { has = has_trace given true from; ends = ran.statuses.card given from }

  begun : (given : Given) → RunsFrom given false words (without over) → RunsFrom given false words over
  begun given told = record {
    text_is = told.text_is;
    others_are = record { before_is = told.others_are.before_is; memory_is = λ is. absurd (cc); meter_is = new ∙ told.others_are.meter_is; boxes_are = told.others_are.boxes_are };
    is_asked = told.is_asked;
  }

  loads_begun : (given : Given) (start count : ℕ) → LoadsFrom given false start count words (without over) → LoadsFrom given false start count words over
  loads_begun given start count told = search (rules, told, new)

  keeps_to_scripts : KeepsToScripts words status (without over) (boxless over_then)
  keeps_to_scripts = record {
    trace = λ given told. has_trace given false (begun given told);
    script = λ given told. ran.statuses.script given (begun given told);
    taken = ran.stays.taken;
    load = λ given start count told. has_loaded given false start count (loads_begun given start count told);
  }

  outer_causes : HasOuterCauses words status (without over) (boxless over_then) ScriptIsSame
  outer_causes = search (rules, ran)

  -- all that is owed then, by what it is over a new bench, if it is over one
  pub answers_so : AsksForNone words → RefusesUseless words status (without over) (boxless over_then) → (NameNoImage words → HasRunOnBench words status (without over) (boxless over_then))
      → (NameNoImage words → HasLoadedOnBench words status (without over) (boxless over_then)) → AnswersAsAsked words status (without over) (boxless over_then) ScriptIsSame
  answers_so others usage runs loads = record {
    page = record { page = λ page asks. absurd (others page asks); unread = λ page asks. absurd (others page asks) };
    script = λ none. keeps_to_scripts;
    trace = λ none. runs;
    load = λ none. loads;
    bip = λ none text asks told. ran.traces.bip text asks told;
    usage = usage;
    causes = outer_causes;
  }

  pub is_of_use : AskForRun words → RefusesUseless words status (without over) (boxless over_then)
  is_of_use asks = record { usage = λ unused. absurd (unused.no_run asks); usage_only = λ one. absurd (ran.statuses.usage.usage_only one asks) }

-- ---- a run that was not begun, for want of memory for its device

five_or_four : (status : ℕ) → (status ≡ 5) ⊎ (status ≡ 4) → status ≡ 1 → ⊥
five_or_four status its one = elim its [ inl five ↦ omega (arith, one, five) | inr four ↦ omega (arith, one, four) ]

lacks_device : (ScriptIsSame : Type 0) (words : List (List ℕ)) (before : World) → AskForRun words → ScriptIsSame → ComesFor words NoMemory before before ScriptIsSame (Unit {0}) (Unit {0}) (Unit {0})
lacks_device ScriptIsSame words before asks script = record {
  comes = λ given told from. not_begun given told before.left before.taken (mark_of given.pages) _ before.meter before.boxes before.boxes from.text_is from.others_are;
  memory = λ given told from. record { bytes = λ first kept. refl; half_made = λ some failed. absurd (cc); no_memory = λ some wanting. inl tt };
  taken = λ text told. IsTaken-none (MOST_BYTES + 1) text before.left told;
  load = λ given told start count taken from. none_counted given before.meter from.over.meter_is;
  load_kept = λ given told start count from wants. inl tt;
  load_unread = λ start count asks. (script, tt);
  bip = λ asks. record { comes = λ text told. (told, refl); low = omega arith; memory_kept = tt; boxes_kept = tt };
  usage = λ none. absurd (none asks);
  usage_only = λ is. absurd (cc is);
  ends = ends_unbegun NoMemory before (λ three. omega (arith, three)) (λ four. omega (arith, four)) (λ six. omega (arith, six)) (λ unshown. unshown) (λ early. absurd early) (λ unopened. tt);
}

-- ---- a run over no device, of which the same is said over any

module _ {ScriptIsSame : Type 0} (words : List (List ℕ)) (status : ℕ) (over : World) (taken : Option (List ℕ)) (sink : ℕ)
    (ran : (contents : Option (List ℕ)) → RunsAsAsked words status (record (without over) { contents = contents }) (record (without over) { contents = contents; taken = taken; sink = sink }) ScriptIsSame (Unit {0}) (Unit {0})) where
  pub answers_by_none : AsksForNone words → RefusesUseless words status (without over) (record (boxless over) { taken = taken; sink = sink }) → AnswersAsAsked words status (without over) (record (boxless over) { taken = taken; sink = sink }) ScriptIsSame
  answers_by_none others usage =
      answers_so words status (without over) (record (without over) { taken = taken; sink = sink }) refl (ran None) others usage
      (λ none given from. has_run words status (over_bench (size_of given.pages) (without over)) _ refl (ran (Some (new_bench (size_of given.pages)).bytes)) given from)
      (λ none given start count from. has_loaded words status (over_bench (size_of given.pages) (without over)) _ refl (ran (Some (new_bench (size_of given.pages)).bytes)) given true start count from)

-- there was no memory for one
pub answers_unmade : (ScriptIsSame : Type 0) (words : List (List ℕ)) (status : ℕ) (over : World) (taken : Option (List ℕ)) (sink : ℕ) → ScriptIsSame → AsksForNone words → AskForRun words
    → Closes NoMemory over.taken taken status → (status ≡ status_for NoMemory) ⊎ (status ≡ 4) → CountsEach over.sink sink ((status ≡ 4) × (status_for NoMemory ≢ 4))
    → AnswersAsAsked words status (without over) (record (boxless over) { taken = taken; sink = sink }) ScriptIsSame
answers_unmade ScriptIsSame words status over taken sink script others asks closes its cause =
    answers_by_none words status over taken sink
    (λ contents. runs_so words NoMemory status (record (without over) { contents = contents }) (record (without over) { contents = contents }) taken sink (lacks_device ScriptIsSame words (record (without over) { contents = contents }) asks script) (λ same. refl) closes its cause) others
    (record { usage = λ unused. absurd (unused.no_run asks); usage_only = λ one. absurd (five_or_four status its one) })

-- the words are in no form
pub answers_refused : (ScriptIsSame : Type 0) (words : List (List ℕ)) (status : ℕ) (over : World) (taken : Option (List ℕ)) (sink : ℕ) → ScriptIsSame → AsksForNone words → (AskForRun words → ⊥)
    → Closes Usage over.taken taken status → (status ≡ status_for Usage) ⊎ (status ≡ 4) → CountsEach over.sink sink ((status ≡ 4) × (status_for Usage ≢ 4))
    → AnswersAsAsked words status (without over) (record (boxless over) { taken = taken; sink = sink }) ScriptIsSame
answers_refused ScriptIsSame words status over taken sink script others none closes its cause =
    answers_by_none words status over taken sink
    (λ contents. refused ScriptIsSame (Unit {0}) (Unit {0}) words status (record (without over) { contents = contents }) taken sink script tt tt none closes its cause) others
    (record { usage = λ unused. closes; usage_only = λ one. record { no_page = others; no_run = none } })

-- ---- a page

shows_low : (page : Page) (before taken : Option (List ℕ)) (status : ℕ) → Shows page before taken status → (status ≡ 0) ⊎ (status ≡ 4)
shows_low page before taken status (inl whole) = inl whole.0
shows_low page before taken status (inr broken) = inr broken.0

pub answers_page : (ScriptIsSame : Type 0) (words : List (List ℕ)) (page : Page) (status : ℕ) (over : World) (taken : Option (List ℕ)) (sink : ℕ) → ScriptIsSame → IsOnly (AsksFor words) page
    → Shows page over.taken taken status → CountsEach over.sink sink (status ≡ 4) → AnswersAsAsked words status (without over) (record (boxless over) { taken = taken; sink = sink }) ScriptIsSame
answers_page ScriptIsSame words page status over taken sink script is shows cause = record {
  page = record { page = λ other asks. subst (λ p. Shows p over.taken taken status) (sym (is.only other asks)) shows; unread = λ other asks. script };
  script = λ others. absurd (others page is.so);
  trace = λ others none. absurd (others page is.so);
  load = λ others none. absurd (others page is.so);
  bip = λ others. absurd (others page is.so);
  usage = record { usage = λ unused. absurd (unused.no_page page is.so); usage_only = λ one. absurd (elim (shows_low page over.taken taken status shows) [ inl zero ↦ omega (arith, one, zero) | inr four ↦ omega (arith, one, four) ]) };
  causes = record {
    load_unread = λ start count asks. script;
    statuses = elim (shows_low page over.taken taken status shows) [ inl zero ↦ omega (arith, zero) | inr four ↦ omega (arith, four) ];
    source_failed = record {
      failed = λ three. absurd (elim (shows_low page over.taken taken status shows) [ inl zero ↦ omega (arith, three, zero) | inr four ↦ omega (arith, three, four) ]);
      no_failure = λ other line. refl;
      at_most_one = inl refl;
    };
    sink_failed = cause;
  };
}

-- ---- the size of the device is that of the store that is asked for

pub size_given : (given : Given) (words : List (List ℕ)) (asked : Request) (size : ℕ) → IsOnly (IsRequest words) asked → size ≡ size_of asked.devices.pages → ((other : Request) → IsRequest words other → IsAskedFor given other) → size_of given.pages ≡ size
size_given given words asked size is same wish = ap size_of (wish asked is.so).store_is ∙ sym same

pub load_size_given : (given : Given) (told : Bool) (start count : ℕ) (words : List (List ℕ)) (asked : Request) (size : ℕ) (before : World) → IsOnly (IsRequest words) asked → size ≡ size_of asked.devices.pages
    → LoadsFrom given told start count words before → size_of given.pages ≡ size
load_size_given given told start count words asked size before is same from =
    ap size_of (from.store_is ∙ ap (λ (r : Request). r.devices.pages) (is.only (record { mode = Load start count; devices = from.devices }) from.words_are)) ∙ sym same
