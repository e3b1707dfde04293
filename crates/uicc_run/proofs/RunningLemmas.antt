-- Each status comes of one ending: the others are ruled out by its number or by sound devices, so that the script tells which it is.
use Rattle.std.proofs.Common.{◌≡◌, ◌≢◌, ◌⊎◌, ◌+◌, ℕ, Bool, true, false, List, Option, Some, arith, refl, sym, ap, ◌∙◌, subst, inl, inr, rules}
use Rattle.uicc_types.specs.Counts.{Rose}
use Rattle.byte_streams.proofs.ReadingLemmas.{IsTaken-none}
use Rattle.byte_streams.proofs.StreamsLemmas.{once, once_at_last, raised_rose}
use Rattle.byte_streams.specs.Reading.{IsTaken}
use Rattle.byte_streams.specs.Streams.{CountsEach}
use Rattle.byte_streams.specs.declared.limits.TheConstants.{MOST_BYTES}
use Rattle.script_form.specs.Reads.{IsOnly}
use Rattle.command_line.specs.Model.{AskForRun, IsRequest}
use Rattle.command_line.specs.declared.requests.Mode.TheVariants.{Bip, Load}
use Rattle.command_line.specs.declared.requests.Request.{Request}
use Rattle.uicc_run.specs.Causes.{KeepsContent, KeepsMemory}
use Rattle.uicc_run.specs.Endings.{IsEarly, status_for}
use Rattle.uicc_run.specs.Headline.{Closes, Comes}
use Rattle.uicc_run.specs.Loading.{AskToLoad, ComesToLoad, HoldsFixed, IsOver, LoadsFrom}
use Rattle.uicc_run.specs.Making.{CarriesOut, EndsFor, LoadsUntold, ServesBip}
use Rattle.uicc_run.specs.Opening.{BeginsAs, IsGiven, RunsFrom}
use Rattle.uicc_run.specs.Playing.{Given, Leaves}
use Rattle.uicc_run.specs.Running.{EndsByCard, EndsByScript, HasCauses, HasStatuses, RefusesWords, RunsAsAsked, ServesToEnd}
use Rattle.uicc_run.specs.Scripts.{IsUndisturbed}
use Rattle.uicc_run.specs.Stores.{content_in, held_in, mark_of, memory_in}
use Rattle.uicc_run.specs.Terminals.{AskForBip, TracesBip}
use Rattle.uicc_run.specs.Worlds.{World, inside, left_in, seen}
use Rattle.uicc_run.specs.declared.endings.Ending.{Ending}
use Rattle.uicc_run.specs.declared.endings.Ending.TheVariants.{NoMemory, Usage}
use Rattle.uicc_run.proofs.EndsForLemmas.{ends_unbegun}
use Rattle.uicc_run.proofs.HasBoxLemmas.{is_boxed}
use Rattle.uicc_run.proofs.LoadingLemmas.{load_completes}
use Rattle.uicc_run.proofs.OpeningLemmas.{quiet_still}
use Rattle.uicc_run.proofs.ScriptsLemmas.{Verdict, at_most_8, bad_stops, completes, eight_is_early, five_is, full_stops, good_ends, not_usage, one_is, own_is, refuses, seven_refuses, seven_starts, six_shows, stops_bad, stops_there, verdict, zero_ends}
use Rattle.uicc_run.proofs.TellsNextLemmas.{closes_tells}
use Rattle.uicc_run.proofs.TerminalsLemmas.{asks_for_run, serves_to_end, status_low}

module _ (words : List (List ℕ)) (status : ℕ) (before after : World) (ending : Ending) (put : Option (List ℕ))
    (closes : Closes ending put after.taken status) (is_its : (status ≡ status_for ending) ⊎ (status ≡ 4))
    (comes : (given : Given) (told : Bool) → RunsFrom given told words before → Comes given told after.left ending (record (left_in given.pages after) { taken = put }))
    (refused : (AskForRun words → ⊥) → ending ≡ Usage) (usage : RefusesWords words status before after) (causes : HasCauses status before after) where
  -- what it comes to by its lines
  lines_of : (given : Given) (told : Bool) → RunsFrom given told words before → (status ≡ 1 → ⊥) → (status ≡ 3 → ⊥) → (status ≡ 4 → ⊥) → (status ≡ 6 → ⊥) → Verdict given told status after.left after.taken
  lines_of given told from =
      verdict given told after.left after.taken ending (record (left_in given.pages after) { taken = put }) status closes (comes given told from)
      (λ seven none. not_usage ending status is_its seven (refused (λ asks. none (is_boxed given words from.is_asked asks))))

  sound_lines : (given : Given) (told : Bool) → RunsFrom given told words before → AskForRun words → IsUndisturbed (seen status before after) → Verdict given told status after.left after.taken
  sound_lines given told from asks sound =
      lines_of given told from (λ one. usage.usage_only one asks) (λ three. sound.source_sound (raised_rose _ _ (causes.source_failed.failed three))) (λ four. sound.sink_sound (raised_rose _ _ (causes.sink_failed.failed four))) sound.memory_sound

  by_script : (given : Given) → RunsFrom given false words before → EndsByScript given words (seen status before after)
  by_script given from = record {
    good_over_any = λ asks sound good. good_ends given false status after.left after.taken (sound_lines given false from asks sound) good;
    bad_over_any = λ asks sound found bad. bad_stops given false status after.left after.taken found bad (sound_lines given false from asks sound);
    no_room = λ asks sound found full. full_stops given false status after.left after.taken found full (sound_lines given false from asks sound);
    complete_only = λ is.
        (zero_ends given false status after.left after.taken (lines_of given false from (λ e. omega (arith, is, e)) (λ e. omega (arith, is, e)) (λ e. omega (arith, is, e)) (λ e. omega (arith, is, e))) is).0;
    read_out = λ is.
        (zero_ends given false status after.left after.taken (lines_of given false from (λ e. omega (arith, is, e)) (λ e. omega (arith, is, e)) (λ e. omega (arith, is, e)) (λ e. omega (arith, is, e))) is).1;
    bad_line_only = λ is.
        stops_there false given false status after.left after.taken (lines_of given false from (λ e. omega (arith, is, e)) (λ e. omega (arith, is, e)) (λ e. omega (arith, is, e)) (λ e. omega (arith, is, e))) is;
    no_room_only = λ is.
        stops_there true given false status after.left after.taken (lines_of given false from (λ e. omega (arith, is, e)) (λ e. omega (arith, is, e)) (λ e. omega (arith, is, e)) (λ e. omega (arith, is, e))) is;
    refused_only = λ is.
        seven_starts given false status after.left after.taken (lines_of given false from (λ e. omega (arith, is, e)) (λ e. omega (arith, is, e)) (λ e. omega (arith, is, e)) (λ e. omega (arith, is, e))) is;
  }

  by_card : (given : Given) → RunsFrom given true words before → EndsByCard given words (seen status before after)
  by_card given from = record {
    complete = λ asks sound good can. completes given status after.left after.taken (sound_lines given true from asks sound) good can;
    bad_line = λ asks sound found bad. stops_bad given status after.left after.taken found bad (sound_lines given true from asks sound);
    no_card = λ asks sound why stops. refuses given status after.left after.taken why stops (sound_lines given true from asks sound);
    no_card_only = λ is.
        seven_refuses given status after.left after.taken (lines_of given true from (λ e. omega (arith, is, e)) (λ e. omega (arith, is, e)) (λ e. omega (arith, is, e)) (λ e. omega (arith, is, e))) is;
  }

  pub statuses_so : ((given : Given) (told : Bool) (start count : ℕ) → LoadsFrom given told start count words before → (leaves : Leaves) × ComesToLoad given told start count ending leaves) → ServesToEnd words status before after → HasStatuses words status before after
  statuses_so loads channels = record {
    script = by_script;
    card = by_card;
    usage = usage;
    load = record {
      load_complete = λ given told start count card from sound fixed.
          let loaded = loads given told start count from in
          load_completes given told start count card ending loaded.0 status fixed loaded.1 is_its (λ four. sound.sink_sound (raised_rose _ _ (causes.sink_failed.failed four))) sound.memory_sound;
    };
    bip = channels;
    causes = causes;
  }

-- ---- from what it comes to before its last line to all that it owes

or_same : {Same Other Holds : Type 0} → Same ⊎ Holds → (Same → Other) → Other ⊎ Holds
or_same (inl so) other = inl (other so)
or_same (inr holds) other = inr holds

one_is_early : (ending : Ending) → ending ≡ Usage → IsEarly ending
one_is_early ending is = subst IsEarly (sym is) tt

pub loads_run : (given : Given) (told : Bool) (start count : ℕ) (words : List (List ℕ)) (before : World) → LoadsFrom given told start count words before → AskForRun words
loads_run given told start count words before from = (record { mode = Load start count; devices = from.devices }, from.words_are)

-- what a run with these words comes to over its device
pub record ComesFor (words : List (List ℕ)) (ending : Ending) (before put : World) (ScriptIsSame TraceIsSame MemoryIsSame BoxesAreSame : Type 0) : Type 0 where
  pub comes : (given : Given) (told : Bool) → RunsFrom given told words before → Comes given told put.left ending (left_in given.pages put)
  pub memory : (given : Given) (told : Bool) → RunsFrom given told words before → KeepsMemory given ending before put MemoryIsSame
  pub taken : (text : List ℕ) → before.left ≡ Some text → IsTaken (MOST_BYTES + 1) text put.left
  pub load : (given : Given) (told : Bool) (start count : ℕ) (taken : Option (List ℕ)) → LoadsFrom given told start count words before → ComesToLoad given told start count ending (record (left_in given.pages put) { taken = taken })
  pub load_kept : (given : Given) (told : Bool) (start count : ℕ) → LoadsFrom given told start count words before → ending ≡ NoMemory → MemoryIsSame ⊎ HoldsFixed given (content_in given.pages put.contents)
  pub load_unread : (start count : ℕ) → AskToLoad words start count → ScriptIsSame × TraceIsSame
  pub bip : AskForBip words → ServesBip before put MemoryIsSame BoxesAreSame ending
  pub usage : (AskForRun words → ⊥) → (ending ≡ Usage) × ScriptIsSame × TraceIsSame
  pub usage_only : ending ≡ Usage → AskForRun words → ⊥
  pub ends : EndsFor ending before put TraceIsSame MemoryIsSame BoxesAreSame

-- words in no form
comes_to_nothing : (ScriptIsSame MemoryIsSame BoxesAreSame : Type 0) (words : List (List ℕ)) (before : World) → (AskForRun words → ⊥) → ScriptIsSame → MemoryIsSame → BoxesAreSame
    → ComesFor words Usage before before ScriptIsSame (Unit {0}) MemoryIsSame BoxesAreSame
comes_to_nothing ScriptIsSame MemoryIsSame BoxesAreSame words before none script memory boxes = record {
  comes = λ given told from. quiet_still given before.taken (held_in given.pages before.contents) before.meter before.boxes from.others_are.before_is from.others_are.meter_is;
  memory = λ given told from. record { bytes = λ first kept. absurd kept; half_made = λ some failed. absurd (cc); no_memory = λ some wanting. absurd (cc) };
  taken = λ text told. IsTaken-none (MOST_BYTES + 1) text before.left told;
  load = λ given told start count taken from. absurd (none (loads_run given told start count words before from));
  load_kept = λ given told start count from wants. absurd (none (loads_run given told start count words before from));
  load_unread = λ start count asks. absurd (none (record { mode = Load start count; devices = asks.0 }, asks.1));
  bip = λ asks. absurd (none (asks_for_run words asks));
  usage = λ asks. (refl, script, tt);
  usage_only = λ same. none;
  ends = ends_unbegun Usage before (λ three. omega (arith, three)) (λ four. omega (arith, four)) (λ six. omega (arith, six)) (λ unshown. unshown) (λ early. memory) (λ unopened. boxes);
}

-- words that ask for this, by what is done over a store
module _ {ScriptIsSame TraceIsSame StoreIsSame MemoryIsSame BoxesAreSame : Type 0} (words : List (List ℕ)) (asked : Request) (is : IsOnly (IsRequest words) asked) (ending : Ending) (before put : World) (same : StoreIsSame → MemoryIsSame)
    (out : CarriesOut asked.mode (mark_of asked.devices.pages) (mark_of asked.devices.pages) ending (inside asked.devices.pages before) (inside asked.devices.pages put) ScriptIsSame TraceIsSame StoreIsSame BoxesAreSame) where
  begins : (given : Given) (told : Bool) → RunsFrom given told words before → BeginsAs given told asked.mode (mark_of asked.devices.pages) (inside asked.devices.pages before)
  begins given told from =
      let wish = from.is_asked asked is.so in
      search (rules, from, subst (λ p. IsGiven given told before.taken (memory_in p before.contents) before.meter before.boxes) wish.store_is from.others_are, wish, ap mark_of wish.store_is)

  memory_so : (given : Given) (told : Bool) → RunsFrom given told words before → KeepsMemory given ending before put MemoryIsSame
  memory_so given told from =
      let kept = subst (λ p. KeepsContent given ending (held_in p before.contents) (content_in p before.contents) (content_in p put.contents) StoreIsSame) (sym (from.is_asked asked is.so).store_is) (out.content given told (begins given told from)) in
      record { bytes = kept.bytes; half_made = kept.half_made; no_memory = λ some wants. or_same (kept.no_memory some wants) same }

  store_of : (given : Given) (told : Bool) (start count : ℕ) → LoadsFrom given told start count words before → given.pages ≡ asked.devices.pages
  store_of given told start count from = from.store_is ∙ ap (λ (r : Request). r.devices.pages) (is.only (record { mode = Load start count; devices = from.devices }) from.words_are)

  loads : (start count : ℕ) → AskToLoad words start count → LoadsUntold (mark_of asked.devices.pages) (mark_of asked.devices.pages) start count ending (inside asked.devices.pages before) (inside asked.devices.pages put) ScriptIsSame TraceIsSame StoreIsSame
  loads start count asks = out.load start count (sym (ap (λ (r : Request). r.mode) (is.only (record { mode = Load start count; devices = asks.0 }) asks.1)))

  pub comes_to : ComesFor words ending before put ScriptIsSame TraceIsSame MemoryIsSame BoxesAreSame
  comes_to = record {
    comes = λ given told from. subst (λ p. Comes given told put.left ending (left_in p put)) (sym (from.is_asked asked is.so).store_is) (out.comes given told (begins given told from));
    memory = memory_so;
    taken = out.taken;
    load = λ given told start count taken from.
        let store = store_of given told start count from in
        subst (λ p. ComesToLoad given told start count ending (record (left_in p put) { taken = taken })) (sym store)
        ((loads start count (from.devices, from.words_are)).comes given told taken (subst (λ p. IsOver given told (memory_in p before.contents) before.meter before.boxes) store from.over));
    load_kept = λ given told start count from wants.
        let store = store_of given told start count from in
        or_same (subst (λ p. StoreIsSame ⊎ HoldsFixed given (content_in p put.contents)) (sym store) ((loads start count (from.devices, from.words_are)).no_memory given (ap mark_of store) from.over.boxes_are wants)) same;
    load_unread = λ start count asks. ((loads start count asks).unread, (loads start count asks).unwritten);
    bip = λ asks.
        let channels = out.bip (sym (ap (λ (r : Request). r.mode) (is.only (record { mode = Bip; devices = asks.0 }) asks.1))) in
        record { comes = channels.comes; low = channels.low; memory_kept = same channels.memory_kept; boxes_kept = channels.boxes_kept };
    usage = λ none. absurd (none (asked, is.so));
    usage_only = λ usage. absurd (out.used usage);
    ends = search (rules, out, same);
  }

-- and then the last line
module _ {ScriptIsSame TraceIsSame MemoryIsSame BoxesAreSame : Type 0} (words : List (List ℕ)) (ending : Ending) (status : ℕ) (before put : World) (taken : Option (List ℕ)) (sink : ℕ)
    (out : ComesFor words ending before put ScriptIsSame TraceIsSame MemoryIsSame BoxesAreSame) (unput : TraceIsSame → put.taken ≡ before.taken)
    (closes : Closes ending put.taken taken status) (its : (status ≡ status_for ending) ⊎ (status ≡ 4)) (cause : CountsEach put.sink sink ((status ≡ 4) × (status_for ending ≢ 4))) where
  abbrev after : World
  after = record put { taken = taken; sink = sink }

  closes_unput : TraceIsSame → Closes ending before.taken taken status
  closes_unput trace = subst (λ t. Closes ending t taken status) (unput trace) closes

  causes_so : HasCauses status before after
  causes_so = record {
    statuses = elim its [ inl own ↦ let most = at_most_8 ending in omega (arith, own, most) | inr four ↦ omega (arith, four) ];
    source_failed = once before.source put.source (status_for ending) 3 4 status out.ends.source_cause (λ three. own_is ending status 3 its three (λ e. omega (arith, e))) its;
    sink_failed = once_at_last before.sink put.sink sink (status_for ending) 4 status out.ends.sink_cause cause its;
    memory_failed = λ six. out.ends.memory_cause (own_is ending status 6 its six (λ e. omega (arith, e)));
    reset_failed = λ six. six_shows ending before.taken put.taken taken status (Rose before.meter.faults put.meter.faults) closes out.ends.reset_cause (λ unshown. unput (out.ends.unshown unshown)) six;
    tells = closes_tells ending put.taken taken status closes ∙ out.ends.tells;
  }

  usage_so : RefusesWords words status before after
  usage_so = record {
    usage = λ none. subst (λ e. Closes e before.taken taken status) (out.usage none).0 (closes_unput (out.usage none).2);
    usage_only = λ one. out.usage_only (one_is ending status its one);
  }

  bip_so : (text : List ℕ) → AskForBip words → before.left ≡ Some text → TracesBip text before.taken (seen status before after)
  bip_so text asks told = record {
    ending = ending;
    cause = record {
      read_failed = out.ends.source_cause;
      sink_failed = λ four. raised_rose before.sink sink (cause.no_failure (λ both. both.1 four) ∙ out.ends.sink_cause.failed four);
    };
    put = put.taken;
    comes = (out.bip asks).comes text told;
    closes = closes;
  }

  pub runs_so : RunsAsAsked words status before after ScriptIsSame MemoryIsSame BoxesAreSame
  runs_so = record {
    traces = record {
      trace = λ given told from. record {
        ending = ending;
        cause = record {
          usage = out.usage_only;
          read_failed = out.ends.source_cause;
          eeprom_failed = out.ends.memory_cause;
          untouched = out.ends.untouched;
          boxes_kept = out.ends.boxes;
          memory_kept = out.memory given told from;
        };
        taken = put.taken;
        comes = out.comes given told from;
        closes = closes;
      };
      load = λ given told start count from. record {
        ending = ending;
        cause = record { eeprom_failed = out.ends.memory_cause; untouched = out.ends.untouched; boxes_kept = out.ends.boxes; no_memory = out.load_kept given told start count from };
        comes = out.load given told start count taken from;
        closes = closes_unput (out.load_unread start count (from.devices, from.words_are)).1;
      };
      bip = bip_so;
    };
    statuses = statuses_so words status before after ending put.taken closes its out.comes (λ none. (out.usage none).0) usage_so causes_so (λ given told start count from. (_, out.load given told start count taken from))
        (serves_to_end words status before after bip_so (λ asks. status_low (status_for ending) status its (out.bip asks).low) (λ three. raised_rose before.source put.source (causes_so.source_failed.failed three)) (λ four. raised_rose before.sink sink (causes_so.sink_failed.failed four)));
    stays = record {
      untouched = λ early. elim early [ inl one ↦ out.ends.untouched (one_is_early ending (one_is ending status its one)) | inr eight ↦ out.ends.untouched (eight_is_early ending (own_is ending status 8 its eight (λ e. omega (arith, e)))) ];
      bip_untouched = λ asks. ((out.bip asks).memory_kept, (out.bip asks).boxes_kept);
      unread = λ none. (out.usage none).1;
      load_unread = λ start count asks. (out.load_unread start count asks).0;
      taken = out.taken;
      no_memory = λ given from some five. (out.memory given false from).no_memory some (five_is ending status its five);
    };
  }

-- words in no form are refused
pub refused : (ScriptIsSame MemoryIsSame BoxesAreSame : Type 0) (words : List (List ℕ)) (status : ℕ) (before : World) (taken : Option (List ℕ)) (sink : ℕ) → ScriptIsSame → MemoryIsSame → BoxesAreSame → (AskForRun words → ⊥)
    → Closes Usage before.taken taken status → (status ≡ status_for Usage) ⊎ (status ≡ 4) → CountsEach before.sink sink ((status ≡ 4) × (status_for Usage ≢ 4))
    → RunsAsAsked words status before (record before { taken = taken; sink = sink }) ScriptIsSame MemoryIsSame BoxesAreSame
refused ScriptIsSame MemoryIsSame BoxesAreSame words status before taken sink script memory boxes none closes its cause =
    runs_so words Usage status before before taken sink (comes_to_nothing ScriptIsSame MemoryIsSame BoxesAreSame words before none script memory boxes) (λ same. refl) closes its cause
