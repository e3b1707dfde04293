-- A run whose card was open ends as its lines do.
use Rattle.std.proofs.Common.{◌≡◌, ◌⊎◌, ◌∙◌, ℕ, false, Result, Ok, Err, refl, sym, ap, subst, inl, inr, is_some, IsErr, rules}
use Rattle.uicc_types.specs.Counts.{Meter, Rose}
use Rattle.byte_streams.specs.Streams.{CountsEach}
use Rattle.script_reader.specs.declared.behind.PlayEnd.{PlayEnd}
use Rattle.script_reader.specs.declared.faults.ScriptFault.{ScriptFault}
use Rattle.script_reader.specs.declared.behind.PlayEnd.TheVariants as play
use Rattle.script_reader.specs.declared.faults.ScriptFault.TheVariants as script
use Rattle.long_runs.specs.declared.counts.Counts.{Counts}
use Rattle.run_steps.specs.declared.steps.MemoryFailed.{MemoryFailed as Failure}
use Rattle.uicc_run.specs.Making.{EndsFor, EndsLoad, IsUnshown, ending_for_load}
use Rattle.uicc_run.specs.Endings.{IsEarly, IsUnopened, status_for}
use Rattle.uicc_run.specs.Headline.{last_text}
use Rattle.uicc_run.specs.Worlds.{World}
use Rattle.uicc_run.specs.declared.endings.Ending.{Ending}
use Rattle.uicc_run.specs.declared.endings.Ending.TheVariants.{MemoryFailed, NoMemory, Played, Section, Usage}
use Rattle.uicc_run.specs.declared.endings.Task.TheVariants as task

-- what an end is by its status
pub record ByStatus (ending : Ending) : Type 0 where
  pub one : status_for ending ≡ 1 → ending ≡ Usage
  pub three : status_for ending ≡ 3 → (ending ≡ Section script.ReadFailed) ⊎ (ending ≡ Played play.ReadFailed)
  pub four : status_for ending ≡ 4 → ending ≡ Played play.SinkFailed
  pub five : status_for ending ≡ 5 → ending ≡ NoMemory
  pub six : status_for ending ≡ 6 → (ending ≡ Played play.ResetFailed) ⊎ (IsUnshown ending × (last_text ending ≡ last_text (MemoryFailed task.Opening)))

pub by_status : (ending : Ending) → ByStatus ending
by_status Usage = record { one = λ is. refl; three = λ is. absurd (cc is); four = λ is. absurd (cc is); five = λ is. absurd (cc is); six = λ is. absurd (cc is) }
by_status (Section script.ReadFailed) = record { one = λ is. absurd (cc is); three = λ is. inl refl; four = λ is. absurd (cc is); five = λ is. absurd (cc is); six = λ is. absurd (cc is) }
by_status (Played play.ReadFailed) = record { one = λ is. absurd (cc is); three = λ is. inr refl; four = λ is. absurd (cc is); five = λ is. absurd (cc is); six = λ is. absurd (cc is) }
by_status (Played play.SinkFailed) = record { one = λ is. absurd (cc is); three = λ is. absurd (cc is); four = λ is. refl; five = λ is. absurd (cc is); six = λ is. absurd (cc is) }
by_status NoMemory = record { one = λ is. absurd (cc is); three = λ is. absurd (cc is); four = λ is. absurd (cc is); five = λ is. refl; six = λ is. absurd (cc is) }
by_status (MemoryFailed when) = record { one = λ is. absurd (cc is); three = λ is. absurd (cc is); four = λ is. absurd (cc is); five = λ is. absurd (cc is); six = λ is. inr (tt, refl) }
by_status (Played play.ResetFailed) = record { one = λ is. absurd (cc is); three = λ is. absurd (cc is); four = λ is. absurd (cc is); five = λ is. absurd (cc is); six = λ is. inl refl }
by_status other = record { one = λ is. absurd (cc is); three = λ is. absurd (cc is); four = λ is. absurd (cc is); five = λ is. absurd (cc is); six = λ is. absurd (cc is) }

same_end : (end other : PlayEnd) → Played end ≡ Played other → end ≡ other
same_end end other is = cc is

pub ends_played : (end : PlayEnd) (before after : World) (TraceIsSame BoxesAreSame : Type 0) → CountsEach before.source after.source (end ≡ play.ReadFailed) → CountsEach before.sink after.sink (end ≡ play.SinkFailed)
    → (end ≡ play.ResetFailed → Rose before.meter.faults after.meter.faults) → is_some after.taken ≡ is_some before.taken → EndsFor (Played end) before after TraceIsSame ⊥ BoxesAreSame
ends_played end before after TraceIsSame BoxesAreSame source sink memory tells = record {
  source_cause = record { failed = λ three. source.failed (elim ((by_status (Played end)).three three) [ inl is ↦ absurd (cc is) | inr is ↦ same_end end play.ReadFailed is ]); no_failure = λ other. source.no_failure (λ is. other (ap (λ e. status_for (Played e)) is)) };
  sink_cause = record { failed = λ four. sink.failed (same_end end play.SinkFailed ((by_status (Played end)).four four)); no_failure = λ other. sink.no_failure (λ is. other (ap (λ e. status_for (Played e)) is)) };
  memory_cause = λ six. elim ((by_status (Played end)).six six) [ inl is ↦ inl (memory (same_end end play.ResetFailed is)) | inr none ↦ absurd none.0 ];
  reset_cause = λ reset. memory (same_end end play.ResetFailed reset);
  tells = tells;
  unshown = λ none. absurd none;
  untouched = λ none. none;
  boxes = λ none. absurd none;
}

-- A run that ended before anything was done, for none of its devices.
pub ends_unbegun : {TraceIsSame MemoryIsSame BoxesAreSame : Type 0} → (ending : Ending) (world : World) → (status_for ending ≡ 3 → ⊥) → (status_for ending ≡ 4 → ⊥) → (status_for ending ≡ 6 → ⊥) → (IsUnshown ending → ⊥) → (IsEarly ending → MemoryIsSame) → (IsUnopened ending → BoxesAreSame)
    → EndsFor ending world world TraceIsSame MemoryIsSame BoxesAreSame
ends_unbegun ending world not_3 not_4 not_6 shown memory boxes = search (rules, not_3, not_4, not_6, shown, memory, boxes)

-- ---- before `start`

abbrev stopped_for : {T : Type 0} → ScriptFault → Result T ScriptFault
stopped_for fault = Err fault

same_fault : {T : Type 0} (fault other : ScriptFault) → stopped_for {T = T} fault ≡ stopped_for {T = T} other → fault ≡ other
same_fault fault other is = cc is

its_fault : (fault other : ScriptFault) → Section fault ≡ Section other → fault ≡ other
its_fault fault other is = cc is

-- the lines before `start` leave all but the source
pub ends_in_section : {T TraceIsSame MemoryIsSame BoxesAreSame : Type 0} → (fault : ScriptFault) (before after : World) → CountsEach before.source after.source (stopped_for {T = T} fault ≡ stopped_for {T = T} script.ReadFailed) → after.sink ≡ before.sink → is_some after.taken ≡ is_some before.taken
    → MemoryIsSame → BoxesAreSame → EndsFor (Section fault) before after TraceIsSame MemoryIsSame BoxesAreSame
ends_in_section {T} fault before after source sink tells memory boxes = record {
  source_cause = record {
    failed = λ three. source.failed (ap (stopped_for {T = T}) (elim ((by_status (Section fault)).three three) [ inl is ↦ its_fault fault script.ReadFailed is | inr is ↦ absurd (cc is) ]));
    no_failure = λ other. source.no_failure (λ is. other (ap (λ f. status_for (Section f)) (same_fault {T = T} fault script.ReadFailed is)));
  };
  sink_cause = record { failed = λ four. let is = (by_status (Section fault)).four four in absurd (cc is); no_failure = λ other. sink };
  memory_cause = λ six. elim ((by_status (Section fault)).six six) [ inl is ↦ absurd (cc is) | inr none ↦ absurd none.0 ];
  reset_cause = λ is. absurd (cc is);
  tells = tells;
  unshown = λ none. absurd none;
  untouched = λ early. memory;
  boxes = λ unopened. boxes;
}

-- what ends a run of whose source, sink and memory no failure was met before that
pub ends_later : {TraceIsSame MemoryIsSame BoxesAreSame : Type 0} → (ending : Ending) (before mid after : World) → mid.source ≡ before.source → mid.sink ≡ before.sink → is_some mid.taken ≡ is_some before.taken
    → mid.meter.faults ≡ before.meter.faults → mid.meter.cuts ≡ before.meter.cuts → mid.meter.powered ≡ before.meter.powered → EndsFor ending mid after TraceIsSame ⊥ BoxesAreSame → EndsFor ending before after TraceIsSame MemoryIsSame BoxesAreSame
ends_later ending before mid after source sink told faults cuts powered ends = record {
  source_cause = subst (λ n. CountsEach n after.source (status_for ending ≡ 3)) source ends.source_cause;
  sink_cause = subst (λ n. CountsEach n after.sink (status_for ending ≡ 4)) sink ends.sink_cause;
  memory_cause = λ six. subst (λ n. Rose n after.meter.faults ⊎ (Rose before.meter.cuts after.meter.cuts ⊎ (before.meter.powered ≡ false))) faults
      (subst (λ n. Rose mid.meter.faults after.meter.faults ⊎ (Rose n after.meter.cuts ⊎ (before.meter.powered ≡ false))) cuts
      (subst (λ b. Rose mid.meter.faults after.meter.faults ⊎ (Rose mid.meter.cuts after.meter.cuts ⊎ (b ≡ false))) powered (ends.memory_cause six)));
  reset_cause = λ is. subst (λ n. Rose n after.meter.faults) faults (ends.reset_cause is);
  tells = ends.tells ∙ told;
  unshown = ends.unshown;
  untouched = λ early. absurd (ends.untouched early);
  boxes = ends.boxes;
}

-- a long run ends with its counts, or for its memory
ends_so : (lines : ℕ) (outcome : Result Counts Failure) (old new : Meter) (BoxesAreSame : Type 0) → (IsErr outcome → Rose old.faults new.faults) → EndsLoad (ending_for_load lines outcome) old new ⊥ BoxesAreSame
ends_so lines (Ok counts) old new BoxesAreSame failed = search rules
ends_so lines (Err fault) old new BoxesAreSame failed = search (rules, failed)

pub ends_counted : (lines : ℕ) (outcome : Result Counts Failure) (ending : Ending) (old new : Meter) (BoxesAreSame : Type 0) → ending ≡ ending_for_load lines outcome → (IsErr outcome → Rose old.faults new.faults) → EndsLoad ending old new ⊥ BoxesAreSame
ends_counted lines outcome ending old new BoxesAreSame is failed = subst (λ (e : Ending). EndsLoad e old new ⊥ BoxesAreSame) (sym is) (ends_so lines outcome old new BoxesAreSame failed)

-- what rose between two meters rose between two others that counted the same
pub rose_as : (old mid new last : Meter) → mid.faults ≡ old.faults → last ≡ new → Rose mid.faults new.faults → Rose old.faults last.faults
rose_as old mid new last first same rose = subst (λ (m : Meter). Rose old.faults m.faults) (sym same) (subst (λ (count : ℕ). Rose count new.faults) first rose)
