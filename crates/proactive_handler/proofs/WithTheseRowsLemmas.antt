-- What stands after an act, from what its one commit left.
use Rattle.std.proofs.Common.{◌≡◌, refl, sym, ap, ◌∙◌, subst, ⊎_elim, inl, inr, ℕ, List, [], Option, Some, None, ◌⊎◌, option_map, Result, Ok, Err, IsErr}
use Rattle.uicc_types.specs.Counts.{raised}
use Rattle.store_form.specs.declared.store.StoreFault.{StoreFault}
use Rattle.card_state.specs.declared.entries.Loaded.{Loaded}
use Rattle.card_state.specs.Changes.{Change}
use Rattle.card_state.specs.Memory.{Memory, held}
use Rattle.card_state.specs.Changing.{with_row_changed, with_code_committed, without_code_committed, with_kept_committed}
use Rattle.card_state.specs.Persistent.{Registration, Persistent}
use Rattle.card_state.specs.Standing.{Agrees}
use Rattle.card_state.specs.States.{rows_of}
use Rattle.card_commits.specs.Laws.{TablesTellStates}
use Rattle.card_commits.specs.Writing.{written}
use Rattle.card_commits.proofs.WritesAllLemmas.{one_written}
use Rattle.timer_table.specs.Timers.{Owners}
use Rattle.applet_trait.specs.declared.stimuli.Stimulus.{Stimulus}
use Rattle.applet_trait.specs.declared.stimuli.Stimulus.TheVariants.{Went}
use Rattle.applet_trait.specs.declared.stimuli.Act.{Act}
use Rattle.applet_trait.specs.Minds.{AppletState}
use Rattle.toolkit_model.specs.Registry.{with_code, without_code, with_kept}
use Rattle.toolkit_model.specs.Passing.{passed_rows}
use Rattle.toolkit_model.specs.Changes.{change_by}
use Rattle.toolkit_model.specs.Running.{Setting, Works, Carried, carried, commits, committed, answers, admitted}
use Rattle.proactive_handler.specs.declared.endings.Next.{Next}
use Rattle.proactive_handler.specs.Acts.{Told, next_of, Stage, stage, works_at, with_these_rows, IsCarriedOut, IsActStopped, Carries}
use Rattle.proactive_handler.specs.Moved.{HasRowsOf}
use Rattle.proactive_handler.proofs.MovedLemmas.{has_rows, stands_still}
use Rattle.proactive_handler.specs.Counting.{Counts}
use Rattle.proactive_handler.specs.Written.{IsWritten, IsPartlyWritten}
use Rattle.proactive_handler.proofs.CountingLemmas.{counts_none, counts_one}
use Rattle.proactive_handler.proofs.WrittenLemmas.{writes_none, stops_first}

-- ---- a change of the rows

-- It changes nothing but the rows, and those so.
abbrev pub ChangesRows : (Persistent → Persistent) → (List Registration → List Registration) → Type 0
ChangesRows change rows_after = (state : Persistent) → change state ≡ with_these_rows (rows_after state.rows) state

pub changed_so : (change : Persistent → Persistent) (rows_after : List Registration → List Registration) → ChangesRows change rows_after → (stood : Option Persistent) (rows : List Registration) → HasRowsOf stood rows
    → option_map change stood ≡ option_map (with_these_rows (rows_after rows)) stood
changed_so change rows_after so None rows has = refl
changed_so change rows_after so (Some state) rows has = ap (λ (s : Persistent). Some s) (so state ∙ ap (λ (r : List Registration). with_these_rows (rows_after r) state) (has state refl))

pub keeps : (shelf : ℕ) (bytes : List ℕ) → ChangesRows (with_kept_committed shelf bytes) (λ rows. with_kept rows shelf bytes)
unfolding with_row_changed
keeps shelf bytes state = refl

pub registers_more : (shelf code : ℕ) → ChangesRows (with_code_committed shelf code) (λ rows. with_code rows shelf code)
unfolding with_row_changed
registers_more shelf code state = refl

pub registers_less : (shelf code : ℕ) → ChangesRows (without_code_committed shelf code) (λ rows. without_code rows shelf code)
unfolding with_row_changed
registers_less shelf code state = refl

-- ---- an act

module _ (at : Setting) (does : Act) (old new : Stage) where
  -- one that changes nothing in the memory
  pub told_so : (stimulus : Stimulus) → carried at does (works_at old) ≡ answers stimulus (works_at old) → works_at new ≡ works_at old → new.memory ≡ old.memory → HasRowsOf (held old.memory) (rows_of old.memory.table) → IsCarriedOut at does old new (Told stimulus)
  told_so stimulus is works same has = record {
    works_are = works ∙ sym (ap (λ (c : Carried). c.works) is);
    next_is = sym (ap (λ (c : Carried). next_of c.tells (admitted at old.timers does)) is);
    stands = ap (λ (m : Memory). held m) same ∙ stands_still (held old.memory) (rows_of old.memory.table) has ∙ ap (λ (w : Works). option_map (with_these_rows w.rows) (held old.memory)) (sym works);
    counts = subst (λ (done : Carried). Counts (passed_rows (committed at does done)) old.memory new.memory) (sym is) (counts_none old.memory new.memory same);
    writes = subst (λ (done : Carried). IsWritten (committed at does done) old.memory new.memory) (sym is) (writes_none [] old.memory new.memory refl same);
  }

  module _ (rows : List Registration) (is : carried at does (works_at old) ≡ commits (works_at old) rows) where
    -- its commit stands
    pub committed_so : works_at new ≡ record (works_at old) { rows = rows } → held new.memory ≡ option_map (with_these_rows rows) (held old.memory) → new.memory.commits ≡ raised old.memory.commits
        → new.memory.told ≡ option_map (written (change_by at.shelf does rows)) old.memory.told → IsCarriedOut at does old new (Told Went)
    committed_so works stands once put = record {
      works_are = works ∙ sym (ap (λ (c : Carried). c.works) is);
      next_is = sym (ap (λ (c : Carried). next_of c.tells (admitted at old.timers does)) is);
      stands = stands ∙ ap (λ (w : Works). option_map (with_these_rows w.rows) (held old.memory)) (sym works);
      counts = subst (λ (done : Carried). Counts (passed_rows (committed at does done)) old.memory new.memory) (sym is) (counts_one rows old.memory new.memory once);
      writes = subst (λ (done : Carried). IsWritten (committed at does done) old.memory new.memory) (sym is) (put ∙ one_written (change_by at.shelf does rows) old.memory.told);
    }

    -- a fault stopped it
    pub stopped_so : works_at new ≡ works_at old → (held new.memory ≡ held old.memory) ⊎ (held new.memory ≡ option_map (with_these_rows rows) (held old.memory)) → new.memory.commits ≡ old.memory.commits
        → (new.memory.told ≡ old.memory.told) ⊎ (new.memory.told ≡ option_map (written (change_by at.shelf does rows)) old.memory.told) → IsActStopped at does old new
    stopped_so works stands none put = record {
      is_commit = ap (λ (c : Carried). c.is_committed) is;
      works_are = works;
      stands = ⊎_elim {C = (held new.memory ≡ held old.memory) ⊎ (held new.memory ≡ option_map (with_these_rows (carried at does (works_at old)).works.rows) (held old.memory))}
          inl (λ after. inr (after ∙ ap (λ (c : Carried). option_map (with_these_rows c.works.rows) (held old.memory)) (sym is))) stands;
      commits = none;
      writes = subst (λ (done : Carried). IsPartlyWritten (committed at does done) old.memory new.memory) (sym is) (stops_first (change_by at.shelf does rows) [] old.memory new.memory put none);
    }

  pub on_fault : (r : Result Next StoreFault) → IsErr r → IsActStopped at does old new → Carries at does old new r
  on_fault (Ok next) err stopped = cc err
  on_fault (Err fault) err stopped = stopped

-- ---- an act over a card that is mounted

module _ (tell : TablesTellStates) (memory : Memory) (agrees : Agrees memory.mark memory.told memory.table) (at : Setting) (does : Act) (timers : Owners) (mind : AppletState) where
  abbrev before : Stage
  before = stage memory timers mind

  -- it changes nothing in the memory
  pub rests_so : (stimulus : Stimulus) → carried at does (works_at before) ≡ answers stimulus (works_at before) → IsCarriedOut at does before before (Told stimulus)
  rests_so stimulus is = told_so at does before before stimulus is refl refl (has_rows tell memory.mark memory.told memory.table agrees)

  module _ (change : Persistent → Persistent) (rows_after : List Registration → List Registration) (so : ChangesRows change rows_after) (is : carried at does (works_at before) ≡ commits (works_at before) (rows_after (rows_of memory.table)))
      (made : Change) (made_is : made ≡ change_by at.shelf does (rows_after (rows_of memory.table))) (memory' : Memory) where
    made_so : (told : Option (List ℕ)) → option_map (written made) told ≡ option_map (written (change_by at.shelf does (rows_after (rows_of memory.table)))) told
    made_so told = ap (λ (change : Change). option_map (written change) told) made_is

    pub commit_stands : held memory' ≡ option_map change (held memory) → memory'.commits ≡ raised memory.commits → memory'.told ≡ option_map (written made) memory.told → rows_of memory'.table ≡ rows_after (rows_of memory.table) → IsCarriedOut at does before (stage memory' timers mind) (Told Went)
    commit_stands stands once put rows =
        committed_so at does before (stage memory' timers mind) (rows_after (rows_of memory.table)) is (ap (λ (r : List Registration). record (works_at before) { rows = r }) rows)
        (stands ∙ changed_so change rows_after so (held memory) (rows_of memory.table) (has_rows tell memory.mark memory.told memory.table agrees)) once (put ∙ made_so memory.told)

    pub commit_stops : (r : Result Next StoreFault) → IsErr r → memory'.table ≡ memory.table → (held memory' ≡ held memory) ⊎ (held memory' ≡ option_map change (held memory)) → memory'.commits ≡ memory.commits
        → (memory'.told ≡ memory.told) ⊎ (memory'.told ≡ option_map (written made) memory.told) → Carries at does before (stage memory' timers mind) r
    commit_stops r err same either none put =
        on_fault at does before (stage memory' timers mind) r err
        (stopped_so at does before (stage memory' timers mind) (rows_after (rows_of memory.table)) is (ap (λ (t : Loaded). record (works_at before) { rows = rows_of t }) same)
        (⊎_elim {C = (held memory' ≡ held memory) ⊎ (held memory' ≡ option_map (with_these_rows (rows_after (rows_of memory.table))) (held memory))}
        inl (λ after. inr (after ∙ changed_so change rows_after so (held memory) (rows_of memory.table) (has_rows tell memory.mark memory.told memory.table agrees))) either) none
        (⊎_elim {C = (memory'.told ≡ memory.told) ⊎ (memory'.told ≡ option_map (written (change_by at.shelf does (rows_after (rows_of memory.table)))) memory.told)} inl (λ after. inr (after ∙ made_so memory.told)) put))
