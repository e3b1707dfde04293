-- The acts that change nothing in the memory, and what the applet is told after any.
use Rattle.std.proofs.Common.{◌≡◌, refl, sym, ap, ◌∙◌, subst, ℕ, Bool, true, false, cond, List, [], Option, Some, None, length, nat_le, option_map, IfSome, IfOk, Result, Ok, Err}
use Rattle.store_form.specs.declared.store.StoreFault.{StoreFault}
use Rattle.card_state.specs.Persistent.{Registration}
use Rattle.card_state.specs.Memory.{Memory, held}
use Rattle.card_state.specs.Standing.{Agrees}
use Rattle.card_state.specs.States.{rows_of}
use Rattle.card_commits.specs.Laws.{TablesTellStates}
use Rattle.toolkit_commands.specs.declared.commands.Proactive.{Proactive}
use Rattle.timer_table.specs.Timers.{Owners, smallest_free, given_to, freed}
use Rattle.applet_trait.specs.declared.numbers.TheConstants.{MOST_KEPT}
use Rattle.applet_trait.specs.declared.stimuli.Stimulus.{Stimulus}
use Rattle.applet_trait.specs.declared.stimuli.Stimulus.TheVariants.{Went, Refused}
use Rattle.applet_trait.specs.declared.stimuli.Act.{Act}
use Rattle.applet_trait.specs.declared.stimuli.Act.TheVariants.{Done, Send, Keep, Register, Deregister, TakeTimer, FreeTimer, Answer}
use Rattle.applet_trait.specs.Laws.{GivesTimer}
use Rattle.applet_trait.specs.Minds.{AppletState}
use Rattle.toolkit_model.specs.declared.faults.RowFault.{RowFault}
use Rattle.toolkit_model.specs.Registry.{registers, deregisters, with_code, without_code, with_kept}
use Rattle.toolkit_model.specs.Passing.{passed_rows}
use Rattle.toolkit_model.specs.Running.{Setting, Works, Carried, committed, ends, answers, commits, changing, taking, carried, admitted, is_admitted, is_held_by}
use Rattle.proactive_handler.specs.declared.endings.Next.{Next}
use Rattle.proactive_handler.specs.declared.endings.Next.TheVariants.{Told as TellsNext, Sent as SendsNext}
use Rattle.proactive_handler.specs.declared.endings.Reply.TheVariants.{Refused as WasRefused}
use Rattle.proactive_handler.specs.Acts.{timer_told, Told, Idle, Sent, next_of, after, TellsTimer, Stage, stage, works_at, with_these_rows, IsCarriedOut, Carries}
use Rattle.proactive_handler.specs.Counting.{Counts}
use Rattle.proactive_handler.specs.Written.{IsWritten}
use Rattle.proactive_handler.proofs.CountingLemmas.{counts_none}
use Rattle.proactive_handler.proofs.WrittenLemmas.{writes_none}
use Rattle.proactive_handler.proofs.MovedLemmas.{has_rows, stands_still}

-- ---- what is told

abbrev TellsOne : Option Stimulus → Type 0
TellsOne tells = IfSome tells GivesTimer

either_tells : (b : Bool) (one other : Carried) → TellsOne one.tells → TellsOne other.tells → TellsOne (cond b one other).tells
either_tells true one other first second = first
either_tells false one other first second = second

change_tells : (works : Works) (after : List Registration) (r : Result Bool RowFault) → TellsOne (changing works after r).tells
change_tells works after (Ok true) = tt
change_tells works after (Ok false) = tt
change_tells works after (Err fault) = tt

next_tells : (tells : Option Stimulus) (sent : Option Proactive) → TellsOne tells → TellsTimer (next_of tells sent)
next_tells (Some stimulus) sent told = told
next_tells None (Some command) told = tt
next_tells None None told = tt

all_told : (at : Setting) (does : Act) (old new : Stage) (r : Result Next StoreFault) → TellsOne (carried at does (works_at old)).tells → Carries at does old new r → IfOk r (λ next. TellsTimer (after does next))
all_told at does old new (Ok next) tells carries = subst TellsTimer (sym carries.next_is) (next_tells (carried at does (works_at old)).tells (admitted at old.timers does) tells)
all_told at does old new (Err fault) tells carries = tt

module _ (at : Setting) (old new : Stage) (r : Result Next StoreFault) where
  pub send_told : (command : Proactive) → Carries at (Send command) old new r → IfOk r (λ next. TellsTimer (after (Send command) next))
  send_told command = all_told at (Send command) old new r (either_tells (is_admitted at old.timers command) (ends (works_at old)) (answers Refused (works_at old)) tt tt)

  pub keep_told : (bytes : List ℕ) → Carries at (Keep bytes) old new r → IfOk r (λ next. TellsTimer (after (Keep bytes) next))
  keep_told bytes =
      all_told at (Keep bytes) old new r (either_tells (nat_le (length bytes) MOST_KEPT) (commits (works_at old) (with_kept (rows_of old.memory.table) at.shelf bytes)) (answers Refused (works_at old)) tt tt)

  pub register_told : (code : ℕ) → Carries at (Register code) old new r → IfOk r (λ next. TellsTimer (after (Register code) next))
  register_told code = all_told at (Register code) old new r (change_tells (works_at old) (with_code (rows_of old.memory.table) at.shelf code) (registers (rows_of old.memory.table) at.shelf code))

  pub deregister_told : (code : ℕ) → Carries at (Deregister code) old new r → IfOk r (λ next. TellsTimer (after (Deregister code) next))
  deregister_told code = all_told at (Deregister code) old new r (change_tells (works_at old) (without_code (rows_of old.memory.table) at.shelf code) (deregisters (rows_of old.memory.table) at.shelf code))

pub free_told : (b : Bool) (stimulus : Stimulus) → stimulus ≡ cond b Went Refused → GivesTimer stimulus
free_told true stimulus is = subst GivesTimer (sym is) tt
free_told false stimulus is = subst GivesTimer (sym is) tt

-- another name of the act
pub told_by : (one other : Act) (r : Result Next StoreFault) → one ≡ other → IfOk r (λ next. TellsTimer (after other next)) → IfOk r (λ next. TellsTimer (after one next))
told_by one other r is = subst (λ (a : Act). IfOk r (λ next. TellsTimer (after a next))) (sym is)

-- ---- the acts

module _ (tell : TablesTellStates) (memory : Memory) (agrees : Agrees memory.mark memory.told memory.table) (at : Setting) (timers : Owners) (mind : AppletState) where
  abbrev before : Stage
  before = stage memory timers mind

  still : held memory ≡ option_map (with_these_rows (rows_of memory.table)) (held memory)
  still = stands_still (held memory) (rows_of memory.table) (has_rows tell memory.mark memory.told memory.table agrees)

  pub done_so : IsCarriedOut at Done before before Idle
  done_so = record { works_are = refl; next_is = refl; stands = still; counts = counts_none memory memory refl; writes = writes_none [] memory memory refl refl }

  pub answer_so : (allows : Bool) → IsCarriedOut at (Answer allows) before before (Told Went)
  answer_so allows = record { works_are = refl; next_is = refl; stands = still; counts = counts_none memory memory refl; writes = writes_none [] memory memory refl refl }

  sent_if : (command : Proactive) (b : Bool) → is_admitted at timers command ≡ b → IsCarriedOut at (Send command) before before (cond b (Sent command) (Told Refused))
  sent_if command b is =
      let done : carried at (Send command) (works_at before) ≡ cond b (ends (works_at before)) (answers Refused (works_at before)) = ap (λ (t : Bool). cond t (ends (works_at before)) (answers Refused (works_at before))) is in
      let sent : admitted at timers (Send command) ≡ cond b (Some command) None = ap (λ (t : Bool). cond t (Some command) None) is in
      record {
        works_are = sym (ap (λ (c : Carried). c.works) done ∙ same b);
        next_is = sym (ap (λ (c : Carried). next_of c.tells (admitted at timers (Send command))) done ∙ ap (λ (s : Option Proactive). next_of (cond b (ends (works_at before)) (answers Refused (works_at before))).tells s) sent ∙ follows b);
        stands = still;
        counts = subst (λ (c : Carried). Counts (passed_rows (committed at (Send command) c)) memory memory) (sym done) (none b);
        writes = subst (λ (c : Carried). IsWritten (committed at (Send command) c) memory memory) (sym done) (nothing b);
      }
    where
      none : (t : Bool) → Counts (passed_rows (committed at (Send command) (cond t (ends (works_at before)) (answers Refused (works_at before))))) memory memory
      none true = counts_none memory memory refl
      none false = counts_none memory memory refl

      nothing : (t : Bool) → IsWritten (committed at (Send command) (cond t (ends (works_at before)) (answers Refused (works_at before)))) memory memory
      nothing true = writes_none [] memory memory refl refl
      nothing false = writes_none [] memory memory refl refl

      same : (t : Bool) → (cond t (ends (works_at before)) (answers Refused (works_at before))).works ≡ (works_at before)
      same true = refl
      same false = refl

      follows : (t : Bool) → next_of (cond t (ends (works_at before)) (answers Refused (works_at before))).tells (cond t (Some command) None) ≡ cond t (Sent command) (Told Refused)
      follows true = refl
      follows false = refl

  after_sent : (command : Proactive) (b : Bool) → after (Send command) (cond b SendsNext (TellsNext WasRefused)) ≡ cond b (Sent command) (Told Refused)
  after_sent command true = refl
  after_sent command false = refl

  pub send_so : (command : Proactive) (next : Next) → next ≡ cond (is_admitted at timers command) SendsNext (TellsNext WasRefused) → IsCarriedOut at (Send command) before before (after (Send command) next)
  send_so command next is =
      subst (IsCarriedOut at (Send command) before before) (sym (ap (after (Send command)) is ∙ after_sent command (is_admitted at timers command)))
      (sent_if command (is_admitted at timers command) refl)

  timers_so : (does : Act) (after : Owners) (stimulus : Stimulus) → carried at does (works_at before) ≡ answers stimulus (record (works_at before) { timers = after }) → IsCarriedOut at does before (stage memory after mind) (Told stimulus)
  timers_so does after stimulus is = record {
    works_are = sym (ap (λ (c : Carried). c.works) is);
    next_is = sym (ap (λ (c : Carried). next_of c.tells (admitted at timers does)) is);
    stands = still;
    counts = subst (λ (c : Carried). Counts (passed_rows (committed at does c)) memory memory) (sym is) (counts_none memory memory refl);
    writes = subst (λ (c : Carried). IsWritten (committed at does c) memory memory) (sym is) (writes_none [] memory memory refl refl);
  }

  take_is : (o : Option ℕ) → taking at.shelf (works_at before) o ≡ answers (timer_told o) (record (works_at before) { timers = given_to (record { 0 = at.shelf }) timers o })
  take_is (Some timer) = refl
  take_is None = refl

  pub take_so : (after : Owners) (stimulus : Stimulus) → stimulus ≡ timer_told (smallest_free timers) → after ≡ given_to (record { 0 = at.shelf }) timers (smallest_free timers) → IsCarriedOut at TakeTimer before (stage memory after mind) (Told stimulus)
  take_so after stimulus told_is after_is =
      timers_so TakeTimer after stimulus (take_is (smallest_free timers)
      ∙ ap (λ (s : Stimulus). answers s (record (works_at before) { timers = given_to (record { 0 = at.shelf }) timers (smallest_free timers) })) (sym told_is)
      ∙ ap (λ (t : Owners). answers stimulus (record (works_at before) { timers = t })) (sym after_is))

  free_is : (timer : ℕ) (b : Bool) → cond b (answers Went (record (works_at before) { timers = freed timers timer })) (answers Refused (works_at before))
      ≡ answers (cond b Went Refused) (record (works_at before) { timers = cond b (freed timers timer) timers })
  free_is timer true = refl
  free_is timer false = refl

  pub free_so : (timer : ℕ) (after : Owners) (stimulus : Stimulus) → stimulus ≡ cond (is_held_by timers at.shelf timer) Went Refused → after ≡ cond (is_held_by timers at.shelf timer) (freed timers timer) timers
      → IsCarriedOut at (FreeTimer timer) before (stage memory after mind) (Told stimulus)
  free_so timer after stimulus told_is after_is =
      timers_so (FreeTimer timer) after stimulus (free_is timer (is_held_by timers at.shelf timer)
      ∙ ap (λ (s : Stimulus). answers s (record (works_at before) { timers = cond (is_held_by timers at.shelf timer) (freed timers timer) timers })) (sym told_is)
      ∙ ap (λ (t : Owners). answers stimulus (record (works_at before) { timers = t })) (sym after_is))

-- an act by another name
pub same_act : (at : Setting) (one other : Act) (old new : Stage) (r : Result Next StoreFault) → one ≡ other → Carries at other old new r → Carries at one old new r
same_act at one other old new r is = subst (λ (a : Act). Carries at a old new r) (sym is)
