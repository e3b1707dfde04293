-- A run from its first act on: what it passes and answers is what that act does, and then what the rest of the run does.
use Rattle.std.proofs.Common.{◌≡◌, refl, sym, ap, ◌∙◌, subst, ⊎_elim, inl, inr, ℕ, zero, suc, Bool, true, false, List, [], ◌∷◌, ◌++◌, cond, Option, Some, None, arith, ◌⊎◌, ◌&&◌, ◌≤◌, not, nat_le, length, filter_map, option_map, IsSomeAnd, IfSome, Contains, Result, Ok, Err, is_some, IsErr}
use Rattle.std.specs.Option.{option_or, option_map_or}
use Rattle.std.specs.List.{last_or, cons_option}
use Rattle.std.proofs.lemmas.Bool.Decides.{nat_tests}
use Rattle.std.proofs.lemmas.Option.{cond_some}
use Rattle.std.proofs.lemmas.List.Elements.{Contains-append_right, filter_map-append}
use Rattle.uicc_types.specs.Counts.{raised_by}
use Rattle.store_form.specs.declared.store.StoreFault.{StoreFault}
use Rattle.card_state.specs.Changes.{Change}
use Rattle.card_state.specs.Memory.{Memory, held}
use Rattle.card_state.specs.Persistent.{Registration, Persistent}
use Rattle.card_state.specs.States.{rows_of}
use Rattle.card_commits.specs.Performing.{PassesOne}
use Rattle.toolkit_commands.specs.declared.commands.Proactive.{Proactive}
use Rattle.toolkit_commands.specs.Table.{IsProper, spelled}
use Rattle.timer_table.specs.Timers.{Owners, smallest_free, freed}
use Rattle.terminal_profile.specs.Profiles.{allowed}
use Rattle.applet_trait.specs.declared.numbers.TheConstants.{MOST_KEPT}
use Rattle.applet_trait.specs.declared.stimuli.Stimulus.{Stimulus}
use Rattle.applet_trait.specs.declared.stimuli.Stimulus.TheVariants.{Refused, Went}
use Rattle.applet_trait.specs.declared.stimuli.Act.{Act}
use Rattle.applet_trait.specs.declared.stimuli.Act.TheVariants.{Done, Send, Keep, Register, Deregister, TakeTimer, FreeTimer, Answer}
use Rattle.applet_trait.specs.Laws.{IsProperAct}
use Rattle.applet_trait.specs.Minds.{AppletState}
use Rattle.applet_trait.specs.Turns.{act}
use Rattle.toolkit_model.specs.declared.faults.RowFault.{RowFault}
use Rattle.toolkit_model.specs.Registry.{registers, deregisters, with_code, without_code, with_kept}
use Rattle.toolkit_model.specs.Passing.{ShelfTurn, Happening, Committed, rows_in, passed_rows, turn_in, turns}
use Rattle.toolkit_model.specs.Changes.{change_by}
use Rattle.toolkit_model.specs.Running.{Setting, Works, Carried, Ran, ends, answers, commits, changing, taking, carried, admitted, is_admitted, is_cards_own, is_short, is_within_rights, is_held_by, committed, noted, going_on, logged, carrying, awakened, run_on}
use Rattle.toolkit_model.specs.Orderly.{CanBeSent}
use Rattle.toolkit_model.specs.Commands.{answer_in, last_answer}
use Rattle.proactive_handler.specs.declared.endings.RunEnd.{RunEnd}
use Rattle.proactive_handler.specs.Acts.{After, Told, Sent, next_of, Stage, works_at, with_these_rows, IsCarriedOut, IsActStopped}
use Rattle.proactive_handler.specs.Runs.{answer_of, Ended, with_each_rows, StopsAt, IsRun, IsCut, RunsTo}
use Rattle.proactive_handler.specs.Counting.{Counts}
use Rattle.proactive_handler.specs.Written.{IsWritten, IsPartlyWritten}
use Rattle.proactive_handler.proofs.CountingLemmas.{counts_none, counts_then}
use Rattle.proactive_handler.proofs.WrittenLemmas.{writes_none, writes_then, partly_first, partly_then}
use Rattle.proactive_handler.proofs.StopsAtLemmas.{stands_then, stops_later}
use Rattle.proactive_handler.specs.Moved.{HasRowsOf}
use Rattle.proactive_handler.proofs.MovedLemmas.{last_is_or, stands_still}

-- ---- what an act that commits nothing leaves

abbrev pub Rests : List Registration → Carried → Type 0
Rests rows done = done.is_committed ≡ false → done.works.rows ≡ rows

either_rests : (rows : List Registration) (b : Bool) (one other : Carried) → Rests rows one → Rests rows other → Rests rows (cond b one other)
either_rests rows true one other first second = first
either_rests rows false one other first second = second

committed_moves : (rows : List Registration) (works : Works) (after : List Registration) → Rests rows (commits works after)
committed_moves rows works after is = cc is

change_rests : (works : Works) (after : List Registration) (r : Result Bool RowFault) → Rests works.rows (changing works after r)
change_rests works after (Ok true) = committed_moves works.rows works after
change_rests works after (Ok false) = λ is. refl
change_rests works after (Err fault) = λ is. refl

taken_rests : (shelf : ℕ) (works : Works) (timer : Option ℕ) → Rests works.rows (taking shelf works timer)
taken_rests shelf works (Some timer) = λ is. refl
taken_rests shelf works None = λ is. refl

pub rests : (at : Setting) (does : Act) (works : Works) → Rests works.rows (carried at does works)
rests at Done works = λ is. refl
rests at (Send command) works = either_rests works.rows (is_admitted at works.timers command) (ends works) (answers Refused works) (λ is. refl) (λ is. refl)
rests at (Keep bytes) works =
    either_rests works.rows (nat_le (length bytes) MOST_KEPT) (commits works (with_kept works.rows at.shelf bytes)) (answers Refused works) (committed_moves works.rows works (with_kept works.rows at.shelf bytes)) (λ is. refl)
rests at (Register code) works = change_rests works (with_code works.rows at.shelf code) (registers works.rows at.shelf code)
rests at (Deregister code) works = change_rests works (without_code works.rows at.shelf code) (deregisters works.rows at.shelf code)
rests at TakeTimer works = taken_rests at.shelf works (smallest_free works.timers)
rests at (FreeTimer timer) works =
    either_rests works.rows (is_held_by works.timers at.shelf timer) (answers Went (record works { timers = freed works.timers timer })) (answers Refused works) (λ is. refl) (λ is. refl)
rests at (Answer allows) works = λ is. refl

-- ---- what is noted first

abbrev first_rows : Bool → List Registration → List (List Registration)
first_rows moved rows = cond moved (rows ∷ []) []

rows_of_commit : (moved : Bool) (change : Change) (rows : List Registration) → passed_rows (cond moved (Committed change rows ∷ []) []) ≡ first_rows moved rows
rows_of_commit true change rows = refl
rows_of_commit false change rows = refl

turns_of_commit : (moved : Bool) (change : Change) (rows : List Registration) → turns (cond moved (Committed change rows ∷ []) []) ≡ []
turns_of_commit true change rows = refl
turns_of_commit false change rows = refl

rows_noted : (at : Setting) (stimulus : Stimulus) (does : Act) (timers : Owners) (done : Carried) (rest : List Happening)
    → passed_rows (noted at stimulus does timers done ++ rest) ≡ first_rows done.is_committed done.works.rows ++ passed_rows rest
rows_noted at stimulus does timers done rest =
    filter_map-append rows_in (committed at does done) rest
    ∙ ap (λ (first : List (List Registration)). first ++ passed_rows rest) (rows_of_commit done.is_committed (change_by at.shelf does done.works.rows) done.works.rows)

answer_told : (shelf : ℕ) (stimulus : Stimulus) (does : Act) (b : Bool) → answer_in (record { shelf = shelf; stimulus = stimulus; act = does; is_admitted = b }) ≡ answer_of does
answer_told shelf stimulus Done b = refl
answer_told shelf stimulus (Send command) b = refl
answer_told shelf stimulus (Keep bytes) b = refl
answer_told shelf stimulus (Register code) b = refl
answer_told shelf stimulus (Deregister code) b = refl
answer_told shelf stimulus TakeTimer b = refl
answer_told shelf stimulus (FreeTimer timer) b = refl
answer_told shelf stimulus (Answer allows) b = refl

or_none : {X : Type 0} (o : Option X) → option_or o None ≡ o
or_none None = refl
or_none (Some x) = refl

last_with : {X : Type 0} (first : Option X) (xs : List X) → last_or None (cons_option first xs) ≡ option_or (last_or None xs) first
last_with None xs = sym (or_none (last_or None xs))
last_with (Some x) xs = last_is_or xs (Some x)

answer_noted : (at : Setting) (stimulus : Stimulus) (does : Act) (timers : Owners) (done : Carried) (rest : List Happening)
    → last_answer (noted at stimulus does timers done ++ rest) ≡ option_or (last_answer rest) (answer_of does)
answer_noted at stimulus does timers done rest =
    let turn : ShelfTurn = record { shelf = at.shelf; stimulus = stimulus; act = does; is_admitted = is_some (admitted at timers does) } in
    let told : turns (noted at stimulus does timers done ++ rest) ≡ turn ∷ turns rest =
    ap (λ (later : List ShelfTurn). turn ∷ later)
    (filter_map-append turn_in (committed at does done) rest
    ∙ ap (λ (first : List ShelfTurn). first ++ turns rest) (turns_of_commit done.is_committed (change_by at.shelf does done.works.rows) done.works.rows)) in
    ap (λ (all : List ShelfTurn). last_or None (filter_map answer_in all)) told ∙ last_with (answer_in turn) (filter_map answer_in (turns rest))
    ∙ ap (λ (first : Option Bool). option_or (last_answer rest) first) (answer_told at.shelf stimulus does (is_some (admitted at timers does)))

-- ---- what comes next

abbrev pub told_of : After → Option Stimulus
told_of (Told stimulus) = Some stimulus
told_of _ = None

abbrev pub sent_of : After → Option Proactive
sent_of (Sent command) = Some command
sent_of _ = None

pub tells_told : (tells : Option Stimulus) (sent : Option Proactive) → told_of (next_of tells sent) ≡ tells
tells_told (Some stimulus) sent = refl
tells_told None (Some command) = refl
tells_told None None = refl

-- what is sent just where there is a command is that command
pub as_sent : (command : Option Proactive) (sent : Bool) → sent ≡ is_some command → cond sent command None ≡ command
as_sent None true is = refl
as_sent None false is = refl
as_sent (Some command) true is = refl
as_sent (Some command) false is = cc is

pub sends_sent : (tells : Option Stimulus) (sent : Option Proactive) → tells ≡ None → sent_of (next_of tells sent) ≡ sent
sends_sent (Some stimulus) sent is = cc is
sends_sent None (Some command) is = refl
sends_sent None None is = refl

-- ---- what can be sent

-- it may be that nothing is sent
pub each_sent : (sent : Option Proactive) → ((command : Proactive) → sent ≡ Some command → CanBeSent command) → IfSome sent CanBeSent
each_sent (Some command) can = can command refl
each_sent None can = tt

-- the length of a command is the same whatever its number
abbrev pub HaveLengths : Type 0
HaveLengths = (command : Proactive) (number other : ℕ) → length (spelled command number) ≡ length (spelled command other)

third : (a b c d e : Bool) → (a && b && c && d && e) ≡ true → c ≡ true
third true true true d e is = refl
third true true false d e is = cc is
third true false c d e is = cc is
third false b c d e is = cc is

short_so : (at : Setting) (timers : Owners) (command : Proactive) → is_admitted at timers command ≡ true → is_short command ≡ true
short_so at timers command is =
    third (option_map_or (λ profile. allowed profile command) at.profile false) (not (is_cards_own command)) (is_short command) (is_within_rights timers at.shelf command) (not at.in_call) is

sent_short : (at : Setting) (timers : Owners) (does : Act) (command : Proactive) → IsProperAct does → admitted at timers does ≡ Some command → IsProper command × (is_short command ≡ true)
sent_short at timers (Send sent) command proper is =
    let so = cond_some (is_admitted at timers sent) sent command is in
    (subst IsProper so.1 proper.proper, subst (λ (c : Proactive). is_short c ≡ true) so.1 (short_so at timers sent so.0))
sent_short at timers Done command proper is = cc is
sent_short at timers (Keep bytes) command proper is = cc is
sent_short at timers (Register code) command proper is = cc is
sent_short at timers (Deregister code) command proper is = cc is
sent_short at timers TakeTimer command proper is = cc is
sent_short at timers (FreeTimer timer) command proper is = cc is
sent_short at timers (Answer allows) command proper is = cc is

fits_so : (n : ℕ) → nat_le n 255 ≡ true → n ≤ 255
fits_so n is = grind (arith, nat_tests, is)

sendable : (at : Setting) (timers : Owners) (does : Act) (command : Proactive) → HaveLengths → IsProperAct does → admitted at timers does ≡ Some command → CanBeSent command
sendable at timers does command lengths proper is =
    let so = sent_short at timers does command proper is in
    record { proper = so.0; short = λ number. omega (arith, lengths command number 0, fits_so (length (spelled command 0)) so.1) }

-- ---- states with some rows

with_state : (o : Option Persistent) (P Q : Persistent → Type 0) → ((s : Persistent) → P s → Q s) → IsSomeAnd o P → IsSomeAnd o Q
with_state None P Q then_so there = there
with_state (Some s) P Q then_so there = then_so s there

-- the states that the rest passes are among those that the whole passes
later_passes : (moved : Bool) (old mid new : Option Persistent) (rows after : List Registration) (rest : List (List Registration)) → HasRowsOf old rows → (moved ≡ false → after ≡ rows)
    → mid ≡ option_map (with_these_rows after) old → PassesOne mid new (with_each_rows rest) → PassesOne old new (with_each_rows (first_rows moved after ++ rest))
later_passes moved None mid new rows after rest has same is passes = cc
later_passes moved (Some state) mid new rows after rest has same is passes =
    let there : IsSomeAnd new (Contains (with_these_rows after state ∷ with_each_rows rest state)) = subst (λ (o : Option Persistent). PassesOne o new (with_each_rows rest)) is passes in
    by_commit moved same there
  where
    by_commit : (b : Bool) → (b ≡ false → after ≡ rows) → IsSomeAnd new (Contains (with_these_rows after state ∷ with_each_rows rest state)) → IsSomeAnd new (Contains (state ∷ with_each_rows (first_rows b after ++ rest) state))
    by_commit true same there =
        with_state new (Contains (with_these_rows after state ∷ with_each_rows rest state)) (Contains (state ∷ with_these_rows after state ∷ with_each_rows rest state))
        (λ s held. Contains-append_right (state ∷ []) (with_these_rows after state ∷ with_each_rows rest state) s held) there
    by_commit false same there =
        let unchanged : with_these_rows after state ≡ state = ap (λ (r : List Registration). with_these_rows r state) (same refl ∙ sym (has state refl)) in
        subst (λ (s : Persistent). IsSomeAnd new (Contains (s ∷ with_each_rows rest state))) unchanged there

-- the commit at which the rest stops is one of the whole
later_stops : (moved : Bool) (rows after : List Registration) (rest : List (List Registration)) (old mid new : Memory) → (moved ≡ false → after ≡ rows) → held mid ≡ option_map (with_these_rows after) (held old)
    → mid.commits ≡ raised_by (length (first_rows moved after)) old.commits → StopsAt (after ∷ rest) mid new → StopsAt (rows ∷ first_rows moved after ++ rest) old new
later_stops true rows after rest old mid new same is counted stop = stops_later (after ∷ []) rows after rest old mid new refl is counted stop
later_stops false rows after rest old mid new same is counted stop = stops_later [] rows after rest old mid new (ap (λ (r : List Registration). Some r) (sym (same refl))) is counted stop

-- the first commit stopped
first_passes : (old new : Option Persistent) (after : List Registration) (rest : List (List Registration)) → (new ≡ old) ⊎ (new ≡ option_map (with_these_rows after) old) → PassesOne old new (with_each_rows (after ∷ rest))
first_passes None new after rest either = cc
first_passes (Some state) new after rest either =
    ⊎_elim {C = IsSomeAnd new (Contains (state ∷ with_these_rows after state ∷ with_each_rows rest state))}
    (λ before. subst (λ (o : Option Persistent). IsSomeAnd o (Contains (state ∷ with_these_rows after state ∷ with_each_rows rest state))) (sym before) (0, omega arith, refl))
    (λ behind. subst (λ (o : Option Persistent). IsSomeAnd o (Contains (state ∷ with_these_rows after state ∷ with_each_rows rest state))) (sym behind) (1, omega arith, refl))
    either

-- ---- runs

module _ (at : Setting) (stimulus : Stimulus) (acts fuel : ℕ) (is_acts : acts ≡ suc fuel) (old : Stage) (does : Act) (mind : AppletState) (acted : does ≡ (act old.mind stimulus).does) (moved : mind ≡ (act old.mind stimulus).next) where
  -- the applet took its turn, and nothing else happened yet
  abbrev pub stepped : Stage
  stepped = record old { mind = mind }

  abbrev done : Carried
  done = carried at does (works_at stepped)

  abbrev rest_after : Option Stimulus → Ran
  rest_after tells = going_on done.works (admitted at old.timers does) (run_on fuel at) tells

  abbrev log_first : List Happening
  log_first = noted at stimulus does old.timers done

  run_is : run_on acts at stimulus (works_at old) ≡ logged log_first (rest_after done.tells)
  unfolding run_on
  run_is =
      ap (λ (n : ℕ). run_on n at stimulus (works_at old)) is_acts
      ∙ ap (λ (a : Act). carrying at stimulus a (record (works_at old) { mind = (act old.mind stimulus).next }) (run_on fuel at)) (sym acted)
      ∙ ap (λ (m : AppletState). carrying at stimulus does (record (works_at old) { mind = m }) (run_on fuel at)) (sym moved)

  rows_after : (rest : List Happening) → passed_rows (log_first ++ rest) ≡ passed_rows (committed at does done) ++ passed_rows rest
  rows_after rest = filter_map-append rows_in (committed at does done) rest

  run_so : (tells : Option Stimulus) → done.tells ≡ tells → run_on acts at stimulus (works_at old) ≡ logged log_first (rest_after tells)
  run_so tells is = run_is ∙ ap (λ (t : Option Stimulus). logged log_first (rest_after t)) is

  -- the run ended with the act
  module _ (new : Stage) (next : After) (out : IsCarriedOut at does stepped new next) (last : told_of next ≡ None) where
    ends_so : done.tells ≡ None
    ends_so = sym (tells_told done.tells (admitted at old.timers does)) ∙ ap told_of (sym out.next_is) ∙ last

    sent_so : sent_of next ≡ admitted at old.timers does
    sent_so = ap sent_of out.next_is ∙ sends_sent done.tells (admitted at old.timers does) ends_so

    -- what is sent can be sent
    pub can_be_sent : (command : Proactive) → next ≡ Sent command → HaveLengths → IsProperAct does → CanBeSent command
    can_be_sent command is lengths proper = sendable at old.timers does command lengths proper (sym sent_so ∙ ap sent_of is)

    pub ended : (ending : Ended) → ending.sent ≡ sent_of next → ending.answer ≡ answer_of does → IsRun (run_on acts at stimulus (works_at old)) old new ending
    ended ending sent answer =
        let is = run_so None ends_so in record {
          works_are = out.works_are ∙ sym (ap (λ (r : Ran). r.works) is);
          sent_is = sent ∙ sent_so ∙ sym (ap (λ (r : Ran). r.sent) is);
          answer_is = answer ∙ sym (answer_noted at stimulus does old.timers done []) ∙ sym (ap (λ (r : Ran). last_answer r.log) is);
          stands = out.stands;
          counts = subst (λ (rows : List (List Registration)). Counts rows old.memory new.memory) (sym (ap (λ (r : Ran). passed_rows r.log) is ∙ rows_after []))
              (counts_then (passed_rows (committed at does done)) [] old.memory new.memory new.memory out.counts (counts_none new.memory new.memory refl));
          writes = subst (λ (r : Ran). IsWritten r.log old.memory new.memory) (sym is) (writes_then log_first [] old.memory new.memory new.memory out.writes (writes_none [] new.memory new.memory refl refl));
        }

  -- a fault stopped the act
  pub stopped_at : (new : Stage) → HasRowsOf (held old.memory) (rows_of old.memory.table) → IsActStopped at does stepped new → IsCut (run_on acts at stimulus (works_at old)) old new
  stopped_at new has stop =
      let passed : passed_rows (run_on acts at stimulus (works_at old)).log ≡ done.works.rows ∷ passed_rows (rest_after done.tells).log =
      ap (λ (r : Ran). passed_rows r.log) run_is ∙ rows_noted at stimulus does old.timers done (rest_after done.tells).log
      ∙ ap (λ (b : Bool). first_rows b done.works.rows ++ passed_rows (rest_after done.tells).log) stop.is_commit in
      record {
        passes = subst (λ (rows : List (List Registration)). PassesOne (held old.memory) (held new.memory) (with_each_rows rows)) (sym passed) (first_passes (held old.memory) (held new.memory) done.works.rows (passed_rows (rest_after done.tells).log) stop.stands);
        stops = record {
          rows = subst (λ (rows : List (List Registration)). StopsAt ((rows_of old.memory.table) ∷ rows) old.memory new.memory) (sym passed) (record {
            place = 0;
            one_more = omega arith;
            table_is = sym (ap (λ (w : Works). w.rows) stop.works_are);
            stands = ⊎_elim {C = ((held new.memory) ≡ option_map (with_these_rows (rows_of old.memory.table)) (held old.memory)) ⊎ ((held new.memory) ≡ option_map (with_these_rows done.works.rows) (held old.memory))}
                (λ before. inl (before ∙ stands_still (held old.memory) (rows_of old.memory.table) has)) inr stop.stands;
            commits = stop.commits;
          });
          writes = subst (λ (r : Ran). IsPartlyWritten r.log old.memory new.memory) (sym run_is) (partly_first log_first (rest_after done.tells).log old.memory new.memory stop.writes);
        };
      }

  -- the run goes on
  module _ (mid new : Stage) (told : Stimulus) (out : IsCarriedOut at does stepped mid (Told told)) where
    goes_so : run_on acts at stimulus (works_at old) ≡ logged log_first (run_on fuel at told (works_at mid))
    goes_so =
        run_so (Some told) (sym (tells_told done.tells (admitted at old.timers does)) ∙ ap told_of (sym out.next_is))
        ∙ ap (λ (w : Works). logged log_first (run_on fuel at told w)) (sym out.works_are)

    rest : Ran
    rest = run_on fuel at told (works_at mid)

    pub went_on : (ending later : Ended) → IsRun (run_on fuel at told (works_at mid)) mid new later → ending.sent ≡ later.sent → ending.answer ≡ option_or later.answer (answer_of does) → IsRun (run_on acts at stimulus (works_at old)) old new ending
    went_on ending later run sent answer = record {
      works_are = run.works_are ∙ sym (ap (λ (r : Ran). r.works) goes_so);
      sent_is = sent ∙ run.sent_is ∙ sym (ap (λ (r : Ran). r.sent) goes_so);
      answer_is = answer ∙ ap (λ (a : Option Bool). option_or a (answer_of does)) run.answer_is ∙ sym (answer_noted at stimulus does old.timers done (run_on fuel at told (works_at mid)).log)
          ∙ sym (ap (λ (r : Ran). last_answer r.log) goes_so);
      stands = stands_then (held old.memory) (held mid.memory) (held new.memory) (rows_of mid.memory.table) (rows_of new.memory.table) out.stands run.stands;
      counts = subst (λ (rows : List (List Registration)). Counts rows old.memory new.memory) (sym (ap (λ (r : Ran). passed_rows r.log) goes_so ∙ rows_after (run_on fuel at told (works_at mid)).log))
          (counts_then (passed_rows (committed at does done)) (passed_rows (run_on fuel at told (works_at mid)).log) old.memory mid.memory new.memory out.counts run.counts);
      writes = subst (λ (r : Ran). IsWritten r.log old.memory new.memory) (sym goes_so) (writes_then log_first (run_on fuel at told (works_at mid)).log old.memory mid.memory new.memory out.writes run.writes);
    }

    pub cut_later : HasRowsOf (held old.memory) (rows_of old.memory.table) → IsCut (run_on fuel at told (works_at mid)) mid new → IsCut (run_on acts at stimulus (works_at old)) old new
    cut_later has cut =
        let later : List (List Registration) = passed_rows (run_on fuel at told (works_at mid)).log in
        let after : (rows_of mid.memory.table) ≡ done.works.rows = ap (λ (w : Works). w.rows) out.works_are in
        let same : done.is_committed ≡ false → (rows_of mid.memory.table) ≡ (rows_of old.memory.table) = λ is. after ∙ rests at does (works_at stepped) is in
        let passed : passed_rows (run_on acts at stimulus (works_at old)).log ≡ first_rows done.is_committed (rows_of mid.memory.table) ++ later =
        ap (λ (r : Ran). passed_rows r.log) goes_so ∙ rows_noted at stimulus does old.timers done (run_on fuel at told (works_at mid)).log
        ∙ ap (λ (rows : List Registration). first_rows done.is_committed rows ++ later) (sym after) in
        let counted : mid.memory.commits ≡ raised_by (length (first_rows done.is_committed (rows_of mid.memory.table))) old.memory.commits =
        out.counts.commits ∙ ap (λ (rows : List (List Registration)). raised_by (length rows) old.memory.commits) (rows_of_commit done.is_committed (change_by at.shelf does done.works.rows) done.works.rows ∙ ap (first_rows done.is_committed) (sym after)) in
        record {
          passes = subst (λ (rows : List (List Registration)). PassesOne (held old.memory) (held new.memory) (with_each_rows rows)) (sym passed)
              (later_passes done.is_committed (held old.memory) (held mid.memory) (held new.memory) (rows_of old.memory.table) (rows_of mid.memory.table) later has same out.stands cut.passes);
          stops = record {
            rows = subst (λ (rows : List (List Registration)). StopsAt ((rows_of old.memory.table) ∷ rows) old.memory new.memory) (sym passed)
                (later_stops done.is_committed (rows_of old.memory.table) (rows_of mid.memory.table) later old.memory mid.memory new.memory same out.stands counted cut.stops.rows);
            writes = subst (λ (r : Ran). IsPartlyWritten r.log old.memory new.memory) (sym goes_so)
                (partly_then log_first (run_on fuel at told (works_at mid)).log old.memory mid.memory new.memory out.writes out.counts.commits cut.stops.writes);
          };
        }

-- no act is left: the applet wakes
none_left : (at : Setting) (stimulus : Stimulus) (works : Works) → run_on zero at stimulus works ≡ record { works = awakened at.shelf works; sent = None; log = [] }
unfolding run_on
none_left at stimulus works = refl

pub woke : (at : Setting) (stimulus : Stimulus) (acts : ℕ) (old new : Stage) (ending : Ended) → acts ≡ 0 → HasRowsOf (held old.memory) (rows_of old.memory.table) → new.memory ≡ old.memory → works_at new ≡ awakened at.shelf (works_at old)
    → ending.sent ≡ None → ending.answer ≡ None → IsRun (run_on acts at stimulus (works_at old)) old new ending
woke at stimulus acts old new ending none has same works sent answer =
    let is = ap (λ (n : ℕ). run_on n at stimulus (works_at old)) none ∙ none_left at stimulus (works_at old) in record {
      works_are = works ∙ sym (ap (λ (r : Ran). r.works) is);
      sent_is = sent ∙ sym (ap (λ (r : Ran). r.sent) is);
      answer_is = answer ∙ sym (ap (λ (r : Ran). last_answer r.log) is);
      stands = ap (λ (m : Memory). held m) same ∙ stands_still (held old.memory) (rows_of old.memory.table) has ∙ ap (λ (w : Works). option_map (with_these_rows w.rows) (held old.memory)) (sym works);
      counts = subst (λ (rows : List (List Registration)). Counts rows old.memory new.memory) (sym (ap (λ (r : Ran). passed_rows r.log) is)) (counts_none old.memory new.memory same);
      writes = subst (λ (r : Ran). IsWritten r.log old.memory new.memory) (sym is) (writes_none [] old.memory new.memory refl same);
    }

-- a run that a fault stopped
pub cut_runs : (ran : Ran) (old new : Stage) (does : Act) (again : Result RunEnd StoreFault) → IsErr again → IsCut ran old new → RunsTo ran old new does again
cut_runs ran old new does (Ok ending) err cut = cc err
cut_runs ran old new does (Err fault) err cut = cut
