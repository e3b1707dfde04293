-- Bytes that are kept change no codes, so an index of the rows stays one; after a fault the rows are the old ones or those of the act.
use Rattle.std.proofs.Common.{refl, sym, ap, ◌∙◌, ℕ, List, arith}
use Rattle.std.proofs.lemmas.Bool.Decides.{nat_tests}
use Rattle.card_state.specs.Changes.{PutKept}
use Rattle.card_state.specs.Changing.{with_kept_committed}
use Rattle.card_state.specs.Memory.{memory}
use Rattle.card_state.specs.Persistent.{Registration}
use Rattle.card_state.specs.States.{rows_of}
use Rattle.card_commits.specs.Rows.{rows_alone}
use Rattle.applet_trait.specs.declared.stimuli.Stimulus.TheVariants.{Refused}
use Rattle.applet_trait.specs.declared.stimuli.Act.TheVariants.{Keep}
use Rattle.toolkit_model.specs.Registry.{with_kept}
use Rattle.event_dispatch.proofs.CommitsLemmas.{keeps_bytes}
use Rattle.proactive_handler.proofs.StandsForLemmas.{kept_follows, rows_alone_differ}
use Rattle.proactive_handler.proofs.CarriedLemmas.{keep_goes, keep_fails}
use Rattle.proactive_handler.proofs.HasRowOnLemmas.{rows_stay, rows_as_before}
use Rattle.proactive_handler.proofs.WithTheseRowsLemmas.{keeps, rests_so, commit_stands, commit_stops}
use Rattle.proactive_handler.proofs.RowsAreListedLemmas.{rows_listed}
use Rattle.proactive_handler.proofs.changes.keep.Goals as goal

pub returns-then-bytes-gt-MOST_KEPT-clause-carries : goal.returns-then-bytes-gt-MOST_KEPT-clause-carries
returns-then-bytes-gt-MOST_KEPT-clause-carries g c = λ at timers mind here.
    rests_so c.tables_tell_states.ensures (memory g.S.Store c.args.store.now c.args.loaded.now) c.requires.mounted.agrees at (Keep c.args.bytes.now) timers mind Refused (keep_fails at _ c.args.shelf.0 here c.args.bytes.now (grind (arith, nat_tests)))

pub returns-in_err-keep_bytes-clause-carries : goal.returns-in_err-keep_bytes-clause-carries
returns-in_err-keep_bytes-clause-carries g c = λ at timers mind here.
    commit_stops c.tables_tell_states.ensures (memory g.S.Store c.args.store.now c.args.loaded.now) c.requires.mounted.agrees at (Keep c.args.bytes.now) timers mind (with_kept_committed c.args.shelf.0 c.args.bytes.now) (λ (rows : List Registration). with_kept rows c.args.shelf.0 c.args.bytes.now) (keeps c.args.shelf.0 c.args.bytes.now) (keep_goes at _ c.args.shelf.0 here c.args.bytes.now (grind (arith, nat_tests))) (PutKept c.args.shelf.0 c.args.bytes.now) (ap (λ (n : ℕ). PutKept n c.args.bytes.now) (sym here)) (memory g.S.Store c.keep_bytes.new.store c.keep_bytes.new.loaded) c.from_residual.result c.from_residual.ensures.0 c.in_err-keep_bytes.ensures.kept c.in_err-keep_bytes.ensures.committed.whole c.in_err-keep_bytes.ensures.committed.commits c.in_err-keep_bytes.ensures.writes.whole

pub returns-in_err-keep_bytes-clause-table : goal.returns-in_err-keep_bytes-clause-table
returns-in_err-keep_bytes-clause-table g c = rows_alone_differ c.args.loaded.now c.keep_bytes.new.loaded c.args.loaded.now.rows c.in_err-keep_bytes.ensures.kept

pub returns-clause-carries : goal.returns-clause-carries
returns-clause-carries g c = λ at timers mind here.
    commit_stands c.tables_tell_states.ensures (memory g.S.Store c.args.store.now c.args.loaded.now) c.requires.mounted.agrees at (Keep c.args.bytes.now) timers mind (with_kept_committed c.args.shelf.0 c.args.bytes.now) (λ (rows : List Registration). with_kept rows c.args.shelf.0 c.args.bytes.now) (keeps c.args.shelf.0 c.args.bytes.now) (keep_goes at _ c.args.shelf.0 here c.args.bytes.now (grind (arith, nat_tests))) (PutKept c.args.shelf.0 c.args.bytes.now) (ap (λ (n : ℕ). PutKept n c.args.bytes.now) (sym here)) (memory g.S.Store c.keep_bytes.new.store c.keep_bytes.new.loaded) c.in_ok-keep_bytes.ensures.committed.ok c.in_ok-keep_bytes.ensures.committed.commits c.in_ok-keep_bytes.ensures.writes.ok
    (c.in_ok-keep_bytes.ensures.rows ∙ keeps_bytes (rows_alone c.args.loaded.now) c.args.shelf.0 c.args.bytes.now)

pub returns-clause-table : goal.returns-clause-table
returns-clause-table g c = rows_alone_differ c.args.loaded.now c.keep_bytes.new.loaded _ c.in_ok-keep_bytes.ensures.table

pub returns-clause-rows_stay : goal.returns-clause-rows_stay
returns-clause-rows_stay g c = rows_stay c.args.loaded.now c.keep_bytes.new.loaded c.args.shelf.0 _ c.in_ok-keep_bytes.ensures.table c.requires.row refl

pub returns-in_err-keep_bytes-clause-rows_stay : goal.returns-in_err-keep_bytes-clause-rows_stay
returns-in_err-keep_bytes-clause-rows_stay g c = rows_as_before c.args.loaded.now c.keep_bytes.new.loaded c.in_err-keep_bytes.ensures.kept

pub returns-clause-indexed : goal.returns-clause-indexed
returns-clause-indexed g c = kept_follows (rows_of c.args.loaded.now) (rows_of c.keep_bytes.new.loaded) c.args.shelf.0 (rows_listed _ _ c.args.loaded.now c.requires.mounted.agrees) c.args.bytes.now
    (c.in_ok-keep_bytes.ensures.rows ∙ keeps_bytes (rows_alone c.args.loaded.now) c.args.shelf.0 c.args.bytes.now)
