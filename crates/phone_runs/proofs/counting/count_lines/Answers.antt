use Rattle.std.proofs.Common.{ℕ, List, Some, sym, subst}
use Rattle.run_steps.specs.Ends.{moment_at}
use Rattle.long_runs.specs.LoadLines.{made_lines}
use Rattle.long_runs.proofs.CountLemmas.{counts_are_those}
use Rattle.phone_runs.specs.Playing.{Begins}
use Rattle.phone_runs.proofs.LoadRunsLemmas.{counts_run, fails_at_start, starts_loading}
use Rattle.phone_runs.proofs.counting.count_lines.Goals as goal

pub returns-in-Ok-serve_all-clause-counts : goal.returns-in-Ok-serve_all-clause-counts
returns-in-Ok-serve_all-clause-counts g c = λ given none began.
    let begins = subst (λ (text : List ℕ). Begins given (moment_at c.args.card.now (Some text))) (sym c.new-sink.ensures) began in
    let made = made_lines c.args.start c.args.count in
    let loading = starts_loading made c.new-lines.result given c.start_phone.new.phone _ c.new-lines.ensures.lines (c.in-Ok.ensures.starts given begins) in
    record {
      taken = Some c.serve_all.new.sink;
      waiting = c.serve_all.new.card.waiting;
      gives = counts_run counts_are_those made given c.serve_all.new.phone c.serve_all.new.card.parts c.serve_all.new.sink c.serve_all.new.card.waiting c.counts.result none c.counts.ensures
          (c.in-Ok-serve_all.ensures.served made given loading);
    }

pub returns-in-Err-clause-counts : goal.returns-in-Err-clause-counts
returns-in-Err-clause-counts g c = λ given none began.
    let begins = subst (λ (text : List ℕ). Begins given (moment_at c.args.card.now (Some text))) (sym c.new-sink.ensures) began in
    let made = made_lines c.args.start c.args.count in
    let loading = starts_loading made c.new-lines.result given c.start_phone.new.phone _ c.new-lines.ensures.lines (c.in-Ok.ensures.starts given begins) in
    record { taken = Some c.serve_all.new.sink; waiting = c.serve_all.new.card.waiting; gives = c.in-Err.ensures.served made given loading }

pub returns-in-Err-ResetFailed-clause-counts : goal.returns-in-Err-ResetFailed-clause-counts
returns-in-Err-ResetFailed-clause-counts g c = λ given none began.
    let begins = subst (λ (text : List ℕ). Begins given (moment_at c.args.card.now (Some text))) (sym c.new-sink.ensures) began in
    let starts = rw c.in-Err-ResetFailed.field-0-is at c.in-Err-ResetFailed.ensures.starts in
    record { taken = Some c.start_phone.new.trace; waiting = c.start_phone.new.card.waiting; gives = fails_at_start (made_lines c.args.start c.args.count) given _ (starts given begins) }
