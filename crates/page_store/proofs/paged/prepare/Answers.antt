-- A read of nothing programs nothing; the first map takes its calls, where there is none; and then come those of the range.
use Rattle.std.proofs.Common.{◌+◌, ◌∙◌, length, ap, subst, arith, rules}
use Rattle.list_laws.proofs.IfSomeLemmas.{on_err}
use Rattle.uicc_types.specs.Counts.{raised_by}
use Rattle.update_journal.specs.Calls.{calls_at, MadeAtMost}
use Rattle.update_journal.proofs.CallsLemmas.{none_made, fewer, then_all, then_at_most}
use Rattle.page_store.specs.Calls.{calls_to_begin}
use Rattle.page_store.proofs.paged.prepare.Goals as goal

pub returns-in_err-read-clause-calls : goal.returns-in_err-read-clause-calls
returns-in_err-read-clause-calls g c = record { all = search rules; no_more = on_err c.from_residual.result (none_made (calls_to_begin c.args.known.now + calls_at c.args.at (length c.args.bytes.now)) (g.S.CountedStore.meter c.args.store.now).programs (g.S.CountedStore.meter c.read.new.self).programs c.in_err-read.ensures.calls) }

pub returns-in_err-table-clause-calls : goal.returns-in_err-table-clause-calls
returns-in_err-table-clause-calls g c = record {
  all = search rules;
  no_more =
      on_err c.from_residual-in_err-table.result (fewer (calls_to_begin c.args.known.now) (calls_to_begin c.args.known.now + calls_at c.args.at (length c.args.bytes.now)) (g.S.CountedStore.meter c.args.store.now).programs (g.S.CountedStore.meter c.take_table.new.store).programs (omega arith)
      (subst (λ n. MadeAtMost (calls_to_begin c.args.known.now) n (g.S.CountedStore.meter c.take_table.new.store).programs) c.in_ok-read.ensures.calls c.in_err-table.ensures.calls.no_more));
}

pub returns-in_err-prepare-clause-calls : goal.returns-in_err-prepare-clause-calls
returns-in_err-prepare-clause-calls g c =
    let begun = c.in_ok-table.ensures.calls.all ∙ ap (λ n. raised_by (calls_to_begin c.args.known.now) n) c.in_ok-read.ensures.calls in
    record {
      all = search rules;
      no_more =
          on_err c.from_residual-in_err-prepare.result (then_at_most (calls_to_begin c.args.known.now) (calls_at c.args.at (length c.args.bytes.now)) (g.S.CountedStore.meter c.args.store.now).programs (g.S.CountedStore.meter c.take_table.new.store).programs (g.S.CountedStore.meter c.prepare.new.store).programs begun
          c.in_err-prepare.ensures.calls.no_more);
    }

pub returns-clause-calls : goal.returns-clause-calls
returns-clause-calls g c =
    let begun = c.in_ok-table.ensures.calls.all ∙ ap (λ n. raised_by (calls_to_begin c.args.known.now) n) c.in_ok-read.ensures.calls in
    record {
      all = then_all (calls_to_begin c.args.known.now) (calls_at c.args.at (length c.args.bytes.now)) (g.S.CountedStore.meter c.args.store.now).programs (g.S.CountedStore.meter c.take_table.new.store).programs (g.S.CountedStore.meter c.prepare.new.store).programs begun
          c.in_ok-prepare.ensures.calls.all;
      no_more = search rules;
    }
