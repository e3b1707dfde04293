use Rattle.std.proofs.Common.{arith, rules, ℕ, ◌∙◌}
use Rattle.std.proofs.lemmas.List.{length-replicate, length-set}
use Rattle.page_store.proofs.IsNamingLemmas.{entry_read, entries_read}
use Rattle.page_store.proofs.tables.entries.Goals as goal

pub loop-k-init : goal.loop-k-init
loop-k-init c = record { long = length-replicate {A = ℕ} 1011 0; read = λ i low. absurd (omega arith) }

pub loop-k-preserved : goal.loop-k-preserved
loop-k-preserved c = record {
  long = length-set c.loop-k.entries c.loop-k.k c.from_be_bytes.result ∙ c.loop-k.invariant.long;
  read = entry_read c.args.bytes.now c.loop-k.entries c.loop-k.k c.from_be_bytes.result (omega (arith, c.loop-k.invariant.long)) c.loop-k.invariant.read (search rules);
}

pub returns : goal.returns
returns c = entries_read c.args.bytes.now c.loop-k.entries c.loop-k.invariant.long (λ i low. c.loop-k.invariant.read i (omega (arith, c.loop-k-test.false)))
