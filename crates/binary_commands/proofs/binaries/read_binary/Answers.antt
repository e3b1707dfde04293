use Rattle.uicc_types.specs.Counts.{raised, raised_by}
use Rattle.file_model.specs.Files.{descriptors_of}
use Rattle.binary_commands.specs.Reads.{access_reads}
use Rattle.binary_commands.proofs.OptionLemmas.{same_ok}
use Rattle.binary_commands.proofs.ReadsOnceLemmas.{at_most_once, not_granted, with_data}
use Rattle.binary_commands.proofs.binaries.read_binary.Goals as goal

pub returns-clause-refused : goal.returns-clause-refused
returns-clause-refused g c = λ status is.
    let refused = c.try_read.ensures.refused status is in
    (cc, c.settle.ensures.refused status (same_ok c.try_read.result _ _ c.in_ok-tried.was refused.0), refused.1)

pub returns-clause-asks : goal.returns-clause-asks
returns-clause-asks g c = λ file found.
    let asked = c.in_ok-tried.ensures.asks file found in
    let granted = raised_by (access_reads (descriptors_of c.args.loaded.now) file) (g.S.Store.reads c.args.store.now) in
    record {
      denied = λ is. not_granted c.in_ok-tried.tried granted (raised granted) (g.S.Store.reads c.try_read.new.store) c.try_read.new.out c.settle.new.out asked.refused c.settle.ensures.done c.in_ok-tried.ensures.usual is;
      served = with_data c.in_ok-tried.tried granted (raised granted) (g.S.Store.reads c.try_read.new.store) c.settle.new.out asked.done (λ status is. (c.settle.ensures.refused status is).body);
      most = at_most_once c.in_ok-tried.tried granted (raised granted) (g.S.Store.reads c.try_read.new.store) asked.done asked.refused;
    }
