-- Over moving pages as over the journal, what is said of the store is led to its device, by whose bytes the memory is told.
use Rattle.std.proofs.Common.{◌≡◌, ap, ◌∙◌}
use Rattle.uicc_run.specs.Making.{CarriesOut}
use Rattle.uicc_run.specs.Stores.{mark_of}
use Rattle.uicc_run.specs.Worlds.{inside, world}
use Rattle.uicc_run.proofs.RunningLemmas.{comes_to, runs_so}
use Rattle.uicc_run.proofs.StoresLemmas.{of_device}
use Rattle.uicc_run.proofs.running.run_for.Goals as goal

pub returns-then-asked : goal.returns-then-asked
returns-then-asked g c = λ words is.
    let begun = λ (device : g.row.E.Denot). world g.R.Source g.W.Sink g.E.Eeprom g.B.Applet c.args.script.now c.args.trace.now device c.args.cast.items in
    let put = λ (device : g.row.E.Denot). world g.R.Source g.W.Sink g.E.Eeprom g.B.Applet c.carry_out-ending.new.script c.carry_out-ending.new.trace device c.carry_out-ending.result.2.items in
    let device = ap (λ s. s.device) c.new-store.ensures in
    runs_so words c.carry_out-ending.result.0 c.close.result (begun c.args.eeprom) (put c.into_device.result) (g.W.Sink.taken c.close.new.trace) (g.W.Sink.faults c.close.new.trace)
    (comes_to words c.args.asked is c.carry_out-ending.result.0 (begun c.args.eeprom) (put c.into_device.result) (λ same. c.into_device.ensures.device ∙ ap (λ s. s.device) same ∙ device)
    (of_device (λ p old new. CarriesOut c.args.asked.mode (mark_of p) (mark_of p) c.carry_out-ending.result.0 (inside p (begun old)) (inside p (put new)) (c.carry_out-ending.new.script ≡ c.args.script.now) (c.carry_out-ending.new.trace ≡ c.args.trace.now) (c.carry_out-ending.result.1 ≡ c.new-store.result) (c.carry_out-ending.result.2.items ≡ c.args.cast.items))
    _ _ _ _ _ _ c.if-asked.true device c.into_device.ensures.device c.carry_out-ending.ensures)) (ap g.W.Sink.taken) c.close.ensures.closed c.close.ensures.status c.close.ensures.cause

pub returns-else-asked : goal.returns-else-asked
returns-else-asked g c = λ words is.
    let begun = λ (device : g.row.E.Denot). world g.R.Source g.W.Sink g.E.Eeprom g.B.Applet c.args.script.now c.args.trace.now device c.args.cast.items in
    let put = λ (device : g.row.E.Denot). world g.R.Source g.W.Sink g.E.Eeprom g.B.Applet c.carry_out-ending-else-asked.new.script c.carry_out-ending-else-asked.new.trace device c.carry_out-ending-else-asked.result.2.items in
    let device = ap (λ s. s.device) c.new-store-else-asked.ensures in
    runs_so words c.carry_out-ending-else-asked.result.0 c.close-else-asked.result (begun c.args.eeprom) (put c.into_device-else-asked.result) (g.W.Sink.taken c.close-else-asked.new.trace) (g.W.Sink.faults c.close-else-asked.new.trace)
    (comes_to words c.args.asked is c.carry_out-ending-else-asked.result.0 (begun c.args.eeprom) (put c.into_device-else-asked.result) (λ same. c.into_device-else-asked.ensures.device ∙ ap (λ s. s.device) same ∙ device)
    (of_device (λ p old new. CarriesOut c.args.asked.mode (mark_of p) (mark_of p) c.carry_out-ending-else-asked.result.0 (inside p (begun old)) (inside p (put new)) (c.carry_out-ending-else-asked.new.script ≡ c.args.script.now) (c.carry_out-ending-else-asked.new.trace ≡ c.args.trace.now) (c.carry_out-ending-else-asked.result.1 ≡ c.new-store-else-asked.result) (c.carry_out-ending-else-asked.result.2.items ≡ c.args.cast.items))
    _ _ _ _ _ _ c.if-asked.false device c.into_device-else-asked.ensures.device c.carry_out-ending-else-asked.ensures)) (ap g.W.Sink.taken) c.close-else-asked.ensures.closed c.close-else-asked.ensures.status c.close-else-asked.ensures.cause
