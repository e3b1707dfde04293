-- Words that ask for a run have it, and others are refused.
use Rattle.std.proofs.Common.{◌≡◌, refl, map, string_bytes}
use Rattle.uicc_run.specs.Worlds.{world}
use Rattle.uicc_run.proofs.RunningLemmas.{refused}
use Rattle.uicc_run.proofs.running.run.Goals as goal

pub run_for-requires : goal.run_for-requires
run_for-requires g c = record { fits = record { size = c.requires.fits.size c.in-Some.asked c.in-Some.ensures.so; shelves = c.requires.fits.shelves } }

pub returns-in-Some : goal.returns-in-Some
returns-in-Some g c = c.run_for.ensures (map string_bytes c.args.words.now) c.in-Some.ensures

pub returns-in-None : goal.returns-in-None
returns-in-None g c =
    let before = world g.R.Source g.W.Sink g.E.Eeprom g.B.Applet c.args.script.now c.args.trace.now c.args.eeprom c.args.cast.items in
    refused (c.args.script.now ≡ c.args.script.now) (c.args.eeprom ≡ c.args.eeprom) (c.args.cast.items ≡ c.args.cast.items) (map string_bytes c.args.words.now) c.close.result before (g.W.Sink.taken c.close.new.trace) (g.W.Sink.faults c.close.new.trace)
    refl refl refl (λ asks. c.in-None.ensures asks.0 asks.1) c.close.ensures.closed c.close.ensures.status c.close.ensures.cause
