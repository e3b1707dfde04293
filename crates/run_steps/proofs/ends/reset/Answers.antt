use Rattle.std.proofs.Common.{rules}
use Rattle.card_core.specs.Cards.{parts_of}
use Rattle.run_steps.proofs.SendsLemmas.{resets_failed, resets_off, resets_on}
use Rattle.run_steps.proofs.ends.reset.Goals as goal

pub returns-in-Ok-clause-takes : goal.returns-in-Ok-clause-takes
returns-in-Ok-clause-takes g c = search (rules, resets_on)

pub returns-in-Err-PowerLost-clause-takes : goal.returns-in-Err-PowerLost-clause-takes
returns-in-Err-PowerLost-clause-takes g c = search (rules, resets_off)

pub returns-in-Err-Failed-clause-takes : goal.returns-in-Err-Failed-clause-takes
returns-in-Err-Failed-clause-takes g c = record {
  resets = λ old is. resets_failed (parts_of g.S.Store g.B.Applet c.args.card.now) (parts_of g.S.Store g.B.Applet c.reset.new.self) old is c.reset.ensures.restarted;
  counted = search rules;
  on = search rules;
  off = search rules;
  failed = search rules;
  kept = search rules;
}
