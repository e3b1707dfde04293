use Rattle.std.proofs.Common.{◌≡◌, ◌+◌, true, length, subst, IfSome, slice_range}
use Rattle.std.proofs.lemmas.Bool.{and_parts}
use Rattle.update_journal.specs.Journal.{Journaled, is_settled}
use Rattle.update_journal.proofs.IsUnderWayLemmas.{read_stable}
use Rattle.update_journal.proofs.journal.JournalStore.read.Goals as goal

pub returns-in-Ok-clause-ok : goal.returns-in-Ok-clause-ok
returns-in-Ok-clause-ok g c =
    let seen_of : Journaled g.row.E.Denot → Type 0 = λ journal. IfSome (g.E.Eeprom.contents journal.device) (λ held. c.read.new.out ≡ slice_range held c.args.at (c.args.at + length c.args.out.now)) in
    let settled : is_settled (g.E.Eeprom.contents c.args.self.now.device) ≡ true = (and_parts c.args.self.now.is_ready (is_settled (g.E.Eeprom.contents c.args.self.now.device)) c.requires.recovered).1 in
    read_stable c.args.at (length c.args.out.now) (g.E.Eeprom.byte_count c.args.self.now.device) (g.E.Eeprom.contents c.args.self.now.device) c.read.new.out
    (g.met.E.Eeprom.told_length c.args.self.now.device) settled c.requires.usable (subst seen_of c.self.view_is c.in-Ok.ensures.ok)
