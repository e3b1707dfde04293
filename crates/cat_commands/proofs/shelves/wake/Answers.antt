use Rattle.std.proofs.Common.{sym, subst, ◌<◌, length, ◌∙◌, None, get_or-set_other}
use Rattle.applet_trait.specs.Minds.{fresh}
use Rattle.cat_commands.proofs.WakeLemmas.{woken_there}
use Rattle.cat_commands.proofs.shelves.wake.Goals as goal

pub returns-clause-minds : goal.returns-clause-minds
returns-clause-minds g c =
    woken_there g.B.Applet.mind c.args.cast.now c.from.result c.args.shelf.0 c.from.ensures c.index-cast-from.result (subst (λ n. n < length c.args.cast.now) (sym c.from.ensures) c.requires) c.wake_in.new.place (λ mind. fresh mind.kind c.args.kept.now) c.wake_in.ensures

pub returns-clause-others : goal.returns-clause-others
returns-clause-others g c = λ other apart. get_or-set_other c.args.cast.now c.from.result other _ None (λ same. apart (same ∙ c.from.ensures))
