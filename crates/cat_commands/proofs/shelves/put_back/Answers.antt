use Rattle.std.proofs.Common.{ap, ◌∙◌, set, None, option_map}
use Rattle.std.proofs.lemmas.List.{map-set, get_or-set_other}
use Rattle.applet_trait.specs.Minds.{minds_of}
use Rattle.cat_commands.proofs.shelves.put_back.Goals as goal

pub returns-clause-minds : goal.returns-clause-minds
returns-clause-minds g c =
    map-set (option_map g.B.Applet.mind) c.args.cast.now c.from.result c.args.applet
    ∙ ap (λ n. set (minds_of g.B.Applet.mind c.args.cast.now) n (option_map g.B.Applet.mind c.args.applet)) c.from.ensures

pub returns-clause-others : goal.returns-clause-others
returns-clause-others g c = λ other apart. get_or-set_other c.args.cast.now c.from.result other _ None (λ same. apart (same ∙ c.from.ensures))
