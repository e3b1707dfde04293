use Rattle.std.proofs.Common.{ap, ◌∙◌, set, option_map}
use Rattle.std.proofs.lemmas.List.{map-set}
use Rattle.applet_trait.specs.Minds.{minds_of}
use Rattle.card_core.proofs.toolkit.empty.Goals as goal

pub returns-then-from-boxes-clause-minds : goal.returns-then-from-boxes-clause-minds
returns-then-from-boxes-clause-minds g c =
    map-set (option_map g.B.Applet.mind) c.args.boxes.now c.from-then-from-boxes.result c.take-applet.new.self
    ∙ ap (λ box. set (minds_of g.B.Applet.mind c.args.boxes.now) c.from-then-from-boxes.result (option_map g.B.Applet.mind box)) c.take-applet.ensures.after
    ∙ ap (λ n. set (minds_of g.B.Applet.mind c.args.boxes.now) n _) c.from-then-from-boxes.ensures
