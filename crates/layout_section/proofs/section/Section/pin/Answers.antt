use Rattle.std.proofs.Common.{List, subst}
use Rattle.card_state.specs.Persistent.{Pin, Persistent}
use Rattle.card_state.specs.Sections.{with_pin, PinLine}
use Rattle.layout_section.specs.Adding.{AddsLine, new_pin, is_new_pin}
use Rattle.layout_section.specs.Describing.{described}
use Rattle.layout_section.proofs.AddsLemmas.{follows_change}
use Rattle.layout_section.proofs.section.Section.pin.Goals as goal

pub returns : goal.returns
returns c =
    let pin : Pin = new_pin c.args.key c.args.value.0 c.args.enabled c.args.unblock.0 in
    subst (λ (state : Persistent). AddsLine (PinLine c.args.key c.args.value.0 c.args.enabled c.args.unblock.0) state c.add.result (described (record c.self.inside { pins = c.add.new.self }))) c.self.view_is
    (follows_change (λ (pins : List Pin). described (record c.self.inside { pins = pins })) (is_new_pin c.self.inside.pins pin) (with_pin c.self.inside.pins pin) c.self.inside.pins c.add.new.self c.add.result c.add.ensures)
