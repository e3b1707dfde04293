use Rattle.std.proofs.Common.{ℕ, ap, subst, sym, ◌∙◌}
use Rattle.card_state.specs.Persistent.{Persistent}
use Rattle.card_state.specs.Soundness.{mf}
use Rattle.card_state.specs.Sections.{file_at, rows_fit, FillLine}
use Rattle.layout_section.specs.Adding.{AddsLine, file_numbered, filled}
use Rattle.layout_section.specs.Describing.{described}
use Rattle.layout_section.proofs.AddsLemmas.{rewritten_total, follows_fill}
use Rattle.layout_section.proofs.section.Section.fill.Goals as goal

pub returns-in-Some : goal.returns-in-Some
returns-in-Some c =
    subst (λ (state : Persistent). AddsLine (FillLine c.args.path.now c.args.offset c.args.bytes.now) state c.fill.result (described (record c.self.inside { files = c.fill.new.self }))) c.self.view_is
    (follows_fill c.self.inside.pins c.self.inside.rows.list c.self.inside.rows.next (file_at c.self.inside.files mf c.args.path.now) c.self.inside.files c.fill.new.self c.in-Some.number c.args.offset c.args.bytes.now c.fill.result (sym c.are_of_line.ensures ∙ c.if-not-are_of_line.false) c.in-Some.ensures c.fill.ensures)

pub invariant_of-self : goal.invariant_of-self
invariant_of-self c =
    ap (λ (n : ℕ). rows_fit c.self.inside.rows.list n)
    (rewritten_total c.self.inside.files c.fill.new.self c.in-Some.number (filled c.args.offset c.args.bytes.now (file_numbered c.self.inside.files c.in-Some.number).contents) c.fill.result c.fill.ensures)
    ∙ c.self.invariant
