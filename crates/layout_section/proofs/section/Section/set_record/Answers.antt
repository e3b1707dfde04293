use Rattle.std.proofs.Common.{ℕ, ap, subst, sym, ◌∙◌}
use Rattle.card_state.specs.Persistent.{Persistent}
use Rattle.card_state.specs.Soundness.{mf}
use Rattle.card_state.specs.Sections.{file_at, rows_fit, RecordLine}
use Rattle.layout_section.specs.Adding.{AddsLine, file_numbered, with_record}
use Rattle.layout_section.specs.Describing.{described}
use Rattle.layout_section.proofs.AddsLemmas.{rewritten_total, follows_record}
use Rattle.layout_section.proofs.section.Section.set_record.Goals as goal

pub returns-in-Some : goal.returns-in-Some
returns-in-Some c =
    subst (λ (state : Persistent). AddsLine (RecordLine c.args.path.now c.args.number c.args.bytes.now) state c.set_record.result (described (record c.self.inside { files = c.set_record.new.self }))) c.self.view_is
    (follows_record c.self.inside.pins c.self.inside.rows.list c.self.inside.rows.next (file_at c.self.inside.files mf c.args.path.now) c.self.inside.files c.set_record.new.self c.in-Some.file c.args.number c.args.bytes.now c.set_record.result (sym c.are_of_line.ensures ∙ c.if-not-are_of_line.false) c.in-Some.ensures c.set_record.ensures)

pub invariant_of-self : goal.invariant_of-self
invariant_of-self c =
    ap (λ (n : ℕ). rows_fit c.self.inside.rows.list n)
    (rewritten_total c.self.inside.files c.set_record.new.self c.in-Some.file (with_record c.args.number c.args.bytes.now (file_numbered c.self.inside.files c.in-Some.file).contents) c.set_record.result c.set_record.ensures)
    ∙ c.self.invariant
