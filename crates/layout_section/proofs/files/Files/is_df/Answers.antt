use Rattle.std.proofs.Common.{◌≡◌, ℕ, ◌<◌, List, length, take, get_or, ap, sym, ◌∙◌, arith, ◌==◌, length-take, get_or-take}
use Rattle.card_state.specs.declared.entries.Node.{Node}
use Rattle.card_state.specs.Kinds.{df_kind}
use Rattle.card_state.specs.Blank.{unused_node}
use Rattle.card_state.specs.Persistent.{File}
use Rattle.layout_section.specs.Adding.{file_numbered}
use Rattle.layout_section.proofs.FilingLemmas.{length-files, file_there}
use Rattle.layout_section.proofs.files.Files.is_df.Goals as goal

pub bounds-self-inside-from : goal.bounds-self-inside-from
bounds-self-inside-from c =
    omega (
      arith,
      length-take c.self.inside.count c.self.inside.nodes,
      length-files c.self.inside.bytes.items (take c.self.inside.count c.self.inside.nodes),
      ap (λ (files : List File). length files) c.self.view_is,
      c.self.invariant.few,
    )

pub returns : goal.returns
returns c =
    let used : List Node = take c.self.inside.count c.self.inside.nodes in
    let low : c.args.number < length used = omega (arith, length-files c.self.inside.bytes.items used, ap (λ (files : List File). length files) c.self.view_is, c.requires) in
    let same : c.from.result ≡ c.args.number = omega arith in
    sym (ap (λ (files : List File). (file_numbered files c.args.number).kind == df_kind) (sym c.self.view_is)
    ∙ ap (λ (file : File). file.kind == df_kind) (file_there c.self.inside.bytes.items used c.args.number unused_node low)
    ∙ ap (λ (node : Node). node.kind == df_kind) (get_or-take c.self.inside.count c.self.inside.nodes c.args.number unused_node (omega (arith, length-take c.self.inside.count c.self.inside.nodes)))
    ∙ ap (λ (n : ℕ). (get_or c.self.inside.nodes n unused_node).kind == df_kind) (sym same))
