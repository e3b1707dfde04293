use Rattle.std.proofs.Common.{List, take, ap, sym, ◌∙◌, ◌&&◌, ◌==◌}
use Rattle.std.specs.List.{list_any}
use Rattle.card_state.specs.Kinds.{is_ef_kind}
use Rattle.card_state.specs.Persistent.{File}
use Rattle.layout_section.proofs.FilingLemmas.{short_is}
use Rattle.layout_section.proofs.files.Files.has_short.Goals as goal

pub returns : goal.returns
returns c =
    c.some_has_short.ensures ∙ sym (short_is c.self.inside.bytes.items (take c.self.inside.count c.self.inside.nodes) c.args.df c.args.short)
    ∙ ap (λ (files : List File). list_any (λ file. is_ef_kind file.kind && file.parent == c.args.df && file.short == c.args.short) files) c.self.view_is
