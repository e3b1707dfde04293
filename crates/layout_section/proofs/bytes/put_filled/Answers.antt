use Rattle.std.proofs.Common.{ℕ, ◌+◌, ◌-◌, List, length, replicate, refl, ap, ◌∙◌, arith}
use Rattle.std.proofs.lemmas.List.{length-replicate}
use Rattle.list_laws.specs.Patches.{patched}
use Rattle.list_laws.proofs.PatchesLemmas.{patched-patched}
use Rattle.layout_section.proofs.bytes.put_filled.Goals as goal

pub returns : goal.returns
returns c =
    c.blank.ensures ∙ ap (λ (l : List ℕ). patched (c.args.at + length c.args.part.now) (replicate (c.args.width - length c.args.part.now) 255) l) c.put.ensures
    ∙ patched-patched c.args.at (c.args.at + length c.args.part.now) c.args.part.now (replicate (c.args.width - length c.args.part.now) 255) c.args.bytes.now refl
    (omega (arith, length-replicate {A = ℕ} (c.args.width - length c.args.part.now) 255, c.requires.part, c.requires.inside))
