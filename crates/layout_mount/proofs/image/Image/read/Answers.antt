-- A read changes nothing, so the three ranges are of one content: the first bytes, the table (832 to 3,967), and what a wide card has after its
-- files (from 63,488 on).
use Rattle.std.proofs.Common.{◌≡◌, ℕ, List, ◌∙◌, arith, slice_range}
use Rattle.layout_mount.proofs.ImagesLemmas.{same_entries, same_told, length-whole}
use Rattle.layout_mount.proofs.image.Image.read.Goals as goal

pub returns-clause-image : goal.returns-clause-image
returns-clause-image g c =
    let first : List ℕ = c.read.new.out in
    let table : List ℕ = c.read-2.new.out in
    let upper : List ℕ = c.read-3.new.out in
    let a = c.in_ok-read.ensures.ok in
    let b = same_told _ _ (λ held. table ≡ slice_range held 832 3968) c.in_ok-read.ensures.keeps.stable c.in_ok-read-2.ensures.ok in
    let d = same_told _ _ (λ held. upper ≡ slice_range held 63488 65536) (c.in_ok-read-2.ensures.keeps.stable ∙ c.in_ok-read.ensures.keeps.stable) c.in_ok-read-3.ensures.ok in
    record {
      long = length-whole first table upper (omega arith) (omega arith) (omega arith);
      same = same_entries (g.S.Store.stable c.args.store.now) first table upper a b d (omega arith) (omega arith) (omega arith);
    }
