use Rattle.std.proofs.Common.{List, ℕ, length, ap, ◌∙◌, arith}
use Rattle.frame_store.proofs.KeptLemmas.{overwritten, overwritten_length}
use Rattle.frame_store.proofs.store.write.Goals as goal

pub returns-clause-written : goal.returns-clause-written
returns-clause-written c =
    let block = c.args.block.now in
    overwritten block.items c.args.bytes.now c.copy_from_slice.new.self c.args.at block.len block.ok.0 (omega (arith, block.ok.0, c.requires.in_bounds)) c.copy_from_slice.ensures.after

pub returns-clause-len : goal.returns-clause-len
returns-clause-len c =
    let block = c.args.block.now in
    let same = overwritten block.items c.args.bytes.now c.copy_from_slice.new.self c.args.at block.len block.ok.0 (omega (arith, block.ok.0, c.requires.in_bounds)) c.copy_from_slice.ensures.after in
    ap (λ (xs : List ℕ). length xs) same ∙ overwritten_length block.items c.args.bytes.now c.args.at c.requires.in_bounds
