use Rattle.std.proofs.Common.{◌≡◌, length, arith}
use Rattle.std.proofs.lemmas.Grind.{common_steps}
use Rattle.list_laws.proofs.IfSomeLemmas.{if_some, if_some_at}
use Rattle.card_state.specs.Memory.{held_by}
use Rattle.file_model.specs.Holdings.{bytes_in}
use Rattle.binary_commands.proofs.binaries.read_part.Goals as goal

pub returns-clause-read : goal.returns-clause-read
returns-clause-read g c =
    if_some (held_by g.S.Store c.args.store.now) _ (λ state is.
    let whole : length (bytes_in state c.args.file.now.number) ≡ c.args.file.now.size =
    c.contents_are_whole.ensures.bytes (g.S.Store.store_mark c.args.store.now) (g.S.Store.stable c.args.store.now) c.args.loaded.now state c.args.file.now.number c.args.file.now c.requires.mounted.agrees is c.requires.file.numbered c.requires.file.kind in
    let read = if_some_at (held_by g.S.Store c.args.store.now) _ state c.in_ok-read_bytes.ensures.read is in
    grind (arith, common_steps, whole, read))
