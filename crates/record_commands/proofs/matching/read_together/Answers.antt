use Rattle.std.proofs.Common.{◌≡◌, ◌*◌, ℕ, length, ap, ◌∙◌, arith}
use Rattle.std.proofs.lemmas.Result.{on_ok_weaker}
use Rattle.list_laws.proofs.IfSomeLemmas.{if_some, if_some_at}
use Rattle.card_state.specs.Memory.{held_by}
use Rattle.file_model.specs.Files.{descriptors_of}
use Rattle.record_commands.proofs.NumbersLeftLemmas.{alone, in_file, several_read}
use Rattle.record_commands.proofs.matching.read_together.Goals as goal

pub read_records-requires-clause-file : goal.read_records-requires-clause-file
read_records-requires-clause-file g c =
    rw c.requires.target.of.numbered (
      omega (arith, c.if-file-eq-LINEAR.true),
      omega (arith, c.requires.long, in_file c.args.first c.args.count c.args.file.now.count c.args.file.now.width c.requires.target.of.from c.requires.target.to),
    )

pub read_into-requires-clause-width : goal.read_into-requires-clause-width
read_into-requires-clause-width g c =
    let one : c.args.count ≡ 1 = alone c.args.count c.args.file.now.kind c.requires.target.some c.requires.target.in_a_row (λ is. absurd (omega (arith, is, c.if-file-eq-LINEAR.false))) in
    let same : 1 * c.args.file.now.width ≡ c.args.file.now.width = omega arith in
    c.requires.long ∙ ap (λ (n : ℕ). n * c.args.file.now.width) one ∙ same

pub returns-then-file-eq-LINEAR-clause-read : goal.returns-then-file-eq-LINEAR-clause-read
returns-then-file-eq-LINEAR-clause-read g c =
    let long : length c.read_records.new.out ≡ c.args.count * c.args.file.now.width = omega (arith, c.requires.long, c.read_records.auto.out) in
    on_ok_weaker c.read_records.result
    (λ told.
    if_some (held_by g.S.Store c.args.store.now) _ (λ state is.
    several_read state (descriptors_of c.args.loaded.now) c.args.file.now c.args.first c.args.count c.read_records.new.out c.requires.target.of.numbered c.requires.target.of.from long
    (if_some_at (held_by g.S.Store c.args.store.now) _ state told is)))
    c.read_records.ensures.read
