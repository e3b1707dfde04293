-- A word that is too short or too long stands for no bytes.
use Rattle.std.proofs.Common.{◌≡◌, ◌*◌, length, arith}
use Rattle.script_form.proofs.IsHexLemmas.{length-hex}
use Rattle.script_form.proofs.values.read_bytes.Goals as goal
use Rattle.script_form.proofs.values.read_bytes.Goals.{then-count-eq0-via-then-count-eq0, then-count-eq0-via-else-count-eq0+then-count}

pub returns-then-count-eq0 : goal.returns-then-count-eq0
returns-then-count-eq0 g c = λ bytes hex.
    let twice : length c.args.word.now ≡ 2 * length bytes = length-hex g.row.N c.args.word.now bytes hex in
    elim c.then-count-eq0.branch [
      | then-count-eq0-via-then-count-eq0 w ↦ absurd (omega (arith, twice, hex.some, w.if-count-eq0.true))
      | then-count-eq0-via-else-count-eq0+then-count w ↦ absurd (omega (arith, twice, hex.fits, w.if-count.true))
    ]
