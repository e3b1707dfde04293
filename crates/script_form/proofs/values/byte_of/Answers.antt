use Rattle.std.proofs.Common.{[], ◌∷◌}
use Rattle.script_form.proofs.values.byte_of.Goals as goal

pub returns-in_err-byte : goal.returns-in_err-byte
returns-in_err-byte c = rw c.from_residual.ensures (λ byte is. c.in_err-byte.ensures (byte ∷ []) is)
