use Rattle.script_form.specs.Values.{identifier_bytes}
use Rattle.script_form.proofs.files.four_digits_of.Goals as goal

pub returns-in_err-bytes : goal.returns-in_err-bytes
returns-in_err-bytes c = rw c.from_residual.ensures (λ identifier is. c.in_err-bytes.ensures (identifier_bytes identifier) is)
