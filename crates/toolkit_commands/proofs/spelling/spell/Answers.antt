use Rattle.std.proofs.Common.{◌≡◌, ◌≤◌, length, ap, ◌∙◌, arith}
use Rattle.std.proofs.lemmas.Grind.{common_steps}
use Rattle.std.proofs.lemmas.Bool.{false≢true}
use Rattle.std.proofs.lemmas.Result.{err_from_is_err_and}
use Rattle.comprehension_tlv.specs.Writing.{spellings}
use Rattle.toolkit_commands.specs.Reading.{proactive_of}
use Rattle.toolkit_commands.proofs.SpelledLemmas.{spelled_is_read}
use Rattle.toolkit_commands.specs.Table.{objects_of_command, spelled}
use Rattle.toolkit_commands.proofs.SpellingsLemmas.{length-tagged}
use Rattle.toolkit_commands.proofs.spelling.spell.Goals as goal

pub returns-in_err-put_command-clause-room : goal.returns-in_err-put_command-clause-room
returns-in_err-put_command-clause-room c =
    let p = err_from_is_err_and c.from_residual.result c.from_residual.ensures.1 in
    let longer = length-tagged 0xD0 (spellings (objects_of_command c.args.command.now c.args.number)) in
    let over = rw c.new-objects.ensures at c.in_err-put_command.ensures.put in
    rw p.1 (λ h. absurd (false≢true h), λ fits. absurd (omega arith))

pub returns-clause-read_back : goal.returns-clause-read_back
returns-clause-read_back c = λ proper.
    let command = c.args.command.now in
    let bytes : c.finish_into.new.bytes ≡ spelled command c.args.number = grind (arith, common_steps) in
    let short : length (spelled command c.args.number) ≤ 255 = grind (arith, common_steps) in
    ap proactive_of bytes ∙ spelled_is_read command c.args.number proper c.in_ok-put_command.ensures.bounded (omega (arith, short))
