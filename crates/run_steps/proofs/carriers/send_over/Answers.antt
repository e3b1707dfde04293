use Rattle.t0_link.specs.Linking.{Linked}
use Rattle.run_steps.proofs.ComesLemmas.{came_over}
use Rattle.run_steps.proofs.carriers.send_over.Goals as goal

pub returns-clause-comes : goal.returns-clause-comes
returns-clause-comes g c =
    let left : Linked = record { answer = c.command.new.out; kept = c.command.new.self.kept } in
    came_over c.args.end.now c.command.new.card c.args.apdu.now c.link_changes_no_step.ensures.steps c.is_ready.ensures c.are_bytes.ensures c.requires
    c.args.link.now.kept c.command.result left c.command.ensures.moves
