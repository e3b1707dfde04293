use Rattle.std.proofs.lemmas.List.Elements.{All-rest}
use Rattle.toolkit_model.specs.Sessions.{Sent}
use Rattle.toolkit_model.specs.Orderly.{CanBeSent}
use Rattle.event_dispatch.specs.WaitingCommands.{command_of}
use Rattle.proactive_handler.proofs.session.Session.put_front_out.Goals as goal

abbrev Sendable : Sent → Type 0
Sendable sent = CanBeSent sent.command

pub invariant_of-self : goal.invariant_of-self
invariant_of-self c =
    let taken = c.take_spelled in
    let first : Sent = record { shelf = taken.result.0.0; command = command_of taken.new.bytes } in
    record {
      sendable = All-rest Sendable first taken.new.self c.self.inside.waiting taken.ensures.first c.self.invariant.sendable;
      few = c.self.invariant.few;
    }
