use Rattle.std.proofs.Common.{◌≡◌, ◌<◌, ◌≤◌, ◌-◌, ℕ, List, sym, ap, subst, ◌∙◌, [], length, drop, arith}
use Rattle.std.proofs.lemmas.List.{length-map, length-drop, length-take}
use Rattle.toolkit_commands.proofs.RenumberedLemmas.{eight_at_least}
use Rattle.event_dispatch.specs.WaitingCommands.{IsCommandFrame, command_in, sent_in}
use Rattle.event_dispatch.proofs.waiting.Waiting.first_spelled.Goals as goal

pub renumber-details-requires-clause-whole : goal.renumber-details-requires-clause-whole
renumber-details-requires-clause-whole c =
    let parts = c.self.inside.frames.parts in let frame = c.get-frame.result.now in
    let count : length parts ≡ length c.args.self.now = sym (length-map parts sent_in) ∙ ap length c.self.view_is in
    let some : 0 < length parts = omega (arith, count, c.requires) in
    let is : IsCommandFrame frame = subst IsCommandFrame (sym c.get-frame.ensures) (c.self.invariant.2 0 [] some) in
    let eight : 8 ≤ length (drop 1 frame) = subst (λ (bytes : List ℕ). 8 ≤ length bytes) (sym is.spelled_is) (eight_at_least (command_in frame) 1) in
    let rest : length (drop 1 frame) ≡ length frame - 1 = length-drop 1 frame in
    omega (arith, eight, rest, length-take (length frame - 1) (drop 1 frame))
