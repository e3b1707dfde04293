use Rattle.std.proofs.Common.{◌∙◌, ap, Err}
use Rattle.unit_trials.proofs.stored.Stored.mount.Goals as goal

pub invariant_of-self-in-Err-NotACard : goal.invariant_of-self-in-Err-NotACard
invariant_of-self-in-Err-NotACard g c =
    let none = c.mount.ensures.no_card c.in-Err-NotACard.at (c.in-Err-NotACard.is ∙ ap Err c.in-Err-NotACard.field-0-is) in
    (c.mount.ensures.reads.size ∙ c.self.invariant.0, λ set. none.ready)
