use Rattle.std.proofs.Common.{ap, sym, subst, ◌∙◌, ℕ, List, map, remove, All}
use Rattle.list_laws.proofs.EditLemmas.{map-remove}
use Rattle.frame_store.specs.Model.{Frames}
use Rattle.toolkit_model.specs.Sessions.{LateTrigger}
use Rattle.event_dispatch.specs.Frames.{IsTriggerFrame, trigger_in}
use Rattle.event_dispatch.proofs.FramesLemmas.{All-remove}
use Rattle.event_dispatch.proofs.late.Late.take.Goals as goal

pub invariant_of-self : goal.invariant_of-self
invariant_of-self c =
    let old = c.self.inside.frames in let left = c.remove.ensures in (
      ap (λ (f : Frames). f.most) left ∙ c.self.invariant.0,
      ap (λ (f : Frames). f.room) left ∙ c.self.invariant.1,
      subst (λ (parts : List (List ℕ)). All IsTriggerFrame parts) (sym (ap (λ (f : Frames). f.parts) left)) (All-remove IsTriggerFrame old.parts c.args.at c.self.invariant.2),
    )

pub returns-clause-others : goal.returns-clause-others
returns-clause-others c =
    ap (λ (f : Frames). map trigger_in f.parts) c.remove.ensures ∙ map-remove trigger_in c.self.inside.frames.parts c.args.at
    ∙ ap (λ (triggers : List LateTrigger). remove triggers c.args.at) c.self.view_is
