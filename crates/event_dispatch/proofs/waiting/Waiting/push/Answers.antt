use Rattle.std.proofs.Common.{◌≡◌, ◌≤◌, ◌<◌, ◌+◌, false, true, ap, sym, subst, ◌∙◌, ℕ, List, [], ◌∷◌, ◌++◌, map, length, All, arith, ap₂}
use Rattle.std.proofs.lemmas.List.{length-map, map-append}
use Rattle.std.proofs.lemmas.List.Elements.{All-append}
use Rattle.frame_store.specs.Model.{Frames, bytes_in}
use Rattle.toolkit_model.specs.Sessions.{Sent}
use Rattle.event_dispatch.specs.WaitingCommands.{IsCommandFrame, sent_in}
use Rattle.event_dispatch.proofs.WaitingCommandsLemmas.{few_command_bytes, frame_is, sent_is, All-one}
use Rattle.event_dispatch.proofs.waiting.Waiting.push.Goals as goal

pub unreachable-requires : goal.unreachable-requires
unreachable-requires c =
    let old = c.self.inside.frames in
    let count : length old.parts ≡ length c.args.self.now = sym (length-map old.parts sent_in) ∙ ap length c.self.view_is in
    let fewer : length old.parts < old.most = omega (arith, count, c.requires.room, c.self.invariant.0) in
    let fits : bytes_in old.parts + length c.as_slice.result.now ≤ old.room = omega (arith, few_command_bytes old.parts c.self.invariant.2, count, c.requires.room, c.as_slice.ensures.fits, c.self.invariant.1) in
    let bad : false ≡ true = c.in-Err.ensures.room.1 (fewer, fits) in
    grind (arith, bad)

pub invariant_of-self : goal.invariant_of-self
invariant_of-self c =
    let old = c.self.inside.frames in let part = c.as_slice.result.now in let ok = c.in-Ok.ensures.ok in
    let shape = c.as_slice.ensures.value ∙ c.frame_of.ensures.value in
    let framed : IsCommandFrame part = subst IsCommandFrame (sym shape) (frame_is c.args.shelf.0 c.args.command.now c.requires.sendable c.frame_of.ensures.read) in (
      ap (λ (f : Frames). f.most) ok ∙ c.self.invariant.0,
      ap (λ (f : Frames). f.room) ok ∙ c.self.invariant.1,
      subst (λ (parts : List (List ℕ)). All IsCommandFrame parts) (sym (ap (λ (f : Frames). f.parts) ok))
          (All-append IsCommandFrame old.parts (part ∷ []) c.self.invariant.2 (All-one IsCommandFrame part framed)),
    )

pub returns : goal.returns
returns c =
    let old = c.self.inside.frames in let part = c.as_slice.result.now in
    let shape = c.as_slice.ensures.value ∙ c.frame_of.ensures.value in
    ap (λ (f : Frames). map sent_in f.parts) c.in-Ok.ensures.ok ∙ map-append sent_in old.parts (part ∷ [])
    ∙ ap₂ (λ (before : List Sent) (one : Sent). before ++ one ∷ []) c.self.view_is (ap sent_in shape ∙ sent_is c.args.shelf.0 c.args.command.now c.frame_of.ensures.read)
