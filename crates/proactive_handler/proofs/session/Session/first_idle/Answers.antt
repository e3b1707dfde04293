-- A trigger that is read from the queue at a place is the one that the session, as clauses see it, has there: so its applet is idle just
-- where the walk finds that.
use Rattle.std.proofs.Common.{◌≡◌, ◌<◌, ap, sym, ◌∙◌, subst, List, length, Some, arith, option_map, slice_get}
use Rattle.toolkit_model.specs.Sessions.{LateTrigger, SessionState}
use Rattle.toolkit_model.specs.Orderly.{asks}
use Rattle.toolkit_model.specs.Driving.{is_idle}
use Rattle.proactive_handler.proofs.FirstIdleLemmas.{one_more, shelf_there, stands, none_is}
use Rattle.proactive_handler.proofs.session.Session.first_idle.Goals as goal

pub returns-then-idle : goal.returns-then-idle
returns-then-idle c =
    let late_is : c.self.inside.late ≡ c.args.self.now.late = ap (λ (s : SessionState). s.late) c.self.view_is in
    let inside : c.loop-at.at < length c.args.self.now.late = omega (arith, c.loop-at-test.true, c.len-at-end.ensures, ap length late_is) in
    let got = shelf_there c.args.self.now.late c.loop-at.at c.shelf.result.0
    (subst (λ (late : List LateTrigger). option_map (λ trigger. trigger.shelf) (slice_get late c.loop-at.at) ≡ Some c.shelf.result.0) late_is c.shelf.ensures) in
    stands c.args.self.now c.loop-at.at got.0 c.loop-at.invariant inside got.1 (ap (is_idle (asks c.args.self.now)) got.2 ∙ sym c.idle.ensures ∙ c.if-idle.true)

pub loop-at-preserved : goal.loop-at-preserved
loop-at-preserved c =
    let late_is : c.self.inside.late ≡ c.args.self.now.late = ap (λ (s : SessionState). s.late) c.self.view_is in
    let got = shelf_there c.args.self.now.late c.loop-at.at c.shelf.result.0
    (subst (λ (late : List LateTrigger). option_map (λ trigger. trigger.shelf) (slice_get late c.loop-at.at) ≡ Some c.shelf.result.0) late_is c.shelf.ensures) in
    one_more (asks c.args.self.now) c.args.self.now.late c.loop-at.at got.0 c.loop-at.invariant got.1 (ap (is_idle (asks c.args.self.now)) got.2 ∙ sym c.idle.ensures ∙ c.if-idle.false)

pub returns : goal.returns
returns c =
    let late_is : c.self.inside.late ≡ c.args.self.now.late = ap (λ (s : SessionState). s.late) c.self.view_is in
    none_is (asks c.args.self.now) c.args.self.now.late
    (λ k low d inside. c.loop-at.invariant k (omega (arith, low, c.loop-at-test.false, c.len-at-end.ensures, ap length late_is)) d inside)
