use Rattle.std.proofs.Common.{◌≡◌, ◌++◌, ◌-◌, List, length, replicate, Option, None, ◌∙◌, ap, sym, subst, OnOk, IfErr}
use Rattle.std.proofs.lemmas.List.{with_items_is}
use Rattle.std.proofs.lemmas.Result.{on_ok_weaker}
use Rattle.card_state.specs.States.{rows_of}
use Rattle.card_state.specs.Memory.{memory}
use Rattle.layout_mount.specs.Mounted.{unread}
use Rattle.applet_trait.specs.Minds.{AppletState, minds_of}
use Rattle.toolkit_model.specs.Commands.{woken_boxes}
use Rattle.card_core.specs.Starts.{Opens, Refuses, recoveries_at}
use Rattle.card_core.specs.Openings.{with_all_shelves}
use Rattle.card_core.proofs.IsOpenedLemmas.{minds_filled}
use Rattle.card_core.proofs.OpensLemmas.{one_asked}
use Rattle.card_core.proofs.opening.begin.Goals as goal

pub returns-in-Ok-clause-opens : goal.returns-in-Ok-clause-opens
returns-in-Ok-clause-opens g c =
    let filled : minds_of g.B.Applet.mind c.deref_mut.result.now ≡ with_all_shelves (minds_of g.B.Applet.mind c.args.boxes.now.items) =
    ap (minds_of g.B.Applet.mind) (c.deref_mut.ensures.value ∙ c.in-Ok.ensures.ok ∙ ap (λ (list : List (Option g.row.B.Denot)). c.args.boxes.now.items ++ replicate (32 - length list) None) c.as_slice.ensures.value) ∙ minds_filled g.B.Applet.mind c.args.boxes.now.items in
    subst (λ (boxes : List (Option AppletState)). OnOk c.start_and_wake.result (Opens (unread g.S.Store c.args.store.now) (memory g.S.Store c.start_and_wake.new.store c.start_and_wake.new.loaded) boxes)) filled c.start_and_wake.ensures.opens

pub returns-in-Ok-clause-woke : goal.returns-in-Ok-clause-woke
returns-in-Ok-clause-woke g c =
    let filled : minds_of g.B.Applet.mind c.deref_mut.result.now ≡ with_all_shelves (minds_of g.B.Applet.mind c.args.boxes.now.items) =
    ap (minds_of g.B.Applet.mind) (c.deref_mut.ensures.value ∙ c.in-Ok.ensures.ok ∙ ap (λ (list : List (Option g.row.B.Denot)). c.args.boxes.now.items ++ replicate (32 - length list) None) c.as_slice.ensures.value) ∙ minds_filled g.B.Applet.mind c.args.boxes.now.items in
    on_ok_weaker c.start_and_wake.result
    (λ woke.
    ap (minds_of g.B.Applet.mind) (with_items_is c.add_shelves.new.boxes c.start_and_wake.new.boxes (c.start_and_wake.auto.boxes ∙ c.deref_mut.ensures.len)) ∙ woke
    ∙ ap (woken_boxes (rows_of c.start_and_wake.new.loaded)) filled)
    c.start_and_wake.ensures.woke

pub returns-in-Ok-clause-refuses : goal.returns-in-Ok-clause-refuses
returns-in-Ok-clause-refuses g c =
    let filled : minds_of g.B.Applet.mind c.deref_mut.result.now ≡ with_all_shelves (minds_of g.B.Applet.mind c.args.boxes.now.items) =
    ap (minds_of g.B.Applet.mind) (c.deref_mut.ensures.value ∙ c.in-Ok.ensures.ok ∙ ap (λ (list : List (Option g.row.B.Denot)). c.args.boxes.now.items ++ replicate (32 - length list) None) c.as_slice.ensures.value) ∙ minds_filled g.B.Applet.mind c.args.boxes.now.items in
    subst (λ (boxes : List (Option AppletState)). IfErr c.start_and_wake.result (Refuses (unread g.S.Store c.args.store.now) (unread g.S.Store c.start_and_wake.new.store) boxes)) filled c.start_and_wake.ensures.refuses

pub returns-in-Ok-clause-recovers : goal.returns-in-Ok-clause-recovers
returns-in-Ok-clause-recovers g c = c.start_and_wake.ensures.recovers ∙ one_asked c.start_and_wake.result (g.S.Store.recoveries c.args.store.now) c.start_and_wake.ensures.no_memory

pub returns-in-Err-clause-recovers : goal.returns-in-Err-clause-recovers
returns-in-Err-clause-recovers g c = sym (ap (λ fault. recoveries_at fault (g.S.Store.recoveries c.args.store.now)) c.in-Err.ensures.memory)
