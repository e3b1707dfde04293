use Rattle.std.proofs.Common.{◌≡◌, ◌∙◌, nat_eq, ap₂}
use Rattle.std.specs.Cmp.Lexicographic.{pointwise}
use Rattle.card_state.specs.States.{rows_of}
use Rattle.proactive_handler.proofs.WantedLemmas.{list_known}
use Rattle.proactive_handler.proofs.wanting.is_list_known.Goals as goal

pub returns : goal.returns
returns c = λ is.
    let same_is : c.eq.result ≡ pointwise nat_eq c.events_for.result c.args.announced.now.events =
    c.eq.ensures ∙ ap₂ (pointwise nat_eq) c.as_slice.ensures.value (c.as_slice-2.ensures.value ∙ c.events.ensures) in
    list_known c.args.profile.now c.args.index.now (rows_of c.args.loaded.now) c.args.announced.now c.events_for.result c.eq.result c.requires
    c.events_for.ensures.value same_is is
