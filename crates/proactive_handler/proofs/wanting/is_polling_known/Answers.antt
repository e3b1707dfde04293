use Rattle.std.proofs.Common.{◌≡◌, false, sym, ◌∙◌, arith}
use Rattle.card_state.specs.States.{rows_of}
use Rattle.proactive_handler.proofs.WantedLemmas.{polls_for_nobody}
use Rattle.proactive_handler.proofs.wanting.is_polling_known.Goals as goal

pub returns-else-polls : goal.returns-else-polls
returns-else-polls c = λ is.
    let nobody : c.is_heard.result ≡ false = grind (arith, is) in
    polls_for_nobody c.args.profile.now c.args.index.now (rows_of c.args.loaded.now) c.args.announced.now c.requires (sym c.is_heard.ensures ∙ nobody)
