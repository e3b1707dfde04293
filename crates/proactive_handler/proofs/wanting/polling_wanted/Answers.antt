use Rattle.std.proofs.Common.{◌≡◌, sym, ◌∙◌, true, false, arith}
use Rattle.card_state.specs.States.{rows_of}
use Rattle.toolkit_commands.proofs.LengthsOfCommandsLemmas.{short_enough}
use Rattle.toolkit_commands.specs.declared.commands.Proactive.TheVariants.{PollInterval}
use Rattle.proactive_handler.proofs.WantedLemmas.{polls_already, polls_for_nobody, polls_now, sendable_if}
use Rattle.proactive_handler.proofs.wanting.polling_wanted.Goals as goal

pub returns-then-polls-clause-value : goal.returns-then-polls-clause-value
returns-then-polls-clause-value c = polls_already c.args.profile.now (rows_of c.args.loaded.now) c.args.announced.now (sym c.polls.ensures ∙ c.if-polls.true)

pub returns-then-not-is_heard-clause-value : goal.returns-then-not-is_heard-clause-value
returns-then-not-is_heard-clause-value c =
    let nobody : c.is_heard.result ≡ false = grind (arith, c.if-not-is_heard.true) in
    polls_for_nobody c.args.profile.now c.args.index.now (rows_of c.args.loaded.now) c.args.announced.now c.requires (sym c.is_heard.ensures ∙ nobody)

pub returns-clause-value : goal.returns-clause-value
returns-clause-value c =
    let somebody : c.is_heard.result ≡ true = grind (arith, c.if-not-is_heard.false) in
    c.if_allowed.ensures.value
    ∙ polls_now c.args.profile.now c.args.index.now (rows_of c.args.loaded.now) c.args.announced.now c.requires (sym c.polls.ensures ∙ c.if-polls.false) (sym c.is_heard.ensures ∙ somebody)

pub returns-clause-sendable : goal.returns-clause-sendable
returns-clause-sendable c =
    sendable_if c.if_allowed.result (PollInterval 30) c.if_allowed.ensures.same (record { proper = tt; short = λ number. short_enough (PollInterval 30) number tt })
