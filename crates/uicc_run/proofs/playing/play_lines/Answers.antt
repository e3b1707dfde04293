use Rattle.std.proofs.Common.{Option, ap, arith, sym, subst, ◌∙◌}
use Rattle.std.proofs.lemmas.Bool.{false≢true}
use Rattle.uicc_types.specs.declared.answers.Answer.{Answer}
use Rattle.t0_link.specs.Linking.{LinkState}
use Rattle.run_steps.specs.Ends.{moment_at}
use Rattle.uicc_run.specs.Opening.{is_handset}
use Rattle.uicc_run.specs.BetweenLines.{IsPlaying}
use Rattle.uicc_run.proofs.playing.play_lines.Goals as goal

-- ---- the card

pub returns-in-Err-clause-played : goal.returns-in-Err-clause-played
returns-in-Err-clause-played g c = λ given first unserved playing.
    let begun = subst (λ (kept : Option Answer). IsPlaying given first c.args.script.now (g.R.Source.left c.args.source.now) kept (moment_at c.args.card.now (g.W.Sink.taken c.args.trace.now))) (sym (ap (λ (l : LinkState). l.kept) c.new-link.ensures)) playing in
    c.in-Err.ensures.played given first (c.loop-script.invariant.playing given first unserved begun)

pub loop-script-preserved-in_default : goal.loop-script-preserved-in_default
loop-script-preserved-in_default g c =
    let for_card = ap is_handset c.in-Card.is in
    record {
      playing = λ given first unserved playing. c.in_default.ensures.played given first (c.loop-script.invariant.playing given first unserved playing);
      serving = λ text opening given served serving. absurd (false≢true (sym for_card ∙ served));
      between = λ served. absurd (false≢true (sym for_card ∙ served));
      within = λ text within. c.play_line.ensures.within text (c.loop-script.invariant.within text within);
      kept = let before = c.loop-script.invariant.kept in let now = c.play_line.ensures.tallies.steps.kept in omega arith;
      no_failure = c.play_line.ensures.tallies.source_cause.no_failure (λ is. cc is) ∙ c.loop-script.invariant.no_failure;
      sink_kept = c.play_line.ensures.tallies.steps.sink.no_failure (λ is. cc is) ∙ c.loop-script.invariant.sink_kept;
      tells = c.play_line.ensures.tallies.steps.tells ∙ c.loop-script.invariant.tells;
    }

-- ---- a handset

pub returns-in-Err-serve_line-clause-served : goal.returns-in-Err-serve_line-clause-served
returns-in-Err-serve_line-clause-served g c = λ text opening given served serving. c.in-Err-serve_line.ensures.served text opening given (c.loop-script.invariant.serving text opening given served serving)

pub loop-script-preserved : goal.loop-script-preserved
loop-script-preserved g c =
    let for_handset = ap is_handset c.in-Handset.is in
    record {
      playing = λ given first unserved playing. absurd (false≢true (sym unserved ∙ for_handset));
      serving = λ text opening given served serving. c.in_default-serve_line.ensures.served text opening given (c.loop-script.invariant.serving text opening given served serving);
      between = λ served. c.in_default-serve_line.ensures.further.between;
      within = λ text within. c.serve_line.ensures.within text (c.loop-script.invariant.within text within);
      kept = let before = c.loop-script.invariant.kept in let now = c.serve_line.ensures.tallies.steps.kept in omega arith;
      no_failure = c.serve_line.ensures.tallies.source_cause.no_failure (λ is. cc is) ∙ c.loop-script.invariant.no_failure;
      sink_kept = c.serve_line.ensures.tallies.steps.sink.no_failure (λ is. cc is) ∙ c.loop-script.invariant.sink_kept;
      tells = c.serve_line.ensures.tallies.steps.tells ∙ c.loop-script.invariant.tells;
    }
