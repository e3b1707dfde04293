use Rattle.std.proofs.Common.{◌∙◌}
use Rattle.bip_runs.proofs.serving.serve_lines.Goals as goal

pub returns-in-Err-clause-comes : goal.returns-in-Err-clause-comes
returns-in-Err-clause-comes g c = λ text before serving. c.in-Err.ensures.served text before (c.loop-end.invariant.serving text before serving)

pub loop-end-preserved : goal.loop-end-preserved
loop-end-preserved g c = record {
  serving = λ text before serving. c.in_default.ensures.served text before (c.loop-end.invariant.serving text before serving);
  within = λ text within. c.serve_line.ensures.within text (c.loop-end.invariant.within text within);
  no_failure = c.serve_line.ensures.source_cause.no_failure (λ is. cc is) ∙ c.loop-end.invariant.no_failure;
  sink_kept = c.serve_line.ensures.sink_cause.no_failure (λ is. cc is) ∙ c.loop-end.invariant.sink_kept;
  tells = c.serve_line.ensures.tells ∙ c.loop-end.invariant.tells;
}
