use Rattle.std.proofs.Common.{arith, rules}
use Rattle.std.proofs.lemmas.List.{take-replicate}
use Rattle.std.proofs.lemmas.Result.{on_ok_weaker, on_err_weaker}
use Rattle.card_commits.proofs.FilledLemmas.{blank_put, blank_torn}
use Rattle.card_commits.proofs.prepared_pieces.fill_part.Goals as goal

pub returns : goal.returns
returns g c =
    let blank = take-replicate c.args.count 64 255 (omega (arith, c.requires.one_page)) in
    record {
      ok = on_ok_weaker c.prepare.result (λ put. blank_put c.args.at c.args.count _ _ _ blank put) c.prepare.ensures.writes.ok;
      torn = on_err_weaker c.prepare.result (λ left. blank_torn c.args.at c.args.count _ _ _ blank left) c.prepare.ensures.writes.torn;
      commits = c.prepare.ensures.writes.commits;
      keeps = search rules;
    }
