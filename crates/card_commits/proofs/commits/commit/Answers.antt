use Rattle.std.proofs.Common.{◌∙◌}
use Rattle.std.proofs.lemmas.Result.{on_ok_weaker, on_err_weaker}
use Rattle.card_commits.proofs.CommittedLemmas.{on_ok_both, state_after, mounted_after, state_either}
use Rattle.card_commits.proofs.commits.commit.Goals as goal

pub returns : goal.returns
returns g c = record {
  committed = λ table change commits. record {
    ok =
        on_ok_weaker c.commit.result
        (λ is. state_after _ _ _ _ c.args.loaded.now table c.args.writes.now change c.requires.mounted.agrees c.commit.ensures.keeps.mark commits c.stores_stand.ensures.written is)
        c.commit.ensures.writes.ok;
    whole =
        on_err_weaker c.commit.result
        (λ how. state_either _ _ _ _ c.args.loaded.now table c.args.writes.now change c.requires.mounted.agrees c.commit.ensures.keeps.mark commits c.stores_stand.ensures.fault how)
        c.commit.ensures.writes.whole;
    commits = c.commit.ensures.writes.commits;
    keeps = record {
      mounted =
          on_ok_weaker c.commit.result
          (λ both. mounted_after _ _ _ _ c.args.loaded.now table c.args.writes.now change c.requires.mounted.agrees c.commit.ensures.keeps.mark commits c.stores_stand.ensures.written both.0 _ _ _ _ _ _ both.1
          (c.commit.ensures.keeps.size ∙ c.requires.mounted.size_is))
          (on_ok_both _ _ c.commit.result c.commit.ensures.writes.ok c.commit.ensures.ready);
      told = c.commit.ensures.keeps.told;
      size = c.commit.ensures.keeps.size;
      mark = c.commit.ensures.keeps.mark;
      recoveries = c.commit.ensures.asked.recoveries;
      cause = c.commit.ensures.cause;
    };
  };
  pieces = record { ok = c.commit.ensures.writes.ok; whole = c.commit.ensures.writes.whole };
}
