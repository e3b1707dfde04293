-- After a fault the card is the one due, and all but power stays as perform left it; no command answers 6581 of itself.
use Rattle.std.proofs.Common.{◌≡◌, ◌⊎◌, ℕ, arith, rules, length, Option, true, refl, sym, ◌∙◌, ap, subst, Err, inl, inr, Ok, IfSome, IsSomeAnd}
use Rattle.std.proofs.lemmas.Bool.{false≢true}
use Rattle.std.proofs.lemmas.Result.{on_ok_weaker}
use Rattle.list_laws.proofs.IfSomeLemmas.{on_err}
use Rattle.uicc_types.specs.Counts.{raised, raised_by}
use Rattle.uicc_types.specs.declared.answers.StatusWord.{StatusWord}
use Rattle.file_model.specs.Files.{descriptors_of}
use Rattle.binary_commands.specs.Reads.{access_reads}
use Rattle.card_commits.specs.Performing.{CommitsAtMost}
use Rattle.card_model.specs.States.{CardState}
use Rattle.card_model.specs.Answers.{passed, answer}
use Rattle.card_model.specs.Runs.{IsLeft}
use Rattle.card_core.specs.AnyStore.{MovesItsOwn}
use Rattle.card_core.specs.Cards.{parts_of, card_of, held_by, IsCardReady}
use Rattle.card_core.specs.Moves.{StopsAt}
use Rattle.card_core.specs.Writing.{StopsWriting}
use Rattle.card_core.proofs.StopsAtLemmas.{all_commits}
use Rattle.card_core.proofs.RestartLemmas.{due_same, failed_ready, fail_power, not_lost}
use Rattle.card_core.proofs.IsGoodLemmas.{fail_moves}
use Rattle.card_core.proofs.CommandNamedLemmas.{failed_first, ok_not_err}
use Rattle.card_core.proofs.MovesItsOwnLemmas.{still_its_own, refused_anew, left_alone}
use Rattle.card_core.proofs.ActsAsLemmas.{acts_named}
use Rattle.card_core.proofs.ActsOnLemmas.{answers_told, answers_stood, commits_told, commits_stood, calm_told, calm_stood}
use Rattle.card_core.proofs.CommitsStatesLemmas.{if_any, stops_unmoved}
use Rattle.card_core.proofs.WritingLemmas.{still_cut}
use Rattle.card_core.proofs.cards.CardOver.transmit.Goals as goal

pub returns-in-Err-clause-moves : goal.returns-in-Err-clause-moves
returns-in-Err-clause-moves g c =
    let now_due = ap (λ card. card_of (parts_of g.S.Store g.B.Applet card)) c.fail.ensures.others ∙ due_same (parts_of g.S.Store g.B.Applet c.perform.new.self) _ refl refl refl refl refl in
    fail_moves tt c.in-Err.fault c.fail.result (card_of (parts_of g.S.Store g.B.Applet c.args.self.now)) (card_of (parts_of g.S.Store g.B.Applet c.fail.new.self)) c.args.apdu.now c.fail.new.out
    c.fail.ensures.failed c.fail.ensures.lost (c.fail.ensures.data ∙ c.in-Err.ensures.answered.empty)
    (subst (λ (due : Option CardState). IfSome (card_of (parts_of g.S.Store g.B.Applet c.args.self.now)) (λ card. IsSomeAnd due (IsLeft card (passed card c.args.apdu.now)))) (sym now_due) c.in-Err.ensures.answered.comes)

pub returns-in-Err-clause-ready : goal.returns-in-Err-clause-ready
returns-in-Err-clause-ready g c =
    subst (λ card. IsCardReady (parts_of g.S.Store g.B.Applet card)) (sym c.fail.ensures.others)
    (failed_ready (parts_of g.S.Store g.B.Applet c.perform.new.self) c.fail.new.self.is_on c.perform.ensures.rests.set
    (fail_power c.in-Err.fault c.fail.new.self.is_on _ c.fail.ensures.off (λ failed. c.in-Err.ensures.rests.cause.power_kept (not_lost c.in-Err.fault _ refl failed) ∙ c.requires.ready.power c.if-not-self.false))
    c.in-Err.ensures.good.left)

pub returns-in-Ok-clause-performs : goal.returns-in-Ok-clause-performs
returns-in-Ok-clause-performs g c = record {
  at_once = λ on rests.
      let acts = c.in-Ok.ensures.acts rests in
      let does = acts_named {X = Unit} (Ok c.in-Ok.field-0) (parts_of g.S.Store g.B.Applet c.args.self.now) (parts_of g.S.Store g.B.Applet c.perform.new.self) c.args.apdu.now c.perform.new.out acts in
      record {
        refused = λ status refused. (let gives = acts.refused status refused in (refl, gives.1, gives.2));
        answers = λ card instruction may named needs other. answers_told {X = Unit} (Ok c.in-Ok.field-0) instruction _ (parts_of g.S.Store g.B.Applet c.args.self.now) (parts_of g.S.Store g.B.Applet c.perform.new.self) c.args.apdu.now c.perform.new.out _ (does instruction named) card may needs;
        trees = λ card instruction may named of_tree other. answers_stood {X = Unit} (Ok c.in-Ok.field-0) instruction _ (parts_of g.S.Store g.B.Applet c.args.self.now) (parts_of g.S.Store g.B.Applet c.perform.new.self) c.args.apdu.now c.perform.new.out _ (does instruction named) card may of_tree;
        commits = λ card instruction may named by.
            let so = commits_told {X = Unit} (Ok c.in-Ok.field-0) instruction _ (parts_of g.S.Store g.B.Applet c.args.self.now) (parts_of g.S.Store g.B.Applet c.perform.new.self) c.args.apdu.now c.perform.new.out _ (does instruction named) card may by in
            (λ other. so, all_commits (length (answer card c.args.apdu.now).commits) _ _ so);
        commits_trees = λ card instruction may named of_tree.
            let so = commits_stood {X = Unit} (Ok c.in-Ok.field-0) instruction _ (parts_of g.S.Store g.B.Applet c.args.self.now) (parts_of g.S.Store g.B.Applet c.perform.new.self) c.args.apdu.now c.perform.new.out _ (does instruction named) card may of_tree in
            (λ other. so, all_commits (length (answer card c.args.apdu.now).commits) _ _ so);
        done = λ card instruction may named leaves. (refl, (λ is. c.in-Ok.ensures.answered.usual (ap (λ (word : StatusWord). word.0) is)));
        calm = λ card instruction may named reaches none. (refl, (λ is. c.in-Ok.ensures.answered.usual (ap (λ (word : StatusWord). word.0) is)));
        calm_trees = λ card instruction may named of_tree none. (refl, (λ is. c.in-Ok.ensures.answered.usual (ap (λ (word : StatusWord). word.0) is)));
        denied = λ instruction command status read named refused. (refl, ((acts.acts instruction command read named).denied status refused).1);
        stays = λ instruction command read named. (acts.acts instruction command read named).moves;
        stopped = inl (refl, (λ is. c.in-Ok.ensures.answered.usual (ap (λ (word : StatusWord). word.0) is)));
      };
  after_restart = λ due. record {
    refused = λ status named other. refused_anew (parts_of g.S.Store g.B.Applet c.args.self.now) (parts_of g.S.Store g.B.Applet c.perform.new.self) c.args.apdu.now c.perform.new.out status (c.in-Ok.ensures.anew due) named;
    acts = λ other. c.in-Ok.ensures.anew due;
  };
  untouched = left_alone (parts_of g.S.Store g.B.Applet c.args.self.now) c.args.apdu.now _ c.if-not-self.false c.perform.ensures.untouched;
}

pub returns-in-Err-clause-performs : goal.returns-in-Err-clause-performs
returns-in-Err-clause-performs g c = record {
  at_once = λ on rests.
      let acts = c.in-Err.ensures.acts rests in
      let does = acts_named {X = Unit} (Err c.in-Err.fault) (parts_of g.S.Store g.B.Applet c.args.self.now) (parts_of g.S.Store g.B.Applet c.perform.new.self) c.args.apdu.now c.perform.new.out acts in
      record {
        refused = λ status refused. absurd (false≢true (acts.refused status refused).0);
        answers = λ card instruction may named needs. failed_first _ c.in-Err.fault c.fail.result c.fail.new.out.status c.fail.ensures.failed c.fail.ensures.lost;
        trees = λ card instruction may named of_tree. failed_first _ c.in-Err.fault c.fail.result c.fail.new.out.status c.fail.ensures.failed c.fail.ensures.lost;
        commits = λ card instruction may named by. (
          failed_first _ c.in-Err.fault c.fail.result c.fail.new.out.status c.fail.ensures.failed c.fail.ensures.lost,
          subst (λ each. CommitsAtMost (length (answer card c.args.apdu.now).commits) (parts_of g.S.Store g.B.Applet c.args.self.now).commits (parts_of g.S.Store g.B.Applet each).commits) (sym c.fail.ensures.others)
              (commits_told {X = Unit} (Err c.in-Err.fault) instruction _ (parts_of g.S.Store g.B.Applet c.args.self.now) (parts_of g.S.Store g.B.Applet c.perform.new.self) c.args.apdu.now c.perform.new.out _ (does instruction named) card may by),
        );
        commits_trees = λ card instruction may named of_tree. (
          failed_first _ c.in-Err.fault c.fail.result c.fail.new.out.status c.fail.ensures.failed c.fail.ensures.lost,
          subst (λ each. CommitsAtMost (length (answer card c.args.apdu.now).commits) (parts_of g.S.Store g.B.Applet c.args.self.now).commits (parts_of g.S.Store g.B.Applet each).commits) (sym c.fail.ensures.others)
              (commits_stood {X = Unit} (Err c.in-Err.fault) instruction _ (parts_of g.S.Store g.B.Applet c.args.self.now) (parts_of g.S.Store g.B.Applet c.perform.new.self) c.args.apdu.now c.perform.new.out _ (does instruction named) card may of_tree),
        );
        done = λ card instruction may named leaves. absurd (false≢true ((does instruction named).done leaves));
        calm = λ card instruction may named reaches none.
            absurd (false≢true (calm_told {X = Unit} (Err c.in-Err.fault) instruction _ (parts_of g.S.Store g.B.Applet c.args.self.now) (parts_of g.S.Store g.B.Applet c.perform.new.self) c.args.apdu.now c.perform.new.out _ (does instruction named) card may reaches none));
        calm_trees = λ card instruction may named of_tree none.
            absurd (false≢true (calm_stood {X = Unit} (Err c.in-Err.fault) instruction _ (parts_of g.S.Store g.B.Applet c.args.self.now) (parts_of g.S.Store g.B.Applet c.perform.new.self) c.args.apdu.now c.perform.new.out _ (does instruction named) card may of_tree none));
        denied = λ instruction command status read named refused. absurd (false≢true ((acts.acts instruction command read named).denied status refused).0);
        stays = λ instruction command read named.
            subst (λ card. MovesItsOwn instruction command (parts_of g.S.Store g.B.Applet c.args.self.now) (parts_of g.S.Store g.B.Applet card)) (sym c.fail.ensures.others)
            (still_its_own instruction command (parts_of g.S.Store g.B.Applet c.args.self.now) (parts_of g.S.Store g.B.Applet c.perform.new.self) c.fail.new.self.is_on true ((acts.acts instruction command read named).moves));
        stopped = inr (ap (λ card. (parts_of g.S.Store g.B.Applet card).table) c.fail.ensures.others ∙ acts.table);
      };
  after_restart = λ due. record {
    refused = λ status named. failed_first _ c.in-Err.fault c.fail.result c.fail.new.out.status c.fail.ensures.failed c.fail.ensures.lost;
    acts = failed_first _ c.in-Err.fault c.fail.result c.fail.new.out.status c.fail.ensures.failed c.fail.ensures.lost;
  };
  untouched = left_alone (parts_of g.S.Store g.B.Applet c.args.self.now) c.args.apdu.now _ c.if-not-self.false (λ status rests named. absurd (false≢true ((c.in-Err.ensures.acts rests).refused status named).0));
}

pub returns-then-not-self-clause-performs : goal.returns-then-not-self-clause-performs
returns-then-not-self-clause-performs g c = record {
  at_once = λ on. absurd (cc (on, c.if-not-self.true));
  after_restart = λ due. record { refused = λ status named. tt; acts = tt };
  untouched = λ leaves. refl;
}

pub returns-in-Ok-clause-counts : goal.returns-in-Ok-clause-counts
returns-in-Ok-clause-counts g c = record {
  commits = λ other. c.in-Ok.ensures.answered.counts.commits;
  stopped = inl (refl, (λ is. c.in-Ok.ensures.answered.usual (ap (λ (word : StatusWord). word.0) is)));
  written = λ other. c.in-Ok.ensures.answered.writes;
  cut = inl (refl, (λ is. c.in-Ok.ensures.answered.usual (ap (λ (word : StatusWord). word.0) is)));
  recoveries = λ on. c.perform.ensures.recovers;
  reads = λ on rests apdu read named file found.
      let once = c.in-Ok.ensures.asks rests apdu read named file found in
      record { denied = once.denied; served = once.served; most = once.most };
}

pub returns-in-Err-clause-counts : goal.returns-in-Err-clause-counts
returns-in-Err-clause-counts g c = record {
  commits = failed_first _ c.in-Err.fault c.fail.result c.fail.new.out.status c.fail.ensures.failed c.fail.ensures.lost;
  stopped =
      inr (subst (λ card. IfSome (card_of (parts_of g.S.Store g.B.Applet c.args.self.now)) (λ each. StopsAt each.persistent (answer each c.args.apdu.now).commits (parts_of g.S.Store g.B.Applet c.args.self.now).commits (parts_of g.S.Store g.B.Applet card).commits (held_by (parts_of g.S.Store g.B.Applet card)))) (sym c.fail.ensures.others)
      c.in-Err.ensures.answered.counts.stopped);
  written = failed_first _ c.in-Err.fault c.fail.result c.fail.new.out.status c.fail.ensures.failed c.fail.ensures.lost;
  cut =
      inr (subst (λ card. IfSome (card_of (parts_of g.S.Store g.B.Applet c.args.self.now)) (λ each. StopsWriting (answer each c.args.apdu.now).changes (parts_of g.S.Store g.B.Applet c.args.self.now) (parts_of g.S.Store g.B.Applet card))) (sym c.fail.ensures.others)
      c.in-Err.ensures.answered.writes);
  recoveries = λ on.
      let same = ap (λ card. (parts_of g.S.Store g.B.Applet card).recoveries) c.fail.ensures.others in
      record { due = λ is. same ∙ c.perform.ensures.recovers.due is; rests = λ is. same ∙ c.perform.ensures.recovers.rests is };
  reads = λ on rests apdu read named file found.
      let once = c.in-Err.ensures.asks rests apdu read named file found in
      let granted = raised_by (access_reads (descriptors_of c.args.self.now.loaded.value) file) (g.S.Store.reads c.args.self.now.store) in
      record {
        denied =
            on_ok_weaker c.fail.result (λ other is. other (λ failed. let both : 0x6982 ≡ 0x6581 = ap (λ (word : StatusWord). word.0) (sym is ∙ failed) in omega (arith, both)))
            (failed_first ((parts_of g.S.Store g.B.Applet c.fail.new.self).reads ≡ granted) c.in-Err.fault c.fail.result c.fail.new.out.status c.fail.ensures.failed c.fail.ensures.lost);
        served = λ some. absurd (some (c.fail.ensures.data ∙ c.in-Err.ensures.answered.empty));
        most = subst (λ (now : ℕ). (now ≡ granted) ⊎ (now ≡ raised granted)) (sym (ap (λ card. (parts_of g.S.Store g.B.Applet card).reads) c.fail.ensures.others)) once.most;
      };
}

pub returns-then-not-self-clause-counts : goal.returns-then-not-self-clause-counts
returns-then-not-self-clause-counts g c = record {
  commits = tt;
  stopped = inr (stops_unmoved (parts_of g.S.Store g.B.Applet c.args.self.now) (parts_of g.S.Store g.B.Applet c.args.self.now) (λ card. (answer card c.args.apdu.now).commits) refl refl);
  written = tt;
  cut =
      inr (if_any (card_of (parts_of g.S.Store g.B.Applet c.args.self.now)) (λ card. StopsWriting (answer card c.args.apdu.now).changes (parts_of g.S.Store g.B.Applet c.args.self.now) (parts_of g.S.Store g.B.Applet c.args.self.now))
      (λ card. still_cut (parts_of g.S.Store g.B.Applet c.args.self.now) (parts_of g.S.Store g.B.Applet c.args.self.now) (answer card c.args.apdu.now).changes refl refl));
  recoveries = λ on. absurd (cc (on, c.if-not-self.true));
  reads = λ on. absurd (cc (on, c.if-not-self.true));
}

pub returns-in-Ok-clause-tells : goal.returns-in-Ok-clause-tells
returns-in-Ok-clause-tells g c = record {
  faults = record {
    no_data = λ failure. absurd (c.in-Ok.ensures.answered.usual (ap (λ (word : StatusWord). word.0) failure.status));
    due = λ failure. absurd (c.in-Ok.ensures.answered.usual (ap (λ (word : StatusWord). word.0) failure.status));
    due_off = λ lost. absurd (ok_not_err _ _ lost);
    rests = λ other. c.in-Ok.ensures.rests.rests;
    empty = tt;
    silent = tt;
  };
  power = search rules;
}

pub returns-in-Err-clause-tells : goal.returns-in-Err-clause-tells
returns-in-Err-clause-tells g c = record {
  faults = record {
    no_data = λ failure. c.fail.ensures.data ∙ c.in-Err.ensures.answered.empty;
    due = λ failure. ap (λ card. (parts_of g.S.Store g.B.Applet card).is_due) c.fail.ensures.others;
    due_off = λ lost. ap (λ card. (parts_of g.S.Store g.B.Applet card).is_due) c.fail.ensures.others;
    rests = failed_first _ c.in-Err.fault c.fail.result c.fail.new.out.status c.fail.ensures.failed c.fail.ensures.lost;
    empty = on_err c.fail.result (c.fail.ensures.data ∙ c.in-Err.ensures.answered.empty);
    silent = c.fail.ensures.silent;
  };
  power = search rules;
}

pub returns-then-not-self-clause-tells : goal.returns-then-not-self-clause-tells
returns-then-not-self-clause-tells g c = record {
  faults = search rules;
  power = search rules;
}
