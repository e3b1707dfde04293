-- Where the lines before `start` are read, they describe the card that is formatted and opened; without such lines the bytes stay as they are.
use Rattle.std.proofs.Common.{◌≡◌, None, ap, arith, inr, refl, sym, ◌∙◌, subst, IfSome, Ok}
use Rattle.uicc_types.specs.Told.{Becomes}
use Rattle.byte_streams.proofs.ReadingLemmas.{IsTaken-within, IsWithin-start}
use Rattle.card_state.specs.Standing.{stands_for}
use Rattle.layout_section.specs.Laying.{KeepsFirstOr}
use Rattle.applet_trait.specs.Minds.{minds_of}
use Rattle.section_lines.specs.SectionReading.{EndsInSection}
use Rattle.uicc_run.specs.Scripts.{ReachesStart}
use Rattle.uicc_run.proofs.EndsForLemmas.{ends_in_section, ends_later}
use Rattle.uicc_run.proofs.OpeningLemmas.{at_first, at_start_of, described_some, describes_none, keeps_so, made_none, made_so, memory_tells, not_made, quiet_still, reached, stays_made}
use Rattle.uicc_run.proofs.running.read_and_play.Goals as goal

-- ---- where the section isn't read to its end

pub returns-in-Err-clause-comes : goal.returns-in-Err-clause-comes
returns-in-Err-clause-comes g c = λ given told play is. (
  subst (λ b. EndsInSection b given.first given.text (g.R.Source.left c.read_section.new.source) c.in-Err.fault) (ap (minds_of g.B.Applet.mind) c.as_slice.ensures.value ∙ is.boxes_are)
      (c.in-Err.ensures.card given.first given.text (at_first _ given.first given.text c.new-reader.result _ c.args.card c.new-reader.ensures.reader c.new-reader.ensures.number play.first_is play.text_is)),
  quiet_still given _ _ _ _ is.before_is is.meter_is,
)

pub returns-in-Err-clause-taken : goal.returns-in-Err-clause-taken
returns-in-Err-clause-taken g c = λ text told. IsTaken-within text _ _ (c.in-Err.ensures.within text (IsWithin-start text _ _ c.new-reader.ensures.reader told))

pub returns-in-Err-clause-memory : goal.returns-in-Err-clause-memory
returns-in-Err-clause-memory g c = λ given mark play. record { bytes = λ none kept. absurd kept; half_made = λ some failed. absurd (cc); no_memory = λ some wanting. absurd (cc) }

-- ---- where the store was made ready

pub returns-in-Ok-make-clause-comes : goal.returns-in-Ok-make-clause-comes
returns-in-Ok-make-clause-comes g c = λ given told play is.
    let at = at_start_of _ given.boxes given.first given.text _ _ _ (ap (minds_of g.B.Applet.mind) c.as_slice.ensures.value ∙ is.boxes_are) (c.in-Ok.ensures.card given.first given.text (at_first _ given.first given.text c.new-reader.result _ c.args.card c.new-reader.ensures.reader c.new-reader.ensures.number play.first_is play.text_is)) in
    c.open_and_play.ensures.comes given told play.served_is (λ tells. c.in-Ok-make.ensures.keeps.told ∙ memory_tells _ _ given.memory (is.memory_is tells))
    (made_so given told _ _ _ _ _ _ _ _ _ _ _ at is.before_is is.memory_is is.meter_is is.boxes_are c.in-Ok-make.ensures.made c.in-Ok-make.ensures.keeps.mark c.make.ensures.keeps.cause (λ so. cc (so, c.in-Ok-make.is)) (λ so. cc (so, c.in-Ok-make.is)))

pub returns-in-Ok-make-clause-taken : goal.returns-in-Ok-make-clause-taken
returns-in-Ok-make-clause-taken g c = λ text told. IsTaken-within text _ _ (c.open_and_play.ensures.within text (c.in-Ok.ensures.within text (IsWithin-start text _ _ c.new-reader.ensures.reader told)))

pub returns-in-Ok-make-clause-memory : goal.returns-in-Ok-make-clause-memory
returns-in-Ok-make-clause-memory g c = λ given mark play. record {
  bytes = λ none refusal.
      let at = c.in-Ok.ensures.card None given.text (at_first _ None given.text c.new-reader.result _ c.args.card c.new-reader.ensures.reader c.new-reader.ensures.number (sym none ∙ play.first_is) play.text_is) in
      let same = made_none _ _ _ _ (describes_none _ given.text _ _ _ at) c.in-Ok-make.ensures.made in
      c.open_and_play.ensures.memory.bytes (keeps_so _ _ _ _ _ c.in-Ok-make.ensures.keeps.mark same refusal) ∙ same;
  half_made = λ some failed. absurd (c.open_and_play.ensures.memory.formatted failed);
  no_memory = λ some failed.
      let at = at_start_of _ given.boxes given.first given.text _ _ _ (ap (minds_of g.B.Applet.mind) c.as_slice.ensures.value ∙ play.boxes_are) (c.in-Ok.ensures.card given.first given.text (at_first _ given.first given.text c.new-reader.result _ c.args.card c.new-reader.ensures.reader c.new-reader.ensures.number play.first_is play.text_is)) in
      let card = described_some given.boxes given.first at.section _ at.described some in
      inr (record {
        card = card.0;
        reaches = subst (ReachesStart given) card.1 (reached given _ _ _ at);
        stands = subst (λ m. IfSome (g.S.Store.stable c.open_and_play.result.1) (λ content. stands_for m content ≡ Ok card.0)) (sym mark)
            (stays_made c.open_and_play.result.0 card.0 _ _ _ _ failed (rw card.1 at c.in-Ok-make.ensures.made) c.open_and_play.ensures.memory.bytes);
      });
}

-- ---- where it could not be

pub returns-clause-comes : goal.returns-clause-comes
returns-clause-comes g c = λ given told play is.
    let at = at_start_of _ given.boxes given.first given.text _ _ _ (ap (minds_of g.B.Applet.mind) c.as_slice.ensures.value ∙ is.boxes_are) (c.in-Ok.ensures.card given.first given.text (at_first _ given.first given.text c.new-reader.result _ c.args.card c.new-reader.ensures.reader c.new-reader.ensures.number play.first_is play.text_is)) in
    not_made given told _ _ (g.W.Sink.taken c.args.trace.now) _ _ _ _ _ at is.before_is c.in-Err-make.ensures.described is.meter_is c.in-Err-make.ensures.keeps.cause

pub returns-clause-taken : goal.returns-clause-taken
returns-clause-taken g c = λ text told. IsTaken-within text _ _ (c.in-Ok.ensures.within text (IsWithin-start text _ _ c.new-reader.ensures.reader told))

pub returns-clause-memory : goal.returns-clause-memory
returns-clause-memory g c = λ given mark play. record {
  bytes = λ none refusal. absurd refusal;
  half_made = λ some failed.
      let at = at_start_of _ given.boxes given.first given.text _ _ _ (ap (minds_of g.B.Applet.mind) c.as_slice.ensures.value ∙ play.boxes_are) (c.in-Ok.ensures.card given.first given.text (at_first _ given.first given.text c.new-reader.result _ c.args.card c.new-reader.ensures.reader c.new-reader.ensures.number play.first_is play.text_is)) in
      let card = described_some given.boxes given.first at.section _ at.described some in
      record {
        card = card.0;
        reaches = subst (ReachesStart given) card.1 (reached given _ _ _ at);
        first_last = subst (λ m. Becomes (KeepsFirstOr m card.0) (g.S.Store.stable c.args.store) (g.S.Store.stable c.make.new.store)) (sym mark) (c.in-Err-make.ensures.half_made card.0 card.1);
      };
  no_memory = λ some failed. absurd (cc);
}

pub returns-clause-ends : goal.returns-clause-ends
returns-clause-ends g c = record {
  source_cause = record { failed = λ three. absurd (omega (arith, three)); no_failure = λ other. c.read_section.ensures.cause.no_failure (λ is. cc is) };
  sink_cause = record { failed = λ four. absurd (omega (arith, four)); no_failure = λ other. refl };
  memory_cause = λ six. c.in-Err-make.ensures.failed;
  reset_cause = λ is. absurd (cc is);
  tells = refl;
  unshown = λ unshown. refl;
  untouched = λ early. absurd early;
  boxes = λ unopened. refl;
}

-- ---- before that, and after it

pub returns-in-Err-clause-ends : goal.returns-in-Err-clause-ends
returns-in-Err-clause-ends g c = ends_in_section c.in-Err.fault _ _ c.in-Err.ensures.cause refl refl refl refl

pub returns-in-Ok-make-clause-ends : goal.returns-in-Ok-make-clause-ends
returns-in-Ok-make-clause-ends g c =
    let cause = c.in-Ok-make.ensures.keeps.cause in
    ends_later c.open_and_play.result.0 _ _ _ (c.in-Ok.ensures.cause.no_failure (λ is. cc is)) refl refl (cause.no_fault (λ is. cc is)) (cause.no_cut (λ is. cc is)) (cause.power_kept (λ is. cc is)) c.open_and_play.ensures.ends
