-- The pieces so far and those in the rest are what the area spells, so one unusable piece, or too many bytes, refuses the whole.
use Rattle.std.proofs.Common.{◌≡◌, ◌⊎◌, ◌∷◌, ◌++◌, ◌<◌, ◌+◌, ◌-◌, ℕ, List, [], length, inl, inr, refl, sym, ap, ◌∙◌, arith, length-append}
use Rattle.std.proofs.lemmas.Bool.{cases_lt}
use Rattle.std.proofs.lemmas.List.Elements.{All-nil, All-push, All-same}
use Rattle.store_form.specs.Pieces.{Piece, byte_total, IsUsablePiece}
use Rattle.update_journal.specs.Entries.{pieces_in}
use Rattle.update_journal.specs.WellFormed.{usable_from_test}
use Rattle.update_journal.proofs.PiecesInLemmas.{no_area, no_count, begun_with, reads_more, reads_to_end, reads_on, reads_unusable, reads_too_many, reads_all, byte_total-one}
use Rattle.update_journal.proofs.entries.read_entries.Goals as goal
use Rattle.update_journal.proofs.entries.read_entries.Goals.{then-count-eq0-via-then-count-eq0, then-count-eq0-via-else-count-eq0+then-from-gt-MOST_PIECES}

pub returns-in_err-count-clause-value : goal.returns-in_err-count-clause-value
returns-in_err-count-clause-value c = c.from_residual.ensures ∙ no_area c.args.size c.args.area.now c.in_err-count.ensures.cases

pub returns-then-count-eq0-clause-value : goal.returns-then-count-eq0-clause-value
returns-then-count-eq0-clause-value c =
    let out : (c.in_ok-count.count.now ≡ 0) ⊎ (4 < c.in_ok-count.count.now) =
    elim c.then-count-eq0.branch [
      | then-count-eq0-via-then-count-eq0 w ↦ inl w.if-count-eq0.true
      | then-count-eq0-via-else-count-eq0+then-from-gt-MOST_PIECES w ↦ inr (omega (arith, w.if-from-gt-MOST_PIECES.true, w.from.ensures))
    ] in
    no_count c.args.size c.in_ok-count.count.now c.in_ok-count.rest.now out ∙ ap (λ (l : List ℕ). pieces_in c.args.size l) (sym c.in_ok-count.ensures.cases.0)

pub loop-init : goal.loop-init
loop-init c = record {
  reads = begun_with c.args.size c.in_ok-count.count.now c.args.area.now c.in_ok-count.rest.now c.new-writes.result _ c.in_ok-count.ensures.cases.0 c.new-writes.ensures (omega arith) (omega (arith, c.if-count-eq0.false)) (omega (arith, c.if-from-gt-MOST_PIECES.false, c.from.ensures));
  usable = All-same (IsUsablePiece c.args.size) _ _ c.new-writes.ensures (All-nil (IsUsablePiece c.args.size));
  counted = ap (λ (l : List Piece). length l) c.new-writes.ensures;
  few = omega (arith, ap byte_total c.new-writes.ensures);
}

pub returns-then-not-may_be_written-clause-value : goal.returns-then-not-may_be_written-clause-value
returns-then-not-may_be_written-clause-value c =
    reads_unusable c.args.size (c.in_ok-count.count.now - (c.loop.counter + 1)) c.args.area.now c.loop.writes c.loop.rest.now c.in_ok-place.behind.now _
    (reads_more _ _ _ _ _ _ (omega arith) c.loop.invariant.reads) c.in_ok-place.ensures (sym c.if-not-may_be_written.ensures)

pub returns-in-Err-clause-value : goal.returns-in-Err-clause-value
returns-in-Err-clause-value c =
    reads_too_many c.args.size (c.in_ok-count.count.now - (c.loop.counter + 1)) c.args.area.now c.loop.writes c.loop.rest.now c.in_ok-place.behind.now (record { place = c.in_ok-place.place; bytes = c.in_ok-place.bytes.now })
    (reads_more _ _ _ _ _ _ (omega arith) c.loop.invariant.reads) c.in_ok-place.ensures
    (elim (cases_lt 640 (byte_total c.loop.writes + length c.in_ok-place.bytes.now)) [
      | inl many ↦ many
      | inr few ↦ absurd (let full = c.in-Err.ensures.room.1 (omega (arith, c.loop.invariant.counted, c.if-from-gt-MOST_PIECES.false, c.from.ensures), few) in cc full)
    ])

pub loop-preserved : goal.loop-preserved
loop-preserved c =
    let piece : Piece = record { place = c.in_ok-place.place; bytes = c.in_ok-place.bytes.now } in
    let added : c.add.new.self ≡ c.loop.writes ++ piece ∷ [] = c.in-Ok.ensures.ok in
    record {
      reads = rw added (reads_on c.args.size (c.in_ok-count.count.now - (c.loop.counter + 1)) c.args.area.now c.loop.writes c.loop.rest.now c.in_ok-place.behind.now piece
          (reads_more _ _ _ _ _ _ (omega arith) c.loop.invariant.reads) c.in_ok-place.ensures);
      usable = All-same (IsUsablePiece c.args.size) _ _ added (All-push (IsUsablePiece c.args.size) c.loop.writes piece c.loop.invariant.usable (usable_from_test c.args.size piece (sym c.if-not-may_be_written.ensures)));
      counted = omega (arith, ap (λ (l : List Piece). length l) added, length-append c.loop.writes (piece ∷ []), c.loop.invariant.counted);
      few = omega (arith, ap byte_total added, byte_total-one c.loop.writes piece, (c.in-Ok.ensures.room.0 refl).1);
    }

pub returns-clause-value : goal.returns-clause-value
returns-clause-value c =
    reads_all c.args.size c.args.area.now c.loop.writes c.loop.rest.now (reads_to_end _ _ _ _ _ (omega (arith, c.loop.auto.counter-end)) c.loop.invariant.reads) c.loop.invariant.usable c.loop.invariant.few
