-- The parts of a card are prepared one after the other: the bytes of the files at 3,968, and of a wide card the upper rows at 63,488 and the bytes
-- that stand apart from the rows at 64,512.
use Rattle.std.proofs.Common.{ℕ, List, Option, ap, ◌∙◌, arith, option_map}
use Rattle.std.proofs.lemmas.Result.{on_ok_weaker}
use Rattle.list_laws.specs.Patches.{patched}
use Rattle.layout_section.proofs.LayingLemmas.{HasLengths, told_narrow, told_wide}
use Rattle.layout_section.proofs.KeepsFirstLemmas.{kept_then}
use Rattle.layout_section.proofs.formatting.prepare_card.Goals as goal

pub returns-then-card-clause-prepared : goal.returns-then-card-clause-prepared
returns-then-card-clause-prepared g c =
    let lengths : HasLengths c.args.card.now = record { first = omega arith; pins = omega arith; lower = omega arith; upper = omega arith; kept = omega arith; entries = omega arith } in
    on_ok_weaker c.write_upper.result
    (λ same.
    told_wide c.args.card.now lengths (g.S.Store.stable c.args.store.now) (g.S.Store.stable c.write_upper.new.store) (g.S.Store.byte_count c.args.store.now) (g.met.S.Store.told_length c.args.store.now) c.requires.size c.requires.fits c.if-card.true
    (same
    ∙ ap (λ (o : Option (List ℕ)). option_map (patched 64512 c.args.card.now.rows.kept) (option_map (patched 63488 c.args.card.now.rows.upper) o))
    (c.in_ok-write_part.ensures.written ∙ ap (option_map (patched 3968 c.args.card.now.files.bytes.now)) c.in_ok-write_tables.ensures.written)))
    c.write_upper.ensures.written

pub returns-else-card-clause-prepared : goal.returns-else-card-clause-prepared
returns-else-card-clause-prepared g c =
    let lengths : HasLengths c.args.card.now = record { first = omega arith; pins = omega arith; lower = omega arith; upper = omega arith; kept = omega arith; entries = omega arith } in
    told_narrow c.args.card.now lengths (g.S.Store.stable c.args.store.now) (g.S.Store.stable c.write_part.new.store) (g.S.Store.byte_count c.args.store.now) (g.met.S.Store.told_length c.args.store.now) c.requires.size c.requires.fits c.if-card.false
    (c.in_ok-write_part.ensures.written ∙ ap (option_map (patched 3968 c.args.card.now.files.bytes.now)) c.in_ok-write_tables.ensures.written)

pub returns-then-card-clause-first : goal.returns-then-card-clause-first
returns-then-card-clause-first g c =
    kept_then _ (g.S.Store.stable c.write_tables.new.store) _ c.write_tables.ensures.first
    (kept_then _ (g.S.Store.stable c.write_part.new.store) _ c.write_part.ensures.first c.write_upper.ensures.first)

pub returns-else-card-clause-first : goal.returns-else-card-clause-first
returns-else-card-clause-first g c = kept_then _ (g.S.Store.stable c.write_tables.new.store) _ c.write_tables.ensures.first c.write_part.ensures.first
