-- The first bytes join the parts that were prepared.
use Rattle.std.proofs.Common.{◌≡◌, ◌⊎◌, List, [], ◌∷◌, ◌++◌, ap, ◌∙◌, inl, inr, ⊎_elim, arith, IfSome, option_map}
use Rattle.std.proofs.lemmas.Result.{on_ok_weaker, on_err_weaker}
use Rattle.store_form.specs.Pieces.{Piece, applied}
use Rattle.layout_section.specs.Laying.{IsWritten}
use Rattle.layout_section.proofs.LayingLemmas.{HasLengths, told_completed}
use Rattle.layout_section.proofs.formatting.commit_first.Goals as goal

pub returns-clause-written : goal.returns-clause-written
returns-clause-written g c =
    let lengths : HasLengths c.args.card.now = record { first = omega arith; pins = omega arith; lower = omega arith; upper = omega arith; kept = omega arith; entries = omega arith } in
    let one_piece = ap (λ (pieces : List Piece). option_map (applied pieces) (g.S.Store.stable c.args.store.now)) (c.in-Ok.ensures.ok ∙ ap (λ (pieces : List Piece). let piece : Piece = record { place = 0; bytes = c.args.card.now.first } in pieces ++ piece ∷ []) c.new-writes.ensures) in
    on_ok_weaker c.commit.result
    (λ same. told_completed c.args.card.now lengths (g.S.Store.stable c.args.store.now) (g.S.Store.stable c.commit.new.self) c.requires.fits c.requires.prepared (same ∙ one_piece))
    c.commit.ensures.writes.ok

pub returns-clause-whole : goal.returns-clause-whole
returns-clause-whole g c =
    let lengths : HasLengths c.args.card.now = record { first = omega arith; pins = omega arith; lower = omega arith; upper = omega arith; kept = omega arith; entries = omega arith } in
    let one_piece = ap (λ (pieces : List Piece). option_map (applied pieces) (g.S.Store.stable c.args.store.now)) (c.in-Ok.ensures.ok ∙ ap (λ (pieces : List Piece). let piece : Piece = record { place = 0; bytes = c.args.card.now.first } in pieces ++ piece ∷ []) c.new-writes.ensures) in
    on_err_weaker c.commit.result
    (⊎_elim {C = (g.S.Store.stable c.commit.new.self ≡ g.S.Store.stable c.args.store.now) ⊎ IfSome (g.S.Store.stable c.commit.new.self) (IsWritten c.args.card.now)}
    (λ same. inl same)
    (λ put. inr (told_completed c.args.card.now lengths (g.S.Store.stable c.args.store.now) (g.S.Store.stable c.commit.new.self) c.requires.fits c.requires.prepared (put ∙ one_piece))))
    c.commit.ensures.writes.whole
