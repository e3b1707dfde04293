-- The page is written to one that the map of the commit's beginning doesn't name, so what a fault leaves there isn't seen through it.
use Rattle.std.proofs.Common.{◌≡◌, ◌+◌, ◌*◌, List, ℕ, length, Option, sym, ap, ◌∙◌, subst, rules, option_map}
use Rattle.list_laws.proofs.IfSomeLemmas.{on_err}
use Rattle.list_laws.specs.Patches.{patched, Torn}
use Rattle.uicc_types.specs.Counts.{raised_by}
use Rattle.uicc_types.specs.Told.{Becomes}
use Rattle.store_form.specs.Pieces.{IsUsable}
use Rattle.update_journal.specs.Calls.{calls_at, MadeAtMost}
use Rattle.update_journal.proofs.CallsLemmas.{none_made}
use Rattle.page_store.specs.Tables.{IsPool}
use Rattle.page_store.specs.Commits.{Moves}
use Rattle.page_store.proofs.CallsLemmas.{page_call}
use Rattle.page_store.proofs.IsWellFormedLemmas.{pool_moved}
use Rattle.page_store.proofs.InPageLemmas.{usable_place}
use Rattle.page_store.proofs.MovesLemmas.{moves_content, move_torn, move_done, whole_page, usable_target}
use Rattle.page_store.proofs.moves.move_page.Goals as goal

pub read-requires-clause-usable : goal.read-requires-clause-usable
read-requires-clause-usable g c = usable_place c.args.table.now (64 * c.args.page) 64 (g.S.CountedStore.byte_count c.args.store.now) c.place.result (whole_page c.args.page c.requires.may.from c.requires.may.to) c.requires.below.size c.place.ensures c.requires.may.pool

pub prepare-requires-clause-usable : goal.prepare-requires-clause-usable
prepare-requires-clause-usable g c = subst (λ n. IsUsable (g.S.CountedStore.byte_count c.read.new.self) (64 * c.from.result) n) (sym c.put_pieces.array_long) (usable_target c.args.table.now (g.S.CountedStore.byte_count c.read.new.self) (64 * c.from.result) (c.in_ok-read.ensures.keeps.size ∙ c.requires.below.size) c.requires.may.pool (ap (λ n. 64 * n) (c.from.ensures ∙ c.oldest.ensures)))

pub returns-in_err-read-clause-moves : goal.returns-in_err-read-clause-moves
returns-in_err-read-clause-moves g c = record {
  ok = search rules;
  same =
      on_err c.from_residual.result
      (λ start told is moves.
      moves_content c.args.writes.now c.args.page start c.args.table.now told (g.S.CountedStore.stable c.read.new.self) is.long is.kept_is
      (subst (λ o. Moves c.args.writes.now c.args.page start c.args.table.now told o) (sym c.in_err-read.ensures.keeps.stable) moves));
}

pub returns-in_err-prepare-clause-moves : goal.returns-in_err-prepare-clause-moves
returns-in_err-prepare-clause-moves g c = record {
  ok = search rules;
  same =
      on_err c.from_residual-in_err-prepare.result
      (λ start told is moves.
      let torn : Option (List ℕ) → Type 0 = λ o. Becomes (Torn (64 * c.from.result) 64) o (g.S.CountedStore.stable c.prepare.new.self) in
      move_torn c.args.writes.now c.args.page start c.args.table.now c.requires.may.from c.requires.may.to c.requires.touched c.requires.few told (g.S.CountedStore.stable c.args.store.now) is.long is.kept_is moves
      (g.S.CountedStore.stable c.prepare.new.self) (64 * c.from.result) (ap (λ n. 64 * n) (c.from.ensures ∙ c.oldest.ensures))
      (subst torn c.in_ok-read.ensures.keeps.stable (subst (λ n. Becomes (Torn (64 * c.from.result) n) (g.S.CountedStore.stable c.read.new.self) (g.S.CountedStore.stable c.prepare.new.self)) c.put_pieces.array_long c.in_err-prepare.ensures.writes.torn)));
}

pub returns-clause-moves : goal.returns-clause-moves
returns-clause-moves g c = record {
  ok = λ start told is moves.
      let written : Option (List ℕ) → Type 0 = λ o. g.S.CountedStore.stable c.prepare.new.self ≡ option_map (patched (64 * c.from.result) c.put_pieces.new.bytes) o in
      subst (λ kept. Moves c.args.writes.now (c.args.page + 1) start kept told (g.S.CountedStore.stable c.prepare.new.self)) (sym c.move_page.ensures)
      (move_done c.args.writes.now c.args.page start c.args.table.now c.requires.may.from c.requires.may.to c.requires.touched c.requires.few told (g.S.CountedStore.stable c.args.store.now) is.long is.kept_is moves
      (g.S.CountedStore.stable c.prepare.new.self) c.read.new.out c.put_pieces.new.bytes c.place.result (64 * c.from.result) c.place.ensures c.in_ok-read.ensures.ok c.put_pieces.ensures c.put_pieces.array_long
      (ap (λ n. 64 * n) (c.from.ensures ∙ c.oldest.ensures)) (subst written c.in_ok-read.ensures.keeps.stable c.in_ok-prepare.ensures.writes.ok));
  same = search rules;
}

pub returns-clause-pool : goal.returns-clause-pool
returns-clause-pool g c = subst IsPool (sym c.move_page.ensures) (pool_moved c.args.page c.args.table.now c.requires.may.from c.requires.may.to c.requires.may.pool)

pub returns-in_err-read-clause-calls : goal.returns-in_err-read-clause-calls
returns-in_err-read-clause-calls g c = record {
  all = search rules;
  no_more = on_err c.from_residual.result (none_made 1 (g.S.CountedStore.meter c.args.store.now).programs (g.S.CountedStore.meter c.read.new.self).programs c.in_err-read.ensures.calls);
}

pub returns-in_err-prepare-clause-calls : goal.returns-in_err-prepare-clause-calls
returns-in_err-prepare-clause-calls g c =
    let one = page_call c.from.result _ c.put_pieces.array_long in
    record {
      all = search rules;
      no_more =
          on_err c.from_residual-in_err-prepare.result (subst (λ n. MadeAtMost n (g.S.CountedStore.meter c.args.store.now).programs (g.S.CountedStore.meter c.prepare.new.self).programs) one
          (subst (λ n. MadeAtMost (calls_at (64 * c.from.result) (length c.put_pieces.new.bytes)) n (g.S.CountedStore.meter c.prepare.new.self).programs) c.in_ok-read.ensures.calls c.in_err-prepare.ensures.calls.no_more));
    }

pub returns-clause-calls : goal.returns-clause-calls
returns-clause-calls g c =
    let one = page_call c.from.result _ c.put_pieces.array_long in
    record {
      all = c.in_ok-prepare.ensures.calls.all ∙ ap (λ n. raised_by n (g.S.CountedStore.meter c.read.new.self).programs) one ∙ ap (λ n. raised_by 1 n) c.in_ok-read.ensures.calls;
      no_more = search rules;
    }
