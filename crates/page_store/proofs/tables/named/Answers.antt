use Rattle.std.proofs.Common.{arith, set, true, false, ◌≡◌, ◌∙◌, ◌+◌, ℕ, sym, subst, take}
use Rattle.std.proofs.lemmas.List.{length-replicate, length-set, get_or-replicate}
use Rattle.page_store.specs.Pages.{is_right}
use Rattle.page_store.proofs.IsNamingLemmas.{IsMarked, right_by, marked_too, all_right, naming}
use Rattle.page_store.proofs.IsWellFormedLemmas.{wrong_at}
use Rattle.page_store.proofs.tables.named.Goals as goal

pub loop-k-init : goal.loop-k-init
loop-k-init c = record { long = length-replicate 1120 false; right = λ i low. absurd (omega arith); same = λ page low. get_or-replicate 1120 page false false low }

pub returns-then-not-is_new : goal.returns-then-not-is_new
returns-then-not-is_new c =
    wrong_at c.args.entries.now c.loop-k.k (omega (arith, c.told-entries, c.loop-k-test.true)) (sym (right_by c.args.entries.now c.loop-k.named c.loop-k.k c.loop-k.invariant.same) ∙ sym c.if-not-is_new.ensures)

pub loop-k-preserved : goal.loop-k-preserved
loop-k-preserved c =
    let right : is_right c.args.entries.now c.loop-k.k ≡ true = sym (right_by c.args.entries.now c.loop-k.named c.loop-k.k c.loop-k.invariant.same) ∙ sym c.if-not-is_new.ensures in
    let marks : ℕ → _ = λ page. IsMarked (take (c.loop-k.k + 1) c.args.entries.now) (set c.loop-k.named page true) in
    record {
      long = length-set c.loop-k.named c.from.result true ∙ c.loop-k.invariant.long;
      right = all_right c.args.entries.now c.loop-k.k right c.loop-k.invariant.right;
      same = subst marks (sym c.from.ensures) (marked_too c.args.entries.now c.loop-k.named c.loop-k.k c.loop-k.invariant.long (omega (arith, c.told-entries, c.loop-k-test.true)) right c.loop-k.invariant.same);
    }

pub returns : goal.returns
returns c = naming c.args.entries.now c.loop-k.named c.loop-k.k c.told-entries (omega (arith, c.told-entries, c.loop-k-test.false)) c.loop-k.invariant.right c.loop-k.invariant.same
