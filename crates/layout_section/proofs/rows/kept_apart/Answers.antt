use Rattle.std.proofs.Common.{◌≡◌, ℕ, ◌-◌, ◌≤◌, List, length, take, drop, sym, ap, ◌∙◌, arith, replicate}
use Rattle.std.proofs.lemmas.List.{length-drop, drop_all, take_rest}
use Rattle.list_laws.specs.Patches.{patched}
use Rattle.layout_section.proofs.PatchedLemmas.{front_there}
use Rattle.layout_section.proofs.rows.kept_apart.Goals as goal

pub returns-then-kept-gt-KEPT_WIDTH-clause-more : goal.returns-then-kept-gt-KEPT_WIDTH-clause-more
returns-then-kept-gt-KEPT_WIDTH-clause-more c =
    let kept : List ℕ = c.as_slice-kept.result.now in
    let same : c.as_slice-kept.result.now ≡ c.args.row.now.kept = c.as_slice-kept.ensures.value in
    let rest : take (length c.as_slice-kept.result.now - 32) (drop 32 c.as_slice-kept.result.now) ≡ drop 32 c.as_slice-kept.result.now = take_rest c.as_slice-kept.result.now 32 in
    let many : length c.args.row.now.kept - 32 ≡ length (drop 32 c.as_slice-kept.result.now) = omega (arith, ap (λ (l : List ℕ). length l) same, length-drop 32 c.as_slice-kept.result.now) in
    ap (λ (l : List ℕ). take (length c.args.row.now.kept - 32) l) (c.put.ensures ∙ ap (λ (l : List ℕ). patched 0 l (replicate 32 0)) rest)
    ∙ ap (λ (n : ℕ). take n (patched 0 (drop 32 c.as_slice-kept.result.now) (replicate 32 0))) many ∙ front_there (drop 32 c.as_slice-kept.result.now) (replicate 32 0)
    ∙ ap (λ (l : List ℕ). drop 32 l) same

pub returns-else-kept-gt-KEPT_WIDTH-clause-more : goal.returns-else-kept-gt-KEPT_WIDTH-clause-more
returns-else-kept-gt-KEPT_WIDTH-clause-more c =
    let few : length c.args.row.now.kept ≤ 32 = omega (arith, ap (λ (l : List ℕ). length l) c.as_slice-kept.ensures.value, c.if-kept-gt-KEPT_WIDTH.false) in
    let none : length c.args.row.now.kept - 32 ≡ 0 = omega arith in
    ap (λ (n : ℕ). take n (replicate 32 0)) none ∙ sym (drop_all 32 c.args.row.now.kept few)
