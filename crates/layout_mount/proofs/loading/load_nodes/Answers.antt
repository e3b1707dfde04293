-- The nodes below this number passed and fill the table's front, so one that is refused is the first check that fails.
use Rattle.std.proofs.Common.{◌≡◌, ℕ, ◌+◌, true, length, take, set, sym, ap, ◌∙◌, arith, subst, below_more, Some}
use Rattle.std.proofs.lemmas.List.{length-replicate}
use Rattle.card_state.specs.Blank.{unused_node}
use Rattle.card_state.specs.Decoding.{node_at}
use Rattle.card_state.specs.Checks.{node_check}
use Rattle.layout_mount.proofs.FindsFirstLemmas.{IsFilling, IsFilling_none, IsFilling_more, take_filled, whole_filled, none_failed, first_failed_at}
use Rattle.layout_mount.proofs.loading.load_nodes.Goals as goal

pub loop-number-init : goal.loop-number-init
loop-number-init c = record {
  filling = IsFilling_none (node_at c.args.image.now) unused_node 128 c.args.nodes.now c.requires.unused (ap length c.requires.unused ∙ length-replicate 128 unused_node);
  met = λ k h. absurd (omega arith);
}

pub load_node-requires-clause-earlier : goal.load_node-requires-clause-earlier
load_node-requires-clause-earlier c =
    let same : c.from.result ≡ c.loop-number.number = omega arith in
    ap (λ (n : ℕ). take n c.loop-number.nodes) same
    ∙ take_filled (node_at c.args.image.now) unused_node 128 c.loop-number.number c.loop-number.nodes (omega arith) c.loop-number.invariant.filling

pub returns-clause-found : goal.returns-clause-found
returns-clause-found c =
    whole_filled (node_at c.args.image.now) unused_node 128 c.loop-number.number c.loop-number.nodes (λ k low high. absurd (omega arith)) c.loop-number.invariant.filling

pub returns-clause-checked : goal.returns-clause-checked
returns-clause-checked c = none_failed (node_check c.args.image.now) 128 (λ k h. c.loop-number.invariant.met k (omega arith))

pub returns-in-Err-clause-checked : goal.returns-in-Err-clause-checked
returns-in-Err-clause-checked c =
    first_failed_at (node_check c.args.image.now) 128 c.loop-number.number (omega arith) c.loop-number.invariant.met c.in-Err.ensures.0
    ∙ ap (λ (n : ℕ). Some n) (sym c.in-Err.ensures.1)

pub loop-number-preserved : goal.loop-number-preserved
loop-number-preserved c =
    let at : ℕ = c.loop-number.number in
    let same : at ≡ c.from-in-Ok.result = omega arith in
    let Fills : ℕ → Type 0 = λ i. IsFilling (node_at c.args.image.now) unused_node 128 (at + 1) (set c.loop-number.nodes i c.in-Ok.node) in
    record {
      filling = subst Fills same (IsFilling_more (node_at c.args.image.now) unused_node 128 at c.loop-number.nodes c.in-Ok.node (omega arith) c.in-Ok.ensures.1 c.loop-number.invariant.filling);
      met = below_more (λ (k : ℕ). (node_check c.args.image.now k).is_met ≡ true) at c.loop-number.invariant.met c.in-Ok.ensures.0;
    }
