use Rattle.std.proofs.Common.{◌≡◌, ℕ, ap, subst, ◌∙◌, Some}
use Rattle.layout_mount.specs.Mounted.{IsTable, HoldsNoCard}
use Rattle.layout_mount.proofs.SameEntriesLemmas.{is_table, is_no_card}
use Rattle.layout_mount.proofs.mounting.mount_into.Goals as goal

pub returns-in-Ok-clause-mounts : goal.returns-in-Ok-clause-mounts
returns-in-Ok-clause-mounts g c = record {
  ready = c.in_ok-image.ensures.ready;
  table =
      subst (λ (mark : ℕ). IsTable mark (g.S.Store.stable c.args.store.now) c.load.new.into) c.mark-mark.ensures.mark
      (is_table (g.S.Store.byte_count c.args.store.now) c.requires.size c.in_ok-image.image c.holds_bytes.ensures (g.S.Store.stable c.args.store.now) c.mark-mark.result c.load.new.into (g.met.S.Store.told_length c.args.store.now)
      c.mark-mark.ensures.told c.in_ok-image.ensures.image c.in-Ok.ensures.found c.in-Ok.ensures.checked);
}

pub returns-in-Err-clause-no_card : goal.returns-in-Err-clause-no_card
returns-in-Err-clause-no_card g c =
    λ at is.
    let place : c.in-Err.at ≡ at = cc is in
    record {
      ready = c.in_ok-image.ensures.ready;
      no_card =
          subst (λ (mark : ℕ). HoldsNoCard mark (g.S.Store.stable c.args.store.now) at) c.mark-mark.ensures.mark
          (is_no_card (g.S.Store.byte_count c.args.store.now) c.requires.size c.in_ok-image.image c.holds_bytes.ensures (g.S.Store.stable c.args.store.now) c.mark-mark.result at (g.met.S.Store.told_length c.args.store.now)
          c.mark-mark.ensures.told c.in_ok-image.ensures.image (c.in-Err.ensures.checked ∙ ap (λ (n : ℕ). Some n) place));
    }
