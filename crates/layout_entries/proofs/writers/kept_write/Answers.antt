use Rattle.std.proofs.Common.{◌≡◌, ◌-◌, take, drop, length, sym, arith, take_all, length-drop}
use Rattle.layout_entries.proofs.writers.kept_write.Goals as goal

pub returns-clause-ok : goal.returns-clause-ok
returns-clause-ok c =
    let rest : take (length c.as_slice.result.now - 32) (drop 32 c.as_slice.result.now) ≡ drop 32 c.as_slice.result.now = take_all _ _ (omega (arith, length-drop 32 c.as_slice.result.now)) in
    rw (sym c.as_slice.ensures.value, sym c.place_of_kept.ensures, sym rest) c.add.ensures.ok
