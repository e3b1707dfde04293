use Rattle.std.proofs.Common.{ℕ, ◌+◌, ◌≤◌, length, subst, sym, nat_le}
use Rattle.card_state.specs.Places.{data_place, data_end}
use Rattle.layout_section.proofs.LayingLemmas.{held_total, fits_before}
use Rattle.layout_section.proofs.section.Section.spelled.Goals as goal

pub returns-clause-fits : goal.returns-clause-fits
returns-clause-fits c =
    let parts = held_total c.self.inside.files c.spelled-3.result.entries c.spelled-3.result.bytes.now c.spelled-3.ensures in
    subst (λ (n : ℕ). data_place + length c.spelled-3.result.bytes.now ≤ data_end (nat_le n 59520)) (sym c.total-wide.ensures.value) (fits_before _ (length c.spelled-3.result.bytes.now) parts.0 parts.1)
