use Rattle.std.proofs.Common.{ap, length, arith, length-append}
use Rattle.layout_entries.proofs.SpellingLemmas.{length-padded, row_by_parts}
use Rattle.layout_entries.proofs.spelling.spell_row.Goals as goal

pub returns-clause-long : goal.returns-clause-long
returns-clause-long c =
    omega (
      arith,
      ap length c.new-bytes.ensures,
      simp length-append at (ap length c.put.ensures),
      simp length-append at (ap length c.put-2.ensures),
      simp length-append at (ap length c.put-3.ensures),
      simp (length-append, length-padded) at (ap length c.put_counted.ensures),
      simp (length-append, length-padded) at (ap length c.put_counted-2.ensures),
    )

pub returns-clause-value : goal.returns-clause-value
returns-clause-value c =
    row_by_parts c.args.row.now c.from.ensures c.to_be_bytes.ensures c.to_be_bytes-2.ensures c.as_slice-text.ensures.value c.as_slice-kept.ensures.value
    c.new-bytes.ensures c.put.ensures c.put-2.ensures c.put-3.ensures c.put_counted.ensures c.put_counted-2.ensures
