use Rattle.layout_entries.proofs.PaddedLemmas.{put_by_parts}
use Rattle.layout_entries.proofs.spelling.put_padded.Goals as goal

pub returns : goal.returns
returns c = put_by_parts c.args.width c.min-shown.result c.args.part.now _ _ _ c.requires.short c.min-shown.ensures c.put.ensures c.put-2.ensures
