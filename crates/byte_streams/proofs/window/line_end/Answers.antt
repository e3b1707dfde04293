use Rattle.byte_streams.proofs.WindowLemmas.{ends_found}
use Rattle.byte_streams.proofs.window.line_end.Goals as goal

pub returns : goal.returns
returns c = ends_found c.args.bytes.now c.memchr.result c.memchr.ensures
