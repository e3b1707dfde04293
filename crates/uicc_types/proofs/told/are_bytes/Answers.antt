use Rattle.std.proofs.Common.{◌<◌, ◌^◌, arith}
use Rattle.std.proofs.lemmas.List.Elements.{All-from_get_or}
use Rattle.uicc_types.proofs.told.are_bytes.Goals as goal

pub returns : goal.returns
returns c = All-from_get_or (λ byte. byte < 2 ^ 8) c.args.slice.now 0 (λ i there. omega (arith, c.type_inv.slice i))
