use Rattle.std.proofs.Common.{string_bytes, map}
use Rattle.command_line.proofs.OptionFormsLemmas.{chosen_read, linked_unread, unread_chosen}
use Rattle.command_line.proofs.words.devices_named.Goals as goal

pub returns-in-Direct : goal.returns-in-Direct
returns-in-Direct c = rw c.devices_of.ensures (chosen_read c.args.before (map string_bytes c.args.words.now) c.in-Some.options c.in-Direct.is c.in-Some.ensures)

pub returns-in-T0 : goal.returns-in-T0
returns-in-T0 c = linked_unread c.args.before (map string_bytes c.args.words.now) c.in-Some.options c.in-T0.is c.in-Some.ensures

pub returns-in-None : goal.returns-in-None
returns-in-None c = unread_chosen c.args.before (map string_bytes c.args.words.now) c.in-None.ensures
