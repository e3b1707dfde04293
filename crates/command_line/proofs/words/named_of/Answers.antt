use Rattle.std.proofs.Common.{string_bytes, map}
use Rattle.command_line.proofs.RequestLemmas.{named_request, no_mode, no_options}
use Rattle.command_line.proofs.words.named_of.Goals as goal

pub returns-in-Some-mode_named : goal.returns-in-Some-mode_named
returns-in-Some-mode_named c =
    rw c.devices_of.ensures (named_request c.args.first.now (map string_bytes c.args.words.now) c.in-Some-mode_named.mode c.in-Some.options c.requires.not_load c.requires.not_bip c.in-Some.ensures c.in-Some-mode_named.ensures)

pub returns-in-None : goal.returns-in-None
returns-in-None c = no_options c.args.first.now (map string_bytes c.args.words.now) c.requires.not_load c.requires.not_bip c.in-None.ensures

pub returns-in-None-mode_named : goal.returns-in-None-mode_named
returns-in-None-mode_named c =
    no_mode c.args.first.now (map string_bytes c.args.words.now) c.in-Some.options c.requires.not_load c.requires.not_bip c.in-Some.ensures c.in-None-mode_named.ensures
