use Rattle.card_core.proofs.KeysSeenLemmas.{seen_of_slots}
use Rattle.card_core.proofs.keys.keys_seen.Goals as goal

pub returns : goal.returns
returns c =
    seen_of_slots c.args.loaded.now c.args.verified.now c.all_pins.result.now _ c.all_pins.ensures.value c.all_pins.ensures.long c.requires.own c.is_met-pin1.result c.is_met-pin2.result c.is_met-adm1.result c.is_met-pin1.ensures c.is_met-pin2.ensures c.is_met-adm1.ensures
