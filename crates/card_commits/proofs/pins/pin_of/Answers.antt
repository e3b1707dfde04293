use Rattle.std.proofs.lemmas.Option.{slice_get_within, get_or_from_slice_get}
use Rattle.std.proofs.Common.{sym, subst}
use Rattle.card_state.specs.Used.{HasPin}
use Rattle.card_commits.specs.Entries.{pin_at}
use Rattle.card_commits.proofs.PinsLemmas.{pin_there}
use Rattle.card_commits.proofs.pins.pin_of.Goals as goal

pub bounds-all_pins-from : goal.bounds-all_pins-from
bounds-all_pins-from c = rw (c.from.ensures, c.all_pins.ensures.value) (slice_get_within c.args.loaded.now.pins c.args.slot _ (pin_there c.args.loaded.now c.args.slot c.requires).there)

pub returns-clause-there : goal.returns-clause-there
returns-clause-there c =
    let has = pin_there c.args.loaded.now c.args.slot c.requires in
    rw (c.from.ensures, c.all_pins.ensures.value) (subst (HasPin c.args.loaded.now c.args.slot) (sym (get_or_from_slice_get c.args.loaded.now.pins c.args.slot (pin_at c.args.loaded.now c.args.slot) _ has.there)) has)
