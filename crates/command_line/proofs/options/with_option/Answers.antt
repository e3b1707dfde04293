use Rattle.command_line.proofs.OptionFormsLemmas.{store_read}
use Rattle.command_line.proofs.options.with_option.Goals as goal

pub returns-in-text : goal.returns-in-text
returns-in-text c = store_read c.args.name.now c.args.value.now c.args.place c.args.others c.with_store.result c.in-text.is c.with_store.ensures
