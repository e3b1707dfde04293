use Rattle.std.proofs.Common.{string_bytes}
use Rattle.command_line.proofs.OptionFormsLemmas.{few_options}
use Rattle.command_line.proofs.options.options_of.Goals as goal

pub returns-then-words-gt-MOST_WORDS : goal.returns-then-words-gt-MOST_WORDS
returns-then-words-gt-MOST_WORDS c = few_options string_bytes c.args.before c.args.words.now c.if-words-gt-MOST_WORDS.true
