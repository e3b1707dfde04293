use Rattle.std.proofs.Common.{List, ℕ, string_bytes, subst}
use Rattle.script_form.specs.Reads.{Reads}
use Rattle.command_line.specs.OptionForms.{AreOptions}
use Rattle.command_line.proofs.WordListLemmas.{two_and_rest}
use Rattle.command_line.proofs.OptionFormsLemmas.{none_read, one_unread, options_read, behind_unread}
use Rattle.command_line.proofs.options.+read_options.Goals as goal

pub returns-in-empty : goal.returns-in-empty
returns-in-empty t c = none_read string_bytes c.args.before c.args.words.now c.in-empty.len_below

pub returns-in-Some : goal.returns-in-Some
returns-in-Some t c =
    subst (λ (l : List (List ℕ)). Reads (AreOptions c.args.before l) c.with_option.result)
    (two_and_rest string_bytes c.args.words.now _ _ _ _ c.in-len2-up.len_at_least (c.as_str.ensures.value, c.name-item.is) (c.as_str-in-Some.ensures.value, c.value-item.is))
    (options_read c.args.before _ _ _ c.in-Some.options c.with_option.result c.in-Some.ensures c.with_option.ensures)

pub returns-in-None : goal.returns-in-None
returns-in-None t c = behind_unread string_bytes c.args.before c.args.words.now c.in-len2-up.len_at_least c.in-None.ensures

pub returns-in_default : goal.returns-in_default
returns-in_default t c = one_unread string_bytes c.args.before c.args.words.now c.in_default.len_at_least c.in_default.len_below
