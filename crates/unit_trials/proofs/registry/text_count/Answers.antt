use Rattle.std.proofs.Common.{◌≡◌, sym, ◌∙◌, ap, rules, List, count_by, []}
use Rattle.card_state.specs.Persistent.{Registration}
use Rattle.card_state.specs.Sections.{has_text}
use Rattle.card_state.specs.StateLaws.{text_count_of}
use Rattle.unit_trials.proofs.registry.text_count.Goals as goal

pub returns : goal.returns
returns c =
    let counted : c.count.result ≡ text_count_of c.args.table.now = search rules in
    counted ∙ sym (c.states_are_of_entries.ensures.texts c.args.table.now []) ∙ ap (λ (rows : List Registration). count_by has_text rows) (c.states_are_of_entries.ensures.tables c.args.table.now []).rows
