use Rattle.std.proofs.Common.{List, sym, ap, ◌∙◌}
use Rattle.file_model.specs.declared.descriptors.Descriptor.{Descriptor}
use Rattle.file_model.specs.Selections.{chosen}
use Rattle.binary_commands.proofs.GivesLemmas.{tells_ok}
use Rattle.binary_commands.proofs.SelectingLemmas.{select_bad, select_long, select_none, select_found}
use Rattle.binary_commands.proofs.selecting.try_select.Goals as goal

pub returns-then-not-has_select_parameters-clause-tells : goal.returns-then-not-has_select_parameters-clause-tells
returns-then-not-has_select_parameters-clause-tells c = λ state told.
    select_bad state c.args.selection.now c.args.command.now (sym c.has_select_parameters.ensures ∙ c.if-not-has_select_parameters.true)

pub returns-then-not-has_select_length-clause-tells : goal.returns-then-not-has_select_length-clause-tells
returns-then-not-has_select_length-clause-tells c = λ state told.
    select_long state c.args.selection.now c.args.command.now (sym c.has_select_parameters.ensures ∙ c.if-not-has_select_parameters.false) (sym c.has_select_length.ensures ∙ c.if-not-has_select_length.true)

pub returns-in-Some-clause-tells : goal.returns-in-Some-clause-tells
returns-in-Some-clause-tells c = λ state told.
    tells_ok _ _ _ _
    (select_found state c.args.selection.now c.args.command.now c.in-Some.file (sym c.has_select_parameters.ensures ∙ c.if-not-has_select_parameters.false) (sym c.has_select_length.ensures ∙ c.if-not-has_select_length.false)
    (ap (λ (files : List Descriptor). chosen files c.args.selection.now c.args.command.now) told.files ∙ sym c.chosen.ensures.value ∙ c.in-Some.is))
    (c.answer_selected.ensures.outcome state told)

pub returns-in-None-clause-tells : goal.returns-in-None-clause-tells
returns-in-None-clause-tells c = λ state told.
    select_none state c.args.selection.now c.args.command.now (sym c.has_select_parameters.ensures ∙ c.if-not-has_select_parameters.false) (sym c.has_select_length.ensures ∙ c.if-not-has_select_length.false)
    (ap (λ (files : List Descriptor). chosen files c.args.selection.now c.args.command.now) told.files ∙ sym c.chosen.ensures.value ∙ c.in-None.is)
