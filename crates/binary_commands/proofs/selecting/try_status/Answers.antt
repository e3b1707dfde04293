use Rattle.std.proofs.Common.{List, sym, ap, ◌∙◌}
use Rattle.file_model.specs.declared.descriptors.Descriptor.{Descriptor}
use Rattle.file_model.specs.declared.descriptors.Wanted.TheVariants.{Number}
use Rattle.file_model.specs.Files.{file_found}
use Rattle.binary_commands.proofs.GivesLemmas.{tells_ok}
use Rattle.binary_commands.proofs.SelectingLemmas.{status_bad, status_long, status_none, status_found}
use Rattle.binary_commands.proofs.selecting.try_status.Goals as goal

pub returns-then-not-has_status_parameters-clause-tells : goal.returns-then-not-has_status_parameters-clause-tells
returns-then-not-has_status_parameters-clause-tells c = λ state told.
    status_bad state c.args.selection.now c.args.command.now (sym c.has_status_parameters.ensures ∙ c.if-not-has_status_parameters.true)

pub returns-then-not-has_no_data-clause-tells : goal.returns-then-not-has_no_data-clause-tells
returns-then-not-has_no_data-clause-tells c = λ state told.
    status_long state c.args.selection.now c.args.command.now (sym c.has_status_parameters.ensures ∙ c.if-not-has_status_parameters.false) (sym c.has_no_data.ensures ∙ c.if-not-has_no_data.true)

pub returns-in-Some-clause-tells : goal.returns-in-Some-clause-tells
returns-in-Some-clause-tells c = λ state told.
    tells_ok _ _ _ _
    (status_found state c.args.selection.now c.args.command.now c.in-Some.df (sym c.has_status_parameters.ensures ∙ c.if-not-has_status_parameters.false) (sym c.has_no_data.ensures ∙ c.if-not-has_no_data.false)
    (ap (λ (files : List Descriptor). file_found files (Number c.args.selection.now.df)) told.files ∙ sym c.first_file.ensures.value ∙ c.in-Some.is))
    (c.answer_status.ensures.outcome state told)

pub returns-in-None-clause-tells : goal.returns-in-None-clause-tells
returns-in-None-clause-tells c = λ state told.
    status_none state c.args.selection.now c.args.command.now (sym c.has_status_parameters.ensures ∙ c.if-not-has_status_parameters.false) (sym c.has_no_data.ensures ∙ c.if-not-has_no_data.false)
    (ap (λ (files : List Descriptor). file_found files (Number c.args.selection.now.df)) told.files ∙ sym c.first_file.ensures.value ∙ c.in-None.is)
