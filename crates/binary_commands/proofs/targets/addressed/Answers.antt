use Rattle.std.proofs.Common.{ℕ, Option, None, sym, ◌∙◌, subst, IfOk, Result}
use Rattle.list_laws.proofs.IfSomeLemmas.{if_some_at}
use Rattle.uicc_types.specs.declared.answers.StatusWord.{StatusWord}
use Rattle.file_model.specs.declared.descriptors.Descriptor.{Descriptor}
use Rattle.file_model.specs.Files.{descriptors_of}
use Rattle.file_model.specs.Selections.{IsSelection}
use Rattle.file_model.specs.Outcomes.{pointer_before, worked_on}
use Rattle.file_tree.specs.Tables.{IsNumbered}
use Rattle.binary_commands.proofs.OptionLemmas.{if_found}
use Rattle.binary_commands.proofs.WorkedOnLemmas.{lawful_by_short}
use Rattle.binary_commands.proofs.targets.addressed.Goals as goal

pub returns-in-Some-clause-lawful : goal.returns-in-Some-clause-lawful
returns-in-Some-clause-lawful c =
    subst (λ (short : Option ℕ). IfOk c.ok_or.result (λ file. IsSelection (descriptors_of c.args.loaded.now) (worked_on c.args.selection.now file (pointer_before c.args.selection.now short)))) (sym c.in-Some.is)
    (subst (λ (r : Result Descriptor StatusWord). IfOk r (λ file. IsSelection (descriptors_of c.args.loaded.now) (worked_on c.args.selection.now file None))) (sym c.ok_or.ensures.value)
    (if_found c.first_file.result _ _ (λ file is.
    lawful_by_short (descriptors_of c.args.loaded.now) c.args.selection.now c.in-Some.short file c.requires.selected (sym c.first_file.ensures.value ∙ is)
    (if_some_at c.first_file.result (IsNumbered (descriptors_of c.args.loaded.now)) file c.first_file.ensures.numbered is))))
