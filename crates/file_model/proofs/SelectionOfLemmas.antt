-- What is selected once a file is, case by case.
use Rattle.std.proofs.Common.{◌≡◌, true, false, Some, None}
use Rattle.std.proofs.lemmas.Bool.{cond-true, cond-false}
use Rattle.file_model.specs.declared.descriptors.Descriptor.{Descriptor}
use Rattle.file_model.specs.Files.{is_df}
use Rattle.file_model.specs.Selections.{selection_of}

pub selection_of_df : (file : Descriptor) → is_df file ≡ true → selection_of file ≡ record { df = file.number; ef = None; pointer = None }
unfolding selection_of
selection_of_df file is = cond-true (is_df file) (record { df = file.number; ef = None; pointer = None }) (record { df = file.parent; ef = Some file.number; pointer = None }) is

pub selection_of_ef : (file : Descriptor) → is_df file ≡ false → selection_of file ≡ record { df = file.parent; ef = Some file.number; pointer = None }
unfolding selection_of
selection_of_ef file is = cond-false (is_df file) (record { df = file.number; ef = None; pointer = None }) (record { df = file.parent; ef = Some file.number; pointer = None }) is
