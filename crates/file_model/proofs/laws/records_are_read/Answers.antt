use Rattle.file_model.proofs.FindsWholePartsLemmas.{finds_whole_parts, spells_numbers}
use Rattle.file_model.proofs.laws.records_are_read.Goals as goal

pub returns-clause-parts : goal.returns-clause-parts
returns-clause-parts c = finds_whole_parts

pub returns-clause-numbers : goal.returns-clause-numbers
returns-clause-numbers c = spells_numbers
