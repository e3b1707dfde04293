use Rattle.layout_section.proofs.MadeLemmas.{lines_are_made, one_more_is_made, refused_is_not_made, faults_stay}
use Rattle.layout_section.proofs.laws.sections_are_made.Goals as goal

pub returns-clause-taken : goal.returns-clause-taken
returns-clause-taken c = lines_are_made

pub returns-clause-one_more : goal.returns-clause-one_more
returns-clause-one_more c = one_more_is_made

pub returns-clause-refused : goal.returns-clause-refused
returns-clause-refused c = refused_is_not_made

pub returns-clause-faults : goal.returns-clause-faults
returns-clause-faults c = faults_stay
