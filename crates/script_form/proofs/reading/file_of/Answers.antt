-- Each structure's function reads its form.
use Rattle.script_form.proofs.reading.file_of.Goals as goal

pub returns-in-Transparent : goal.returns-in-Transparent
returns-in-Transparent c = rw c.in-Transparent.is c.transparent.ensures

pub returns-in-Linear : goal.returns-in-Linear
returns-in-Linear c = rw c.in-Linear.is c.linear.ensures

pub returns-in-Cyclic : goal.returns-in-Cyclic
returns-in-Cyclic c = rw c.in-Cyclic.is c.cyclic.ensures
