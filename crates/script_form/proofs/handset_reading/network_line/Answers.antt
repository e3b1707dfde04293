-- Each form of what the network does.
use Rattle.script_form.proofs.handset_reading.network_line.Goals as goal

pub returns-in-Place : goal.returns-in-Place
returns-in-Place c = rw c.in-Place.is c.place.ensures

pub returns-in-Poll : goal.returns-in-Poll
returns-in-Poll c = rw c.in-Poll.is c.last.ensures

pub returns-in-Echo : goal.returns-in-Echo
returns-in-Echo c = rw c.in-Echo.is c.echo.ensures

pub returns-in-Lose : goal.returns-in-Lose
returns-in-Lose c = rw c.in-Lose.is c.lose.ensures
