-- Each form of what the user does.
use Rattle.script_form.proofs.handset_reading.user_line.Goals as goal

pub returns-in-Confirm : goal.returns-in-Confirm
returns-in-Confirm c = rw c.in-Confirm.is c.last.ensures

pub returns-in-End : goal.returns-in-End
returns-in-End c = rw c.in-End.is c.last-in-End.ensures

pub returns-in-Back : goal.returns-in-Back
returns-in-Back c = rw c.in-Back.is c.last-in-Back.ensures

pub returns-in-Wait : goal.returns-in-Wait
returns-in-Wait c = rw c.in-Wait.is c.last-in-Wait.ensures

pub returns-in-Enter : goal.returns-in-Enter
returns-in-Enter c = rw c.in-Enter.is c.typing.ensures

pub returns-in-Pick : goal.returns-in-Pick
returns-in-Pick c = rw c.in-Pick.is c.pick.ensures

pub returns-in-Press : goal.returns-in-Press
returns-in-Press c = rw c.in-Press.is c.last-in-Press.ensures

pub returns-in-Idle : goal.returns-in-Idle
returns-in-Idle c = rw c.in-Idle.is c.last-in-Idle.ensures

pub returns-in-Dial : goal.returns-in-Dial
returns-in-Dial c = rw c.in-Dial.is c.dial.ensures
