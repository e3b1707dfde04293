-- Each keyword's function reads its form.
use Rattle.script_form.proofs.reading.form.Goals as goal

pub returns-in-Ef : goal.returns-in-Ef
returns-in-Ef c = rw c.in-Ef.is c.file.ensures

pub returns-in-Fill : goal.returns-in-Fill
returns-in-Fill c = rw c.in-Fill.is c.fill.ensures

pub returns-in-Start : goal.returns-in-Start
returns-in-Start c = rw c.in-Start.is c.last.ensures

pub returns-in-Apdu : goal.returns-in-Apdu
returns-in-Apdu c = rw c.in-Apdu.is c.apdu.ensures

pub returns-in-Tpdu : goal.returns-in-Tpdu
returns-in-Tpdu c = rw c.in-Tpdu.is c.tpdu.ensures

pub returns-in-Reset : goal.returns-in-Reset
returns-in-Reset c = rw c.in-Reset.is c.last-in-Reset.ensures

pub returns-in-Df : goal.returns-in-Df
returns-in-Df c = rw c.in-Df.is c.directory.ensures

pub returns-in-Rec : goal.returns-in-Rec
returns-in-Rec c = rw c.in-Rec.is c.record.ensures

pub returns-in-Pin : goal.returns-in-Pin
returns-in-Pin c = rw c.in-Pin.is c.pin.ensures

pub returns-in-Row : goal.returns-in-Row
returns-in-Row c = rw c.in-Row.is c.row.ensures

pub returns-in-Cut : goal.returns-in-Cut
returns-in-Cut c = rw c.in-Cut.is c.cut.ensures

pub returns-in-Fail : goal.returns-in-Fail
returns-in-Fail c = rw c.in-Fail.is c.fail.ensures

pub returns-in-ReadFail : goal.returns-in-ReadFail
returns-in-ReadFail c = rw c.in-ReadFail.is c.read_fail.ensures

pub returns-in-User : goal.returns-in-User
returns-in-User c = rw c.in-User.is c.user.ensures

pub returns-in-Net : goal.returns-in-Net
returns-in-Net c = rw c.in-Net.is c.network.ensures

pub returns-in-Time : goal.returns-in-Time
returns-in-Time c = rw c.in-Time.is c.time.ensures

pub returns-in-Cmd : goal.returns-in-Cmd
returns-in-Cmd c = rw c.in-Cmd.is c.proactive.ensures
