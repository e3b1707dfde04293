use Rattle.std.proofs.Common.{ℕ, ◌+◌, ◌∷◌, ◌++◌, take, drop, ap, ◌∙◌}
use Rattle.toolkit_commands.specs.Reading.{proactive_of}
use Rattle.toolkit_commands.proofs.RenumberedLemmas.{number_changed, details_changed, read_changed}
use Rattle.toolkit_commands.proofs.numbering.renumber.Goals as goal

-- the bytes are written with the number at its place
pub returns-clause-spelled : goal.returns-clause-spelled
returns-clause-spelled c = λ command old is.
    let bytes = c.args.bytes.now in let number = c.args.number in
    c.write_changed.ensures ∙ ap (λ (place : ℕ). take place bytes ++ number ∷ drop (place + 1) bytes) c.place_of_number-place.ensures
    ∙ number_changed bytes command old number c.requires.fits is

pub returns-clause-details : goal.returns-clause-details
returns-clause-details c = λ command old is.
    details_changed c.args.bytes.now command old c.args.number c.place_of_number-place.result c.requires.fits is c.place_of_number-place.ensures

pub returns-clause-read : goal.returns-clause-read
returns-clause-read c = λ command old is read.
    let bytes = c.args.bytes.now in let number = c.args.number in
    ap proactive_of (c.write_changed.ensures ∙ ap (λ (place : ℕ). take place bytes ++ number ∷ drop (place + 1) bytes) c.place_of_number-place.ensures)
    ∙ read_changed bytes command old number c.requires.fits is read
