use Rattle.card_state.proofs.FittingLemmas.{file_fits, file_anew_fits, without_file, row_fits, installed_row_fits, row_anew_fits, without_row}
use Rattle.card_state.proofs.staying_sound.states_stay_sound.Goals as goal

pub returns-clause-file : goal.returns-clause-file
returns-clause-file c = file_fits

pub returns-clause-no_file : goal.returns-clause-no_file
returns-clause-no_file c = λ state number sound not_mf empty. without_file state number sound empty not_mf

pub returns-clause-row : goal.returns-clause-row
returns-clause-row c = row_fits

pub returns-clause-installed : goal.returns-clause-installed
returns-clause-installed c = installed_row_fits

pub returns-clause-row_anew : goal.returns-clause-row_anew
returns-clause-row_anew c = row_anew_fits

pub returns-clause-no_row : goal.returns-clause-no_row
returns-clause-no_row c = λ state shelf sound. without_row state sound shelf

pub returns-clause-file_anew : goal.returns-clause-file_anew
returns-clause-file_anew c = file_anew_fits
