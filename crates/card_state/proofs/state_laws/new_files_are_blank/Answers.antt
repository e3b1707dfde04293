use Rattle.card_state.proofs.NewFileLemmas.{new_file_is_blank}
use Rattle.card_state.proofs.state_laws.new_files_are_blank.Goals as goal

pub returns : goal.returns
returns c = new_file_is_blank
