use Rattle.card_state.proofs.StateLawsLemmas.{files_found, pins_found, rows_found, files_come, pins_come, rows_come, of_table, fields_same, texts_counted}
use Rattle.card_state.proofs.state_laws.states_are_of_entries.Goals as goal

pub returns : goal.returns
returns c = record {
  files = files_found;
  pins = pins_found;
  rows = rows_found;
  from = record { files = files_come; pins = pins_come; rows = rows_come };
  tables = of_table;
  fields = fields_same;
  texts = texts_counted;
}
