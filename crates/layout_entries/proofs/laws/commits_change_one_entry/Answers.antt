use Rattle.layout_entries.proofs.CommitsChangeOneEntryLemmas.{node_written, pin_written, row_written, long_row_written, kept_written, kept_apart_written, sequence_written, version_written, data_written}
use Rattle.layout_entries.proofs.laws.commits_change_one_entry.Goals as goal

pub returns-clause-node : goal.returns-clause-node
returns-clause-node c = λ content number from to node long low fields ranges. node_written content long number from to node low fields ranges

pub returns-clause-pin : goal.returns-clause-pin
returns-clause-pin c = λ content slot from to pin long low fields ranges. pin_written content long slot from to pin low fields ranges

pub returns-clause-row : goal.returns-clause-row
returns-clause-row c = λ content shelf from to row long low fields ranges short. row_written content long shelf from to row low fields ranges short

pub returns-clause-long_row : goal.returns-clause-long_row
returns-clause-long_row c = λ content shelf from row long is low fields kept_too ranges many. long_row_written content long shelf from row is low fields kept_too ranges many

pub returns-clause-kept : goal.returns-clause-kept
returns-clause-kept c = record {
  whole = λ content shelf to row long low few enough inside. kept_written content long shelf to row low few enough inside;
  apart = λ content shelf row long is low few. kept_apart_written content long shelf row is low few;
}

pub returns-clause-sequence : goal.returns-clause-sequence
returns-clause-sequence c = λ content next long low. sequence_written content long next low

pub returns-clause-version : goal.returns-clause-version
returns-clause-version c = λ content wide long. version_written content long wide

pub returns-clause-files : goal.returns-clause-files
returns-clause-files c = λ content bytes place long from to. data_written content long place bytes from to
