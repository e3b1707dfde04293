use Rattle.card_state.proofs.HoldingLemmas.{files_hold, keys_are_own}
use Rattle.card_state.proofs.SoundStandsLemmas.{standing_sound, sound_stands}
use Rattle.layout_laws.proofs.StandsLemmas.{card, state_is}
use Rattle.layout_laws.proofs.KnownLemmas.{standing_of_table, file_of_number, pin_of_key, row_of_shelf, texts_of_table, ranges_free, file_entry, pin_entry, row_entry}
use Rattle.layout_laws.proofs.standing.cards_are_known.Goals as goal

pub returns-clause-card : goal.returns-clause-card
returns-clause-card c = λ mark content table state stands. (
  card standing_sound sound_stands mark content table state stands,
  state_is standing_sound sound_stands mark content table state stands,
)

pub returns-clause-table : goal.returns-clause-table
returns-clause-table c = standing_of_table standing_sound c.states_are_of_entries.ensures.tables

pub returns-clause-files : goal.returns-clause-files
returns-clause-files c = λ mark content table state number node stands has.
    file_entry standing_sound sound_stands mark content table state stands c.states_are_of_entries.ensures.files files_hold number node has

pub returns-clause-pins : goal.returns-clause-pins
returns-clause-pins c = λ mark content table state slot pin stands has.
    pin_entry standing_sound sound_stands mark content table state stands c.states_are_of_entries.ensures.pins keys_are_own slot pin has

pub returns-clause-rows : goal.returns-clause-rows
returns-clause-rows c = λ mark content table state shelf row stands has.
    row_entry standing_sound sound_stands mark content table state stands c.states_are_of_entries.ensures.rows shelf row has

pub returns-clause-names : goal.returns-clause-names
returns-clause-names c = record {
  numbers = file_of_number standing_sound c.states_are_of_entries.ensures.files;
  keys = pin_of_key standing_sound c.states_are_of_entries.ensures.pins keys_are_own;
  shelves = row_of_shelf standing_sound c.states_are_of_entries.ensures.rows;
}

pub returns-clause-texts : goal.returns-clause-texts
returns-clause-texts c = texts_of_table standing_sound c.states_are_of_entries.ensures.texts

pub returns-clause-free : goal.returns-clause-free
returns-clause-free c = ranges_free standing_sound c.states_are_of_entries.ensures.from.files
