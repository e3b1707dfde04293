-- The table of a mounted card is that of a card; a card's is that of a sound state, and its files are full of records.
use Rattle.std.proofs.Common.{ap, ◌∙◌, subst}
use Rattle.card_state.specs.declared.entries.Loaded.{Loaded}
use Rattle.card_state.specs.Memory.{Memory, IsMounted}
use Rattle.card_state.specs.Soundness.{IsSound}
use Rattle.card_state.specs.States.{state_of}
use Rattle.card_state.proofs.HoldingLemmas.{records_are_full}
use Rattle.card_state.proofs.SoundStandsLemmas.{standing_sound}
use Rattle.file_tree.specs.Tables.{IsCardTable, HasFullFiles}

pub mounted_table : (memory : Memory) → IsMounted memory → IsCardTable memory.table
mounted_table memory is = record { store_mark = memory.mark; content = is.agrees.content; state = is.agrees.state; stands = is.agrees.stands }

pub table_sound : (table : Loaded) (is : IsCardTable table) → IsSound (state_of table is.content)
table_sound table is =
    let known = standing_sound is.store_mark is.content is.state is.stands.long is.stands.decoded in
    subst IsSound (known.0 ∙ ap (λ (t : Loaded). state_of t is.content) is.stands.entries) known.1

pub files_are_full : (table : Loaded) → IsCardTable table → HasFullFiles table
files_are_full table is = record { full = λ number node has records. records_are_full is.store_mark is.content table is.state number node is.stands has records }
