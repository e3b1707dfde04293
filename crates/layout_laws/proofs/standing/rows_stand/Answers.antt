-- A memory stands where it is well formed and its state sound, so after each commit of a row or of what it keeps both are shown anew.
use Rattle.card_state.proofs.SoundStandsLemmas.{standing_sound, sound_stands}
use Rattle.layout_laws.proofs.StandingLawsLemmas.{row_removed, events_changed, registered, deregistered, kept_stands, apart_stands}
use Rattle.layout_laws.proofs.WritingLemmas.{row_changed, row_added, row_installed, row_reread, sequence_changed}
use Rattle.layout_laws.proofs.standing.rows_stand.Goals as goal

pub returns-clause-changed : goal.returns-clause-changed
returns-clause-changed c = λ mark content table state shelf from to old new stands change sound.
    let pieces = c.pieces_change_their_bytes.ensures in
    row_changed standing_sound sound_stands pieces.beside pieces.around mark content table state stands
    c.entries_are_read_back.ensures.rows c.commits_change_one_row.ensures.changed shelf from to old new change sound

pub returns-clause-added : goal.returns-clause-added
returns-clause-added c = λ mark content table state shelf row stands whole sound.
    let pieces = c.pieces_change_their_bytes.ensures in
    row_added standing_sound sound_stands pieces.beside pieces.around mark content table state stands
    c.entries_are_read_back.ensures.rows c.commits_change_one_row.ensures.added shelf row whole sound

pub returns-clause-installed : goal.returns-clause-installed
returns-clause-installed c = λ mark content table state shelf next row stands whole low sound.
    let pieces = c.pieces_change_their_bytes.ensures in
    row_installed standing_sound sound_stands pieces.beside pieces.around mark content table state stands
    c.entries_are_read_back.ensures.rows c.commits_change_one_row.ensures.installed shelf next row whole low sound

pub returns-clause-sequence : goal.returns-clause-sequence
returns-clause-sequence c = λ mark content table state next stands low more.
    let pieces = c.pieces_change_their_bytes.ensures in
    sequence_changed standing_sound sound_stands pieces.beside pieces.around mark content table state stands c.commits_change_one_row.ensures.sequence next low more

pub returns-clause-reread : goal.returns-clause-reread
returns-clause-reread c = λ mark content table state shelf from to row stands low order inside.
    let pieces = c.pieces_change_their_bytes.ensures in
    row_reread standing_sound sound_stands pieces.beside pieces.around mark content table state stands
    c.commits_change_one_row.ensures.reread shelf from to row low order inside

pub returns-clause-removed : goal.returns-clause-removed
returns-clause-removed c = λ mark content table state shelf row stands has.
    let pieces = c.pieces_change_their_bytes.ensures in
    row_removed standing_sound sound_stands mark content table state stands pieces.beside pieces.around
    c.entries_are_read_back.ensures.rows c.commits_change_one_row.ensures.changed shelf row has

pub returns-clause-codes : goal.returns-clause-codes
returns-clause-codes c = record {
  events = λ mark content table state shelf events row stands has low call_control.
      let pieces = c.pieces_change_their_bytes.ensures in
      events_changed standing_sound sound_stands mark content table state stands pieces.beside pieces.around
      c.entries_are_read_back.ensures.rows c.commits_change_one_row.ensures.changed shelf row has events low call_control;
  registered = λ mark content table state shelf code bit events row stands has low known sets call_control.
      let pieces = c.pieces_change_their_bytes.ensures in
      registered standing_sound sound_stands mark content table state stands pieces.beside pieces.around
      c.entries_are_read_back.ensures.rows c.commits_change_one_row.ensures.changed shelf row has c.event_bits_are_codes.ensures.set code bit events low known sets call_control;
  deregistered = λ mark content table state shelf code bit events row stands has low known clears.
      let pieces = c.pieces_change_their_bytes.ensures in
      deregistered standing_sound sound_stands mark content table state stands pieces.beside pieces.around
      c.entries_are_read_back.ensures.rows c.commits_change_one_row.ensures.changed shelf row has c.event_bits_are_codes.ensures.clear code bit events low known clears;
}

pub returns-clause-kept : goal.returns-clause-kept
returns-clause-kept c = record {
  whole = λ mark content table state shelf to kept row stands has few enough inside.
      let pieces = c.pieces_change_their_bytes.ensures in
      kept_stands standing_sound sound_stands mark content table state stands pieces.beside pieces.around shelf row has
      c.entries_are_read_back.ensures.rows c.commits_change_one_row.ensures.kept to kept few enough inside;
  apart = λ mark content table state shelf old new stands has is few.
      let pieces = c.pieces_change_their_bytes.ensures in
      apart_stands standing_sound sound_stands mark content table state stands pieces.beside pieces.around shelf old has
      c.commits_change_one_row.ensures.apart new is few;
}
