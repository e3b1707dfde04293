use Rattle.card_state.proofs.SoundStandsLemmas.{standing_sound}
use Rattle.layout_laws.proofs.StoresLemmas.{agreeing_stands, written_stands, one_of_both_stands, prepared_stands, torn_stands}
use Rattle.layout_laws.proofs.standing.stores_stand.Goals as goal

pub returns-clause-known : goal.returns-clause-known
returns-clause-known c = agreeing_stands standing_sound

pub returns-clause-written : goal.returns-clause-written
returns-clause-written c = written_stands

pub returns-clause-fault : goal.returns-clause-fault
returns-clause-fault c = one_of_both_stands

pub returns-clause-prepared : goal.returns-clause-prepared
returns-clause-prepared c = prepared_stands c.what_files_hold_stands.ensures.free

pub returns-clause-torn : goal.returns-clause-torn
returns-clause-torn c = torn_stands c.what_files_hold_stands.ensures.free
