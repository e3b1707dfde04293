use Rattle.card_laws.proofs.toolkit_laws.cards_go_on.Goals as goal
use Rattle.card_laws.proofs.GoesOnLemmas.{good_order, rows_left, told_left, answer_goes, events_go}
use Rattle.card_laws.proofs.RefusalsTakeNothingLemmas.{refusals_take_nothing}

pub returns-clause-good : goal.returns-clause-good
returns-clause-good c = good_order

pub returns-clause-answers : goal.returns-clause-answers
returns-clause-answers c = λ knows card bytes runs ready. (answer_goes c.installations_are_accepted.ensures c.installed_rows_are_sound.ensures knows runs card ready bytes).goes

pub returns-clause-refused : goal.returns-clause-refused
returns-clause-refused c = λ knows card bytes status runs ready refused. refusals_take_nothing c.installations_are_accepted.ensures c.installed_rows_are_sound.ensures c.sessions_stay_in_order.ensures knows card bytes status runs ready refused

pub returns-clause-events : goal.returns-clause-events
returns-clause-events c = λ knows card events runs ready can. events_go c.installations_are_accepted.ensures c.installed_rows_are_sound.ensures c.sessions_stay_in_order.ensures knows runs card events ready can

pub returns-clause-rows : goal.returns-clause-rows
returns-clause-rows c = λ card instruction apdu ready. rows_left c.installations_are_accepted.ensures c.installed_rows_are_sound.ensures card ready apdu instruction

pub returns-clause-telling : goal.returns-clause-telling
returns-clause-telling c = told_left
