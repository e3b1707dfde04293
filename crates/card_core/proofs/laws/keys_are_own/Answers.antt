use Rattle.card_core.proofs.laws.keys_are_own.Goals as goal

pub returns : goal.returns
returns c = λ store_mark told table agrees. c.standing_keys_are_own.ensures store_mark agrees.content table agrees.state agrees.stands
