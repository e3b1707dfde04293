-- One step after the other leaves the boxes of others alone.
use Rattle.std.proofs.Common.{◌∙◌, ℕ, List, Option}
use Rattle.card_state.specs.declared.entries.Loaded.{Loaded}
use Rattle.card_commits.specs.Entries.{HasRowOn}
use Rattle.applet_trait.specs.Minds.{AppletState}
use Rattle.proactive_handler.specs.Boxes.{LeavesOthers}

-- one thing after the other, where rows stay
pub others_then : (middle new : Loaded) (first then last : List (Option AppletState)) → ((shelf : ℕ) → HasRowOn middle shelf → HasRowOn new shelf) → LeavesOthers middle first then → LeavesOthers new then last → LeavesOthers new first last
others_then middle new first then last stay before after = λ shelf none. after shelf none ∙ before shelf (λ has. none (stay shelf has))
