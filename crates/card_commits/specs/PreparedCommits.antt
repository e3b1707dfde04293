-- What a commit over prepared bytes makes of a card.
use Rattle.std.specs.Prelude.{◌≡◌, ℕ, List, Option, option_map}
use Rattle.card_state.specs.declared.entries.Node.{Node}
use Rattle.card_state.specs.Memory.{Memory, held}
use Rattle.card_state.specs.Persistent.{Persistent}
use Rattle.card_state.specs.Standing.{Stands, standing, Agrees}
use Rattle.layout_entries.specs.Laws.{after}
use Rattle.layout_entries.specs.Spelling.{node_part}
use Rattle.layout_laws.specs.Changes.{with_node}

-- The store held `before` when the table was that of its card. Since then bytes of it were prepared, which changed nothing of
-- what it stands for, and it holds what it holds now. Once some bytes of an entry are written over that, it stands for the
-- changed state, and the table has this entry.
pub record CommitsOver (now : Memory) (number : ℕ) (node : Node) (from to : ℕ) (change : Persistent → Persistent) : Type 0 where
  pub before : Option (List ℕ)
  pub prepared : List ℕ → List ℕ
  pub agrees : Agrees now.mark before now.table
  pub now_is : now.told ≡ option_map prepared before
  pub same : held now ≡ standing now.mark before
  pub stands : Stands now.mark (after (node_part number node from to) (prepared agrees.content)) (with_node now.table number node) (change agrees.state)
