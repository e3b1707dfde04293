-- What is known of a memory that stands for a state, and of a store whose table agrees.
use Rattle.std.proofs.Common.{◌≡◌, ℕ, List, Option, Some, None, option_map, sym, ◌∙◌, ap, subst, IfSome}
use Rattle.std.proofs.lemmas.Option.{same_Some, none-some}
use Rattle.card_state.specs.declared.entries.Loaded.{Loaded}
use Rattle.card_state.specs.Persistent.{Persistent}
use Rattle.card_state.specs.Soundness.{IsSound}
use Rattle.card_state.specs.Standing.{Stands, standing, Agrees}
use Rattle.card_state.specs.States.{state_of}
use Rattle.file_model.specs.Files.{descriptors_in, descriptors_of}
use Rattle.file_model.specs.Laws.{TablesTellFiles}
use Rattle.layout_laws.specs.Known.{StandingIsCard, StandingIsOfTable}
use Rattle.layout_laws.specs.Stores.{AgreeingStands}

module _ (card : StandingIsCard) (of_table : StandingIsOfTable) (mark : ℕ) (content : List ℕ) (table : Loaded) (state : Persistent) (stands : Stands mark content table state) where
  pub same_state : state ≡ state_of table content
  same_state = (of_table mark content table state stands).0

  pub sound_state : IsSound state
  sound_state = let known = card mark content table state stands in subst IsSound (sym known.1) known.0.sound

  pub listed : TablesTellFiles → descriptors_in state ≡ descriptors_of table
  listed tells = ap descriptors_in same_state ∙ tells table content (subst IsSound same_state sound_state)

-- the state that a store stands for is that of a memory that the table is of
pub stands_here : StandingIsOfTable → AgreeingStands → (mark : ℕ) (told : Option (List ℕ)) (table : Loaded) (agrees : Agrees mark told table) (state : Persistent) → standing mark told ≡ Some state
    → Stands mark agrees.content table state
stands_here of_table known mark told table agrees state is = of told agrees.told_is (sym is ∙ known mark told table agrees) where
  of : (o : Option (List ℕ)) → IfSome o (λ held. held ≡ agrees.content) → Some state ≡ option_map (state_of table) o → Stands mark agrees.content table state
  of None held same = absurd (none-some state (sym same))
  of (Some held) here same =
      subst (Stands mark agrees.content table)
      ((of_table mark agrees.content table agrees.state agrees.stands).0 ∙ ap (state_of table) (sym here) ∙ sym (same_Some state (state_of table held) same)) agrees.stands
