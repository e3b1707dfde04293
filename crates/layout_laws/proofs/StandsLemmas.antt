-- What is known of a card that stands, and how a commit carries it over.
use Rattle.std.proofs.Common.{◌≡◌, ℕ, ◌+◌, ◌-◌, ◌≤◌, List, length, drop, slice_range, slice_index, Ok, sym, ◌∙◌, ap, subst, arith, length-take}
use Rattle.list_laws.proofs.PatchesLemmas.{length-patched}
use Rattle.card_state.specs.Standing.{state_in, Stands}
use Rattle.card_state.specs.declared.entries.Node.{Node}
use Rattle.card_state.specs.declared.entries.Loaded.{Loaded}
use Rattle.card_state.specs.Places.{memory_size}
use Rattle.card_state.specs.Decoding.{is_wide, node_bytes, table_of}
use Rattle.card_state.specs.Persistent.{Persistent}
use Rattle.card_state.specs.Soundness.{IsSound}
use Rattle.card_state.specs.Forms.{HasRightHead, IsWellFormed}
use Rattle.card_state.specs.SoundnessLaws.{StandingIsSound, SoundStands}
use Rattle.card_state.specs.Used.{HasNode}
use Rattle.layout_entries.specs.Spelling.{part_of}
use Rattle.layout_entries.specs.Laws.{after}
use Rattle.layout_laws.specs.Cards.{IsCard, Holds}
use Rattle.layout_laws.specs.Standing.{StandsForNoOther}
use Rattle.layout_laws.proofs.HasNodeLemmas.{node_seen, node_flag}

pub part_long : (content spelled : List ℕ) (place width from to : ℕ) → length content ≡ memory_size → from ≤ to → to ≤ width → place + width ≤ memory_size → length (after (part_of place spelled from to) content) ≡ memory_size
part_long content spelled place width from to long order inside ends =
    length-patched (place + from) (slice_range spelled from to) content (omega (arith, length-take (to - from) (drop from spelled))) ∙ long

module _ (is_sound : StandingIsSound) (sound_stands : SoundStands) (store_mark : ℕ) (content : List ℕ) (table : Loaded) (state : Persistent) (stands : Stands store_mark content table state) where
  pub state_is : state ≡ state_in content
  state_is = (is_sound store_mark content state stands.long stands.decoded).0

  pub sound : IsSound state
  sound = (is_sound store_mark content state stands.long stands.decoded).1

  pub card : IsCard content
  card = record { long = stands.long; sound = subst IsSound state_is sound }

  pub formed : IsWellFormed store_mark content
  formed = ((sound_stands store_mark content stands.long).0 (stands.decoded ∙ ap Ok state_is)).0

  pub wide_is : is_wide content ≡ table.wide
  unfolding table_of
  wide_is = ap (λ (t : Loaded). t.wide) stands.entries

  pub has_node : (number : ℕ) (node : Node) → HasNode table number node → HasNode (table_of content) number node
  has_node number node shows = subst (λ (t : Loaded). HasNode t number node) (sym stands.entries) shows

  pub right_head : (number : ℕ) (node : Node) → HasNode table number node → HasRightHead node
  right_head number node shows =
      let has : HasNode (table_of content) number node = has_node number node shows in
      let seen = node_seen content number node has in
      let form = formed.nodes number seen.0 in
      let flag : slice_index (node_bytes content number) 0 ≡ 1 = node_flag (node_bytes content number) node seen.1 has.used in
      subst HasRightHead seen.1 (form.head flag)

  -- a commit that holds a state, whether the memory is well formed or not
  pub held_alone : (new : List ℕ) (on_table : Loaded → Loaded) (on_state : Persistent → Persistent) → length new ≡ memory_size
      → Holds new (on_table (table_of content)) (on_state (state_in content)) → StandsForNoOther store_mark new (on_table table) (on_state state)
  held_alone new on_table on_state long holds = record {
    long = long;
    entries = holds.entries ∙ ap on_table stands.entries;
    decoded = λ other decoded. (is_sound store_mark new other long decoded).0 ∙ holds.held ∙ ap on_state (sym state_is);
  }

  -- a commit that holds a state of which it is known that it is sound, in a memory that is well formed
  pub carried : (new : List ℕ) (on_table : Loaded → Loaded) (on_state : Persistent → Persistent) → length new ≡ memory_size → IsWellFormed store_mark new
      → Holds new (on_table (table_of content)) (on_state (state_in content)) → IsSound (on_state state) → Stands store_mark new (on_table table) (on_state state)
  carried new on_table on_state long well holds new_sound =
      let held : state_in new ≡ on_state state = holds.held ∙ ap on_state (sym state_is) in
      record {
        long = long;
        entries = holds.entries ∙ ap on_table stands.entries;
        decoded = (sound_stands store_mark new long).1 (well, subst IsSound (sym held) new_sound) ∙ ap Ok held;
      }
