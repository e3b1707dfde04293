-- What is read of the bytes of a file, in a memory that stands for a state.
use Rattle.std.proofs.Common.{◌≡◌, ℕ, ◌+◌, ◌*◌, ◌%◌, ◌≤◌, ◌<◌, List, [], length, Contains, slice_index_or, sym, ◌∙◌, ap, subst, inr, arith, mod-eq_of_lt}
use Rattle.card_state.specs.declared.entries.Node.{Node}
use Rattle.card_state.specs.declared.entries.Loaded.{Loaded}
use Rattle.card_state.specs.Kinds.{linear_kind, cyclic_kind}
use Rattle.card_state.specs.Decoding.{bytes_at}
use Rattle.card_state.specs.Persistent.{Bytes, Records, File, Persistent}
use Rattle.card_state.specs.States.{record_count, contents_of}
use Rattle.card_state.specs.SoundnessLaws.{StandingIsSound, SoundStands}
use Rattle.card_state.specs.Used.{HasNode}
use Rattle.card_state.specs.Standing.{Stands}
use Rattle.layout_laws.specs.ChangeLaws.{ReadsBytes, ReadsRecord, place_in_ring}
use Rattle.layout_laws.specs.Standing.{IsFileNumbered}
use Rattle.layout_laws.proofs.ContentsOfLemmas.{contents_there, records_count}
use Rattle.layout_laws.proofs.StandsLemmas.{state_is, card, has_node, right_head}

module _ (is_sound : StandingIsSound) (sound_stands : SoundStands) (store_mark : ℕ) (content : List ℕ) (table : Loaded) (state : Persistent) (stands : Stands store_mark content table state) where
  held : (number : ℕ) (node : Node) (file : File) → HasNode table number node → IsFileNumbered state number file → file.contents ≡ contents_of content node
  held number node file shows is =
      contents_there content number node (has_node is_sound sound_stands store_mark content table state stands number node shows) file
      (subst (λ (s : Persistent). Contains s.files file) (state_is is_sound sound_stands store_mark content table state stands) is.there) is.number_is

  pub bytes_read : (law : ReadsBytes) (number offset count : ℕ) (node : Node) (file : File) (bytes : List ℕ) → HasNode table number node → IsFileNumbered state number file → file.contents ≡ Bytes bytes → offset + count ≤ length bytes
      → bytes_at content (node.place + offset) count ≡ bytes_at bytes offset count
  bytes_read law number offset count node file bytes shows is holds fits =
      law content number offset count node bytes (card is_sound sound_stands store_mark content table state stands) (has_node is_sound sound_stands store_mark content table state stands number node shows) (sym (held number node file shows is) ∙ holds) fits

  pub ring_read : (law : ReadsRecord) (number index : ℕ) (node : Node) (file : File) (records : List (List ℕ)) → HasNode table number node → IsFileNumbered state number file → node.kind ≡ cyclic_kind → file.contents ≡ Records records → index < length records
      → bytes_at content (node.place + place_in_ring node.head (length records) index * node.length) node.length ≡ slice_index_or records index []
  ring_read law number index node file records shows is cyclic holds low =
      let there : contents_of content node ≡ Records records = sym (held number node file shows is) ∙ holds in
      let this_card = card is_sound sound_stands store_mark content table state stands in
      let has = has_node is_sound sound_stands store_mark content table state stands number node shows in
      let count : length records ≡ record_count node = records_count content this_card number node has records there in
      let head : node.head < length records = omega (arith, (right_head is_sound sound_stands store_mark content table state stands number node shows).cyclic cyclic) in
      law content number index node records this_card has there head low

  pub record_read : (law : ReadsRecord) (number index : ℕ) (node : Node) (file : File) (records : List (List ℕ)) → HasNode table number node → IsFileNumbered state number file → node.kind ≡ linear_kind → file.contents ≡ Records records → index < length records
      → bytes_at content (node.place + index * node.length) node.length ≡ slice_index_or records index []
  record_read law number index node file records shows is linear holds low =
      let there : contents_of content node ≡ Records records = sym (held number node file shows is) ∙ holds in
      let first : node.head ≡ 0 = (right_head is_sound sound_stands store_mark content table state stands number node shows).other (inr linear) in
      let sum : node.head + index ≡ index = omega arith in
      let at : place_in_ring node.head (length records) index ≡ index = ap (λ (k : ℕ). k % length records) sum ∙ mod-eq_of_lt low in
      ap (λ (k : ℕ). bytes_at content (node.place + k * node.length) node.length) (sym at)
      ∙ law content number index node records (card is_sound sound_stands store_mark content table state stands) (has_node is_sound sound_stands store_mark content table state stands number node shows) there (omega arith) low
