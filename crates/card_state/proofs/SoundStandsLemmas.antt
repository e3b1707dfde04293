-- A content stands exactly where it is well formed and the state of its entries is sound.
use Rattle.std.proofs.Common.{◌≡◌, ℕ, List, length, sym, ◌∙◌, subst}
use Rattle.card_state.specs.Places.{memory_size}
use Rattle.card_state.specs.Decoding.{table_of}
use Rattle.card_state.specs.States.{state_of}
use Rattle.card_state.specs.Soundness.{IsSound}
use Rattle.card_state.specs.Forms.{IsWellFormed}
use Rattle.card_state.specs.SoundnessLaws.{StandingIsSound, SoundStands}
use Rattle.card_state.proofs.StandsForLemmas.{AreMet, stands_told, stands_taken}
use Rattle.card_state.proofs.StateOfLemmas.{listed, state_listed}
use Rattle.card_state.proofs.AreNodesRightLemmas.{pins_told, pins_taken, rows_told, rows_taken, nodes_told, nodes_taken}
use Rattle.card_state.proofs.IsSoundPinLemmas.{pins_sound, pins_right}
use Rattle.card_state.proofs.IsSoundRowLemmas.{rows_sound, rows_right, row_forms}
use Rattle.card_state.proofs.IsSoundFileLemmas.{files_sound, files_right, node_forms}

module _ (store_mark : ℕ) (content : List ℕ) (long : length content ≡ memory_size) where
  sound : AreMet store_mark content → IsSound (listed content)
  sound met =
      let pins = pins_sound content (pins_told content met.pins) in
      let rows = rows_sound content (rows_told content met.rows) in
      let files = files_sound content long (nodes_told content met.nodes) in
      record {
        files = files.each;
        mf_there = files.mf_there;
        distinct_files = files.distinct;
        pins = pins.each;
        ordered_pins = pins.ordered;
        rows = rows.each;
        distinct_rows = rows.different;
        texts = rows.texts;
      }

  well_formed : AreMet store_mark content → IsWellFormed store_mark content
  well_formed met = record {
    mark = met.mark;
    version = met.version;
    store = met.store;
    pins = (pins_told content met.pins).forms;
    rows = row_forms content (rows_told content met.rows);
    nodes = node_forms content (nodes_told content met.nodes);
  }

  met : IsWellFormed store_mark content → IsSound (listed content) → AreMet store_mark content
  met forms is = record {
    mark = forms.mark;
    version = forms.version;
    store = forms.store;
    pins = pins_taken content (pins_right content (record { each = is.pins; ordered = is.ordered_pins }) forms.pins);
    rows = rows_taken content (rows_right content (record { each = is.rows; different = is.distinct_rows; texts = is.texts }) forms.rows);
    nodes = nodes_taken content (files_right content long (record { each = is.files; mf_there = is.mf_there; distinct = is.distinct_files }) forms.nodes);
  }

pub standing_sound : StandingIsSound
standing_sound store_mark content state long is =
    let told = stands_told store_mark content state is in
    (sym told.1, subst IsSound (sym (state_listed content) ∙ told.1) (sound store_mark content long told.0))

pub sound_stands : SoundStands
sound_stands store_mark content long = (
  λ is.
      let told = stands_told store_mark content (state_of (table_of content) content) is in
      (well_formed store_mark content long told.0, subst IsSound (sym (state_listed content)) (sound store_mark content long told.0)),
  λ both. stands_taken store_mark content (met store_mark content long both.0 (subst IsSound (state_listed content) both.1)),
)
