-- The rows of a sound card are such that an index can be kept of them.
use Rattle.std.proofs.Common.{◌≡◌, refl, ap, ◌∙◌, subst, ℕ, List}
use Rattle.card_state.specs.Decoding.{table_of}
use Rattle.card_state.specs.Persistent.{Persistent}
use Rattle.card_state.specs.Soundness.{IsSound}
use Rattle.card_state.specs.Standing.{state_in}
use Rattle.card_state.specs.States.{rows_of, state_of}
use Rattle.card_state.proofs.SoundStandsLemmas.{standing_sound}
use Rattle.event_dispatch.specs.Changes.{AreListed}
use Rattle.proactive_handler.specs.Rows.{RowsAreListed}

sound_listed : (state : Persistent) → IsSound state → AreListed state.rows
sound_listed state sound = record {
  rows_are = record {
    shelves = λ i j d less low. (sound.distinct_rows i j d less low).shelf;
    sequences = λ i j d less low. (sound.distinct_rows i j d less low).sequence;
    texts = λ k d low. (sound.rows k d low).text;
    few_texts = sound.texts;
  };
  known = λ k d low. (sound.rows k d low).codes.known;
}

rows_in : (content : List ℕ) → (state_in content).rows ≡ rows_of (table_of content)
unfolding state_of
rows_in content = refl

pub rows_listed : RowsAreListed
rows_listed mark told table agrees =
    let is = standing_sound mark agrees.content agrees.state agrees.stands.long agrees.stands.decoded in
    subst AreListed (ap (λ (s : Persistent). s.rows) is.0 ∙ rows_in agrees.content ∙ ap rows_of agrees.stands.entries) (sound_listed agrees.state is.1)
