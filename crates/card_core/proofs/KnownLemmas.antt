-- What is known of a card's state, whatever it is known by.
use Rattle.std.proofs.Common.{◌≡◌, false, List, Option, Some, Result, Ok, Err, refl, sym, ◌∙◌, ap, IsOk, OnOk, OnErr}
use Rattle.std.specs.Result.{result_ok}
use Rattle.std.proofs.lemmas.Bool.{false≢true}
use Rattle.uicc_types.specs.declared.answers.Answer.{Answer}
use Rattle.store_form.specs.declared.store.StoreFault.{StoreFault}
use Rattle.card_state.specs.declared.entries.Loaded.{Loaded}
use Rattle.card_state.specs.Persistent.{Pin, Persistent}
use Rattle.card_state.specs.Standing.{standing, Agrees}
use Rattle.card_state.specs.States.{pins_of}
use Rattle.access_rules.specs.declared.rules.Verified.{Verified}
use Rattle.file_model.specs.Access.{keys_seen}
use Rattle.file_model.specs.declared.selections.Selection.{Selection}
use Rattle.card_commits.specs.Laws.{IsTold, TablesTellStates}
use Rattle.applet_trait.specs.Minds.{AppletState}
use Rattle.toolkit_model.specs.Sessions.{SessionState}
use Rattle.card_model.specs.Answers.{Answered, seen_by}
use Rattle.card_model.specs.States.{CardState}
use Rattle.card_core.specs.AnyStore.{IsOfMemory, MayBe, MayStand}
use Rattle.card_core.specs.Cards.{card_of, card_with}
use Rattle.card_core.specs.Known.{KnownBy, ByStore, ByTable, ByMemory, IsKnown, MayBeBy, SaysSo}
use Rattle.card_core.specs.Moves.{Answers}
use Rattle.card_core.specs.Parts.{CardParts}
use Rattle.card_core.proofs.CardOfLemmas.{card_then}

-- ---- results

abbrev pub finished : Unit {0} → Result (Unit {0}) StoreFault
finished done = Ok done

abbrev pub stopped_by : StoreFault → Result (Unit {0}) StoreFault
stopped_by fault = Err fault

pub when_ok : {X : Type 0} (result : Result X StoreFault) (P : Type 0) → IsOk result → OnOk result P → P
when_ok (Ok done) P ok holds = holds
when_ok (Err fault) P ok holds = absurd (false≢true ok)

pub both_ok : {X : Type 0} (result : Result X StoreFault) (P Q R : Type 0) → (P → Q → R) → OnOk result P → OnOk result Q → OnOk result R
both_ok (Ok done) P Q R each first second = each first second
both_ok (Err fault) P Q R each first second = tt

pub never_stopped : {X : Type 0} (P : Type 0) (result : Result X StoreFault) → IsOk result → OnErr result P
never_stopped P (Ok done) ok = tt
never_stopped P (Err fault) ok = absurd (false≢true ok)

-- ---- the table

-- a memory of the table stands for what that tells
pub told_of : TablesTellStates → (table : Loaded) (state : Persistent) → IsOfMemory table state → IsTold table state
unfolding standing
told_of tell table state over = tell over.store_mark (Some over.content) table state (record { content = over.content; state = state; told_is = refl; stands = over.stands }) (ap result_ok over.stands.decoded)

pub told_by : TablesTellStates → (parts : CardParts) → Agrees parts.store_mark parts.told parts.table → (by : KnownBy) (state : Persistent) → IsKnown by parts state → IsTold parts.table state
told_by tell parts agrees ByStore state known = tell parts.store_mark parts.told parts.table state agrees known
told_by tell parts agrees ByTable state known = known
told_by tell parts agrees ByMemory state known = told_of tell parts.table state known

-- the keys that it sees are those of the card
pub sees_by : (parts : CardParts) (table : Loaded) → table ≡ parts.table → (state : Persistent) → IsTold parts.table state → keys_seen (pins_of table) parts.verified ≡ seen_by (card_with false parts state)
sees_by parts table same state told =
    ap (λ (each : Loaded). keys_seen (pins_of each) parts.verified) same ∙ ap (λ (known : List Pin). keys_seen known parts.verified) (sym told.pins)

-- ---- the card

-- the card that the parts may be is the one with this state
pub card_by : (by : KnownBy) (parts : CardParts) (card : CardState) → MayBeBy by parts card → card ≡ card_with false parts card.persistent
card_by by parts card is =
    ap (λ (now : List (Option Selection)). record card { channels = now }) is.channels
    ∙ ap (λ (now : Verified). record card { channels = parts.channels; verified = now }) is.verified
    ∙ ap (λ (now : SessionState). record card { channels = parts.channels; verified = parts.verified; session = now }) is.session
    ∙ ap (λ (now : List (Option AppletState)). record card { channels = parts.channels; verified = parts.verified; session = parts.session; boxes = now }) is.boxes

pub by_table : (parts : CardParts) (card : CardState) → MayBe parts card → MayBeBy ByTable parts card
by_table parts card is = record { known = is.table; channels = is.channels; verified = is.verified; session = is.session; boxes = is.boxes }

pub by_memory : (parts : CardParts) (card : CardState) → MayStand parts card → MayBeBy ByMemory parts card
by_memory parts card is = record { known = is.table; channels = is.channels; verified = is.verified; session = is.session; boxes = is.boxes }

pub answers_by_store : (parts : CardParts) (answered : Answered) (out : Answer) → parts.is_due ≡ false → SaysSo answered out → MayBeBy ByStore parts answered.state → Answers answered out (card_of parts)
answers_by_store parts answered out rests says may = record {
  body = says.body;
  status = says.status;
  moved =
      card_then parts answered.state.persistent answered.state.channels answered.state.verified answered.state.session answered.state.boxes rests may.known
      (sym may.channels) (sym may.verified) (sym may.session) (sym may.boxes);
}
