-- What stays of a card that serves its applets, whatever its store tells.
use Rattle.std.proofs.Common.{◌≡◌, ◌≢◌, ⊎_elim, ℕ, ◌<◌, false, List, [], ◌∷◌, length, Option, Some, None, Result, Ok, Err, refl, sym, ◌∙◌, ap, subst, arith, All, IsSomeAnd, is_some, slice_index_or, get_or-set_other}
use Rattle.std.specs.Result.{result_ok}
use Rattle.std.proofs.lemmas.Bool.{false≢true, true≢false}
use Rattle.std.proofs.lemmas.Option.{same_Some}
use Rattle.std.proofs.lemmas.List.Elements.{All-cons, All-head, All-tail}
use Rattle.list_laws.proofs.MapLemmas.{all_unmapped}
use Rattle.uicc_types.specs.declared.answers.Answer.{Answer}
use Rattle.uicc_types.specs.declared.answers.StatusWord.{StatusWord}
use Rattle.apdu_form.specs.Model.{Apdu}
use Rattle.store_form.specs.declared.store.StoreFault.{StoreFault}
use Rattle.card_state.specs.declared.entries.Loaded.{Loaded}
use Rattle.card_state.specs.Persistent.{Registration, Persistent}
use Rattle.card_state.specs.Standing.{standing, Agrees}
use Rattle.card_state.specs.States.{rows_of}
use Rattle.file_model.specs.Outcomes.{last_of}
use Rattle.card_commits.specs.Laws.{IsTold, TablesTellStates}
use Rattle.applet_trait.specs.Minds.{AppletState}
use Rattle.toolkit_model.specs.Passing.{passed_rows}
use Rattle.toolkit_model.specs.OrderlySessions.{IsInOrder}
use Rattle.proactive_handler.specs.Boxes.{kinds_of}
use Rattle.proactive_handler.specs.Steps.{Scene}
use Rattle.card_model.specs.States.{CardState, HasBox}
use Rattle.card_model.specs.Toolkit.{ToolkitOutcome, states_passed, with_rows, toolkit_outcome}
use Rattle.card_model.specs.declared.instructions.CatCommand.{CatCommand}
use Rattle.card_model.specs.Answers.{seen_by}
use Rattle.cat_commands.specs.Deleting.{HasNoRow}
use Rattle.cat_commands.specs.Carrying.{Carries, HasCome, IsToolkitCutShort}
use Rattle.card_laws.specs.Moving.{HasOrder}
use Rattle.card_laws.specs.ToolkitLaws.{CommandsLeaveRows}
use Rattle.card_core.specs.Starts.{HoldsCard}
use Rattle.card_core.specs.Cards.{held_by, card_with, IsSet, IsRunning}
use Rattle.card_core.specs.Commands.{KindsKept}
use Rattle.card_core.specs.Laws.{TablesHaveRows}
use Rattle.card_core.specs.Moves.{StopsAt}
use Rattle.card_core.specs.Parts.{CardParts}
use Rattle.card_core.proofs.BoxesKeptLemmas.{at, kind_of}
use Rattle.card_core.proofs.IsToolkitCutShortLemmas.{kind_at}
use Rattle.card_core.proofs.HasToolkitLemmas.{scene_of, rows_left}

-- ---- the order

-- a state that the table tells
pub some_told : TablesTellStates → (mark : ℕ) (told : Option (List ℕ)) (table : Loaded) → Agrees mark told table → (state : Persistent) × IsTold table state
unfolding standing
some_told tell mark told table agrees =
    (agrees.state, tell mark (Some agrees.content) table agrees.state (record { content = agrees.content; state = agrees.state; told_is = refl; stands = agrees.stands }) (ap result_ok agrees.stands.decoded))

pub in_order : TablesHaveRows → (parts : CardParts) → IsRunning parts → (state : Persistent) → IsTold parts.table state → HasOrder (card_with false parts state)
in_order law parts running state told =
    let sound = law parts.store_mark parts.told parts.table running.mounted.agrees in
    record {
      order = subst (λ (rows : List Registration). IsInOrder (record { rows = rows; session = parts.session; minds = parts.boxes })) (sym told.rows) running.toolkit.order;
      sequences = subst (λ (next : ℕ). All (λ row. row.sequence < next) state.rows) (sym told.next) (subst (All (λ row. row.sequence < parts.table.next)) (sym told.rows) sound.1);
    }

-- ---- the boxes

has_kind : (new old : Option AppletState) (kind : ℕ) → kind_of new ≡ kind_of old → IsSomeAnd old (λ mind. mind.kind ≡ kind) → IsSomeAnd new (λ mind. mind.kind ≡ kind)
has_kind None None kind same has = has
has_kind None (Some mind) kind same has = absurd (false≢true (ap is_some same))
has_kind (Some mind) None kind same has = absurd (false≢true (sym (ap is_some same)))
has_kind (Some mind) (Some other) kind same has = same_Some mind.kind other.kind same ∙ has

last_all : {X : Type 0} (P : X → Type 0) (first : X) (xs : List X) → P first → All P xs → P (last_of first xs)
last_all P first [] here all = here
last_all P first (x ∷ xs) here all = last_all P x xs (All-head P x xs all) (All-tail P x xs all)

abbrev pub Boxed : CardParts → Persistent → Type 0
Boxed parts state = All (HasBox parts.boxes) state.rows

module _ (command : CatCommand) (apdu : Apdu) (old new : CardParts) (kinds : KindsKept command apdu new.table old.boxes new.boxes) where
  still_one : (row : Registration) → (HasNoRow (rows_of new.table) apdu.p2 → row.shelf ≢ apdu.p2) → HasBox old.boxes row → HasBox new.boxes row
  still_one row apart has =
      has_kind (at new.boxes row.shelf) (at old.boxes row.shelf) row.kind
      (⊎_elim {C = kind_of (at new.boxes row.shelf) ≡ kind_of (at old.boxes row.shelf)}
      (λ same. kind_at new.boxes row.shelf ∙ ap (λ (list : List (Option ℕ)). slice_index_or list row.shelf None) same ∙ sym (kind_at old.boxes row.shelf))
      (λ gone.
      kind_at new.boxes row.shelf ∙ ap (λ (list : List (Option ℕ)). slice_index_or list row.shelf None) gone.1
      ∙ get_or-set_other (kinds_of old.boxes) apdu.p2 row.shelf None None (apart gone.2) ∙ sym (kind_at old.boxes row.shelf)) kinds) has

  pub still_boxed : All (HasBox old.boxes) (rows_of new.table) → All (HasBox new.boxes) (rows_of new.table)
  still_boxed have = λ k d low. still_one (slice_index_or (rows_of new.table) k d) (λ none. none k d low) (have k d low)

  module _ (state : Persistent) (told : IsTold old.table state) (boxed : Boxed old state) where
    refused_boxed : scene_of new ≡ scene_of old → All (HasBox old.boxes) (rows_of new.table)
    refused_boxed stays = subst (λ (table : Loaded). All (HasBox old.boxes) (rows_of table)) (sym (ap (λ (p : Scene). p.memory.table) stays)) (subst (All (HasBox old.boxes)) told.rows boxed)

    module _ (outcome : ToolkitOutcome) (leaves : All (Boxed old) (states_passed state outcome)) where
      come_boxed : HasCome outcome (scene_of old) (scene_of new) → All (HasBox old.boxes) (rows_of new.table)
      come_boxed comes = subst (All (HasBox old.boxes)) (comes.tells state told).rows (last_all (Boxed old) state (states_passed state outcome) boxed leaves)

      short_boxed : IsToolkitCutShort outcome (scene_of old) (scene_of new) → All (HasBox old.boxes) (rows_of new.table)
      short_boxed short =
          let each : All (All (HasBox old.boxes)) (passed_rows outcome.passed.log) = all_unmapped (Boxed old) (with_rows state outcome.next_sequence) (passed_rows outcome.passed.log) leaves in
          let all : All (All (HasBox old.boxes)) (rows_of old.table ∷ passed_rows outcome.passed.log) =
          All-cons (All (HasBox old.boxes)) (rows_of old.table) (passed_rows outcome.passed.log) (subst (All (HasBox old.boxes)) told.rows boxed) each in
          subst (All (HasBox old.boxes)) (sym short.rows_are) (all short.count [] (omega (arith, short.one_more)))

    pub boxes_after : {X : Type 0} (out : Answer) (tried : Result ToolkitOutcome StatusWord) (result : Result X StoreFault) → ((outcome : ToolkitOutcome) → tried ≡ Ok outcome → All (Boxed old) (states_passed state outcome))
        → Carries tried out (scene_of old) (scene_of new) result → All (HasBox new.boxes) (rows_of new.table)
    boxes_after out (Err status) (Ok done) leaves carries = still_boxed (refused_boxed carries.stays)
    boxes_after out (Err status) (Err fault) leaves carries = absurd carries
    boxes_after out (Ok outcome) (Ok done) leaves carries = still_boxed (come_boxed outcome (leaves outcome refl) carries.comes)
    boxes_after out (Ok outcome) (Err fault) leaves carries = still_boxed (short_boxed outcome (leaves outcome refl) carries)

-- ---- a card that is held

holds_by : (old new : CardParts) (states : Persistent → List Persistent) (held : Option Persistent) → held_by old ≡ held → is_some held ≡ is_some old.told → is_some new.told ≡ is_some old.told
    → ((state : Persistent) → held_by old ≡ Some state → StopsAt state (states state) old.commits new.commits (held_by new)) → HoldsCard new.store_mark new.told
unfolding standing
holds_by old new states None there was same stops = by_told new.told (same ∙ sym was) where
  by_told : (told : Option (List ℕ)) → is_some told ≡ false → HoldsCard new.store_mark told
  by_told None is = refl
  by_told (Some bytes) is = absurd (true≢false is)
holds_by old new states (Some state) there was same stops = ap is_some (stops state there).stands ∙ was ∙ sym same

pub holds_left : (old new : CardParts) (states : Persistent → List Persistent) → HoldsCard old.store_mark old.told → is_some new.told ≡ is_some old.told
    → ((state : Persistent) → held_by old ≡ Some state → StopsAt state (states state) old.commits new.commits (held_by new)) → HoldsCard new.store_mark new.told
holds_left old new states holds same stops = holds_by old new states (held_by old) refl holds same stops

pub silent_then : (before after : Option (List ℕ)) → is_some after ≡ is_some before → after ≡ None → before ≡ None
silent_then None after same silent = refl
silent_then (Some bytes) after same silent = absurd (false≢true (sym (ap is_some silent) ∙ same))

-- ---- once a command of the toolkit came to its end, or a fault stopped it

module _ (tell : TablesTellStates) (old new : CardParts) (running : IsRunning old) (set : IsSet old) where
  pub set_served : {X : Type 0} (command : CatCommand) (apdu : Apdu) → KindsKept command apdu new.table old.boxes new.boxes → (tried : CardState → Result ToolkitOutcome StatusWord) (out : Answer) (result : Result X StoreFault)
      → ((state : Persistent) → IsTold old.table state → Carries (tried (card_with false old state)) out (scene_of old) (scene_of new) result)
      → ((state : Persistent) → IsTold old.table state → Boxed old state → (outcome : ToolkitOutcome) → tried (card_with false old state) ≡ Ok outcome → All (Boxed old) (states_passed state outcome))
      → new.byte_count ≡ old.byte_count → length new.boxes ≡ length old.boxes → HoldsCard new.store_mark new.told → (new.told ≡ None → Agrees new.store_mark None new.table) → is_some new.told ≡ is_some old.told → IsSet new
  set_served command apdu kinds tried out result carries leaves size long card kept same = record {
    size = size ∙ set.size;
    shelves = long ∙ set.shelves;
    card = card;
    kept = kept;
    boxes = λ silent.
        let some = some_told tell old.store_mark old.told old.table running.mounted.agrees in
        let boxed : Boxed old some.0 = subst (All (HasBox old.boxes)) (sym some.1.rows) (set.boxes (silent_then old.told new.told same silent)) in
        boxes_after command apdu old new kinds some.0 some.1 boxed out (tried (card_with false old some.0)) result (leaves some.0 some.1 boxed) (carries some.0 some.1);
  }

pub commits_boxed : TablesHaveRows → CommandsLeaveRows → (command : CatCommand) (apdu : Apdu) (old : CardParts) → IsRunning old → (state : Persistent) → IsTold old.table state → Boxed old state → (outcome : ToolkitOutcome)
    → toolkit_outcome command (card_with false old state) (seen_by (card_with false old state)) apdu ≡ Ok outcome → All (Boxed old) (states_passed state outcome)
commits_boxed sound law command apdu old running state told boxed outcome came = (rows_left law command (card_with false old state) apdu outcome (in_order sound old running state told) came).boxes boxed
