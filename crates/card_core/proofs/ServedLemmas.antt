-- What a command of the toolkit, or STATUS, does to a card whose table and boxes it was lent.
use Rattle.std.proofs.Common.{◌≡◌, inl, ⊎_elim, ℕ, false, List, length, Option, None, Result, Ok, Err, refl, sym, ◌∙◌, ap, subst}
use Rattle.std.proofs.lemmas.List.{length-map, length-set}
use Rattle.uicc_types.specs.declared.answers.Answer.{Answer}
use Rattle.apdu_form.specs.Model.{Apdu}
use Rattle.store_form.specs.declared.store.StoreFault.{StoreFault}
use Rattle.card_state.specs.declared.entries.Loaded.{Loaded}
use Rattle.card_state.specs.Persistent.{Persistent}
use Rattle.card_state.specs.Standing.{Agrees}
use Rattle.card_state.specs.StateLaws.{RowsAreEntries}
use Rattle.card_state.specs.States.{pins_of}
use Rattle.file_model.specs.Access.{keys_seen}
use Rattle.file_model.specs.Chains.{and_given}
use Rattle.file_model.specs.declared.commands.FileCommand.TheVariants.{Status}
use Rattle.card_commits.specs.Laws.{IsTold, TablesTellStates}
use Rattle.applet_trait.specs.Minds.{AppletState}
use Rattle.proactive_handler.specs.Boxes.{kinds_of}
use Rattle.proactive_handler.specs.Scenes.{KeepsScene}
use Rattle.card_model.specs.Answers.{settled, carried_out}
use Rattle.card_model.specs.Toolkit.{toolkit_outcome}
use Rattle.card_model.specs.declared.instructions.CatCommand.{CatCommand}
use Rattle.card_model.specs.declared.instructions.CatCommand.TheVariants.{TerminalProfile, Fetch}
use Rattle.card_model.specs.declared.instructions.Instruction.TheVariants.{File, Toolkit}
use Rattle.cat_commands.specs.Carrying.{Carries, CarriesOut, ToolkitComesTo, Comes}
use Rattle.card_laws.specs.ToolkitLaws.{CommandsLeaveRows, TellingLeavesRows}
use Rattle.card_core.specs.Acting.{ActsAlone, StopsToolkit, TellsApplets}
use Rattle.card_core.specs.AnyStore.{MovesToolkit, MovesStatus}
use Rattle.card_core.specs.Cards.{card_with, IsSet, IsRunning}
use Rattle.card_core.specs.Commands.{KindsKept}
use Rattle.card_core.specs.Known.{ByStore}
use Rattle.card_core.specs.Laws.{TablesHaveRows}
use Rattle.card_core.specs.Moves.{polled_on}
use Rattle.card_core.specs.Parts.{CardParts}
use Rattle.card_core.specs.Serving.{KeepsToolkit}
use Rattle.card_core.proofs.HasToolkitLemmas.{scene_of, has_toolkit_of, LentScene, lent, LeavesBy, carried_so}
use Rattle.card_core.proofs.HoldsCardLemmas.{holds_card}
use Rattle.card_core.proofs.IsRunningLemmas.{in_order, set_served, commits_boxed, holds_left}
use Rattle.card_core.proofs.IsToolkitCutShortLemmas.{toolkit_left}
use Rattle.card_core.proofs.KnownLemmas.{told_by, finished, stopped_by}
use Rattle.card_core.proofs.PolledOnLemmas.{polled_left, polled_boxed}
use Rattle.card_core.proofs.PutBackLemmas.{nothing}
use Rattle.card_core.proofs.ToolkitYieldsLemmas.{tried_by, toolkit_act, toolkit_stops, tool_stops, tool_rows, polling, polled_by, said, polled_carries, polled_act, polled_stops}

same_long : (old new : List (Option AppletState)) → kinds_of new ≡ kinds_of old → length new ≡ length old
same_long old new same = sym (length-map new _) ∙ ap length same ∙ length-map old _

kept_long : (command : CatCommand) (apdu : Apdu) (table : Loaded) (old new : List (Option AppletState)) → KindsKept command apdu table old new → length new ≡ length old
kept_long command apdu table old new kinds =
    ⊎_elim {C = length new ≡ length old} (same_long old new) (λ gone. sym (length-map new _) ∙ ap length gone.1 ∙ length-set (kinds_of old) apdu.p2 None ∙ length-map old _) kinds

module _ (tell : TablesTellStates) (sound : TablesHaveRows) (law : CommandsLeaveRows) (command : CatCommand) (apdu : Apdu) (old new : CardParts) (running : IsRunning old) (out : Answer)
    (table : Loaded) (minds now : List (Option AppletState)) (same : table ≡ old.table) (was : minds ≡ old.boxes) (is : now ≡ new.boxes) where
  abbrev LentKept : Result (Unit {0}) StoreFault → Type 0
  LentKept result = KeepsToolkit command apdu (LentScene old table minds) (LentScene new new.table now) result

  abbrev LentCarried : Result (Unit {0}) StoreFault → Type 0
  LentCarried result = CarriesOut (λ card. toolkit_outcome command card (keys_seen (pins_of table) old.verified) apdu) out (LentScene old table minds) (LentScene new new.table now) result

  keeps_so : (result : Result (Unit {0}) StoreFault) → LentKept result → KeepsToolkit command apdu (scene_of old) (scene_of new) result
  keeps_so result keeps = lent (λ before after. KeepsToolkit command apdu before after result) old new table minds now same was is keeps

  carries : (result : Result (Unit {0}) StoreFault) → LentCarried result → (state : Persistent) → IsTold old.table state → Carries (tried_by command apdu (card_with false old state)) out (scene_of old) (scene_of new) result
  carries result carried =
      carried_so command apdu out old new result
      (lent (λ before after. CarriesOut (λ card. toolkit_outcome command card (keys_seen (pins_of before.memory.table) old.verified) apdu) out before after result) old new table minds now same was is carried)

  moves_so : (result : Result (Unit {0}) StoreFault) → LentKept result → new.channels ≡ old.channels → new.verified ≡ old.verified → MovesToolkit command apdu old new
  moves_so result kept channels verified =
      let keeps = keeps_so result kept in
      record { table = keeps.table; next = keeps.next; rows_stay = keeps.rows_stay; channels = channels; verified = verified; kinds = keeps.kinds; others = λ shelf _. keeps.others shelf }

  pub served_act : (done : Unit {0}) → LentKept (Ok done) → LentCarried (Ok done) → new.channels ≡ old.channels → new.verified ≡ old.verified → ActsAlone (Ok done) (Toolkit command) apdu old new out
  served_act done kept carried channels verified = toolkit_act tell command apdu old new running out (moves_so (Ok done) kept channels verified) done (carries (Ok done) carried)

  pub served_set : IsSet old → (done : Unit {0}) → LentKept (Ok done) → LentCarried (Ok done) → IsSet new
  served_set set done kept carried =
      let keeps = keeps_so (Ok done) kept in
      set_served tell old new running set command apdu keeps.kinds (tried_by command apdu) out (finished done) (carries (Ok done) carried) (commits_boxed sound law command apdu old running)
      keeps.keeps.size (kept_long command apdu new.table old.boxes new.boxes keeps.kinds) (holds_card _ _ _ keeps.keeps.mounted.agrees)
      (λ silent. subst (λ (telling : Option (List ℕ)). Agrees new.store_mark telling new.table) silent keeps.keeps.mounted.agrees) keeps.keeps.told

  module _ (fault : StoreFault) (kept : LentKept (Err fault)) (carried : LentCarried (Err fault)) where
    pub served_stops : RowsAreEntries → LeavesBy command apdu new.leaving → (command ≡ Fetch → ⊥) → new.channels ≡ old.channels → new.verified ≡ old.verified → ActsAlone (stopped_by fault) (Toolkit command) apdu old new out
    served_stops entries leaves other channels verified =
        let keeps = keeps_so (Err fault) kept in
        toolkit_stops tell command apdu old new running out (moves_so (Err fault) kept channels verified) fault (carries (Err fault) carried)
        (λ state held.
        let told = told_by tell old running.mounted.agrees ByStore state held in
        toolkit_left entries command apdu old new keeps.boxes keeps.others leaves (same_long old.boxes new.boxes keeps.boxes) law (Unit {0}) out fault state told held (in_order sound old running state told)
        (tried_by command apdu (card_with false old state)) refl (carries (Err fault) carried state told))
        other

    pub served_rows : StopsToolkit old new (λ card. (settled card (carried_out (Toolkit command) card apdu)).commits)
    unfolding carried_out
    served_rows = record {
      rows = tool_rows tell (tried_by command apdu) (Toolkit command) refl old new running out fault (carries (Err fault) carried);
      boxes = (keeps_so (Err fault) kept).boxes;
    }

    pub stopped_set : IsSet old → IsSet new
    stopped_set set =
        let keeps = keeps_so (Err fault) kept in
        set_served tell old new running set command apdu keeps.kinds (tried_by command apdu) out (stopped_by fault) (carries (Err fault) carried) (commits_boxed sound law command apdu old running)
        keeps.keeps.size (same_long old.boxes new.boxes keeps.boxes)
        (holds_left old new _ set.card keeps.keeps.told (tool_stops tell (tried_by command apdu) (Toolkit command) refl old new running out fault (carries (Err fault) carried))) (λ silent. keeps.kept) keeps.keeps.told

-- ---- STATUS

module _ (tell : TablesTellStates) (sound : TablesHaveRows) (telling : TellingLeavesRows) (old new : CardParts) (running : IsRunning old)
    (table : Loaded) (minds now : List (Option AppletState)) (same : table ≡ old.table) (was : minds ≡ old.boxes) (is : now ≡ new.boxes) where
  abbrev LentScenes : Result (Unit {0}) StoreFault → Type 0
  LentScenes result = KeepsScene (LentScene old table minds) (LentScene new new.table now) result

  abbrev LentPolled : Result (Unit {0}) StoreFault → Type 0
  LentPolled result = ToolkitComesTo polling (LentScene old table minds) (LentScene new new.table now) result

  scenes_so : (result : Result (Unit {0}) StoreFault) → LentScenes result → KeepsScene (scene_of old) (scene_of new) result
  scenes_so result keeps = lent (λ before after. KeepsScene before after result) old new table minds now same was is keeps

  comes : (result : Result (Unit {0}) StoreFault) → LentPolled result → (state : Persistent) → IsTold old.table state → Comes (polling (card_with false old state)) (scene_of old) (scene_of new) result
  comes result polled state told = lent (λ before after. ToolkitComesTo polling before after result) old new table minds now same was is polled (card_with false old state) (has_toolkit_of old state told)

  carries_polled : (result : Result (Unit {0}) StoreFault) → LentPolled result → (state : Persistent) → IsTold old.table state → Carries (polled_by (card_with false old state)) said (scene_of old) (scene_of new) result
  carries_polled result polled state told = polled_carries (card_with false old state) (scene_of old) (scene_of new) result (comes result polled state told)

  moves_status : (result : Result (Unit {0}) StoreFault) → LentScenes result → new.channels ≡ old.channels → new.verified ≡ old.verified → MovesStatus old new
  moves_status result kept channels verified =
      let keeps = scenes_so result kept in
      record { table = keeps.table; rows_stay = keeps.rows_stay; channels = channels; verified = verified; kinds = keeps.kinds; others = λ shelf before. keeps.others shelf }

  pub status_act : (done : Unit {0}) → LentScenes (Ok done) → LentPolled (Ok done) → new.channels ≡ old.channels → new.verified ≡ old.verified → TellsApplets (Ok done) old new
  status_act done kept polled channels verified = polled_act tell old new running (moves_status (Ok done) kept channels verified) done (comes (Ok done) polled)

  pub status_set : IsSet old → (done : Unit {0}) → LentScenes (Ok done) → LentPolled (Ok done) → IsSet new
  status_set set done kept polled =
      let keeps = scenes_so (Ok done) kept in
      set_served tell old new running set TerminalProfile nothing (inl keeps.kinds) polled_by said (finished done) (carries_polled (Ok done) polled) (polled_boxed sound telling old running)
      keeps.keeps.size (same_long old.boxes new.boxes keeps.kinds) (holds_card _ _ _ keeps.keeps.mounted.agrees)
      (λ silent. subst (λ (tells : Option (List ℕ)). Agrees new.store_mark tells new.table) silent keeps.keeps.mounted.agrees) keeps.keeps.told

  module _ (fault : StoreFault) (kept : LentScenes (Err fault)) (polled : LentPolled (Err fault)) where
    pub status_stops : RowsAreEntries → new.leaving ≡ None → new.channels ≡ old.channels → new.verified ≡ old.verified → TellsApplets (stopped_by fault) old new
    status_stops entries stays channels verified =
        let keeps = scenes_so (Err fault) kept in
        polled_stops tell old new running (moves_status (Err fault) kept channels verified) fault (comes (Err fault) polled)
        (λ state held.
        let told = told_by tell old running.mounted.agrees ByStore state held in
        polled_left entries telling old new keeps.kinds (λ shelf before. keeps.others shelf) stays (same_long old.boxes new.boxes keeps.kinds) state told held (in_order sound old running state told) (comes (Err fault) polled state told))

    pub status_rows : StopsToolkit old new (λ card. (polled_on card).commits)
    unfolding and_given
    status_rows = record {
      rows = tool_rows tell polled_by (File Status) refl old new running said fault (carries_polled (Err fault) polled);
      boxes = (scenes_so (Err fault) kept).kinds;
    }

    pub status_stopped_set : IsSet old → IsSet new
    status_stopped_set set =
        let keeps = scenes_so (Err fault) kept in
        set_served tell old new running set TerminalProfile nothing (inl keeps.kinds) polled_by said (stopped_by fault) (carries_polled (Err fault) polled) (polled_boxed sound telling old running)
        keeps.keeps.size (same_long old.boxes new.boxes keeps.kinds)
        (holds_left old new _ set.card keeps.keeps.told (tool_stops tell polled_by (File Status) refl old new running said fault (carries_polled (Err fault) polled))) (λ silent. keeps.kept) keeps.keeps.told
