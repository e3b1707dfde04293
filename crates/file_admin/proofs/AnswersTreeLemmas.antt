-- What a command has done to a card, from what it comes to.
use Rattle.std.proofs.Common.{◌≡◌, ℕ, List, [], ◌∷◌, length, Option, Some, None, option_map, refl, sym, ◌∙◌, ap, subst, inl, inr, arith, ◌⊎◌, IfSome, IsSomeAnd, IfOk, Contains, Result, Ok, Err}
use Rattle.std.proofs.lemmas.Result.{on_ok_weaker, on_err_weaker}
use Rattle.uicc_types.specs.Calls.{IsCalm}
use Rattle.uicc_types.proofs.IsCalmLemmas.{calm_same}
use Rattle.uicc_types.specs.Counts.{Meter, Caused, raised_by}
use Rattle.uicc_types.specs.declared.answers.StatusWord.{StatusWord}
use Rattle.uicc_types.specs.declared.answers.TheConstants.StatusWord.{DONE}
use Rattle.store_form.specs.declared.store.StoreFault.{StoreFault}
use Rattle.store_form.specs.Faults.{HasCause}
use Rattle.store_form.proofs.HasCauseLemmas.{cause_of}
use Rattle.card_state.specs.declared.entries.Loaded.{Loaded}
use Rattle.card_state.specs.Memory.{Memory, held, IsMounted, Keeps, Committed}
use Rattle.card_state.specs.Persistent.{Persistent}
use Rattle.card_state.specs.Standing.{Stands}
use Rattle.file_model.specs.declared.selections.Selection.{Selection}
use Rattle.file_model.specs.Outcomes.{last_of}
use Rattle.file_model.specs.TreeOutcomes.{TreeOutcome}
use Rattle.layout_laws.specs.Known.{StandingIsOfTable}
use Rattle.layout_laws.specs.Stores.{AgreeingStands}
use Rattle.card_commits.proofs.KeepsLemmas.{keeps_done}
use Rattle.card_commits.specs.Performing.{PassesOne}
use Rattle.file_admin.specs.Outcomes.{passed_by, IsTreeAnswer, AnswersTree, CommitsTree, TreeComesTo, PassesNothing, IfNothingPasses, IsDone}
use Rattle.file_admin.proofs.StandsLemmas.{stands_here}

-- ---- causes of calls that answer with different values

caused_so : {F F' L L' : Type 0} (old new : Meter) → (F → F') → (F' → F) → (L → L') → (L' → L) → Caused old new F L → Caused old new F' L'
caused_so old new failed failed' lost lost' c = record {
  faults_kept = c.faults_kept;
  cuts_kept = c.cuts_kept;
  failed = λ is. c.failed (failed' is);
  no_fault = λ worked. c.no_fault (λ is. worked (failed is));
  lost = λ is. c.lost (lost' is);
  cut = λ is on. c.cut (lost' is) on;
  no_power = λ is off. c.no_power (lost' is) off;
  no_cut = λ stayed. c.no_cut (λ is. stayed (lost is));
  power_kept = λ stayed. c.power_kept (λ is. stayed (lost is));
  plans_kept = c.plans_kept;
  latest_kept = c.latest_kept;
  plan_kept = c.plan_kept;
  settings_kept = c.settings_kept;
}

calm_cause : {T : Type 0} (old new : Meter) (value : T) → IsCalm old new → HasCause old new (Ok value)
calm_cause old new value calm = caused_so old new (λ none. absurd none) (λ is. cc) (λ none. absurd none) (λ is. cc) calm

pub keeps_err : {T U : Type 0} (old new : Memory) (fault : StoreFault) → Keeps {T = T} old new (Err fault) → Keeps {T = U} old new (Err fault)
keeps_err {T} {U} old new fault keeps = record { mounted = tt; told = keeps.told; size = keeps.size; mark = keeps.mark; recoveries = keeps.recoveries; cause = cause_of {T = T} {U = U} old.meter new.meter fault keeps.cause }

pub keeps_all : {U : Type 0} (old : Memory) (other : U) → IsMounted old → Keeps old old (Ok other)
keeps_all old other mounted = record { mounted = mounted; told = refl; size = refl; mark = refl; recoveries = refl; cause = calm_cause old.meter old.meter other (calm_same old.meter) }

-- ---- what it comes to

module _ (store_mark : ℕ) (state : Persistent) (meaning : Result TreeOutcome StatusWord) (old : List (Option Selection)) where
  refused_answer : (content : List ℕ) (table : Loaded) (status : StatusWord) → Stands store_mark content table state → meaning ≡ Err status → IsTreeAnswer store_mark state meaning old status old table
  refused_answer content table status stands is =
      subst (λ (m : Result TreeOutcome StatusWord). IsTreeAnswer store_mark state m old status old table) (sym is)
      (record { status_is = refl; channels = refl; content = content; stands = stands })

  pub done : (outcome : TreeOutcome) (new : List (Option Selection)) (content : List ℕ) (table : Loaded) → meaning ≡ Ok outcome → new ≡ outcome.channels → Stands store_mark content table (last_of state outcome.passed)
      → IsTreeAnswer store_mark state meaning old DONE new table
  done outcome new content table is same stands =
      subst (λ (m : Result TreeOutcome StatusWord). IsTreeAnswer store_mark state m old DONE new table) (sym is)
      (record { status_is = refl; channels = same; content = content; stands = stands })

-- what holds of each state that a memory of the table stands for holds of the state of the store
module _ (of_table : StandingIsOfTable) (known : AgreeingStands) (before : Memory) (mounted : IsMounted before) where
  pub of_held : (P : Persistent → Type 0) → ((mark : ℕ) (content : List ℕ) (state : Persistent) → Stands mark content before.table state → P state) → (state : Persistent) → held before ≡ Some state → P state
  of_held P each state is = each before.mark mounted.agrees.content state (stands_here of_table known before.mark before.told before.table mounted.agrees state is)

  module _ (old : List (Option Selection)) (meaning : Persistent → Result TreeOutcome StatusWord) where
    -- ---- where no state is passed

    pub unchanged : (status : StatusWord) → AnswersTree before.table before.table status old old meaning → PassesNothing before.table old meaning → IsDone (Ok status) before before old old meaning
    unchanged status answers nothing = record { answers = answers; leaves = leaves (held before) refl; commits = commits; passes = tt; channels_kept = tt; keeps = keeps_all before status mounted } where
      leaves : (o : Option Persistent) → held before ≡ o → IfSome o (λ state. held before ≡ Some (last_of state (passed_by old (meaning state))))
      leaves None is = tt
      leaves (Some state) is =
          subst (λ (passed : List Persistent). held before ≡ Some (last_of state passed)) (sym (of_held (λ s. passed_by old (meaning s) ≡ []) nothing state is)) is

      commits : CommitsTree (Ok status) before before old meaning
      commits mark content state stands = subst (λ (passed : List Persistent). before.commits ≡ raised_by (length passed) before.commits) (sym (nothing mark content state stands)) refl

    pub refuses_nothing : (status : StatusWord) → TreeComesTo before.table meaning (λ _. Err status) → PassesNothing before.table old meaning
    refuses_nothing status comes mark content state stands = ap (passed_by old) (comes mark content state stands)

    pub refused : (status : StatusWord) → TreeComesTo before.table meaning (λ _. Err status) → IsDone (Ok status) before before old old meaning
    refused status comes =
        unchanged status (λ mark content state stands. refused_answer mark state (meaning state) old content before.table status stands (comes mark content state stands)) (refuses_nothing status comes)

    -- ---- where one is

    module _ (change : Persistent → Persistent) (one : (mark : ℕ) (content : List ℕ) (state : Persistent) → Stands mark content before.table state → passed_by old (meaning state) ≡ change state ∷ []) where
      pub not_still : {Holds : Type 0} → IfNothingPasses before.table old meaning Holds
      not_still mark content state stands none =
          let none_is_one : 1 ≡ 0 = ap (λ (list : List Persistent). length list) (sym (one mark content state stands) ∙ none) in
          absurd (omega (arith, none_is_one))

      one_held : (state : Persistent) → held before ≡ Some state → passed_by old (meaning state) ≡ change state ∷ []
      one_held = of_held (λ s. passed_by old (meaning s) ≡ change s ∷ []) one

      pub carried_out : {T : Type 0} (value : T) (after : Memory) (status : StatusWord) (new : List (Option Selection)) → AnswersTree before.table after.table status old new meaning → Committed before after (Ok value) change
          → IsDone (Ok status) before after old new meaning
      carried_out value after status new answers committed =
          record { answers = answers; leaves = leaves (held before) refl; commits = commits; passes = tt; channels_kept = tt; keeps = keeps_done before after value status committed.keeps }
        where
          leaves : (o : Option Persistent) → held before ≡ o → IfSome o (λ state. held after ≡ Some (last_of state (passed_by old (meaning state))))
          leaves None is = tt
          leaves (Some state) is = subst (λ (passed : List Persistent). held after ≡ Some (last_of state passed)) (sym (one_held state is)) (committed.ok ∙ ap (option_map change) is)

          commits : CommitsTree (Ok status) before after old meaning
          commits mark content state stands = subst (λ (passed : List Persistent). after.commits ≡ raised_by (length passed) before.commits) (sym (one mark content state stands)) committed.commits

      pub stopped : {T : Type 0} (fault : StoreFault) (after : Memory) → Committed {T = T} before after (Err fault) change → IsDone (Err fault) before after old old meaning
      stopped {T} fault after committed = record { answers = tt; leaves = tt; commits = committed.commits; passes = passes (held before) refl; channels_kept = refl; keeps = keeps_err {T = T} before after fault committed.keeps } where
        both : (state : Persistent) → (held after ≡ Some state) ⊎ (held after ≡ Some (change state)) → IsSomeAnd (held after) (Contains (state ∷ change state ∷ []))
        both state (inl same) = subst (λ (o : Option Persistent). IsSomeAnd o (Contains (state ∷ change state ∷ []))) (sym same) (0, omega arith, refl)
        both state (inr new) = subst (λ (o : Option Persistent). IsSomeAnd o (Contains (state ∷ change state ∷ []))) (sym new) (1, omega arith, refl)

        passes : (o : Option Persistent) → held before ≡ o → PassesOne o (held after) (λ state. passed_by old (meaning state))
        passes None is = tt
        passes (Some state) is =
            subst (λ (passed : List Persistent). IsSomeAnd (held after) (Contains (state ∷ passed))) (sym (one_held state is))
            (both state (subst (λ (o : Option Persistent). (held after ≡ o) ⊎ (held after ≡ option_map change o)) is committed.whole))

    -- ---- commands that come to the same

    module _ (other : Persistent → Result TreeOutcome StatusWord) (comes : TreeComesTo before.table meaning other) where
      pub still_alike : {Holds : Type 0} → IfNothingPasses before.table old other Holds → IfNothingPasses before.table old meaning Holds
      still_alike still mark content state stands none = still mark content state stands (ap (passed_by old) (sym (comes mark content state stands)) ∙ none)

      comes_held : (state : Persistent) → held before ≡ Some state → meaning state ≡ other state
      comes_held = of_held (λ s. meaning s ≡ other s) comes

      pub alike : (result : Result StatusWord StoreFault) (after : Memory) (new : List (Option Selection)) → IsDone result before after old new other → IsDone result before after old new meaning
      alike result after new is =
          record { answers = answered result is.answers; leaves = on_ok_weaker result (left (held before) refl) is.leaves; commits = counted result is.commits; passes = on_err_weaker result (passed (held before) refl) is.passes; channels_kept = is.channels_kept; keeps = is.keeps }
        where
          answered : (r : Result StatusWord StoreFault) → IfOk r (λ status. AnswersTree before.table after.table status old new other) → IfOk r (λ status. AnswersTree before.table after.table status old new meaning)
          answered (Ok status) answers = λ mark content state stands.
              subst (λ (m : Result TreeOutcome StatusWord). IsTreeAnswer mark state m old status new after.table) (sym (comes mark content state stands)) (answers mark content state stands)
          answered (Err fault) answers = tt

          left : (o : Option Persistent) → held before ≡ o → IfSome o (λ state. held after ≡ Some (last_of state (passed_by old (other state)))) → IfSome o (λ state. held after ≡ Some (last_of state (passed_by old (meaning state))))
          left None at leaves = tt
          left (Some state) at leaves = subst (λ (m : Result TreeOutcome StatusWord). held after ≡ Some (last_of state (passed_by old m))) (sym (comes_held state at)) leaves

          counted : (r : Result StatusWord StoreFault) → CommitsTree r before after old other → CommitsTree r before after old meaning
          counted (Ok status) commits = λ mark content state stands.
              subst (λ (m : Result TreeOutcome StatusWord). after.commits ≡ raised_by (length (passed_by old m)) before.commits) (sym (comes mark content state stands)) (commits mark content state stands)
          counted (Err fault) commits = commits

          passed : (o : Option Persistent) → held before ≡ o → PassesOne o (held after) (λ state. passed_by old (other state)) → PassesOne o (held after) (λ state. passed_by old (meaning state))
          passed None at passes = tt
          passed (Some state) at passes = subst (λ (m : Result TreeOutcome StatusWord). IsSomeAnd (held after) (Contains (state ∷ passed_by old m))) (sym (comes_held state at)) passes
