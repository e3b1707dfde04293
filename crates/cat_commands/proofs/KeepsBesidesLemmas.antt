-- What is kept of a scene in which an applet is deleted.
use Rattle.std.proofs.Common.{◌≡◌, sym, ap, ◌∙◌, subst, ℕ, List, Option, None, ◌≢◌, Result, Ok, Err, IsErrAnd, IsErr, get_or-set_other}
use Rattle.store_form.specs.declared.store.StoreFault.{StoreFault}
use Rattle.card_state.specs.declared.entries.Loaded.{Loaded}
use Rattle.card_state.specs.Memory.{IsMounted, Keeps}
use Rattle.card_commits.specs.Entries.{HasRowOn}
use Rattle.card_commits.proofs.KeepsLemmas.{keeps_then, fault_keeps}
use Rattle.applet_trait.specs.Minds.{AppletState}
use Rattle.toolkit_model.specs.Running.{mind_on, with_mind}
use Rattle.proactive_handler.specs.Boxes.{kinds_of}
use Rattle.proactive_handler.specs.Scenes.{KeepsScene}
use Rattle.proactive_handler.specs.Steps.{Scene}
use Rattle.proactive_handler.proofs.StandsForLemmas.{rows_alone_differ}
use Rattle.cat_commands.specs.Deleting.{KeepsBesides}
use Rattle.cat_commands.proofs.DeletingLemmas.{kinds_again, others_again}
use Rattle.cat_commands.proofs.HasRowOnLemmas.{has_still, silent}

-- a step that deletes nobody
pub besides_all : {X : Type 0} (shelf : ℕ) (old new : Scene) (value : X) → KeepsScene old new (Ok value) → KeepsBesides shelf old new (Ok value)
besides_all shelf old new value keeps = record {
  kinds = tt;
  others = λ other was is. keeps.others other is;
  served = keeps.served;
  rows_stay = λ other apart has. keeps.rows_stay other has;
  indexed = keeps.indexed;
  table = keeps.table;
  kept = tt;
  keeps = keeps.keeps;
}

-- a fault stopped the commit
pub besides_stopped : {X : Type 0} (shelf : ℕ) (old new : Scene) (r : Result X StoreFault) → IsErr r → IsMounted old.memory → new.minds ≡ old.minds → new.memory.table ≡ old.memory.table → Keeps old.memory new.memory r → KeepsBesides shelf old new r
besides_stopped shelf old new (Ok value) err mounted minds table keeps = cc err
besides_stopped shelf old new (Err fault) err mounted minds table keeps = record {
  kinds = ap kinds_of minds;
  others = λ other was is. ap (λ (m : List (Option AppletState)). mind_on m other) minds;
  served = tt;
  rows_stay = λ other apart has. has_still old.memory.table new.memory.table other table has;
  indexed = tt;
  table = rows_alone_differ old.memory.table new.memory.table old.memory.table.rows table;
  kept = silent old.memory.mark new.memory.mark old.memory.told old.memory.table new.memory.table keeps.mark table mounted.agrees;
  keeps = keeps;
}

-- the fault of one step that another passes on
pub besides_fault : {T U : Type 0} (shelf : ℕ) (old new : Scene) (fault : StoreFault) (r : Result U StoreFault) → IsErr r → IsErrAnd r (λ other. other ≡ fault) → KeepsBesides {X = T} shelf old new (Err fault) → KeepsBesides shelf old new r
besides_fault shelf old new fault (Ok value) err same keeps = cc err
besides_fault shelf old new fault (Err other) err same keeps = record {
  kinds = keeps.kinds;
  others = keeps.others;
  served = tt;
  rows_stay = keeps.rows_stay;
  indexed = tt;
  table = keeps.table;
  kept = keeps.kept;
  keeps = fault_keeps old.memory new.memory fault (Err other) err same keeps.keeps;
}

-- on the other shelves nothing moves where a box is taken out
pub others_without : (shelf other : ℕ) (old new : List (Option AppletState)) → other ≢ shelf → new ≡ with_mind old shelf None → mind_on new other ≡ mind_on old other
others_without shelf other old new apart is =
    ap (λ (minds : List (Option AppletState)). mind_on minds other) is ∙ get_or-set_other old shelf other None None apart

module _ (shelf : ℕ) (old mid new : Scene) where
  tables_then : mid.memory.table ≡ record old.memory.table { rows = mid.memory.table.rows } → new.memory.table ≡ record mid.memory.table { rows = new.memory.table.rows } → new.memory.table ≡ record old.memory.table { rows = new.memory.table.rows }
  tables_then before after = after ∙ ap (λ (t : Loaded). record t { rows = new.memory.table.rows }) before

  -- and then the end of the command
  pub besides_then : {T U : Type 0} (value : T) (other : U) → KeepsBesides shelf old mid (Ok value) → KeepsScene mid new (Ok other) → KeepsBesides shelf old new (Ok other)
  besides_then value result before after = record {
    kinds = tt;
    others = λ other was is. after.others other is ∙ before.others other was (λ has. is (after.rows_stay other has));
    served = after.served;
    rows_stay = λ other apart has. after.rows_stay other (before.rows_stay other apart has);
    indexed = after.indexed;
    table = tables_then before.table after.table;
    kept = tt;
    keeps = keeps_then old.memory mid.memory new.memory value (Ok result) before.keeps after.keeps;
  }

  -- a fault stopped the end: the box that was taken out is put back
  pub besides_again : {T U : Type 0} (value : T) (fault : StoreFault) (minds : List (Option AppletState)) (box : Option AppletState) → HasRowOn old.memory.table shelf → mid.minds ≡ with_mind old.minds shelf None → box ≡ mind_on old.minds shelf
      → minds ≡ with_mind new.minds shelf box → KeepsBesides shelf old mid (Ok value) → KeepsScene {X = U} mid new (Err fault) → KeepsBesides {X = U} shelf old (record new { minds = minds }) (Err fault)
  besides_again {T} {U} value fault minds box row gone taken back before after = record {
    kinds = kinds_again shelf old.minds mid.minds new.minds minds box gone after.kinds taken back;
    others = λ other was is.
        others_again shelf other old.minds mid.minds new.minds minds box (λ so. was (subst (HasRowOn old.memory.table) (sym so) row)) gone (after.others other is) back;
    served = tt;
    rows_stay = λ other apart has. after.rows_stay other (before.rows_stay other apart has);
    indexed = tt;
    table = tables_then before.table after.table;
    kept = after.kept;
    keeps = keeps_then {U = U} old.memory mid.memory new.memory value (Err fault) before.keeps after.keeps;
  }
