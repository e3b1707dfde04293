-- What a command that makes, deletes or resizes a file has written, from what it comes to.
use Rattle.std.proofs.Common.{◌≡◌, List, Option, Result, Ok, Err, ap, refl}
use Rattle.uicc_types.specs.declared.answers.StatusWord.{StatusWord}
use Rattle.store_form.specs.declared.store.StoreFault.{StoreFault}
use Rattle.card_state.specs.Memory.{Memory, IsMounted}
use Rattle.card_state.specs.Persistent.{Persistent}
use Rattle.file_model.specs.declared.selections.Selection.{Selection}
use Rattle.file_model.specs.TreeOutcomes.{TreeOutcome}
use Rattle.layout_laws.specs.Known.{StandingIsOfTable}
use Rattle.layout_laws.specs.Stores.{AgreeingStands}
use Rattle.card_commits.specs.Performing.{WritesAll}
use Rattle.card_commits.proofs.WritesAllLemmas.{writes_alike, writes_nothing}
use Rattle.file_admin.specs.Outcomes.{changes_by, TreeComesTo}
use Rattle.file_admin.proofs.AnswersTreeLemmas.{of_held}

module _ (of_table : StandingIsOfTable) (known : AgreeingStands) (before : Memory) (mounted : IsMounted before) (old : List (Option Selection)) (meaning : Persistent → Result TreeOutcome StatusWord) where
  -- commands that come to the same write the same
  pub writes_comes : (other : Persistent → Result TreeOutcome StatusWord) → TreeComesTo before.table meaning other → {X E : Type 0} (result : Result X E) (after : Memory) → WritesAll result before after (λ state. changes_by old (other state))
      → WritesAll result before after (λ state. changes_by old (meaning state))
  writes_comes other comes result after writes =
      writes_alike result before after (λ state. changes_by old (meaning state)) (λ state. changes_by old (other state))
      (λ state is. ap (changes_by old) (of_held of_table known before mounted (λ s. meaning s ≡ other s) comes state is)) writes

  -- a refused command writes nothing
  pub writes_refused : (status : StatusWord) → TreeComesTo before.table meaning (λ state. Err status) → WritesAll {E = StoreFault} (Ok status) before before (λ state. changes_by old (meaning state))
  writes_refused status comes = writes_comes (λ state. Err status) comes (let done : Result StatusWord StoreFault = Ok status in done) before (writes_nothing StoreFault status before before refl)
