-- How often a whole command commits and what it writes, over a store that tells its bytes.
use Rattle.std.proofs.Common.{◌≡◌, ℕ, Bool, true, false, List, length, Option, Some, None, Result, ◌∙◌, ap, subst, IfSome, option_map}
use Rattle.std.proofs.lemmas.Result.{on_ok_weaker, on_err_weaker}
use Rattle.uicc_types.specs.Counts.{raised_by}
use Rattle.store_form.specs.declared.store.StoreFault.{StoreFault}
use Rattle.card_state.specs.Changes.{Change}
use Rattle.card_state.specs.Persistent.{Persistent}
use Rattle.card_model.specs.States.{CardState, woken}
use Rattle.card_core.specs.Cards.{card_with, card_of, held_by}
use Rattle.card_core.specs.Moves.{CommitsStates, StopsAt}
use Rattle.card_core.specs.Parts.{CardParts}
use Rattle.card_core.specs.Writing.{WritesChanges}
use Rattle.card_core.proofs.StopsAtLemmas.{stops_none}
use Rattle.card_core.proofs.WritingLemmas.{writes_from}

if_each : {X : Type 0} (o : Option X) (P Q : X → Type 0) → ((x : X) → P x → Q x) → IfSome o P → IfSome o Q
if_each None P Q each holds = tt
if_each (Some x) P Q each holds = each x holds

pub if_any : {X : Type 0} (o : Option X) (P : X → Type 0) → ((x : X) → P x) → IfSome o P
if_any None P each = tt
if_any (Some x) P each = each x

-- what is due commits nothing
pub counts_from : {X : Type 0} (result : Result X StoreFault) (old mid new : CardParts) (passed : CardState → List Persistent) → card_of mid ≡ card_of old → mid.commits ≡ old.commits → CommitsStates result mid new passed → CommitsStates result old new passed
counts_from result old mid new passed same counted counts = record {
  commits =
      on_ok_weaker result
      (λ commits.
      if_each (card_of old) (λ card. new.commits ≡ raised_by (length (passed card)) mid.commits) (λ card. new.commits ≡ raised_by (length (passed card)) old.commits)
      (λ card is. is ∙ ap (λ (count : ℕ). raised_by (length (passed card)) count) counted)
      (subst (λ (found : Option CardState). IfSome found (λ card. new.commits ≡ raised_by (length (passed card)) mid.commits)) same commits))
      counts.commits;
  stopped =
      on_err_weaker result
      (λ stopped.
      if_each (card_of old) (λ card. StopsAt card.persistent (passed card) mid.commits new.commits (held_by new)) (λ card. StopsAt card.persistent (passed card) old.commits new.commits (held_by new))
      (λ card is. subst (λ (count : ℕ). StopsAt card.persistent (passed card) count new.commits (held_by new)) counted is)
      (subst (λ (found : Option CardState). IfSome found (λ card. StopsAt card.persistent (passed card) mid.commits new.commits (held_by new))) same stopped))
      counts.stopped;
}

-- and leaves the bytes
pub writes_due : {X : Type 0} (result : Result X StoreFault) (old mid new : CardParts) (changes : CardState → List Change) → card_of mid ≡ card_of old → mid.commits ≡ old.commits → mid.told ≡ old.told
    → IfSome (card_of mid) (λ card. WritesChanges result mid new (changes card)) → IfSome (card_of old) (λ card. WritesChanges result old new (changes card))
writes_due result old mid new changes same counted told writes =
    if_each (card_of old) (λ card. WritesChanges result mid new (changes card)) (λ card. WritesChanges result old new (changes card)) (λ card. writes_from result old mid new (changes card) told counted)
    (subst (λ (found : Option CardState). IfSome found (λ card. WritesChanges result mid new (changes card))) same writes)

-- where nothing moved, nothing was done
pub stops_unmoved : (old new : CardParts) (passed : CardState → List Persistent) → new.commits ≡ old.commits → held_by new ≡ held_by old
    → IfSome (card_of old) (λ card. StopsAt card.persistent (passed card) old.commits new.commits (held_by new))
unfolding card_of woken
stops_unmoved old new passed counted same = by_held old.is_due (held_by old) same where
  by_held : (due : Bool) (held : Option Persistent) → held_by new ≡ held → IfSome (option_map (card_with due old) held) (λ card. StopsAt card.persistent (passed card) old.commits new.commits (held_by new))
  by_held due None is = tt
  by_held true (Some state) is = stops_none state (passed (card_with true old state)) old.commits new.commits (held_by new) counted is
  by_held false (Some state) is = stops_none state (passed (card_with false old state)) old.commits new.commits (held_by new) counted is
