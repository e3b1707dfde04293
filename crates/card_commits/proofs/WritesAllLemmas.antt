-- What some changes have written, and what is written where a fault stops them.
use Rattle.std.proofs.Common.{◌≡◌, ◌⊎◌, ℕ, List, [], ◌∷◌, Option, Some, None, option_map, Result, Ok, Err, IsErr, IfSome, refl, sym, ◌∙◌, ap, subst, inl, inr, ⊎_elim, arith}
use Rattle.list_laws.proofs.IfSomeLemmas.{if_some, if_some_at}
use Rattle.store_form.specs.declared.store.StoreFault.{StoreFault}
use Rattle.card_state.specs.Changes.{Change}
use Rattle.card_state.specs.Memory.{Memory, held}
use Rattle.card_state.specs.Persistent.{Persistent}
use Rattle.card_commits.specs.Performing.{StopsAmong, WritesAll}
use Rattle.card_commits.specs.Writing.{written, all_written, WritesChange}

abbrev pub Told : Type 0
Told = Option (List ℕ)

-- ---- the bytes after no change, after one, and after two

pub none_written : (told : Told) → told ≡ option_map (all_written []) told
unfolding all_written
none_written None = refl
none_written (Some content) = refl

pub one_written : (change : Change) (told : Told) → option_map (written change) told ≡ option_map (all_written (change ∷ [])) told
unfolding all_written
one_written change None = refl
one_written change (Some content) = refl

pub two_written : (first second : Change) (told : Told) → option_map (written second) (option_map (written first) told) ≡ option_map (all_written (first ∷ second ∷ [])) told
unfolding all_written
two_written first second None = refl
two_written first second (Some content) = refl

-- a commit after calls that leave the bytes
pub put_after : (change : Change) (before mid after : Told) → mid ≡ before → after ≡ option_map (written change) mid → after ≡ option_map (all_written (change ∷ [])) before
put_after change before mid after same put = put ∙ ap (option_map (written change)) same ∙ one_written change before

pub put_or_not : (change : Change) (before mid after : Told) → mid ≡ before → (after ≡ mid) ⊎ (after ≡ option_map (written change) mid) → (after ≡ before) ⊎ (after ≡ option_map (all_written (change ∷ [])) before)
put_or_not change before mid after same how =
    ⊎_elim {C = (after ≡ before) ⊎ (after ≡ option_map (all_written (change ∷ [])) before)} (λ kept. inl (kept ∙ same)) (λ put. inr (put_after change before mid after same put)) how

-- ---- what a command has written

pub writes_alike : {X E : Type 0} (result : Result X E) (old new : Memory) (f g : Persistent → List Change) → ((state : Persistent) → held old ≡ Some state → f state ≡ g state) → WritesAll result old new g → WritesAll result old new f
writes_alike (Ok done) old new f g same writes =
    if_some (held old) _ (λ state is. if_some_at (held old) _ state writes is ∙ ap (λ (list : List Change). option_map (all_written list) old.told) (sym (same state is)))
writes_alike (Err fault) old new f g same writes =
    if_some (held old) _ (λ state is. subst (λ (list : List Change). StopsAmong list old new) (sym (same state is)) (if_some_at (held old) _ state writes is))

-- a command that commits nothing
pub writes_nothing : (E : Type 0) {X : Type 0} (value : X) (old new : Memory) → new.told ≡ old.told → WritesAll {E = E} (Ok value) old new (λ state. [])
writes_nothing E value old new same = if_some (held old) _ (λ state is. same ∙ none_written old.told)

-- one that a fault stopped
pub stopped_writes : {X E : Type 0} (result : Result X E) (old new : Memory) (changes : Persistent → List Change) → IsErr result → IfSome (held old) (λ state. StopsAmong (changes state) old new) → WritesAll result old new changes
stopped_writes (Ok value) old new changes is stops = absurd (cc)
stopped_writes (Err fault) old new changes is stops = stops

-- one commit
pub one_writes : (E : Type 0) {T X : Type 0} (done : T) (value : X) (old new : Memory) (change : Change) → WritesChange old new (Ok done) change → WritesAll {E = E} (Ok value) old new (λ state. change ∷ [])
one_writes E done value old new change writes = if_some (held old) _ (λ state is. writes.ok ∙ one_written change old.told)

pub one_stops : (X : Type 0) {T : Type 0} (fault : StoreFault) (old new : Memory) (change : Change) → WritesChange {T = T} old new (Err fault) change → new.commits ≡ old.commits → WritesAll {X = X} (Err fault) old new (λ state. change ∷ [])
one_stops X fault old new change writes counted = if_some (held old) _ (λ state is. record {
  done = 0;
  few = omega arith;
  commits = counted;
  told =
      ⊎_elim {C = (new.told ≡ option_map (all_written []) old.told) ⊎ (new.told ≡ option_map (all_written (change ∷ [])) old.told)}
      (λ kept. inl (kept ∙ none_written old.told)) (λ put. inr (put ∙ one_written change old.told)) writes.whole;
})
