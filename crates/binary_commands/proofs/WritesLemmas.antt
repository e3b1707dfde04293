-- What a command on a file has written, by its meaning, from what its one commit writes.
use Rattle.std.proofs.Common.{◌≡◌, ◌⊎◌, Bool, true, false, List, [], take, Some, option_map, Result, Ok, Err, IsErr, IfOk, IfSome, IsOkAnd, refl, sym, ◌∙◌, ap, subst, inl, inr, ⊎_elim, arith}
use Rattle.list_laws.proofs.IfSomeLemmas.{if_some, if_some_at}
use Rattle.uicc_types.specs.declared.answers.Answer.{Answer}
use Rattle.uicc_types.specs.declared.answers.StatusWord.{StatusWord}
use Rattle.store_form.specs.declared.store.StoreFault.{StoreFault}
use Rattle.card_state.specs.Changes.{Change}
use Rattle.card_state.specs.Persistent.{Persistent}
use Rattle.card_state.specs.Memory.{Memory, held}
use Rattle.file_model.specs.declared.descriptors.Descriptor.{Descriptor}
use Rattle.file_model.specs.declared.selections.Selection.{Selection}
use Rattle.file_model.specs.Chains.{refused_if, and_given}
use Rattle.file_model.specs.Files.{descriptors_in, descriptors_of}
use Rattle.file_model.specs.Outcomes.{FileOutcome, settled_file}
use Rattle.card_commits.specs.Performing.{StopsAmong, WritesAll}
use Rattle.card_commits.specs.Writing.{all_written}
use Rattle.card_commits.proofs.WritesAllLemmas.{none_written, writes_alike}
use Rattle.binary_commands.specs.Targets.{Gives}
use Rattle.binary_commands.specs.Ends.{Tried, GivesTried, Passes, Puts}

-- ---- what was tried

-- stopped by a fault
pub puts_stopped : (result : Tried) (old new : Memory) (changes : Persistent → List Change) → IsErr result → IfSome (held old) (λ state. (new.told ≡ old.told) ⊎ (new.told ≡ option_map (all_written (changes state)) old.told)) → Puts result old new changes
puts_stopped (Ok tried) old new changes is how = absurd (cc)
puts_stopped (Err fault) old new changes is how = how

-- a fault before the commit
pub puts_nothing : (result : Tried) (old new : Memory) (changes : Persistent → List Change) → IsErr result → new.told ≡ old.told → Puts result old new changes
puts_nothing result old new changes is same = puts_stopped result old new changes is (if_some (held old) _ (λ state there. inl same))

-- a refusal on the way does not bear on what is known of an outcome
pub past_refusal : (P : FileOutcome → Type 0) (bad : Bool) (status : StatusWord) (rest : Result FileOutcome StatusWord) → IfOk rest P → IfOk (refused_if bad status rest) P
unfolding refused_if
past_refusal P true status rest known = cc
past_refusal P false status rest known = known

-- the changes of an outcome are these, and one at most
pub record Makes (meaning : Persistent → Result FileOutcome StatusWord) (changes : Persistent → List Change) : Type 0 where
  pub made : (state : Persistent) → IfOk (meaning state) (λ outcome. outcome.changes ≡ changes state)
  pub few : (state : Persistent) → take 1 (changes state) ≡ changes state

module _ (old new : Memory) (selection : Selection) (meaning : Persistent → Result FileOutcome StatusWord) (changes : Persistent → List Change) (makes : Makes meaning changes) where
  abbrev settled : Persistent → List Change
  settled state = (settled_file selection (meaning state)).changes

  done_by : (state : Persistent) (r : Result FileOutcome StatusWord) (is : FileOutcome → Type 0) → IfOk r (λ outcome. outcome.changes ≡ changes state) → IsOkAnd r is
      → new.told ≡ option_map (all_written (changes state)) old.told → new.told ≡ option_map (all_written (settled_file selection r).changes) old.told
  done_by state (Ok outcome) is same ok put = put ∙ ap (λ (list : List Change). option_map (all_written list) old.told) (sym same)
  done_by state (Err status) is same ok put = absurd ok

  refused_by : (r : Result FileOutcome StatusWord) (status : StatusWord) → r ≡ Err status → new.told ≡ old.told → new.told ≡ option_map (all_written (settled_file selection r).changes) old.told
  refused_by r status is same = subst (λ (m : Result FileOutcome StatusWord). new.told ≡ option_map (all_written (settled_file selection m).changes) old.told) (sym is) (same ∙ none_written old.told)

  stopped_by : (state : Persistent) (r : Result FileOutcome StatusWord) → IfOk r (λ outcome. outcome.changes ≡ changes state) → ((settled_file selection r).passed ≡ [] → new.told ≡ old.told) → new.commits ≡ old.commits
      → (new.told ≡ old.told) ⊎ (new.told ≡ option_map (all_written (changes state)) old.told) → StopsAmong (settled_file selection r).changes old new
  stopped_by state (Err status) same still counted how = record { done = 0; few = omega arith; commits = counted; told = inl (still refl ∙ none_written old.told) }
  stopped_by state (Ok outcome) same still counted how = record {
    done = 0;
    few = omega arith;
    commits = counted;
    told =
        ⊎_elim {C = (new.told ≡ option_map (all_written []) old.told) ⊎ (new.told ≡ option_map (all_written (take 1 outcome.changes)) old.told)}
        (λ kept. inl (kept ∙ none_written old.told))
        (λ put. inr (put ∙ ap (λ (list : List Change). option_map (all_written list) old.told) (sym (ap (λ (list : List Change). take 1 list) same ∙ makes.few state)))) how;
  }

  pub settled_writes : (result : Tried) (answer : Answer) → GivesTried result old new answer meaning → Passes result old new selection meaning → Puts result old new changes → WritesAll result old new settled
  settled_writes (Ok (Ok chosen)) answer gives passes puts =
      if_some (held old) _ (λ state is. done_by state (meaning state) _ (makes.made state) (if_some_at (held old) _ state gives is) (if_some_at (held old) _ state puts is))
  settled_writes (Ok (Err status)) answer gives passes puts = if_some (held old) _ (λ state is. refused_by (meaning state) status (if_some_at (held old) _ state gives is).0 puts)
  settled_writes (Err fault) answer gives passes puts =
      if_some (held old) _ (λ state is. stopped_by state (meaning state) (makes.made state) (if_some_at (held old) _ state passes.still is) passes.stopped.commits (if_some_at (held old) _ state puts is))

-- ---- the file that a command works on, and the rest

module _ (old : Memory) (told : (state : Persistent) → held old ≡ Some state → descriptors_in state ≡ descriptors_of old.table) (addressing : List Descriptor → Result Descriptor StatusWord) (rest : Persistent → Descriptor → Result FileOutcome StatusWord)
    (found : Result Descriptor StatusWord) (is_found : found ≡ addressing (descriptors_of old.table)) (selection : Selection) where
  abbrev meant : Persistent → List Change
  meant state = (settled_file selection (and_given (addressing (descriptors_in state)) (rest state))).changes

  from_found : (state : Persistent) → held old ≡ Some state → meant state ≡ (settled_file selection (and_given found (rest state))).changes
  from_found state is = ap (λ (r : Result Descriptor StatusWord). (settled_file selection (and_given r (rest state))).changes) (ap addressing (told state is) ∙ sym is_found)

  of_file : (file : Descriptor) → found ≡ Ok file → (state : Persistent) → held old ≡ Some state → meant state ≡ (settled_file selection (rest state file)).changes
  unfolding and_given
  of_file file is state there = from_found state there ∙ ap (λ (r : Result Descriptor StatusWord). (settled_file selection (and_given r (rest state))).changes) is

  pub file_writes : (file : Descriptor) → found ≡ Ok file → (result : Tried) (new : Memory) → WritesAll result old new (λ state. (settled_file selection (rest state file)).changes) → WritesAll result old new meant
  file_writes file is result new writes = writes_alike result old new meant (λ state. (settled_file selection (rest state file)).changes) (of_file file is) writes

  of_refusal : (status : StatusWord) → found ≡ Err status → (state : Persistent) → held old ≡ Some state → meant state ≡ []
  unfolding and_given
  of_refusal status is state there = from_found state there ∙ ap (λ (r : Result Descriptor StatusWord). (settled_file selection (and_given r (rest state))).changes) is

  pub refusal_writes : (status : StatusWord) → found ≡ Err status → (result : Result Selection StatusWord) → WritesAll {E = StoreFault} (Ok result) old old meant
  refusal_writes status is result =
      if_some (held old) _ (λ state there. none_written old.told ∙ ap (λ (list : List Change). option_map (all_written list) old.told) (sym (of_refusal status is state there)))
