-- How the parts of a command come together: its tests, what it gives, and what stands where a fault stops it.
use Rattle.std.proofs.Common.{◌≡◌, List, ◌∷◌, length, Option, Some, None, refl, sym, ap, ◌∙◌, subst, inl, inr, ◌⊎◌, IsSomeAnd, Contains, option_map, Result, Ok, Err}
use Rattle.std.proofs.lemmas.Result.{on_err_weaker}
use Rattle.list_laws.proofs.IfSomeLemmas.{if_some, if_some_at, if_ok_from}
use Rattle.uicc_types.specs.Counts.{raised_by}
use Rattle.uicc_types.specs.declared.answers.Answer.{Answer}
use Rattle.uicc_types.specs.declared.answers.StatusWord.{StatusWord}
use Rattle.card_state.specs.Persistent.{Persistent}
use Rattle.card_state.specs.Memory.{Memory, held}
use Rattle.file_model.specs.declared.descriptors.Descriptor.{Descriptor}
use Rattle.file_model.specs.declared.selections.Selection.{Selection}
use Rattle.file_model.specs.Chains.{and_given}
use Rattle.file_model.specs.Files.{descriptors_in, descriptors_of}
use Rattle.file_model.specs.Outcomes.{FileOutcome, last_of, settled_file}
use Rattle.card_commits.specs.Performing.{IsOutcome, PassesOne, IsStopped, StaysStill}
use Rattle.binary_commands.specs.Targets.{Gives, IsAnswer, Tells}
use Rattle.binary_commands.specs.Ends.{Tried, GivesTried, Passes}

-- ---- what it gives

pub gives_same : (state : Persistent) (m m' : Result FileOutcome StatusWord) (tried : Result Selection StatusWord) (answer : Answer) (old new : Memory) → m ≡ m'
    → Gives state m' tried answer old new → Gives state m tried answer old new
gives_same state m m' tried answer old new same gives = subst (λ (r : Result FileOutcome StatusWord). Gives state r tried answer old new) (sym same) gives

pub tells_ok : (m : Result FileOutcome StatusWord) (outcome : FileOutcome) (selection : Selection) (answer : Answer) → m ≡ Ok outcome → IsAnswer outcome answer selection → Tells m (Ok selection) answer
tells_ok m outcome selection answer is tells = subst (λ (r : Result FileOutcome StatusWord). Tells r (Ok selection) answer) (sym is) tells

-- what passes no state leaves the one that stands
pub answered : (state : Persistent) (outcome : FileOutcome) (answer : Answer) (selection : Selection) (old new : Memory) → IsAnswer outcome answer selection → held new ≡ Some state → new.commits ≡ old.commits
    → IsOutcome state outcome answer selection old new
answered state outcome answer selection old new is stands counted = record {
  body = is.body;
  status = is.status;
  selected = is.selected;
  state_is = stands ∙ ap (λ (passed : List Persistent). Some (last_of state passed)) (sym is.passed);
  commits = counted ∙ ap (λ (passed : List Persistent). raised_by (length passed) old.commits) (sym is.passed);
}

-- ---- where a fault stops it

-- what a commit has left, from what stood before it
pub left_by : (before after : Option Persistent) (state : Persistent) (change change' : Persistent → Persistent) → before ≡ Some state → change ≡ change' → (after ≡ before) ⊎ (after ≡ option_map change before)
    → (after ≡ Some state) ⊎ (after ≡ Some (change' state))
left_by before after state change change' is same (inl none) = inl (none ∙ is)
left_by before after state change change' is same (inr all) = inr (all ∙ ap (option_map change) is ∙ ap (λ (f : Persistent → Persistent). Some (f state)) same)

-- commands that come to the same pass the same
pub passes_same : (before after : Option Persistent) (selection : Selection) (m m' : Persistent → Result FileOutcome StatusWord) → ((state : Persistent) → before ≡ Some state → m state ≡ m' state)
    → PassesOne before after (λ state. (settled_file selection (m' state)).passed) → PassesOne before after (λ state. (settled_file selection (m state)).passed)
passes_same None after selection m m' same passes = cc
passes_same (Some state) after selection m m' same passes =
    subst (λ (r : Result FileOutcome StatusWord). IsSomeAnd after (Contains (state ∷ (settled_file selection r).passed))) (sym (same state refl)) passes

pub stops_alike : (old new : Memory) (selection : Selection) (m m' : Persistent → Result FileOutcome StatusWord) → ((state : Persistent) → held old ≡ Some state → m state ≡ m' state)
    → IsStopped old new (λ state. (settled_file selection (m' state)).passed) → IsStopped old new (λ state. (settled_file selection (m state)).passed)
stops_alike old new selection m m' same stops = record { passes = passes_same (held old) (held new) selection m m' same stops.passes; commits = stops.commits }

-- and where they pass no state the bytes stay
pub still_same : (old new : Memory) (selection : Selection) (m m' : Persistent → Result FileOutcome StatusWord) → ((state : Persistent) → held old ≡ Some state → m state ≡ m' state)
    → StaysStill old new (λ state. (settled_file selection (m' state)).passed) → StaysStill old new (λ state. (settled_file selection (m state)).passed)
still_same old new selection m m' same still =
    if_some (held old) _ (λ state is none. if_some_at (held old) _ state still is (ap (λ (r : Result FileOutcome StatusWord). (settled_file selection r).passed) (sym (same state is)) ∙ none))

-- what was tried so gives the same, and passes the same
pub gives_alike : (result : Tried) (old new : Memory) (answer : Answer) (m m' : Persistent → Result FileOutcome StatusWord) → ((state : Persistent) → held old ≡ Some state → m state ≡ m' state)
    → GivesTried result old new answer m' → GivesTried result old new answer m
gives_alike result old new answer m m' same gives =
    if_ok_from result _ _ gives (λ tried known.
    if_some (held old) _ (λ state is.
    gives_same state (m state) (m' state) tried answer old new (same state is) (if_some_at (held old) _ state known is)))

pub passes_alike : (result : Tried) (old new : Memory) (selection : Selection) (m m' : Persistent → Result FileOutcome StatusWord) → ((state : Persistent) → held old ≡ Some state → m state ≡ m' state)
    → Passes result old new selection m' → Passes result old new selection m
passes_alike result old new selection m m' same each = record {
  stopped = on_err_weaker result (stops_alike old new selection m m' same) each.stopped;
  still = still_same old new selection m m' same each.still;
}

-- what has bytes stay stays still
pub stays_still : (old new : Memory) (passed : Persistent → List Persistent) → new.told ≡ old.told → StaysStill old new passed
stays_still old new passed same = if_some (held old) _ (λ state is none. same)

-- ---- the file that a command works on, and the rest

-- the table tells of files what the state tells that stands
module _ (old : Memory) (told : (state : Persistent) → held old ≡ Some state → descriptors_in state ≡ descriptors_of old.table) (addressing : List Descriptor → Result Descriptor StatusWord) (rest : Persistent → Descriptor → Result FileOutcome StatusWord)
    (found : Result Descriptor StatusWord) (is_found : found ≡ addressing (descriptors_of old.table)) where
  abbrev meant : Persistent → Result FileOutcome StatusWord
  meant state = and_given (addressing (descriptors_in state)) (rest state)

  from_found : (state : Persistent) → held old ≡ Some state → meant state ≡ and_given found (rest state)
  from_found state is = ap (λ (files : List Descriptor). and_given (addressing files) (rest state)) (told state is) ∙ ap (λ (r : Result Descriptor StatusWord). and_given r (rest state)) (sym is_found)

  of_file : (file : Descriptor) → found ≡ Ok file → (state : Persistent) → held old ≡ Some state → meant state ≡ rest state file
  unfolding and_given
  of_file file is state there = from_found state there ∙ ap (λ (r : Result Descriptor StatusWord). and_given r (rest state)) is

  pub file_gives : (file : Descriptor) → found ≡ Ok file → (result : Tried) (new : Memory) (answer : Answer) → GivesTried result old new answer (λ state. rest state file) → GivesTried result old new answer meant
  file_gives file is result new answer gives = gives_alike result old new answer meant (λ state. rest state file) (of_file file is) gives

  pub file_passes : (file : Descriptor) → found ≡ Ok file → (result : Tried) (new : Memory) (selection : Selection) → Passes result old new selection (λ state. rest state file) → Passes result old new selection meant
  file_passes file is result new selection each = passes_alike result old new selection meant (λ state. rest state file) (of_file file is) each

  pub refusal_gives : (status : StatusWord) → found ≡ Err status → (answer : Answer) → GivesTried (Ok (Err status)) old old answer meant
  unfolding and_given
  refusal_gives status is answer = if_some (held old) _ (λ state there. (from_found state there ∙ ap (λ (r : Result Descriptor StatusWord). and_given r (rest state)) is, there, refl))
