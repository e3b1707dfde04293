-- The bytes after some changes, and then after others.
use Rattle.std.proofs.Common.{◌≡◌, refl, sym, ap, ◌∙◌, subst, ⊎_elim, inl, inr, ℕ, zero, suc, ◌+◌, ◌≤◌, Bool, true, false, nat_lt, List, [], ◌∷◌, ◌++◌, Some, None, arith, ◌⊎◌, length, take, option_map}
use Rattle.std.proofs.lemmas.Bool.Decides.{nat_tests}
use Rattle.std.proofs.lemmas.List.{length-append}
use Rattle.std.proofs.lemmas.List.Elements.{filter_map-append}
use Rattle.uicc_types.specs.Counts.{raised, raised_by}
use Rattle.card_state.specs.Changes.{Change}
use Rattle.card_state.specs.Memory.{Memory}
use Rattle.card_commits.specs.Performing.{StopsAmong}
use Rattle.card_commits.specs.Writing.{written, all_written}
use Rattle.card_commits.proofs.WritesAllLemmas.{Told, none_written, one_written}
use Rattle.toolkit_model.specs.Passing.{Happening, Woke, Fetched, Responded, Given, Turned, Committed, change_in, changes_in, passed_rows}
use Rattle.proactive_handler.specs.Written.{IsWritten, IsPartlyWritten}

-- ---- the changes that are noted

pub changes_append : (first second : List Happening) → changes_in (first ++ second) ≡ changes_in first ++ changes_in second
changes_append first second = filter_map-append change_in first second

-- one for each commit
pub as_many : (log : List Happening) → length (changes_in log) ≡ length (passed_rows log)
as_many [] = refl
as_many (Woke ∷ log) = as_many log
as_many (Fetched out ∷ log) = as_many log
as_many (Responded out reply ∷ log) = as_many log
as_many (Given trigger ∷ log) = as_many log
as_many (Turned turn ∷ log) = as_many log
as_many (Committed change rows ∷ log) = ap (λ (n : ℕ). suc n) (as_many log)

none_there : (changes : List Change) → length changes ≡ 0 → changes ≡ []
none_there [] is = refl
none_there (change ∷ changes) is = absurd (omega (arith, is))

pub no_changes : (log : List Happening) → passed_rows log ≡ [] → changes_in log ≡ []
no_changes log none = none_there (changes_in log) (as_many log ∙ ap length none)

-- ---- the bytes

content_after : (first second : List Change) (content : List ℕ) → all_written second (all_written first content) ≡ all_written (first ++ second) content
unfolding all_written
content_after [] second content = refl
content_after (change ∷ first) second content = content_after first second (written change content)

pub told_after : (first second : List Change) (told : Told) → option_map (all_written second) (option_map (all_written first) told) ≡ option_map (all_written (first ++ second)) told
told_after first second None = refl
told_after first second (Some content) = ap (λ (bytes : List ℕ). Some bytes) (content_after first second content)

pub writes_none : (log : List Happening) (old new : Memory) → passed_rows log ≡ [] → new ≡ old → IsWritten log old new
writes_none log old new none same =
    ap (λ (m : Memory). m.told) same ∙ none_written old.told ∙ ap (λ (changes : List Change). option_map (all_written changes) old.told) (sym (no_changes log none))

pub writes_then : (first second : List Happening) (old mid new : Memory) → IsWritten first old mid → IsWritten second mid new → IsWritten (first ++ second) old new
writes_then first second old mid new one two =
    two ∙ ap (option_map (all_written (changes_in second))) one ∙ told_after (changes_in first) (changes_in second) old.told
    ∙ ap (λ (changes : List Change). option_map (all_written changes) old.told) (sym (changes_append first second))

-- ---- where a fault stopped some

-- the first of them
pub stops_first : (change : Change) (more : List Change) (old new : Memory) → (new.told ≡ old.told) ⊎ (new.told ≡ option_map (written change) old.told) → new.commits ≡ old.commits → StopsAmong (change ∷ more) old new
stops_first change more old new how none = record {
  done = 0;
  few = omega arith;
  commits = none;
  told = ⊎_elim {C = (new.told ≡ option_map (all_written []) old.told) ⊎ (new.told ≡ option_map (all_written (change ∷ [])) old.told)}
      (λ kept. inl (kept ∙ none_written old.told)) (λ put. inr (put ∙ one_written change old.told)) how;
}

take_front : (count : ℕ) (first more : List Change) → count ≤ length first → take count (first ++ more) ≡ take count first
take_front zero first more few = refl
take_front (suc count) [] more few = absurd (omega (arith, few))
take_front (suc count) (change ∷ first) more few = ap (λ (rest : List Change). change ∷ rest) (take_front count first more (omega (arith, few)))

take_whole : (count : ℕ) (changes : List Change) → length changes ≤ count → take count changes ≡ changes
take_whole zero [] all = refl
take_whole zero (change ∷ changes) all = absurd (omega (arith, all))
take_whole (suc count) [] all = refl
take_whole (suc count) (change ∷ changes) all = ap (λ (rest : List Change). change ∷ rest) (take_whole count changes (omega (arith, all)))

take_later : (first more : List Change) (count : ℕ) → take (length first + count) (first ++ more) ≡ first ++ take count more
take_later [] more count = let none : 0 + count ≡ count = omega arith in ap (λ (n : ℕ). take n more) none
take_later (change ∷ first) more count =
    let next : suc (length first) + count ≡ suc (length first + count) = omega arith in
    ap (λ (n : ℕ). take n (change ∷ first ++ more)) next ∙ ap (λ (rest : List Change). change ∷ rest) (take_later first more count)

abbrev Either : List Change → List Change → Memory → Memory → Type 0
Either before after old new = (new.told ≡ option_map (all_written before) old.told) ⊎ (new.told ≡ option_map (all_written after) old.told)

either_so : (before after one other : List Change) (old new : Memory) → before ≡ one → after ≡ other → Either before after old new → Either one other old new
either_so before after one other old new first second how =
    ⊎_elim {C = Either one other old new}
    (λ is. inl (is ∙ ap (λ (changes : List Change). option_map (all_written changes) old.told) first)) (λ is. inr (is ∙ ap (λ (changes : List Change). option_map (all_written changes) old.told) second)) how

both_are : (before after one other : List Change) (old new : Memory) → before ≡ one → after ≡ one → Either before after old new → Either one other old new
both_are before after one other old new first second how =
    ⊎_elim {C = Either one other old new}
    (λ is. inl (is ∙ ap (λ (changes : List Change). option_map (all_written changes) old.told) first)) (λ is. inl (is ∙ ap (λ (changes : List Change). option_map (all_written changes) old.told) second)) how

-- others would have come after
pub stops_early : (first more : List Change) (old new : Memory) → StopsAmong first old new → StopsAmong (first ++ more) old new
stops_early first more old new stop = record {
  done = stop.done;
  few = omega (arith, stop.few, length-append first more);
  commits = stop.commits;
  told = by_place (nat_lt stop.done (length first)) refl;
}
  where
    by_place : (b : Bool) → nat_lt stop.done (length first) ≡ b → Either (take stop.done (first ++ more)) (take (stop.done + 1) (first ++ more)) old new
    by_place true is =
        let low : stop.done + 1 ≤ length first = grind (arith, nat_tests, is) in
        either_so (take stop.done first) (take (stop.done + 1) first) (take stop.done (first ++ more)) (take (stop.done + 1) (first ++ more)) old new (sym (take_front stop.done first more stop.few)) (sym (take_front (stop.done + 1) first more low)) stop.told
    by_place false is =
        let all : length first ≤ stop.done = grind (arith, nat_tests, is) in
        let more_than : length first ≤ stop.done + 1 = omega (arith, all) in
        let here : take stop.done first ≡ take stop.done (first ++ more) = sym (take_front stop.done first more stop.few) in
        both_are (take stop.done first) (take (stop.done + 1) first) (take stop.done (first ++ more)) (take (stop.done + 1) (first ++ more)) old new here
        (take_whole (stop.done + 1) first more_than ∙ sym (take_whole stop.done first all) ∙ here) stop.told

raised_twice : (first second before : ℕ) → raised_by second (raised_by first before) ≡ raised_by (first + second) before
raised_twice zero second before = let none : second ≡ 0 + second = omega arith in ap (λ (n : ℕ). raised_by n before) none
raised_twice (suc first) second before =
    let next : suc (first + second) ≡ suc first + second = omega arith in raised_twice first second (raised before) ∙ ap (λ (n : ℕ). raised_by n before) next

-- after all of some, among the next
pub stops_after : (first more : List Change) (old mid new : Memory) → mid.told ≡ option_map (all_written first) old.told → mid.commits ≡ raised_by (length first) old.commits → StopsAmong more mid new → StopsAmong (first ++ more) old new
stops_after first more old mid new written_first counted stop = record {
  done = length first + stop.done;
  few = omega (arith, stop.few, length-append first more);
  commits = stop.commits ∙ ap (raised_by stop.done) counted ∙ raised_twice (length first) stop.done old.commits;
  told = either_so (first ++ take stop.done more) (first ++ take (stop.done + 1) more) (take (length first + stop.done) (first ++ more)) (take (length first + stop.done + 1) (first ++ more)) old new
      (sym (take_later first more stop.done)) (sym (ap (λ (n : ℕ). take n (first ++ more)) one_more ∙ take_later first more (stop.done + 1)))
      (⊎_elim {C = Either (first ++ take stop.done more) (first ++ take (stop.done + 1) more) old new} (λ is. inl (since (take stop.done more) is)) (λ is. inr (since (take (stop.done + 1) more) is)) stop.told);
}
  where
    one_more : length first + stop.done + 1 ≡ length first + (stop.done + 1)
    one_more = omega arith

    since : (later : List Change) → new.told ≡ option_map (all_written later) mid.told → new.told ≡ option_map (all_written (first ++ later)) old.told
    since later is = is ∙ ap (option_map (all_written later)) written_first ∙ told_after first later old.told

-- ---- logs

-- a fault stopped the first of two
pub partly_first : (first second : List Happening) (old new : Memory) → IsPartlyWritten first old new → IsPartlyWritten (first ++ second) old new
partly_first first second old new stop =
    subst (λ (changes : List Change). StopsAmong changes old new) (sym (changes_append first second)) (stops_early (changes_in first) (changes_in second) old new stop)

-- or the second
pub partly_then : (first second : List Happening) (old mid new : Memory) → IsWritten first old mid → mid.commits ≡ raised_by (length (passed_rows first)) old.commits → IsPartlyWritten second mid new → IsPartlyWritten (first ++ second) old new
partly_then first second old mid new one counted stop =
    subst (λ (changes : List Change). StopsAmong changes old new) (sym (changes_append first second))
    (stops_after (changes_in first) (changes_in second) old mid new one (counted ∙ ap (λ (n : ℕ). raised_by n old.commits) (sym (as_many first))) stop)
