-- The events that the card asks for.
use Rattle.std.proofs.Common.{◌≡◌, ℕ, suc, zero, ◌<◌, Bool, true, false, cond, List, [], ◌∷◌, Option, Some, None, refl, sym, ap, ◌∙◌, subst, inl, inr, arith, ◌⊎◌, ◌==◌, ◌&&◌, ◌||◌, not, nat_eq, nat_lt, if◌then◌else◌, filter, find, option_map, AllPairs, Contains}
use Rattle.std.specs.List.{list_all, list_any}
use Rattle.std.specs.Option.{option_map_or}
use Rattle.std.proofs.lemmas.Bool.{and_from, and_parts, eq-eqb, eqb-true, false≢true, false_from_ne_true, ltb-true, not-true, not_from_false}
use Rattle.std.proofs.lemmas.List.Elements.{All-contains, All-weaker}
use Rattle.std.proofs.lemmas.List.Folds.{list_any_at}
use Rattle.std.proofs.lemmas.List.Kept.{AllPairs-filter}
use Rattle.std.proofs.lemmas.List.Sums.{AllPass-from_list_all}
use lib.Pointwise.{bytes_decides, pointwise}
use Rattle.list_laws.proofs.FindLemmas.{find_Some}
use Rattle.list_laws.proofs.MapLemmas.{mapped_too}
use Rattle.list_laws.proofs.AllPairsLemmas.{pairs_cons, pairs_head, pairs_nil, pairs_tail}
use Rattle.uicc_types.specs.declared.events.TheConstants.{STATUS_COMMAND}
use Rattle.card_state.specs.Persistent.{Registration}
use Rattle.toolkit_commands.specs.declared.commands.Proactive.{Proactive}
use Rattle.toolkit_commands.specs.declared.commands.Proactive.TheVariants.{PollInterval, SetUpEventList, SetUpMenu}
use Rattle.toolkit_commands.specs.declared.items.Item.{Item}
use Rattle.terminal_profile.specs.Profiles.{EventRow, allowed, allowed_event, event_table, has}
use Rattle.toolkit_model.specs.Driving.{download_codes, events_for, half_a_minute, is_same_item, menu_title, or_else, wanted}
use Rattle.toolkit_model.specs.Order.{is_for}
use Rattle.toolkit_model.specs.Registry.{menu_of}
use Rattle.card_laws.specs.SendingLaws.{AreEventsWanted, EventListsAreAsked, IsRegistered, NothingIsAskedBefore}

-- ---- lists

module _ {X : Type 0} where
  at_head : (x : X) (xs : List X) → Contains (x ∷ xs) x
  at_head x xs = (0, omega arith, refl)

  further : (y : X) (xs : List X) (x : X) → Contains xs x → Contains (y ∷ xs) x
  further y xs x there = (suc there.0, omega (arith, there.1), there.2)

  there_cases : (y : X) (xs : List X) (x : X) → Contains (y ∷ xs) x → (y ≡ x) ⊎ Contains xs x
  there_cases y xs x (zero, low, is) = inl is
  there_cases y xs x (suc k, low, is) = inr (k, omega (arith, low), is)

  nowhere : (x : X) → Contains [] x → ⊥
  nowhere x there = omega (arith, there.1)

  module _ (p : X → Bool) where
    any_case : (y : X) (xs : List X) (b : Bool) → p y ≡ b → (list_any p xs ≡ true → (x : X) × Contains xs x × (p x ≡ true)) → (b || list_any p xs) ≡ true → (x : X) × Contains (y ∷ xs) x × (p x ≡ true)
    any_case y xs true is rest any = (y, at_head y xs, is)
    any_case y xs false is rest any = let found = rest any in (found.0, further y xs found.0 found.1, found.2)

    pub any_there : (xs : List X) → list_any p xs ≡ true → (x : X) × Contains xs x × (p x ≡ true)
    any_there [] any = absurd (false≢true any)
    any_there (y ∷ xs) any = any_case y xs (p y) refl (any_there xs) any

    pub there_any : (xs : List X) (x : X) → Contains xs x → p x ≡ true → list_any p xs ≡ true
    there_any xs x there is = list_any_at p xs there.0 x there.1 (ap p there.2 ∙ is)

    kept_case : (y : X) (xs : List X) (b : Bool) → p y ≡ b → (x : X) → (Contains (filter p xs) x → Contains xs x × (p x ≡ true)) → Contains (cond b (y ∷ filter p xs) (filter p xs)) x → Contains (y ∷ xs) x × (p x ≡ true)
    kept_case y xs true is x rest there = by (there_cases y (filter p xs) x there)
      where
        by : (y ≡ x) ⊎ Contains (filter p xs) x → Contains (y ∷ xs) x × (p x ≡ true)
        by (inl same) = (subst (λ (z : X). Contains (y ∷ xs) z) same (at_head y xs), ap p (sym same) ∙ is)
        by (inr later) = let found = rest later in (further y xs x found.0, found.1)
    kept_case y xs false is x rest there = let found = rest there in (further y xs x found.0, found.1)

    pub kept_there : (xs : List X) (x : X) → Contains (filter p xs) x → Contains xs x × (p x ≡ true)
    kept_there [] x there = absurd (nowhere x there)
    kept_there (y ∷ xs) x there = kept_case y xs (p y) refl x (kept_there xs x) there

    keeps_case : (y : X) (xs : List X) (b : Bool) → p y ≡ b → (x : X) → p x ≡ true → (Contains xs x → Contains (filter p xs) x) → (y ≡ x) ⊎ Contains xs x → Contains (cond b (y ∷ filter p xs) (filter p xs)) x
    keeps_case y xs true is x passes rest (inl same) = subst (λ (z : X). Contains (y ∷ filter p xs) z) same (at_head y (filter p xs))
    keeps_case y xs true is x passes rest (inr later) = further y (filter p xs) x (rest later)
    keeps_case y xs false is x passes rest (inl same) = absurd (false≢true (sym is ∙ ap p same ∙ passes))
    keeps_case y xs false is x passes rest (inr later) = rest later

    pub there_kept : (xs : List X) (x : X) → Contains xs x → p x ≡ true → Contains (filter p xs) x
    there_kept [] x there passes = absurd (nowhere x there)
    there_kept (y ∷ xs) x there passes = keeps_case y xs (p y) refl x passes (λ later. there_kept xs x later passes) (there_cases y xs x there)

-- ---- lists that ascend

abbrev Ascend : List ℕ → Type 0
Ascend xs = AllPairs (λ a b. a < b) xs

abbrev ascends : List ℕ → Bool
ascends [] = true
ascends (x ∷ xs) = list_all (λ y. nat_lt x y) xs && ascends xs

ascends_so : (xs : List ℕ) → ascends xs ≡ true → Ascend xs
ascends_so [] is = pairs_nil (λ a b. a < b)
ascends_so (x ∷ xs) is =
    let both = and_parts (list_all (λ y. nat_lt x y) xs) (ascends xs) is in
    pairs_cons (λ a b. a < b) x xs (All-weaker (λ y. nat_lt x y ≡ true) (λ y. x < y) (λ y. ltb-true x y) xs (AllPass-from_list_all (λ y. nat_lt x y) xs both.0)) (ascends_so xs both.1)

-- a list that ascends has nothing twice, so that its head is not among the others
not_behind : (x : ℕ) (xs : List ℕ) → Ascend (x ∷ xs) → (c : ℕ) → Contains xs c → x < c
not_behind x xs up c there = All-contains (λ b. x < b) xs c (pairs_head (λ a b. a < b) x xs up) there

same_heads : (x y : ℕ) → (y ≡ x) ⊎ (y < x) → (x ≡ y) ⊎ (x < y) → x ≡ y
same_heads x y (inl same) second = sym same
same_heads x y (inr less) (inl same) = same
same_heads x y (inr less) (inr more) = absurd (omega (arith, less, more))

at_or_above : (x : ℕ) (xs : List ℕ) → Ascend (x ∷ xs) → (c : ℕ) → Contains (x ∷ xs) c → (x ≡ c) ⊎ (x < c)
at_or_above x xs up c there = by (there_cases x xs c there)
  where
    by : (x ≡ c) ⊎ Contains xs c → (x ≡ c) ⊎ (x < c)
    by (inl same) = inl same
    by (inr later) = inr (not_behind x xs up c later)

behind_other : (x : ℕ) (xs ys : List ℕ) → Ascend (x ∷ xs) → (c : ℕ) → Contains xs c → Contains (x ∷ ys) c → Contains ys c
behind_other x xs ys up c there other = by (there_cases x ys c other)
  where
    by : (x ≡ c) ⊎ Contains ys c → Contains ys c
    by (inl same) = absurd (omega (arith, same, not_behind x xs up c there))
    by (inr later) = later

-- two of the same numbers are one
pub same_ascending : (xs ys : List ℕ) → Ascend xs → Ascend ys → ((c : ℕ) → Contains xs c → Contains ys c) → ((c : ℕ) → Contains ys c → Contains xs c) → xs ≡ ys
same_ascending [] [] up rise into back = refl
same_ascending [] (y ∷ ys) up rise into back = absurd (nowhere y (back y (at_head y ys)))
same_ascending (x ∷ xs) [] up rise into back = absurd (nowhere x (into x (at_head x xs)))
same_ascending (x ∷ xs) (y ∷ ys) up rise into back =
    let same : x ≡ y = same_heads x y (at_or_above y ys rise x (into x (at_head x xs))) (at_or_above x xs up y (back y (at_head y ys))) in
    let rest : xs ≡ ys = same_ascending xs ys (pairs_tail (λ a b. a < b) x xs up) (pairs_tail (λ a b. a < b) y ys rise)
    (λ c there. behind_other x xs ys up c there (subst (λ (n : ℕ). Contains (n ∷ ys) c) (sym same) (into c (further x xs c there))))
    (λ c there. behind_other y ys xs rise c there (subst (λ (n : ℕ). Contains (n ∷ xs) c) same (back c (further y ys c there)))) in
    ap (λ (n : ℕ). n ∷ xs) same ∙ ap (λ (l : List ℕ). y ∷ l) rest

-- ---- the events

registered_so : (rows : List Registration) (code : ℕ) → list_any (is_for code) rows ≡ true → IsRegistered rows code
registered_so rows code is =
    let found = any_there (is_for code) rows is in
    let other = any_there (λ (o : ℕ). o == code) found.0.codes found.2 in
    (found.0, found.1, subst (λ (c : ℕ). Contains found.0.codes c) (eqb-true other.0 code other.2) other.1)

so_registered : (rows : List Registration) (code : ℕ) → IsRegistered rows code → list_any (is_for code) rows ≡ true
so_registered rows code is = there_any (is_for code) rows is.0 is.1 (there_any (λ (o : ℕ). o == code) is.0.codes code is.2 (eq-eqb code code refl))

abbrev found_row : ℕ → Option EventRow
found_row code = find (λ (row : EventRow). row.code == code) event_table

allowed_row : (profile : List ℕ) (code : ℕ) (o : Option EventRow) → found_row code ≡ o → option_map_or (has profile) (option_map (λ (row : EventRow). row.place) o) false ≡ true → Contains download_codes code
allowed_row profile code None is allowed_it = absurd (false≢true allowed_it)
allowed_row profile code (Some row) is allowed_it =
    let found = find_Some (λ (r : EventRow). r.code == code) event_table row is in
    subst (λ (c : ℕ). Contains download_codes c) (eqb-true row.code code found.1) (mapped_too (λ (r : EventRow). r.code) event_table row found.0)

-- an event that a handset can report is one of those
known_event : (profile : List ℕ) (code : ℕ) → allowed_event profile code ≡ true → Contains download_codes code
unfolding allowed_event
known_event profile code is = allowed_row profile code (found_row code) refl is

pub events_are : (profile : List ℕ) (rows : List Registration) → AreEventsWanted profile rows (events_for profile rows)
events_are profile rows =
    let passes : ℕ → Bool = λ code. list_any (is_for code) rows && allowed_event profile code in
    record {
      ascending = AllPairs-filter (λ a b. a < b) passes download_codes (ascends_so download_codes refl);
      just = λ code. (
        λ there.
            let kept = kept_there passes download_codes code there in
            let both = and_parts (list_any (is_for code) rows) (allowed_event profile code) kept.1 in
            (registered_so rows code both.0, both.1),
        λ is. there_kept passes download_codes code (known_event profile code is.1) (and_from (list_any (is_for code) rows) (allowed_event profile code) (so_registered rows code is.0) is.1),
      );
    }

events_are_one : (profile : List ℕ) (rows : List Registration) (events : List ℕ) → AreEventsWanted profile rows events → events_for profile rows ≡ events
events_are_one profile rows events are =
    let mine : AreEventsWanted profile rows (events_for profile rows) = events_are profile rows in
    same_ascending (events_for profile rows) events mine.ascending are.ascending (λ c there. (are.just c).1 ((mine.just c).0 there)) (λ c there. (mine.just c).1 ((are.just c).0 there))

-- ---- the command

other_commands : (menu polls : Bool) (title : List ℕ) (items : List Item) (seconds : ℕ) (events : List ℕ) → or_else (if menu then Some (SetUpMenu title items) else None) (if polls then Some (PollInterval seconds) else None) ≡ Some (SetUpEventList events) → ⊥
other_commands true polls title items seconds events is = cc
other_commands false true title items seconds events is = cc
other_commands false false title items seconds events is = cc

list_asked : (due may : Bool) (mine events : List ℕ) (others : Option Proactive) → (others ≡ Some (SetUpEventList events) → ⊥) → or_else (if due && may then Some (SetUpEventList mine) else None) others ≡ Some (SetUpEventList events) → (due ≡ true) × (may ≡ true) × (mine ≡ events)
list_asked true true mine events others no_other is = (refl, refl, cc)
list_asked true false mine events others no_other is = absurd (no_other is)
list_asked false may mine events others no_other is = absurd (no_other is)

asked_list : (due may : Bool) (mine : List ℕ) (others : Option Proactive) → due ≡ true → may ≡ true → or_else (if due && may then Some (SetUpEventList mine) else None) others ≡ Some (SetUpEventList mine)
asked_list due may mine others is allows = ap (λ (b : Bool). or_else (if b then Some (SetUpEventList mine) else None) others) (and_from due may is allows)

pub event_lists_are_asked : EventListsAreAsked
unfolding wanted
event_lists_are_asked profile rows announced events =
    let mine : List ℕ = events_for profile rows in
    let items : List Item = menu_of rows in
    let told : Bool = pointwise nat_eq mine announced.events in
    let menu : Bool = not (pointwise is_same_item items announced.menu) && allowed profile (SetUpMenu menu_title items) in
    let polls : Bool = list_any (is_for STATUS_COMMAND) rows && not announced.polls && allowed profile (PollInterval half_a_minute) in
    let others : Option Proactive = or_else (if menu then Some (SetUpMenu menu_title items) else None) (if polls then Some (PollInterval half_a_minute) else None) in (
      λ is.
          let asked = list_asked (not told) (allowed profile (SetUpEventList mine)) mine events others (other_commands menu polls menu_title items half_a_minute events) is in
          let news : told ≡ false = not-true told asked.0 in (
            subst (AreEventsWanted profile rows) asked.2 (events_are profile rows),
            λ same. false≢true (sym news ∙ (bytes_decides mine announced.events).1 (asked.2 ∙ same)),
            ap (λ (l : List ℕ). allowed profile (SetUpEventList l)) (sym asked.2) ∙ asked.1,
          ),
      λ all.
          let same : mine ≡ events = events_are_one profile rows events all.0 in
          let news : told ≡ false = false_from_ne_true told (λ is. all.1 (sym same ∙ (bytes_decides mine announced.events).0 is)) in
          asked_list (not told) (allowed profile (SetUpEventList mine)) mine others (not_from_false told news) (ap (λ (l : List ℕ). allowed profile (SetUpEventList l)) same ∙ all.2)
          ∙ ap (λ (l : List ℕ). Some (SetUpEventList l)) same,
    )

pub nothing_is_asked_before : NothingIsAskedBefore
unfolding wanted
nothing_is_asked_before rows announced = refl
