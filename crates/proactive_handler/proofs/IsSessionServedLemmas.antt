-- A session stays one whose applets can run.
use Rattle.std.proofs.Common.{◌≡◌, refl, sym, ap, ◌∙◌, subst, ⊎_elim, ℕ, zero, suc, ◌+◌, ◌<◌, ◌≤◌, Bool, true, false, List, [], ◌∷◌, ◌++◌, cond, map, length, Option, Some, None, arith, ◌≢◌, ◌==◌, ◌||◌, not, nat_lt, filter, slice_get, All, AllPairs, IsSomeAnd, is_some, option_map}
use Rattle.std.specs.List.{list_any}
use Rattle.std.proofs.lemmas.Bool.Decides.{nat_tests}
use Rattle.std.proofs.lemmas.List.{length-append, length-map}
use Rattle.std.proofs.lemmas.List.Elements.{All-nil, All-cons, All-head, All-tail, All-push, All-weaker, All-map}
use Rattle.std.proofs.lemmas.List.Quantifiers.{all_pairs_push}
use Rattle.std.proofs.lemmas.List.Kept.{AllPairs-filter}
use Rattle.std.proofs.lemmas.Option.{slice_get_within}
use Rattle.list_laws.proofs.CondLemmas.{chosen}
use Rattle.list_laws.proofs.AllPairsLemmas.{pairs_cons, pairs_head, pairs_tail, pairs_map}
use Rattle.card_state.specs.declared.entries.Loaded.{Loaded}
use Rattle.card_state.specs.declared.entries.Row.{Row}
use Rattle.card_state.specs.Persistent.{Registration}
use Rattle.card_commits.specs.Entries.{HasRowOn}
use Rattle.toolkit_commands.specs.declared.commands.Proactive.{Proactive}
use Rattle.timer_table.specs.Timers.{Owners}
use Rattle.toolkit_model.specs.Sessions.{Outstanding, Sent, LateTrigger, SessionState}
use Rattle.toolkit_model.specs.Orderly.{owned, sent_by, asks}
use Rattle.toolkit_model.specs.Commands.{if_fetched, unanswered}
use Rattle.toolkit_model.specs.Running.{sending}
use Rattle.toolkit_model.specs.Driving.{is_idle, behind, first_idle, front_out, next_out, filled, wanted}
use Rattle.toolkit_model.proofs.RunOfRowLemmas.{idle_all, asks_same, asks_more}
use Rattle.toolkit_model.proofs.LateTriggerLemmas.{late_asks}
use Rattle.toolkit_model.proofs.CommandsLemmas.{asks_out, behind_all}
use Rattle.proactive_handler.specs.Serving.{IsSessionServed}

-- ---- numbers that are apart and below a bound are no more than it

abbrev pub Apart : List ℕ → Type 0
Apart xs = AllPairs (λ a b. a ≢ b) xs

is_below : (x bound : ℕ) → x < suc bound → bound ≢ x → nat_lt x bound ≡ true
is_below x bound low other = grind (arith, nat_tests, low, other)

low_so : (x bound : ℕ) → nat_lt x bound ≡ true → x < bound
low_so x bound is = grind (arith, nat_tests, is)

at_bound : (x bound : ℕ) → x < suc bound → nat_lt x bound ≡ false → bound ≡ x
at_bound x bound low is = grind (arith, nat_tests, low, is)

-- all of them are below
all_stay : (bound : ℕ) (xs : List ℕ) → All (λ x. x < suc bound) xs → All (λ x. bound ≢ x) xs → length (filter (λ x. nat_lt x bound) xs) ≡ length xs
all_stay bound [] low other = refl
all_stay bound (x ∷ xs) low other =
    ap (λ (b : Bool). length (cond b (x ∷ filter (λ (y : ℕ). nat_lt y bound) xs) (filter (λ (y : ℕ). nat_lt y bound) xs))) (is_below x bound (All-head (λ y. y < suc bound) x xs low) (All-head (λ y. bound ≢ y) x xs other))
    ∙ ap (λ (n : ℕ). suc n) (all_stay bound xs (All-tail (λ y. y < suc bound) x xs low) (All-tail (λ y. bound ≢ y) x xs other))

abbrev low_ones : ℕ → List ℕ → List ℕ
low_ones bound xs = filter (λ x. nat_lt x bound) xs

first_low : (bound x : ℕ) (xs : List ℕ) (b : Bool) → nat_lt x bound ≡ b → low_ones bound (x ∷ xs) ≡ cond b (x ∷ low_ones bound xs) (low_ones bound xs)
first_low bound x xs b is = ap (λ (c : Bool). cond c (x ∷ low_ones bound xs) (low_ones bound xs)) is

one_more : (bound x : ℕ) (xs : List ℕ) (b : Bool) → nat_lt x bound ≡ b → x < suc bound → All (λ y. y < suc bound) xs → All (λ y. x ≢ y) xs → length xs ≤ length (low_ones bound xs) + 1
    → length (x ∷ xs) ≤ length (low_ones bound (x ∷ xs)) + 1
one_more bound x xs true is low others apart so_far = omega (arith, ap length (first_low bound x xs true is), so_far)
one_more bound x xs false is low others apart so_far =
    let same : bound ≡ x = at_bound x bound low is in
    omega (arith, ap length (first_low bound x xs false is), all_stay bound xs others (subst (λ (n : ℕ). All (λ (y : ℕ). n ≢ y) xs) (sym same) apart))

-- at most one is not
one_goes : (bound : ℕ) (xs : List ℕ) → Apart xs → All (λ x. x < suc bound) xs → length xs ≤ length (low_ones bound xs) + 1
one_goes bound [] apart low = omega arith
one_goes bound (x ∷ xs) apart low =
    let others : All (λ y. y < suc bound) xs = All-tail (λ y. y < suc bound) x xs low in
    one_more bound x xs (nat_lt x bound) refl (All-head (λ y. y < suc bound) x xs low) others (pairs_head (λ a b. a ≢ b) x xs apart) (one_goes bound xs (pairs_tail (λ a b. a ≢ b) x xs apart) others)

next_low : (bound x : ℕ) (xs : List ℕ) (b : Bool) → nat_lt x bound ≡ b → All (λ y. y < bound) (low_ones bound xs) → All (λ y. y < bound) (low_ones bound (x ∷ xs))
next_low bound x xs true is rest = subst (All (λ (y : ℕ). y < bound)) (sym (first_low bound x xs true is)) (All-cons (λ y. y < bound) x (low_ones bound xs) (low_so x bound is) rest)
next_low bound x xs false is rest = subst (All (λ (y : ℕ). y < bound)) (sym (first_low bound x xs false is)) rest

all_low : (bound : ℕ) (xs : List ℕ) → All (λ y. y < bound) (low_ones bound xs)
all_low bound [] = All-nil (λ y. y < bound)
all_low bound (x ∷ xs) = next_low bound x xs (nat_lt x bound) refl (all_low bound xs)

pub few_apart : (bound : ℕ) (xs : List ℕ) → Apart xs → All (λ x. x < bound) xs → length xs ≤ bound
few_apart zero [] apart low = omega arith
few_apart zero (x ∷ xs) apart low = absurd (omega (arith, All-head (λ y. y < 0) x xs low))
few_apart (suc bound) xs apart low =
    omega (arith, one_goes bound xs apart low, few_apart bound (low_ones bound xs) (AllPairs-filter (λ a b. a ≢ b) (λ x. nat_lt x bound) xs apart) (all_low bound xs))

-- ---- who asks

turned : {X : Type 0} (f : X → ℕ) (shelf : ℕ) (xs : List X) → All (λ x. f x ≢ shelf) xs → All (λ x. shelf ≢ f x) xs
turned f shelf xs others = All-weaker (λ x. f x ≢ shelf) (λ x. shelf ≢ f x) (λ x apart same. apart (sym same)) xs others

asks_sending : (session : SessionState) (timers : Owners) (shelf : ℕ) (command : Proactive) → session.out ≡ None
    → asks (sending shelf true (Some command) (record session { timers = timers })) ≡ record { shelf = shelf; command = command } ∷ asks session
unfolding asks
asks_sending session timers shelf command is =
    let sent : Sent = record { shelf = shelf; command = command } in
    ap (λ (o : Option Outstanding). sent ∷ (owned o ++ session.waiting)) (sym is)

asks_length : (session : SessionState) → length (asks session) ≡ length (owned session.out) + length session.waiting
unfolding asks
asks_length session = length-append (owned session.out) session.waiting

abbrev AreApart : Sent → Sent → Type 0
AreApart a b = a.shelf ≢ b.shelf

-- ---- there is room for a command of an idle applet

row_within : (table : Loaded) (shelf : ℕ) (entry : Option Row) → slice_get table.rows shelf ≡ entry → IsSomeAnd entry (λ row. row.used ≡ true) → shelf < length table.rows
row_within table shelf None is used = absurd used
row_within table shelf (Some row) is used = slice_get_within table.rows shelf row is

pub on_shelf : (table : Loaded) (shelf : ℕ) → HasRowOn table shelf → shelf < length table.rows
on_shelf table shelf has = row_within table shelf (slice_get table.rows shelf) refl has

pub has_room : (table : Loaded) (session : SessionState) (shelf count : ℕ) → length table.rows ≡ count → IsSessionServed table session → is_idle (asks session) shelf ≡ true → HasRowOn table shelf → length session.waiting < count
has_room table session shelf count many served idle has =
    let shelves : List ℕ = map (λ sent. sent.shelf) (asks session) in
    let apart : Apart (shelf ∷ shelves) =
    pairs_cons (λ a b. a ≢ b) shelf shelves (All-map (λ other. shelf ≢ other) (λ sent. sent.shelf) (asks session) (turned (λ sent. sent.shelf) shelf (asks session) (idle_all (asks session) shelf idle)))
    (pairs_map (λ a b. a ≢ b) (λ sent. sent.shelf) (asks session) served.apart) in
    let low : All (λ other. other < length table.rows) (shelf ∷ shelves) =
    All-cons (λ other. other < length table.rows) shelf shelves (on_shelf table shelf has)
    (All-map (λ other. other < length table.rows) (λ sent. sent.shelf) (asks session) (All-weaker (λ sent. HasRowOn table sent.shelf) (λ sent. sent.shelf < length table.rows) (λ sent. on_shelf table sent.shelf) (asks session) served.askers)) in
    omega (arith, few_apart (length table.rows) (shelf ∷ shelves) apart low, many, length-map (asks session) (λ sent. sent.shelf), asks_length session)

-- ---- after a run

module _ (old new : Loaded) (stay : (other : ℕ) → HasRowOn old other → HasRowOn new other) where
  pub rows_keep : (session : SessionState) → IsSessionServed old session → IsSessionServed new session
  rows_keep session served = record {
    apart = served.apart;
    askers = All-weaker (λ sent. HasRowOn old sent.shelf) (λ sent. HasRowOn new sent.shelf) (λ sent. stay sent.shelf) (asks session) served.askers;
    late = All-weaker (λ trigger. HasRowOn old trigger.shelf) (λ trigger. HasRowOn new trigger.shelf) (λ trigger. stay trigger.shelf) session.late served.late;
  }

-- who asks is told by a list
by_asks : (table : Loaded) (session new : SessionState) (asked : List Sent) → asks new ≡ asked → new.late ≡ session.late → IsSessionServed table session → AllPairs AreApart asked → All (λ sent. HasRowOn table sent.shelf) asked → IsSessionServed table new
by_asks table session new asked is late served apart askers = record {
  apart = subst (AllPairs AreApart) (sym is) apart;
  askers = subst (All (λ (sent : Sent). HasRowOn table sent.shelf)) (sym is) askers;
  late = subst (All (λ (trigger : LateTrigger). HasRowOn table trigger.shelf)) (sym late) served.late;
}

pub ran_served : (table : Loaded) (session : SessionState) (timers : Owners) (shelf : ℕ) (is_resumed : Bool) (sent : Option Proactive) → IsSessionServed table session → is_idle (asks session) shelf ≡ true → HasRowOn table shelf
    → (is_resumed ≡ true → session.out ≡ None) → IsSessionServed table (sending shelf is_resumed sent (record session { timers = timers }))
ran_served table session timers shelf is_resumed None served idle has out = by_asks table session (record session { timers = timers }) (asks session) (asks_same session timers) refl served served.apart served.askers
ran_served table session timers shelf true (Some command) served idle has out =
    let sent : Sent = record { shelf = shelf; command = command } in
    by_asks table session (sending shelf true (Some command) (record session { timers = timers })) (sent ∷ asks session) (asks_sending session timers shelf command (out refl)) refl served
    (pairs_cons AreApart sent (asks session) (turned (λ s. s.shelf) shelf (asks session) (idle_all (asks session) shelf idle)) served.apart)
    (All-cons (λ (s : Sent). HasRowOn table s.shelf) sent (asks session) has served.askers)
ran_served table session timers shelf false (Some command) served idle has out =
    let sent : Sent = record { shelf = shelf; command = command } in
    by_asks table session (sending shelf false (Some command) (record session { timers = timers })) (asks session ++ sent ∷ []) (asks_more session timers shelf command) refl served
    (all_pairs_push AreApart (asks session) sent served.apart (idle_all (asks session) shelf idle))
    (All-push (λ (s : Sent). HasRowOn table s.shelf) (asks session) sent served.askers has)

-- ---- late triggers

-- one is kept
pub late_served : (table : Loaded) (session : SessionState) (trigger : LateTrigger) → HasRowOn table trigger.shelf → IsSessionServed table session → IsSessionServed table (record session { late = session.late ++ trigger ∷ [] })
late_served table session trigger has served = record {
  apart = subst (AllPairs AreApart) (sym (late_asks session (session.late ++ trigger ∷ []))) served.apart;
  askers = subst (All (λ (sent : Sent). HasRowOn table sent.shelf)) (sym (late_asks session (session.late ++ trigger ∷ []))) served.askers;
  late = All-push (λ (t : LateTrigger). HasRowOn table t.shelf) session.late trigger served.late has;
}

-- what was found first, and the others
pub record IsFound (asked : List Sent) (P : LateTrigger → Type 0) (found : LateTrigger × List LateTrigger) : Type 0 where
  pub idle : is_idle asked found.0.shelf ≡ true
  pub here : P found.0
  pub others : All P found.1

found_later : (asked : List Sent) (P : LateTrigger → Type 0) (trigger : LateTrigger) (later : Option (LateTrigger × List LateTrigger)) (found : LateTrigger × List LateTrigger) → P trigger
    → option_map (behind trigger) later ≡ Some found → ((one : LateTrigger × List LateTrigger) → later ≡ Some one → IsFound asked P one) → IsFound asked P found
found_later asked P trigger None found first is more = cc
found_later asked P trigger (Some one) found first is more =
    let rest = more one refl in
    let same : behind trigger one ≡ found = cc is in
    subst (IsFound asked P) same (record { idle = rest.idle; here = rest.here; others = All-cons P trigger one.1 first rest.others })

pub found_first : (asked : List Sent) (P : LateTrigger → Type 0) (late : List LateTrigger) (found : LateTrigger × List LateTrigger) → All P late → first_idle asked late ≡ Some found → IsFound asked P found
found_first asked P [] found all is = cc
found_first asked P (trigger ∷ others) found all is =
    ⊎_elim {C = IsFound asked P found}
    (λ now.
    let same : (trigger, others) ≡ found = cc now.1 in
    subst (IsFound asked P) same (record { idle = now.0; here = All-head P trigger others all; others = All-tail P trigger others all }))
    (λ later. found_later asked P trigger (first_idle asked others) found (All-head P trigger others all) later.1 (λ one so. found_first asked P others one (All-tail P trigger others all) so))
    (chosen (is_idle asked trigger.shelf) (Some (trigger, others)) (option_map (behind trigger) (first_idle asked others)) (Some found) is)

-- it was taken out
pub taken_served : (table : Loaded) (session : SessionState) (late : List LateTrigger) → All (λ trigger. HasRowOn table trigger.shelf) late → IsSessionServed table session → IsSessionServed table (record session { late = late })
taken_served table session late has served = record {
  apart = subst (AllPairs AreApart) (sym (late_asks session late)) served.apart;
  askers = subst (All (λ (sent : Sent). HasRowOn table sent.shelf)) (sym (late_asks session late)) served.askers;
  late = has;
}

-- ---- what becomes outstanding

front_asks : (waiting : List Sent) (session : SessionState) → session.out ≡ None → session.waiting ≡ waiting → asks (front_out waiting session) ≡ asks session
unfolding asks
front_asks [] session out is = refl
front_asks (sent ∷ others) session out is = rw (out, is) refl

next_asks : (command : Option Proactive) (session : SessionState) → session.out ≡ None → asks (next_out command session) ≡ asks session
unfolding asks
next_asks None session out = front_asks session.waiting session out refl
next_asks (Some command) session out = rw out refl

filled_asks : (out : Option Outstanding) (rows : List Registration) (session : SessionState) → session.out ≡ out → asks (filled out rows session) ≡ asks session
filled_asks (Some out) rows session is = refl
filled_asks None rows session is = next_asks (wanted session.profile rows session.announced) session is

front_late : (waiting : List Sent) (session : SessionState) → (front_out waiting session).late ≡ session.late
front_late [] session = refl
front_late (sent ∷ others) session = refl

next_late : (command : Option Proactive) (session : SessionState) → (next_out command session).late ≡ session.late
next_late None session = front_late session.waiting session
next_late (Some command) session = refl

filled_late : (out : Option Outstanding) (rows : List Registration) (session : SessionState) → (filled out rows session).late ≡ session.late
filled_late (Some out) rows session = refl
filled_late None rows session = next_late (wanted session.profile rows session.announced) session

pub settled_served : (table : Loaded) (rows : List Registration) (session : SessionState) → IsSessionServed table session → IsSessionServed table (filled session.out rows session)
settled_served table rows session served =
    by_asks table session (filled session.out rows session) (asks session) (filled_asks session.out rows session refl) (filled_late session.out rows session) served served.apart served.askers

-- ---- after an answer

pub record IsAwaited (session : SessionState) : Type 0 where
  pub out : Outstanding
  pub out_is : session.out ≡ Some out
  pub unanswered_is : unanswered session ≡ Some out

fetched_one : (out : Outstanding) (b : Bool) → out.is_fetched ≡ b → is_some (if_fetched true (Some out)) ≡ true → if_fetched true (Some out) ≡ Some out
fetched_one out true is some = ap (λ (b : Bool). cond b (Some out) None) is
fetched_one out false is some = cc (sym (ap (λ (b : Bool). is_some (cond b (Some out) None)) is) ∙ some)

awaited_as : (session : SessionState) (out : Option Outstanding) → session.out ≡ out → is_some (if_fetched true out) ≡ true → IsAwaited session
awaited_as session None is some = absurd (cc some)
awaited_as session (Some out) is some = record { out = out; out_is = is; unanswered_is = ap (if_fetched true) is ∙ fetched_one out out.is_fetched refl some }

pub awaited : (session : SessionState) → is_some (unanswered session) ≡ true → IsAwaited session
awaited session some = awaited_as session session.out refl some

abbrev pub gone : SessionState → SessionState
gone session = record session { out = None }

gone_asks : (session : SessionState) → asks (gone session) ≡ session.waiting
unfolding asks
gone_asks session = refl

rest_apart : (owner : Option ℕ) (command : Proactive) (others : List Sent) → AllPairs AreApart (sent_by owner command ++ others) → AllPairs AreApart others
rest_apart None command others apart = apart
rest_apart (Some shelf) command others apart = pairs_tail AreApart (record { shelf = shelf; command = command }) others apart

idle_from : (asked : List Sent) (shelf : ℕ) → All (λ sent. shelf ≢ sent.shelf) asked → is_idle asked shelf ≡ true
idle_from [] shelf apart = refl
idle_from (sent ∷ others) shelf apart =
    ap (λ (b : Bool). not (b || list_any (λ (s : Sent). s.shelf == shelf) others)) (no_same sent.shelf shelf (All-head (λ (s : Sent). shelf ≢ s.shelf) sent others apart))
    ∙ idle_from others shelf (All-tail (λ (s : Sent). shelf ≢ s.shelf) sent others apart)
  where
    no_same : (a b : ℕ) → b ≢ a → (a == b) ≡ false
    no_same a b apart = grind (arith, nat_tests)

module _ (table : Loaded) (session : SessionState) (served : IsSessionServed table session) (out : Outstanding) (is : session.out ≡ Some out) where
  all_apart : AllPairs AreApart (sent_by out.owner out.command ++ session.waiting)
  all_apart = subst (AllPairs AreApart) (asks_out session out is) served.apart

  all_rows : All (λ (sent : Sent). HasRowOn table sent.shelf) (sent_by out.owner out.command ++ session.waiting)
  all_rows = subst (All (λ (sent : Sent). HasRowOn table sent.shelf)) (asks_out session out is) served.askers

  pub gone_served : IsSessionServed table (gone session)
  gone_served =
      by_asks table session (gone session) session.waiting (gone_asks session) refl served (rest_apart out.owner out.command session.waiting all_apart)
      (behind_all (λ (sent : Sent). HasRowOn table sent.shelf) out.owner out.command session.waiting all_rows)

  pub owner_row : (shelf : ℕ) → Some shelf ≡ out.owner → HasRowOn table shelf
  owner_row shelf owner =
      All-head (λ (sent : Sent). HasRowOn table sent.shelf) (record { shelf = shelf; command = out.command }) session.waiting
      (subst (λ (o : Option ℕ). All (λ (sent : Sent). HasRowOn table sent.shelf) (sent_by o out.command ++ session.waiting)) (sym owner) all_rows)

  pub owner_idle : (shelf : ℕ) → Some shelf ≡ out.owner → is_idle (asks (gone session)) shelf ≡ true
  owner_idle shelf owner =
      ap (λ (asked : List Sent). is_idle asked shelf) (gone_asks session)
      ∙ idle_from session.waiting shelf (pairs_head AreApart (record { shelf = shelf; command = out.command }) session.waiting
      (subst (λ (o : Option ℕ). AllPairs AreApart (sent_by o out.command ++ session.waiting)) (sym owner) all_apart))
