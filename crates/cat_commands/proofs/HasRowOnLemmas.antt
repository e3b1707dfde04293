-- The entries of a table in which one row is another, and what stays of its session.
use Rattle.std.proofs.Common.{◌≡◌, refl, sym, ap, subst, ℕ, zero, suc, true, List, [], ◌∷◌, Option, None, arith, ◌≢◌, map, slice_get, slice_set, All, Contains, IsSomeAnd}
use Rattle.std.proofs.lemmas.List.Elements.{All-head, All-tail, All-weaker}
use Rattle.card_state.specs.declared.entries.Row.{Row}
use Rattle.card_state.specs.declared.entries.Loaded.{Loaded}
use Rattle.card_state.specs.Standing.{Agrees}
use Rattle.card_commits.specs.Entries.{HasRowOn}
use Rattle.toolkit_model.specs.Sessions.{Sent, LateTrigger, SessionState}
use Rattle.toolkit_model.specs.Orderly.{asks, IsSuspended}
use Rattle.toolkit_model.specs.Driving.{is_idle}
use Rattle.toolkit_model.proofs.RunOfRowLemmas.{idle_all}
use Rattle.proactive_handler.specs.Serving.{IsSessionServed}
use Rattle.proactive_handler.proofs.AsksLemmas.{served_still}

abbrev pub IsUsed : Option Row → Type 0
IsUsed entry = IsSomeAnd entry (λ row. row.used ≡ true)

-- with a used row in one place
pub used_set : (rows : List Row) (shelf other : ℕ) (row : Row) → row.used ≡ true → IsUsed (slice_get rows other) → IsUsed (slice_get (slice_set rows shelf row) other)
used_set [] shelf other row used there = there
used_set (first ∷ rows) zero zero row used there = used
used_set (first ∷ rows) zero (suc other) row used there = there
used_set (first ∷ rows) (suc shelf) zero row used there = there
used_set (first ∷ rows) (suc shelf) (suc other) row used there = used_set rows shelf other row used there

-- with another in another place
pub used_beside : (rows : List Row) (shelf other : ℕ) (row : Row) → other ≢ shelf → IsUsed (slice_get rows other) → IsUsed (slice_get (slice_set rows shelf row) other)
used_beside [] shelf other row apart there = there
used_beside (first ∷ rows) zero zero row apart there = absurd (apart refl)
used_beside (first ∷ rows) zero (suc other) row apart there = there
used_beside (first ∷ rows) (suc shelf) zero row apart there = there
used_beside (first ∷ rows) (suc shelf) (suc other) row apart there = used_beside rows shelf other row (λ same. apart (ap suc same)) there

pub has_still : (old new : Loaded) (other : ℕ) → new ≡ old → HasRowOn old other → HasRowOn new other
has_still old new other same there = subst (λ (t : Loaded). HasRowOn t other) (sym same) there

pub has_set : (old new : Loaded) (shelf : ℕ) (row : Row) (other : ℕ) → new.rows ≡ slice_set old.rows shelf row → row.used ≡ true → HasRowOn old other → HasRowOn new other
has_set old new shelf row other is used there = subst (λ (rows : List Row). IsUsed (slice_get rows other)) (sym is) (used_set old.rows shelf other row used there)

pub has_beside : (old new : Loaded) (shelf : ℕ) (row : Row) (other : ℕ) → new.rows ≡ slice_set old.rows shelf row → other ≢ shelf → HasRowOn old other → HasRowOn new other
has_beside old new shelf row other is apart there = subst (λ (rows : List Row). IsUsed (slice_get rows other)) (sym is) (used_beside old.rows shelf other row apart there)

-- a store that tells its bytes no more
pub silent : (mark mark' : ℕ) (told : Option (List ℕ)) (old new : Loaded) → mark' ≡ mark → new ≡ old → Agrees mark told old → Agrees mark' None new
silent mark mark' told old new marks same agrees =
    subst (λ (m : ℕ). Agrees m None new) (sym marks) (subst (Agrees mark None) (sym same) (record { content = agrees.content; state = agrees.state; told_is = tt; stands = agrees.stands }))

-- ---- sessions over them

pub served_on : (old new : Loaded) (session : SessionState) → ((other : ℕ) → HasRowOn old other → HasRowOn new other) → IsSessionServed old session → IsSessionServed new session
served_on old new session stay served = record {
  apart = served.apart;
  askers = All-weaker (λ (sent : Sent). HasRowOn old sent.shelf) (λ sent. HasRowOn new sent.shelf) (λ sent. stay sent.shelf) (asks session) served.askers;
  late = All-weaker (λ (trigger : LateTrigger). HasRowOn old trigger.shelf) (λ trigger. HasRowOn new trigger.shelf) (λ trigger. stay trigger.shelf) session.late served.late;
}

-- an idle applet asks for nothing, so it isn't suspended
pub late_apart : (session : SessionState) (shelf : ℕ) → is_idle (asks session) shelf ≡ true → All (λ trigger. IsSuspended session trigger.shelf) session.late → All (λ trigger. trigger.shelf ≢ shelf) session.late
late_apart session shelf idle suspended =
    All-weaker (λ (trigger : LateTrigger). IsSuspended session trigger.shelf) (λ trigger. trigger.shelf ≢ shelf) (λ trigger there. suspended_apart (asks session) shelf trigger.shelf (idle_all (asks session) shelf idle) there) session.late suspended
  where
    suspended_apart : (asked : List Sent) (shelf other : ℕ) → All (λ sent. sent.shelf ≢ shelf) asked → Contains (map (λ sent. sent.shelf) asked) other → other ≢ shelf
    suspended_apart [] shelf other apart there = absurd (omega (arith, there.1))
    suspended_apart (sent ∷ asked) shelf other apart (zero, low, is) = subst (λ (n : ℕ). n ≢ shelf) is (All-head (λ (s : Sent). s.shelf ≢ shelf) sent asked apart)
    suspended_apart (sent ∷ asked) shelf other apart (suc k, low, is) = suspended_apart asked shelf other (All-tail (λ (s : Sent). s.shelf ≢ shelf) sent asked apart) (k, omega (arith, low), is)

both_all : {X : Type 0} (f : X → ℕ) (old new : Loaded) (shelf : ℕ) (xs : List X) → ((other : ℕ) → other ≢ shelf → HasRowOn old other → HasRowOn new other) → All (λ x. f x ≢ shelf) xs → All (λ x. HasRowOn old (f x)) xs → All (λ x. HasRowOn new (f x)) xs
both_all f old new shelf xs stay apart has = λ k d low. stay (f _) (apart k d low) (has k d low)

-- the row of an idle applet goes
pub served_without : (old new : Loaded) (session left : SessionState) (shelf : ℕ) → ((other : ℕ) → other ≢ shelf → HasRowOn old other → HasRowOn new other) → is_idle (asks session) shelf ≡ true
    → All (λ trigger. IsSuspended session trigger.shelf) session.late → left.out ≡ session.out → left.waiting ≡ session.waiting → left.late ≡ session.late → IsSessionServed old session → IsSessionServed new left
served_without old new session left shelf stay idle suspended out waiting late served =
    served_still new session left out waiting late (record {
      apart = served.apart;
      askers = both_all (λ (sent : Sent). sent.shelf) old new shelf (asks session) stay (idle_all (asks session) shelf idle) served.askers;
      late = both_all (λ (trigger : LateTrigger). trigger.shelf) old new shelf session.late stay (late_apart session shelf idle suspended) served.late;
    })
