-- Counts of stretches of a run, one after the other.
use Rattle.std.proofs.Common.{◌≡◌, ℕ, ◌+◌, ◌≤◌, Bool, true, false, cond, List, [], ◌∷◌, ◌++◌, length, refl, sym, ◌∙◌, ap, arith, length-append, append_assoc, count_by, zero, suc, if◌then◌else◌}
use Rattle.std.proofs.lemmas.List.Sums.{sum_by-append}
use Rattle.uicc_types.specs.Counts.{Meter, Caused, raised, raised_by, names_fault, armed as plan_given}
use Rattle.uicc_types.specs.declared.plans.Plan.{Plan}
use Rattle.uicc_types.specs.declared.plans.TheConstants.Plan.{NONE}
use Rattle.uicc_types.specs.declared.runs.Step.{Step}
use Rattle.uicc_types.specs.declared.runs.Step.TheVariants as step
use Rattle.uicc_types.specs.declared.runs.TraceItem.{TraceItem}
use Rattle.file_model.specs.Outcomes.{last_of}
use Rattle.card_model.specs.Counts.{IsCounted, is_failure, is_cut, plan_left}
use Rattle.card_model.specs.Runs.{due, plans_joined, armed_after, waiting_after}

raised_on : (m n first : ℕ) → raised_by n (raised_by m first) ≡ raised_by (m + n) first
raised_on zero n first = let same : n ≡ 0 + n = omega arith in ap (λ (times : ℕ). raised_by times first) same
raised_on (suc m) n first = let same : suc (m + n) ≡ suc m + n = omega arith in raised_on m n (raised first) ∙ ap (λ (times : ℕ). raised_by times first) same

pub last_joined : {X : Type 0} (first : X) (xs ys : List X) → last_of first (xs ++ ys) ≡ last_of (last_of first xs) ys
last_joined first [] ys = refl
last_joined first (x ∷ xs) ys = last_joined x xs ys

count-append : {X : Type 0} (test : X → Bool) (xs ys : List X) → count_by test (xs ++ ys) ≡ count_by test xs + count_by test ys
count-append test xs ys = sum_by-append (λ x. cond (test x) 1 0) xs ys

-- what was raised as often as there are such items, and then as often as there are later ones
rose_on : (test : TraceItem → Bool) (seen later : List TraceItem) (first middle last : ℕ) → middle ≡ raised_by (count_by test seen) first → last ≡ raised_by (count_by test later) middle
    → last ≡ raised_by (count_by test (seen ++ later)) first
rose_on test seen later first middle last low high =
    high ∙ ap (raised_by (count_by test later)) low ∙ raised_on (count_by test seen) (count_by test later) first ∙ ap (λ (times : ℕ). raised_by times first) (sym (count-append test seen later))

-- the plan in force after some, and after others
left_on : (before : Plan) (set after : List Plan) → plan_left (plan_left before set) after ≡ plan_left before (set ++ after)
left_on before [] after = refl
left_on before (plan ∷ set) [] = refl
left_on before (plan ∷ set) (later ∷ after) = refl

-- what was raised twice as often as there are plans, and then twice as often as there are later ones
twice_on : (m n first middle last : ℕ) → middle ≡ raised_by (m + m) first → last ≡ raised_by (n + n) middle → last ≡ raised_by (m + n + (m + n)) first
twice_on m n first middle last low high =
    let all : m + m + (n + n) ≡ m + n + (m + n) = omega arith in
    high ∙ ap (raised_by (n + n)) low ∙ raised_on (m + m) (n + n) first ∙ ap (λ (times : ℕ). raised_by times first) all

pub counts_join : (first middle last : Meter) (set after : List Plan) (seen later : List TraceItem) → IsCounted first middle set seen → IsCounted middle last after later → IsCounted first last (set ++ after) (seen ++ later)
counts_join first middle last set after seen later a b = record {
  failures = rose_on is_failure seen later first.faults middle.faults last.faults a.failures b.failures;
  cuts = rose_on is_cut seen later first.cuts middle.cuts last.cuts a.cuts b.cuts;
  plans = rw (length-append set after) (b.plans ∙ ap (raised_by (length after)) a.plans ∙ raised_on (length set) (length after) first.plans);
  latest = b.latest ∙ ap (λ plan. last_of plan after) a.latest ∙ sym (last_joined first.latest set after);
  in_force = b.in_force ∙ ap (λ plan. plan_left plan after) a.in_force ∙ left_on first.plan set after;
  settings = rw (length-append set after) (twice_on (length set) (length after) first.settings middle.settings last.settings a.settings b.settings);
}

-- what came once was counted once, and what did not come was not counted
counted : (count before now : ℕ) → count ≤ 1 → (count ≡ 1 → now ≡ raised before) → ((count ≡ 1 → ⊥) → now ≡ before) → now ≡ raised_by count before
counted zero before now few once none = none (λ one. omega arith)
counted (suc zero) before now few once none = once refl
counted (suc (suc count)) before now few once none = absurd (omega arith)

pub calls_counted : (old new : Meter) (seen : List TraceItem) → count_by is_failure seen ≤ 1 → count_by is_cut seen ≤ 1 → (count_by is_cut seen ≡ 1 → old.powered ≡ true)
    → Caused old new (count_by is_failure seen ≡ 1) (count_by is_cut seen ≡ 1) → IsCounted old new [] seen
calls_counted old new seen one_failure one_cut powered causes = record {
  failures = counted (count_by is_failure seen) old.faults new.faults one_failure causes.failed causes.no_fault;
  cuts = counted (count_by is_cut seen) old.cuts new.cuts one_cut (λ one. causes.cut one (powered one)) causes.no_cut;
  plans = causes.plans_kept;
  latest = causes.latest_kept;
  in_force = causes.plan_kept;
  settings = causes.settings_kept;
}

-- ---- plans

given_by : (old middle : Meter) (plan : Plan) (seen : List TraceItem) (names : Bool) → names ≡ true
    → IsCounted
    (if names then record old { plans = raised old.plans; latest = plan; plan = plan; settings = raised old.settings; is_idle = true; programs = 0 }
    else record old { plan = plan; settings = raised old.settings; is_idle = true; programs = 0 }) middle [] seen
    → IsCounted old (plan_given middle NONE) (if names then plan ∷ [] else []) seen
given_by old middle plan seen true is counted = record {
  failures = counted.failures;
  cuts = counted.cuts;
  plans = counted.plans;
  latest = counted.latest;
  in_force = refl;
  settings = ap raised counted.settings;
}
given_by old middle plan seen false is counted = absurd (cc)

pub plans_counted : (old middle : Meter) (plan : Plan) (seen : List TraceItem) → names_fault plan ≡ true → IsCounted (plan_given old plan) middle [] seen → IsCounted old (plan_given middle NONE) (due plan) seen
plans_counted old middle plan seen names counted = given_by old middle plan seen (names_fault plan) names counted

pub set_in_order : (waiting : Plan) (steps more : List Step) → armed_after waiting (steps ++ more) ≡ armed_after waiting steps ++ armed_after (waiting_after waiting steps) more
set_in_order waiting [] more = refl
set_in_order waiting (step.Plan plan ∷ steps) more = set_in_order (plans_joined waiting plan) steps more
set_in_order waiting (step.Apdu apdu ∷ steps) more = ap (λ later. due waiting ++ later) (set_in_order NONE steps more) ∙ sym (append_assoc (due waiting) (armed_after NONE steps) (armed_after (waiting_after NONE steps) more))
set_in_order waiting (step.Reset ∷ steps) more = ap (λ later. due waiting ++ later) (set_in_order NONE steps more) ∙ sym (append_assoc (due waiting) (armed_after NONE steps) (armed_after (waiting_after NONE steps) more))

pub wait_in_order : (waiting : Plan) (steps more : List Step) → waiting_after waiting (steps ++ more) ≡ waiting_after (waiting_after waiting steps) more
wait_in_order waiting [] more = refl
wait_in_order waiting (step.Plan plan ∷ steps) more = wait_in_order (plans_joined waiting plan) steps more
wait_in_order waiting (step.Apdu apdu ∷ steps) more = wait_in_order NONE steps more
wait_in_order waiting (step.Reset ∷ steps) more = wait_in_order NONE steps more
