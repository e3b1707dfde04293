-- The first late trigger whose applet is idle.
use Rattle.std.proofs.Common.{◌≡◌, refl, ap, sym, ◌∙◌, ℕ, zero, suc, ◌<◌, ◌+◌, below_more, Bool, true, false, List, [], ◌∷◌, length, remove, Option, Some, None, arith, slice_get, slice_index_or, if◌then◌else◌, option_map}
use Rattle.std.proofs.lemmas.Option.{get_or_from_slice_get}
use Rattle.toolkit_model.specs.Sessions.{Sent, LateTrigger, SessionState}
use Rattle.toolkit_model.specs.Orderly.{asks}
use Rattle.toolkit_model.specs.Driving.{is_idle, behind, first_idle}
use Rattle.proactive_handler.specs.Catching.{StandsFirst}

-- no applet of the first ones is idle
abbrev pub NoneIdle : List Sent → List LateTrigger → ℕ → Type 0
NoneIdle asked late count = (k : ℕ) → k < count → (d : LateTrigger) → k < length late → is_idle asked (slice_index_or late k d).shelf ≡ false

below : (asked : List Sent) (trigger : LateTrigger) (late : List LateTrigger) (count : ℕ) → NoneIdle asked (trigger ∷ late) (suc count) → NoneIdle asked late count
below asked trigger late count before k low d inside = before (suc k) (omega (arith, low)) d (omega (arith, inside))

here : (asked : List Sent) (trigger : LateTrigger) (late : List LateTrigger) → is_idle asked trigger.shelf ≡ true → first_idle asked (trigger ∷ late) ≡ Some (trigger, late)
here asked trigger late idle = ap (λ (b : Bool). if b then Some (trigger, late) else option_map (behind trigger) (first_idle asked late)) idle

further : (asked : List Sent) (trigger : LateTrigger) (late : List LateTrigger) → is_idle asked trigger.shelf ≡ false → first_idle asked (trigger ∷ late) ≡ option_map (behind trigger) (first_idle asked late)
further asked trigger late idle = ap (λ (b : Bool). if b then Some (trigger, late) else option_map (behind trigger) (first_idle asked late)) idle

pub first_is : (asked : List Sent) (late : List LateTrigger) (at : ℕ) (trigger : LateTrigger) → NoneIdle asked late at → slice_get late at ≡ Some trigger
    → is_idle asked trigger.shelf ≡ true → first_idle asked late ≡ Some (trigger, remove late at)
first_is asked [] at trigger before got idle = cc
first_is asked (first ∷ late) zero trigger before got idle =
    let same : first ≡ trigger = cc in
    here asked first late (ap (λ (t : LateTrigger). is_idle asked t.shelf) same ∙ idle) ∙ ap (λ (t : LateTrigger). Some (t, late)) same
first_is asked (first ∷ late) (suc at) trigger before got idle =
    further asked first late (before zero (omega arith) first (omega arith))
    ∙ ap (option_map (behind first)) (first_is asked late at trigger (below asked first late at before) got idle)

pub none_is : (asked : List Sent) (late : List LateTrigger) → NoneIdle asked late (length late) → first_idle asked late ≡ None
none_is asked [] before = refl
none_is asked (first ∷ late) before =
    further asked first late (before zero (omega arith) first (omega arith)) ∙ ap (option_map (behind first)) (none_is asked late (below asked first late (length late) before))

-- one more applet that is not
pub one_more : (asked : List Sent) (late : List LateTrigger) (at : ℕ) (trigger : LateTrigger) → NoneIdle asked late at → slice_get late at ≡ Some trigger
    → is_idle asked trigger.shelf ≡ false → NoneIdle asked late (at + 1)
one_more asked late at trigger before got busy =
    below_more (λ (k : ℕ). (d : LateTrigger) → k < length late → is_idle asked (slice_index_or late k d).shelf ≡ false) at before
    (λ d inside. ap (λ (t : LateTrigger). is_idle asked t.shelf) (get_or_from_slice_get late at trigger d got) ∙ busy)

pub stands : (session : SessionState) (at : ℕ) (trigger : LateTrigger) → NoneIdle (asks session) session.late at → at < length session.late → slice_get session.late at ≡ Some trigger
    → is_idle (asks session) trigger.shelf ≡ true → StandsFirst session at
stands session at trigger before inside got idle = record {
  inside = inside;
  found = λ other other_got.
      let same : trigger ≡ other = cc (got, other_got) in
      first_is (asks session) session.late at other before other_got (ap (λ (t : LateTrigger). is_idle (asks session) t.shelf) (sym same) ∙ idle);
}

there_in : (found : Option LateTrigger) (shelf : ℕ) → option_map (λ trigger. trigger.shelf) found ≡ Some shelf → (trigger : LateTrigger) × (found ≡ Some trigger) × (trigger.shelf ≡ shelf)
there_in (Some trigger) shelf is = (trigger, refl, let same : Some trigger.shelf ≡ Some shelf = is in cc)
there_in None shelf is = absurd (cc)

-- the trigger whose shelf was told
pub shelf_there : (late : List LateTrigger) (at shelf : ℕ) → option_map (λ trigger. trigger.shelf) (slice_get late at) ≡ Some shelf → (trigger : LateTrigger) × (slice_get late at ≡ Some trigger) × (trigger.shelf ≡ shelf)
shelf_there late at shelf is = there_in (slice_get late at) shelf is
