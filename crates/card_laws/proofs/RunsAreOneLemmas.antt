-- Two runs of the same steps from the same card, in both of which no fault is seen, are one.
use Rattle.std.proofs.Common.{◌≡◌, Bool, true, false, List, [], ◌∷◌, ◌++◌, sym, ap, ◌∙◌, subst, inl, inr, ℕ, MatchBool}
use Rattle.std.proofs.lemmas.List.Elements.{All-head, All-tail}
use Rattle.list_laws.proofs.ContainsLemmas.{front_of, back_of}
use Rattle.uicc_types.specs.declared.answers.TheConstants.StatusWord.{MEMORY_PROBLEM}
use Rattle.uicc_types.specs.declared.runs.Step.{Step}
use Rattle.uicc_types.specs.declared.runs.Step.TheVariants as step
use Rattle.uicc_types.specs.declared.runs.TraceItem.{TraceItem}
use Rattle.uicc_types.specs.declared.runs.TraceItem.TheVariants as item
use Rattle.card_model.specs.Runs.{Commands, Exchanges, IsRun, MeetsNoPower, Restarts, StepGives, StepEnds}
use Rattle.card_model.specs.States.{Machine}
use Rattle.card_model.specs.Counts.{is_cut, is_failure}
use Rattle.card_laws.specs.Faults.{ShowsNoFailure, ShowsNoCut}
use Rattle.card_laws.specs.FaultLaws.{RunsAreOne}

abbrev NotFailed : TraceItem → Type 0
NotFailed seen = is_failure seen ≡ false

abbrev NotCut : TraceItem → Type 0
NotCut seen = is_cut seen ≡ false

-- nothing failed, and nothing was cut
abbrev IsCalm : List TraceItem → Type 0
IsCalm items = ShowsNoFailure items × ShowsNoCut items

calm_front : (front back items : List TraceItem) → items ≡ front ++ back → IsCalm items → IsCalm front
calm_front front back items seen calm =
    let all : IsCalm (front ++ back) = subst IsCalm seen calm in (front_of NotFailed front back all.0, front_of NotCut front back all.1)

calm_back : (front back items : List TraceItem) → items ≡ front ++ back → IsCalm items → IsCalm back
calm_back front back items seen calm =
    let all : IsCalm (front ++ back) = subst IsCalm seen calm in (back_of NotFailed front back all.0, back_of NotCut front back all.1)

-- ---- what a step comes to where nothing fails

calm_command : (old new : Machine) (apdu : List ℕ) (items : List TraceItem) → Commands old apdu items new → IsCalm items → Exchanges old apdu items new
calm_command old new apdu items (inl e) calm = e
calm_command old new apdu items (inr (inl e)) calm =
    let all : IsCalm (item.Command apdu ∷ item.Answer [] MEMORY_PROBLEM ∷ []) = subst IsCalm e.seen calm in
    let is = All-head NotFailed (item.Answer [] MEMORY_PROBLEM) [] (All-tail NotFailed (item.Command apdu) (item.Answer [] MEMORY_PROBLEM ∷ []) all.0) in
    absurd (cc)
calm_command old new apdu items (inr (inr e)) calm =
    let all : IsCalm (item.Command apdu ∷ item.Cut ∷ []) = subst IsCalm e.seen calm in
    let is = All-head NotCut item.Cut [] (All-tail NotCut (item.Command apdu) (item.Cut ∷ []) all.1) in
    absurd (cc)

-- the same was seen, and the same card stands after it
abbrev AreOne : List TraceItem → List TraceItem → Machine → Machine → Type 0
AreOne items other new left = (items ≡ other) × (new ≡ left)

one_command : (on : Bool) (old new left : Machine) (apdu : List ℕ) (items other : List TraceItem)
    → MatchBool on (Commands old apdu items new) (MeetsNoPower old apdu items new) → MatchBool on (Commands old apdu other left) (MeetsNoPower old apdu other left)
    → IsCalm items → IsCalm other → AreOne items other new left
one_command true old new left apdu items other a b calm calm' =
    let first = calm_command old new apdu items a calm in
    let second = calm_command old left apdu other b calm' in
    (first.seen ∙ sym second.seen, first.moved ∙ sym second.moved)
one_command false old new left apdu items other a b calm calm' = (a.seen ∙ sym b.seen, a.stays ∙ sym b.stays)

calm_reset : (old new : Machine) (items : List TraceItem) → StepGives old step.Reset items new → IsCalm items → Restarts old items new
calm_reset old new items (inl e) calm = e
calm_reset old new items (inr e) calm = let all : IsCalm (item.Cut ∷ []) = subst IsCalm e.seen calm in let is = All-head NotCut item.Cut [] all.1 in absurd (cc)

one_step : (old new left : Machine) (one : Step) (items other : List TraceItem) → StepGives old one items new → StepGives old one other left → IsCalm items → IsCalm other → AreOne items other new left
one_step old new left (step.Apdu apdu) items other a b calm calm' = one_command old.on old new left apdu items other a b calm calm'
one_step old new left step.Reset items other a b calm calm' =
    let first = calm_reset old new items a calm in
    let second = calm_reset old left other b calm' in
    (first.seen ∙ sym second.seen, first.moved ∙ sym second.moved)
one_step old new left (step.Plan plan) items other a b calm calm' = (a.seen ∙ sym b.seen, a.stays ∙ sym b.stays)

-- the memory that fails in a reset is seen
ends_unseen : (old new : Machine) (one : Step) (items : List TraceItem) → StepEnds old one items new → IsCalm items → ⊥
ends_unseen old new (step.Apdu apdu) items ends calm = ends
ends_unseen old new step.Reset items ends calm =
    let all : IsCalm (item.EepromFailed ∷ []) = subst IsCalm ends.seen calm in let is = All-head NotFailed item.EepromFailed [] all.0 in absurd (cc)
ends_unseen old new (step.Plan plan) items ends calm = ends

pub runs_are_one : RunsAreOne
runs_are_one first now left [] items other a b none cut none' cut' = (a.seen ∙ sym b.seen, a.stays ∙ sym b.stays)
runs_are_one first now left (one ∷ more) items other (inr a) b none cut none' cut' = absurd (ends_unseen first now one items a.1 (none, cut))
runs_are_one first now left (one ∷ more) items other (inl a) (inr b) none cut none' cut' = absurd (ends_unseen first left one other b.1 (none', cut'))
runs_are_one first now left (one ∷ more) items other (inl a) (inl b) none cut none' cut' =
    let here = one_step first a.middle b.middle one a.front b.front a.first b.first (calm_front a.front a.back items a.seen (none, cut)) (calm_front b.front b.back other b.seen (none', cut')) in
    let calm : IsCalm a.back = calm_back a.front a.back items a.seen (none, cut) in
    let calm' : IsCalm b.back = calm_back b.front b.back other b.seen (none', cut') in
    let second : IsRun a.middle more b.back left = subst (λ (middle : Machine). IsRun middle more b.back left) (sym here.1) b.rest in
    let rest = runs_are_one a.middle now left more a.back b.back a.rest second calm.0 calm.1 calm'.0 calm'.1 in
    (a.seen ∙ ap (λ (front : List TraceItem). front ++ a.back) here.0 ∙ ap (λ (back : List TraceItem). b.front ++ back) rest.0 ∙ sym b.seen, rest.1)
