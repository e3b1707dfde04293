-- A card with power that never loses it.
use Rattle.std.proofs.Common.{◌≡◌, Bool, true, false, List, [], ◌∷◌, ◌++◌, refl, sym, ap, ◌∙◌, subst, inl, inr, MatchBool}
use Rattle.std.proofs.lemmas.List.Elements.{All-append, All-cons, All-head, All-nil, All-tail}
use Rattle.list_laws.proofs.ContainsLemmas.{front_of, back_of}
use Rattle.uicc_types.specs.declared.runs.Step.{Step}
use Rattle.uicc_types.specs.declared.runs.Step.TheVariants as step
use Rattle.uicc_types.specs.declared.runs.TraceItem.{TraceItem}
use Rattle.uicc_types.specs.declared.runs.TraceItem.TheVariants as item
use Rattle.card_model.specs.Counts.{is_cut}
use Rattle.card_model.specs.Runs.{Commands, MeetsNoPower, StepGives, StepEnds}
use Rattle.card_model.specs.States.{Machine}
use Rattle.card_laws.specs.Faults.{ShowsNoCut, ShowsNoOff, is_off}
use Rattle.card_laws.specs.FaultLaws.{PowerLasts}

abbrev NotCut : TraceItem → Type 0
NotCut seen = is_cut seen ≡ false

abbrev NotOff : TraceItem → Type 0
NotOff seen = is_off seen ≡ false

one_seen : (seen : TraceItem) → NotOff seen → ShowsNoOff (seen ∷ [])
one_seen seen is = All-cons NotOff seen [] is (All-nil NotOff)

two_seen : (first second : TraceItem) → NotOff first → NotOff second → ShowsNoOff (first ∷ second ∷ [])
two_seen first second is also = All-cons NotOff first (second ∷ []) is (one_seen second also)

with_power : (on : Bool) (Powered Unpowered : Type 0) → on ≡ true → MatchBool on Powered Unpowered → Powered
with_power true Powered Unpowered is gives = gives
with_power false Powered Unpowered is gives = absurd (cc)

-- what a step comes to
abbrev Lasts : List TraceItem → Machine → Type 0
Lasts items new = ShowsNoOff items × (new.on ≡ true)

lasts : (items shown : List TraceItem) (now new : Machine) → items ≡ shown → now ≡ new → Lasts shown new → Lasts items now
lasts items shown now new seen moved so = (subst ShowsNoOff (sym seen) so.0, ap (λ (m : Machine). m.on) moved ∙ so.1)

cut_first : (items : List TraceItem) → items ≡ item.Cut ∷ [] → ShowsNoCut items → ⊥
cut_first items seen no_cut = let is = All-head NotCut item.Cut [] (subst ShowsNoCut seen no_cut) in absurd (cc)

command_lasts : (old new : Machine) (apdu : List _) (items : List TraceItem) → Commands old apdu items new → ShowsNoCut items → Lasts items new
command_lasts old new apdu items (inl e) no_cut = lasts items _ new _ e.seen e.moved (two_seen _ _ refl refl, refl)
command_lasts old new apdu items (inr (inl e)) no_cut = lasts items _ new _ e.seen e.moved (two_seen _ _ refl refl, refl)
command_lasts old new apdu items (inr (inr e)) no_cut =
    absurd (cut_first (item.Cut ∷ []) refl (All-tail NotCut (item.Command apdu) (item.Cut ∷ []) (subst ShowsNoCut e.seen no_cut)))

step_lasts : (old new : Machine) (one : Step) (items : List TraceItem) → StepGives old one items new → old.on ≡ true → ShowsNoCut items → Lasts items new
step_lasts old new (step.Apdu apdu) items gives on no_cut = command_lasts old new apdu items (with_power old.on (Commands old apdu items new) (MeetsNoPower old apdu items new) on gives) no_cut
step_lasts old new step.Reset items (inl e) on no_cut = lasts items _ new _ e.seen e.moved (one_seen _ refl, refl)
step_lasts old new step.Reset items (inr e) on no_cut = absurd (cut_first items e.seen no_cut)
step_lasts old new (step.Plan plan) items e on no_cut = lasts items [] new old e.seen e.stays (All-nil NotOff, on)

end_lasts : (old new : Machine) (one : Step) (items : List TraceItem) → StepEnds old one items new → Lasts items new
end_lasts old new (step.Apdu apdu) items ends = absurd ends
end_lasts old new step.Reset items e = lasts items _ new _ e.seen e.moved (one_seen _ refl, refl)
end_lasts old new (step.Plan plan) items ends = absurd ends

pub power_lasts : PowerLasts
power_lasts first now [] shown e on no_cut = lasts shown [] now first e.seen e.stays (All-nil NotOff, on)
power_lasts first now (one ∷ more) shown (inr ends) on no_cut = end_lasts first now one shown ends.1
power_lasts first now (one ∷ more) shown (inl run) on no_cut =
    let none : ShowsNoCut (run.front ++ run.back) = subst ShowsNoCut run.seen no_cut in
    let here = step_lasts first run.middle one run.front run.first on (front_of NotCut run.front run.back none) in
    let rest = power_lasts run.middle now more run.back run.rest here.1 (back_of NotCut run.front run.back none) in
    (subst ShowsNoOff (sym run.seen) (All-append NotOff run.front run.back here.0 rest.0), rest.1)
