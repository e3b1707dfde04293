-- From one line of a long run to the next, and what is counted at its end.
use Rattle.std.proofs.Common.{◌≡◌, ℕ, List, [], ◌∷◌, ◌++◌, map, reverse, Some, refl, sym, ap, ◌∙◌, subst, flat_map, rules}
use Rattle.std.proofs.lemmas.List.{append-nil, append_assoc, reverse-append, reverse-reverse}
use Rattle.std.specs.Io.KnownBytes.{append_known}
use Rattle.uicc_types.specs.declared.plans.Plan.{Plan}
use Rattle.uicc_types.specs.declared.plans.TheConstants.Plan.{NONE}
use Rattle.uicc_types.specs.declared.runs.Step.{Step}
use Rattle.uicc_types.specs.declared.runs.Step.TheVariants as step
use Rattle.script_form.specs.Traces.{trace_text}
use Rattle.script_form.specs.declared.handset.HandsetLine.{HandsetLine}
use Rattle.card_model.specs.Counts.{IsCounted}
use Rattle.card_model.specs.Runs.{plan_given, armed_after}
use Rattle.card_core.specs.Parts.{CardParts}
use Rattle.handset_model.specs.History.{Said, Sent, Restarted, PowerCut}
use Rattle.handset_model.specs.Legal.{TraceEntry, Seen, Shown}
use Rattle.handset_model.specs.Rules.{asked}
use Rattle.handset_model.specs.declared.known.Duty.{Duty}
use Rattle.handset_model.specs.declared.known.Duty.TheVariants.{ResetCard}
use Rattle.terminal_side.specs.Kept.{Kept}
use Rattle.run_steps.proofs.SteppingLemmas.{stands_seen}
use Rattle.run_steps.specs.Stepping.{Moment}
use Rattle.run_steps.specs.Taking.{moment}
use Rattle.run_steps.specs.declared.steps.StepEnd.TheVariants.{ResetFailed}
use Rattle.long_runs.specs.CountLaws.{CountsAreThoseOfTheLines}
use Rattle.long_runs.specs.Walks.{counted_in}
use Rattle.long_runs.specs.declared.counts.Counts.{Counts}
use Rattle.phone_runs.specs.LoadRuns.{FailsAmid, IsCountedRun, all_heard, entry_line}
use Rattle.phone_runs.specs.LoadingLines.{IsLoading}
use Rattle.phone_runs.specs.Logs.{Arms, Event, Happens, Hears, PhoneLine, Plans, cut_steps, history, log_lines, lines_back, shown, steps, steps_back, trace}
use Rattle.phone_runs.specs.Runs.{Beginning, RunEnds, entries_text, entry_text}
use Rattle.phone_runs.specs.Settling.{Rests}

-- ---- where the run goes on

-- one line after those that were told
told_more : (back : List PhoneLine) (line : HandsetLine) (others : List HandsetLine) → reverse (Hears line ∷ back) ++ all_heard others ≡ reverse back ++ all_heard (line ∷ others)
told_more back line others =
    ap (λ (told : List PhoneLine). told ++ all_heard others) (reverse-append (Hears line ∷ []) back) ∙ append_assoc (reverse back) (Hears line ∷ []) (all_heard others)

pub starts_loading : (made others : List HandsetLine) (given : Beginning) (phone : Kept) (now : Moment) → others ≡ made → Rests given [] phone now → IsLoading made given others phone now
starts_loading made others given phone now same started = search (rules, started, ap (λ (back : List PhoneLine). reverse back ++ all_heard others) started.lines_are ∙ ap all_heard same)

pub loads_on : (made : List HandsetLine) (given : Beginning) (before others : List HandsetLine) (line : HandsetLine) (phone phone_then : Kept) (from to : Moment) → before ≡ line ∷ others
    → (loading : IsLoading made given before phone from) → Rests given (Hears line ∷ lines_back loading.log) phone_then to → IsLoading made given others phone_then to
loads_on made given before others line phone phone_then from to taken loading further =
    search (rules, further, ap (λ (back : List PhoneLine). reverse back ++ all_heard others) further.lines_are ∙ told_more (lines_back loading.log) line others ∙ ap (λ (l : List HandsetLine). log_lines loading.log ++ all_heard l) (sym taken) ∙ loading.parted)

pub fails_amid : (made : List HandsetLine) (given : Beginning) (before others : List HandsetLine) (line : HandsetLine) (phone : Kept) (from to : Moment) → before ≡ line ∷ others
    → (loading : IsLoading made given before phone from) → RunEnds given (Hears line ∷ lines_back loading.log) to ResetFailed → FailsAmid made given to
fails_amid made given before others line phone from to taken loading ended =
    search (rules, told_more (lines_back loading.log) line others ∙ ap (λ (l : List HandsetLine). log_lines loading.log ++ all_heard l) (sym taken) ∙ loading.parted, ended)

pub fails_at_start : (made : List HandsetLine) (given : Beginning) (now : Moment) → RunEnds given [] now ResetFailed → FailsAmid made given now
fails_at_start made given now ended = record { told = []; others = made; parted = refl; ended = ended }

-- ---- no faults are planned

abbrev IsHeard : PhoneLine → Type 0
IsHeard (Hears line) = Unit {0}
IsHeard (Arms plan) = ⊥

abbrev PlansNothing : Step → Type 0
PlansNothing (step.Apdu apdu) = Unit {0}
PlansNothing step.Reset = Unit {0}
PlansNothing (step.Plan plan) = ⊥

-- it is so of each one
abbrev Every : {X : Type 0} → (X → Type 0) → List X → Type 0
Every P [] = Unit {0}
Every P (x ∷ xs) = P x × Every P xs

every-append : {X : Type 0} (P : X → Type 0) (xs ys : List X) → Every P xs → Every P ys → Every P (xs ++ ys)
every-append P [] ys first rest = rest
every-append P (x ∷ xs) ys first rest = (first.0, every-append P xs ys first.1 rest)

every-reverse : {X : Type 0} (P : X → Type 0) (xs : List X) → Every P xs → Every P (reverse xs)
every-reverse P [] all = tt
every-reverse P (x ∷ xs) all = subst (Every P) (sym (reverse-append (x ∷ []) xs)) (every-append P (reverse xs) (x ∷ []) (every-reverse P xs all.1) (all.0, tt))

heard_are_heard : (made : List HandsetLine) → Every IsHeard (all_heard made)
heard_are_heard [] = tt
heard_are_heard (line ∷ made) = (tt, heard_are_heard made)

cut_plans_nothing : (duty : Duty) → Every PlansNothing (cut_steps duty)
cut_plans_nothing ResetCard = (tt, tt)
cut_plans_nothing other = tt

steps_plan_nothing : (log : List Event) → Every IsHeard (lines_back log) → Every PlansNothing (steps_back log)
steps_plan_nothing [] heard = tt
steps_plan_nothing (Happens (Said line) ∷ log) heard = steps_plan_nothing log heard.1
steps_plan_nothing (Happens (Sent command) ∷ log) heard = (tt, steps_plan_nothing log heard)
steps_plan_nothing (Happens Restarted ∷ log) heard = (tt, steps_plan_nothing log heard)
steps_plan_nothing (Happens PowerCut ∷ log) heard = every-append PlansNothing (cut_steps (asked (history log))) (steps_back log) (cut_plans_nothing (asked (history log))) (steps_plan_nothing log heard)
steps_plan_nothing (Plans plan ∷ log) heard = absurd heard.0
steps_plan_nothing (event ∷ log) heard = steps_plan_nothing log heard

none_armed : (taken : List Step) → Every PlansNothing taken → armed_after NONE taken ≡ []
none_armed [] plan_nothing = refl
none_armed (step.Apdu apdu ∷ taken) plan_nothing = none_armed taken plan_nothing.1
none_armed (step.Reset ∷ taken) plan_nothing = none_armed taken plan_nothing.1
none_armed (step.Plan plan ∷ taken) plan_nothing = absurd plan_nothing.0

reverse_twice : (back : List PhoneLine) (told : List PhoneLine) → reverse back ≡ told → back ≡ reverse told
reverse_twice back told same = sym (reverse-reverse back) ∙ ap reverse same

plans_nothing : (made : List HandsetLine) (log : List Event) → log_lines log ≡ all_heard made → plan_given (steps log) ≡ []
plans_nothing made log told =
    none_armed (steps log)
    (every-reverse PlansNothing (steps_back log)
    (steps_plan_nothing log (subst (Every IsHeard) (sym (reverse_twice (lines_back log) (all_heard made) told)) (every-reverse IsHeard (all_heard made) (heard_are_heard made)))))

-- ---- what is counted

entry_text_is : (entry : TraceEntry) → trace_text (entry_line entry) ≡ entry_text entry
entry_text_is (Seen item) = refl
entry_text_is (Shown note) = refl

entries_text_is : (entries : List TraceEntry) → flat_map trace_text (map entry_line entries) ≡ entries_text entries
entries_text_is [] = refl
entries_text_is (entry ∷ entries) =
    ap (λ (text : List ℕ). text ++ flat_map trace_text (map entry_line entries)) (entry_text_is entry) ∙ ap (λ (text : List ℕ). entry_text entry ++ text) (entries_text_is entries)

some_same : {X : Type 0} {x y : X} → Some x ≡ Some y → x ≡ y
some_same e = cc

text_is : (given : Beginning) (text : List ℕ) (entries : List TraceEntry) → given.before ≡ Some [] → Some text ≡ append_known given.before (entries_text entries) → text ≡ flat_map trace_text (map entry_line entries)
text_is given text entries none written =
    some_same (written ∙ ap (λ before. append_known before (entries_text entries)) none) ∙ sym (entries_text_is entries)

pub counts_run : CountsAreThoseOfTheLines → (made : List HandsetLine) (given : Beginning) (phone : Kept) (parts : CardParts) (text : List ℕ) (waiting : Plan) (counts : Counts) → given.before ≡ Some [] → counts ≡ counted_in text
    → IsLoading made given [] phone (moment parts (Some text) waiting) → IsCountedRun made given counts (moment parts (Some text) waiting)
counts_run law made given phone parts text waiting counts none are loading =
    let told = sym (append-nil (log_lines loading.log)) ∙ loading.parted in
    search (rules, loading, told, are ∙ ap counted_in (text_is given text (trace loading.log) none loading.at.written) ∙ law (map entry_line (trace loading.log)), stands_seen parts (Some text) waiting loading.at.card (shown loading.log) loading.at.seen loading.at.rests, subst (λ (l : List Plan). IsCounted given.meter parts.meter l (shown loading.log)) (plans_nothing made loading.log told) loading.at.counted)
