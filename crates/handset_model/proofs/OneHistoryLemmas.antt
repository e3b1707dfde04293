-- Lines and a trace have one history: what comes next in them is told by what is asked for.
use Rattle.std.proofs.Common.{◌≡◌, List, [], ◌∷◌, Option, Some, None, refl, sym, ap, ◌∙◌, inl, inr, reverse, subst}
use Rattle.std.proofs.lemmas.List.{reverse-reverse}
use mathlib.Core.List.{reverse_aux}
use Rattle.uicc_types.specs.declared.runs.TraceItem.TheVariants as item
use Rattle.script_form.specs.declared.handset.HandsetLine.{HandsetLine}
use Rattle.handset_model.specs.History.{Happened, Said, Sent, Answered, Noted, Restarted, PowerCut, FoundOff}
use Rattle.handset_model.specs.Rules.{asked}
use Rattle.handset_model.specs.Legal.{TraceEntry, Seen, IsAsked, IsOrderly, lines_of, entries_of, IsOf}
use Rattle.handset_model.specs.declared.known.Duty.{Duty}
use Rattle.handset_model.specs.declared.known.Duty.TheVariants.{Rest, Transmit, Await, Show, ResetCard}

-- what came after a history, oldest first, was asked for
abbrev Follows : List Happened → List Happened → Type 0
Follows h [] = Unit {0}
Follows h (event ∷ later) = IsAsked event (asked h) × Follows (event ∷ h) later

orderly_follows : (h later : List Happened) → IsOrderly h → Follows h later → Follows [] (reverse_aux h later)
orderly_follows [] later o f = f
orderly_follows (event ∷ h) later o f = orderly_follows h (event ∷ later) o.1 (o.0, f)

lines-onto : (h later : List Happened) → lines_of (reverse_aux h later) ≡ reverse_aux (lines_of h) (lines_of later)
lines-onto [] later = refl
lines-onto (Said line ∷ h) later = lines-onto h (Said line ∷ later)
lines-onto (Sent command ∷ h) later = lines-onto h (Sent command ∷ later)
lines-onto (Answered answer ∷ h) later = lines-onto h (Answered answer ∷ later)
lines-onto (Noted note ∷ h) later = lines-onto h (Noted note ∷ later)
lines-onto (Restarted ∷ h) later = lines-onto h (Restarted ∷ later)
lines-onto (PowerCut ∷ h) later = lines-onto h (PowerCut ∷ later)
lines-onto (FoundOff ∷ h) later = lines-onto h (FoundOff ∷ later)

entries-onto : (h later : List Happened) → entries_of (reverse_aux h later) ≡ reverse_aux (entries_of h) (entries_of later)
entries-onto [] later = refl
entries-onto (Said line ∷ h) later = entries-onto h (Said line ∷ later)
entries-onto (Sent command ∷ h) later = entries-onto h (Sent command ∷ later)
entries-onto (Answered answer ∷ h) later = entries-onto h (Answered answer ∷ later)
entries-onto (Noted note ∷ h) later = entries-onto h (Noted note ∷ later)
entries-onto (Restarted ∷ h) later = entries-onto h (Restarted ∷ later)
entries-onto (PowerCut ∷ h) later = entries-onto h (PowerCut ∷ later)
entries-onto (FoundOff ∷ h) later = entries-onto h (FoundOff ∷ later)

-- ---- the next event

-- what happens next, by what is asked for, the next line and the next entry
abbrev next_of : Duty → List HandsetLine → List TraceEntry → Option Happened
next_of Rest (line ∷ lines) entries = Some (Said line)
next_of (Transmit command) lines entries = Some (Sent command)
next_of Await lines (Seen (item.Answer body status) ∷ entries) = Some (Answered (record { body = body; status = status }))
next_of Await lines (Seen item.Cut ∷ entries) = Some PowerCut
next_of Await lines (Seen item.Off ∷ entries) = Some FoundOff
next_of (Show note) lines entries = Some (Noted note)
next_of ResetCard lines (Seen item.Reset ∷ entries) = Some Restarted
next_of ResetCard lines (Seen item.Cut ∷ entries) = Some PowerCut
next_of duty lines entries = None

told : (event : Happened) (later : List Happened) (duty : Duty) → IsAsked event duty
    → next_of duty (lines_of (event ∷ later)) (entries_of (event ∷ later)) ≡ Some event
told (Said line) later duty e = rw e refl
told (Sent command) later duty e = rw e refl
told (Answered answer) later duty e = rw e refl
told (Noted note) later duty e = rw e refl
told Restarted later duty e = rw e refl
told PowerCut later duty (inl e) = rw e refl
told PowerCut later duty (inr e) = rw e refl
told FoundOff later duty e = rw e refl

abbrev held_or : {A : Type 0} → A → Option A → A
held_or other None = other
held_or other (Some x) = x

same_event : (duty : Duty) (one other : Happened) (f g : List Happened) → IsAsked one duty → IsAsked other duty
    → lines_of (one ∷ f) ≡ lines_of (other ∷ g) → entries_of (one ∷ f) ≡ entries_of (other ∷ g) → one ≡ other
same_event duty one other f g a b same_lines same_entries =
    let first : next_of duty (lines_of (one ∷ f)) (entries_of (one ∷ f)) ≡ Some one = told one f duty a in
    let second : next_of duty (lines_of (other ∷ g)) (entries_of (other ∷ g)) ≡ Some other = told other g duty b in
    let moved : next_of duty (lines_of (one ∷ f)) (entries_of (one ∷ f)) ≡ Some other = rw (same_lines, same_entries) second in
    ap (held_or one) (sym first ∙ moved)

abbrev rest_of : {A : Type 0} → List A → List A
rest_of [] = []
rest_of (first ∷ others) = others

∷_injective : {A : Type 0} {x y : A} {xs ys : List A} → x ∷ xs ≡ y ∷ ys → xs ≡ ys
∷_injective e = ap rest_of e

same_lines : (event : Happened) (f g : List Happened) → lines_of (event ∷ f) ≡ lines_of (event ∷ g) → lines_of f ≡ lines_of g
same_lines (Said line) f g e = ∷_injective e
same_lines (Sent command) f g e = e
same_lines (Answered answer) f g e = e
same_lines (Noted note) f g e = e
same_lines Restarted f g e = e
same_lines PowerCut f g e = e
same_lines FoundOff f g e = e

same_entries : (event : Happened) (f g : List Happened) → entries_of (event ∷ f) ≡ entries_of (event ∷ g) → entries_of f ≡ entries_of g
same_entries (Said line) f g e = e
same_entries (Sent command) f g e = ∷_injective e
same_entries (Answered answer) f g e = ∷_injective e
same_entries (Noted note) f g e = ∷_injective e
same_entries Restarted f g e = ∷_injective e
same_entries PowerCut f g e = ∷_injective e
same_entries FoundOff f g e = ∷_injective e

-- something happened, so there is a line or an entry
not_empty : {A : Type 0} {x : A} {xs : List A} → x ∷ xs ≡ [] → ⊥
not_empty e = cc

not_nothing : (event : Happened) (f : List Happened) → lines_of (event ∷ f) ≡ [] → entries_of (event ∷ f) ≡ [] → ⊥
not_nothing (Said line) f l e = not_empty l
not_nothing (Sent command) f l e = not_empty e
not_nothing (Answered answer) f l e = not_empty e
not_nothing (Noted note) f l e = not_empty e
not_nothing Restarted f l e = not_empty e
not_nothing PowerCut f l e = not_empty e
not_nothing FoundOff f l e = not_empty e

same_later : (h f g : List Happened) → Follows h f → Follows h g → lines_of f ≡ lines_of g → entries_of f ≡ entries_of g → f ≡ g
same_later h [] [] a b l e = refl
same_later h [] (event ∷ g) a b l e = absurd (not_nothing event g (sym l) (sym e))
same_later h (event ∷ f) [] a b l e = absurd (not_nothing event f l e)
same_later h (one ∷ f) (other ∷ g) a b l e =
    let same : one ≡ other = same_event (asked h) one other f g a.0 b.0 l e in
    let lines : lines_of f ≡ lines_of g = same_lines other f g (subst (λ (event : Happened). lines_of (event ∷ f) ≡ lines_of (other ∷ g)) same l) in
    let entries : entries_of f ≡ entries_of g = same_entries other f g (subst (λ (event : Happened). entries_of (event ∷ f) ≡ entries_of (other ∷ g)) same e) in
    let follows : Follows (one ∷ h) g = subst (λ (event : Happened). Follows (event ∷ h) g) (sym same) b.1 in
    ap (λ (event : Happened). event ∷ f) same ∙ ap (λ (later : List Happened). other ∷ later) (same_later (one ∷ h) f g a.1 follows lines entries)

pub one_history : (lines : List HandsetLine) (trace : List TraceEntry) (g h : List Happened) → IsOf lines trace g → IsOf lines trace h → g ≡ h
one_history lines trace g h a b =
    let later : reverse g ≡ reverse h =
    same_later [] (reverse g) (reverse h) (orderly_follows g [] a.orderly tt) (orderly_follows h [] b.orderly tt)
    (lines-onto g [] ∙ a.lines_are ∙ sym b.lines_are ∙ sym (lines-onto h []))
    (entries-onto g [] ∙ a.trace_is ∙ sym b.trace_is ∙ sym (entries-onto h [])) in
    sym (reverse-reverse g) ∙ ap reverse later ∙ reverse-reverse h
