-- What the card itself has to send, by what was compared.
use Rattle.std.proofs.Common.{◌≡◌, refl, ap, sym, ◌∙◌, subst, ℕ, ◌+◌, ◌<◌, Bool, true, false, List, [], ◌∷◌, ◌++◌, length, take, Option, Some, None, get_or, not, ◌&&◌, if◌then◌else◌, filter, nat_eq, IfSome}
use Rattle.std.specs.List.{list_any}
use Rattle.std.specs.Cmp.Lexicographic.{pointwise}
use Rattle.std.proofs.lemmas.List.Elements.{filter_more}
use Rattle.uicc_types.specs.declared.events.TheConstants.{STATUS_COMMAND}
use Rattle.card_state.specs.Persistent.{Registration}
use Rattle.toolkit_commands.specs.declared.items.Item.{Item}
use Rattle.toolkit_commands.specs.declared.commands.Proactive.{Proactive}
use Rattle.toolkit_commands.specs.declared.commands.Proactive.TheVariants.{PollInterval, SetUpEventList, SetUpMenu}
use Rattle.toolkit_model.specs.Sessions.{Announced}
use Rattle.toolkit_model.specs.Order.{is_for}
use Rattle.toolkit_model.specs.Orderly.{CanBeSent}
use Rattle.toolkit_model.specs.Registry.{menu_of}
use Rattle.toolkit_model.specs.Driving.{events_for, is_same_item, menu_title, half_a_minute, if_allowed, event_list_wanted, menu_wanted, polling_wanted}
use Rattle.event_dispatch.specs.Indexes.{StandsFor}
use Rattle.proactive_handler.specs.Events.{is_heard, events_in}
use Rattle.proactive_handler.proofs.EventsLemmas.{heard, events_are}

-- one more code is looked at
pub next_events : (p : ℕ → Bool) (codes : List ℕ) (at code : ℕ) (old new : List ℕ) → at < length codes → code ≡ get_or codes at 0
    → new ≡ old ++ (if p code then code ∷ [] else []) → old ≡ filter p (take at codes) → new ≡ filter p (take (at + 1) codes)
next_events p codes at code old new low code_is new_is old_is =
    new_is ∙ ap (λ (c : ℕ). old ++ (if p c then c ∷ [] else [])) code_is
    ∙ ap (λ (e : List ℕ). e ++ (if p (get_or codes at 0) then get_or codes at 0 ∷ [] else [])) old_is ∙ sym (filter_more p codes at 0 low)

pub sendable_if : (found : Option Proactive) (command : Proactive) → IfSome found (λ given. given ≡ command) → CanBeSent command → IfSome found CanBeSent
sendable_if None command same can = tt
sendable_if (Some given) command same can = subst CanBeSent (sym same) can

-- ---- the list of events

list_wanted : (profile : List ℕ) (lists : List (List ℕ)) (rows : List Registration) (announced : Announced) (events : List ℕ) (same : Bool) → StandsFor lists rows
    → events ≡ events_in profile lists → same ≡ pointwise nat_eq events announced.events
    → event_list_wanted profile rows announced ≡ if_allowed profile (not same) (SetUpEventList events)
list_wanted profile lists rows announced events same stands events_is same_is =
    let is : events_for profile rows ≡ events = sym (events_are profile lists rows stands) ∙ sym events_is in
    ap (λ (e : List ℕ). if_allowed profile (not (pointwise nat_eq e announced.events)) (SetUpEventList e)) is
    ∙ ap (λ (b : Bool). if_allowed profile (not b) (SetUpEventList events)) (sym same_is)

pub list_known : (profile : List ℕ) (lists : List (List ℕ)) (rows : List Registration) (announced : Announced) (events : List ℕ) (same : Bool) → StandsFor lists rows
    → events ≡ events_in profile lists → same ≡ pointwise nat_eq events announced.events → same ≡ true → None ≡ event_list_wanted profile rows announced
list_known profile lists rows announced events same stands events_is same_is is =
    sym (list_wanted profile lists rows announced events same stands events_is same_is ∙ ap (λ (b : Bool). if_allowed profile (not b) (SetUpEventList events)) is)

pub list_new : (profile : List ℕ) (lists : List (List ℕ)) (rows : List Registration) (announced : Announced) (events : List ℕ) (same : Bool) → StandsFor lists rows
    → events ≡ events_in profile lists → same ≡ pointwise nat_eq events announced.events → same ≡ false
    → if_allowed profile true (SetUpEventList events) ≡ event_list_wanted profile rows announced
list_new profile lists rows announced events same stands events_is same_is is =
    sym (list_wanted profile lists rows announced events same stands events_is same_is ∙ ap (λ (b : Bool). if_allowed profile (not b) (SetUpEventList events)) is)

-- ---- the menu

menu_due : (profile : List ℕ) (rows : List Registration) (announced : Announced) (title : List ℕ) (items : List Item) (same : Bool) → title ≡ menu_title → items ≡ menu_of rows
    → same ≡ pointwise is_same_item items announced.menu → menu_wanted profile rows announced ≡ if_allowed profile (not same) (SetUpMenu title items)
menu_due profile rows announced title items same title_is items_is same_is =
    ap (λ (i : List Item). if_allowed profile (not (pointwise is_same_item i announced.menu)) (SetUpMenu menu_title i)) (sym items_is)
    ∙ ap (λ (t : List ℕ). if_allowed profile (not (pointwise is_same_item items announced.menu)) (SetUpMenu t items)) (sym title_is)
    ∙ ap (λ (b : Bool). if_allowed profile (not b) (SetUpMenu title items)) (sym same_is)

pub menu_known : (profile : List ℕ) (rows : List Registration) (announced : Announced) (items : List Item) (same : Bool) → items ≡ menu_of rows
    → same ≡ pointwise is_same_item items announced.menu → same ≡ true → None ≡ menu_wanted profile rows announced
menu_known profile rows announced items same items_is same_is is =
    sym (menu_due profile rows announced menu_title items same refl items_is same_is ∙ ap (λ (b : Bool). if_allowed profile (not b) (SetUpMenu menu_title items)) is)

pub menu_new : (profile : List ℕ) (rows : List Registration) (announced : Announced) (title : List ℕ) (items : List Item) (same : Bool) → title ≡ menu_title → items ≡ menu_of rows
    → same ≡ pointwise is_same_item items announced.menu → same ≡ false → if_allowed profile true (SetUpMenu title items) ≡ menu_wanted profile rows announced
menu_new profile rows announced title items same title_is items_is same_is is =
    sym (menu_due profile rows announced title items same title_is items_is same_is ∙ ap (λ (b : Bool). if_allowed profile (not b) (SetUpMenu title items)) is)

-- ---- polling

not_due : (profile : List ℕ) (one : Bool) (command : Proactive) → if_allowed profile (one && false) command ≡ None
not_due profile true command = refl
not_due profile false command = refl

pub polls_already : (profile : List ℕ) (rows : List Registration) (announced : Announced) → announced.polls ≡ true → None ≡ polling_wanted profile rows announced
polls_already profile rows announced is =
    sym (ap (λ (b : Bool). if_allowed profile (list_any (is_for STATUS_COMMAND) rows && not b) (PollInterval half_a_minute)) is
    ∙ not_due profile (list_any (is_for STATUS_COMMAND) rows) (PollInterval half_a_minute))

pub polls_for_nobody : (profile : List ℕ) (lists : List (List ℕ)) (rows : List Registration) (announced : Announced) → StandsFor lists rows → is_heard lists STATUS_COMMAND ≡ false
    → None ≡ polling_wanted profile rows announced
polls_for_nobody profile lists rows announced stands is =
    sym (ap (λ (b : Bool). if_allowed profile (b && not announced.polls) (PollInterval half_a_minute)) (sym (heard lists rows STATUS_COMMAND stands) ∙ is))

pub polls_now : (profile : List ℕ) (lists : List (List ℕ)) (rows : List Registration) (announced : Announced) → StandsFor lists rows → announced.polls ≡ false
    → is_heard lists STATUS_COMMAND ≡ true → if_allowed profile true (PollInterval half_a_minute) ≡ polling_wanted profile rows announced
polls_now profile lists rows announced stands none is =
    sym (ap (λ (b : Bool). if_allowed profile (b && not announced.polls) (PollInterval half_a_minute)) (sym (heard lists rows STATUS_COMMAND stands) ∙ is)
    ∙ ap (λ (b : Bool). if_allowed profile (not b) (PollInterval half_a_minute)) none)
