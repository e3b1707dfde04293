-- Each turn of each kind is a lawful one.
use Rattle.std.proofs.Common.{◌≡◌, ℕ, Bool, true, false, List, [], ◌∷◌, Option, Some, None, codes, if◌then◌else◌, refl, lit≤}
use Rattle.toolkit_commands.specs.Table.{HasWritableTime}
use Rattle.applet_trait.specs.declared.stimuli.Stimulus.{Stimulus}
use Rattle.applet_trait.specs.declared.stimuli.Stimulus.TheVariants.{Event, Response, Went, Refused, Timer}
use Rattle.applet_trait.specs.declared.stimuli.Act.{Act}
use Rattle.applet_trait.specs.declared.stimuli.Act.TheVariants.{Done, Send, Keep, Register, Deregister, TakeTimer, FreeTimer, Answer}
use Rattle.applet_trait.specs.Minds.{AppletState, Turn, turn, done, keeping, no_longer_asking, kept_after}
use Rattle.applet_trait.specs.Tables.{greeter, menu, clock, five_minutes, expired, watcher, located, barrier, typed, notebook, opened, table, next_or_done, at_row, acting, ActionRow, show}
use Rattle.applet_trait.specs.Turns.{act, by_kind}
use Rattle.applet_trait.specs.Laws.{IsLawful}

either : {kind : ℕ} {kept : List ℕ} (b : Bool) {x y : Turn} → IsLawful kind kept x → IsLawful kind kept y → IsLawful kind kept (if b then x else y)
either true first second = first
either false first second = second

lawful_done : (mind : AppletState) → mind.asked ≡ None → IsLawful mind.kind mind.kept (done mind)
lawful_done mind none = record { same_kind = refl; same_kept = refl; asked = none; reset = λ is. refl; writable = tt }

lawful_keeping : (mind : AppletState) (bytes : List ℕ) (phase : ℕ) → IsLawful mind.kind mind.kept (keeping mind bytes phase)
lawful_keeping mind bytes phase = record { same_kind = refl; same_kept = refl; asked = refl; reset = λ is. cc; writable = tt }

-- acts after which an applet goes on, and asks for no bytes
abbrev GoesOn : Act → Type 0
GoesOn Done = ⊥
GoesOn (Keep bytes) = ⊥
GoesOn (Send command) = HasWritableTime command
GoesOn _ = Unit {0}

lawful_turn : (mind : AppletState) (does : Act) (phase : ℕ) → mind.asked ≡ None → GoesOn does → IsLawful mind.kind mind.kept (turn mind does phase)
lawful_turn mind Done phase none goes = absurd goes
lawful_turn mind (Keep bytes) phase none goes = absurd goes
lawful_turn mind (Send command) phase none goes = record { same_kind = refl; same_kept = refl; asked = none; reset = λ is. cc; writable = goes }
lawful_turn mind (Register code) phase none goes = record { same_kind = refl; same_kept = refl; asked = none; reset = λ is. cc; writable = tt }
lawful_turn mind (Deregister code) phase none goes = record { same_kind = refl; same_kept = refl; asked = none; reset = λ is. cc; writable = tt }
lawful_turn mind TakeTimer phase none goes = record { same_kind = refl; same_kept = refl; asked = none; reset = λ is. cc; writable = tt }
lawful_turn mind (FreeTimer timer) phase none goes = record { same_kind = refl; same_kept = refl; asked = none; reset = λ is. cc; writable = tt }
lawful_turn mind (Answer allowed) phase none goes = record { same_kind = refl; same_kept = refl; asked = none; reset = λ is. cc; writable = tt }

-- two digits can write five minutes
five_minutes_writable : (timer : ℕ) → GoesOn (five_minutes timer)
five_minutes_writable timer = record { hours = lit≤ tt; minutes = lit≤ tt; seconds = lit≤ tt }

greeter_lawful : (mind : AppletState) (stimulus : Stimulus) → mind.asked ≡ None → IsLawful mind.kind mind.kept (greeter mind stimulus)
greeter_lawful mind (Event code body) none = search (either, lawful_turn, lawful_done)
greeter_lawful mind _ none = lawful_done mind none

menu_lawful : (mind : AppletState) (stimulus : Stimulus) → mind.asked ≡ None → IsLawful mind.kind mind.kept (menu mind stimulus)
menu_lawful mind (Event code body) none = search (either, lawful_turn, lawful_done)
menu_lawful mind (Response result item text) none = search (either, lawful_turn, lawful_done)
menu_lawful mind _ none = lawful_done mind none

expired_lawful : (mind : AppletState) (body : List ℕ) → mind.asked ≡ None → IsLawful mind.kind mind.kept (expired mind body)
expired_lawful mind (timer ∷ []) none = lawful_turn (record mind { held = timer }) (show (codes "Tick")) 3 none tt
expired_lawful mind _ none = lawful_done mind none

clock_lawful : (mind : AppletState) (stimulus : Stimulus) → mind.asked ≡ None → IsLawful mind.kind mind.kept (clock mind stimulus)
clock_lawful mind (Event code body) none = search (either, lawful_turn, lawful_done, expired_lawful)
clock_lawful mind (Timer timer) none = either _ (lawful_turn mind (five_minutes timer) 2 none (five_minutes_writable timer)) (lawful_done mind none)
clock_lawful mind (Response result item text) none = search (either, lawful_turn, lawful_done)
clock_lawful mind Refused none = search (either, lawful_turn, lawful_done)
clock_lawful mind Went none = lawful_done mind none

located_lawful : (mind : AppletState) (found : Option (List ℕ)) → mind.asked ≡ None → IsLawful mind.kind mind.kept (located mind found)
located_lawful mind (Some location) none = search (either, lawful_turn, lawful_keeping)
located_lawful mind None none = search (lawful_turn)

watcher_lawful : (mind : AppletState) (stimulus : Stimulus) → mind.asked ≡ None → IsLawful mind.kind mind.kept (watcher mind stimulus)
watcher_lawful mind (Event code body) none = search (either, lawful_turn, lawful_done, located_lawful) depth 9
watcher_lawful mind Went none = search (either, lawful_turn, lawful_done)
watcher_lawful mind _ none = lawful_done mind none

typed_lawful : (mind : AppletState) (result : ℕ) (text : List ℕ) → mind.asked ≡ None → IsLawful mind.kind mind.kept (typed mind result text)
typed_lawful mind result text none = search (either, lawful_keeping, lawful_done)

barrier_lawful : (mind : AppletState) (stimulus : Stimulus) → mind.asked ≡ None → IsLawful mind.kind mind.kept (barrier mind stimulus)
barrier_lawful mind (Event code body) none = search (either, lawful_turn, lawful_done)
barrier_lawful mind (Response result item text) none = typed_lawful mind result text none
barrier_lawful mind _ none = lawful_done mind none

opened_lawful : (mind : AppletState) (kept : List ℕ) → mind.asked ≡ None → IsLawful mind.kind mind.kept (opened mind kept)
opened_lawful mind [] none = search (lawful_turn)
opened_lawful mind (first ∷ others) none = search (lawful_turn)

notebook_lawful : (mind : AppletState) (stimulus : Stimulus) → mind.asked ≡ None → IsLawful mind.kind mind.kept (notebook mind stimulus)
notebook_lawful mind (Event code body) none = search (either, lawful_turn, lawful_done, opened_lawful)
notebook_lawful mind (Response result item text) none = typed_lawful mind result text none
notebook_lawful mind _ none = lawful_done mind none

acting_lawful : (mind : AppletState) (action argument : ℕ) → mind.asked ≡ None → IsLawful mind.kind mind.kept (acting mind action argument)
acting_lawful mind action argument none = search (either, lawful_turn, lawful_done) depth 30

at_row_lawful : (mind : AppletState) (code : ℕ) (found : Option (ℕ × ActionRow)) → mind.asked ≡ None → IsLawful mind.kind mind.kept (at_row mind code found)
at_row_lawful mind code (Some (place, row)) none = acting_lawful (record mind { held = place; code = code }) row.action row.argument none
at_row_lawful mind code None none = lawful_done mind none

going_on_lawful : (mind : AppletState) → mind.asked ≡ None → IsLawful mind.kind mind.kept (next_or_done mind)
going_on_lawful mind none = search (either, at_row_lawful, lawful_done)

table_lawful : (mind : AppletState) (stimulus : Stimulus) → mind.asked ≡ None → IsLawful mind.kind mind.kept (table mind stimulus)
table_lawful mind (Event code body) none = search (either, at_row_lawful, going_on_lawful)
table_lawful mind (Response result item text) none = going_on_lawful mind none
table_lawful mind Went none = going_on_lawful mind none
table_lawful mind Refused none = going_on_lawful mind none
table_lawful mind (Timer timer) none = going_on_lawful mind none

by_kind_lawful : (kind : ℕ) (mind : AppletState) (stimulus : Stimulus) → mind.asked ≡ None → IsLawful mind.kind mind.kept (by_kind kind mind stimulus)
by_kind_lawful kind mind stimulus none =
    either _ (greeter_lawful mind stimulus none)
    (either _ (menu_lawful mind stimulus none)
    (either _ (clock_lawful mind stimulus none)
    (either _ (watcher_lawful mind stimulus none)
    (either _ (barrier_lawful mind stimulus none)
    (either _ (notebook_lawful mind stimulus none)
    (either _ (table_lawful mind stimulus none) (lawful_done mind none)))))))

pub act_lawful : (mind : AppletState) (stimulus : Stimulus) → IsLawful mind.kind (kept_after stimulus mind.asked mind.kept) (act mind stimulus)
unfolding act
act_lawful mind stimulus = by_kind_lawful mind.kind (no_longer_asking mind stimulus) stimulus refl
