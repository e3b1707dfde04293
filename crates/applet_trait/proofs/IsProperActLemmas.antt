-- Each command that is sent is a proper one.
use Rattle.std.proofs.Common.{ℕ, Bool, true, false, List, [], ◌∷◌, Option, Some, None, if◌then◌else◌, refl, lit≤, rules}
use Rattle.applet_trait.specs.declared.stimuli.Stimulus.{Stimulus}
use Rattle.applet_trait.specs.declared.stimuli.Stimulus.TheVariants.{Event, Response, Went, Refused, Timer}
use Rattle.applet_trait.specs.declared.stimuli.Act.{Act}
use Rattle.applet_trait.specs.Minds.{AppletState, Turn, turn, done, no_longer_asking}
use Rattle.applet_trait.specs.Tables.{greeter, menu, text_or_tone, clock, five_minutes, expired, watcher, located, barrier, typed, notebook, opened, table, next_or_done, at_row, acting, ActionRow}
use Rattle.applet_trait.specs.Turns.{act, by_kind}
use Rattle.applet_trait.specs.Laws.{IsTimer, GivesTimer, IsProperAct}

-- what the turn sends is proper
record IsProperTurn (made : Turn) : Type 0 where
  proper : IsProperAct made.does

either : (b : Bool) {x y : Turn} → IsProperTurn x → IsProperTurn y → IsProperTurn (if b then x else y)
either true first second = first
either false first second = second

plain : (made : Turn) → IsProperAct made.does → IsProperTurn made
plain made proper = record { proper = proper }

proper_turn : (mind : AppletState) (does : Act) (phase : ℕ) → IsProperAct does → IsProperTurn (turn mind does phase)
proper_turn mind does phase proper = record { proper = proper }

proper_done : (mind : AppletState) → IsProperTurn (done mind)
proper_done mind = record { proper = tt }

choice_proper : IsProperAct text_or_tone
choice_proper = record {
  proper = lit≤ tt;
  bounded = record { title_length = lit≤ tt; text_lengths = search rules; count = lit≤ tt };
}

timer_proper : (timer : ℕ) → IsTimer timer → IsProperAct (five_minutes timer)
timer_proper timer known = record {
  proper = record {
    writable = record { hours = lit≤ tt; minutes = lit≤ tt; seconds = lit≤ tt };
    zero_unless_started = λ other. absurd (other refl);
    known_action = lit≤ tt;
    from_one = known.from_1;
    to_eight = known.up_to_8;
  };
  bounded = tt;
}

greeter_proper : (mind : AppletState) (stimulus : Stimulus) → IsProperTurn (greeter mind stimulus)
greeter_proper mind (Event code body) = search (either, plain)
greeter_proper mind _ = proper_done mind

menu_proper : (mind : AppletState) (stimulus : Stimulus) → IsProperTurn (menu mind stimulus)
menu_proper mind (Event code body) = either _ (proper_turn mind text_or_tone 1 choice_proper) (proper_done mind)
menu_proper mind (Response result item text) = search (either, plain) depth 9
menu_proper mind _ = proper_done mind

expired_proper : (mind : AppletState) (body : List ℕ) → IsProperTurn (expired mind body)
expired_proper mind (timer ∷ []) = search (plain)
expired_proper mind _ = proper_done mind

clock_proper : (mind : AppletState) (stimulus : Stimulus) → GivesTimer stimulus → IsProperTurn (clock mind stimulus)
clock_proper mind (Event code body) gives = search (either, plain, expired_proper)
clock_proper mind (Timer timer) gives = either _ (proper_turn mind (five_minutes timer) 2 (timer_proper timer gives)) (proper_done mind)
clock_proper mind (Response result item text) gives = search (either, plain)
clock_proper mind Refused gives = search (either, plain)
clock_proper mind Went gives = proper_done mind

located_proper : (mind : AppletState) (found : Option (List ℕ)) → IsProperTurn (located mind found)
located_proper mind (Some location) = search (either, plain)
located_proper mind None = search (plain)

watcher_proper : (mind : AppletState) (stimulus : Stimulus) → IsProperTurn (watcher mind stimulus)
watcher_proper mind (Event code body) = search (either, plain, located_proper) depth 9
watcher_proper mind Went = search (either, plain)
watcher_proper mind _ = proper_done mind

typed_proper : (mind : AppletState) (result : ℕ) (text : List ℕ) → IsProperTurn (typed mind result text)
typed_proper mind result text = search (either, plain)

barrier_proper : (mind : AppletState) (stimulus : Stimulus) → IsProperTurn (barrier mind stimulus)
barrier_proper mind (Event code body) = search (either, plain)
barrier_proper mind (Response result item text) = typed_proper mind result text
barrier_proper mind _ = proper_done mind

opened_proper : (mind : AppletState) (kept : List ℕ) → IsProperTurn (opened mind kept)
opened_proper mind [] = search (plain)
opened_proper mind (first ∷ others) = search (plain)

notebook_proper : (mind : AppletState) (stimulus : Stimulus) → IsProperTurn (notebook mind stimulus)
notebook_proper mind (Event code body) = search (either, plain, opened_proper)
notebook_proper mind (Response result item text) = typed_proper mind result text
notebook_proper mind _ = proper_done mind

acting_proper : (mind : AppletState) (action argument : ℕ) → IsProperTurn (acting mind action argument)
acting_proper mind action argument = search (either, plain) depth 30

at_row_proper : (mind : AppletState) (code : ℕ) (found : Option (ℕ × ActionRow)) → IsProperTurn (at_row mind code found)
at_row_proper mind code (Some (place, row)) = acting_proper (record mind { held = place; code = code }) row.action row.argument
at_row_proper mind code None = proper_done mind

going_on_proper : (mind : AppletState) → IsProperTurn (next_or_done mind)
going_on_proper mind = search (either, plain, at_row_proper)

table_proper : (mind : AppletState) (stimulus : Stimulus) → IsProperTurn (table mind stimulus)
table_proper mind (Event code body) = search (either, at_row_proper, going_on_proper)
table_proper mind _ = going_on_proper mind

by_kind_proper : (kind : ℕ) (mind : AppletState) (stimulus : Stimulus) → GivesTimer stimulus → IsProperTurn (by_kind kind mind stimulus)
by_kind_proper kind mind stimulus gives =
    either _ (greeter_proper mind stimulus)
    (either _ (menu_proper mind stimulus)
    (either _ (clock_proper mind stimulus gives)
    (either _ (watcher_proper mind stimulus)
    (either _ (barrier_proper mind stimulus)
    (either _ (notebook_proper mind stimulus)
    (either _ (table_proper mind stimulus) (proper_done mind)))))))

pub act_proper : (mind : AppletState) (stimulus : Stimulus) → GivesTimer stimulus → IsProperAct (act mind stimulus).does
unfolding act
act_proper mind stimulus gives = (by_kind_proper mind.kind (no_longer_asking mind stimulus) stimulus gives).proper
