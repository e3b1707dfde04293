-- What is spelled is a template with the command's objects, and is read as that command.
use Rattle.std.proofs.Common.{◌≡◌, ◌≢◌, ℕ, ◌+◌, ◌^◌, ◌<◌, ◌≤◌, Bool, true, false, cond, eqb, List, [], ◌∷◌, length, map, Some, Ok, refl, sym, ◌∙◌, arith, inl, inr, length-append}
use Rattle.std.specs.List.{AllByRecursion}
use Rattle.std.proofs.lemmas.Bool.{cases_eq, ne_eqb}
use Rattle.comprehension_tlv.specs.Model.{Object, flagged}
use Rattle.comprehension_tlv.specs.Reading.{first_value}
use Rattle.comprehension_tlv.specs.Writing.{spelling, spellings, IsWritableObject}
use Rattle.comprehension_tlv.proofs.ReadingLemmas.{objects_again, template_again, spellings_are, spelled_is}
use Rattle.toolkit_commands.specs.declared.items.Item.{Item}
use Rattle.toolkit_commands.specs.declared.commands.TimeValue.{TimeValue}
use Rattle.toolkit_commands.specs.declared.commands.Proactive.{Proactive}
use Rattle.toolkit_commands.specs.declared.commands.Proactive.TheVariants.{Refresh, MoreTime, PollInterval, SetUpEventList, PlayTone, DisplayText, GetInkey, GetInput, SelectItem, SetUpMenu, LocalInformation, TimerManagement, IdleText}
use Rattle.toolkit_commands.specs.Table.{item_object, menu_objects, timer_value, row_of, details_of, objects_of_command, spelled, IsProper}
use Rattle.toolkit_commands.specs.Reading.{proactive_of}
use Rattle.toolkit_commands.specs.Matching.{HasObjects, IsCommand, IsBounded}
use Rattle.toolkit_commands.proofs.SpellingsLemmas.{length-tagged}
use Rattle.toolkit_commands.proofs.ProactiveReadLemmas.{proactive_again}
use Rattle.toolkit_commands.proofs.ProactiveOfLemmas.{read_by_table}

-- ---- the tags are those that can be written

abbrev IsTagged : Object → Type 0
IsTagged object = (1 ≤ object.tag) × (object.tag ≤ 126)

items_tagged : (items : List Item) → AllByRecursion IsTagged (map item_object items)
items_tagged [] = tt
items_tagged (item ∷ others) = ((omega arith, omega arith), items_tagged others)

menu_tagged : (items : List Item) → AllByRecursion IsTagged (menu_objects items)
menu_tagged [] = ((omega arith, omega arith), tt)
menu_tagged (item ∷ others) = items_tagged (item ∷ others)

timer_tagged : (started : Bool) (value : TimeValue) → AllByRecursion IsTagged (cond started (timer_value value ∷ []) [])
timer_tagged started value = elim started as (λ b. AllByRecursion IsTagged (cond b (timer_value value ∷ []) [])) [ true ↦ ((omega arith, omega arith), tt) | false ↦ tt ]

row_tagged : (command : Proactive) → AllByRecursion IsTagged (row_of command).objects
row_tagged (Refresh mode) = tt
row_tagged MoreTime = tt
row_tagged (PollInterval seconds) = ((omega arith, omega arith), tt)
row_tagged (SetUpEventList events) = ((omega arith, omega arith), tt)
row_tagged (PlayTone tone) = ((omega arith, omega arith), tt)
row_tagged (DisplayText text) = ((omega arith, omega arith), tt)
row_tagged (GetInkey text) = ((omega arith, omega arith), tt)
row_tagged (GetInput text digits least most) = ((omega arith, omega arith), ((omega arith, omega arith), tt))
row_tagged (SelectItem title items) = ((omega arith, omega arith), items_tagged items)
row_tagged (SetUpMenu title items) = ((omega arith, omega arith), menu_tagged items)
row_tagged (LocalInformation what) = tt
row_tagged (TimerManagement action timer value) = ((omega arith, omega arith), timer_tagged (eqb action 0) value)
row_tagged (IdleText text) = ((omega arith, omega arith), tt)

all_tagged : (command : Proactive) (number : ℕ) → AllByRecursion IsTagged (objects_of_command command number)
all_tagged command number = ((omega arith, omega arith), ((omega arith, omega arith), row_tagged command))

-- what is short in all has short values
writable : (objects : List Object) → AllByRecursion IsTagged objects → length (spellings objects) < 2 ^ 16 → AllByRecursion IsWritableObject objects
writable [] tags short = tt
writable (object ∷ others) tags short =
    let size = length-append (spelling object) (spellings others) in
    let value = length-tagged (flagged object.flag 128 + object.tag) object.value in
    (record { low = tags.0.0; high = tags.0.1; small = omega arith }, writable others tags.1 (omega arith))

-- ---- the list has its own objects

pub items_first : (list : List Object) (items : List Item) → AllByRecursion (λ object. object.tag ≢ 0x0F → first_value object.tag list ≡ Some object.value) (map item_object items)
items_first list [] = tt
items_first list (item ∷ others) = (λ other. absurd (other refl), items_first list others)

pub menu_first : (list : List Object) (items : List Item) → AllByRecursion (λ object. object.tag ≢ 0x0F → first_value object.tag list ≡ Some object.value) (menu_objects items)
menu_first list [] = (λ other. absurd (other refl), tt)
menu_first list (item ∷ others) = items_first list (item ∷ others)

started_has : (timer number : ℕ) (value : TimeValue) → HasObjects (objects_of_command (TimerManagement 0 timer value) number) (objects_of_command (TimerManagement 0 timer value) number)
started_has timer number value = record { firsts = (λ _. refl, (λ _. refl, (λ _. refl, (λ _. refl, tt)))); items = λ _. refl }

other_timer_has : (action timer number : ℕ) (value : TimeValue) → eqb action 0 ≡ false → HasObjects (objects_of_command (TimerManagement action timer value) number) (objects_of_command (TimerManagement action timer value) number)
other_timer_has action timer number value other = rw other (record { firsts = (λ _. refl, (λ _. refl, (λ _. refl, tt))); items = λ _. refl })

has_own : (command : Proactive) (number : ℕ) → HasObjects (objects_of_command command number) (objects_of_command command number)
has_own (Refresh mode) number = record { firsts = (λ _. refl, (λ _. refl, tt)); items = λ _. refl }
has_own MoreTime number = record { firsts = (λ _. refl, (λ _. refl, tt)); items = λ _. refl }
has_own (PollInterval seconds) number = record { firsts = (λ _. refl, (λ _. refl, (λ _. refl, tt))); items = λ _. refl }
has_own (SetUpEventList events) number = record { firsts = (λ _. refl, (λ _. refl, (λ _. refl, tt))); items = λ _. refl }
has_own (PlayTone tone) number = record { firsts = (λ _. refl, (λ _. refl, (λ _. refl, tt))); items = λ _. refl }
has_own (DisplayText text) number = record { firsts = (λ _. refl, (λ _. refl, (λ _. refl, tt))); items = λ _. refl }
has_own (GetInkey text) number = record { firsts = (λ _. refl, (λ _. refl, (λ _. refl, tt))); items = λ _. refl }
has_own (GetInput text digits least most) number = record { firsts = (λ _. refl, (λ _. refl, (λ _. refl, (λ _. refl, tt)))); items = λ _. refl }
has_own (SelectItem title items) number = record { firsts = (λ _. refl, (λ _. refl, (λ _. refl, items_first (objects_of_command (SelectItem title items) number) items))); items = λ _. refl }
has_own (SetUpMenu title items) number = record { firsts = (λ _. refl, (λ _. refl, (λ _. refl, menu_first (objects_of_command (SetUpMenu title items) number) items))); items = λ _. refl }
has_own (LocalInformation what) number = record { firsts = (λ _. refl, (λ _. refl, tt)); items = λ _. refl }
has_own (TimerManagement action timer value) number =
    elim (cases_eq action 0) [
      | inl is ↦ rw is (started_has timer number value)
      | inr other ↦ other_timer_has action timer number value (ne_eqb action 0 other)
    ]
has_own (IdleText text) number = record { firsts = (λ _. refl, (λ _. refl, (λ _. refl, tt))); items = λ _. refl }

-- ---- the round trip

pub is_command : (command : Proactive) (number : ℕ) → length (spelled command number) ≤ 256 → IsCommand (spelled command number) command number
is_command command number short =
    let objects = objects_of_command command number in
    let content = spellings objects in
    let less : length content < 2 ^ 16 = omega (arith, length-tagged 0xD0 content) in
    record {
      content = content;
      list = objects;
      template = spelled_is 0xD0 content less;
      spelled = spellings_are objects (writable objects (all_tagged command number) less);
      has = has_own command number;
    }

pub command_is_read : (bytes : List ℕ) (command : Proactive) (number : ℕ) → IsProper command → IsBounded command → IsCommand bytes command number → proactive_of bytes ≡ Ok (details_of command number, command)
command_is_read bytes command number proper bounded h =
    sym (read_by_table bytes) ∙ proactive_again bytes h.content h.list command number (template_again bytes 0xD0 h.content h.template) (objects_again h.content h.list h.spelled) proper bounded h.has

pub spelled_is_read : (command : Proactive) (number : ℕ) → IsProper command → IsBounded command → length (spelled command number) ≤ 256 → proactive_of (spelled command number) ≡ Ok (details_of command number, command)
spelled_is_read command number proper bounded short =
    command_is_read (spelled command number) command number proper bounded (is_command command number short)
