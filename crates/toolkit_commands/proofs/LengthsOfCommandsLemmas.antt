-- How long the bytes of a command are.
use Rattle.std.proofs.Common.{◌≡◌, ℕ, ◌+◌, ◌*◌, ◌<◌, ◌≤◌, Bool, true, false, cond, eqb, List, [], ◌∷◌, ◌++◌, length, map, refl, arith, inl, inr, length-append}
use Rattle.std.specs.List.{AllByRecursion}
use Rattle.std.proofs.lemmas.Bool.{cases_lt, lt-ltb, le-ltb}
use Rattle.std.proofs.lemmas.List.Elements.{recursion_from_All}
use Rattle.comprehension_tlv.specs.Model.{Object}
use Rattle.comprehension_tlv.specs.Writing.{tagged, shortest_length, spelling, spellings}
use Rattle.toolkit_commands.specs.declared.items.Item.{Item}
use Rattle.toolkit_commands.specs.declared.commands.TimeValue.{TimeValue}
use Rattle.toolkit_commands.specs.declared.commands.Proactive.{Proactive}
use Rattle.toolkit_commands.specs.declared.commands.Proactive.TheVariants.{Refresh, MoreTime, PollInterval, SetUpEventList, PlayTone, DisplayText, GetInkey, GetInput, SelectItem, SetUpMenu, LocalInformation, TimerManagement, IdleText}
use Rattle.toolkit_commands.specs.Table.{item_object, menu_objects, timer_value, row_of, objects_of_command, spelled, IsProper, HasWritableTime}
use Rattle.toolkit_commands.specs.Matching.{AreBounded, IsShort}

same_tagged : (tag : ℕ) (one other : List ℕ) → length one ≡ length other → length (tagged tag one) ≡ length (tagged tag other)
unfolding tagged
same_tagged tag one other same =
    rw same (omega (arith, same, length-append (shortest_length (length other)) one, length-append (shortest_length (length other)) other))

same_content : (command : Proactive) (number other : ℕ) → length (spellings (objects_of_command command number)) ≡ length (spellings (objects_of_command command other))
unfolding tagged
same_content command number other = refl

pub same_length : (command : Proactive) (number other : ℕ) → length (spelled command number) ≡ length (spelled command other)
same_length command number other =
    same_tagged 0xD0 (spellings (objects_of_command command number)) (spellings (objects_of_command command other)) (same_content command number other)

-- a value below 128 bytes has a length of one byte, below 256 bytes one of two
pub short_tagged : (tag : ℕ) (value : List ℕ) → length value < 128 → length (tagged tag value) ≡ length value + 2
unfolding tagged
short_tagged tag value less = rw (lt-ltb (length value) 128 less) (omega arith)

pub long_tagged : (tag : ℕ) (value : List ℕ) → length value < 256 → length (tagged tag value) ≤ length value + 3
unfolding tagged
long_tagged tag value less =
    elim (cases_lt (length value) 128) [
      | inl short ↦ rw (lt-ltb (length value) 128 short) (omega arith)
      | inr long ↦ rw (le-ltb (length value) 128 long, lt-ltb (length value) 256 less) (omega arith)
    ]

-- an object that is put after others
pub length_put : (old : List ℕ) (tag : ℕ) (value : List ℕ) → length value < 128
    → length (old ++ tagged (128 + tag) value) ≡ length old + length value + 2
length_put old tag value short =
    let size : length (tagged (128 + tag) value) ≡ length value + 2 = short_tagged (128 + tag) value short in
    omega (arith, length-append old (tagged (128 + tag) value))

-- the details and the device identities have nine bytes
heading : (command : Proactive) (number : ℕ) → length (spellings (objects_of_command command number)) ≡ 9 + length (spellings (row_of command).objects)
unfolding tagged
heading command number = omega arith

within : (command : Proactive) (number : ℕ) → length (spellings (row_of command).objects) ≤ 243 → length (spelled command number) ≤ 255
within command number few =
    let content : length (spellings (objects_of_command command number)) ≤ 252 = omega (arith, heading command number) in
    omega (arith, content, long_tagged 0xD0 (spellings (objects_of_command command number)) (omega (arith, content)))

one_object : (tag : ℕ) (value : List ℕ) (most : ℕ) → length value ≤ most → most < 256 → length (tagged tag value ++ []) ≤ most + 3
one_object tag value most few less = omega (arith, few, less, length-append (tagged tag value) [], long_tagged tag value (omega arith))

items_size : (items : List Item) → AllByRecursion (λ item. length item.text ≤ 10) items → length (spellings (map item_object items)) ≤ 13 * length items
items_size [] all = omega arith
items_size (item ∷ others) all =
    omega (arith, items_size others all.1, length-append (spelling (item_object item)) (spellings (map item_object others)), short_tagged 143 (item.id ∷ item.text) (omega (arith, all.0)))

menu_size : (items : List Item) → AllByRecursion (λ item. length item.text ≤ 10) items → length items ≤ 16 → length (spellings (menu_objects items)) ≤ 208
unfolding tagged
menu_size [] all few = omega arith
menu_size (item ∷ others) all few = omega (arith, few, items_size (item ∷ others) all)

title_size : (title : List ℕ) (items : List Item) (objects : List Object) → AreBounded title items → length (spellings objects) ≤ 208 → length (tagged 133 title ++ spellings objects) ≤ 243
title_size title items objects bounded few =
    omega (arith, few, length-append (tagged 133 title) (spellings objects), short_tagged 133 title (omega (arith, bounded.title_length)))

choice_size : (items : List Item) → AllByRecursion (λ item. length item.text ≤ 10) items → length items ≤ 16 → length (spellings (map item_object items)) ≤ 208
choice_size items all few = omega (arith, few, items_size items all)

timer_size : (started : Bool) (timer : ℕ) (value : TimeValue) → length (tagged 164 (timer ∷ []) ++ spellings (cond started (timer_value value ∷ []) [])) ≤ 243
unfolding tagged
timer_size true timer value = omega arith
timer_size false timer value = omega arith

input_size : (text : List ℕ) (least most : ℕ) → length text ≤ 235 → length (tagged 141 (4 ∷ text) ++ (tagged 145 (least ∷ most ∷ []) ++ [])) ≤ 243
input_size text least most few =
    omega (arith, few, length-append (tagged 141 (4 ∷ text)) (tagged 145 (least ∷ most ∷ []) ++ []), length-append (tagged 145 (least ∷ most ∷ [])) [], long_tagged 141 (4 ∷ text) (omega arith), short_tagged 145 (least ∷ most ∷ []) (omega arith))

row_size : (command : Proactive) → IsShort command → length (spellings (row_of command).objects) ≤ 243
row_size (Refresh mode) short = omega arith
row_size MoreTime short = omega arith
row_size (PollInterval seconds) short = omega (arith, one_object 132 (1 ∷ seconds ∷ []) 2 (omega arith) (omega arith))
row_size (SetUpEventList events) short = omega (arith, one_object 153 events 240 short (omega arith))
row_size (PlayTone tone) short = omega (arith, one_object 142 (tone ∷ []) 1 (omega arith) (omega arith))
row_size (DisplayText text) short = omega (arith, one_object 141 (4 ∷ text) 240 (omega (arith, short)) (omega arith))
row_size (GetInkey text) short = omega (arith, one_object 141 (4 ∷ text) 240 (omega (arith, short)) (omega arith))
row_size (GetInput text digits least most) short = input_size text least most short
row_size (SelectItem title items) short =
    title_size title items (map item_object items) short (choice_size items (recursion_from_All (λ (item : Item). length item.text ≤ 10) items short.text_lengths) short.count)
row_size (SetUpMenu title items) short =
    title_size title items (menu_objects items) short (menu_size items (recursion_from_All (λ (item : Item). length item.text ≤ 10) items short.text_lengths) short.count)
row_size (LocalInformation what) short = omega arith
row_size (TimerManagement action timer value) short = timer_size (eqb action 0) timer value
row_size (IdleText text) short = omega (arith, one_object 141 (4 ∷ text) 240 (omega (arith, short)) (omega arith))

pub short_enough : (command : Proactive) (number : ℕ) → IsShort command → length (spelled command number) ≤ 255
short_enough command number short = within command number (row_size command short)

pub proper_is_writable : (command : Proactive) → IsProper command → HasWritableTime command
proper_is_writable (Refresh mode) proper = tt
proper_is_writable MoreTime proper = tt
proper_is_writable (PollInterval seconds) proper = tt
proper_is_writable (SetUpEventList events) proper = tt
proper_is_writable (PlayTone tone) proper = tt
proper_is_writable (DisplayText text) proper = tt
proper_is_writable (GetInkey text) proper = tt
proper_is_writable (GetInput text digits least most) proper = tt
proper_is_writable (SelectItem title items) proper = tt
proper_is_writable (SetUpMenu title items) proper = tt
proper_is_writable (LocalInformation what) proper = tt
proper_is_writable (TimerManagement action timer value) proper = proper.writable
proper_is_writable (IdleText text) proper = tt
