-- A list of objects that is a command's is read as that command.
use Rattle.std.proofs.Common.{◌≡◌, ◌≢◌, ℕ, ◌+◌, ◌*◌, ◌/◌, ◌%◌, ◌≤◌, Bool, true, false, eqb, List, [], ◌∷◌, length, map, Some, Ok, refl, ap, subst, ◌∙◌, arith, inl, inr}
use Rattle.std.specs.List.{AllByRecursion}
use Rattle.std.proofs.lemmas.List.Elements.{recursion_from_All}
use Rattle.std.proofs.lemmas.Bool.{cases_eq, le-leb, eq-eqb, ne_eqb, cases_Bool}
use Rattle.comprehension_tlv.specs.Model.{Object}
use Rattle.comprehension_tlv.specs.Reading.{outline, flaw, objects_of, first_value, template_of}
use Rattle.comprehension_tlv.proofs.ReadingLemmas.{unless_fault_is}
use Rattle.toolkit_commands.specs.declared.items.Item.{Item}
use Rattle.toolkit_commands.specs.declared.commands.TimeValue.{TimeValue}
use Rattle.toolkit_commands.specs.declared.commands.Proactive.{Proactive}
use Rattle.toolkit_commands.specs.declared.commands.Proactive.TheVariants.{Refresh, MoreTime, PollInterval, SetUpEventList, PlayTone, DisplayText, GetInkey, GetInput, SelectItem, SetUpMenu, LocalInformation, TimerManagement, IdleText}
use Rattle.toolkit_commands.specs.Table.{item_object, two_digits, timer_objects, row_of, details_of, objects_of_command, IsWritable, IsProperTimer, IsProper}
use Rattle.toolkit_commands.specs.Values.{swapped_decimal, time_of, timer_of, values, items_of, choice_of, no_time}
use Rattle.toolkit_commands.specs.Steps.{template_in, needed, items_in, text_in, poll_interval_in, event_list_in, tone_in, input_in, titled_in, choice_in, menu_in, started_timer_in, other_timer_in, command_in, command_of, proactive_read}
use Rattle.toolkit_commands.specs.Matching.{HasObjects, AreBounded, IsBounded}

-- ---- values

number_again : (n : ℕ) → n ≤ 99 → swapped_decimal (two_digits n) ≡ Ok n
number_again n le =
    let ones : (16 * (n % 10) + n / 10) / 16 ≡ n % 10 = omega arith in
    let tens : (16 * (n % 10) + n / 10) % 16 ≡ n / 10 = omega arith in
    rw (ones, tens, le-leb (n % 10) 9 (omega arith), le-leb (n / 10) 9 (omega arith)) (ap (λ (k : ℕ). Ok k) (omega arith))

time_again : (value : TimeValue) → IsWritable value → time_of (two_digits value.hours ∷ two_digits value.minutes ∷ two_digits value.seconds ∷ []) ≡ Ok value
time_again value h =
    rw (number_again value.hours h.hours, number_again value.minutes h.minutes, number_again value.seconds h.seconds) refl

timer_again : (timer : ℕ) → 1 ≤ timer → timer ≤ 8 → timer_of (timer ∷ []) ≡ Ok timer
timer_again timer low high = rw (le-leb 1 timer low, le-leb timer 8 high) refl

item_again : (items : List Item) → AllByRecursion (λ item. length item.text ≤ 10) items → items_of (values 0x0F (map item_object items)) ≡ Ok items
item_again [] h = refl
item_again (item ∷ others) h = rw (le-leb (length item.text) 10 h.0, item_again others h.1) refl

choice_again : (items : List Item) (title : List ℕ) → AreBounded title items → choice_of (values 0x0F (map item_object items)) ≡ Ok items
choice_again items title h = rw (item_again items (recursion_from_All (λ (item : Item). length item.text ≤ 10) items h.text_lengths), le-leb (length items) 16 h.count) refl

-- ---- objects of a list

module _ (content : List ℕ) (list : List Object) (whole : objects_of content ≡ Ok list) where
  needed_is : (tag : ℕ) (value : List ℕ) → first_value tag list ≡ Some value → needed tag content ≡ Ok value
  unfolding needed
  needed_is tag value e = rw (whole, e) refl

first_from_values : (tag : ℕ) (list : List Object) (value : List ℕ) (others : List (List ℕ)) → values tag list ≡ value ∷ others → first_value tag list ≡ Some value
first_from_values tag [] value others e = absurd cc
first_from_values tag (object ∷ list) value others e =
    elim (cases_Bool (eqb object.tag tag)) [
      | inl here ↦ rw here (let same : object.value ∷ values tag list ≡ value ∷ others = rw here at e in cc)
      | inr later ↦ rw later (first_from_values tag list value others (rw later at e))
    ]

-- ---- commands, by their rows

module _ (content : List ℕ) (list : List Object) (whole : objects_of content ≡ Ok list) where
  items_are : (found : List (List ℕ)) → values 0x0F list ≡ found → items_in content ≡ found
  items_are found e = ap (values 0x0F) (unless_fault_is (outline content).objects (flaw content) list whole).0 ∙ e

  text_again : (text : List ℕ) → first_value 0x0D list ≡ Some (0x04 ∷ text) → text_in content ≡ Ok text
  unfolding text_in
  text_again text e = rw (needed_is content list whole 0x0D (0x04 ∷ text) e) refl

  input_again : (digits : Bool) (text : List ℕ) (least most : ℕ) → HasObjects list (row_of (GetInput text digits least most)).objects → command_in 0x23 (row_of (GetInput text digits least most)).qualifier content ≡ Ok (GetInput text digits least most)
  unfolding command_in input_in
  input_again true text least most h =
      rw (needed_is content list whole 0x0D (0x04 ∷ text) (h.firsts.0 (λ e. absurd (omega arith))), needed_is content list whole 0x11 (least ∷ most ∷ []) (h.firsts.1.0 (λ e. absurd (omega arith)))) refl
  input_again false text least most h =
      rw (needed_is content list whole 0x0D (0x04 ∷ text) (h.firsts.0 (λ e. absurd (omega arith))), needed_is content list whole 0x11 (least ∷ most ∷ []) (h.firsts.1.0 (λ e. absurd (omega arith)))) refl

  choice_again_in : (title : List ℕ) (items : List Item) → 1 ≤ length items → AreBounded title items → HasObjects list (row_of (SelectItem title items)).objects → choice_in content ≡ Ok (SelectItem title items)
  unfolding choice_in titled_in
  choice_again_in title [] some bounded h = absurd (omega arith)
  choice_again_in title (item ∷ others) some bounded h =
      let all : values 0x0F list ≡ values 0x0F (map item_object (item ∷ others)) = h.items (λ (e : (item.id ∷ item.text) ∷ values 0x0F (map item_object others) ≡ []). cc) in
      rw (needed_is content list whole 0x05 title (h.firsts.0 (λ e. absurd (omega arith))), needed_is content list whole 0x0F (item.id ∷ item.text) (first_from_values 0x0F list (item.id ∷ item.text) (values 0x0F (map item_object others)) all), le-leb (length title) 10 bounded.title_length, items_are (values 0x0F (map item_object (item ∷ others))) all, choice_again (item ∷ others) title bounded)
      refl

  menu_again_in : (title : List ℕ) (items : List Item) → AreBounded title items → HasObjects list (row_of (SetUpMenu title items)).objects → menu_in content ≡ Ok (SetUpMenu title items)
  unfolding menu_in titled_in
  menu_again_in title [] bounded h =
      let all : values 0x0F list ≡ [] ∷ [] = h.items (λ (e : [] ∷ [] ≡ []). cc) in
      rw (needed_is content list whole 0x05 title (h.firsts.0 (λ e. absurd (omega arith))), needed_is content list whole 0x0F [] (first_from_values 0x0F list [] [] all), le-leb (length title) 10 bounded.title_length, items_are ([] ∷ []) all) refl
  menu_again_in title (item ∷ others) bounded h =
      let all : values 0x0F list ≡ values 0x0F (map item_object (item ∷ others)) = h.items (λ (e : (item.id ∷ item.text) ∷ values 0x0F (map item_object others) ≡ []). cc) in
      rw (needed_is content list whole 0x05 title (h.firsts.0 (λ e. absurd (omega arith))), needed_is content list whole 0x0F (item.id ∷ item.text) (first_from_values 0x0F list (item.id ∷ item.text) (values 0x0F (map item_object others)) all), le-leb (length title) 10 bounded.title_length, items_are (values 0x0F (map item_object (item ∷ others))) all, choice_again (item ∷ others) title bounded)
      refl

  started_timer_again : (timer : ℕ) (value : TimeValue) → IsProperTimer 0 timer value → HasObjects list (timer_objects 0 timer value) → command_in 0x27 0 content ≡ Ok (TimerManagement 0 timer value)
  unfolding command_in started_timer_in
  started_timer_again timer value proper h =
      rw (needed_is content list whole 0x24 (timer ∷ []) (h.firsts.0 (λ e. absurd (omega arith))), needed_is content list whole 0x25 (two_digits value.hours ∷ two_digits value.minutes ∷ two_digits value.seconds ∷ []) (h.firsts.1.0 (λ e. absurd (omega arith))), timer_again timer proper.from_one proper.to_eight, time_again value proper.writable) refl

  other_timer_again : (action timer : ℕ) (value : TimeValue) → action ≢ 0 → IsProperTimer action timer value → HasObjects list (timer_objects action timer value) → command_in 0x27 action content ≡ Ok (TimerManagement action timer value)
  unfolding command_in other_timer_in
  other_timer_again action timer value other proper h =
      let zero_time : value ≡ no_time = proper.zero_unless_started other in
      rw (ne_eqb action 0 other, needed_is content list whole 0x24 (timer ∷ []) (h.firsts.0 (λ e. absurd (omega arith))), timer_again timer proper.from_one proper.to_eight, le-leb action 2 proper.known_action, zero_time) refl

  command_again : (command : Proactive) → IsProper command → IsBounded command → HasObjects list (row_of command).objects → command_in (row_of command).kind (row_of command).qualifier content ≡ Ok command
  unfolding command_in poll_interval_in event_list_in tone_in
  command_again (Refresh mode) proper bounded h = refl
  command_again MoreTime proper bounded h = refl
  command_again (PollInterval seconds) proper bounded h = rw (needed_is content list whole 0x04 (0x01 ∷ seconds ∷ []) (h.firsts.0 (λ e. absurd (omega arith)))) refl
  command_again (SetUpEventList events) proper bounded h = rw (needed_is content list whole 0x19 events (h.firsts.0 (λ e. absurd (omega arith)))) refl
  command_again (PlayTone tone) proper bounded h = rw (needed_is content list whole 0x0E (tone ∷ []) (h.firsts.0 (λ e. absurd (omega arith)))) refl
  command_again (DisplayText text) proper bounded h = rw (text_again text (h.firsts.0 (λ e. absurd (omega arith)))) refl
  command_again (GetInkey text) proper bounded h = rw (text_again text (h.firsts.0 (λ e. absurd (omega arith)))) refl
  command_again (GetInput text digits least most) proper bounded h = input_again digits text least most h
  command_again (SelectItem title items) proper bounded h = choice_again_in title items proper bounded h
  command_again (SetUpMenu title items) proper bounded h = menu_again_in title items bounded h
  command_again (LocalInformation what) proper bounded h = refl
  command_again (TimerManagement action timer value) proper bounded h =
      elim (cases_eq action 0) [
        | inl is ↦ rw is (started_timer_again timer value (subst (λ (a : ℕ). IsProperTimer a timer value) is proper) (subst (λ (a : ℕ). HasObjects list (timer_objects a timer value)) is h))
        | inr other ↦ other_timer_again action timer value other proper h
      ]
  command_again (IdleText text) proper bounded h = rw (text_again text (h.firsts.0 (λ e. absurd (omega arith)))) refl

-- the whole command
pub proactive_again : (bytes content : List ℕ) (list : List Object) (command : Proactive) (number : ℕ) → template_of bytes ≡ Ok (0xD0, content) → objects_of content ≡ Ok list → IsProper command → IsBounded command → HasObjects list (objects_of_command command number) → proactive_read bytes ≡ Ok (details_of command number, command)
unfolding command_of template_in
proactive_again bytes content list command number template whole proper bounded h =
    let row = row_of command in
    let inner : HasObjects list row.objects = record { firsts = h.firsts.1.1; items = h.items } in
    rw (template, needed_is content list whole 0x01 (number ∷ row.kind ∷ row.qualifier ∷ []) (h.firsts.0 (λ e. absurd (omega arith))), needed_is content list whole 0x02 (129 ∷ row.destination ∷ []) (h.firsts.1.0 (λ e. absurd (omega arith))), command_again content list whole command proper bounded inner, eq-eqb row.qualifier row.qualifier refl, eq-eqb row.destination row.destination refl) refl
