-- The reader's steps come to the table.
use Rattle.std.proofs.Common.{◌≡◌, ℕ, Bool, true, false, cond, ◌&&◌, ◌||◌, eqb, leb, List, [], ◌∷◌, Option, Some, None, Result, Ok, Err, refl, sym, ap, subst, ◌∙◌, arith, inl, inr, is_none, unwrap_or, option_map, option_and_then, slice_get}
use Rattle.std.specs.Result.{result_ok}
use Rattle.std.proofs.lemmas.Bool.{cases_Bool, cases_eq, eq-eqb, ne_eqb, lt-leb}
use Rattle.comprehension_tlv.specs.declared.faults.TlvFault.{TlvFault}
use Rattle.comprehension_tlv.specs.Model.{Object}
use Rattle.comprehension_tlv.specs.Reading.{outline, flaw, objects_of, first_value, template_of}
use Rattle.comprehension_tlv.proofs.ReadingLemmas.{unless_fault_is}
use Rattle.toolkit_commands.specs.declared.faults.ProactiveFault.{ProactiveFault}
use Rattle.toolkit_commands.specs.declared.faults.ProactiveFault.TheVariants.{Tlv, Missing, BadData}
use Rattle.toolkit_commands.specs.declared.commands.Details.{Details}
use Rattle.toolkit_commands.specs.declared.commands.Proactive.{Proactive}
use Rattle.toolkit_commands.specs.declared.commands.Proactive.TheVariants.{Refresh, MoreTime, SetUpEventList, DisplayText, GetInkey, GetInput, SelectItem, SetUpMenu, LocalInformation, TimerManagement, IdleText}
use Rattle.toolkit_commands.specs.Table.{row_of, input_qualifier, IsWritable}
use Rattle.toolkit_commands.specs.Values.{◌>>=◌, one_byte, two_bytes, three_bytes, seconds_of, text_of, short_text_of, time_of, timer_of, values, choice_of, menu_read, no_time, is_pair}
use Rattle.toolkit_commands.specs.Steps.{from_tlv, or_missing, template_in, needed, items_in, text_in, poll_interval_in, event_list_in, tone_in, input_in, titled_in, choice_in, menu_in, started_timer_in, other_timer_in, command_in, checked, command_of, proactive_read, details_read}
use Rattle.toolkit_commands.specs.Reading.{value, TypeRow, lacks_one, type_table, three, details_in, needed_by, type_needs, by_details, row_of_type, by_row, command_among, list_of, in_list, in_template, or_tlv, proactive_of, no_details, details_found, text_said}
use Rattle.toolkit_commands.proofs.ValuesLemmas.{Says, Anything, IsShort, IsOneOfEight, AreItems, AreFew, then_says, one_byte_says, two_bytes_say, seconds_say, text_says, short_text_says, timer_says, time_says, choice_says, menu_says}

-- ---- objects that have to be there

one_needed : {A : Type 0} (found : Option (List ℕ)) (f : List ℕ → Result A ProactiveFault) → (or_missing found >>= f) ≡ cond (is_none found || false) (Err Missing) (f (unwrap_or found []))
one_needed None f = refl
one_needed (Some v) f = refl

one_then : {A B : Type 0} (found : Option (List ℕ)) (f : List ℕ → Result A ProactiveFault) (g : A → Result B ProactiveFault) → ((or_missing found >>= f) >>= g) ≡ cond (is_none found || false) (Err Missing) (f (unwrap_or found []) >>= g)
one_then None f g = refl
one_then (Some v) f g = refl

two_needed : {A : Type 0} (found other : Option (List ℕ)) (f : List ℕ → List ℕ → Result A ProactiveFault) → (or_missing found >>= λ v. or_missing other >>= f v) ≡ cond (is_none found || (is_none other || false)) (Err Missing) (f (unwrap_or found []) (unwrap_or other []))
two_needed None other f = refl
two_needed (Some v) None f = refl
two_needed (Some v) (Some w) f = refl

paired : {A : Type 0} (read : Result (List ℕ) ProactiveFault) (first : List ℕ) (f : List ℕ → Result A ProactiveFault) → ((read >>= λ title. Ok (title, first)) >>= λ (t : List ℕ × List ℕ). f t.0) ≡ (read >>= f)
paired (Ok title) first f = refl
paired (Err fault) first f = refl

titled_needed : {A : Type 0} (found other : Option (List ℕ)) (f : List ℕ → Result A ProactiveFault) → ((or_missing found >>= λ alpha. or_missing other >>= λ first. short_text_of alpha >>= λ title. Ok (title, first)) >>= λ (t : List ℕ × List ℕ). f t.0) ≡ cond (is_none found || (is_none other || false)) (Err Missing) (short_text_of (unwrap_or found []) >>= f)
titled_needed None other f = refl
titled_needed (Some v) None f = refl
titled_needed (Some v) (Some w) f = paired (short_text_of v) w f

-- ---- one row

-- the numbers and the devices are as the command's row has them, exactly where the test holds
abbrev IsAsTested : ℕ → List ℕ → Bool → Proactive → Type 0
IsAsTested qualifier devices test command =
    (eqb (row_of command).qualifier qualifier && is_pair devices 129 (row_of command).destination) ≡ test

abbrev named : Details → Proactive → Result (Details × Proactive) ProactiveFault
named details command = Ok (details, command)

one_said : (details : Details) (devices : List ℕ) (test : Bool) (said : Result Proactive ProactiveFault) → Says (IsAsTested details.qualifier devices test) said → (said >>= checked (details.number, details.kind, details.qualifier) devices) ≡ cond test (said >>= named details) (Err BadData)
one_said details devices test (Ok command) says = ap (λ b. cond b (named details command) (Err BadData)) says
one_said details devices true (Err fault) says = refl
one_said details devices false (Err fault) says = ap (λ f. Err f) says

row_agrees : (details : Details) (devices : List ℕ) (lacks test : Bool) (here said : Result Proactive ProactiveFault) → here ≡ cond lacks (Err Missing) said → Says (IsAsTested details.qualifier devices test) said → (here >>= checked (details.number, details.kind, details.qualifier) devices) ≡ cond lacks (Err Missing) (cond test (said >>= named details) (Err BadData))
row_agrees details devices true test here said is says = ap (λ r. r >>= checked (details.number, details.kind, details.qualifier) devices) is
row_agrees details devices false test here said is says =
    ap (λ r. r >>= checked (details.number, details.kind, details.qualifier) devices) is ∙ one_said details devices test said says

-- the qualifiers of GET INPUT
digits_or_text : (qualifier : ℕ) → eqb (input_qualifier (eqb qualifier 0)) qualifier ≡ leb qualifier 1
digits_or_text qualifier =
    elim (cases_eq qualifier 0) [
      | inl is ↦ rw is refl
      | inr other ↦ elim (cases_eq qualifier 1) [
        | inl is ↦ rw is refl
        | inr more ↦ rw (ne_eqb qualifier 0 other, ne_eqb 1 qualifier (λ e. more (sym e)), lt-leb qualifier 1 (omega (arith, other, more))) refl
      ]
    ]

-- what the table has for a row that was found, or for none
abbrev of_row : Details → List Object → Option TypeRow → Result (Details × Proactive) ProactiveFault
of_row details list found =
    cond (lacks_one list (unwrap_or (option_map (λ row. row.needs details.qualifier) found) [])) (Err Missing) (by_row details list found)

-- a row whose qualifier and destination are its own
abbrev IsFixed : ℕ → ℕ → Proactive → Type 0
IsFixed qualifier destination command = ((row_of command).qualifier ≡ qualifier) × ((row_of command).destination ≡ destination)

fixed_says : (wanted : ℕ) (devices : List ℕ) (said : Result Proactive ProactiveFault) (qualifier destination : ℕ) → Says (IsFixed qualifier destination) said → Says (IsAsTested wanted devices (eqb qualifier wanted && is_pair devices 129 destination)) said
fixed_says wanted devices (Ok command) qualifier destination says = rw (says.0, says.1) refl
fixed_says wanted devices (Err fault) qualifier destination says = says

-- the reader's steps, and the qualifier and the devices as the row has them, come to what the table has
abbrev Agrees : Details → List ℕ → List Object → Result Proactive ProactiveFault → Option TypeRow → Type 0
Agrees details devices list here found =
    (here >>= checked (details.number, details.kind, details.qualifier) devices) ≡ of_row details list found

abbrev get_row : ℕ → Option TypeRow
get_row n = slice_get type_table n

module _ (content : List ℕ) (list : List Object) (whole : objects_of content ≡ Ok list) where
  needed_as : (tag : ℕ) → needed tag content ≡ or_missing (first_value tag list)
  unfolding needed
  needed_as tag = rw whole refl

  items_as : items_in content ≡ values 15 list
  items_as = ap (values 15) (unless_fault_is (outline content).objects (flaw content) list whole).0

  -- the row of TIMER MANAGEMENT, where the timer is started
  abbrev starting : ℕ → ℕ → ℕ → Details
  starting number kind qualifier = record { number = number; kind = kind; qualifier = qualifier }

  started_timer_row : (number kind : ℕ) (devices : List ℕ) → first_value 2 list ≡ Some devices → Agrees (starting number kind 0) devices list (started_timer_in content) (get_row 11)
  unfolding started_timer_in
  started_timer_row number kind devices second =
      rw (second, needed_as 36, needed_as 37)
      (row_agrees (starting number kind 0) devices _ _ _ _ (two_needed (first_value 36 list) (first_value 37 list) (λ identifier span. timer_of identifier >>= λ timer. time_of span >>= λ time. Ok (TimerManagement 0 timer time))) (then_says IsOneOfEight (IsAsTested 0 devices (is_pair devices 129 130)) (timer_of (value 36 list)) _ (timer_says (value 36 list)) (λ timer _. then_says IsWritable (IsAsTested 0 devices (is_pair devices 129 130)) (time_of (value 37 list)) _ (time_says (value 37 list)) (λ time _. refl))))

module _ (content : List ℕ) (list : List Object) (whole : objects_of content ≡ Ok list) (details : Details) (devices : List ℕ) (second : first_value 2 list ≡ Some devices) where
  refresh_row : Agrees details devices list (Ok (Refresh details.qualifier)) (get_row 0)
  refresh_row = rw (second, eq-eqb details.qualifier details.qualifier refl) refl

  more_time_row : Agrees details devices list (Ok MoreTime) (get_row 1)
  more_time_row = rw second refl

  poll_interval_row : Agrees details devices list (poll_interval_in content) (get_row 2)
  unfolding poll_interval_in
  poll_interval_row =
      rw (second, needed_as content list whole 4)
      (row_agrees details devices _ _ _ _ (one_needed (first_value 4 list) _) (fixed_says details.qualifier devices _ 0 130 (then_says Anything (IsFixed 0 130) (seconds_of (value 4 list)) _ (seconds_say (value 4 list)) (λ seconds _. (refl, refl)))))

  event_list_row : Agrees details devices list (event_list_in content) (get_row 3)
  unfolding event_list_in
  event_list_row =
      rw (second, needed_as content list whole 25)
      (row_agrees details devices (is_none (first_value 25 list) || false) (eqb 0 details.qualifier && is_pair devices 129 130) _ (Ok (SetUpEventList (value 25 list))) (one_needed (first_value 25 list) (λ events. Ok (SetUpEventList events))) (fixed_says details.qualifier devices (Ok (SetUpEventList (value 25 list))) 0 130 (refl, refl)))

  tone_row : Agrees details devices list (tone_in content) (get_row 4)
  unfolding tone_in
  tone_row =
      rw (second, needed_as content list whole 14)
      (row_agrees details devices _ _ _ _ (one_needed (first_value 14 list) _) (fixed_says details.qualifier devices _ 0 3 (then_says Anything (IsFixed 0 3) (one_byte (value 14 list)) _ (one_byte_says (value 14 list)) (λ tone _. (refl, refl)))))

  text_row : (command : List ℕ → Proactive) (qualifier destination : ℕ) → ((text : List ℕ) → IsFixed qualifier destination (command text)) → ((text_in content >>= λ text. Ok (command text)) >>= checked (details.number, details.kind, details.qualifier) devices) ≡ cond (is_none (first_value 13 list) || false) (Err Missing) (cond (eqb qualifier details.qualifier && is_pair devices 129 destination) (text_said command list >>= named details) (Err BadData))
  unfolding text_in
  text_row command qualifier destination fixed =
      rw (needed_as content list whole 13)
      (row_agrees details devices _ _ _ _ (one_then (first_value 13 list) text_of (λ text. Ok (command text))) (fixed_says details.qualifier devices _ qualifier destination (then_says Anything (IsFixed qualifier destination) (text_of (value 13 list)) _ (text_says (value 13 list)) (λ text _. fixed text))))

  display_row : Agrees details devices list (text_in content >>= λ text. Ok (DisplayText text)) (get_row 5)
  display_row = rw second (text_row (λ text. DisplayText text) 128 2 (λ text. (refl, refl)))

  inkey_row : Agrees details devices list (text_in content >>= λ text. Ok (GetInkey text)) (get_row 6)
  inkey_row = rw second (text_row (λ text. GetInkey text) 1 130 (λ text. (refl, refl)))

  idle_row : Agrees details devices list (text_in content >>= λ text. Ok (IdleText text)) (get_row 12)
  idle_row = rw second (text_row (λ text. IdleText text) 0 130 (λ text. (refl, refl)))

  input_row : Agrees details devices list (input_in details.qualifier content) (get_row 7)
  unfolding input_in
  input_row =
      rw (second, needed_as content list whole 13, needed_as content list whole 17)
      (row_agrees details devices _ _ _ _ (two_needed (first_value 13 list) (first_value 17 list) (λ string lengths. text_of string >>= λ text. two_bytes lengths >>= λ bounds. Ok (GetInput text (eqb details.qualifier 0) bounds.0 bounds.1))) (then_says Anything (IsAsTested details.qualifier devices (leb details.qualifier 1 && is_pair devices 129 130)) (text_of (value 13 list)) _ (text_says (value 13 list)) (λ text _. then_says Anything (IsAsTested details.qualifier devices (leb details.qualifier 1 && is_pair devices 129 130)) (two_bytes (value 17 list)) _ (two_bytes_say (value 17 list)) (λ bounds _. ap (λ b. b && is_pair devices 129 130) (digits_or_text details.qualifier)))))

  choice_row : Agrees details devices list (choice_in content) (get_row 8)
  unfolding choice_in titled_in
  choice_row =
      rw (second, needed_as content list whole 5, needed_as content list whole 15, items_as content list whole)
      (row_agrees details devices _ _ _ _ (titled_needed (first_value 5 list) (first_value 15 list) (λ title. choice_of (values 15 list) >>= λ items. Ok (SelectItem title items))) (fixed_says details.qualifier devices _ 0 130 (then_says IsShort (IsFixed 0 130) (short_text_of (value 5 list)) _ (short_text_says (value 5 list)) (λ title _. then_says (AreItems (values 15 list)) (IsFixed 0 130) (choice_of (values 15 list)) _ (choice_says (values 15 list)) (λ items _. (refl, refl))))))

  menu_row : Agrees details devices list (menu_in content) (get_row 9)
  unfolding menu_in titled_in
  menu_row =
      rw (second, needed_as content list whole 5, needed_as content list whole 15, items_as content list whole)
      (row_agrees details devices _ _ _ _ (titled_needed (first_value 5 list) (first_value 15 list) (λ title. menu_read (values 15 list) >>= λ items. Ok (SetUpMenu title items))) (fixed_says details.qualifier devices _ 0 130 (then_says IsShort (IsFixed 0 130) (short_text_of (value 5 list)) _ (short_text_says (value 5 list)) (λ title _. then_says AreFew (IsFixed 0 130) (menu_read (values 15 list)) _ (menu_says (values 15 list)) (λ items _. (refl, refl))))))

  information_row : Agrees details devices list (Ok (LocalInformation details.qualifier)) (get_row 10)
  information_row = rw (second, eq-eqb details.qualifier details.qualifier refl) refl

  other_timer_row : eqb details.qualifier 0 ≡ false → Agrees details devices list (other_timer_in details.qualifier content) (get_row 11)
  unfolding other_timer_in
  other_timer_row other =
      elim (cases_Bool (leb details.qualifier 2)) [
        | inl known ↦
            rw (second, other, needed_as content list whole 36, known)
            (row_agrees details devices _ _ _ _ (one_needed (first_value 36 list) (λ identifier. timer_of identifier >>= λ timer. Ok (TimerManagement details.qualifier timer no_time))) (then_says IsOneOfEight (IsAsTested details.qualifier devices (is_pair devices 129 130)) (timer_of (value 36 list)) _ (timer_says (value 36 list)) (λ timer _. rw (eq-eqb details.qualifier details.qualifier refl) refl)))
        | inr unknown ↦
            rw (second, other, needed_as content list whole 36, unknown)
            (row_agrees details devices _ false _ _ (one_needed (first_value 36 list) (λ identifier. timer_of identifier >>= λ timer. Err BadData)) (then_says IsOneOfEight (IsAsTested details.qualifier devices false) (timer_of (value 36 list)) (λ timer. Err BadData) (timer_says (value 36 list)) (λ timer _. refl)))
      ]

  -- by which timers the reader goes on
  abbrev timer_steps : Bool → Result (Details × Proactive) ProactiveFault
  timer_steps started =
      cond started (started_timer_in content) (other_timer_in details.qualifier content) >>= checked (details.number, details.kind, details.qualifier) devices

  timer_row : Agrees details devices list (cond (eqb details.qualifier 0) (started_timer_in content) (other_timer_in details.qualifier content)) (get_row 11)
  timer_row =
      elim (cases_eq details.qualifier 0) [
        | inl is ↦
            ap timer_steps (eq-eqb details.qualifier 0 is) ∙
            subst (λ q. Agrees (starting content list whole details.number details.kind q) devices list (started_timer_in content) (get_row 11)) (sym is) (started_timer_row content list whole details.number details.kind devices second)
        | inr other ↦ ap timer_steps (ne_eqb details.qualifier 0 other) ∙ other_timer_row (ne_eqb details.qualifier 0 other)
      ]

  row_step : (b : Bool) (here later : Result Proactive ProactiveFault) (row : TypeRow) (rest : Option TypeRow) → Agrees details devices list here (Some row) → Agrees details devices list later rest → Agrees details devices list (cond b here later) (cond b (Some row) rest)
  row_step true here later row rest at_here at_later = at_here
  row_step false here later row rest at_here at_later = at_later

  command_agrees : Agrees details devices list (command_in details.kind details.qualifier content) (row_of_type details.kind)
  unfolding command_in
  command_agrees =
      row_step (eqb details.kind 1) _ _ _ _ refresh_row
      (row_step (eqb details.kind 2) _ _ _ _ more_time_row
      (row_step (eqb details.kind 3) _ _ _ _ poll_interval_row
      (row_step (eqb details.kind 5) _ _ _ _ event_list_row
      (row_step (eqb details.kind 32) _ _ _ _ tone_row
      (row_step (eqb details.kind 33) _ _ _ _ display_row
      (row_step (eqb details.kind 34) _ _ _ _ inkey_row
      (row_step (eqb details.kind 35) _ _ _ _ input_row
      (row_step (eqb details.kind 36) _ _ _ _ choice_row
      (row_step (eqb details.kind 37) _ _ _ _ menu_row
      (row_step (eqb details.kind 38) _ _ _ _ information_row
      (row_step (eqb details.kind 39) _ _ _ _ timer_row
      (row_step (eqb details.kind 40) _ _ _ _ idle_row refl))))))))))))

-- ---- the whole command

both_found : (found other : Option (List ℕ)) (first devices : List ℕ) → found ≡ Some first → other ≡ Some devices → (later : Bool) → (is_none found || (is_none other || later)) ≡ later
both_found found other first devices e f later = rw (e, f) refl

steps_of : List ℕ → List ℕ → List ℕ → Result (Details × Proactive) ProactiveFault
steps_of content first devices = three_bytes first >>= λ n. command_in n.1 n.2 content >>= checked n devices

module _ (content : List ℕ) (list : List Object) (whole : objects_of content ≡ Ok list) where
  details_row : (first devices : List ℕ) → first_value 1 list ≡ Some first → first_value 2 list ≡ Some devices → steps_of content first devices ≡ cond (lacks_one list (needed_by (three (Some first)))) (Err Missing) (by_details list (three (Some first)))
  unfolding steps_of
  details_row [] devices e f = rw (e, f) refl
  details_row (n ∷ []) devices e f = rw (e, f) refl
  details_row (n ∷ k ∷ []) devices e f = rw (e, f) refl
  details_row (n ∷ k ∷ q ∷ []) devices e f =
      let details : Details = record { number = n; kind = k; qualifier = q } in
      command_agrees content list whole details devices f ∙
      ap (λ b. cond b (Err Missing) (by_row details list (row_of_type k))) (sym (both_found (first_value 1 list) (first_value 2 list) (n ∷ k ∷ q ∷ []) devices e f (lacks_one list (type_needs (Some details)))))
  details_row (n ∷ k ∷ q ∷ l ∷ others) devices e f = rw (e, f) refl

  among_given : (found other : Option (List ℕ)) → first_value 1 list ≡ found → first_value 2 list ≡ other → (or_missing found >>= λ first. or_missing other >>= steps_of content first) ≡ command_among list
  unfolding command_among
  among_given None other e f = rw e refl
  among_given (Some first) None e f = rw (e, f) refl
  among_given (Some first) (Some devices) e f = details_row first devices e f ∙ sym (rw e refl)

rest_of : List ℕ → Result (Details × Proactive) ProactiveFault
rest_of content = needed 1 content >>= λ first. needed 2 content >>= steps_of content first

rest_is : (content : List ℕ) (read : Result (List Object) TlvFault) → objects_of content ≡ read → rest_of content ≡ or_tlv (in_list read)
unfolding rest_of needed
rest_is content (Err fault) e = rw e refl
rest_is content (Ok list) e =
    ap (λ r. r >>= λ first. needed 2 content >>= steps_of content first) (needed_as content list e 1) ∙
    ap (λ r. or_missing (first_value 1 list) >>= λ first. r >>= steps_of content first) (needed_as content list e 2) ∙
    among_given content list e (first_value 1 list) (first_value 2 list) refl refl

opened_is : (content : List ℕ) (b : Bool) → ((cond b (Ok content) (Err Tlv)) >>= rest_of) ≡ or_tlv (cond b (in_list (objects_of content)) None)
opened_is content true = rest_is content (objects_of content) refl
opened_is content false = refl

from_template : (read : Result (ℕ × List ℕ) TlvFault) → ((from_tlv read >>= λ x. cond (eqb x.0 208) (Ok x.1) (Err Tlv)) >>= rest_of) ≡ or_tlv (in_template read)
from_template (Err fault) = refl
from_template (Ok x) = opened_is x.1 (eqb x.0 208)

pub read_by_table : (bytes : List ℕ) → proactive_read bytes ≡ proactive_of bytes
unfolding command_of template_in proactive_of list_of rest_of steps_of
read_by_table bytes = from_template (template_of bytes)

pub faulty_by_table : (bytes : List ℕ) (fault : ProactiveFault) → template_in bytes ≡ Err fault → Err fault ≡ proactive_of bytes
faulty_by_table bytes fault e = sym (ap (λ r. r >>= command_of) e) ∙ read_by_table bytes

pub opened_by_table : (bytes content : List ℕ) (read : Result (Details × Proactive) ProactiveFault) → template_in bytes ≡ Ok content → read ≡ command_of content → read ≡ proactive_of bytes
opened_by_table bytes content read e is = is ∙ sym (ap (λ r. r >>= command_of) e) ∙ read_by_table bytes

-- ---- the details

abbrev numbered : ℕ × ℕ × ℕ → Result Details ProactiveFault
numbered n = Ok (record { number = n.0; kind = n.1; qualifier = n.2 })

three_is : (first : List ℕ) → result_ok (three_bytes first >>= numbered) ≡ three (Some first)
three_is [] = refl
three_is (n ∷ []) = refl
three_is (n ∷ k ∷ []) = refl
three_is (n ∷ k ∷ q ∷ []) = refl
three_is (n ∷ k ∷ q ∷ l ∷ others) = refl

details_given : (found : Option (List ℕ)) → result_ok (or_missing found >>= λ first. three_bytes first >>= numbered) ≡ three found
details_given None = refl
details_given (Some first) = three_is first

details_from : List ℕ → Result Details ProactiveFault
details_from content = needed 1 content >>= λ first. three_bytes first >>= numbered

details_from_is : (content : List ℕ) (read : Result (List Object) TlvFault) → objects_of content ≡ read → result_ok (details_from content) ≡ option_and_then details_in (in_list read)
unfolding details_from needed
details_from_is content (Err fault) e = rw e refl
details_from_is content (Ok list) e =
    ap (λ r. result_ok (r >>= λ first. three_bytes first >>= numbered)) (needed_as content list e 1) ∙ details_given (first_value 1 list)

details_opened : (content : List ℕ) (b : Bool) → result_ok ((cond b (Ok content) (Err Tlv)) >>= details_from) ≡ option_and_then details_in (cond b (in_list (objects_of content)) None)
details_opened content true = details_from_is content (objects_of content) refl
details_opened content false = refl

details_in_template : (read : Result (ℕ × List ℕ) TlvFault) → result_ok ((from_tlv read >>= λ x. cond (eqb x.0 208) (Ok x.1) (Err Tlv)) >>= details_from) ≡ option_and_then details_in (in_template read)
details_in_template (Err fault) = refl
details_in_template (Ok x) = details_opened x.1 (eqb x.0 208)

details_by_table : (bytes : List ℕ) → result_ok (details_read bytes) ≡ option_and_then details_in (list_of bytes)
unfolding template_in list_of details_from
details_by_table bytes = details_in_template (template_of bytes)

pub details_read_ok : (bytes : List ℕ) (details : Details) → Ok details ≡ details_read bytes → details ≡ details_found bytes
unfolding details_found
details_read_ok bytes details e =
    ap (λ r. unwrap_or (result_ok r) no_details) e ∙ ap (λ o. unwrap_or o no_details) (details_by_table bytes)

pub details_read_err : (bytes : List ℕ) (fault : ProactiveFault) → Err fault ≡ details_read bytes → no_details ≡ details_found bytes
unfolding details_found
details_read_err bytes fault e =
    ap (λ r. unwrap_or (result_ok r) no_details) e ∙ ap (λ o. unwrap_or o no_details) (details_by_table bytes)

-- the details of a command that is read

found_row : (details : Details) (list : List Object) (row : Option TypeRow) (x : Details × Proactive) → by_row details list row ≡ Ok x → details ≡ x.0
found_row details list None x e = absurd cc
found_row details list (Some row) x e = under _ (row.says details.qualifier list) e
  where
    said : (r : Result Proactive ProactiveFault) → (r >>= named details) ≡ Ok x → details ≡ x.0
    said (Ok command) f = cc
    said (Err fault) f = absurd cc

    under : (b : Bool) (r : Result Proactive ProactiveFault) → cond b (r >>= named details) (Err BadData) ≡ Ok x → details ≡ x.0
    under true r f = said r f
    under false r f = absurd cc

found_by_details : (list : List Object) (details : Option Details) (x : Details × Proactive) → by_details list details ≡ Ok x → details ≡ Some x.0
found_by_details list None x e = absurd cc
found_by_details list (Some details) x e = ap (λ d. Some d) (found_row details list (row_of_type details.kind) x e)

found_unless : (list : List Object) (b : Bool) (x : Details × Proactive) → cond b (Err Missing) (by_details list (details_in list)) ≡ Ok x → details_in list ≡ Some x.0
found_unless list true x e = absurd cc
found_unless list false x e = found_by_details list (details_in list) x e

found_in : (list : Option (List Object)) (x : Details × Proactive) → or_tlv list ≡ Ok x → unwrap_or (option_and_then details_in list) no_details ≡ x.0
unfolding command_among
found_in None x e = absurd cc
found_in (Some list) x e = ap (λ o. unwrap_or o no_details) (found_unless list (lacks_one list (needed_by (details_in list))) x e)

pub details_of_read : (bytes : List ℕ) (details : Details) (command : Proactive) → proactive_of bytes ≡ Ok (details, command) → details_found bytes ≡ details
unfolding proactive_of details_found
details_of_read bytes details command e = found_in (list_of bytes) (details, command) e
