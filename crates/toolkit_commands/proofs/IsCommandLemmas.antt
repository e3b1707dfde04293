-- What is read as a command has the objects of that command.
use Rattle.std.proofs.Common.{◌≡◌, ◌≢◌, ℕ, ◌+◌, ◌*◌, ◌/◌, ◌%◌, Bool, true, false, cond, ◌&&◌, eqb, leb, List, [], ◌∷◌, length, map, Option, Some, None, Result, Ok, Err, refl, sym, ap, subst, ◌∙◌, arith, inl, inr}
use Rattle.std.proofs.lemmas.Bool.{eqb-true, leb-true, and_parts, cases_Bool, false≢true}
use Rattle.list_laws.proofs.CondLemmas.{chosen}
use Rattle.comprehension_tlv.specs.declared.faults.TlvFault.{TlvFault}
use Rattle.comprehension_tlv.specs.Model.{Object}
use Rattle.comprehension_tlv.specs.Reading.{◌>>=◌ as ◌>>='◌, outline, flaw, unless_fault, objects_of, first_value, template_of}
use Rattle.comprehension_tlv.proofs.IsBytesLemmas.{IsBytes, IsBytes-append_right, ok_is}
use Rattle.comprehension_tlv.proofs.ReadingLemmas.{unless_fault_is, template_found, objects_found}
use Rattle.toolkit_commands.specs.declared.faults.ProactiveFault.{ProactiveFault}
use Rattle.toolkit_commands.specs.declared.faults.ProactiveFault.TheVariants.{Tlv, UnknownType, BadData}
use Rattle.toolkit_commands.specs.declared.items.Item.{Item}
use Rattle.toolkit_commands.specs.declared.commands.TimeValue.{TimeValue}
use Rattle.toolkit_commands.specs.declared.commands.Details.{Details}
use Rattle.toolkit_commands.specs.declared.commands.Proactive.{Proactive}
use Rattle.toolkit_commands.specs.declared.commands.Proactive.TheVariants.{Refresh, MoreTime, PollInterval, SetUpEventList, PlayTone, DisplayText, GetInkey, GetInput, SelectItem, SetUpMenu, LocalInformation, TimerManagement, IdleText}
use Rattle.toolkit_commands.specs.Table.{required, text_string, item_object, menu_objects, two_digits, timer_value, row_of, details_of}
use Rattle.toolkit_commands.specs.Values.{◌>>=◌, one_byte, two_bytes, three_bytes, seconds_of, text_of, short_text_of, item_read, swapped_decimal, time_of, timer_of, values, items_of, at_most_16, choice_of, menu_read, no_time, is_pair}
use Rattle.toolkit_commands.specs.Steps.{from_tlv, or_missing, template_in, needed, items_in, text_in, poll_interval_in, event_list_in, tone_in, input_in, titled_in, choice_in, menu_in, started_timer_in, other_timer_in, command_in, checked, command_of, proactive_read}
use Rattle.toolkit_commands.specs.Matching.{HasObjects, IsCommand}
use Rattle.toolkit_commands.specs.Reading.{proactive_of}
use Rattle.toolkit_commands.proofs.SpelledLemmas.{items_first, menu_first}
use Rattle.toolkit_commands.proofs.ProactiveOfLemmas.{read_by_table}

-- ---- steps

bind_ok : {A B : Type 0} (r : Result A ProactiveFault) (f : A → Result B ProactiveFault) (y : B) → (r >>= f) ≡ Ok y → (x : A) × (r ≡ Ok x) × (f x ≡ Ok y)
bind_ok (Ok x) f y e = (x, refl, e)
bind_ok (Err fault) f y e = absurd cc

-- the value of a test that has to hold
passed : {A : Type 0} (b : Bool) (x y : A) → cond b (Ok x) (Err BadData) ≡ Ok y → (b ≡ true) × (x ≡ y)
passed true x y e = (refl, ok_is x y e)
passed false x y e = absurd cc

-- ---- values

one_byte_is : (value : List ℕ) (n : ℕ) → one_byte value ≡ Ok n → value ≡ n ∷ []
one_byte_is [] n e = absurd cc
one_byte_is (m ∷ []) n e = ap (λ (k : ℕ). k ∷ []) (ok_is m n e)
one_byte_is (m ∷ k ∷ others) n e = absurd cc

two_bytes_are : (value : List ℕ) (x : ℕ × ℕ) → two_bytes value ≡ Ok x → value ≡ x.0 ∷ x.1 ∷ []
two_bytes_are [] x e = absurd cc
two_bytes_are (m ∷ []) x e = absurd cc
two_bytes_are (m ∷ n ∷ []) x e = ap (λ (p : ℕ × ℕ). p.0 ∷ p.1 ∷ []) (ok_is (m, n) x e)
two_bytes_are (m ∷ n ∷ k ∷ others) x e = absurd cc

three_bytes_are : (value : List ℕ) (x : ℕ × ℕ × ℕ) → three_bytes value ≡ Ok x → value ≡ x.0 ∷ x.1 ∷ x.2 ∷ []
three_bytes_are [] x e = absurd cc
three_bytes_are (m ∷ []) x e = absurd cc
three_bytes_are (m ∷ n ∷ []) x e = absurd cc
three_bytes_are (m ∷ n ∷ k ∷ []) x e = ap (λ (p : ℕ × ℕ × ℕ). p.0 ∷ p.1 ∷ p.2 ∷ []) (ok_is (m, n, k) x e)
three_bytes_are (m ∷ n ∷ k ∷ l ∷ others) x e = absurd cc

seconds_are : (value : List ℕ) (seconds : ℕ) → seconds_of value ≡ Ok seconds → value ≡ 0x01 ∷ seconds ∷ []
seconds_are [] seconds e = absurd cc
seconds_are (unit ∷ []) seconds e = absurd cc
seconds_are (unit ∷ n ∷ []) seconds e =
    let p = passed (eqb unit 1) n seconds e in
    rw (eqb-true unit 1 p.0, p.1) refl
seconds_are (unit ∷ n ∷ k ∷ others) seconds e = absurd cc

text_is : (value text : List ℕ) → text_of value ≡ Ok text → value ≡ 0x04 ∷ text
text_is [] text e = absurd cc
text_is (coding ∷ found) text e =
    let p = passed (eqb coding 4) found text e in
    rw (eqb-true coding 4 p.0, p.1) refl

short_is : (value text : List ℕ) → short_text_of value ≡ Ok text → value ≡ text
short_is value text e = (passed (leb (length value) 10) value text e).1

item_is : (value : List ℕ) (item : Item) → item_read value ≡ Ok item → value ≡ item.id ∷ item.text
item_is [] item e = absurd cc
item_is (id ∷ text) item e =
    let make : List ℕ → Result Item ProactiveFault = λ short. Ok (record { id = id; text = short }) in
    let b = bind_ok (short_text_of text) make item e in
    let made : Item = record { id = id; text = b.0 } in
    ap (λ (t : List ℕ). id ∷ t) (short_is text b.0 b.1) ∙ ap (λ (i : Item). i.id ∷ i.text) (ok_is made item b.2)

timer_is : (value : List ℕ) (timer : ℕ) → timer_of value ≡ Ok timer → value ≡ timer ∷ []
timer_is [] timer e = absurd cc
timer_is (n ∷ []) timer e = ap (λ (k : ℕ). k ∷ []) (passed (leb 1 n && leb n 8) n timer e).1
timer_is (n ∷ m ∷ others) timer e = absurd cc

number_is : (byte n : ℕ) → swapped_decimal byte ≡ Ok n → byte ≡ two_digits n
number_is byte n e =
    let p = passed (leb (byte / 16) 9 && leb (byte % 16) 9) (10 * (byte % 16) + byte / 16) n e in
    let both = and_parts (leb (byte / 16) 9) (leb (byte % 16) 9) p.0 in
    let ones = leb-true (byte / 16) 9 both.0 in
    let tens = leb-true (byte % 16) 9 both.1 in
    rw (← p.1) (omega arith)

time_is : (value : List ℕ) (time : TimeValue) → time_of value ≡ Ok time → value ≡ two_digits time.hours ∷ two_digits time.minutes ∷ two_digits time.seconds ∷ []
time_is value time e =
    let last : ℕ → ℕ → ℕ → Result TimeValue ProactiveFault = λ hours minutes seconds. Ok (record { hours = hours; minutes = minutes; seconds = seconds }) in
    let third : ℕ × ℕ × ℕ → ℕ → ℕ → Result TimeValue ProactiveFault = λ digits hours minutes. swapped_decimal digits.2 >>= last hours minutes in
    let second : ℕ × ℕ × ℕ → ℕ → Result TimeValue ProactiveFault = λ digits hours. swapped_decimal digits.1 >>= third digits hours in
    let first : ℕ × ℕ × ℕ → Result TimeValue ProactiveFault = λ digits. swapped_decimal digits.0 >>= second digits in
    let d = bind_ok (three_bytes value) first time e in
    let h = bind_ok (swapped_decimal d.0.0) (second d.0) time d.2 in
    let m = bind_ok (swapped_decimal d.0.1) (third d.0 h.0) time h.2 in
    let s = bind_ok (swapped_decimal d.0.2) (last h.0 m.0) time m.2 in
    let made : TimeValue = record { hours = h.0; minutes = m.0; seconds = s.0 } in
    three_bytes_are value d.0 d.1 ∙
    ap (λ (k : ℕ). k ∷ d.0.1 ∷ d.0.2 ∷ []) (number_is d.0.0 h.0 h.1) ∙
    ap (λ (k : ℕ). two_digits h.0 ∷ k ∷ d.0.2 ∷ []) (number_is d.0.1 m.0 m.1) ∙
    ap (λ (k : ℕ). two_digits h.0 ∷ two_digits m.0 ∷ k ∷ []) (number_is d.0.2 s.0 s.1) ∙
    ap (λ (t : TimeValue). two_digits t.hours ∷ two_digits t.minutes ∷ two_digits t.seconds ∷ []) (ok_is made time s.2)

items_are : (found : List (List ℕ)) (items : List Item) → items_of found ≡ Ok items → found ≡ values 0x0F (map item_object items)
items_are [] items e = ap (λ (i : List Item). values 0x0F (map item_object i)) (ok_is [] items e)
items_are (value ∷ others) items e =
    let make : Item → List Item → Result (List Item) ProactiveFault = λ item rest. Ok (item ∷ rest) in
    let after : Item → Result (List Item) ProactiveFault = λ item. items_of others >>= make item in
    let b = bind_ok (item_read value) after items e in
    let d = bind_ok (items_of others) (make b.0) items b.2 in
    ap (λ (v : List ℕ). v ∷ others) (item_is value b.0 b.1) ∙ ap (λ (v : List (List ℕ)). (b.0.id ∷ b.0.text) ∷ v) (items_are others d.0 d.1) ∙
    ap (λ (i : List Item). values 0x0F (map item_object i)) (ok_is (b.0 ∷ d.0) items d.2)

choice_is : (found : List (List ℕ)) (items : List Item) → choice_of found ≡ Ok items → found ≡ values 0x0F (map item_object items)
choice_is found items e =
    let b = bind_ok (items_of found) at_most_16 items e in
    let p = passed (leb (length b.0) 16) b.0 items b.2 in
    items_are found b.0 b.1 ∙ ap (λ (i : List Item). values 0x0F (map item_object i)) p.1

menu_from : (found : List (List ℕ)) (items : List Item) → found ≢ [] → found ≡ values 0x0F (map item_object items) → found ≡ values 0x0F (menu_objects items)
menu_from found [] some e = absurd (some e)
menu_from found (item ∷ others) some e = e

menu_is : (found : List (List ℕ)) (items : List Item) → found ≢ [] → menu_read found ≡ Ok items → found ≡ values 0x0F (menu_objects items)
menu_is [] items some e = absurd (some refl)
menu_is ([] ∷ []) items some e = ap (λ (i : List Item). values 0x0F (menu_objects i)) (ok_is [] items e)
menu_is ([] ∷ value ∷ others) items some e = absurd cc
menu_is ((id ∷ text) ∷ others) items some e = menu_from ((id ∷ text) ∷ others) items some (choice_is ((id ∷ text) ∷ others) items e)

-- ---- objects of a list

or_missing_is : (found : Option (List ℕ)) (value : List ℕ) → or_missing found ≡ Ok value → found ≡ Some value
or_missing_is None value e = absurd cc
or_missing_is (Some v) value e = ap (λ (x : List ℕ). Some x) (ok_is v value e)

whole_of : (tag : ℕ) (found : List Object) (fault : Option TlvFault) (value : List ℕ) → (from_tlv (unless_fault found fault >>=' λ objects. Ok (first_value tag objects)) >>= or_missing) ≡ Ok value → unless_fault found fault ≡ Ok found
whole_of tag found None value e = refl
whole_of tag found (Some fault) value e = absurd cc

no_values : (list : List Object) (value : List ℕ) → first_value 0x0F list ≡ Some value → values 0x0F list ≢ []
no_values [] value e none = cc
no_values (object ∷ list) value e none =
    elim (cases_Bool (eqb object.tag 0x0F)) [
      | inl here ↦ let clash : object.value ∷ values 0x0F list ≡ [] = rw here at none in cc
      | inr later ↦ no_values list value (rw later at e) (rw later at none)
    ]

needed_whole : (tag : ℕ) (content value : List ℕ) → needed tag content ≡ Ok value → objects_of content ≡ Ok (outline content).objects
unfolding needed
needed_whole tag content value e = whole_of tag (outline content).objects (flaw content) value e

-- ---- commands, by their rows

-- the command has this type, and its objects are in the list
abbrev Fits : List Object → ℕ → Proactive → Type 0
Fits list kind command = ((row_of command).kind ≡ kind) × HasObjects list (row_of command).objects

module _ (content : List ℕ) (list : List Object) (whole : objects_of content ≡ Ok list) where
  needed_first : (tag : ℕ) (value : List ℕ) → needed tag content ≡ Ok value → first_value tag list ≡ Some value
  unfolding needed
  needed_first tag value e = or_missing_is (first_value tag list) value (rw whole at e)

  items_in_is : items_in content ≡ values 0x0F list
  items_in_is = ap (values 0x0F) (unless_fault_is (outline content).objects (flaw content) list whole).0

  no_objects : HasObjects list []
  no_objects = record { firsts = tt; items = λ some. absurd (some refl) }

  one_object : (tag : ℕ) (value : List ℕ) → values 0x0F (required tag value ∷ []) ≡ [] → first_value tag list ≡ Some value → HasObjects list (required tag value ∷ [])
  one_object tag value none e = record { firsts = (λ _. e, tt); items = λ some. absurd (some none) }

  two_objects : (tag number : ℕ) (value other : List ℕ) → values 0x0F (required tag value ∷ required number other ∷ []) ≡ [] → first_value tag list ≡ Some value → first_value number list ≡ Some other → HasObjects list (required tag value ∷ required number other ∷ [])
  two_objects tag number value other none e f = record { firsts = (λ _. e, (λ _. f, tt)); items = λ some. absurd (some none) }

  poll_interval_is : (command : Proactive) → poll_interval_in content ≡ Ok command → Fits list 0x03 command
  unfolding poll_interval_in
  poll_interval_is command e =
      let last : ℕ → Result Proactive ProactiveFault = λ seconds. Ok (PollInterval seconds) in
      let first : List ℕ → Result Proactive ProactiveFault = λ duration. seconds_of duration >>= last in
      let b = bind_ok (needed 0x04 content) first command e in
      let d = bind_ok (seconds_of b.0) last command b.2 in
      subst (Fits list 0x03) (ok_is (PollInterval d.0) command d.2)
      (refl, one_object 0x04 (0x01 ∷ d.0 ∷ []) refl (needed_first 0x04 b.0 b.1 ∙ ap (λ (v : List ℕ). Some v) (seconds_are b.0 d.0 d.1)))

  event_list_is : (command : Proactive) → event_list_in content ≡ Ok command → Fits list 0x05 command
  unfolding event_list_in
  event_list_is command e =
      let last : List ℕ → Result Proactive ProactiveFault = λ events. Ok (SetUpEventList events) in
      let b = bind_ok (needed 0x19 content) last command e in
      subst (Fits list 0x05) (ok_is (SetUpEventList b.0) command b.2) (refl, one_object 0x19 b.0 refl (needed_first 0x19 b.0 b.1))

  tone_is : (command : Proactive) → tone_in content ≡ Ok command → Fits list 0x20 command
  unfolding tone_in
  tone_is command e =
      let last : ℕ → Result Proactive ProactiveFault = λ tone. Ok (PlayTone tone) in
      let first : List ℕ → Result Proactive ProactiveFault = λ value. one_byte value >>= last in
      let b = bind_ok (needed 0x0E content) first command e in
      let d = bind_ok (one_byte b.0) last command b.2 in
      subst (Fits list 0x20) (ok_is (PlayTone d.0) command d.2)
      (refl, one_object 0x0E (d.0 ∷ []) refl (needed_first 0x0E b.0 b.1 ∙ ap (λ (v : List ℕ). Some v) (one_byte_is b.0 d.0 d.1)))

  text_in_is : (text : List ℕ) → text_in content ≡ Ok text → HasObjects list (text_string text ∷ [])
  unfolding text_in
  text_in_is text e =
      let b = bind_ok (needed 0x0D content) text_of text e in
      one_object 0x0D (0x04 ∷ text) refl (needed_first 0x0D b.0 b.1 ∙ ap (λ (v : List ℕ). Some v) (text_is b.0 text b.2))

  -- a command that has a text alone
  text_command_is : (kind : ℕ) (make : List ℕ → Proactive) (command : Proactive) → ((text : List ℕ) → HasObjects list (text_string text ∷ []) → Fits list kind (make text)) → (text_in content >>= λ text. Ok (make text)) ≡ Ok command → Fits list kind command
  text_command_is kind make command fits e =
      let b = bind_ok (text_in content) (λ text. Ok (make text)) command e in
      subst (Fits list kind) (ok_is (make b.0) command b.2) (fits b.0 (text_in_is b.0 b.1))

  digits_is : (qualifier : ℕ) (text : List ℕ) (bounds : ℕ × ℕ) → first_value 0x0D list ≡ Some (0x04 ∷ text) → first_value 0x11 list ≡ Some (bounds.0 ∷ bounds.1 ∷ []) → Fits list 0x23 (GetInput text (eqb qualifier 0) bounds.0 bounds.1)
  digits_is qualifier text bounds e f = (refl, two_objects 0x0D 0x11 (0x04 ∷ text) (bounds.0 ∷ bounds.1 ∷ []) refl e f)

  input_is : (qualifier : ℕ) (command : Proactive) → input_in qualifier content ≡ Ok command → Fits list 0x23 command
  unfolding input_in
  input_is qualifier command e =
      let fourth : List ℕ → ℕ × ℕ → Result Proactive ProactiveFault = λ text bounds. Ok (GetInput text (eqb qualifier 0) bounds.0 bounds.1) in
      let third : List ℕ → List ℕ → Result Proactive ProactiveFault = λ lengths text. two_bytes lengths >>= fourth text in
      let second : List ℕ → List ℕ → Result Proactive ProactiveFault = λ string lengths. text_of string >>= third lengths in
      let first : List ℕ → Result Proactive ProactiveFault = λ string. needed 0x11 content >>= second string in
      let s = bind_ok (needed 0x0D content) first command e in
      let l = bind_ok (needed 0x11 content) (second s.0) command s.2 in
      let t = bind_ok (text_of s.0) (third l.0) command l.2 in
      let b = bind_ok (two_bytes l.0) (fourth t.0) command t.2 in
      subst (Fits list 0x23) (ok_is (GetInput t.0 (eqb qualifier 0) b.0.0 b.0.1) command b.2)
      (digits_is qualifier t.0 b.0 (needed_first 0x0D s.0 s.1 ∙ ap (λ (v : List ℕ). Some v) (text_is s.0 t.0 t.1)) (needed_first 0x11 l.0 l.1 ∙ ap (λ (v : List ℕ). Some v) (two_bytes_are l.0 b.0 b.1)))

  titled_is : (titled : List ℕ × List ℕ) → titled_in content ≡ Ok titled → (first_value 0x05 list ≡ Some titled.0) × (first_value 0x0F list ≡ Some titled.1)
  unfolding titled_in
  titled_is titled e =
      let last : List ℕ → List ℕ → Result (List ℕ × List ℕ) ProactiveFault = λ first title. Ok (title, first) in
      let second : List ℕ → List ℕ → Result (List ℕ × List ℕ) ProactiveFault = λ alpha first. short_text_of alpha >>= last first in
      let first : List ℕ → Result (List ℕ × List ℕ) ProactiveFault = λ alpha. needed 0x0F content >>= second alpha in
      let a = bind_ok (needed 0x05 content) first titled e in
      let f = bind_ok (needed 0x0F content) (second a.0) titled a.2 in
      let t = bind_ok (short_text_of a.0) (last f.0) titled f.2 in
      let same : (t.0, f.0) ≡ titled = ok_is (t.0, f.0) titled t.2 in
      (needed_first 0x05 a.0 a.1 ∙ ap (λ (v : List ℕ). Some v) (short_is a.0 t.0 t.1) ∙ ap (λ (x : List ℕ × List ℕ). Some x.0) same, needed_first 0x0F f.0 f.1 ∙ ap (λ (x : List ℕ × List ℕ). Some x.1) same)

  -- a command that has a title and items alone
  titled_command_is : (kind : ℕ) (make : List ℕ → List Item → Proactive) (read : Result (List Item) ProactiveFault) (command : Proactive) → ((titled : List ℕ × List ℕ) (items : List Item) → titled_in content ≡ Ok titled → read ≡ Ok items → Fits list kind (make titled.0 items)) → (titled_in content >>= λ titled. read >>= λ items. Ok (make titled.0 items)) ≡ Ok command → Fits list kind command
  titled_command_is kind make read command fits e =
      let second : List ℕ × List ℕ → List Item → Result Proactive ProactiveFault = λ titled items. Ok (make titled.0 items) in
      let first : List ℕ × List ℕ → Result Proactive ProactiveFault = λ titled. read >>= second titled in
      let t = bind_ok (titled_in content) first command e in
      let i = bind_ok read (second t.0) command t.2 in
      subst (Fits list kind) (ok_is (make t.0.0 i.0) command i.2) (fits t.0 i.0 t.1 i.1)

  choice_in_is : (command : Proactive) → choice_in content ≡ Ok command → Fits list 0x24 command
  unfolding choice_in
  choice_in_is command e =
      titled_command_is 0x24 (λ title items. SelectItem title items) (choice_of (items_in content)) command (λ titled items t i.
      (refl, record { firsts = (λ _. (titled_is titled t).0, items_first list items); items = λ _. sym items_in_is ∙ choice_is (items_in content) items i })) e

  menu_in_is : (command : Proactive) → menu_in content ≡ Ok command → Fits list 0x25 command
  unfolding menu_in
  menu_in_is command e =
      titled_command_is 0x25 (λ title items. SetUpMenu title items) (menu_read (items_in content)) command (λ titled items t i.
      let some : items_in content ≢ [] = λ none. no_values list titled.1 (titled_is titled t).1 (sym items_in_is ∙ none) in
      (refl, record { firsts = (λ _. (titled_is titled t).0, menu_first list items); items = λ _. sym items_in_is ∙ menu_is (items_in content) items some i })) e

  started_timer_is : (command : Proactive) → started_timer_in content ≡ Ok command → Fits list 0x27 command
  unfolding started_timer_in
  started_timer_is command e =
      let fourth : ℕ → TimeValue → Result Proactive ProactiveFault = λ timer value. Ok (TimerManagement 0 timer value) in
      let third : List ℕ → ℕ → Result Proactive ProactiveFault = λ span timer. time_of span >>= fourth timer in
      let second : List ℕ → List ℕ → Result Proactive ProactiveFault = λ identifier span. timer_of identifier >>= third span in
      let first : List ℕ → Result Proactive ProactiveFault = λ identifier. needed 0x25 content >>= second identifier in
      let a = bind_ok (needed 0x24 content) first command e in
      let s = bind_ok (needed 0x25 content) (second a.0) command a.2 in
      let t = bind_ok (timer_of a.0) (third s.0) command s.2 in
      let v = bind_ok (time_of s.0) (fourth t.0) command t.2 in
      subst (Fits list 0x27) (ok_is (TimerManagement 0 t.0 v.0) command v.2)
      (refl, two_objects 0x24 0x25 (t.0 ∷ []) (two_digits v.0.hours ∷ two_digits v.0.minutes ∷ two_digits v.0.seconds ∷ []) refl (needed_first 0x24 a.0 a.1 ∙ ap (λ (x : List ℕ). Some x) (timer_is a.0 t.0 t.1)) (needed_first 0x25 s.0 s.1 ∙ ap (λ (x : List ℕ). Some x) (time_is s.0 v.0 v.1)))

  other_timer_is : (action : ℕ) (command : Proactive) → eqb action 0 ≡ false → other_timer_in action content ≡ Ok command → Fits list 0x27 command
  unfolding other_timer_in
  other_timer_is action command other e =
      let second : ℕ → Result Proactive ProactiveFault = λ timer. cond (leb action 2) (Ok (TimerManagement action timer no_time)) (Err BadData) in
      let first : List ℕ → Result Proactive ProactiveFault = λ identifier. timer_of identifier >>= second in
      let a = bind_ok (needed 0x24 content) first command e in
      let t = bind_ok (timer_of a.0) second command a.2 in
      let p = passed (leb action 2) (TimerManagement action t.0 no_time) command t.2 in
      let has : HasObjects list (required 0x24 (t.0 ∷ []) ∷ []) = one_object 0x24 (t.0 ∷ []) refl (needed_first 0x24 a.0 a.1 ∙ ap (λ (x : List ℕ). Some x) (timer_is a.0 t.0 t.1)) in
      subst (Fits list 0x27) p.1
      (refl, subst (λ (b : Bool). HasObjects list (required 0x24 (t.0 ∷ []) ∷ cond b (timer_value no_time ∷ []) [])) (sym other) has)

  -- one row after the other
  row_or : (known kind : ℕ) (here later : Result Proactive ProactiveFault) (command : Proactive) → (here ≡ Ok command → Fits list known command) → (later ≡ Ok command → Fits list kind command) → cond (eqb kind known) here later ≡ Ok command → Fits list kind command
  row_or known kind here later command at_here at_later e =
      elim (chosen (eqb kind known) here later (Ok command) e) [
        | inl here ↦ subst (λ (k : ℕ). Fits list k command) (sym (eqb-true kind known here.0)) (at_here here.1)
        | inr past ↦ at_later past.1
      ]

  timer_row : (qualifier : ℕ) (command : Proactive) → cond (eqb qualifier 0) (started_timer_in content) (other_timer_in qualifier content) ≡ Ok command → Fits list 0x27 command
  timer_row qualifier command e =
      elim (chosen (eqb qualifier 0) (started_timer_in content) (other_timer_in qualifier content) (Ok command) e) [
        | inl start ↦ started_timer_is command start.1
        | inr other ↦ other_timer_is qualifier command other.0 other.1
      ]

  command_in_is : (kind qualifier : ℕ) (command : Proactive) → command_in kind qualifier content ≡ Ok command → Fits list kind command
  unfolding command_in
  command_in_is kind qualifier command e =
      let idle : Result Proactive ProactiveFault = text_in content >>= λ text. Ok (IdleText text) in
      let inkey : Result Proactive ProactiveFault = text_in content >>= λ text. Ok (GetInkey text) in
      let display : Result Proactive ProactiveFault = text_in content >>= λ text. Ok (DisplayText text) in
      let timer : Result Proactive ProactiveFault = cond (eqb qualifier 0) (started_timer_in content) (other_timer_in qualifier content) in
      let r14 : Result Proactive ProactiveFault = Err (UnknownType kind) in
      let r13 : Result Proactive ProactiveFault = cond (eqb kind 0x28) idle r14 in
      let r12 : Result Proactive ProactiveFault = cond (eqb kind 0x27) timer r13 in
      let r11 : Result Proactive ProactiveFault = cond (eqb kind 0x26) (Ok (LocalInformation qualifier)) r12 in
      let r10 : Result Proactive ProactiveFault = cond (eqb kind 0x25) (menu_in content) r11 in
      let r9 : Result Proactive ProactiveFault = cond (eqb kind 0x24) (choice_in content) r10 in
      let r8 : Result Proactive ProactiveFault = cond (eqb kind 0x23) (input_in qualifier content) r9 in
      let r7 : Result Proactive ProactiveFault = cond (eqb kind 0x22) inkey r8 in
      let r6 : Result Proactive ProactiveFault = cond (eqb kind 0x21) display r7 in
      let r5 : Result Proactive ProactiveFault = cond (eqb kind 0x20) (tone_in content) r6 in
      let r4 : Result Proactive ProactiveFault = cond (eqb kind 0x05) (event_list_in content) r5 in
      let r3 : Result Proactive ProactiveFault = cond (eqb kind 0x03) (poll_interval_in content) r4 in
      let r2 : Result Proactive ProactiveFault = cond (eqb kind 0x02) (Ok MoreTime) r3 in
      let s14 : r14 ≡ Ok command → Fits list kind command = λ f. absurd cc in
      let s13 : r13 ≡ Ok command → Fits list kind command = row_or 0x28 kind idle r14 command (text_command_is 0x28 (λ text. IdleText text) command (λ text has. (refl, has))) s14 in
      let s12 : r12 ≡ Ok command → Fits list kind command = row_or 0x27 kind timer r13 command (timer_row qualifier command) s13 in
      let s11 : r11 ≡ Ok command → Fits list kind command = row_or 0x26 kind (Ok (LocalInformation qualifier)) r12 command (λ f. subst (Fits list 0x26) (ok_is (LocalInformation qualifier) command f) (refl, no_objects)) s12 in
      let s10 : r10 ≡ Ok command → Fits list kind command = row_or 0x25 kind (menu_in content) r11 command (menu_in_is command) s11 in
      let s9 : r9 ≡ Ok command → Fits list kind command = row_or 0x24 kind (choice_in content) r10 command (choice_in_is command) s10 in
      let s8 : r8 ≡ Ok command → Fits list kind command = row_or 0x23 kind (input_in qualifier content) r9 command (input_is qualifier command) s9 in
      let s7 : r7 ≡ Ok command → Fits list kind command = row_or 0x22 kind inkey r8 command (text_command_is 0x22 (λ text. GetInkey text) command (λ text has. (refl, has))) s8 in
      let s6 : r6 ≡ Ok command → Fits list kind command = row_or 0x21 kind display r7 command (text_command_is 0x21 (λ text. DisplayText text) command (λ text has. (refl, has))) s7 in
      let s5 : r5 ≡ Ok command → Fits list kind command = row_or 0x20 kind (tone_in content) r6 command (tone_is command) s6 in
      let s4 : r4 ≡ Ok command → Fits list kind command = row_or 0x05 kind (event_list_in content) r5 command (event_list_is command) s5 in
      let s3 : r3 ≡ Ok command → Fits list kind command = row_or 0x03 kind (poll_interval_in content) r4 command (poll_interval_is command) s4 in
      let s2 : r2 ≡ Ok command → Fits list kind command = row_or 0x02 kind (Ok MoreTime) r3 command (λ f. subst (Fits list 0x02) (ok_is MoreTime command f) (refl, no_objects)) s3 in
      row_or 0x01 kind (Ok (Refresh qualifier)) r2 command (λ f. subst (Fits list 0x01) (ok_is (Refresh qualifier) command f) (refl, no_objects)) s2 e

-- ---- the whole command

is_pair_is : (devices : List ℕ) (a b : ℕ) → is_pair devices a b ≡ true → devices ≡ a ∷ b ∷ []
is_pair_is [] a b e = absurd (false≢true e)
is_pair_is (m ∷ []) a b e = absurd (false≢true e)
is_pair_is (m ∷ n ∷ []) a b e =
    let p = and_parts (eqb m a) (eqb n b) e in
    rw (eqb-true m a p.0, eqb-true n b p.1) refl
is_pair_is (m ∷ n ∷ k ∷ others) a b e = absurd (false≢true e)

from_template : (read : Result (ℕ × List ℕ) TlvFault) (content : List ℕ) → (from_tlv read >>= λ x. cond (eqb x.0 0xD0) (Ok x.1) (Err Tlv)) ≡ Ok content → read ≡ Ok (0xD0, content)
from_template (Err fault) content e = absurd cc
from_template (Ok x) content e =
    elim (chosen (eqb x.0 0xD0) (Ok x.1) (Err Tlv) (Ok content) e) [
      | inl here ↦ rw (← eqb-true x.0 0xD0 here.0, ← ok_is x.1 content here.1) refl
      | inr past ↦ absurd (let f = past.1 in cc)
    ]

template_in_is : (bytes content : List ℕ) → template_in bytes ≡ Ok content → template_of bytes ≡ Ok (0xD0, content)
unfolding template_in
template_in_is bytes content e = from_template (template_of bytes) content e

steps_are_command : (bytes : List ℕ) (details : Details) (command : Proactive) → IsBytes bytes → proactive_read bytes ≡ Ok (details, command) → IsCommand bytes command details.number × (details ≡ details_of command details.number)
unfolding command_of
steps_are_command bytes details command fits e =
    let wanted : Details × Proactive = (details, command) in
    let fifth : ℕ × ℕ × ℕ → List ℕ → Proactive → Result (Details × Proactive) ProactiveFault = λ numbers devices found. checked numbers devices found in
    let fourth : List ℕ → List ℕ → ℕ × ℕ × ℕ → Result (Details × Proactive) ProactiveFault = λ content devices numbers. command_in numbers.1 numbers.2 content >>= fifth numbers devices in
    let third : List ℕ → List ℕ → List ℕ → Result (Details × Proactive) ProactiveFault = λ content object devices. three_bytes object >>= fourth content devices in
    let second : List ℕ → List ℕ → Result (Details × Proactive) ProactiveFault = λ content object. needed 0x02 content >>= third content object in
    let first : List ℕ → Result (Details × Proactive) ProactiveFault = λ content. needed 0x01 content >>= second content in
    let c = bind_ok (template_in bytes) first wanted e in
    let content = c.0 in
    let d = bind_ok (needed 0x01 content) (second content) wanted c.2 in
    let v = bind_ok (needed 0x02 content) (third content d.0) wanted d.2 in
    let n = bind_ok (three_bytes d.0) (fourth content v.0) wanted v.2 in
    let numbers = n.0 in
    let k = bind_ok (command_in numbers.1 numbers.2 content) (fifth numbers v.0) wanted n.2 in
    let found = k.0 in
    let made : Details = record { number = numbers.0; kind = numbers.1; qualifier = numbers.2 } in
    let test : Bool = eqb (row_of found).qualifier numbers.2 && is_pair v.0 129 (row_of found).destination in
    let p = passed test (made, found) wanted k.2 in
    let both = and_parts (eqb (row_of found).qualifier numbers.2) (is_pair v.0 129 (row_of found).destination) p.0 in
    let template = template_found bytes 0xD0 content (template_in_is bytes content c.1) in
    let whole = needed_whole 0x01 content d.0 d.1 in
    let list = (outline content).objects in
    let row = command_in_is content list whole numbers.1 numbers.2 found k.1 in
    let qualifier : (row_of found).qualifier ≡ numbers.2 = eqb-true (row_of found).qualifier numbers.2 both.0 in
    let same : numbers.0 ∷ numbers.1 ∷ numbers.2 ∷ [] ≡ numbers.0 ∷ (row_of found).kind ∷ (row_of found).qualifier ∷ [] = rw (row.0, qualifier) refl in
    let one : first_value 0x01 list ≡ Some (numbers.0 ∷ (row_of found).kind ∷ (row_of found).qualifier ∷ []) = needed_first content list whole 0x01 d.0 d.1 ∙ ap (λ (x : List ℕ). Some x) (three_bytes_are d.0 numbers n.1 ∙ same) in
    let two : first_value 0x02 list ≡ Some (129 ∷ (row_of found).destination ∷ []) = needed_first content list whole 0x02 v.0 v.1 ∙ ap (λ (x : List ℕ). Some x) (is_pair_is v.0 129 (row_of found).destination both.1) in
    let content_fits : IsBytes content = IsBytes-append_right (0xD0 ∷ template.length_bytes) content (subst IsBytes template.whole fits) in
    let is : IsCommand bytes found numbers.0 = record {
      content = content;
      list = list;
      template = template;
      spelled = objects_found content list content_fits whole;
      has = record { firsts = (λ _. one, (λ _. two, row.1.firsts)); items = row.1.items };
    } in
    let named : made ≡ details_of found numbers.0 = rw (row.0, qualifier) refl in
    subst (λ (x : Details × Proactive). IsCommand bytes x.1 x.0.number × (x.0 ≡ details_of x.1 x.0.number)) p.1 (is, named)

pub read_is_command : (bytes : List ℕ) (details : Details) (command : Proactive) → IsBytes bytes → proactive_of bytes ≡ Ok (details, command) → IsCommand bytes command details.number × (details ≡ details_of command details.number)
read_is_command bytes details command fits e = steps_are_command bytes details command fits (read_by_table bytes ∙ e)
