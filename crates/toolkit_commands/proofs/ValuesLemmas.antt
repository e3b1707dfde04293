-- What the values of objects say is in its range, and the only fault of a value is BadData.
use Rattle.std.proofs.Common.{◌≡◌, ℕ, ◌+◌, ◌*◌, ◌/◌, ◌%◌, ◌≤◌, Bool, true, false, cond, ◌&&◌, eqb, leb, List, [], ◌∷◌, length, Result, Ok, Err, refl, arith}
use Rattle.std.specs.List.{AllByRecursion}
use Rattle.std.proofs.lemmas.Bool.{leb-true, and_parts}
use Rattle.toolkit_commands.specs.declared.faults.ProactiveFault.{ProactiveFault}
use Rattle.toolkit_commands.specs.declared.faults.ProactiveFault.TheVariants.{BadData}
use Rattle.toolkit_commands.specs.declared.items.Item.{Item}
use Rattle.toolkit_commands.specs.Table.{IsWritable}
use Rattle.toolkit_commands.specs.Values.{◌>>=◌, one_byte, two_bytes, three_bytes, seconds_of, text_of, short_text_of, item_read, swapped_decimal, time_of, timer_of, items_of, at_most_16, choice_of, menu_read}

abbrev pub Says : {A : Type 0} → (A → Type 0) → Result A ProactiveFault → Type 0
Says P (Ok x) = P x
Says P (Err fault) = fault ≡ BadData

abbrev pub Anything : {A : Type 0} → A → Type 0
Anything x = Unit {0}

pub then_says : {A B : Type 0} (P : A → Type 0) (Q : B → Type 0) (r : Result A ProactiveFault) (f : A → Result B ProactiveFault) → Says P r → ((x : A) → P x → Says Q (f x)) → Says Q (r >>= f)
then_says P Q (Ok x) f first next = next x first
then_says P Q (Err fault) f first next = first

pub test_says : {A : Type 0} (P : A → Type 0) (b : Bool) (x : A) → (b ≡ true → P x) → Says P (cond b (Ok x) (Err BadData))
test_says P true x when = when refl
test_says P false x when = refl

pub one_byte_says : (v : List ℕ) → Says Anything (one_byte v)
one_byte_says [] = refl
one_byte_says (m ∷ []) = tt
one_byte_says (m ∷ n ∷ others) = refl

pub two_bytes_say : (v : List ℕ) → Says Anything (two_bytes v)
two_bytes_say [] = refl
two_bytes_say (m ∷ []) = refl
two_bytes_say (m ∷ n ∷ []) = tt
two_bytes_say (m ∷ n ∷ k ∷ others) = refl

three_bytes_say : (v : List ℕ) → Says Anything (three_bytes v)
three_bytes_say [] = refl
three_bytes_say (m ∷ []) = refl
three_bytes_say (m ∷ n ∷ []) = refl
three_bytes_say (m ∷ n ∷ k ∷ []) = tt
three_bytes_say (m ∷ n ∷ k ∷ l ∷ others) = refl

pub seconds_say : (v : List ℕ) → Says Anything (seconds_of v)
seconds_say [] = refl
seconds_say (m ∷ []) = refl
seconds_say (m ∷ n ∷ []) = test_says Anything (eqb m 1) n (λ _. tt)
seconds_say (m ∷ n ∷ k ∷ others) = refl

pub text_says : (v : List ℕ) → Says Anything (text_of v)
text_says [] = refl
text_says (coding ∷ text) = test_says Anything (eqb coding 4) text (λ _. tt)

abbrev pub IsShort : List ℕ → Type 0
IsShort text = length text ≤ 10

pub short_text_says : (v : List ℕ) → Says IsShort (short_text_of v)
short_text_says v = test_says IsShort (leb (length v) 10) v (λ e. leb-true (length v) 10 e)

abbrev pub IsOneOfEight : ℕ → Type 0
IsOneOfEight timer = (1 ≤ timer) × (timer ≤ 8)

pub timer_says : (v : List ℕ) → Says IsOneOfEight (timer_of v)
timer_says [] = refl
timer_says (n ∷ []) =
    test_says IsOneOfEight (leb 1 n && leb n 8) n (λ e. let both = and_parts (leb 1 n) (leb n 8) e in (leb-true 1 n both.0, leb-true n 8 both.1))
timer_says (n ∷ m ∷ others) = refl

abbrev IsBelow100 : ℕ → Type 0
IsBelow100 number = number ≤ 99

number_says : (byte : ℕ) → Says IsBelow100 (swapped_decimal byte)
number_says byte =
    test_says IsBelow100 (leb (byte / 16) 9 && leb (byte % 16) 9) (10 * (byte % 16) + byte / 16) (λ e.
    let both = and_parts (leb (byte / 16) 9) (leb (byte % 16) 9) e in
    omega (arith, leb-true (byte / 16) 9 both.0, leb-true (byte % 16) 9 both.1))

pub time_says : (v : List ℕ) → Says IsWritable (time_of v)
time_says v =
    then_says Anything IsWritable (three_bytes v) _ (three_bytes_say v) (λ digits _.
    then_says IsBelow100 IsWritable (swapped_decimal digits.0) _ (number_says digits.0) (λ hours h.
    then_says IsBelow100 IsWritable (swapped_decimal digits.1) _ (number_says digits.1) (λ minutes m.
    then_says IsBelow100 IsWritable (swapped_decimal digits.2) _ (number_says digits.2) (λ seconds s. record { hours = h; minutes = m; seconds = s }))))

abbrev pub HasShort : Item → Type 0
HasShort item = length item.text ≤ 10

item_says : (v : List ℕ) → Says HasShort (item_read v)
item_says [] = refl
item_says (id ∷ text) = then_says IsShort HasShort (short_text_of text) _ (short_text_says text) (λ short le. le)

abbrev AreShort : List (List ℕ) → List Item → Type 0
AreShort found items = AllByRecursion HasShort items × (length items ≡ length found)

items_say : (found : List (List ℕ)) → Says (AreShort found) (items_of found)
items_say [] = (tt, refl)
items_say (v ∷ others) =
    then_says HasShort (AreShort (v ∷ others)) (item_read v) _ (item_says v) (λ item le.
    then_says (AreShort others) (AreShort (v ∷ others)) (items_of others) _ (items_say others) (λ items all. ((le, all.0), omega (arith, all.1))))

-- the items of these values
pub record AreItems (found : List (List ℕ)) (items : List Item) : Type 0 where
  pub short : AllByRecursion HasShort items
  pub few : length items ≤ 16
  pub all : length items ≡ length found

pub record AreFew (items : List Item) : Type 0 where
  pub short : AllByRecursion HasShort items
  pub few : length items ≤ 16

pub choice_says : (found : List (List ℕ)) → Says (AreItems found) (choice_of found)
choice_says found =
    then_says (AreShort found) (AreItems found) (items_of found) at_most_16 (items_say found) (λ items all.
    test_says (AreItems found) (leb (length items) 16) items (λ e. record { short = all.0; few = leb-true (length items) 16 e; all = all.1 }))

few_say : (found : List (List ℕ)) (read : Result (List Item) ProactiveFault) → Says (AreItems found) read → Says AreFew read
few_say found (Ok items) h = record { short = h.short; few = h.few }
few_say found (Err fault) h = h

pub menu_says : (found : List (List ℕ)) → Says AreFew (menu_read found)
menu_says [] = few_say [] (choice_of []) (choice_says [])
menu_says ([] ∷ []) = record { short = tt; few = omega arith }
menu_says ([] ∷ v ∷ others) = few_say ([] ∷ v ∷ others) (choice_of ([] ∷ v ∷ others)) (choice_says ([] ∷ v ∷ others))
menu_says ((id ∷ text) ∷ others) = few_say ((id ∷ text) ∷ others) (choice_of ((id ∷ text) ∷ others)) (choice_says ((id ∷ text) ∷ others))
