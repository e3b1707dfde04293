-- What is read as a command is proper and within its bounds.
use Rattle.std.proofs.Common.{◌≡◌, ◌≢◌, ℕ, ◌≤◌, Bool, true, false, cond, ◌||◌, eqb, List, [], ◌∷◌, length, Option, Some, None, Ok, refl, arith, inl, inr, is_none}
use Rattle.std.proofs.lemmas.Bool.{cases_Bool, cases_eq, eq-eqb, ne_eqb, leb-true}
use Rattle.std.proofs.lemmas.List.Elements.{All-from_recursion}
use Rattle.comprehension_tlv.specs.Model.{Object}
use Rattle.comprehension_tlv.specs.Reading.{first_value}
use Rattle.toolkit_commands.specs.declared.items.Item.{Item}
use Rattle.toolkit_commands.specs.declared.commands.TimeValue.{TimeValue}
use Rattle.toolkit_commands.specs.declared.commands.Proactive.{Proactive}
use Rattle.toolkit_commands.specs.declared.commands.Proactive.TheVariants.{DisplayText, GetInkey, SelectItem, SetUpMenu, TimerManagement, IdleText}
use Rattle.toolkit_commands.specs.Table.{IsWritable, IsProper}
use Rattle.toolkit_commands.specs.Matching.{AreBounded, IsBounded}
use Rattle.toolkit_commands.specs.Values.{◌>>=◌, one_byte, two_bytes, seconds_of, text_of, short_text_of, timer_of, time_of, no_time, values, choice_of, menu_read}
use Rattle.toolkit_commands.specs.Reading.{value, TypeRow, lacks_one, row_of_type, timer_said}
use Rattle.toolkit_commands.proofs.ValuesLemmas.{Says, Anything, IsShort, IsOneOfEight, AreItems, AreFew, then_says, one_byte_says, two_bytes_say, seconds_say, text_says, short_text_says, timer_says, time_says, choice_says, menu_says}

abbrev pub IsFit : Proactive → Type 0
IsFit command = IsProper command × IsBounded command

-- an item was found, so there is one
some_values : (tag : ℕ) (list : List Object) → is_none (first_value tag list) ≡ false → 1 ≤ length (values tag list)
some_values tag [] found = absurd cc
some_values tag (object ∷ others) found =
    elim (cases_Bool (eqb object.tag tag)) [
      | inl here ↦ rw here (omega arith)
      | inr later ↦ rw later (some_values tag others (rw later at found))
    ]

or_false : (a b : Bool) → (a || (b || false)) ≡ false → b ≡ false
or_false false false e = refl
or_false false true e = e
or_false true b e = absurd cc

bounded_by : (title : List ℕ) (items : List Item) → IsShort title → AreFew items → AreBounded title items
bounded_by title items short few =
    record { title_length = short; text_lengths = All-from_recursion (λ (item : Item). length item.text ≤ 10) items few.short; count = few.few }

module _ (list : List Object) where
  choice_fits : 1 ≤ length (values 15 list) → Says IsFit (short_text_of (value 5 list) >>= λ title. choice_of (values 15 list) >>= λ items. Ok (SelectItem title items))
  choice_fits some =
      then_says IsShort IsFit (short_text_of (value 5 list)) _ (short_text_says (value 5 list)) (λ title short.
      then_says (AreItems (values 15 list)) IsFit (choice_of (values 15 list)) _ (choice_says (values 15 list)) (λ items are.
      (omega (arith, some, are.all), bounded_by title items short (record { short = are.short; few = are.few }))))

  menu_fits : Says IsFit (short_text_of (value 5 list) >>= λ title. menu_read (values 15 list) >>= λ items. Ok (SetUpMenu title items))
  menu_fits =
      then_says IsShort IsFit (short_text_of (value 5 list)) _ (short_text_says (value 5 list)) (λ title short.
      then_says AreFew IsFit (menu_read (values 15 list)) _ (menu_says (values 15 list)) (λ items few.
      (tt, bounded_by title items short few)))

  text_fits : (command : List ℕ → Proactive) → ((text : List ℕ) → IsFit (command text)) → Says IsFit (text_of (value 13 list) >>= λ text. Ok (command text))
  text_fits command fits = then_says Anything IsFit (text_of (value 13 list)) _ (text_says (value 13 list)) (λ text _. fits text)

  timer_is : (action timer : ℕ) (time : TimeValue) → action ≤ 2 → IsOneOfEight timer → IsWritable time → (action ≢ 0 → time ≡ no_time) → IsFit (TimerManagement action timer time)
  timer_is action timer time known eight writable zero =
      (record { writable = writable; zero_unless_started = zero; known_action = known; from_one = eight.0; to_eight = eight.1 }, tt)

  timer_fits : (action : ℕ) → action ≤ 2 → Says IsFit (timer_said action list)
  timer_fits action known =
      elim (cases_eq action 0) [
        | inl is ↦
            rw (eq-eqb action 0 is)
            (then_says IsOneOfEight IsFit (timer_of (value 36 list)) _ (timer_says (value 36 list)) (λ timer eight.
            then_says IsWritable IsFit (time_of (value 37 list)) _ (time_says (value 37 list)) (λ time writable.
            timer_is action timer time known eight writable (λ other. absurd (other is)))))
        | inr other ↦
            rw (ne_eqb action 0 other)
            (then_says IsOneOfEight IsFit (timer_of (value 36 list)) _ (timer_says (value 36 list)) (λ timer eight.
            timer_is action timer no_time known eight (record { hours = omega arith; minutes = omega arith; seconds = omega arith }) (λ _. refl)))
      ]

  -- what a row says, where nothing that it needs is missing and the qualifier is one of its own
  abbrev pub RowFits : ℕ → Option TypeRow → Type 0
  RowFits qualifier None = Unit {0}
  RowFits qualifier (Some row) = lacks_one list (row.needs qualifier) ≡ false → row.has_qualifier qualifier ≡ true → Says IsFit (row.says qualifier list)

  fits_step : (qualifier : ℕ) (b : Bool) (row : TypeRow) (rest : Option TypeRow) → RowFits qualifier (Some row) → RowFits qualifier rest → RowFits qualifier (cond b (Some row) rest)
  fits_step qualifier true row rest here later = here
  fits_step qualifier false row rest here later = later

  pub rows_fit : (kind qualifier : ℕ) → RowFits qualifier (row_of_type kind)
  rows_fit kind qualifier =
      fits_step qualifier (eqb kind 1) _ _ (λ _ _. (tt, tt))
      (fits_step qualifier (eqb kind 2) _ _ (λ _ _. (tt, tt))
      (fits_step qualifier (eqb kind 3) _ _ (λ _ _. then_says Anything IsFit (seconds_of (value 4 list)) _ (seconds_say (value 4 list)) (λ seconds _. (tt, tt)))
      (fits_step qualifier (eqb kind 5) _ _ (λ _ _. (tt, tt))
      (fits_step qualifier (eqb kind 32) _ _ (λ _ _. then_says Anything IsFit (one_byte (value 14 list)) _ (one_byte_says (value 14 list)) (λ tone _. (tt, tt)))
      (fits_step qualifier (eqb kind 33) _ _ (λ _ _. text_fits (λ text. DisplayText text) (λ text. (tt, tt)))
      (fits_step qualifier (eqb kind 34) _ _ (λ _ _. text_fits (λ text. GetInkey text) (λ text. (tt, tt)))
      (fits_step qualifier (eqb kind 35) _ _ (λ _ _. then_says Anything IsFit (text_of (value 13 list)) _ (text_says (value 13 list)) (λ text _. then_says Anything IsFit (two_bytes (value 17 list)) _ (two_bytes_say (value 17 list)) (λ bounds _. (tt, tt))))
      (fits_step qualifier (eqb kind 36) _ _ (λ lacks _. choice_fits (some_values 15 list (or_false (is_none (first_value 5 list)) (is_none (first_value 15 list)) lacks)))
      (fits_step qualifier (eqb kind 37) _ _ (λ _ _. menu_fits)
      (fits_step qualifier (eqb kind 38) _ _ (λ _ _. (tt, tt))
      (fits_step qualifier (eqb kind 39) _ _ (λ _ known. timer_fits qualifier (leb-true qualifier 2 known))
      (fits_step qualifier (eqb kind 40) _ _ (λ _ _. text_fits (λ text. IdleText text) (λ text. (tt, tt))) tt))))))))))))
