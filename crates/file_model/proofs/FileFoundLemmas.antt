-- Which file has a number, once another one comes, goes or changes.
use Rattle.std.proofs.Common.{◌≡◌, ℕ, ◌<◌, Bool, false, cond, List, [], ◌∷◌, ◌++◌, filter, Option, Some, None, refl, sym, ◌∙◌, ap, ⊎_elim, arith, ◌≢◌, ◌==◌, ◌&&◌, nat_lt, find, IfSome, option_map}
use Rattle.std.specs.Option.{option_or}
use Rattle.std.proofs.lemmas.Bool.{eq-eqb, ne_eqb, cases_order}
use Rattle.std.proofs.lemmas.Bool.Decides.{nat_tests}
use Rattle.std.proofs.lemmas.List.Folds.{find-append}
use Rattle.list_laws.proofs.FindLemmas.{find-map, find-filter, find_alike}
use Rattle.card_state.specs.Changing.{listed, placed, with_file_at}
use Rattle.card_state.specs.Persistent.{File, Persistent}
use Rattle.card_state.specs.StateLaws.{file_with_number}
use Rattle.file_model.specs.declared.descriptors.Wanted.TheVariants.{Number}
use Rattle.file_model.specs.Files.{descriptor_in, descriptors_in, is_wanted, file_found}

find_never : {X : Type 0} (p : X → Bool) (xs : List X) → ((x : X) → p x ≡ false) → find p xs ≡ None
find_never p [] never = refl
find_never p (x ∷ xs) never = ap (λ b. cond b (Some x) (find p xs)) (never x) ∙ find_never p xs never

-- ---- the two halves of a list by numbers

below_low : (a n number : ℕ) → n < number → (nat_lt a number && (a == n)) ≡ (a == n)
below_low a n number low = grind (arith, nat_tests)

below_high : (a n number : ℕ) → number < n → (nat_lt a number && (a == n)) ≡ false
below_high a n number high = grind (arith, nat_tests)

above_low : (a n number : ℕ) → n < number → (nat_lt number a && (a == n)) ≡ false
above_low a n number low = grind (arith, nat_tests)

above_high : (a n number : ℕ) → number < n → (nat_lt number a && (a == n)) ≡ (a == n)
above_high a n number high = grind (arith, nat_tests)

below_same : (a number : ℕ) → (nat_lt a number && (a == number)) ≡ false
below_same a number = grind (arith, nat_tests)

above_same : (a number : ℕ) → (nat_lt number a && (a == number)) ≡ false
above_same a number = grind (arith, nat_tests)

module _ (number : ℕ) (file : Option File) (named : IfSome file (λ f. f.number ≡ number)) (files : List File) where
  abbrev has : ℕ → File → Bool
  has n f = f.number == n

  abbrev below : List File
  below = filter (λ f. nat_lt f.number number) files

  abbrev above : List File
  above = filter (λ f. nat_lt number f.number) files

  parts : (n : ℕ) → find (has n) (placed (λ f. f.number) number file files) ≡ option_or (option_or (find (has n) below) (find (has n) (listed file))) (find (has n) above)
  parts n = find-append (has n) (below ++ listed file) above ∙ ap (λ o. option_or o (find (has n) above)) (find-append (has n) below (listed file))

  in_below : (n : ℕ) → find (has n) below ≡ find (λ f. nat_lt f.number number && has n f) files
  in_below n = find-filter (has n) (λ f. nat_lt f.number number) files

  in_above : (n : ℕ) → find (has n) above ≡ find (λ f. nat_lt number f.number && has n f) files
  in_above n = find-filter (has n) (λ f. nat_lt number f.number) files

  not_listed : (n : ℕ) → n ≢ number → find (has n) (listed file) ≡ None
  not_listed n other = of file named where
    of : (o : Option File) → IfSome o (λ f. f.number ≡ number) → find (has n) (listed o) ≡ None
    of None is = refl
    of (Some f) is = ap (λ b. cond b (Some f) None) (ne_eqb f.number n (λ same. other (sym same ∙ is)))

  -- the others are the same
  pub others_stay : (n : ℕ) → n ≢ number → find (has n) (placed (λ f. f.number) number file files) ≡ find (has n) files
  others_stay n other = ⊎_elim {C = find (has n) (placed (λ f. f.number) number file files) ≡ find (has n) files}
      (λ same. absurd (other same))
      (λ order. ⊎_elim {C = find (has n) (placed (λ f. f.number) number file files) ≡ find (has n) files}
      (λ low. joined (find (has n) files) None None
      (in_below n ∙ find_alike (λ f. nat_lt f.number number && has n f) (has n) files (λ f. below_low f.number n number low))
      (in_above n ∙ find_never (λ f. nat_lt number f.number && has n f) files (λ f. above_low f.number n number low)) ∙ only_first (find (has n) files))
      (λ high. joined None None (find (has n) files)
      (in_below n ∙ find_never (λ f. nat_lt f.number number && has n f) files (λ f. below_high f.number n number high))
      (in_above n ∙ find_alike (λ f. nat_lt number f.number && has n f) (has n) files (λ f. above_high f.number n number high)))
      order)
      (cases_order n number)
    where
      joined : (a b c : Option File) → find (has n) below ≡ a → find (has n) above ≡ c → find (has n) (placed (λ f. f.number) number file files) ≡ option_or (option_or a None) c
      joined a b c first last = parts n ∙ (λ i. option_or (option_or (first i) (not_listed n other i)) (last i))

      only_first : (o : Option File) → option_or (option_or o None) None ≡ o
      only_first None = refl
      only_first (Some f) = refl

  -- and this is the one that was put there
  pub this_is : find (has number) (placed (λ f. f.number) number file files) ≡ file
  this_is =
      parts number
      ∙ (λ i. option_or (option_or (first i) (find (has number) (listed file))) (last i))
      ∙ of file named
    where
      first : find (has number) below ≡ None
      first = in_below number ∙ find_never (λ f. nat_lt f.number number && has number f) files (λ f. below_same f.number number)

      last : find (has number) above ≡ None
      last = in_above number ∙ find_never (λ f. nat_lt number f.number && has number f) files (λ f. above_same f.number number)

      of : (o : Option File) → IfSome o (λ f. f.number ≡ number) → option_or (option_or None (find (has number) (listed o))) None ≡ o
      of None is = refl
      of (Some f) is = ap (λ b. option_or (option_or None (cond b (Some f) None)) None) (eq-eqb f.number number is)

-- ---- what is known of it

pub told_numbered : (state : Persistent) (n : ℕ) → file_found (descriptors_in state) (Number n) ≡ option_map descriptor_in (file_with_number state n)
unfolding file_found descriptors_in descriptor_in
told_numbered state n = find-map (is_wanted (Number n)) descriptor_in state.files

pub told_others : (state : Persistent) (number n : ℕ) (file : Option File) → IfSome file (λ f. f.number ≡ number) → n ≢ number
    → file_found (descriptors_in (with_file_at state number file)) (Number n) ≡ file_found (descriptors_in state) (Number n)
told_others state number n file named other =
    told_numbered (with_file_at state number file) n ∙ ap (option_map descriptor_in) (others_stay number file named state.files n other) ∙ sym (told_numbered state n)

pub told_this : (state : Persistent) (number : ℕ) (file : Option File) → IfSome file (λ f. f.number ≡ number)
    → file_found (descriptors_in (with_file_at state number file)) (Number number) ≡ option_map descriptor_in file
told_this state number file named = told_numbered (with_file_at state number file) number ∙ ap (option_map descriptor_in) (this_is number file named state.files)
