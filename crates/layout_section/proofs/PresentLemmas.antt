-- The places of a list that are taken, each with its number, and one more that is taken.
use Rattle.std.proofs.Common.{zero, suc, get_or, set, ◌≡◌, ◌≢◌, ℕ, ◌+◌, ◌≤◌, ◌<◌, Bool, true, false, cond, List, [], ◌∷◌, ◌++◌, length, map, refl, sym, ◌∙◌, ap, arith, ◌&&◌, ◌||◌, ◌==◌, nat_lt, filter, count_by, lt-ltb, le-ltb, eq-eqb, ne_eqb}
use Rattle.std.specs.List.{enumerate_from, list_any}
use Rattle.std.proofs.lemmas.List.Sums.{sum_by-cons}

-- what passes a test, with a function
module _ {X Y : Type 0} (test : X → Bool) (f : X → Y) where
  abbrev pub passing : List X → List Y
  passing xs = map f (filter test xs)

  pub list_any-passing : (p : Y → Bool) (xs : List X) → list_any p (passing xs) ≡ list_any (λ x. test x && p (f x)) xs
  list_any-passing p [] = refl
  list_any-passing p (x ∷ xs) = any_step p (test x) x xs ∙ ap (λ b. (test x && p (f x)) || b) (list_any-passing p xs) where
    any_step : (p : Y → Bool) (b : Bool) (x : X) (xs : List X) → list_any p (map f (cond b (x ∷ filter test xs) (filter test xs))) ≡ ((b && p (f x)) || list_any p (passing xs))
    any_step p true x xs = refl
    any_step p false x xs = refl

  pub count_by-passing : (p : Y → Bool) (xs : List X) → count_by p (passing xs) ≡ count_by (λ x. test x && p (f x)) xs
  count_by-passing p [] = refl
  count_by-passing p (x ∷ xs) =
      count_step p (test x) x xs ∙ ap (λ n. cond (test x && p (f x)) 1 0 + n) (count_by-passing p xs) ∙ sym (sum_by-cons (λ y. cond (test y && p (f y)) 1 0) x xs) where
        count_step : (p : Y → Bool) (b : Bool) (x : X) (xs : List X) → count_by p (map f (cond b (x ∷ filter test xs) (filter test xs))) ≡ cond (b && p (f x)) 1 0 + count_by p (passing xs)
        count_step p true x xs = sum_by-cons (λ y. cond (p y) 1 0) (f x) (passing xs)
        count_step p false x xs = omega arith

pub list_any-unnumbered : {X : Type 0} (q : X → Bool) (n : ℕ) (xs : List X) → list_any (λ entry. q entry.1) (enumerate_from n xs) ≡ list_any q xs
list_any-unnumbered q n [] = refl
list_any-unnumbered q n (x ∷ xs) = ap (λ b. q x || b) (list_any-unnumbered q (n + 1) xs)

pub count_by-unnumbered : {X : Type 0} (q : X → Bool) (n : ℕ) (xs : List X) → count_by (λ entry. q entry.1) (enumerate_from n xs) ≡ count_by q xs
count_by-unnumbered q n [] = refl
count_by-unnumbered q n (x ∷ xs) =
    sum_by-cons (λ entry. cond (q entry.1) 1 0) (n, x) (enumerate_from (n + 1) xs) ∙ ap (λ k. cond (q x) 1 0 + k) (count_by-unnumbered q (n + 1) xs)
    ∙ sym (sum_by-cons (λ y. cond (q y) 1 0) x xs)

-- places that are taken, in an order that is that of their numbers
module _ {X Y : Type 0} (test : X → Bool) (f : ℕ → X → Y) (order : Y → ℕ) where
  abbrev pub present : ℕ → List X → List Y
  present n xs = map (λ entry. f entry.0 entry.1) (filter (λ entry. test entry.1) (enumerate_from n xs))

  abbrev pub IsOrdered : ℕ → List X → Type 0
  IsOrdered n [] = Unit {0}
  IsOrdered n (x ∷ xs) = (test x ≡ true → order (f n x) ≡ n) × IsOrdered (n + 1) xs

  step : (b : Bool) (n : ℕ) (x : X) (es : List (ℕ × X)) → map (λ entry. f entry.0 entry.1) (cond b ((n, x) ∷ es) es) ≡ cond b (f n x ∷ map (λ entry. f entry.0 entry.1) es) (map (λ entry. f entry.0 entry.1) es)
  step true n x es = refl
  step false n x es = refl

  present_step : (n : ℕ) (x : X) (xs : List X) → present n (x ∷ xs) ≡ cond (test x) (f n x ∷ present (n + 1) xs) (present (n + 1) xs)
  present_step n x xs = step (test x) n x (filter (λ entry. test entry.1) (enumerate_from (n + 1) xs))

  abbrev below : ℕ → List Y → List Y
  below m ys = filter (λ y. nat_lt (order y) m) ys

  abbrev above : ℕ → List Y → List Y
  above m ys = filter (λ y. nat_lt m (order y)) ys

  one_below : (m : ℕ) (y : Y) (ys : List Y) → order y < m → below m (y ∷ ys) ≡ y ∷ below m ys
  one_below m y ys low = ap (λ b. cond b (y ∷ below m ys) (below m ys)) (lt-ltb (order y) m low)

  none_below : (m : ℕ) (y : Y) (ys : List Y) → m ≤ order y → below m (y ∷ ys) ≡ below m ys
  none_below m y ys high = ap (λ b. cond b (y ∷ below m ys) (below m ys)) (le-ltb (order y) m high)

  one_above : (m : ℕ) (y : Y) (ys : List Y) → m < order y → above m (y ∷ ys) ≡ y ∷ above m ys
  one_above m y ys high = ap (λ b. cond b (y ∷ above m ys) (above m ys)) (lt-ltb m (order y) high)

  none_above : (m : ℕ) (y : Y) (ys : List Y) → order y ≤ m → above m (y ∷ ys) ≡ above m ys
  none_above m y ys low = ap (λ b. cond b (y ∷ above m ys) (above m ys)) (le-ltb m (order y) low)

  none_left_step : (m n : ℕ) (x : X) (ys : List Y) (b : Bool) → test x ≡ b → m ≤ n → (test x ≡ true → order (f n x) ≡ n) → below m ys ≡ [] → below m (cond b (f n x ∷ ys) ys) ≡ []
  none_left_step m n x ys true is low ordered rest = none_below m (f n x) ys (omega (arith, ordered is)) ∙ rest
  none_left_step m n x ys false is low ordered rest = rest

  none_left : (m n : ℕ) (xs : List X) → m ≤ n → IsOrdered n xs → below m (present n xs) ≡ []
  none_left m n [] low ordered = refl
  none_left m n (x ∷ xs) low ordered =
      ap (below m) (present_step n x xs) ∙ none_left_step m n x (present (n + 1) xs) (test x) refl low ordered.0 (none_left m (n + 1) xs (omega arith) ordered.1)

  all_right_step : (m n : ℕ) (x : X) (ys : List Y) (b : Bool) → test x ≡ b → m < n → (test x ≡ true → order (f n x) ≡ n) → above m ys ≡ ys
      → above m (cond b (f n x ∷ ys) ys) ≡ cond b (f n x ∷ ys) ys
  all_right_step m n x ys true is low ordered rest = one_above m (f n x) ys (omega (arith, ordered is)) ∙ ap (λ l. f n x ∷ l) rest
  all_right_step m n x ys false is low ordered rest = rest

  all_right : (m n : ℕ) (xs : List X) → m < n → IsOrdered n xs → above m (present n xs) ≡ present n xs
  all_right m n [] low ordered = refl
  all_right m n (x ∷ xs) low ordered =
      ap (above m) (present_step n x xs) ∙ all_right_step m n x (present (n + 1) xs) (test x) refl low ordered.0 (all_right m (n + 1) xs (omega arith) ordered.1)
      ∙ sym (present_step n x xs)

  split_step : (m n : ℕ) (x : X) (y : Y) (ys : List Y) (b : Bool) → test x ≡ b → n < m → (test x ≡ true → order (f n x) ≡ n)
      → cond b (f n x ∷ (below m ys ++ y ∷ above m ys)) (below m ys ++ y ∷ above m ys) ≡ below m (cond b (f n x ∷ ys) ys) ++ y ∷ above m (cond b (f n x ∷ ys) ys)
  split_step m n x y ys true is low ordered =
      sym (ap (λ l. l ++ y ∷ above m (f n x ∷ ys)) (one_below m (f n x) ys (omega (arith, ordered is))) ∙ ap (λ l. f n x ∷ (below m ys ++ y ∷ l)) (none_above m (f n x) ys (omega (arith, ordered is))))
  split_step m n x y ys false is low ordered = refl

  -- one more place is taken
  pub one_more : (m n k : ℕ) (xs : List X) (new d : X) → m ≡ n + k → k < length xs → test (get_or xs k d) ≡ false → test new ≡ true → IsOrdered n xs
      → present n (set xs k new) ≡ below m (present n xs) ++ f m new ∷ above m (present n xs)
  one_more m n k [] new d is inside free taken ordered = absurd (omega arith)
  one_more m n zero (x ∷ xs) new d is inside free taken ordered =
      let rest : List Y = present (n + 1) xs in
      let same : present n (x ∷ xs) ≡ rest = present_step n x xs ∙ ap (λ b. cond b (f n x ∷ rest) rest) free in
      present_step n new xs ∙ ap (λ b. cond b (f n new ∷ rest) rest) taken ∙ ap (λ (j : ℕ). f j new ∷ rest) (omega arith)
      ∙ sym (ap (λ l. below m l ++ f m new ∷ above m l) same ∙ ap (λ l. l ++ f m new ∷ above m rest) (none_left m (n + 1) xs (omega arith) ordered.1)
      ∙ ap (λ l. f m new ∷ l) (all_right m (n + 1) xs (omega arith) ordered.1))
  one_more m n (suc k) (x ∷ xs) new d is inside free taken ordered =
      let rest : List Y = present (n + 1) xs in
      present_step n x (set xs k new)
      ∙ ap (λ l. cond (test x) (f n x ∷ l) l) (one_more m (n + 1) k xs new d (omega arith) (omega arith) free taken ordered.1)
      ∙ split_step m n x (f m new) rest (test x) refl (omega arith) ordered.0 ∙ ap (λ l. below m l ++ f m new ∷ above m l) (sym (present_step n x xs))

  none_at_step : (m n : ℕ) (x : X) (ys : List Y) (b : Bool) → test x ≡ b → n ≢ m → (test x ≡ true → order (f n x) ≡ n)
      → list_any (λ y. order y == m) (cond b (f n x ∷ ys) ys) ≡ list_any (λ y. order y == m) ys
  none_at_step m n x ys true is other ordered = ap (λ b. b || list_any (λ y. order y == m) ys) (ne_eqb (order (f n x)) m (λ e. other (sym (ordered is) ∙ e)))
  none_at_step m n x ys false is other ordered = refl

  none_at : (m n : ℕ) (xs : List X) → m < n → IsOrdered n xs → list_any (λ y. order y == m) (present n xs) ≡ false
  none_at m n [] low ordered = refl
  none_at m n (x ∷ xs) low ordered =
      ap (list_any (λ y. order y == m)) (present_step n x xs) ∙ none_at_step m n x (present (n + 1) xs) (test x) refl (λ e. omega arith) ordered.0
      ∙ none_at m (n + 1) xs (omega arith) ordered.1

  here_step : (m n : ℕ) (x : X) (ys : List Y) (b : Bool) → test x ≡ b → m ≡ n → (test x ≡ true → order (f n x) ≡ n) → list_any (λ y. order y == m) ys ≡ false
      → list_any (λ y. order y == m) (cond b (f n x ∷ ys) ys) ≡ b
  here_step m n x ys true is same ordered rest = ap (λ b. b || list_any (λ y. order y == m) ys) (eq-eqb (order (f n x)) m (ordered is ∙ sym same))
  here_step m n x ys false is same ordered rest = rest

  -- whether a place is taken
  pub is_taken : (m n k : ℕ) (xs : List X) (d : X) → m ≡ n + k → k < length xs → IsOrdered n xs → list_any (λ y. order y == m) (present n xs) ≡ test (get_or xs k d)
  is_taken m n k [] d is inside ordered = absurd (omega arith)
  is_taken m n zero (x ∷ xs) d is inside ordered =
      ap (list_any (λ y. order y == m)) (present_step n x xs)
      ∙ here_step m n x (present (n + 1) xs) (test x) refl (omega arith) ordered.0 (none_at m (n + 1) xs (omega arith) ordered.1)
  is_taken m n (suc k) (x ∷ xs) d is inside ordered =
      ap (list_any (λ y. order y == m)) (present_step n x xs) ∙ none_at_step m n x (present (n + 1) xs) (test x) refl (λ e. omega arith) ordered.0
      ∙ is_taken m (n + 1) k xs d (omega arith) (omega arith) ordered.1

unnumbered_step : {X Y : Type 0} (test : X → Bool) (f : X → Y) (b : Bool) (n : ℕ) (x : X) (xs : List X) (es : List (ℕ × X)) → map f xs ≡ map (λ entry. f entry.1) es
    → map f (cond b (x ∷ xs) xs) ≡ map (λ entry. f entry.1) (cond b ((n, x) ∷ es) es)
unnumbered_step test f true n x xs es rest = ap (λ l. f x ∷ l) rest
unnumbered_step test f false n x xs es rest = rest

-- where the number doesn't count
pub unnumbered : {X Y : Type 0} (test : X → Bool) (f : X → Y) (n : ℕ) (xs : List X) → map f (filter test xs) ≡ map (λ entry. f entry.1) (filter (λ entry. test entry.1) (enumerate_from n xs))
unnumbered test f n [] = refl
unnumbered test f n (x ∷ xs) = unnumbered_step test f (test x) n x (filter test xs) (filter (λ entry. test entry.1) (enumerate_from (n + 1) xs)) (unnumbered test f (n + 1) xs)
