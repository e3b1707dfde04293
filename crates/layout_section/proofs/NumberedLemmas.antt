-- Elements with their numbers: what holds of a list that is made of them.
use Rattle.std.proofs.Common.{get_or, ◌≡◌, ℕ, ◌+◌, ◌<◌, Bool, List, [], ◌∷◌, ◌++◌, length, map, refl, sym, ◌∙◌, ap, arith, ◌||◌, sum_by}
use Rattle.std.specs.List.{enumerate_from, list_any}
use Rattle.std.proofs.lemmas.List.{get_or-map, length-map}
use Rattle.std.proofs.lemmas.List.Sums.{sum_by-cons}
use Rattle.std.proofs.lemmas.List.FromFn.{length-enumerate_from, get_or-enumerate_from}

module _ {X Y : Type 0} (f : ℕ → X → Y) where
  abbrev pub numbered : ℕ → List X → List Y
  numbered n xs = map (λ entry. f entry.0 entry.1) (enumerate_from n xs)

  pub length-numbered : (xs : List X) → length (numbered 0 xs) ≡ length xs
  length-numbered xs = length-map (enumerate_from 0 xs) (λ entry. f entry.0 entry.1) ∙ length-enumerate_from 0 xs

  pub numbered_there : (xs : List X) (k : ℕ) (x : X) (y : Y) → k < length xs → get_or (numbered 0 xs) k y ≡ f k (get_or xs k x)
  numbered_there xs k x y low =
      let inside : k < length (enumerate_from 0 xs) = omega (arith, length-enumerate_from 0 xs) in
      get_or-map (λ entry. f entry.0 entry.1) (enumerate_from 0 xs) k (0, x) y inside ∙ ap (λ entry. f entry.0 entry.1) (get_or-enumerate_from 0 xs k (0, x) low)
      ∙ ap (λ n. f n (get_or xs k x)) (omega arith)

  pub numbered_push : (n : ℕ) (xs : List X) (x : X) → numbered n (xs ++ x ∷ []) ≡ numbered n xs ++ f (n + length xs) x ∷ []
  numbered_push n [] x = ap (λ k. f k x ∷ []) (omega arith)
  numbered_push n (y ∷ ys) x = ap (λ l. f n y ∷ l) (numbered_push (n + 1) ys x ∙ ap (λ k. numbered (n + 1) ys ++ f k x ∷ []) (omega arith))

  pub sum_by-numbered : (g : Y → ℕ) (h : X → ℕ) → ((k : ℕ) (x : X) → g (f k x) ≡ h x) → (n : ℕ) (xs : List X) → sum_by g (numbered n xs) ≡ sum_by h xs
  sum_by-numbered g h each n [] = refl
  sum_by-numbered g h each n (x ∷ xs) =
      sum_by-cons g (f n x) (numbered (n + 1) xs) ∙ ap (λ k. k + sum_by g (numbered (n + 1) xs)) (each n x) ∙ ap (λ k. h x + k) (sum_by-numbered g h each (n + 1) xs)
      ∙ sym (sum_by-cons h x xs)

  pub list_any-numbered : (p : Y → Bool) (q : X → Bool) → ((k : ℕ) (x : X) → p (f k x) ≡ q x) → (n : ℕ) (xs : List X) → list_any p (numbered n xs) ≡ list_any q xs
  list_any-numbered p q each n [] = refl
  list_any-numbered p q each n (x ∷ xs) = ap (λ b. b || list_any p (numbered (n + 1) xs)) (each n x) ∙ ap (λ b. q x || b) (list_any-numbered p q each (n + 1) xs)
