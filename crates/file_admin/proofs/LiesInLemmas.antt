-- Whether a file of a table lies in a DF.
use Rattle.std.proofs.Common.{get_or, ◌≡◌, ℕ, ◌<◌, ◌≤◌, Bool, true, false, List, [], ◌∷◌, length, map, filter, refl, ap, ◌∙◌, arith, ◌&&◌, ◌||◌}
use Rattle.std.specs.List.{list_any, enumerate_from}
use Rattle.std.proofs.lemmas.List.Folds.{list_any_at, list_any_none}
use Rattle.std.proofs.lemmas.List.{get_or_default}
use Rattle.std.proofs.lemmas.List.FromFn.{get_or-enumerate_from, length-enumerate_from}
use Rattle.card_state.specs.declared.entries.Node.{Node}
use Rattle.card_state.specs.declared.entries.Loaded.{Loaded}
use Rattle.card_state.specs.Blank.{unused_node}
use Rattle.file_model.specs.Files.{descriptor_of, descriptors_of, lies_in}

abbrev pub lies : ℕ → ℕ → Node → Bool
lies df number node = node.used && lies_in df (descriptor_of number node)

-- no file of an entry before this one
abbrev pub NoneLies : List Node → ℕ → ℕ → Type 0
NoneLies nodes df n = (k : ℕ) → k < n → lies df k (get_or nodes k unused_node) ≡ false

kept_first : {X Y : Type 0} (p : Y → Bool) (f : X → Y) (g : X → Bool) (x : X) (xs : List X) → list_any p (map f (filter g xs)) ≡ list_any (λ y. g y && p (f y)) xs
    → list_any p (map f (filter g (x ∷ xs))) ≡ (g x && p (f x) || list_any (λ y. g y && p (f y)) xs)
kept_first p f g x xs rest = of (g x) refl where
  of : (b : Bool) → g x ≡ b → list_any p (map f (filter g (x ∷ xs))) ≡ (g x && p (f x) || list_any (λ y. g y && p (f y)) xs)
  of true is = rw is (ap (λ (b : Bool). p (f x) || b) rest)
  of false is = rw is rest

any_kept : {X Y : Type 0} (p : Y → Bool) (f : X → Y) (g : X → Bool) (xs : List X) → list_any p (map f (filter g xs)) ≡ list_any (λ x. g x && p (f x)) xs
any_kept p f g [] = refl
any_kept p f g (x ∷ xs) = kept_first p f g x xs (any_kept p f g xs)

module _ (loaded : Loaded) (df : ℕ) where
  abbrev test : ℕ × Node → Bool
  test entry = lies df entry.0 entry.1

  among : list_any (lies_in df) (descriptors_of loaded) ≡ list_any test (enumerate_from 0 loaded.nodes)
  unfolding descriptors_of
  among = any_kept (lies_in df) (λ (entry : ℕ × Node). descriptor_of entry.0 entry.1) (λ (entry : ℕ × Node). entry.1.used) (enumerate_from 0 loaded.nodes)

  at_entry : (k : ℕ) → k < length loaded.nodes → get_or (enumerate_from 0 loaded.nodes) k (0, unused_node) ≡ (k, get_or loaded.nodes k unused_node)
  at_entry k low = get_or-enumerate_from 0 loaded.nodes k (0, unused_node) low ∙ ap (λ (n : ℕ). (n, get_or loaded.nodes k unused_node)) (omega arith)

  pub one_lies : (k : ℕ) → k < length loaded.nodes → lies df k (get_or loaded.nodes k unused_node) ≡ true → list_any (lies_in df) (descriptors_of loaded) ≡ true
  one_lies k low is =
      among ∙ list_any_at test (enumerate_from 0 loaded.nodes) k (0, unused_node) (omega (arith, low, length-enumerate_from 0 loaded.nodes)) (ap test (at_entry k low) ∙ is)

  -- the entry at a place, whatever stands for the places behind the last
  told_at : (k : ℕ) (d : ℕ × Node) → k < length loaded.nodes → get_or (enumerate_from 0 loaded.nodes) k d ≡ (k, get_or loaded.nodes k unused_node)
  told_at k d low = get_or_default (enumerate_from 0 loaded.nodes) k d (0, unused_node) (omega (arith, low, length-enumerate_from 0 loaded.nodes)) ∙ at_entry k low

  pub none_lies : (n : ℕ) → NoneLies loaded.nodes df n → length loaded.nodes ≤ n → list_any (lies_in df) (descriptors_of loaded) ≡ false
  none_lies n none whole =
      among ∙ list_any_none test (enumerate_from 0 loaded.nodes) (λ k d low.
      let inside : k < length loaded.nodes = omega (arith, low, length-enumerate_from 0 loaded.nodes) in
      ap test (told_at k d inside) ∙ none k (omega (arith, inside, whole)))
