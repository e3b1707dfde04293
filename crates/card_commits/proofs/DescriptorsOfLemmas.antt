-- What a table tells of its files once one entry is another.
use Rattle.std.proofs.Common.{◌≡◌, ◌≢◌, ℕ, zero, suc, ◌+◌, ◌<◌, ◌==◌, Bool, true, false, IsTrue, if◌then◌else◌, List, [], ◌∷◌, map, filter, slice_get, Some, None, set, refl, sym, ◌∙◌, ap, subst, arith}
use Rattle.std.specs.List.{enumerate_from}
use Rattle.std.proofs.lemmas.Bool.{false≢true}
use Rattle.std.proofs.lemmas.Bool.Decides.{nat_tests}
use Rattle.std.proofs.lemmas.Option.{same_Some}
use Rattle.card_state.specs.declared.entries.Node.{Node}
use Rattle.card_state.specs.declared.entries.Loaded.{Loaded}
use Rattle.card_state.specs.Kinds.{df_kind, is_ef_kind}
use Rattle.card_state.specs.Used.{HasNode}
use Rattle.file_model.specs.declared.descriptors.Descriptor.{Descriptor}
use Rattle.file_model.specs.Files.{df_descriptor, ef_descriptor, descriptor_of, descriptors_of}
use Rattle.file_model.proofs.NumbersAreEntriesLemmas.{number_told}
use Rattle.card_commits.specs.Entries.{with_node_at, with_life_told, with_head_moved}

abbrev told : ℕ → List Node → List Descriptor
told start nodes = map (λ entry. descriptor_of entry.0 entry.1) (filter (λ (entry : ℕ × Node). entry.1.used) (enumerate_from start nodes))

abbrev told_first : Bool → Descriptor → List Descriptor → List Descriptor
told_first used file files = if used then file ∷ files else files

told-cons : (start : ℕ) (node : Node) (nodes : List Node) → told start (node ∷ nodes) ≡ told_first node.used (descriptor_of start node) (told (start + 1) nodes)
told-cons start node nodes = by_test node.used where
  rest : List (ℕ × Node)
  rest = filter (λ (entry : ℕ × Node). entry.1.used) (enumerate_from (start + 1) nodes)

  by_test : (b : Bool) → map (λ entry. descriptor_of entry.0 entry.1) (if b then (start, node) ∷ filter (λ (entry : ℕ × Node). entry.1.used) (enumerate_from (start + 1) nodes) else filter (λ (entry : ℕ × Node). entry.1.used) (enumerate_from (start + 1) nodes)) ≡ told_first b (descriptor_of start node) (told (start + 1) nodes)
  by_test true = refl
  by_test false = refl

module _ (change : Descriptor → Descriptor) (number : ℕ) (others : (m : ℕ) (node : Node) → m ≢ number → change (descriptor_of m node) ≡ descriptor_of m node) where
  changed_first : (used : Bool) (file : Descriptor) (files : List Descriptor) → map change (told_first used file files) ≡ told_first used (change file) (map change files)
  changed_first true file files = refl
  changed_first false file files = refl

  behind : (start : ℕ) (nodes : List Node) → number < start → map change (told start nodes) ≡ told start nodes
  behind start [] high = refl
  behind start (node ∷ nodes) high =
      let apart : start ≢ number = λ is. absurd (omega (arith, is)) in
      ap (map change) (told-cons start node nodes) ∙ changed_first node.used (descriptor_of start node) (told (start + 1) nodes)
      ∙ ap (λ (file : Descriptor). told_first node.used file (map change (told (start + 1) nodes))) (others start node apart)
      ∙ ap (λ (files : List Descriptor). told_first node.used (descriptor_of start node) files) (behind (start + 1) nodes (omega arith))
      ∙ sym (told-cons start node nodes)

  pub told_anew : (start at : ℕ) (nodes : List Node) (old new : Node) → start + at ≡ number → slice_get nodes at ≡ Some old → old.used ≡ true → new.used ≡ true → change (descriptor_of number old) ≡ descriptor_of number new
      → told start (set nodes at new) ≡ map change (told start nodes)
  told_anew start at [] old new here there used used' is = absurd (let none : None ≡ Some old = there in cc)
  told_anew start zero (node ∷ nodes) old new here there used used' is =
      let same : node ≡ old = same_Some node old there in
      let number_is : start ≡ number = omega arith in
      told-cons start new nodes ∙ ap (λ (b : Bool). told_first b (descriptor_of start new) (told (start + 1) nodes)) used'
      ∙ ap (λ (file : Descriptor). file ∷ told (start + 1) nodes) (ap (λ (n : ℕ). descriptor_of n new) number_is ∙ sym is ∙ ap (λ (n : ℕ). change (descriptor_of n old)) (sym number_is) ∙ ap (λ (n : Node). change (descriptor_of start n)) (sym same))
      ∙ ap (λ (files : List Descriptor). change (descriptor_of start node) ∷ files) (sym (behind (start + 1) nodes (omega arith)))
      ∙ ap (λ (b : Bool). told_first b (change (descriptor_of start node)) (map change (told (start + 1) nodes))) (sym (ap (λ (n : Node). n.used) same ∙ used))
      ∙ sym (changed_first node.used (descriptor_of start node) (told (start + 1) nodes)) ∙ ap (map change) (sym (told-cons start node nodes))
  told_anew start (suc at) (node ∷ nodes) old new here there used used' is =
      let apart : start ≢ number = λ same. absurd (omega (arith, same, here)) in
      let next : start + 1 + at ≡ number = omega (arith, here) in
      told-cons start node (set nodes at new)
      ∙ ap (λ (files : List Descriptor). told_first node.used (descriptor_of start node) files) (told_anew (start + 1) at nodes old new next there used used' is)
      ∙ ap (λ (file : Descriptor). told_first node.used file (map change (told (start + 1) nodes))) (sym (others start node apart))
      ∙ sym (changed_first node.used (descriptor_of start node) (told (start + 1) nodes)) ∙ ap (map change) (sym (told-cons start node nodes))

  pub retold : (table : Loaded) (old new : Node) → HasNode table number old → new.used ≡ true → change (descriptor_of number old) ≡ descriptor_of number new
      → descriptors_of (with_node_at table number new) ≡ map change (descriptors_of table)
  unfolding descriptors_of
  retold table old new has used is = told_anew 0 number table.nodes old new (omega arith) has.there has.used used is

-- ---- the two changes

same_all : (files : List Descriptor) → map (λ file. file) files ≡ files
same_all [] = refl
same_all (file ∷ files) = ap (λ (rest : List Descriptor). file ∷ rest) (same_all files)

-- the head of a file is not told
pub head_untold : (table : Loaded) (number : ℕ) (node : Node) → HasNode table number node → descriptors_of (with_node_at table number (with_head_moved node)) ≡ descriptors_of table
unfolding descriptor_of
head_untold table number node has =
    retold (λ file. file) number (λ m other apart. refl) table node (with_head_moved node) has has.used refl ∙ same_all (descriptors_of table)

no_df : (node : Node) → IsTrue (is_ef_kind node.kind) → node.kind ≡ df_kind → ⊥
no_df node ef is = false≢true (subst (λ (kind : ℕ). IsTrue (is_ef_kind kind)) is ef)

life_of_ef : (number life : ℕ) (node : Node) → IsTrue (is_ef_kind node.kind) → record (descriptor_of number node) { life = life } ≡ descriptor_of number (record node { life = life })
unfolding descriptor_of
life_of_ef number life node ef = by_test (node.kind == df_kind) refl where
  by_test : (b : Bool) → (node.kind == df_kind) ≡ b
      → (let file : Descriptor = if b then df_descriptor number node else ef_descriptor number node in record file { life = life })
      ≡ (if b then df_descriptor number (record node { life = life }) else ef_descriptor number (record node { life = life }))
  by_test true is = absurd (no_df node ef (grind (arith, nat_tests)))
  by_test false is = refl

pub life_told : (table : Loaded) (number life : ℕ) (node : Node) → HasNode table number node → IsTrue (is_ef_kind node.kind)
    → descriptors_of (with_node_at table number (record node { life = life })) ≡ with_life_told number life (descriptors_of table)
life_told table number life node has ef = retold change number others table node (record node { life = life }) has has.used here where
  change : Descriptor → Descriptor
  change file = if file.number == number then record file { life = life } else file

  others : (m : ℕ) (other : Node) → m ≢ number → change (descriptor_of m other) ≡ descriptor_of m other
  others m other apart =
      let failed : ((descriptor_of m other).number == number) ≡ false = grind (arith, nat_tests, number_told m other, apart) in
      ap (λ (b : Bool). let file : Descriptor = if b then record (descriptor_of m other) { life = life } else descriptor_of m other in file) failed

  here : change (descriptor_of number node) ≡ descriptor_of number (record node { life = life })
  here =
      let passed : ((descriptor_of number node).number == number) ≡ true = grind (arith, nat_tests, number_told number node) in
      ap (λ (b : Bool). let file : Descriptor = if b then record (descriptor_of number node) { life = life } else descriptor_of number node in file) passed ∙ life_of_ef number life node ef
