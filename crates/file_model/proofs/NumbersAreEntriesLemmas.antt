-- The files of a table are found among its entries.
use Rattle.std.proofs.Common.{◌≡◌, ℕ, zero, suc, ◌+◌, ◌<◌, Bool, true, false, cond, List, [], ◌∷◌, filter, Option, Some, None, refl, ◌∙◌, ap, arith, ◌==◌, ◌&&◌, if◌then◌else◌, find, slice_get, option_map, option_and_then, eq-eqb, ne_eqb}
use Rattle.std.specs.List.{enumerate_from}
use Rattle.list_laws.proofs.FindLemmas.{find-map, find-filter, find_alike}
use Rattle.card_state.specs.declared.entries.Node.{Node}
use Rattle.card_state.specs.Kinds.{df_kind}
use Rattle.file_model.specs.declared.descriptors.Descriptor.{Descriptor}
use Rattle.file_model.specs.declared.descriptors.Wanted.TheVariants.{Number}
use Rattle.file_model.specs.Files.{df_descriptor, ef_descriptor, descriptor_of, descriptor_if, descriptors_of, is_wanted, file_found}
use Rattle.file_model.specs.Laws.{FindsAmongEntries, NumbersAreEntries}

abbrev tells : ℕ × Node → Descriptor
tells entry = descriptor_of entry.0 entry.1

pub finds_among_entries : FindsAmongEntries
unfolding descriptors_of file_found
finds_among_entries loaded wanted =
    find-map (is_wanted wanted) tells (filter (λ entry. entry.1.used) (enumerate_from 0 loaded.nodes))
    ∙ ap (option_map tells) (find-filter (λ entry. is_wanted wanted (tells entry)) (λ entry. entry.1.used) (enumerate_from 0 loaded.nodes))

number_chosen : (b : Bool) (number : ℕ) (node : Node) → (cond b (df_descriptor number node) (ef_descriptor number node)).number ≡ number
number_chosen true number node = refl
number_chosen false number node = refl

pub number_told : (number : ℕ) (node : Node) → (descriptor_of number node).number ≡ number
unfolding descriptor_of
number_told number node = number_chosen (node.kind == df_kind) number node

abbrev HasNumber : ℕ → ℕ × Node → Bool
HasNumber number entry = entry.1.used && entry.0 == number

-- the first element doesn't pass
passed_over : {X : Type 0} (a b : Bool) (x : X) (o : Option X) → b ≡ false → cond (a && b) (Some x) o ≡ o
passed_over true b x o is = ap (λ t. cond t (Some x) o) is
passed_over false b x o is = refl

behind : (number from : ℕ) (nodes : List Node) → number < from → find (HasNumber number) (enumerate_from from nodes) ≡ None
behind number from [] less = refl
behind number from (node ∷ nodes) less =
    passed_over node.used (from == number) (from, node) (find (HasNumber number) (enumerate_from (from + 1) nodes)) (ne_eqb from number (λ same. omega (arith, less, same)))
    ∙ behind number (from + 1) nodes (omega (arith, less))

here : (used same : Bool) (number from : ℕ) (node : Node) (o : Option (ℕ × Node)) → same ≡ true → from ≡ number → o ≡ None
    → option_map tells (cond (used && same) (Some (from, node)) o) ≡ (if used then Some (descriptor_of number node) else None)
here true same number from node o is at none = ap (λ t. option_map tells (cond t (Some (from, node)) o)) is ∙ ap (λ (n : ℕ). let told : Option Descriptor = Some (descriptor_of n node) in told) at
here false same number from node o is at none = ap (option_map tells) none

at_number : (number from k : ℕ) (nodes : List Node) → from + k ≡ number → option_map tells (find (HasNumber number) (enumerate_from from nodes)) ≡ option_and_then (descriptor_if number) (slice_get nodes k)
at_number number from k [] at = refl
at_number number from zero (node ∷ nodes) at =
    here node.used (from == number) number from node (find (HasNumber number) (enumerate_from (from + 1) nodes)) (eq-eqb from number (omega (arith, at))) (omega (arith, at)) (behind number (from + 1) nodes (omega (arith, at)))
at_number number from (suc k) (node ∷ nodes) at =
    ap (option_map tells) (passed_over node.used (from == number) (from, node) (find (HasNumber number) (enumerate_from (from + 1) nodes)) (ne_eqb from number (λ same. omega (arith, at, same))))
    ∙ at_number number (from + 1) k nodes (omega (arith, at))

pub numbers_are_entries : NumbersAreEntries
numbers_are_entries loaded number =
    finds_among_entries loaded (Number number)
    ∙ ap (option_map tells) (find_alike (λ entry. entry.1.used && is_wanted (Number number) (tells entry)) (HasNumber number) (enumerate_from 0 loaded.nodes) (λ entry. ap (λ (n : ℕ). entry.1.used && n == number) (number_told entry.0 entry.1)))
    ∙ at_number number 0 number loaded.nodes (omega arith)
