-- How files are found: by their identifiers, and an EF_ARR by that of the rule.
use Rattle.std.proofs.Common.{get_or, ◌≡◌, ℕ, zero, suc, ◌<◌, ◌≤◌, Bool, false, List, [], ◌∷◌, ◌++◌, filter, Option, Some, None, refl, sym, ◌∙◌, ap, ⊎_elim, arith, ◌≢◌, ◌==◌, ◌&&◌, All, find, slice_get, option_map, unwrap_or, flat_map}
use Rattle.std.specs.Option.{option_or}
use Rattle.std.proofs.lemmas.Bool.{eqb-true, ne_eqb, cond-false}
use Rattle.std.proofs.lemmas.List.Folds.{find-append}
use Rattle.std.proofs.lemmas.List.Elements.{All-map, All-contains}
use Rattle.list_laws.proofs.FindLemmas.{find-filter, find_Some, first-filter, first-append, option_or_assoc}
use Rattle.card_state.specs.Persistent.{File}
use Rattle.file_model.specs.declared.descriptors.Descriptor.{Descriptor}
use Rattle.file_model.specs.declared.descriptors.Wanted.TheVariants.{ChildEf}
use Rattle.file_model.specs.Files.{descriptor_in, descriptors_in, is_df, lies_in, is_wanted, file_found}
use Rattle.file_model.specs.Selections.{parent_of, chosen_by_identifier}
use Rattle.file_model.specs.Access.{dfs_from, efs_above, arr_found}
use Rattle.file_model.specs.Laws.{ParentsComeFirst, FindsInFiveSearches, FindsNearest}

-- ---- by identifier

pub finds_in_five_searches : FindsInFiveSearches
unfolding chosen_by_identifier file_found
finds_in_five_searches files df id =
    let above : ℕ = parent_of files df in
    let named : Descriptor → Bool = λ f. f.id.0 == id.0 in
    let a : List Descriptor = filter (λ f. f.number == 0) files in
    let b : List Descriptor = filter (λ f. f.number == df) files in
    let c : List Descriptor = filter (lies_in df) files in
    let d : List Descriptor = filter (λ f. f.number == above) files in
    let e : List Descriptor = filter (λ f. lies_in above f && is_df f) files in
    let apart : find named (a ++ b ++ c ++ d ++ e) ≡ option_or (option_or (option_or (option_or (find named a) (find named b)) (find named c)) (find named d)) (find named e) =
    find-append named (a ++ b ++ c ++ d) e
    ∙ ap (λ o. option_or o (find named e)) (find-append named (a ++ b ++ c) d
    ∙ ap (λ o. option_or o (find named d)) (find-append named (a ++ b) c ∙ ap (λ o. option_or o (find named c)) (find-append named a b))) in
    apart
    ∙ option_or_assoc (option_or (option_or (find named a) (find named b)) (find named c)) (find named d) (find named e)
    ∙ option_or_assoc (option_or (find named a) (find named b)) (find named c) (option_or (find named d) (find named e))
    ∙ option_or_assoc (find named a) (find named b) (option_or (find named c) (option_or (find named d) (find named e)))
    ∙ each (find-filter named (λ f. f.number == 0) files) (find-filter named (λ f. f.number == df) files) (find-filter named (lies_in df) files) (find-filter named (λ f. f.number == above) files)
    (find-filter named (λ f. lies_in above f && is_df f) files)
  where
    each : {X : Type 0} {a a' b b' c c' d d' e e' : Option X} → a ≡ a' → b ≡ b' → c ≡ c' → d ≡ d' → e ≡ e'
        → option_or a (option_or b (option_or c (option_or d e))) ≡ option_or a' (option_or b' (option_or c' (option_or d' e')))
    each p q r s t = λ i. option_or (p i) (option_or (q i) (option_or (r i) (option_or (s i) (t i))))

-- ---- the nearest EF_ARR

pub parents_come_first : ParentsComeFirst
unfolding descriptors_in descriptor_in
parents_come_first state sound =
    All-map (λ (f : Descriptor). f.number ≢ 0 → f.parent < f.number) descriptor_in state.files (λ k d low.
    let file : File = get_or state.files k d in
    λ not_mf. ⊎_elim {C = file.parent < file.number} (λ is_mf. absurd (not_mf (ap (λ (f : File). f.number) is_mf))) (λ tree. tree.above) (sound.files k d low).tree)

abbrev ParentsFirst : List Descriptor → Type 0
ParentsFirst files = All (λ file. file.number ≢ 0 → file.parent < file.number) files

-- the DF above has a smaller number
parent_low : (files : List Descriptor) (n : ℕ) → ParentsFirst files → parent_of files (suc n) ≤ n
unfolding file_found
parent_low files n first = of_found (find (λ (f : Descriptor). f.number == suc n) files) refl
  where
    of_found : (o : Option Descriptor) → find (λ (f : Descriptor). f.number == suc n) files ≡ o → unwrap_or (option_map (λ (f : Descriptor). f.parent) o) 0 ≤ n
    of_found None is = omega arith
    of_found (Some file) is =
        let found = find_Some (λ (f : Descriptor). f.number == suc n) files file is in
        let numbered : file.number ≡ suc n = eqb-true file.number (suc n) found.1 in
        omega (arith, All-contains (λ (f : Descriptor). f.number ≢ 0 → f.parent < f.number) files file first found.0 (λ none. omega (arith, none, numbered)), numbered)

not_none : (n : ℕ) → (suc n == 0) ≡ false
not_none n = ne_eqb (suc n) 0 (λ is. omega (arith, is))

dfs_step : (files : List Descriptor) (levels n : ℕ) → dfs_from files (suc levels) (suc n) ≡ suc n ∷ dfs_from files levels (parent_of files (suc n))
dfs_step files levels n = cond-false (suc n == 0) (suc n ∷ []) (suc n ∷ dfs_from files levels (parent_of files (suc n))) (not_none n)

-- as many levels as the number are enough
enough : (files : List Descriptor) → ParentsFirst files → (most levels df : ℕ) → levels ≤ most → df ≤ levels → dfs_from files levels df ≡ dfs_from files df df
enough files first most zero zero low few = refl
enough files first most zero (suc n) low few = absurd (omega (arith, few))
enough files first most (suc levels) zero low few = refl
enough files first zero (suc levels) (suc n) low few = absurd (omega (arith, low))
enough files first (suc most) (suc levels) (suc n) low few =
    let above : ℕ = parent_of files (suc n) in
    let less : above ≤ n = parent_low files n first in
    dfs_step files levels n
    ∙ ap (λ dfs. suc n ∷ dfs) (enough files first most levels above (omega (arith, low)) (omega (arith, less, few)) ∙ sym (enough files first most n above (omega (arith, low, few)) less))
    ∙ sym (dfs_step files n n)

pub finds_nearest : FindsNearest
unfolding arr_found file_found
finds_nearest files zero id first = first-append (filter (is_wanted (ChildEf zero id)) files) [] ∙ ap (λ o. option_or o None) (first-filter (is_wanted (ChildEf zero id)) files)
finds_nearest files (suc n) id first =
    let above : ℕ = parent_of files (suc n) in
    let efs : ℕ → List Descriptor = λ df. filter (is_wanted (ChildEf df id)) files in
    ap (λ dfs. slice_get (flat_map efs dfs) 0) (dfs_step files n n ∙ ap (λ dfs. suc n ∷ dfs) (enough files first n n above (omega arith) (parent_low files n first)))
    ∙ first-append (efs (suc n)) (flat_map efs (dfs_from files above above))
    ∙ ap (λ o. option_or o (slice_get (efs_above files above id) 0)) (first-filter (is_wanted (ChildEf (suc n) id)) files)
    ∙ ap (λ o. option_or (find (is_wanted (ChildEf (suc n) id)) files) o) (sym (cond-false (suc n == 0) None (slice_get (efs_above files above id) 0) (not_none n)))
