-- What a search that goes from the front finds.
use Rattle.std.proofs.Common.{get_or, ◌≡◌, ℕ, zero, suc, ◌<◌, ◌≤◌, Bool, true, false, cond, List, [], ◌∷◌, length, Some, None, refl, sym, ap, ◌∙◌, subst, arith, inl, inr, ◌≢◌, find, ◌&&◌, option_map, option_and_then, ◌==◌}
use Rattle.std.specs.List.{enumerate_from}
use Rattle.std.proofs.lemmas.Bool.{cases_eq, cond-true, eqb-true, ne_eqb}
use Rattle.std.proofs.lemmas.Option.{slice_get-get_or}
use Rattle.std.proofs.lemmas.List.FromFn.{get_or-enumerate_from, length-enumerate_from}
use Rattle.uicc_types.specs.declared.identifiers.FileId.{FileId}
use Rattle.card_state.specs.declared.entries.Node.{Node}
use Rattle.card_state.specs.declared.entries.Loaded.{Loaded}
use Rattle.card_state.specs.Kinds.{df_kind, is_ef_kind}
use Rattle.card_state.specs.Blank.{unused_node}
use Rattle.card_state.specs.Used.{HasNode}
use Rattle.file_model.specs.declared.descriptors.Descriptor.{Descriptor}
use Rattle.file_model.specs.declared.descriptors.Wanted.{Wanted}
use Rattle.file_model.specs.declared.descriptors.Wanted.TheVariants.{Number, Named, Child, ChildDf, Short}
use Rattle.file_model.specs.Selections.{chosen_by_identifier, parent_of}
use Rattle.file_model.specs.Files.{df_descriptor, ef_descriptor, descriptor_of, descriptor_if, descriptors_of, is_df, is_ef, is_wanted, lies_in, file_found}
use Rattle.file_model.specs.Laws.{FindsInFiveSearches}
use Rattle.file_model.proofs.NumbersAreEntriesLemmas.{number_told, finds_among_entries, numbers_are_entries}
use Rattle.file_tree.specs.Tables.{AsksForId, HasNoneBetween, AsksForNumber, AsksForShort, IsNumbered, is_there_and_wanted}

-- where none passes, nothing is found
pub none_found : {X : Type 0} (p : X → Bool) (xs : List X) (d : X) → ((k : ℕ) → k < length xs → p (get_or xs k d) ≡ false) → find p xs ≡ None
none_found p [] d fail = refl
none_found p (x ∷ xs) d fail = ap (λ b. cond b (Some x) (find p xs)) (fail 0 (omega arith)) ∙ none_found p xs d (λ k low. fail (suc k) (omega (arith, low)))

-- the one before which none passes
pub first_passes : {X : Type 0} (p : X → Bool) (xs : List X) (d : X) (n : ℕ) → ((k : ℕ) → k < n → p (get_or xs k d) ≡ false) → n < length xs → p (get_or xs n d) ≡ true
    → find p xs ≡ Some (get_or xs n d)
first_passes p [] d n fail low pass = absurd (omega (arith, low))
first_passes p (x ∷ xs) d zero fail low pass = ap (λ b. cond b (Some x) (find p xs)) pass
first_passes p (x ∷ xs) d (suc n) fail low pass =
    ap (λ b. cond b (Some x) (find p xs)) (fail 0 (omega arith)) ∙ first_passes p xs d n (λ k less. fail (suc k) (omega (arith, less))) (omega (arith, low)) pass

-- ---- in a table

abbrev pub entry_at : List Node → ℕ → Node
entry_at nodes n = get_or nodes n unused_node

abbrev pub passes : Wanted → ℕ → Node → Bool
passes = is_there_and_wanted

-- no entry before this one is of a file that is wanted
abbrev pub NonePasses : List Node → Wanted → ℕ → Type 0
NonePasses nodes wanted n = (k : ℕ) → k < n → passes wanted k (entry_at nodes k) ≡ false

at_entry : (nodes : List Node) (k : ℕ) → k < length nodes → get_or (enumerate_from 0 nodes) k (0, unused_node) ≡ (k, entry_at nodes k)
at_entry nodes k low = get_or-enumerate_from 0 nodes k (0, unused_node) low ∙ ap (λ (n : ℕ). (n, entry_at nodes k)) (omega arith)

module _ (loaded : Loaded) (wanted : Wanted) where
  abbrev test : ℕ × Node → Bool
  test entry = passes wanted entry.0 entry.1

  abbrev told : ℕ × Node → Descriptor
  told entry = descriptor_of entry.0 entry.1

  pub entry_found : (n : ℕ) → NonePasses loaded.nodes wanted n → n < length loaded.nodes → passes wanted n (entry_at loaded.nodes n) ≡ true
      → file_found (descriptors_of loaded) wanted ≡ Some (descriptor_of n (entry_at loaded.nodes n))
  entry_found n none low pass =
      finds_among_entries loaded wanted
      ∙ ap (option_map told)
      (first_passes test (enumerate_from 0 loaded.nodes) (0, unused_node) n
      (λ k less. ap test (at_entry loaded.nodes k (omega (arith, less, low))) ∙ none k less)
      (omega (arith, low, length-enumerate_from 0 loaded.nodes))
      (ap test (at_entry loaded.nodes n low) ∙ pass)
      ∙ ap (λ (e : ℕ × Node). Some e) (at_entry loaded.nodes n low))

  pub no_entry_found : (n : ℕ) → NonePasses loaded.nodes wanted n → length loaded.nodes ≤ n → file_found (descriptors_of loaded) wanted ≡ None
  no_entry_found n none all =
      finds_among_entries loaded wanted
      ∙ ap (option_map told)
      (none_found test (enumerate_from 0 loaded.nodes) (0, unused_node)
      (λ k low. let less : k < length loaded.nodes = omega (arith, low, length-enumerate_from 0 loaded.nodes) in
      ap test (at_entry loaded.nodes k less) ∙ none k (omega (arith, less, all))))

pub has_entry : (loaded : Loaded) (n : ℕ) → n < length loaded.nodes → (entry_at loaded.nodes n).used ≡ true → HasNode loaded n (entry_at loaded.nodes n)
has_entry loaded n low used = record { there = slice_get-get_or loaded.nodes n unused_node low; used = used }

-- the file of an entry is found by its number
pub entry_numbered : (loaded : Loaded) (n : ℕ) → n < length loaded.nodes → (entry_at loaded.nodes n).used ≡ true
    → IsNumbered (descriptors_of loaded) (descriptor_of n (entry_at loaded.nodes n))
entry_numbered loaded n low used =
    let node : Node = entry_at loaded.nodes n in
    ap (λ (k : ℕ). file_found (descriptors_of loaded) (Number k)) (number_told n node)
    ∙ numbers_are_entries loaded n
    ∙ ap (option_and_then (descriptor_if n)) (slice_get-get_or loaded.nodes n unused_node low)
    ∙ cond-true node.used (Some (descriptor_of n node)) None used

-- ---- by a number

-- nor is the file of another entry
pub other_fails : (wanted : Wanted) (n k : ℕ) (node : Node) → AsksForNumber wanted n → k ≢ n → passes wanted k node ≡ false
other_fails wanted n k node only other = either node.used
  where
    fails : is_wanted wanted (descriptor_of k node) ≡ false
    fails = only (descriptor_of k node) (λ same. other (sym (number_told k node) ∙ same))

    either : (b : Bool) → (b && is_wanted wanted (descriptor_of k node)) ≡ false
    either true = fails
    either false = refl

-- so none passes where the one entry doesn't
pub one_fails : (nodes : List Node) (wanted : Wanted) (n m : ℕ) → AsksForNumber wanted n → (n < m → passes wanted n (entry_at nodes n) ≡ false) → NonePasses nodes wanted m
one_fails nodes wanted n m only fail k low = elim (cases_eq k n) [
  | inl same ↦ subst (λ (i : ℕ). passes wanted i (entry_at nodes i) ≡ false) (sym same) (fail (omega (arith, low, same)))
  | inr other ↦ other_fails wanted n k (entry_at nodes k) only other
]

-- ---- by an identifier

id_told : (n : ℕ) (node : Node) → (descriptor_of n node).id.0 ≡ node.id.0
unfolding descriptor_of
id_told n node = either (node.kind == df_kind)
  where
    either : (b : Bool) → (cond b (df_descriptor n node) (ef_descriptor n node)).id.0 ≡ node.id.0
    either true = refl
    either false = refl

-- the file of an entry with another one isn't wanted
pub id_fails : (wanted : Wanted) (number id : ℕ) (node : Node) → AsksForId wanted id → node.id.0 ≢ id → passes wanted number node ≡ false
id_fails wanted number id node only other = either node.used
  where
    fails : is_wanted wanted (descriptor_of number node) ≡ false
    fails = only (descriptor_of number node) (λ same. other (sym (id_told number node) ∙ same))

    either : (b : Bool) → (b && is_wanted wanted (descriptor_of number node)) ≡ false
    either true = fails
    either false = refl

-- so none passes before one that has it
pub none_before : (nodes : List Node) (wanted : Wanted) (id n : ℕ) → AsksForId wanted id → HasNoneBetween nodes id 0 n → NonePasses nodes wanted n
none_before nodes wanted id n only none k low = id_fails wanted k id (entry_at nodes k) only (none k (omega arith) low)

-- and where no entry has it, no such file is found
pub absent : (loaded : Loaded) (wanted : Wanted) (id n : ℕ) → AsksForId wanted id → HasNoneBetween loaded.nodes id 0 n → length loaded.nodes ≤ n
    → file_found (descriptors_of loaded) wanted ≡ None
absent loaded wanted id n only none all = no_entry_found loaded wanted n (none_before loaded.nodes wanted id n only none) all

both_fail : (first second : Bool) → second ≡ false → (first && second) ≡ false
both_fail true second isnt = isnt
both_fail false second isnt = refl

named_asks : (number : ℕ) (id : FileId) → AsksForId (Named number id) id.0
named_asks number id file other = both_fail (file.number == number) (file.id.0 == id.0) (ne_eqb file.id.0 id.0 other)

child_asks : (df : ℕ) (id : FileId) → AsksForId (Child df id) id.0
child_asks df id file other = both_fail (lies_in df file) (file.id.0 == id.0) (ne_eqb file.id.0 id.0 other)

child_df_asks : (df : ℕ) (id : FileId) → AsksForId (ChildDf df id) id.0
child_df_asks df id file other = both_fail (lies_in df file && is_df file) (file.id.0 == id.0) (ne_eqb file.id.0 id.0 other)

-- nor is one chosen by it
pub none_chosen : (loaded : Loaded) (df : ℕ) (id : FileId) (n : ℕ) → FindsInFiveSearches → HasNoneBetween loaded.nodes id.0 0 n → length loaded.nodes ≤ n
    → chosen_by_identifier (descriptors_of loaded) df id ≡ None
none_chosen loaded df id n five none all =
    let files : List Descriptor = descriptors_of loaded in
    let above : ℕ = parent_of files df in
    five files df id
    ∙ rw (
      absent loaded (Named 0 id) id.0 n (named_asks 0 id) none all,
      absent loaded (Named df id) id.0 n (named_asks df id) none all,
      absent loaded (Child df id) id.0 n (child_asks df id) none all,
      absent loaded (Named above id) id.0 n (named_asks above id) none all,
      absent loaded (ChildDf above id) id.0 n (child_df_asks above id) none all,
    ) refl

-- ---- by a short file identifier

-- the file of an entry with another one is a DF, or has another one
ef_apart : (number : ℕ) (node : Node) (short : ℕ) → node.short ≢ short → (is_ef (descriptor_of number node) && (descriptor_of number node).short == short) ≡ false
unfolding descriptor_of
ef_apart number node short other = either (node.kind == df_kind) refl
  where
    no_right : (a b : Bool) → b ≡ false → (a && b) ≡ false
    no_right true b isnt = isnt
    no_right false b isnt = refl

    either : (b : Bool) → (node.kind == df_kind) ≡ b → (is_ef (cond b (df_descriptor number node) (ef_descriptor number node)) && (cond b (df_descriptor number node) (ef_descriptor number node)).short == short) ≡ false
    either true is = ap (λ (kind : ℕ). is_ef_kind kind && 0 == short) (eqb-true node.kind df_kind is)
    either false is = no_right (is_ef_kind node.kind) (node.short == short) (ne_eqb node.short short other)

pub short_fails : (wanted : Wanted) (number : ℕ) (node : Node) (short : ℕ) → AsksForShort wanted short → node.short ≢ short → passes wanted number node ≡ false
short_fails wanted number node short only other = either node.used
  where
    either : (b : Bool) → (b && is_wanted wanted (descriptor_of number node)) ≡ false
    either true = only (descriptor_of number node) (ef_apart number node short other)
    either false = refl

pub short_asks : (df short : ℕ) → AsksForShort (Short df short) short
short_asks df short file isnt = either (lies_in df file) (is_ef file) (file.short == short) isnt
  where
    either : (lies ef same : Bool) → (ef && same) ≡ false → ((lies && ef) && same) ≡ false
    either true ef same isnt = isnt
    either false ef same isnt = refl

-- ---- at several places
