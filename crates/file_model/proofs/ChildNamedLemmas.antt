-- No file lies in one that is deleted.
use Rattle.std.proofs.Common.{get_or, ◌≡◌, ℕ, Bool, true, false, List, Option, Some, map, sym, ◌∙◌, ap, subst, ⊎_elim, arith, ◌≢◌, ◌⊎◌, ◌==◌, ◌&&◌, ◌||◌, not, find, All, Contains}
use Rattle.std.specs.List.{list_any}
use Rattle.std.proofs.lemmas.Bool.{and_parts, and_from, or_parts, both_ways, not-true, eqb-true, eqb-false, eq-eqb, ne_eqb, cases_eq, not_from_false}
use Rattle.std.proofs.lemmas.List.Elements.{Contains-get_or}
use Rattle.std.proofs.lemmas.List.Folds.{list_any_at}
use Rattle.list_laws.proofs.CondLemmas.{mapped_Some, second_false}
use Rattle.list_laws.proofs.FindLemmas.{find-map, find_Some}
use Rattle.list_laws.proofs.MapLemmas.{mapped_too}
use Rattle.list_laws.proofs.AllContainsLemmas.{beside, contained}
use Rattle.card_state.specs.Kinds.{df_kind}
use Rattle.card_state.specs.Decoding.{number_at}
use Rattle.card_state.specs.Persistent.{File, Persistent}
use Rattle.card_state.specs.Soundness.{IsDf, AreDistinct, IsInTree, IsSound}
use Rattle.file_model.specs.declared.descriptors.Descriptor.{Descriptor}
use Rattle.file_model.specs.declared.descriptors.Wanted.TheVariants.{Child}
use Rattle.file_model.specs.declared.selections.Selection.{Selection}
use Rattle.file_model.specs.Files.{descriptor_in, descriptors_in, lies_in, is_wanted, file_found}
use Rattle.file_model.specs.Deleting.{is_in_use}
use Rattle.file_model.specs.TreeOutcomes.{is_current, child_named}
use Rattle.file_model.proofs.FileMadeLemmas.{is_mf}

-- the files of a state that have one number are one
pub one_file : (state : Persistent) → IsSound state → (a b : File) → Contains state.files a → Contains state.files b → a.number ≡ b.number → a ≡ b
one_file state sound a b there_a there_b same =
    ⊎_elim {C = a ≡ b} (λ distinct. absurd (⊎_elim {C = ⊥} (λ (d : AreDistinct a b). omega (arith, d.number)) (λ (d : AreDistinct b a). omega (arith, d.number)) distinct)) (λ is. is)
    (contained (λ (f : File). ((AreDistinct f b) ⊎ (AreDistinct b f)) ⊎ (f ≡ b)) state.files a (beside AreDistinct state.files b sound.distinct_files there_b) there_a)

pub record IsChild (state : Persistent) (df id : ℕ) (file : File) : Type 0 where
  pub there : Contains state.files file
  pub of_it : file.parent ≡ df
  pub not_mf : file.number ≢ 0
  pub named : file.id ≡ id

pub child_there : (state : Persistent) (df : ℕ) (bytes : List ℕ) (told : Descriptor) → child_named (descriptors_in state) df bytes ≡ Some told → (file : File) × IsChild state df (number_at bytes 0) file × (descriptor_in file ≡ told)
unfolding file_found descriptors_in descriptor_in
child_there state df bytes told is =
    let wanted : Descriptor → Bool = is_wanted (Child df (record { 0 = number_at bytes 0 })) in
    let found = mapped_Some descriptor_in (find (λ f. wanted (descriptor_in f)) state.files) told (sym (find-map wanted descriptor_in state.files) ∙ is) in
    let known = find_Some (λ (f : File). wanted (descriptor_in f)) state.files found.0 found.1 in
    let two = and_parts (found.0.parent == df && not (found.0.number == 0)) (found.0.id == number_at bytes 0) known.1 in
    let one = and_parts (found.0.parent == df) (not (found.0.number == 0)) two.0 in
    (found.0, record { there = known.0; of_it = eqb-true found.0.parent df one.0; not_mf = eqb-false found.0.number 0 (not-true (found.0.number == 0) one.1); named = eqb-true found.0.id (number_at bytes 0) two.1 }, found.2)

-- in a DF that is not in use no file lies, and in an EF none ever does
none_inside : (state : Persistent) (channels : List (Option Selection)) (file : File) → IsSound state → Contains state.files file → file.number ≢ 0 → is_in_use (descriptors_in state) channels (descriptor_in file) ≡ false
    → All (λ other. other.parent ≢ file.number) state.files
unfolding descriptors_in descriptor_in
none_inside state channels file sound there not_mf unused k d low inside =
    let other : File = get_or state.files k d in
    ⊎_elim {C = ⊥}
    (λ first. not_mf (sym inside ∙ ap (λ (f : File). f.parent) (is_mf state other (sound.files k d low) first)))
    (λ some. ⊎_elim {C = ⊥}
    (λ is. some (ap (λ (f : File). f.number) is))
    (λ (tree : IsInTree state.files other).
    let is_df : IsDf file = subst IsDf (one_file state sound tree.parent file tree.there there (tree.of_it ∙ inside)) tree.df in
    let quiet = or_parts (list_any (lies_in file.number) (map descriptor_in state.files)) (is_current channels file.number)
    (second_false (file.kind == df_kind) (list_any (lies_in file.number) (map descriptor_in state.files) || is_current channels file.number) unused (eq-eqb file.kind df_kind is_df)) in
    let lies : lies_in file.number (descriptor_in other) ≡ true =
    and_from (other.parent == file.number) (not (other.number == 0)) (eq-eqb other.parent file.number inside) (not_from_false (other.number == 0) (ne_eqb other.number 0 some)) in
    let told = mapped_too descriptor_in state.files other (Contains-get_or state.files k d low) in
    both_ways (list_any (lies_in file.number) (map descriptor_in state.files)) quiet.0
    (list_any_at (lies_in file.number) (map descriptor_in state.files) told.0 (descriptor_in other) told.1 (subst (λ (t : Descriptor). lies_in file.number t ≡ true) (sym told.2) lies)))
    (sound.files k d low).tree)
    (cases_eq other.number 0)

-- a child that is not in use is not the MF, and no file lies in it
pub deleted_files_may_go : (state : Persistent) (channels : List (Option Selection)) (df : ℕ) (bytes : List ℕ) (file : Descriptor)
    → IsSound state → child_named (descriptors_in state) df bytes ≡ Some file → is_in_use (descriptors_in state) channels file ≡ false
    → (file.number ≢ 0) × All (λ other. other.parent ≢ file.number) state.files
unfolding descriptor_in
deleted_files_may_go state channels df bytes told sound named unused =
    let child = child_there state df bytes told named in
    let number : child.0.number ≡ told.number = numbered child.0 told child.2 in (
      λ none. child.1.not_mf (number ∙ none),
      subst (λ (n : ℕ). All (λ (other : File). other.parent ≢ n) state.files) number
          (none_inside state channels child.0 sound child.1.there child.1.not_mf (subst (λ (t : Descriptor). is_in_use (descriptors_in state) channels t ≡ false) (sym child.2) unused)),
    )
  where
    numbered : (file : File) (told : Descriptor) → descriptor_in file ≡ told → file.number ≡ told.number
    numbered file told is = ap (λ (t : Descriptor). t.number) is
