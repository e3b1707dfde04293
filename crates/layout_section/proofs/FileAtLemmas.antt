-- The file at a path, by its last identifier.
use Rattle.std.proofs.Common.{◌≡◌, ℕ, Bool, true, false, cond, List, [], ◌∷◌, ◌++◌, refl, sym, ◌∙◌, ap, inr, Option, Some, None, ◌==◌, if◌then◌else◌, is_none, option_and_then, eqb-true}
use Rattle.uicc_types.specs.declared.identifiers.FileId.{FileId}
use Rattle.card_state.specs.Kinds.{df_kind}
use Rattle.card_state.specs.Persistent.{File}
use Rattle.card_state.specs.Checks.{is_free_id}
use Rattle.card_state.specs.Soundness.{mf}
use Rattle.card_state.specs.Sections.{child_of, file_at}
use Rattle.layout_section.specs.Adding.{file_numbered, IsAt, IsFound}
use Rattle.layout_section.specs.Describing.{HasNoPlaceAt, IsPlaceAt}

and_some : {X : Type 0} (o : Option X) → option_and_then (λ x. Some x) o ≡ o
and_some None = refl
and_some (Some x) = refl

and_then_twice : {X Y Z : Type 0} (f : X → Option Y) (g : Y → Option Z) (o : Option X) → option_and_then (λ x. option_and_then g (f x)) o ≡ option_and_then g (option_and_then f o)
and_then_twice f g None = refl
and_then_twice f g (Some x) = refl

same_then : {X Y : Type 0} (f g : X → Option Y) → ((x : X) → f x ≡ g x) → (o : Option X) → option_and_then f o ≡ option_and_then g o
same_then f g each None = refl
same_then f g each (Some x) = each x

if_then : {X Y : Type 0} (b : Bool) (g : X → Option Y) (o : Option X) → option_and_then g (cond b o None) ≡ cond b (option_and_then g o) None
if_then true g o = refl
if_then false g o = refl

module _ (files : List File) (id : FileId) where
  abbrev pub last_step : File → Option File
  last_step df = cond (df.kind == df_kind) (child_of files df.number id) None

  pub file_at_last : (from : File) (front : List FileId) → file_at files from (front ++ id ∷ []) ≡ option_and_then last_step (file_at files from front)
  file_at_last from [] = ap (λ (o : Option File). cond (from.kind == df_kind) o None) (and_some (child_of files from.number id))
  file_at_last from (first ∷ front) =
      ap (λ (o : Option File). cond (from.kind == df_kind) o None)
      (same_then (λ child. file_at files child (front ++ id ∷ [])) (λ child. option_and_then last_step (file_at files child front)) (λ child. file_at_last child front) (child_of files from.number first)
      ∙ and_then_twice (λ child. file_at files child front) last_step (child_of files from.number first))
      ∙ sym (if_then (from.kind == df_kind) last_step (option_and_then (λ child. file_at files child front) (child_of files from.number first)))

-- ---- a new file

found_some : (files : List File) (found : Option File) (number : ℕ) → IsFound files found (Some number) → is_none found ≡ false
found_some files None number is = absurd is
found_some files (Some file) number is = refl

found_none : (files : List File) (found : Option File) → IsFound files found None → found ≡ None
found_none files None is = refl
found_none files (Some file) is = absurd is

module _ (files : List File) (front : List FileId) (id : FileId) (number : ℕ) (df_is : ((file_numbered files number).kind == df_kind) ≡ true) where
  kind_of_df : (df : File) → IsAt files df number → (df.kind == df_kind) ≡ true
  kind_of_df df at = ap (λ (file : File). file.kind == df_kind) (sym at.is) ∙ df_is

  last_is : (df : File) → IsAt files df number → last_step files id df ≡ child_of files number id
  last_is df at =
      ap (λ b. let o : Option File = cond b (child_of files df.number id) None in o) (kind_of_df df at) ∙ ap (λ (n : ℕ). child_of files n id) at.own

  there_step : (found : Option File) (child : ℕ) → IsFound files found (Some number) → IsFound files (child_of files number id) (Some child) → is_none (option_and_then (last_step files id) found) ≡ false
  there_step None child at is = absurd at
  there_step (Some df) child at is = ap (λ (o : Option File). is_none o) (last_is df at) ∙ found_some files (child_of files number id) child is

  -- there is such a file
  pub file_there_already : (child : ℕ) → IsFound files (file_at files mf front) (Some number) → IsFound files (child_of files number id) (Some child) → HasNoPlaceAt files front id
  file_there_already child at is = inr (ap (λ (o : Option File). is_none o) (file_at_last files id mf front) ∙ there_step (file_at files mf front) child at is)

  place_step : (found : Option File) → file_at files mf front ≡ found → IsFound files found (Some number) → child_of files number id ≡ None → is_free_id id.0 ≡ true → IsPlaceAt files front id (record { df = number; id = id })
  place_step None path at none free = absurd at
  place_step (Some df) path at none free = record {
    df = df;
    there = ap (option_and_then (λ file. if file.kind == df_kind then Some file else None)) path ∙ ap (λ b. let o : Option File = cond b (Some df) None in o) (kind_of_df df at);
    number = at.own;
    new = ap (λ (o : Option File). is_none o) (file_at_last files id mf front) ∙ ap (λ (o : Option File). is_none (option_and_then (last_step files id) o)) path
        ∙ ap (λ (o : Option File). is_none o) (last_is df at ∙ none);
    inside = record { low = at.low; is_df = eqb-true (file_numbered files number).kind df_kind df_is; free = free; new = none };
    same = refl;
  }

  -- there is none, in a DF
  pub place_there : IsFound files (file_at files mf front) (Some number) → IsFound files (child_of files number id) None → is_free_id id.0 ≡ true → IsPlaceAt files front id (record { df = number; id = id })
  place_there at none free = place_step (file_at files mf front) refl at (found_none files (child_of files number id) none) free
