-- What a template says is the file that it was written for.
use Rattle.std.proofs.Common.{◌≡◌, ℕ, ◌*◌, ◌≤◌, ◌<◌, Bool, true, List, [], ◌∷◌, ◌++◌, Option, Some, None, refl, sym, ◌∙◌, ap, subst, ⊎_elim, arith, ◌^◌, ◌/◌, ◌==◌, ◌&&◌, nat_le, bytes_eq}
use Rattle.std.specs.Prelude.{⊤}
use Rattle.std.proofs.lemmas.Nat.{from_be_bytes-to_be_bytes_2}
use Rattle.std.proofs.lemmas.Bool.{and_parts, and_from, leb-true, cond-true, cond-false, eq-eqb, ne_eqb, cases_eq}
use Rattle.std.proofs.lemmas.Option.{cond_some}
use Rattle.std.proofs.lemmas.Slice.Eq.{bytes_eq-Decides}
use Rattle.uicc_types.specs.declared.identifiers.FileId.{FileId}
use Rattle.card_state.specs.declared.shapes.Shape.{Shape}
use Rattle.card_state.specs.declared.shapes.Shape.TheVariants.{Transparent, Linear, Cyclic}
use Rattle.card_state.specs.Checks.{is_free_id}
use Rattle.card_state.specs.Sections.{size_of, is_shape}
use Rattle.card_state.specs.Numbers.{two_bytes}
use Rattle.access_rules.specs.Objects.{object}
use Rattle.file_model.specs.Fcp.{rule_object}
use Rattle.file_model.specs.declared.descriptors.RuleReference.{RuleReference}
use Rattle.file_model.specs.declared.asked.NewFile.{NewFile}
use Rattle.file_model.specs.declared.asked.NewFile.TheVariants.{Df, Ef}
use Rattle.file_model.specs.Templates.{ef_kind_bytes, short_value, template, new_file_told, asked_in, has_short_records, may_be_made, may_rule, IsShortRule, IsInRange}

-- a short file identifier in the upper five bits
eighth : (n : ℕ) → n * 8 / 8 ≡ n
eighth n = omega arith

-- a test of five parts holds: so does each
pub record Five (a b c d e : Bool) : Type 0 where
  pub first : a ≡ true
  pub second : b ≡ true
  pub third : c ≡ true
  pub fourth : d ≡ true
  pub fifth : e ≡ true

pub five : (a b c d e : Bool) → (a && b && c && d && e) ≡ true → Five a b c d e
five a b c d e holds =
    let four = and_parts (a && b && c && d) e holds in
    let three = and_parts (a && b && c) d four.0 in
    let two = and_parts (a && b) c three.0 in
    let one = and_parts a b two.0 in
    record { first = one.0; second = one.1; third = two.1; fourth = three.1; fifth = four.1 }

-- what is known of an EF that may be made
pub parts_of : (id : FileId) (shape : Shape) (short : ℕ) (rule : Option RuleReference) → may_be_made (Ef id shape short rule) ≡ true
    → Five (is_free_id id.0) (is_shape shape) (has_short_records shape) (nat_le short 30) (may_rule rule)
parts_of id shape short rule may = five (is_free_id id.0) (is_shape shape) (has_short_records shape) (nat_le short 30) (may_rule rule) may

-- ---- case by case: with a rule or without

-- a template with these bytes for the short file identifier
abbrev spelled : FileId → Shape → Option RuleReference → List ℕ → List ℕ
spelled id shape rule short =
    object 0x62 (object 0x82 (ef_kind_bytes shape) ++ object 0x83 (two_bytes id.0) ++ rule_object rule ++ object 0x80 (two_bytes (size_of shape)) ++ object 0x88 short)

abbrev IsLowSize : Shape → Type 0
IsLowSize (Transparent size) = size < 2 ^ 16
IsLowSize (Linear width count) = ⊤
IsLowSize (Cyclic width count) = ⊤

told_none : (id : FileId) (shape : Shape) (rule : Option RuleReference) → id.0 < 2 ^ 16 → IsLowSize shape → IsShortRule rule → new_file_told (spelled id shape rule []) ≡ Ef id shape 0 rule
unfolding new_file_told object
told_none id (Transparent size) None low size_low _ = rw (from_be_bytes-to_be_bytes_2 id.0 low, from_be_bytes-to_be_bytes_2 size size_low) refl
told_none id (Transparent size) (Some rule) low size_low arr_low = rw (from_be_bytes-to_be_bytes_2 id.0 low, from_be_bytes-to_be_bytes_2 size size_low, from_be_bytes-to_be_bytes_2 rule.arr.0 arr_low) refl
told_none id (Linear width count) None low _ _ = rw (from_be_bytes-to_be_bytes_2 id.0 low) refl
told_none id (Linear width count) (Some rule) low _ arr_low = rw (from_be_bytes-to_be_bytes_2 id.0 low, from_be_bytes-to_be_bytes_2 rule.arr.0 arr_low) refl
told_none id (Cyclic width count) None low _ _ = rw (from_be_bytes-to_be_bytes_2 id.0 low) refl
told_none id (Cyclic width count) (Some rule) low _ arr_low = rw (from_be_bytes-to_be_bytes_2 id.0 low, from_be_bytes-to_be_bytes_2 rule.arr.0 arr_low) refl

told_some : (id : FileId) (shape : Shape) (rule : Option RuleReference) (byte : ℕ) → id.0 < 2 ^ 16 → IsLowSize shape → IsShortRule rule → new_file_told (spelled id shape rule (byte ∷ [])) ≡ Ef id shape (byte / 8) rule
unfolding new_file_told object
told_some id (Transparent size) None byte low size_low _ = rw (from_be_bytes-to_be_bytes_2 id.0 low, from_be_bytes-to_be_bytes_2 size size_low) refl
told_some id (Transparent size) (Some rule) byte low size_low arr_low = rw (from_be_bytes-to_be_bytes_2 id.0 low, from_be_bytes-to_be_bytes_2 size size_low, from_be_bytes-to_be_bytes_2 rule.arr.0 arr_low) refl
told_some id (Linear width count) None byte low _ _ = rw (from_be_bytes-to_be_bytes_2 id.0 low) refl
told_some id (Linear width count) (Some rule) byte low _ arr_low = rw (from_be_bytes-to_be_bytes_2 id.0 low, from_be_bytes-to_be_bytes_2 rule.arr.0 arr_low) refl
told_some id (Cyclic width count) None byte low _ _ = rw (from_be_bytes-to_be_bytes_2 id.0 low) refl
told_some id (Cyclic width count) (Some rule) byte low _ arr_low = rw (from_be_bytes-to_be_bytes_2 id.0 low, from_be_bytes-to_be_bytes_2 rule.arr.0 arr_low) refl

low_size : (shape : Shape) → is_shape shape ≡ true → IsLowSize shape
low_size (Transparent size) is = let low : size ≤ 32767 = leb-true size 32767 (and_parts (nat_le 1 size) (nat_le size 32767) is).1 in omega arith
low_size (Linear width count) is = tt
low_size (Cyclic width count) is = tt

df_back : (id : FileId) → id.0 < 2 ^ 16 → new_file_told (template (Df id)) ≡ Df id
unfolding new_file_told template object
df_back id low = rw (from_be_bytes-to_be_bytes_2 id.0 low) refl

ef_back : (id : FileId) (shape : Shape) (short : ℕ) (rule : Option RuleReference) → id.0 < 2 ^ 16 → IsLowSize shape → IsShortRule rule → new_file_told (template (Ef id shape short rule)) ≡ Ef id shape short rule
unfolding template
ef_back id shape short rule low size arr = ⊎_elim {C = new_file_told (spelled id shape rule (short_value short)) ≡ Ef id shape short rule}
    (λ zero.
    ap (λ (bytes : List ℕ). new_file_told (spelled id shape rule bytes)) (cond-true (short == 0) [] (short * 8 ∷ []) (eq-eqb short 0 zero))
    ∙ told_none id shape rule low size arr ∙ ap (λ (s : ℕ). Ef id shape s rule) (sym zero))
    (λ some.
    ap (λ (bytes : List ℕ). new_file_told (spelled id shape rule bytes)) (cond-false (short == 0) [] (short * 8 ∷ []) (ne_eqb short 0 some))
    ∙ told_some id shape rule (short * 8) low size arr ∙ ap (λ (s : ℕ). Ef id shape s rule) (eighth short))
    (cases_eq short 0)

pub told_back : (file : NewFile) → may_be_made file ≡ true → IsInRange file → new_file_told (template file) ≡ file
told_back (Df id) may range = df_back id range
told_back (Ef id shape short rule) may range =
    ef_back id shape short rule range.0 (low_size shape (parts_of id shape short rule may).second) range.1

-- ---- exactly the templates are read

pub asked_found : (bytes : List ℕ) (file : NewFile) → asked_in bytes ≡ Some file → (may_be_made file ≡ true) × (bytes ≡ template file)
unfolding asked_in
asked_found bytes file is =
    let test = cond_some (may_be_made (new_file_told bytes) && bytes_eq (template (new_file_told bytes)) bytes) (new_file_told bytes) file is in
    let parts = and_parts (may_be_made (new_file_told bytes)) (bytes_eq (template (new_file_told bytes)) bytes) test.0 in
    let same : template (new_file_told bytes) ≡ bytes = (bytes_eq-Decides (template (new_file_told bytes)) bytes).0 parts.1 in
    (subst (λ (f : NewFile). may_be_made f ≡ true) test.1 parts.0, sym same ∙ ap template test.1)

pub asked_only : (bytes : List ℕ) (file : NewFile) → may_be_made file ≡ true → IsInRange file → bytes ≡ template file → asked_in bytes ≡ Some file
unfolding asked_in
asked_only bytes file may range is =
    let back : new_file_told bytes ≡ file = ap new_file_told is ∙ told_back file may range in
    let spelled : template (new_file_told bytes) ≡ bytes = ap template back ∙ sym is in
    cond-true (may_be_made (new_file_told bytes) && bytes_eq (template (new_file_told bytes)) bytes) (Some (new_file_told bytes)) None
    (and_from (may_be_made (new_file_told bytes)) (bytes_eq (template (new_file_told bytes)) bytes) (subst (λ (f : NewFile). may_be_made f ≡ true) (sym back) may) ((bytes_eq-Decides (template (new_file_told bytes)) bytes).1 spelled))
    ∙ ap Some back
