-- The record that rules a file.
use Rattle.std.proofs.Common.{get_or, ◌≡◌, ℕ, ◌-◌, ◌<◌, ◌≤◌, List, [], length, Option, Some, None, ap, ◌∙◌, ⊎_elim, arith, ◌≢◌, ◌⊎◌, ◌==◌, if◌then◌else◌, slice_get, option_and_then}
use Rattle.std.proofs.lemmas.Bool.{cond-true, cond-false, eq-eqb, ne_eqb}
use Rattle.std.proofs.lemmas.Option.{slice_get-get_or, slice_get_past}
use Rattle.card_state.specs.Kinds.{linear_kind}
use Rattle.card_state.specs.Persistent.{Persistent}
use Rattle.file_model.specs.declared.descriptors.Descriptor.{Descriptor}
use Rattle.file_model.specs.declared.descriptors.RuleReference.{RuleReference}
use Rattle.file_model.specs.Files.{descriptors_in}
use Rattle.file_model.specs.Holdings.{records_in}
use Rattle.file_model.specs.Access.{arr_found, record_numbered, ruling_record}

numbered_is : (records : List (List ℕ)) (number : ℕ) → number ≢ 0 → record_numbered records number ≡ slice_get records (number - 1)
numbered_is records number some = cond-false (number == 0) None (slice_get records (number - 1)) (ne_eqb number 0 some)

pub no_record : (records : List (List ℕ)) (count number : ℕ) → length records ≡ count → (number ≡ 0) ⊎ (count < number) → record_numbered records number ≡ None
no_record records count number long which =
    ⊎_elim {C = record_numbered records number ≡ None}
    (λ none. cond-true (number == 0) None (slice_get records (number - 1)) (eq-eqb number 0 none))
    (λ high. numbered_is records number (λ none. omega (arith, none, high)) ∙ slice_get_past records (number - 1) (omega (arith, high, long))) which

pub record_there : (records : List (List ℕ)) (count number : ℕ) → length records ≡ count → number ≢ 0 → number ≤ count → record_numbered records number ≡ Some (get_or records (number - 1) [])
record_there records count number long some low = numbered_is records number some ∙ slice_get-get_or records (number - 1) [] (omega (arith, long, some, low))

module _ (state : Persistent) (file : Descriptor) (rule : RuleReference) where
  abbrev ruled_by : Descriptor → Option (List ℕ)
  ruled_by arr = if arr.kind == linear_kind then record_numbered (records_in state arr.number) rule.number else None

  pub by_record : (arr : Descriptor) → arr_found (descriptors_in state) file.parent rule.arr ≡ Some arr → arr.kind ≡ linear_kind
      → ruling_record state file rule ≡ record_numbered (records_in state arr.number) rule.number
  unfolding ruling_record
  by_record arr is linear =
      ap (option_and_then ruled_by) is ∙ cond-true (arr.kind == linear_kind) (record_numbered (records_in state arr.number) rule.number) None (eq-eqb arr.kind linear_kind linear)

  pub by_no_linear : (arr : Descriptor) → arr_found (descriptors_in state) file.parent rule.arr ≡ Some arr → arr.kind ≢ linear_kind → ruling_record state file rule ≡ None
  unfolding ruling_record
  by_no_linear arr is other =
      ap (option_and_then ruled_by) is ∙ cond-false (arr.kind == linear_kind) (record_numbered (records_in state arr.number) rule.number) None (ne_eqb arr.kind linear_kind other)

  pub by_none : arr_found (descriptors_in state) file.parent rule.arr ≡ None → ruling_record state file rule ≡ None
  unfolding ruling_record
  by_none is = ap (option_and_then ruled_by) is
