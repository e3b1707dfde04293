-- What stands where a fault stops an UPDATE BINARY.
use Rattle.std.proofs.Common.{◌≡◌, ◌+◌, ◌≤◌, Bool, true, [], ◌∷◌, length, Option, Some, refl, sym, ap, ◌∙◌, subst, inl, inr, arith, ◌⊎◌, not, nat_lt, IsSomeAnd, Contains, Result, Ok, le-ltb}
use Rattle.uicc_types.specs.declared.answers.StatusWord.{StatusWord}
use Rattle.uicc_types.specs.declared.answers.TheConstants.StatusWord.{SECURITY_NOT_SATISFIED, WRONG_OFFSET}
use Rattle.apdu_form.specs.Model.{Apdu}
use Rattle.card_state.specs.Persistent.{Persistent}
use Rattle.card_state.specs.Changes.{PutBytes}
use Rattle.card_state.specs.Changing.{with_bytes}
use Rattle.access_rules.specs.declared.rules.Op.TheVariants.{UpdateBinary}
use Rattle.access_rules.specs.declared.rules.Verified.{Verified}
use Rattle.file_model.specs.declared.descriptors.Descriptor.{Descriptor}
use Rattle.file_model.specs.declared.selections.Selection.{Selection}
use Rattle.file_model.specs.Chains.{refused_if}
use Rattle.file_model.specs.Access.{may}
use Rattle.file_model.specs.Outcomes.{FileOutcome, settled_file}
use Rattle.file_model.specs.Binaries.{offset_of, updating, update_in}
use Rattle.binary_commands.proofs.WritesLemmas.{Makes, past_refusal}

module _ (state : Persistent) (seen : Verified) (selection : Selection) (apdu : Apdu) (file : Descriptor) where
  abbrev update_tested : Bool → Bool → Result FileOutcome StatusWord
  update_tested allows outside = refused_if (not allows) SECURITY_NOT_SATISFIED (refused_if outside WRONG_OFFSET (Ok (updating state selection apdu file)))

  abbrev outside_update : Bool
  outside_update = nat_lt file.size (offset_of apdu + length apdu.body)

  pub update_done : true ≡ may state UpdateBinary seen file → offset_of apdu + length apdu.body ≤ file.size → update_in state seen selection apdu file ≡ Ok (updating state selection apdu file)
  unfolding update_in refused_if
  update_done granted near = ap (λ (b : Bool). update_tested b outside_update) (sym granted) ∙ ap (λ (b : Bool). update_tested true b) (le-ltb file.size (offset_of apdu + length apdu.body) near)

  abbrev written : Persistent
  written = with_bytes file.number (offset_of apdu) apdu.body state

  -- it passes that state, and so some
  pub update_changes : true ≡ may state UpdateBinary seen file → offset_of apdu + length apdu.body ≤ file.size → (settled_file selection (update_in state seen selection apdu file)).passed ≡ [] → ⊥
  unfolding updating
  update_changes granted near none =
      let both : written ∷ [] ≡ [] = sym (ap (λ (m : Result FileOutcome StatusWord). (settled_file selection m).passed) (update_done granted near)) ∙ none in
      cc

  -- after a fault of its one commit one of both states stands
  pub update_passes : (after : Option Persistent) → true ≡ may state UpdateBinary seen file → offset_of apdu + length apdu.body ≤ file.size → (after ≡ Some state) ⊎ (after ≡ Some written)
      → IsSomeAnd after (Contains (state ∷ (settled_file selection (update_in state seen selection apdu file)).passed))
  unfolding updating
  update_passes after granted near which =
      subst (λ (m : Result FileOutcome StatusWord). IsSomeAnd after (Contains (state ∷ (settled_file selection m).passed))) (sym (update_done granted near)) (of_both which)
    where
      of_both : (after ≡ Some state) ⊎ (after ≡ Some written) → IsSomeAnd after (Contains (state ∷ written ∷ []))
      of_both (inl same) = subst (λ (o : Option Persistent). IsSomeAnd o (Contains (state ∷ written ∷ []))) (sym same) (0, omega arith, refl)
      of_both (inr new) = subst (λ (o : Option Persistent). IsSomeAnd o (Contains (state ∷ written ∷ []))) (sym new) (1, omega arith, refl)

-- its change is that of the bytes
pub update_makes : (seen : Verified) (selection : Selection) (apdu : Apdu) (file : Descriptor) → Makes (λ state. update_in state seen selection apdu file) (λ state. PutBytes file.number (offset_of apdu) apdu.body ∷ [])
unfolding update_in updating
update_makes seen selection apdu file = record {
  made = λ state. past_refusal _ (not (may state UpdateBinary seen file)) SECURITY_NOT_SATISFIED _ (past_refusal _ (nat_lt file.size (offset_of apdu + length apdu.body)) WRONG_OFFSET (Ok (updating state selection apdu file)) refl);
  few = λ state. refl;
}
