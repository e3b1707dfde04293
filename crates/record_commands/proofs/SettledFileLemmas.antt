-- What an UPDATE RECORD, an INCREASE or a change of the life cycle passes, and what stands where a fault stops it.
use Rattle.std.proofs.Common.{◌≡◌, ℕ, Bool, true, false, cond, List, [], ◌∷◌, Option, Some, refl, sym, ap, ◌∙◌, subst, inl, inr, arith, ◌⊎◌, ◌==◌, not, IsSomeAnd, Contains, Result, Ok}
use Rattle.uicc_types.specs.declared.answers.StatusWord.{StatusWord}
use Rattle.uicc_types.specs.declared.answers.TheConstants.StatusWord.{SECURITY_NOT_SATISFIED}
use Rattle.apdu_form.specs.Model.{Apdu}
use Rattle.store_form.specs.declared.store.StoreFault.{StoreFault}
use Rattle.card_state.specs.Persistent.{Persistent}
use Rattle.card_state.specs.Standing.{standing}
use Rattle.card_state.specs.Memory.{Memory, Reads, held}
use Rattle.card_state.specs.Changing.{with_life, with_newest_record}
use Rattle.access_rules.specs.declared.rules.Op.{Op}
use Rattle.access_rules.specs.declared.rules.Op.TheVariants.{UpdateRecord, Increase}
use Rattle.access_rules.specs.declared.rules.Verified.{Verified}
use Rattle.file_model.specs.declared.descriptors.Descriptor.{Descriptor}
use Rattle.file_model.specs.declared.selections.Selection.{Selection}
use Rattle.file_model.specs.Chains.{refused_if, and_given}
use Rattle.file_model.specs.Access.{may}
use Rattle.file_model.specs.LifeCycles.{bringing, life_in}
use Rattle.file_model.specs.Outcomes.{FileOutcome, settled_file}
use Rattle.file_model.specs.Records.{number_to_update, record_updating, record_update_in, sum_to_write, increasing, increase_in}
use Rattle.record_commands.specs.Updating.{record_written}

-- what was read alone stands for the same state
pub reads_held : {T : Type 0} (old new : Memory) (result : Result T StoreFault) → Reads old new result → held new ≡ held old
reads_held old new result reads = λ i. standing (reads.keeps.mark i) (reads.stable i)

-- ---- a command that passes one state

of_both : (old new : Persistent) (after : Option Persistent) → (after ≡ Some old) ⊎ (after ≡ Some new) → IsSomeAnd after (Contains (old ∷ new ∷ []))
of_both old new after (inl same) = subst (λ (o : Option Persistent). IsSomeAnd o (Contains (old ∷ new ∷ []))) (sym same) (0, omega arith, refl)
of_both old new after (inr changed) = subst (λ (o : Option Persistent). IsSomeAnd o (Contains (old ∷ new ∷ []))) (sym changed) (1, omega arith, refl)

-- after a fault of its one commit one of both states stands
pub one_passes : (state new : Persistent) (passed : List Persistent) (after : Option Persistent) → passed ≡ new ∷ [] → (after ≡ Some state) ⊎ (after ≡ Some new) → IsSomeAnd after (Contains (state ∷ passed))
one_passes state new passed after is which = subst (λ (all : List Persistent). IsSomeAnd after (Contains (state ∷ all))) (sym is) (of_both state new after which)

-- and it passes some
pub one_changes : (new : Persistent) (passed : List Persistent) → passed ≡ new ∷ [] → passed ≡ [] → ⊥
one_changes new passed is none = let both : new ∷ [] ≡ [] = sym is ∙ none in cc

-- ---- the commands

abbrev passed_by : Selection → Result FileOutcome StatusWord → List Persistent
passed_by selection meaning = (settled_file selection meaning).passed

module _ (state : Persistent) (seen : Verified) (selection : Selection) (apdu : Apdu) (file : Descriptor) where
  abbrev done_with : Result ℕ StatusWord → Result FileOutcome StatusWord
  done_with named = and_given named (λ n. Ok (record_updating state selection apdu file n))

  pub update_passed : (number : ℕ) → true ≡ may state UpdateRecord seen file → number_to_update file selection apdu ≡ Ok number
      → (settled_file selection (record_update_in state seen selection apdu file)).passed ≡ record_written file number apdu.body state ∷ []
  unfolding record_update_in record_updating refused_if and_given
  update_passed number granted named =
      ap (λ (b : Bool). passed_by selection (refused_if (not b) SECURITY_NOT_SATISFIED (done_with (number_to_update file selection apdu)))) (sym granted)
      ∙ ap (λ (r : Result ℕ StatusWord). passed_by selection (done_with r)) named

  abbrev increased_by : Result (List ℕ) StatusWord → Result FileOutcome StatusWord
  increased_by found = and_given found (λ s. Ok (increasing state selection apdu file s))

  pub increase_passed : (sum : List ℕ) → true ≡ may state Increase seen file → sum_to_write state apdu file ≡ Ok sum
      → (settled_file selection (increase_in state seen selection apdu file)).passed ≡ with_newest_record file.number sum state ∷ []
  unfolding increase_in increasing refused_if and_given
  increase_passed sum granted found =
      ap (λ (b : Bool). passed_by selection (refused_if (not b) SECURITY_NOT_SATISFIED (increased_by (sum_to_write state apdu file)))) (sym granted)
      ∙ ap (λ (r : Result (List ℕ) StatusWord). passed_by selection (increased_by r)) found

module _ (op : Op) (life : ℕ) (state : Persistent) (seen : Verified) (selection : Selection) (file : Descriptor) where
  pub life_passed : true ≡ may state op seen file → (file.life == life) ≡ false → (settled_file selection (life_in op life state seen selection file)).passed ≡ with_life file.number life state ∷ []
  unfolding life_in bringing refused_if
  life_passed granted other =
      ap (λ (b : Bool). passed_by selection (refused_if (not b) SECURITY_NOT_SATISFIED (Ok (bringing state selection life file)))) (sym granted)
      ∙ ap (λ (b : Bool). cond b [] (with_life file.number life state ∷ [])) other
