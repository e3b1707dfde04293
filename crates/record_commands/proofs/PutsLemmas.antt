-- The changes that UPDATE RECORD, INCREASE and a change of the life cycle make by their meaning.
use Rattle.std.proofs.Common.{◌≡◌, ℕ, Bool, true, false, List, [], ◌∷◌, take, ◌==◌, not, cond, Result, Ok, Err, IfOk, refl}
use Rattle.uicc_types.specs.declared.answers.StatusWord.{StatusWord}
use Rattle.uicc_types.specs.declared.answers.TheConstants.StatusWord.{SECURITY_NOT_SATISFIED}
use Rattle.apdu_form.specs.Model.{Apdu}
use Rattle.card_state.specs.Changes.{Change, PutLife}
use Rattle.card_state.specs.Persistent.{Persistent}
use Rattle.access_rules.specs.declared.rules.Op.{Op}
use Rattle.access_rules.specs.declared.rules.Op.TheVariants.{UpdateRecord, Increase}
use Rattle.access_rules.specs.declared.rules.Verified.{Verified}
use Rattle.file_model.specs.declared.descriptors.Descriptor.{Descriptor}
use Rattle.file_model.specs.declared.selections.Selection.{Selection}
use Rattle.file_model.specs.Chains.{and_given}
use Rattle.file_model.specs.Access.{may}
use Rattle.file_model.specs.LifeCycles.{bringing, life_in}
use Rattle.file_model.specs.Outcomes.{FileOutcome}
use Rattle.file_model.specs.Records.{number_to_update, record_updating, record_update_in, sum_to_write, increasing, increase_in}
use Rattle.binary_commands.proofs.WritesLemmas.{Makes, past_refusal}
use Rattle.record_commands.specs.Updating.{record_puts, sum_puts, life_puts}

-- ---- UPDATE RECORD

named_makes : (state : Persistent) (selection : Selection) (apdu : Apdu) (file : Descriptor) (named : Result ℕ StatusWord)
    → IfOk (and_given named (λ number. Ok (record_updating state selection apdu file number))) (λ outcome. outcome.changes ≡ record_puts file apdu.body named)
unfolding and_given record_updating
named_makes state selection apdu file (Ok number) = refl
named_makes state selection apdu file (Err status) = tt

named_few : (file : Descriptor) (bytes : List ℕ) (named : Result ℕ StatusWord) → take 1 (record_puts file bytes named) ≡ record_puts file bytes named
named_few file bytes (Ok number) = refl
named_few file bytes (Err status) = refl

pub update_makes : (seen : Verified) (selection : Selection) (apdu : Apdu) (file : Descriptor)
    → Makes (λ state. record_update_in state seen selection apdu file) (λ state. record_puts file apdu.body (number_to_update file selection apdu))
unfolding record_update_in
update_makes seen selection apdu file = record {
  made = λ state. past_refusal _ (not (may state UpdateRecord seen file)) SECURITY_NOT_SATISFIED _ (named_makes state selection apdu file (number_to_update file selection apdu));
  few = λ state. named_few file apdu.body (number_to_update file selection apdu);
}

-- ---- INCREASE

sum_makes : (state : Persistent) (selection : Selection) (apdu : Apdu) (file : Descriptor) (sum : Result (List ℕ) StatusWord)
    → IfOk (and_given sum (λ bytes. Ok (increasing state selection apdu file bytes))) (λ outcome. outcome.changes ≡ sum_puts file sum)
unfolding and_given increasing
sum_makes state selection apdu file (Ok sum) = refl
sum_makes state selection apdu file (Err status) = tt

sum_few : (file : Descriptor) (sum : Result (List ℕ) StatusWord) → take 1 (sum_puts file sum) ≡ sum_puts file sum
sum_few file (Ok sum) = refl
sum_few file (Err status) = refl

pub increase_makes : (seen : Verified) (selection : Selection) (apdu : Apdu) (file : Descriptor) → Makes (λ state. increase_in state seen selection apdu file) (λ state. sum_puts file (sum_to_write state apdu file))
unfolding increase_in
increase_makes seen selection apdu file = record {
  made = λ state. past_refusal _ (not (may state Increase seen file)) SECURITY_NOT_SATISFIED _ (sum_makes state selection apdu file (sum_to_write state apdu file));
  few = λ state. sum_few file (sum_to_write state apdu file);
}

-- ---- DEACTIVATE FILE and ACTIVATE FILE

life_few : (b : Bool) (change : Change) → take 1 (cond b [] (change ∷ [])) ≡ cond b [] (change ∷ [])
life_few true change = refl
life_few false change = refl

pub life_makes : (op : Op) (life : ℕ) (seen : Verified) (selection : Selection) (file : Descriptor) → Makes (λ state. life_in op life state seen selection file) (λ state. life_puts file life)
unfolding life_in bringing
life_makes op life seen selection file = record {
  made = λ state. past_refusal _ (not (may state op seen file)) SECURITY_NOT_SATISFIED (Ok (bringing state selection life file)) refl;
  few = λ state. life_few (file.life == life) (PutLife file.number life);
}
