-- From what an instruction comes to, to what the bytes that name it come to: its data are cut to Le.
use Rattle.std.proofs.Common.{◌≡◌, ℕ, zero, suc, Bool, true, false, List, [], Option, Some, None, Result, Ok, Err, refl, sym, ◌∙◌, ap, subst, IsOk, OnOk, OnErr}
use Rattle.std.proofs.lemmas.Option.{same_Some}
use Rattle.uicc_types.specs.declared.answers.Answer.{Answer}
use Rattle.uicc_types.specs.declared.answers.StatusWord.{StatusWord}
use Rattle.uicc_types.specs.declared.answers.TheConstants.StatusWord.{WRONG_LENGTH}
use Rattle.apdu_form.specs.Model.{Apdu, command_in, cut_to}
use Rattle.store_form.specs.declared.store.StoreFault.{StoreFault}
use Rattle.card_state.specs.Changes.{Change}
use Rattle.card_state.specs.Persistent.{Persistent}
use Rattle.file_model.specs.Chains.{given, and_given}
use Rattle.file_model.specs.declared.selections.Selection.{Selection}
use Rattle.toolkit_model.specs.Commands.{pending}
use Rattle.card_model.specs.Answers.{Answered, settled, refused as refused_with, carried_out, carried_with, is_status, event_told, cut_answer, tried, answer, told_pending}
use Rattle.card_model.specs.Instructions.{instruction_tried, is_known}
use Rattle.card_model.specs.States.{CardState}
use Rattle.card_model.specs.declared.instructions.Instruction.{Instruction}
use Rattle.card_core.specs.Acting.{ActsOn, ActsAlone, ActsAs, Taken, in_form, in_bytes, in_whole}
use Rattle.card_core.specs.AnyStore.{IsDenied, IsRefusedWith, command_named}
use Rattle.card_core.specs.Cards.{card_with}
use Rattle.card_core.specs.Commands.{by_instruction}
use Rattle.card_core.specs.Known.{KnownBy, MayBeBy, SaysSo, Yields}
use Rattle.card_core.specs.Parts.{CardParts}
use Rattle.card_core.specs.Writing.{WritesChanges}
use Rattle.card_core.proofs.CommandNamedLemmas.{ok_not_err, same_status, same_instruction, named_by}
use Rattle.card_core.proofs.KnownLemmas.{when_ok, both_ok}

-- ---- what comes to the same

module _ {X : Type 0} (result : Result X StoreFault) (old new : CardParts) where
  -- another answer that comes of the same, with the same card after it, the same commits and the same changes
  pub acts_then : (instruction : Instruction) (apdu : Apdu) (mid out : Answer) (comes after : CardState → Answered) (told retold : StatusWord → StatusWord)
      → ((state : Persistent) → (comes (card_with false old state)).state ≡ (after (card_with false old state)).state)
      → ((state : Persistent) → (comes (card_with false old state)).commits ≡ (after (card_with false old state)).commits)
      → ((state : Persistent) → (comes (card_with false old state)).changes ≡ (after (card_with false old state)).changes)
      → ((by : KnownBy) (state : Persistent) → OnOk result (MayBeBy by new (comes (card_with false old state)).state) → OnOk result (SaysSo (comes (card_with false old state)) mid) → OnOk result (SaysSo (after (card_with false old state)) out))
      → ((status : StatusWord) → IsOk result × IsDenied (told status) mid old new → IsRefusedWith (retold status) out)
      → ActsOn result instruction apdu old new mid comes told → ActsOn result instruction apdu old new out after retold
  acts_then instruction apdu mid out comes after told retold left commits changes says refused acts = record {
    says = λ by state known answered. says by state ((acts.yields by state known).left answered) (acts.says by state known answered);
    yields = λ by state known.
        subst (λ (states : List Persistent). Yields result by instruction old new (card_with false old state) (after (card_with false old state)).state states) (commits state)
        (subst (λ (card : CardState). Yields result by instruction old new (card_with false old state) card (comes (card_with false old state)).commits) (left state) (acts.yields by state known));
    writes = λ state held. subst (λ (list : List Change). WritesChanges result old new list) (changes state) (acts.writes state held);
    done = acts.done;
    denied = λ status is. (let gives = acts.denied status is in (gives.0, record { refused = refused status gives; stays = gives.1.stays }));
    moves = acts.moves;
  }

  acts_alike : (instruction : Instruction) (apdu : Apdu) (out : Answer) (comes after : CardState → Answered) → ((state : Persistent) → comes (card_with false old state) ≡ after (card_with false old state))
      → ActsOn result instruction apdu old new out comes (λ status. status) → ActsOn result instruction apdu old new out after (λ status. status)
  acts_alike instruction apdu out comes after alike acts =
      acts_then instruction apdu out out comes after (λ status. status) (λ status. status) (λ state. ap (λ (each : Answered). each.state) (alike state)) (λ state. ap (λ (each : Answered). each.commits) (alike state))
      (λ state. ap (λ (each : Answered). each.changes) (alike state))
      (λ by state may is. subst (λ (each : Answered). OnOk result (SaysSo each out)) (alike state) is) (λ status gives. gives.1.refused) acts

  -- ---- the instruction is named

  module _ (out : Answer) (apdu : Apdu) (instruction : Instruction) (named : Ok instruction ≡ instruction_tried is_known old.channels apdu.class apdu.ins) (table : OnErr result (new.table ≡ old.table)) where
    by_named : (persistent : Persistent) → settled (card_with false old persistent) (carried_with true instruction (card_with false old persistent) apdu) ≡ settled (card_with false old persistent) (by_instruction apdu (card_with false old persistent))
    unfolding and_given
    by_named persistent = ap (λ found. settled (card_with false old persistent) (and_given found (λ chosen. carried_with true chosen (card_with false old persistent) apdu))) named

    pub take_acts : ActsOn result instruction apdu old new out (λ card. settled card (carried_with true instruction card apdu)) (λ status. status) → ActsAs result old new out (in_form old apdu)
    take_acts does = record {
      refused = λ status refused. absurd (ok_not_err instruction status (named ∙ refused));
      acts = λ other each read is.
          subst (λ (chosen : Instruction). ActsOn result chosen each old new out (λ card. settled card (by_instruction apdu card)) (λ status. status)) (same_instruction instruction other (named ∙ is))
          (subst (λ (taken : Apdu). ActsOn result instruction taken old new out (λ card. settled card (by_instruction apdu card)) (λ status. status)) (same_Some apdu each read)
          (acts_alike instruction apdu out (λ card. settled card (carried_with true instruction card apdu)) (λ card. settled card (by_instruction apdu card)) by_named does));
      table = table;
    }

    without_event : (card : CardState) (event : Bool) (came : Result Answered StatusWord) → event ≡ false → and_given came (λ answered. Ok (event_told event answered)) ≡ came
    unfolding and_given
    without_event card event (Err status) silent = refl
    without_event card event (Ok answered) silent = ap (λ (is : Bool). Ok (event_told is answered)) silent

    -- applets are told of STATUS alone
    pub take_alone : is_status instruction ≡ false → ActsAlone result instruction apdu old new out → ActsAs result old new out (in_form old apdu)
    take_alone silent does =
        take_acts (acts_alike instruction apdu out (λ card. settled card (carried_out instruction card apdu)) (λ card. settled card (carried_with true instruction card apdu))
        (λ state. ap (settled (card_with false old state)) (sym (without_event (card_with false old state) (is_status instruction) (carried_out instruction (card_with false old state) apdu) silent))) does)

-- ---- none is named

pub refused_acts : {X : Type 0} (done : X) (parts : CardParts) (out : Answer) (taken : Taken) (status : StatusWord) → taken.named ≡ Err status → out.body ≡ [] → out.status ≡ status → ActsAs (Ok done) parts parts out taken
refused_acts done parts out taken status named body is = record {
  refused = λ other refused. (refl, record { body = body; status_is = is ∙ same_status status other (sym named ∙ refused) }, refl);
  acts = λ instruction apdu read found. absurd (ok_not_err instruction status (sym found ∙ named));
  table = tt;
}

-- ---- Le cuts

pub cut_nothing : (expected : Option ℕ) → cut_to expected [] ≡ []
cut_nothing None = refl
cut_nothing (Some zero) = refl
cut_nothing (Some (suc n)) = refl

cut_came : (card : CardState) (expected : Option ℕ) (came : Result Answered StatusWord) → settled card (and_given came (λ answered. Ok (cut_answer expected answered))) ≡ cut_answer expected (settled card came)
unfolding and_given
cut_came card expected (Ok answered) = refl
cut_came card expected (Err status) = ap (λ (body : List ℕ). record (refused_with card status) { body = body }) (sym (cut_nothing expected))

cut_named : (card : CardState) (apdu : Apdu) (found : Result Instruction StatusWord)
    → settled card (and_given found (λ chosen. and_given (carried_with true chosen card apdu) (λ answered. Ok (cut_answer apdu.expected answered)))) ≡ cut_answer apdu.expected (settled card (and_given found (λ chosen. carried_with true chosen card apdu)))
unfolding and_given
cut_named card apdu (Ok instruction) = cut_came card apdu.expected (carried_with true instruction card apdu)
cut_named card apdu (Err status) = cut_came card apdu.expected (Err status)

-- the data are cut, and the status is the same
pub record IsCut (apdu : Apdu) (mid out : Answer) : Type 0 where
  pub body : out.body ≡ cut_to apdu.expected mid.body
  pub status : out.status ≡ mid.status

module _ {X : Type 0} (result : Result X StoreFault) (old new : CardParts) (bytes : List ℕ) (apdu : Apdu) (read : Some apdu ≡ command_in bytes) (mid out : Answer) (cut : OnOk result (IsCut apdu mid out)) where
  tried_cut : (card : CardState) → cut_answer apdu.expected (settled card (by_instruction apdu card)) ≡ settled card (tried is_known card bytes)
  unfolding tried given
  tried_cut card =
      sym (cut_named card apdu (instruction_tried is_known card.channels apdu.class apdu.ins))
      ∙ ap (λ (found : Option Apdu). settled card (given found WRONG_LENGTH (λ each. and_given (instruction_tried is_known card.channels each.class each.ins) (λ chosen. and_given (carried_with true chosen card each) (λ answered. Ok (cut_answer each.expected answered)))))) read

  cut_says : (card : CardState) → SaysSo (settled card (by_instruction apdu card)) mid → IsCut apdu mid out → SaysSo (settled card (tried is_known card bytes)) out
  cut_says card says is = subst (λ (each : Answered). SaysSo each out) (tried_cut card) (record { body = is.body ∙ ap (cut_to apdu.expected) says.body; status = is.status ∙ says.status })

  refused_cut : (word : StatusWord) → IsRefusedWith word mid → IsCut apdu mid out → IsRefusedWith word out
  refused_cut word says is = record { body = is.body ∙ ap (cut_to apdu.expected) says.body ∙ cut_nothing apdu.expected; status_is = is.status ∙ says.status_is }

  -- the data after Ok are cut
  pub cut_acts : ActsAs result old new mid (in_form old apdu) → ActsAs result old new out (in_bytes old bytes)
  cut_acts does = record {
    refused = λ word refused. (let gives = does.refused word (named_by old.channels bytes apdu read ∙ refused) in (gives.0, refused_cut word gives.1 (when_ok result _ gives.0 cut), gives.2));
    acts = λ instruction each found named.
        acts_then result old new instruction each mid out (λ card. settled card (by_instruction apdu card)) (λ card. settled card (tried is_known card bytes)) (λ word. word) (λ word. word)
        (λ state. ap (λ (came : Answered). came.state) (tried_cut (card_with false old state))) (λ state. ap (λ (came : Answered). came.commits) (tried_cut (card_with false old state)))
        (λ state. ap (λ (came : Answered). came.changes) (tried_cut (card_with false old state)))
        (λ by state may says. both_ok result _ _ _ (cut_says (card_with false old state)) says cut) (λ word gives. refused_cut word gives.1.refused (when_ok result _ gives.0 cut))
        (does.acts instruction each (read ∙ found) (named_by old.channels bytes apdu read ∙ named));
    table = does.table;
  }

-- ---- what is named has its form

named_read : (found : Option Apdu) (tested : Apdu → Result Instruction StatusWord) (instruction : Instruction) → given found WRONG_LENGTH tested ≡ Ok instruction → (apdu : Apdu) × (found ≡ Some apdu)
unfolding given
named_read None tested instruction is = absurd (ok_not_err instruction WRONG_LENGTH (sym is))
named_read (Some apdu) tested instruction is = (apdu, refl)

pub named_apdu : (channels : List (Option Selection)) (bytes : List ℕ) (instruction : Instruction) → command_named channels bytes ≡ Ok instruction → (apdu : Apdu) × (command_in bytes ≡ Some apdu)
unfolding command_named
named_apdu channels bytes instruction named = named_read (command_in bytes) _ instruction named

pub acts_named : {X : Type 0} (result : Result X StoreFault) (old new : CardParts) (bytes : List ℕ) (out : Answer) → ActsAs result old new out (in_whole old bytes)
    → (instruction : Instruction) (named : command_named old.channels bytes ≡ Ok instruction)
    → ActsOn result instruction (named_apdu old.channels bytes instruction named).0 old new out (λ card. answer card bytes) (told_pending (pending old.session))
acts_named result old new bytes out does instruction named =
    let read = named_apdu old.channels bytes instruction named in
    does.acts instruction read.0 read.1 named
