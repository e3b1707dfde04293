-- What a command comes to over a good card, and what a fault in it leaves.
use Rattle.std.proofs.Common.{◌≡◌, ◌⊎◌, inr, ℕ, zero, arith, Bool, true, List, [], Option, Some, None, option_map, refl, sym, ◌∙◌, ap, subst, IfSome, IsSomeAnd, is_some, Result, Ok, Err, MatchResult, OnOk, OnErr}
use Rattle.std.proofs.lemmas.Bool.{false≢true}
use Rattle.std.proofs.lemmas.Option.{IfSome_then}
use Rattle.uicc_types.specs.declared.answers.Answer.{Answer}
use Rattle.uicc_types.specs.Told.{AreBytes}
use Rattle.uicc_types.specs.declared.answers.TheConstants.StatusWord.{MEMORY_PROBLEM}
use Rattle.store_form.specs.declared.store.StoreFault.{StoreFault}
use Rattle.store_form.specs.declared.store.StoreFault.TheVariants as store
use Rattle.card_state.specs.Persistent.{Registration, Persistent}
use Rattle.applet_trait.specs.Minds.{AppletState}
use Rattle.toolkit_model.specs.Commands.{woken_boxes}
use Rattle.card_model.specs.States.{CardState, IsGood, woken}
use Rattle.card_model.proofs.WokenLemmas.{woken_again}
use Rattle.card_model.specs.Answers.{answer, passed}
use Rattle.card_model.specs.Instructions.{is_known}
use Rattle.card_model.specs.Runs.{boxes_left, IsLeft}
use Rattle.card_model.proofs.IsLawfulAnswerLemmas.{each_box_stays}
use Rattle.card_laws.specs.ToolkitLaws.{AnswersLeaveGoodCards, FaultsLeaveGoodCards}
use Rattle.card_core.specs.Parts.{CardParts}
use Rattle.card_core.specs.Cards.{held_by, boxes_kept, card_with, card_of, card_due}
use Rattle.card_core.specs.Moves.{Answers, Fails, Comes, Transmits}
use Rattle.card_core.specs.declared.faults.CardFault.{CardFault}
use Rattle.card_core.specs.declared.faults.CardFault.TheVariants.{PowerLost}

-- ---- boxes stay where rows stay

boxes_stay : (before after : List Registration) (boxes : List (Option AppletState)) → after ≡ before → boxes_left before after boxes ≡ boxes
boxes_stay before after boxes same = ap (λ (rows : List Registration). boxes_left before rows boxes) same ∙ each_box_stays before 0 boxes

-- ---- good cards

pub good_answered : AnswersLeaveGoodCards → (before after : Option CardState) (bytes : List ℕ) (out : Answer) → AreBytes bytes → is_some after ≡ is_some before → IfSome before IsGood
    → IfSome before (λ card. Answers (answer card bytes) out after) → IfSome after IsGood
good_answered law None None bytes out are told good answers = tt
good_answered law None (Some new) bytes out are told good answers = absurd (false≢true (sym told))
good_answered law (Some card) after bytes out are told good answers = subst (λ found. IfSome found IsGood) (sym answers.moved) (law is_known card bytes refl good are).0

pub good_left : FaultsLeaveGoodCards → (before after : Option CardState) (bytes : List ℕ) → AreBytes bytes → is_some after ≡ is_some before → IfSome before IsGood
    → IfSome before (λ card. IsSomeAnd after (IsLeft card (passed card bytes))) → IfSome after IsGood
good_left law None None bytes are told good left = tt
good_left law None (Some new) bytes are told good left = absurd (false≢true (sym told))
good_left law (Some card) None bytes are told good left = tt
good_left law (Some card) (Some new) bytes are told good left = law is_known card new bytes refl good are left

-- ---- a restart that fails is a fault in the command that it comes with

each_left : (parts : CardParts) (bytes : List ℕ) (held : Option Persistent)
    → IfSome (option_map (card_with true parts) held) (λ card. IsSomeAnd (option_map (card_with true parts) held) (IsLeft card (passed card bytes)))
unfolding woken
each_left parts bytes None = tt
each_left parts bytes (Some persistent) =
    let kept : List (Option AppletState) = boxes_kept parts.leaving persistent.rows parts.boxes in
    record {
      persistent = persistent;
      passed = (zero, omega arith, refl);
      woke = ap (λ (now : List (Option AppletState)). record (woken persistent kept) { boxes = now })
          (sym (woken_again persistent.rows kept) ∙ ap (woken_boxes persistent.rows) (sym (boxes_stay persistent.rows persistent.rows (woken_boxes persistent.rows kept) refl)));
    }

pub left_restarted : (parts : CardParts) (bytes : List ℕ) → parts.is_due ≡ true → IfSome (card_of parts) (λ card. IsSomeAnd (card_due parts) (IsLeft card (passed card bytes)))
unfolding card_of card_due
left_restarted parts bytes due =
    subst (λ (now : Bool). IfSome (option_map (card_with now parts) (held_by parts)) (λ card. IsSomeAnd (option_map (card_with true parts) (held_by parts)) (IsLeft card (passed card bytes)))) (sym due)
    (each_left parts bytes (held_by parts))

-- ---- the parts of a command

pub comes_from : {X : Type 0} (result : Result X StoreFault) (old mid new : CardParts) (bytes : List ℕ) (out : Answer)
    → card_of mid ≡ card_of old → Comes result (card_of mid) bytes out (card_of new) (card_due new) → Comes result (card_of old) bytes out (card_of new) (card_due new)
comes_from result old mid new bytes out same comes = subst (λ (before : Option CardState). Comes result before bytes out (card_of new) (card_due new)) same comes

pub good_comes : {X : Type 0} → AnswersLeaveGoodCards → FaultsLeaveGoodCards → (result : Result X StoreFault) (before after due : Option CardState) (bytes : List ℕ) (out : Answer) → AreBytes bytes
    → is_some after ≡ is_some before → is_some due ≡ is_some before → IfSome before IsGood → Comes result before bytes out after due → MatchResult result (λ done. IfSome after IsGood) (λ fault. IfSome due IsGood)
good_comes law faults (Ok done) before after due bytes out are told told_due good came = good_answered law before after bytes out are told good came
good_comes law faults (Err fault) before after due bytes out are told told_due good came = good_left faults before due bytes are told_due good came

pub on_ok_of : {X : Type 0} (result : Result X StoreFault) (P Q : Type 0) → MatchResult result (λ done. P) (λ fault. Q) → OnOk result P
on_ok_of (Ok done) P Q holds = holds
on_ok_of (Err fault) P Q holds = tt

pub on_err_of : {X : Type 0} (result : Result X StoreFault) (P Q : Type 0) → MatchResult result (λ done. P) (λ fault. Q) → OnErr result Q
on_err_of (Ok done) P Q holds = tt
on_err_of (Err fault) P Q holds = holds

-- ---- a fault is answered, or there is no answer

pub fail_moves : {X : Type 0} (done : X) (fault : StoreFault) (result : Result X CardFault) (before after : Option CardState) (bytes : List ℕ) (out : Answer)
    → (fault ≡ store.Failed → (result ≡ Ok done) × (out.status ≡ MEMORY_PROBLEM)) → (fault ≡ store.PowerLost → result ≡ Err PowerLost) → out.body ≡ []
    → IfSome before (λ card. IsSomeAnd after (IsLeft card (passed card bytes))) → Transmits result before after bytes out
fail_moves done store.Failed result before after bytes out failed lost body left =
    subst (λ (answer_is : Result _ CardFault). Transmits answer_is before after bytes out) (sym (failed refl).0)
    (IfSome_then before {P = λ card. IsSomeAnd after (IsLeft card (passed card bytes))} {Q = λ card. Answers (answer card bytes) out after ⊎ Fails card bytes out after}
    left (λ card is. inr (record { body = body; status = (failed refl).1; left = is })))
fail_moves done store.PowerLost result before after bytes out failed lost body left = subst (λ (answer_is : Result _ CardFault). Transmits answer_is before after bytes out) (sym (lost refl)) left
