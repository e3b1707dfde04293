-- What an answer tells of a command that is to be fetched, and what comes of the whole command.
use Rattle.std.proofs.Common.{◌≡◌, ◌≢◌, ◌==◌, ◌+◌, ℕ, Bool, true, false, List, [], length, Option, Some, None, refl, sym, ◌∙◌, ap, subst, IsSomeAnd, Result, Ok, Err, IsOk, OnOk, OnErr, MatchResult, if◌then◌else◌}
use Rattle.std.proofs.lemmas.Bool.{false≢true}
use Rattle.uicc_types.specs.Counts.{raised_by}
use Rattle.uicc_types.specs.declared.answers.Answer.{Answer}
use Rattle.uicc_types.specs.declared.answers.StatusWord.{StatusWord}
use Rattle.uicc_types.specs.declared.answers.TheConstants.StatusWord.{DONE, MEMORY_PROBLEM, WRONG_LENGTH}
use Rattle.apdu_form.specs.Model.{Apdu, command_in}
use Rattle.store_form.specs.declared.store.StoreFault.{StoreFault}
use Rattle.card_state.specs.Persistent.{Persistent}
use Rattle.card_commits.proofs.WritesAllLemmas.{none_written}
use Rattle.file_model.specs.Chains.{given, and_given}
use Rattle.file_model.specs.declared.selections.Selection.{Selection}
use Rattle.file_model.proofs.ChainsLemmas.{unless_so, given_so}
use Rattle.toolkit_model.specs.Sessions.{SessionState}
use Rattle.toolkit_model.specs.Commands.{pending}
use Rattle.card_model.specs.Answers.{Answered, settled, refused as refused_card, carried_with, cut_answer, tried, told_pending, with_pending, answer_of, answer, passed}
use Rattle.card_model.specs.Instructions.{instruction_tried, is_known}
use Rattle.card_model.specs.Runs.{IsLeft}
use Rattle.card_model.specs.States.{CardState}
use Rattle.card_model.specs.declared.instructions.Instruction.{Instruction}
use Rattle.card_core.specs.AnyStore.{command_named, IsRefusedWith}
use Rattle.card_core.specs.Acting.{ActsAs, in_bytes, in_whole}
use Rattle.card_core.specs.Cards.{held_by, card_with, card_of, card_due}
use Rattle.card_core.specs.Known.{KnownBy, ByStore, CommitsSo, MayBeBy, SaysSo, IsLeftAt}
use Rattle.card_core.specs.Moves.{Answers, IsAnswered, StopsAt}
use Rattle.card_core.specs.Parts.{CardParts}
use Rattle.card_core.specs.Writing.{HasWritten, StopsWriting, WritesChanges}
use Rattle.card_core.proofs.ActsAsLemmas.{acts_then, acts_named}
use Rattle.card_core.proofs.CardOfLemmas.{if_card}
use Rattle.card_core.proofs.CommandNamedLemmas.{same_status}
use Rattle.card_core.proofs.KnownLemmas.{when_ok, both_ok, answers_by_store}

-- ---- another status than 9000 stays

pub told_other : (count : Option ℕ) (status : StatusWord) → (status.0 == DONE.0) ≡ false → told_pending count status ≡ status
told_other None status other = refl
told_other (Some count) status other = ap (λ (is : Bool). if is then record { 0 = 0x9100 + count } else status) other

abbrev IsOther : StatusWord → Type 0
IsOther status = (status.0 == DONE.0) ≡ false

abbrev Named : Instruction → Type 0
Named instruction = Unit {0}

refused_with : (result : Result Instruction StatusWord) (status : StatusWord) → result ≡ Err status → MatchResult result Named IsOther → IsOther status
refused_with (Ok instruction) status is other = absurd (false≢true (ap told_ok is)) where
  told_ok : Result Instruction StatusWord → Bool
  told_ok (Ok _) = false
  told_ok (Err _) = true
refused_with (Err found) status is other = ap told_other_by (sym is) ∙ other where
  told_other_by : Result Instruction StatusWord → Bool
  told_other_by (Ok _) = false
  told_other_by (Err word) = word.0 == DONE.0

each_named : (channels : List (Option Selection)) (class ins : ℕ) → MatchResult (instruction_tried is_known channels class ins) Named IsOther
unfolding instruction_tried
each_named channels class ins =
    unless_so Named IsOther _ _ _ refl (λ _.
    unless_so Named IsOther _ _ _ refl (λ _.
    unless_so Named IsOther _ _ _ refl (λ _.
    unless_so Named IsOther _ _ _ refl (λ _.
    given_so Named IsOther _ _ _ refl (λ found _.
    unless_so Named IsOther _ _ _ refl (λ _. tt))))))

-- no command is refused with 9000 for its form, its class, its channel or its instruction byte
pub named_other : (channels : List (Option Selection)) (bytes : List ℕ) (status : StatusWord) → command_named channels bytes ≡ Err status → (status.0 == DONE.0) ≡ false
unfolding command_named
named_other channels bytes status is =
    refused_with (command_named channels bytes) status is
    (given_so Named IsOther (command_in bytes) _ _ refl (λ apdu _. each_named channels apdu.class apdu.ins))

-- ---- the whole answer

-- the status tells of a command that is to be fetched
pub record IsToldPending (parts : CardParts) (mid out : Answer) : Type 0 where
  pub body : out.body ≡ mid.body
  pub status : out.status ≡ told_pending (pending parts.session) mid.status

module _ {X : Type 0} (result : Result X StoreFault) (old new : CardParts) (bytes : List ℕ) (mid out : Answer) (telling : OnOk result (IsToldPending new mid out)) where
  pending_says : (by : KnownBy) (card : CardState) → MayBeBy by new (settled card (tried is_known card bytes)).state × IsToldPending new mid out → SaysSo (settled card (tried is_known card bytes)) mid → SaysSo (answer card bytes) out
  unfolding answer_of
  pending_says by card both says =
      let answered : Answered = settled card (tried is_known card bytes) in
      record {
        body = both.1.body ∙ says.body;
        status = both.1.status ∙ ap (told_pending (pending new.session)) says.status
            ∙ ap (λ (session : SessionState). told_pending (pending session) answered.status) (sym both.0.session);
      }

  pending_refused : (word : StatusWord) → IsRefusedWith word mid → IsToldPending new mid out → IsRefusedWith (told_pending (pending new.session) word) out
  pending_refused word is tells = record { body = tells.body ∙ is.body; status_is = tells.status ∙ ap (told_pending (pending new.session)) is.status_is }

  pub whole_acts : ActsAs result old new mid (in_bytes old bytes) → ActsAs result old new out (in_whole old bytes)
  unfolding answer_of
  whole_acts does = record {
    refused = λ word refused.
        let gives = does.refused word refused in
        let said = pending_refused word gives.1 (when_ok result _ gives.0 telling) in
        (gives.0, record { body = said.body; status_is = said.status_is ∙ told_other (pending new.session) word (named_other old.channels bytes word refused) }, gives.2);
    acts = λ instruction apdu read named.
        acts_then result old new instruction apdu mid out (λ card. settled card (tried is_known card bytes)) (λ card. answer card bytes) (λ word. word) (told_pending (pending old.session)) (λ state. refl) (λ state. refl) (λ state. refl)
        (λ by state may says.
        let card : CardState = card_with false old state in
        let After : Type 0 = MayBeBy by new (settled card (tried is_known card bytes)).state in
        both_ok result (After × IsToldPending new mid out) (SaysSo (settled card (tried is_known card bytes)) mid) (SaysSo (answer card bytes) out) (pending_says by card)
        (both_ok result After (IsToldPending new mid out) (After × IsToldPending new mid out) (λ first second. (first, second)) may telling) says)
        (λ word gives.
        subst (λ (session : SessionState). IsRefusedWith (told_pending (pending session) word) out) (ap (λ (parts : CardParts). parts.session) gives.1.stays) (pending_refused word gives.1.refused (when_ok result _ gives.0 telling)))
        (does.acts instruction apdu read named);
    table = does.table;
  }

-- ---- a card whose store tells its bytes

tried_refused : (card : CardState) (found : Option Apdu) (status : StatusWord) → given found WRONG_LENGTH (λ apdu. instruction_tried is_known card.channels apdu.class apdu.ins) ≡ Err status
    → given found WRONG_LENGTH (λ apdu. and_given (instruction_tried is_known card.channels apdu.class apdu.ins) (λ chosen. and_given (carried_with true chosen card apdu) (λ answered. Ok (cut_answer apdu.expected answered)))) ≡ Err status
unfolding given and_given
tried_refused card None status is = ap Err (same_status WRONG_LENGTH status is)
tried_refused card (Some apdu) status is = ap (λ found. and_given found (λ chosen. and_given (carried_with true chosen card apdu) (λ answered. Ok (cut_answer apdu.expected answered)))) is

-- it answers what refuses the command, and stays
refused_whole : (card : CardState) (bytes : List ℕ) (status : StatusWord) → command_named card.channels bytes ≡ Err status → answer card bytes ≡ refused_card card status
unfolding answer_of tried command_named
refused_whole card bytes status named =
    ap (λ came. with_pending (settled card came)) (tried_refused card (command_in bytes) status named)
    ∙ ap (λ (word : StatusWord). record (refused_card card status) { status = word }) (told_other (pending card.session) status (named_other card.channels bytes status named))

-- what the whole command comes to, to the card that the store holds
record HasAnswered {X : Type 0} (result : Result X StoreFault) (old new : CardParts) (out : Answer) (card : CardState) (answered : Answered) : Type 0 where
  says : OnOk result (SaysSo answered out)
  left : OnOk result (MayBeBy ByStore new answered.state)
  counted : CommitsSo result old.commits new.commits answered.commits
  stands : OnErr result (IsLeftAt old new card answered.commits)
  writes : WritesChanges result old new answered.changes

refused_held : {X : Type 0} (result : Result X StoreFault) (parts : CardParts) (out : Answer) (state : Persistent) (status : StatusWord) → held_by parts ≡ Some state → IsOk result → IsRefusedWith status out
    → HasAnswered result parts parts out (card_with false parts state) (refused_card (card_with false parts state) status)
refused_held (Ok done) parts out state status held ok is = record {
  says = record { body = is.body; status = is.status_is };
  left = record { known = held; channels = refl; verified = refl; session = refl; boxes = refl };
  counted = refl;
  stands = tt;
  writes = none_written parts.told;
}
refused_held (Err fault) parts out state status held ok is = absurd (false≢true ok)

module _ {X : Type 0} (result : Result X StoreFault) (old new : CardParts) (bytes : List ℕ) (out : Answer) (does : ActsAs result old new out (in_whole old bytes)) where
  by_found : (state : Persistent) → held_by old ≡ Some state → (found : Result Instruction StatusWord) → command_named old.channels bytes ≡ found
      → HasAnswered result old new out (card_with false old state) (answer (card_with false old state) bytes)
  by_found state held (Ok instruction) named =
      let acts = acts_named result old new bytes out does instruction named in
      let yields = acts.yields ByStore state held in
      record { says = acts.says ByStore state held tt; left = yields.left tt; counted = yields.commits_so tt; stands = yields.stands; writes = acts.writes state held }
  by_found state held (Err status) named =
      let gives = does.refused status named in
      let card : CardState = card_with false old state in
      subst (λ (parts : CardParts). HasAnswered result old parts out card (answer card bytes)) (sym gives.2)
      (subst (λ (answered : Answered). HasAnswered result old old out card answered) (sym (refused_whole card bytes status named)) (refused_held result old out state status held gives.0 gives.1))

  has_answered : (state : Persistent) → held_by old ≡ Some state → HasAnswered result old new out (card_with false old state) (answer (card_with false old state) bytes)
  has_answered state held = by_found state held (command_named old.channels bytes) refl

pub whole_answered : {X : Type 0} (result : Result X StoreFault) (old new : CardParts) (bytes : List ℕ) (out : Answer) → old.is_due ≡ false → new.is_due ≡ false → ActsAs result old new out (in_whole old bytes)
    → OnOk result (out.status.0 ≢ MEMORY_PROBLEM.0) → OnErr result (out.body ≡ []) → IsAnswered result old new bytes out
whole_answered {X} (Ok done) old new bytes out rests due does usual empty = record {
  comes =
      if_card old (λ card. Answers (answer card bytes) out (card_of new)) rests
      (λ state held. (let has = has_answered {X = X} (Ok done) old new bytes out does state held in answers_by_store new (answer (card_with false old state) bytes) out due has.says has.left));
  counts = record {
    commits = if_card old (λ card. new.commits ≡ raised_by (length (answer card bytes).commits) old.commits) rests (λ state held. (has_answered {X = X} (Ok done) old new bytes out does state held).counted);
    stopped = tt;
  };
  writes = if_card old (λ card. HasWritten (answer card bytes).changes old new) rests (λ state held. (has_answered {X = X} (Ok done) old new bytes out does state held).writes);
  usual = usual;
  empty = tt;
}
whole_answered {X} (Err fault) old new bytes out rests due does usual empty = record {
  comes = if_card old (λ card. IsSomeAnd (card_due new) (IsLeft card (passed card bytes))) rests (λ state held. (has_answered {X = X} (Err fault) old new bytes out does state held).stands.left);
  counts = record {
    commits = tt;
    stopped =
        if_card old (λ card. StopsAt card.persistent (answer card bytes).commits old.commits new.commits (held_by new)) rests (λ state held. (has_answered {X = X} (Err fault) old new bytes out does state held).stands.stops);
  };
  writes = if_card old (λ card. StopsWriting (answer card bytes).changes old new) rests (λ state held. (has_answered {X = X} (Err fault) old new bytes out does state held).writes);
  usual = tt;
  empty = empty;
}
