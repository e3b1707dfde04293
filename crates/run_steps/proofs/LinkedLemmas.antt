-- What the link passes for a command, beside the command's own bytes: the card answers both alike, but for the cut to Le.
use Rattle.std.proofs.Common.{◌≡◌, inl, inr, ℕ, ◌<◌, ◌≤◌, Bool, true, false, List, [], ◌∷◌, ◌++◌, length, Option, Some, None, refl, sym, ◌∙◌, ap, subst, arith, ◌≢◌, ◌^◌, ◌/◌, ◌%◌, ◌==◌, ◌&&◌, ◌||◌, not, if◌then◌else◌, is_some, Contains, IfSome, IsTrue, MatchBool}
use Rattle.std.proofs.lemmas.Bool.{eqb-false, not-true, and_parts}
use Rattle.std.proofs.lemmas.List.{length-append, get_or_append_left, take_all}
use Rattle.std.proofs.Math.Bool.{and-false}
use Rattle.std.specs.Prelude.{⊤}
use Rattle.std.specs.List.{list_all}
use Rattle.uicc_types.specs.Told.{AreBytes}
use Rattle.uicc_types.specs.declared.answers.Answer.{Answer}
use Rattle.uicc_types.specs.declared.answers.StatusWord.{StatusWord}
use Rattle.uicc_types.specs.declared.answers.TheConstants.StatusWord.{MEMORY_PROBLEM}
use Rattle.apdu_form.specs.Model.{Apdu, IsCommand, data_field, le_field, fields_in, command_in}
use Rattle.apdu_form.proofs.CommandInLemmas.{commands_are}
use Rattle.t0_link.specs.declared.instructions.TheConstants.{GET_RESPONSE, STATUS}
use Rattle.t0_link.specs.declared.tpdus.Transfer.TheVariants.{GetResponse, Outgoing, Incoming}
use Rattle.t0_link.specs.Tpdus.{is_outgoing}
use Rattle.t0_link.specs.Linking.{Course, Answers, Passes, status_alone}
use Rattle.t0_link.specs.Carrying.{is_carried_by, command_answer, cut_answer_to}
use Rattle.t0_link.specs.Passing.{IsPlain, GivesAnswer, passed_by, passed_apdu}
use Rattle.t0_link.proofs.CommandAnswerLemmas.{carried_gives, no_data}
use Rattle.card_model.specs.Answers.{Answered, cut_answer, answer_of}
use Rattle.card_model.specs.Instructions.{has_toolkit}
use Rattle.card_model.specs.Laws.{IsKnownStatus, IsStatusOf, statuses, tree_statuses, PlainAnswersAreLawful, IsLawfulAnswer, is_of_tree_named, key_named}
use Rattle.card_model.specs.States.{CardState, IsGood}
use Rattle.card_model.specs.declared.instructions.Instruction.{Instruction}
use Rattle.card_model.proofs.RowNamedLemmas.{all_hold}
use Rattle.card_laws.specs.Lawful.{IsStatus, toolkit_statuses, IsLawfulWithApplets, AnswersAreLawful as AnswersWithAppletsAreLawful}
use Rattle.card_core.proofs.ActsAsLemmas.{cut_nothing}
use Rattle.run_steps.specs.Le.{asks_by_le}
use Rattle.run_steps.specs.Linked.{shown, HasOwnAnswer, GivesOwnAnswer, LinkChangesNoAnswer}
use Rattle.run_steps.proofs.LeLemmas.{answer_cut, answer_keeps}
use Rattle.run_steps.proofs.BareBytesLemmas.{bare_read}

-- ---- what the link can pass back: data that fit, and a status that isn't the link's own

abbrev pub Fits : Answered → Type 0
Fits answered = (length answered.body ≤ 256) × IsPlain (shown answered)

listed_plain : (list : List StatusWord) → list_all (λ word. not (word.0 / 256 == 0x61)) list ≡ true → (status : StatusWord) → Contains list status → IsPlain (record { body = []; status = status })
listed_plain list none status there = eqb-false (status.0 / 256) 0x61 (not-true (status.0 / 256 == 0x61) (all_hold (λ word. not (word.0 / 256 == 0x61)) list none status there))

of_word : (status other : StatusWord) → status ≡ other → other.0 / 256 ≢ 0x61 → IsPlain (record { body = []; status = status })
of_word status other is plain same = plain (ap (λ (word : StatusWord). word.0 / 256) (sym is) ∙ same)

known_plain : (status : StatusWord) → IsKnownStatus status → IsPlain (record { body = []; status = status })
known_plain status (inl there) = listed_plain statuses refl status there
known_plain status (inr (inl (width, low, is))) = of_word status _ is (λ same. absurd (omega (arith, low, same)))
known_plain status (inr (inr (inl (tries, low, is)))) = of_word status _ is (λ same. absurd (omega (arith, low, same)))
known_plain status (inr (inr (inr (count, low, is)))) = of_word status _ is (λ same. absurd (omega (arith, low, same)))

answered_plain : (of_tree : Bool) (status : StatusWord) → IsStatusOf of_tree status → IsPlain (record { body = []; status = status })
answered_plain of_tree status (inl known) = known_plain status known
answered_plain of_tree status (inr tree) = listed_plain tree_statuses refl status tree.1

status_plain : (of_tree : Bool) (status : StatusWord) → IsStatus of_tree status → IsPlain (record { body = []; status = status })
status_plain of_tree status (inl known) = answered_plain of_tree status known
status_plain of_tree status (inr there) = listed_plain toolkit_statuses refl status there

-- a good card's answers fit, whether it runs applets or not
module _ (without : PlainAnswersAreLawful) (with_applets : AnswersWithAppletsAreLawful) (knows : Instruction → Bool) (card : CardState) (good : IsGood card) where
  pub answers_fit : (bytes : List ℕ) → AreBytes bytes → Fits (answer_of knows card bytes)
  answers_fit bytes are = by_applets (has_toolkit knows) refl where
    by_applets : (runs : Bool) → has_toolkit knows ≡ runs → Fits (answer_of knows card bytes)
    by_applets true is =
        let lawful : IsLawfulWithApplets card (is_of_tree_named bytes) (key_named bytes) (answer_of knows card bytes) = with_applets knows card bytes is good are in
        (lawful.short, status_plain (is_of_tree_named bytes) (answer_of knows card bytes).status lawful.status)
    by_applets false is =
        let lawful : IsLawfulAnswer card (is_of_tree_named bytes) (key_named bytes) (answer_of knows card bytes) =
        subst (λ (runs : Bool). MatchBool runs ⊤ (IsLawfulAnswer card (is_of_tree_named bytes) (key_named bytes) (answer_of knows card bytes))) is (without knows card bytes good are) in
        (lawful.short, answered_plain (is_of_tree_named bytes) (answer_of knows card bytes).status lawful.status)

-- ---- bytes and cuts

front_bytes : (front rest : List ℕ) → AreBytes (front ++ rest) → AreBytes front
front_bytes front rest are k d low = subst (λ (byte : ℕ). byte < 2 ^ 8) (get_or_append_left front rest d k low) (are k d (omega (arith, low, length-append front rest)))

-- an answer that Le doesn't cut
uncut : (most : ℕ) (answered : Answered) → length answered.body ≤ most → cut_answer (Some most) answered ≡ answered
uncut most answered few = ap (λ (body : List ℕ). record answered { body = body }) (take_all most answered.body few)

-- what a terminal makes of an answer is the answer that is cut
shown_cut : (expected : Option ℕ) (answered : Answered) → cut_answer_to expected (shown answered) ≡ shown (cut_answer expected answered)
shown_cut None answered = refl
shown_cut (Some most) answered = refl

-- ---- the law

module _ (knows : Instruction → Bool) (card : CardState) (good : IsGood card) (fit : (bytes : List ℕ) → AreBytes bytes → Fits (answer_of knows card bytes))
    (bytes : List ℕ) (are : AreBytes bytes) (class ins p1 p2 : ℕ) (body : List ℕ)
  where
    abbrev with_le : Option ℕ → Apdu
    with_le expected = record { class = class; ins = ins; p1 = p1; p2 = p2; body = body; expected = expected }

    abbrev own : Answered
    own = answer_of knows card bytes

    -- the card answers what is passed as it answers the command, but for the cut
    abbrev IsOwn : Option ℕ → List ℕ → Type 0
    IsOwn expected passed = (own ≡ cut_answer expected (answer_of knows card passed)) × Fits (answer_of knows card passed)

    abbrev header : List ℕ → List ℕ
    header fields = class ∷ ins ∷ p1 ∷ p2 ∷ fields

    spelled : (expected : Option ℕ) → command_in bytes ≡ Some (with_le expected) → IsCommand bytes (with_le expected)
    spelled expected read = subst (λ (command : Option Apdu). IfSome command (IsCommand bytes)) read (commands_are bytes are)

    -- a command whose data go to the card is passed without Le
    own_incoming : (expected : Option ℕ) → command_in bytes ≡ Some (with_le expected) → is_outgoing ins p1 ≡ false → IsOwn expected (header (data_field body))
    own_incoming expected read none =
        let asks : asks_by_le ins p1 ≡ false = ap (λ (b : Bool). not (ins == STATUS) && b) none ∙ and-false (not (ins == STATUS)) in (
          answer_cut knows card (with_le expected) asks bytes (header (data_field body)) read (bare_read (with_le expected)),
          fit (header (data_field body)) (front_bytes (header (data_field body)) (le_field expected) (subst AreBytes (spelled expected read).spelling are)),
        )

    -- one whose data come from the card has the bytes of the TPDU, unless it is STATUS without Le
    same_bytes : (most : ℕ) → command_in bytes ≡ Some (with_le (Some most)) → body ≡ [] → bytes ≡ header (most % 256 ∷ [])
    same_bytes most read none = (spelled (Some most) read).spelling ∙ ap (λ (data' : List ℕ). header (data_field data' ++ most % 256 ∷ [])) none

    own_with_le : (most : ℕ) → command_in bytes ≡ Some (with_le (Some most)) → body ≡ [] → IsOwn (Some most) (header (most % 256 ∷ []))
    own_with_le most read none =
        subst (IsOwn (Some most)) (same_bytes most read none) (sym (uncut most own (answer_keeps knows card (with_le (Some most)) bytes read)), fit bytes are)

    all_read : command_in (header (0 ∷ [])) ≡ Some (record { class = class; ins = ins; p1 = p1; p2 = p2; body = []; expected = Some 256 })
    unfolding command_in fields_in
    all_read = refl

    own_without_le : command_in bytes ≡ Some (with_le None) → body ≡ [] → (ins == STATUS) ≡ true → IsOwn None (header (0 ∷ []))
    own_without_le read none is =
        let asks : asks_by_le ins p1 ≡ false = ap (λ (b : Bool). not b && is_outgoing ins p1) is in
        let read_all : command_in (header (0 ∷ [])) ≡ Some (with_le (Some 256)) =
        all_read ∙ ap (λ (data' : List ℕ). Some (record { class = class; ins = ins; p1 = p1; p2 = p2; body = data'; expected = Some 256 })) (sym none) in
        let same : answer_of knows card (header (0 ∷ [])) ≡ own =
        answer_cut knows card (with_le (Some 256)) asks (header (0 ∷ [])) bytes read_all read ∙ uncut 256 own (fit bytes are).0 in
        (sym same, subst Fits (sym same) (fit bytes are))

    own_outgoing : (expected : Option ℕ) → command_in bytes ≡ Some (with_le expected) → IsTrue (is_carried_by Outgoing (with_le expected)) → IsOwn expected (passed_by Outgoing (with_le expected))
    own_outgoing None read known =
        let parts = and_parts (length body == 0) (is_some {T = ℕ} None || ins == STATUS) known in own_without_le read (no_data body parts.0) parts.1
    own_outgoing (Some most) read known =
        let parts = and_parts (length body == 0) (is_some (Some most) || ins == STATUS) known in own_with_le most read (no_data body parts.0)

    by_way : (expected : Option ℕ) → command_in bytes ≡ Some (with_le expected) → (responds out : Bool) → is_outgoing ins p1 ≡ out
        → IsTrue (is_carried_by (if responds then GetResponse else (if out then Outgoing else Incoming)) (with_le expected))
        → IsOwn expected (passed_by (if responds then GetResponse else (if out then Outgoing else Incoming)) (with_le expected))
    by_way expected read true out is known = cc
    by_way expected read false true is known = own_outgoing expected read known
    by_way expected read false false is known = own_incoming expected read is

    -- what is passed has the command's own answer, which the terminal has then
    given_own : (expected : Option ℕ) (passed : List ℕ) (course : Course) → GivesAnswer passed expected course → IsOwn expected passed → GivesOwnAnswer knows card bytes expected course
    given_own expected passed (Answers linked) gives is = gives
    given_own expected passed (Passes apdu linked) gives is =
        let answered : Answered = answer_of knows card passed in
        subst (λ (each : List ℕ). HasOwnAnswer own (answer_of knows card each) expected linked) (sym gives.0) (record {
          same = is.0;
          given = gives.1 (shown answered) is.1.0 is.1.1 ∙ ap (λ (answer : Answer). record { answer = answer; kept = None }) (shown_cut expected answered ∙ ap shown (sym is.0));
          failed = gives.1 (status_alone MEMORY_PROBLEM) (omega arith) (eqb-false (0x6581 / 256) 0x61 refl) ∙ ap (λ (data' : List ℕ). record { answer = record { body = data'; status = MEMORY_PROBLEM }; kept = None }) (cut_nothing expected);
        })

pub changes_none : PlainAnswersAreLawful → AnswersWithAppletsAreLawful → LinkChangesNoAnswer
changes_none without with_applets knows card kept bytes command good are read known =
    let fit : (each : List ℕ) → AreBytes each → Fits (answer_of knows card each) = answers_fit without with_applets knows card good in
    given_own knows card good fit bytes are command.class command.ins command.p1 command.p2 command.body command.expected (passed_apdu command) (command_answer kept command) (carried_gives kept command known)
    (by_way knows card good fit bytes are command.class command.ins command.p1 command.p2 command.body command.expected read (command.ins == GET_RESPONSE) (is_outgoing command.ins command.p1) refl known)
