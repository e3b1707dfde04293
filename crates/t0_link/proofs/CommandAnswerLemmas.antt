-- A command that is carried has the card's answer to the APDU that is passed for it, cut to Le.
use Rattle.std.proofs.Common.{◌≡◌, ℕ, ◌+◌, ◌*◌, ◌<◌, ◌≤◌, List, [], ◌∷◌, length, Some, None, refl, sym, ◌∙◌, ap, subst, ⊎_elim, arith, ◌≢◌, ◌/◌, ◌%◌, ◌==◌, ◌||◌, Bool, true, false, if◌then◌else◌, Option, IsTrue, is_some, unwrap_or, mod-eq_of_lt}
use Rattle.std.proofs.lemmas.Bool.{eq-eqb, ne_eqb, eqb-false, eqb-true, and_parts, cases_lt}
use Rattle.std.proofs.lemmas.List.{nil_from_length}
use Rattle.std.proofs.lemmas.Nat.{div-mul-add, mod-mul-add}
use Rattle.uicc_types.specs.declared.answers.Answer.{Answer}
use Rattle.apdu_form.specs.Model.{Apdu, data_field, ne_of}
use Rattle.t0_link.specs.declared.answers.TheConstants.{MORE_DATA, WRONG_LE}
use Rattle.t0_link.specs.declared.instructions.TheConstants.{STATUS}
use Rattle.t0_link.specs.declared.tpdus.Transfer.{Transfer}
use Rattle.t0_link.specs.declared.tpdus.Transfer.TheVariants.{GetResponse, Outgoing, Incoming}
use Rattle.t0_link.specs.Tpdus.{transfer_of, data_count, transfer_in, apdu_of}
use Rattle.t0_link.specs.Linking.{Linked, Course, status_alone, counting, fetched, given, kept_back, course_of, link_answer}
use Rattle.t0_link.specs.Carrying.{is_carried, is_carried_by, p3_for, tpdu_of, cut_answer_to, followed, then_received, command_answer}
use Rattle.t0_link.specs.Passing.{passed_by, passed_apdu, IsPlain, GivesAnswer}

-- ---- the TPDU of a command

-- what holds of the course by the way of a TPDU's data holds of the link's answer
pub by_transfer : (P : Course → Type 0) (kept : Option Answer) (tpdu : List ℕ) (transfer : Option Transfer) → transfer ≡ transfer_in tpdu → P (course_of kept tpdu transfer) → P (link_answer kept tpdu)
unfolding link_answer
by_transfer P kept tpdu transfer is known = subst (λ (way : Option Transfer). P (course_of kept tpdu way)) is known

fits : (transfer : Transfer) (command : Apdu) → IsTrue (is_carried_by transfer command) → (length command.body == data_count transfer (p3_for transfer command)) ≡ true
fits GetResponse command known = cc
fits Outgoing command known = (and_parts (length command.body == 0) (is_some command.expected || command.ins == STATUS) known).0
fits Incoming command known = eq-eqb (length command.body) (length command.body) refl

-- the TPDU of a command that is carried has the form
pub tpdu_fits : (command : Apdu) → IsTrue (is_carried command) → Some (transfer_of command.ins command.p1) ≡ transfer_in (tpdu_of command)
unfolding transfer_in
tpdu_fits command known =
    let transfer : Transfer = transfer_of command.ins command.p1 in
    sym (ap (λ (b : Bool). if b then Some transfer else None) (fits transfer command known))

-- ---- the APDU that is passed

incoming_is : (class ins p1 p2 : ℕ) (body : List ℕ) → apdu_of (class ∷ ins ∷ p1 ∷ p2 ∷ length body ∷ body) ≡ class ∷ ins ∷ p1 ∷ p2 ∷ data_field body
incoming_is class ins p1 p2 [] = refl
incoming_is class ins p1 p2 (first ∷ rest) =
    let tpdu : List ℕ = class ∷ ins ∷ p1 ∷ p2 ∷ length (first ∷ rest) ∷ first ∷ rest in
    ap (λ (b : Bool). if b then class ∷ ins ∷ p1 ∷ p2 ∷ [] else tpdu) (ne_eqb (length (first ∷ rest)) 0 (λ is. cc is))

pub no_data : (body : List ℕ) → (length body == 0) ≡ true → body ≡ []
no_data body none = nil_from_length body (eqb-true (length body) 0 none)

-- ---- what is announced is fetched

ne_of_count : (count : ℕ) → count ≢ 0 → count ≤ 256 → ne_of (count % 256) ≡ count
ne_of_count count some most = ⊎_elim {C = ne_of (count % 256) ≡ count} below at_most (cases_lt count 256) where
  below : count < 256 → ne_of (count % 256) ≡ count
  below low =
      let same : count % 256 ≡ count = mod-eq_of_lt low in
      ap ne_of same ∙ ap (λ (b : Bool). if b then 256 else count) (ne_eqb count 0 some)

  at_most : 256 ≤ count → ne_of (count % 256) ≡ count
  at_most high = let is : 256 ≡ count = omega arith in subst (λ (n : ℕ). ne_of (n % 256) ≡ n) is refl

-- a terminal that follows what is announced has the card's answer
data_followed : (answer : Answer) → length answer.body ≢ 0 → length answer.body ≤ 256
    → followed (record { answer = status_alone (counting MORE_DATA (length answer.body)); kept = Some answer }) ≡ given answer
data_followed answer some most =
    let count : ℕ = length answer.body in
    let low : count % 256 < 256 = omega arith in
    let status : ℕ = MORE_DATA * 256 + count % 256 in
    let upper : status / 256 ≡ MORE_DATA = div-mul-add MORE_DATA 256 (count % 256) low in
    let lower : status % 256 ≡ count % 256 = mod-mul-add MORE_DATA 256 (count % 256) low in
    let length_is : count ≡ ne_of (status % 256) = sym (ap ne_of lower ∙ ne_of_count count some most) in
    let announced_so : Linked = record { answer = status_alone (counting MORE_DATA count); kept = Some answer } in
    ap (λ (b : Bool). if b then fetched (status % 256) (Some answer) else announced_so) (eq-eqb (status / 256) MORE_DATA upper)
    ∙ ap (λ (b : Bool). if b then given answer else record { answer = status_alone (counting WRONG_LE count); kept = Some answer }) (eq-eqb count (ne_of (status % 256)) length_is)

plain_followed : (answer : Answer) → IsPlain answer → followed (given answer) ≡ given answer
plain_followed answer plain = ap (λ (b : Bool). if b then fetched (answer.status.0 % 256) None else given answer) (ne_eqb (answer.status.0 / 256) MORE_DATA plain)

kept_followed : (answer : Answer) → length answer.body ≤ 256 → IsPlain answer → followed (kept_back answer) ≡ given answer
kept_followed answer most plain = by_data (length answer.body == 0) refl where
  by_data : (b : Bool) → (length answer.body == 0) ≡ b → followed (kept_back answer) ≡ given answer
  by_data true none =
      let nothing : kept_back answer ≡ given answer =
      ap (λ (b : Bool). record { answer = if b then answer else status_alone (counting MORE_DATA (length answer.body)); kept = if b then None else Some answer }) none in
      ap followed nothing ∙ plain_followed answer plain
  by_data false some =
      let waits : kept_back answer ≡ record { answer = status_alone (counting MORE_DATA (length answer.body)); kept = Some answer } =
      ap (λ (b : Bool). record { answer = if b then answer else status_alone (counting MORE_DATA (length answer.body)); kept = if b then None else Some answer }) some in
      ap followed waits ∙ data_followed answer (eqb-false (length answer.body) 0 some) most

-- ---- the law

gives_by : (transfer : Transfer) (kept : Option Answer) (command : Apdu) → IsTrue (is_carried_by transfer command)
    → GivesAnswer (passed_by transfer command) command.expected (then_received command.expected (course_of kept (command.class ∷ command.ins ∷ command.p1 ∷ command.p2 ∷ p3_for transfer command ∷ command.body) (Some transfer)))
gives_by GetResponse kept command known = cc
gives_by Outgoing kept command known = (
  ap (λ (body : List ℕ). command.class ∷ command.ins ∷ command.p1 ∷ command.p2 ∷ unwrap_or command.expected 0 % 256 ∷ body)
      (no_data command.body (and_parts (length command.body == 0) (is_some command.expected || command.ins == STATUS) known).0),
  λ answer most plain. ap (λ (linked : Linked). record { answer = cut_answer_to command.expected linked.answer; kept = linked.kept }) (plain_followed answer plain),
)
gives_by Incoming kept command known = (
  incoming_is command.class command.ins command.p1 command.p2 command.body,
  λ answer most plain. ap (λ (linked : Linked). record { answer = cut_answer_to command.expected linked.answer; kept = linked.kept }) (kept_followed answer most plain),
)

-- A command that is carried is passed to the card, and has the card's status and its data, cut to Le.
pub carried_gives : (kept : Option Answer) (command : Apdu) → IsTrue (is_carried command) → GivesAnswer (passed_apdu command) command.expected (command_answer kept command)
unfolding command_answer
carried_gives kept command known =
    by_transfer (λ course. GivesAnswer (passed_apdu command) command.expected (then_received command.expected course)) kept (tpdu_of command)
    (Some (transfer_of command.ins command.p1)) (tpdu_fits command known) (gives_by (transfer_of command.ins command.p1) kept command known)
