-- How many TPDUs a command is sent by.
use Rattle.std.proofs.Common.{◌≡◌, ℕ, ◌==◌, ◌%◌, Bool, true, false, if◌then◌else◌, List, [], ◌∷◌, length, Option, Some, None, Ok, refl, sym, ap, ◌∙◌, subst, arith, IsTrue}
use lib.Seq.{take-nil}
use Rattle.uicc_types.specs.Counts.{raised}
use Rattle.uicc_types.specs.declared.answers.Answer.{Answer}
use Rattle.uicc_types.specs.declared.answers.StatusWord.{StatusWord}
use Rattle.apdu_form.specs.Model.{Apdu, cut_to}
use Rattle.t0_link.specs.Carrying.{RoseBy, is_carried, is_followed, received, tpdu_of, tpdus_by, tpdus_sent}
use Rattle.t0_link.specs.Exchanging.{Exchanges}
use Rattle.t0_link.specs.Linking.{Linked, announced, counting, course_of, fetched, link_answer, status_alone}
use Rattle.t0_link.specs.Tpdus.{transfer_of}
use Rattle.t0_link.specs.declared.answers.TheConstants.{MORE_DATA}
use Rattle.t0_link.specs.declared.endpoint.Endpoint.{Ghosts as EndpointWords}
use Rattle.t0_link.specs.declared.tpdus.Transfer.{Transfer}
use Rattle.t0_link.specs.declared.tpdus.Transfer.TheVariants.{GetResponse, Outgoing, Incoming}
use Rattle.t0_link.proofs.CommandAnswerLemmas.{by_transfer, no_data, tpdu_fits}

-- ---- the link's first answer to a command whose data go to the card has no data

status_or : (answer : Answer) (status : StatusWord) (b : Bool) → (b ≡ true → answer.body ≡ []) → (if b then answer else status_alone status).body ≡ []
status_or answer status true none = none refl
status_or answer status false none = refl

announced_bare : (answer : Answer) → (announced answer).body ≡ []
announced_bare answer = status_or answer (counting MORE_DATA (length answer.body)) (length answer.body == 0) (λ is. no_data answer.body is)

pub first_bare : {E : Type 0} (words : EndpointWords E) (old new : E) (kept : Option Answer) (command : Apdu) (first : Linked) → IsTrue (is_carried command) → transfer_of command.ins command.p1 ≡ Incoming
    → Exchanges words old new (link_answer kept (tpdu_of command)) (Ok tt) first → first.answer.body ≡ []
first_bare words old new kept command first known is =
    by_transfer (λ course. Exchanges words old new course (Ok tt) first → first.answer.body ≡ []) kept (tpdu_of command) (Some (transfer_of command.ins command.p1)) (tpdu_fits command known)
    (subst (λ (way : Transfer). Exchanges words old new (course_of kept (tpdu_of command) (Some way)) (Ok tt) first → first.answer.body ≡ []) (sym is)
    (λ exchanged. ap (λ (l : Linked). l.answer.body) exchanged.answered ∙ announced_bare exchanged.answer))

-- so where it isn't followed, the terminal receives none
cut_none : (expected : Option ℕ) → cut_to expected [] ≡ []
cut_none None = refl
cut_none (Some most) = take-nil most

unfollowed : (expected : Option ℕ) (first : Linked) → is_followed first.answer ≡ false → first.answer.body ≡ [] → (received expected first).answer.body ≡ []
unfollowed expected first no_more bare =
    ap (λ (b : Bool). cut_to expected (if b then fetched (first.answer.status.0 % 256) first.kept else first).answer.body) no_more ∙ ap (cut_to expected) bare ∙ cut_none expected

-- ---- the count

pub one_rose : (before now : ℕ) → now ≡ raised before → RoseBy 1 before now
one_rose before now is = omega (arith, is)

two_rose : (before mid now : ℕ) → mid ≡ raised before → now ≡ raised mid → RoseBy 2 before now
two_rose before mid now first second = omega (arith, first, second)

one_of_two : (before mid now : ℕ) → mid ≡ raised before → now ≡ raised mid → RoseBy 1 before now
one_of_two before mid now first second = omega (arith, first, second)

one_by : (b : Bool) (before mid now : ℕ) → mid ≡ raised before → now ≡ (if b then raised mid else mid) → RoseBy 1 before now
one_by true before mid now first second = one_of_two before mid now first second
one_by false before mid now first second = one_rose before now (second ∙ first)

pub rose_sent : (way : Transfer) (body : List ℕ) (b : Bool) (before mid now : ℕ) → mid ≡ raised before → now ≡ (if b then raised mid else mid) → (way ≡ Incoming → b ≡ false → body ≡ []) → RoseBy (tpdus_by way body) before now
rose_sent GetResponse body b before mid now first second bare = one_by b before mid now first second
rose_sent Outgoing body b before mid now first second bare = one_by b before mid now first second
rose_sent Incoming [] b before mid now first second bare = one_by b before mid now first second
rose_sent Incoming (byte ∷ more) true before mid now first second bare = two_rose before mid now first second
rose_sent Incoming (byte ∷ more) false before mid now first second bare = let none : byte ∷ more ≡ [] = bare refl refl in absurd (cc)

pub command_rose : {E : Type 0} (words : EndpointWords E) (old new : E) (kept : Option Answer) (command : Apdu) (first : Linked) (answer : Answer) (before mid now : ℕ) → IsTrue (is_carried command)
    → Exchanges words old new (link_answer kept (tpdu_of command)) (Ok tt) first → answer ≡ (received command.expected first).answer → mid ≡ raised before → now ≡ (if is_followed first.answer then raised mid else mid)
    → RoseBy (tpdus_sent command answer.body) before now
command_rose words old new kept command first answer before mid now known exchanged received_so one more =
    rose_sent (transfer_of command.ins command.p1) answer.body (is_followed first.answer) before mid now one more
    (λ way no_more. ap (λ (a : Answer). a.body) received_so ∙ unfollowed command.expected first no_more (first_bare words old new kept command first known way exchanged))
