-- What the status tells of a command that there is to fetch.
use Rattle.std.proofs.Common.{◌≡◌, inl, inr, ℕ, ◌+◌, ◌≤◌, Bool, true, false, Option, Some, None, refl, sym, ◌∙◌, subst, arith, length, ◌||◌, ◌/◌, ◌==◌, if◌then◌else◌, IfSome, option_map}
use Rattle.std.proofs.lemmas.Bool.{false≢true, eq-eqb}
use Rattle.uicc_types.specs.declared.answers.StatusWord.{StatusWord}
use Rattle.uicc_types.specs.declared.answers.TheConstants.StatusWord.{DONE, END_OF_FILE, FILE_DEACTIVATED}
use Rattle.toolkit_model.specs.Sessions.{Outstanding, SessionState}
use Rattle.toolkit_model.specs.Orderly.{CanBeSent}
use Rattle.toolkit_model.specs.Commands.{command_bytes, if_fetched, pending}
use Rattle.card_model.specs.Answers.{told_pending, is_carried_out}
use Rattle.card_model.specs.Laws.{IsStatusOf}

few_if : (out : Outstanding) (b : Bool) → CanBeSent out.command → IfSome (option_map (λ (each : Outstanding). length (command_bytes each)) (if b then None else Some out)) (λ count. count ≤ 255)
few_if out true sent = tt
few_if out false sent = sent.short out.number

-- a command that can be sent has 255 bytes at most
pub pending_few : (session : SessionState) → IfSome session.out (λ out. CanBeSent out.command) → IfSome (pending session) (λ count. count ≤ 255)
pending_few session sent = by_out session.out sent where
  by_out : (out : Option Outstanding) → IfSome out (λ each. CanBeSent each.command) → IfSome (option_map (λ (each : Outstanding). length (command_bytes each)) (if_fetched false out)) (λ count. count ≤ 255)
  by_out None sent = tt
  by_out (Some out) sent = few_if out out.is_fetched sent

-- what holds of a status, and of each that tells of bytes to fetch, holds of what is told
pub told_so : (P : StatusWord → Type 0) (count : Option ℕ) (status : StatusWord) → IfSome count (λ n. n ≤ 255) → ((n : ℕ) → n ≤ 255 → P (record { 0 = 0x9100 + n })) → P status → P (told_pending count status)
told_so P None status few tells holds = holds
told_so P (Some count) status few tells holds = by_done (status.0 == DONE.0) where
  by_done : (b : Bool) → P (if b then record { 0 = 0x9100 + count } else status)
  by_done true = tells count few
  by_done false = holds

pub told_known : (of_tree : Bool) (count : Option ℕ) (status : StatusWord) → IfSome count (λ n. n ≤ 255) → IsStatusOf of_tree status → IsStatusOf of_tree (told_pending count status)
told_known of_tree count status few known = told_so (IsStatusOf of_tree) count status few (λ n low. inl (inr (inr (inr (n, low, refl))))) known

second_true : (a b c d : Bool) → b ≡ true → (a || b || c || d) ≡ true
second_true true b c d is = refl
second_true false b c d is = subst (λ (x : Bool). (x || c || d) ≡ true) (sym is) refl

is_pending : (count : ℕ) → count ≤ 255 → is_carried_out (record { 0 = 0x9100 + count }) ≡ true
is_pending count few =
    let high : (0x9100 + count) / 256 ≡ 0x91 = omega (arith, few) in
    second_true (0x9100 + count == DONE.0) ((0x9100 + count) / 256 == 0x91) (0x9100 + count == END_OF_FILE.0) (0x9100 + count == FILE_DEACTIVATED.0) (eq-eqb ((0x9100 + count) / 256) 0x91 high)

-- a status that is no status of a command that was carried out stays as it is
pub told_same : (count : Option ℕ) (status : StatusWord) → IfSome count (λ n. n ≤ 255) → is_carried_out (told_pending count status) ≡ false → told_pending count status ≡ status
told_same None status few not_done = refl
told_same (Some count) status few not_done = by_done (status.0 == DONE.0) not_done where
  by_done : (b : Bool) → is_carried_out (if b then record { 0 = 0x9100 + count } else status) ≡ false → (if b then record { 0 = 0x9100 + count } else status) ≡ status
  by_done true not_done = absurd (false≢true (sym not_done ∙ is_pending count few))
  by_done false not_done = refl

-- a command that was done is carried out, whatever there is to fetch
pub told_done : (count : Option ℕ) → IfSome count (λ n. n ≤ 255) → is_carried_out (told_pending count DONE) ≡ true
told_done None few = refl
told_done (Some count) few = is_pending count few
