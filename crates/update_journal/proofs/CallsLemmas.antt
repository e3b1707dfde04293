-- Program calls are counted one after the other, and the rest of a write takes what is left of its calls.
use Rattle.std.proofs.Common.{◌≡◌, ℕ, ◌+◌, ◌-◌, ◌*◌, ◌/◌, ◌%◌, ◌≤◌, ◌<◌, zero, suc, min, List, [], ◌∷◌, length, drop, Option, Some, None, slice_get, Result, IfSome, refl, sym, inl, inr, ◌∙◌, ap, subst, arith}
use Rattle.std.proofs.lemmas.Bool.{cases_lt}
use Rattle.std.proofs.lemmas.Bool.Decides.{nat_tests}
use Rattle.std.proofs.lemmas.List.Sums.{sum_by-cons}
use Rattle.std.proofs.lemmas.Option.{same_Some}
use Rattle.std.proofs.lemmas.Result.{on_ok_weaker, on_err_weaker}
use Rattle.list_laws.proofs.IfSomeLemmas.{whichever}
use Rattle.uicc_types.specs.Counts.{raised, raised_by}
use Rattle.store_form.specs.Pieces.{Piece, byte_total, IsWithinBounds}
use Rattle.store_form.specs.declared.store.StoreFault.{StoreFault}
use Rattle.update_journal.specs.Calls.{calls_at, calls_of, calls_to_recover, MadeAtMost, MakesCalls}
use Rattle.update_journal.specs.Journal.{IsUnderWay}

-- ---- the count

pub raised_by-plus : (first later before : ℕ) → raised_by (first + later) before ≡ raised_by later (raised_by first before)
raised_by-plus zero later before = let same : 0 + later ≡ later = omega arith in ap (λ (n : ℕ). raised_by n before) same
raised_by-plus (suc first) later before =
    let same : suc first + later ≡ suc (first + later) = omega arith in
    ap (λ (n : ℕ). raised_by n before) same ∙ raised_by-plus first later (raised before)

-- of a write of so many calls, so many are left
pub record CallsLeft (left total before now : ℕ) : Type 0 where
  pub done : ℕ
  pub in_all : done + left ≡ total
  pub counted : now ≡ raised_by done before

pub all_left : (total before : ℕ) → CallsLeft total total before before
all_left total before = record { done = 0; in_all = omega arith; counted = refl }

pub after_some : (some left left_then total before mid now : ℕ) → CallsLeft left total before mid → left ≡ some + left_then → now ≡ raised_by some mid → CallsLeft left_then total before now
after_some some left left_then total before mid now calls parts made = record {
  done = calls.done + some;
  in_all = omega (arith, calls.in_all, parts);
  counted = made ∙ ap (λ (n : ℕ). raised_by some n) calls.counted ∙ sym (raised_by-plus calls.done some before);
}

pub none_left : (left total before now : ℕ) → CallsLeft left total before now → left ≡ 0 → now ≡ raised_by total before
none_left left total before now calls none =
    let all : calls.done ≡ total = omega (arith, calls.in_all, none) in calls.counted ∙ ap (λ (n : ℕ). raised_by n before) all

pub fault_in : (some left total before mid now : ℕ) → CallsLeft left total before mid → some ≤ left → MadeAtMost some mid now → MadeAtMost total before now
fault_in some left total before mid now calls fits made =
    let few = made.1.0 in
    (calls.done + made.0, (omega (arith, calls.in_all, fits, few), made.1.1 ∙ ap (λ (n : ℕ). raised_by made.0 n) calls.counted ∙ sym (raised_by-plus calls.done made.0 before)))

pub fewer : (some total before now : ℕ) → some ≤ total → MadeAtMost some before now → MadeAtMost total before now
fewer some total before now fits made = let few = made.1.0 in (made.0, (omega (arith, few), made.1.1))

-- so many, and then at most so many
pub then_at_most : (first later before mid now : ℕ) → mid ≡ raised_by first before → MadeAtMost later mid now → MadeAtMost (first + later) before now
then_at_most first later before mid now made more =
    fault_in later later (first + later) before mid now (record { done = first; in_all = refl; counted = made }) (omega arith) more

pub then_all : (first later before mid now : ℕ) → mid ≡ raised_by first before → now ≡ raised_by later mid → now ≡ raised_by (first + later) before
then_all first later before mid now made more = more ∙ ap (λ (n : ℕ). raised_by later n) made ∙ sym (raised_by-plus first later before)

pub then_calls : {T : Type 0} (first later before mid now : ℕ) (result : Result T StoreFault) → mid ≡ raised_by first before → MakesCalls later mid now result → MakesCalls (first + later) before now result
then_calls first later before mid now result made more = record {
  all = on_ok_weaker result (λ all. then_all first later before mid now made all) more.all;
  no_more = on_err_weaker result (λ some. then_at_most first later before mid now made some) more.no_more;
}

-- nothing was programmed before
pub made_from : {T : Type 0} (times before mid now : ℕ) (result : Result T StoreFault) → mid ≡ before → MakesCalls times mid now result → MakesCalls times before now result
made_from times before mid now result same made = subst (λ n. MakesCalls times n now result) same made

-- as many, said in another way
pub made_as : {T : Type 0} (times others before now : ℕ) (result : Result T StoreFault) → times ≡ others → MakesCalls times before now result → MakesCalls others before now result
made_as times others before now result same made = subst (λ n. MakesCalls n before now result) same made

-- nothing was programmed at all
pub none_made : (times before now : ℕ) → now ≡ before → MadeAtMost times before now
none_made times before now same = (0, (omega arith, same))

-- at most so many in any case
pub at_most_in_all : {T : Type 0} (times most before now : ℕ) (result : Result T StoreFault) → times ≤ most → MakesCalls times before now result → MadeAtMost most before now
at_most_in_all times most before now result fits made = whichever result made.all made.no_more (λ all. (times, (fits, all))) (λ some. fewer times most before now fits some)

-- ---- how many calls a range takes

pub no_calls : (at : ℕ) → calls_at at 0 ≡ 0
unfolding calls_at
no_calls at = refl

calls_some : (at count : ℕ) → 0 < count → calls_at at count ≡ (at % 64 + count - 1) / 64 + 1
unfolding calls_at
calls_some at count some = grind (arith, nat_tests)

pub some_call : (at count : ℕ) → 0 < count → 1 ≤ calls_at at count
some_call at count some = omega (arith, calls_some at count some)

-- a part of one page
pub one_call : (at count : ℕ) → 0 < count → at % 64 + count ≤ 64 → calls_at at count ≡ 1
one_call at count some fits = omega (arith, calls_some at count some)

-- a part of one page, and the rest
calls_next : (at count part : ℕ) → 0 < count → part ≡ min count (64 - at % 64) → calls_at at count ≡ 1 + calls_at (at + part) (count - part)
calls_next at count part some is = elim (cases_lt part count) [
  | inl more ↦ omega (arith, calls_some at count some, calls_some (at + part) (count - part) (omega arith), is)
  | inr whole ↦ let none : count - part ≡ 0 = omega arith in
      omega (arith, calls_some at count some, ap (λ (n : ℕ). calls_at (at + part) n) none, no_calls (at + part), is)
]

pub next_part : (at count part rest : ℕ) → 0 < count → part ≡ min count (64 - at % 64) → rest ≡ count - part → calls_at at count ≡ 1 + calls_at (at + part) rest
next_part at count part rest some is behind = calls_next at count part some is ∙ ap (λ (n : ℕ). 1 + calls_at (at + part) n) (sym behind)

-- ---- those of pieces

calls-cons : (piece : Piece) (pieces : List Piece) → calls_of (piece ∷ pieces) ≡ calls_at piece.place (length piece.bytes) + calls_of pieces
calls-cons piece pieces = sum_by-cons (λ (piece : Piece). calls_at piece.place (length piece.bytes)) piece pieces

pub calls_from : (pieces : List Piece) (at : ℕ) (piece : Piece) → slice_get pieces at ≡ Some piece → calls_of (drop at pieces) ≡ calls_at piece.place (length piece.bytes) + calls_of (drop (at + 1) pieces)
calls_from [] at piece there = absurd (let none : None ≡ Some piece = there in cc)
calls_from (first ∷ pieces) zero piece there = calls-cons first pieces ∙ ap (λ (p : Piece). calls_at p.place (length p.bytes) + calls_of pieces) (same_Some first piece there)
calls_from (first ∷ pieces) (suc at) piece there =
    let one_on : suc at + 1 ≡ suc (at + 1) = omega arith in
    calls_from pieces at piece there ∙ ap (λ (n : ℕ). calls_at piece.place (length piece.bytes) + calls_of (drop n (first ∷ pieces))) (sym one_on)

pub calls_behind : (pieces : List Piece) (at : ℕ) → length pieces ≤ at → calls_of (drop at pieces) ≡ 0
calls_behind [] zero past = refl
calls_behind [] (suc at) past = refl
calls_behind (first ∷ pieces) zero past = absurd (omega arith)
calls_behind (first ∷ pieces) (suc at) past = calls_behind pieces at (omega arith)

calls_few : (at count : ℕ) → 64 * calls_at at count ≤ count + 126
unfolding calls_at
calls_few at count = grind (arith, nat_tests)

all_few : (pieces : List Piece) → 64 * calls_of pieces ≤ byte_total pieces + 126 * length pieces
all_few [] = omega arith
all_few (piece ∷ pieces) = omega (arith, sum_by-cons (λ (piece : Piece). length piece.bytes) piece pieces, calls-cons piece pieces, calls_few piece.place (length piece.bytes), all_few pieces)

-- those of a commit are written in at most 17 calls
pub few_calls : (pieces : List Piece) → IsWithinBounds pieces → calls_of pieces ≤ 17
few_calls pieces bounds = omega (arith, all_few pieces, bounds.count, bounds.total)

-- ---- those of a recovery

-- the calls that are due
pub due_calls : (image : List ℕ) (pieces : List Piece) → IsUnderWay pieces image → calls_to_recover image ≡ calls_of pieces + 1
due_calls image pieces under = rw (under.opened, under.of_pieces) refl

pub recovered_calls : {T : Type 0} (told : Option (List ℕ)) (pieces : List Piece) (before now : ℕ) (result : Result T StoreFault) → IfSome told (IsUnderWay pieces) → MakesCalls (calls_of pieces + 1) before now result
    → IfSome told (λ image. MakesCalls (calls_to_recover image) before now result)
recovered_calls None pieces before now result under made = tt
recovered_calls (Some image) pieces before now result under made = made_as (calls_of pieces + 1) (calls_to_recover image) before now result (sym (due_calls image pieces under)) made
