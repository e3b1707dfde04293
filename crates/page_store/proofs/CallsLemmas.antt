-- How many program calls the steps of a commit take: one for a page, and one for each page that is touched.
use Rattle.std.proofs.Common.{◌≡◌, ℕ, ◌+◌, ◌-◌, ◌*◌, ◌%◌, ◌≤◌, ◌<◌, Bool, true, false, if◌then◌else◌, List, min, take, Result, Ok, Err, IsErr, refl, sym, ◌∙◌, ap, subst, arith}
use Rattle.std.specs.List.{count_by, range_with_len}
use Rattle.std.proofs.lemmas.List.{take_all}
use Rattle.std.proofs.lemmas.List.FromFn.{length-range_with_len}
use Rattle.std.proofs.lemmas.List.Sums.{sum_by-take-le}
use Rattle.store_form.specs.declared.store.StoreFault.{StoreFault}
use Rattle.store_form.specs.Pieces.{Piece}
use Rattle.uicc_types.specs.Counts.{raised_by}
use Rattle.update_journal.specs.Calls.{calls_at, MadeAtMost, MakesCalls}
use Rattle.update_journal.proofs.CallsLemmas.{CallsLeft, all_left, after_some, none_left, fault_in, fewer, then_all, then_at_most, next_part, one_call}
use Rattle.page_store.specs.Below.{InPage}
use Rattle.page_store.specs.Calls.{calls_to_blank, calls_to_fill}
use Rattle.page_store.specs.Commits.{is_touched, done_count}
use Rattle.page_store.specs.Pages.{place_of}
use Rattle.page_store.proofs.DoneCountLemmas.{ones}
use Rattle.page_store.proofs.MovesLemmas.{count_on, count_stays, none_counted}
use Rattle.page_store.proofs.PlaceOfLemmas.{place_in}

-- a call that answered a fault
pub faulted : {T : Type 0} (times before now : ℕ) (result : Result T StoreFault) → IsErr result → MadeAtMost times before now → MakesCalls times before now result
faulted times before now (Ok value) is some = absurd (cc)
faulted times before now (Err fault) is some = record { all = tt; no_more = some }

-- ---- a page

-- a part of one page of the content, in the page where that lies
pub part_call : (pages : List ℕ) (at count place : ℕ) → place ≡ place_of pages at → InPage at count → calls_at place count ≡ 1
part_call pages at count place is part = one_call place count part.some (omega (arith, is, place_in pages at, part.one_page))

-- a whole page
pub page_call : (page count : ℕ) → count ≡ 64 → calls_at (64 * page) count ≡ 1
page_call page count whole = one_call (64 * page) count (omega arith) (omega arith)

-- ---- a range, page by page

-- nothing of it is written yet
pub all_left_at : (at count before : ℕ) → CallsLeft (calls_at (at + 0) (count - 0)) (calls_at at count) before before
all_left_at at count before =
    let here : at + 0 ≡ at = omega arith in
    let whole : count - 0 ≡ count = omega arith in
    subst (λ n. CallsLeft n (calls_at at count) before before) (sym (ap (λ n. calls_at n (count - 0)) here ∙ ap (λ n. calls_at at n) whole)) (all_left (calls_at at count) before)

-- the next part of it
pub part_next : (at done part count : ℕ) → done < count → part ≡ min (count - done) (64 - (at + done) % 64) → calls_at (at + done) (count - done) ≡ 1 + calls_at (at + (done + part)) (count - (done + part))
part_next at done part count more is =
    let further : at + done + part ≡ at + (done + part) = omega arith in
    next_part (at + done) (count - done) part (count - (done + part)) (omega arith) is (omega arith) ∙ ap (λ n. 1 + calls_at n (count - (done + part))) further

-- ---- the pages that are touched

count_up_to : (p : ℕ → Bool) (k a n : ℕ) → count_by p (take k (range_with_len a n)) ≤ count_by p (take n (range_with_len a n))
count_up_to p k a n =
    let all : count_by p (take n (range_with_len a n)) ≡ count_by p (range_with_len a n) = ap (λ (l : List ℕ). count_by p l) (take_all n (range_with_len a n) (omega (arith, length-range_with_len a n))) in
    omega (arith, sum_by-take-le (λ page. ones (p page)) (range_with_len a n) k, all)

pub done_up_to : (pieces : List Piece) (page : ℕ) → done_count pieces page ≤ done_count pieces 1024
unfolding done_count
done_up_to pieces page = count_up_to (is_touched pieces) (page - 13) 13 1011

pub done_next : (pieces : List Piece) (page : ℕ) → 13 ≤ page → page < 1024 → done_count pieces (page + 1) ≡ done_count pieces page + (if is_touched pieces page then 1 else 0)
done_next pieces page low high = by_test (is_touched pieces page) refl
  where
    by_test : (b : Bool) → is_touched pieces page ≡ b → done_count pieces (page + 1) ≡ done_count pieces page + (if b then 1 else 0)
    by_test true touched = count_on pieces page low high touched
    by_test false untouched = omega (arith, count_stays pieces page low high untouched)

-- of the calls for the touched pages, those are left that stand from this page on
abbrev pub PagesLeft : List Piece → ℕ → ℕ → ℕ → Type 0
PagesLeft pieces page before now = CallsLeft (done_count pieces 1024 - done_count pieces page) (done_count pieces 1024) before now

pub all_pages_left : (pieces : List Piece) (before : ℕ) → PagesLeft pieces 13 before before
all_pages_left pieces before = record { done = 0; in_all = omega (arith, none_counted pieces); counted = refl }

-- a page was passed, and moved where it is touched
pub page_done : (pieces : List Piece) (page before mid now : ℕ) → 13 ≤ page → page < 1024 → PagesLeft pieces page before mid → now ≡ raised_by (if is_touched pieces page then 1 else 0) mid → PagesLeft pieces (page + 1) before now
page_done pieces page before mid now low high calls made =
    after_some (if is_touched pieces page then 1 else 0) _ (done_count pieces 1024 - done_count pieces (page + 1)) _ before mid now calls (omega (arith, done_next pieces page low high, done_up_to pieces (page + 1))) made

pub page_fault : (pieces : List Piece) (page before mid now : ℕ) → 13 ≤ page → page < 1024 → PagesLeft pieces page before mid → MadeAtMost (if is_touched pieces page then 1 else 0) mid now → MadeAtMost (done_count pieces 1024) before now
page_fault pieces page before mid now low high calls made =
    fault_in (if is_touched pieces page then 1 else 0) (done_count pieces 1024 - done_count pieces page) (done_count pieces 1024) before mid now calls (omega (arith, done_next pieces page low high, done_up_to pieces (page + 1))) made

pub pages_done : (pieces : List Piece) (page before now : ℕ) → page ≡ 1024 → PagesLeft pieces page before now → now ≡ raised_by (done_count pieces 1024) before
pages_done pieces page before now at_end calls = none_left _ (done_count pieces 1024) before now calls (omega (arith, ap (λ n. done_count pieces n) at_end))

-- ---- the pages that are filled

-- of those of the pool, the ones from this page on are left
abbrev pub BlanksLeft : ℕ → ℕ → ℕ → Type 0
BlanksLeft page before now = CallsLeft (1120 - page) 1075 before now

pub all_blanks_left : (before : ℕ) → BlanksLeft 45 before before
all_blanks_left before = all_left 1075 before

pub blank_done : (page count before mid now : ℕ) → page < 1120 → count ≡ 64 → BlanksLeft page before mid → now ≡ raised_by (calls_at (64 * page) count) mid → BlanksLeft (page + 1) before now
blank_done page count before mid now high whole calls made = after_some (calls_at (64 * page) count) _ (1120 - (page + 1)) 1075 before mid now calls (omega (arith, page_call page count whole)) made

-- the first page, and then some of the pool's
pub blank_fault : (page count start before mid now : ℕ) → page < 1120 → count ≡ 64 → before ≡ raised_by 1 start → BlanksLeft page before mid → MadeAtMost (calls_at (64 * page) count) mid now → MadeAtMost calls_to_blank start now
unfolding calls_to_blank
blank_fault page count start before mid now high whole first calls made =
    then_at_most 1 1075 start before now first (fault_in (calls_at (64 * page) count) (1120 - page) 1075 before mid now calls (omega (arith, page_call page count whole)) made)

pub blanks_done : (page start before now : ℕ) → 1120 ≤ page → before ≡ raised_by 1 start → BlanksLeft page before now → now ≡ raised_by calls_to_blank start
unfolding calls_to_blank
blanks_done page start before now at_end first calls = then_all 1 1075 start before now first (none_left (1120 - page) 1075 before now calls (omega arith))

pub first_blank : (start now : ℕ) → MadeAtMost (calls_at 0 64) start now → MadeAtMost calls_to_blank start now
unfolding calls_to_blank
first_blank start now made = fewer (calls_at 0 64) 1076 start now (omega (arith, page_call 0 64 refl)) made

-- the pages, and then the map over them
pub fill_parts : calls_to_fill ≡ calls_to_blank + calls_at 832 2022
unfolding calls_to_fill
fill_parts = refl

pub fill_fault : (count start before now : ℕ) → count ≡ 2022 → before ≡ raised_by calls_to_blank start → MadeAtMost (calls_at 832 count) before now → MadeAtMost calls_to_fill start now
fill_fault count start before now long blank made =
    subst (λ n. MadeAtMost n start now) (sym fill_parts) (then_at_most calls_to_blank (calls_at 832 2022) start before now blank (subst (λ n. MadeAtMost (calls_at 832 n) before now) long made))

pub fill_done : (count start before now : ℕ) → count ≡ 2022 → before ≡ raised_by calls_to_blank start → now ≡ raised_by (calls_at 832 count) before → now ≡ raised_by calls_to_fill start
fill_done count start before now long blank made =
    subst (λ n. now ≡ raised_by n start) (sym fill_parts) (then_all calls_to_blank (calls_at 832 2022) start before now blank (made ∙ ap (λ n. raised_by (calls_at 832 n) before) long))

pub fill_begun : (start now : ℕ) → MadeAtMost calls_to_blank start now → MadeAtMost calls_to_fill start now
fill_begun start now made = fewer calls_to_blank calls_to_fill start now (omega (arith, fill_parts)) made
