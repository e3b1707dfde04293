-- The bytes of an entry of which a part was written.
use Rattle.std.proofs.Common.{◌≡◌, ◌⊎◌, ℕ, ◌+◌, ◌-◌, ◌≤◌, ◌<◌, List, length, drop, slice_range, IsTrue, get_or, sym, ◌∙◌, ap, subst, leb, inl, inr, ⊎_elim, arith, get_or-take, get_or-drop}
use Rattle.std.proofs.lemmas.Bool.{cases_lt, and_parts, or_cases, leb-true}
use Rattle.std.proofs.lemmas.Grind.{same_number_lists}
use Rattle.list_laws.proofs.SliceRangeLemmas.{length-between}
use Rattle.list_laws.specs.Patches.{patched}
use Rattle.list_laws.proofs.PatchesLemmas.{length-patched, patched_before, patched_inside, patched_after}
use Rattle.layout_entries.specs.Fields.{is_uncut, is_among, is_beside}

pub get_or-range : (bytes : List ℕ) (first end k : ℕ) → k < end - first → get_or (slice_range bytes first end) k 0 ≡ get_or bytes (first + k) 0
get_or-range bytes first end k low = get_or-take (end - first) (drop first bytes) k 0 low ∙ get_or-drop first bytes k 0

same_range : (a b : List ℕ) (first end : ℕ) → first ≤ end → end ≤ length a → end ≤ length b → ((k : ℕ) → first ≤ k → k < end → get_or a k 0 ≡ get_or b k 0) → slice_range a first end ≡ slice_range b first end
same_range a b first end order inside_a inside_b each =
    let long_a : length (slice_range a first end) ≡ end - first = length-between a first end order inside_a in
    let long_b : length (slice_range b first end) ≡ end - first = length-between b first end order inside_b in
    same_number_lists (slice_range a first end) (slice_range b first end) (long_a ∙ sym long_b)
    (λ k low.
    let below : k < end - first = omega arith in
    get_or-range a first end k below ∙ each (first + k) (omega arith) (omega arith) ∙ sym (get_or-range b first end k below))

-- the range is written whole, or it stays
where_uncut : (from to first end : ℕ) → IsTrue (is_uncut from to (first, end)) → ((from ≤ first) × (end ≤ to)) ⊎ ((end ≤ from) ⊎ (to ≤ first))
where_uncut from to first end uncut =
    ⊎_elim {C = ((from ≤ first) × (end ≤ to)) ⊎ ((end ≤ from) ⊎ (to ≤ first))}
    (λ among. let both = and_parts (leb from first) (leb end to) among in inl (leb-true from first both.0, leb-true end to both.1))
    (λ beside. ⊎_elim {C = ((from ≤ first) × (end ≤ to)) ⊎ ((end ≤ from) ⊎ (to ≤ first))} (λ before. inr (inl (leb-true end from before))) (λ behind. inr (inr (leb-true to first behind))) (or_cases (leb end from) (leb to first) beside))
    (or_cases (is_among from to first end) (is_beside from to first end) uncut)

module _ (spelled old : List ℕ) (from to : ℕ) (order : from ≤ to) (inside : to ≤ length old) (same_long : length spelled ≡ length old) where
  abbrev part : List ℕ
  part = slice_range spelled from to

  abbrev pub rewritten : List ℕ
  rewritten = patched from part old

  part_long : length part ≡ to - from
  part_long = length-between spelled from to order (omega arith)

  rewritten_long : length rewritten ≡ length old
  rewritten_long = length-patched from part old (omega (arith, part_long))

  written : (k : ℕ) → from ≤ k → k < to → get_or rewritten k 0 ≡ get_or spelled k 0
  written k low high =
      let back : from + (k - from) ≡ k = omega arith in
      patched_inside from part old (omega (arith, part_long)) k low (omega (arith, part_long)) ∙ get_or-range spelled from to (k - from) (omega arith) ∙ ap (λ (n : ℕ). get_or spelled n 0) back

  kept_before : (k : ℕ) → k < from → get_or rewritten k 0 ≡ get_or old k 0
  kept_before k low = patched_before from part old (omega (arith, part_long)) k low

  kept_behind : (k : ℕ) → to ≤ k → get_or rewritten k 0 ≡ get_or old k 0
  kept_behind k high = patched_after from part old (omega (arith, part_long)) k (omega (arith, part_long))

  -- each byte is as it is spelled, or as it was
  pub one : (P : ℕ → Type 0) (k : ℕ) → P (get_or spelled k 0) → P (get_or old k 0) → P (get_or rewritten k 0)
  one P k new was =
      ⊎_elim {C = P (get_or rewritten k 0)} (λ low. subst P (sym (kept_before k low)) was)
      (λ high. ⊎_elim {C = P (get_or rewritten k 0)} (λ low. subst P (sym (written k high low)) new) (λ behind. subst P (sym (kept_behind k behind)) was) (cases_lt k to)) (cases_lt k from)

  -- and so are the bytes of a field that isn't cut
  pub some : (P : List ℕ → Type 0) (first end : ℕ) → first ≤ end → end ≤ length old → IsTrue (is_uncut from to (first, end))
      → P (slice_range spelled first end) → P (slice_range old first end) → P (slice_range rewritten first end)
  some P first end more fits uncut new was =
      ⊎_elim {C = P (slice_range rewritten first end)}
      (λ among. subst P (sym (same_range rewritten spelled first end more (omega (arith, rewritten_long)) (omega arith) (λ k low high. written k (omega (arith, among.0)) (omega (arith, among.1))))) new)
      (λ beside. subst P (sym (same_range rewritten old first end more (omega (arith, rewritten_long)) fits
      (λ k low high. ⊎_elim {C = get_or rewritten k 0 ≡ get_or old k 0} (λ before. kept_before k (omega arith)) (λ behind. kept_behind k (omega arith)) beside))) was)
      (where_uncut from to first end uncut)

  -- bytes that are written whole are as they are spelled
  pub whole : from ≡ 0 → to ≡ length old → rewritten ≡ spelled
  whole is_first is_last = same_number_lists rewritten spelled (rewritten_long ∙ sym same_long) (λ k low. written k (omega arith) (omega (arith, rewritten_long)))
