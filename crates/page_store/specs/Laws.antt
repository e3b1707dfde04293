-- What holds of the content of every image.
use Rattle.std.specs.Prelude.{◌≡◌, ℕ, ◌*◌, ◌<◌, ◌≤◌, Bool, true, false, not, if◌then◌else◌, List, length, take, drop, replicate, slice_index, slice_range, Option, Some, None, IfSome}
use Rattle.std.specs.List.{range_with_len}
use Rattle.std.proofs.Common.{get_or, zero-add, refl, ◌∙◌, ap, subst, ⊎_elim, arith}
use Rattle.std.proofs.lemmas.Bool.{cases_lt, and_parts}
use Rattle.std.proofs.lemmas.Bool.Decides.{nat_tests}
use Rattle.std.proofs.lemmas.List.{length-replicate, get_or-replicate, length-take, length-drop, get_or_past}
use Rattle.std.proofs.lemmas.List.FromFn.{length-map-range_with_len, get_or-map-range_with_len, length-range_with_len, get_or-range_with_len}
use Rattle.std.proofs.lemmas.List.Sums.{AllPass-from_list_all}
use Rattle.update_journal.specs.Journal.{stable_of, stable}
use Rattle.update_journal.specs.Laws.{stable_own, length-stable_of}
use Rattle.page_store.specs.Pages.{number_at, entries_of, is_in_pool, is_among, is_right, is_well_formed, map_of, place_of, through, content_of, content}

-- what is read through a map has 65,536 bytes
pub length-through : (pages image : List ℕ) → length (through pages image) ≡ 65536
unfolding through
length-through pages image = length-map-range_with_len (λ k. slice_index image (place_of pages k)) 0 65536

-- each byte that is read through a map is the one at its place on the device
pub get_or-through : (pages image : List ℕ) (k : ℕ) → k < 65536 → get_or (through pages image) k 0 ≡ get_or image (place_of pages k) 0
unfolding through
get_or-through pages image k low = get_or-map-range_with_len (λ k. slice_index image (place_of pages k)) 0 65536 k k 0 low (zero-add k)

-- the first pages lie at their own place
pub place_low : (pages : List ℕ) (k : ℕ) → k < 832 → place_of pages k ≡ k
unfolding place_of
place_low pages k low = grind (arith, nat_tests)

length_if : (b : Bool) (pages image : List ℕ) → length (if b then through pages image else replicate 65536 255) ≡ 65536
length_if true pages image = length-through pages image
length_if false pages image = length-replicate {A = ℕ} 65536 255

-- the content of each image has 65,536 bytes
pub length-content_of : (image : List ℕ) → length (content_of image) ≡ 65536
unfolding content_of
length-content_of image = length_if (is_well_formed (map_of image)) (map_of image) image

-- a map that is well formed ends after the own bytes
last_entry : (image : List ℕ) → get_or (map_of image) 1010 0 ≡ number_at (slice_range image 832 2854) 2020
unfolding entries_of
last_entry image = get_or-map-range_with_len (λ k. number_at (slice_range image 832 2854) (2 * k)) 0 1011 1010 1010 0 (omega arith) (zero-add 1010)

length-map_of : (image : List ℕ) → length (map_of image) ≡ 1011
unfolding entries_of
length-map_of image = length-map-range_with_len (λ k. number_at (slice_range image 832 2854) (2 * k)) 0 1011

last_right : (pages : List ℕ) → length pages ≡ 1011 → is_well_formed pages ≡ true → is_right pages 1010 ≡ true
unfolding is_well_formed
last_right pages long formed =
    let P : ℕ → Type 0 = λ n. is_right pages n ≡ true in
    subst P (get_or-range_with_len 0 (length pages) 1010 0 (omega arith) ∙ zero-add 1010) (AllPass-from_list_all (is_right pages) (range_with_len 0 (length pages)) formed 1010 0 (omega (arith, length-range_with_len 0 (length pages))))

ends_behind : (image : List ℕ) → is_well_formed (map_of image) ≡ true → 832 ≤ length image
ends_behind image formed =
    let y = get_or (map_of image) 1010 0 in
    let right = and_parts (is_in_pool y) (not (is_among (take 1010 (map_of image)) y)) (last_right (map_of image) (length-map_of image) formed) in
    let big : 45 ≤ y = grind (arith, nat_tests) in
    ⊎_elim {C = 832 ≤ length image}
    (λ short.
    let part = slice_range image 832 2854 in
    let none : length part ≤ 0 = omega (arith, length-take 2022 (drop 832 image), length-drop 832 image) in
    let upper : get_or part 2020 0 ≡ 0 = get_or_past part 2020 0 (omega arith) in
    let lower : get_or part 2021 0 ≡ 0 = get_or_past part 2021 0 (omega arith) in
    absurd (omega (arith, last_entry image, upper, lower)))
    (λ long. long) (cases_lt (length image) 832)

own_if : (b : Bool) (pages image : List ℕ) (k : ℕ) → k < 832 → (b ≡ true → slice_index image k ≡ 255) → get_or (if b then through pages image else replicate 65536 255) k 0 ≡ 255
own_if true pages image k low is = get_or-through pages image k (omega arith) ∙ ap (λ n. get_or image n 0) (place_low pages k low) ∙ is refl
own_if false pages image k low is = get_or-replicate 65536 k 255 0 (omega arith)

own_of : (image : List ℕ) (k : ℕ) → 64 ≤ k → k < 832 → slice_index (content_of (stable_of image)) k ≡ 255
unfolding content_of
own_of image k low high =
    own_if (is_well_formed (map_of (stable_of image))) (map_of (stable_of image)) (stable_of image) k high (λ formed. stable_own image k low high (omega (arith, ends_behind (stable_of image) formed, length-stable_of image)))

-- the same of what a device may tell
pub told_content : (told : Option (List ℕ)) → IfSome (content told) (λ held. length held ≡ 65536)
told_content None = tt
told_content (Some image) = length-content_of image

-- bytes 64 to 831 of the content are FF
pub told_own : (told : Option (List ℕ)) (k : ℕ) → 64 ≤ k → k < 832 → IfSome (content (stable told)) (λ held. slice_index held k ≡ 255)
told_own None k low high = tt
told_own (Some image) k low high = own_of image k low high
