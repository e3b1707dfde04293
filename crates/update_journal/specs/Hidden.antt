-- Lemmas on `hidden` of Journal: the image with FF in place of the journal's own bytes, from 64 (`OWN_START`) up to 832
-- (`OWN_END`). They stand in specs/ since Laws, and so the store's facts `told_length` and `own_bytes`, rest on them.
use Rattle.std.specs.Prelude.{◌≡◌, ℕ, ◌+◌, ◌-◌, ◌≤◌, ◌<◌, List, ◌++◌, length, take, drop, slice_range, replicate}
use Rattle.std.proofs.Common.{get_or, ◌∙◌, arith, length-append}
use Rattle.std.proofs.lemmas.List.{length-take, length-drop, length-replicate, get_or-replicate, get_or_append_left, get_or-append_right}
use Rattle.update_journal.specs.Journal.{hidden}

own_count : (image : List ℕ) → length (slice_range image 64 832) + (length image - 832) ≡ length image - 64
own_count image = omega (arith, length-take 768 (drop 64 image), length-drop 64 image)

-- the image keeps its length
pub length-hidden : (image : List ℕ) → length (hidden image) ≡ length image
unfolding hidden
length-hidden image =
    let own = length (slice_range image 64 832) in
    omega (arith, own_count image, length-append (take 64 image ++ replicate own 255) (drop 832 image), length-append (take 64 image) (replicate own 255), length-take 64 image, length-drop 832 image, length-replicate {A = ℕ} own 255)

-- the bytes FF in place of the own ones
abbrev pub filling : List ℕ → List ℕ
filling image = replicate (length (slice_range image 64 832)) 255

-- the bytes that are filled in are those of the journal, as far as the image has them
pub length-filling : (image : List ℕ) → length (filling image) + (length image - 832) ≡ length image - 64
length-filling image = let count : length (filling image) ≡ length (slice_range image 64 832) = length-replicate {A = ℕ} (length (slice_range image 64 832)) 255 in omega (arith, own_count image)

-- bytes 64 to 831 are FF
pub hidden_own : (image : List ℕ) (k : ℕ) → 64 ≤ k → k < 832 → k < length image → get_or (hidden image) k 0 ≡ 255
unfolding hidden
hidden_own image k low high there =
    let front : length (take 64 image) ≡ 64 = omega (arith, length-take 64 image) in
    let byte : ℕ = 255 in
    get_or_append_left (take 64 image ++ filling image) (drop 832 image) 0 k (omega (arith, length-append (take 64 image) (filling image), length-filling image))
    ∙ get_or-append_right (take 64 image) (filling image) 64 k 0 front low
    ∙ get_or-replicate (length (slice_range image 64 832)) (k - 64) byte 0 (omega (arith, own_count image))
