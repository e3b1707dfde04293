-- What a write that is cut leaves in its range.
use Rattle.std.proofs.Common.{◌≡◌, ℕ, ◌+◌, ◌-◌, ◌≤◌, min, List, ◌++◌, length, take, replicate, sym, ◌∙◌, ap, subst, arith, length-append}
use Rattle.std.proofs.lemmas.List.{length-take, length-replicate, take_min}
use Rattle.list_laws.specs.Patches.{patched, Torn}
use Rattle.list_laws.proofs.PatchesLemmas.{patched-patched, Torn_patched}
use Rattle.uicc_types.specs.declared.plans.CutAt.{CutAt}
use Rattle.eeprom_model.specs.Bench.{cut_bytes}

pub length-cut_bytes : (cut : CutAt) (bytes : List ℕ) → length (cut_bytes cut bytes) ≡ length bytes
length-cut_bytes cut bytes =
    omega (arith, length-append (take cut.kept bytes) (replicate (length bytes - cut.kept) cut.rest), length-take cut.kept bytes, length-replicate (length bytes - cut.kept) cut.rest)

-- the bytes that are kept, and then the byte of the cut
pub cut_in_two : (at kept : ℕ) (cut : CutAt) (bytes image : List ℕ) → kept ≡ min (length bytes) cut.kept → at + length bytes ≤ length image
    → patched (at + kept) (replicate (length bytes - kept) cut.rest) (patched at (take kept bytes) image) ≡ patched at (cut_bytes cut bytes) image
cut_in_two at kept cut bytes image is fits =
    let front : take kept bytes ≡ take cut.kept bytes = ap (λ (n : ℕ). take n bytes) is ∙ ap (λ (n : ℕ). take n bytes) (min_comm) ∙ take_min cut.kept bytes in
    let long : length (take kept bytes) ≡ kept = omega (arith, length-take kept bytes) in
    let rest : length bytes - kept ≡ length bytes - cut.kept = omega arith in
    let behind : at + kept ≡ at + length (take kept bytes) = omega arith in
    let fits' : at + kept + length (replicate (length bytes - kept) cut.rest) ≤ length image = omega (arith, length-replicate (length bytes - kept) cut.rest) in
    patched-patched at (at + kept) (take kept bytes) (replicate (length bytes - kept) cut.rest) image behind fits'
    ∙ ap (λ (l : List ℕ). patched at (l ++ replicate (length bytes - kept) cut.rest) image) front
    ∙ ap (λ (n : ℕ). patched at (take cut.kept bytes ++ replicate n cut.rest) image) rest
  where
    min_comm : min (length bytes) cut.kept ≡ min cut.kept (length bytes)
    min_comm = omega arith

-- what stands there is torn in its range
pub Torn_by : (at count : ℕ) (put image left : List ℕ) → length put ≡ count → at + count ≤ length image → left ≡ patched at put image → Torn at count image left
Torn_by at count put image left long fits is =
    let fits' : at + length put ≤ length image = omega arith in
    let P : List ℕ → Type 0 = λ l. Torn at count image l in subst P (sym is) (Torn_patched at count put image long fits')
