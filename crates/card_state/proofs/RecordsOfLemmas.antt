-- Records that lie one after the other in the bytes of a file.
use Rattle.std.proofs.Common.{◌≡◌, ℕ, ◌+◌, ◌-◌, ◌*◌, ◌≤◌, ◌<◌, List, length, take, drop, replicate, slice_range, get_or, set, sym, ◌∙◌, ap, inl, inr, ⊎_elim, arith}
use Rattle.std.proofs.lemmas.List.{take-replicate, drop-replicate}
use Rattle.std.proofs.lemmas.List.FromFn.{length-map-range_with_len, get_or-map-range_with_len}
use Rattle.std.proofs.lemmas.Bool.{cases_lt}
use Rattle.list_laws.proofs.MapLemmas.{set_numbered, all_alike}
use Rattle.list_laws.proofs.SliceRangeLemmas.{one_behind}
use Rattle.list_laws.specs.Patches.{patched, IsApart}
use Rattle.list_laws.proofs.PatchesLemmas.{range-patched_apart, range-patched_there}
use Rattle.card_state.specs.Decoding.{bytes_at}
use Rattle.card_state.specs.States.{records_of}

pub length-records_of : (width count : ℕ) (bytes : List ℕ) → length (records_of width count bytes) ≡ count
length-records_of width count bytes = length-map-range_with_len (λ (k : ℕ). slice_range bytes (k * width) (k * width + width)) 0 count

pub record_there : (width count k : ℕ) (bytes d : List ℕ) → k < count → get_or (records_of width count bytes) k d ≡ bytes_at bytes (k * width) width
record_there width count k bytes d low = get_or-map-range_with_len (λ (k : ℕ). slice_range bytes (k * width) (k * width + width)) 0 count k k d low (omega arith)

-- a record that is put over another is in its place
pub record_written : (width count index : ℕ) (bytes added : List ℕ) → index < count → length added ≡ width → count * width ≤ length bytes
    → records_of width count (patched (index * width) added bytes) ≡ set (records_of width count bytes) index added
record_written width count index bytes added low long fits =
    let end : index * width + width ≤ count * width = one_behind width index count low in
    let inside : index * width + length added ≤ length bytes = omega arith in
    let now : List ℕ = patched (index * width) added bytes in
    set_numbered (λ (k : ℕ). bytes_at bytes (k * width) width) (λ (k : ℕ). bytes_at now (k * width) width) count index added low
    (ap (λ (n : ℕ). bytes_at now (index * width) n) (sym long) ∙ range-patched_there (index * width) added bytes inside)
    (λ k below other.
    let within : k * width + width ≤ count * width = one_behind width k count below in
    range-patched_apart (index * width) added bytes inside (k * width) width (omega arith)
    (⊎_elim {C = IsApart (k * width) width (index * width) (length added)}
    (λ before. inl (one_behind width k index before))
    (λ after. inr (let next : index * width + width ≤ k * width = one_behind width index k (omega arith) in omega arith)) (cases_lt k index)))

-- part of bytes that are all the same
pub bytes_at-replicate : (at count total byte : ℕ) → at + count ≤ total → bytes_at (replicate total byte) at count ≡ replicate count byte
bytes_at-replicate at count total byte fits =
    let few : at + count - at ≡ count = omega arith in
    ap (λ (n : ℕ). take n (drop at (replicate total byte))) few ∙ ap (λ (l : List ℕ). take count l) (drop-replicate at total byte) ∙ take-replicate count (total - at) byte (omega arith)

-- records of bytes that are all the same
pub blank_records : (width count total byte : ℕ) → count * width ≤ total → records_of width count (replicate total byte) ≡ replicate count (replicate width byte)
blank_records width count total byte fits =
    let bytes : List ℕ = replicate total byte in
    all_alike (records_of width count bytes) count (replicate width byte) (length-records_of width count bytes)
    (λ k d low.
    let within : k * width + width ≤ count * width = one_behind width k count low in
    record_there width count k bytes d low ∙ bytes_at-replicate (k * width) width total byte (omega arith))
