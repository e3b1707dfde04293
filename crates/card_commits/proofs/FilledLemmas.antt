-- A range that is filled, or copied, part by part.
use Rattle.std.proofs.Common.{◌≡◌, ℕ, ◌+◌, ◌-◌, ◌≤◌, List, [], length, take, drop, replicate, Option, Some, None, option_map, IfSome, refl, sym, ◌∙◌, ap, subst, inl, inr, ⊎_elim, arith}
use Rattle.std.proofs.lemmas.List.{length-replicate, replicate-append-replicate}
use Rattle.list_laws.proofs.SliceRangeLemmas.{length-range, next_range}
use Rattle.list_laws.specs.Patches.{patched, Torn, IsApart}
use Rattle.list_laws.proofs.PatchesLemmas.{patched-nil, patched-patched, Torn_patched, Torn_wider, Torn_again, range-patched_apart}
use Rattle.uicc_types.specs.Told.{Becomes}
use Rattle.card_state.specs.Places.{memory_size}
use Rattle.card_state.specs.Decoding.{bytes_at}
use Rattle.card_commits.specs.Prepared.{filled, copied}

abbrev pub Told : Type 0
Told = Option (List ℕ)

-- what is told is a whole memory
abbrev pub IsWhole : Told → Type 0
IsWhole told = IfSome told (λ held. length held ≡ memory_size)

pub whole_of : (told : Told) (size : ℕ) → size ≡ memory_size → IfSome told (λ held. length held ≡ size) → IsWhole told
whole_of told size is long = subst (λ (n : ℕ). IfSome told (λ held. length held ≡ n)) is long

-- ---- a change that keeps to a range

abbrev pub KeepsTo : ℕ → ℕ → (List ℕ → List ℕ) → Type 0
KeepsTo place count change = (content : List ℕ) → length content ≡ memory_size → Torn place count content (change content)

pub filled_keeps : (place count : ℕ) → place + count ≤ memory_size → KeepsTo place count (filled place count)
filled_keeps place count inside content long = Torn_patched place count (replicate count 255) content (length-replicate count 255) (omega (arith, length-replicate {A = ℕ} count 255))

pub copied_keeps : (from place count : ℕ) → from + count ≤ memory_size → place + count ≤ memory_size → KeepsTo place count (copied from place count)
copied_keeps from place count source inside content long =
    let whole : length (bytes_at content from count) ≡ count = length-range content from count (omega arith) in
    Torn_patched place count (bytes_at content from count) content whole (omega arith)

pub torn_by : (place count : ℕ) (change : List ℕ → List ℕ) → KeepsTo place count change → (old new : Told) → IsWhole old → new ≡ option_map change old → Becomes (Torn place count) old new
torn_by place count change keeps None new whole is = let P : Told → Type 0 = λ o. Becomes (Torn place count) None o in subst P (sym is) tt
torn_by place count change keeps (Some content) new whole is = let P : Told → Type 0 = λ o. Becomes (Torn place count) (Some content) o in subst P (sym is) (keeps content whole)

-- a part was torn behind one that was changed
pub torn_on : (place done count total : ℕ) (change : List ℕ → List ℕ) → KeepsTo place done change → (old mid new : Told) → IsWhole old → done + count ≤ total
    → mid ≡ option_map change old → Becomes (Torn (place + done) count) mid new → Becomes (Torn place total) old new
torn_on place done count total change keeps old mid new whole within is torn =
    let P : Told → Type 0 = λ o. Becomes (Torn (place + done) count) o new in by_told old new whole (subst P is torn)
  where
    by_told : (old new : Told) → IsWhole old → Becomes (Torn (place + done) count) (option_map change old) new → Becomes (Torn place total) old new
    by_told None None whole torn = tt
    by_told None (Some now) whole torn = torn
    by_told (Some content) None whole torn = torn
    by_told (Some content) (Some now) whole torn =
        Torn_again place total content (change content) now (Torn_wider place done place total content (change content) (omega arith) (omega arith) (keeps content whole))
        (Torn_wider (place + done) count place total (change content) now (omega arith) (omega arith) torn)

-- a part of a range that was torn
pub torn_within : (place done total : ℕ) → done ≤ total → (old new : Told) → Becomes (Torn place done) old new → Becomes (Torn place total) old new
torn_within place done total within None None torn = tt
torn_within place done total within None (Some now) torn = torn
torn_within place done total within (Some content) None torn = torn
torn_within place done total within (Some content) (Some now) torn = Torn_wider place done place total content now (omega arith) (omega arith) torn

pub same_told : (old : Told) (change : List ℕ → List ℕ) → ((content : List ℕ) → change content ≡ content) → old ≡ option_map change old
same_told None change same = refl
same_told (Some content) change same = ap (λ (l : List ℕ). let some : Told = Some l in some) (sym (same content))

-- one change after another is a third
pub changed_on : (first second both : List ℕ → List ℕ) → ((content : List ℕ) → length content ≡ memory_size → second (first content) ≡ both content) → (old mid new : Told) → IsWhole old
    → mid ≡ option_map first old → new ≡ option_map second mid → new ≡ option_map both old
changed_on first second both same old mid new whole is put = put ∙ ap (λ (o : Told). option_map second o) is ∙ by_told old whole where
  by_told : (old : Told) → IsWhole old → option_map second (option_map first old) ≡ option_map both old
  by_told None whole = refl
  by_told (Some content) whole = ap (λ (l : List ℕ). let some : Told = Some l in some) (same content whole)

-- ---- FF

pub filled_none : (place : ℕ) (old : Told) → old ≡ option_map (filled place 0) old
filled_none place old = same_told old (filled place 0) (λ content. patched-nil place content)

filled_twice : (place done count : ℕ) (content : List ℕ) → place + (done + count) ≤ memory_size → length content ≡ memory_size → filled (place + done) count (filled place done content) ≡ filled place (done + count) content
filled_twice place done count content inside long =
    let first : length {A = ℕ} (replicate done 255) ≡ done = length-replicate {A = ℕ} done 255 in
    let second : length {A = ℕ} (replicate count 255) ≡ count = length-replicate {A = ℕ} count 255 in
    let reached : place + done ≡ place + length {A = ℕ} (replicate done 255) = ap (λ (n : ℕ). place + n) (sym first) in
    let fits : place + done + length {A = ℕ} (replicate count 255) ≤ length content = omega (arith, second, inside, long) in
    patched-patched place (place + done) (replicate done 255) (replicate count 255) content reached fits
    ∙ ap (λ (l : List ℕ). patched place l content) (replicate-append-replicate done count 255)

pub filled_on : (place done count : ℕ) (old mid new : Told) → IsWhole old → place + (done + count) ≤ memory_size → mid ≡ option_map (filled place done) old → new ≡ option_map (filled (place + done) count) mid
    → new ≡ option_map (filled place (done + count)) old
filled_on place done count old mid new whole inside is put =
    changed_on (filled place done) (filled (place + done) count) (filled place (done + count)) (λ content long. filled_twice place done count content inside long) old mid new whole is put

-- bytes FF that were put, or torn
pub blank_put : (place count : ℕ) (bytes : List ℕ) (old new : Told) → bytes ≡ replicate count 255 → new ≡ option_map (patched place bytes) old → new ≡ option_map (filled place count) old
blank_put place count bytes old new is put = put ∙ ap (λ (l : List ℕ). option_map (patched place l) old) is

pub blank_torn : (place count : ℕ) (bytes : List ℕ) (old new : Told) → bytes ≡ replicate count 255 → Becomes (Torn place (length bytes)) old new → Becomes (Torn place count) old new
blank_torn place count bytes old new is torn = subst (λ (n : ℕ). Becomes (Torn place n) old new) (ap length is ∙ length-replicate {A = ℕ} count 255) torn

-- ---- bytes that stand elsewhere

pub copied_none : (from place : ℕ) (old : Told) → old ≡ option_map (copied from place 0) old
copied_none from place old = same_told old (copied from place 0) none where
  nothing : (content : List ℕ) → bytes_at content from 0 ≡ []
  nothing content = ap (λ (n : ℕ). take n (drop from content)) (let empty : from + 0 - from ≡ 0 = omega arith in empty)

  none : (content : List ℕ) → copied from place 0 content ≡ content
  none content = ap (λ (l : List ℕ). patched place l content) (nothing content) ∙ patched-nil place content

copied_twice : (from place done count total : ℕ) (content : List ℕ) → done + count ≤ total → from + total ≤ memory_size → place + total ≤ memory_size → IsApart from total place total → length content ≡ memory_size
    → copied (from + done) (place + done) count (copied from place done content) ≡ copied from place (done + count) content
copied_twice from place done count total content within source inside apart long =
    let front : List ℕ = bytes_at content from done in
    let front_long : length front ≡ done = length-range content from done (omega arith) in
    let back : List ℕ = bytes_at content (from + done) count in
    let back_long : length back ≡ count = length-range content (from + done) count (omega arith) in
    let clear : IsApart (from + done) count place (length front) =
    ⊎_elim {C = IsApart (from + done) count place (length front)} (λ below. inl (omega arith)) (λ above. inr (omega (arith, front_long))) apart in
    let same : bytes_at (copied from place done content) (from + done) count ≡ back = range-patched_apart place front content (omega arith) (from + done) count (omega arith) clear in
    ap (λ (l : List ℕ). patched (place + done) l (copied from place done content)) same
    ∙ patched-patched place (place + done) front back content (omega (arith, front_long)) (omega (arith, back_long))
    ∙ ap (λ (l : List ℕ). patched place l content) (next_range content from done count (omega arith))

pub copied_on : (from place done count total : ℕ) (old mid new : Told) → IsWhole old → done + count ≤ total → from + total ≤ memory_size → place + total ≤ memory_size → IsApart from total place total
    → mid ≡ option_map (copied from place done) old → new ≡ option_map (copied (from + done) (place + done) count) mid → new ≡ option_map (copied from place (done + count)) old
copied_on from place done count total old mid new whole within source inside apart is put =
    changed_on (copied from place done) (copied (from + done) (place + done) count) (copied from place (done + count)) (λ content long. copied_twice from place done count total content within source inside apart long) old mid new whole is put
