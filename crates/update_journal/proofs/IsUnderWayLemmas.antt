-- The steps of a commit on a device that may tell its bytes, or may not.
use Rattle.std.proofs.Common.{zero, suc, take, drop, ◌≡◌, ℕ, ◌+◌, ◌≤◌, ◌<◌, true, false, List, [], ◌∷◌, length, get_or, Option, Some, None, refl, sym, inl, inr, ⊎_elim, ◌∙◌, ap, subst, arith, option_map, slice_range, slice_get, IfSome, get_or-take, get_or-drop, take_all}
use Rattle.std.proofs.lemmas.Bool.{not-true}
use Rattle.std.proofs.lemmas.Bool.Decides.{nat_tests}
use Rattle.std.proofs.lemmas.List.Elements.{All-take}
use Rattle.std.proofs.lemmas.Option.{same_Some, get_or_from_slice_get, slice_get_within}
use Rattle.list_laws.specs.Patches.{patched, Torn}
use Rattle.list_laws.proofs.PatchesLemmas.{patched-nil, Torn_patched}
use Rattle.uicc_types.specs.Told.{Becomes}
use Rattle.store_form.specs.Pieces.{Piece, applied, IsUsable, IsUsablePiece, IsWithinBounds}
use Rattle.store_form.specs.Spared.{AreUsable, Rewritten}
use Rattle.store_form.proofs.SparedLemmas.{length-applied, Rewritten_applied, Rewritten_again, Rewritten_part, Rewritten_take}
use Rattle.update_journal.specs.Entries.{entries, pieces_in}
use Rattle.update_journal.specs.Journal.{is_open, stable_of, stable, IsWhole, is_settled, IsUnderWay, ended, recovered_image}
use Rattle.update_journal.proofs.StableOfLemmas.{area, pending_open, pending_none, entries_torn, area_spelled, opening, gate_torn, pieces_torn, closing, closed_gate, opened_gate, prepared, prepared_torn, stable_range}
use Rattle.update_journal.proofs.PatchedLemmas.{HasLength}
use Rattle.update_journal.proofs.EntriesLemmas.{length-entries}

abbrev Told : Type 0
Told = Option (List ℕ)

pub some_same : (old new : List ℕ) → new ≡ old → Some new ≡ Some old
some_same old new same = ap (λ (l : List ℕ). Some l) same

usable_in : (pieces : List Piece) (size : ℕ) (image : List ℕ) → length image ≡ size → AreUsable pieces size → AreUsable pieces (length image)
usable_in pieces size image long usable = let P : ℕ → Type 0 = λ n. AreUsable pieces n in subst P (sym long) usable

range_in : (at count size : ℕ) (image : List ℕ) → length image ≡ size → IsUsable size at count → IsUsable (length image) at count
range_in at count size image long usable = let P : ℕ → Type 0 = λ n. IsUsable n at count in subst P (sym long) usable

shut : (image : List ℕ) → is_settled (Some image) ≡ true → is_open image ≡ false
shut image settled = not-true (is_open image) settled

settled_by : (image : List ℕ) → is_open image ≡ false → is_settled (Some image) ≡ true
settled_by image closed = rw closed refl

-- a fault while the entries are written
pub while_entries : (count : ℕ) (old new : Told) → 128 + count ≤ 832 → is_settled old ≡ true → Becomes (Torn 128 count) old new → stable new ≡ stable old
while_entries count None None fits settled torn = refl
while_entries count None (Some image) fits settled torn = absurd torn
while_entries count (Some image) None fits settled torn = absurd torn
while_entries count (Some old) (Some new) fits settled torn = some_same _ _ ((entries_torn count old new fits (shut old settled) torn).1)

-- the image with its entries, while the gate is closed
record Spelled (pieces : List Piece) (old mid : List ℕ) : Type 0 where
  long : length mid ≡ length old
  closed : is_open mid ≡ false
  same : stable_of mid ≡ stable_of old
  there : pieces_in (length mid) (area mid) ≡ Some pieces

spelled_in : (pieces : List Piece) (old : List ℕ) → 832 ≤ length old → is_open old ≡ false → IsWithinBounds pieces → 0 < length pieces → AreUsable pieces (length old) → Spelled pieces old (patched 128 (entries pieces) old)
spelled_in pieces old roomy closed bounds some usable =
    let short = length-entries pieces bounds in
    let fits : 128 + length (entries pieces) ≤ length old = omega arith in
    let torn = Torn_patched 128 (length (entries pieces)) (entries pieces) old refl fits in
    let behind = entries_torn (length (entries pieces)) old (patched 128 (entries pieces) old) (omega arith) closed torn in
    let P : ℕ → Type 0 = λ n. pieces_in n (area (patched 128 (entries pieces) old)) ≡ Some pieces in
    record { long = torn.same_length; closed = behind.0; same = behind.1; there = subst P (sym torn.same_length) (area_spelled pieces old roomy bounds some usable) }

-- a fault while the gate is opened
pub while_opening : (pieces : List Piece) (size : ℕ) (old mid new : Told) → 832 ≤ size → HasLength old size → is_settled old ≡ true → IsWithinBounds pieces → 0 < length pieces → AreUsable pieces size
    → mid ≡ option_map (patched 128 (entries pieces)) old → Becomes (Torn 64 1) mid new → IsWhole pieces old new
while_opening pieces size None mid None roomy long settled bounds some usable put torn = inl refl
while_opening pieces size None mid (Some new) roomy long settled bounds some usable put torn = let P : Told → Type 0 = λ o. Becomes (Torn 64 1) o (Some new) in absurd (subst P put torn)
while_opening pieces size (Some old) mid None roomy long settled bounds some usable put torn = let P : Told → Type 0 = λ o. Becomes (Torn 64 1) o None in absurd (subst P put torn)
while_opening pieces size (Some old) mid (Some new) roomy long settled bounds some usable put torn =
    let P : Told → Type 0 = λ o. Becomes (Torn 64 1) o (Some new) in
    let spelled = spelled_in pieces old (omega arith) (shut old settled) bounds some (usable_in pieces size old long usable) in
    let all = patched 128 (entries pieces) old in
    let usable_all = usable_in pieces size all (spelled.long ∙ long) usable in
    ⊎_elim (λ before. inl (some_same _ _ (before ∙ spelled.same)))
    (λ after. inr (some_same _ _ (after ∙ ap (λ (l : List ℕ). applied pieces l) spelled.same)))
    (gate_torn pieces all new spelled.closed usable_all spelled.there (subst P put torn))

-- the gate is open: the commit is under way, and stands
pub once_open : (pieces : List Piece) (size : ℕ) (old mid new : Told) → 832 ≤ size → HasLength old size → is_settled old ≡ true → IsWithinBounds pieces → 0 < length pieces → AreUsable pieces size
    → mid ≡ option_map (patched 128 (entries pieces)) old → new ≡ option_map (patched 64 (0x5A ∷ [])) mid → IfSome new (IsUnderWay pieces) × (stable new ≡ option_map (applied pieces) (stable old))
once_open pieces size None mid new roomy long settled bounds some usable put opened =
    let none : new ≡ None = opened ∙ ap (λ (o : Told). option_map (patched 64 (0x5A ∷ [])) o) put in
    let P : Told → Type 0 = λ o. IfSome o (IsUnderWay pieces) × (stable o ≡ None) in subst P (sym none) (tt, refl)
once_open pieces size (Some old) mid new roomy long settled bounds some usable put opened =
    let spelled = spelled_in pieces old (omega arith) (shut old settled) bounds some (usable_in pieces size old long usable) in
    let all = patched 128 (entries pieces) old in
    let usable_all = usable_in pieces size all (spelled.long ∙ long) usable in
    let roomy_all : 832 ≤ length all = omega (arith, spelled.long) in
    let is_all : new ≡ Some (patched 64 (0x5A ∷ []) all) = opened ∙ ap (λ (o : Told). option_map (patched 64 (0x5A ∷ [])) o) put in
    let torn = Torn_patched 64 1 (0x5A ∷ []) all refl (omega arith) in
    let gate = opened_gate all roomy_all in
    let under = opening pieces all (patched 64 (0x5A ∷ []) all) spelled.closed usable_all spelled.there torn gate in
    let P : Told → Type 0 = λ o. IfSome o (IsUnderWay pieces) × (stable o ≡ option_map (applied pieces) (stable (Some old))) in
    subst P (sym is_all) (record { opened = gate; of_pieces = under.0 }, some_same _ _ (under.1 ∙ ap (λ (l : List ℕ). applied pieces l) spelled.same))

-- a fault while the pieces are written into their places
pub while_pieces : (pieces : List Piece) (size : ℕ) (old new : Told) → HasLength old size → AreUsable pieces size → IfSome old (IsUnderWay pieces) → Becomes (Rewritten pieces) old new → stable new ≡ stable old
while_pieces pieces size None None long usable under rewritten = refl
while_pieces pieces size None (Some new) long usable under rewritten = absurd rewritten
while_pieces pieces size (Some old) None long usable under rewritten = absurd rewritten
while_pieces pieces size (Some old) (Some new) long usable under rewritten = some_same _ _ (pieces_torn pieces old new under.of_pieces (usable_in pieces size old long usable) rewritten)

-- a fault while the gate is closed
pub while_closing : (pieces : List Piece) (size : ℕ) (old mid new : Told) → HasLength old size → AreUsable pieces size → IfSome old (IsUnderWay pieces) → mid ≡ option_map (applied pieces) old → Becomes (Torn 64 1) mid new → stable new ≡ stable old
while_closing pieces size None mid None long usable under put torn = refl
while_closing pieces size None mid (Some new) long usable under put torn = let P : Told → Type 0 = λ o. Becomes (Torn 64 1) o (Some new) in absurd (subst P put torn)
while_closing pieces size (Some old) mid None long usable under put torn = let P : Told → Type 0 = λ o. Becomes (Torn 64 1) o None in absurd (subst P put torn)
while_closing pieces size (Some old) mid (Some new) long usable under put torn =
    let P : Told → Type 0 = λ o. Becomes (Torn 64 1) o (Some new) in
    some_same _ _ (closing pieces old new under.opened under.of_pieces (usable_in pieces size old long usable) (subst P put torn))

-- the gate is closed
pub once_closed : (pieces : List Piece) (size : ℕ) (old mid new : Told) → 832 ≤ size → HasLength old size → AreUsable pieces size → IfSome old (IsUnderWay pieces) → mid ≡ option_map (applied pieces) old → new ≡ option_map (patched 64 (0 ∷ [])) mid
    → (stable new ≡ stable old) × (is_settled new ≡ true)
once_closed pieces size None mid new roomy long usable under put closed =
    let none : new ≡ None = closed ∙ ap (λ (o : Told). option_map (patched 64 (0 ∷ [])) o) put in
    let P : Told → Type 0 = λ o. (stable o ≡ None) × (is_settled o ≡ true) in subst P (sym none) (refl, refl)
once_closed pieces size (Some old) mid new roomy long usable under put closed =
    let here = usable_in pieces size old long usable in
    let all = applied pieces old in
    let roomy_all : 832 ≤ length all = omega (arith, length-applied pieces old here) in
    let is_all : new ≡ Some (patched 64 (0 ∷ []) all) = closed ∙ ap (λ (o : Told). option_map (patched 64 (0 ∷ [])) o) put in
    let torn = Torn_patched 64 1 (0 ∷ []) all refl (omega arith) in
    let P : Told → Type 0 = λ o. (stable o ≡ stable (Some old)) × (is_settled o ≡ true) in
    subst P (sym is_all) (some_same _ _ (closing pieces old (patched 64 (0 ∷ []) all) under.opened under.of_pieces here torn), settled_by (patched 64 (0 ∷ []) all) (closed_gate all roomy_all))

pub none_written : (told : Told) → told ≡ option_map (applied []) told
none_written None = refl
none_written (Some image) = refl

pub one_more : (pieces : List Piece) (at : ℕ) (piece : Piece) (image : List ℕ) → slice_get pieces at ≡ Some piece → applied (take (at + 1) pieces) image ≡ patched piece.place piece.bytes (applied (take at pieces) image)
one_more [] at piece image there = absurd (let none : None ≡ Some piece = there in cc)
one_more (first ∷ pieces) zero piece image there = ap (λ (p : Piece). patched p.place p.bytes image) (same_Some first piece there)
one_more (first ∷ pieces) (suc at) piece image there =
    let one_on : suc at + 1 ≡ suc (at + 1) = omega arith in
    ap (λ (n : ℕ). applied (take n (first ∷ pieces)) image) one_on ∙ one_more pieces at piece (patched first.place first.bytes image) there

-- one piece more is written
pub piece_written : (pieces : List Piece) (at : ℕ) (piece : Piece) (old mid new : Told) → slice_get pieces at ≡ Some piece → mid ≡ option_map (applied (take at pieces)) old → new ≡ option_map (patched piece.place piece.bytes) mid
    → new ≡ option_map (applied (take (at + 1) pieces)) old
piece_written pieces at piece old mid new there so_far put = put ∙ ap (λ (o : Told). option_map (patched piece.place piece.bytes) o) so_far ∙ on old
  where
    on : (o : Told) → option_map (patched piece.place piece.bytes) (option_map (applied (take at pieces)) o) ≡ option_map (applied (take (at + 1) pieces)) o
    on None = refl
    on (Some image) = some_same _ _ (sym (one_more pieces at piece image there))

pub all_written : (pieces : List Piece) (at : ℕ) (old now : Told) → length pieces ≤ at → now ≡ option_map (applied (take at pieces)) old → now ≡ option_map (applied pieces) old
all_written pieces at old now all so_far = so_far ∙ ap (λ (ps : List Piece). option_map (applied ps) old) (take_all at pieces all)

-- the next piece was torn
pub piece_torn : (pieces : List Piece) (at : ℕ) (piece : Piece) (size : ℕ) (old mid new : Told) → HasLength old size → AreUsable pieces size → slice_get pieces at ≡ Some piece → mid ≡ option_map (applied (take at pieces)) old
    → Becomes (Torn piece.place (length piece.bytes)) mid new → Becomes (Rewritten pieces) old new
piece_torn pieces at piece size old mid new long usable there so_far torn = let P : Told → Type 0 = λ o. Becomes (Torn piece.place (length piece.bytes)) o new in on old new long (subst P so_far torn)
  where
    on : (o n : Told) → HasLength o size → Becomes (Torn piece.place (length piece.bytes)) (option_map (applied (take at pieces)) o) n → Becomes (Rewritten pieces) o n
    on None None told left = tt
    on None (Some image) told left = left
    on (Some image) None told left = left
    on (Some image) (Some now) told left =
        let before = Rewritten_take pieces at image (applied (take at pieces) image) (Rewritten_applied size (take at pieces) image told (All-take (IsUsablePiece size) at pieces usable)) in
        Rewritten_again pieces image (applied (take at pieces) image) now before (Rewritten_part pieces at piece (applied (take at pieces) image) now there left)

pub piece_inside : (pieces : List Piece) (at : ℕ) (piece : Piece) (size : ℕ) → AreUsable pieces size → slice_get pieces at ≡ Some piece → piece.place + length piece.bytes ≤ size
piece_inside pieces at piece size usable there =
    let P : Piece → Type 0 = λ p. IsUsablePiece size p in
    (subst P (get_or_from_slice_get pieces at piece piece there) (usable at piece (slice_get_within pieces at piece there))).range.inside

gate_of : (gate held : List ℕ) → gate ≡ slice_range held 64 65 → get_or gate 0 0 ≡ get_or held 64 0
gate_of gate held is = ap (λ (l : List ℕ). get_or l 0 0) is ∙ get_or-take 1 (drop 64 held) 0 0 (omega arith) ∙ get_or-drop 64 held 0 0

opened_by : (image gate : List ℕ) → gate ≡ slice_range image 64 65 → get_or gate 0 0 ≡ 0x5A → is_open image ≡ true
opened_by image gate seen is = let same : get_or image 64 0 ≡ 0x5A = sym (gate_of gate image seen) ∙ is in grind (arith, nat_tests)

area_in : (size : ℕ) (image bytes : List ℕ) → length image ≡ size → bytes ≡ slice_range image 128 832 → pieces_in (length image) (area image) ≡ pieces_in size bytes
area_in size image bytes long seen = ap (λ (n : ℕ). pieces_in n (area image)) long ∙ ap (λ (l : List ℕ). pieces_in size l) (sym seen)

-- the gate is open, and these pieces were read
pub found_pieces : (told : Told) (size : ℕ) (gate bytes : List ℕ) (pieces : List Piece) → HasLength told size → IfSome told (λ held. gate ≡ slice_range held 64 65) → get_or gate 0 0 ≡ 0x5A → IfSome told (λ held. bytes ≡ slice_range held 128 832)
    → pieces_in size bytes ≡ Some pieces → IfSome told (IsUnderWay pieces)
found_pieces None size gate bytes pieces long seen is read found = tt
found_pieces (Some image) size gate bytes pieces long seen is read found =
    let opened = opened_by image gate seen is in record { opened = opened; of_pieces = pending_open image pieces opened (area_in size image bytes long read ∙ found) }

-- the gate is open over entries that are not well formed
pub found_nothing : (told : Told) (size : ℕ) (gate bytes : List ℕ) → HasLength told size → IfSome told (λ held. gate ≡ slice_range held 64 65) → get_or gate 0 0 ≡ 0x5A → IfSome told (λ held. bytes ≡ slice_range held 128 832)
    → pieces_in size bytes ≡ None → IfSome told (IsUnderWay [])
found_nothing None size gate bytes long seen is read found = tt
found_nothing (Some image) size gate bytes long seen is read found =
    let opened = opened_by image gate seen is in record { opened = opened; of_pieces = pending_none image opened (area_in size image bytes long read ∙ found) }

-- only while the gate is open is anything written
pub not_closed : (told new : Told) (gate : List ℕ) → IfSome told (λ held. gate ≡ slice_range held 64 65) → get_or gate 0 0 ≡ 0x5A → IfSome told (λ image. is_open image ≡ false → new ≡ Some image)
not_closed None new gate seen is = tt
not_closed (Some image) new gate seen is = λ closed. absurd (let opened = opened_by image gate seen is in cc (opened, closed))

pub nothing_put : (told : Told) (at : ℕ) (bytes : List ℕ) → length bytes ≡ 0 → told ≡ option_map (patched at bytes) told
nothing_put None at bytes none = refl
nothing_put (Some image) at [] none = some_same _ _ (sym (patched-nil at image))
nothing_put (Some image) at (byte ∷ bytes) none = absurd (omega arith)

pub once_prepared : (at size : ℕ) (bytes : List ℕ) (old new : Told) → HasLength old size → is_settled old ≡ true → 0 < length bytes → IsUsable size at (length bytes) → new ≡ option_map (patched at bytes) old
    → (stable new ≡ option_map (patched at bytes) (stable old)) × (is_settled new ≡ true)
once_prepared at size bytes None new long settled some usable put = let P : Told → Type 0 = λ o. (stable o ≡ None) × (is_settled o ≡ true) in subst P (sym put) (refl, refl)
once_prepared at size bytes (Some old) new long settled some usable put =
    let done = prepared at bytes old (shut old settled) some (range_in at (length bytes) size old long usable) in
    let P : Told → Type 0 = λ o. (stable o ≡ option_map (patched at bytes) (stable (Some old))) × (is_settled o ≡ true) in
    subst P (sym put) (some_same _ _ done.1, settled_by (patched at bytes old) done.0)

pub while_preparing : (at count size : ℕ) (old new : Told) → HasLength old size → is_settled old ≡ true → 0 < count → IsUsable size at count → Becomes (Torn at count) old new → Becomes (Torn at count) (stable old) (stable new)
while_preparing at count size None None long settled some usable torn = tt
while_preparing at count size None (Some new) long settled some usable torn = torn
while_preparing at count size (Some old) None long settled some usable torn = torn
while_preparing at count size (Some old) (Some new) long settled some usable torn = (prepared_torn at count old new (shut old settled) some (range_in at count size old long usable) torn).1

-- the image that a recovery leaves
pub recovered_by : (told : Told) (pieces : List Piece) → IfSome told (IsUnderWay pieces) → option_map (ended pieces) told ≡ option_map recovered_image told
recovered_by None pieces under = refl
recovered_by (Some image) pieces under = some_same _ _ (rw (under.opened, under.of_pieces) refl)

-- what is read of a settled memory is stable
pub read_stable : (at count size : ℕ) (told : Told) (out : List ℕ) → HasLength told size → is_settled told ≡ true → IsUsable size at count → IfSome told (λ held. out ≡ slice_range held at (at + count))
    → IfSome (stable told) (λ held. out ≡ slice_range held at (at + count))
read_stable at count size None out long settled usable seen = tt
read_stable at count size (Some image) out long settled usable seen = seen ∙ stable_range at count image (shut image settled) (range_in at count size image long usable)
