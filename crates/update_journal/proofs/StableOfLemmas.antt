-- What an image stands for after each step of a commit, whole or torn.
use Rattle.std.proofs.Common.{zero, suc, append_assoc, ◌≡◌, ◌⊎◌, ℕ, ◌+◌, ◌-◌, ◌≤◌, ◌<◌, true, false, ◌==◌, List, [], ◌∷◌, ◌++◌, length, take, drop, get_or, Some, None, refl, sym, inl, inr, ◌∙◌, ap, subst, arith, length-take, length-drop, slice_range}
use Rattle.std.proofs.lemmas.Bool.{cases_Bool, cases_lt}
use Rattle.std.proofs.lemmas.List.{get_or-take, get_or-drop, get_or_past, drop_at}
use Rattle.std.proofs.lemmas.Grind.{same_number_lists}
use Rattle.list_laws.specs.Patches.{patched, Torn}
use Rattle.list_laws.proofs.PatchesLemmas.{patched_inside, Torn_patched, Torn_wider}
use Rattle.store_form.specs.Pieces.{Piece, applied, IsUsable, IsWithinBounds}
use Rattle.store_form.specs.Spared.{AreUsable, Rewritten}
use Rattle.store_form.proofs.SparedLemmas.{Rewritten_applied, applied-Rewritten, applied-applied, Spare_own}
use Rattle.update_journal.specs.Entries.{entries, pieces_in}
use Rattle.update_journal.specs.Hidden.{length-hidden, hidden_own}
use Rattle.update_journal.proofs.HiddenLemmas.{hidden_below, hidden_above, hidden-Torn, hidden-patched, hidden-applied}
use Rattle.update_journal.specs.Journal.{is_open, pending, hidden, stable_of}
use Rattle.update_journal.proofs.EntriesLemmas.{pieces_back, length-entries}

abbrev pub area : List ℕ → List ℕ
area image = slice_range image 128 832

pub pending_closed : (image : List ℕ) → is_open image ≡ false → pending image ≡ []
unfolding pending
pending_closed image closed = rw closed refl

pub pending_open : (image : List ℕ) (pieces : List Piece) → is_open image ≡ true → pieces_in (length image) (area image) ≡ Some pieces → pending image ≡ pieces
unfolding pending
pending_open image pieces opened spelled = rw (opened, spelled) refl

pub pending_none : (image : List ℕ) → is_open image ≡ true → pieces_in (length image) (area image) ≡ None → pending image ≡ []
unfolding pending
pending_none image opened spelled = rw (opened, spelled) refl

stable_by : (image : List ℕ) (pieces : List Piece) → pending image ≡ pieces → stable_of image ≡ hidden (applied pieces image)
unfolding stable_of
stable_by image pieces is = ap (λ (ps : List Piece). hidden (applied ps image)) is

pub stable_closed : (image : List ℕ) → is_open image ≡ false → stable_of image ≡ hidden image
stable_closed image closed = stable_by image [] (pending_closed image closed)

-- the two have the same own bytes
pub record SameOwn (old new : List ℕ) : Type 0 where
  pub same_length : length new ≡ length old
  pub own : (k : ℕ) → 64 ≤ k → k < 832 → get_or new k 0 ≡ get_or old k 0

same_gate : (old new : List ℕ) → get_or new 64 0 ≡ get_or old 64 0 → is_open new ≡ is_open old
same_gate old new same = ap (λ (n : ℕ). n == 0x5A) same

same_area : (old new : List ℕ) → length new ≡ length old → ((k : ℕ) → 128 ≤ k → k < 832 → get_or new k 0 ≡ get_or old k 0) → area new ≡ area old
same_area old new long same =
    same_number_lists _ _ (omega (arith, length-take 704 (drop 128 new), length-take 704 (drop 128 old), length-drop 128 new, length-drop 128 old))
    (λ k h. let low : k < 704 = omega (arith, length-take 704 (drop 128 new)) in
    get_or-take 704 (drop 128 new) k 0 low ∙ get_or-drop 128 new k 0 ∙ same (128 + k) (omega arith) (omega arith) ∙ sym (get_or-drop 128 old k 0) ∙ sym (get_or-take 704 (drop 128 old) k 0 low))

pending_same : (old new : List ℕ) → length new ≡ length old → is_open new ≡ is_open old → area new ≡ area old → pending new ≡ pending old
unfolding pending
pending_same old new long gate spelled = rw (gate, spelled, long) refl

pub pending-SameOwn : (old new : List ℕ) → SameOwn old new → pending new ≡ pending old
pending-SameOwn old new same =
    pending_same old new same.same_length (same_gate old new (same.own 64 (omega arith) (omega arith))) (same_area old new same.same_length (λ k from to. same.own k (omega arith) to))

-- while entries are written, with the gate closed
pub entries_torn : (count : ℕ) (old new : List ℕ) → 128 + count ≤ 832 → is_open old ≡ false → Torn 128 count old new → (is_open new ≡ false) × (stable_of new ≡ stable_of old)
entries_torn count old new fits closed torn =
    let still : is_open new ≡ false = same_gate old new (torn.before 64 (omega arith)) ∙ closed in
    (still, stable_closed new still ∙ hidden-Torn old new (Torn_wider 128 count 64 768 old new (omega arith) (omega arith) torn) ∙ sym (stable_closed old closed))

take_past : (front back : List ℕ) (count more : ℕ) → count ≡ length front + more → take count (front ++ back) ≡ front ++ take more back
take_past [] back count more is = let same : count ≡ more = omega arith in ap (λ (n : ℕ). take n back) same
take_past (byte ∷ front) back zero more is = absurd (omega arith)
take_past (byte ∷ front) back (suc count) more is = ap (λ (l : List ℕ). byte ∷ l) (take_past front back count more (omega arith))

-- the entries stand in their area
pub area_spelled : (pieces : List Piece) (image : List ℕ) → 832 ≤ length image → IsWithinBounds pieces → 0 < length pieces → AreUsable pieces (length image)
    → pieces_in (length image) (area (patched 128 (entries pieces) image)) ≡ Some pieces
unfolding patched
area_spelled pieces image roomy bounds some usable =
    let spelled = entries pieces in
    let rest = drop (128 + length spelled) image in
    let front : length (take 128 image) ≡ 128 = omega (arith, length-take 128 image) in
    let behind : drop 128 (take 128 image ++ spelled ++ rest) ≡ spelled ++ rest =
    ap (λ (l : List ℕ). drop 128 l) (append_assoc (take 128 image) spelled rest) ∙ drop_at (take 128 image) (spelled ++ rest) 128 front in
    let count : 704 ≡ length spelled + (704 - length spelled) = omega (arith, length-entries pieces bounds) in
    ap (λ (l : List ℕ). pieces_in (length image) (take 704 l)) behind
    ∙ ap (λ (l : List ℕ). pieces_in (length image) l) (take_past spelled rest 704 (704 - length spelled) count)
    ∙ pieces_back (length image) pieces (take (704 - length spelled) rest) some bounds usable

-- the gate was being opened over entries that are all there
pub opening : (pieces : List Piece) (old new : List ℕ) → is_open old ≡ false → AreUsable pieces (length old) → pieces_in (length old) (area old) ≡ Some pieces → Torn 64 1 old new → is_open new ≡ true
    → (pending new ≡ pieces) × (stable_of new ≡ applied pieces (stable_of old))
opening pieces old new closed usable spelled torn opened =
    let same = same_area old new torn.same_length (λ k from to. torn.after k (omega arith)) in
    let is : pending new ≡ pieces = pending_open new pieces opened (rw (torn.same_length, same) spelled) in
    let P : ℕ → Type 0 = λ n. AreUsable pieces n in (
      is,
      stable_by new pieces is ∙ hidden-applied pieces new (subst P (sym torn.same_length) usable)
          ∙ ap (λ (l : List ℕ). applied pieces l) (hidden-Torn old new (Torn_wider 64 1 64 768 old new (omega arith) (omega arith) torn) ∙ sym (stable_closed old closed)),
    )

pub gate_torn : (pieces : List Piece) (old new : List ℕ) → is_open old ≡ false → AreUsable pieces (length old) → pieces_in (length old) (area old) ≡ Some pieces → Torn 64 1 old new
    → (stable_of new ≡ stable_of old) ⊎ (stable_of new ≡ applied pieces (stable_of old))
gate_torn pieces old new closed usable spelled torn = elim (cases_Bool (is_open new)) [
  | inl opened ↦ inr ((opening pieces old new closed usable spelled torn opened).1)
  | inr shut ↦ inl (stable_closed new shut ∙ hidden-Torn old new (Torn_wider 64 1 64 768 old new (omega arith) (omega arith) torn) ∙ sym (stable_closed old closed))
]

-- while the pieces are written into their places, with the gate open
pub pieces_torn : (pieces : List Piece) (old new : List ℕ) → pending old ≡ pieces → AreUsable pieces (length old) → Rewritten pieces old new → stable_of new ≡ stable_of old
pieces_torn pieces old new is usable rewritten =
    let own : SameOwn old new = record { same_length = rewritten.same_length; own = λ k low high. rewritten.spared k (Spare_own (length old) pieces k usable low high) } in
    stable_by new pieces (pending-SameOwn old new own ∙ is) ∙ ap hidden (applied-Rewritten (length old) pieces old new refl usable rewritten) ∙ sym (stable_by old pieces is)

-- the gate was being closed once all pieces are written
pub closing : (pieces : List Piece) (old new : List ℕ) → is_open old ≡ true → pending old ≡ pieces → AreUsable pieces (length old) → Torn 64 1 (applied pieces old) new → stable_of new ≡ stable_of old
closing pieces old new opened is usable torn =
    elim (cases_Bool (is_open new)) [
      | inl still ↦ stable_by new pieces (pending_still still) ∙ hidden-applied pieces new usable_new ∙ ap (λ (l : List ℕ). applied pieces l) outside
          ∙ sym (hidden-applied pieces (applied pieces old) usable_all) ∙ ap hidden (applied-applied (length old) pieces old refl usable) ∙ sym (stable_by old pieces is)
      | inr shut ↦ stable_closed new shut ∙ outside ∙ sym (stable_by old pieces is)
    ]
  where
    all : Rewritten pieces old (applied pieces old)
    all = Rewritten_applied (length old) pieces old refl usable

    long : length new ≡ length old
    long = torn.same_length ∙ all.same_length

    usable_new : AreUsable pieces (length new)
    usable_new = let P : ℕ → Type 0 = λ n. AreUsable pieces n in subst P (sym long) usable

    usable_all : AreUsable pieces (length (applied pieces old))
    usable_all = let P : ℕ → Type 0 = λ n. AreUsable pieces n in subst P (sym all.same_length) usable

    outside : hidden new ≡ hidden (applied pieces old)
    outside = hidden-Torn (applied pieces old) new (Torn_wider 64 1 64 768 (applied pieces old) new (omega arith) (omega arith) torn)

    pending_still : is_open new ≡ true → pending new ≡ pieces
    pending_still still =
        pending_same old new long (still ∙ sym opened) (same_area old new long (λ k from to. torn.after k (omega arith) ∙ all.spared k (Spare_own (length old) pieces k usable (omega arith) to))) ∙ is

pub closed_gate : (image : List ℕ) → 832 ≤ length image → is_open (patched 64 (0 ∷ []) image) ≡ false
closed_gate image roomy = ap (λ (n : ℕ). n == 0x5A) (patched_inside 64 (0 ∷ []) image (omega arith) 64 (omega arith) (omega arith))

pub opened_gate : (image : List ℕ) → 832 ≤ length image → is_open (patched 64 (0x5A ∷ []) image) ≡ true
opened_gate image roomy = ap (λ (n : ℕ). n == 0x5A) (patched_inside 64 (0x5A ∷ []) image (omega arith) 64 (omega arith) (omega arith))

-- a range that a caller may name, with the gate closed
pub prepared_torn : (at count : ℕ) (old new : List ℕ) → is_open old ≡ false → 0 < count → IsUsable (length old) at count → Torn at count old new → (is_open new ≡ false) × Torn at count (stable_of old) (stable_of new)
prepared_torn at count old new closed some usable torn =
    let still : is_open new ≡ false = same_gate old new (gate_spared (torn.before 64) (torn.after 64) (usable.outside some)) ∙ closed in
    let P : List ℕ → Type 0 = λ l. Torn at count l (stable_of new) in
    let Q : List ℕ → Type 0 = λ l. Torn at count (hidden old) l in (
      still,
      subst P (sym (stable_closed old closed)) (subst Q (sym (stable_closed new still)) (record {
        same_length = length-hidden new ∙ torn.same_length ∙ sym (length-hidden old);
        before = λ k low. hidden_same k (torn.before k low);
        after = λ k high. hidden_same k (torn.after k high);
      })),
    )
  where
    gate_spared : (64 < at → get_or new 64 0 ≡ get_or old 64 0) → (at + count ≤ 64 → get_or new 64 0 ≡ get_or old 64 0) → (at < 832 → at + count ≤ 64) → get_or new 64 0 ≡ get_or old 64 0
    gate_spared before after outside = elim (cases_lt at 832) [ inl low ↦ after (outside low) | inr high ↦ before (omega arith) ]

    hidden_same : (k : ℕ) → get_or new k 0 ≡ get_or old k 0 → get_or (hidden new) k 0 ≡ get_or (hidden old) k 0
    hidden_same k same = elim (cases_lt k (length old)) [
      | inl there ↦ elim (cases_lt k 64) [
        | inl low ↦ hidden_below new k low (omega (arith, torn.same_length)) ∙ same ∙ sym (hidden_below old k low there)
        | inr from ↦ elim (cases_lt k 832) [
          | inl to ↦ hidden_own new k from to (omega (arith, torn.same_length)) ∙ sym (hidden_own old k from to there)
          | inr high ↦ hidden_above new k high (omega (arith, torn.same_length)) ∙ same ∙ sym (hidden_above old k high there)
        ]
      ]
      | inr past ↦ get_or_past (hidden new) k 0 (omega (arith, length-hidden new, torn.same_length)) ∙ sym (get_or_past (hidden old) k 0 (omega (arith, length-hidden old)))
    ]

pub prepared : (at : ℕ) (bytes old : List ℕ) → is_open old ≡ false → 0 < length bytes → IsUsable (length old) at (length bytes) → (is_open (patched at bytes old) ≡ false) × (stable_of (patched at bytes old) ≡ patched at bytes (stable_of old))
prepared at bytes old closed some usable =
    let torn = prepared_torn at (length bytes) old (patched at bytes old) closed some usable (Torn_patched at (length bytes) bytes old refl usable.inside) in
    (torn.0, stable_closed (patched at bytes old) torn.0 ∙ hidden-patched at bytes old some usable ∙ ap (λ (l : List ℕ). patched at bytes l) (sym (stable_closed old closed)))

-- what is read of such a range is what is stable
pub stable_range : (at count : ℕ) (image : List ℕ) → is_open image ≡ false → IsUsable (length image) at count → slice_range image at (at + count) ≡ slice_range (stable_of image) at (at + count)
stable_range at count image closed usable =
    same_number_lists (slice_range image at (at + count)) (slice_range (hidden image) at (at + count))
    (omega (arith, length-take (at + count - at) (drop at image), length-take (at + count - at) (drop at (hidden image)), length-drop at image, length-drop at (hidden image), length-hidden image)) each
    ∙ ap (λ (l : List ℕ). slice_range l at (at + count)) (sym (stable_closed image closed))
  where
    seen : (k : ℕ) → (at + k < 832 → at + k < 64) → at + k < length image → get_or image (at + k) 0 ≡ get_or (hidden image) (at + k) 0
    seen k outside there = elim (cases_lt (at + k) 64) [
      | inl low ↦ sym (hidden_below image (at + k) low there)
      | inr from ↦ sym (hidden_above image (at + k) (elim (cases_lt (at + k) 832) [ inl own ↦ absurd (omega (arith, outside own, from)) | inr high ↦ high ]) there)
    ]

    each : (k : ℕ) → k < length (slice_range image at (at + count)) → get_or (slice_range image at (at + count)) k 0 ≡ get_or (slice_range (hidden image) at (at + count)) k 0
    each k h =
        let low : k < at + count - at = omega (arith, length-take (at + count - at) (drop at image)) in
        let some : 0 < count = omega arith in
        get_or-take (at + count - at) (drop at image) k 0 low ∙ get_or-drop at image k 0 ∙ seen k (λ own. omega (arith, usable.outside some)) (omega (arith, usable.inside))
        ∙ sym (get_or-drop at (hidden image) k 0) ∙ sym (get_or-take (at + count - at) (drop at (hidden image)) k 0 low)
