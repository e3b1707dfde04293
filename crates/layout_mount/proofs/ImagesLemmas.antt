-- What stands where in an image.
use Rattle.std.proofs.Common.{◌≡◌, ℕ, ◌+◌, ◌-◌, ◌≤◌, List, ◌++◌, length, take, drop, refl, sym, subst, ◌∙◌, ap, arith, length-append, ◌<◌, ◌^◌, slice_range, IfSome, Option, Some, None}
use Rattle.std.proofs.lemmas.List.{drop-take, take-take, take_all, take-append-le, drop-append-le, length-drop, length-replicate}
use Rattle.std.proofs.lemmas.List.Elements.{All-append, All-replicate}
use Rattle.std.proofs.Math.Seq.{drop-append-add}
use Rattle.std.specs.Int.{w16, from_be_bytes}
use Rattle.uicc_types.specs.Told.{AreBytes}
use Rattle.card_state.specs.Places.{memory_size}
use Rattle.card_state.specs.Decoding.{bytes_at, number_at}
use borrow.Rule.Slice.PartMut.{mid_of}
use Rattle.layout_mount.specs.Images.{whole, filler, SameEntries}

-- a part of the middle of five lists
module _ (a g t h u : List ℕ) where
  abbrev all : List ℕ
  all = a ++ g ++ t ++ h ++ u

  first_part : (n : ℕ) → n ≤ length a → take n all ≡ take n a
  first_part n few =
      take-append-le n (a ++ g ++ t ++ h) u (omega (arith, length-append (a ++ g ++ t) h, length-append (a ++ g) t, length-append a g))
      ∙ take-append-le n (a ++ g ++ t) h (omega (arith, length-append (a ++ g) t, length-append a g)) ∙ take-append-le n (a ++ g) t (omega (arith, length-append a g))
      ∙ take-append-le n a g few

  middle_part : (at k n : ℕ) → at ≡ length a + length g + k → k + n ≤ length t → take n (drop at all) ≡ take n (drop k t)
  middle_part at k n is few =
      let front : length (a ++ g) ≡ length a + length g = length-append a g in
      let three : length (a ++ g ++ t) ≡ length a + length g + length t = omega (arith, length-append (a ++ g) t, front) in
      let four : length (a ++ g ++ t ++ h) ≡ length a + length g + length t + length h = omega (arith, length-append (a ++ g ++ t) h, three) in
      let rest : drop at (a ++ g ++ t) ≡ drop k t = ap (λ (m : ℕ). drop m (a ++ g ++ t)) (omega (arith, front)) ∙ drop-append-add (a ++ g) t k in
      let long : length (drop k t) ≡ length t - k = length-drop k t in
      ap (λ (l : List ℕ). take n l)
      (drop-append-le at (a ++ g ++ t ++ h) u (omega (arith, four)) ∙ ap (λ (l : List ℕ). l ++ u) (drop-append-le at (a ++ g ++ t) h (omega (arith, three)) ∙ ap (λ (l : List ℕ). l ++ h) rest))
      ∙ take-append-le n (drop k t ++ h) u (omega (arith, length-append (drop k t) h)) ∙ take-append-le n (drop k t) h (omega arith)

  last_part : (at k n : ℕ) → at ≡ length (a ++ g ++ t ++ h) + k → take n (drop at all) ≡ take n (drop k u)
  last_part at k n is = ap (λ (l : List ℕ). take n l) (ap (λ (m : ℕ). drop m all) is ∙ drop-append-add (a ++ g ++ t ++ h) u k)

-- two of the first eight bytes
take_drop : (value : List ℕ) → slice_range (bytes_at value 0 8) 6 8 ≡ slice_range value 6 8
take_drop value = ap (λ (l : List ℕ). take 2 l) (drop-take 6 2 value) ∙ take-take 2 2 (drop 6 value) (omega arith)

length-filler : (count : ℕ) → length (filler count) ≡ count
unfolding filler
length-filler count = length-replicate count 255

-- as many bytes as the memory has
pub length-whole : (first table upper : List ℕ) → length first ≡ 8 → length table ≡ 3136 → length upper ≡ 2048 → length (whole first table upper) ≡ memory_size
unfolding whole
length-whole first table upper la lb lc =
    let front : length (first ++ filler 824) ≡ 832 = omega (arith, length-append first (filler 824), length-filler 824) in
    let three : length (first ++ filler 824 ++ table) ≡ 3968 = omega (arith, length-append (first ++ filler 824) table) in
    let four : length (first ++ filler 824 ++ table ++ filler 59520) ≡ 63488 = omega (arith, length-append (first ++ filler 824 ++ table) (filler 59520), length-filler 59520) in
    omega (arith, length-append (first ++ filler 824 ++ table ++ filler 59520) upper)

-- and they are bytes
bytes-filler : (count : ℕ) → AreBytes (filler count)
unfolding filler
bytes-filler count = All-replicate (λ byte. byte < 2 ^ 8) count 255 (omega arith)

pub bytes-whole : (first table upper : List ℕ) → AreBytes first → AreBytes table → AreBytes upper → AreBytes (whole first table upper)
unfolding whole
bytes-whole first table upper a b c =
    let both : (xs ys : List ℕ) → AreBytes xs → AreBytes ys → AreBytes (xs ++ ys) = All-append (λ byte. byte < 2 ^ 8) in
    both (first ++ filler 824 ++ table ++ filler 59520) upper (both (first ++ filler 824 ++ table) (filler 59520) (both (first ++ filler 824) table (both first (filler 824) a (bytes-filler 824)) b) (bytes-filler 59520)) c

module _ (first table upper : List ℕ) (first_long : length first ≡ 8) (table_long : length table ≡ 3136) where
  -- the first bytes, or some of them
  pub in_first : (n : ℕ) → n ≤ 8 → take n (whole first table upper) ≡ take n first
  unfolding whole
  in_first n few = first_part first (filler 824) table (filler 59520) upper n (omega arith)

  pub in_table : (at k n : ℕ) → at ≡ 832 + k → k + n ≤ 3136 → take n (drop at (whole first table upper)) ≡ take n (drop k table)
  unfolding whole
  in_table at k n is few = middle_part first (filler 824) table (filler 59520) upper at k n (omega (arith, length-filler 824)) (omega arith)

  pub in_upper : (at k n : ℕ) → at ≡ 63488 + k → take n (drop at (whole first table upper)) ≡ take n (drop k upper)
  unfolding whole
  in_upper at k n is =
      let front : length (first ++ filler 824) ≡ 832 = omega (arith, length-append first (filler 824), length-filler 824) in
      let three : length (first ++ filler 824 ++ table) ≡ 3968 = omega (arith, length-append (first ++ filler 824) table) in
      let four : length (first ++ filler 824 ++ table ++ filler 59520) ≡ 63488 = omega (arith, length-append (first ++ filler 824 ++ table) (filler 59520), length-filler 59520) in
      last_part first (filler 824) table (filler 59520) upper at k n (omega arith)

  module _ (value : List ℕ) (is : whole first table upper ≡ value) where
    at_last : (at n : ℕ) (l : List ℕ) → take n (drop at (whole first table upper)) ≡ l → slice_range value at (at + n) ≡ l
    at_last at n l found =
        ap (λ (v : List ℕ). take (at + n - at) (drop at v)) (sym is) ∙ ap (λ (j : ℕ). take j (drop at (whole first table upper))) (omega arith) ∙ found

    -- a part of the table, or of what stands after the files, as a slice of it is written
    pub table_slice : (at k n m : ℕ) → at ≡ 832 + k → k + n ≤ 3136 → m ≡ n → mid_of k m table ≡ slice_range value at (at + n)
    table_slice at k n m place few same = ap (λ (j : ℕ). take j (drop k table)) same ∙ sym (at_last at n (take n (drop k table)) (in_table at k n place few))

    pub upper_slice : (at k n m : ℕ) → at ≡ 63488 + k → m ≡ n → mid_of k m upper ≡ slice_range value at (at + n)
    upper_slice at k n m place same = ap (λ (j : ℕ). take j (drop k upper)) same ∙ sym (at_last at n (take n (drop k upper)) (in_upper at k n place))

    pub first_slice : first ≡ bytes_at value 0 8
    first_slice = sym (take_all 8 first (omega arith)) ∙ sym (at_last 0 8 (take 8 first) (in_first 8 (omega arith)))

    pub next_there : number_at first 6 ≡ number_at value 6
    next_there =
        ap (λ (l : List ℕ). number_at l 6) first_slice
        ∙ ap (λ (l : List ℕ). from_be_bytes w16 l) (take_drop value)

    pub table_whole : bytes_at value 832 3136 ≡ table
    table_whole = at_last 832 3136 table (in_table 832 0 3136 refl (omega arith) ∙ take_all 3136 table (omega arith))

    pub upper_whole : length upper ≡ 2048 → bytes_at value 63488 2048 ≡ upper
    upper_whole upper_long = at_last 63488 2048 upper (in_upper 63488 0 2048 refl ∙ take_all 2048 upper (omega arith))

-- what three reads of a store gave
pub same_entries : (told : Option (List ℕ)) (first table upper : List ℕ)
    → IfSome told (λ held. first ≡ slice_range held 0 8) → IfSome told (λ held. table ≡ slice_range held 832 3968) → IfSome told (λ held. upper ≡ slice_range held 63488 65536)
    → length first ≡ 8 → length table ≡ 3136 → length upper ≡ 2048 → IfSome told (λ content. SameEntries content (whole first table upper))
same_entries None first table upper a b c la lb lc = tt
same_entries (Some held) first table upper a b c la lb lc = record {
  first = sym (first_slice first table upper la lb (whole first table upper) refl) ∙ a;
  table = table_whole first table upper la lb (whole first table upper) refl ∙ b;
  upper = upper_whole first table upper la lb (whole first table upper) refl lc ∙ c;
}

pub same_told : (old mid : Option (List ℕ)) (P : List ℕ → Type 0) → mid ≡ old → IfSome mid P → IfSome old P
same_told old mid P same held = let At : Option (List ℕ) → Type 0 = λ o. IfSome o P in subst At same held
