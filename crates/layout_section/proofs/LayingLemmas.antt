-- A card that is written into a memory, part by part.
use Rattle.std.proofs.Common.{◌≡◌, ℕ, ◌+◌, ◌≤◌, Bool, true, false, List, [], ◌∷◌, length, refl, sym, ◌∙◌, ap, subst, inl, inr, ⊎_elim, arith, Option, Some, None, ◌⊎◌, IfSome, Ok, nat_le, option_map, length-take}
use Rattle.std.proofs.lemmas.Bool.{cases_Bool, leb-true}
use Rattle.list_laws.specs.Patches.{patched}
use Rattle.list_laws.proofs.PatchesLemmas.{length-patched, range-patched_apart, range-patched_there}
use Rattle.store_form.specs.Pieces.{applied}
use Rattle.card_state.specs.Persistent.{File, Persistent}
use Rattle.card_state.specs.Places.{data_place, data_end}
use Rattle.card_state.specs.Decoding.{bytes_at}
use Rattle.card_state.specs.Sections.{byte_total_of}
use Rattle.card_state.specs.Standing.{stands_for}
use Rattle.layout_section.specs.declared.section.SpelledCard.{SpelledCard}
use Rattle.layout_section.specs.Filing.{all_bytes, SpellsFiles}
use Rattle.layout_section.specs.Laying.{SpellsCard, IsPrepared, IsWritten, FitsBefore}
use Rattle.layout_section.proofs.FilingLemmas.{total_is}
use Rattle.layout_section.proofs.StandsForLemmas.{stands}

pub held_total : (files : List File) (entries held : List ℕ) → SpellsFiles files entries held → (length held ≡ byte_total_of files) × (byte_total_of files ≤ 61568)
unfolding all_bytes
held_total files entries held spells =
    let total : byte_total_of files ≡ spells.total = sym (ap byte_total_of spells.is) ∙ total_is spells.bytes spells.nodes ∙ sym spells.are.sum in (
      ap (λ (l : List ℕ). length l) spells.held_is ∙ omega (arith, length-take spells.total spells.bytes, spells.are.fits, total),
      omega (arith, total, spells.are.fits, spells.are.long),
    )

pub fits_before : (total count : ℕ) → count ≡ total → total ≤ 61568 → data_place + count ≤ data_end (nat_le total 59520)
fits_before total count same low =
    ⊎_elim {C = data_place + count ≤ data_end (nat_le total 59520)}
    (λ few. subst (λ b. data_place + count ≤ data_end b) (sym few) (omega (arith, leb-true total 59520 few))) (λ many. subst (λ b. data_place + count ≤ data_end b) (sym many) (omega arith))
    (cases_Bool (nat_le total 59520))

-- the arrays of a card have their lengths
pub record HasLengths (card : SpelledCard) : Type 0 where
  pub first : length card.first ≡ 8
  pub pins : length card.pins ≡ 64
  pub lower : length card.rows.lower ≡ 1024
  pub upper : length card.rows.upper ≡ 1024
  pub kept : length card.rows.kept ≡ 1024
  pub entries : length card.files.entries ≡ 2048

record HasTables (card : SpelledCard) (content : List ℕ) : Type 0 where
  long : length content ≡ 65536
  pins : bytes_at content 832 64 ≡ card.pins
  lower : bytes_at content 896 1024 ≡ card.rows.lower
  entries : bytes_at content 1920 2048 ≡ card.files.entries

module _ (at : ℕ) (part content : List ℕ) (long : length content ≡ 65536) (fits : at + length part ≤ 65536) where
  still_long : length (patched at part content) ≡ 65536
  still_long = length-patched at part content (omega arith) ∙ long

  stays : (from count : ℕ) (region : List ℕ) → from + count ≤ 65536 → (from + count ≤ at) ⊎ (at + length part ≤ from) → bytes_at content from count ≡ region → bytes_at (patched at part content) from count ≡ region
  stays from count region inside apart same = range-patched_apart at part content (omega arith) from count (omega arith) apart ∙ same

  put_there : (count : ℕ) → length part ≡ count → bytes_at (patched at part content) at count ≡ part
  put_there count same = ap (λ (n : ℕ). bytes_at (patched at part content) at n) (sym same) ∙ range-patched_there at part content (omega arith)

module _ (card : SpelledCard) (lengths : HasLengths card) where
  abbrev tables : List ℕ → List ℕ
  tables content = patched 1920 card.files.entries (patched 896 card.rows.lower (patched 832 card.pins content))

  with_tables : (content : List ℕ) → length content ≡ 65536 → HasTables card (tables content)
  with_tables c1 l1 =
      let c2 : List ℕ = patched 832 card.pins c1 in
      let c3 : List ℕ = patched 896 card.rows.lower (patched 832 card.pins c1) in
      let f2 : 832 + length card.pins ≤ 65536 = omega (arith, lengths.pins) in
      let f3 : 896 + length card.rows.lower ≤ 65536 = omega (arith, lengths.lower) in
      let f4 : 1920 + length card.files.entries ≤ 65536 = omega (arith, lengths.entries) in
      let l2 : length (patched 832 card.pins c1) ≡ 65536 = still_long 832 card.pins c1 l1 f2 in
      let l3 : length (patched 896 card.rows.lower (patched 832 card.pins c1)) ≡ 65536 = still_long 896 card.rows.lower (patched 832 card.pins c1) l2 f3 in
      record {
        long = still_long 1920 card.files.entries c3 l3 f4;
        pins =
            stays 1920 card.files.entries c3 l3 f4 832 64 card.pins (omega arith) (inl (omega arith))
            (stays 896 card.rows.lower c2 l2 f3 832 64 card.pins (omega arith) (inl (omega arith)) (put_there 832 card.pins c1 l1 f2 64 lengths.pins));
        lower = stays 1920 card.files.entries c3 l3 f4 896 1024 card.rows.lower (omega arith) (inl (omega arith)) (put_there 896 card.rows.lower c2 l2 f3 1024 lengths.lower);
        entries = put_there 1920 card.files.entries c3 l3 f4 2048 lengths.entries;
      }

  above : (at : ℕ) (part content : List ℕ) → 3968 ≤ at → at + length part ≤ 65536 → HasTables card content → HasTables card (patched at part content)
  above at part content high fits has = record {
    long = still_long at part content has.long fits;
    pins = stays at part content has.long fits 832 64 card.pins (omega arith) (inl (omega arith)) has.pins;
    lower = stays at part content has.long fits 896 1024 card.rows.lower (omega arith) (inl (omega arith)) has.lower;
    entries = stays at part content has.long fits 1920 2048 card.files.entries (omega arith) (inl (omega arith)) has.entries;
  }

  abbrev filed : List ℕ → List ℕ
  filed content = patched 3968 card.files.bytes.now (tables content)

  inside : FitsBefore card → 3968 + length card.files.bytes.now ≤ 65536
  inside fits = by_width card.wide fits where
    by_width : (wide : Bool) → data_place + length card.files.bytes.now ≤ data_end wide → 3968 + length card.files.bytes.now ≤ 65536
    by_width true low = omega arith
    by_width false low = omega arith

  narrow_written : (content : List ℕ) → length content ≡ 65536 → FitsBefore card → card.wide ≡ false → IsPrepared card (filed content)
  narrow_written content long fits narrow =
      let first = with_tables content long in
      let has = above 3968 card.files.bytes.now (tables content) (omega arith) (inside fits) first in
      record {
        long = has.long;
        pins = has.pins;
        lower = has.lower;
        entries = has.entries;
        bytes = put_there 3968 card.files.bytes.now (tables content) first.long (inside fits) (length card.files.bytes.now) refl;
        upper = λ wide. absurd (cc (sym narrow ∙ wide));
        kept = λ wide. absurd (cc (sym narrow ∙ wide));
      }

  wide_written : (content : List ℕ) → length content ≡ 65536 → FitsBefore card → card.wide ≡ true → IsPrepared card (patched 64512 card.rows.kept (patched 63488 card.rows.upper (filed content)))
  wide_written content long fits wide =
      let end : 3968 + length card.files.bytes.now ≤ 63488 = subst (λ b. data_place + length card.files.bytes.now ≤ data_end b) wide fits in
      let first = with_tables content long in
      let second = above 3968 card.files.bytes.now (tables content) (omega arith) (inside fits) first in
      let f6 : 63488 + length card.rows.upper ≤ 65536 = omega (arith, lengths.upper) in
      let f7 : 64512 + length card.rows.kept ≤ 65536 = omega (arith, lengths.kept) in
      let third = above 63488 card.rows.upper (filed content) (omega arith) f6 second in
      let has = above 64512 card.rows.kept (patched 63488 card.rows.upper (filed content)) (omega arith) f7 third in
      record {
        long = has.long;
        pins = has.pins;
        lower = has.lower;
        entries = has.entries;
        bytes =
            stays 64512 card.rows.kept (patched 63488 card.rows.upper (filed content)) third.long f7 3968 (length card.files.bytes.now) card.files.bytes.now (omega arith) (inl (omega arith))
            (stays 63488 card.rows.upper (filed content) second.long f6 3968 (length card.files.bytes.now) card.files.bytes.now (omega arith) (inl (omega arith))
            (put_there 3968 card.files.bytes.now (tables content) first.long (inside fits) (length card.files.bytes.now) refl));
        upper = λ is.
            stays 64512 card.rows.kept (patched 63488 card.rows.upper (filed content)) third.long f7 63488 1024 card.rows.upper (omega arith) (inl (omega arith))
            (put_there 63488 card.rows.upper (filed content) second.long f6 1024 lengths.upper);
        kept = λ is. put_there 64512 card.rows.kept (patched 63488 card.rows.upper (filed content)) third.long f7 1024 lengths.kept;
      }

  -- ---- in a memory that may tell what it holds

  abbrev told_tables : Option (List ℕ) → Option (List ℕ)
  told_tables told =
      option_map (patched 1920 card.files.entries) (option_map (patched 896 card.rows.lower) (option_map (patched 832 card.pins) told))

  pub told_narrow : (told now : Option (List ℕ)) (size : ℕ) → IfSome told (λ held. length held ≡ size) → size ≡ 65536 → FitsBefore card → card.wide ≡ false
      → now ≡ option_map (patched 3968 card.files.bytes.now) (told_tables told) → IfSome now (IsPrepared card)
  told_narrow None now size long is fits narrow same = subst (λ (o : Option (List ℕ)). IfSome o (IsPrepared card)) (sym same) tt
  told_narrow (Some content) now size long is fits narrow same = subst (λ (o : Option (List ℕ)). IfSome o (IsPrepared card)) (sym same) (narrow_written content (long ∙ is) fits narrow)

  pub told_wide : (told now : Option (List ℕ)) (size : ℕ) → IfSome told (λ held. length held ≡ size) → size ≡ 65536 → FitsBefore card → card.wide ≡ true
      → now ≡ option_map (patched 64512 card.rows.kept) (option_map (patched 63488 card.rows.upper) (option_map (patched 3968 card.files.bytes.now) (told_tables told))) → IfSome now (IsPrepared card)
  told_wide None now size long is fits wide same = subst (λ (o : Option (List ℕ)). IfSome o (IsPrepared card)) (sym same) tt
  told_wide (Some content) now size long is fits wide same = subst (λ (o : Option (List ℕ)). IfSome o (IsPrepared card)) (sym same) (wide_written content (long ∙ is) fits wide)

  -- then the first bytes
  completed : (content : List ℕ) → FitsBefore card → IsPrepared card content → IsWritten card (patched 0 card.first content)
  completed content within prepared =
      let fits : 0 + length card.first ≤ 65536 = omega (arith, lengths.first) in
      let kept_at : (from count : ℕ) (region : List ℕ) → 8 ≤ from → from + count ≤ 65536 → bytes_at content from count ≡ region → bytes_at (patched 0 card.first content) from count ≡ region =
      λ from count region high inside same. stays 0 card.first content prepared.long fits from count region inside (inr (omega (arith, lengths.first))) same in
      record {
        first = put_there 0 card.first content prepared.long fits 8 lengths.first;
        behind = record {
          long = still_long 0 card.first content prepared.long fits;
          pins = kept_at 832 64 card.pins (omega arith) (omega arith) prepared.pins;
          lower = kept_at 896 1024 card.rows.lower (omega arith) (omega arith) prepared.lower;
          entries = kept_at 1920 2048 card.files.entries (omega arith) (omega arith) prepared.entries;
          bytes = kept_at 3968 (length card.files.bytes.now) card.files.bytes.now (omega arith) (inside within) prepared.bytes;
          upper = λ wide. kept_at 63488 1024 card.rows.upper (omega arith) (omega arith) (prepared.upper wide);
          kept = λ wide. kept_at 64512 1024 card.rows.kept (omega arith) (omega arith) (prepared.kept wide);
        };
      }

  pub told_completed : (told now : Option (List ℕ)) → FitsBefore card → IfSome told (IsPrepared card) → now ≡ option_map (applied (record { place = 0; bytes = card.first } ∷ [])) told → IfSome now (IsWritten card)
  told_completed None now fits prepared same = subst (λ (o : Option (List ℕ)). IfSome o (IsWritten card)) (sym same) tt
  told_completed (Some content) now fits prepared same = subst (λ (o : Option (List ℕ)). IfSome o (IsWritten card)) (sym same) (completed content fits prepared)

pub told_stands : (told : Option (List ℕ)) (mark : ℕ) (state : Persistent) (card : SpelledCard) → SpellsCard mark state card → IfSome told (IsWritten card) → IfSome told (λ content. stands_for mark content ≡ Ok state)
told_stands None mark state card spells is = tt
told_stands (Some content) mark state card spells is = stands mark state card content spells is
