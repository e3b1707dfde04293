-- Each entry is read back from the bytes that it is spelled in.
use Rattle.std.proofs.Common.{◌≡◌, ℕ, ◌-◌, ◌≤◌, ◌==◌, Bool, true, false, List, [], ◌∷◌, ◌++◌, length, take, drop, replicate, slice_range, get_or, refl, ◌∙◌, ap, ⊎_elim, arith, length-append, append_assoc, rules}
use Rattle.std.specs.Int.{from_bool}
use Rattle.std.proofs.lemmas.Nat.{from_be_bytes-to_be_bytes_2}
use Rattle.std.proofs.lemmas.Bool.{cases_lt}
use Rattle.std.proofs.Math.Seq.{take-append-add}
use Rattle.std.proofs.lemmas.List.{take_at, drop_at, take_all, take-take, take-append-le, take-append-drop, length-take, get_or-append_right, length-replicate}
use Rattle.card_state.specs.declared.entries.Node.{Node}
use Rattle.card_state.specs.declared.entries.PinSlot.{PinSlot}
use Rattle.card_state.specs.declared.entries.Row.{Row}
use Rattle.card_state.specs.Decoding.{node_of, pin_of, row_of}
use Rattle.card_state.specs.Ranges.{HasNodeRanges, HasPinRanges, HasRowRanges}
use Rattle.card_state.specs.Numbers.{two_bytes}
use Rattle.layout_entries.specs.Spelling.{node_spelled, pin_spelled, row_spelled, padded}

pub length-padded : (width : ℕ) (bytes : List ℕ) → length (padded width bytes) ≡ width
length-padded width bytes =
    omega (arith, length-take width (bytes ++ replicate width 0), length-append bytes (replicate width 0), length-replicate {A = ℕ} width 0)

-- a row is spelled part by part, each after what stands before it
pub row_by_parts : (row : Row) {used : ℕ} {sequence events text kept none first second third fourth last : List ℕ}
    → used ≡ from_bool row.used → sequence ≡ two_bytes row.sequence → events ≡ two_bytes row.events → text ≡ row.text → kept ≡ row.kept
    → none ≡ [] → first ≡ none ++ used ∷ row.kind ∷ row.priority ∷ [] → second ≡ first ++ sequence → third ≡ second ++ events
    → fourth ≡ third ++ length text ∷ padded 10 text → last ≡ fourth ++ length kept ∷ padded 32 kept → last ≡ row_spelled row
unfolding row_spelled
row_by_parts row used sequence events text kept none first second third fourth last =
    search (rules, used, sequence, events, text, kept, none, first, second, third, fourth, last, append_assoc)

pub length-row_spelled : (row : Row) → length (row_spelled row) ≡ 51
unfolding row_spelled
length-row_spelled row =
    let text : List ℕ = padded 10 row.text in
    let kept : List ℕ = padded 32 row.kept in
    omega (arith, length-append (text ++ length row.kept ∷ []) kept, length-append text (length row.kept ∷ []), length-padded 10 row.text, length-padded 32 row.kept)

pub length-node_spelled : (node : Node) → length (node_spelled node) ≡ 16
unfolding node_spelled
length-node_spelled node = refl

pub length-pin_spelled : (pin : PinSlot) → HasPinRanges pin → length (pin_spelled pin) ≡ 20
unfolding pin_spelled
length-pin_spelled pin ranges = omega (arith, length-append pin.value.0 pin.unblock.0, ranges.value, ranges.unblock)

pub flag_back : (flag : Bool) → (from_bool flag == 1) ≡ flag
flag_back true = refl
flag_back false = refl

pub node_back : (node : Node) → HasNodeRanges node → node_of (node_spelled node) ≡ node
unfolding node_of node_spelled
node_back node ranges =
    rw (
      flag_back node.used,
      from_be_bytes-to_be_bytes_2 node.id.0 ranges.id,
      from_be_bytes-to_be_bytes_2 node.arr.0 ranges.arr,
      from_be_bytes-to_be_bytes_2 node.place ranges.place,
      from_be_bytes-to_be_bytes_2 node.size ranges.size,
    )
    refl

pub pin_back : (pin : PinSlot) → HasPinRanges pin → pin_of (pin_spelled pin) ≡ pin
unfolding pin_of pin_spelled
pin_back pin ranges =
    rw (
      flag_back pin.enabled,
      take_at pin.value.0 pin.unblock.0 8 ranges.value,
      drop_at pin.value.0 pin.unblock.0 8 ranges.value,
      take_all 8 pin.unblock.0 (omega (arith, ranges.unblock)),
    )
    refl

-- so many of them as there were
pub take-padded : (width : ℕ) (bytes : List ℕ) → length bytes ≤ width → take (length bytes) (padded width bytes) ≡ bytes
take-padded width bytes short =
    take-take (length bytes) width (bytes ++ replicate width 0) short ∙ take_at bytes (replicate width 0) (length bytes) refl

-- of more bytes, those that fit
pub padded-long : (width : ℕ) (bytes : List ℕ) → width ≤ length bytes → padded width bytes ≡ take width bytes
padded-long width bytes long = take-append-le width bytes (replicate width 0) long

-- what stands with the row and what stands apart come to what is kept
kept_back : (width : ℕ) (kept more : List ℕ) → take (length kept - width) more ≡ drop width kept → take (length kept) (padded width kept ++ more) ≡ kept
kept_back width kept more rest =
    ⊎_elim {C = take (length kept) (padded width kept ++ more) ≡ kept}
    (λ few.
    take-append-le (length kept) (padded width kept) more (omega (arith, length-padded width kept)) ∙ take-padded width kept (omega arith))
    (λ many.
    let front : length (take width kept) ≡ width = omega (arith, length-take width kept) in
    ap (λ (l : List ℕ). take (length kept) (l ++ more)) (padded-long width kept many)
    ∙ ap (λ (n : ℕ). take n (take width kept ++ more)) (omega (arith, front))
    ∙ take-append-add (take width kept) more (length kept - width) ∙ ap (λ (l : List ℕ). take width kept ++ l) rest ∙ take-append-drop width kept)
    (cases_lt (length kept) width)

module _ (text kept : List ℕ) (count : ℕ) (text_long : length text ≡ 10) (kept_long : length kept ≡ 32) where
  abbrev end : List ℕ
  end = text ++ count ∷ [] ++ kept

  text_there : take 10 end ≡ text
  text_there = ap (λ (l : List ℕ). take 10 l) (append_assoc text (count ∷ []) kept) ∙ take_at text (count ∷ [] ++ kept) 10 text_long

  count_there : get_or end 10 0 ≡ count
  count_there = ap (λ (l : List ℕ). get_or l 10 0) (append_assoc text (count ∷ []) kept) ∙ get_or-append_right text (count ∷ [] ++ kept) 10 10 0 text_long (omega arith)

  kept_there : take 32 (drop 11 end) ≡ kept
  kept_there =
      ap (λ (l : List ℕ). take 32 l) (drop_at (text ++ count ∷ []) kept 11 (omega (arith, length-append text (count ∷ []), text_long))) ∙ take_all 32 kept (omega (arith, kept_long))

-- a row as it is read with any bytes that stand apart
pub row_front_back : (row : Row) (more : List ℕ) → HasRowRanges row → row_of (row_spelled row) more ≡ record row { kept = take (length row.kept) (padded 32 row.kept ++ more) }
unfolding row_of row_spelled
row_front_back row more ranges =
    let text_long = length-padded 10 row.text in
    let kept_long = length-padded 32 row.kept in
    rw (
      flag_back row.used,
      from_be_bytes-to_be_bytes_2 row.sequence ranges.sequence,
      from_be_bytes-to_be_bytes_2 row.events ranges.events,
      text_there (padded 10 row.text) (padded 32 row.kept) (length row.kept) text_long kept_long,
      count_there (padded 10 row.text) (padded 32 row.kept) (length row.kept) text_long kept_long,
      kept_there (padded 10 row.text) (padded 32 row.kept) (length row.kept) text_long kept_long,
      take-padded 10 row.text ranges.text,
    )
    refl

pub row_back : (row : Row) (more : List ℕ) → HasRowRanges row → take (length row.kept - 32) more ≡ drop 32 row.kept → row_of (row_spelled row) more ≡ row
row_back row more ranges rest = row_front_back row more ranges ∙ ap (λ (kept : List ℕ). record row { kept = kept }) (kept_back 32 row.kept more rest)

-- where a row spells what it keeps
pub kept_count : (row : Row) → get_or (row_spelled row) 18 0 ≡ length row.kept
unfolding row_spelled
kept_count row = count_there (padded 10 row.text) (padded 32 row.kept) (length row.kept) (length-padded 10 row.text) (length-padded 32 row.kept)

pub kept_spelled : (row : Row) → slice_range (row_spelled row) 19 51 ≡ padded 32 row.kept
unfolding row_spelled
kept_spelled row = kept_there (padded 10 row.text) (padded 32 row.kept) (length row.kept) (length-padded 10 row.text) (length-padded 32 row.kept)
