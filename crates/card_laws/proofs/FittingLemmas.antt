-- What stands in bytes fits into them.
use Rattle.std.proofs.Common.{◌≡◌, ℕ, ◌+◌, ◌-◌, ◌<◌, ◌^◌, Bool, true, false, List, length, drop, get_or, Option, Some, None, Ok, refl, sym, subst, ⊎_elim, arith, All, IfSome, ◌==◌, if◌then◌else◌, map, not, replicate, slice_range}
use Rattle.std.specs.List.{range_with_len, enumerate_from}
use Rattle.std.proofs.lemmas.Bool.{cases_lt}
use Rattle.std.proofs.lemmas.List.{get_or-replicate, get_or_past, length-replicate}
use Rattle.std.proofs.lemmas.List.Elements.{All-drop, All-filter, All-map, All-take}
use Rattle.std.proofs.lemmas.List.FromFn.{get_or-enumerate_from, get_or-range_with_len, length-enumerate_from, length-range_with_len}
use Rattle.list_laws.proofs.SliceRangeLemmas.{length-range}
use Rattle.uicc_types.specs.Told.{AreBytes}
use Rattle.card_state.specs.Blank.{absent_pin, unused_node}
use Rattle.card_state.specs.Checks.{checks, first_failed}
use Rattle.card_state.specs.Decoding.{node_at, node_bytes, node_of, number_at, pin_at, pin_bytes, pin_of, table_of}
use Rattle.card_state.specs.Kinds.{df_kind}
use Rattle.card_state.specs.Persistent.{Persistent, Rule}
use Rattle.card_state.specs.Places.{memory_size, node_place, pin_place, sequence_place}
use Rattle.card_state.specs.Standing.{stands_for, state_in, unless_failed}
use Rattle.card_state.specs.States.{df_file, ef_file, file_of, files_of, pin_state, pins_of, state_of, used_nodes, present_pins}
use Rattle.card_state.specs.declared.entries.Node.{Node}
use Rattle.card_state.specs.declared.entries.PinSlot.{PinSlot}
use Rattle.card_state.specs.declared.sizes.TheConstants.{NODE_COUNT, NODE_WIDTH, PIN_COUNT, PIN_WIDTH}
use Rattle.card_laws.specs.Fitting.{FitsFile, FitsMemory, FitsPin, IsPinValue, WhatStandsFits}

-- ---- numbers in bytes

byte_fits : (bytes : List ℕ) (at : ℕ) → AreBytes bytes → get_or bytes at 0 < 2 ^ 8
byte_fits bytes at are =
    ⊎_elim {C = get_or bytes at 0 < 2 ^ 8} (are at 0) (λ past. omega (arith, get_or_past bytes at 0 past)) (cases_lt at (length bytes))

part_fits : (bytes : List ℕ) (from to : ℕ) → AreBytes bytes → AreBytes (slice_range bytes from to)
part_fits bytes from to are = All-take (λ byte. byte < 2 ^ 8) (to - from) (drop from bytes) (All-drop (λ byte. byte < 2 ^ 8) from bytes are)

number_fits : (bytes : List ℕ) (at : ℕ) → AreBytes bytes → number_at bytes at < 2 ^ 16
number_fits bytes at are =
    let part = part_fits bytes at (at + 2) are in
    omega (arith, byte_fits (slice_range bytes at (at + 2)) 0 part, byte_fits (slice_range bytes at (at + 2)) 1 part)

-- ---- one of two

either : {X : Type 0} (P : X → Type 0) (test : Bool) (x y : X) → P x → P y → P (if test then x else y)
either P true x y first second = first
either P false x y first second = second

-- ---- files

record FitsNode (node : Node) : Type 0 where
  id : node.id.0 < 2 ^ 16
  arr : node.arr.0 < 2 ^ 16
  rule : node.rule < 2 ^ 8

node_fits : (bytes : List ℕ) → AreBytes bytes → FitsNode (node_of bytes)
unfolding node_of
node_fits bytes are = record { id = number_fits bytes 2 are; arr = number_fits bytes 8 are; rule = byte_fits bytes 7 are }

unused_fits : FitsNode unused_node
unused_fits = record { id = omega arith; arr = omega arith; rule = omega arith }

rule_fits : (node : Node) → FitsNode node → (none : Bool) → IfSome (if none then None else Some (record { arr = node.arr.0; number = node.rule })) (λ (rule : Rule). (rule.arr < 2 ^ 16) × (rule.number < 2 ^ 8))
rule_fits node fits true = tt
rule_fits node fits false = (fits.arr, fits.rule)

file_fits : (content : List ℕ) (number : ℕ) (node : Node) → FitsNode node → FitsFile (file_of content number node)
file_fits content number node fits =
    either FitsFile (node.kind == df_kind) (df_file number node) (ef_file content number node)
    (record { id = fits.id; rule = tt })
    (record { id = fits.id; rule = rule_fits node fits (node.rule == 0) })

module _ (content : List ℕ) (long : length content ≡ memory_size) (are : AreBytes content) where
  each_node : (number : ℕ) → FitsNode (node_at content number)
  each_node number =
      let bytes = node_bytes content number in
      either FitsNode ((node_of bytes).used) (node_of bytes) unused_node (node_fits bytes (part_fits content (node_place number) (node_place number + NODE_WIDTH) are)) unused_fits

  numbered : (nodes : List Node) → All FitsNode nodes → All (λ (entry : ℕ × Node). FitsNode entry.1) (enumerate_from 0 nodes)
  numbered nodes all k d low =
      let within : k < length nodes = omega (arith, low, length-enumerate_from 0 nodes) in
      subst (λ (entry : ℕ × Node). FitsNode entry.1) (sym (get_or-enumerate_from 0 nodes k d within)) (all k d.1 within)

  nodes_fit : All FitsNode (map (node_at content) (range_with_len 0 NODE_COUNT))
  nodes_fit = All-map FitsNode (node_at content) (range_with_len 0 NODE_COUNT) (λ k d low. each_node (get_or (range_with_len 0 NODE_COUNT) k d))

  files_fit : All FitsFile (files_of (table_of content) content)
  unfolding files_of table_of
  files_fit =
      let nodes = map (node_at content) (range_with_len 0 NODE_COUNT) in
      let used = All-filter (λ (entry : ℕ × Node). entry.1.used) (λ (entry : ℕ × Node). FitsNode entry.1) (enumerate_from 0 nodes) (numbered nodes nodes_fit) in
      All-map FitsFile (λ (entry : ℕ × Node). file_of content entry.0 entry.1) (used_nodes nodes) (λ k d low. file_fits content _ _ (used k d low))

  -- ---- PINs

  record FitsSlot (pin : PinSlot) : Type 0 where
    value : IsPinValue pin.value.0
    unblock : IsPinValue pin.unblock.0

  slot_fits : (bytes : List ℕ) → length bytes ≡ PIN_WIDTH → AreBytes bytes → FitsSlot (pin_of bytes)
  unfolding pin_of
  slot_fits bytes whole these = record {
    value = record { long = length-range bytes 4 8 (omega (arith, whole)); bytes = part_fits bytes 4 12 these };
    unblock = record { long = length-range bytes 12 8 (omega (arith, whole)); bytes = part_fits bytes 12 PIN_WIDTH these };
  }

  zeros_fit : AreBytes (replicate 8 0)
  zeros_fit k d low = let zero : get_or (replicate 8 0) k d ≡ 0 = get_or-replicate 8 k 0 d (omega (arith, low, length-replicate {A = ℕ} 8 0)) in omega (arith, zero)

  absent_fits : FitsSlot absent_pin
  absent_fits = record { value = record { long = refl; bytes = zeros_fit }; unblock = record { long = refl; bytes = zeros_fit } }

  each_slot : (slot : ℕ) → slot < PIN_COUNT → FitsSlot (pin_at content slot)
  each_slot slot low =
      let bytes = pin_bytes content slot in
      either FitsSlot ((pin_of bytes).key == 0) absent_pin (pin_of bytes) absent_fits
      (slot_fits bytes (length-range content (pin_place slot) PIN_WIDTH (omega (arith, long, low))) (part_fits content (pin_place slot) (pin_place slot + PIN_WIDTH) are))

  pins_fit : All FitsPin (pins_of (table_of content))
  unfolding pins_of table_of
  pins_fit =
      let slots = map (pin_at content) (range_with_len 0 PIN_COUNT) in
      let each : All FitsSlot slots = All-map FitsSlot (pin_at content) (range_with_len 0 PIN_COUNT) (λ k d low. each_slot (get_or (range_with_len 0 PIN_COUNT) k d) (let within : k < PIN_COUNT = omega (arith, low, length-range_with_len 0 PIN_COUNT) in omega (arith, within, get_or-range_with_len 0 PIN_COUNT k d within))) in
      let present = All-filter (λ (pin : PinSlot). not (pin.key == 0)) FitsSlot slots each in
      All-map FitsPin pin_state (present_pins slots) (λ k d low. let slot = present k d low in record { value = slot.value; unblock = slot.unblock })

  next_fits : (table_of content).next < 2 ^ 16
  unfolding table_of
  next_fits = number_fits content sequence_place are

  memory_fits : FitsMemory (state_in content)
  unfolding state_of
  memory_fits = record { files = files_fit; pins = pins_fit; next = next_fits }

-- ---- what stands is what is there

same_state : (failed : Option ℕ) (there state : Persistent) → unless_failed failed there ≡ Ok state → there ≡ state
same_state None there state is = cc
same_state (Some at) there state is = absurd (cc)

pub stands_fits : WhatStandsFits
unfolding stands_for
stands_fits store_mark content state long are is = subst FitsMemory (same_state (first_failed (checks store_mark content)) (state_in content) state is) (memory_fits content long are)
