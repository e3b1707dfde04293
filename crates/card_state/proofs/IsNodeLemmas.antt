-- What the check of a file's entry tells, and what it takes.
use Rattle.std.proofs.Common.{◌≡◌, ℕ, ◌+◌, ◌%◌, ◌/◌, ◌≤◌, ◌<◌, Bool, true, false, cond, List, sym, ◌∙◌, ap, ⊎_elim, inl, inr, arith, ◌≢◌, ◌⊎◌, not, ◌&&◌, ◌||◌, nat_le, ◌==◌, slice_index, slice_get}
use Rattle.std.specs.Option.{option_map_or}
use Rattle.std.specs.List.{list_any, list_all}
use Rattle.std.proofs.lemmas.Bool.{cases_Bool, and_parts, and_from, or_left, or_right, or_cases, not-true, not_from_false, leb-true, le-leb, eqb-true, eq-eqb, eqb-false, ne_eqb, both_ways}
use Rattle.std.proofs.lemmas.Bool.Decides.{nat_tests}
use Rattle.card_state.specs.declared.entries.Node.{Node}
use Rattle.card_state.specs.Places.{data_place, data_end}
use Rattle.card_state.specs.Kinds.{df_kind, cyclic_kind, has_records, is_ef_kind, mf_id, current_adf_id, activated, deactivated}
use Rattle.card_state.specs.Checks.{is_flag, is_mf, is_used_df, is_known_kind, is_free_id, has_id_of, has_own_id, has_parent, has_place_in_tree, is_apart, has_whole_records, has_short_of, is_new_short, has_own_short, lies_among_files, shares_no_byte, has_own_bytes, is_life_cycle, has_right_records, is_ef, is_node}

-- the entry of the MF
pub record IsMf (node : Node) : Type 0 where
  pub used : node.used ≡ true
  pub kind : node.kind ≡ df_kind
  pub id : node.id.0 ≡ mf_id
  pub parent : node.parent ≡ 0

pub record IsPlaced (earlier : List Node) (node : Node) : Type 0 where
  pub kind : (node.kind ≡ df_kind) ⊎ (is_ef_kind node.kind ≡ true)
  pub not_mf : node.id.0 ≢ mf_id
  pub not_current : node.id.0 ≢ current_adf_id
  pub own_id : list_any (has_id_of node) earlier ≡ false
  pub parent : option_map_or is_used_df (slice_get earlier node.parent) false ≡ true

pub record HasWholeRecords (node : Node) : Type 0 where
  pub length : 1 ≤ node.length
  pub whole : node.size % node.length ≡ 0
  pub few : node.size / node.length ≤ 254
  pub ring : node.kind ≡ cyclic_kind → node.head < node.size / node.length
  pub line : node.kind ≢ cyclic_kind → node.head ≡ 0

pub record IsPlacedEf (wide : Bool) (earlier : List Node) (node : Node) : Type 0 where
  pub short : node.short ≤ 30
  pub own_short : node.short ≢ 0 → list_any (has_short_of node) earlier ≡ false
  pub life : (node.life ≡ deactivated) ⊎ (node.life ≡ activated)
  pub from : data_place ≤ node.place
  pub some : 1 ≤ node.size
  pub to : node.place + node.size ≤ data_end wide
  pub apart : list_all (λ other. not (is_ef_kind other.kind) || is_apart node other) earlier ≡ true
  pub records : has_records node.kind ≡ true → HasWholeRecords node
  pub no_head : has_records node.kind ≡ false → node.head ≡ 0

pub mf_told : (node : Node) → is_mf node ≡ true → IsMf node
mf_told node is =
    let last = and_parts (node.used && node.kind == df_kind && node.id.0 == mf_id) (node.parent == 0) is in
    let third = and_parts (node.used && node.kind == df_kind) (node.id.0 == mf_id) last.0 in
    let second = and_parts node.used (node.kind == df_kind) third.0 in
    record { used = second.0; kind = eqb-true node.kind df_kind second.1; id = eqb-true node.id.0 mf_id third.1; parent = eqb-true node.parent 0 last.1 }

pub mf_taken : (node : Node) → IsMf node → is_mf node ≡ true
mf_taken node mf =
    and_from (node.used && node.kind == df_kind && node.id.0 == mf_id) (node.parent == 0)
    (and_from (node.used && node.kind == df_kind) (node.id.0 == mf_id) (and_from node.used (node.kind == df_kind) mf.used (eq-eqb node.kind df_kind mf.kind)) (eq-eqb node.id.0 mf_id mf.id))
    (eq-eqb node.parent 0 mf.parent)

module _ (earlier : List Node) (node : Node) where
  abbrev kind : Bool
  kind = is_known_kind node.kind

  abbrev free : Bool
  free = is_free_id node.id.0

  abbrev own : Bool
  own = has_own_id earlier node

  abbrev there : Bool
  there = has_parent earlier node

  placed_told : has_place_in_tree earlier node ≡ true → IsPlaced earlier node
  placed_told is =
      let last = and_parts (kind && free && own) there is in
      let third = and_parts (kind && free) own last.0 in
      let second = and_parts kind free third.0 in
      record {
        kind = ⊎_elim (λ df. inl (eqb-true node.kind df_kind df)) inr (or_cases (node.kind == df_kind) (is_ef_kind node.kind) second.0);
        not_mf = grind (arith, nat_tests);
        not_current = grind (arith, nat_tests);
        own_id = not-true (list_any (has_id_of node) earlier) third.1;
        parent = last.1;
      }

  placed_taken : IsPlaced earlier node → has_place_in_tree earlier node ≡ true
  placed_taken placed =
      let kinds : kind ≡ true =
      ⊎_elim (λ df. or_left (node.kind == df_kind) (is_ef_kind node.kind) (eq-eqb node.kind df_kind df)) (or_right (node.kind == df_kind) (is_ef_kind node.kind)) placed.kind in
      let ids : free ≡ true =
      and_from (not (node.id.0 == mf_id)) (not (node.id.0 == current_adf_id)) (not_from_false (node.id.0 == mf_id) (ne_eqb node.id.0 mf_id placed.not_mf))
      (not_from_false (node.id.0 == current_adf_id) (ne_eqb node.id.0 current_adf_id placed.not_current)) in
      and_from (kind && free && own) there
      (and_from (kind && free) own (and_from kind free kinds ids) (not_from_false (list_any (has_id_of node) earlier) placed.own_id)) placed.parent

records_told : (node : Node) → has_whole_records node ≡ true → HasWholeRecords node
records_told node is = record {
  length = grind (arith, nat_tests);
  whole = grind (arith, nat_tests);
  few = grind (arith, nat_tests);
  ring = λ kind. grind (arith, nat_tests);
  line = λ kind. grind (arith, nat_tests);
}

records_taken : (node : Node) → HasWholeRecords node → has_whole_records node ≡ true
records_taken node whole = grind (arith, nat_tests)

short_told : (earlier : List Node) (node : Node) → has_own_short earlier node ≡ true → (node.short ≤ 30) × (node.short ≢ 0 → list_any (has_short_of node) earlier ≡ false)
short_told earlier node is =
    let parts = and_parts (nat_le node.short 30) (node.short == 0 || is_new_short earlier node) is in (
      leb-true node.short 30 parts.0,
      λ some. ⊎_elim {C = list_any (has_short_of node) earlier ≡ false} (λ none. absurd (some (eqb-true node.short 0 none))) (not-true (list_any (has_short_of node) earlier)) (or_cases (node.short == 0) (is_new_short earlier node) parts.1),
    )

short_taken : (earlier : List Node) (node : Node) → node.short ≤ 30 → (node.short ≢ 0 → list_any (has_short_of node) earlier ≡ false) → has_own_short earlier node ≡ true
short_taken earlier node low own =
    and_from (nat_le node.short 30) (node.short == 0 || is_new_short earlier node) (le-leb node.short 30 low)
    (⊎_elim {C = (node.short == 0 || is_new_short earlier node) ≡ true} (or_left (node.short == 0) (is_new_short earlier node))
    (λ some. or_right (node.short == 0) (is_new_short earlier node) (not_from_false (list_any (has_short_of node) earlier) (own (eqb-false node.short 0 some)))) (cases_Bool (node.short == 0)))

module _ (wide : Bool) (earlier : List Node) (node : Node) where
  abbrev short : Bool
  short = has_own_short earlier node

  abbrev life : Bool
  life = is_life_cycle node.life

  abbrev bytes : Bool
  bytes = has_own_bytes wide earlier node

  abbrev records : Bool
  records = has_right_records node

  lies_told : lies_among_files wide node ≡ true → (data_place ≤ node.place) × (1 ≤ node.size) × (node.place + node.size ≤ data_end wide)
  lies_told is =
      let last = and_parts (nat_le data_place node.place && nat_le 1 node.size) (nat_le (node.place + node.size) (data_end wide)) is in
      let second = and_parts (nat_le data_place node.place) (nat_le 1 node.size) last.0 in
      (leb-true data_place node.place second.0, leb-true 1 node.size second.1, leb-true (node.place + node.size) (data_end wide) last.1)

  lies_taken : data_place ≤ node.place → 1 ≤ node.size → node.place + node.size ≤ data_end wide → lies_among_files wide node ≡ true
  lies_taken from some to =
      and_from (nat_le data_place node.place && nat_le 1 node.size) (nat_le (node.place + node.size) (data_end wide))
      (and_from (nat_le data_place node.place) (nat_le 1 node.size) (le-leb data_place node.place from) (le-leb 1 node.size some)) (le-leb (node.place + node.size) (data_end wide) to)

  right_told : has_right_records node ≡ true → (has_records node.kind ≡ true → HasWholeRecords node) × (has_records node.kind ≡ false → node.head ≡ 0)
  right_told is = (
    λ kind. let whole : has_whole_records node ≡ true = ap (λ (b : Bool). cond b (has_whole_records node) (node.head == 0)) (sym kind) ∙ is in records_told node whole,
    λ kind. let none : (node.head == 0) ≡ true = ap (λ (b : Bool). cond b (has_whole_records node) (node.head == 0)) (sym kind) ∙ is in eqb-true node.head 0 none,
  )

  right_taken : (has_records node.kind ≡ true → HasWholeRecords node) → (has_records node.kind ≡ false → node.head ≡ 0) → has_right_records node ≡ true
  right_taken whole none =
      ⊎_elim {C = has_right_records node ≡ true}
      (λ kind. ap (λ (b : Bool). cond b (has_whole_records node) (node.head == 0)) kind ∙ records_taken node (whole kind))
      (λ kind. ap (λ (b : Bool). cond b (has_whole_records node) (node.head == 0)) kind ∙ eq-eqb node.head 0 (none kind)) (cases_Bool (has_records node.kind))

  ef_told : is_ef wide earlier node ≡ true → IsPlacedEf wide earlier node
  ef_told is =
      let last = and_parts (short && life && bytes) records is in
      let third = and_parts (short && life) bytes last.0 in
      let second = and_parts short life third.0 in
      let own = and_parts (lies_among_files wide node) (shares_no_byte earlier node) third.1 in
      let lies = lies_told own.0 in
      record {
        short = (short_told earlier node second.0).0;
        own_short = (short_told earlier node second.0).1;
        life = ⊎_elim (λ off. inl (eqb-true node.life deactivated off)) (λ on. inr (eqb-true node.life activated on)) (or_cases (node.life == deactivated) (node.life == activated) second.1);
        from = lies.0;
        some = lies.1;
        to = lies.2;
        apart = own.1;
        records = (right_told last.1).0;
        no_head = (right_told last.1).1;
      }

  ef_taken : IsPlacedEf wide earlier node → is_ef wide earlier node ≡ true
  ef_taken ef =
      let lives : life ≡ true =
      ⊎_elim (λ off. or_left (node.life == deactivated) (node.life == activated) (eq-eqb node.life deactivated off))
      (λ on. or_right (node.life == deactivated) (node.life == activated) (eq-eqb node.life activated on)) ef.life in
      and_from (short && life && bytes) records
      (and_from (short && life) bytes (and_from short life (short_taken earlier node ef.short ef.own_short) lives)
      (and_from (lies_among_files wide node) (shares_no_byte earlier node) (lies_taken ef.from ef.some ef.to) ef.apart))
      (right_taken ef.records ef.no_head)

-- a file other than the MF
pub record IsPlacedFile (wide : Bool) (earlier : List Node) (node : Node) : Type 0 where
  pub placed : IsPlaced earlier node
  pub ef : node.kind ≢ df_kind → IsPlacedEf wide earlier node

module _ (wide : Bool) (number : ℕ) (earlier : List Node) (bytes : List ℕ) (node : Node) where
  abbrev place : Bool
  place = has_place_in_tree earlier node

  abbrev kind_right : Bool
  kind_right = node.kind == df_kind || is_ef wide earlier node

  abbrev other : Bool
  other = not node.used || (place && kind_right)

  abbrev flag : Bool
  flag = is_flag (slice_index bytes 0)

  pub flag_told : is_node wide number earlier bytes node ≡ true → slice_index bytes 0 ≤ 1
  flag_told is = leb-true (slice_index bytes 0) 1 ((and_parts flag (cond (number == 0) (is_mf node) other) is).0)

  pub first_told : is_node wide number earlier bytes node ≡ true → number ≡ 0 → IsMf node
  first_told is none =
      mf_told node (ap (λ (b : Bool). cond b (is_mf node) other) (sym (eq-eqb number 0 none)) ∙ (and_parts flag (cond (number == 0) (is_mf node) other) is).1)

  pub node_told : is_node wide number earlier bytes node ≡ true → number ≢ 0 → node.used ≡ true → IsPlacedFile wide earlier node
  node_told is some used =
      let others : other ≡ true = ap (λ (b : Bool). cond b (is_mf node) other) (sym (ne_eqb number 0 some)) ∙ (and_parts flag (cond (number == 0) (is_mf node) other) is).1 in
      let both : (place && kind_right) ≡ true = ⊎_elim (λ free. absurd (both_ways node.used (not-true node.used free) used)) (λ (h : (place && kind_right) ≡ true). h) (or_cases (not node.used) (place && kind_right) others) in
      let parts = and_parts place kind_right both in
      record {
        placed = placed_told earlier node parts.0;
        ef = λ kind. ⊎_elim {C = IsPlacedEf wide earlier node} (λ df. absurd (kind (eqb-true node.kind df_kind df))) (ef_told wide earlier node) (or_cases (node.kind == df_kind) (is_ef wide earlier node) parts.1);
      }

  pub first_taken : slice_index bytes 0 ≤ 1 → number ≡ 0 → IsMf node → is_node wide number earlier bytes node ≡ true
  first_taken low none mf =
      and_from flag (cond (number == 0) (is_mf node) other) (le-leb (slice_index bytes 0) 1 low) (ap (λ (b : Bool). cond b (is_mf node) other) (eq-eqb number 0 none) ∙ mf_taken node mf)

  pub node_taken : slice_index bytes 0 ≤ 1 → number ≢ 0 → (node.used ≡ true → IsPlacedFile wide earlier node) → is_node wide number earlier bytes node ≡ true
  node_taken low some file =
      let both : node.used ≡ true → (place && kind_right) ≡ true =
      λ used.
      and_from place kind_right (placed_taken earlier node (file used).placed)
      (⊎_elim {C = kind_right ≡ true} (or_left (node.kind == df_kind) (is_ef wide earlier node))
      (λ kind. or_right (node.kind == df_kind) (is_ef wide earlier node) (ef_taken wide earlier node ((file used).ef (eqb-false node.kind df_kind kind)))) (cases_Bool (node.kind == df_kind))) in
      let others : other ≡ true =
      ⊎_elim {C = other ≡ true} (λ used. or_right (not node.used) (place && kind_right) (both used)) (λ free. or_left (not node.used) (place && kind_right) (not_from_false node.used free)) (cases_Bool node.used) in
      and_from flag (cond (number == 0) (is_mf node) other) (le-leb (slice_index bytes 0) 1 low) (ap (λ (b : Bool). cond b (is_mf node) other) (ne_eqb number 0 some) ∙ others)
