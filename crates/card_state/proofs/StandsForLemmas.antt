-- A content stands where each check is met.
use Rattle.std.proofs.Common.{◌≡◌, ℕ, ◌<◌, true, List, [], ◌∷◌, ◌++◌, Option, Some, None, Ok, refl, ap, ⊎_elim, arith, All, slice_index, ◌==◌}
use Rattle.std.proofs.lemmas.Bool.{cases_Bool, eqb-true, eq-eqb}
use Rattle.std.proofs.lemmas.List.Elements.{All-nil, All-cons, All-head, All-tail, All-append}
use Rattle.card_state.proofs.FilterRangeLemmas.{each_number, all_numbers}
use Rattle.card_state.specs.Places.{version_place, store_mark_place, row_count}
use Rattle.card_state.specs.Persistent.{Persistent}
use Rattle.card_state.specs.Decoding.{is_wide, table_of}
use Rattle.card_state.specs.States.{state_of}
use Rattle.card_state.specs.Checks.{Check, has_card_mark, is_version, header_checks, pin_check, row_check, node_check, pin_checks, row_checks, node_checks, checks, first_failed}
use Rattle.card_state.specs.Standing.{unless_failed, stands_for}

abbrev IsMet : Check → Type 0
IsMet check = check.is_met ≡ true

all_met : (list : List Check) → first_failed list ≡ None → All IsMet list
all_met [] none = All-nil IsMet
all_met (check ∷ list) none =
    ⊎_elim {C = All IsMet (check ∷ list)} (λ is. All-cons IsMet check list is (all_met list (rw is at none)))
    (λ is.
    let found : Some check.place ≡ None = rw is at none in
    absurd cc)
    (cases_Bool check.is_met)

none_failed : (list : List Check) → All IsMet list → first_failed list ≡ None
none_failed [] all = refl
none_failed (check ∷ list) all = rw (All-head IsMet check list all) (none_failed list (All-tail IsMet check list all))

module _ {X : Type 0} (P : X → Type 0) where
  pub all_front : (first rest : List X) → All P (first ++ rest) → All P first
  all_front [] rest all = All-nil P
  all_front (x ∷ first) rest all = All-cons P x first (All-head P x (first ++ rest) all) (all_front first rest (All-tail P x (first ++ rest) all))

  pub all_back : (first rest : List X) → All P (first ++ rest) → All P rest
  all_back [] rest all = all
  all_back (x ∷ first) rest all = all_back first rest (All-tail P x (first ++ rest) all)

pub record AreMet (store_mark : ℕ) (content : List ℕ) : Type 0 where
  pub mark : has_card_mark content ≡ true
  pub version : is_version (slice_index content version_place) ≡ true
  pub store : slice_index content store_mark_place ≡ store_mark
  pub pins : (slot : ℕ) → slot < 3 → (pin_check content slot).is_met ≡ true
  pub rows : (shelf : ℕ) → shelf < row_count (is_wide content) → (row_check content shelf).is_met ≡ true
  pub nodes : (number : ℕ) → number < 128 → (node_check content number).is_met ≡ true

module _ (store_mark : ℕ) (content : List ℕ) where
  abbrev header : List Check
  header = header_checks store_mark content

  each_met : All IsMet (checks store_mark content) → AreMet store_mark content
  unfolding checks
  each_met all =
      let first = all_front IsMet header (pin_checks content ++ (row_checks content ++ node_checks content)) all in
      let behind = all_back IsMet header (pin_checks content ++ (row_checks content ++ node_checks content)) all in
      let pins = all_front IsMet (pin_checks content) (row_checks content ++ node_checks content) behind in
      let entries = all_back IsMet (pin_checks content) (row_checks content ++ node_checks content) behind in
      let rows = all_front IsMet (row_checks content) (node_checks content) entries in
      let nodes = all_back IsMet (row_checks content) (node_checks content) entries in
      let none : Check = record { place = 0; is_met = true } in
      record {
        mark = first 0 none (omega arith);
        version = first 1 none (omega arith);
        store = eqb-true (slice_index content store_mark_place) store_mark (first 2 none (omega arith));
        pins = each_number IsMet (pin_check content) 3 pins;
        rows = each_number IsMet (row_check content) (row_count (is_wide content)) rows;
        nodes = each_number IsMet (node_check content) 128 nodes;
      }

  three_met : (a b c : Check) → IsMet a → IsMet b → IsMet c → All IsMet (a ∷ b ∷ c ∷ [])
  three_met a b c x y z = All-cons IsMet a (b ∷ c ∷ []) x (All-cons IsMet b (c ∷ []) y (All-cons IsMet c [] z (All-nil IsMet)))

  met_all : AreMet store_mark content → All IsMet (checks store_mark content)
  unfolding checks
  met_all met =
      let first : All IsMet header =
      three_met (record { place = 0; is_met = has_card_mark content }) (record { place = version_place; is_met = is_version (slice_index content version_place) })
      (record { place = store_mark_place; is_met = slice_index content store_mark_place == store_mark }) met.mark met.version (eq-eqb (slice_index content store_mark_place) store_mark met.store) in
      let pins : All IsMet (pin_checks content) = all_numbers IsMet (pin_check content) 3 met.pins in
      let rows : All IsMet (row_checks content) = all_numbers IsMet (row_check content) (row_count (is_wide content)) met.rows in
      let nodes : All IsMet (node_checks content) = all_numbers IsMet (node_check content) 128 met.nodes in
      All-append IsMet header (pin_checks content ++ (row_checks content ++ node_checks content)) first
      (All-append IsMet (pin_checks content) (row_checks content ++ node_checks content) pins (All-append IsMet (row_checks content) (node_checks content) rows nodes))

unless_none : (failed : Option ℕ) (there state : Persistent) → unless_failed failed there ≡ Ok state → (failed ≡ None) × (there ≡ state)
unless_none None there state is = (refl, cc)
unless_none (Some at) there state is = absurd cc

-- what stands is the state of the entries, and all checks are met
pub stands_told : (store_mark : ℕ) (content : List ℕ) (state : Persistent) → stands_for store_mark content ≡ Ok state → AreMet store_mark content × (state_of (table_of content) content ≡ state)
unfolding stands_for
stands_told store_mark content state is =
    let parts = unless_none (first_failed (checks store_mark content)) (state_of (table_of content) content) state is in
    (each_met store_mark content (all_met (checks store_mark content) parts.0), parts.1)

pub stands_taken : (store_mark : ℕ) (content : List ℕ) → AreMet store_mark content → stands_for store_mark content ≡ Ok (state_of (table_of content) content)
unfolding stands_for
stands_taken store_mark content met =
    ap (λ (failed : Option ℕ). unless_failed failed (state_of (table_of content) content)) (none_failed (checks store_mark content) (met_all store_mark content met))
