-- Changes of the rows of a card that may be made, worked out: the laws have something to say.
use Rattle.std.proofs.Common.{◌≡◌, refl, ℕ, ◌<◌, ◌≤◌, List, [], ◌∷◌, length, arith, ◌≢◌, Contains}
use Rattle.std.proofs.lemmas.List.Elements.{All-nil, All-cons}
use Rattle.list_laws.proofs.AllPairsLemmas.{pairs_nil, pairs_cons}
use Rattle.card_state.specs.Persistent.{Registration}
use Rattle.card_state.specs.Kinds.{known_codes}
use Rattle.toolkit_model.specs.Order.{trigger_order, targets}
use Rattle.event_dispatch.specs.Changes.{AreListed, RowChange, Installs, Deletes, Registers, Deregisters, Keeps, changed_by, MayChangeAll}
use Rattle.event_dispatch.proofs.StandsForLemmas.{AreKnown}

abbrev row : ℕ → ℕ → List ℕ → Registration
row shelf sequence codes = record { shelf = shelf; kind = 3; priority = 1; sequence = sequence; codes = codes; text = []; kept = [] }

-- the location status is 03, and call control 45
abbrev older : Registration
older = row 3 0 (0x03 ∷ [])

abbrev newer : Registration
newer = row 6 1 []

abbrev changes : List RowChange
changes = Installs older ∷ Installs newer ∷ Registers 6 0x03 ∷ Registers 6 0x45 ∷ Deregisters 3 0x03 ∷ Keeps 6 (1 ∷ []) ∷ Deletes 3 ∷ []

location_known : Contains known_codes 0x03
location_known = (3, omega arith, refl)

older_known : AreKnown older
older_known = All-cons (Contains known_codes) 0x03 [] location_known (All-nil (Contains known_codes))

none_listed : AreListed []
none_listed = record {
  rows_are = record { shelves = pairs_nil (λ a b. a.shelf < b.shelf); sequences = pairs_nil (λ a b. a.sequence ≢ b.sequence); texts = All-nil (λ row. length row.text ≤ 10); few_texts = omega arith };
  known = All-nil AreKnown;
}

one_listed : AreListed (older ∷ [])
one_listed = record {
  rows_are = record {
    shelves = pairs_cons (λ a b. a.shelf < b.shelf) older [] (All-nil (λ b. older.shelf < b.shelf)) (pairs_nil (λ a b. a.shelf < b.shelf));
    sequences = pairs_cons (λ a b. a.sequence ≢ b.sequence) older [] (All-nil (λ b. older.sequence ≢ b.sequence)) (pairs_nil (λ a b. a.sequence ≢ b.sequence));
    texts = All-cons (λ row. length row.text ≤ 10) older [] (omega arith) (All-nil (λ row. length row.text ≤ 10));
    few_texts = omega arith;
  };
  known = All-cons AreKnown older [] older_known (All-nil AreKnown);
}

two_listed : AreListed (older ∷ newer ∷ [])
two_listed =
    let ascend = λ (a b : Registration). a.shelf < b.shelf in
    let differ = λ (a b : Registration). a.sequence ≢ b.sequence in
    let short = λ (row : Registration). length row.text ≤ 10 in
    record {
      rows_are = record {
        shelves = pairs_cons ascend older (newer ∷ []) (All-cons (ascend older) newer [] (omega arith) (All-nil (ascend older))) (pairs_cons ascend newer [] (All-nil (ascend newer)) (pairs_nil ascend));
        sequences = pairs_cons differ older (newer ∷ []) (All-cons (differ older) newer [] (λ same. omega (arith, same)) (All-nil (differ older))) (pairs_cons differ newer [] (All-nil (differ newer)) (pairs_nil differ));
        texts = All-cons short older (newer ∷ []) (omega arith) (All-cons short newer [] (omega arith) (All-nil short));
        few_texts = omega arith;
      };
      known = All-cons AreKnown older (newer ∷ []) older_known (All-cons AreKnown newer [] (All-nil (Contains known_codes)) (All-nil AreKnown));
    }

they_may : MayChangeAll changes []
they_may = ((one_listed, refl), ((two_listed, refl), (((1, omega arith, refl), refl), (((1, omega arith, refl), refl), (tt, (tt, (tt, tt)))))))

-- the newer row is triggered first, and then alone
both : targets (changed_by (Installs older ∷ Installs newer ∷ Registers 6 0x03 ∷ []) []) 0x03 ≡ 6 ∷ 3 ∷ []
unfolding trigger_order
both = refl

one_left : targets (changed_by changes []) 0x03 ≡ 6 ∷ []
unfolding trigger_order
one_left = refl

calls : targets (changed_by changes []) 0x45 ≡ 6 ∷ []
unfolding trigger_order
calls = refl
