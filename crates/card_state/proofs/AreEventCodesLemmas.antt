-- What holds of the codes of a row's events, whatever its bits.
use Rattle.std.proofs.Common.{zero, suc, ◌<◌, ℕ, Bool, arith, ◌==◌, filter, Contains}
use Rattle.std.specs.Int.{bit_at}
use Rattle.std.specs.List.Sorted.{IsStrictlyIncreasing}
use Rattle.std.proofs.lemmas.List.Elements.{All-filter, All-map, All-contains_itself}
use Rattle.std.proofs.lemmas.List.Kept.{AllPairs-filter, AllPairs-from_increasing}
use Rattle.list_laws.proofs.MapLemmas.{all_unmapped}
use Rattle.list_laws.proofs.AllPairsLemmas.{pairs_map, pairs_unmap}
use Rattle.card_state.specs.Kinds.{event_codes, known_codes, codes_of}
use Rattle.card_state.specs.Soundness.{AreEventCodes}

abbrev code_of : ℕ × ℕ → ℕ
code_of event = event.0

-- the table of the codes ascends
codes_ascend : IsStrictlyIncreasing known_codes
codes_ascend zero low = omega arith
codes_ascend (suc zero) low = omega arith
codes_ascend (suc (suc zero)) low = omega arith
codes_ascend (suc (suc (suc zero))) low = omega arith
codes_ascend (suc (suc (suc (suc zero)))) low = omega arith
codes_ascend (suc (suc (suc (suc (suc zero))))) low = omega arith
codes_ascend (suc (suc (suc (suc (suc (suc zero)))))) low = omega arith
codes_ascend (suc (suc (suc (suc (suc (suc (suc zero))))))) low = omega arith
codes_ascend (suc (suc (suc (suc (suc (suc (suc (suc zero)))))))) low = omega arith
codes_ascend (suc (suc (suc (suc (suc (suc (suc (suc (suc zero))))))))) low = omega arith
codes_ascend (suc (suc (suc (suc (suc (suc (suc (suc (suc (suc zero)))))))))) low = omega arith
codes_ascend (suc (suc (suc (suc (suc (suc (suc (suc (suc (suc (suc k))))))))))) low = absurd (omega arith)

pub codes_known : (bits : ℕ) → AreEventCodes (codes_of bits)
codes_known bits =
    let is_set : ℕ × ℕ → Bool = λ event. bit_at bits event.1 == 1 in
    record {
      known = All-map (Contains known_codes) code_of (filter is_set event_codes) (All-filter is_set (λ event. Contains known_codes event.0) event_codes (all_unmapped (Contains known_codes) code_of event_codes (All-contains_itself known_codes)));
      ascending =
          pairs_map (λ a b. a < b) code_of (filter is_set event_codes)
          (AllPairs-filter (λ a b. a.0 < b.0) is_set event_codes (pairs_unmap (λ a b. a < b) code_of event_codes (AllPairs-from_increasing known_codes codes_ascend)));
    }
