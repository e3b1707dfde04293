-- No bytes, prepared, change nothing.
use Rattle.std.proofs.Common.{◌≡◌, ℕ, List, Option, Some, None, option_map, replicate, refl, sym, ◌∙◌, ap}
use Rattle.list_laws.specs.Patches.{patched}
use Rattle.list_laws.proofs.PatchesLemmas.{patched-nil}
use Rattle.card_commits.specs.Prepared.{filled}

pub filled_nothing : (place size : ℕ) (told : Option (List ℕ)) → size ≡ 0 → told ≡ option_map (filled place size) told
filled_nothing place size None none = refl
filled_nothing place size (Some content) none =
    let same : filled place size content ≡ content = ap (λ (n : ℕ). patched place (replicate n 0xFF) content) none ∙ patched-nil place content in
    ap (λ (list : List ℕ). Some list) (sym same)
