-- The parts of an object at the front of some bytes.
use Rattle.std.proofs.Common.{◌≡◌, ℕ, ◌<◌, List, [], ◌∷◌, ◌++◌, length, refl, sym, ap, ◌∙◌, append_assoc, length-append, arith, take-append-drop}
use Rattle.std.proofs.Math.Seq.{take-append_seam, drop-append_seam}
use Rattle.std.specs.List.{IsSplitAt}
use Rattle.access_rules.specs.Objects.{length_bytes, object}

-- the tag, the length, the value and what follows, one after another
pub object-parts : (tag : ℕ) (value rest : List ℕ) → object tag value ++ rest ≡ tag ∷ (length_bytes (length value) ++ (value ++ rest))
unfolding object
object-parts tag value rest = ap (λ bytes. tag ∷ bytes) (append_assoc (length_bytes (length value)) value rest)

pub object_joined : (bytes behind_tag behind_length value rest : List ℕ) (tag n size : ℕ)
    → bytes ≡ tag ∷ behind_tag → behind_tag ≡ length_bytes n ++ behind_length → IsSplitAt behind_length size value rest → size ≡ n
    → bytes ≡ object tag value ++ rest
object_joined bytes behind_tag behind_length value rest tag n size tagged measured split sized =
    let whole : value ++ rest ≡ behind_length = rw (split.1, split.2) (take-append-drop size behind_length) in
    tagged ∙ ap (λ more. tag ∷ more) (measured ∙ rw (whole, split.3 ∙ sized) refl) ∙ sym (object-parts tag value rest)

pub object_not_empty : (tag : ℕ) (value rest : List ℕ) → [] ≡ object tag value ++ rest → ⊥
object_not_empty tag value rest h = let same = h ∙ object-parts tag value rest in cc

-- bytes that are a value and a rest are split into them after the length of the value
pub split_once : (bytes front back value rest : List ℕ) (n : ℕ)
    → IsSplitAt bytes n front back → n ≡ length value → bytes ≡ value ++ rest → (front ≡ value) × (back ≡ rest)
split_once bytes front back value rest n split sized joined =
    (split.1 ∙ rw (sized, joined) (take-append_seam value rest), split.2 ∙ rw (sized, joined) (drop-append_seam value rest))

pub not_split : (bytes value rest : List ℕ) (n : ℕ) → length bytes < n → n ≡ length value → bytes ≡ value ++ rest → ⊥
not_split bytes value rest n short sized joined = omega (arith, length-append value rest, ap length joined)

pub object_longer : (tag : ℕ) (value rest : List ℕ) → length rest < length (object tag value ++ rest)
object_longer tag value rest =
    omega (arith, ap length (object-parts tag value rest), length-append (length_bytes (length value)) (value ++ rest), length-append value rest)
