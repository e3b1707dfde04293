-- Words of hexadecimal digits, read by the crate `hex`.
use Rattle.std.proofs.Common.{◌≡◌, ℕ, ◌*◌, List, length, Ok, Err, sym, ap, ◌∙◌}
use Rattle.hex.specs.Hex.{decode_sized}
use Rattle.hex.specs.declared.error.FromHexError.{FromHexError}
use Rattle.hex.proofs.HexLemmas.{decode_of-ok, decode_sized-twice}
use Rattle.script_form.specs.Values.{IsHex, IsSized}

-- a word has two digits for each of its bytes
pub length-hex : (most : ℕ) (word bytes : List ℕ) → IsHex most word bytes → length word ≡ 2 * length bytes
length-hex most word bytes h = (decode_of-ok word bytes h.digits).2

-- a word that is not so many bytes
pub not_sized : (word : List ℕ) (count : ℕ) (e : FromHexError) → decode_sized word count ≡ Err e → (bytes : List ℕ) → IsSized count word bytes → ⊥
not_sized word count e err bytes sized =
    let twice : length word ≡ 2 * count = (decode_of-ok word bytes sized.digits).2 ∙ ap (λ (n : ℕ). 2 * n) sized.many in
    let read = decode_sized-twice word count twice ∙ sized.digits in
    absurd (let apart : Err e ≡ Ok bytes = sym err ∙ read in cc)
