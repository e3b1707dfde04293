-- Command and answer APDUs in the short form: ISO 7816-4, 5.1.
use Rattle.std.specs.Prelude.{◌≡◌, ℕ, ◌+◌, ◌≤◌, ◌%◌, ◌==◌, if◌then◌else◌, List, [], ◌∷◌, ◌++◌, length, take, slice_index, Option, Some, None, option_map, IfSome}

-- a command in its parts; `expected` is Ne, the most bytes of data that the answer may have
pub record Apdu : Type 0 where
  pub class : ℕ
  pub ins : ℕ
  pub p1 : ℕ
  pub p2 : ℕ
  pub body : List ℕ
  pub expected : Option ℕ

-- Lc and the data, where there are data
abbrev pub data_field : List ℕ → List ℕ
data_field [] = []
data_field (first ∷ rest) = length (first ∷ rest) ∷ first ∷ rest

-- Le, where an answer with data is expected: 00 stands for 256
abbrev pub le_field : Option ℕ → List ℕ
le_field None = []
le_field (Some expected) = expected % 256 ∷ []

-- what follows the header is the data and Ne, each within the short form
pub record IsFields (fields body : List ℕ) (expected : Option ℕ) : Type 0 where
  pub spelling : fields ≡ data_field body ++ le_field expected
  pub short_data : length body ≤ 255
  pub some_expected : IfSome expected (λ n. 1 ≤ n)
  pub short_expected : IfSome expected (λ n. n ≤ 256)

-- the bytes of a command: case 1 is the header alone, case 2 has Le, case 3 has data, case 4 has both
pub record IsCommand (bytes : List ℕ) (apdu : Apdu) : Type 0 where
  pub spelling : bytes ≡ apdu.class ∷ apdu.ins ∷ apdu.p1 ∷ apdu.p2 ∷ data_field apdu.body ++ le_field apdu.expected
  pub short_data : length apdu.body ≤ 255
  pub some_expected : IfSome apdu.expected (λ n. 1 ≤ n)
  pub short_expected : IfSome apdu.expected (λ n. n ≤ 256)

-- Ne of a byte Le
abbrev pub ne_of : ℕ → ℕ
ne_of le = if le == 0 then 256 else le

-- what stands after Lc: so many bytes of data, or these and Le
abbrev pub data_in : ℕ → List ℕ → Option (List ℕ × Option ℕ)
data_in lc rest =
    if length rest == lc then Some (rest, None)
    else (if length rest == lc + 1 then Some (take lc rest, Some (ne_of (slice_index rest lc))) else None)

-- what stands after the header: nothing, Le, or Lc, which is not 00, and what it counts
unfoldable pub fields_in : List ℕ → Option (List ℕ × Option ℕ)
fields_in [] = Some ([], None)
fields_in (le ∷ []) = Some ([], Some (ne_of le))
fields_in (lc ∷ next ∷ rest) = if lc == 0 then None else data_in lc (next ∷ rest)

-- the command that these bytes are, if they are one: the same as `IsCommand`, computed
unfoldable pub command_in : List ℕ → Option Apdu
command_in (class ∷ ins ∷ p1 ∷ p2 ∷ fields) =
    option_map (λ field. record { class = class; ins = ins; p1 = p1; p2 = p2; body = field.0; expected = field.1 }) (fields_in fields)
command_in _ = None

-- ---- the data of an answer

-- Le bounds the data of an answer; without Le all of them are answered (5.1)
abbrev pub cut_to : Option ℕ → List ℕ → List ℕ
cut_to None body = body
cut_to (Some expected) body = take expected body
