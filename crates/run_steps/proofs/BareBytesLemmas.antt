-- How a command without Le is read.
use Rattle.std.proofs.Common.{◌≡◌, ℕ, ◌+◌, Bool, List, [], ◌∷◌, length, take, Option, Some, None, refl, ◌∙◌, ap, ◌==◌, if◌then◌else◌, slice_index, option_map, eq-eqb, ne_eqb}
use Rattle.apdu_form.specs.Model.{Apdu, data_field, ne_of, fields_in, command_in}
use Rattle.run_steps.specs.Le.{without_le, bare_bytes}

abbrev Fields : Type 0
Fields = Option (List ℕ × Option ℕ)

abbrev behind_lc : Bool → ℕ → List ℕ → Fields
behind_lc is lc rest = if is then Some (rest, None) else (if length rest == lc + 1 then Some (take lc rest, Some (ne_of (slice_index rest lc))) else None)

data_read : (body : List ℕ) → fields_in (data_field body) ≡ Some (body, None)
unfolding fields_in
data_read [] = refl
data_read (first ∷ rest) =
    let count : ℕ = length (first ∷ rest) in
    ap (λ (none : Bool). if none then None else behind_lc (count == count) count (first ∷ rest)) (ne_eqb count 0 (λ is. cc is))
    ∙ ap (λ (all : Bool). behind_lc all count (first ∷ rest)) (eq-eqb count count refl)

pub bare_read : (command : Apdu) → command_in (bare_bytes command) ≡ Some (without_le command)
unfolding command_in
bare_read command =
    ap (λ (fields : Fields). option_map (λ field. record { class = command.class; ins = command.ins; p1 = command.p1; p2 = command.p2; body = field.0; expected = field.1 }) fields) (data_read command.body)
