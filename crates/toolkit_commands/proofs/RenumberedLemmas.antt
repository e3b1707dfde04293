-- What is spelled with one number is, with another number in its place, what is spelled with that.
use Rattle.std.proofs.Common.{◌≡◌, ℕ, ◌+◌, ◌<◌, ◌≤◌, List, [], ◌∷◌, length, Ok, refl, ap, sym, ◌∙◌, arith, inl, inr, slice_index_or, ap₂}
use Rattle.std.proofs.lemmas.Bool.{cases_lt, lt-ltb, le-ltb, ne_eqb}
use Rattle.comprehension_tlv.specs.Writing.{tagged, spellings}
use Rattle.toolkit_commands.specs.declared.commands.Proactive.{Proactive}
use Rattle.toolkit_commands.specs.declared.commands.Details.{Details}
use Rattle.toolkit_commands.specs.Table.{row_of, required, objects_of_command, spelled, details_of}
use Rattle.toolkit_commands.specs.Reading.{proactive_of}
use Rattle.toolkit_commands.specs.Numbering.{place_of_number, renumbered}
use Rattle.toolkit_commands.proofs.SpellingsLemmas.{length-tagged}
use Rattle.toolkit_commands.proofs.LengthsOfCommandsLemmas.{same_length}
use Rattle.toolkit_commands.proofs.SpelledLemmas.{spelled_is_read}
use Rattle.toolkit_commands.proofs.FourFaultsLemmas.{read_is_fit}

-- a template of fewer than 256 bytes whose content begins with the details
module _ (tag first second old kind qualifier : ℕ) (others : List ℕ) where
  abbrev with_number : ℕ → List ℕ
  with_number number = first ∷ second ∷ number ∷ kind ∷ qualifier ∷ others

  in_template : (number : ℕ) → length (with_number old) < 256 → renumbered number (tagged tag (with_number old)) ≡ tagged tag (with_number number)
  unfolding tagged
  in_template number less =
      elim (cases_lt (length (with_number old)) 128) [
        | inl short ↦ rw (lt-ltb (length (with_number old)) 128 short, ne_eqb (length (with_number old)) 129 (λ e. absurd (omega (arith, e, short)))) refl
        | inr long ↦ rw (le-ltb (length (with_number old)) 128 long, lt-ltb (length (with_number old)) 256 less) refl
      ]

  kind_there : length (with_number old) < 256 → slice_index_or (tagged tag (with_number old)) (place_of_number (tagged tag (with_number old)) + 1) 0 ≡ kind
  unfolding tagged
  kind_there less =
      elim (cases_lt (length (with_number old)) 128) [
        | inl short ↦ rw (lt-ltb (length (with_number old)) 128 short, ne_eqb (length (with_number old)) 129 (λ e. absurd (omega (arith, e, short)))) refl
        | inr long ↦ rw (le-ltb (length (with_number old)) 128 long, lt-ltb (length (with_number old)) 256 less) refl
      ]

  qualifier_there : length (with_number old) < 256 → slice_index_or (tagged tag (with_number old)) (place_of_number (tagged tag (with_number old)) + 2) 0 ≡ qualifier
  unfolding tagged
  qualifier_there less =
      elim (cases_lt (length (with_number old)) 128) [
        | inl short ↦ rw (lt-ltb (length (with_number old)) 128 short, ne_eqb (length (with_number old)) 129 (λ e. absurd (omega (arith, e, short)))) refl
        | inr long ↦ rw (le-ltb (length (with_number old)) 128 long, lt-ltb (length (with_number old)) 256 less) refl
      ]

-- the objects after the details
abbrev behind : Proactive → List ℕ
behind command = spellings (required 2 (129 ∷ (row_of command).destination ∷ []) ∷ (row_of command).objects)

abbrev content : Proactive → ℕ → List ℕ
content command number = 129 ∷ 3 ∷ number ∷ (row_of command).kind ∷ (row_of command).qualifier ∷ behind command

objects_are : (command : Proactive) (number : ℕ) → spellings (objects_of_command command number) ≡ content command number
unfolding tagged
objects_are command number = refl

content_is : (command : Proactive) (number : ℕ) → spelled command number ≡ tagged 0xD0 (content command number)
content_is command number = ap (λ (bytes : List ℕ). tagged 0xD0 bytes) (objects_are command number)

few : (command : Proactive) (number : ℕ) → length (spelled command number) ≤ 255 → length (content command number) < 256
few command number fits = omega (arith, fits, length-tagged 0xD0 (content command number), ap length (content_is command number))

abbrev pub details : ℕ → ℕ → ℕ → Details
details number kind qualifier = record { number = number; kind = kind; qualifier = qualifier }

pub number_changed : (bytes : List ℕ) (command : Proactive) (old number : ℕ) → length bytes ≤ 255 → bytes ≡ spelled command old → renumbered number bytes ≡ spelled command number
number_changed bytes command old number fits is =
    let all = is ∙ content_is command old in
    ap (λ (b : List ℕ). renumbered number b) all
    ∙ in_template 0xD0 129 3 old (row_of command).kind (row_of command).qualifier (behind command) number (few command old (omega (arith, fits, ap length is)))
    ∙ sym (content_is command number)

pub details_changed : (bytes : List ℕ) (command : Proactive) (old number place : ℕ) → length bytes ≤ 255 → bytes ≡ spelled command old → place ≡ place_of_number bytes
    → details number (slice_index_or bytes (place + 1) 0) (slice_index_or bytes (place + 2) 0) ≡ details_of command number
details_changed bytes command old number place fits is place_is =
    let all = is ∙ content_is command old in
    let less = few command old (omega (arith, fits, ap length is)) in
    let kind = kind_there 0xD0 129 3 old (row_of command).kind (row_of command).qualifier (behind command) less in
    let qualifier = qualifier_there 0xD0 129 3 old (row_of command).kind (row_of command).qualifier (behind command) less in
    ap₂ (λ (k q : ℕ). details number k q)
    (ap₂ (λ (b : List ℕ) (p : ℕ). slice_index_or b (p + 1) 0) all (place_is ∙ ap place_of_number all) ∙ kind)
    (ap₂ (λ (b : List ℕ) (p : ℕ). slice_index_or b (p + 2) 0) all (place_is ∙ ap place_of_number all) ∙ qualifier)

pub read_changed : (bytes : List ℕ) (command : Proactive) (old number : ℕ) → length bytes ≤ 255 → bytes ≡ spelled command old
    → proactive_of bytes ≡ Ok (details_of command old, command) → proactive_of (renumbered number bytes) ≡ Ok (details_of command number, command)
read_changed bytes command old number fits is read =
    let fit = read_is_fit bytes (details_of command old) command read in
    ap proactive_of (number_changed bytes command old number fits is)
    ∙ spelled_is_read command number fit.0 fit.1 (omega (arith, fits, ap length is, same_length command old number))

-- a command has its details, its devices and a template round them
pub eight_at_least : (command : Proactive) (number : ℕ) → 8 ≤ length (spelled command number)
unfolding tagged
eight_at_least command number = omega (arith, length-tagged 0xD0 (content command number), ap length (content_is command number))
