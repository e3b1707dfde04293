-- What is read of an installation, and the row that comes of it.
use Rattle.std.proofs.Common.{◌≡◌, ℕ, Bool, true, false, List, Option, Some, None, sym, ◌∙◌, ap, ◌==◌, ◌&&◌, not, Result, Ok, Err}
use Rattle.card_state.specs.declared.entries.Row.{Row}
use Rattle.card_state.specs.declared.entries.Loaded.{Loaded}
use Rattle.card_state.specs.declared.installation.Installed.{Installed}
use Rattle.card_state.specs.Installations.{HasParts, registered, IsInstalled, ReadsInstallation}
use Rattle.card_state.specs.Persistent.{Registration}
use Rattle.card_state.specs.Sections.{Installation, installation_of, new_row, needs_wide}
use Rattle.card_state.specs.States.{registration_of, rows_of, state_of}
use Rattle.toolkit_model.specs.declared.faults.RowFault.{RowFault}
use Rattle.toolkit_model.specs.declared.faults.RowFault.TheVariants.{BadData, NoBox, Narrow, Taken, MenuFull, Spent}
use Rattle.toolkit_model.specs.Registry.{unless_missing, faulty_if, is_taken, is_menu_full, last_sequence, installed_row}

-- an installation that was read has known events
pub parts_of : (found : Option Installation) (installed : Installed) → ReadsInstallation found (Some installed) → HasParts installed
parts_of None installed reads = absurd reads
parts_of (Some found) installed reads = reads.parts

-- what the tests of a row come to, one after the other
abbrev tested : Bool → Bool → Bool → Bool → Registration → Result Registration RowFault
tested narrow taken full spent row = faulty_if narrow Narrow (faulty_if taken Taken (faulty_if full MenuFull (faulty_if spent Spent (Ok row))))

module _ (loaded : Loaded) (held : List ℕ) (kind : Option ℕ) (shelf priority known : ℕ) (content : List ℕ) (installed : Installed) (row : Row) (there : kind ≡ Some known)
    (made : registration_of shelf row ≡ registered shelf known priority loaded.next installed) (reads : ReadsInstallation (installation_of content) (Some installed)) where
  same_row : (found : Installation) → IsInstalled found installed → new_row (state_of loaded held) shelf priority known found ≡ registration_of shelf row
  unfolding state_of
  same_row found is =
      (λ i. let each : Registration = record { shelf = shelf; kind = known; priority = priority; sequence = loaded.next; codes = sym is.codes i; text = sym is.text i; kept = sym is.kept i } in each) ∙ sym made

  abbrev narrow : Registration → Bool
  narrow r = needs_wide r && not loaded.wide

  abbrev taken : Registration → Bool
  taken r = is_taken (rows_of loaded) r

  abbrev full : Registration → Bool
  full r = is_menu_full (rows_of loaded) r

  abbrev spent : Registration → Bool
  spent r = loaded.next == last_sequence

  abbrev all_tests : Registration → Result Registration RowFault
  all_tests r = tested (narrow r) (taken r) (full r) (spent r) r

  abbrev tried : Option Installation → Option ℕ → Result Registration RowFault
  tried found box = unless_missing found BadData (λ installation. unless_missing box NoBox (λ k. all_tests (new_row (state_of loaded held) shelf priority k installation)))

  by_found : (found : Option Installation) → ReadsInstallation found (Some installed) → tried found (Some known) ≡ all_tests (registration_of shelf row)
  by_found None reads = absurd reads
  by_found (Some found) reads = ap all_tests (same_row found reads)

  abbrev Answer : Result Registration RowFault → Type 0
  Answer result = result ≡ installed_row (state_of loaded held) kind shelf priority content

  by_tests : Answer (all_tests (registration_of shelf row))
  unfolding state_of
  by_tests = sym (ap (tried (installation_of content)) there ∙ by_found (installation_of content) reads)

  module _ (a : narrow (registration_of shelf row) ≡ true) where
    pub too_narrow : Answer (Err Narrow)
    too_narrow = sym (λ i. tested (a i) (taken (registration_of shelf row)) (full (registration_of shelf row)) (spent (registration_of shelf row)) (registration_of shelf row)) ∙ by_tests

  module _ (a : narrow (registration_of shelf row) ≡ false) where
    pub is_taken_already : taken (registration_of shelf row) ≡ true → Answer (Err Taken)
    is_taken_already b = sym (λ i. tested (a i) (b i) (full (registration_of shelf row)) (spent (registration_of shelf row)) (registration_of shelf row)) ∙ by_tests

    module _ (b : taken (registration_of shelf row) ≡ false) where
      pub no_room : full (registration_of shelf row) ≡ true → Answer (Err MenuFull)
      no_room c = sym (λ i. tested (a i) (b i) (c i) (spent (registration_of shelf row)) (registration_of shelf row)) ∙ by_tests

      module _ (c : full (registration_of shelf row) ≡ false) where
        pub no_number : spent (registration_of shelf row) ≡ true → Answer (Err Spent)
        no_number d = sym (λ i. tested (a i) (b i) (c i) (d i) (registration_of shelf row)) ∙ by_tests

        pub is_admitted : spent (registration_of shelf row) ≡ false → Answer (Ok (registration_of shelf row))
        is_admitted d = sym (λ i. tested (a i) (b i) (c i) (d i) (registration_of shelf row)) ∙ by_tests
