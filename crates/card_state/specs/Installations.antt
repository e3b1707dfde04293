-- An installation as it is read from its data, with its events as bits.
use Rattle.std.specs.Prelude.{◌≡◌, ℕ, ◌≤◌, ◌<◌, if◌then◌else◌, length, Option, Some, None}
use Rattle.card_state.specs.declared.events.TheConstants.{EVENTS_END}
use Rattle.card_state.specs.declared.sizes.TheConstants.{TEXT_LIMIT, KEPT_LIMIT}
use Rattle.card_state.specs.Kinds.{codes_of}
use Rattle.card_state.specs.Persistent.{Registration}
use Rattle.card_state.specs.Sections.{Installation, is_installation, sorted_codes}
use Rattle.card_state.specs.declared.installation.Installed.{Installed}

-- an installation, where its parts keep to their bounds
abbrev pub checked_parts : Installation → Option Installation
checked_parts found = if is_installation found then Some found else None

-- known events, and parts that a row has room for
pub record HasParts (installed : Installed) : Type 0 where
  pub events : installed.events < EVENTS_END
  pub text : length installed.text ≤ TEXT_LIMIT
  pub kept : length installed.kept ≤ KEPT_LIMIT

-- a row of an installation
abbrev pub registered : ℕ → ℕ → ℕ → ℕ → Installed → Registration
registered shelf kind priority sequence installed = record {
  shelf = shelf;
  kind = kind;
  priority = priority;
  sequence = sequence;
  codes = codes_of installed.events;
  text = installed.text;
  kept = installed.kept;
}

-- an installation with its events as bits
pub record IsInstalled (found : Installation) (installed : Installed) : Type 0 where
  pub parts : HasParts installed
  pub codes : codes_of installed.events ≡ sorted_codes found.codes
  pub text : installed.text ≡ found.text
  pub kept : installed.kept ≡ found.kept

-- what was read is this installation, or there is none
abbrev pub ReadsInstallation : Option Installation → Option Installed → Type 0
ReadsInstallation None None = Unit {0}
ReadsInstallation None (Some installed) = ⊥
ReadsInstallation (Some found) None = ⊥
ReadsInstallation (Some found) (Some installed) = IsInstalled found installed
