-- An applet is registered in a card's memory: its row and the next sequence number, in one commit.
use Rattle.std.specs.Prelude.{◌≡◌, ◌⊎◌, ◌+◌, ◌<◌, ℕ, false, Some, option_map, Result, Ok, Err}
use Rattle.uicc_types.specs.Counts.{raised}
use Rattle.store_form.specs.declared.store.StoreFault.{StoreFault}
use Rattle.card_state.specs.declared.entries.Row.{Row}
use Rattle.card_state.specs.declared.sizes.TheConstants.{ROW_COUNT}
use Rattle.card_state.specs.Memory.{held}
use Rattle.card_state.specs.Persistent.{Registration, Persistent}
use Rattle.card_state.specs.States.{registration_of, rows_of}
use Rattle.card_commits.specs.Rows.{MayInstall, with_row_installed}
use Rattle.card_commits.specs.Laws.{IsTold}
use Rattle.applet_trait.specs.Minds.{kind_on}
use Rattle.toolkit_model.specs.Commands.{registering}
use Rattle.toolkit_model.specs.Registry.{is_taken}
use Rattle.proactive_handler.specs.Written.{IsWritten, IsPartlyWritten}
use Rattle.proactive_handler.specs.Steps.{Scene, toolkit}

-- this row may be installed on this shelf, for the applet in its box
pub record IsInstallable (now : Scene) (shelf : ℕ) (row : Row) : Type 0 where
  pub low : shelf < ROW_COUNT
  pub row_is : MayInstall now.memory.table shelf row
  pub free : is_taken (rows_of now.memory.table) (registration_of shelf row) ≡ false
  pub kind : kind_on now.minds shelf ≡ Some row.kind

-- the toolkit is as it is defined, and the store stands for the state with the row, after one commit
pub record IsRegistered (row : Registration) (old new : Scene) : Type 0 where
  pub toolkit_is : toolkit new ≡ (registering row (toolkit old)).state
  pub next : new.memory.table.next ≡ old.memory.table.next + 1
  pub stands : held new.memory ≡ option_map (with_row_installed row) (held old.memory)
  pub tells : (state : Persistent) → IsTold old.memory.table state
      → IsTold new.memory.table (with_row_installed row state)
  pub commits : new.memory.commits ≡ raised old.memory.commits
  pub writes : IsWritten (registering row (toolkit old)).log old.memory new.memory

-- a fault stopped the commit, which isn't counted
pub record IsNotRegistered (row : Registration) (old new : Scene) : Type 0 where
  pub stays : new.memory.table ≡ old.memory.table
  pub stands : (held new.memory ≡ held old.memory)
      ⊎ (held new.memory ≡ option_map (with_row_installed row) (held old.memory))
  pub commits : new.memory.commits ≡ old.memory.commits
  pub writes : IsPartlyWritten (registering row (toolkit old)).log old.memory new.memory

-- what the commit of a row comes to after Ok, or where a fault stops it
abbrev pub Registers : {X : Type 0} → Registration → Scene → Scene → Result X StoreFault → Type 0
Registers row old new (Ok result) = IsRegistered row old new
Registers row old new (Err fault) = IsNotRegistered row old new

-- the scene with this next sequence number, for what is said of it besides
abbrev pub with_next : ℕ → Scene → Scene
with_next next now = record now { memory = record now.memory { table = record now.memory.table { next = next } } }
