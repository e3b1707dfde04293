-- The options after a command: a store, an image, and a link, each of a name and a value. Each stands at most once, in any order.
use Rattle.std.specs.Prelude.{◌≡◌, ◌⊎◌, ℕ, ◌+◌, Bool, true, false, List, [], ◌∷◌, Some, None, codes, unwrap_or}
use Rattle.command_line.specs.declared.options.Options.{Options}
use Rattle.command_line.specs.declared.requests.Devices.{Devices}
use Rattle.command_line.specs.declared.requests.Transport.TheVariants.{Direct, T0}

-- no store is named, no image, and no link
abbrev pub without_options : Options
without_options = record { pages = None; image = None; transport = Direct }

-- what a run is made over: the journal where no store is named
abbrev pub devices_of : Options → Devices
devices_of options = record { image = options.image; pages = unwrap_or options.pages false }

-- the word of a store: of the one whose pages move, or else of the journal
abbrev pub store_word : Bool → List ℕ
store_word true = codes "pages"
store_word false = codes "journal"

-- the option of a store is added to others that name none
pub record AddsStore (name value : List ℕ) (others all : Options) : Type 0 where
  pub pages : Bool
  pub name_is : name ≡ codes "--store"
  pub value_is : value ≡ store_word pages
  pub once : others.pages ≡ None
  pub all_are : all ≡ record others { pages = Some pages }

-- so is that of an image, whose path stands at this place, and may be any word
pub record AddsImage (name : List ℕ) (place : ℕ) (others all : Options) : Type 0 where
  pub name_is : name ≡ codes "--image"
  pub once : others.image ≡ None
  pub all_are : all ≡ record others { image = Some place }

-- and that of the link of T=0
pub record AddsLink (name value : List ℕ) (others all : Options) : Type 0 where
  pub name_is : name ≡ codes "--link"
  pub value_is : value ≡ codes "t0"
  pub once : others.transport ≡ Direct
  pub all_are : all ≡ record others { transport = T0 }

-- one of these
abbrev pub AddsOption : List ℕ → List ℕ → ℕ → Options → Options → Type 0
AddsOption name value place others all = AddsStore name value others all ⊎ AddsImage name place others all ⊎ AddsLink name value others all

-- The words after so many others are options, and name this. The first word of all stands at place 0.
abbrev pub AreOptions : ℕ → List (List ℕ) → Options → Type 0
AreOptions before [] all = all ≡ without_options
AreOptions before (name ∷ []) all = ⊥
AreOptions before (name ∷ value ∷ words) all = (others : Options) × AreOptions (before + 2) words others × AddsOption name value (before + 1) others all
