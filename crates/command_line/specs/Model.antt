-- The words after the program's name: a command, and then its options; `bip` has none.
use Rattle.std.specs.Prelude.{◌≡◌, ℕ, List, [], ◌∷◌, codes}
use Rattle.script_form.specs.Values.{IsNumber}
use Rattle.command_line.specs.OptionForms.{AreOptions, devices_of}
use Rattle.command_line.specs.declared.options.Options.{Options}
use Rattle.command_line.specs.declared.requests.Devices.{Devices}
use Rattle.command_line.specs.declared.requests.Mode.{Mode}
use Rattle.command_line.specs.declared.requests.Mode.TheVariants.{Play, Open, Phone, Load, Bip}
use Rattle.command_line.specs.declared.requests.Request.{Request}
use Rattle.command_line.specs.declared.requests.Transport.{Transport}
use Rattle.command_line.specs.declared.requests.Transport.TheVariants.{Direct}

-- the word of a command that has no other word before its options
abbrev pub IsNamed : List ℕ → Mode → Type 0
IsNamed word Play = word ≡ codes "play"
IsNamed word Open = word ≡ codes "open"
IsNamed word (Phone transport) = word ≡ codes "phone"
IsNamed word (Load start count) = ⊥
IsNamed word Bip = ⊥

-- the word that begins those of `load`
abbrev pub IsLoadWord : List ℕ → Type 0
IsLoadWord word = word ≡ codes "load"

-- the word of `bip`
abbrev pub IsBipWord : List ℕ → Type 0
IsBipWord word = word ≡ codes "bip"

-- a command of one word, then the options
pub record IsNamedCommand (words options : List (List ℕ)) (mode : Mode) : Type 0 where
  pub name : List ℕ
  pub begins : words ≡ name ∷ options
  pub named : IsNamed name mode

-- `load` with its two numbers, then the options
pub record IsLoadCommand (words options : List (List ℕ)) (start count : ℕ) : Type 0 where
  pub first : List ℕ
  pub second : List ℕ
  pub begins : words ≡ codes "load" ∷ first ∷ second ∷ options
  pub start_is : IsNumber 0 999999999 first start
  pub count_is : IsNumber 0 1000000 second count

-- `bip` alone
pub record IsBipCommand (words options : List (List ℕ)) : Type 0 where
  pub alone : words ≡ codes "bip" ∷ []
  pub no_options : options ≡ []

-- the words begin with a command, and these options follow
abbrev pub IsCommand : List (List ℕ) → List (List ℕ) → Mode → Type 0
IsCommand words options Play = IsNamedCommand words options Play
IsCommand words options Open = IsNamedCommand words options Open
IsCommand words options (Phone transport) = IsNamedCommand words options (Phone transport)
IsCommand words options (Load start count) = IsLoadCommand words options start count
IsCommand words options Bip = IsBipCommand words options

-- how many words it has
abbrev pub length_of : Mode → ℕ
length_of Play = 1
length_of Open = 1
length_of (Phone transport) = 1
length_of (Load start count) = 3
length_of Bip = 1

-- how a handset reaches its card: as is chosen where a script speaks to it, and otherwise directly
abbrev pub transport_of : Mode → Transport
transport_of Play = Direct
transport_of Open = Direct
transport_of (Phone transport) = transport
transport_of (Load start count) = Direct
transport_of Bip = Direct

-- the word of a command that has no other, by this transport
abbrev pub IsNamedWith : List ℕ → Transport → Mode → Type 0
IsNamedWith word transport mode = IsNamed word mode × (transport_of mode ≡ transport)

-- the options in these words, after so many others, choose this transport, and what a run is made over
pub record AreChosen (before : ℕ) (words : List (List ℕ)) (transport : Transport) (devices : Devices) : Type 0 where
  pub options : Options
  pub named : AreOptions before words options
  pub transport_is : options.transport ≡ transport
  pub devices_are : devices ≡ devices_of options

-- the words are a command and its options, and ask for a run in this mode, over these devices
pub record IsRequest (words : List (List ℕ)) (asked : Request) : Type 0 where
  pub options : List (List ℕ)
  pub begins : IsCommand words options asked.mode
  pub goes_on : AreChosen (length_of asked.mode) options (transport_of asked.mode) asked.devices

-- the words are those of a run
abbrev pub AskForRun : List (List ℕ) → Type 0
AskForRun words = (asked : Request) × IsRequest words asked

-- what a run with these words is made over
pub record IsMadeFor (words : List (List ℕ)) (found : Devices) : Type 0 where
  pub asked : Request
  pub words_are : IsRequest words asked
  pub devices : found ≡ asked.devices
