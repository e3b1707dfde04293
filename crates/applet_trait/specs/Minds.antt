-- What an applet knows, and a turn of it: what it does at a stimulus, and what it knows then.
use Rattle.std.specs.Option.{option_map}
use Rattle.std.specs.Prelude.{ℕ, List, map, Bool, Option, Some, None, unwrap_or, ◌==◌, slice_index_or}
use Rattle.applet_trait.specs.declared.stimuli.Stimulus.{Stimulus}
use Rattle.applet_trait.specs.declared.stimuli.Stimulus.TheVariants.{Went}
use Rattle.applet_trait.specs.declared.stimuli.Act.{Act}
use Rattle.applet_trait.specs.declared.stimuli.Act.TheVariants.{Done, Keep}

-- An applet's mind: its kind, its phase, a byte that it holds, the code of an event, and the bytes that the card keeps
-- for it. Between asking to keep bytes and the next stimulus it has these bytes too.
pub record AppletState : Type 0 where
  pub kind : ℕ
  pub phase : ℕ
  pub held : ℕ
  pub code : ℕ
  pub kept : List ℕ
  pub asked : Option (List ℕ)

-- the mind of an applet that woke
abbrev pub fresh : ℕ → List ℕ → AppletState
fresh kind kept = record { kind = kind; phase = 0; held = 0; code = 0; kept = kept; asked = None }

-- the minds of the boxes on the shelves
abbrev pub minds_of : {B : Type 0} → (B → AppletState) → List (Option B) → List (Option AppletState)
minds_of mind boxes = map (option_map mind) boxes

-- the kind of the applet on a shelf, if there is one; there is none after the last shelf
abbrev pub kind_on : List (Option AppletState) → ℕ → Option ℕ
kind_on minds shelf = option_map (λ mind. mind.kind) (slice_index_or minds shelf None)

-- what an applet does, and its mind then
pub record Turn : Type 0 where
  pub does : Act
  pub next : AppletState

-- the mind is in this phase
abbrev pub in_phase : ℕ → AppletState → Bool
in_phase phase mind = mind.phase == phase

-- an act, and the phase after it
abbrev pub turn : AppletState → Act → ℕ → Turn
turn mind does phase = record { does = does; next = record mind { phase = phase } }

-- the applet is done, which always leads to phase 0
abbrev pub done : AppletState → Turn
done mind = turn mind Done 0

-- the applet asks to keep bytes
abbrev pub keeping : AppletState → List ℕ → ℕ → Turn
keeping mind bytes phase =
    record { does = Keep bytes; next = record mind { phase = phase; asked = Some bytes } }

-- what is kept once a stimulus came: the bytes that were asked for where they went into the card's memory
abbrev pub kept_after : Stimulus → Option (List ℕ) → List ℕ → List ℕ
kept_after Went asked kept = unwrap_or asked kept
kept_after _ asked kept = kept

-- whatever the stimulus, no bytes are asked for any more
abbrev pub no_longer_asking : AppletState → Stimulus → AppletState
no_longer_asking mind stimulus = record mind { kept = kept_after stimulus mind.asked mind.kept; asked = None }
