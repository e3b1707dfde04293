-- What a run begins with by its mode.
use Rattle.std.proofs.Common.{◌≡◌, ℕ, Bool, Some, sym, ap, ◌∙◌, subst, inl, inr, ◌⊎◌}
use Rattle.card_state.specs.Sections.{bare_card}
use Rattle.command_line.specs.declared.requests.Mode.{Mode}
use Rattle.command_line.specs.declared.requests.Mode.TheVariants.{Play, Phone, Load, Bip}
use Rattle.command_line.specs.declared.requests.Transport.{Transport}
use Rattle.uicc_run.specs.Opening.{ReadsForCard, first_of}
use Rattle.uicc_run.specs.Loading.{ComesToLoad}
use Rattle.uicc_run.specs.Playing.{Given, Leaves}
use Rattle.uicc_run.specs.declared.endings.Ending.{Ending}

-- a card is made for these two
abbrev pub MakesCard : Mode → Type 0
MakesCard asked = (asked ≡ Play) ⊎ ((transport : Transport) × (asked ≡ Phone transport))

pub makes_bare : (asked : Mode) → MakesCard asked → first_of asked ≡ Some bare_card
makes_bare asked (inl is) = ap first_of is
makes_bare asked (inr is) = ap first_of is.1

-- a long run reads no script
pub no_load : (asked : Mode) (start count : ℕ) → asked ≡ Load start count → ReadsForCard asked → ⊥
no_load asked start count is reads = subst ReadsForCard is reads

-- and that of a terminal's channels is over no card
pub no_bip : (asked : Mode) → asked ≡ Bip → ReadsForCard asked → ⊥
no_bip asked is reads = subst ReadsForCard is reads

-- a run of a script is no long run, nor that of a terminal's channels
pub not_load : (start count : ℕ) (asked : Mode) → asked ≡ Load start count → MakesCard asked → ⊥
not_load start count asked same (inl is) = let differ : Load start count ≡ Play = sym same ∙ is in cc
not_load start count asked same (inr is) = let differ : Load start count ≡ Phone is.0 = sym same ∙ is.1 in cc

pub not_bip : (asked : Mode) → asked ≡ Bip → MakesCard asked → ⊥
not_bip asked same (inl is) = let differ : Bip ≡ Play = sym same ∙ is in cc
not_bip asked same (inr is) = let differ : Bip ≡ Phone is.0 = sym same ∙ is.1 in cc

-- a long run is the one that was asked for
pub the_load : (given : Given) (told : Bool) (start count start_too count_too : ℕ) (asked : Mode) (ending : Ending) (leaves : Leaves) → asked ≡ Load start count → asked ≡ Load start_too count_too
    → ComesToLoad given told start_too count_too ending leaves → ComesToLoad given told start count ending leaves
the_load given told start count start_too count_too asked ending leaves same is comes =
    let both : Load start count ≡ Load start_too count_too = sym same ∙ is in
    let start_is : start ≡ start_too = cc in
    let count_is : count ≡ count_too = cc in
    subst (λ s. ComesToLoad given told s count ending leaves) (sym start_is) (subst (λ k. ComesToLoad given told start_too k ending leaves) (sym count_is) comes)
