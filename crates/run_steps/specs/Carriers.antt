-- How many TPDUs go over the link of a carrier.
use Rattle.std.specs.Prelude.{◌≡◌, ℕ}
use Rattle.t0_link.specs.Carrying.{RoseBy}
use Rattle.run_steps.specs.declared.carriers.Carrier.{Carrier}
use Rattle.run_steps.specs.declared.carriers.Carrier.TheVariants as carrier

-- the carrier is what it was, and where it is a link, this was given so many TPDUs at least
abbrev pub Carries : ℕ → Carrier → Carrier → Type 0
Carries times carrier.Direct new = new ≡ carrier.Direct
Carries times (carrier.Link link) carrier.Direct = ⊥
Carries times (carrier.Link link) (carrier.Link after) = RoseBy times link.tpdus after.tpdus
