-- TPDUs that go over the link of a carrier, one after the other.
use Rattle.std.proofs.Common.{ℕ, ◌+◌, ◌≤◌, refl, subst, arith}
use Rattle.t0_link.specs.Carrying.{RoseBy}
use Rattle.run_steps.specs.Carriers.{Carries}
use Rattle.run_steps.specs.declared.carriers.Carrier.{Carrier}
use Rattle.run_steps.specs.declared.carriers.Carrier.TheVariants as carrier

none_rose : (count : ℕ) → RoseBy 0 count count
none_rose count = omega arith

-- nothing goes over it
pub carries_none : (each : Carrier) → Carries 0 each each
carries_none carrier.Direct = refl
carries_none (carrier.Link link) = none_rose link.tpdus

fewer_rose : (less more before now : ℕ) → less ≤ more → RoseBy more before now → RoseBy less before now
fewer_rose less more before now fewer rose = omega (arith, fewer, rose)

rose_on : (first more before mid now : ℕ) → RoseBy first before mid → RoseBy more mid now → RoseBy (first + more) before now
rose_on first more before mid now one other = omega (arith, one, other)

-- fewer TPDUs
pub carries_fewer : (less more : ℕ) (old new : Carrier) → less ≤ more → Carries more old new → Carries less old new
carries_fewer less more carrier.Direct new fewer carries = carries
carries_fewer less more (carrier.Link link) carrier.Direct fewer carries = absurd carries
carries_fewer less more (carrier.Link link) (carrier.Link after) fewer carries = fewer_rose less more link.tpdus after.tpdus fewer carries

-- some TPDUs, and then others
pub carries_on : (first more : ℕ) (old mid new : Carrier) → Carries first old mid → Carries more mid new → Carries (first + more) old new
carries_on first more carrier.Direct mid new one other = subst (λ (each : Carrier). Carries more each new) one other
carries_on first more (carrier.Link link) carrier.Direct new one other = absurd one
carries_on first more (carrier.Link link) (carrier.Link between) carrier.Direct one other = absurd other
carries_on first more (carrier.Link link) (carrier.Link between) (carrier.Link after) one other = rose_on first more link.tpdus between.tpdus after.tpdus one other
