-- What becomes of an APDU that is passed to an endpoint.
use Rattle.std.specs.Prelude.{◌≡◌, ℕ, Bool, false, List, Result, Ok, Err, ⊤}
use Rattle.uicc_types.specs.declared.answers.Answer.{Answer}
use Rattle.t0_link.specs.declared.endpoint.LinkFault.{LinkFault}
use Rattle.t0_link.specs.declared.endpoint.LinkFault.TheVariants.{PowerLost, NoPower}

-- It answers; or it loses power, and is off then; or it was off, and nothing changes.
abbrev pub Transmits : {E : Type 0} → (E → Bool) → (E → List ℕ → Answer → E → Type 0) → (E → List ℕ → E → Type 0) → E → E → List ℕ → Result ⊤ LinkFault → Answer → Type 0
Transmits is_on step lost old new apdu (Ok done) answer = step old apdu answer new
Transmits is_on step lost old new apdu (Err PowerLost) answer = lost old apdu new × (is_on new ≡ false)
Transmits is_on step lost old new apdu (Err NoPower) answer = (is_on old ≡ false) × (new ≡ old)
