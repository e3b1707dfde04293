-- What a mount read holds of the bytes of a store that tells them.
use Rattle.std.proofs.Common.{ℕ, List, Option, IfSome, sym, subst, None, Some}
use Rattle.layout_mount.specs.Mounted.{HasRead}

-- where it tells its bytes, it holds of those
pub read_told : (told : Option (List ℕ)) (Holds : List ℕ → Type 0) → HasRead told Holds → IfSome told Holds
read_told None Holds read = tt
read_told (Some held) Holds read = subst Holds (sym read.told_is) read.holds
