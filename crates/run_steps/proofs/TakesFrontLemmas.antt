-- A sink that tells what it has taken goes on telling it, and one that tells nothing goes on so.
use Rattle.std.proofs.Common.{◌≡◌, ℕ, List, Option, Some, None, is_some, refl, ap}
use Rattle.std.specs.Io.KnownBytes.{append_known}
use Rattle.uicc_types.specs.Told.{Becomes}
use Rattle.byte_streams.specs.Streams.{TakesFront}

-- where a text was taken whole
pub tells_whole : (text : List ℕ) (before now : Option (List ℕ)) → now ≡ append_known before text → is_some now ≡ is_some before
tells_whole text None now is = ap is_some is
tells_whole text (Some known) now is = ap is_some is

-- where the beginning of it was
pub tells_front : (text : List ℕ) (before now : Option (List ℕ)) → Becomes (TakesFront text) before now → is_some now ≡ is_some before
tells_front text None None becomes = refl
tells_front text (Some before) (Some now) becomes = refl
tells_front text before now becomes = absurd becomes
