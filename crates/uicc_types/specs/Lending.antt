-- What a list of bytes is once they were lent and are given back.
use Rattle.std.specs.Prelude.{ℕ, List, length}
use Rattle.std.specs.Borrow.{Array, Fml, Lends, MutBor, RattleType, u8}
use Rattle.std.specs.List.{refill}
use Rattle.uicc_types.specs.contracts.byte_lists.ByteList.{the_row}

-- it has what was left in the places of its bytes
abbrev pub LendsBytes : RattleType → MutBor (List ℕ) → MutBor (List ℕ) → Fml
LendsBytes N list lent = Lends (the_row N) (Array u8 0) list lent (refill (length list.now) list.now)
