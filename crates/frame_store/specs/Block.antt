-- What a block of bytes owns.
use Rattle.std.specs.Prelude.{ℕ, ◌^◌, ◌<◌}
use Rattle.std.specs.Allocator.{array_of}
use mir.Syntax.{Ty}
use base.Fml.{Fml}
use denote.Builtin.{u8}
use denote.RawPtr.{Ptr, room_for}

-- the number of bytes of a block: at least one, and fewer than the allocator's bound
abbrev pub IsBlockSize : ℕ → Type 0
IsBlockSize n = (0 < n) × (n < 2 ^ 63)

-- what the allocator is asked for
abbrev pub bytes_of : ℕ → Ty
bytes_of n = array_of u8 n

-- room for n bytes at p, whatever it holds now
abbrev pub room_of : ℕ → Ptr → Fml
room_of n p = room_for (bytes_of n) p
