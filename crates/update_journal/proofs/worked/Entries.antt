-- The entries of a journal, worked out.
use Rattle.std.proofs.Common.{◌≡◌, List, [], ◌∷◌, ◌++◌, Some, None, refl}
use Rattle.store_form.specs.Pieces.{Piece}
use Rattle.update_journal.specs.Entries.{entries, pieces_in}

abbrev pieces : List Piece
pieces = record { place = 0x0F80; bytes = 0xAA ∷ 0xBB ∷ [] } ∷ record { place = 0x0001; bytes = 0xCC ∷ [] } ∷ []

spelled : entries pieces ≡ 0x02 ∷ 0x0F ∷ 0x80 ∷ 0x00 ∷ 0x02 ∷ 0xAA ∷ 0xBB ∷ 0x00 ∷ 0x01 ∷ 0x00 ∷ 0x01 ∷ 0xCC ∷ []
unfolding entries
spelled = refl

-- read back, whatever was there before
read_back : pieces_in 65536 (entries pieces ++ (0x55 ∷ 0xFF ∷ [])) ≡ Some pieces
unfolding entries pieces_in
read_back = refl

-- a piece in the store's own bytes is no piece of a commit
own_bytes : pieces_in 65536 (0x01 ∷ 0x00 ∷ 0x80 ∷ 0x00 ∷ 0x01 ∷ 0xAA ∷ []) ≡ None
unfolding pieces_in
own_bytes = refl
