use Rattle.std.proofs.Common.{◌≡◌, List, ℕ, length, take}
use Rattle.store_form.specs.Pieces.{applied}
use Rattle.page_store.specs.Commits.{bytes_of_page}
use Rattle.page_store.proofs.overlays.put_pieces.Given as goal

abbrev pub invariant-loop-at : goal.invariant-loop-at
invariant-loop-at l = (held : List ℕ) → length held ≡ 65536 → l.initial.bytes ≡ bytes_of_page held l.fn.page → l.bytes ≡ bytes_of_page (applied (take l.at l.writes) held) l.fn.page
