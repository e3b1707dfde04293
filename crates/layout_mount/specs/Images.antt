-- The parts of a card's memory in which its entries stand, as one content of the memory.
use Rattle.std.specs.Prelude.{◌≡◌, ℕ, ◌-◌, List, ◌++◌, length, replicate, Option, IfSome}
use Rattle.card_state.specs.declared.places.TheConstants.{MEMORY_SIZE, PINS, DATA, UPPER_ROWS}
use Rattle.card_state.specs.Decoding.{bytes_at}
use Rattle.card_state.specs.Places.{memory_size}
use Rattle.layout_mount.specs.declared.image.Image.TheInside.{Inside}

-- so many bytes FF
unfoldable pub filler : ℕ → List ℕ
filler count = replicate count 255

-- the first bytes, the table after the store's own bytes, and what a wide card has after the files, with FF between
unfoldable pub whole : List ℕ → List ℕ → List ℕ → List ℕ
whole first table upper = first ++ filler (PINS - 8) ++ table ++ filler (UPPER_ROWS - DATA) ++ upper

-- the memory that the parts which were read stand for
abbrev pub image_of : Inside → List ℕ
image_of inside = whole inside.first inside.table inside.upper

-- both have the same bytes where entries stand
pub record SameEntries (content image : List ℕ) : Type 0 where
  pub first : bytes_at image 0 8 ≡ bytes_at content 0 8
  pub table : bytes_at image PINS (DATA - PINS) ≡ bytes_at content PINS (DATA - PINS)
  pub upper : bytes_at image UPPER_ROWS (MEMORY_SIZE - UPPER_ROWS) ≡ bytes_at content UPPER_ROWS (MEMORY_SIZE - UPPER_ROWS)

-- An image of a store is as long as the memory, and where the store tells its bytes, it has those where entries stand.
pub record IsImage (told : Option (List ℕ)) (image : List ℕ) : Type 0 where
  pub long : length image ≡ memory_size
  pub same : IfSome told (λ content. SameEntries content image)
