-- What the files of a card hold.
use Rattle.std.specs.Prelude.{ℕ, List, [], Option, Some, None}
use Rattle.card_state.specs.Persistent.{Contents, Files, Bytes, Records, File, Persistent}
use Rattle.card_state.specs.StateLaws.{file_with_number}

-- what this file holds; where there is none, as a DF neither bytes nor records
abbrev pub contents_if : Option File → Contents
contents_if None = Files
contents_if (Some file) = file.contents

-- what the file with this number holds
unfoldable pub held_by : Persistent → ℕ → Contents
held_by state number = contents_if (file_with_number state number)

-- the bytes of a transparent file; of another none
abbrev pub bytes_held : Contents → List ℕ
bytes_held Files = []
bytes_held (Bytes bytes) = bytes
bytes_held (Records records) = []

-- the records of a file that has records; of another none
abbrev pub records_held : Contents → List (List ℕ)
records_held Files = []
records_held (Bytes bytes) = []
records_held (Records records) = records

-- the bytes of the transparent file with this number
abbrev pub bytes_in : Persistent → ℕ → List ℕ
bytes_in state number = bytes_held (held_by state number)

-- the records of the linear fixed or cyclic file with this number, from record 1 on
abbrev pub records_in : Persistent → ℕ → List (List ℕ)
records_in state number = records_held (held_by state number)
