-- What holds of rooms and templates, whatever they are given.
use Rattle.std.specs.Prelude.{◌≡◌, ℕ, List, Option, Some, IsTrue}
use Rattle.card_state.specs.Persistent.{Persistent}
use Rattle.file_model.specs.declared.asked.NewFile.{NewFile}
use Rattle.file_model.specs.Rooms.{IsSmallestRoom, room_at}
use Rattle.file_model.specs.Templates.{template, may_be_made, IsInRange, asked_in}

-- ---- room

-- the place that is found is the smallest one of all
abbrev pub RoomsAreSmallest : Type 0
RoomsAreSmallest = (state : Persistent) (size : ℕ) → IsSmallestRoom state size (room_at state size)

-- there are no two answers
abbrev pub RoomsAreOne : Type 0
RoomsAreOne = (state : Persistent) (size : ℕ) (one other : Option ℕ) → IsSmallestRoom state size one → IsSmallestRoom state size other → one ≡ other

-- ---- templates

-- bytes that are read are the template of what is read, which may be made
abbrev pub ReadsTemplatesAlone : Type 0
ReadsTemplatesAlone = (bytes : List ℕ) (file : NewFile) → asked_in bytes ≡ Some file → IsTrue (may_be_made file) × (bytes ≡ template file)

-- and the template of each file that may be made is read
abbrev pub ReadsAllTemplates : Type 0
ReadsAllTemplates = (bytes : List ℕ) (file : NewFile) → IsTrue (may_be_made file) → IsInRange file → bytes ≡ template file → asked_in bytes ≡ Some file
