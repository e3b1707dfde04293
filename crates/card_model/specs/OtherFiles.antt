-- Commands on files, and those that make, delete and resize files, change no more than files.
use Rattle.std.specs.Prelude.{⊤, ◌≡◌, List, [], ◌∷◌}
use Rattle.card_state.specs.Persistent.{Persistent}

-- each state passed is the one before the command with other files
abbrev pub HaveOtherFiles : Persistent → List Persistent → Type 0
HaveOtherFiles state [] = ⊤
HaveOtherFiles state (next ∷ passed) = (next ≡ record state { files = next.files }) × HaveOtherFiles state passed

-- the one before the command with other files
abbrev pub IsWithFiles : Persistent → Persistent → Type 0
IsWithFiles state next = next ≡ record state { files = next.files }
