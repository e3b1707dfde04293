-- A command in a frame is read back.
use Rattle.std.proofs.Common.{◌≡◌, sym, ap, subst, ◌∙◌, ℕ, zero, suc, ◌*◌, ◌≤◌, List, [], ◌∷◌, length, map, All, Ok, arith}
use Rattle.std.proofs.lemmas.List.Sums.{sum_by-cons}
use Rattle.toolkit_commands.specs.declared.commands.Proactive.{Proactive}
use Rattle.toolkit_commands.specs.Table.{spelled, IsProper, details_of}
use Rattle.toolkit_commands.specs.Reading.{proactive_of}
use Rattle.frame_store.specs.Model.{bytes_in}
use Rattle.toolkit_model.specs.Orderly.{CanBeSent}
use Rattle.event_dispatch.specs.WaitingCommands.{IsCommandFrame, read_command, command_in, sent_in}

abbrev pub IsReadBack : Proactive → Type 0
IsReadBack command = proactive_of (spelled command 1) ≡ Ok (details_of command 1, command)

pub command_is : (shelf : ℕ) (command : Proactive) → IsReadBack command → command_in (shelf ∷ spelled command 1) ≡ command
command_is shelf command read = ap read_command read

pub frame_is : (shelf : ℕ) (command : Proactive) → CanBeSent command → IsReadBack command → IsCommandFrame (shelf ∷ spelled command 1)
frame_is shelf command sendable read =
    let same = sym (command_is shelf command read) in
    record {
      begins = omega arith;
      ends = omega (arith, sendable.short 1);
      spelled_is = ap (λ (c : Proactive). spelled c 1) same;
      proper = subst IsProper same sendable.proper;
      read = read ∙ ap (λ (c : Proactive). Ok (details_of c 1, c)) same;
    }

pub sent_is : (shelf : ℕ) (command : Proactive) → IsReadBack command → sent_in (shelf ∷ spelled command 1) ≡ record { shelf = shelf; command = command }
sent_is shelf command read = ap (λ (c : Proactive). record { shelf = shelf; command = c }) (command_is shelf command read)

-- the bytes of commands
pub few_command_bytes : (parts : List (List ℕ)) → All IsCommandFrame parts → bytes_in parts ≤ length parts * 256
few_command_bytes [] all = omega arith
few_command_bytes (p ∷ parts) all =
    let first = (all 0 [] (omega arith)).ends in
    let rest = few_command_bytes parts (λ j d inside. all (suc j) d (omega (arith, inside))) in
    omega (arith, sum_by-cons (λ k. k) (length p) (map length parts), first, rest)

pub All-one : {X : Type 0} (P : X → Type 0) (x : X) → P x → All P (x ∷ [])
All-one P x h zero d inside = h
All-one P x h (suc k) d inside = grind (arith, inside)
