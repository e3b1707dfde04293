-- How often the store is read for a command that answers bytes of a file.
use Rattle.std.specs.Prelude.{◌≡◌, ◌≢◌, ◌⊎◌, ◌==◌, ◌||◌, ℕ, nat_lt, if◌then◌else◌, List, [], Option, Some, None, Result, IfOk, OnOk, OnErr}
use Rattle.uicc_types.specs.Counts.{raised, raised_by}
use Rattle.uicc_types.specs.declared.answers.Answer.{Answer}
use Rattle.uicc_types.specs.declared.answers.TheConstants.StatusWord.{SECURITY_NOT_SATISFIED}
use Rattle.card_state.specs.Kinds.{linear_kind}
use Rattle.file_model.specs.declared.descriptors.Descriptor.{Descriptor}
use Rattle.file_model.specs.declared.descriptors.RuleReference.{RuleReference}
use Rattle.file_model.specs.Access.{arr_found}
use Rattle.binary_commands.specs.Ends.{Tried}

-- ---- whether access is granted (ETSI TS 102 221, 9.2.7)

-- one read, of the record with this number, where the EF has it
abbrev pub record_reads : ℕ → Descriptor → ℕ
record_reads number arr = if number == 0 || nat_lt arr.count number then 0 else 1

-- none where no EF_ARR was found, or one that isn't linear fixed
abbrev pub arr_reads : ℕ → Option Descriptor → ℕ
arr_reads number None = 0
arr_reads number (Some arr) = if arr.kind == linear_kind then record_reads number arr else 0

-- none where the file has no rule
abbrev pub rule_reads : List Descriptor → Descriptor → Option RuleReference → ℕ
rule_reads files file None = 0
rule_reads files file (Some rule) = arr_reads rule.number (arr_found files file.parent rule.arr)

-- how many reads tell whether access to a file is granted: one, of the record that rules it, or none where no such record is there
unfoldable pub access_reads : List Descriptor → Descriptor → ℕ
access_reads files file = rule_reads files file file.rule

-- ---- what is read of the file

-- So many reads tell whether access is granted. Once it is, the file is read once; a command that is refused reads nothing of it, and
-- one that a fault stops reads nothing again.
pub record ReadsFile (result : Tried) (access before now : ℕ) : Type 0 where
  pub done : IfOk result (λ tried. OnOk tried (now ≡ raised (raised_by access before)))
  pub refused : IfOk result (λ tried. OnErr tried (now ≡ raised_by access before))
  pub stopped : OnErr result ((now ≡ raised_by access before) ⊎ (now ≡ raised (raised_by access before)))

-- The same, as far as the answer of the command shows it.
pub record ReadsOnce {X E : Type 0} (result : Result X E) (answer : Answer) (access before now : ℕ) : Type 0 where
  -- where access isn't granted, the reads are those that tell it, and no other
  pub denied : OnOk result (answer.status ≡ SECURITY_NOT_SATISFIED → now ≡ raised_by access before)
  -- where data are answered, there is just one more
  pub served : answer.body ≢ [] → now ≡ raised (raised_by access before)
  -- and there is never more than one more, also where a fault stops the command
  pub most : (now ≡ raised_by access before) ⊎ (now ≡ raised (raised_by access before))
