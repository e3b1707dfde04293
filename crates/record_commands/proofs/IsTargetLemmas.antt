-- The file that a command works on: it has records, and the record pointer lies in it.
use Rattle.std.proofs.Common.{◌≡◌, ℕ, ◌≤◌, Bool, true, false, List, Option, sym, subst, IsTrue, IfSome, IsSomeAnd, ◌&&◌, ◌||◌, not, nat_le}
use Rattle.std.proofs.lemmas.List.Elements.{All-contains}
use Rattle.list_laws.proofs.FindLemmas.{find_Some}
use Rattle.card_state.specs.Kinds.{has_records}
use Rattle.file_model.specs.declared.descriptors.Descriptor.{Descriptor}
use Rattle.file_model.specs.declared.descriptors.Wanted.TheVariants.{Number}
use Rattle.file_model.specs.declared.selections.Selection.{Selection}
use Rattle.file_model.specs.Files.{is_wanted, file_found}
use Rattle.file_model.specs.Selections.{IsSelection}
use Rattle.file_model.specs.Outcomes.{pointer_before, worked_on}
use Rattle.file_model.specs.Records.{is_cyclic}
use Rattle.file_model.proofs.RecordsLemmas.{cyclic_has_records}
use Rattle.file_tree.specs.Tables.{IsNumbered}
use Rattle.record_commands.specs.declared.targets.Structure.{Structure}
use Rattle.record_commands.specs.declared.targets.Structure.TheVariants.{Records, Updated, Increased}
use Rattle.record_commands.specs.Tables.{HaveRecords}
use Rattle.record_commands.specs.Targets.{fits, IsTarget}

first_true : (a b : Bool) → (a && b) ≡ true → a ≡ true
first_true true b both = cc
first_true false b both = both

pub fits_records : (structure : Structure) (file : Descriptor) → fits structure file ≡ true → IsTrue (has_records file.kind)
fits_records Records file is = is
fits_records (Updated is_previous) file is = first_true (has_records file.kind) (not (is_cyclic file) || is_previous) is
fits_records Increased file is = cyclic_has_records file.kind (first_true (is_cyclic file) (nat_le file.width 127) is)

counted : (files : List Descriptor) (file : Descriptor) → HaveRecords files → IsNumbered files file → IsTrue (has_records file.kind) → 1 ≤ file.count
unfolding file_found
counted files file have numbered = All-contains (λ (f : Descriptor). IsTrue (has_records f.kind) → 1 ≤ f.count) files file have (find_Some (is_wanted (Number file.number)) files file numbered).0

pub target_of : (files : List Descriptor) (selection : Selection) (short : Option ℕ) (structure : Structure) (file : Descriptor) → HaveRecords files → IsNumbered files file
    → IsSelection files (worked_on selection file (pointer_before selection short)) → fits structure file ≡ true → IsTarget files selection short file
target_of files selection short structure file have numbered lawful is = record {
  numbered = numbered;
  kind = fits_records structure file is;
  some = counted files file have numbered (fits_records structure file is);
  pointer = subst (λ (o : Option Descriptor). IfSome (pointer_before selection short) (λ n. IsSomeAnd o (λ f. (1 ≤ n) × (n ≤ f.count)))) numbered lawful.pointer;
  lawful = λ pointer within. record {
    df = lawful.df;
    ef = lawful.ef;
    pointer = subst (λ (o : Option Descriptor). IfSome pointer (λ n. IsSomeAnd o (λ f. (1 ≤ n) × (n ≤ f.count)))) (sym numbered) within;
  };
}
