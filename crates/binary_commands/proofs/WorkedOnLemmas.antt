-- What is selected once a command has worked on an EF that it named by a short file identifier.
use Rattle.std.proofs.Common.{◌≡◌, ℕ, Bool, true, false, List, Option, Some, None, refl, sym, subst, ◌==◌, ◌&&◌, IsTrue, IsSomeAnd}
use Rattle.list_laws.proofs.FindLemmas.{find_Some}
use Rattle.file_model.specs.declared.descriptors.Descriptor.{Descriptor}
use Rattle.file_model.specs.declared.descriptors.Wanted.TheVariants.{Short}
use Rattle.file_model.specs.declared.selections.Selection.{Selection}
use Rattle.file_model.specs.Files.{is_ef, lies_in, is_wanted, file_found}
use Rattle.file_model.specs.Selections.{IsSelection}
use Rattle.file_model.specs.Outcomes.{worked_on}
use Rattle.file_tree.specs.Tables.{IsNumbered}

both : (a b c : Bool) → (a && b && c) ≡ true → (a ≡ true) × (b ≡ true)
both true true c are = (refl, refl)
both true false c are = cc
both false b c are = cc

pub lawful_by_short : (files : List Descriptor) (selection : Selection) (short : ℕ) (file : Descriptor) → IsSelection files selection → file_found files (Short selection.df short) ≡ Some file
    → IsNumbered files file → IsSelection files (worked_on selection file None)
unfolding file_found
lawful_by_short files selection short file lawful is numbered =
    let found = find_Some (is_wanted (Short selection.df short)) files file is in
    let parts = both (lies_in selection.df file) (is_ef file) (file.short == short) found.1 in
    record {
      df = lawful.df;
      ef = subst (λ (o : Option Descriptor). IsSomeAnd o (λ f. IsTrue (is_ef f) × IsTrue (lies_in selection.df f))) (sym numbered) (parts.1, parts.0);
      pointer = cc;
    }
