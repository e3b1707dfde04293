use Rattle.std.proofs.Common.{ap, ◌∙◌, sym, arith, ℕ, List, drop, option_and_then}
use Rattle.file_model.specs.declared.descriptors.Descriptor.{Descriptor}
use Rattle.file_model.specs.declared.descriptors.Wanted.TheVariants.{Child}
use Rattle.file_model.specs.Files.{descriptors_of, file_found}
use Rattle.file_model.specs.Selections.{ids_of, chosen_by_path}
use Rattle.file_tree.proofs.ChosenByPathLemmas.{path_end, path_last, path_from, left_behind}
use Rattle.file_tree.proofs.finding.+chosen_by_path.Goals as goal

pub returns-in_default-clause-value : goal.returns-in_default-clause-value
returns-in_default-clause-value t c = c.first_file.ensures.value ∙ sym (path_end (descriptors_of c.args.loaded.now) c.args.df c.args.path.now (omega (arith, c.in_default.len_below)))

pub returns-in-len2-clause-value : goal.returns-in-len2-clause-value
returns-in-len2-clause-value t c =
    c.first_file-in-len2.ensures.value
    ∙ ap (λ (n : ℕ). file_found (descriptors_of c.args.loaded.now) (Child c.args.df (record { 0 = n }))) c.from_be_bytes.ensures
    ∙ sym (path_last (descriptors_of c.args.loaded.now) c.args.df c.args.path.now (omega (arith, c.in-len2.len_at_least, c.in-len2.len_below)))

pub returns-in-Some-clause-value : goal.returns-in-Some-clause-value
returns-in-Some-clause-value t c =
    c.chosen_by_path.ensures.value
    ∙ ap (λ (bytes : List ℕ). chosen_by_path (descriptors_of c.args.loaded.now) c.in-Some.next.number (ids_of bytes)) (left_behind c.args.path.now)
    ∙ sym (path_from (descriptors_of c.args.loaded.now) c.args.df c.args.path.now c.from_be_bytes-in-len2-up.result c.first_file-in-len2-up.result (omega (arith, c.in-len2-up.len_at_least)) c.requires.even
    c.from_be_bytes-in-len2-up.ensures c.first_file-in-len2-up.ensures.value
    ∙ ap (option_and_then (λ (child : Descriptor). chosen_by_path (descriptors_of c.args.loaded.now) child.number (ids_of (drop 2 c.args.path.now)))) c.in-Some.is)

pub returns-in-None-clause-value : goal.returns-in-None-clause-value
returns-in-None-clause-value t c =
    sym (path_from (descriptors_of c.args.loaded.now) c.args.df c.args.path.now c.from_be_bytes-in-len2-up.result c.first_file-in-len2-up.result (omega (arith, c.in-len2-up.len_at_least)) c.requires.even
    c.from_be_bytes-in-len2-up.ensures c.first_file-in-len2-up.ensures.value
    ∙ ap (option_and_then (λ (child : Descriptor). chosen_by_path (descriptors_of c.args.loaded.now) child.number (ids_of (drop 2 c.args.path.now)))) c.in-None.is)
