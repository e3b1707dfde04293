-- Lawful selections: the file that a command works on, and what is selected afterwards.
use Rattle.std.proofs.Common.{◌≡◌, ℕ, ◌≤◌, Bool, true, false, cond, List, Option, Some, None, Ok, refl, sym, ◌∙◌, ap, subst, inl, ⊎_elim, arith, ◌==◌, ◌&&◌, not, if◌then◌else◌, IsTrue, find, Contains, IsSomeAnd, IfSome, MatchResult, option_map, option_and_then}
use Rattle.std.proofs.lemmas.Bool.{cases_eq, eq-eqb, ne_eqb, cond-true, cond-false, and_parts}
use Rattle.std.proofs.lemmas.Option.{IfSome_then}
use Rattle.list_laws.proofs.CondLemmas.{mapped_Some}
use Rattle.list_laws.proofs.FindLemmas.{find-map, find_alike, find_Some, numbered_found}
use Rattle.list_laws.proofs.IfSomeLemmas.{if_some_at}
use Rattle.uicc_types.specs.declared.answers.TheConstants.StatusWord.{NO_CURRENT_FILE, FILE_NOT_FOUND}
use Rattle.card_state.specs.Kinds.{df_kind, is_ef_kind}
use Rattle.card_state.specs.Persistent.{File, Persistent}
use Rattle.card_state.specs.Changing.{with_file_changed}
use Rattle.card_state.specs.Soundness.{IsSound}
use Rattle.file_model.specs.declared.descriptors.Descriptor.{Descriptor}
use Rattle.file_model.specs.declared.descriptors.Wanted.{Wanted}
use Rattle.file_model.specs.declared.descriptors.Wanted.TheVariants.{Number, Short}
use Rattle.file_model.specs.declared.selections.Selection.{Selection}
use Rattle.file_model.specs.Files.{record_count, descriptor_in, descriptors_in, is_df, is_ef, lies_in, is_wanted, file_found}
use Rattle.file_model.specs.Selections.{current_ef, IsSelection}
use Rattle.file_model.specs.Outcomes.{addressed, pointer_before, worked_on}
use Rattle.file_model.specs.Laws.{HasSameAttributes, IsFileRefusal}
use Rattle.file_model.proofs.OptionLemmas.{some_of, some_so, sure_of, then_of}
use Rattle.file_model.proofs.ChainsLemmas.{given_so}
use Rattle.file_model.proofs.HasSameAttributesLemmas.{numbers_ascend}

-- ---- files that are found

-- a search among what is known of the files is one among the files
pub found_in : (state : Persistent) (wanted : Wanted) → file_found (descriptors_in state) wanted ≡ option_map descriptor_in (find (λ file. is_wanted wanted (descriptor_in file)) state.files)
unfolding file_found descriptors_in
found_in state wanted = find-map (is_wanted wanted) descriptor_in state.files

-- what is known of a file of the card
pub record IsOf (state : Persistent) (file : Descriptor) : Type 0 where
  pub whole : File
  pub there : Contains state.files whole
  pub is : descriptor_in whole ≡ file

pub found_of : (state : Persistent) (wanted : Wanted) (file : Descriptor) → file_found (descriptors_in state) wanted ≡ Some file → IsOf state file × (is_wanted wanted file ≡ true)
found_of state wanted file is =
    let mapped = mapped_Some descriptor_in (find (λ f. is_wanted wanted (descriptor_in f)) state.files) file (sym (found_in state wanted) ∙ is) in
    let found = find_Some (λ f. is_wanted wanted (descriptor_in f)) state.files mapped.0 mapped.1 in
    (record { whole = mapped.0; there = found.0; is = mapped.2 }, subst (λ f. is_wanted wanted f ≡ true) mapped.2 found.1)

-- each file is found by its number
pub number_found : (state : Persistent) (file : Descriptor) → IsSound state → IsOf state file → file_found (descriptors_in state) (Number file.number) ≡ Some file
unfolding descriptor_in
number_found state file sound of =
    subst (λ (f : Descriptor). file_found (descriptors_in state) (Number f.number) ≡ Some f) of.is
    (found_in state (Number of.whole.number)
    ∙ ap (option_map descriptor_in) (numbered_found (λ (f : File). f.number) state.files of.whole (numbers_ascend state sound) of.there))

-- ---- trees that are alike

pub record IsLike (old new : Descriptor) : Type 0 where
  pub number : new.number ≡ old.number
  pub parent : new.parent ≡ old.parent
  pub kind : new.kind ≡ old.kind
  pub count : new.count ≡ old.count

abbrev pub KeepsTree : List Descriptor → List Descriptor → Type 0
KeepsTree old new = (n : ℕ) (file : Descriptor) → file_found old (Number n) ≡ Some file → IsSomeAnd (file_found new (Number n)) (IsLike file)

carried : (old new : List Descriptor) (n : ℕ) (P : Descriptor → Type 0) → KeepsTree old new → ((file like : Descriptor) → IsLike file like → P file → P like)
    → IsSomeAnd (file_found old (Number n)) P → IsSomeAnd (file_found new (Number n)) P
carried old new n P keeps keep holds =
    let before = some_of P (file_found old (Number n)) holds in
    let after = some_of (IsLike before.0) (file_found new (Number n)) (keeps n before.0 before.1) in
    some_so P (file_found new (Number n)) after.0 after.1 (keep before.0 after.0 after.2 before.2)

abbrev IsEfIn : ℕ → Descriptor → Type 0
IsEfIn df file = IsTrue (is_ef file) × IsTrue (lies_in df file)

like_ef : (df : ℕ) (file like : Descriptor) → IsLike file like → IsEfIn df file → IsEfIn df like
like_ef df file like same holds = (
  subst (λ (k : ℕ). IsTrue (is_ef_kind k)) (sym same.kind) holds.0,
  subst (λ (p : ℕ). IsTrue (p == df && not (like.number == 0))) (sym same.parent) (subst (λ (n : ℕ). IsTrue (file.parent == df && not (n == 0))) (sym same.number) holds.1),
)

abbrev IsAmong : ℕ → Descriptor → Type 0
IsAmong n file = (1 ≤ n) × (n ≤ file.count)

current_carried : (old new : List Descriptor) (ef : Option ℕ) (n : ℕ) → KeepsTree old new
    → IsSomeAnd (option_and_then (λ number. file_found old (Number number)) ef) (IsAmong n) → IsSomeAnd (option_and_then (λ number. file_found new (Number number)) ef) (IsAmong n)
current_carried old new None n keeps holds = holds
current_carried old new (Some number) n keeps holds = carried old new number (IsAmong n) keeps (λ file like same among. (among.0, omega (arith, among.1, same.count))) holds

-- what is lawful in one is lawful in the other
pub selection_kept : (old new : List Descriptor) (selection : Selection) → KeepsTree old new → IsSelection old selection → IsSelection new selection
selection_kept old new selection keeps lawful = record {
  df = carried old new selection.df (λ file. IsTrue (is_df file)) keeps (λ file like same holds. subst (λ (k : ℕ). IsTrue (k == df_kind)) (sym same.kind) holds) lawful.df;
  ef = IfSome_then selection.ef {P = λ n. IsSomeAnd (file_found old (Number n)) (IsEfIn selection.df)} {Q = λ n. IsSomeAnd (file_found new (Number n)) (IsEfIn selection.df)}
      lawful.ef (λ n holds. carried old new n (IsEfIn selection.df) keeps (like_ef selection.df) holds);
  pointer = IfSome_then selection.pointer {P = λ n. IsSomeAnd (current_ef old selection) (IsAmong n)} {Q = λ n. IsSomeAnd (current_ef new selection) (IsAmong n)}
      lawful.pointer (λ n holds. current_carried old new selection.ef n keeps holds);
}

-- one file that holds as many records, or has another life cycle status, leaves the tree as it is
pub tree_kept : (state : Persistent) (change : File → File) (number : ℕ) → ((file : File) → HasSameAttributes file (change file))
    → ((file : File) → Contains state.files file → file.number ≡ number → record_count (change file).contents ≡ record_count file.contents)
    → KeepsTree (descriptors_in state) (descriptors_in (with_file_changed change number state))
unfolding with_file_changed descriptor_in
tree_kept state change number same counts n file is =
    let changed : File → File = λ f. if f.number == number then change f else f in
    let next : Persistent = with_file_changed change number state in
    let mapped = mapped_Some descriptor_in (find (λ f. f.number == n) state.files) file (sym (found_in state (Number n)) ∙ is) in
    let found = find_Some (λ f. f.number == n) state.files mapped.0 mapped.1 in
    let after : find (λ f. f.number == n) next.files ≡ Some (changed mapped.0) =
    find-map (λ f. f.number == n) changed state.files
    ∙ ap (option_map changed) (find_alike (λ f. (changed f).number == n) (λ f. f.number == n) state.files (λ f. ap (λ (k : ℕ). k == n) (same_number (f.number == number) f)) ∙ mapped.1) in
    some_so (IsLike file) (file_found (descriptors_in next) (Number n)) (descriptor_in (changed mapped.0)) (found_in next (Number n) ∙ ap (option_map descriptor_in) after)
    (subst (λ (d : Descriptor). IsLike d (descriptor_in (changed mapped.0))) mapped.2 (
    ⊎_elim {C = IsLike (descriptor_in mapped.0) (descriptor_in (changed mapped.0))}
    (λ named. subst (λ (f : File). IsLike (descriptor_in mapped.0) (descriptor_in f)) (sym (cond-true (mapped.0.number == number) (change mapped.0) mapped.0 (eq-eqb mapped.0.number number named)))
    (record { number = (same mapped.0).number; parent = (same mapped.0).parent; kind = (same mapped.0).kind; count = counts mapped.0 found.0 named }))
    (λ other. subst (λ (f : File). IsLike (descriptor_in mapped.0) (descriptor_in f)) (sym (cond-false (mapped.0.number == number) (change mapped.0) mapped.0 (ne_eqb mapped.0.number number other)))
    (record { number = refl; parent = refl; kind = refl; count = refl }))
    (cases_eq mapped.0.number number)))
  where
    same_number : (b : Bool) (f : File) → (cond b (change f) f).number ≡ f.number
    same_number true f = (same f).number
    same_number false f = refl

-- ---- the file that a command works on

pub record IsAddressed (state : Persistent) (selection : Selection) (short : Option ℕ) (file : Descriptor) : Type 0 where
  pub of : IsOf state file
  pub ef : IsTrue (is_ef file)
  pub inside : IsTrue (lies_in selection.df file)
  pub found : file_found (descriptors_in state) (Number file.number) ≡ Some file
  pub pointer : IfSome (pointer_before selection short) (λ n. (1 ≤ n) × (n ≤ file.count))

pub addressed_so : (state : Persistent) (selection : Selection) (short : Option ℕ) → IsSound state → IsSelection (descriptors_in state) selection
    → MatchResult (addressed (descriptors_in state) selection short) (IsAddressed state selection short) IsFileRefusal
unfolding addressed
addressed_so state selection None sound lawful =
    given_so (IsAddressed state selection None) IsFileRefusal (current_ef (descriptors_in state) selection) NO_CURRENT_FILE (λ file. Ok file) (inl (3, omega arith, refl))
    (λ file is.
    let current = then_of (λ n. file_found (descriptors_in state) (Number n)) selection.ef file is in
    let found = found_of state (Number current.0) file current.2 in
    let kept = sure_of (IsEfIn selection.df) (file_found (descriptors_in state) (Number current.0)) file current.2
    (if_some_at selection.ef (λ n. IsSomeAnd (file_found (descriptors_in state) (Number n)) (IsEfIn selection.df)) current.0 lawful.ef current.1) in
    record {
      of = found.0;
      ef = kept.0;
      inside = kept.1;
      found = number_found state file sound found.0;
      pointer = IfSome_then selection.pointer {P = λ n. IsSomeAnd (current_ef (descriptors_in state) selection) (IsAmong n)} {Q = λ n. IsAmong n file} lawful.pointer (λ n holds. sure_of (IsAmong n) (current_ef (descriptors_in state) selection) file is holds);
    })
addressed_so state selection (Some short) sound lawful =
    given_so (IsAddressed state selection (Some short)) IsFileRefusal (file_found (descriptors_in state) (Short selection.df short)) FILE_NOT_FOUND (λ file. Ok file) (inl (2, omega arith, refl))
    (λ file is.
    let found = found_of state (Short selection.df short) file is in
    let parts = and_parts (lies_in selection.df file && is_ef file) (file.short == short) found.1 in
    let both = and_parts (lies_in selection.df file) (is_ef file) parts.0 in
    record { of = found.0; ef = both.1; inside = both.0; found = number_found state file sound found.0; pointer = tt })

-- a command worked on it, and there is no record pointer or one of its records
pub worked_so : (state : Persistent) (selection : Selection) (short : Option ℕ) (file : Descriptor) (pointer : Option ℕ)
    → IsSelection (descriptors_in state) selection → IsAddressed state selection short file → IfSome pointer (λ n. (1 ≤ n) × (n ≤ file.count))
    → IsSelection (descriptors_in state) (worked_on selection file pointer)
worked_so state selection short file pointer lawful is among = record {
  df = lawful.df;
  ef = some_so (IsEfIn selection.df) (file_found (descriptors_in state) (Number file.number)) file is.found (is.ef, is.inside);
  pointer = IfSome_then pointer {P = λ n. IsAmong n file} {Q = λ n. IsSomeAnd (file_found (descriptors_in state) (Number file.number)) (IsAmong n)} among (λ n holds. some_so (IsAmong n) (file_found (descriptors_in state) (Number file.number)) file is.found holds);
}
