-- What a command that was carried out has made of the files of a card.
use Rattle.std.proofs.Common.{get_or, ◌≡◌, ℕ, zero, suc, ◌+◌, ◌≤◌, ◌<◌, Bool, true, false, cond, List, [], ◌∷◌, ◌++◌, filter, take, replicate, length, Option, Some, None, refl, sym, ◌∙◌, ap, subst, ⊎_elim, arith, length-append, ◌≢◌, ◌-◌, ◌==◌, not, nat_lt, find, is_some, is_none, All, AllPairs, Contains, IfSome, IsTrue, option_map}
use Rattle.std.specs.Prelude.{⊤}
use Rattle.std.specs.List.{range_with_len}
use Rattle.std.proofs.lemmas.Bool.{cases_Bool, cases_eq, cases_order, eqb-true, not-false}
use Rattle.std.proofs.lemmas.Bool.Decides.{nat_tests}
use Rattle.std.proofs.lemmas.Option.{option_and_then_some, same_Some}
use Rattle.std.proofs.lemmas.List.{length-take, get_or-take, get_or-replicate, get_or_append_left, get_or-append_right}
use Rattle.std.proofs.lemmas.List.Elements.{All-replicate, All-contains}
use Rattle.list_laws.proofs.CondLemmas.{mapped_Some}
use Rattle.list_laws.proofs.FindLemmas.{find_Some, numbered_found}
use Rattle.list_laws.proofs.IfSomeLemmas.{none_of}
use Rattle.list_laws.proofs.AllPairsLemmas.{pairs_head, pairs_tail}
use Rattle.uicc_types.specs.declared.answers.StatusWord.{StatusWord}
use Rattle.card_state.specs.declared.shapes.Shape.{Shape}
use Rattle.card_state.specs.declared.shapes.Shape.TheVariants.{Transparent, Linear, Cyclic}
use Rattle.card_state.specs.Changing.{listed, placed, with_file_at}
use Rattle.card_state.specs.Decoding.{number_at}
use Rattle.card_state.specs.Kinds.{transparent_kind, has_records}
use Rattle.card_state.specs.Persistent.{Contents, Files, Bytes, Records, File, Persistent}
use Rattle.card_state.specs.Sections.{blank_contents}
use Rattle.card_state.specs.Soundness.{AreContents, IsSound, IsSoundFile}
use Rattle.card_state.specs.StateLaws.{file_with_number}
use Rattle.file_model.specs.declared.descriptors.Descriptor.{Descriptor}
use Rattle.file_model.specs.Files.{descriptor_in, descriptors_in}
use Rattle.apdu_form.specs.Fields.{has_no_parameters, has_data}
use Rattle.file_model.specs.Outcomes.{is_deactivated, last_of}
use Rattle.file_model.proofs.HasSameAttributesLemmas.{numbers_ascend}
use Rattle.file_model.specs.declared.asked.NewFile.{NewFile}
use Rattle.file_model.specs.declared.asked.NewFile.TheVariants.{Df, Ef}
use Rattle.file_model.specs.Creating.{is_there, file_made, place_for, made_in, creating, created}
use Rattle.file_model.specs.Deleting.{is_in_use, deleting, deleted}
use Rattle.file_model.specs.OneFile.{OthersStay, IsSmallestFree, IsAsAsked, IsBlank, MakesOneFile, CreatesOneFile, IsNamed, TakesOneFile, DeletesOneFile, FitsOneFile, ResizesOneFile}
use Rattle.file_model.specs.TreeOutcomes.{TreeOutcome, df_on, child_named}
use Rattle.file_model.specs.Resizing.{size_asked, may_have, refitted, contents_refitted, has_no_room, file_resized, resizing, resized}
use Rattle.file_model.specs.Rooms.{room_at, free_number}
use Rattle.file_model.specs.Templates.{template, asked_in, may_be_made}
use Rattle.file_model.proofs.FileMadeLemmas.{new_number, blank}
use Rattle.file_model.proofs.IsLawfulTreeCommandLemmas.{unless_so, given_so, number_made}
use Rattle.file_model.proofs.ChildNamedLemmas.{IsChild, child_there}
use Rattle.file_model.proofs.FileFoundLemmas.{others_stay, this_is}
use Rattle.file_model.proofs.TemplatesLemmas.{parts_of, asked_found}
use Rattle.file_model.proofs.FileResizedLemmas.{length-refitted}

-- ---- the others

pub others_are : (state : Persistent) (number : ℕ) (file : Option File) → IfSome file (λ f. f.number ≡ number) → OthersStay number state (with_file_at state number file)
others_are state number file named = record { files = λ other apart. others_stay number file named state.files other apart; wide = refl; pins = refl; rows = refl; next = refl }

-- ---- how many files there are

abbrev below : ℕ → List File → List File
below number files = filter (λ f. nat_lt f.number number) files

abbrev above : ℕ → List File → List File
above number files = filter (λ f. nat_lt number f.number) files

abbrev both : ℕ → List File → ℕ
both number files = length (below number files) + length (above number files)

lower : (number : ℕ) (file : File) (files : List File) → file.number < number → both number (file ∷ files) ≡ both number files + 1
lower number file files less =
    let is : nat_lt file.number number ≡ true = grind (arith, nat_tests) in
    let not : nat_lt number file.number ≡ false = grind (arith, nat_tests) in
    let first : length (below number (file ∷ files)) ≡ suc (length (below number files)) = ap (λ (b : Bool). length (cond b (file ∷ below number files) (below number files))) is in
    let second : length (above number (file ∷ files)) ≡ length (above number files) = ap (λ (b : Bool). length (cond b (file ∷ above number files) (above number files))) not in
    omega (arith, first, second)

higher : (number : ℕ) (file : File) (files : List File) → number < file.number → both number (file ∷ files) ≡ both number files + 1
higher number file files more =
    let not : nat_lt file.number number ≡ false = grind (arith, nat_tests) in
    let is : nat_lt number file.number ≡ true = grind (arith, nat_tests) in
    let first : length (below number (file ∷ files)) ≡ length (below number files) = ap (λ (b : Bool). length (cond b (file ∷ below number files) (below number files))) not in
    let second : length (above number (file ∷ files)) ≡ suc (length (above number files)) = ap (λ (b : Bool). length (cond b (file ∷ above number files) (above number files))) is in
    omega (arith, first, second)

same : (number : ℕ) (file : File) (files : List File) → file.number ≡ number → both number (file ∷ files) ≡ both number files
same number file files is =
    let not_low : nat_lt file.number number ≡ false = grind (arith, nat_tests) in
    let not_high : nat_lt number file.number ≡ false = grind (arith, nat_tests) in
    let first : length (below number (file ∷ files)) ≡ length (below number files) = ap (λ (b : Bool). length (cond b (file ∷ below number files) (below number files))) not_low in
    let second : length (above number (file ∷ files)) ≡ length (above number files) = ap (λ (b : Bool). length (cond b (file ∷ above number files) (above number files))) not_high in
    omega (arith, first, second)

all_of_others : (number : ℕ) (files : List File) → All (λ f. f.number ≢ number) files → both number files ≡ length files
all_of_others number [] others = refl
all_of_others number (file ∷ files) others =
    let rest : both number files ≡ length files = all_of_others number files (λ k d low. others (suc k) d (omega (arith, low))) in
    ⊎_elim {C = both number (file ∷ files) ≡ length (file ∷ files)} (λ is. absurd (others 0 file (omega arith) is))
    (λ order. ⊎_elim {C = both number (file ∷ files) ≡ length (file ∷ files)} (λ less. omega (arith, lower number file files less, rest)) (λ more. omega (arith, higher number file files more, rest)) order)
    (cases_order file.number number)

all_but_one : (number : ℕ) (files : List File) (it : File) → AllPairs (λ a b. a.number < b.number) files → Contains files it → it.number ≡ number → both number files + 1 ≡ length files
all_but_one number [] it ascend there is = absurd (omega (arith, there.1))
all_but_one number (file ∷ files) it ascend (zero, low, at) is =
    let here : file.number ≡ number = ap (λ (f : File). f.number) at ∙ is in
    let others : All (λ f. f.number ≢ number) files = λ k d less same. omega (arith, pairs_head (λ a b. a.number < b.number) file files ascend k d less, here, same) in
    omega (arith, same number file files here, all_of_others number files others)
all_but_one number (file ∷ files) it ascend (suc k, low, at) is =
    let rest : Contains files it = (k, omega (arith, low), at) in
    let less : file.number < it.number = subst (λ (f : File). file.number < f.number) at (pairs_head (λ a b. a.number < b.number) file files ascend k it (omega (arith, low))) in
    omega (arith, lower number file files (omega (arith, less, is)), all_but_one number files it (pairs_tail (λ a b. a.number < b.number) file files ascend) rest is)

placed_long : (number : ℕ) (file : Option File) (files : List File) → length (placed (λ f. f.number) number file files) ≡ both number files + length (listed file)
placed_long number file files =
    omega (arith, length-append (below number files ++ listed file) (above number files), length-append (below number files) (listed file))

-- ---- CREATE FILE

-- the number that is found among some that ascend is the first of them that passes
first_found : (p : ℕ → Bool) (from count number : ℕ) → find p (range_with_len from count) ≡ Some number → (other : ℕ) → from ≤ other → other < number → p other ≡ false
first_found p from zero number is other low less = absurd (cc)
first_found p from (suc count) number is other low less =
    by_test (p from) refl is (λ found apart. first_found p (from + 1) count number found other (omega (arith, apart, low)) less)
  where
    by_test : (b : Bool) → p from ≡ b → cond b (Some from) (find p (range_with_len (from + 1) count)) ≡ Some number
        → (find p (range_with_len (from + 1) count) ≡ Some number → other ≢ from → p other ≡ false) → p other ≡ false
    by_test true passes found later = absurd (let here : from ≡ number = same_Some from number found in omega (arith, here, low, less))
    by_test false fails found later = ⊎_elim {C = p other ≡ false} (λ here. ap p here ∙ fails) (λ apart. later found apart) (cases_eq other from)

some_of : {X : Type 0} (o : Option X) → is_none o ≡ false → is_some o ≡ true
some_of None is = absurd (cc)
some_of (Some x) is = refl

smallest_free : (state : Persistent) (df number : ℕ) → free_number state df ≡ Some number → IsSmallestFree state df number
unfolding free_number
smallest_free state df number is =
    let free : ℕ → Bool = λ n. is_none (file_with_number state n) in
    let found = find_Some free (range_with_len (df + 1) (128 - (df + 1))) number is in
    record {
      greater = (new_number state df number is).above;
      free = none_of (file_with_number state number) found.1;
      smallest = λ other low less. some_of (file_with_number state other) (first_found free (df + 1) (128 - (df + 1)) number is other (omega (arith, low)) less);
    }

made_as_asked : (number df place : ℕ) (asked : NewFile) → IsAsAsked asked (file_made number df place asked)
made_as_asked number df place (Df id) = (refl, refl)
made_as_asked number df place (Ef id shape short rule) = (refl, refl, refl, refl, refl, refl)

all_blank : (shape : Shape) → IsBlank (blank_contents shape)
all_blank (Transparent size) = All-replicate (λ (byte : ℕ). byte ≡ 0xFF) size 0xFF refl
all_blank (Linear width count) = All-replicate (All (λ (byte : ℕ). byte ≡ 0xFF)) count (replicate width 0xFF) (All-replicate (λ (byte : ℕ). byte ≡ 0xFF) width 0xFF refl)
all_blank (Cyclic width count) = All-replicate (All (λ (byte : ℕ). byte ≡ 0xFF)) count (replicate width 0xFF) (All-replicate (λ (byte : ℕ). byte ≡ 0xFF) width 0xFF refl)

made_blank : (number df place : ℕ) (asked : NewFile) → IsBlank (file_made number df place asked).contents
made_blank number df place (Df id) = tt
made_blank number df place (Ef id shape short rule) = all_blank shape

made_whole : (number df place : ℕ) (asked : NewFile) → may_be_made asked ≡ true → (let file = file_made number df place asked in AreContents file.kind file.size file.contents)
made_whole number df place (Df id) may = refl
made_whole number df place (Ef id shape short rule) may = blank shape (parts_of id shape short rule may).second

parent_made : (number df place : ℕ) (asked : NewFile) → (file_made number df place asked).parent ≡ df
parent_made number df place (Df id) = refl
parent_made number df place (Ef id shape short rule) = refl

makes_one : (state : Persistent) (df number place : ℕ) (bytes : List ℕ) (asked : NewFile) → may_be_made asked ≡ true → bytes ≡ template asked → free_number state df ≡ Some number
    → (let file = file_made number df place asked in MakesOneFile state df bytes (with_file_at state file.number (Some file)))
makes_one state df number place bytes asked may told free =
    let file : File = file_made number df place asked in
    let is : file.number ≡ number = number_made number df place asked in
    let others : All (λ f. f.number ≢ file.number) state.files = subst (λ (n : ℕ). All (λ (f : File). f.number ≢ n) state.files) (sym is) (new_number state df number free).others in
    record {
      asked = asked;
      told = told;
      file = file;
      number = subst (IsSmallestFree state df) (sym is) (smallest_free state df number free);
      in_df = parent_made number df place asked;
      as_asked = made_as_asked number df place asked;
      whole = made_whole number df place asked may;
      blank = made_blank number df place asked;
      there = this_is file.number (Some file) refl state.files;
      one_more = omega (arith, placed_long file.number (Some file) state.files, all_of_others file.number state.files others);
      others = others_are state file.number (Some file) refl;
    }

pub creates_one : CreatesOneFile
unfolding created creating
creates_one state seen channels channel apdu =
    let df : ℕ = df_on channels channel in
    let P : TreeOutcome → Type 0 = λ outcome. MakesOneFile state df apdu.body (last_of state outcome.passed) in
    let R : StatusWord → Type 0 = λ _. ⊤ in
    unless_so P R (not (has_no_parameters apdu)) _ _ tt (λ _.
    unless_so P R (not (has_data apdu)) _ _ tt (λ _.
    unless_so P R (not seen.adm1) _ _ tt (λ _.
    given_so P R (asked_in apdu.body) _ _ tt (λ asked read.
    unless_so P R (is_there (descriptors_in state) df asked) _ _ tt (λ _.
    given_so P R (made_in state df asked) _ _ tt (λ file made.
    let known = asked_found apdu.body asked read in
    option_and_then_some (λ place. option_map (λ number. file_made number df place asked) (free_number state df)) (place_for state asked) file made
    (λ place found with_number.
    let numbered = mapped_Some (λ number. file_made number df place asked) (free_number state df) file with_number in
    subst (λ (f : File). MakesOneFile state df apdu.body (with_file_at state f.number (Some f))) numbered.2
    (makes_one state df numbered.0 place apdu.body asked known.0 known.1 numbered.1))))))))

-- ---- a file that is there

named : (state : Persistent) (df : ℕ) (bytes : List ℕ) (file : File) → IsSound state → IsChild state df (number_at bytes 0) file → IsNamed state df (number_at bytes 0) file
named state df bytes file sound child =
    record { there = numbered_found (λ (f : File). f.number) state.files file (numbers_ascend state sound) child.there; in_df = child.of_it; has_id = child.named }

number_told : (file : File) (told : Descriptor) → descriptor_in file ≡ told → file.number ≡ told.number
unfolding descriptor_in
number_told file told is = ap (λ (t : Descriptor). t.number) is

-- ---- DELETE FILE

takes_one : (state : Persistent) (df : ℕ) (bytes : List ℕ) (file : File) → IsSound state → IsChild state df (number_at bytes 0) file → TakesOneFile state df (number_at bytes 0) (with_file_at state file.number None)
takes_one state df bytes file sound child = record {
  file = file;
  named = named state df bytes file sound child;
  gone = this_is file.number None tt state.files;
  one_less = omega (arith, placed_long file.number None state.files, all_but_one file.number state.files file (numbers_ascend state sound) child.there refl);
  others = others_are state file.number None tt;
}

pub deletes_one : DeletesOneFile
unfolding deleted deleting
deletes_one state seen channels channel apdu sound =
    let df : ℕ = df_on channels channel in
    let P : TreeOutcome → Type 0 = λ outcome. TakesOneFile state df (number_at apdu.body 0) (last_of state outcome.passed) in
    let R : StatusWord → Type 0 = λ _. ⊤ in
    unless_so P R (not (has_no_parameters apdu)) _ _ tt (λ _.
    unless_so P R (not (length apdu.body == 2)) _ _ tt (λ _.
    given_so P R (child_named (descriptors_in state) df apdu.body) _ _ tt (λ told is.
    unless_so P R (not seen.adm1) _ _ tt (λ _.
    unless_so P R (is_in_use (descriptors_in state) channels told) _ _ tt (λ _.
    let child = child_there state df apdu.body told is in
    subst (λ (n : ℕ). TakesOneFile state df (number_at apdu.body 0) (with_file_at state n None)) (number_told child.0 told child.2) (takes_one state df apdu.body child.0 sound child.1))))))

-- ---- RESIZE FILE

-- the bytes of a transparent file
record HasHeld (size : ℕ) (contents : Contents) : Type 0 where
  held : List ℕ
  holds : contents ≡ Bytes held
  long : length held ≡ size

held_in : (kind size : ℕ) (contents : Contents) → kind ≡ transparent_kind → AreContents kind size contents → HasHeld size contents
held_in kind size Files is are = absurd (omega (arith, is, are))
held_in kind size (Bytes held) is are = record { held = held; holds = refl; long = are.1 }
held_in kind size (Records records) is are = absurd (let none : has_records transparent_kind ≡ true = subst (λ (k : ℕ). IsTrue (has_records k)) is are.0 in cc)

first_kept : (size k : ℕ) (held : List ℕ) → k < size → k < length held → get_or (refitted size held) k 0 ≡ get_or held k 0
first_kept size k held low inside =
    get_or_append_left (take size held) (replicate (size - length held) 0xFF) 0 k (omega (arith, length-take size held)) ∙ get_or-take size held k 0 low

rest_blank : (size k : ℕ) (held : List ℕ) → k < size → length held ≤ k → get_or (refitted size held) k 0 ≡ 0xFF
rest_blank size k held low behind =
    get_or-append_right (take size held) (replicate (size - length held) 0xFF) (length held) k 0 (omega (arith, length-take size held)) behind
    ∙ get_or-replicate (size - length held) (k - length held) 0xFF 0 (omega arith)

module _ (state : Persistent) (df size : ℕ) (bytes : List ℕ) (file : File) (sound : IsSound state) (child : IsChild state df (number_at bytes 0) file) (kind : file.kind ≡ transparent_kind) where
  abbrev resized_so : File
  resized_so = file_resized (room_at state size) size file

  abbrev next_if : Option File → Persistent
  next_if found = with_file_at state file.number (option_map (file_resized (room_at state size) size) found)

  abbrev Fits : Bool → Type 0
  Fits same_size = FitsOneFile state df (number_at bytes 0) size (last_of state (cond same_size [] (next_if (file_with_number state file.number) ∷ [])))

  it : HasHeld file.size file.contents
  it = held_in file.kind file.size file.contents kind (All-contains (IsSoundFile state.is_wide state.files) state.files file sound.files child.there).contents

  is_named : IsNamed state df (number_at bytes 0) file
  is_named = named state df bytes file sound child

  stays : file.size ≡ size → Fits true
  stays is = record {
    file = file;
    named = is_named;
    held = it.held;
    holds = it.holds;
    place = file.place;
    bytes = it.held;
    there = is_named.there ∙ (λ i. Some (record file { size = is i; contents = it.holds i }));
    long = it.long ∙ is;
    kept = λ k low inside. refl;
    blank = λ k low behind. absurd (omega (arith, it.long, is, low, behind));
    others = record { files = λ other apart. refl; wide = refl; pins = refl; rows = refl; next = refl };
  }

  changes : Fits false
  changes = record {
    file = file;
    named = is_named;
    held = it.held;
    holds = it.holds;
    place = resized_so.place;
    bytes = refitted size it.held;
    there = subst (λ (o : Option File). file_with_number (next_if o) file.number ≡ Some (record file { place = resized_so.place; size = size; contents = Bytes (refitted size it.held) })) (sym is_named.there)
        (this_is file.number (Some resized_so) refl state.files ∙ (λ i. Some (record file { place = resized_so.place; size = size; contents = contents_refitted size (it.holds i) })));
    long = length-refitted size it.held;
    kept = λ k low inside. first_kept size k it.held low inside;
    blank = λ k low behind. rest_blank size k it.held low behind;
    others = subst (λ (o : Option File). OthersStay file.number state (next_if o)) (sym is_named.there) (others_are state file.number (Some resized_so) refl);
  }

  fits_one : Fits (file.size == size)
  fits_one = ⊎_elim {C = Fits (file.size == size)} (λ is. subst Fits (sym is) (stays (eqb-true file.size size is))) (λ is. subst Fits (sym is) changes) (cases_Bool (file.size == size))

pub resizes_one : ResizesOneFile
unfolding resized resizing descriptor_in
resizes_one state seen channels channel apdu sound =
    let df : ℕ = df_on channels channel in
    let size : ℕ = size_asked apdu in
    let P : TreeOutcome → Type 0 = λ outcome. FitsOneFile state df (number_at apdu.body 0) size (last_of state outcome.passed) in
    let R : StatusWord → Type 0 = λ _. ⊤ in
    unless_so P R (not (has_no_parameters apdu)) _ _ tt (λ _.
    unless_so P R (not (length apdu.body == 4)) _ _ tt (λ _.
    given_so P R (child_named (descriptors_in state) df apdu.body) _ _ tt (λ told is.
    unless_so P R (not (told.kind == transparent_kind)) _ _ tt (λ kind.
    unless_so P R (is_deactivated told) _ _ tt (λ _.
    unless_so P R (not seen.adm1) _ _ tt (λ _.
    unless_so P R (not (may_have size)) _ _ tt (λ _.
    unless_so P R (has_no_room state size told) _ _ tt (λ _.
    let child = child_there state df apdu.body told is in
    let transparent : child.0.kind ≡ transparent_kind = ap (λ (d : Descriptor). d.kind) child.2 ∙ eqb-true told.kind transparent_kind (not-false (told.kind == transparent_kind) kind) in
    subst (λ (d : Descriptor). FitsOneFile state df (number_at apdu.body 0) size (last_of state (resizing state channels size d).passed)) child.2
    (fits_one state df size apdu.body child.0 sound child.1 transparent)))))))))
