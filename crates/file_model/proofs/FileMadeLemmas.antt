-- A file that is made has room among the others.
use Rattle.std.proofs.Common.{get_or, ◌≡◌, ℕ, ◌+◌, ◌*◌, ◌≤◌, ◌<◌, true, false, List, replicate, Option, Some, None, length, refl, sym, ◌∙◌, ap, subst, ⊎_elim, inl, inr, arith, ◌≢◌, ◌⊎◌, ◌-◌, ◌==◌, ◌&&◌, not, nat_le, find, is_some, is_none, All, Contains, IsTrue, IsSomeAnd, option_map}
use Rattle.std.specs.List.{range_with_len}
use Rattle.std.proofs.lemmas.Bool.{and_parts, and_from, or_parts, both_ways, not-true, eqb-true, eqb-false, eq-eqb, leb-true, ne_eqb, cases_eq, not_from_false}
use Rattle.std.proofs.lemmas.Option.{option_and_then_some}
use Rattle.std.proofs.lemmas.List.{length-replicate}
use Rattle.std.proofs.lemmas.List.Elements.{All-replicate, Contains-get_or}
use Rattle.std.proofs.lemmas.List.FromFn.{length-range_with_len, get_or-range_with_len}
use Rattle.list_laws.proofs.CondLemmas.{mapped_Some, second_false}
use Rattle.list_laws.proofs.FindLemmas.{find-map, find_Some}
use Rattle.list_laws.proofs.IfSomeLemmas.{none_of}
use Rattle.uicc_types.specs.declared.identifiers.FileId.{FileId}
use Rattle.card_state.specs.declared.shapes.Shape.{Shape}
use Rattle.card_state.specs.declared.shapes.Shape.TheVariants.{Transparent, Linear, Cyclic}
use Rattle.card_state.specs.Checks.{is_free_id}
use Rattle.card_state.specs.Kinds.{df_kind, is_ef_kind, mf_id, current_adf_id}
use Rattle.card_state.specs.Persistent.{File, Persistent}
use Rattle.card_state.specs.Sections.{kind_of, size_of, is_shape, blank_contents}
use Rattle.card_state.specs.Soundness.{mf, IsDf, IsEf, AreRecords, AreContents, IsInTree, IsSoundFile, IsSound}
use Rattle.card_state.specs.StateLaws.{file_with_number}
use Rattle.card_state.proofs.NewFileLemmas.{some_bytes, is_ef_shape}
use Rattle.card_state.specs.Fitting.{FitsAmong}
use Rattle.file_model.specs.declared.descriptors.Descriptor.{Descriptor}
use Rattle.file_model.specs.declared.descriptors.Wanted.{Wanted}
use Rattle.file_model.specs.declared.descriptors.Wanted.TheVariants.{Number, Child, Short}
use Rattle.file_model.specs.Files.{descriptor_in, descriptors_in, is_df, is_wanted, file_found}
use Rattle.file_model.specs.declared.asked.NewFile.{NewFile}
use Rattle.file_model.specs.declared.asked.NewFile.TheVariants.{Df, Ef}
use Rattle.file_model.specs.Creating.{has_id, has_short, is_there, file_made, place_for, made_in}
use Rattle.file_model.specs.Rooms.{IsRoom, IsSmallestRoom, free_number}
use Rattle.file_model.specs.Templates.{may_be_made}
use Rattle.file_model.proofs.RoomsLemmas.{le_or_lt, rooms_are_smallest}
use Rattle.file_model.proofs.TemplatesLemmas.{parts_of}
use Rattle.file_model.proofs.IsNodeInTheWayLemmas.{none_found}

-- ---- the number

within : (from count n : ℕ) → Contains (range_with_len from count) n → (from ≤ n) × (n < from + count)
within from count n there =
    let low : there.0 < count = omega (arith, there.1, length-range_with_len from count) in
    let is : from + there.0 ≡ n = sym (get_or-range_with_len from count there.0 n low) ∙ there.2 in
    (omega arith, omega arith)

pub record IsNewNumber (state : Persistent) (df number : ℕ) : Type 0 where
  pub above : df < number
  pub low : number < 128
  pub others : All (λ file. file.number ≢ number) state.files

pub new_number : (state : Persistent) (df number : ℕ) → free_number state df ≡ Some number → IsNewNumber state df number
unfolding free_number
new_number state df number is =
    let found = find_Some (λ (n : ℕ). is_none (file_with_number state n)) (range_with_len (df + 1) (128 - (df + 1))) number is in
    let range = within (df + 1) (128 - (df + 1)) number found.0 in
    let none : file_with_number state number ≡ None = none_of (file_with_number state number) found.1 in
    record {
      above = omega (arith, range.0);
      low = omega (arith, range.0, range.1);
      others = λ k d less. eqb-false (get_or state.files k d).number number (none_found (λ (f : File). f.number == number) state.files (get_or state.files k d) none (Contains-get_or state.files k d less));
    }

-- ---- the other files of the DF

no_such : (state : Persistent) (wanted : Wanted) → is_some (file_found (descriptors_in state) wanted) ≡ false → All (λ file. is_wanted wanted (descriptor_in file) ≡ false) state.files
unfolding file_found descriptors_in
no_such state wanted none k d low =
    none_found (λ (f : File). is_wanted wanted (descriptor_in f)) state.files (get_or state.files k d) (unmapped (find (λ f. is_wanted wanted (descriptor_in f)) state.files)
    (ap is_some (sym (find-map (is_wanted wanted) descriptor_in state.files)) ∙ none)) (Contains-get_or state.files k d low)
  where
    unmapped : (o : Option File) → is_some (option_map descriptor_in o) ≡ false → o ≡ None
    unmapped None is = refl
    unmapped (Some file) is = cc

-- a file in the DF, other than the MF, with this identifier would be found
other_id : (df id : ℕ) (file : File) → is_wanted (Child df (record { 0 = id })) (descriptor_in file) ≡ false → file.number ≢ 0 → file.parent ≡ df → file.id ≢ id
unfolding descriptor_in
other_id df id file fails not_mf of_it same =
    both_ways (file.parent == df && not (file.number == 0) && file.id == id) fails
    (and_from (file.parent == df && not (file.number == 0)) (file.id == id)
    (and_from (file.parent == df) (not (file.number == 0)) (eq-eqb file.parent df of_it) (not_from_false (file.number == 0) (ne_eqb file.number 0 not_mf)))
    (eq-eqb file.id id same))

other_short : (df short : ℕ) (file : File) → is_wanted (Short df short) (descriptor_in file) ≡ false → IsEf file → file.number ≢ 0 → file.parent ≡ df → file.short ≢ short
unfolding descriptor_in
other_short df short file fails ef not_mf of_it same =
    both_ways (file.parent == df && not (file.number == 0) && is_ef_kind file.kind && file.short == short) fails
    (and_from (file.parent == df && not (file.number == 0) && is_ef_kind file.kind) (file.short == short)
    (and_from (file.parent == df && not (file.number == 0)) (is_ef_kind file.kind)
    (and_from (file.parent == df) (not (file.number == 0)) (eq-eqb file.parent df of_it) (not_from_false (file.number == 0) (ne_eqb file.number 0 not_mf)))
    ef)
    (eq-eqb file.short short same))

-- the MF alone has number 0
pub is_mf : (state : Persistent) (file : File) → IsSoundFile state.is_wide state.files file → file.number ≡ 0 → file ≡ mf
is_mf state file sound first = ⊎_elim {C = file ≡ mf} (λ is. is) (λ tree. absurd (omega (arith, tree.above))) sound.tree

-- an identifier that a file other than the MF may have
free_id : (id : ℕ) → is_free_id id ≡ true → (id ≢ mf_id) × (id ≢ current_adf_id)
free_id id is =
    let parts = and_parts (not (id == mf_id)) (not (id == current_adf_id)) is in
    (eqb-false id mf_id (not-true (id == mf_id) parts.0), eqb-false id current_adf_id (not-true (id == current_adf_id) parts.1))

id_apart : (state : Persistent) (df id : ℕ) → IsSound state → is_free_id id ≡ true → has_id (descriptors_in state) df id ≡ false → All (λ file. file.parent ≡ df → file.id ≢ id) state.files
id_apart state df id sound free none k d low of_it =
    let file : File = get_or state.files k d in
    ⊎_elim {C = file.id ≢ id}
    (λ first. λ same. (free_id id free).0 (sym same ∙ ap (λ (f : File). f.id) (is_mf state file (sound.files k d low) first)))
    (λ other. other_id df id file (no_such state (Child df (record { 0 = id })) none k d low) other of_it)
    (cases_eq file.number 0)

-- ---- the DF

pub record HasDf (state : Persistent) (df : ℕ) : Type 0 where
  pub file : File
  pub there : Contains state.files file
  pub is_df : IsDf file
  pub named : file.number ≡ df

has_df : (state : Persistent) (df : ℕ) → IsSomeAnd (file_found (descriptors_in state) (Number df)) (λ it. IsTrue (is_df it)) → HasDf state df
unfolding file_found descriptors_in descriptor_in
has_df state df some = of_found (find (λ f. is_wanted (Number df) (descriptor_in f)) state.files) refl
    (subst (λ (o : Option Descriptor). IsSomeAnd o (λ it. IsTrue (is_df it))) (find-map (is_wanted (Number df)) descriptor_in state.files) some)
  where
    of_found : (o : Option File) → find (λ f. is_wanted (Number df) (descriptor_in f)) state.files ≡ o → IsSomeAnd (option_map descriptor_in o) (λ it. IsTrue (is_df it)) → HasDf state df
    of_found None is holds = absurd holds
    of_found (Some file) is holds =
        let found = find_Some (λ (f : File). is_wanted (Number df) (descriptor_in f)) state.files file is in
        record { file = file; there = found.0; is_df = eqb-true file.kind df_kind holds; named = eqb-true file.number df found.1 }

in_tree : (state : Persistent) (df : ℕ) (file : File) → HasDf state df → is_free_id file.id ≡ true → file.parent ≡ df → df < file.number → IsInTree state.files file
in_tree state df file has free of_it above = record {
  id = free_id file.id free;
  parent = has.file;
  there = has.there;
  df = has.is_df;
  of_it = has.named ∙ sym of_it;
  above = omega (arith, of_it, above);
}

-- ---- what an EF holds

no_df_shape : (shape : Shape) → kind_of shape ≢ df_kind
no_df_shape (Transparent size) is = omega (arith, is)
no_df_shape (Linear width count) is = omega (arith, is)
no_df_shape (Cyclic width count) is = omega (arith, is)

pub record FewRecords (width count : ℕ) : Type 0 where
  pub width_some : 1 ≤ width
  pub count_some : 1 ≤ count
  pub few : count ≤ 254

pub few_records : (width count : ℕ) → (nat_le 1 width && nat_le 1 count && nat_le count 254) ≡ true → FewRecords width count
few_records width count is =
    let parts = and_parts (nat_le 1 width && nat_le 1 count) (nat_le count 254) is in
    let both = and_parts (nat_le 1 width) (nat_le 1 count) parts.0 in
    record { width_some = leb-true 1 width both.0; count_some = leb-true 1 count both.1; few = leb-true count 254 parts.1 }

blank_records : (width count : ℕ) → FewRecords width count → AreRecords (width * count) (replicate count (replicate width 0xFF))
blank_records width count few = record {
  width = width;
  some_bytes = few.width_some;
  whole = All-replicate (λ (bytes : List ℕ). length bytes ≡ width) count (replicate width 0xFF) (length-replicate width 0xFF);
  few = omega (arith, few.few, length-replicate {A = List ℕ} count (replicate width 0xFF));
  fill = ap (λ (n : ℕ). n * width) (length-replicate count (replicate width 0xFF)) ∙ (let turned : count * width ≡ width * count = grind arith in turned);
}

pub blank : (shape : Shape) → is_shape shape ≡ true → AreContents (kind_of shape) (size_of shape) (blank_contents shape)
blank (Transparent size) is = (refl, length-replicate size 0xFF)
blank (Linear width count) is = (refl, blank_records width count (few_records width count is))
blank (Cyclic width count) is = (refl, blank_records width count (few_records width count is))

-- ---- its bytes

has_bytes : (state : Persistent) (file : File) → IsSoundFile state.is_wide state.files file → IsEf file → 1 ≤ file.size
has_bytes state file sound ef = (sound.ef ef).some

pub apart : (place size : ℕ) (file : File) → 1 ≤ size → 1 ≤ file.size → ((byte : ℕ) → place ≤ byte → byte < place + size → file.place ≤ byte → byte < file.place + file.size → ⊥)
    → (file.place + file.size ≤ place) ⊎ (place + size ≤ file.place)
apart place size file some other free = ⊎_elim {C = (file.place + file.size ≤ place) ⊎ (place + size ≤ file.place)}
    (λ first. ⊎_elim {C = (file.place + file.size ≤ place) ⊎ (place + size ≤ file.place)} inr (λ inside. absurd (free file.place first inside (omega arith) (omega arith))) (le_or_lt (place + size) file.place))
    (λ later. ⊎_elim {C = (file.place + file.size ≤ place) ⊎ (place + size ≤ file.place)} inl (λ inside. absurd (free place (omega arith) (omega arith) (omega (arith, later)) inside)) (le_or_lt (file.place + file.size) place))
    (le_or_lt place file.place)

-- ---- together

df_fits : (state : Persistent) (df number place : ℕ) (id : FileId) → IsSound state → HasDf state df → is_free_id id.0 ≡ true → has_id (descriptors_in state) df id.0 ≡ false → IsNewNumber state df number
    → FitsAmong state (file_made number df place (Df id))
df_fits state df number place id sound has free none new = record {
  sound = record {
    kind = inl refl;
    tree = inr (in_tree state df (file_made number df place (Df id)) has free refl new.above);
    number = new.low;
    contents = refl;
    df = λ _. record { short = refl; life = refl; rule = refl; place = refl; size = refl };
    ef = λ ef. absurd (cc);
  };
  others = λ k d low other. record {
    id = id_apart state df id.0 sound free none k d low;
    short = λ a b. absurd (cc);
    bytes = λ a b. absurd (cc);
  };
  in_place = λ k d low same. absurd (new.others k d low same);
}

made_file_fits : (state : Persistent) (df number place : ℕ) (asked : NewFile) → IsSound state → HasDf state df → IsTrue (may_be_made asked) → is_there (descriptors_in state) df asked ≡ false
    → IsNewNumber state df number → place_for state asked ≡ Some place → FitsAmong state (file_made number df place asked)
made_file_fits state df number place (Df id) sound has may none new room = df_fits state df number place id sound has may none new
made_file_fits state df number place (Ef id shape short rule) sound has may none new found =
    let known = parts_of id shape short rule may in
    let there = or_parts (has_id (descriptors_in state) df id.0) (has_short (descriptors_in state) df short) none in
    let free : is_free_id id.0 ≡ true = known.first in
    let shapely : is_shape shape ≡ true = known.second in
    let room : IsRoom state (size_of shape) place = (subst (IsSmallestRoom state (size_of shape)) found (rooms_are_smallest state (size_of shape))).0 in
    let file : File = file_made number df place (Ef id shape short rule) in
    record {
      sound = record {
        kind = inr (is_ef_shape shape);
        tree = inr (in_tree state df file has free refl new.above);
        number = new.low;
        contents = blank shape shapely;
        df = λ is. absurd (no_df_shape shape is);
        ef = λ _. record { short = leb-true short 30 known.fourth; life = inr refl; from = room.from; some = some_bytes shape shapely; to = room.to };
      };
      others = λ k d low other. record {
        id = id_apart state df id.0 sound free there.0 k d low;
        short = λ ef _ of_it. short_apart (get_or state.files k d) (sound.files k d low) ef of_it there.1 k d low refl;
        bytes = λ ef _. apart place (size_of shape) (get_or state.files k d) (some_bytes shape shapely) (has_bytes state (get_or state.files k d) (sound.files k d low) ef) (room.free k d low ef);
      };
      in_place = λ k d low same. absurd (new.others k d low same);
    }
  where
    short_apart : (other : File) → IsSoundFile state.is_wide state.files other → IsEf other → other.parent ≡ df → has_short (descriptors_in state) df short ≡ false
        → (k : ℕ) (d : File) → k < length state.files → get_or state.files k d ≡ other → (other.short ≡ 0) ⊎ (other.short ≢ short)
    short_apart other sound' ef of_it none' k d low is = ⊎_elim {C = (other.short ≡ 0) ⊎ (other.short ≢ short)}
        (λ none. ⊎_elim {C = (other.short ≡ 0) ⊎ (other.short ≢ short)} inl (λ some. inr (λ same. some (same ∙ none))) (cases_eq other.short 0))
        (λ some. inr (other_short df short other (subst (λ (f : File). is_wanted (Short df short) (descriptor_in f) ≡ false) is (no_such state (Short df short) (not_found some) k d low)) ef not_mf of_it))
        (cases_eq short 0)
      where
        not_found : short ≢ 0 → is_some (file_found (descriptors_in state) (Short df short)) ≡ false
        not_found some = second_false (not (short == 0)) (is_some (file_found (descriptors_in state) (Short df short))) none' (not_from_false (short == 0) (ne_eqb short 0 some))

        not_mf : other.number ≢ 0
        not_mf first = absurd (both_ways (is_ef_kind df_kind) refl (subst (λ (f : File). IsTrue (is_ef_kind f.kind)) (is_mf state other sound' first) ef))

-- a file that may be made, in a DF in which neither its identifier nor its short file identifier is there
pub made_files_fit : (state : Persistent) (df : ℕ) (asked : NewFile) (file : File)
    → IsSound state → IsSomeAnd (file_found (descriptors_in state) (Number df)) (λ it. IsTrue (is_df it))
    → IsTrue (may_be_made asked) → is_there (descriptors_in state) df asked ≡ false → made_in state df asked ≡ Some file → FitsAmong state file
made_files_fit state df asked file sound there may none made =
    option_and_then_some (λ place. option_map (λ number. file_made number df place asked) (free_number state df)) (place_for state asked) file made
    (λ place found with_number.
    let numbered = mapped_Some (λ number. file_made number df place asked) (free_number state df) file with_number in
    subst (FitsAmong state) numbered.2 (made_file_fits state df numbered.0 place asked sound (has_df state df there) may none (new_number state df numbered.0 numbered.1) found))
