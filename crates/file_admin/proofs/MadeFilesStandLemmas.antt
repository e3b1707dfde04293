-- What the memory stands for once the bytes of a file were prepared and its entry is committed.
use Rattle.std.proofs.Common.{get_or, ◌≡◌, ℕ, ◌+◌, ◌*◌, ◌/◌, ◌≤◌, ◌<◌, Bool, true, List, [], take, drop, length, Option, Some, None, refl, sym, ◌∙◌, ap, subst, arith, ◌-◌, option_map}
use Rattle.std.proofs.lemmas.Bool.{cond-true}
use Rattle.std.proofs.lemmas.List.{length-replicate}
use Rattle.std.proofs.lemmas.Option.{option_and_then_some}
use Rattle.std.proofs.Math.Nat.{mul-div_cancel_left}
use Rattle.list_laws.proofs.CondLemmas.{mapped_Some}
use Rattle.list_laws.specs.Patches.{patched}
use Rattle.list_laws.proofs.PatchesLemmas.{patched-nil, Torn_patched, range-patched_there}
use Rattle.uicc_types.specs.declared.identifiers.FileId.{FileId}
use Rattle.card_state.specs.declared.entries.Node.{Node}
use Rattle.card_state.specs.declared.entries.Loaded.{Loaded}
use Rattle.card_state.specs.declared.shapes.Shape.{Shape}
use Rattle.card_state.specs.declared.shapes.Shape.TheVariants.{Transparent, Linear, Cyclic}
use Rattle.card_state.specs.Changing.{with_file_at}
use Rattle.card_state.specs.Decoding.{bytes_at}
use Rattle.card_state.specs.NewFiles.{ef_node}
use Rattle.card_state.specs.Persistent.{File, Persistent}
use Rattle.card_state.specs.Places.{data_place, data_end}
use Rattle.card_state.specs.Sections.{size_of, is_shape}
use Rattle.card_state.specs.Soundness.{IsSound}
use Rattle.card_state.specs.Standing.{Stands}
use Rattle.card_state.specs.States.{file_of}
use Rattle.card_state.specs.Used.{file_if}
use Rattle.card_state.proofs.NewFileLemmas.{some_bytes}
use Rattle.card_state.proofs.RowPlaceLemmas.{data_end_inside}
use Rattle.card_state.specs.Forms.{HasRightHead}
use Rattle.card_state.specs.Fitting.{FitsAmong}
use Rattle.card_state.specs.StayingSound.{FileFits}
use Rattle.file_model.specs.declared.descriptors.RuleReference.{RuleReference}
use Rattle.file_model.specs.declared.asked.NewFile.{NewFile}
use Rattle.file_model.specs.declared.asked.NewFile.TheVariants.{Df, Ef}
use Rattle.file_model.specs.Creating.{file_made, place_for, made_in}
use Rattle.file_model.specs.Rooms.{IsRoom, IsSmallestRoom, room_at, free_number}
use Rattle.file_model.specs.Templates.{may_be_made}
use Rattle.file_model.proofs.FileMadeLemmas.{apart, IsNewNumber, new_number, few_records, made_files_fit}
use Rattle.file_model.proofs.IsLawfulTreeCommandLemmas.{number_made}
use Rattle.file_model.proofs.TemplatesLemmas.{parts_of}
use Rattle.file_model.proofs.RoomsLemmas.{rooms_are_smallest}
use Rattle.layout_entries.specs.Laws.{after}
use Rattle.layout_entries.specs.Spelling.{node_part}
use Rattle.layout_laws.specs.Cards.{IsFreeRange}
use Rattle.layout_laws.specs.Changes.{with_node}
use Rattle.layout_laws.specs.Known.{StandingIsCard, StandingIsOfTable}
use Rattle.layout_laws.specs.StandingLaws.{FreeBytesDontCount, AddedFileStands}
use Rattle.layout_laws.specs.Writing.{IsWholeFile}
use Rattle.file_admin.specs.NewEntries.{pair_of, node_made, byte_count, blank_bytes}
use Rattle.file_admin.specs.WrittenFiles.{RoomsAreFree, MadeBytesAreFree, MadeFilesStand}
use Rattle.file_admin.proofs.NodeMadeLemmas.{entries_are_of_files_made}

pub rooms_are_free : RoomsAreFree
rooms_are_free state size place sound some room = record {
  from = room.from;
  to = room.to;
  beside = λ k d low ef. apart place size (get_or state.files k d) some ((sound.files k d low).ef ef).some (room.free k d low ef);
}

-- what is known of a memory that stands for a state
pub record IsKnown (table : Loaded) (state : Persistent) : Type 0 where
  pub sound : IsSound state
  pub wide : state.is_wide ≡ table.wide

pub known : StandingIsCard → StandingIsOfTable → (store_mark : ℕ) (content : List ℕ) (table : Loaded) (state : Persistent) → Stands store_mark content table state → IsKnown table state
known card of_table store_mark content table state stands =
    let is = card store_mark content table state stands in
    record { sound = subst IsSound (sym is.1) is.0.sound; wide = (of_table store_mark content table state stands).1.wide }

-- bytes prepared where there is room for them: the memory stands for the same state, and has them there
pub record IsPrepared (store_mark : ℕ) (content : List ℕ) (table : Loaded) (state : Persistent) (place : ℕ) (bytes : List ℕ) : Type 0 where
  pub stands : Stands store_mark (patched place bytes content) table state
  pub there : bytes_at (patched place bytes content) place (length bytes) ≡ bytes
  pub from : data_place ≤ place
  pub to : place + length bytes ≤ data_end table.wide

pub prepared : FreeBytesDontCount → (store_mark : ℕ) (content : List ℕ) (table : Loaded) (state : Persistent) (place : ℕ) (bytes : List ℕ) → Stands store_mark content table state → IsKnown table state
    → 1 ≤ length bytes → IsRoom state (length bytes) place → IsPrepared store_mark content table state place bytes
prepared free store_mark content table state place bytes stands is some room =
    let range : IsFreeRange table.wide state.files place (length bytes) = subst (λ (wide : Bool). IsFreeRange wide state.files place (length bytes)) is.wide (rooms_are_free state (length bytes) place is.sound some room) in
    let inside : place + length bytes ≤ length content = omega (arith, range.to, data_end_inside table.wide, stands.long) in
    record {
      stands = free store_mark content (patched place bytes content) table state place (length bytes) stands range (Torn_patched place (length bytes) bytes content refl inside);
      there = range-patched_there place bytes content inside;
      from = range.from;
      to = range.to;
    }

-- ---- a new file

head_right : (df place short : ℕ) (id : FileId) (shape : Shape) (rule : Option (FileId × ℕ)) → is_shape shape ≡ true → HasRightHead (ef_node place df id shape short rule)
head_right df place short id (Transparent size) rule is = record { cyclic = λ same. absurd (omega (arith, same)); other = λ _. refl }
head_right df place short id (Linear width count) rule is = record { cyclic = λ same. absurd (omega (arith, same)); other = λ _. refl }
head_right df place short id (Cyclic width count) rule is = record { cyclic = λ _. few; other = λ _. refl } where
  few : 0 < width * count / width
  few =
      let records = few_records width count is in
      let back : width * count / width ≡ count = mul-div_cancel_left count records.width_some in
      omega (arith, records.count_some)

made_stands : AddedFileStands → FileFits → (store_mark : ℕ) (mid : List ℕ) (table : Loaded) (state : Persistent) (df number place : ℕ) (asked : NewFile)
    → Stands store_mark mid table state → IsSound state → IsWholeFile table.wide number (node_made df place asked) → (node_made df place asked).used ≡ true → may_be_made asked ≡ true
    → bytes_at mid place (byte_count asked) ≡ blank_bytes asked → FitsAmong state (file_made number df place asked)
    → Stands store_mark (after (node_part number (node_made df place asked) 0 16) mid) (with_node table number (node_made df place asked)) (with_file_at state number (Some (file_made number df place asked)))
made_stands added fits store_mark mid table state df number place asked stands sound whole used may blank among =
    let node : Node = node_made df place asked in
    let file : File = file_made number df place asked in
    let is : file_if mid number node ≡ Some file =
    cond-true node.used (Some (file_of mid number node)) None used ∙ ap (λ (f : File). Some f) (entries_are_of_files_made mid number df place asked may blank) in
    let new_sound : IsSound (with_file_at state number (Some file)) = fits state number file sound (number_made number df place asked) among in
    subst (λ (o : Option File). Stands store_mark (after (node_part number node 0 16) mid) (with_node table number node) (with_file_at state number o)) is
    (added store_mark mid table state number node stands whole (subst (λ (o : Option File). IsSound (with_file_at state number o)) (sym is) new_sound))

-- the place of an EF that is made is a room
place_is : (state : Persistent) (df number place : ℕ) (id : FileId) (shape : Shape) (short : ℕ) (rule : Option RuleReference) → made_in state df (Ef id shape short rule) ≡ Some (file_made number df place (Ef id shape short rule))
    → IsRoom state (size_of shape) place
place_is state df number place id shape short rule made =
    let asked : NewFile = Ef id shape short rule in
    option_and_then_some (λ p. option_map (λ n. file_made n df p asked) (free_number state df)) (room_at state (size_of shape)) (file_made number df place asked) made
    (λ p found with_number.
    let numbered = mapped_Some (λ n. file_made n df p asked) (free_number state df) (file_made number df place asked) with_number in
    let same : p ≡ place = ap (λ (f : File). f.place) numbered.2 in
    subst (IsRoom state (size_of shape)) same (subst (IsSmallestRoom state (size_of shape)) found (rooms_are_smallest state (size_of shape))).0)

number_is : (state : Persistent) (df number place : ℕ) (asked : NewFile) → made_in state df asked ≡ Some (file_made number df place asked) → IsNewNumber state df number
number_is state df number place asked made =
    option_and_then_some (λ p. option_map (λ n. file_made n df p asked) (free_number state df)) (place_for state asked) (file_made number df place asked) made
    (λ p found with_number.
    let numbered = mapped_Some (λ n. file_made n df p asked) (free_number state df) (file_made number df place asked) with_number in
    let same : numbered.0 ≡ number = sym (number_made numbered.0 df p asked) ∙ ap (λ (f : File). f.number) numbered.2 ∙ number_made number df place asked in
    subst (IsNewNumber state df) same (new_number state df numbered.0 numbered.1))

pub made_bytes_are_free : MadeBytesAreFree
made_bytes_are_free state df number place (Df id) sound made some = absurd (omega arith)
made_bytes_are_free state df number place (Ef id shape short rule) sound made some = rooms_are_free state (size_of shape) place sound some (place_is state df number place id shape short rule made)

no_bytes : (content : List ℕ) (place : ℕ) → bytes_at content place 0 ≡ []
no_bytes content place = ap (λ (n : ℕ). take n (drop place content)) (let none : place + 0 - place ≡ 0 = omega arith in none)

pub made_files_stand : StandingIsCard → StandingIsOfTable → FreeBytesDontCount → AddedFileStands → FileFits → MadeFilesStand
made_files_stand card of_table free added fits store_mark content table state df number place (Df id) stands has may ranges none made =
    let is = known card of_table store_mark content table state stands in
    let new = number_is state df number place (Df id) made in
    let same : patched place [] content ≡ content = patched-nil place content in
    let mid : Stands store_mark (patched place [] content) table state = subst (λ (c : List ℕ). Stands store_mark c table state) (sym same) stands in
    made_stands added fits store_mark (patched place [] content) table state df number place (Df id) mid is.sound
    (record { low = new.low; ranges = ranges; lies = λ other. absurd (other refl); head = record { cyclic = λ same. absurd (omega (arith, same)); other = λ _. refl } })
    refl may (no_bytes (patched place [] content) place) (made_files_fit state df (Df id) (file_made number df place (Df id)) is.sound has may none made)
made_files_stand card of_table free added fits store_mark content table state df number place (Ef id shape short rule) stands has may ranges none made =
    let asked : NewFile = Ef id shape short rule in
    let is = known card of_table store_mark content table state stands in
    let new = number_is state df number place asked made in
    let room : IsRoom state (size_of shape) place = place_is state df number place id shape short rule made in
    let shapely : is_shape shape ≡ true = (parts_of id shape short rule may).second in
    let among = made_files_fit state df asked (file_made number df place asked) is.sound has may none made in
    let long : length (blank_bytes asked) ≡ size_of shape = length-replicate (size_of shape) 0xFF in
    let ready : IsPrepared store_mark content table state place (blank_bytes asked) =
    prepared free store_mark content table state place (blank_bytes asked) stands is (omega (arith, long, some_bytes shape shapely)) (subst (λ (n : ℕ). IsRoom state n place) (sym long) room) in
    made_stands added fits store_mark (patched place (blank_bytes asked) content) table state df number place asked ready.stands is.sound
    (record { low = new.low; ranges = ranges; lies = λ _. (ready.from, omega (arith, ready.to, long)); head = head_right df place short id shape (option_map pair_of rule) shapely })
    refl may (subst (λ (n : ℕ). bytes_at (patched place (blank_bytes asked) content) place n ≡ blank_bytes asked) long ready.there) among
