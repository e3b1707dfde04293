-- A file that is resized has room among the others.
use Rattle.std.proofs.Common.{get_or, ◌≡◌, ℕ, ◌+◌, ◌≤◌, ◌<◌, Bool, true, false, cond, List, replicate, take, Option, Some, None, length, refl, sym, ◌∙◌, ap, subst, ⊎_elim, inl, inr, arith, length-append, ◌≢◌, ◌⊎◌, ◌-◌, ◌&&◌, nat_lt, nat_le, is_none, All, Contains, IsTrue, unwrap_or}
use Rattle.std.proofs.lemmas.Bool.{and_parts, both_ways, leb-true, ltb-false, cases_eq, cases_Bool}
use Rattle.std.proofs.lemmas.List.{length-take, length-replicate}
use Rattle.std.proofs.lemmas.List.Elements.{All-contains}
use Rattle.list_laws.proofs.AllContainsLemmas.{beside}
use Rattle.card_state.specs.Kinds.{transparent_kind, has_records, is_ef_kind}
use Rattle.card_state.specs.Persistent.{Contents, Files, Bytes, Records, File, Persistent}
use Rattle.card_state.specs.Soundness.{mf, IsDf, IsEf, AreContents, AreApart, AreDistinct, IsInTree, IsSoundEf, IsSoundFile, IsSound}
use Rattle.card_state.specs.Fitting.{FitsAmong}
use Rattle.file_model.specs.Files.{descriptor_in}
use Rattle.file_model.specs.Resizing.{may_have, refitted, contents_refitted, has_no_room, file_resized}
use Rattle.file_model.specs.Rooms.{IsRoom, IsSmallestRoom, room_at}
use Rattle.file_model.proofs.RoomsLemmas.{rooms_are_smallest}
use Rattle.file_model.proofs.FileMadeLemmas.{apart}

pub length-refitted : (size : ℕ) (bytes : List ℕ) → length (refitted size bytes) ≡ size
length-refitted size bytes = omega (arith, length-append (take size bytes) (replicate (size - length bytes) 0xFF), length-take size bytes, length-replicate {A = ℕ} (size - length bytes) 0xFF)

contents_fit : (size old kind : ℕ) (contents : Contents) → kind ≡ transparent_kind → AreContents kind old contents → AreContents kind size (contents_refitted size contents)
contents_fit size old kind Files is are = absurd (omega (arith, is, are))
contents_fit size old kind (Bytes bytes) is are = (is, length-refitted size bytes)
contents_fit size old kind (Records records) is are = absurd (both_ways (has_records transparent_kind) refl (subst (λ (k : ℕ). IsTrue (has_records k)) is are.0))

-- where it lies afterwards: where there is room for all of its bytes, or among those that it had
pub data Lies (state : Persistent) (size place : ℕ) (file : File) : Type 0 where
  Anew : IsRoom state size place → Lies state size place file
  Within : place ≡ file.place → size ≤ file.size → Lies state size place file

lies : (state : Persistent) (size : ℕ) (file : File) → has_no_room state size (descriptor_in file) ≡ false → Lies state size (cond (nat_lt file.size size) (unwrap_or (room_at state size) file.place) file.place) file
unfolding descriptor_in
lies state size file some = ⊎_elim {C = Lies state size (cond (nat_lt file.size size) (unwrap_or (room_at state size) file.place) file.place) file}
    (λ grows. subst (λ (b : Bool). Lies state size (cond b (unwrap_or (room_at state size) file.place) file.place) file) (sym grows)
    (anew (room_at state size) (rooms_are_smallest state size) (subst (λ (b : Bool). (b && is_none (room_at state size)) ≡ false) grows some)))
    (λ stays. subst (λ (b : Bool). Lies state size (cond b (unwrap_or (room_at state size) file.place) file.place) file) (sym stays) (Within refl (ltb-false file.size size stays)))
    (cases_Bool (nat_lt file.size size))
  where
    anew : (found : Option ℕ) → IsSmallestRoom state size found → (true && is_none found) ≡ false → Lies state size (unwrap_or found file.place) file
    anew None room none = cc
    anew (Some place) room none = Anew room.0

module _ (state : Persistent) (size place : ℕ) (file : File) (sound : IsSound state) (there : Contains state.files file) (kind : file.kind ≡ transparent_kind) (some : 1 ≤ size) where
  abbrev new : File
  new = record file { place = place; size = size; contents = contents_refitted size file.contents }

  is_ef : IsEf file
  is_ef = subst (λ (k : ℕ). IsTrue (is_ef_kind k)) (sym kind) refl

  not_df : IsDf file → ⊥
  not_df is = omega (arith, is, kind)

  abbrev Beside : File → Type 0
  Beside other = ((AreDistinct other file) ⊎ (AreDistinct file other)) ⊎ (other ≡ file)

  each_beside : All Beside state.files
  each_beside = beside AreDistinct state.files file sound.distinct_files there

  within : (wide : Bool) → (old : IsSoundEf wide file) → place ≡ file.place → size ≤ file.size → IsSoundEf wide new
  within wide old same less = record { short = old.short; life = old.life; from = omega (arith, old.from, same); some = some; to = omega (arith, old.to, same, less) }

  anew : (old : IsSoundEf state.is_wide file) → IsRoom state size place → IsSoundEf state.is_wide new
  anew old room = record { short = old.short; life = old.life; from = room.from; some = some; to = room.to }

  sound_ef : (old : IsSoundEf state.is_wide file) → Lies state size place file → IsSoundEf state.is_wide new
  sound_ef old (Anew room) = anew old room
  sound_ef old (Within same less) = within state.is_wide old same less

  shrunk : (other : File) → (other.place + other.size ≤ file.place) ⊎ (file.place + file.size ≤ other.place) → place ≡ file.place → size ≤ file.size → AreApart other new
  shrunk other old same less = ⊎_elim {C = AreApart other new} (λ before. inl (omega (arith, before, same))) (λ behind. inr (omega (arith, behind, same, less))) old

  old_apart : (other : File) → IsEf other → other.number ≢ file.number → Beside other → (other.place + other.size ≤ file.place) ⊎ (file.place + file.size ≤ other.place)
  old_apart other ef differs (inl (inl first)) = first.bytes ef is_ef
  old_apart other ef differs (inl (inr second)) = ⊎_elim {C = (other.place + other.size ≤ file.place) ⊎ (file.place + file.size ≤ other.place)} inr inl (second.bytes is_ef ef)
  old_apart other ef differs (inr same) = absurd (differs (ap (λ (f : File). f.number) same))

  new_apart : Lies state size place file → (k : ℕ) (d : File) → k < length state.files → (get_or state.files k d).number ≢ file.number → IsEf (get_or state.files k d) → AreApart (get_or state.files k d) new
  new_apart (Anew room) k d low differs ef = apart place size (get_or state.files k d) some ((sound.files k d low).ef ef).some (room.free k d low ef)
  new_apart (Within same less) k d low differs ef = shrunk (get_or state.files k d) (old_apart (get_or state.files k d) ef differs (each_beside k d low)) same less

  id_differs : (other : File) → other.number ≢ file.number → Beside other → other.parent ≡ file.parent → other.id ≢ file.id
  id_differs other differs (inl (inl first)) of_one = first.id of_one
  id_differs other differs (inl (inr second)) of_one = λ same. second.id (sym of_one) (sym same)
  id_differs other differs (inr same) of_one = absurd (differs (ap (λ (f : File). f.number) same))

  short_differs : (other : File) → IsEf other → other.number ≢ file.number → Beside other → other.parent ≡ file.parent → (other.short ≡ 0) ⊎ (other.short ≢ file.short)
  short_differs other ef differs (inl (inl first)) of_one = first.short ef is_ef of_one
  short_differs other ef differs (inl (inr second)) of_one = turned (second.short is_ef ef (sym of_one)) where
    turned : (file.short ≡ 0) ⊎ (file.short ≢ other.short) → (other.short ≡ 0) ⊎ (other.short ≢ file.short)
    turned (inl none) = ⊎_elim {C = (other.short ≡ 0) ⊎ (other.short ≢ file.short)} inl (λ given. inr (λ same. given (same ∙ none))) (cases_eq other.short 0)
    turned (inr not_same) = inr (λ same. not_same (sym same))
  short_differs other ef differs (inr same) of_one = absurd (differs (ap (λ (f : File). f.number) same))

  fits : Lies state size place file → IsSoundFile state.is_wide state.files file → FitsAmong state new
  fits lie old = record {
    sound = record {
      kind = inr is_ef;
      tree = inr (tree old.tree);
      number = old.number;
      contents = contents_fit size file.size file.kind file.contents kind old.contents;
      df = λ is. absurd (not_df is);
      ef = λ _. sound_ef (old.ef is_ef) lie;
    };
    others = λ k d low differs. record {
      id = id_differs (get_or state.files k d) differs (each_beside k d low);
      short = λ ef _. short_differs (get_or state.files k d) ef differs (each_beside k d low);
      bytes = λ ef _. new_apart lie k d low differs ef;
    };
    in_place = λ k d low same df. absurd (not_df (subst IsDf (alike (get_or state.files k d) (each_beside k d low) same) df));
  } where
    tree : (file ≡ mf) ⊎ IsInTree state.files file → IsInTree state.files new
    tree (inl is) = absurd (not_df (ap (λ (f : File). f.kind) is))
    tree (inr it) = record { id = it.id; parent = it.parent; there = it.there; df = it.df; of_it = it.of_it; above = it.above }

    alike : (other : File) → Beside other → other.number ≡ file.number → other ≡ file
    alike other (inl (inl first)) same = absurd (omega (arith, first.number))
    alike other (inl (inr second)) same = absurd (omega (arith, second.number))
    alike other (inr is) same = is

-- a transparent file with another size, for which there is room if it grows
pub resized_files_fit : (state : Persistent) (size : ℕ) (file : File)
    → IsSound state → Contains state.files file → file.kind ≡ transparent_kind → IsTrue (may_have size) → has_no_room state size (descriptor_in file) ≡ false
    → FitsAmong state (file_resized (room_at state size) size file)
resized_files_fit state size file sound there kind may room =
    let some : 1 ≤ size = leb-true 1 size (and_parts (nat_le 1 size) (nat_le size 32767) may).0 in
    fits state size (cond (nat_lt file.size size) (unwrap_or (room_at state size) file.place) file.place) file sound there kind some (lies state size file room) (All-contains (IsSoundFile state.is_wide state.files) state.files file sound.files there)
