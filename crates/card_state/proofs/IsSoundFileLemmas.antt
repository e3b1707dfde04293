-- The files of a state by their numbers: what the checks tell of them is what a sound state says.
use Rattle.std.proofs.Common.{◌≡◌, ℕ, ◌+◌, ◌≤◌, ◌<◌, Bool, true, false, List, length, Option, None, refl, sym, ◌∙◌, ap, subst, ⊎_elim, inl, inr, arith, ◌≢◌, ◌==◌, ◌⊎◌, ◌||◌, not, nat_le, All, AllPairs, Contains, slice_get, slice_index}
use Rattle.std.specs.Option.{option_map_or}
use Rattle.std.specs.List.{list_any, list_all}
use Rattle.std.proofs.lemmas.Bool.{cases_Bool, cases_eq, cases_lt, and_parts, and_from, or_cases, or_left, or_right, eqb-true, eq-eqb, leb-true, le-leb, not-true, not_from_false, both_ways, false≢true}
use Rattle.std.proofs.lemmas.Bool.Decides.{nat_tests}
use Rattle.card_state.specs.declared.entries.Node.{Node}
use Rattle.card_state.specs.Kinds.{df_kind, transparent_kind, linear_kind, cyclic_kind, has_records, is_ef_kind, mf_id, activated}
use Rattle.card_state.specs.Places.{memory_size}
use Rattle.card_state.specs.Persistent.{Contents, Files, File}
use Rattle.card_state.specs.Decoding.{is_wide, node_of, node_bytes, node_at}
use Rattle.card_state.specs.States.{contents_of, ef_file, record_count}
use Rattle.card_state.specs.Soundness.{IsDf, IsEf, mf, AreContents, IsInTree, IsSoundDf, IsSoundEf, IsSoundFile, AreApart, AreDistinct}
use Rattle.card_state.specs.Checks.{is_used_df, has_id_of, has_short_of, is_apart, nodes_below}
use Rattle.card_state.specs.Forms.{IsNodeForm}
use Rattle.card_state.proofs.FilterRangeLemmas.{all_kept, kept_all, pairs_kept, kept_pairs, kept_contains, contained}
use Rattle.card_state.proofs.RangeWithLenLemmas.{none_below, below_none, all_below, below_all, got_below, past_below}
use Rattle.card_state.proofs.IsNodeLemmas.{IsMf, IsPlaced, IsPlacedEf, IsPlacedFile}
use Rattle.card_state.proofs.StateOfLemmas.{is_file, file_at, files, node_there, node_spelled, no_node_there}
use Rattle.card_state.proofs.AreNodesRightLemmas.{AreNodesRight}
use Rattle.card_state.proofs.FileOfLemmas.{ef_is_no_df, number_is, parent_is, kind_is, id_is, file_of_df, file_of_ef, short_is, place_is, size_is, file_bytes_length, HasRecords, holds_bytes, holds_records, are_records, whole_from}

-- ---- tests of two entries

id_told : (node other : Node) → has_id_of node other ≡ false → other.used ≡ true → other.parent ≡ node.parent → other.id.0 ≢ node.id.0
id_told node other none used parent id = grind (arith, nat_tests)

id_taken : (node other : Node) → (other.used ≡ true → other.parent ≡ node.parent → other.id.0 ≢ node.id.0) → has_id_of node other ≡ false
id_taken node other differs = grind (arith, nat_tests)

short_told : (node other : Node) → has_short_of node other ≡ false → other.used ≡ true → is_ef_kind other.kind ≡ true → other.parent ≡ node.parent → other.short ≢ node.short
short_told node other none used ef parent short = grind (arith, nat_tests)

short_taken : (node other : Node) → (other.used ≡ true → is_ef_kind other.kind ≡ true → other.parent ≡ node.parent → other.short ≢ node.short) → has_short_of node other ≡ false
short_taken node other differs = grind (arith, nat_tests)

apart_told : (node other : Node) → (not (is_ef_kind other.kind) || is_apart node other) ≡ true → is_ef_kind other.kind ≡ true → (other.place + other.size ≤ node.place) ⊎ (node.place + node.size ≤ other.place)
apart_told node other apart ef =
    ⊎_elim {C = (other.place + other.size ≤ node.place) ⊎ (node.place + node.size ≤ other.place)}
    (λ no_ef. absurd (both_ways (is_ef_kind other.kind) (not-true (is_ef_kind other.kind) no_ef) ef))
    (λ is.
    ⊎_elim (λ before. inr (leb-true (node.place + node.size) other.place before)) (λ behind. inl (leb-true (other.place + other.size) node.place behind))
    (or_cases (nat_le (node.place + node.size) other.place) (nat_le (other.place + other.size) node.place) is))
    (or_cases (not (is_ef_kind other.kind)) (is_apart node other) apart)

apart_taken : (node other : Node) → (is_ef_kind other.kind ≡ true → (other.place + other.size ≤ node.place) ⊎ (node.place + node.size ≤ other.place)) → (not (is_ef_kind other.kind) || is_apart node other) ≡ true
apart_taken node other apart =
    ⊎_elim {C = (not (is_ef_kind other.kind) || is_apart node other) ≡ true}
    (λ ef.
    or_right (not (is_ef_kind other.kind)) (is_apart node other)
    (⊎_elim {C = is_apart node other ≡ true}
    (λ behind. or_right (nat_le (node.place + node.size) other.place) (nat_le (other.place + other.size) node.place) (le-leb (other.place + other.size) node.place behind))
    (λ before. or_left (nat_le (node.place + node.size) other.place) (nat_le (other.place + other.size) node.place) (le-leb (node.place + node.size) other.place before)) (apart ef)))
    (λ no_ef. or_left (not (is_ef_kind other.kind)) (is_apart node other) (not_from_false (is_ef_kind other.kind) no_ef)) (cases_Bool (is_ef_kind other.kind))

-- ---- kinds

pub ef_cases : (kind : ℕ) → is_ef_kind kind ≡ true → (kind ≡ transparent_kind) ⊎ (has_records kind ≡ true)
ef_cases kind is = ⊎_elim (λ plain. inl (eqb-true kind transparent_kind plain)) inr (or_cases (kind == transparent_kind) (has_records kind) is)

pub records_are_no_bytes : (kind : ℕ) → has_records kind ≡ true → kind ≢ transparent_kind
records_are_no_bytes kind is plain = let none : false ≡ true = sym (ap has_records plain) ∙ is in false≢true none

mf_fields : (parent kind id : ℕ) → parent ≡ 0 → kind ≡ df_kind → id ≡ mf_id
    → record { number = 0; parent = parent; kind = kind; id = id; short = 0; life = activated; rule = None; place = 0; size = 0; contents = Files } ≡ mf
mf_fields parent kind id a b c =
    ap (λ (n : ℕ). record { number = 0; parent = n; kind = kind; id = id; short = 0; life = activated; rule = None; place = 0; size = 0; contents = Files }) a
    ∙ ap (λ (n : ℕ). record { number = 0; parent = 0; kind = n; id = id; short = 0; life = activated; rule = None; place = 0; size = 0; contents = Files }) b
    ∙ ap (λ (n : ℕ). record { number = 0; parent = 0; kind = df_kind; id = n; short = 0; life = activated; rule = None; place = 0; size = 0; contents = Files }) c

module _ (content : List ℕ) where
  abbrev wide : Bool
  wide = is_wide content

  abbrev node : ℕ → Node
  node number = node_at content number

  pub record AreFilesSound : Type 0 where
    pub each : All (IsSoundFile wide (files content)) (files content)
    pub mf_there : Contains (files content) mf
    pub distinct : AllPairs AreDistinct (files content)

  module _ (long : length content ≡ memory_size) (right : AreNodesRight content) where
    mf_file : file_at content 0 ≡ mf
    mf_file =
        file_of_df content 0 (node 0) right.first.kind ∙ mf_fields (node 0).parent (node 0).kind (node 0).id.0 right.first.parent right.first.kind right.first.id

    sound_mf : IsSoundFile wide (files content) mf
    sound_mf = record {
      kind = inl refl;
      tree = inl refl;
      number = omega arith;
      contents = refl;
      df = λ df. record { short = refl; life = refl; rule = refl; place = refl; size = refl };
      ef = λ ef. let none : false ≡ true = ef in absurd (false≢true none);
    }

    parent_found : (number parent : ℕ) → option_map_or is_used_df (slice_get (nodes_below content number) parent) false ≡ true → (parent < number) × (is_file content parent ≡ true) × ((node parent).kind ≡ df_kind)
    parent_found number parent is =
        ⊎_elim {C = (parent < number) × (is_file content parent ≡ true) × ((node parent).kind ≡ df_kind)}
        (λ low.
        let df : is_used_df (node parent) ≡ true = ap (λ (o : Option Node). option_map_or is_used_df o false) (sym (got_below (node_at content) number parent low)) ∙ is in
        let parts = and_parts (is_file content parent) ((node parent).kind == df_kind) df in
        (low, parts.0, eqb-true (node parent).kind df_kind parts.1))
        (λ high.
        let none : false ≡ true = ap (λ (o : Option Node). option_map_or is_used_df o false) (sym (past_below (node_at content) number parent high)) ∙ is in
        absurd (false≢true none)) (cases_lt parent number)

    in_tree : (number : ℕ) → number < 128 → IsPlaced (nodes_below content number) (node number) → IsInTree (files content) (file_at content number)
    unfolding files
    in_tree number low placed =
        let parent = (node number).parent in
        let found = parent_found number parent placed.parent in
        record {
          id = (λ is. placed.not_mf (sym (id_is content number (node number)) ∙ is), λ is. placed.not_current (sym (id_is content number (node number)) ∙ is));
          parent = file_at content parent;
          there = kept_contains (file_at content) (is_file content) 128 parent (omega (arith, found.0)) found.1;
          df = kind_is content parent (node parent) ∙ found.2;
          of_it = number_is content parent (node parent) ∙ sym (parent_is content number (node number));
          above = omega (arith, found.0, number_is content number (node number), parent_is content number (node number));
        }

    sound_contents : (number : ℕ) → IsPlacedFile wide (nodes_below content number) (node number) → AreContents (file_at content number).kind (file_at content number).size (file_at content number).contents
    sound_contents number file =
        let Holds : File → Type 0 = λ f. AreContents f.kind f.size f.contents in
        let HoldsIt : Contents → Type 0 = λ c. AreContents (node number).kind (node number).size c in
        ⊎_elim {C = Holds (file_at content number)}
        (λ df. subst Holds (sym (file_of_df content number (node number) df)) df)
        (λ is.
        let not_df = ef_is_no_df (node number).kind is in
        let ef = file.ef not_df in
        let whole = file_bytes_length wide content (node number) long ef.to in
        subst Holds (sym (file_of_ef content number (node number) not_df))
        (⊎_elim {C = HoldsIt (contents_of content (node number))} (λ plain. subst HoldsIt (sym (holds_bytes content (node number) plain)) (plain, whole))
        (λ records.
        let has = ef.records records in
        let are = are_records content (node number) whole (record { some = has.length; whole = has.whole; few = has.few }) in
        subst HoldsIt (sym (holds_records content (node number) not_df (records_are_no_bytes (node number).kind records))) (records, are))
        (ef_cases (node number).kind is)))
        file.placed.kind

    sound_df : (number : ℕ) → IsDf (file_at content number) → IsSoundDf (file_at content number)
    sound_df number is =
        subst IsSoundDf (sym (file_of_df content number (node number) (sym (kind_is content number (node number)) ∙ is)))
        (record { short = refl; life = refl; rule = refl; place = refl; size = refl })

    sound_ef : (number : ℕ) → IsPlacedFile wide (nodes_below content number) (node number) → IsEf (file_at content number) → IsSoundEf wide (file_at content number)
    sound_ef number file is =
        let not_df = ef_is_no_df (node number).kind (ap is_ef_kind (sym (kind_is content number (node number))) ∙ is) in
        let ef = file.ef not_df in
        subst (IsSoundEf wide) (sym (file_of_ef content number (node number) not_df)) (record { short = ef.short; life = ef.life; from = ef.from; some = ef.some; to = ef.to })

    sound_file : (number : ℕ) → number < 128 → is_file content number ≡ true → IsSoundFile wide (files content) (file_at content number)
    sound_file number low is =
        ⊎_elim {C = IsSoundFile wide (files content) (file_at content number)}
        (λ first. subst (λ (n : ℕ). IsSoundFile wide (files content) (file_at content n)) (sym first) (subst (IsSoundFile wide (files content)) (sym mf_file) sound_mf))
        (λ other.
        let file = right.each number low other is in
        record {
          kind = ⊎_elim (λ df. inl (kind_is content number (node number) ∙ df)) (λ ef. inr (ap is_ef_kind (kind_is content number (node number)) ∙ ef)) file.placed.kind;
          tree = inr (in_tree number low file.placed);
          number = omega (arith, number_is content number (node number));
          contents = sound_contents number file;
          df = sound_df number;
          ef = sound_ef number file;
        })
        (cases_eq number 0)

    distinct : (a b : ℕ) → a < b → b < 128 → is_file content a ≡ true → is_file content b ≡ true → AreDistinct (file_at content a) (file_at content b)
    distinct a b less high first second =
        let file = right.each b high (λ none. omega arith) second in
        let same_parent : (file_at content a).parent ≡ (file_at content b).parent → (node a).parent ≡ (node b).parent = λ is. sym (parent_is content a (node a)) ∙ is ∙ parent_is content b (node b) in
        let ef_at : (n : ℕ) → IsEf (file_at content n) → is_ef_kind (node n).kind ≡ true = λ n is. ap is_ef_kind (sym (kind_is content n (node n))) ∙ is in
        record {
          number = omega (arith, number_is content a (node a), number_is content b (node b));
          id = λ parents ids.
              id_told (node b) (node a) (below_none (node_at content) (has_id_of (node b)) b file.placed.own_id a less) first (same_parent parents)
              (sym (id_is content a (node a)) ∙ ids ∙ id_is content b (node b));
          short = λ ef also parents.
              let here = short_is content a (node a) ef in
              let there = short_is content b (node b) also in
              ⊎_elim {C = ((file_at content a).short ≡ 0) ⊎ ((file_at content a).short ≢ (file_at content b).short)}
              (λ none. ⊎_elim (λ zero_too. inl (here ∙ zero_too)) (λ some. inr (λ same. some (omega (arith, here, there, same)))) (cases_eq (node a).short 0))
              (λ some.
              inr (λ same.
              short_told (node b) (node a) (below_none (node_at content) (has_short_of (node b)) b ((file.ef (ef_is_no_df (node b).kind (ef_at b also))).own_short some) a less) first (ef_at a ef) (same_parent parents)
              (sym here ∙ same ∙ there)))
              (cases_eq (node b).short 0);
          bytes = λ ef also.
              let apart = apart_told (node b) (node a) (below_all (node_at content) (λ other. not (is_ef_kind other.kind) || is_apart (node b) other) b (file.ef (ef_is_no_df (node b).kind (ef_at b also))).apart a less) (ef_at a ef) in
              let first_place = place_is content a (node a) ef in
              let first_size = size_is content a (node a) ef in
              let second_place = place_is content b (node b) also in
              let second_size = size_is content b (node b) also in
              ⊎_elim {C = AreApart (file_at content a) (file_at content b)} (λ before. inl (omega (arith, before))) (λ behind. inr (omega (arith, behind))) apart;
        }

    pub files_sound : AreFilesSound
    unfolding files
    files_sound = record {
      each = all_kept (file_at content) (is_file content) (IsSoundFile wide (files content)) 128 sound_file;
      mf_there = subst (Contains (files content)) mf_file (kept_contains (file_at content) (is_file content) 128 0 (omega arith) right.first.used);
      distinct = pairs_kept (file_at content) (is_file content) AreDistinct 128 distinct;
    }

  module _ (long : length content ≡ memory_size) (sound : AreFilesSound) (forms : (number : ℕ) → number < 128 → IsNodeForm (node_bytes content number)) where
    each_file : (number : ℕ) → number < 128 → is_file content number ≡ true → IsSoundFile wide (files content) (file_at content number)
    unfolding files
    each_file number low is = kept_all (file_at content) (is_file content) (IsSoundFile wide (files content)) 128 sound.each number low is

    each_distinct : (a b : ℕ) → a < b → b < 128 → is_file content a ≡ true → is_file content b ≡ true → AreDistinct (file_at content a) (file_at content b)
    unfolding files
    each_distinct a b less high first second = kept_pairs (file_at content) (is_file content) AreDistinct 128 sound.distinct a b less high first second

    contained_file : (file : File) → Contains (files content) file → (number : ℕ) × (number < 128) × (is_file content number ≡ true) × (file_at content number ≡ file)
    unfolding files
    contained_file file there = contained (file_at content) (is_file content) 128 file there

    first_is_mf : IsMf (node 0)
    first_is_mf =
        let found = contained_file mf sound.mf_there in
        let number = found.0 in
        let same = found.3 in
        let first : number ≡ 0 = sym (number_is content number (node number)) ∙ ap (λ (f : File). f.number) same in
        let there : IsMf (node number) = record {
          used = found.2;
          kind = sym (kind_is content number (node number)) ∙ ap (λ (f : File). f.kind) same;
          id = sym (id_is content number (node number)) ∙ ap (λ (f : File). f.id) same;
          parent = sym (parent_is content number (node number)) ∙ ap (λ (f : File). f.parent) same;
        } in
        subst (λ (n : ℕ). IsMf (node n)) first there

    module _ (number : ℕ) (low : number < 128) (other : number ≢ 0) (is : is_file content number ≡ true) where
      abbrev file : File
      file = file_at content number

      there : IsInTree (files content) file
      there =
          ⊎_elim {C = IsInTree (files content) file} (λ first. absurd (other (sym (number_is content number (node number)) ∙ ap (λ (f : File). f.number) first)))
          (λ (tree : IsInTree (files content) file). tree) (each_file number low is).tree

      parent_there : option_map_or is_used_df (slice_get (nodes_below content number) (node number).parent) false ≡ true
      parent_there =
          let found = contained_file there.parent there.there in
          let at = found.0 in
          let same = found.3 in
          let place : at ≡ (node number).parent = sym (number_is content at (node at)) ∙ ap (λ (f : File). f.number) same ∙ there.of_it ∙ parent_is content number (node number) in
          let before : at < number = omega (arith, there.above, place, number_is content number (node number), parent_is content number (node number)) in
          let df : (node at).kind ≡ df_kind = sym (kind_is content at (node at)) ∙ ap (λ (f : File). f.kind) same ∙ there.df in
          let got : option_map_or is_used_df (slice_get (nodes_below content number) at) false ≡ true =
          ap (λ (o : Option Node). option_map_or is_used_df o false) (got_below (node_at content) number at before)
          ∙ and_from (is_file content at) ((node at).kind == df_kind) found.2 (eq-eqb (node at).kind df_kind df) in
          subst (λ (p : ℕ). option_map_or is_used_df (slice_get (nodes_below content number) p) false ≡ true) place got

      placed : IsPlaced (nodes_below content number) (node number)
      placed = record {
        kind = ⊎_elim (λ df. inl (sym (kind_is content number (node number)) ∙ df)) (λ ef. inr (ap is_ef_kind (sym (kind_is content number (node number))) ∙ ef)) (each_file number low is).kind;
        not_mf = λ id. there.id.0 (id_is content number (node number) ∙ id);
        not_current = λ id. there.id.1 (id_is content number (node number) ∙ id);
        own_id =
            none_below (node_at content) (has_id_of (node number)) number
            (λ k less.
            id_taken (node number) (node k)
            (λ used parents ids.
            (each_distinct k number less low used is).id (parent_is content k (node k) ∙ parents ∙ sym (parent_is content number (node number)))
            (id_is content k (node k) ∙ ids ∙ sym (id_is content number (node number)))));
        parent = parent_there;
      }

      module _ (ef : is_ef_kind (node number).kind ≡ true) where
        abbrev raw : Node
        raw = node_of (node_bytes content number)

        ef_file_kind : (k : ℕ) → is_ef_kind (node k).kind ≡ true → IsEf (file_at content k)
        ef_file_kind k kind = ap is_ef_kind (kind_is content k (node k)) ∙ kind

        raw_is : node number ≡ raw
        raw_is = node_there content number is

        used_byte : slice_index (node_bytes content number) 0 ≡ 1
        unfolding node_of
        used_byte = eqb-true (slice_index (node_bytes content number) 0) 1 (ap (λ (n : Node). n.used) (sym raw_is) ∙ is)

        cyclic_head : (node number).kind ≡ cyclic_kind → (node number).head < record_count (node number)
        cyclic_head kind =
            subst (λ (n : Node). n.head < record_count n) (sym raw_is) (((forms number low).head used_byte).cyclic (ap (λ (n : Node). n.kind) (sym raw_is) ∙ kind))

        other_head : ((node number).kind ≡ transparent_kind) ⊎ ((node number).kind ≡ linear_kind) → (node number).head ≡ 0
        other_head kind =
            subst (λ (n : Node). n.head ≡ 0) (sym raw_is) (((forms number low).head used_byte).other (subst (λ (n : Node). (n.kind ≡ transparent_kind) ⊎ (n.kind ≡ linear_kind)) raw_is kind))

        not_df : (node number).kind ≢ df_kind
        not_df = ef_is_no_df (node number).kind ef

        sound_ef_here : IsSoundEf wide (ef_file content number (node number))
        sound_ef_here = subst (IsSoundEf wide) (file_of_ef content number (node number) not_df) ((each_file number low is).ef (ef_file_kind number ef))

        whole_records : has_records (node number).kind ≡ true → HasRecords (node number)
        whole_records records =
            let Holds : File → Type 0 = λ f. AreContents f.kind f.size f.contents in
            let HoldsIt : Contents → Type 0 = λ c. AreContents (node number).kind (node number).size c in
            let whole = file_bytes_length wide content (node number) long sound_ef_here.to in
            let holds : HoldsIt (contents_of content (node number)) = subst Holds (file_of_ef content number (node number) not_df) (each_file number low is).contents in
            let are = subst HoldsIt (holds_records content (node number) not_df (records_are_no_bytes (node number).kind records)) holds in
            whole_from content (node number) whole sound_ef_here.some are.1

        own_short : (node number).short ≢ 0 → list_any (has_short_of (node number)) (nodes_below content number) ≡ false
        own_short some =
            none_below (node_at content) (has_short_of (node number)) number
            (λ k less.
            short_taken (node number) (node k)
            (λ used kind parents same.
            let first = short_is content k (node k) (ef_file_kind k kind) in
            let second = short_is content number (node number) (ef_file_kind number ef) in
            ⊎_elim {C = ⊥} (λ none. some (omega arith)) (λ differ. differ (first ∙ same ∙ sym second))
            ((each_distinct k number less low used is).short (ef_file_kind k kind) (ef_file_kind number ef) (parent_is content k (node k) ∙ parents ∙ sym (parent_is content number (node number))))))

        apart : list_all (λ other_node. not (is_ef_kind other_node.kind) || is_apart (node number) other_node) (nodes_below content number) ≡ true
        apart =
            all_below (node_at content) (λ other_node. not (is_ef_kind other_node.kind) || is_apart (node number) other_node) number
            (λ k less.
            apart_taken (node number) (node k)
            (λ kind.
            let used : is_file content k ≡ true =
            ⊎_elim {C = is_file content k ≡ true} (λ (there_is : is_file content k ≡ true). there_is)
            (λ free. let none : false ≡ true = ap (λ (n : Node). is_ef_kind n.kind) (sym (no_node_there content k free)) ∙ kind in absurd (false≢true none)) (cases_Bool (is_file content k)) in
            let first_place = place_is content k (node k) (ef_file_kind k kind) in
            let first_size = size_is content k (node k) (ef_file_kind k kind) in
            let second_place = place_is content number (node number) (ef_file_kind number ef) in
            let second_size = size_is content number (node number) (ef_file_kind number ef) in
            ⊎_elim {C = ((node k).place + (node k).size ≤ (node number).place) ⊎ ((node number).place + (node number).size ≤ (node k).place)} (λ before. inl (omega (arith, before))) (λ behind. inr (omega (arith, behind)))
            ((each_distinct k number less low used is).bytes (ef_file_kind k kind) (ef_file_kind number ef))))

        placed_ef : IsPlacedEf wide (nodes_below content number) (node number)
        placed_ef = record {
          short = sound_ef_here.short;
          own_short = own_short;
          life = sound_ef_here.life;
          from = sound_ef_here.from;
          some = sound_ef_here.some;
          to = sound_ef_here.to;
          apart = apart;
          records = λ records.
              let has = whole_records records in
              record {
                length = has.some;
                whole = has.whole;
                few = has.few;
                ring = cyclic_head;
                line = λ kind.
                    other_head (inr (⊎_elim {C = (node number).kind ≡ linear_kind} (eqb-true (node number).kind linear_kind) (λ cyclic. absurd (kind (eqb-true (node number).kind cyclic_kind cyclic))) (or_cases ((node number).kind == linear_kind) ((node number).kind == cyclic_kind) records)));
              };
          no_head = λ no_records.
              other_head (inl (⊎_elim {C = (node number).kind ≡ transparent_kind} (λ (plain : (node number).kind ≡ transparent_kind). plain) (λ records. absurd (both_ways (has_records (node number).kind) no_records records)) (ef_cases (node number).kind ef)));
        }

      placed_file : IsPlacedFile wide (nodes_below content number) (node number)
      placed_file = record {
        placed = placed;
        ef = λ kind. placed_ef (⊎_elim {C = is_ef_kind (node number).kind ≡ true} (λ df. absurd (kind df)) (λ (ef : is_ef_kind (node number).kind ≡ true). ef) placed.kind);
      }

    pub files_right : AreNodesRight content
    files_right = record { flags = λ number low. (forms number low).used; first = first_is_mf; each = placed_file }

  used_from : (number : ℕ) → slice_index (node_bytes content number) 0 ≡ 1 → (node_of (node_bytes content number)).used ≡ true
  unfolding node_of
  used_from number one = eq-eqb (slice_index (node_bytes content number) 0) 1 one

  -- the forms of the entries
  pub node_forms : AreNodesRight content → (number : ℕ) → number < 128 → IsNodeForm (node_bytes content number)
  node_forms right number low =
      let there : slice_index (node_bytes content number) 0 ≡ 1 → node number ≡ node_of (node_bytes content number) = λ one. node_spelled content number (used_from number one) in
      let ef_there : slice_index (node_bytes content number) 0 ≡ 1 → is_ef_kind (node_of (node_bytes content number)).kind ≡ true → IsPlacedEf wide (nodes_below content number) (node_of (node_bytes content number)) =
      λ one kind.
      let same = there one in
      let here : is_ef_kind (node number).kind ≡ true = ap (λ (n : Node). is_ef_kind n.kind) same ∙ kind in
      let used : is_file content number ≡ true = ap (λ (n : Node). n.used) same ∙ used_from number one in
      let not_df = ef_is_no_df (node number).kind here in
      ⊎_elim {C = IsPlacedEf wide (nodes_below content number) (node_of (node_bytes content number))}
      (λ first. absurd (not_df (ap (λ (n : ℕ). (node n).kind) first ∙ right.first.kind)))
      (λ other. subst (IsPlacedEf wide (nodes_below content number)) same ((right.each number low other used).ef not_df)) (cases_eq number 0) in
      record {
        used = right.flags number low;
        head = λ one. record {
          cyclic = λ kind. let ef = ef_there one (ap is_ef_kind kind) in (ef.records (ap has_records kind)).ring kind;
          other = λ kind.
              ⊎_elim {C = (node_of (node_bytes content number)).head ≡ 0} (λ plain. let ef = ef_there one (ap is_ef_kind plain) in ef.no_head (ap has_records plain))
              (λ line. let ef = ef_there one (ap is_ef_kind line) in (ef.records (ap has_records line)).line (λ ring. omega arith)) kind;
        };
      }
