-- Sound states with one file or one row more, in place of another, or less.
use Rattle.std.proofs.Common.{◌≡◌, ◌≢◌, ◌⊎◌, ℕ, ◌+◌, ◌≤◌, ◌<◌, ◌==◌, Bool, true, false, not, if◌then◌else◌, List, length, Option, Some, None, All, Contains, count_by, refl, sym, ◌∙◌, ap, subst, inl, inr, ⊎_elim, lit≤, arith}
use Rattle.std.proofs.lemmas.Bool.{cases_eq, cases_order, false≢true}
use Rattle.std.proofs.lemmas.List.Elements.{All-contains}
use Rattle.card_state.specs.Kinds.{is_ef_kind, activated, deactivated, call_control_code}
use Rattle.card_state.specs.Places.{kept_limit}
use Rattle.card_state.specs.Persistent.{Rule, File, Registration, Persistent}
use Rattle.card_state.specs.Soundness.{IsDf, IsEf, mf, IsInTree, IsSoundFile, AreDistinct, AreEventCodes, IsSoundRow, AreDifferent, IsSound}
use Rattle.card_state.specs.Changing.{placed, with_file_at, with_row_on}
use Rattle.card_state.specs.Fitting.{MayStandBeside, FitsAmong, IsFileAnew, ShareNoCallControl, FitsOnShelf, IsRowAnew}
use Rattle.card_state.proofs.PlacedLemmas.{all_others, all_placed, other_placed, this_placed, sum_without, sum_more, sum_same, pair_of, same_element, all_from, pairs_without, pairs_placed}
use Rattle.card_state.proofs.WithContentsLemmas.{sequence_sound}

-- ---- files

-- two files may stand beside one another in either order
turned : (a b : File) → b.number < a.number → MayStandBeside a b → AreDistinct b a
turned a b less m = record {
  number = less;
  id = λ same is. m.id (sym same) (sym is);
  short = λ ef_b ef_a same.
      ⊎_elim {C = (b.short ≡ 0) ⊎ (b.short ≢ a.short)}
      (λ none. ⊎_elim {C = (b.short ≡ 0) ⊎ (b.short ≢ a.short)} (λ none_too. inl none_too) (λ some. inr (λ is. some (is ∙ none))) (cases_eq b.short 0))
      (λ other. inr (λ is. other (sym is))) (m.short ef_a ef_b (sym same));
  bytes = λ ef_b ef_a. ⊎_elim {C = (b.place + b.size ≤ a.place) ⊎ (a.place + a.size ≤ b.place)} (λ before. inr before) (λ behind. inl behind) (m.bytes ef_a ef_b);
}

module _ (state : Persistent) (sound : IsSound state) (file : File) (fits : FitsAmong state file) where
  abbrev files : List File
  files = state.files

  abbrev new : List File
  new = placed (λ f. f.number) file.number (Some file) files

  -- the file may be the DF that another one lies in
  in_tree : (f : File) → IsInTree files f → IsInTree new f
  in_tree f tree =
      ⊎_elim {C = IsInTree new f}
      (λ same. record {
        id = tree.id;
        parent = file;
        there = this_placed (λ (x : File). x.number) file.number files file;
        df = All-contains (λ (x : File). x.number ≡ file.number → IsDf x → IsDf file) files tree.parent fits.in_place tree.there same tree.df;
        of_it = sym same ∙ tree.of_it;
        above = tree.above;
      })
      (λ other. record {
        id = tree.id;
        parent = tree.parent;
        there = other_placed (λ (x : File). x.number) file.number files (Some file) tree.parent tree.there other;
        df = tree.df;
        of_it = tree.of_it;
        above = tree.above;
      })
      (cases_eq tree.parent.number file.number)

  still : (f : File) → IsSoundFile state.is_wide files f → IsSoundFile state.is_wide new f
  still f s = record {
    kind = s.kind;
    tree = ⊎_elim {C = (f ≡ mf) ⊎ IsInTree new f} (λ is_mf. inl is_mf) (λ tree. inr (in_tree f tree)) s.tree;
    number = s.number;
    contents = s.contents;
    df = s.df;
    ef = s.ef;
  }

  mf_stays : Contains new mf
  mf_stays =
      ⊎_elim {C = Contains new mf}
      (λ first.
      let is : file ≡ mf = ⊎_elim {C = file ≡ mf} (λ is_mf. is_mf) (λ tree. absurd (omega (arith, tree.above))) fits.sound.tree in
      subst (Contains new) is (this_placed (λ (x : File). x.number) file.number files file))
      (λ other. other_placed (λ (x : File). x.number) file.number files (Some file) mf sound.mf_there other)
      (cases_eq mf.number file.number)

  beside_it : (f : File) → Contains files f → f.number ≢ file.number → MayStandBeside f file
  beside_it f there other = All-contains (λ (x : File). x.number ≢ file.number → MayStandBeside x file) files f fits.others there other

  with_it : IsSound (with_file_at state file.number (Some file))
  with_it = record {
    files =
        all_placed (λ (x : File). x.number) file.number files (IsSoundFile state.is_wide new) file
        (λ f other there. still f (All-contains (IsSoundFile state.is_wide files) files f sound.files there)) (still file fits.sound);
    mf_there = mf_stays;
    distinct_files =
        pairs_placed (λ (x : File). x.number) file.number files AreDistinct (λ a b d. d.number) sound.distinct_files file
        (λ f there low. let m = beside_it f there (λ is. absurd (omega arith)) in record { number = low; id = m.id; short = m.short; bytes = m.bytes })
        (λ f there high. turned f file high (beside_it f there (λ is. absurd (omega arith))));
    pins = sound.pins;
    ordered_pins = sound.ordered_pins;
    rows = sound.rows;
    distinct_rows = sound.distinct_rows;
    texts = sound.texts;
  }

pub file_fits : (state : Persistent) (number : ℕ) (file : File) → IsSound state → file.number ≡ number → FitsAmong state file → IsSound (with_file_at state number (Some file))
file_fits state number file sound is fits = subst (λ (n : ℕ). IsSound (with_file_at state n (Some file))) is (with_it state sound file fits)

-- ---- an EF with another life cycle status or another rule

pub turned_back : (a b : File) → AreDistinct b a → MayStandBeside a b
turned_back a b d = record {
  id = λ same is. d.id (sym same) (sym is);
  short = λ ef_a ef_b same.
      ⊎_elim {C = (a.short ≡ 0) ⊎ (a.short ≢ b.short)}
      (λ none. ⊎_elim {C = (a.short ≡ 0) ⊎ (a.short ≢ b.short)} (λ none_too. inl none_too) (λ some. inr (λ is. some (is ∙ none))) (cases_eq a.short 0))
      (λ other. inr (λ is. other (sym is))) (d.short ef_b ef_a (sym same));
  bytes = λ ef_a ef_b. ⊎_elim {C = (a.place + a.size ≤ b.place) ⊎ (b.place + b.size ≤ a.place)} (λ before. inr before) (λ behind. inl behind) (d.bytes ef_b ef_a);
}

module _ (state : Persistent) (sound : IsSound state) (old : File) (there : Contains state.files old) (is_ef : IsEf old) (life : ℕ) (rule : Option Rule) (known : (life ≡ deactivated) ⊎ (life ≡ activated)) where
  abbrev anew : File
  anew = record old { life = life; rule = rule }

  anew_sound : IsSoundFile state.is_wide state.files anew
  anew_sound =
      let s = All-contains (IsSoundFile state.is_wide state.files) state.files old sound.files there in
      record {
        kind = s.kind;
        tree =
            ⊎_elim {C = (anew ≡ mf) ⊎ IsInTree state.files anew} (λ is_mf. absurd (let mf_is_ef : IsEf mf = subst IsEf is_mf is_ef in false≢true mf_is_ef))
            (λ t. inr (record { id = t.id; parent = t.parent; there = t.there; df = t.df; of_it = t.of_it; above = t.above })) s.tree;
        number = s.number;
        contents = s.contents;
        df = λ df. absurd (let none : false ≡ true = sym (ap is_ef_kind df) ∙ is_ef in false≢true none);
        ef = λ ef. let e = s.ef ef in record { short = e.short; life = known; from = e.from; some = e.some; to = e.to };
      }

  beside_anew : (other : File) → Contains state.files other → other.number ≢ old.number → MayStandBeside other anew
  beside_anew other other_there apart =
      let m : MayStandBeside other old =
      ⊎_elim {C = MayStandBeside other old} (λ same. absurd (apart same))
      (λ order. ⊎_elim {C = MayStandBeside other old}
      (λ low. let d = pair_of (λ (x : File). x.number) old.number state.files AreDistinct (λ a b x. x.number) sound.distinct_files other old other_there there low in record { id = d.id; short = d.short; bytes = d.bytes })
      (λ high. turned_back other old (pair_of (λ (x : File). x.number) old.number state.files AreDistinct (λ a b x. x.number) sound.distinct_files old other there other_there high)) order)
      (cases_order other.number old.number) in
      record { id = m.id; short = m.short; bytes = m.bytes }

  anew_fits : FitsAmong state anew
  anew_fits = record {
    sound = anew_sound;
    others = all_from (λ (other : File). other.number ≢ old.number → MayStandBeside other anew) state.files beside_anew;
    in_place =
        all_from (λ (other : File). other.number ≡ old.number → IsDf other → IsDf anew) state.files
        (λ other other_there same df. ap (λ (f : File). f.kind) (sym (same_element (λ (x : File). x.number) old.number state.files AreDistinct (λ a b x. x.number) sound.distinct_files other old other_there there same)) ∙ df);
  }

  pub with_file_anew : IsSound (with_file_at state old.number (Some anew))
  with_file_anew = with_it state sound anew anew_fits

pub file_anew_fits : (state : Persistent) (number : ℕ) (old file : File) → IsSound state → old.number ≡ number → IsFileAnew state old file → IsSound (with_file_at state number (Some file))
file_anew_fits state number old file sound is anew =
    let placed_anew = with_file_anew state sound old anew.there anew.is_ef file.life file.rule anew.life in
    subst (λ (n : ℕ). IsSound (with_file_at state n (Some file))) is (subst (λ (f : File). IsSound (with_file_at state old.number (Some f))) (sym anew.others) placed_anew)

-- ---- a file less

module _ (state : Persistent) (number : ℕ) (sound : IsSound state) (empty : All (λ other. other.parent ≢ number) state.files) where
  abbrev left : List File
  left = placed (λ f. f.number) number None state.files

  tree_left : (f : File) → Contains state.files f → IsInTree state.files f → IsInTree left f
  tree_left f there tree = record {
    id = tree.id;
    parent = tree.parent;
    there = other_placed (λ (x : File). x.number) number state.files None tree.parent tree.there (λ is. All-contains (λ (x : File). x.parent ≢ number) state.files f empty there (sym tree.of_it ∙ is));
    df = tree.df;
    of_it = tree.of_it;
    above = tree.above;
  }

  sound_left : (f : File) → Contains state.files f → IsSoundFile state.is_wide left f
  sound_left f there =
      let s = All-contains (IsSoundFile state.is_wide state.files) state.files f sound.files there in
      record {
        kind = s.kind;
        tree = ⊎_elim {C = (f ≡ mf) ⊎ IsInTree left f} (λ is_mf. inl is_mf) (λ tree. inr (tree_left f there tree)) s.tree;
        number = s.number;
        contents = s.contents;
        df = s.df;
        ef = s.ef;
      }

  pub without_file : number ≢ 0 → IsSound (with_file_at state number None)
  without_file not_mf = record {
    files = all_others (λ (x : File). x.number) number state.files (IsSoundFile state.is_wide left) (λ f other there. sound_left f there);
    mf_there = other_placed (λ (x : File). x.number) number state.files None mf sound.mf_there (λ is. not_mf (sym is));
    distinct_files = pairs_without (λ (x : File). x.number) number state.files AreDistinct (λ a b d. d.number) sound.distinct_files;
    pins = sound.pins;
    ordered_pins = sound.ordered_pins;
    rows = sound.rows;
    distinct_rows = sound.distinct_rows;
    texts = sound.texts;
  }

-- ---- rows

abbrev has_text : Registration → Bool
has_text row = not (length row.text == 0)

abbrev counted : Registration → ℕ
counted row = if has_text row then 1 else 0

not_counted : (row : Registration) → length row.text ≡ 0 → counted row ≡ 0
not_counted row none = ap (λ (n : ℕ). if not (n == 0) then 1 else 0) none

at_most_one : (row : Registration) → counted row ≤ 1
at_most_one row = by_test (has_text row) where
  by_test : (b : Bool) → (if b then 1 else 0) ≤ 1
  by_test true = lit≤ tt
  by_test false = lit≤ tt

module _ (state : Persistent) (sound : IsSound state) where
  abbrev shelf_of : Registration → ℕ
  shelf_of row = row.shelf

  abbrev IsRow : Registration → Type 0
  IsRow = IsSoundRow state.is_wide state.next_sequence

  row_there : (row : Registration) → Contains state.rows row → IsRow row
  row_there row there = All-contains IsRow state.rows row sound.rows there

  pub without_row : (shelf : ℕ) → IsSound (with_row_on state shelf None)
  without_row shelf = record {
    files = sound.files;
    mf_there = sound.mf_there;
    distinct_files = sound.distinct_files;
    pins = sound.pins;
    ordered_pins = sound.ordered_pins;
    rows = all_others shelf_of shelf state.rows IsRow (λ row other there. row_there row there);
    distinct_rows = pairs_without shelf_of shelf state.rows AreDifferent (λ a b d. d.shelf) sound.distinct_rows;
    texts = omega (arith, sum_without shelf_of shelf state.rows counted, sound.texts);
  }

  -- a row that may stand with each other one
  placed_row : (row : Registration) → IsRow row → ((other : Registration) → Contains state.rows other → other.shelf ≢ row.shelf → (other.sequence ≢ row.sequence) × ShareNoCallControl row other)
      → count_by has_text (placed shelf_of row.shelf (Some row) state.rows) ≤ 16 → IsSound (with_row_on state row.shelf (Some row))
  placed_row row this with_others texts = record {
    files = sound.files;
    mf_there = sound.mf_there;
    distinct_files = sound.distinct_files;
    pins = sound.pins;
    ordered_pins = sound.ordered_pins;
    rows = all_placed shelf_of row.shelf state.rows IsRow row (λ other apart there. row_there other there) this;
    distinct_rows =
        pairs_placed shelf_of row.shelf state.rows AreDifferent (λ a b d. d.shelf) sound.distinct_rows row
        (λ other there low. let m = with_others other there (λ is. absurd (omega arith)) in record { shelf = low; sequence = m.0; call_control = λ in_other in_row. m.1 in_row in_other })
        (λ other there high. let m = with_others other there (λ is. absurd (omega arith)) in record { shelf = high; sequence = λ is. m.0 (sym is); call_control = λ in_row in_other. m.1 in_row in_other });
    texts = texts;
  }

  pub with_row : (row : Registration) → FitsOnShelf state row → IsSound (with_row_on state row.shelf (Some row))
  with_row row new =
      placed_row row new.sound
      (λ other there apart.
      (All-contains (λ (x : Registration). x.shelf ≢ row.shelf → x.sequence ≢ row.sequence) state.rows other new.sequence there apart, All-contains (λ (x : Registration). x.shelf ≢ row.shelf → ShareNoCallControl row x) state.rows other new.call_control there apart))
      (⊎_elim {C = count_by has_text (placed shelf_of row.shelf (Some row) state.rows) ≤ 16}
      (λ none. omega (arith, sum_more shelf_of row.shelf state.rows counted row, not_counted row none, sound.texts))
      (λ few. omega (arith, sum_more shelf_of row.shelf state.rows counted row, at_most_one row)) new.text)

  pub with_row_anew : (old : Registration) (codes kept : List ℕ) → Contains state.rows old → AreEventCodes codes → length kept ≤ kept_limit state.is_wide
      → (Contains codes call_control_code → Contains old.codes call_control_code) ⊎ All (λ other. other.shelf ≢ old.shelf → Contains codes call_control_code → Contains other.codes call_control_code → ⊥) state.rows
      → IsSound (with_row_on state old.shelf (Some (record old { codes = codes; kept = kept })))
  with_row_anew old codes kept there known few call_control =
      let s = row_there old there in
      let row : Registration = record old { codes = codes; kept = kept } in
      let different : (other : Registration) → Contains state.rows other → other.shelf ≢ old.shelf → (other.sequence ≢ old.sequence) × (Contains old.codes call_control_code → Contains other.codes call_control_code → ⊥) =
      λ other other_there apart.
      ⊎_elim {C = (other.sequence ≢ old.sequence) × (Contains old.codes call_control_code → Contains other.codes call_control_code → ⊥)} (λ same. absurd (apart same))
      (λ order. ⊎_elim {C = (other.sequence ≢ old.sequence) × (Contains old.codes call_control_code → Contains other.codes call_control_code → ⊥)}
      (λ low.
      let d = pair_of shelf_of old.shelf state.rows AreDifferent (λ a b x. x.shelf) sound.distinct_rows other old other_there there low in
      (d.sequence, λ in_old in_other. d.call_control in_other in_old))
      (λ high.
      let d = pair_of shelf_of old.shelf state.rows AreDifferent (λ a b x. x.shelf) sound.distinct_rows old other there other_there high in
      (λ is. d.sequence (sym is), λ in_old in_other. d.call_control in_old in_other)) order)
      (cases_order other.shelf old.shelf) in
      placed_row row (record { shelf = s.shelf; kind = s.kind; priority = s.priority; sequence = s.sequence; codes = known; text = s.text; kept = few })
      (λ other other_there apart. (
        (different other other_there apart).0,
        λ in_row in_other.
            ⊎_elim {C = ⊥} (λ had. (different other other_there apart).1 (had in_row) in_other)
            (λ free. All-contains (λ (x : Registration). x.shelf ≢ old.shelf → Contains codes call_control_code → Contains x.codes call_control_code → ⊥) state.rows other free other_there apart in_row in_other) call_control,
      ))
      (omega (arith, sum_same shelf_of old.shelf state.rows counted row old there refl refl, sound.texts))

pub row_fits : (state : Persistent) (shelf : ℕ) (row : Registration) → IsSound state → row.shelf ≡ shelf → FitsOnShelf state row → IsSound (with_row_on state shelf (Some row))
row_fits state shelf row sound is new = subst (λ (n : ℕ). IsSound (with_row_on state n (Some row))) is (with_row state sound row new)

pub installed_row_fits : (state : Persistent) (shelf next : ℕ) (row : Registration) → IsSound state → row.shelf ≡ shelf → state.next_sequence ≤ next → FitsOnShelf (record state { next_sequence = next }) row
    → IsSound (record (with_row_on state shelf (Some row)) { next_sequence = next })
installed_row_fits state shelf next row sound is more new = row_fits (record state { next_sequence = next }) shelf row (sequence_sound state sound next more) is new

pub row_anew_fits : (state : Persistent) (shelf : ℕ) (old row : Registration) → IsSound state → old.shelf ≡ shelf → IsRowAnew state old row → IsSound (with_row_on state shelf (Some row))
row_anew_fits state shelf old row sound is anew =
    let placed_anew = with_row_anew state sound old row.codes row.kept anew.there anew.codes anew.kept anew.call_control in
    subst (λ (n : ℕ). IsSound (with_row_on state n (Some row))) is (subst (λ (r : Registration). IsSound (with_row_on state old.shelf (Some r))) (sym anew.others) placed_anew)

-- ---- PINs
