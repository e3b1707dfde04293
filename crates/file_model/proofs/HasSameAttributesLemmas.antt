-- A sound state in which one EF holds something else or has another life cycle status.
use Rattle.std.proofs.Common.{get_or, ◌≡◌, ℕ, ◌<◌, ◌≤◌, Bool, true, false, cond, List, map, refl, sym, ◌∙◌, ap, subst, inl, inr, ⊎_elim, arith, ◌≢◌, ◌⊎◌, ◌+◌, ◌==◌, IsTrue, find, Contains, AllPairs, if◌then◌else◌}
use Rattle.std.proofs.lemmas.Bool.{cases_eq, eq-eqb, ne_eqb, cond-true, cond-false}
use Rattle.std.proofs.lemmas.Option.{same_Some}
use Rattle.std.proofs.lemmas.List.Elements.{All-map, All-contains_itself}
use Rattle.list_laws.proofs.FindLemmas.{numbered_found}
use Rattle.list_laws.proofs.AllPairsLemmas.{pairs_map}
use Rattle.list_laws.proofs.MapLemmas.{mapped_too}
use Rattle.card_state.specs.Kinds.{is_ef_kind, activated, deactivated}
use Rattle.card_state.specs.Persistent.{File, Persistent}
use Rattle.card_state.specs.Changing.{with_file_changed}
use Rattle.card_state.specs.Soundness.{IsDf, IsEf, mf, AreContents, IsInTree, IsSoundFile, AreDistinct, IsSound}
use Rattle.file_model.specs.Laws.{HasSameAttributes}

-- a DF is no EF
pub df_no_ef : (file : File) → IsDf file → IsEf file → ⊥
df_no_ef file df ef =
    let none : is_ef_kind file.kind ≡ false = ap is_ef_kind df in
    let both : true ≡ false = sym ef ∙ none in cc

pub alike_itself : (file : File) → HasSameAttributes file file
alike_itself file = record { number = refl; parent = refl; kind = refl; id = refl; short = refl; rule = refl; place = refl; size = refl }

chosen_alike : (b : Bool) (old new : File) → HasSameAttributes old new → HasSameAttributes old (cond b new old)
chosen_alike true old new same = same
chosen_alike false old new same = alike_itself old

-- two files stay distinct
distinct_alike : (a b a' b' : File) → HasSameAttributes a a' → HasSameAttributes b b' → AreDistinct a b → AreDistinct a' b'
distinct_alike a b a' b' s t d =
    let ef_a : IsEf a' → IsEf a = subst (λ (k : ℕ). IsTrue (is_ef_kind k)) s.kind in
    let ef_b : IsEf b' → IsEf b = subst (λ (k : ℕ). IsTrue (is_ef_kind k)) t.kind in
    record {
      number = omega (arith, d.number, s.number, t.number);
      id = λ together same. d.id (sym s.parent ∙ together ∙ t.parent) (sym s.id ∙ same ∙ t.id);
      short = λ e f together.
          ⊎_elim {C = (a'.short ≡ 0) ⊎ (a'.short ≢ b'.short)}
          (λ none. inl (s.short ∙ none)) (λ other. inr (λ same. other (sym s.short ∙ same ∙ t.short)))
          (d.short (ef_a e) (ef_b f) (sym s.parent ∙ together ∙ t.parent));
      bytes = λ e f.
          ⊎_elim {C = (a'.place + a'.size ≤ b'.place) ⊎ (b'.place + b'.size ≤ a'.place)}
          (λ before. inl (omega (arith, before, s.place, s.size, t.place))) (λ behind. inr (omega (arith, behind, t.place, t.size, s.place)))
          (d.bytes (ef_a e) (ef_b f));
    }

-- numbers ascend
pub numbers_ascend : (state : Persistent) → IsSound state → AllPairs (λ a b. a.number < b.number) state.files
numbers_ascend state sound i j d less low = (sound.distinct_files i j d less low).number

module _ (state : Persistent) (sound : IsSound state) (change : File → File) (keeps : (file : File) → HasSameAttributes file (change file)) (whole : File)
    (there : Contains state.files whole) (ef : IsEf whole) (contents : AreContents whole.kind whole.size (change whole).contents)
    (life : ((change whole).life ≡ deactivated) ⊎ ((change whole).life ≡ activated)) where
  abbrev number : ℕ
  number = whole.number

  abbrev changed : File → File
  changed file = if file.number == number then change file else file

  abbrev files : List File
  files = map changed state.files

  pub attributes : (file : File) → HasSameAttributes file (changed file)
  attributes file = chosen_alike (file.number == number) file (change file) (keeps file)

  -- only one file has the number
  pub same_file : (file : File) → Contains state.files file → file.number ≡ number → file ≡ whole
  same_file file is_there same =
      same_Some file whole
      (sym (numbered_found (λ (f : File). f.number) state.files file (numbers_ascend state sound) is_there)
      ∙ ap (λ (n : ℕ). find (λ (f : File). f.number == n) state.files) same
      ∙ numbered_found (λ (f : File). f.number) state.files whole (numbers_ascend state sound) there)

  in_tree : (file new : File) → HasSameAttributes file new → IsInTree state.files file → IsInTree files new
  in_tree file new same tree = record {
    id = (λ is. tree.id.0 (sym same.id ∙ is), λ is. tree.id.1 (sym same.id ∙ is));
    parent = changed tree.parent;
    there = mapped_too changed state.files tree.parent tree.there;
    df = (attributes tree.parent).kind ∙ tree.df;
    of_it = (attributes tree.parent).number ∙ tree.of_it ∙ sym same.parent;
    above = omega (arith, tree.above, same.parent, same.number);
  }

  -- a file that isn't the MF, or stays as it is, is sound with its contents and its life cycle status
  sound_anew : (file new : File) → HasSameAttributes file new → (file ≡ mf → new ≡ mf) → AreContents new.kind new.size new.contents → (IsDf new → new.life ≡ activated)
      → (IsEf new → (new.life ≡ deactivated) ⊎ (new.life ≡ activated)) → IsSoundFile state.is_wide state.files file → IsSoundFile state.is_wide files new
  sound_anew file new same still holds df_life ef_life s =
      let is_df : IsDf new → IsDf file = λ df. sym same.kind ∙ df in
      let is_ef : IsEf new → IsEf file = subst (λ (k : ℕ). IsTrue (is_ef_kind k)) same.kind in
      record {
        kind = ⊎_elim {C = IsDf new ⊎ IsEf new} (λ df. inl (same.kind ∙ df)) (λ e. inr (subst (λ (k : ℕ). IsTrue (is_ef_kind k)) (sym same.kind) e)) s.kind;
        tree = ⊎_elim {C = (new ≡ mf) ⊎ IsInTree files new} (λ is. inl (still is)) (λ tree. inr (in_tree file new same tree)) s.tree;
        number = omega (arith, s.number, same.number);
        contents = holds;
        df = λ df. let d = s.df (is_df df) in record { short = same.short ∙ d.short; life = df_life df; rule = same.rule ∙ d.rule; place = same.place ∙ d.place; size = same.size ∙ d.size };
        ef = λ e. let d = s.ef (is_ef e) in record {
          short = omega (arith, d.short, same.short);
          life = ef_life e;
          from = omega (arith, d.from, same.place);
          some = omega (arith, d.some, same.size);
          to = omega (arith, d.to, same.place, same.size);
        };
      }

  -- another file stays as it is
  other_sound : (file : File) → IsSoundFile state.is_wide state.files file → IsSoundFile state.is_wide files file
  other_sound file s = sound_anew file file (alike_itself file) (λ is. is) s.contents (λ df. (s.df df).life) (λ e. (s.ef e).life) s

  whole_sound : IsSoundFile state.is_wide state.files whole → IsSoundFile state.is_wide files (change whole)
  whole_sound s =
      let same = keeps whole in
      sound_anew whole (change whole) same (λ is. absurd (df_no_ef whole (ap (λ (f : File). f.kind) is) ef))
      (subst (λ (k : ℕ). AreContents k (change whole).size (change whole).contents) (sym same.kind) (subst (λ (n : ℕ). AreContents whole.kind n (change whole).contents) (sym same.size) contents))
      (λ df. absurd (df_no_ef whole (sym same.kind ∙ df) ef)) (λ e. life) s

  each_sound : (file : File) → Contains state.files file → IsSoundFile state.is_wide state.files file → IsSoundFile state.is_wide files (changed file)
  each_sound file is_there s =
      ⊎_elim {C = IsSoundFile state.is_wide files (changed file)}
      (λ same.
      let is : file ≡ whole = same_file file is_there same in
      subst (IsSoundFile state.is_wide files) (ap change (sym is) ∙ sym (cond-true (file.number == number) (change file) file (eq-eqb file.number number same)))
      (whole_sound (subst (IsSoundFile state.is_wide state.files) is s)))
      (λ other. subst (IsSoundFile state.is_wide files) (sym (cond-false (file.number == number) (change file) file (ne_eqb file.number number other))) (other_sound file s))
      (cases_eq file.number number)

  mf_stays : changed mf ≡ mf
  mf_stays =
      cond-false (mf.number == number) (change mf) mf
      (ne_eqb mf.number number (λ same. df_no_ef whole (ap (λ (f : File). f.kind) (sym (same_file mf sound.mf_there same))) ef))

  pub changed_sound : IsSound (with_file_changed change number state)
  unfolding with_file_changed
  changed_sound = record {
    files = All-map (IsSoundFile state.is_wide files) changed state.files (λ k d low. each_sound (get_or state.files k d) (All-contains_itself state.files k d low) (sound.files k d low));
    mf_there = subst (Contains files) mf_stays (mapped_too changed state.files mf sound.mf_there);
    distinct_files =
        pairs_map AreDistinct changed state.files
        (λ i j d less low. distinct_alike (get_or state.files i d) (get_or state.files j d) (changed (get_or state.files i d)) (changed (get_or state.files j d)) (attributes (get_or state.files i d)) (attributes (get_or state.files j d))
        (sound.distinct_files i j d less low));
    pins = sound.pins;
    ordered_pins = sound.ordered_pins;
    rows = sound.rows;
    distinct_rows = sound.distinct_rows;
    texts = sound.texts;
  }
