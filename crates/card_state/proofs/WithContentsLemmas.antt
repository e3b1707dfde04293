-- A sound state is sound still where a file holds something else, a PIN has other tries or the next sequence number is greater.
use Rattle.std.proofs.Common.{◌≡◌, ◌⊎◌, ℕ, ◌≤◌, ◌<◌, ◌==◌, Bool, true, false, if◌then◌else◌, List, [], ◌∷◌, length, map, All, AllPairs, Contains, get_or, refl, sym, ◌∙◌, ap, subst, inl, inr, ⊎_elim, arith}
use Rattle.std.proofs.lemmas.Bool.{false≢true, eqb-true}
use Rattle.std.proofs.lemmas.List.{length-map, get_or-map}
use Rattle.std.proofs.lemmas.List.Elements.{All-map, All-weaker, All-contains_itself}
use Rattle.list_laws.proofs.MapLemmas.{mapped_too}
use Rattle.card_state.specs.Kinds.{df_kind}
use Rattle.card_state.specs.Persistent.{Contents, Files, Bytes, Records, File, Pin, Persistent}
use Rattle.card_state.specs.Soundness.{IsDf, mf, AreContents, IsInTree, IsSoundFile, AreDistinct, IsSoundPin, slot_of_key, IsSoundRow, IsSound}
use Rattle.card_state.specs.Sections.{refilled, with_contents}
use Rattle.card_state.specs.Changing.{with_pin_for}

-- ---- lists

all_mapped : {X : Type 0} (P Q : X → Type 0) (f : X → X) (xs : List X) → ((x : X) → Contains xs x → P x → Q (f x)) → All P xs → All Q (map f xs)
all_mapped P Q f xs each all = All-map Q f xs (λ k d low. each (get_or xs k d) (All-contains_itself xs k d low) (all k d low))

pairs_mapped : {X : Type 0} (R : X → X → Type 0) (f : X → X) (xs : List X) → ((a b : X) → R a b → R (f a) (f b)) → AllPairs R xs → AllPairs R (map f xs)
pairs_mapped R f xs each pairs i j d less low =
    let inside : j < length xs = omega (arith, length-map xs f) in
    let first = get_or-map f xs i d d (omega arith) in
    let second = get_or-map f xs j d d inside in
    subst (λ x. R x (get_or (map f xs) j d)) (sym first) (subst (λ y. R (f (get_or xs i d)) y) (sym second) (each (get_or xs i d) (get_or xs j d) (pairs i j d less inside)))

-- ---- what a file holds

-- the MF holds the files below it
mf_holds : (contents : Contents) → AreContents df_kind 0 contents → contents ≡ Files
mf_holds Files is = refl
mf_holds (Bytes bytes) is = absurd (omega (arith, is.0))
mf_holds (Records records) is = absurd (false≢true is.0)

module _ (state : Persistent) (sound : IsSound state) (number : ℕ) (contents : Contents)
    (right : (file : File) → Contains state.files file → file.number ≡ number → AreContents file.kind file.size contents) where
  abbrev with_it : File → File
  with_it file = record file { contents = contents }

  abbrev new : File → File
  new file = refilled number contents file

  abbrev new_files : List File
  new_files = map new state.files

  -- it is the file with the contents, or the file as it was
  either : (P : File → Type 0) (file : File) → (file.number ≡ number → P (with_it file)) → P file → P (new file)
  either P file filled same = by_test (file.number == number) refl where
    by_test : (b : Bool) → (file.number == number) ≡ b → P (if b then with_it file else file)
    by_test true is = filled (eqb-true file.number number is)
    by_test false is = same

  distinct : (a b : File) → AreDistinct a b → AreDistinct (new a) (new b)
  distinct a b d =
      either (λ f. AreDistinct f (new b)) a (λ is. either (AreDistinct (with_it a)) b (λ is_too. record { number = d.number; id = d.id; short = d.short; bytes = d.bytes }) (record { number = d.number; id = d.id; short = d.short; bytes = d.bytes }))
      (either (AreDistinct a) b (λ is_too. record { number = d.number; id = d.id; short = d.short; bytes = d.bytes }) d)

  mf_same : Contains state.files mf → new mf ≡ mf
  mf_same there = either (λ f. f ≡ mf) mf (λ is. ap (λ (c : Contents). record mf { contents = c }) (mf_holds contents (right mf there is))) refl

  in_tree : (file : File) → IsInTree state.files file → IsInTree new_files file
  in_tree file tree = record {
    id = tree.id;
    parent = new tree.parent;
    there = mapped_too new state.files tree.parent tree.there;
    df = either IsDf tree.parent (λ is. tree.df) tree.df;
    of_it = either (λ f. f.number ≡ file.parent) tree.parent (λ is. tree.of_it) tree.of_it;
    above = tree.above;
  }

  filled_sound : (file : File) → Contains state.files file → file.number ≡ number → IsSoundFile state.is_wide state.files file → IsSoundFile state.is_wide new_files (with_it file)
  filled_sound file there is s = record {
    kind = s.kind;
    tree =
        ⊎_elim {C = (with_it file ≡ mf) ⊎ IsInTree new_files (with_it file)}
        (λ is_mf.
        let holds : AreContents df_kind 0 contents = subst (λ (f : File). AreContents f.kind f.size contents) is_mf (right file there is) in
        inl (ap (λ (f : File). record f { contents = contents }) is_mf ∙ ap (λ (c : Contents). record mf { contents = c }) (mf_holds contents holds)))
        (λ tree. let t = in_tree file tree in inr (record { id = t.id; parent = t.parent; there = t.there; df = t.df; of_it = t.of_it; above = t.above })) s.tree;
    number = s.number;
    contents = right file there is;
    df = λ df. let d = s.df df in record { short = d.short; life = d.life; rule = d.rule; place = d.place; size = d.size };
    ef = λ is_ef. let e = s.ef is_ef in record { short = e.short; life = e.life; from = e.from; some = e.some; to = e.to };
  }

  left_sound : (file : File) → IsSoundFile state.is_wide state.files file → IsSoundFile state.is_wide new_files file
  left_sound file s = record {
    kind = s.kind;
    tree = ⊎_elim {C = (file ≡ mf) ⊎ IsInTree new_files file} (λ is_mf. inl is_mf) (λ tree. inr (in_tree file tree)) s.tree;
    number = s.number;
    contents = s.contents;
    df = s.df;
    ef = s.ef;
  }

  pub contents_sound : IsSound (with_contents state number contents)
  contents_sound = record {
    files =
        all_mapped (IsSoundFile state.is_wide state.files) (IsSoundFile state.is_wide new_files) new state.files
        (λ file there s. either (IsSoundFile state.is_wide new_files) file (λ is. filled_sound file there is s) (left_sound file s)) sound.files;
    mf_there = subst (Contains new_files) (mf_same sound.mf_there) (mapped_too new state.files mf sound.mf_there);
    distinct_files = pairs_mapped AreDistinct new state.files distinct sound.distinct_files;
    pins = sound.pins;
    ordered_pins = sound.ordered_pins;
    rows = sound.rows;
    distinct_rows = sound.distinct_rows;
    texts = sound.texts;
  }

-- ---- a PIN in place of that with its key

module _ (state : Persistent) (sound : IsSound state) (pin : Pin) (tries : pin.tries ≤ 3) (unblock_tries : pin.unblock_tries ≤ 10) where
  abbrev in_place : Pin → Pin
  in_place other = if other.key == pin.key then pin else other

  either_pin : (P : Pin → Type 0) (other : Pin) → (other.key ≡ pin.key → P pin) → P other → P (in_place other)
  either_pin P other new same = by_test (other.key == pin.key) refl where
    by_test : (b : Bool) → (other.key == pin.key) ≡ b → P (if b then pin else other)
    by_test true is = new (eqb-true other.key pin.key is)
    by_test false is = same

  same_key : (other : Pin) → (in_place other).key ≡ other.key
  same_key other = either_pin (λ p. p.key ≡ other.key) other (λ is. sym is) refl

  ordered : (a b : Pin) → slot_of_key a.key < slot_of_key b.key → slot_of_key (in_place a).key < slot_of_key (in_place b).key
  ordered a b less =
      subst (λ (k : ℕ). slot_of_key k < slot_of_key (in_place b).key) (sym (same_key a)) (subst (λ (k : ℕ). slot_of_key a.key < slot_of_key k) (sym (same_key b)) less)

  pub pin_sound : IsSound (with_pin_for state pin)
  pin_sound = record {
    files = sound.files;
    mf_there = sound.mf_there;
    distinct_files = sound.distinct_files;
    pins =
        all_mapped IsSoundPin IsSoundPin in_place state.pins
        (λ other there s.
        either_pin IsSoundPin other (λ is. record { key = subst (Contains (0x01 ∷ 0x81 ∷ 0x0A ∷ [])) is s.key; tries = tries; unblock_tries = unblock_tries }) s) sound.pins;
    ordered_pins = pairs_mapped (λ a b. slot_of_key a.key < slot_of_key b.key) in_place state.pins ordered sound.ordered_pins;
    rows = sound.rows;
    distinct_rows = sound.distinct_rows;
    texts = sound.texts;
  }

-- ---- the next sequence number

pub sequence_sound : (state : Persistent) → IsSound state → (next : ℕ) → state.next_sequence ≤ next → IsSound (record state { next_sequence = next })
sequence_sound state sound next more = record {
  files = sound.files;
  mf_there = sound.mf_there;
  distinct_files = sound.distinct_files;
  pins = sound.pins;
  ordered_pins = sound.ordered_pins;
  rows =
      All-weaker (IsSoundRow state.is_wide state.next_sequence) (IsSoundRow state.is_wide next)
      (λ row s. record { shelf = s.shelf; kind = s.kind; priority = s.priority; sequence = omega (arith, s.sequence); codes = s.codes; text = s.text; kept = s.kept }) state.rows sound.rows;
  distinct_rows = sound.distinct_rows;
  texts = sound.texts;
}
