-- Files of which the same is told are alike.
use Rattle.std.proofs.Common.{◌≡◌, ℕ, ◌+◌, ◌*◌, ◌^◌, ◌<◌, ◌≤◌, Bool, true, false, List, [], ◌∷◌, ◌++◌, length, get_or, Option, Some, None, refl, sym, ap, ◌∙◌, inl, inr, arith, ◌==◌, ◌⊎◌, if◌then◌else◌, option_map, Contains, IfSome}
use Rattle.std.specs.Int.{to_be_bytes, from_be_bytes, w16}
use Rattle.std.proofs.lemmas.Bool.{eqb-true, false≢true}
use Rattle.std.proofs.lemmas.List.Elements.{All-contains}
use Rattle.std.proofs.lemmas.Nat.{from_be_bytes-to_be_bytes_2}
use Rattle.uicc_types.specs.declared.identifiers.FileId.{FileId}
use Rattle.card_state.specs.Kinds.{df_kind, has_records}
use Rattle.card_state.specs.Persistent.{Bytes, Contents, File, Files, Persistent, Records, Rule}
use Rattle.card_state.specs.Places.{data_end}
use Rattle.card_state.specs.Soundness.{AreContents, IsDf, IsEf, IsSoundDf, IsSoundEf, IsSoundFile}
use Rattle.file_model.specs.Fcp.{fcp, kind_bytes}
use Rattle.file_model.specs.Files.{descriptor_in, is_df, record_count, record_width, reference_in}
use Rattle.file_model.specs.Laws.{IsSoundCard}
use Rattle.file_model.specs.declared.descriptors.Descriptor.{Descriptor}
use Rattle.file_model.specs.declared.descriptors.RuleReference.{RuleReference}
use Rattle.card_laws.specs.Fcp.{Object, file_told, objects_in, rule_told, short_told}
use Rattle.card_laws.specs.FcpLaws.{AreToldAlike, FcpTellFiles, HasShortIdentifiers, IsFcp}
use Rattle.card_laws.proofs.FcpAreObjectsLemmas.{fcp_are_objects}

-- what can be told of a file at all
record MayBeTold (file : Descriptor) : Type 0 where
  id : file.id.0 < 2 ^ 16
  size : file.size < 2 ^ 16
  width : file.width < 2 ^ 16
  arr : IfSome file.rule (λ rule. rule.arr.0 < 2 ^ 16)
  plain : has_records file.kind ≡ false → (file.width ≡ 0) × (file.count ≡ 0)
  df : is_df file ≡ true → (file.size ≡ 0) × (file.short ≡ 0)

-- ---- of a sound card

end_low : (wide : Bool) → data_end wide ≤ 65536
end_low true = omega arith
end_low false = omega arith

size_low : (wide : Bool) (file : File) → (IsDf file → IsSoundDf file) → (IsEf file → IsSoundEf wide file) → IsDf file ⊎ IsEf file → file.size < 2 ^ 16
size_low wide file df ef (inl is) = omega (arith, (df is).size)
size_low wide file df ef (inr is) = omega (arith, (ef is).from, (ef is).to, end_low wide)

rule_low : (rule : Option Rule) → IfSome rule (λ r. r.arr < 2 ^ 16) → IfSome (option_map reference_in rule) (λ r. r.arr.0 < 2 ^ 16)
rule_low None low = low
rule_low (Some rule) low = low

without_records : (contents : Contents) (kind size : ℕ) → AreContents kind size contents → has_records kind ≡ false → (record_width contents ≡ 0) × (record_count contents ≡ 0)
without_records Files kind size are none = (refl, refl)
without_records (Bytes bytes) kind size are none = (refl, refl)
without_records (Records records) kind size are none = absurd (false≢true (sym none ∙ are.0))

may_be_told : (state : Persistent) (file : File) → IsSoundCard state → Contains state.files file → HasShortIdentifiers file → MayBeTold (descriptor_in file)
unfolding descriptor_in
may_be_told state file card there short =
    let sound : IsSoundFile state.is_wide state.files file = All-contains (IsSoundFile state.is_wide state.files) state.files file card.sound.files there in
    let narrow : record_width file.contents ≤ 255 = All-contains (λ (f : File). record_width f.contents ≤ 255) state.files file card.short there in
    record {
      id = short.id;
      size = size_low state.is_wide file sound.df sound.ef sound.kind;
      width = omega (arith, narrow);
      arr = rule_low file.rule short.arr;
      plain = without_records file.contents file.kind file.size sound.contents;
      df = λ is. let of_df : IsSoundDf file = sound.df (eqb-true file.kind df_kind is) in (of_df.size, of_df.short);
    }

-- ---- reading what is told

abbrev first_value : List Object → List ℕ
first_value [] = []
first_value (one ∷ objects) = one.1

abbrev first_tag : List Object → ℕ
first_tag [] = 0
first_tag (one ∷ objects) = one.0

abbrev behind : List Object → List Object
behind [] = []
behind (one ∷ objects) = objects

abbrev word_at : ℕ → List ℕ → ℕ
word_at at bytes = from_be_bytes w16 (get_or bytes at 0 ∷ get_or bytes (at + 1) 0 ∷ [])

same_words : (a b : ℕ) → a < 2 ^ 16 → b < 2 ^ 16 → from_be_bytes w16 (to_be_bytes w16 a) ≡ from_be_bytes w16 (to_be_bytes w16 b) → a ≡ b
same_words a b low small is = sym (from_be_bytes-to_be_bytes_2 a low) ∙ is ∙ from_be_bytes-to_be_bytes_2 b small

-- ---- the kind, and the records

kind_first : (b : Bool) (file : Descriptor) → get_or (if b then file.kind ∷ 0x21 ∷ to_be_bytes w16 file.width ++ file.count ∷ [] else file.kind ∷ 0x21 ∷ []) 0 0 ≡ file.kind
kind_first true file = refl
kind_first false file = refl

same_kind : (a b : Descriptor) → kind_bytes a ≡ kind_bytes b → a.kind ≡ b.kind
same_kind a b is = sym (kind_first (has_records a.kind) a) ∙ ap (λ (l : List ℕ). get_or l 0 0) is ∙ kind_first (has_records b.kind) b

same_records : (x y : Bool) (a b : Descriptor) → MayBeTold a → MayBeTold b → has_records a.kind ≡ x → has_records b.kind ≡ y
    → (if x then a.kind ∷ 0x21 ∷ to_be_bytes w16 a.width ++ a.count ∷ [] else a.kind ∷ 0x21 ∷ []) ≡ (if y then b.kind ∷ 0x21 ∷ to_be_bytes w16 b.width ++ b.count ∷ [] else b.kind ∷ 0x21 ∷ [])
    → (a.width ≡ b.width) × (a.count ≡ b.count)
same_records true true a b may might one other is =
    (same_words a.width b.width may.width might.width (ap (word_at 2) is), ap (λ (l : List ℕ). get_or l 4 0) is)
same_records false false a b may might one other is =
    ((may.plain one).0 ∙ sym (might.plain other).0, (may.plain one).1 ∙ sym (might.plain other).1)
same_records true false a b may might one other is = let long : 5 ≡ 2 = ap (λ (l : List ℕ). length l) is in absurd (omega (arith, long))
same_records false true a b may might one other is = let long : 2 ≡ 5 = ap (λ (l : List ℕ). length l) is in absurd (omega (arith, long))

-- ---- the rule

same_rule : (one other : Option RuleReference) (ends others : List Object) → IfSome one (λ r. r.arr.0 < 2 ^ 16) → IfSome other (λ r. r.arr.0 < 2 ^ 16)
    → (first_tag ends ≡ 0x8B → ⊥) → (first_tag others ≡ 0x8B → ⊥) → rule_told one ++ ends ≡ rule_told other ++ others → (one ≡ other) × (ends ≡ others)
same_rule None None ends others low small not_one not_other is = (refl, is)
same_rule (Some one) (Some other) ends others low small not_one not_other is =
    let value : to_be_bytes w16 one.arr.0 ++ one.number ∷ [] ≡ to_be_bytes w16 other.arr.0 ++ other.number ∷ [] = ap first_value is in
    let arr : one.arr.0 ≡ other.arr.0 = same_words one.arr.0 other.arr.0 low small (ap (word_at 0) value) in
    let number : one.number ≡ other.number = ap (λ (l : List ℕ). get_or l 2 0) value in
    let made : ℕ → ℕ → Option RuleReference = λ a n. Some (record { arr = record { 0 = a }; number = n }) in
    (ap (λ (a : ℕ). made a one.number) arr ∙ ap (λ (n : ℕ). made other.arr.0 n) number, ap behind is)
same_rule (Some one) None ends others low small not_one not_other is = absurd (not_other (sym (ap first_tag is)))
same_rule None (Some other) ends others low small not_one not_other is = absurd (not_one (ap first_tag is))

-- ---- the short file identifier

same_short : (x y : Bool) (a b : Descriptor) → (a.short == 0) ≡ x → (b.short == 0) ≡ y → (if x then [] else a.short * 8 ∷ []) ≡ (if y then [] else b.short * 8 ∷ []) → a.short ≡ b.short
same_short true true a b one other is = eqb-true a.short 0 one ∙ sym (eqb-true b.short 0 other)
same_short false false a b one other is = let same : a.short * 8 ≡ b.short * 8 = ap (λ (l : List ℕ). get_or l 0 0) is in omega (arith, same)
same_short true false a b one other is = let long : 0 ≡ 1 = ap (λ (l : List ℕ). length l) is in absurd (omega (arith, long))
same_short false true a b one other is = let long : 1 ≡ 0 = ap (λ (l : List ℕ). length l) is in absurd (omega (arith, long))

-- ---- what stands after the rule

abbrev ends_told : Bool → List ℕ → Descriptor → List Object
ends_told df pins file = if df then (0xC6, pins) ∷ [] else (0x80, to_be_bytes w16 file.size) ∷ (0x88, short_told file) ∷ []

no_rule : (df : Bool) (pins : List ℕ) (file : Descriptor) → first_tag (ends_told df pins file) ≡ 0x8B → ⊥
no_rule true pins file is = omega (arith, is)
no_rule false pins file is = omega (arith, is)

same_ends : (df : Bool) (p q : List ℕ) (a b : Descriptor) → MayBeTold a → MayBeTold b → is_df a ≡ df → is_df b ≡ df → ends_told df p a ≡ ends_told df q b → (a.size ≡ b.size) × (a.short ≡ b.short)
same_ends true p q a b may might one other is = ((may.df one).0 ∙ sym (might.df other).0, (may.df one).1 ∙ sym (might.df other).1)
same_ends false p q a b may might one other is =
    (same_words a.size b.size may.size might.size (ap (λ (l : List Object). word_at 0 (first_value l)) is), same_short (a.short == 0) (b.short == 0) a b refl refl (ap (λ (l : List Object). first_value (behind l)) is))

-- ---- all of it

alike : (p q : List ℕ) (a b : Descriptor) → MayBeTold a → MayBeTold b → file_told p a ≡ file_told q b → AreToldAlike a b
alike p q a b may might is =
    let kinds : kind_bytes a ≡ kind_bytes b = ap first_value is in
    let kind : a.kind ≡ b.kind = same_kind a b kinds in
    let held = same_records (has_records a.kind) (has_records b.kind) a b may might refl refl kinds in
    let id : a.id.0 ≡ b.id.0 = same_words a.id.0 b.id.0 may.id might.id (ap (λ (l : List Object). word_at 0 (first_value (behind l))) is) in
    let life : a.life ≡ b.life = ap (λ (l : List Object). get_or (first_value (behind (behind l))) 0 0) is in
    let df : is_df b ≡ is_df a = ap (λ (k : ℕ). k == df_kind) (sym kind) in
    let rest : rule_told a.rule ++ ends_told (is_df a) p a ≡ rule_told b.rule ++ ends_told (is_df a) q b =
    ap (λ (l : List Object). behind (behind (behind l))) is ∙ ap (λ (x : Bool). rule_told b.rule ++ ends_told x q b) df in
    let ruled = same_rule a.rule b.rule (ends_told (is_df a) p a) (ends_told (is_df a) q b) may.arr might.arr (no_rule (is_df a) p a) (no_rule (is_df a) q b) rest in
    let others = same_ends (is_df a) p q a b may might refl df ruled.1 in
    record {
      kind = kind;
      id = ap (λ (n : ℕ). let made : FileId = record { 0 = n } in made) id;
      life = life;
      rule = ruled.0;
      size = others.0;
      width = held.0;
      count = held.1;
      short = others.1;
    }

pub fcp_tell_files : FcpTellFiles
fcp_tell_files state another file other card other_card there elsewhere short other_short is =
    let one : IsFcp state.pins (descriptor_in file) (fcp state.pins (descriptor_in file)) = fcp_are_objects state (descriptor_in file) card.sound in
    let two : IsFcp another.pins (descriptor_in other) (fcp another.pins (descriptor_in other)) = fcp_are_objects another (descriptor_in other) other_card.sound in
    let whole : 0x62 ∷ length one.value ∷ one.value ≡ 0x62 ∷ length two.value ∷ two.value = sym one.one_object ∙ is ∙ two.one_object in
    let values : one.value ≡ two.value = cc whole in
    let parts : Some (file_told one.of_pins (descriptor_in file)) ≡ Some (file_told two.of_pins (descriptor_in other)) = sym one.parts ∙ ap objects_in values ∙ two.parts in
    alike one.of_pins two.of_pins (descriptor_in file) (descriptor_in other) (may_be_told state file card there short) (may_be_told another other other_card elsewhere other_short) (ap (some_or []) parts)
  where
    some_or : List Object → Option (List Object) → List Object
    some_or others None = others
    some_or others (Some objects) = objects
