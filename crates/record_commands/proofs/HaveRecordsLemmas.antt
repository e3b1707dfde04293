-- A file with records has at least one.
use Rattle.std.proofs.Common.{get_or, ◌≡◌, ℕ, ◌≤◌, true, false, length, subst, ◌==◌, IsTrue}
use Rattle.std.proofs.lemmas.List.Elements.{All-map}
use Rattle.std.proofs.lemmas.Bool.{or_right}
use Rattle.card_state.specs.Kinds.{df_kind, transparent_kind, has_records}
use Rattle.card_state.specs.Persistent.{Contents, Files, Bytes, Records, File, Persistent}
use Rattle.card_state.specs.Soundness.{AreContents, IsSoundFile, IsSound}
use Rattle.card_state.proofs.FileOfLemmas.{not_none}
use Rattle.file_model.specs.declared.descriptors.Descriptor.{Descriptor}
use Rattle.file_model.specs.Files.{record_count, descriptor_in, descriptors_in}
use Rattle.record_commands.specs.Tables.{HaveRecords}

no_df : (kind : ℕ) → kind ≡ df_kind → IsTrue (has_records kind) → ⊥
no_df kind is records = let both : false ≡ true = subst (λ (k : ℕ). has_records k ≡ true) is records in cc

no_transparent : (kind : ℕ) → kind ≡ transparent_kind → IsTrue (has_records kind) → ⊥
no_transparent kind is records = let both : false ≡ true = subst (λ (k : ℕ). has_records k ≡ true) is records in cc

filled : (kind size : ℕ) (contents : Contents) → AreContents kind size contents → IsTrue (has_records kind) → 1 ≤ size → 1 ≤ record_count contents
filled kind size Files is records some = absurd (no_df kind is records)
filled kind size (Bytes bytes) is records some = absurd (no_transparent kind is.0 records)
filled kind size (Records all) is records some = not_none (length all) is.1.width size is.1.fill some

one_filled : (state : Persistent) (file : File) → IsSoundFile state.is_wide state.files file → IsTrue (has_records (descriptor_in file).kind) → 1 ≤ (descriptor_in file).count
unfolding descriptor_in
one_filled state file sound records = filled file.kind file.size file.contents sound.contents records (sound.ef (or_right (file.kind == transparent_kind) (has_records file.kind) records)).some

pub all_filled : (state : Persistent) → IsSound state → HaveRecords (descriptors_in state)
unfolding descriptors_in
all_filled state sound =
    All-map (λ (f : Descriptor). IsTrue (has_records f.kind) → 1 ≤ f.count) descriptor_in state.files (λ k d low. one_filled state (get_or state.files k d) (sound.files k d low))
