-- How long the records of a file are.
use Rattle.std.proofs.Common.{◌≡◌, ℕ, ◌+◌, ◌-◌, ◌<◌, ◌^◌, true, List, length, drop, get_or, refl, sym, ◌∙◌, ap, subst, ⊎_elim, arith, All, slice_index}
use Rattle.std.proofs.lemmas.Bool.{cases_lt, cases_eq}
use Rattle.std.proofs.lemmas.List.{get_or_past}
use Rattle.std.proofs.lemmas.List.Elements.{All-weaker, All-take, All-drop}
use Rattle.card_state.specs.declared.entries.Node.{Node}
use Rattle.card_state.specs.Places.{memory_size, node_place}
use Rattle.card_state.specs.Kinds.{df_kind}
use Rattle.card_state.specs.Persistent.{File, Persistent}
use Rattle.card_state.specs.Decoding.{is_wide, node_of, node_bytes, node_at}
use Rattle.card_state.specs.States.{file_bytes, record_count, records_of, from_head, contents_of}
use Rattle.card_state.specs.Checks.{nodes_below}
use Rattle.card_state.specs.SoundnessLaws.{HasShortRecords, RecordsAreShort}
use Rattle.card_state.proofs.FilterRangeLemmas.{all_kept}
use Rattle.card_state.proofs.IsNodeLemmas.{IsPlacedFile}
use Rattle.card_state.proofs.StandsForLemmas.{stands_told}
use Rattle.card_state.proofs.StateOfLemmas.{is_file, file_at, files, node_there, state_listed}
use Rattle.card_state.proofs.AreNodesRightLemmas.{AreNodesRight, nodes_told}
use Rattle.card_state.proofs.FileOfLemmas.{ef_is_no_df, file_of_df, file_of_ef, file_bytes_length, holds_bytes, holds_records, each_whole}
use Rattle.card_state.proofs.IsSoundFileLemmas.{ef_cases, records_are_no_bytes}

byte_fits : (bytes : List ℕ) (at : ℕ) → All (λ byte. byte < 2 ^ 8) bytes → get_or bytes at 0 < 2 ^ 8
byte_fits bytes at all =
    ⊎_elim {C = get_or bytes at 0 < 2 ^ 8} (all at 0) (λ past. omega (arith, get_or_past bytes at 0 past)) (cases_lt at (length bytes))

length_is : (bytes : List ℕ) → (node_of bytes).length ≡ slice_index bytes 14
unfolding node_of
length_is bytes = refl

module _ (content : List ℕ) (long : length content ≡ memory_size) (bytes : All (λ byte. byte < 2 ^ 8) content) (right : AreNodesRight content) where
  abbrev node : ℕ → Node
  node number = node_at content number

  short_length : (number : ℕ) → is_file content number ≡ true → (node number).length < 2 ^ 8
  short_length number is =
      let place = node_place number in
      let cut = All-take (λ byte. byte < 2 ^ 8) (place + 16 - place) (drop place content) (All-drop (λ byte. byte < 2 ^ 8) place content bytes) in
      let there : (node number).length ≡ slice_index (node_bytes content number) 14 = ap (λ (n : Node). n.length) (node_there content number is) ∙ length_is (node_bytes content number) in
      omega (arith, byte_fits (node_bytes content number) 14 cut)

  abbrev records_there : ℕ → List (List ℕ)
  records_there number = from_head (node number).head (records_of (node number).length (record_count (node number)) (file_bytes content (node number)))

  df_has_none : (number : ℕ) → (node number).kind ≡ df_kind → HasShortRecords (file_at content number).contents
  df_has_none number df = subst (λ (f : File). HasShortRecords f.contents) (sym (file_of_df content number (node number) df)) tt

  placed_short : (number : ℕ) → is_file content number ≡ true → IsPlacedFile (is_wide content) (nodes_below content number) (node number) → HasShortRecords (file_at content number).contents
  placed_short number is file =
      ⊎_elim {C = HasShortRecords (file_at content number).contents} (df_has_none number)
      (λ kind.
      let not_df = ef_is_no_df (node number).kind kind in
      let ef = file.ef not_df in
      let whole = file_bytes_length (is_wide content) content (node number) long ef.to in
      subst (λ (f : File). HasShortRecords f.contents) (sym (file_of_ef content number (node number) not_df))
      (⊎_elim {C = HasShortRecords (contents_of content (node number))} (λ plain. subst HasShortRecords (sym (holds_bytes content (node number) plain)) tt)
      (λ records.
      let has = ef.records records in
      let each = each_whole content (node number) whole (record { some = has.length; whole = has.whole; few = has.few }) in
      let short = All-weaker (λ one. length one ≡ (node number).length) (λ one. length one < 2 ^ 8) (λ one same. omega (arith, short_length number is)) (records_there number) each in
      subst HasShortRecords (sym (holds_records content (node number) not_df (records_are_no_bytes (node number).kind records))) short)
      (ef_cases (node number).kind kind)))
      file.placed.kind

  short_records : (number : ℕ) → number < 128 → is_file content number ≡ true → HasShortRecords (file_at content number).contents
  short_records number low is =
      ⊎_elim {C = HasShortRecords (file_at content number).contents} (λ first. df_has_none number (ap (λ (n : ℕ). (node n).kind) first ∙ right.first.kind))
      (λ other. placed_short number is (right.each number low other is)) (cases_eq number 0)

  pub all_short : All (λ file. HasShortRecords file.contents) (files content)
  unfolding files
  all_short = all_kept (file_at content) (is_file content) (λ file. HasShortRecords file.contents) 128 short_records

pub records_short : RecordsAreShort
records_short store_mark content state long bytes is =
    let told = stands_told store_mark content state is in
    subst (λ (s : Persistent). All (λ file. HasShortRecords file.contents) s.files) (sym (state_listed content) ∙ told.1) (all_short content long bytes (nodes_told content told.0.nodes))
