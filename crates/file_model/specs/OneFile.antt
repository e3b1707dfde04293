-- What a command that was carried out has made of the files of a card.
use Rattle.std.specs.Prelude.{◌≡◌, ◌≢◌, ℕ, ◌+◌, ◌≤◌, ◌<◌, true, List, length, All, Option, Some, None, is_some, option_map, slice_index, IfOk, ⊤}
use Rattle.apdu_form.specs.Model.{Apdu}
use Rattle.card_state.specs.Decoding.{number_at}
use Rattle.card_state.specs.Kinds.{df_kind, activated}
use Rattle.card_state.specs.Persistent.{Contents, Files, Bytes, Records, File, Persistent}
use Rattle.card_state.specs.Sections.{kind_of, size_of}
use Rattle.card_state.specs.Soundness.{AreContents, IsSound}
use Rattle.card_state.specs.StateLaws.{file_with_number}
use Rattle.access_rules.specs.declared.rules.Verified.{Verified}
use Rattle.file_model.specs.declared.selections.Selection.{Selection}
use Rattle.file_model.specs.Outcomes.{last_of}
use Rattle.file_model.specs.declared.asked.NewFile.{NewFile}
use Rattle.file_model.specs.declared.asked.NewFile.TheVariants.{Df, Ef}
use Rattle.file_model.specs.Creating.{rule_in, created}
use Rattle.file_model.specs.Deleting.{deleted}
use Rattle.file_model.specs.TreeOutcomes.{df_on}
use Rattle.file_model.specs.Resizing.{size_asked, resized}
use Rattle.file_model.specs.Templates.{template}

-- each file but that of this number is as it was, and so is all that is no file
pub record OthersStay (number : ℕ) (before after : Persistent) : Type 0 where
  pub files : (other : ℕ) → other ≢ number → file_with_number after other ≡ file_with_number before other
  pub wide : after.is_wide ≡ before.is_wide
  pub pins : after.pins ≡ before.pins
  pub rows : after.rows ≡ before.rows
  pub next : after.next_sequence ≡ before.next_sequence

-- ---- CREATE FILE

-- the smallest number above this one that no file has
pub record IsSmallestFree (state : Persistent) (above number : ℕ) : Type 0 where
  pub greater : above < number
  pub free : file_with_number state number ≡ None
  pub smallest : (other : ℕ) → above < other → other < number → is_some (file_with_number state other) ≡ true

-- what the template says of it; an EF is activated
abbrev pub IsAsAsked : NewFile → File → Type 0
IsAsAsked (Df id) file = (file.kind ≡ df_kind) × (file.id ≡ id.0)
IsAsAsked (Ef id shape short rule) file =
    (file.kind ≡ kind_of shape) × (file.id ≡ id.0) × (file.size ≡ size_of shape) × (file.short ≡ short) × (file.rule ≡ option_map rule_in rule) × (file.life ≡ activated)

-- each byte is FF
abbrev pub IsBlank : Contents → Type 0
IsBlank Files = ⊤
IsBlank (Bytes bytes) = All (λ byte. byte ≡ 0xFF) bytes
IsBlank (Records records) = All (All (λ byte. byte ≡ 0xFF)) records

-- there is one file more, that which the template asks for
pub record MakesOneFile (before : Persistent) (df : ℕ) (bytes : List ℕ) (after : Persistent) : Type 0 where
  pub asked : NewFile
  pub told : bytes ≡ template asked
  pub file : File
  pub number : IsSmallestFree before df file.number
  pub in_df : file.parent ≡ df
  pub as_asked : IsAsAsked asked file
  pub whole : AreContents file.kind file.size file.contents
  pub blank : IsBlank file.contents
  pub there : file_with_number after file.number ≡ Some file
  pub one_more : length after.files ≡ length before.files + 1
  pub others : OthersStay file.number before after

-- a CREATE FILE that is carried out makes one file
abbrev pub CreatesOneFile : Type 0
CreatesOneFile =
    (state : Persistent) (seen : Verified) (channels : List (Option Selection)) (channel : ℕ) (apdu : Apdu)
    → IfOk (created state seen channels channel apdu) (λ outcome. MakesOneFile state (df_on channels channel) apdu.body (last_of state outcome.passed))

-- ---- a file that is there

-- a file of this DF with this identifier
pub record IsNamed (state : Persistent) (df id : ℕ) (file : File) : Type 0 where
  pub there : file_with_number state file.number ≡ Some file
  pub in_df : file.parent ≡ df
  pub has_id : file.id ≡ id

-- ---- DELETE FILE

-- it is gone
pub record TakesOneFile (before : Persistent) (df id : ℕ) (after : Persistent) : Type 0 where
  pub file : File
  pub named : IsNamed before df id file
  pub gone : file_with_number after file.number ≡ None
  pub one_less : length after.files + 1 ≡ length before.files
  pub others : OthersStay file.number before after

-- a DELETE FILE that is carried out takes one file
abbrev pub DeletesOneFile : Type 0
DeletesOneFile =
    (state : Persistent) (seen : Verified) (channels : List (Option Selection)) (channel : ℕ) (apdu : Apdu)
    → IsSound state → IfOk (deleted state seen channels channel apdu) (λ outcome. TakesOneFile state (df_on channels channel) (number_at apdu.body 0) (last_of state outcome.passed))

-- ---- RESIZE FILE

-- it has so many bytes: the first of those that it held, and FF after them
pub record FitsOneFile (before : Persistent) (df id size : ℕ) (after : Persistent) : Type 0 where
  pub file : File
  pub named : IsNamed before df id file
  pub held : List ℕ
  pub holds : file.contents ≡ Bytes held
  pub place : ℕ
  pub bytes : List ℕ
  pub there : file_with_number after file.number ≡ Some (record file { place = place; size = size; contents = Bytes bytes })
  pub long : length bytes ≡ size
  pub kept : (k : ℕ) → k < size → k < length held → slice_index bytes k ≡ slice_index held k
  pub blank : (k : ℕ) → k < size → length held ≤ k → slice_index bytes k ≡ 0xFF
  pub others : OthersStay file.number before after

-- a RESIZE FILE that is carried out resizes one file
abbrev pub ResizesOneFile : Type 0
ResizesOneFile =
    (state : Persistent) (seen : Verified) (channels : List (Option Selection)) (channel : ℕ) (apdu : Apdu)
    → IsSound state → IfOk (resized state seen channels channel apdu) (λ outcome. FitsOneFile state (df_on channels channel) (number_at apdu.body 0) (size_asked apdu) (last_of state outcome.passed))
