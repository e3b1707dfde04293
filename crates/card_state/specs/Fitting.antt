-- Which file and which row a sound state may have more, or in place of another.
use Rattle.std.specs.Prelude.{◌≡◌, ◌≢◌, ◌⊎◌, ◌≤◌, ◌<◌, ◌==◌, not, length, All, Contains, count_by}
use Rattle.card_state.specs.Kinds.{activated, deactivated, call_control_code}
use Rattle.card_state.specs.Places.{kept_limit}
use Rattle.card_state.specs.Persistent.{File, Registration, Persistent}
use Rattle.card_state.specs.Soundness.{IsDf, IsEf, IsSoundFile, AreApart, AreEventCodes, IsSoundRow}

-- two files in one state: in one DF their identifiers and their short identifiers differ; EFs share no byte
pub record MayStandBeside (a b : File) : Type 0 where
  pub id : a.parent ≡ b.parent → a.id ≢ b.id
  pub short : IsEf a → IsEf b → a.parent ≡ b.parent → (a.short ≡ 0) ⊎ (a.short ≢ b.short)
  pub bytes : IsEf a → IsEf b → AreApart a b

-- A file for which there is room among the others, under a new number or in place of the file of its number: of a DF a DF.
pub record FitsAmong (state : Persistent) (file : File) : Type 0 where
  pub sound : IsSoundFile state.is_wide state.files file
  pub others : All (λ other. other.number ≢ file.number → MayStandBeside other file) state.files
  pub in_place : All (λ other. other.number ≡ file.number → IsDf other → IsDf file) state.files

-- an EF with another life cycle status or another rule
pub record IsFileAnew (state : Persistent) (old file : File) : Type 0 where
  pub there : Contains state.files old
  pub is_ef : IsEf old
  pub others : file ≡ record old { life = file.life; rule = file.rule }
  pub life : (file.life ≡ deactivated) ⊎ (file.life ≡ activated)

-- two rows are not both registered for call control
abbrev pub ShareNoCallControl : Registration → Registration → Type 0
ShareNoCallControl a b = Contains a.codes call_control_code → Contains b.codes call_control_code → ⊥

-- A row for which there is room among the others, on a shelf that is free or in place of the row there. At most 16 have a text.
pub record FitsOnShelf (state : Persistent) (row : Registration) : Type 0 where
  pub sound : IsSoundRow state.is_wide state.next_sequence row
  pub sequence : All (λ other. other.shelf ≢ row.shelf → other.sequence ≢ row.sequence) state.rows
  pub call_control : All (λ other. other.shelf ≢ row.shelf → ShareNoCallControl row other) state.rows
  pub text : (length row.text ≡ 0) ⊎ (count_by (λ other. not (length other.text == 0)) state.rows < 16)

-- A row with other codes or other kept bytes. It takes call control only if it had it, or if no other row has it.
pub record IsRowAnew (state : Persistent) (old row : Registration) : Type 0 where
  pub there : Contains state.rows old
  pub others : row ≡ record old { codes = row.codes; kept = row.kept }
  pub codes : AreEventCodes row.codes
  pub kept : length row.kept ≤ kept_limit state.is_wide
  pub call_control : (Contains row.codes call_control_code → Contains old.codes call_control_code) ⊎ All (λ other. other.shelf ≢ old.shelf → ShareNoCallControl row other) state.rows
