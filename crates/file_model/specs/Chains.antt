-- How a command is tested: one test after the other, in the written order. The first that is not met refuses it.
use Rattle.std.specs.Prelude.{Bool, not, if◌then◌else◌, Option, Some, None, Result, Ok, Err}
use Rattle.uicc_types.specs.declared.answers.StatusWord.{StatusWord}

-- refused with this status where this is so, or else tested further
unfoldable pub refused_if : {X : Type 0} → Bool → StatusWord → Result X StatusWord → Result X StatusWord
refused_if bad status next = if bad then Err status else next

-- refused with this status where this is not so, or else tested further
abbrev pub needs : {X : Type 0} → Bool → StatusWord → Result X StatusWord → Result X StatusWord
needs good status next = refused_if (not good) status next

-- refused with this status where there is none, or else tested further with what there is
unfoldable pub given : {X Y : Type 0} → Option X → StatusWord → (X → Result Y StatusWord) → Result Y StatusWord
given None status next = Err status
given (Some x) status next = next x

-- refused where this was, or else tested further with what came of it
unfoldable pub and_given : {X Y : Type 0} → Result X StatusWord → (X → Result Y StatusWord) → Result Y StatusWord
and_given (Err status) next = Err status
and_given (Ok x) next = next x
