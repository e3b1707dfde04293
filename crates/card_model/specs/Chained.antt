-- Where no refusal matters.
use Rattle.std.specs.Prelude.{⊤}
use Rattle.uicc_types.specs.declared.answers.StatusWord.{StatusWord}

-- any status
abbrev pub Any : StatusWord → Type 0
Any status = ⊤
