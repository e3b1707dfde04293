-- What lines after others are for.
use Rattle.std.proofs.Common.{◌≡◌, List, [], ◌∷◌, ◌++◌, ap, ◌∙◌, append-nil}
use Rattle.std.proofs.lemmas.List.Concat.{flat_map-append}
use Rattle.script_form.specs.declared.lines.ScriptLine.{ScriptLine}
use Rattle.uicc_run.specs.Accounts.{Deed}
use Rattle.uicc_run.specs.Steps.{deeds, deeds_of}

-- a line after others
pub deeds_none : (played : List ScriptLine) (line : ScriptLine) → deeds_of line ≡ [] → deeds (played ++ line ∷ []) ≡ deeds played
deeds_none played line none = flat_map-append deeds_of played (line ∷ []) ∙ ap (λ more. deeds played ++ (more ++ [])) none ∙ append-nil (deeds played)

pub deeds_one : (played : List ScriptLine) (line : ScriptLine) (deed : Deed) → deeds_of line ≡ deed ∷ [] → deeds (played ++ line ∷ []) ≡ deeds played ++ deed ∷ []
deeds_one played line deed one = flat_map-append deeds_of played (line ∷ []) ∙ ap (λ last. deeds played ++ (last ++ [])) one
