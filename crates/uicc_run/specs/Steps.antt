-- What the lines after `start` are for the card and the link before it.
use Rattle.std.specs.List.{flat_map}
use Rattle.std.specs.Prelude.{Bool, true, false, List, [], ◌∷◌, Some}
use Rattle.uicc_types.specs.declared.plans.TheConstants.Plan.{NONE}
use Rattle.uicc_types.specs.declared.runs.Step.TheVariants as step
use Rattle.script_form.specs.declared.lines.ScriptLine.{ScriptLine}
use Rattle.script_form.specs.declared.lines.ScriptLine.TheVariants.{Passed, Reset, Apdu, Tpdu, Cut, Fail, ReadFail}
use Rattle.phone_runs.specs.Lines.{may_be_heard}
use Rattle.uicc_run.specs.Accounts.{Deed, Takes, Transfers}

-- whether a line may stand after `start`
abbrev pub may_follow : ScriptLine → Bool
may_follow Passed = true
may_follow (Apdu bytes) = true
may_follow Reset = true
may_follow (Cut cut) = true
may_follow (Fail fail) = true
may_follow (ReadFail call) = true
may_follow (Tpdu bytes) = true
may_follow line = false

-- the same where the lines go to a handset, or else to the card
abbrev pub may_stand : Bool → ScriptLine → Bool
may_stand true line = may_be_heard line
may_stand false line = may_follow line

-- what it is for the card and the link before it
abbrev pub deeds_of : ScriptLine → List Deed
deeds_of (Apdu bytes) = Takes (step.Apdu bytes) ∷ []
deeds_of Reset = Takes step.Reset ∷ []
deeds_of (Cut cut) = Takes (step.Plan (record NONE { cut = Some cut })) ∷ []
deeds_of (Fail fail) = Takes (step.Plan (record NONE { fail = Some fail })) ∷ []
deeds_of (ReadFail call) = Takes (step.Plan (record NONE { read_fail = Some call })) ∷ []
deeds_of (Tpdu bytes) = Transfers bytes ∷ []
deeds_of line = []

-- the same of the lines after `start`
abbrev pub deeds : List ScriptLine → List Deed
deeds played = flat_map deeds_of played
