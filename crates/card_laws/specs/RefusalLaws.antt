-- A command on files is refused for the first thing that speaks against it, and is carried out where nothing does (ETSI TS 102 221, 11.1.3 to
-- 11.1.8, and 9.2 and 9.5 on who may do what).
use Rattle.std.specs.Prelude.{◌≡◌, ◌↔◌, ℕ, true, false, List, ◌∷◌, ◌++◌, Option, Some, None, Result, Ok, Err, All}
use Rattle.uicc_types.specs.declared.answers.StatusWord.{StatusWord}
use Rattle.apdu_form.specs.Model.{Apdu}
use Rattle.card_state.specs.Kinds.{activated}
use Rattle.card_state.specs.Persistent.{Persistent}
use Rattle.card_state.specs.Soundness.{IsSound}
use Rattle.access_rules.specs.declared.rules.Op.{Op}
use Rattle.access_rules.specs.declared.rules.Verified.{Verified}
use Rattle.file_model.specs.TreeOutcomes.{TreeOutcome}
use Rattle.file_model.specs.Access.{may}
use Rattle.file_model.specs.Outcomes.{FileOutcome}
use Rattle.file_model.specs.declared.descriptors.Descriptor.{Descriptor}
use Rattle.file_model.specs.declared.selections.Selection.{Selection}
use Rattle.card_laws.specs.Refusals.{Refusal, file_meant}

-- a command on files: what it comes to in this state, with these keys verified and this file selected
abbrev pub CommandOnFiles : Type 0
CommandOnFiles = Persistent → Verified → Selection → Apdu → Result FileOutcome StatusWord

-- a condition that is not met refuses nothing
abbrev pub DoesNotHold : Refusal → Type 0
DoesNotHold refusal = refusal.0 ≡ false

-- the first of these conditions that holds has this status
pub record IsFirst (refusals : List Refusal) (status : StatusWord) : Type 0 where
  pub before : List Refusal
  pub behind : List Refusal
  pub stands : refusals ≡ before ++ (true, status) ∷ behind
  pub none_before : All DoesNotHold before

-- it is refused with a status exactly where the first condition that holds has that one, and is carried out exactly where none holds
pub record IsTestedBy {X : Type 0} (refusals : List Refusal) (result : Result X StatusWord) : Type 0 where
  pub refused : (status : StatusWord) → (result ≡ Err status) ↔ IsFirst refusals status
  pub carried_out : ((outcome : X) × (result ≡ Ok outcome)) ↔ All DoesNotHold refusals

-- so it is whatever the command is given
abbrev pub IsRefusedFor : (Persistent → Verified → Selection → Apdu → List Refusal) → CommandOnFiles → Type 0
IsRefusedFor refusals command = (state : Persistent) (seen : Verified) (selection : Selection) (apdu : Apdu) → IsTestedBy (refusals state seen selection apdu) (command state seen selection apdu)

-- a command that makes, deletes or resizes a file: what it comes to with this selected on each channel, on this one
abbrev pub TreeCommand : Type 0
TreeCommand = Persistent → Verified → List (Option Selection) → ℕ → Apdu → Result TreeOutcome StatusWord

-- A command that makes, deletes or resizes a file is refused for the first of these, and for nothing else.
abbrev pub IsTreeRefusedFor : (Persistent → Verified → List (Option Selection) → ℕ → Apdu → List Refusal) → TreeCommand → Type 0
IsTreeRefusedFor refusals command =
    (state : Persistent) (seen : Verified) (channels : List (Option Selection)) (channel : ℕ) (apdu : Apdu)
    → IsTestedBy (refusals state seen channels channel apdu) (command state seen channels channel apdu)

-- one that is carried out was asked for while ADM1 counts as verified, which a key does that is disabled, too (ETSI TS 102 221, 9.5.1)
abbrev pub IsDoneByAdm : TreeCommand → Type 0
IsDoneByAdm command =
    (state : Persistent) (seen : Verified) (channels : List (Option Selection)) (channel : ℕ) (apdu : Apdu) (outcome : TreeOutcome)
    → command state seen channels channel apdu ≡ Ok outcome → seen.adm1 ≡ true

-- The file that a command works on is there and activated, and its rule lets this be done with these keys verified.
pub record IsAdmitted (state : Persistent) (seen : Verified) (selection : Selection) (short : Option ℕ) (op : Op) : Type 0 where
  pub file : Descriptor
  pub there : file_meant state selection short ≡ Some file
  pub life : file.life ≡ activated
  pub granted : may state op seen file ≡ true

-- a command that is carried out was admitted
abbrev pub IsDoneByLeave : Op → (Apdu → Option ℕ) → CommandOnFiles → Type 0
IsDoneByLeave op short_in command =
    (state : Persistent) (seen : Verified) (selection : Selection) (apdu : Apdu) (outcome : FileOutcome)
    → IsSound state → command state seen selection apdu ≡ Ok outcome → IsAdmitted state seen selection (short_in apdu) op

-- The current EF is there, and its rule lets this be done with these keys verified, be it activated or not.
pub record IsGranted (state : Persistent) (seen : Verified) (selection : Selection) (op : Op) : Type 0 where
  pub file : Descriptor
  pub there : file_meant state selection None ≡ Some file
  pub granted : may state op seen file ≡ true

-- a command on the life cycle of a file that is carried out was granted
abbrev pub IsDoneByRule : Op → CommandOnFiles → Type 0
IsDoneByRule op command =
    (state : Persistent) (seen : Verified) (selection : Selection) (apdu : Apdu) (outcome : FileOutcome)
    → command state seen selection apdu ≡ Ok outcome → IsGranted state seen selection op
