-- What SELECT and STATUS answer is read back, object by object, and tells what the file is (ETSI TS 102 221, 11.1.1.3 and 11.1.1.4).
use Rattle.std.specs.Prelude.{◌≡◌, ℕ, ◌^◌, ◌<◌, ◌≤◌, List, ◌∷◌, length, Contains, Option, Some, IfSome, Ok}
use Rattle.apdu_form.specs.Model.{Apdu, cut_to}
use Rattle.card_state.specs.Persistent.{File, Persistent, Pin}
use Rattle.card_state.specs.Soundness.{IsSound}
use Rattle.file_model.specs.Fcp.{fcp}
use Rattle.file_model.specs.Files.{descriptor_in, descriptors_in, file_found}
use Rattle.file_model.specs.Laws.{IsSoundCard}
use Rattle.file_model.specs.Outcomes.{FileOutcome}
use Rattle.file_model.specs.Selecting.{file_selected, status_told}
use Rattle.file_model.specs.Selections.{chosen}
use Rattle.file_model.specs.declared.descriptors.Descriptor.{Descriptor}
use Rattle.file_model.specs.declared.descriptors.Wanted.TheVariants.{Number}
use Rattle.file_model.specs.declared.selections.Selection.{Selection}
use Rattle.card_laws.specs.Fcp.{file_told, objects_in, pins_told}

-- The template 62 with the length of what follows. That falls apart into just the objects that tell of the file, and the value of the PIN
-- status among them into just those that tell of the PINs.
pub record IsFcp (pins : List Pin) (file : Descriptor) (bytes : List ℕ) : Type 0 where
  pub value : List ℕ
  pub of_pins : List ℕ
  pub one_object : bytes ≡ 0x62 ∷ length value ∷ value
  pub short : length value ≤ 127
  pub parts : objects_in value ≡ Some (file_told of_pins file)
  pub pin_parts : objects_in of_pins ≡ Some (pins_told pins)

-- so it is of every file
abbrev pub FcpAreObjects : Type 0
FcpAreObjects = (state : Persistent) (file : Descriptor) → IsSound state → IsFcp state.pins file (fcp state.pins file)

-- SELECT answers those of the file that it selects, before Le cuts them,
abbrev pub SelectAnswersFcp : Type 0
SelectAnswersFcp = (state : Persistent) (selection : Selection) (apdu : Apdu) (outcome : FileOutcome)
    → IsSound state → file_selected state selection apdu ≡ Ok outcome → apdu.p2 ≡ 0x04
    → (file : Descriptor) × (chosen (descriptors_in state) selection apdu ≡ Some file) × IsFcp state.pins file outcome.body

-- and STATUS those of the current DF
abbrev pub StatusAnswersFcp : Type 0
StatusAnswersFcp = (state : Persistent) (selection : Selection) (apdu : Apdu) (outcome : FileOutcome)
    → IsSound state → status_told state selection apdu ≡ Ok outcome → apdu.p2 ≡ 0x00
    → (df : Descriptor) × (file_found (descriptors_in state) (Number selection.df) ≡ Some df) × IsFcp state.pins df outcome.body

-- No Le, and no Le that allows 129 bytes (256 does), cuts anything off.
abbrev pub FcpAreNotCut : Type 0
FcpAreNotCut = (expected : Option ℕ) (pins : List Pin) (file : Descriptor) (bytes : List ℕ)
    → IsFcp pins file bytes → IfSome expected (λ most. 129 ≤ most) → cut_to expected bytes ≡ bytes

-- the identifiers of a file have two bytes
pub record HasShortIdentifiers (file : File) : Type 0 where
  pub id : file.id < 2 ^ 16
  pub arr : IfSome file.rule (λ rule. rule.arr < 2 ^ 16)

-- the file control parameters can tell no difference between two files
pub record AreToldAlike (one other : Descriptor) : Type 0 where
  pub kind : one.kind ≡ other.kind
  pub id : one.id ≡ other.id
  pub life : one.life ≡ other.life
  pub rule : one.rule ≡ other.rule
  pub size : one.size ≡ other.size
  pub width : one.width ≡ other.width
  pub count : one.count ≡ other.count
  pub short : one.short ≡ other.short

-- Two files, of one card or of two, of which the same is answered, are alike in all that is told.
abbrev pub FcpTellFiles : Type 0
FcpTellFiles = (state another : Persistent) (file other : File)
    → IsSoundCard state → IsSoundCard another → Contains state.files file → Contains another.files other → HasShortIdentifiers file → HasShortIdentifiers other
    → fcp state.pins (descriptor_in file) ≡ fcp another.pins (descriptor_in other)
    → AreToldAlike (descriptor_in file) (descriptor_in other)
