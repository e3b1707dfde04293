-- The bytes of what is sent, where a length is that of a text.
use Rattle.std.proofs.Common.{◌≡◌, ℕ, ◌+◌, ◌≤◌, List, [], ◌∷◌, ◌++◌, length, refl, sym, ap, ◌∙◌, arith, lt-ltb, append-nil}
use Rattle.comprehension_tlv.specs.Writing.{spellings, tagged}
use Rattle.toolkit_commands.specs.declared.tags.TheConstants.{EVENT_DOWNLOAD}
use Rattle.handset_model.specs.Sending.{envelope, report_objects, toolkit_apdu}
use Rattle.handset_model.specs.declared.commands.Report.TheVariants.{Location}

pub enveloped : (apdu front objects : List ℕ) (template : ℕ) → length objects ≤ 100
    → front ≡ 0x80 ∷ 0xC2 ∷ 0x00 ∷ 0x00 ∷ (length objects + 2) ∷ template ∷ length objects ∷ [] → apdu ≡ front ++ objects
    → apdu ≡ toolkit_apdu 0xC2 (tagged template objects)
unfolding tagged
enveloped apdu front objects template few front_is is = rw (is, front_is, lt-ltb (length objects) 128 (omega arith)) (ap (λ (size : ℕ). 0x80 ∷ 0xC2 ∷ 0x00 ∷ 0x00 ∷ size ∷ template ∷ length objects ∷ objects) (omega arith))

-- the objects of a location
abbrev located_objects : List ℕ → List ℕ
located_objects place = 0x99 ∷ 1 ∷ 3 ∷ 0x82 ∷ 2 ∷ 0x82 ∷ 0x81 ∷ 0x9B ∷ 1 ∷ 0 ∷ 0x93 ∷ length place ∷ place

objects_are : (place : List ℕ) → length place ≤ 32 → spellings (report_objects (Location place)) ≡ located_objects place
unfolding tagged
objects_are place few = rw (lt-ltb (length place) 128 (omega arith), append-nil place) refl

pub located : (apdu front place : List ℕ) → length place ≤ 32
    → front ≡ 0x80 ∷ 0xC2 ∷ 0x00 ∷ 0x00 ∷ (length place + 14) ∷ EVENT_DOWNLOAD ∷ (length place + 12) ∷ 0x99 ∷ 1 ∷ 0x03 ∷ 0x82 ∷ 2 ∷ 0x82 ∷ 0x81 ∷ 0x9B ∷ 1 ∷ 0 ∷ 0x93 ∷ length place ∷ []
    → apdu ≡ front ++ place → apdu ≡ toolkit_apdu 0xC2 (envelope (Location place))
located apdu front place few front_is is =
    let objects = located_objects place in
    let size : length place + 12 ≡ length objects = omega arith in
    let more : length place + 14 ≡ length objects + 2 = omega arith in
    let whole : apdu ≡ (0x80 ∷ 0xC2 ∷ 0x00 ∷ 0x00 ∷ (length objects + 2) ∷ EVENT_DOWNLOAD ∷ length objects ∷ []) ++ objects =
    is ∙ ap (λ (front : List ℕ). front ++ place) front_is
    ∙ ap (λ (count : ℕ). 0x80 ∷ 0xC2 ∷ 0x00 ∷ 0x00 ∷ count ∷ EVENT_DOWNLOAD ∷ (length place + 12) ∷ objects) more
    ∙ ap (λ (count : ℕ). 0x80 ∷ 0xC2 ∷ 0x00 ∷ 0x00 ∷ (length objects + 2) ∷ EVENT_DOWNLOAD ∷ count ∷ objects) size in
    enveloped apdu _ objects EVENT_DOWNLOAD (omega arith) refl whole ∙ ap (λ (found : List ℕ). toolkit_apdu 0xC2 (tagged EVENT_DOWNLOAD found)) (sym (objects_are place few))
