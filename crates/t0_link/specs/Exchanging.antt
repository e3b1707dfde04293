-- What became of a TPDU or of a command over the link to an endpoint.
use Rattle.std.specs.Prelude.{◌≡◌, List, ℕ, Result, Ok, Err, OnOk, ⊤}
use Rattle.uicc_types.specs.declared.answers.Answer.{Answer}
use Rattle.t0_link.specs.declared.endpoint.Endpoint.{Ghosts as EndpointWords}
use Rattle.t0_link.specs.declared.endpoint.LinkFault.{LinkFault}
use Rattle.t0_link.specs.Linking.{Linked, Course, Answers, Passes}
use Rattle.t0_link.specs.Transmitting.{Transmits}

-- this APDU was passed to the endpoint, and of what it answered the link made this
pub record HasPassed {E : Type 0} (words : EndpointWords E) (old new : E) (apdu : List ℕ) (linked : Answer → Linked) (result : Result ⊤ LinkFault) (left : Linked) : Type 0 where
  pub answer : Answer
  pub transmitted : Transmits words.is_on words.step words.lost old new apdu result answer
  pub answered : OnOk result (left ≡ linked answer)

-- The course was taken. Where the link answers by itself, nothing is passed to the endpoint, and it stays as it is.
abbrev pub Exchanges : {E : Type 0} → EndpointWords E → E → E → Course → Result ⊤ LinkFault → Linked → Type 0
Exchanges words old new (Answers linked) (Ok done) left = (new ≡ old) × (left ≡ linked)
Exchanges words old new (Answers linked) (Err fault) left = ⊥
Exchanges words old new (Passes apdu linked) result left = HasPassed words old new apdu linked result left

-- the card has a part in it
abbrev pub IsPassed : Course → Type 0
IsPassed (Answers linked) = ⊥
IsPassed (Passes apdu linked) = Unit {0}
