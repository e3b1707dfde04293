-- What an envelope that was read in place says.
use Rattle.std.specs.Prelude.{ℕ, List, []}
use Rattle.toolkit_commands.specs.declared.envelopes.Envelope.{Envelope}
use Rattle.toolkit_commands.specs.declared.envelopes.Envelope.TheVariants.{Menu, CallControl, Event, Timer}
use Rattle.toolkit_commands.specs.declared.envelopes.EnvelopeRef.{EnvelopeRef}
use Rattle.toolkit_commands.specs.declared.envelopes.EnvelopeRef.TheVariants as Reports

-- the envelope, without where its bytes lie
abbrev pub reported : EnvelopeRef → Envelope
reported (Reports.Menu item) = Menu item
reported (Reports.CallControl address) = CallControl address.now
reported (Reports.Event code body) = Event code body.now
reported (Reports.Timer timer) = Timer timer

-- the bytes that it hands on
abbrev pub bytes_in : EnvelopeRef → List ℕ
bytes_in (Reports.CallControl address) = address.now
bytes_in (Reports.Event code body) = body.now
bytes_in _ = []
