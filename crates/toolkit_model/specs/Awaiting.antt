-- A response reaches the applet that asked: what is noted of one applet's turns and of the answers to its commands.
use Rattle.std.specs.Prelude.{◌≡◌, ℕ, Bool, true, false, ◌==◌, if◌then◌else◌, List, [], ◌∷◌, Option, Some, None}
use Rattle.toolkit_commands.specs.declared.commands.Proactive.{Proactive}
use Rattle.toolkit_commands.specs.declared.responses.Response.{Response as Reply}
use Rattle.applet_trait.specs.declared.stimuli.Stimulus.{Stimulus}
use Rattle.applet_trait.specs.declared.stimuli.Stimulus.TheVariants.{Response}
use Rattle.applet_trait.specs.declared.stimuli.Act.{Act}
use Rattle.applet_trait.specs.declared.stimuli.Act.TheVariants.{Send}
use Rattle.toolkit_model.specs.Sessions.{Outstanding, Sent}
use Rattle.toolkit_model.specs.Passing.{ShelfTurn, Happening, Woke, Fetched, Responded, Given, Turned, Committed}

-- an applet awaits nothing, the answer to its command, or to be told of the answer that came
pub data Awaits : Type 0 where
  Nothing : Awaits
  Answer : Proactive → Awaits
  Telling : Reply → Awaits

-- what the applet of a shelf awaits, where these commands wait for an answer
abbrev pub awaited : ℕ → List Sent → Awaits
awaited shelf [] = Nothing
awaited shelf (sent ∷ others) = if sent.shelf == shelf then Answer sent.command else awaited shelf others

-- the stimulus is no response
abbrev pub IsNoResponse : Stimulus → Type 0
IsNoResponse (Response result item text) = ⊥
IsNoResponse _ = Unit {0}

-- what it may be told then: of an answer exactly where one came, and of that one; nothing while it waits for one
abbrev pub IsTold : Awaits → Stimulus → Type 0
IsTold Nothing stimulus = IsNoResponse stimulus
IsTold (Answer command) stimulus = ⊥
IsTold (Telling reply) stimulus = stimulus ≡ Response reply.result reply.item reply.text

-- an applet that sent a command waits for the answer to it
abbrev pub asked_by : Act → Awaits
asked_by (Send command) = Answer command
asked_by _ = Nothing

-- after a turn it awaits the answer to the command that it sent, if that was admitted
abbrev pub awaits_after : ShelfTurn → Awaits
awaits_after turn = if turn.is_admitted then asked_by turn.act else Nothing

-- a turn of this applet, or of another
abbrev pub OnTurn : Bool → ShelfTurn → Awaits → (Awaits → Type 0) → Type 0
OnTurn true turn held next = IsTold held turn.stimulus × next (awaits_after turn)
OnTurn false turn held next = next held

-- an answer to this applet's command, or to another's
abbrev pub OnReply : Bool → Outstanding → Reply → Awaits → (Awaits → Type 0) → Type 0
OnReply true out reply held next = (held ≡ Answer out.command) × next (Telling reply)
OnReply false out reply held next = next held

-- the command that is outstanding is of the applet on this shelf
abbrev pub is_owner : ℕ → Option ℕ → Bool
is_owner shelf None = false
is_owner shelf (Some owner) = owner == shelf

-- From what the applet of a shelf awaits to what it awaits then: after a command of it was admitted, its next turn is told of
-- the answer that was accepted to that command, and each answer to its command is told it once.
abbrev pub ReachesWhoAsked : ℕ → Awaits → List Happening → Awaits → Type 0
ReachesWhoAsked shelf held [] now = held ≡ now
ReachesWhoAsked shelf held (Woke ∷ log) now = ReachesWhoAsked shelf Nothing log now
ReachesWhoAsked shelf held (Responded out reply ∷ log) now = OnReply (is_owner shelf out.owner) out reply held (λ later. ReachesWhoAsked shelf later log now)
ReachesWhoAsked shelf held (Turned turn ∷ log) now = OnTurn (turn.shelf == shelf) turn held (λ later. ReachesWhoAsked shelf later log now)
ReachesWhoAsked shelf held (Fetched out ∷ log) now = ReachesWhoAsked shelf held log now
ReachesWhoAsked shelf held (Given trigger ∷ log) now = ReachesWhoAsked shelf held log now
ReachesWhoAsked shelf held (Committed change rows ∷ log) now = ReachesWhoAsked shelf held log now
