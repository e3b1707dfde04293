-- An applet is told of all answers that were accepted to its commands.
use Rattle.std.proofs.Common.{◌≡◌, ℕ, Bool, true, false, List, [], ◌∷◌, ◌++◌, Option, Some, None, refl, sym, ◌∙◌, ap, subst, ◌==◌, if◌then◌else◌, option_to_list, append-nil}
use Rattle.std.specs.List.{list_any, cons_option}
use Rattle.std.proofs.lemmas.Bool.{false≢true}
use Rattle.std.proofs.lemmas.List.Elements.{filter_map-append}
use Rattle.toolkit_commands.specs.declared.responses.Response.{Response as Reply}
use Rattle.applet_trait.specs.declared.stimuli.Stimulus.{Stimulus}
use Rattle.applet_trait.specs.declared.stimuli.Stimulus.TheVariants.{Event, Response, Went, Refused, Timer}
use Rattle.applet_trait.specs.declared.stimuli.Act.{Act}
use Rattle.applet_trait.specs.declared.stimuli.Act.TheVariants as Acts
use Rattle.toolkit_model.specs.Sessions.{Outstanding, Sent}
use Rattle.toolkit_model.specs.Orderly.{asks}
use Rattle.toolkit_model.specs.Passing.{ToolkitState, ShelfTurn, Happening, Woke, Fetched, Responded, Given, Turned, Committed}
use Rattle.toolkit_model.specs.Steps.{ToolkitInput, Profile, Status, Report, Fetch, Respond, Install, Delete, Wake, IsAccepted, AreAccepted, moved, moved_by}
use Rattle.toolkit_model.specs.OrderlySessions.{IsInOrder}
use Rattle.toolkit_model.specs.Awaiting.{Awaits, Nothing, Answer, Telling, awaited, IsTold, asked_by, awaits_after, OnTurn, OnReply, is_owner, ReachesWhoAsked}
use Rattle.toolkit_model.specs.Owing.{is_wake}
use Rattle.card_laws.specs.Throughout.{accepted_in, if_response, response_in, accepted_for, responses_to}
use Rattle.card_laws.proofs.GoesOnLemmas.{StaysInOrder}
use Rattle.card_laws.proofs.NotedLemmas.{is_waking, command_wakes}

-- ---- what is still to be told

abbrev told_of : Reply → Stimulus
told_of reply = Response reply.result reply.item reply.text

abbrev to_tell : Awaits → List Stimulus
to_tell Nothing = []
to_tell (Answer command) = []
to_tell (Telling reply) = told_of reply ∷ []

act_tells_none : (does : Act) → to_tell (asked_by does) ≡ []
act_tells_none Acts.Done = refl
act_tells_none (Acts.Send command) = refl
act_tells_none (Acts.Keep bytes) = refl
act_tells_none (Acts.Register code) = refl
act_tells_none (Acts.Deregister code) = refl
act_tells_none Acts.TakeTimer = refl
act_tells_none (Acts.FreeTimer timer) = refl
act_tells_none (Acts.Answer allows) = refl

turn_tells_none : (b : Bool) (does : Act) → to_tell (if b then asked_by does else Nothing) ≡ []
turn_tells_none true does = act_tells_none does
turn_tells_none false does = refl

either_none : (b : Bool) (sent : Sent) (later : Awaits) → to_tell later ≡ [] → to_tell (if b then Answer sent.command else later) ≡ []
either_none true sent later none = refl
either_none false sent later none = none

asked_tell_none : (shelf : ℕ) (asked : List Sent) → to_tell (awaited shelf asked) ≡ []
asked_tell_none shelf [] = refl
asked_tell_none shelf (sent ∷ others) = either_none (sent.shelf == shelf) sent (awaited shelf others) (asked_tell_none shelf others)

-- ---- one happening

on_reply : (b : Bool) (out : Outstanding) (reply : Reply) (held : Awaits) (next : Awaits → Type 0) (accepted rest : List Stimulus)
    → OnReply b out reply held next → ((later : Awaits) → next later → to_tell later ++ accepted ≡ rest) → to_tell held ++ cons_option (if b then Some (told_of reply) else None) accepted ≡ rest
on_reply true out reply held next accepted rest is more = ap (λ (awaits : Awaits). to_tell awaits ++ (told_of reply ∷ accepted)) is.0 ∙ more (Telling reply) is.1
on_reply false out reply held next accepted rest is more = more held is

-- what it is told is what was to be told
heard : (held : Awaits) (stimulus : Stimulus) → IsTold held stimulus → to_tell held ≡ option_to_list (if_response stimulus)
heard Nothing (Event code body) is = refl
heard Nothing (Response result item text) is = absurd is
heard Nothing Went is = refl
heard Nothing Refused is = refl
heard Nothing (Timer timer) is = refl
heard (Answer command) stimulus is = absurd is
heard (Telling reply) stimulus is = sym (ap (λ (each : Stimulus). option_to_list (if_response each)) is)

put_first : (found : Option Stimulus) (accepted told left : List Stimulus) → accepted ≡ told ++ left → option_to_list found ++ accepted ≡ cons_option found told ++ left
put_first None accepted told left is = is
put_first (Some stimulus) accepted told left is = ap (λ (rest : List Stimulus). stimulus ∷ rest) is

on_turn : (b : Bool) (turn : ShelfTurn) (held : Awaits) (next : Awaits → Type 0) (accepted told left : List Stimulus)
    → OnTurn b turn held next → ((later : Awaits) → next later → to_tell later ++ accepted ≡ told ++ left) → to_tell held ++ accepted ≡ cons_option (if b then if_response turn.stimulus else None) told ++ left
on_turn true turn held next accepted told left is more =
    ap (λ (front : List Stimulus). front ++ accepted) (heard held turn.stimulus is.0)
    ∙ put_first (if_response turn.stimulus) accepted told left (sym (ap (λ (front : List Stimulus). front ++ accepted) (turn_tells_none turn.is_admitted turn.act)) ∙ more (awaits_after turn) is.1)
on_turn false turn held next accepted told left is more = more held is

-- ---- a log

all_told : (shelf : ℕ) (held now : Awaits) (log : List Happening) → list_any is_wake log ≡ false → ReachesWhoAsked shelf held log now → to_tell held ++ accepted_for shelf log ≡ responses_to shelf log ++ to_tell now
all_told shelf held now [] none reaches = append-nil (to_tell held) ∙ ap to_tell reaches
all_told shelf held now (Woke ∷ log) none reaches = absurd (false≢true (sym none))
all_told shelf held now (Responded out reply ∷ log) none reaches =
    on_reply (is_owner shelf out.owner) out reply held (λ later. ReachesWhoAsked shelf later log now) (accepted_for shelf log) (responses_to shelf log ++ to_tell now) reaches
    (λ later rest. all_told shelf later now log none rest)
all_told shelf held now (Turned turn ∷ log) none reaches =
    on_turn (turn.shelf == shelf) turn held (λ later. ReachesWhoAsked shelf later log now) (accepted_for shelf log) (responses_to shelf log) (to_tell now) reaches
    (λ later rest. all_told shelf later now log none rest)
all_told shelf held now (Fetched out ∷ log) none reaches = all_told shelf held now log none reaches
all_told shelf held now (Given trigger ∷ log) none reaches = all_told shelf held now log none reaches
all_told shelf held now (Committed change rows ∷ log) none reaches = all_told shelf held now log none reaches

-- ---- commands

-- the applet was told of all answers that were accepted
abbrev AreTold : ℕ → List Happening → Type 0
AreTold shelf log = responses_to shelf log ≡ accepted_for shelf log

told_joined : (shelf : ℕ) (first second : List Happening) → AreTold shelf first → AreTold shelf second → AreTold shelf (first ++ second)
told_joined shelf first second one other =
    filter_map-append (response_in shelf) first second
    ∙ ap (λ (front : List Stimulus). front ++ responses_to shelf second) one ∙ ap (λ (back : List Stimulus). accepted_for shelf first ++ back) other
    ∙ sym (filter_map-append (accepted_in shelf) first second)

between_told : (shelf : ℕ) (held now : List Sent) (log : List Happening) → list_any is_wake log ≡ false → ReachesWhoAsked shelf (awaited shelf held) log (awaited shelf now) → AreTold shelf log
between_told shelf held now log none reaches =
    sym (append-nil (responses_to shelf log)) ∙ ap (λ (left : List Stimulus). responses_to shelf log ++ left) (sym (asked_tell_none shelf now))
    ∙ sym (all_told shelf (awaited shelf held) (awaited shelf now) log none reaches) ∙ ap (λ (front : List Stimulus). front ++ accepted_for shelf log) (asked_tell_none shelf held)

abbrev pub ReachAll : Type 0
ReachAll = (commands : List ToolkitInput) (state : ToolkitState) (shelf : ℕ) → IsInOrder state → AreAccepted commands state
    → ReachesWhoAsked shelf (awaited shelf (asks state.session)) (moved_by commands state).log (awaited shelf (asks (moved_by commands state).state.session))

-- nothing is accepted and nothing told at a wake
wake_told : (shelf : ℕ) (command : ToolkitInput) (state : ToolkitState) → is_waking command ≡ true → AreTold shelf (moved command state).log
wake_told shelf (Wake rows minds) state is = refl
wake_told shelf (Profile bytes) state is = absurd (false≢true is)
wake_told shelf Status state is = absurd (false≢true is)
wake_told shelf (Report envelope) state is = absurd (false≢true is)
wake_told shelf (Fetch out) state is = absurd (false≢true is)
wake_told shelf (Respond out reply) state is = absurd (false≢true is)
wake_told shelf (Install row) state is = absurd (false≢true is)
wake_told shelf (Delete gone) state is = absurd (false≢true is)

module _ (reach : ReachAll) (stays : StaysInOrder) (shelf : ℕ) where
  one_told : (command : ToolkitInput) (state : ToolkitState) (b : Bool) → is_waking command ≡ b → IsInOrder state → IsAccepted command state → AreTold shelf (moved command state).log
  one_told command state true is order accepted = wake_told shelf command state is
  one_told command state false is order accepted =
      between_told shelf (asks state.session) (asks (moved command state).state.session) (moved command state).log (command_wakes command state ∙ is)
      (subst (λ (log : List Happening). ReachesWhoAsked shelf (awaited shelf (asks state.session)) log (awaited shelf (asks (moved command state).state.session))) (append-nil (moved command state).log)
      (reach (command ∷ []) state shelf order (accepted, tt)))

  pub commands_told : (commands : List ToolkitInput) (state : ToolkitState) → IsInOrder state → AreAccepted commands state → AreTold shelf (moved_by commands state).log
  commands_told [] state order accepted = refl
  commands_told (command ∷ others) state order accepted =
      told_joined shelf (moved command state).log (moved_by others (moved command state).state).log
      (one_told command state (is_waking command) refl order accepted.0)
      (commands_told others (moved command state).state (stays (command ∷ []) state order (accepted.0, tt)) accepted.1)
