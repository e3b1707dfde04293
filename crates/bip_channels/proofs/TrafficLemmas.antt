-- What each channel tells of all that happened to the terminal.
use Rattle.std.proofs.Common.{◌≡◌, refl, sym, subst, ap, ◌∙◌, ℕ, zero, suc, ◌-◌, Bool, true, false, cond, ◌&&◌, eqb, leb, List, [], ◌∷◌, ◌++◌, get_or, set, replicate, inl, inr, Option, Some, None, is_none, Result, Ok, Err, position, append-nil, get_or-set_same, get_or-set_other}
use Rattle.std.proofs.lemmas.Bool.{cases_eq, eq-eqb, ne_eqb}
use Rattle.std.proofs.lemmas.List.Quantifiers.{position-Some}
use Rattle.comprehension_tlv.specs.Model.{Object}
use Rattle.toolkit_commands.specs.declared.commands.Details.{Details}
use Rattle.toolkit_commands.specs.declared.faults.ProactiveFault.{ProactiveFault}
use Rattle.bip_channels.specs.declared.commands.BipCommand.{BipCommand}
use Rattle.bip_channels.specs.declared.commands.BipCommand.TheVariants.{OpenChannel, CloseChannel, ReceiveBytes, SendBytes, ChannelStatus}
use Rattle.bip_channels.specs.Rules.{is_available, moved}
use Rattle.bip_channels.specs.Reading.{bip_of}
use Rattle.bip_channels.specs.Replies.{protocol_error}
use Rattle.bip_channels.specs.Channels.{BipChannel, new_channel, waiting, outgoing, Outcome, if_open, unless_dropped, closing, sending, receiving, carried, opening_at, at_place, carried_out, answering, answered, Noted, noted, if_linked, echoing, dropping, reported, noted_at, echoed, cut}
use Rattle.bip_channels.specs.History.{IsFront, Tells, accepted, brought}
use Rattle.bip_channels.specs.Traffic.{Occurrence, Commands, Echoes, Cuts, channel_at, channels_after, after_one, gives, gets, gives_if_read, gets_if_read, gives_now, gets_now, if_open_before, given_to, got_from}
use Rattle.bip_channels.proofs.SetLemmas.{found_below}
use Rattle.bip_channels.proofs.IsSoundLemmas.{new_sound, echoing_sound, dropping_sound}
use Rattle.bip_channels.proofs.TellsLemmas.{gave_tells, asked_tells, coming_tells, is_front}

abbrev Channels : Type 0
Channels = List (Option BipChannel)

abbrev TellsIfOpen : Option BipChannel → List ℕ → List ℕ → Type 0
TellsIfOpen None given got = Unit {0}
TellsIfOpen (Some channel) given got = Tells channel given got

-- after something happened to a channel that was this before
abbrev TellsAfter : Option BipChannel → Option BipChannel → List ℕ → List ℕ → Type 0
TellsAfter before after given got = TellsIfOpen after (if_open_before before given) (if_open_before before got)

none_tells : (channel : Option BipChannel) (given got : List ℕ) → channel ≡ None → TellsIfOpen channel given got
none_tells channel given got is = subst (λ (one : Option BipChannel). TellsIfOpen one given got) (sym is) tt

more_tells : (channel : BipChannel) (given got : List ℕ) → Tells channel given got → Tells channel (given ++ []) (got ++ [])
more_tells channel given got h = record { gave = append-nil given ∙ h.gave; took = append-nil got ∙ h.took; sound = h.sound }

same_tells : (one : Option BipChannel) (given got : List ℕ) → TellsIfOpen one given got → TellsAfter one one (given ++ []) (got ++ [])
same_tells None given got h = tt
same_tells (Some channel) given got h = more_tells channel given got h

-- ---- one place

set_at : (channels : Channels) (place : ℕ) (new : Option BipChannel) → (get_or channels place None ≡ None → new ≡ None) → get_or (set channels place new) place None ≡ new
set_at [] place new closed = sym (closed refl)
set_at (channel ∷ others) zero new closed = refl
set_at (channel ∷ others) (suc place) new closed = set_at others place new closed

stays_none : {X : Type 0} (work : Option BipChannel → X) (of : X → Option BipChannel) → of (work None) ≡ None → (one : Option BipChannel) → one ≡ None → of (work one) ≡ None
stays_none work of none one is = ap (λ (x : Option BipChannel). of (work x)) is ∙ none

own_place : (before after new : Option BipChannel) (test : Bool) (given got more brings : List ℕ) → after ≡ new → test ≡ true → TellsAfter before new (given ++ more) (got ++ brings)
    → TellsAfter before after (given ++ cond test more []) (got ++ cond test brings [])
own_place before after new test given got more brings is holds h =
    subst (λ (b : Bool). TellsAfter before after (given ++ cond b more []) (got ++ cond b brings [])) (sym holds)
    (subst (λ (one : Option BipChannel). TellsAfter before one (given ++ more) (got ++ brings)) (sym is) h)

other_place : (before after : Option BipChannel) (test : Bool) (given got more brings : List ℕ) → after ≡ before → test ≡ false → TellsIfOpen before given got
    → TellsAfter before after (given ++ cond test more []) (got ++ cond test brings [])
other_place before after test given got more brings is fails h =
    subst (λ (b : Bool). TellsAfter before after (given ++ cond b more []) (got ++ cond b brings [])) (sym fails)
    (subst (λ (one : Option BipChannel). TellsAfter before one (given ++ []) (got ++ [])) (sym is) (same_tells before given got h))

either_none : (test : Bool) → ◌≡◌ {A = List ℕ} (cond test [] []) []
either_none true = refl
either_none false = refl

-- ---- a command for one channel

module _ (work : Option BipChannel → Outcome (Option BipChannel)) (gave brings : List Object → List ℕ) (none : (work None).channel ≡ None)
    (each : (channel : BipChannel) (given got : List ℕ) → Tells channel given got → TellsIfOpen (work (Some channel)).channel (given ++ gave (work (Some channel)).reply) (got ++ brings (work (Some channel)).reply)) where
  worked_tells : (one : Option BipChannel) (given got : List ℕ) → TellsIfOpen one given got → TellsAfter one (work one).channel (given ++ gave (work one).reply) (got ++ brings (work one).reply)
  worked_tells None given got h = none_tells (work None).channel [] [] none
  worked_tells (Some channel) given got h = each channel given got h

  placed_tells : (at place : ℕ) (channels : Channels) (given got : List ℕ) → TellsIfOpen (get_or channels place None) given got
      → TellsAfter (get_or channels place None) (get_or (at_place at None work channels).channels place None)
      (given ++ cond (eqb at place) (gave (at_place at None work channels).reply) []) (got ++ cond (eqb at place) (brings (at_place at None work channels).reply) [])
  placed_tells at place channels given got h =
      let one = get_or channels at None in
      let new = (work one).channel in
      let told = (work one).reply in
      elim (cases_eq at place) [
        | inl same ↦
            subst (λ (n : ℕ). TellsAfter (get_or channels n None) (get_or (set channels at new) n None) (given ++ cond (eqb at n) (gave told) []) (got ++ cond (eqb at n) (brings told) [])) same
            (own_place one (get_or (set channels at new) at None) new (eqb at at) given got (gave told) (brings told)
            (set_at channels at new (stays_none work (λ (x : Outcome (Option BipChannel)). x.channel) none one)) (eq-eqb at at refl)
            (worked_tells one given got (subst (λ (n : ℕ). TellsIfOpen (get_or channels n None) given got) (sym same) h)))
        | inr differs ↦
            other_place (get_or channels place None) (get_or (set channels at new) place None) (eqb at place) given got (gave told) (brings told)
            (get_or-set_other channels at place new None (λ e. differs (sym e))) (ne_eqb at place differs) h
      ]

-- ---- OPEN CHANNEL

new_tells : (size : ℕ) → is_available size ≡ true → (before : Option BipChannel) (given got : List ℕ) → is_none before ≡ true → TellsAfter before (Some (new_channel size)) given got
new_tells size fit None given got is = record { gave = refl; took = refl; sound = new_sound size fit }
new_tells size fit (Some channel) given got is = cc

opening_at_tells : (size place : ℕ) (channels : Channels) (given got : List ℕ) → is_available size ≡ true → TellsIfOpen (get_or channels place None) given got
    → (found : Option ℕ) → position is_none channels ≡ found → TellsAfter (get_or channels place None) (get_or (opening_at size channels found).channels place None) (given ++ []) (got ++ [])
opening_at_tells size place channels given got fit h None is = same_tells (get_or channels place None) given got h
opening_at_tells size place channels given got fit h (Some first) is =
    let new = Some (new_channel size) in
    let low = found_below is_none channels first is in
    elim (cases_eq first place) [
      | inl same ↦
          subst (λ (n : ℕ). TellsAfter (get_or channels n None) (get_or (set channels first new) n None) (given ++ []) (got ++ [])) same
          (subst (λ (one : Option BipChannel). TellsAfter (get_or channels first None) one (given ++ []) (got ++ [])) (sym (get_or-set_same channels first new None low))
          (new_tells size fit (get_or channels first None) (given ++ []) (got ++ []) (position-Some is_none channels first None is).1))
      | inr differs ↦
          subst (λ (one : Option BipChannel). TellsAfter (get_or channels place None) one (given ++ []) (got ++ [])) (sym (get_or-set_other channels first place new None (λ e. differs (sym e))))
          (same_tells (get_or channels place None) given got h)
    ]

opening_tells : (size place : ℕ) (channels : Channels) (given got : List ℕ) → TellsIfOpen (get_or channels place None) given got → (test : Bool) → is_available size ≡ test
    → TellsAfter (get_or channels place None) (get_or (cond test (opening_at size channels (position is_none channels)) (carried channels (protocol_error 4))).channels place None) (given ++ []) (got ++ [])
opening_tells size place channels given got h true fit = opening_at_tells size place channels given got fit h (position is_none channels) refl
opening_tells size place channels given got h false fit = same_tells (get_or channels place None) given got h

-- ---- commands

closing_tells : (channel : BipChannel) (given got : List ℕ) → Tells channel given got → TellsIfOpen (closing (Some channel)).channel (given ++ []) (got ++ [])
closing_tells channel given got h = tt

sending_tells : (bytes : List ℕ) (now : Bool) (channel : BipChannel) (given got : List ℕ) → Tells channel given got
    → Tells (unless_dropped (sending bytes now) channel).channel (given ++ accepted bytes (unless_dropped (sending bytes now) channel).reply) (got ++ [])
sending_tells bytes now channel given got h =
    let said = gave_tells bytes now channel given got h in
    record { gave = said.gave; took = append-nil got ∙ said.took; sound = said.sound }

receiving_tells : (asked : ℕ) (channel : BipChannel) (given got : List ℕ) → Tells channel given got
    → Tells (unless_dropped (receiving asked) channel).channel (given ++ []) (got ++ brought (unless_dropped (receiving asked) channel).reply)
receiving_tells asked channel given got h =
    let said = asked_tells asked channel given got h in
    record { gave = append-nil given ∙ said.gave; took = said.took; sound = said.sound }

abbrev nothing : List Object → List ℕ
nothing reply = []

module _ (place : ℕ) (channels : Channels) (given got : List ℕ) (h : TellsIfOpen (get_or channels place None) given got) where
  closed_tells : (at : ℕ) → TellsAfter (get_or channels place None) (get_or (at_place at None closing channels).channels place None) (given ++ []) (got ++ [])
  closed_tells at =
      subst (λ (none : List ℕ). TellsAfter (get_or channels place None) (get_or (at_place at None closing channels).channels place None) (given ++ none) (got ++ none)) (either_none (eqb at place))
      (placed_tells closing nothing nothing refl closing_tells at place channels given got h)

  sent_tells : (at : ℕ) (bytes : List ℕ) (now : Bool) → let work = if_open (unless_dropped (sending bytes now)) in
      TellsAfter (get_or channels place None) (get_or (at_place at None work channels).channels place None) (given ++ cond (eqb at place) (accepted bytes (at_place at None work channels).reply) []) (got ++ [])
  sent_tells at bytes now =
      let work = if_open (unless_dropped (sending bytes now)) in
      subst (λ (none : List ℕ). TellsAfter (get_or channels place None) (get_or (at_place at None work channels).channels place None) (given ++ cond (eqb at place) (accepted bytes (at_place at None work channels).reply) []) (got ++ none)) (either_none (eqb at place))
      (placed_tells work (accepted bytes) nothing refl (sending_tells bytes now) at place channels given got h)

  taken_tells : (at asked : ℕ) → let work = if_open (unless_dropped (receiving asked)) in
      TellsAfter (get_or channels place None) (get_or (at_place at None work channels).channels place None) (given ++ []) (got ++ cond (eqb at place) (brought (at_place at None work channels).reply) [])
  taken_tells at asked =
      let work = if_open (unless_dropped (receiving asked)) in
      subst (λ (none : List ℕ). TellsAfter (get_or channels place None) (get_or (at_place at None work channels).channels place None) (given ++ none) (got ++ cond (eqb at place) (brought (at_place at None work channels).reply) [])) (either_none (eqb at place))
      (placed_tells work nothing brought refl (receiving_tells asked) at place channels given got h)

  command_tells : (command : BipCommand) → TellsAfter (get_or channels place None) (get_or (carried_out command channels).channels place None)
      (given ++ gives place command (carried_out command channels).reply) (got ++ gets place command (carried_out command channels).reply)
  unfolding carried_out
  command_tells (OpenChannel size) = opening_tells size place channels given got h (is_available size) refl
  command_tells (CloseChannel number) = closed_tells (number - 1)
  command_tells (ReceiveBytes number asked) = taken_tells (number - 1) asked
  command_tells (SendBytes number bytes now) = sent_tells (number - 1) bytes now
  command_tells ChannelStatus = same_tells (get_or channels place None) given got h

  read_tells : (bytes : List ℕ) (read : Result (Details × BipCommand) ProactiveFault) → TellsAfter (get_or channels place None) (get_or (answering bytes channels read).channels place None)
      (given ++ gives_if_read place channels read) (got ++ gets_if_read place channels read)
  read_tells bytes (Ok x) = command_tells x.1
  read_tells bytes (Err fault) = same_tells (get_or channels place None) given got h

-- ---- the network

module _ (work : Option BipChannel → Noted (Option BipChannel)) (none : (work None).channel ≡ None)
    (each : (one : Option BipChannel) (given got : List ℕ) → TellsIfOpen one given got → TellsIfOpen (work one).channel given got) where
  noted_tells : (one : Option BipChannel) (given got : List ℕ) → TellsIfOpen one given got → TellsAfter one (work one).channel (given ++ []) (got ++ [])
  noted_tells None given got h = none_tells (work None).channel [] [] none
  noted_tells (Some channel) given got h = each (Some channel) (given ++ []) (got ++ []) (more_tells channel given got h)

  noted_at_tells : (at place : ℕ) (channels : Channels) (given got : List ℕ) → TellsIfOpen (get_or channels place None) given got
      → TellsAfter (get_or channels place None) (get_or (noted_at at None work channels).channels place None) (given ++ []) (got ++ [])
  noted_at_tells at place channels given got h =
      let one = get_or channels at None in
      let new = (work one).channel in
      elim (cases_eq at place) [
        | inl same ↦
            subst (λ (n : ℕ). TellsAfter (get_or channels n None) (get_or (set channels at new) n None) (given ++ []) (got ++ [])) same
            (subst (λ (x : Option BipChannel). TellsAfter one x (given ++ []) (got ++ [])) (sym (set_at channels at new (stays_none work (λ (x : Noted (Option BipChannel)). x.channel) none one)))
            (noted_tells one given got (subst (λ (n : ℕ). TellsIfOpen (get_or channels n None) given got) (sym same) h)))
        | inr differs ↦
            subst (λ (x : Option BipChannel). TellsAfter (get_or channels place None) x (given ++ []) (got ++ [])) (sym (get_or-set_other channels at place new None (λ e. differs (sym e))))
            (same_tells (get_or channels place None) given got h)
      ]

  numbered_tells : (test : Bool) (at place : ℕ) (channels : Channels) (given got : List ℕ) → TellsIfOpen (get_or channels place None) given got
      → TellsAfter (get_or channels place None) (get_or (cond test (noted_at at None work channels) (reported channels None)).channels place None) (given ++ []) (got ++ [])
  numbered_tells true at place channels given got h = noted_at_tells at place channels given got h
  numbered_tells false at place channels given got h = same_tells (get_or channels place None) given got h

linked_either : (test : Bool) (one other : Noted (Option BipChannel)) (given got : List ℕ) → TellsIfOpen one.channel given got → TellsIfOpen other.channel given got → TellsIfOpen (cond test one other).channel given got
linked_either true one other given got is as_well = is
linked_either false one other given got is as_well = as_well

echoing_tells : (number count : ℕ) (one : Option BipChannel) (given got : List ℕ) → TellsIfOpen one given got → TellsIfOpen (if_linked (echoing number count) one).channel given got
echoing_tells number count None given got h = tt
echoing_tells number count (Some channel) given got h =
    let next = echoing number count channel in
    let some = moved count channel.size (outgoing channel) (waiting channel) in
    linked_either channel.dropped (noted (Some channel) None) (noted (Some next.channel) next.event) given got h
    (coming_tells (eqb some 0) some _ channel given got h (echoing_sound number count channel h.sound))

dropping_tells : (number : ℕ) (one : Option BipChannel) (given got : List ℕ) → TellsIfOpen one given got → TellsIfOpen (if_linked (dropping number) one).channel given got
dropping_tells number None given got h = tt
dropping_tells number (Some channel) given got h =
    let next = dropping number channel in
    linked_either channel.dropped (noted (Some channel) None) (noted (Some next.channel) next.event) given got h
    (record { gave = h.gave; took = h.took; sound = dropping_sound number channel h.sound })

-- ---- all that happened

one_tells : (newest : Occurrence) (place : ℕ) (channels : Channels) (given got : List ℕ) → TellsIfOpen (get_or channels place None) given got
    → TellsAfter (get_or channels place None) (get_or (after_one newest channels) place None) (given ++ gives_now place channels newest) (got ++ gets_now place channels newest)
unfolding answered echoed cut
one_tells (Commands bytes) place channels given got h = read_tells place channels given got h bytes (bip_of bytes)
one_tells (Echoes number count) place channels given got h =
    numbered_tells (if_linked (echoing number count)) refl (echoing_tells number count) (leb 1 number && leb number 7) (number - 1) place channels given got h
one_tells (Cuts number) place channels given got h =
    numbered_tells (if_linked (dropping number)) refl (dropping_tells number) (leb 1 number && leb number 7) (number - 1) place channels given got h

none_at : (count place : ℕ) → ◌≡◌ {A = Option BipChannel} (get_or (replicate count None) place None) None
none_at zero place = refl
none_at (suc count) zero = refl
none_at (suc count) (suc place) = none_at count place

each_tells : (place : ℕ) (history : List Occurrence) → TellsIfOpen (channel_at place history) (given_to place history) (got_from place history)
each_tells place [] = none_tells (get_or (replicate 7 None) place None) [] [] (none_at 7 place)
each_tells place (newest ∷ earlier) =
    one_tells newest place (channels_after earlier) (given_to place earlier) (got_from place earlier) (each_tells place earlier)

pub open_tells : (place : ℕ) (history : List Occurrence) (channel : BipChannel) → channel_at place history ≡ Some channel → Tells channel (given_to place history) (got_from place history)
open_tells place history channel is =
    subst (λ (one : Option BipChannel). TellsIfOpen one (given_to place history) (got_from place history)) is (each_tells place history)

pub open_is_front : (place : ℕ) (history : List Occurrence) (channel : BipChannel) → channel_at place history ≡ Some channel → IsFront (got_from place history) (given_to place history)
open_is_front place history channel is = is_front channel (given_to place history) (got_from place history) (open_tells place history channel is)
