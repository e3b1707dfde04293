-- What a channel tells of all that happened on it.
use Rattle.std.proofs.Common.{◌≡◌, refl, sym, ap, ◌∙◌, ℕ, zero, suc, ◌+◌, ◌-◌, ◌≤◌, Bool, true, false, cond, eqb, List, [], ◌∷◌, ◌++◌, length, take, drop, Option, Some, None, is_none, arith, append_assoc, get_or, set, position, take-add}
use Rattle.std.proofs.lemmas.List.{append-nil, take-append-le, take-append-drop, get_or-set_same}
use Rattle.bip_channels.specs.declared.commands.BipCommand.TheVariants.{OpenChannel, CloseChannel}
use Rattle.bip_channels.specs.Rules.{is_available, fits, moved, received}
use Rattle.bip_channels.specs.Replies.{protocol_error, unable}
use Rattle.bip_channels.specs.Channels.{BipChannel, IsSound, new_channel, Outcome, outcome, unless_dropped, closing, with_bytes, accepting, sending, taking, receiving, waiting, outgoing, echoing, with_back, noted, opening_at, carried, carried_out}
use Rattle.bip_channels.specs.History.{Happened, Gave, Asked, Echoed, Lost, came_back, channel_after, accepted, brought, given, got, IsFront, Tells}
use Rattle.bip_channels.proofs.SetLemmas.{found_below}
use Rattle.bip_channels.proofs.IsSoundLemmas.{new_sound, sending_sound, receiving_sound, echoing_sound, unless_dropped_sound, dropping_sound}

-- ---- SEND DATA

-- the bytes and the count that was taken, apart from the bounds
record Says (channel : BipChannel) (given got : List ℕ) : Type 0 where
  gave : given ≡ channel.sent ++ channel.stored
  took : got ≡ take channel.taken channel.sent

sent_says : (bytes : List ℕ) (now : Bool) (channel : BipChannel) (given got : List ℕ) → Tells channel given got → Says (with_bytes bytes now channel) (given ++ bytes) got
sent_says bytes false channel given got h =
    record { gave = ap (λ (front : List ℕ). front ++ bytes) h.gave ∙ append_assoc channel.sent channel.stored bytes; took = h.took }
sent_says bytes true channel given got h =
    let later = channel.stored ++ bytes in
    let within : channel.taken ≤ length channel.sent = omega (arith, h.sound.taken_came, h.sound.back_was_sent) in
    record {
      gave = ap (λ (front : List ℕ). front ++ bytes) h.gave ∙ append_assoc channel.sent channel.stored bytes ∙ sym (append-nil (channel.sent ++ later));
      took = h.took ∙ sym (take-append-le channel.taken channel.sent later within);
    }

same_says : (channel : BipChannel) (given got : List ℕ) → Tells channel given got → Says channel (given ++ []) got
same_says channel given got h = record { gave = append-nil given ∙ h.gave; took = h.took }

says_either : (bytes given got : List ℕ) (test : Bool) (one other : Outcome BipChannel) → Says one.channel (given ++ accepted bytes one.reply) got → Says other.channel (given ++ accepted bytes other.reply) got
    → Says (cond test one other).channel (given ++ accepted bytes (cond test one other).reply) got
says_either bytes given got true one other is as_well = is
says_either bytes given got false one other is as_well = as_well

gave_says : (bytes : List ℕ) (now : Bool) (channel : BipChannel) (given got : List ℕ) → Tells channel given got
    → Says (unless_dropped (sending bytes now) channel).channel (given ++ accepted bytes (unless_dropped (sending bytes now) channel).reply) got
gave_says bytes now channel given got h =
    let same = same_says channel given got h in
    says_either bytes given got channel.dropped (outcome channel (protocol_error 2)) (sending bytes now channel) same
    (says_either bytes given got (fits channel.size (outgoing channel) (length channel.stored) (length bytes) now) (accepting bytes now channel) (outcome channel unable) (sent_says bytes now channel given got h) same)

pub gave_tells : (bytes : List ℕ) (now : Bool) (channel : BipChannel) (given got : List ℕ) → Tells channel given got
    → Tells (unless_dropped (sending bytes now) channel).channel (given ++ accepted bytes (unless_dropped (sending bytes now) channel).reply) got
gave_tells bytes now channel given got h =
    let said = gave_says bytes now channel given got h in
    record { gave = said.gave; took = said.took; sound = unless_dropped_sound (sending bytes now) channel h.sound (sending_sound bytes now channel h.sound) }

-- ---- RECEIVE DATA

asked_either : (given got : List ℕ) (test : Bool) (one other : Outcome BipChannel) → Says one.channel given (got ++ brought one.reply) → Says other.channel given (got ++ brought other.reply)
    → Says (cond test one other).channel given (got ++ brought (cond test one other).reply)
asked_either given got true one other is as_well = is
asked_either given got false one other is as_well = as_well

taken_says : (asked count : ℕ) (channel : BipChannel) (given got : List ℕ) → Tells channel given got → Says (taking asked count channel).channel given (got ++ take count (drop channel.taken channel.sent))
taken_says asked count channel given got h =
    record {
      gave = h.gave;
      took = ap (λ (front : List ℕ). front ++ take count (drop channel.taken channel.sent)) h.took ∙ sym (take-add channel.taken count channel.sent);
    }

pub asked_tells : (asked : ℕ) (channel : BipChannel) (given got : List ℕ) → Tells channel given got
    → Tells (unless_dropped (receiving asked) channel).channel given (got ++ brought (unless_dropped (receiving asked) channel).reply)
asked_tells asked channel given got h =
    let same : Says channel given (got ++ []) = record { gave = h.gave; took = append-nil got ∙ h.took } in
    let said = asked_either given got channel.dropped (outcome channel (protocol_error 2)) (receiving asked channel) same (taken_says asked (received asked (waiting channel)) channel given got h) in
    record { gave = said.gave; took = said.took; sound = unless_dropped_sound (receiving asked) channel h.sound (receiving_sound asked channel h.sound) }

-- ---- the network

pub coming_tells : (test : Bool) (count : ℕ) (event : Option (List ℕ)) (channel : BipChannel) (given got : List ℕ) → Tells channel given got
    → IsSound (cond test (noted channel None) (noted (with_back count channel) event)).channel → Tells (cond test (noted channel None) (noted (with_back count channel) event)).channel given got
coming_tells true count event channel given got h sound = h
coming_tells false count event channel given got h sound = record { gave = h.gave; took = h.took; sound = sound }

came_either : (test : Bool) (one other : BipChannel) (given got : List ℕ) → Tells one given got → Tells other given got → Tells (cond test one other) given got
came_either true one other given got is as_well = is
came_either false one other given got is as_well = as_well

came_tells : (count : ℕ) (channel : BipChannel) (given got : List ℕ) → Tells channel given got → Tells (came_back count channel) given got
came_tells count channel given got h =
    came_either channel.dropped channel (echoing 1 count channel).channel given got h
    (coming_tells (eqb (moved count channel.size (outgoing channel) (waiting channel)) 0) (moved count channel.size (outgoing channel) (waiting channel)) _ channel given got h (echoing_sound 1 count channel h.sound))

-- ---- all that happened

pub tells : (size : ℕ) (history : List Happened) → is_available size ≡ true → Tells (channel_after size history) (given size history) (got size history)
tells size [] fit = record { gave = refl; took = refl; sound = new_sound size fit }
tells size (Gave bytes now ∷ earlier) fit = gave_tells bytes now (channel_after size earlier) (given size earlier) (got size earlier) (tells size earlier fit)
tells size (Asked count ∷ earlier) fit = asked_tells count (channel_after size earlier) (given size earlier) (got size earlier) (tells size earlier fit)
tells size (Echoed count ∷ earlier) fit = came_tells count (channel_after size earlier) (given size earlier) (got size earlier) (tells size earlier fit)
tells size (Lost ∷ earlier) fit =
    let h = tells size earlier fit in
    record { gave = h.gave; took = h.took; sound = dropping_sound 1 (channel_after size earlier) h.sound }

pub is_front : (channel : BipChannel) (given got : List ℕ) → Tells channel given got → IsFront got given
is_front channel given got h =
    record {
      rest = drop channel.taken channel.sent ++ channel.stored;
      whole = h.gave ∙ ap (λ (sent : List ℕ). sent ++ channel.stored) (sym (take-append-drop channel.taken channel.sent))
          ∙ append_assoc (take channel.taken channel.sent) (drop channel.taken channel.sent) channel.stored
          ∙ ap (λ (front : List ℕ). front ++ (drop channel.taken channel.sent ++ channel.stored)) (sym h.took);
    }

-- ---- numbers that are given again

pub set_none : (channels : List (Option BipChannel)) (place : ℕ) → get_or (set channels place None) place None ≡ None
set_none [] place = refl
set_none (channel ∷ others) zero = refl
set_none (channel ∷ others) (suc place) = set_none others place

closing_none : (channel : Option BipChannel) → (closing channel).channel ≡ None
closing_none None = refl
closing_none (Some channel) = refl

pub closes : (channels : List (Option BipChannel)) (place : ℕ) → get_or (carried_out (CloseChannel (place + 1)) channels).channels place None ≡ None
unfolding carried_out
closes channels place =
    let at : place + 1 - 1 ≡ place = omega arith in
    ap (λ (n : ℕ). get_or (set channels n (closing (get_or channels n None)).channel) place None) at
    ∙ ap (λ (one : Option BipChannel). get_or (set channels place one) place None) (closing_none (get_or channels place None)) ∙ set_none channels place

opening_is : (size place : ℕ) (channels : List (Option BipChannel)) (found : Option ℕ) (test : Bool) → test ≡ true → found ≡ Some place
    → (cond test (opening_at size channels found) (carried channels (protocol_error 4))).channels ≡ set channels place (Some (new_channel size))
opening_is size place channels found test fit is = λ i. (cond (fit i) (opening_at size channels (is i)) (carried channels (protocol_error 4))).channels

pub opens : (channels : List (Option BipChannel)) (size place : ℕ) → is_available size ≡ true → position is_none channels ≡ Some place
    → get_or (carried_out (OpenChannel size) channels).channels place None ≡ Some (new_channel size)
unfolding carried_out
opens channels size place fit found =
    ap (λ (next : List (Option BipChannel)). get_or next place None) (opening_is size place channels (position is_none channels) (is_available size) fit found)
    ∙ get_or-set_same channels place (Some (new_channel size)) None (found_below is_none channels place found)
