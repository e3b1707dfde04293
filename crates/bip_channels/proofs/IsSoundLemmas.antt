-- What is true of each channel stays true.
use Rattle.std.proofs.Common.{◌≡◌, refl, ℕ, ◌+◌, ◌-◌, ◌≤◌, Bool, true, false, cond, eqb, leb, List, ◌++◌, length, Option, Some, None, arith, length-append}
use Rattle.std.proofs.lemmas.Bool.{leb-true, and_parts}
use Rattle.bip_channels.specs.Rules.{is_available, fits, moved, received}
use Rattle.bip_channels.specs.Replies.{protocol_error, unable, bytes_available}
use Rattle.bip_channels.specs.Channels.{BipChannel, IsSound, new_channel, Outcome, outcome, if_open, unless_dropped, closing, with_bytes, accepting, sending, receiving, waiting, outgoing, Noted, noted, if_linked, with_back, echoing, dropping}
use Rattle.bip_channels.specs.Kept.{IsSoundIfOpen}

pub new_sound : (size : ℕ) → is_available size ≡ true → IsSound (new_channel size)
new_sound size fit =
    record {
      taken_came = omega arith;
      back_was_sent = omega arith;
      waiting_bound = omega arith;
      outgoing_bound = omega arith;
      stored_bound = omega arith;
      size_bound = leb-true size 1500 (and_parts (leb 1 size) (leb size 1500) fit).1;
    }

-- ---- choices

sound_either : (test : Bool) (one other : Outcome BipChannel) → (test ≡ true → IsSound one.channel) → (test ≡ false → IsSound other.channel) → IsSound (cond test one other).channel
sound_either true one other is as_well = is refl
sound_either false one other is as_well = as_well refl

sound_noted : (test : Bool) (one other : Noted BipChannel) → (test ≡ true → IsSound one.channel) → (test ≡ false → IsSound other.channel) → IsSound (cond test one other).channel
sound_noted true one other is as_well = is refl
sound_noted false one other is as_well = as_well refl

sound_linked : (test : Bool) (one other : Noted (Option BipChannel)) → (test ≡ true → IsSoundIfOpen one.channel) → (test ≡ false → IsSoundIfOpen other.channel) → IsSoundIfOpen (cond test one other).channel
sound_linked true one other is as_well = is refl
sound_linked false one other is as_well = as_well refl

-- ---- one channel

with_bytes_sound : (bytes : List ℕ) (now : Bool) (channel : BipChannel) → IsSound channel → fits channel.size (outgoing channel) (length channel.stored) (length bytes) now ≡ true → IsSound (with_bytes bytes now channel)
with_bytes_sound bytes false channel sound fit =
    let room : length channel.stored + length bytes ≤ channel.size = leb-true (length channel.stored + length bytes) channel.size fit in
    record {
      taken_came = sound.taken_came;
      back_was_sent = sound.back_was_sent;
      waiting_bound = sound.waiting_bound;
      outgoing_bound = sound.outgoing_bound;
      stored_bound = omega (arith, length-append channel.stored bytes, room);
      size_bound = sound.size_bound;
    }
with_bytes_sound bytes true channel sound fit =
    let both = and_parts (leb (length channel.stored + length bytes) channel.size) (leb (outgoing channel + (length channel.stored + length bytes)) 4096) fit in
    let way : length channel.sent - channel.back + (length channel.stored + length bytes) ≤ 4096 = leb-true (outgoing channel + (length channel.stored + length bytes)) 4096 both.1 in
    let later = channel.stored ++ bytes in
    record {
      taken_came = sound.taken_came;
      back_was_sent = omega (arith, sound.back_was_sent, length-append channel.sent later);
      waiting_bound = sound.waiting_bound;
      outgoing_bound = omega (arith, way, length-append channel.sent later, length-append channel.stored bytes);
      stored_bound = omega arith;
      size_bound = sound.size_bound;
    }

pub sending_sound : (bytes : List ℕ) (now : Bool) (channel : BipChannel) → IsSound channel → IsSound (sending bytes now channel).channel
sending_sound bytes now channel sound =
    sound_either (fits channel.size (outgoing channel) (length channel.stored) (length bytes) now) (accepting bytes now channel) (outcome channel unable) (with_bytes_sound bytes now channel sound) (λ _. sound)

pub receiving_sound : (asked : ℕ) (channel : BipChannel) → IsSound channel → IsSound (receiving asked channel).channel
receiving_sound asked channel sound =
    let count = received asked (waiting channel) in
    let few : count ≤ channel.back - channel.taken = omega arith in
    record {
      taken_came = omega (arith, few, sound.taken_came);
      back_was_sent = sound.back_was_sent;
      waiting_bound = omega (arith, sound.waiting_bound);
      outgoing_bound = sound.outgoing_bound;
      stored_bound = sound.stored_bound;
      size_bound = sound.size_bound;
    }

pub unless_dropped_sound : (work : BipChannel → Outcome BipChannel) (channel : BipChannel) → IsSound channel → IsSound (work channel).channel → IsSound (unless_dropped work channel).channel
unless_dropped_sound work channel sound after = sound_either channel.dropped (outcome channel (protocol_error 2)) (work channel) (λ _. sound) (λ _. after)

with_back_sound : (count : ℕ) (channel : BipChannel) → IsSound channel → count ≤ outgoing channel → count ≤ channel.size - waiting channel → IsSound (with_back count channel)
with_back_sound count channel sound few room =
    record {
      taken_came = omega (arith, sound.taken_came);
      back_was_sent = omega (arith, sound.back_was_sent, few);
      waiting_bound = omega (arith, sound.waiting_bound, sound.taken_came, room);
      outgoing_bound = omega (arith, sound.outgoing_bound);
      stored_bound = sound.stored_bound;
      size_bound = sound.size_bound;
    }

pub echoing_sound : (number count : ℕ) (channel : BipChannel) → IsSound channel → IsSound (echoing number count channel).channel
echoing_sound number count channel sound =
    let some = moved count channel.size (outgoing channel) (waiting channel) in
    let few : some ≤ outgoing channel = omega arith in
    let room : some ≤ channel.size - waiting channel = omega arith in
    sound_noted (eqb some 0) (noted channel None) (noted (with_back some channel) (Some (bytes_available number (waiting (with_back some channel))))) (λ _. sound) (λ _. with_back_sound some channel sound few room)

pub dropping_sound : (number : ℕ) (channel : BipChannel) → IsSound channel → IsSound (dropping number channel).channel
dropping_sound number channel sound =
    record {
      taken_came = sound.taken_came;
      back_was_sent = sound.back_was_sent;
      waiting_bound = sound.waiting_bound;
      outgoing_bound = sound.outgoing_bound;
      stored_bound = sound.stored_bound;
      size_bound = sound.size_bound;
    }

-- ---- a channel that may be closed

pub closing_sound_if : (channel : Option BipChannel) → IsSoundIfOpen channel → IsSoundIfOpen (closing channel).channel
closing_sound_if None sound = tt
closing_sound_if (Some channel) sound = tt

pub if_open_sound : (work : BipChannel → Outcome BipChannel) → ((channel : BipChannel) → IsSound channel → IsSound (work channel).channel) → (channel : Option BipChannel) → IsSoundIfOpen channel → IsSoundIfOpen (if_open (unless_dropped work) channel).channel
if_open_sound work each None sound = tt
if_open_sound work each (Some channel) sound = unless_dropped_sound work channel sound (each channel sound)

pub if_linked_sound : (work : BipChannel → Noted BipChannel) → ((channel : BipChannel) → IsSound channel → IsSound (work channel).channel) → (channel : Option BipChannel) → IsSoundIfOpen channel → IsSoundIfOpen (if_linked work channel).channel
if_linked_sound work each None sound = tt
if_linked_sound work each (Some channel) sound =
    sound_linked channel.dropped (noted (Some channel) None) (noted (Some (work channel).channel) (work channel).event) (λ _. sound) (λ _. each channel sound)
