-- What is kept of a channel does as the channel does.
use Rattle.std.proofs.Common.{◌≡◌, refl, sym, ap, ◌∙◌, ℕ, ◌+◌, ◌-◌, ◌≤◌, Bool, true, false, cond, eqb, List, [], ◌∷◌, ◌++◌, length, take, drop, Option, Some, None, arith, length-append, length-drop, append_assoc}
use Rattle.std.proofs.lemmas.List.{append-nil, drop-append-le, take-append-le, drop-drop}
use Rattle.bip_channels.specs.Rules.{fits, moved, received, is_short}
use Rattle.bip_channels.specs.Replies.{performed, protocol_error, unable, count_object, taken_bytes, bytes_available}
use Rattle.bip_channels.specs.Channels.{BipChannel, IsSound, Outcome, outcome, if_open, unless_dropped, closing, with_bytes, accepting, sending, taking, receiving, waiting, outgoing, Noted, noted, if_linked, with_back, coming, echoing, dropping}
use Rattle.bip_channels.specs.Kept.{Held, link_of, kept, IsSoundIfOpen, by_link, kept_closing, if_up, kept_with_bytes, kept_accepting, kept_sending, kept_taking, kept_receiving, if_up_noted, kept_coming, kept_echoing, kept_dropping}

abbrev pub kept_outcome : Outcome (Option BipChannel) → Outcome Held
kept_outcome x = outcome (kept x.channel) x.reply

abbrev of_channel : Outcome BipChannel → Outcome Held
of_channel x = outcome (kept (Some x.channel)) x.reply

abbrev pub kept_noted : Noted (Option BipChannel) → Noted Held
kept_noted x = noted (kept x.channel) x.event

abbrev of_noted : Noted BipChannel → Noted Held
of_noted x = noted (kept (Some x.channel)) x.event

-- ---- choices

by_dropped : {X Y : Type 0} (f : X → Y) (dropped : Bool) (closed one other : Y) (first second : X) → one ≡ f first → other ≡ f second → by_link (link_of dropped) closed one other ≡ f (cond dropped first second)
by_dropped f true closed one other first second is as_well = is
by_dropped f false closed one other first second is as_well = as_well

either : {X Y : Type 0} (f : X → Y) (test : Bool) (one other : Y) (first second : X) → one ≡ f first → other ≡ f second → cond test one other ≡ f (cond test first second)
either f true one other first second is as_well = is
either f false one other first second is as_well = as_well

both_kept : (dropped : Bool) (bytes : Outcome Held) (closed : Outcome Held) → by_link (link_of dropped) closed bytes bytes ≡ bytes
both_kept true bytes closed = refl
both_kept false bytes closed = refl

-- ---- commands

pub closing_alike : (channel : Option BipChannel) → IsSoundIfOpen channel → kept_closing (kept channel) ≡ kept_outcome (closing channel)
closing_alike None sound = refl
closing_alike (Some channel) sound = both_kept channel.dropped (outcome (kept None) (performed [])) (outcome (kept (Some channel)) (protocol_error 3))

with_bytes_alike : (bytes : List ℕ) (now : Bool) (channel : BipChannel) → IsSound channel → kept_with_bytes bytes now (kept (Some channel)) ≡ kept (Some (with_bytes bytes now channel))
with_bytes_alike bytes false channel sound =
    let count : length channel.stored + length bytes ≡ length (channel.stored ++ bytes) = omega (arith, length-append channel.stored bytes) in
    λ i. record (kept (Some channel)) { stored = count i; bytes = append_assoc (drop channel.taken channel.sent) channel.stored bytes i }
with_bytes_alike bytes true channel sound =
    let later = channel.stored ++ bytes in
    let within : channel.taken ≤ length channel.sent = omega (arith, sound.taken_came, sound.back_was_sent) in
    let count : length channel.sent - channel.back + (length channel.stored + length bytes) ≡ length (channel.sent ++ later) - channel.back = omega (arith, length-append channel.stored bytes, length-append channel.sent later, sound.back_was_sent) in
    let line : drop channel.taken channel.sent ++ channel.stored ++ bytes ≡ drop channel.taken (channel.sent ++ later) ++ [] =
    append_assoc (drop channel.taken channel.sent) channel.stored bytes ∙ sym (append-nil (drop channel.taken (channel.sent ++ later)) ∙ drop-append-le channel.taken channel.sent later within) in
    λ i. record (kept (Some channel)) { outgoing = count i; stored = 0; bytes = line i }

accepting_alike : (bytes : List ℕ) (now : Bool) (channel : BipChannel) → IsSound channel → kept_accepting bytes now (kept (Some channel)) ≡ of_channel (accepting bytes now channel)
accepting_alike bytes now channel sound =
    ap (λ (held : Held). outcome held (performed (count_object (held.size - held.stored) ∷ []))) (with_bytes_alike bytes now channel sound)

sending_alike : (bytes : List ℕ) (now : Bool) (channel : BipChannel) → IsSound channel → kept_sending bytes now (kept (Some channel)) ≡ of_channel (sending bytes now channel)
sending_alike bytes now channel sound =
    either of_channel (fits channel.size (outgoing channel) (length channel.stored) (length bytes) now) _ _ (accepting bytes now channel) (outcome channel unable) (accepting_alike bytes now channel sound) refl

taking_alike : (asked count : ℕ) (channel : BipChannel) → IsSound channel → count ≤ waiting channel → kept_taking asked count (kept (Some channel)) ≡ of_channel (taking asked count channel)
taking_alike asked count channel sound few =
    let untaken = drop channel.taken channel.sent in
    let within : count ≤ length untaken = omega (arith, length-drop channel.taken channel.sent, sound.back_was_sent, few) in
    let left : channel.back - channel.taken - count ≡ channel.back - (channel.taken + count) = omega arith in
    let line : drop count (untaken ++ channel.stored) ≡ drop (channel.taken + count) channel.sent ++ channel.stored =
    drop-append-le count untaken channel.stored within ∙ ap (λ (bytes : List ℕ). bytes ++ channel.stored) (drop-drop count channel.taken channel.sent) in
    let front : take count (untaken ++ channel.stored) ≡ take count untaken = take-append-le count untaken channel.stored within in
    λ i. outcome (record (kept (Some channel)) { waiting = left i; bytes = line i }) (taken_bytes (is_short count asked) (front i) (left i))

receiving_alike : (asked : ℕ) (channel : BipChannel) → IsSound channel → kept_receiving asked (kept (Some channel)) ≡ of_channel (receiving asked channel)
receiving_alike asked channel sound = taking_alike asked (received asked (waiting channel)) channel sound (omega arith)

if_up_alike : (work : BipChannel → Outcome BipChannel) (kept_work : Held → Outcome Held) → ((channel : BipChannel) → IsSound channel → kept_work (kept (Some channel)) ≡ of_channel (work channel))
    → (channel : Option BipChannel) → IsSoundIfOpen channel → if_up kept_work (kept channel) ≡ kept_outcome (if_open (unless_dropped work) channel)
if_up_alike work kept_work alike None sound = refl
if_up_alike work kept_work alike (Some channel) sound =
    by_dropped of_channel channel.dropped _ _ _ (outcome channel (protocol_error 2)) (work channel) refl (alike channel sound)

pub sent_alike : (bytes : List ℕ) (now : Bool) (channel : Option BipChannel) → IsSoundIfOpen channel → if_up (kept_sending bytes now) (kept channel) ≡ kept_outcome (if_open (unless_dropped (sending bytes now)) channel)
sent_alike bytes now = if_up_alike (sending bytes now) (kept_sending bytes now) (sending_alike bytes now)

pub received_alike : (asked : ℕ) (channel : Option BipChannel) → IsSoundIfOpen channel → if_up (kept_receiving asked) (kept channel) ≡ kept_outcome (if_open (unless_dropped (receiving asked)) channel)
received_alike asked = if_up_alike (receiving asked) (kept_receiving asked) (receiving_alike asked)

-- ---- the network

coming_alike : (number count : ℕ) (channel : BipChannel) → IsSound channel → kept_coming number count (kept (Some channel)) ≡ of_noted (coming number count channel)
coming_alike number count channel sound =
    let more : channel.back - channel.taken + count ≡ channel.back + count - channel.taken = omega (arith, sound.taken_came) in
    let fewer : length channel.sent - channel.back - count ≡ length channel.sent - (channel.back + count) = omega arith in
    either of_noted (eqb count 0) _ _ (noted channel None) (noted (with_back count channel) (Some (bytes_available number (waiting (with_back count channel))))) refl
    (λ i. noted (record (kept (Some channel)) { waiting = more i; outgoing = fewer i }) (Some (bytes_available number (more i))))

if_linked_alike : (work : BipChannel → Noted BipChannel) (kept_work : Held → Noted Held) → ((channel : BipChannel) → IsSound channel → kept_work (kept (Some channel)) ≡ of_noted (work channel))
    → (channel : Option BipChannel) → IsSoundIfOpen channel → if_up_noted kept_work (kept channel) ≡ kept_noted (if_linked work channel)
if_linked_alike work kept_work alike None sound = refl
if_linked_alike work kept_work alike (Some channel) sound =
    by_dropped kept_noted channel.dropped _ _ _ (noted (Some channel) None) (noted (Some (work channel).channel) (work channel).event) refl (alike channel sound)

pub echoing_alike : (number count : ℕ) (channel : Option BipChannel) → IsSoundIfOpen channel → if_up_noted (kept_echoing number count) (kept channel) ≡ kept_noted (if_linked (echoing number count) channel)
echoing_alike number count =
    if_linked_alike (echoing number count) (kept_echoing number count) (λ channel sound. coming_alike number (moved count channel.size (outgoing channel) (waiting channel)) channel sound)

pub dropping_alike : (number : ℕ) (channel : Option BipChannel) → IsSoundIfOpen channel → if_up_noted (kept_dropping number) (kept channel) ≡ kept_noted (if_linked (dropping number) channel)
dropping_alike number = if_linked_alike (dropping number) (kept_dropping number) (λ channel sound. refl)
