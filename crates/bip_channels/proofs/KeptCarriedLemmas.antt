-- What is kept of all channels does as they do, and they stay sound.
use Rattle.std.proofs.Common.{◌≡◌, refl, sym, ap, subst, ◌∙◌, ℕ, ◌+◌, ◌-◌, Bool, true, false, cond, ◌&&◌, not, leb, List, [], ◌∷◌, ◌++◌, map, get_or, set, Option, Some, None, Result, Ok, Err, position, is_none, nat_lt}
use Rattle.std.specs.List.{position_or_len}
use Rattle.std.proofs.Math.ListN.{get_or-map}
use Rattle.std.proofs.lemmas.List.{map-set, length-map}
use Rattle.comprehension_tlv.specs.Model.{Object}
use Rattle.toolkit_commands.specs.Reading.{details_found}
use Rattle.toolkit_commands.specs.declared.commands.Details.{Details}
use Rattle.toolkit_commands.specs.declared.faults.ProactiveFault.{ProactiveFault}
use Rattle.toolkit_commands.specs.Responses.{result_object}
use Rattle.bip_channels.specs.declared.commands.BipCommand.{BipCommand}
use Rattle.bip_channels.specs.declared.commands.BipCommand.TheVariants.{OpenChannel, CloseChannel, ReceiveBytes, SendBytes, ChannelStatus}
use Rattle.bip_channels.specs.Rules.{is_available}
use Rattle.bip_channels.specs.Reading.{bip_of}
use Rattle.bip_channels.specs.Replies.{status_object, performed, protocol_error, opened, or_none, misread, response}
use Rattle.bip_channels.specs.Channels.{BipChannel, new_channel, Outcome, if_open, unless_dropped, closing, sending, receiving, Carried, carried, opening_at, at_place, statuses, carried_out, answering, answered, Noted, if_linked, echoing, dropping, Reported, reported, noted_at, on_number, echoed, cut}
use Rattle.bip_channels.specs.Kept.{Held, closed, link_of, kept, IsSoundIfOpen, IsKept, by_link, is_closed, is_closed_link, if_up, kept_closing, kept_sending, kept_receiving, kept_opening_at, kept_statuses, kept_carried, if_up_noted, kept_echoing, kept_dropping, kept_echoed, kept_cut}
use Rattle.bip_channels.proofs.SetLemmas.{each_set}
use Rattle.bip_channels.proofs.KeptLemmas.{kept_outcome, kept_noted, closing_alike, sent_alike, received_alike, echoing_alike, dropping_alike}
use Rattle.bip_channels.proofs.IsSoundLemmas.{new_sound, sending_sound, receiving_sound, echoing_sound, dropping_sound, closing_sound_if, if_open_sound, if_linked_sound}

abbrev Channels : Type 0
Channels = List (Option BipChannel)

abbrev AreSound : Channels → Type 0
AreSound channels = (place : ℕ) → IsSoundIfOpen (get_or channels place None)

abbrev of_carried : Carried (Option BipChannel) → Carried Held
of_carried x = carried (map kept x.channels) x.reply

abbrev of_reported : Reported (Option BipChannel) → Reported Held
of_reported x = reported (map kept x.channels) x.event

-- ---- the channel of a number

placed_alike : (place : ℕ) (work : Option BipChannel → Outcome (Option BipChannel)) (kept_work : Held → Outcome Held) (channels : Channels) → AreSound channels
    → ((channel : Option BipChannel) → IsSoundIfOpen channel → kept_work (kept channel) ≡ kept_outcome (work channel))
    → at_place place closed kept_work (map kept channels) ≡ of_carried (at_place place None work channels)
placed_alike place work kept_work channels sound alike =
    let one = get_or channels place None in
    let same : kept_work (get_or (map kept channels) place closed) ≡ kept_outcome (work one) = ap kept_work (get_or-map kept channels place None) ∙ alike one (sound place) in
    (λ i. carried (set (map kept channels) place (same i).channel) (same i).reply)
    ∙ ap (λ (held : List Held). carried held (work one).reply) (sym (map-set kept channels place (work one).channel))

noted_alike : (place : ℕ) (work : Option BipChannel → Noted (Option BipChannel)) (kept_work : Held → Noted Held) (channels : Channels) → AreSound channels
    → ((channel : Option BipChannel) → IsSoundIfOpen channel → kept_work (kept channel) ≡ kept_noted (work channel))
    → noted_at place closed kept_work (map kept channels) ≡ of_reported (noted_at place None work channels)
noted_alike place work kept_work channels sound alike =
    let one = get_or channels place None in
    let same : kept_work (get_or (map kept channels) place closed) ≡ kept_noted (work one) = ap kept_work (get_or-map kept channels place None) ∙ alike one (sound place) in
    (λ i. reported (set (map kept channels) place (same i).channel) (same i).event)
    ∙ ap (λ (held : List Held). reported held (work one).event) (sym (map-set kept channels place (work one).channel))

-- ---- OPEN CHANNEL

closed_alike : (channel : Option BipChannel) → is_closed (kept channel) ≡ is_none channel
closed_alike None = refl
closed_alike (Some channel) = up_or_dropped channel.dropped where
  up_or_dropped : (dropped : Bool) → is_closed_link (link_of dropped) ≡ false
  up_or_dropped true = refl
  up_or_dropped false = refl

passed_alike : (channels : Channels) → position_or_len is_closed (map kept channels) ≡ position_or_len is_none channels
passed_alike [] = refl
passed_alike (channel ∷ others) = λ i. cond (not (closed_alike channel i)) (1 + passed_alike others i) 0

position_alike : (channels : Channels) → position is_closed (map kept channels) ≡ position is_none channels
position_alike channels =
    λ i. cond (nat_lt (passed_alike channels i) (length-map channels kept i)) (Some (passed_alike channels i)) None

opening_at_alike : (size : ℕ) (channels : Channels) (place : Option ℕ) → kept_opening_at size (map kept channels) place ≡ of_carried (opening_at size channels place)
opening_at_alike size channels None = refl
opening_at_alike size channels (Some place) = ap (λ (held : List Held). carried held (opened (place + 1) size)) (sym (map-set kept channels place (Some (new_channel size))))

opening_either : (test : Bool) (size : ℕ) (channels : Channels) → cond test (kept_opening_at size (map kept channels) (position is_closed (map kept channels))) (carried (map kept channels) (protocol_error 4))
    ≡ of_carried (cond test (opening_at size channels (position is_none channels)) (carried channels (protocol_error 4)))
opening_either true size channels = ap (kept_opening_at size (map kept channels)) (position_alike channels) ∙ opening_at_alike size channels (position is_none channels)
opening_either false size channels = refl

opening_at_sound : (size : ℕ) (channels : Channels) (place : Option ℕ) → is_available size ≡ true → AreSound channels → AreSound (opening_at size channels place).channels
opening_at_sound size channels None fit sound = sound
opening_at_sound size channels (Some place) fit sound = each_set IsSoundIfOpen channels place (Some (new_channel size)) None (new_sound size fit) sound

opening_sound : (test : Bool) (size : ℕ) (channels : Channels) → is_available size ≡ test → AreSound channels → AreSound (cond test (opening_at size channels (position is_none channels)) (carried channels (protocol_error 4))).channels
opening_sound true size channels fit sound = opening_at_sound size channels (position is_none channels) fit sound
opening_sound false size channels fit sound = sound

-- ---- GET CHANNEL STATUS

listed_alike : (number : ℕ) (dropped : Bool) → by_link (link_of dropped) [] (status_object number true ∷ []) (status_object number false ∷ []) ≡ status_object number dropped ∷ []
listed_alike number true = refl
listed_alike number false = refl

statuses_alike : (number : ℕ) (channels : Channels) → kept_statuses number (map kept channels) ≡ statuses number channels
statuses_alike number [] = refl
statuses_alike number (None ∷ others) = statuses_alike (number + 1) others
statuses_alike number (Some channel ∷ others) = λ i. listed_alike number channel.dropped i ++ statuses_alike (number + 1) others i

-- ---- commands

carried_alike : (command : BipCommand) (channels : Channels) → AreSound channels → kept_carried command (map kept channels) ≡ of_carried (carried_out command channels)
unfolding kept_carried carried_out
carried_alike (OpenChannel size) channels sound = opening_either (is_available size) size channels
carried_alike (CloseChannel number) channels sound = placed_alike (number - 1) closing kept_closing channels sound closing_alike
carried_alike (ReceiveBytes number asked) channels sound = placed_alike (number - 1) (if_open (unless_dropped (receiving asked))) (if_up (kept_receiving asked)) channels sound (received_alike asked)
carried_alike (SendBytes number bytes now) channels sound = placed_alike (number - 1) (if_open (unless_dropped (sending bytes now))) (if_up (kept_sending bytes now)) channels sound (sent_alike bytes now)
carried_alike ChannelStatus channels sound = ap (λ (objects : List Object). carried (map kept channels) (performed (or_none objects))) (statuses_alike 1 channels)

carried_sound : (command : BipCommand) (channels : Channels) → AreSound channels → AreSound (carried_out command channels).channels
unfolding carried_out
carried_sound (OpenChannel size) channels sound = opening_sound (is_available size) size channels refl sound
carried_sound (CloseChannel number) channels sound = each_set IsSoundIfOpen channels (number - 1) _ None (closing_sound_if (get_or channels (number - 1) None) (sound (number - 1))) sound
carried_sound (ReceiveBytes number asked) channels sound =
    each_set IsSoundIfOpen channels (number - 1) _ None (if_open_sound (receiving asked) (receiving_sound asked) (get_or channels (number - 1) None) (sound (number - 1))) sound
carried_sound (SendBytes number bytes now) channels sound =
    each_set IsSoundIfOpen channels (number - 1) _ None (if_open_sound (sending bytes now) (sending_sound bytes now) (get_or channels (number - 1) None) (sound (number - 1))) sound
carried_sound ChannelStatus channels sound = sound

-- ---- what the public calls say

module _ (channels : Channels) (held : List Held) (is_kept : IsKept channels held) where
  carried_is : (command : BipCommand) → kept_carried command held ≡ of_carried (carried_out command channels)
  carried_is command = ap (kept_carried command) is_kept.is ∙ carried_alike command channels is_kept.sound

  pub answer_is : (bytes answer : List ℕ) (details : Details) (command : BipCommand) → Ok (details, command) ≡ bip_of bytes → answer ≡ response details (kept_carried command held).reply → answer ≡ (answered bytes channels).response
  unfolding answered
  answer_is bytes answer details command read is =
      is ∙ ap (λ (x : Carried Held). response details x.reply) (carried_is command) ∙ ap (λ (x : Result (Details × BipCommand) ProactiveFault). (answering bytes channels x).response) read

  pub after_answer : (bytes : List ℕ) (details : Details) (command : BipCommand) (new : List Held) → Ok (details, command) ≡ bip_of bytes → new ≡ (kept_carried command held).channels → IsKept (answered bytes channels).channels new
  unfolding answered
  after_answer bytes details command new read is =
      let then_ = ap (λ (x : Result (Details × BipCommand) ProactiveFault). (answering bytes channels x).channels) read in
      subst (λ (next : Channels). IsKept next new) then_
      (record { sound = carried_sound command channels is_kept.sound; is = is ∙ ap (λ (x : Carried Held). x.channels) (carried_is command) })

  pub refusal_is : (bytes answer : List ℕ) (fault : ProactiveFault) → Err fault ≡ bip_of bytes → answer ≡ response (details_found bytes) (result_object (misread fault) ∷ []) → answer ≡ (answered bytes channels).response
  unfolding answered
  refusal_is bytes answer fault read is = is ∙ ap (λ (x : Result (Details × BipCommand) ProactiveFault). (answering bytes channels x).response) read

  pub after_refusal : (bytes : List ℕ) (fault : ProactiveFault) → Err fault ≡ bip_of bytes → IsKept (answered bytes channels).channels held
  unfolding answered
  after_refusal bytes fault read =
      subst (λ (next : Channels). IsKept next held) (ap (λ (x : Result (Details × BipCommand) ProactiveFault). (answering bytes channels x).channels) read) is_kept

  -- ---- the network

  either_reported : (test : Bool) (one : Reported Held) (other : Reported (Option BipChannel)) → one ≡ of_reported other → cond test one (reported held None) ≡ of_reported (cond test other (reported channels None))
  either_reported true one other same = same
  either_reported false one other same = ap (λ (next : List Held). reported next None) is_kept.is

  either_sound : (test : Bool) (one : Reported (Option BipChannel)) → AreSound one.channels → AreSound (cond test one (reported channels None)).channels
  either_sound true one sound = sound
  either_sound false one sound = is_kept.sound

  on_number_is : (number : ℕ) (work : Option BipChannel → Noted (Option BipChannel)) (kept_work : Held → Noted Held)
      → ((channel : Option BipChannel) → IsSoundIfOpen channel → kept_work (kept channel) ≡ kept_noted (work channel))
      → on_number number closed kept_work held ≡ of_reported (on_number number None work channels)
  on_number_is number work kept_work alike =
      either_reported (leb 1 number && leb number 7) _ (noted_at (number - 1) None work channels)
      (ap (noted_at (number - 1) closed kept_work) is_kept.is ∙ noted_alike (number - 1) work kept_work channels is_kept.sound alike)

  on_number_sound : (number : ℕ) (work : Option BipChannel → Noted (Option BipChannel))
      → ((channel : Option BipChannel) → IsSoundIfOpen channel → IsSoundIfOpen (work channel).channel) → AreSound (on_number number None work channels).channels
  on_number_sound number work each =
      either_sound (leb 1 number && leb number 7) (noted_at (number - 1) None work channels) (each_set IsSoundIfOpen channels (number - 1) _ None (each (get_or channels (number - 1) None) (is_kept.sound (number - 1))) is_kept.sound)

  pub echo_is : (number count : ℕ) (event : Option (List ℕ)) → event ≡ (kept_echoed number count held).event → event ≡ (echoed number count channels).event
  unfolding kept_echoed echoed
  echo_is number count event is =
      is ∙ ap (λ (x : Reported Held). x.event) (on_number_is number (if_linked (echoing number count)) (if_up_noted (kept_echoing number count)) (echoing_alike number count))

  pub after_echo : (number count : ℕ) (new : List Held) → new ≡ (kept_echoed number count held).channels → IsKept (echoed number count channels).channels new
  unfolding kept_echoed echoed
  after_echo number count new is =
      record {
        sound = on_number_sound number (if_linked (echoing number count)) (if_linked_sound (echoing number count) (echoing_sound number count));
        is = is ∙ ap (λ (x : Reported Held). x.channels) (on_number_is number (if_linked (echoing number count)) (if_up_noted (kept_echoing number count)) (echoing_alike number count));
      }

  pub cut_is : (number : ℕ) (event : Option (List ℕ)) → event ≡ (kept_cut number held).event → event ≡ (cut number channels).event
  unfolding kept_cut cut
  cut_is number event is =
      is ∙ ap (λ (x : Reported Held). x.event) (on_number_is number (if_linked (dropping number)) (if_up_noted (kept_dropping number)) (dropping_alike number))

  pub after_cut : (number : ℕ) (new : List Held) → new ≡ (kept_cut number held).channels → IsKept (cut number channels).channels new
  unfolding kept_cut cut
  after_cut number new is =
      record {
        sound = on_number_sound number (if_linked (dropping number)) (if_linked_sound (dropping number) (dropping_sound number));
        is = is ∙ ap (λ (x : Reported Held). x.channels) (on_number_is number (if_linked (dropping number)) (if_up_noted (kept_dropping number)) (dropping_alike number));
      }
