use Rattle.std.proofs.Common.{◌≡◌, sym, ◌∙◌}
use Rattle.apdu_form.specs.Classes.{channel_of}
use Rattle.file_model.specs.Resizing.{resized_if_room, resized}
use Rattle.file_admin.proofs.AnswersTreeLemmas.{refused, alike, still_alike}
use Rattle.file_admin.proofs.StandsLemmas.{listed}
use Rattle.file_admin.proofs.WritesOverLemmas.{tree_comes, tree_refused}
use Rattle.file_admin.proofs.resizing.try_resize.Goals as goal

pub returns-in-Ok-clause-done : goal.returns-in-Ok-clause-done
returns-in-Ok-clause-done g c =
    let same_channel : c.channel-channel.result ≡ channel_of c.args.command.now.class = c.channel-channel.ensures in
    alike c.cards_are_known.ensures.table c.stores_stand.ensures.known _ c.requires.mounted c.args.channels.now (λ state. resized state c.args.seen.now c.args.channels.now (channel_of c.args.command.now.class) c.args.command.now) (λ state. resized_if_room state c.args.channels.now c.size_asked.result c.in-Ok.file)
    (λ mark content state stands. sym (λ i. resized state c.args.seen.now c.args.channels.now (same_channel i) c.args.command.now) ∙ c.in-Ok.ensures.found state (listed c.cards_are_known.ensures.card c.cards_are_known.ensures.table mark content c.args.loaded.now state stands c.files_are_found.ensures.told) ∙ (λ i. resized_if_room state c.args.channels.now (sym c.size_asked.ensures i) c.in-Ok.file))
    c.resize_to.result _ _ (c.resize_to.ensures.done c.args.channels.now)

pub returns-in-Ok-clause-still : goal.returns-in-Ok-clause-still
returns-in-Ok-clause-still g c =
    let same_channel : c.channel-channel.result ≡ channel_of c.args.command.now.class = c.channel-channel.ensures in
    still_alike c.cards_are_known.ensures.table c.stores_stand.ensures.known _ c.requires.mounted c.args.channels.now (λ state. resized state c.args.seen.now c.args.channels.now (channel_of c.args.command.now.class) c.args.command.now) (λ state. resized_if_room state c.args.channels.now c.size_asked.result c.in-Ok.file)
    (λ mark content state stands. sym (λ i. resized state c.args.seen.now c.args.channels.now (same_channel i) c.args.command.now) ∙ c.in-Ok.ensures.found state (listed c.cards_are_known.ensures.card c.cards_are_known.ensures.table mark content c.args.loaded.now state stands c.files_are_found.ensures.told) ∙ (λ i. resized_if_room state c.args.channels.now (sym c.size_asked.ensures i) c.in-Ok.file))
    (c.resize_to.ensures.still c.args.channels.now)

pub returns-in-Err-clause-done : goal.returns-in-Err-clause-done
returns-in-Err-clause-done g c =
    let same_channel : c.channel-channel.result ≡ channel_of c.args.command.now.class = c.channel-channel.ensures in
    refused c.cards_are_known.ensures.table c.stores_stand.ensures.known _ c.requires.mounted c.args.channels.now (λ state. resized state c.args.seen.now c.args.channels.now (channel_of c.args.command.now.class) c.args.command.now) c.in-Err.status
    (λ mark content state stands. sym (λ i. resized state c.args.seen.now c.args.channels.now (same_channel i) c.args.command.now) ∙ c.in-Err.ensures.refused state (listed c.cards_are_known.ensures.card c.cards_are_known.ensures.table mark content c.args.loaded.now state stands c.files_are_found.ensures.told))

pub returns-in-Ok-clause-writes : goal.returns-in-Ok-clause-writes
returns-in-Ok-clause-writes g c =
    let same_channel : c.channel-channel.result ≡ channel_of c.args.command.now.class = c.channel-channel.ensures in
    tree_comes c.cards_are_known.ensures.table c.stores_stand.ensures.known _ c.requires.mounted c.args.channels.now (λ state. resized state c.args.seen.now c.args.channels.now (channel_of c.args.command.now.class) c.args.command.now) (λ state. resized_if_room state c.args.channels.now c.size_asked.result c.in-Ok.file)
    (λ mark content state stands. sym (λ i. resized state c.args.seen.now c.args.channels.now (same_channel i) c.args.command.now) ∙ c.in-Ok.ensures.found state (listed c.cards_are_known.ensures.card c.cards_are_known.ensures.table mark content c.args.loaded.now state stands c.files_are_found.ensures.told) ∙ (λ i. resized_if_room state c.args.channels.now (sym c.size_asked.ensures i) c.in-Ok.file))
    c.resize_to.result _ (c.resize_to.ensures.writes c.args.channels.now)

pub returns-in-Err-clause-writes : goal.returns-in-Err-clause-writes
returns-in-Err-clause-writes g c =
    let same_channel : c.channel-channel.result ≡ channel_of c.args.command.now.class = c.channel-channel.ensures in
    tree_refused c.cards_are_known.ensures.table c.stores_stand.ensures.known _ c.requires.mounted c.args.channels.now (λ state. resized state c.args.seen.now c.args.channels.now (channel_of c.args.command.now.class) c.args.command.now) c.in-Err.status
    (λ mark content state stands. sym (λ i. resized state c.args.seen.now c.args.channels.now (same_channel i) c.args.command.now) ∙ c.in-Err.ensures.refused state (listed c.cards_are_known.ensures.card c.cards_are_known.ensures.table mark content c.args.loaded.now state stands c.files_are_found.ensures.told))
