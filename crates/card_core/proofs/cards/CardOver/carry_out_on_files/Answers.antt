-- A refusal and STATUS put back what their channel had selected and meet no fault; else a fault leaves one of the states passed.
use Rattle.std.proofs.Common.{◌≡◌, ℕ, List, Option, Some, refl, sym, ◌∙◌, ap, subst, rules, slice_set, unwrap_or, Ok, Err}
use Rattle.std.proofs.lemmas.Bool.{false≢true}
use Rattle.apdu_form.specs.Classes.{channel_of}
use Rattle.store_form.specs.declared.store.StoreFault.{StoreFault}
use Rattle.card_state.specs.Memory.{memory}
use Rattle.card_state.specs.Standing.{Agrees}
use Rattle.card_state.specs.States.{pins_of, rows_of}
use Rattle.card_state.specs.declared.entries.Loaded.{Loaded}
use Rattle.file_model.specs.Access.{keys_seen}
use Rattle.file_model.specs.Binaries.{binary_to_read}
use Rattle.file_model.specs.Channels.{selected_on}
use Rattle.file_model.specs.Commands.{file_outcome}
use Rattle.file_model.specs.Files.{descriptors_of}
use Rattle.file_model.specs.LawfulTrees.{AreSelected}
use Rattle.file_model.specs.Outcomes.{settled_file}
use Rattle.file_model.specs.declared.commands.FileCommand.{FileCommand}
use Rattle.file_model.specs.declared.selections.Selection.{Selection}
use Rattle.file_model.specs.declared.selections.TheConstants.Selection.{AT_START}
use Rattle.card_commits.specs.Laws.{IsTold}
use Rattle.binary_commands.specs.Reads.{access_reads, ReadsOnce}
use Rattle.record_commands.specs.Tables.{HasOtherFiles}
use Rattle.card_model.specs.declared.instructions.Instruction.TheVariants.{File}
use Rattle.card_core.specs.AnyStore.{RefusesFile, NeedsNoContents}
use Rattle.card_core.specs.Cards.{parts_of, memory_of}
use Rattle.card_core.proofs.AreSelectedLemmas.{set_selected}
use Rattle.card_core.proofs.FileYieldsLemmas.{files_act, files_stopped, files_move, put_back}
use Rattle.card_core.proofs.HoldsCardLemmas.{holds_card}
use Rattle.card_core.proofs.IsRunningLemmas.{some_told}
use Rattle.card_core.proofs.IsSetLemmas.{kept_selected, rows_beside_files, set_after}
use Rattle.card_core.proofs.MovesItsOwnLemmas.{files_moved, files_kept, status_keeps}
use Rattle.card_core.proofs.RefusesByTableLemmas.{all_stays}
use Rattle.card_core.proofs.RestartLemmas.{toolkit_kept}
use Rattle.card_core.proofs.cards.CardOver.carry_out_on_files.Goals as goal

pub returns-in-Ok-clause-goes_on : goal.returns-in-Ok-clause-goes_on
returns-in-Ok-clause-goes_on g c = record {
  set =
      set_after (parts_of g.S.Store g.B.Applet c.args.self.now) _ c.requires.underway.set c.on_files.ensures.ends.keeps.size refl (holds_card _ _ _ c.in-Ok.ensures.ends.keeps.mounted.agrees)
      (λ silent. subst (λ (telling : Option (List ℕ)). Agrees (g.S.Store.store_mark c.on_files.new.store) telling c.on_files.new.loaded) silent c.in-Ok.ensures.ends.keeps.mounted.agrees)
      c.on_files.ensures.ends.keeps.told (rows_beside_files _ _ c.on_files.ensures.files.files ∙ ap rows_of c.deref_mut.ensures.value);
  running = record {
    mounted = c.in-Ok.ensures.ends.keeps.mounted;
    selected =
        subst (λ (channels : List (Option Selection)). AreSelected (descriptors_of c.on_files.new.loaded) channels) (sym c.set.ensures)
        (set_selected (descriptors_of c.on_files.new.loaded) c.args.self.now.channels c.channel-channel.result c.on_files.new.selection c.in-Ok.ensures.ends.selected
        (kept_selected _ (descriptors_of c.on_files.new.loaded) c.args.self.now.channels c.on_files.ensures.files.others
        (subst (λ (table : Loaded). AreSelected (descriptors_of table) c.args.self.now.channels) (sym c.deref_mut.ensures.value) c.requires.underway.running.selected)));
    toolkit = toolkit_kept c.args.self.now.loaded.value c.on_files.new.loaded _ _ _ (rows_beside_files _ _ c.on_files.ensures.files.files ∙ ap rows_of c.deref_mut.ensures.value) c.requires.underway.running.toolkit;
    stays = c.requires.underway.running.stays;
  };
  others = search rules;
  cause = search rules;
}

pub returns-in-Ok-clause-still : goal.returns-in-Ok-clause-still
returns-in-Ok-clause-still g c = λ is.
    let channel : c.channel-channel.result ≡ channel_of c.args.apdu.now.class = c.channel-channel.ensures in
    let there : selected_on c.args.self.now.channels (channel_of c.args.apdu.now.class) ≡ Some c.in-Some.selection = ap (selected_on c.args.self.now.channels) (sym channel) ∙ sym c.selected.ensures ∙ c.in-Some.is in
    let some = some_told c.tables_tell_states.ensures (g.S.Store.store_mark c.args.self.now.store) (g.S.Store.stable c.args.self.now.store) c.args.self.now.loaded.value c.requires.underway.running.mounted.agrees in
    let seen = keys_seen (pins_of c.deref_mut.result.now) c.args.self.now.verified in
    let gives = c.in-Ok.ensures.tells.answers some.0 (subst (λ (command : FileCommand). NeedsNoContents (File command)) (sym is) tt) (subst (λ (table : Loaded). IsTold table some.0) (sym c.deref_mut.ensures.value) some.1) in
    let keeps = subst (λ (each : FileCommand). (settled_file c.in-Some.selection (file_outcome each some.0 seen c.in-Some.selection c.args.apdu.now)).selection ≡ c.in-Some.selection) (sym is)
    (status_keeps some.0 seen c.in-Some.selection c.args.apdu.now) in
    record {
      done = refl;
      commits = gives.3;
      table = gives.2 ∙ c.deref_mut.ensures.value;
      channels =
          c.set.ensures ∙ ap (λ (at : ℕ). slice_set c.args.self.now.channels at (Some c.on_files.new.selection)) channel
          ∙ ap (λ (next : Selection). slice_set c.args.self.now.channels (channel_of c.args.apdu.now.class) (Some next)) (gives.1.selected ∙ keeps)
          ∙ put_back c.args.self.now.channels (channel_of c.args.apdu.now.class) c.in-Some.selection there;
      verified = refl;
      boxes = refl;
    }

pub returns-in-Ok-clause-acts : goal.returns-in-Ok-clause-acts
returns-in-Ok-clause-acts g c =
    let old = parts_of g.S.Store g.B.Applet c.args.self.now in
    let channel : c.channel-channel.result ≡ channel_of c.args.apdu.now.class = c.channel-channel.ensures in
    let there : selected_on c.args.self.now.channels (channel_of c.args.apdu.now.class) ≡ Some c.in-Some.selection = ap (selected_on c.args.self.now.channels) (sym channel) ∙ sym c.selected.ensures ∙ c.in-Some.is in
    let set = c.set.ensures ∙ ap (λ (at : ℕ). slice_set c.args.self.now.channels at (Some c.on_files.new.selection)) channel in
    files_act c.args.command c.args.apdu.now old _ c.in-Some.selection c.on_files.new.selection there c.on_files.new.out c.tables_tell_states.ensures c.tables_have_rows.ensures c.requires.underway.running
    c.deref_mut.result.now c.deref_mut.ensures.value
    (files_move {X = Unit} (Ok tt) c.args.command c.args.apdu.now old _
    (files_moved (channel_of c.args.apdu.now.class) c.channel-channel.result old _ (Some c.on_files.new.selection)
    (subst (λ (table : Loaded). HasOtherFiles table c.on_files.new.loaded) c.deref_mut.ensures.value c.on_files.ensures.files.files) channel c.set.ensures refl refl refl) (returns-in-Ok-clause-still g c))
    tt (record { channels = set; verified = refl; session = refl; boxes = refl }) c.in-Ok.ensures.performs c.in-Ok.ensures.tells c.in-Ok.ensures.writes
    (λ status refused.
    let told = subst (λ (table : Loaded). RefusesFile c.args.command (descriptors_of table) c.in-Some.selection c.args.apdu.now status) (sym c.deref_mut.ensures.value)
    (subst (λ (found : Option Selection). RefusesFile c.args.command (descriptors_of c.args.self.now.loaded.value) (unwrap_or found AT_START) c.args.apdu.now status) there refused) in
    let gives = c.in-Ok.ensures.tells.denied status told in
    record {
      refused = record { body = gives.1.body; status_is = gives.1.status_is };
      stays =
          all_stays old (memory g.S.Store c.on_files.new.store c.on_files.new.loaded) _
          (gives.2 ∙ ap (λ (table : Loaded). record (memory_of old) { table = table }) c.deref_mut.ensures.value)
          (set ∙ ap (λ (next : Selection). slice_set c.args.self.now.channels (channel_of c.args.apdu.now.class) (Some next)) gives.1.selected
          ∙ put_back c.args.self.now.channels (channel_of c.args.apdu.now.class) c.in-Some.selection there);
    })

pub returns-in-Err-clause-still : goal.returns-in-Err-clause-still
returns-in-Err-clause-still g c = λ is.
    let some = some_told c.tables_tell_states.ensures (g.S.Store.store_mark c.args.self.now.store) (g.S.Store.stable c.args.self.now.store) c.args.self.now.loaded.value c.requires.underway.running.mounted.agrees in
    absurd (false≢true (c.in-Err.ensures.tells.answers some.0 (subst (λ (command : FileCommand). NeedsNoContents (File command)) (sym is) tt) (subst (λ (table : Loaded). IsTold table some.0) (sym c.deref_mut.ensures.value) some.1)).0)

pub returns-in-Err-clause-acts : goal.returns-in-Err-clause-acts
returns-in-Err-clause-acts g c =
    let old = parts_of g.S.Store g.B.Applet c.args.self.now in
    let there : selected_on c.args.self.now.channels (channel_of c.args.apdu.now.class) ≡ Some c.in-Some.selection = ap (selected_on c.args.self.now.channels) (sym c.channel-channel.ensures) ∙ sym c.selected.ensures ∙ c.in-Some.is in
    files_stopped c.args.command c.args.apdu.now old _ c.in-Some.selection c.on_files.new.selection there c.on_files.new.out c.tables_tell_states.ensures c.tables_have_rows.ensures c.requires.underway.running
    c.deref_mut.result.now c.deref_mut.ensures.value
    (files_move {X = Unit} (Err c.in-Err.fault) c.args.command c.args.apdu.now old _
    (files_kept (channel_of c.args.apdu.now.class) old _ (c.in-Err.ensures.ends.table ∙ c.deref_mut.ensures.value) refl refl refl refl) (returns-in-Err-clause-still g c))
    c.in-Err.fault c.cards_go_on.ensures.rows c.requires.underway.running.stays refl c.in-Err.ensures.performs c.in-Err.ensures.tells c.in-Err.ensures.writes
    (λ status refused.
    absurd (false≢true (c.in-Err.ensures.tells.denied status (subst (λ (table : Loaded). RefusesFile c.args.command (descriptors_of table) c.in-Some.selection c.args.apdu.now status) (sym c.deref_mut.ensures.value)
    (subst (λ (found : Option Selection). RefusesFile c.args.command (descriptors_of c.args.self.now.loaded.value) (unwrap_or found AT_START) c.args.apdu.now status) there refused))).0))

pub returns-in-Err-clause-table : goal.returns-in-Err-clause-table
returns-in-Err-clause-table g c = c.in-Err.ensures.ends.table ∙ c.deref_mut.ensures.value

pub returns-in-Ok-clause-asks : goal.returns-in-Ok-clause-asks
returns-in-Ok-clause-asks g c = λ is file found.
    let there : selected_on c.args.self.now.channels (channel_of c.args.apdu.now.class) ≡ Some c.in-Some.selection = ap (selected_on c.args.self.now.channels) (sym c.channel-channel.ensures) ∙ sym c.selected.ensures ∙ c.in-Some.is in
    subst (λ (table : Loaded). ReadsOnce {X = Unit} {E = StoreFault} (Ok tt) c.on_files.new.out (access_reads (descriptors_of table) file) (g.S.Store.reads c.args.self.now.store) (g.S.Store.reads c.on_files.new.store)) c.deref_mut.ensures.value
    (c.in-Ok.ensures.asks is file
    (subst (λ (table : Loaded). binary_to_read (descriptors_of table) c.in-Some.selection c.args.apdu.now ≡ Ok file) (sym c.deref_mut.ensures.value)
    (subst (λ (chosen : Option Selection). binary_to_read (descriptors_of c.args.self.now.loaded.value) (unwrap_or chosen AT_START) c.args.apdu.now ≡ Ok file) there found)))

pub returns-in-Err-clause-asks : goal.returns-in-Err-clause-asks
returns-in-Err-clause-asks g c = λ is file found.
    let there : selected_on c.args.self.now.channels (channel_of c.args.apdu.now.class) ≡ Some c.in-Some.selection = ap (selected_on c.args.self.now.channels) (sym c.channel-channel.ensures) ∙ sym c.selected.ensures ∙ c.in-Some.is in
    subst (λ (table : Loaded). ReadsOnce {X = Unit} (Err c.in-Err.fault) c.on_files.new.out (access_reads (descriptors_of table) file) (g.S.Store.reads c.args.self.now.store) (g.S.Store.reads c.on_files.new.store)) c.deref_mut.ensures.value
    (c.in-Err.ensures.asks is file
    (subst (λ (table : Loaded). binary_to_read (descriptors_of table) c.in-Some.selection c.args.apdu.now ≡ Ok file) (sym c.deref_mut.ensures.value)
    (subst (λ (chosen : Option Selection). binary_to_read (descriptors_of c.args.self.now.loaded.value) (unwrap_or chosen AT_START) c.args.apdu.now ≡ Ok file) there found)))
