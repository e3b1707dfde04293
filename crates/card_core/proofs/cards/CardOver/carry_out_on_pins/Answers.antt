-- A fault puts the old PINs back in the table, whatever was committed: the store holds one of the states that the command passes.
use Rattle.std.proofs.Common.{None, Contains, ℕ, List, ◌∷◌, Option, refl, sym, ◌∙◌, ap, subst, rules}
use Rattle.std.proofs.lemmas.Bool.{false≢true}
use Rattle.card_state.specs.Memory.{memory}
use Rattle.card_state.specs.Standing.{Agrees}
use Rattle.card_state.specs.States.{pins_of, rows_of}
use Rattle.card_state.specs.declared.entries.Loaded.{Loaded}
use Rattle.access_rules.specs.declared.rules.Verified.{Verified}
use Rattle.file_model.specs.Commands.{pin_outcome, pin_settled}
use Rattle.file_model.specs.Files.{descriptors_of}
use Rattle.file_model.specs.LawfulTrees.{AreSelected}
use Rattle.file_model.specs.declared.descriptors.Descriptor.{Descriptor}
use Rattle.card_commits.specs.Performing.{with_each}
use Rattle.card_core.specs.Cards.{parts_of}
use Rattle.card_core.proofs.HoldsCardLemmas.{holds_card}
use Rattle.card_core.proofs.IsSetLemmas.{rows_beside_pins, files_beside_pins, holds_passed, set_after}
use Rattle.card_core.proofs.PinYieldsLemmas.{pins_act, pins_stopped}
use Rattle.card_core.proofs.PutBackLemmas.{silent_agrees}
use Rattle.card_core.proofs.RefusesByTableLemmas.{all_stays, pins_refused}
use Rattle.card_core.proofs.RestartLemmas.{toolkit_kept}
use Rattle.card_core.proofs.cards.CardOver.carry_out_on_pins.Goals as goal

pub returns-in-Ok-clause-goes_on : goal.returns-in-Ok-clause-goes_on
returns-in-Ok-clause-goes_on g c = record {
  set =
      set_after (parts_of g.S.Store g.B.Applet c.args.self.now) _ c.requires.underway.set c.named_pin_command.ensures.ends.keeps.size refl (holds_card _ _ _ c.in-Ok.ensures.ends.keeps.mounted.agrees)
      (λ silent. subst (λ (telling : Option (List ℕ)). Agrees (g.S.Store.store_mark c.named_pin_command.new.store) telling c.named_pin_command.new.loaded) silent c.in-Ok.ensures.ends.keeps.mounted.agrees)
      c.named_pin_command.ensures.ends.keeps.told (rows_beside_pins _ _ c.named_pin_command.ensures.ends.others ∙ ap rows_of c.deref_mut.ensures.value);
  running = record {
    mounted = c.in-Ok.ensures.ends.keeps.mounted;
    selected =
        subst (λ (files : List Descriptor). AreSelected files c.args.self.now.channels) (sym (files_beside_pins _ _ c.named_pin_command.ensures.ends.others ∙ ap descriptors_of c.deref_mut.ensures.value))
        c.requires.underway.running.selected;
    toolkit = toolkit_kept c.args.self.now.loaded.value c.named_pin_command.new.loaded _ _ _ (rows_beside_pins _ _ c.named_pin_command.ensures.ends.others ∙ ap rows_of c.deref_mut.ensures.value) c.requires.underway.running.toolkit;
    stays = c.requires.underway.running.stays;
  };
  others = search rules;
  cause = search rules;
}

pub returns-in-Err-clause-table : goal.returns-in-Err-clause-table
returns-in-Err-clause-table g c = ap (λ (table : Loaded). record table { pins = c.deref.result.now.pins }) (c.deref_mut-in-Err.ensures.value ∙ c.named_pin_command.ensures.ends.others ∙ ap (λ (table : Loaded). record table { pins = c.named_pin_command.new.loaded.pins }) c.deref_mut.ensures.value) ∙ ap (λ (table : Loaded). record c.args.self.now.loaded.value { pins = table.pins }) c.deref.ensures

pub returns-in-Err-clause-acts : goal.returns-in-Err-clause-acts
returns-in-Err-clause-acts g c =
    pins_stopped c.args.command c.args.apdu.now (parts_of g.S.Store g.B.Applet c.args.self.now) _ c.named_pin_command.new.out c.tables_tell_states.ensures c.requires.underway.running c.deref_mut.result.now c.deref_mut.ensures.value
    (record {
      table = returns-in-Err-clause-table g c ∙ ap (λ (table : Loaded). record c.args.self.now.loaded.value { pins = table.pins }) (sym (returns-in-Err-clause-table g c));
      channels = refl;
      session = refl;
      boxes = refl;
    })
    c.tables_have_rows.ensures c.cards_go_on.ensures.rows c.in-Err.fault c.requires.underway.running.stays
    c.named_pin_command.new.loaded c.in-Err.ensures.performs c.in-Err.ensures.stops c.in-Err.ensures.writes
    (λ status refused. absurd (false≢true (c.in-Err.ensures.refused status (ap (λ (table : Loaded). pin_outcome c.args.command (pins_of table) c.args.self.now.verified c.args.apdu.now) c.deref_mut.ensures.value ∙ refused)).0))

pub returns-in-Err-clause-goes_on : goal.returns-in-Err-clause-goes_on
returns-in-Err-clause-goes_on g c = record {
  set =
      set_after (parts_of g.S.Store g.B.Applet c.args.self.now) _ c.requires.underway.set c.named_pin_command.ensures.ends.keeps.size refl
      (holds_passed (λ state. Contains (state ∷ with_each state (pin_settled c.args.command state.pins c.args.self.now.verified c.args.apdu.now).passed)) _ _ _ _ c.requires.underway.set.card c.named_pin_command.ensures.ends.keeps.told c.in-Err.ensures.performs.passes)
      (λ silent. subst (Agrees (g.S.Store.store_mark c.named_pin_command.new.store) None) (sym (returns-in-Err-clause-table g c)) (subst (λ (mark : ℕ). Agrees mark None c.args.self.now.loaded.value) (sym c.named_pin_command.ensures.ends.keeps.mark) (silent_agrees _ _ _ c.requires.underway.running.mounted.agrees)))
      c.named_pin_command.ensures.ends.keeps.told (ap rows_of (returns-in-Err-clause-table g c));
  running = search rules;
  others = search rules;
  cause = search rules;
}

pub returns-in-Ok-clause-acts : goal.returns-in-Ok-clause-acts
returns-in-Ok-clause-acts g c =
    pins_act c.args.command c.args.apdu.now (parts_of g.S.Store g.B.Applet c.args.self.now) _ c.named_pin_command.new.out c.tables_tell_states.ensures c.requires.underway.running c.deref_mut.result.now c.deref_mut.ensures.value
    (record {
      table = c.named_pin_command.ensures.ends.others ∙ ap (λ (table : Loaded). record table { pins = c.named_pin_command.new.loaded.pins }) c.deref_mut.ensures.value;
      channels = refl;
      session = refl;
      boxes = refl;
    })
    tt (record { channels = refl; session = refl; boxes = refl }) c.named_pin_command.ensures.ends.empty c.in-Ok.ensures.performs c.in-Ok.ensures.comes.carried_out c.in-Ok.ensures.writes
    (λ status refused.
    let told = ap (λ (table : Loaded). pin_outcome c.args.command (pins_of table) c.args.self.now.verified c.args.apdu.now) c.deref_mut.ensures.value ∙ refused in
    let gives = c.in-Ok.ensures.refused status told in
    let stays = c.named_pin_command.ensures.still (pins_refused _ _ _ _ status told) in
    let old = parts_of g.S.Store g.B.Applet c.args.self.now in
    record {
      refused = record { body = gives.1.body; status_is = gives.1.status_is };
      stays =
          all_stays (record old { verified = c.named_pin_command.new.verified }) (memory g.S.Store c.named_pin_command.new.store c.named_pin_command.new.loaded) old.channels
          (ap (λ store. memory g.S.Store store c.named_pin_command.new.loaded) stays.1 ∙ ap (memory g.S.Store c.args.self.now.store) (stays.2 ∙ c.deref_mut.ensures.value)) refl
          ∙ ap (λ (marks : Verified). record old { verified = marks }) gives.1.verified;
    })
