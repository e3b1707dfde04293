-- on_tree speaks of each memory with the table's entries: the card's answer, its commits and what a fault leaves are drawn from that.
use Rattle.std.proofs.Common.{ℕ, List, Option, refl, ◌∙◌, ap, subst, rules}
use Rattle.card_state.specs.Standing.{Agrees}
use Rattle.card_state.specs.States.{rows_of}
use Rattle.card_core.specs.Cards.{parts_of}
use Rattle.card_core.proofs.HoldsCardLemmas.{holds_card}
use Rattle.card_core.proofs.IsSetLemmas.{rows_beside_files, set_after}
use Rattle.card_core.proofs.RestartLemmas.{toolkit_kept}
use Rattle.card_core.proofs.TreeYieldsLemmas.{trees_act, trees_stopped, tree_moved}
use Rattle.card_core.proofs.cards.CardOver.carry_out_on_tree.Goals as goal

pub returns-in-Ok-clause-goes_on : goal.returns-in-Ok-clause-goes_on
returns-in-Ok-clause-goes_on g c = record {
  set =
      set_after (parts_of g.S.Store g.B.Applet c.args.self.now) _ c.requires.underway.set c.on_tree.ensures.ends.keeps.size refl (holds_card _ _ _ c.in-Ok.ensures.ends.keeps.mounted.agrees)
      (λ silent. subst (λ (telling : Option (List ℕ)). Agrees (g.S.Store.store_mark c.on_tree.new.store) telling c.on_tree.new.loaded) silent c.in-Ok.ensures.ends.keeps.mounted.agrees)
      c.on_tree.ensures.ends.keeps.told (rows_beside_files _ _ c.on_tree.ensures.ends.nodes ∙ ap rows_of c.deref_mut.ensures.value);
  running = record {
    mounted = c.in-Ok.ensures.ends.keeps.mounted;
    selected = c.in-Ok.ensures.ends.selected;
    toolkit = toolkit_kept c.args.self.now.loaded.value c.on_tree.new.loaded _ _ _ (rows_beside_files _ _ c.on_tree.ensures.ends.nodes ∙ ap rows_of c.deref_mut.ensures.value) c.requires.underway.running.toolkit;
    stays = c.requires.underway.running.stays;
  };
  others = search rules;
  cause = search rules;
}

pub returns-in-Ok-clause-acts : goal.returns-in-Ok-clause-acts
returns-in-Ok-clause-acts g c =
    trees_act c.args.command c.args.apdu.now (parts_of g.S.Store g.B.Applet c.args.self.now) _ c.on_tree.new.out c.tables_tell_states.ensures c.requires.underway.running c.deref_mut.result.now c.deref_mut.ensures.value
    (tree_moved (parts_of g.S.Store g.B.Applet c.args.self.now) _ c.deref_mut.result.now c.deref_mut.ensures.value c.on_tree.ensures.ends.nodes refl refl refl)
    tt (record { verified = refl; session = refl; boxes = refl }) c.on_tree.ensures.ends.empty c.in-Ok.ensures.performs c.in-Ok.ensures.tells.answers c.in-Ok.ensures.tells.commits c.in-Ok.ensures.tells.writes

pub returns-in-Err-clause-acts : goal.returns-in-Err-clause-acts
returns-in-Err-clause-acts g c =
    trees_stopped c.args.command c.args.apdu.now (parts_of g.S.Store g.B.Applet c.args.self.now) _ c.on_tree.new.out c.tables_tell_states.ensures c.requires.underway.running c.deref_mut.result.now c.deref_mut.ensures.value
    (tree_moved (parts_of g.S.Store g.B.Applet c.args.self.now) _ c.deref_mut.result.now c.deref_mut.ensures.value c.on_tree.ensures.ends.nodes refl refl refl)
    c.tables_have_rows.ensures c.cards_go_on.ensures.rows c.in-Err.fault c.requires.underway.running.stays c.in-Err.ensures.performs c.in-Err.ensures.tells.commits
    (λ store_mark content state stands none. (c.in-Err.ensures.still store_mark content state stands none).0) c.in-Err.ensures.tells.writes

pub returns-in-Err-clause-table : goal.returns-in-Err-clause-table
returns-in-Err-clause-table g c = c.in-Err.ensures.ends.kept ∙ c.deref_mut.ensures.value
