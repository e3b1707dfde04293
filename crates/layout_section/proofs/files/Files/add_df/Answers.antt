-- The new DF has no bytes, so the files still lie one after the other, and no file of its parent has its identifier.
use Rattle.std.proofs.Common.{ℕ, ◌<◌, List, [], ◌∷◌, ◌++◌, length, take, ap, sym, subst, refl, inl, ◌∙◌, arith}
use Rattle.std.proofs.lemmas.List.{length-set, take_more_set}
use Rattle.card_state.specs.declared.entries.Node.{Node}
use Rattle.card_state.specs.Persistent.{File}
use Rattle.card_state.specs.Kinds.{is_ef_kind}
use Rattle.card_state.specs.Checks.{is_known_kind}
use Rattle.card_state.specs.NewFiles.{df_node}
use Rattle.layout_section.specs.Adding.{df_numbered, IsPlaceIn}
use Rattle.layout_section.specs.Filing.{AreFilesOf, files_in, file_in}
use Rattle.layout_section.proofs.FilingLemmas.{length-files, file_count, filed_push, files_push, tree_for}
use Rattle.layout_section.proofs.files.Files.add_df.Goals as goal

pub bounds-self-inside-self-inside : goal.bounds-self-inside-self-inside
bounds-self-inside-self-inside c =
    omega (arith, file_count c.self.inside.bytes.items c.self.inside.nodes c.self.inside.count c.args.self.now c.self.view_is c.self.invariant.few c.self.invariant.table, c.requires.few)

pub invariant_of-self : goal.invariant_of-self
invariant_of-self c =
    let used : List Node = take c.self.inside.count c.self.inside.nodes in
    let low : c.self.inside.count < 128 =
    omega (arith, file_count c.self.inside.bytes.items c.self.inside.nodes c.self.inside.count c.args.self.now c.self.view_is c.self.invariant.few c.self.invariant.table, c.requires.few) in
    let place : IsPlaceIn (files_in c.self.inside.bytes.items used) c.args.parent c.args.id = subst (λ (files : List File). IsPlaceIn files c.args.parent c.args.id) (sym c.self.view_is) c.requires.place in
    record {
      few = omega arith;
      table = length-set c.self.inside.nodes c.self.inside.count c.new_df.result ∙ c.self.invariant.table;
      files =
          subst (λ (nodes : List Node). AreFilesOf nodes c.self.inside.bytes.items c.self.inside.total) (sym (take_more_set c.self.inside.nodes c.self.inside.count c.new_df.result (omega (arith, c.self.invariant.table))))
          (filed_push used c.self.inside.bytes.items c.self.inside.bytes.items c.self.inside.total c.self.inside.total c.new_df.result c.self.invariant.files refl
          (omega (arith, ap (λ (node : Node). node.size) c.new_df.ensures.value)) c.self.invariant.files.fits (inl (c.new_df.ensures.value ∙ sym (ap (λ (node : Node). df_node node.parent node.id) c.new_df.ensures.value)))
          (tree_for c.self.inside.bytes.items used c.self.inside.total c.self.invariant.files c.args.parent c.args.id place c.new_df.result (ap (λ (node : Node). node.parent) c.new_df.ensures.value)
          (ap (λ (node : Node). node.id) c.new_df.ensures.value) (ap (λ (node : Node). is_known_kind node.kind) c.new_df.ensures.value))
          (λ ef. absurd (cc (sym (ap (λ (node : Node). is_ef_kind node.kind) c.new_df.ensures.value) ∙ ef))) c.new_df.ensures.ranges);
    }

pub returns : goal.returns
returns c =
    let used : List Node = take c.self.inside.count c.self.inside.nodes in
    let low : c.self.inside.count < 128 =
    omega (arith, file_count c.self.inside.bytes.items c.self.inside.nodes c.self.inside.count c.args.self.now c.self.view_is c.self.invariant.few c.self.invariant.table, c.requires.few) in
    ap (files_in c.self.inside.bytes.items) (take_more_set c.self.inside.nodes c.self.inside.count c.new_df.result (omega (arith, c.self.invariant.table))) ∙ files_push c.self.inside.bytes.items used c.new_df.result
    ∙ ap (λ (node : Node). files_in c.self.inside.bytes.items used ++ file_in c.self.inside.bytes.items (length used) node ∷ []) c.new_df.ensures.value
    ∙ ap (λ (n : ℕ). files_in c.self.inside.bytes.items used ++ df_numbered n c.args.parent c.args.id ∷ []) (sym (length-files c.self.inside.bytes.items used))
    ∙ ap (λ (files : List File). files ++ df_numbered (length files) c.args.parent c.args.id ∷ []) c.self.view_is
