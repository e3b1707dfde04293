-- The bytes that become FF lie after those of all files, so the others hold what they held, and the new EF holds just these.
use Rattle.std.proofs.Common.{◌≡◌, ℕ, ◌+◌, ◌<◌, ◌≤◌, List, [], ◌∷◌, ◌++◌, length, take, replicate, ap, sym, subst, refl, inr, ◌∙◌, arith}
use Rattle.std.proofs.lemmas.List.{length-set, take_more_set, length-replicate}
use Rattle.std.specs.Vec.{with_items}
use Rattle.list_laws.specs.Patches.{patched}
use Rattle.list_laws.proofs.PatchesLemmas.{length-patched}
use Rattle.card_state.specs.declared.entries.Node.{Node}
use Rattle.card_state.specs.Persistent.{File}
use Rattle.card_state.specs.Sections.{byte_total_of, size_of}
use Rattle.card_state.specs.Checks.{is_known_kind}
use Rattle.card_state.specs.NewFiles.{rule_from}
use Rattle.card_state.proofs.NewFileLemmas.{some_bytes}
use Rattle.layout_section.specs.Adding.{ef_numbered, IsPlaceIn, is_short_for}
use Rattle.layout_section.specs.Filing.{all_bytes, AreFilesOf, IsEfBehind, files_in}
use Rattle.layout_section.proofs.FilingLemmas.{file_count, file_total, filed_push, tree_for, short_for, items_are}
use Rattle.layout_section.proofs.EfNumberedLemmas.{known_kind, new_behind, with_new}
use Rattle.layout_section.proofs.files.Files.add_ef.Goals as goal

pub overflow_cast-place : goal.overflow_cast-place
unfolding all_bytes
overflow_cast-place c =
    let total : byte_total_of c.args.self.now ≡ c.self.inside.total =
    file_total c.self.inside.bytes.items (take c.self.inside.count c.self.inside.nodes) c.self.inside.total c.args.self.now c.self.view_is c.self.invariant.files in
    omega (arith, total, c.requires.room, some_bytes c.args.shape c.requires.shape)

pub blank-requires : goal.blank-requires
blank-requires c =
    let total : byte_total_of c.args.self.now ≡ c.self.inside.total =
    file_total c.self.inside.bytes.items (take c.self.inside.count c.self.inside.nodes) c.self.inside.total c.args.self.now c.self.view_is c.self.invariant.files in
    omega (arith, total, c.requires.room, c.self.invariant.files.long, ap (λ (l : List ℕ). length l) c.deref_mut.ensures.value)

pub bounds-self-inside-self-inside : goal.bounds-self-inside-self-inside
bounds-self-inside-self-inside c =
    omega (arith, file_count c.self.inside.bytes.items c.self.inside.nodes c.self.inside.count c.args.self.now c.self.view_is c.self.invariant.few c.self.invariant.table, c.requires.few)

pub invariant_of-self : goal.invariant_of-self
invariant_of-self c =
    let used : List Node = take c.self.inside.count c.self.inside.nodes in
    let old : List ℕ = c.self.inside.bytes.items in
    let low : c.self.inside.count < 128 =
    omega (arith, file_count c.self.inside.bytes.items c.self.inside.nodes c.self.inside.count c.args.self.now c.self.view_is c.self.invariant.few c.self.invariant.table, c.requires.few) in
    let total : byte_total_of c.args.self.now ≡ c.self.inside.total = file_total old used c.self.inside.total c.args.self.now c.self.view_is c.self.invariant.files in
    let size : c.from-size.result ≡ size_of c.args.shape = c.from-size.ensures ∙ c.size_for.ensures in
    let same_long : length c.deref_mut.result.now ≡ length old = ap (λ (l : List ℕ). length l) c.deref_mut.ensures.value in
    let room : c.self.inside.total + c.from-size.result ≤ length old = omega (arith, total, c.requires.room, c.self.invariant.files.long) in
    let long : length c.blank.new.bytes ≡ length old =
    ap (λ (l : List ℕ). length l) c.blank.ensures
    ∙ length-patched c.self.inside.total (replicate c.from-size.result 255) c.deref_mut.result.now (omega (arith, length-replicate {A = ℕ} c.from-size.result 255)) ∙ same_long in
    let there : (with_items c.self.inside.bytes c.blank.new.bytes).items ≡ c.blank.new.bytes = items_are c.self.inside.bytes c.blank.new.bytes long in
    let place : IsPlaceIn (files_in old used) c.args.parent c.args.id = subst (λ (files : List File). IsPlaceIn files c.args.parent c.args.id) (sym c.self.view_is) c.requires.place in
    record {
      few = omega arith;
      table = length-set c.self.inside.nodes c.self.inside.count c.new_ef.result ∙ c.self.invariant.table;
      files =
          subst (λ (nodes : List Node). AreFilesOf nodes (with_items c.self.inside.bytes c.blank.new.bytes).items (c.self.inside.total + c.from-size.result))
          (sym (take_more_set c.self.inside.nodes c.self.inside.count c.new_ef.result (omega (arith, c.self.invariant.table))))
          (filed_push used old (with_items c.self.inside.bytes c.blank.new.bytes).items c.self.inside.total (c.self.inside.total + c.from-size.result) c.new_ef.result c.self.invariant.files
          (ap (λ (l : List ℕ). length l) there ∙ long) (omega (arith, size, ap (λ (node : Node). node.size) c.new_ef.ensures.value)) room
          (inr (subst (IsEfBehind c.self.inside.total) (sym c.new_ef.ensures.value) (new_behind (3968 + c.self.inside.total) c.args.parent c.args.id c.args.short c.args.rule c.self.inside.total c.args.shape refl c.requires.shape)))
          (tree_for old used c.self.inside.total c.self.invariant.files c.args.parent c.args.id place c.new_ef.result (ap (λ (node : Node). node.parent) c.new_ef.ensures.value) (ap (λ (node : Node). node.id) c.new_ef.ensures.value)
          (ap (λ (node : Node). is_known_kind node.kind) c.new_ef.ensures.value ∙ known_kind c.args.shape))
          (λ ef. short_for old used c.self.inside.total c.self.invariant.files c.args.parent c.args.id place c.new_ef.result (ap (λ (node : Node). node.parent) c.new_ef.ensures.value)
          (ap (λ (files : List File). is_short_for files c.args.parent c.new_ef.result.short) c.self.view_is ∙ ap (λ (node : Node). is_short_for c.args.self.now c.args.parent node.short) c.new_ef.ensures.value ∙ c.requires.short))
          c.new_ef.ensures.ranges);
    }

pub returns : goal.returns
returns c =
    let used : List Node = take c.self.inside.count c.self.inside.nodes in
    let old : List ℕ = c.self.inside.bytes.items in
    let low : c.self.inside.count < 128 =
    omega (arith, file_count c.self.inside.bytes.items c.self.inside.nodes c.self.inside.count c.args.self.now c.self.view_is c.self.invariant.few c.self.invariant.table, c.requires.few) in
    let total : byte_total_of c.args.self.now ≡ c.self.inside.total = file_total old used c.self.inside.total c.args.self.now c.self.view_is c.self.invariant.files in
    let size : c.from-size.result ≡ size_of c.args.shape = c.from-size.ensures ∙ c.size_for.ensures in
    let same_long : length c.deref_mut.result.now ≡ length old = ap (λ (l : List ℕ). length l) c.deref_mut.ensures.value in
    let room : c.self.inside.total + c.from-size.result ≤ length old = omega (arith, total, c.requires.room, c.self.invariant.files.long) in
    let long : length c.blank.new.bytes ≡ length old =
    ap (λ (l : List ℕ). length l) c.blank.ensures
    ∙ length-patched c.self.inside.total (replicate c.from-size.result 255) c.deref_mut.result.now (omega (arith, length-replicate {A = ℕ} c.from-size.result 255)) ∙ same_long in
    let there : (with_items c.self.inside.bytes c.blank.new.bytes).items ≡ c.blank.new.bytes = items_are c.self.inside.bytes c.blank.new.bytes long in
    let blanked : (with_items c.self.inside.bytes c.blank.new.bytes).items ≡ patched c.self.inside.total (replicate (size_of c.args.shape) 255) old =
    there ∙ c.blank.ensures ∙ ap (λ (l : List ℕ). patched c.self.inside.total (replicate c.from-size.result 255) l) c.deref_mut.ensures.value
    ∙ ap (λ (n : ℕ). patched c.self.inside.total (replicate n 255) old) size in
    ap (λ (nodes : List Node). files_in (with_items c.self.inside.bytes c.blank.new.bytes).items nodes)
    (take_more_set c.self.inside.nodes c.self.inside.count c.new_ef.result (omega (arith, c.self.invariant.table)))
    ∙ ap (λ (l : List ℕ). files_in l (used ++ c.new_ef.result ∷ [])) blanked
    ∙ ap (λ (node : Node). files_in (patched c.self.inside.total (replicate (size_of c.args.shape) 255) old) (used ++ node ∷ [])) c.new_ef.ensures.value
    ∙ with_new old used c.self.inside.total c.args.parent c.args.id c.args.shape c.args.short c.args.rule c.self.invariant.files (omega arith) c.requires.shape c.requires.rule
    ∙ ap (λ (files : List File). files ++ ef_numbered files c.args.parent c.args.id c.args.shape c.args.short (rule_from c.args.rule) ∷ []) c.self.view_is
