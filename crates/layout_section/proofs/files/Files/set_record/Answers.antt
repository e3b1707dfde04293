-- A record filled up with FF lies inside its file's range, so it alone changes; without a place the file has no such record.
use Rattle.std.proofs.Common.{◌≡◌, ◌≢◌, ℕ, ◌+◌, ◌-◌, ◌<◌, ◌≤◌, List, ◌++◌, length, take, get_or, replicate, ap, sym, subst, ◌∙◌, arith, length-append, Ok, Err}
use Rattle.std.specs.Vec.{with_items}
use Rattle.std.proofs.lemmas.List.{length-replicate}
use Rattle.list_laws.specs.Patches.{patched}
use Rattle.list_laws.proofs.PatchesLemmas.{length-patched}
use Rattle.card_state.specs.declared.entries.Node.{Node}
use Rattle.card_state.specs.declared.faults.SectionFault.TheVariants.{Bad}
use Rattle.card_state.specs.Blank.{unused_node}
use Rattle.card_state.specs.Kinds.{df_kind}
use Rattle.card_state.specs.Places.{data_place}
use Rattle.card_state.specs.Persistent.{File}
use Rattle.layout_section.specs.Adding.{file_numbered, with_record, Rewrites}
use Rattle.layout_section.specs.Entries.{HasNoRecord, IsRecordAt}
use Rattle.layout_section.specs.Filing.{files_in}
use Rattle.layout_section.proofs.FilingLemmas.{file_count, used_count, items_are}
use Rattle.layout_section.proofs.RewritesLemmas.{table_node, high_place, record_inside, done_record, refused_record}
use Rattle.layout_section.proofs.files.Files.set_record.Goals as goal

pub bounds-self-inside-from : goal.bounds-self-inside-from
bounds-self-inside-from c =
    omega (arith, file_count c.self.inside.bytes.items c.self.inside.nodes c.self.inside.count c.args.self.now c.self.view_is c.self.invariant.few c.self.invariant.table, c.requires)

pub place_of_record-requires : goal.place_of_record-requires
place_of_record-requires c =
    let used : List Node = take c.self.inside.count c.self.inside.nodes in
    let many : length c.args.self.now ≡ c.self.inside.count = file_count c.self.inside.bytes.items c.self.inside.nodes c.self.inside.count c.args.self.now c.self.view_is c.self.invariant.few c.self.invariant.table in
    let low : c.args.number < c.self.inside.count = omega (arith, c.requires) in
    let inside : c.args.number < length used = omega (arith, used_count c.self.inside.nodes c.self.inside.count c.self.invariant.few c.self.invariant.table) in
    let same : get_or used c.args.number unused_node ≡ get_or c.self.inside.nodes c.from.result unused_node =
    table_node c.self.inside.nodes c.self.inside.count c.args.number c.from.result low c.from.ensures in
    subst (λ (node : Node). node.kind ≢ df_kind → data_place ≤ node.place) same (high_place used c.self.inside.bytes.items c.self.inside.total c.args.number c.self.invariant.files inside)

pub put_filled-requires-clause-inside : goal.put_filled-requires-clause-inside
put_filled-requires-clause-inside c =
    let used : List Node = take c.self.inside.count c.self.inside.nodes in
    let many : length c.args.self.now ≡ c.self.inside.count = file_count c.self.inside.bytes.items c.self.inside.nodes c.self.inside.count c.args.self.now c.self.view_is c.self.invariant.few c.self.invariant.table in
    let low : c.args.number < c.self.inside.count = omega (arith, c.requires) in
    let inside : c.args.number < length used = omega (arith, used_count c.self.inside.nodes c.self.inside.count c.self.invariant.few c.self.invariant.table) in
    let same : get_or used c.args.number unused_node ≡ get_or c.self.inside.nodes c.from.result unused_node =
    table_node c.self.inside.nodes c.self.inside.count c.args.number c.from.result low c.from.ensures in
    let is : IsRecordAt (get_or used c.args.number unused_node) c.args.index (length c.args.bytes.now) c.in-Some.at =
    subst (λ (node : Node). IsRecordAt node c.args.index (length c.args.bytes.now) c.in-Some.at) (sym same) c.in-Some.ensures in
    omega (
      arith,
      record_inside used c.self.inside.bytes.items c.self.inside.total c.args.number c.self.invariant.files inside c.args.index (length c.args.bytes.now) c.in-Some.at is,
      ap (λ (l : List ℕ). length l) c.deref_mut.ensures.value,
      ap (λ (node : Node). node.length) same,
      c.from-in-Some.ensures,
    )

pub returns-in-Some : goal.returns-in-Some
returns-in-Some c =
    let used : List Node = take c.self.inside.count c.self.inside.nodes in
    let many : length c.args.self.now ≡ c.self.inside.count = file_count c.self.inside.bytes.items c.self.inside.nodes c.self.inside.count c.args.self.now c.self.view_is c.self.invariant.few c.self.invariant.table in
    let low : c.args.number < c.self.inside.count = omega (arith, c.requires) in
    let inside : c.args.number < length used = omega (arith, used_count c.self.inside.nodes c.self.inside.count c.self.invariant.few c.self.invariant.table) in
    let same : get_or used c.args.number unused_node ≡ get_or c.self.inside.nodes c.from.result unused_node =
    table_node c.self.inside.nodes c.self.inside.count c.args.number c.from.result low c.from.ensures in
    let is : IsRecordAt (get_or used c.args.number unused_node) c.args.index (length c.args.bytes.now) c.in-Some.at =
    subst (λ (node : Node). IsRecordAt node c.args.index (length c.args.bytes.now) c.in-Some.at) (sym same) c.in-Some.ensures in
    let old : List ℕ = c.self.inside.bytes.items in
    let width : ℕ = (get_or used c.args.number unused_node).length in
    let wide : c.from-in-Some.result ≡ (get_or used c.args.number unused_node).length = c.from-in-Some.ensures ∙ sym (ap (λ (node : Node). node.length) same) in
    let added : List ℕ = c.args.bytes.now ++ replicate ((get_or used c.args.number unused_node).length - length c.args.bytes.now) 255 in
    let fits : c.in-Some.at + length added ≤ length old =
    omega (
      arith,
      record_inside used old c.self.inside.total c.args.number c.self.invariant.files inside c.args.index (length c.args.bytes.now) c.in-Some.at is,
      length-append c.args.bytes.now (replicate ((get_or used c.args.number unused_node).length - length c.args.bytes.now) 255),
      length-replicate {A = ℕ} ((get_or used c.args.number unused_node).length - length c.args.bytes.now) 255,
      is.fits,
    ) in
    let now : c.put_filled.new.bytes ≡ patched c.in-Some.at added old =
    c.put_filled.ensures ∙ ap (λ (n : ℕ). patched c.in-Some.at (c.args.bytes.now ++ replicate (n - length c.args.bytes.now) 255) c.deref_mut.result.now) wide
    ∙ ap (λ (l : List ℕ). patched c.in-Some.at added l) c.deref_mut.ensures.value in
    let there : (with_items c.self.inside.bytes c.put_filled.new.bytes).items ≡ patched c.in-Some.at added old =
    items_are c.self.inside.bytes c.put_filled.new.bytes (ap (λ (l : List ℕ). length l) now ∙ length-patched c.in-Some.at added old fits) ∙ now in
    subst (λ (bytes : List ℕ). Rewrites c.args.self.now c.args.number (with_record c.args.index c.args.bytes.now (file_numbered c.args.self.now c.args.number).contents) (Ok tt) (files_in bytes used)) (sym there)
    (subst (λ (files : List File). Rewrites files c.args.number (with_record c.args.index c.args.bytes.now (file_numbered files c.args.number).contents) (Ok tt) (files_in (patched c.in-Some.at added old) used)) c.self.view_is
    (done_record used old c.self.inside.total c.args.number c.self.invariant.files inside c.args.index c.in-Some.at c.args.bytes.now is))

pub returns-in-None : goal.returns-in-None
returns-in-None c =
    let used : List Node = take c.self.inside.count c.self.inside.nodes in
    let many : length c.args.self.now ≡ c.self.inside.count = file_count c.self.inside.bytes.items c.self.inside.nodes c.self.inside.count c.args.self.now c.self.view_is c.self.invariant.few c.self.invariant.table in
    let low : c.args.number < c.self.inside.count = omega (arith, c.requires) in
    let inside : c.args.number < length used = omega (arith, used_count c.self.inside.nodes c.self.inside.count c.self.invariant.few c.self.invariant.table) in
    let same : get_or used c.args.number unused_node ≡ get_or c.self.inside.nodes c.from.result unused_node =
    table_node c.self.inside.nodes c.self.inside.count c.args.number c.from.result low c.from.ensures in
    let why : HasNoRecord (get_or used c.args.number unused_node) c.args.index (length c.args.bytes.now) =
    subst (λ (node : Node). HasNoRecord node c.args.index (length c.args.bytes.now)) (sym same) c.in-None.ensures in
    subst (λ (files : List File). Rewrites files c.args.number (with_record c.args.index c.args.bytes.now (file_numbered files c.args.number).contents) (Err Bad) files) c.self.view_is
    (refused_record used c.self.inside.bytes.items c.self.inside.total c.args.number c.self.invariant.files inside c.args.index c.args.bytes.now why)
