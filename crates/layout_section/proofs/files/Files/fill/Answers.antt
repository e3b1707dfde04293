-- The bytes lie inside one file's range, apart from the others', so its contents alone change; without a place none can be filled.
use Rattle.std.proofs.Common.{◌≡◌, ◌≢◌, ℕ, ◌+◌, ◌<◌, ◌≤◌, List, length, take, get_or, ap, sym, subst, ◌∙◌, arith, Ok, Err}
use Rattle.std.specs.Vec.{with_items}
use Rattle.list_laws.specs.Patches.{patched}
use Rattle.list_laws.proofs.PatchesLemmas.{length-patched}
use Rattle.card_state.specs.declared.entries.Node.{Node}
use Rattle.card_state.specs.declared.faults.SectionFault.TheVariants.{Bad}
use Rattle.card_state.specs.Blank.{unused_node}
use Rattle.card_state.specs.Kinds.{df_kind}
use Rattle.card_state.specs.Places.{data_place}
use Rattle.card_state.specs.Persistent.{File}
use Rattle.layout_section.specs.Adding.{file_numbered, filled, Rewrites}
use Rattle.layout_section.specs.Entries.{HasNoBytes, AreBytesAt}
use Rattle.layout_section.specs.Filing.{files_in}
use Rattle.layout_section.proofs.FilingLemmas.{file_count, used_count, items_are}
use Rattle.layout_section.proofs.RewritesLemmas.{table_node, high_place, bytes_inside, done_fill, refused_fill}
use Rattle.layout_section.proofs.files.Files.fill.Goals as goal

pub bounds-self-inside-from : goal.bounds-self-inside-from
bounds-self-inside-from c =
    omega (arith, file_count c.self.inside.bytes.items c.self.inside.nodes c.self.inside.count c.args.self.now c.self.view_is c.self.invariant.few c.self.invariant.table, c.requires)

pub place_of_bytes-requires : goal.place_of_bytes-requires
place_of_bytes-requires c =
    let used : List Node = take c.self.inside.count c.self.inside.nodes in
    let many : length c.args.self.now ≡ c.self.inside.count = file_count c.self.inside.bytes.items c.self.inside.nodes c.self.inside.count c.args.self.now c.self.view_is c.self.invariant.few c.self.invariant.table in
    let low : c.args.number < c.self.inside.count = omega (arith, c.requires) in
    let inside : c.args.number < length used = omega (arith, used_count c.self.inside.nodes c.self.inside.count c.self.invariant.few c.self.invariant.table) in
    let same : get_or used c.args.number unused_node ≡ get_or c.self.inside.nodes c.from.result unused_node =
    table_node c.self.inside.nodes c.self.inside.count c.args.number c.from.result low c.from.ensures in
    subst (λ (node : Node). node.kind ≢ df_kind → data_place ≤ node.place) same (high_place used c.self.inside.bytes.items c.self.inside.total c.args.number c.self.invariant.files inside)

pub put-requires : goal.put-requires
put-requires c =
    let used : List Node = take c.self.inside.count c.self.inside.nodes in
    let many : length c.args.self.now ≡ c.self.inside.count = file_count c.self.inside.bytes.items c.self.inside.nodes c.self.inside.count c.args.self.now c.self.view_is c.self.invariant.few c.self.invariant.table in
    let low : c.args.number < c.self.inside.count = omega (arith, c.requires) in
    let inside : c.args.number < length used = omega (arith, used_count c.self.inside.nodes c.self.inside.count c.self.invariant.few c.self.invariant.table) in
    let same : get_or used c.args.number unused_node ≡ get_or c.self.inside.nodes c.from.result unused_node =
    table_node c.self.inside.nodes c.self.inside.count c.args.number c.from.result low c.from.ensures in
    let is : AreBytesAt (get_or used c.args.number unused_node) c.args.offset (length c.args.bytes.now) c.in-Some.at =
    subst (λ (node : Node). AreBytesAt node c.args.offset (length c.args.bytes.now) c.in-Some.at) (sym same) c.in-Some.ensures in
    omega (
      arith,
      bytes_inside used c.self.inside.bytes.items c.self.inside.total c.args.number c.self.invariant.files inside c.args.offset (length c.args.bytes.now) c.in-Some.at is,
      ap (λ (l : List ℕ). length l) c.deref_mut.ensures.value,
    )

pub returns-in-Some : goal.returns-in-Some
returns-in-Some c =
    let used : List Node = take c.self.inside.count c.self.inside.nodes in
    let many : length c.args.self.now ≡ c.self.inside.count = file_count c.self.inside.bytes.items c.self.inside.nodes c.self.inside.count c.args.self.now c.self.view_is c.self.invariant.few c.self.invariant.table in
    let low : c.args.number < c.self.inside.count = omega (arith, c.requires) in
    let inside : c.args.number < length used = omega (arith, used_count c.self.inside.nodes c.self.inside.count c.self.invariant.few c.self.invariant.table) in
    let same : get_or used c.args.number unused_node ≡ get_or c.self.inside.nodes c.from.result unused_node =
    table_node c.self.inside.nodes c.self.inside.count c.args.number c.from.result low c.from.ensures in
    let is : AreBytesAt (get_or used c.args.number unused_node) c.args.offset (length c.args.bytes.now) c.in-Some.at =
    subst (λ (node : Node). AreBytesAt node c.args.offset (length c.args.bytes.now) c.in-Some.at) (sym same) c.in-Some.ensures in
    let old : List ℕ = c.self.inside.bytes.items in
    let fits : c.in-Some.at + length c.args.bytes.now ≤ length old =
    bytes_inside used old c.self.inside.total c.args.number c.self.invariant.files inside c.args.offset (length c.args.bytes.now) c.in-Some.at is in
    let now : c.put.new.bytes ≡ patched c.in-Some.at c.args.bytes.now old = c.put.ensures ∙ ap (λ (l : List ℕ). patched c.in-Some.at c.args.bytes.now l) c.deref_mut.ensures.value in
    let there : (with_items c.self.inside.bytes c.put.new.bytes).items ≡ patched c.in-Some.at c.args.bytes.now old =
    items_are c.self.inside.bytes c.put.new.bytes (ap (λ (l : List ℕ). length l) now ∙ length-patched c.in-Some.at c.args.bytes.now old fits) ∙ now in
    subst (λ (bytes : List ℕ). Rewrites c.args.self.now c.args.number (filled c.args.offset c.args.bytes.now (file_numbered c.args.self.now c.args.number).contents) (Ok tt) (files_in bytes used)) (sym there)
    (subst (λ (files : List File). Rewrites files c.args.number (filled c.args.offset c.args.bytes.now (file_numbered files c.args.number).contents) (Ok tt) (files_in (patched c.in-Some.at c.args.bytes.now old) used)) c.self.view_is
    (done_fill used old c.self.inside.total c.args.number c.self.invariant.files inside c.in-Some.at c.args.offset c.args.bytes.now is.place is.kind is.fits))

pub returns-in-None : goal.returns-in-None
returns-in-None c =
    let used : List Node = take c.self.inside.count c.self.inside.nodes in
    let many : length c.args.self.now ≡ c.self.inside.count = file_count c.self.inside.bytes.items c.self.inside.nodes c.self.inside.count c.args.self.now c.self.view_is c.self.invariant.few c.self.invariant.table in
    let low : c.args.number < c.self.inside.count = omega (arith, c.requires) in
    let inside : c.args.number < length used = omega (arith, used_count c.self.inside.nodes c.self.inside.count c.self.invariant.few c.self.invariant.table) in
    let same : get_or used c.args.number unused_node ≡ get_or c.self.inside.nodes c.from.result unused_node =
    table_node c.self.inside.nodes c.self.inside.count c.args.number c.from.result low c.from.ensures in
    let why : HasNoBytes (get_or used c.args.number unused_node) c.args.offset (length c.args.bytes.now) =
    subst (λ (node : Node). HasNoBytes node c.args.offset (length c.args.bytes.now)) (sym same) c.in-None.ensures in
    subst (λ (files : List File). Rewrites files c.args.number (filled c.args.offset c.args.bytes.now (file_numbered files c.args.number).contents) (Err Bad) files) c.self.view_is
    (refused_fill used c.self.inside.bytes.items c.self.inside.total c.args.number c.self.invariant.files inside c.args.offset c.args.bytes.now why)
