-- The kind is from 1 to 7 and the rows so far fit the files, so the tests of the row alone decide between Bad, NoRoom and Ok.
use Rattle.std.proofs.Common.{◌≡◌, ℕ, List, ◌+◌, true, false, Option, Some, sym, ap, subst, ◌∙◌, IfSome, Ok, Err}
use Rattle.card_state.specs.declared.faults.SectionFault.TheVariants.{Bad, NoRoom}
use Rattle.card_state.specs.Persistent.{Registration, Persistent}
use Rattle.card_state.specs.Sections.{RowLine, installation_of, with_row, rows_fit, byte_total_of}
use Rattle.card_state.specs.Installations.{registered}
use Rattle.card_state.specs.AppletKinds.{IsAppletKind}
use Rattle.layout_section.specs.Adding.{AddsLine}
use Rattle.layout_section.specs.Describing.{described, has_room_for_row}
use Rattle.layout_section.proofs.AddsLemmas.{state_with, row_bad, row_no_room, row_follows, rows_fit_with}
use Rattle.layout_section.proofs.section.Section.row.Goals as goal

pub returns-then-not-may_take : goal.returns-then-not-may_take
returns-then-not-may_take c =
    let known : IsAppletKind c.in-Some.kind = subst (λ (k : Option ℕ). IfSome k IsAppletKind) c.in-Some.is c.requires in
    subst (λ (k : Option ℕ). AddsLine (RowLine c.args.shelf.0 c.args.priority c.args.content.now k) c.args.self.now (Err Bad) c.args.self.now) (sym c.in-Some.is)
    (subst (λ (state : Persistent). AddsLine (RowLine c.args.shelf.0 c.args.priority c.args.content.now (Some c.in-Some.kind)) state (Err Bad) state) c.self.view_is
    (row_bad c.self.inside.files c.self.inside.pins c.self.inside.rows.list c.self.inside.rows.next c.args.shelf.0 c.args.priority c.in-Some.kind c.in-Some-read_installation.installed (installation_of c.args.content.now) c.in-Some-read_installation.ensures known (sym c.may_take.ensures ∙ c.if-not-may_take.true)))

pub returns-then-not-has_room_for_row : goal.returns-then-not-has_room_for_row
returns-then-not-has_room_for_row c =
    let known : IsAppletKind c.in-Some.kind = subst (λ (k : Option ℕ). IfSome k IsAppletKind) c.in-Some.is c.requires in
    let full : has_room_for_row (described c.self.inside) c.args.shelf.0 c.in-Some-read_installation.installed ≡ false =
    ap (λ (state : Persistent). has_room_for_row state c.args.shelf.0 c.in-Some-read_installation.installed) c.self.view_is ∙ sym c.has_room_for_row.ensures ∙ c.if-not-has_room_for_row.true in
    subst (λ (k : Option ℕ). AddsLine (RowLine c.args.shelf.0 c.args.priority c.args.content.now k) c.args.self.now (Err NoRoom) c.args.self.now) (sym c.in-Some.is)
    (subst (λ (state : Persistent). AddsLine (RowLine c.args.shelf.0 c.args.priority c.args.content.now (Some c.in-Some.kind)) state (Err NoRoom) state) c.self.view_is
    (row_no_room c.self.inside.files c.self.inside.pins c.self.inside.rows.list c.self.inside.rows.next c.args.shelf.0 c.args.priority c.in-Some.kind c.in-Some-read_installation.installed (installation_of c.args.content.now) c.in-Some-read_installation.ensures known (sym c.may_take.ensures ∙ c.if-not-may_take.false) c.self.invariant full))

pub invariant_of-self : goal.invariant_of-self
invariant_of-self c =
    let room : has_room_for_row (described c.self.inside) c.args.shelf.0 c.in-Some-read_installation.installed ≡ true =
    ap (λ (state : Persistent). has_room_for_row state c.args.shelf.0 c.in-Some-read_installation.installed) c.self.view_is ∙ sym c.has_room_for_row.ensures ∙ c.if-not-has_room_for_row.false in
    ap (λ l. rows_fit l (byte_total_of c.self.inside.files)) c.add.ensures.list
    ∙ rows_fit_with c.self.inside.rows.list (registered c.args.shelf.0 c.in-Some.kind c.args.priority c.self.inside.rows.next c.in-Some-read_installation.installed) (byte_total_of c.self.inside.files) c.self.invariant room

pub returns : goal.returns
returns c =
    let known : IsAppletKind c.in-Some.kind = subst (λ (k : Option ℕ). IfSome k IsAppletKind) c.in-Some.is c.requires in
    let room : has_room_for_row (described c.self.inside) c.args.shelf.0 c.in-Some-read_installation.installed ≡ true =
    ap (λ (state : Persistent). has_room_for_row state c.args.shelf.0 c.in-Some-read_installation.installed) c.self.view_is ∙ sym c.has_room_for_row.ensures ∙ c.if-not-has_room_for_row.false in
    let row : Registration = registered c.args.shelf.0 c.in-Some.kind c.args.priority c.self.inside.rows.next c.in-Some-read_installation.installed in
    let new : described (record c.self.inside { rows = c.add.new.self }) ≡ state_with c.self.inside.pins (with_row c.self.inside.rows.list row) (c.self.inside.rows.next + 1) c.self.inside.files =
    ap (λ (l : List Registration). state_with c.self.inside.pins l c.add.new.self.next c.self.inside.files) c.add.ensures.list
    ∙ ap (λ (n : ℕ). state_with c.self.inside.pins (with_row c.self.inside.rows.list row) n c.self.inside.files) c.add.ensures.next in
    subst (λ (k : Option ℕ). AddsLine (RowLine c.args.shelf.0 c.args.priority c.args.content.now k) c.args.self.now (Ok tt) (described (record c.self.inside { rows = c.add.new.self }))) (sym c.in-Some.is)
    (subst (λ (state : Persistent). AddsLine (RowLine c.args.shelf.0 c.args.priority c.args.content.now (Some c.in-Some.kind)) state (Ok tt) (described (record c.self.inside { rows = c.add.new.self }))) c.self.view_is
    (subst (λ (state : Persistent). AddsLine (RowLine c.args.shelf.0 c.args.priority c.args.content.now (Some c.in-Some.kind)) (described c.self.inside) (Ok tt) state) (sym new)
    (row_follows c.self.inside.files c.self.inside.pins c.self.inside.rows.list c.self.inside.rows.next c.args.shelf.0 c.args.priority c.in-Some.kind c.in-Some-read_installation.installed (installation_of c.args.content.now) c.in-Some-read_installation.ensures known (sym c.may_take.ensures ∙ c.if-not-may_take.false) c.self.invariant room)))
