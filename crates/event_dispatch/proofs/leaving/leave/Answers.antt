use Rattle.std.proofs.Common.{ap, sym, ◌∙◌, ℕ, List, remove, length, arith}
use Rattle.std.proofs.lemmas.List.{length-map}
use Rattle.uicc_types.specs.declared.identifiers.Shelf.{Shelf}
use Rattle.event_dispatch.specs.Indexes.{left_by}
use Rattle.event_dispatch.proofs.LeftByLemmas.{place_found, left_found, left_none}
use Rattle.event_dispatch.proofs.leaving.leave.Goals as goal

pub remove-requires : goal.remove-requires
remove-requires c =
    let shelves = c.as_slice.result.now in
    record { in_bounds = omega (arith, place_found c.args.shelf.0 shelves c.in-Some.at (sym c.place_among.ensures ∙ c.in-Some.is), ap length c.as_slice.ensures.value, length-map shelves (λ (shelf : Shelf). shelf.0)) }

pub returns-in-Some : goal.returns-in-Some
returns-in-Some c =
    c.remove.ensures ∙ ap (λ (shelves : List ℕ). remove shelves c.in-Some.at) (sym c.as_slice.ensures.value)
    ∙ left_found c.args.shelf.0 c.as_slice.result.now c.in-Some.at (sym c.place_among.ensures ∙ c.in-Some.is)
    ∙ ap (left_by c.args.shelf.0) c.as_slice.ensures.value

pub returns-in_default : goal.returns-in_default
returns-in_default c =
    sym c.as_slice.ensures.value ∙ left_none c.args.shelf.0 c.as_slice.result.now (sym c.place_among.ensures ∙ c.in_default.is) ∙ ap (left_by c.args.shelf.0) c.as_slice.ensures.value
