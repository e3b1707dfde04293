-- Each step goes behind files that are in the way and passes no room, so the place found is the smallest, of which there is one.
use Rattle.std.proofs.Common.{ℕ, ◌+◌, ◌≤◌, Some, None, List, arith, ap, ◌∙◌, sym, subst, find}
use Rattle.card_state.specs.declared.entries.Node.{Node}
use Rattle.card_state.specs.Places.{data_end}
use Rattle.card_state.specs.States.{state_of}
use Rattle.file_model.specs.Rooms.{IsSmallestRoom, room_at}
use Rattle.file_model.specs.RoomTables.{is_node_in_the_way}
use Rattle.file_model.proofs.RoomsLemmas.{rooms_are_one, rooms_are_smallest}
use Rattle.file_model.proofs.IsNodeInTheWayLemmas.{none_in_the_way, way_clear, too_late}
use Rattle.file_admin.proofs.rooms.room.Goals as goal

pub loop-place-preserved : goal.loop-place-preserved
loop-place-preserved c =
    record {
      from = omega (arith, c.behind_files-behind.ensures.later, c.loop-place.invariant.from);
      low = c.behind_files-behind.ensures.low;
      some = λ none. absurd (c.if-behind-place.false (c.behind_files-behind.ensures.empty none));
      passed = λ content other room. c.behind_files-behind.ensures.skipped other
          (ap (λ (nodes : List Node). find (is_node_in_the_way other c.from-size.result) nodes) c.all_nodes.ensures.value ∙ none_in_the_way c.args.loaded.now content c.from-size.result other c.states_are_of_entries.ensures.files room)
          (c.loop-place.invariant.passed content other room);
    }

-- that it serves, and the ones before don't
found : (c : goal.Then-behind-place) (content : List ℕ) → IsSmallestRoom (state_of c.args.loaded.now content) c.args.size (Some c.loop-place.place)
found c content =
    let place : ℕ = c.loop-place.place in
    let size : ℕ = c.from-size.result in
    let ends : place + size ≤ data_end c.args.loaded.now.wide = subst (λ (n : ℕ). place + size ≤ n) c.end_of_files-end.ensures.value c.loop-place-test.true in
    subst (λ (n : ℕ). IsSmallestRoom (state_of c.args.loaded.now content) n (Some place)) c.from-size.ensures (
      way_clear c.args.loaded.now content size place c.states_are_of_entries.ensures.from.files c.loop-place.invariant.from ends
          (ap (λ (nodes : List Node). find (is_node_in_the_way place size) nodes) (sym c.all_nodes.ensures.value) ∙ c.behind_files-behind.ensures.clear c.if-behind-place.true),
      c.loop-place.invariant.passed content,
    )

none : (c : goal.After-loop-place) (content : List ℕ) → IsSmallestRoom (state_of c.args.loaded.now content) c.args.size None
none c content =
    subst (λ (n : ℕ). IsSmallestRoom (state_of c.args.loaded.now content) n None) c.from-size.ensures
    (λ other room. too_late c.args.loaded.now content c.from-size.result c.loop-place.place c.end_of_files-end.result other c.end_of_files-end.ensures.value c.loop-place-test.false room (c.loop-place.invariant.passed content other room))

pub returns-then-behind-place-clause-smallest : goal.returns-then-behind-place-clause-smallest
returns-then-behind-place-clause-smallest c = λ content. found c content

pub returns-then-behind-place-clause-value : goal.returns-then-behind-place-clause-value
returns-then-behind-place-clause-value c = λ content.
    let state = state_of c.args.loaded.now content in
    rooms_are_one state c.args.size (Some c.loop-place.place) (room_at state c.args.size) (found c content) (rooms_are_smallest state c.args.size)

pub returns-clause-smallest : goal.returns-clause-smallest
returns-clause-smallest c = λ content. none c content

pub returns-clause-value : goal.returns-clause-value
returns-clause-value c = λ content.
    let state = state_of c.args.loaded.now content in
    rooms_are_one state c.args.size None (room_at state c.args.size) (none c content) (rooms_are_smallest state c.args.size)
