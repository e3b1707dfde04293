-- What a store stands for once an entry was committed over prepared bytes.
use Rattle.std.proofs.Common.{◌≡◌, ◌⊎◌, ℕ, ◌-◌, ◌≤◌, ◌<◌, true, List, [], ◌∷◌, length, drop, All, Some, None, option_map, is_some, Ok, Err, refl, sym, ◌∙◌, ap, subst, inl, inr, ⊎_elim, arith, length-take, length-drop}
use Rattle.std.proofs.lemmas.List.Elements.{All-nil, All-cons}
use Rattle.uicc_types.specs.Counts.{raised}
use Rattle.store_form.specs.declared.store.StoreFault.{StoreFault}
use Rattle.store_form.specs.Faults.{HasCause}
use Rattle.store_form.specs.Pieces.{Piece, IsUsablePiece}
use Rattle.card_state.specs.declared.entries.Node.{Node}
use Rattle.card_state.specs.Persistent.{Persistent}
use Rattle.card_state.specs.Places.{memory_size}
use Rattle.card_state.specs.Memory.{Memory, held, IsMounted, Committed}
use Rattle.card_state.specs.Standing.{standing, Agrees}
use Rattle.layout_entries.specs.Laws.{after}
use Rattle.layout_entries.proofs.SpellingLemmas.{length-node_spelled}
use Rattle.layout_entries.specs.Spelling.{node_spelled, node_part}
use Rattle.layout_laws.specs.Changes.{with_node}
use Rattle.layout_laws.specs.Stores.{StandsWith, WrittenStands}
use Rattle.card_commits.specs.PreparedCommits.{CommitsOver}
use Rattle.card_commits.proofs.FilledLemmas.{Told}

-- ---- the piece

part_long : (number from to : ℕ) (node : Node) → from < to → to ≤ 16 → length (node_part number node from to).bytes ≡ to - from
part_long number from to node order inside = omega (arith, length-take (to - from) (drop from (node_spelled node)), length-drop from (node_spelled node), length-node_spelled node)

pub part_usable : (size number from to : ℕ) (node : Node) (pieces : List Piece) → size ≡ memory_size → number < 128 → from < to → to ≤ 16 → pieces ≡ node_part number node from to ∷ [] → All (IsUsablePiece size) pieces
part_usable size number from to node pieces size_is low order inside is =
    let long : length (node_part number node from to).bytes ≡ to - from = part_long number from to node order inside in
    let one : IsUsablePiece size (node_part number node from to) =
    record { some = omega (arith, long); range = record { inside = omega (arith, long, size_is); outside = λ some below. absurd (omega (arith, below)) } } in
    subst (All (IsUsablePiece size)) (sym is) (All-cons (IsUsablePiece size) (node_part number node from to) [] one (All-nil (IsUsablePiece size)))

-- ---- what stands

-- first one change of what is told, and then another
pub changed_twice : (first second : List ℕ → List ℕ) (told : Told) → option_map second (option_map first told) ≡ option_map (λ content. second (first content)) told
changed_twice first second None = refl
changed_twice first second (Some content) = refl

module _ (written : WrittenStands) (now last : Memory) (number : ℕ) (node : Node) (from to : ℕ) (change : Persistent → Persistent)
    (over : CommitsOver now number node from to change) (mark : last.mark ≡ now.mark) where
  abbrev put : List ℕ → List ℕ
  put = after (node_part number node from to)

  module _ (is : last.told ≡ option_map put now.told) where
    stands_after : StandsWith now.mark last.told (with_node now.table number node) (option_map change (standing now.mark over.before))
    stands_after =
        written now.mark over.before last.told now.table (with_node now.table number node) (λ content. put (over.prepared content)) change over.agrees over.stands
        (is ∙ ap (λ (o : Told). option_map put o) over.now_is ∙ changed_twice over.prepared put over.before)

    pub state_after : held last ≡ option_map change (held now)
    state_after = ap (λ (m : ℕ). standing m last.told) mark ∙ stands_after.standing_is ∙ ap (option_map change) (sym over.same)

    pub mounted_after : last.table ≡ with_node now.table number node → last.recovered ≡ true → last.size ≡ memory_size → IsMounted last
    mounted_after table ready size = record {
      ready = ready;
      size_is = size;
      agrees = subst (λ (m : ℕ). Agrees m last.told last.table) (sym mark) (subst (Agrees now.mark last.told) (sym table) stands_after.agrees);
    }

  pub state_either : (last.told ≡ now.told) ⊎ (last.told ≡ option_map put now.told) → (held last ≡ held now) ⊎ (held last ≡ option_map change (held now))
  state_either how =
      ⊎_elim {C = (held last ≡ held now) ⊎ (held last ≡ option_map change (held now))}
      (λ kept. inl ((λ i. standing (mark i) (kept i)))) (λ is. inr (state_after is)) how

  -- it was committed
  pub committed : {T : Type 0} (value : T) → last.table ≡ with_node now.table number node → last.told ≡ option_map put now.told → last.recovered ≡ true → last.size ≡ now.size → now.size ≡ memory_size → is_some last.told ≡ is_some now.told
      → last.commits ≡ raised now.commits → last.recoveries ≡ now.recoveries → HasCause now.meter last.meter (Ok value) → Committed now last (Ok value) change
  committed value table is ready size sized told commits recoveries cause = record {
    ok = state_after is;
    whole = tt;
    commits = commits;
    keeps = record { mounted = mounted_after is table ready (size ∙ sized); told = told; size = size; mark = mark; recoveries = recoveries; cause = cause };
  }

  -- a fault stopped it
  pub stopped : {T : Type 0} (fault : StoreFault) → (last.told ≡ now.told) ⊎ (last.told ≡ option_map put now.told) → last.size ≡ now.size → is_some last.told ≡ is_some now.told
      → last.commits ≡ now.commits → last.recoveries ≡ now.recoveries → HasCause {T = T} now.meter last.meter (Err fault) → Committed {T = T} now last (Err fault) change
  stopped fault how size told commits recoveries cause = record {
    ok = tt;
    whole = state_either how;
    commits = commits;
    keeps = record { mounted = tt; told = told; size = size; mark = mark; recoveries = recoveries; cause = cause };
  }
