-- A card whose table is put back where a fault stopped a command.
use Rattle.std.proofs.Common.{◌≡◌, ◌≢◌, inl, ℕ, Bool, true, false, List, [], ◌∷◌, map, Option, None, Err, refl, sym, ◌∙◌, ap, subst, All, is_some, nat_lt, if◌then◌else◌, true≢false}
use Rattle.std.specs.List.{range_with_len}
use Rattle.std.proofs.lemmas.List.Elements.{All-nil, All-cons}
use Rattle.apdu_form.specs.Model.{Apdu}
use Rattle.store_form.specs.declared.store.StoreFault.{StoreFault}
use Rattle.card_state.specs.declared.entries.Loaded.{Loaded}
use Rattle.card_state.specs.declared.entries.Row.{Row}
use Rattle.card_state.specs.declared.sizes.TheConstants.{ROW_COUNT}
use Rattle.card_state.specs.Blank.{unused_row}
use Rattle.card_state.specs.Decoding.{table_of, row_at, row_of, row_bytes, kept_bytes, is_wide}
use Rattle.card_state.specs.Persistent.{Persistent}
use Rattle.card_state.specs.Places.{row_count}
use Rattle.card_state.specs.Standing.{Agrees}
use Rattle.card_state.specs.States.{rows_of}
use Rattle.card_commits.specs.Entries.{HasRowOn}
use Rattle.proactive_handler.specs.Boxes.{kinds_of}
use Rattle.card_model.specs.States.{CardState, HasBox}
use Rattle.card_model.specs.declared.instructions.Instruction.{Instruction}
use Rattle.card_model.specs.declared.instructions.CatCommand.{CatCommand}
use Rattle.card_model.specs.declared.instructions.CatCommand.TheVariants.{InstallApplet}
use Rattle.card_core.specs.AnyStore.{MovesToolkit, MovesStatus}
use Rattle.card_core.specs.Cards.{card_due, IsSet}
use Rattle.card_core.specs.Known.{KnownBy, ByStore, ByTable, ByMemory, StandsBy, Yields}
use Rattle.card_core.specs.Parts.{CardParts}
use Rattle.card_core.specs.Registered.{IsUsedOrBlank}
use Rattle.card_core.proofs.KnownLemmas.{stopped_by}
use Rattle.card_core.proofs.IsRunningLemmas.{silent_then, still_boxed}

-- ---- rows that are not used are the empty one

by_test : (P : Row → Type 0) (test : Bool) (row other : Row) → P row → P other → P (if test then row else other)
by_test P true row other first second = first
by_test P false row other first second = second

used_or_blank : (row : Row) → IsUsedOrBlank (if row.used then row else unused_row)
used_or_blank row = by_used row.used refl where
  by_used : (used : Bool) → row.used ≡ used → IsUsedOrBlank (if used then row else unused_row)
  by_used true is = λ unused. absurd (true≢false (sym is ∙ unused))
  by_used false is = λ unused. refl

all_mapped : {X Y : Type 0} (P : Y → Type 0) (f : X → Y) → ((x : X) → P (f x)) → (xs : List X) → All P (map f xs)
all_mapped P f each [] = All-nil P
all_mapped P f each (x ∷ xs) = All-cons P (f x) (map f xs) (each x) (all_mapped P f each xs)

row_blank : (content : List ℕ) (shelf : ℕ) → IsUsedOrBlank (row_at content shelf)
row_blank content shelf =
    let row : Row = row_of (row_bytes content shelf) (if is_wide content then kept_bytes content shelf else []) in
    by_test IsUsedOrBlank (nat_lt shelf (row_count (is_wide content))) (if row.used then row else unused_row) unused_row (used_or_blank row) (λ unused. refl)

pub rows_blank : (mark : ℕ) (told : Option (List ℕ)) (table : Loaded) → Agrees mark told table → All IsUsedOrBlank table.rows
unfolding table_of
rows_blank mark told table agrees =
    subst (All IsUsedOrBlank) (ap (λ (each : Loaded). each.rows) agrees.stands.entries) (all_mapped IsUsedOrBlank (row_at agrees.content) (row_blank agrees.content) (range_with_len 0 ROW_COUNT))

-- ---- the table

pub put_back_so : (old mid table : Loaded) (rows : List Row) (next : ℕ) → mid ≡ record old { rows = mid.rows; next = mid.next } → rows ≡ old.rows → next ≡ old.next → table ≡ record mid { rows = rows; next = next } → table ≡ old
put_back_so old mid table rows next rest same last is =
    is ∙ ap (λ (each : Loaded). record each { rows = rows; next = next }) rest
    ∙ ap (λ (list : List Row). record old { rows = list; next = next }) same ∙ ap (λ (number : ℕ). record old { next = number }) last

-- ---- the card

-- what came of the command is the same
pub yields_restored : (old mid : CardParts) (table : Loaded) (fault : StoreFault) (by : KnownBy) (instruction : Instruction) (card after : CardState) (commits : List Persistent)
    → Yields {X = Unit {0}} (Err fault) by instruction old mid card after commits → Yields {X = Unit {0}} (Err fault) by instruction old (record mid { table = table }) card after commits
unfolding card_due
yields_restored old mid table fault by instruction card after commits yields = record { left = λ needs. tt; commits_so = yields.commits_so; calm = yields.calm; stands = stood by yields.stands } where
  stood : (each : KnownBy) → StandsBy each (stopped_by fault) old mid card commits → StandsBy each (stopped_by fault) old (record mid { table = table }) card commits
  stood ByStore stands = record { left = stands.left; stops = stands.stops }
  stood ByTable stands = tt
  stood ByMemory stands = tt

pub silent_agrees : (mark : ℕ) (told : Option (List ℕ)) (table : Loaded) → Agrees mark told table → Agrees mark None table
silent_agrees mark told table agrees = record { content = agrees.content; state = agrees.state; told_is = tt; stands = agrees.stands }

-- a command that stands for none
pub nothing : Apdu
nothing = record { class = 0; ins = 0; p1 = 0; p2 = 0; body = []; expected = None }

module _ (old mid : CardParts) (table : Loaded) (same : table ≡ old.table) where
  pub set_restored : IsSet old → IsSet mid → Agrees old.store_mark old.told old.table → mid.store_mark ≡ old.store_mark → is_some mid.told ≡ is_some old.told → kinds_of mid.boxes ≡ kinds_of old.boxes → IsSet (record mid { table = table })
  set_restored set later agrees mark told kinds = record {
    size = later.size;
    shelves = later.shelves;
    card = later.card;
    kept = λ silent. subst (λ (number : ℕ). Agrees number None table) (sym mark) (subst (Agrees old.store_mark None) (sym same) (silent_agrees old.store_mark old.told old.table agrees));
    boxes = λ silent. still_boxed InstallApplet nothing old (record mid { table = table }) (inl kinds) (subst (λ (each : Loaded). All (HasBox old.boxes) (rows_of each)) (sym same) (set.boxes (silent_then old.told mid.told told silent)));
  }

  pub moves_restored : (command : CatCommand) (apdu : Apdu) → MovesToolkit command apdu old mid → kinds_of mid.boxes ≡ kinds_of old.boxes
      → ((shelf : ℕ) → (command ≡ InstallApplet → shelf ≢ apdu.p2) → (HasRowOn old.table shelf → ⊥) → HasRowOn mid.table shelf → ⊥) → MovesToolkit command apdu old (record mid { table = table })
  moves_restored command apdu moves kinds comes = record {
    table = same ∙ ap (λ (now : Loaded). record old.table { rows = now.rows; next = now.next }) (sym same);
    next = λ other. ap (λ (now : Loaded). now.next) same;
    rows_stay = λ other apart has. subst (λ (now : Loaded). HasRowOn now other) (sym same) has;
    channels = moves.channels;
    verified = moves.verified;
    kinds = inl kinds;
    others = λ shelf apart was is. moves.others shelf apart was (comes shelf apart was);
  }

  pub status_restored : MovesStatus old mid → ((shelf : ℕ) → (HasRowOn old.table shelf → ⊥) → HasRowOn mid.table shelf → ⊥) → MovesStatus old (record mid { table = table })
  status_restored moves comes = record {
    table = same ∙ ap (λ (now : Loaded). record old.table { rows = now.rows }) (sym same);
    rows_stay = λ other has. subst (λ (now : Loaded). HasRowOn now other) (sym same) has;
    channels = moves.channels;
    verified = moves.verified;
    kinds = moves.kinds;
    others = λ shelf was is. moves.others shelf was (comes shelf was);
  }
