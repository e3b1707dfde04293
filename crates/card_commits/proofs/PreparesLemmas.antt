-- What a store stands for once free bytes of it were prepared.
use Rattle.std.proofs.Common.{◌≡◌, ℕ, ◌+◌, ◌-◌, ◌≤◌, ◌<◌, Bool, true, false, List, length, replicate, option_map, is_some, Result, Ok, Err, OnOk, OnErr, sym, ◌∙◌, ap, subst, lit≤, arith}
use Rattle.std.proofs.lemmas.List.{length-replicate}
use Rattle.std.proofs.lemmas.Result.{on_ok_weaker}
use Rattle.list_laws.proofs.IfSomeLemmas.{whichever}
use Rattle.list_laws.proofs.SliceRangeLemmas.{length-range}
use Rattle.list_laws.specs.Patches.{Torn}
use Rattle.list_laws.proofs.PatchesLemmas.{patched-patched}
use Rattle.uicc_types.proofs.IsCalmLemmas.{caused_then, calm_ok}
use Rattle.uicc_types.specs.Told.{Becomes}
use Rattle.store_form.specs.declared.store.StoreFault.{StoreFault}
use Rattle.store_form.specs.Faults.{HasCause}
use Rattle.card_state.specs.declared.entries.Node.{Node}
use Rattle.card_state.specs.declared.entries.Loaded.{Loaded}
use Rattle.card_state.specs.Kinds.{df_kind, transparent_kind}
use Rattle.card_state.specs.Places.{memory_size, data_place, data_end}
use Rattle.card_state.specs.Memory.{Memory, held, IsMounted}
use Rattle.card_state.specs.Standing.{standing, Agrees}
use Rattle.card_state.specs.States.{file_bytes}
use Rattle.layout_laws.specs.Known.{NodesAreFiles, IsBesideNodes, RangesAreFree}
use Rattle.layout_laws.specs.Stores.{StandsWith, TornStands}
use Rattle.card_commits.specs.Prepared.{IsTransparentFile, filled, copied, moved, Prepares}
use Rattle.card_commits.proofs.FilledLemmas.{Told, IsWhole, KeepsTo, torn_by, changed_on}

pub end_inside : (wide : Bool) → data_end wide ≤ memory_size
end_inside true = lit≤ tt
end_inside false = lit≤ tt

-- a free range lies inside the memory
pub free_inside : (table : Loaded) (place count : ℕ) → IsBesideNodes table place count → place + count ≤ memory_size
free_inside table place count free = omega (arith, free.to, end_inside table.wide)

-- the range was prepared, or torn
torn_either : {E : Type 0} (result : Result Unit E) (place count : ℕ) (change : List ℕ → List ℕ) → KeepsTo place count change → (old new : Told) → IsWhole old
    → OnOk result (new ≡ option_map change old) → OnErr result (Becomes (Torn place count) old new) → Becomes (Torn place count) old new
torn_either result place count change keeps old new whole done torn = whichever result done torn (λ is. torn_by place count change keeps old new whole is) (λ left. left)

-- a call that prepares a free range, however it ends
module _ (torn_stands : TornStands) (ranges : RangesAreFree) (old new : Memory) (place count : ℕ) (mounted : IsMounted old) (free : IsBesideNodes old.table place count) (table : new.table ≡ old.table) (mark : new.mark ≡ old.mark)
    (result : Result Unit StoreFault) (change : List ℕ → List ℕ) (keeps : KeepsTo place count change) (whole : IsWhole old.told)
    (done : OnOk result (new.told ≡ option_map change old.told)) (torn : OnErr result (Becomes (Torn place count) old.told new.told)) where
  stands_now : StandsWith old.mark new.told old.table (held old)
  stands_now =
      torn_stands old.mark old.told new.told old.table place count mounted.agrees
      (ranges old.mark mounted.agrees.content old.table mounted.agrees.state place count mounted.agrees.stands free)
      (torn_either result place count change keeps old.told new.told whole done torn)

  still_standing : held new ≡ held old
  still_standing = ap (λ (m : ℕ). standing m new.told) mark ∙ stands_now.standing_is

  still_mounted : new.size ≡ old.size → OnOk result (new.recovered ≡ true) → OnOk result (IsMounted new)
  still_mounted size ready =
      on_ok_weaker result (λ is. record {
        ready = is;
        size_is = size ∙ mounted.size_is;
        agrees = subst (λ (m : ℕ). Agrees m new.told new.table) (sym mark) (subst (Agrees old.mark new.told) (sym table) stands_now.agrees);
      }) ready

  pub prepares : is_some new.told ≡ is_some old.told → new.size ≡ old.size → new.commits ≡ old.commits → new.recoveries ≡ old.recoveries → OnOk result (new.recovered ≡ true) → HasCause old.meter new.meter result → Prepares old new result change
  prepares told size commits recoveries ready cause = record {
    ok = done;
    still = still_standing;
    commits = commits;
    keeps = record { mounted = still_mounted size ready; told = told; size = size; mark = mark; recoveries = recoveries; cause = cause };
  }

-- two calls that prepare bytes, the first without a fault
pub prepared_both : {T : Type 0} (value : T) (old mid new : Memory) (first second both : List ℕ → List ℕ) (result : Result T StoreFault) → Prepares old mid (Ok value) first → Prepares mid new result second
    → (mid.told ≡ option_map first old.told → new.told ≡ option_map second mid.told → new.told ≡ option_map both old.told) → Prepares old new result both
prepared_both value old mid new first second both result before after together = record {
  ok = on_ok_weaker result (λ put. together before.ok put) after.ok;
  still = after.still ∙ before.still;
  commits = after.commits ∙ before.commits;
  keeps = record {
    mounted = after.keeps.mounted;
    told = after.keeps.told ∙ before.keeps.told;
    size = after.keeps.size ∙ before.keeps.size;
    mark = after.keeps.mark ∙ before.keeps.mark;
    recoveries = after.keeps.recoveries ∙ before.keeps.recoveries;
    cause = caused_then old.meter mid.meter new.meter (calm_ok old.meter mid.meter (λ failed. cc) (λ lost. cc) before.keeps.cause) after.keeps.cause;
  };
}

-- one that a fault stopped, whatever was to be there
pub not_prepared : {T : Type 0} (old new : Memory) (change other : List ℕ → List ℕ) (fault : StoreFault) → Prepares {T = T} old new (Err fault) change → Prepares {T = T} old new (Err fault) other
not_prepared old new change other fault stopped = record { ok = tt; still = stopped.still; commits = stopped.commits; keeps = stopped.keeps }

-- ---- a file that moves

pub no_df : (kind : ℕ) → kind ≡ transparent_kind → (kind ≡ df_kind → ⊥)
no_df kind is df = absurd (let none : transparent_kind ≡ df_kind = sym is ∙ df in cc)

module _ (files : NodesAreFiles) (mark : ℕ) (told : Told) (table : Loaded) (agrees : Agrees mark told table) (number : ℕ) (node : Node) (file : IsTransparentFile table number node) where
  other : node.kind ≡ df_kind → ⊥
  other = no_df node.kind file.kind

  lies : (data_place ≤ node.place) × (node.place + node.size ≤ data_end table.wide)
  lies = (files mark agrees.content table agrees.state number node agrees.stands file.has).lies other

  pub lies_from : data_place ≤ node.place
  lies_from = lies.0

  pub lies_inside : node.place + node.size ≤ memory_size
  lies_inside = omega (arith, lies.1, end_inside table.wide)

-- its bytes and then FF are both together
moved_twice : (node : Node) (place size : ℕ) (content : List ℕ) → node.size < size → node.place + node.size ≤ memory_size → place + size ≤ memory_size → length content ≡ memory_size
    → filled (place + node.size) (size - node.size) (copied node.place place node.size content) ≡ moved node place size content
moved_twice node place size content more source inside long =
    let held : length (file_bytes content node) ≡ node.size = length-range content node.place node.size (omega arith) in
    let blank : length {A = ℕ} (replicate (size - node.size) 255) ≡ size - node.size = length-replicate {A = ℕ} (size - node.size) 255 in
    patched-patched place (place + node.size) (file_bytes content node) (replicate (size - node.size) 255) content (omega (arith, held)) (omega (arith, blank))

pub moved_by : (node : Node) (place size : ℕ) (old mid new : Told) → node.size < size → node.place + node.size ≤ memory_size → place + size ≤ memory_size → IsWhole old
    → mid ≡ option_map (copied node.place place node.size) old → new ≡ option_map (filled (place + node.size) (size - node.size)) mid → new ≡ option_map (moved node place size) old
moved_by node place size old mid new more source inside whole is put =
    changed_on (copied node.place place node.size) (filled (place + node.size) (size - node.size)) (moved node place size) (λ content long. moved_twice node place size content more source inside long) old mid new whole is put
