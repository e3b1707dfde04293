-- What was written of a card's bytes, from what the parts of a command say of it.
use Rattle.std.proofs.Common.{◌≡◌, ◌⊎◌, inl, inr, ⊎_elim, ℕ, ◌+◌, arith, take, List, [], ◌∷◌, Option, Some, None, option_map, Result, Ok, Err, IfSome, sym, ◌∙◌, ap, subst}
use Rattle.list_laws.specs.Patches.{Torn}
use Rattle.list_laws.proofs.IfSomeLemmas.{if_some, if_some_at}
use Rattle.uicc_types.specs.Counts.{raised_by}
use Rattle.uicc_types.specs.Told.{Becomes}
use Rattle.store_form.specs.declared.store.StoreFault.{StoreFault}
use Rattle.card_state.specs.declared.entries.Loaded.{Loaded}
use Rattle.card_state.specs.Changes.{Change}
use Rattle.card_state.specs.Decoding.{table_of}
use Rattle.card_state.specs.Memory.{Memory, Reads, held}
use Rattle.card_state.specs.Persistent.{Persistent}
use Rattle.card_state.specs.Standing.{Agrees}
use Rattle.card_commits.specs.Performing.{StopsAmong, WritesAll}
use Rattle.card_commits.specs.Writing.{all_written}
use Rattle.card_commits.proofs.WritesAllLemmas.{none_written, one_written}
use Rattle.file_admin.specs.Writes.{range_for, StopsPreparing, WritesTree}
use Rattle.card_core.specs.Cards.{memory_of, held_by}
use Rattle.card_core.specs.Parts.{CardParts}
use Rattle.card_core.specs.Serving.{WritesOnTree}
use Rattle.card_core.specs.Writing.{TearsFirst, StopsWriting, HasWritten, WritesChanges}
use Rattle.card_core.proofs.KnownLemmas.{finished, stopped_by}

-- ---- nothing

pub none_after : (old new : CardParts) (changes : List Change) → changes ≡ [] → new.told ≡ old.told → HasWritten changes old new
none_after old new changes none same = same ∙ none_written old.told ∙ ap (λ (list : List Change). option_map (all_written list) old.told) (sym none)

-- no commit is counted, and the bytes stay
still_so : (old new : Memory) (changes : List Change) → new.told ≡ old.told → new.commits ≡ old.commits → StopsAmong changes old new
still_so old new changes same counted = record { done = 0; few = omega arith; commits = counted; told = inl (same ∙ none_written old.told) }

pub still_cut : (old new : CardParts) (changes : List Change) → new.told ≡ old.told → new.commits ≡ old.commits → StopsWriting changes old new
still_cut old new changes same counted = inl (still_so (memory_of old) (memory_of new) changes same counted)

-- a call that reads, of a command without a change
pub reads_write : {X : Type 0} (result : Result X StoreFault) (old new : Memory) (changes : Persistent → List Change) → Reads old new result → ((state : Persistent) → changes state ≡ []) → WritesAll result old new changes
reads_write (Ok done) old new changes reads none =
    if_some (held old) _ (λ state is. reads.stable ∙ none_written old.told ∙ ap (λ (list : List Change). option_map (all_written list) old.told) (sym (none state)))
reads_write (Err fault) old new changes reads none = if_some (held old) _ (λ state is. still_so old new (changes state) reads.stable reads.commits)

-- ---- with a table that was lent

pub written_at : (done : Unit {0}) (old new : CardParts) (table : Loaded) (changes : Persistent → List Change) (state : Persistent) → held_by old ≡ Some state → WritesAll (finished done) (record (memory_of old) { table = table }) (memory_of new) changes
    → HasWritten (changes state) old new
written_at done old new table changes state is writes = if_some_at (held_by old) (λ each. new.told ≡ option_map (all_written (changes each)) old.told) state writes is

pub stops_lent : (old new : CardParts) (table now : Loaded) (changes : List Change) → StopsAmong changes (record (memory_of old) { table = table }) (record (memory_of new) { table = now }) → StopsWriting changes old new
stops_lent old new table now changes stops = inl (record { done = stops.done; few = stops.few; commits = stops.commits; told = stops.told })

pub stopped_at : (fault : StoreFault) (old new : CardParts) (table now : Loaded) (changes : Persistent → List Change) (state : Persistent) → held_by old ≡ Some state
    → WritesAll (stopped_by fault) (record (memory_of old) { table = table }) (record (memory_of new) { table = now }) changes → StopsWriting (changes state) old new
stopped_at fault old new table now changes state is writes =
    stops_lent old new table now (changes state) (if_some_at (held_by old) (λ each. StopsAmong (changes each) (record (memory_of old) { table = table }) (record (memory_of new) { table = now })) state writes is)

-- the table is put back, or another one is
pub stops_beside : (old mid : CardParts) (table : Loaded) (changes : List Change) → StopsWriting changes old mid → StopsWriting changes old (record mid { table = table })
stops_beside old mid table changes stops =
    ⊎_elim {C = StopsWriting changes old (record mid { table = table })} (λ among. stops_lent old (record mid { table = table }) old.table mid.table changes among) (λ before. inr (record { commits = before.commits; told = before.told })) stops

-- ---- files that come, go and change their size

torn_by : (change : Change) (changes : List Change) (table : Loaded) (before after : Option (List ℕ)) → IfSome before (λ bytes. table_of bytes ≡ table) → Becomes (Torn (range_for table change).0 (range_for table change).1) before after
    → Becomes (TearsFirst (change ∷ changes)) before after
torn_by change changes table None None same torn = torn
torn_by change changes table None (Some now) same torn = torn
torn_by change changes table (Some was) None same torn = torn
torn_by change changes table (Some was) (Some now) same torn = subst (λ (each : Loaded). Torn (range_for each change).0 (range_for each change).1 was now) (sym same) torn

table_told : (old : CardParts) (table : Loaded) → Agrees old.store_mark old.told old.table → table ≡ old.table → IfSome old.told (λ bytes. table_of bytes ≡ table)
table_told old table agrees same =
    if_some old.told _ (λ bytes is. ap table_of (if_some_at old.told (λ each. each ≡ agrees.content) bytes agrees.told_is is) ∙ agrees.stands.entries ∙ sym same)

prepares_so : (old new : CardParts) (table : Loaded) (changes : List Change) → Agrees old.store_mark old.told old.table → table ≡ old.table → new.commits ≡ old.commits
    → StopsPreparing changes (record (memory_of old) { table = table }) (memory_of new) → StopsWriting changes old new
prepares_so old new table [] agrees same counted stops = inl (still_so (memory_of old) (memory_of new) [] stops counted)
prepares_so old new table (change ∷ changes) agrees same counted stops =
    ⊎_elim {C = StopsWriting (change ∷ changes) old new}
    (λ torn. inr (record { commits = counted; told = torn_by change changes table old.told new.told (table_told old table agrees same) torn }))
    (λ put. inl (record { done = 0; few = omega arith; commits = counted; told = inr (put ∙ one_written change old.told) })) stops

pub tree_written : (done : Unit {0}) (old new : CardParts) (table : Loaded) (changes : Persistent → List Change) (state : Persistent) → held_by old ≡ Some state → WritesOnTree (finished done) (record (memory_of old) { table = table }) (memory_of new) changes
    → HasWritten (changes state) old new
tree_written done old new table changes state is writes = if_some_at (held_by old) (λ each. new.told ≡ option_map (all_written (changes each)) old.told) state writes is

pub tree_cut : (fault : StoreFault) (old new : CardParts) (table : Loaded) (changes : Persistent → List Change) (state : Persistent) → Agrees old.store_mark old.told old.table → table ≡ old.table → new.commits ≡ old.commits → held_by old ≡ Some state
    → WritesOnTree (stopped_by fault) (record (memory_of old) { table = table }) (memory_of new) changes → StopsWriting (changes state) old new
tree_cut fault old new table changes state agrees same counted is writes =
    ⊎_elim {C = StopsWriting (changes state) old new} (stops_lent old new table new.table (changes state)) (prepares_so old new table (changes state) agrees same counted)
    (if_some_at (held_by old) (λ each. StopsAmong (changes each) (record (memory_of old) { table = table }) (memory_of new) ⊎ StopsPreparing (changes each) (record (memory_of old) { table = table }) (memory_of new)) state writes is)

pub made_writes : {X : Type 0} (result : Result X StoreFault) (old new : Memory) (changes : Persistent → List Change) → WritesTree result old new changes → WritesOnTree result old new changes
made_writes (Ok done) old new changes writes = writes
made_writes (Err fault) old new changes writes = if_some (held old) _ (λ state is. inr (if_some_at (held old) (λ each. StopsPreparing (changes each) old new) state writes is))

pub taken_writes : {X : Type 0} (result : Result X StoreFault) (old new : Memory) (changes : Persistent → List Change) → WritesAll result old new changes → WritesOnTree result old new changes
taken_writes (Ok done) old new changes writes = writes
taken_writes (Err fault) old new changes writes = if_some (held old) _ (λ state is. inl (if_some_at (held old) (λ each. StopsAmong (changes each) old new) state writes is))

-- ---- after what leaves the bytes

stops_from : (old mid new : CardParts) (changes : List Change) → mid.told ≡ old.told → mid.commits ≡ old.commits → StopsWriting changes mid new → StopsWriting changes old new
stops_from old mid new changes same counted stops =
    ⊎_elim {C = StopsWriting changes old new}
    (λ among. inl (record {
      done = among.done;
      few = among.few;
      commits = among.commits ∙ ap (raised_by among.done) counted;
      told = subst (λ (told : Option (List ℕ)). (new.told ≡ option_map (all_written (take among.done changes)) told) ⊎ (new.told ≡ option_map (all_written (take (among.done + 1) changes)) told)) same among.told;
    }))
    (λ before. inr (record { commits = before.commits ∙ counted; told = subst (λ (told : Option (List ℕ)). Becomes (TearsFirst changes) told new.told) same before.told })) stops

pub writes_from : {X : Type 0} (result : Result X StoreFault) (old mid new : CardParts) (changes : List Change) → mid.told ≡ old.told → mid.commits ≡ old.commits → WritesChanges result mid new changes → WritesChanges result old new changes
writes_from (Ok done) old mid new changes same counted writes = writes ∙ ap (option_map (all_written changes)) same
writes_from (Err fault) old mid new changes same counted writes = stops_from old mid new changes same counted writes
