-- What a store stands for once some pieces were committed.
use Rattle.std.proofs.Common.{◌≡◌, ◌⊎◌, ℕ, Bool, true, List, Option, option_map, Result, Ok, Err, OnOk, IsErr, inl, inr, ⊎_elim, subst, sym, IsErrAnd}
use Rattle.uicc_types.specs.Counts.{Meter}
use Rattle.store_form.specs.declared.store.StoreFault.{StoreFault}
use Rattle.store_form.specs.Pieces.{Piece, applied}
use Rattle.card_state.specs.declared.entries.Loaded.{Loaded}
use Rattle.card_state.specs.Places.{memory_size}
use Rattle.card_state.specs.Persistent.{Persistent}
use Rattle.card_state.specs.Standing.{standing, Agrees}
use Rattle.card_state.specs.Memory.{Memory, IsMounted, Committed}
use Rattle.layout_laws.specs.Stores.{StandsWith, WrittenStands, OneOfBothStands}
use Rattle.card_commits.specs.Commits.{Commits}

-- what holds where a call answers Ok
pub on_ok_both : {T E : Type 0} (P Q : Type 0) (r : Result T E) → OnOk r P → OnOk r Q → OnOk r (P × Q)
on_ok_both P Q (Ok x) p q = (p, q)
on_ok_both P Q (Err e) p q = tt

module _ (mark mark' : ℕ) (told told' : Option (List ℕ)) (table table' : Loaded) (pieces : List Piece) (change : Persistent → Persistent) (agrees : Agrees mark told table) (same : mark' ≡ mark)
    (commits : Commits mark told table pieces table' change) where
  stands_after : WrittenStands → told' ≡ option_map (applied pieces) told → StandsWith mark told' table' (option_map change (standing mark told))
  stands_after written is = written mark told told' table table' (applied pieces) change agrees (commits agrees) is

  pub state_after : WrittenStands → told' ≡ option_map (applied pieces) told → standing mark' told' ≡ option_map change (standing mark told)
  state_after written is = rw same (stands_after written is).standing_is

  pub mounted_after : WrittenStands → told' ≡ option_map (applied pieces) told → (recovered : Bool) (size : ℕ) (meter : Meter) (commits reads recoveries : ℕ) → recovered ≡ true → size ≡ memory_size
      → IsMounted (record { recovered = recovered; size = size; mark = mark'; told = told'; meter = meter; commits = commits; reads = reads; recoveries = recoveries; table = table' })
  mounted_after written is recovered size meter commits reads recoveries ready whole = record { ready = ready; size_is = whole; agrees = rw same (stands_after written is).agrees }

  pub state_either : OneOfBothStands → (told' ≡ told) ⊎ (told' ≡ option_map (applied pieces) told)
      → (standing mark' told' ≡ standing mark told) ⊎ (standing mark' told' ≡ option_map change (standing mark told))
  state_either either how =
      rw same
      (⊎_elim {C = (standing mark told' ≡ standing mark told) ⊎ (standing mark told' ≡ option_map change (standing mark told))}
      (λ (before : StandsWith mark told' table (standing mark told)). inl before.standing_is)
      (λ (after : StandsWith mark told' table' (option_map change (standing mark told))). inr after.standing_is)
      (either mark told told' table table' (applied pieces) change agrees (commits agrees) how))

-- a commit that a fault stopped, as the call tells that hands the fault on, whatever table it has
pub stopped : {T : Type 0} (old new : Memory) (table : Loaded) (change : Persistent → Persistent) (fault : StoreFault) (result : Result T StoreFault) → IsErr result × IsErrAnd result (λ told. told ≡ fault)
    → Committed {T = T} old (record new { table = table }) (Err fault) change → Committed old new result change
stopped {T = T} old new table change fault (Ok value) is given = absurd (cc)
stopped {T = T} old new table change fault (Err told) is given =
    subst (λ (one : StoreFault). Committed {T = T} old new (Err one) change) (sym is.1)
    (record {
      ok = tt;
      whole = given.whole;
      commits = given.commits;
      keeps = record { mounted = tt; told = given.keeps.told; size = given.keeps.size; mark = given.keeps.mark; recoveries = given.keeps.recoveries; cause = given.keeps.cause };
    })
