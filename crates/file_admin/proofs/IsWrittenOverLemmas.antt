-- What a store stands for once an entry was committed over what was prepared.
use Rattle.std.proofs.Common.{◌≡◌, ℕ, List, Option, Some, None, refl, sym, ◌∙◌, ap, subst, inl, ◌⊎◌, option_map, Result, Ok, Err}
use Rattle.std.proofs.lemmas.Result.{on_ok_weaker, on_err_weaker}
use Rattle.uicc_types.proofs.IsCalmLemmas.{caused_then, calm_ok}
use Rattle.store_form.specs.declared.store.StoreFault.{StoreFault}
use Rattle.store_form.specs.Faults.{with_commit}
use Rattle.card_state.specs.declared.entries.Node.{Node}
use Rattle.card_state.specs.Memory.{Memory, held, IsMounted, Committed}
use Rattle.card_state.specs.Persistent.{Persistent}
use Rattle.card_state.specs.Standing.{standing}
use Rattle.card_commits.specs.PreparedCommits.{CommitsOver}
use Rattle.card_commits.specs.Prepared.{Prepares}
use Rattle.file_admin.specs.Written.{IsWrittenOver, as_it_was}

module _ (old : Memory) (mounted : IsMounted old) (number : ℕ) (node : Node) (from to : ℕ) (change : Persistent → Persistent) where
  nothing_prepared : (told : Option (List ℕ)) → told ≡ option_map as_it_was told
  nothing_prepared None = refl
  nothing_prepared (Some content) = refl

  -- over the bytes as they were
  pub commits_alone : IsWrittenOver old.table as_it_was number node from to change → CommitsOver old number node from to change
  commits_alone over = record {
    before = old.told;
    prepared = as_it_was;
    agrees = mounted.agrees;
    now_is = nothing_prepared old.told;
    same = refl;
    stands = over old.mark mounted.agrees.content mounted.agrees.state mounted.agrees.stands;
  }

  -- over bytes that were prepared, which changed nothing
  module _ {T : Type 0} (value : T) (prepared : List ℕ → List ℕ) (mid : Memory) (table : mid.table ≡ old.table) (before : Prepares old mid (Ok value) prepared) where
    commits_over : IsWrittenOver old.table prepared number node from to change → CommitsOver mid number node from to change
    commits_over over =
        let mark : mid.mark ≡ old.mark = before.keeps.mark in
        let there : CommitsOver (record mid { mark = old.mark; table = old.table }) number node from to change =
        record {
          before = old.told;
          prepared = prepared;
          agrees = mounted.agrees;
          now_is = before.ok;
          same = ap (λ (m : ℕ). standing m mid.told) (sym mark) ∙ before.still;
          stands = over old.mark mounted.agrees.content mounted.agrees.state mounted.agrees.stands;
        } in
        subst (λ (memory : Memory). CommitsOver memory number node from to change) (λ i. record mid { mark = sym mark i; table = sym table i }) there

    pub committed_over : {U : Type 0} (new : Memory) (result : Result U StoreFault) → (CommitsOver mid number node from to change → Committed mid new result change) → IsWrittenOver old.table prepared number node from to change
        → Committed old new result change
    committed_over new result commits over =
        let after : Committed mid new result change = commits (commits_over over) in
        record {
          ok = on_ok_weaker result (λ is. is ∙ ap (option_map change) before.still) after.ok;
          whole = on_err_weaker result (λ how. subst (λ (o : Option Persistent). (held new ≡ o) ⊎ (held new ≡ option_map change o)) before.still how) after.whole;
          commits = after.commits ∙ ap (with_commit result) before.commits;
          keeps = record {
            mounted = after.keeps.mounted;
            told = after.keeps.told ∙ before.keeps.told;
            size = after.keeps.size ∙ before.keeps.size;
            mark = after.keeps.mark ∙ before.keeps.mark;
            recoveries = after.keeps.recoveries ∙ before.keeps.recoveries;
            cause = caused_then old.meter mid.meter new.meter (calm_ok old.meter mid.meter (λ failed. cc) (λ lost. cc) before.keeps.cause) after.keeps.cause;
          };
        }

-- a fault came while bytes were prepared
pub stopped_before : {T : Type 0} (old new : Memory) (fault : StoreFault) (prepared : List ℕ → List ℕ) (change : Persistent → Persistent) → Prepares {T = T} old new (Err fault) prepared → Committed {T = T} old new (Err fault) change
stopped_before old new fault prepared change stopped = record { ok = tt; whole = inl stopped.still; commits = stopped.commits; keeps = stopped.keeps }
