-- How many commits an opening made.
use Rattle.std.proofs.Common.{◌≡◌, ◌⊎◌, ℕ, Bool, true, false, List, Option, Some, None, refl, sym, ◌∙◌, ap, subst, inl, inr, not, ◌&&◌, if◌then◌else◌}
use Rattle.uicc_types.specs.Counts.{raised}
use Rattle.card_state.specs.declared.entries.Loaded.{Loaded}
use Rattle.card_state.specs.Persistent.{Persistent}
use Rattle.card_state.specs.Standing.{standing, Agrees}
use Rattle.card_state.specs.Migration.{entries_end_low}
use Rattle.layout_laws.specs.Known.{StandingIsOfTable}
use Rattle.layout_laws.specs.Migrating.{LowEndsAreSeen}
use Rattle.card_core.specs.Migrations.{is_migrated, awaits_migration, CountsMigration}
use Rattle.card_core.proofs.HoldsCardLemmas.{stands_now}

pub either_same : (migrates : Bool) (count : ℕ) → (if migrates then count else count) ≡ count
either_same true count = refl
either_same false count = refl

one_at_most : (migrates : Bool) (before now : ℕ) → now ≡ (if migrates then raised before else before) → (now ≡ before) ⊎ (now ≡ raised before)
one_at_most true before now is = inr is
one_at_most false before now is = inl is

-- whether the card was migrated is seen from its table
pub counts_by_table : LowEndsAreSeen → StandingIsOfTable → (mark : ℕ) (told : Option (List ℕ)) (table : Loaded) (before now : ℕ) → Agrees mark told table
    → now ≡ (if awaits_migration table then raised before else before) → CountsMigration (standing mark told) before now
unfolding standing
counts_by_table seen of_table mark None table before now agrees is = one_at_most (awaits_migration table) before now is
counts_by_table seen of_table mark (Some held) table before now agrees is =
    let wide : agrees.state.is_wide ≡ table.wide = (of_table mark agrees.content table agrees.state agrees.stands).1.wide in
    let low = seen mark agrees.content table agrees.state agrees.stands in
    let same : awaits_migration table ≡ is_migrated agrees.state = sym (ap (λ (is_low : Bool). not agrees.state.is_wide && is_low) low ∙ ap (λ (is_wide : Bool). not is_wide && entries_end_low table) wide) in
    subst (λ (stood : Option Persistent). CountsMigration stood before now) (sym (stands_now mark held table agrees)) (is ∙ ap (λ (migrates : Bool). if migrates then raised before else before) same)

-- a recovery and a mount leave the mark, the bytes and the count
pub counts_moved : (mark mark' : ℕ) (told told' : Option (List ℕ)) (before before' now : ℕ) → mark' ≡ mark → told' ≡ told → before' ≡ before
    → CountsMigration (standing mark' told') before' now → CountsMigration (standing mark told) before now
counts_moved mark mark' told told' before before' now same bytes count counts =
    subst (λ (store_mark : ℕ). CountsMigration (standing store_mark told) before now) same
    (subst (λ (tells : Option (List ℕ)). CountsMigration (standing mark' tells) before now) bytes (subst (λ (commits : ℕ). CountsMigration (standing mark' told') commits now) count counts))
