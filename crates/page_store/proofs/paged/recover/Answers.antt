-- The map stands in bytes 832 to 2,853; what is read there is what is known of it.
use Rattle.std.proofs.Common.{◌≡◌, List, ℕ, Option, rules, sym, subst, IfSome, slice_range}
use Rattle.page_store.specs.Paged.{IsKnown}
use Rattle.page_store.proofs.KnownOfLemmas.{known_read}
use Rattle.page_store.proofs.paged.recover.Goals as goal

pub returns-clause-known : goal.returns-clause-known
returns-clause-known g c =
    let read : Option (List ℕ) → Type 0 = λ o. IfSome o (λ held. c.read.new.out ≡ slice_range held 832 2854) in
    record { is_so = subst (λ k. IsKnown k (g.S.CountedStore.stable c.read.new.self)) (sym c.known_of.ensures) (known_read (g.S.CountedStore.stable c.read.new.self) c.read.new.out (subst read (sym c.in_ok-read.ensures.keeps.stable) c.in_ok-read.ensures.ok)); is_some = search rules }
