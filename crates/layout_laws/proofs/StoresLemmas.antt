-- What a store stands for after a call.
use Rattle.std.proofs.Common.{◌≡◌, ◌⊎◌, ℕ, ◌+◌, ◌≤◌, List, length, Option, Some, None, option_map, IfSome, refl, sym, ◌∙◌, ap, subst, inl, inr, ⊎_elim, arith}
use Rattle.std.specs.Result.{result_ok}
use Rattle.list_laws.specs.Patches.{patched, Torn}
use Rattle.list_laws.proofs.PatchesLemmas.{Torn_patched}
use Rattle.card_state.specs.declared.entries.Loaded.{Loaded}
use Rattle.card_state.specs.Places.{data_end}
use Rattle.card_state.specs.Persistent.{Persistent}
use Rattle.card_state.specs.States.{state_of}
use Rattle.card_state.specs.Standing.{stands_for, Stands, standing}
use Rattle.card_state.proofs.RowPlaceLemmas.{data_end_inside}
use Rattle.card_state.specs.SoundnessLaws.{StandingIsSound}
use Rattle.layout_laws.specs.StandingLaws.{FreeBytesDontCount}
use Rattle.layout_laws.specs.Stores.{StandsWith, AgreeingStands, WrittenStands, OneOfBothStands, PreparedStands, TornStands}

-- ---- one content

-- what a store stands for that tells a content, if that stands for a state
told_stands : (store_mark : ℕ) (held content : List ℕ) (table : Loaded) (state : Persistent) → held ≡ content → Stands store_mark content table state → standing store_mark (Some held) ≡ Some state
unfolding standing
told_stands store_mark held content table state is stands = ap (λ (l : List ℕ). result_ok (stands_for store_mark l)) is ∙ ap result_ok stands.decoded

stands_with : (store_mark : ℕ) (told : Option (List ℕ)) (content : List ℕ) (table : Loaded) (state : Persistent) → IfSome told (λ held. held ≡ content) → Stands store_mark content table state
    → StandsWith store_mark told table (option_map (λ _. state) told)
unfolding standing
stands_with store_mark None content table state is stands = record { standing_is = refl; agrees = record { content = content; state = state; told_is = is; stands = stands } }
stands_with store_mark (Some held) content table state is stands =
    record { standing_is = told_stands store_mark held content table state is stands; agrees = record { content = content; state = state; told_is = is; stands = stands } }

-- ---- calls

pub agreeing_stands : StandingIsSound → AgreeingStands
unfolding standing
agreeing_stands is_sound store_mark None table agrees = refl
agreeing_stands is_sound store_mark (Some held) table agrees =
    let same : held ≡ agrees.content = agrees.told_is in
    told_stands store_mark held agrees.content table agrees.state agrees.told_is agrees.stands
    ∙ ap (λ (s : Persistent). let some : Option Persistent = Some s in some)
    ((is_sound store_mark agrees.content agrees.state agrees.stands.long agrees.stands.decoded).0 ∙ ap (λ (t : Loaded). state_of t agrees.content) agrees.stands.entries ∙ ap (state_of table) (sym same))

pub written_stands : WrittenStands
unfolding standing
written_stands store_mark None told' table table' written change agrees stands is =
    rw is (stands_with store_mark None (written agrees.content) table' (change agrees.state) tt stands)
written_stands store_mark (Some held) told' table table' written change agrees stands is =
    let known : standing store_mark (Some held) ≡ Some agrees.state = told_stands store_mark held agrees.content table agrees.state agrees.told_is agrees.stands in
    rw (is, known) (stands_with store_mark (Some (written held)) (written agrees.content) table' (change agrees.state) (ap written agrees.told_is) stands)

pub one_of_both_stands : OneOfBothStands
one_of_both_stands store_mark told told' table table' written change agrees stands how =
    ⊎_elim {C = StandsWith store_mark told' table (standing store_mark told) ⊎ StandsWith store_mark told' table' (option_map change (standing store_mark told))}
    (λ same. inl (rw same (record { standing_is = refl; agrees = agrees })))
    (λ is. inr (written_stands store_mark told told' table table' written change agrees stands is)) how

module _ (free_stands : FreeBytesDontCount) where
  pub torn_stands : TornStands
  unfolding standing
  torn_stands store_mark None None table place count agrees free torn = record { standing_is = refl; agrees = agrees }
  torn_stands store_mark None (Some now) table place count agrees free torn = absurd torn
  torn_stands store_mark (Some held) None table place count agrees free torn = absurd torn
  torn_stands store_mark (Some held) (Some now) table place count agrees free torn =
      let known : standing store_mark (Some held) ≡ Some agrees.state = told_stands store_mark held agrees.content table agrees.state agrees.told_is agrees.stands in
      let torn_here : Torn place count agrees.content now = subst (λ (l : List ℕ). Torn place count l now) agrees.told_is torn in
      rw known (stands_with store_mark (Some now) now table agrees.state refl (free_stands store_mark agrees.content now table agrees.state place count agrees.stands free torn_here))

  pub prepared_stands : PreparedStands
  prepared_stands store_mark None told' table place bytes agrees free is = rw is (torn_stands store_mark None None table place (length bytes) agrees free tt)
  prepared_stands store_mark (Some held) told' table place bytes agrees free is =
      let end : data_end table.wide ≤ 65536 = data_end_inside table.wide in
      let fits : place + length bytes ≤ length held = omega (arith, free.to, agrees.stands.long, ap length agrees.told_is) in
      rw is (torn_stands store_mark (Some held) (Some (patched place bytes held)) table place (length bytes) agrees free (Torn_patched place (length bytes) bytes held refl fits))
