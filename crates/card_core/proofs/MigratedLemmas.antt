-- What a store stands for while its card is migrated.
use Rattle.std.proofs.Common.{◌≡◌, ◌⊎◌, ℕ, true, false, List, Option, Some, None, option_map, refl, sym, ◌∙◌, ap, subst, inl, inr, ⊎_elim}
use Rattle.std.specs.Result.{result_ok}
use Rattle.list_laws.specs.Patches.{patched, Torn}
use Rattle.uicc_types.specs.Told.{Becomes}
use Rattle.card_state.specs.declared.entries.Loaded.{Loaded}
use Rattle.card_state.specs.Migration.{migrated, entries_end_low, no_upper_rows}
use Rattle.card_state.proofs.MigrationLemmas.{length-no_upper_rows}
use Rattle.card_state.specs.Persistent.{Persistent}
use Rattle.card_state.specs.Places.{data_end}
use Rattle.card_state.specs.Standing.{standing, stands_for, Agrees}
use Rattle.layout_entries.specs.Laws.{after}
use Rattle.layout_entries.specs.Spelling.{version_part}
use Rattle.layout_laws.specs.Cards.{IsFreeRange}
use Rattle.layout_laws.specs.Migrating.{OthersStay, UpperRowsAreFree, WideVersionStands}
use Rattle.layout_laws.specs.Stores.{StandsWith, WrittenStands, PreparedStands, TornStands}
use Rattle.card_commits.proofs.CommitsOverLemmas.{changed_twice}

-- a state that the migration leaves as it is is the migrated one
pub stays : OthersStay → (mark : ℕ) (told : Option (List ℕ)) (table : Loaded) → Agrees mark told table → (table.wide ≡ true) ⊎ (entries_end_low table ≡ false) → standing mark told ≡ option_map migrated (standing mark told)
unfolding standing
stays others mark None table agrees is = refl
stays others mark (Some held) table agrees is =
    let decoded : result_ok (stands_for mark held) ≡ Some agrees.state = ap (λ (content : List ℕ). result_ok (stands_for mark content)) agrees.told_is ∙ ap result_ok agrees.stands.decoded in
    let same : migrated agrees.state ≡ agrees.state = others mark agrees.content table agrees.state agrees.stands is in
    decoded ∙ ap Some (sym same) ∙ sym (ap (option_map migrated) decoded)

module _ (mark : ℕ) (told : Option (List ℕ)) (table : Loaded) (agrees : Agrees mark told table) (narrow : table.wide ≡ false) (low : entries_end_low table ≡ true) (free : UpperRowsAreFree) where
  upper_free : IsFreeRange table.wide agrees.state.files (data_end true) 1024
  upper_free = free mark agrees.content table agrees.state agrees.stands narrow low

  -- the rows of the upper shelves don't count while the version is the old one
  pub after_prepare : PreparedStands → (next : Option (List ℕ)) → next ≡ option_map (patched (data_end true) no_upper_rows) told → standing mark next ≡ standing mark told
  after_prepare prepared next is =
      (prepared mark told next table (data_end true) no_upper_rows agrees (subst (λ (count : ℕ). IsFreeRange table.wide agrees.state.files (data_end true) count) (sym length-no_upper_rows) upper_free) is).standing_is

  pub after_torn : TornStands → (next : Option (List ℕ)) → Becomes (Torn (data_end true) 1024) told next → standing mark next ≡ standing mark told
  after_torn torn next is = (torn mark told next table (data_end true) 1024 agrees upper_free is).standing_is

  -- with the new version the store stands for the migrated state
  pub after_version : WideVersionStands → WrittenStands → (next last : Option (List ℕ)) → next ≡ option_map (patched (data_end true) no_upper_rows) told → last ≡ option_map (after (version_part true)) next
      → StandsWith mark last (record table { wide = true }) (option_map migrated (standing mark told))
  after_version wide written next last first second =
      written mark told last table (record table { wide = true }) (λ content. after (version_part true) (patched (data_end true) no_upper_rows content)) migrated agrees
      (wide mark agrees.content table agrees.state agrees.stands narrow low)
      (second ∙ ap (option_map (after (version_part true))) first ∙ changed_twice (patched (data_end true) no_upper_rows) (after (version_part true)) told)

  pub after_either : PreparedStands → WideVersionStands → WrittenStands → (next last : Option (List ℕ)) → next ≡ option_map (patched (data_end true) no_upper_rows) told
      → (last ≡ next) ⊎ (last ≡ option_map (after (version_part true)) next) → (standing mark last ≡ standing mark told) ⊎ (standing mark last ≡ option_map migrated (standing mark told))
  after_either prepared wide written next last first =
      ⊎_elim {C = (standing mark last ≡ standing mark told) ⊎ (standing mark last ≡ option_map migrated (standing mark told))}
      (λ same. inl (ap (standing mark) same ∙ after_prepare prepared next first))
      (λ second. inr (after_version wide written next last first second).standing_is)

-- the mark of a store stays
pub agrees_marked : (mark now : ℕ) (told : Option (List ℕ)) (table : Loaded) → now ≡ mark → Agrees mark told table → Agrees now told table
agrees_marked mark now told table is agrees = subst (λ (store_mark : ℕ). Agrees store_mark told table) (sym is) agrees

pub either_marked : (mark now : ℕ) (told : Option (List ℕ)) (before after : Option Persistent) → now ≡ mark → (standing mark told ≡ before) ⊎ (standing mark told ≡ after) → (standing now told ≡ before) ⊎ (standing now told ≡ after)
either_marked mark now told before after is either = subst (λ (store_mark : ℕ). (standing store_mark told ≡ before) ⊎ (standing store_mark told ≡ after)) (sym is) either
