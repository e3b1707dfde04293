-- What an opening and a restart owe, from what a mount read.
use Rattle.std.proofs.Common.{◌≡◌, ◌≢◌, ℕ, Bool, true, false, List, Option, None, Result, Ok, Err, option_map, refl, sym, ◌∙◌, ap, subst, inl, All, IfErr, IfSome, IsErrAnd, IsOkAnd, if◌then◌else◌}
use Rattle.std.proofs.lemmas.List.Elements.{All-contains}
use Rattle.uicc_types.specs.Counts.{raised}
use Rattle.store_form.specs.declared.store.StoreFault.{StoreFault}
use Rattle.store_form.specs.declared.store.StoreFault.TheVariants as store
use Rattle.card_state.specs.declared.entries.Loaded.{Loaded}
use Rattle.card_state.specs.Decoding.{table_of}
use Rattle.card_state.specs.Memory.{Memory, held}
use Rattle.card_state.specs.Migration.{migrated}
use Rattle.card_state.specs.Persistent.{Registration, Persistent}
use Rattle.card_state.specs.Standing.{standing, state_in, Stands, Agrees}
use Rattle.card_state.specs.States.{rows_of, state_of}
use Rattle.layout_mount.specs.Mounted.{HasRead, IsTable, HoldsNoCard}
use Rattle.layout_mount.specs.declared.mounting.MountFault.{MountFault}
use Rattle.layout_mount.specs.declared.mounting.MountFault.TheVariants as mount
use Rattle.layout_laws.specs.Known.{StandingIsOfTable}
use Rattle.applet_trait.specs.Minds.{AppletState}
use Rattle.card_model.specs.States.{HasBox}
use Rattle.card_core.specs.Boxes.{IsFirstWithoutBox}
use Rattle.card_core.specs.OpeningFaults.{of_mount, of_store}
use Rattle.card_core.specs.Migrations.{awaits_migration, migrated_table}
use Rattle.card_core.specs.Starts.{IsOpenedFrom, Opens, HasNoBoxFor, Finds, FaultLeaves, IsLeftMigrated, Refuses, MayRestart, IsWithBoxes, IsReadAgain, RestartsMemory, recoveries_after}
use Rattle.card_core.specs.declared.opening_faults.OpenFault.{OpenFault}
use Rattle.card_core.specs.declared.opening_faults.OpenFault.TheVariants as opening
use Rattle.card_core.proofs.CountsMigrationLemmas.{counts_moved}
use Rattle.card_core.proofs.HoldsCardLemmas.{either_state, card_moved, finds_no_card}

-- ---- what was read

-- the table that was loaded agrees with it
abbrev pub agrees_of : (mark : ℕ) (told : Option (List ℕ)) (table : Loaded) → IsTable mark told table → Agrees mark told table
agrees_of mark told table is = record { content = is.content; state = state_of table is.content; told_is = is.told_is; stands = is.holds }

read_moved : (told told' : Option (List ℕ)) (P Q : List ℕ → Type 0) → told' ≡ told → ((content : List ℕ) → P content → Q content) → HasRead told' P → HasRead told Q
read_moved told told' P Q same each read = record {
  content = read.content;
  long = read.long;
  bytes = read.bytes;
  told_is = subst (λ (tells : Option (List ℕ)). IfSome tells (λ held. held ≡ read.content)) same read.told_is;
  holds = each read.content read.holds;
}

module _ (of_table : StandingIsOfTable) (mark : ℕ) (told : Option (List ℕ)) (boxes : List (Option AppletState)) (found : Loaded) (is : IsTable mark told found) where
  rows_are : (state_of found is.content).rows ≡ rows_of found
  rows_are = (of_table mark is.content found (state_of found is.content) is.holds).1.rows

  rows_have_boxes : IsWithBoxes mark boxes is.content → All (HasBox boxes) (rows_of found)
  rows_have_boxes so =
      subst (λ (rows : List Registration). All (HasBox boxes) rows) rows_are
      (subst (λ (stood : Result Persistent ℕ). IsOkAnd stood (λ state. All (HasBox boxes) state.rows)) is.holds.decoded so)

  is_with_boxes : All (HasBox boxes) (rows_of found) → IsWithBoxes mark boxes is.content
  is_with_boxes have =
      subst (λ (stood : Result Persistent ℕ). IsOkAnd stood (λ state. All (HasBox boxes) state.rows)) (sym is.holds.decoded)
      (subst (λ (rows : List Registration). All (HasBox boxes) rows) (sym rows_are) have)

  -- a card each of whose applets has its box
  pub read_anew : (old : Loaded) → All (HasBox boxes) (rows_of found) → HasRead told (IsReadAgain mark boxes old found)
  read_anew old have = record {
    content = is.content;
    long = is.long;
    bytes = is.bytes;
    told_is = is.told_is;
    holds = record { anew = λ so. sym is.holds.entries; stays = λ lacks. absurd (lacks (is_with_boxes have)) };
  }

  -- one with an applet that has none
  pub read_without_box : (old : Loaded) (shelf : ℕ) → IsFirstWithoutBox (rows_of found) boxes shelf → HasRead told (IsReadAgain mark boxes old old)
  read_without_box old shelf first = record {
    content = is.content;
    long = is.long;
    bytes = is.bytes;
    told_is = is.told_is;
    holds = record { anew = λ so. absurd (first.lacks (All-contains (HasBox boxes) (rows_of found) first.row (rows_have_boxes so) first.there)); stays = λ lacks. refl };
  }

  pub finds_no_box : (shelf : ℕ) → IsFirstWithoutBox (rows_of found) boxes shelf → HasRead told (HasNoBoxFor mark boxes shelf)
  finds_no_box shelf first = record {
    content = is.content;
    long = is.long;
    bytes = is.bytes;
    told_is = is.told_is;
    holds =
        subst (λ (stood : Result Persistent ℕ). IsOkAnd stood (λ state. IsFirstWithoutBox state.rows boxes shelf)) (sym is.holds.decoded)
        (subst (λ (rows : List Registration). IsFirstWithoutBox rows boxes shelf) (sym rows_are) first);
  }

-- bytes of no card
pub read_no_card : (mark : ℕ) (told : Option (List ℕ)) (boxes : List (Option AppletState)) (old : Loaded) (at : ℕ) → HoldsNoCard mark told at → HasRead told (IsReadAgain mark boxes old old)
read_no_card mark told boxes old at is = record {
  content = is.content;
  long = is.long;
  bytes = is.bytes;
  told_is = is.told_is;
  holds = record {
    anew = λ so. absurd (subst (λ (stood : Result Persistent ℕ). IsOkAnd stood (λ state. All (HasBox boxes) state.rows)) is.holds so);
    stays = λ lacks. refl;
  };
}

-- ---- a migration

awaits_when : (migrates : Bool) (table : Loaded) → awaits_migration table ≡ migrates → awaits_migration (if migrates then record table { wide = true } else table) ≡ false
awaits_when true table is = refl
awaits_when false table is = is

-- once it is made none is due
pub rests_migrated : (table now : Loaded) → now ≡ migrated_table table → awaits_migration now ≡ false
rests_migrated table now is = ap awaits_migration is ∙ awaits_when (awaits_migration table) table refl

rows_when : (migrates : Bool) (table : Loaded) → (if migrates then record table { wide = true } else table).rows ≡ table.rows
rows_when true table = refl
rows_when false table = refl

pub migrated_rows : (table now : Loaded) → now ≡ migrated_table table → now.rows ≡ table.rows
migrated_rows table now is = ap (λ (entries : Loaded). entries.rows) is ∙ rows_when (awaits_migration table) table

pub read_opened : (old now : Memory) (table : Loaded) → IsTable old.mark old.told table → now.table ≡ migrated_table table → now.commits ≡ (if awaits_migration table then raised old.commits else old.commits)
    → HasRead old.told (IsOpenedFrom old now)
read_opened old now table is table_is commits = record {
  content = is.content;
  long = is.long;
  bytes = is.bytes;
  told_is = is.told_is;
  holds = record {
    stands = subst (λ (entries : Loaded). Stands old.mark is.content entries (state_of entries is.content)) (sym is.holds.entries) is.holds;
    table = table_is ∙ ap migrated_table (sym is.holds.entries);
    commits = commits ∙ ap (λ (entries : Loaded). if awaits_migration entries then raised old.commits else old.commits) (sym is.holds.entries);
  };
}

-- ---- refusals

finds_fault : (fault : StoreFault) (mark : ℕ) (told : Option (List ℕ)) (boxes : List (Option AppletState)) → Finds (of_store fault) mark told boxes
finds_fault store.Failed mark told boxes = tt
finds_fault store.PowerLost mark told boxes = tt

not_migrated : (mark : ℕ) (before after : Option (List ℕ)) → after ≡ before → IsLeftMigrated mark before after
not_migrated mark before after same =
    record { card = either_state mark (standing mark before) (standing mark after) (inl (ap (standing mark) same)); no_card = λ none. same }

leaves_read : (fault : MountFault) (mark : ℕ) (before after : Option (List ℕ)) → after ≡ before → FaultLeaves (of_mount fault) mark before after
leaves_read (mount.NotACard at) mark before after same = same
leaves_read mount.Failed mark before after same = not_migrated mark before after same
leaves_read mount.PowerLost mark before after same = not_migrated mark before after same

leaves_recovered : (fault : StoreFault) (mark : ℕ) (before after : Option (List ℕ)) → after ≡ before → FaultLeaves (of_store fault) mark before after
leaves_recovered store.Failed mark before after same = not_migrated mark before after same
leaves_recovered store.PowerLost mark before after same = not_migrated mark before after same

module _ (opening : OpenFault) (old now : Memory) (boxes : List (Option AppletState)) where
  -- nothing was written before a mount answered
  pub mount_refused : (fault : MountFault) → opening ≡ of_mount fault → now.told ≡ old.told → now.commits ≡ old.commits → ((at : ℕ) → fault ≡ mount.NotACard at → HoldsNoCard old.mark old.told at) → Refuses old now boxes opening
  mount_refused fault is told commits none =
      subst (Refuses old now boxes) (sym is)
      (record { found = finds_no_card fault old.mark old.told boxes none; left = leaves_read fault old.mark old.told now.told told; commits = commits })

  recovery_refused : (fault : StoreFault) → opening ≡ of_store fault → now.told ≡ old.told → now.commits ≡ old.commits → Refuses old now boxes opening
  recovery_refused fault is told commits =
      subst (Refuses old now boxes) (sym is)
      (record { found = finds_fault fault old.mark old.told boxes; left = leaves_recovered fault old.mark old.told now.told told; commits = commits })

  pub migration_refused : (fault : StoreFault) → opening ≡ of_store fault → FaultLeaves opening old.mark old.told now.told → now.commits ≡ old.commits → Refuses old now boxes opening
  migration_refused fault is left commits = record {
    found = subst (λ (refused : OpenFault). Finds refused old.mark old.told boxes) (sym is) (finds_fault fault old.mark old.told boxes);
    left = left;
    commits = commits;
  }

pub recovery_answered : {T : Type 0} (result : Result T OpenFault) (old now : Memory) (boxes : List (Option AppletState)) (fault : StoreFault) → IsErrAnd result (λ opening. opening ≡ of_store fault) → now.told ≡ old.told
    → now.commits ≡ old.commits → IfErr result (Refuses old now boxes)
recovery_answered (Ok done) old now boxes fault is told commits = tt
recovery_answered (Err opening) old now boxes fault is told commits = recovery_refused opening old now boxes fault is told commits

-- ---- the recoveries

-- where there was memory one was asked for
pub one_asked : {X : Type 0} (result : Result X OpenFault) (before : ℕ) → result ≢ Err opening.Memory → raised before ≡ recoveries_after result before
one_asked (Ok done) before other = refl
one_asked (Err (opening.NotACard at)) before other = refl
one_asked (Err (opening.NoBox shelf)) before other = refl
one_asked (Err opening.Failed) before other = refl
one_asked (Err opening.PowerLost) before other = refl
one_asked (Err opening.Memory) before other = absurd (other refl)

-- ---- after a recovery, in which mark, bytes, commits and table stay

module _ (old mid now : Memory) (boxes : List (Option AppletState)) (mark : mid.mark ≡ old.mark) (told : mid.told ≡ old.told) where
  held_still : held mid ≡ held old
  held_still = ap (λ (store_mark : ℕ). standing store_mark mid.told) mark ∙ ap (standing old.mark) told

  pub opens_moved : mid.commits ≡ old.commits → Opens mid now boxes → Opens old now boxes
  opens_moved commits opens = record {
    mounted = opens.mounted;
    read =
        read_moved old.told mid.told (IsOpenedFrom mid now) (IsOpenedFrom old now) told
        (λ content is. record {
          stands = subst (λ (store_mark : ℕ). Stands store_mark content (table_of content) (state_in content)) mark is.stands;
          table = is.table;
          commits = is.commits ∙ ap (λ (count : ℕ). if awaits_migration (table_of content) then raised count else count) commits;
        })
        opens.read;
    card = card_moved old.mark mid.mark old.told mid.told mark told opens.card;
    migrated_is = opens.migrated_is ∙ ap (option_map migrated) held_still;
    sound = opens.sound;
    boxes_are = opens.boxes_are;
    kinds = opens.kinds;
    rests = opens.rests;
    commits = counts_moved old.mark mid.mark old.told mid.told old.commits mid.commits now.commits mark told commits opens.commits;
  }

  pub refuses_moved : mid.commits ≡ old.commits → (fault : OpenFault) → Refuses mid now boxes fault → Refuses old now boxes fault
  refuses_moved commits fault refuses = record {
    found =
        subst (λ (tells : Option (List ℕ)). Finds fault old.mark tells boxes) told
        (subst (λ (store_mark : ℕ). Finds fault store_mark mid.told boxes) mark refuses.found);
    left =
        subst (λ (tells : Option (List ℕ)). FaultLeaves fault old.mark tells now.told) told
        (subst (λ (store_mark : ℕ). FaultLeaves fault store_mark mid.told now.told) mark refuses.left);
    commits = refuses.commits ∙ commits;
  }

  pub restarts_moved : mid.table ≡ old.table → RestartsMemory mid now boxes → RestartsMemory old now boxes
  restarts_moved table restarts = record {
    boxes_are = restarts.boxes_are;
    read =
        subst (λ (entries : Loaded). HasRead old.told (IsReadAgain old.mark boxes entries now.table)) table
        (subst (λ (tells : Option (List ℕ)). HasRead tells (IsReadAgain old.mark boxes mid.table now.table)) told
        (subst (λ (store_mark : ℕ). HasRead mid.told (IsReadAgain store_mark boxes mid.table now.table)) mark restarts.read));
  }

pub may_restart_moved : (old now : Memory) (boxes : List (Option AppletState)) → now.size ≡ old.size → now.mark ≡ old.mark → now.told ≡ old.told → now.table ≡ old.table → MayRestart old boxes → MayRestart now boxes
may_restart_moved old now boxes size mark told table may = record {
  size = size ∙ may.size;
  card = card_moved now.mark old.mark now.told old.told (sym mark) (sym told) may.card;
  kept = λ silent.
      subst (λ (entries : Loaded). Agrees now.mark None entries) (sym table)
      (subst (λ (store_mark : ℕ). Agrees store_mark None old.table) (sym mark) (may.kept (sym told ∙ silent)));
  boxes_are =
      subst (λ (stood : Option Persistent). IfSome stood (λ state. All (HasBox boxes) state.rows))
      (sym (ap (λ (store_mark : ℕ). standing store_mark now.told) mark ∙ ap (standing old.mark) told)) may.boxes_are;
  kept_boxes = λ silent. subst (λ (entries : Loaded). All (HasBox boxes) (rows_of entries)) (sym table) (may.kept_boxes (sym told ∙ silent));
}
