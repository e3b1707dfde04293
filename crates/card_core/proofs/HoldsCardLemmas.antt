-- What is known of a store once its card was mounted.
use Rattle.std.proofs.Common.{◌≡◌, ◌⊎◌, ◌≤◌, ℕ, true, false, List, [], ◌∷◌, map, Option, Some, None, option_map, refl, sym, ◌∙◌, ap, subst, arith, All, IfSome, is_some, unwrap_or, slice_index_or, if◌then◌else◌, Bool, Result}
use Rattle.std.specs.List.{list_all}
use Rattle.std.specs.Result.{result_ok}
use Rattle.std.proofs.lemmas.Bool.{false≢true}
use Rattle.std.proofs.lemmas.List.Elements.{All-contains}
use Rattle.uicc_types.specs.Told.{AreBytes}
use Rattle.store_form.specs.declared.store.StoreFault.{StoreFault}
use Rattle.store_form.specs.declared.store.StoreFault.TheVariants as store
use Rattle.card_state.specs.declared.entries.Row.{Row}
use Rattle.card_state.specs.declared.entries.Loaded.{Loaded}
use Rattle.card_state.specs.Migration.{ends_low, migrated}
use Rattle.card_state.specs.Persistent.{Contents, Files, Bytes, Records, File, Registration, Persistent}
use Rattle.card_state.specs.Standing.{stands_for, standing, Agrees}
use Rattle.card_state.specs.States.{rows_of, used_rows, registration_of}
use Rattle.card_state.specs.SoundnessLaws.{StandingIsSound, RecordsAreShort, HasShortRecords}
use Rattle.file_model.specs.Files.{record_width}
use Rattle.file_model.specs.Laws.{IsSoundCard}
use Rattle.layout_mount.specs.Mounted.{IsTable, HoldsNoCard}
use Rattle.layout_mount.proofs.MountedLemmas.{read_told}
use Rattle.layout_mount.specs.declared.mounting.MountFault.{MountFault}
use Rattle.layout_mount.specs.declared.mounting.MountFault.TheVariants as mount
use Rattle.layout_laws.specs.Known.{StandingIsOfTable}
use Rattle.applet_trait.specs.Minds.{AppletState}
use Rattle.card_model.specs.States.{HasBox}
use Rattle.card_core.specs.Boxes.{IsFirstWithoutBox}
use Rattle.card_core.specs.OpeningFaults.{of_mount, of_store}
use Rattle.card_core.specs.Starts.{HoldsCard, Finds, FaultLeaves, IsLeftMigrated}
use Rattle.card_core.specs.declared.opening_faults.OpenFault.{OpenFault}

-- ---- what stands

pub stands_now : (mark : ℕ) (held : List ℕ) (table : Loaded) (agrees : Agrees mark (Some held) table) → standing mark (Some held) ≡ Some agrees.state
unfolding standing
stands_now mark held table agrees = ap (λ (content : List ℕ). result_ok (stands_for mark content)) agrees.told_is ∙ ap result_ok agrees.stands.decoded

-- a store whose table is known holds a card
pub holds_card : (mark : ℕ) (told : Option (List ℕ)) (table : Loaded) → Agrees mark told table → HoldsCard mark told
unfolding standing
holds_card mark None table agrees = refl
holds_card mark (Some held) table agrees = ap is_some (stands_now mark held table agrees)

pub rows_alike : (a b : Loaded) → a.rows ≡ b.rows → rows_of a ≡ rows_of b
unfolding rows_of
rows_alike a b same = ap (λ (rows : List Row). map (λ entry. registration_of entry.0 entry.1) (used_rows rows)) same

-- ---- a table that is kept

-- where a box is missing, the store does not tell its bytes
pub silent_without_box : StandingIsOfTable → (mark : ℕ) (told : Option (List ℕ)) (found : Loaded) (boxes : List (Option AppletState)) (shelf : ℕ) → Agrees mark told found
    → IfSome (standing mark told) (λ state. All (HasBox boxes) state.rows) → IsFirstWithoutBox (rows_of found) boxes shelf → told ≡ None
silent_without_box of_table mark None found boxes shelf agrees have first = refl
silent_without_box of_table mark (Some held) found boxes shelf agrees have first =
    let all : All (HasBox boxes) agrees.state.rows = subst (λ stood. IfSome stood (λ (state : Persistent). All (HasBox boxes) state.rows)) (stands_now mark held found agrees) have in
    let rows : agrees.state.rows ≡ rows_of found = (of_table mark agrees.content found agrees.state agrees.stands).1.rows in
    absurd (first.lacks (All-contains (HasBox boxes) (rows_of found) first.row (subst (λ (list : List Registration). All (HasBox boxes) list) rows all) first.there))

-- and so where its bytes are no card
pub silent_without_card : (mark : ℕ) (told : Option (List ℕ)) (at : ℕ) → HoldsCard mark told → HoldsNoCard mark told at → told ≡ None
unfolding standing
silent_without_card mark None at holds none = refl
silent_without_card mark (Some held) at holds none =
    absurd (false≢true (sym (ap (λ (stood : Result Persistent ℕ). is_some (result_ok stood)) (read_told (Some held) _ none)) ∙ holds))

pub kept_agrees : (mark now : ℕ) (told told' : Option (List ℕ)) (table : Loaded) → now ≡ mark → told' ≡ told → told ≡ None → (told ≡ None → Agrees mark None table) → Agrees now told' table
kept_agrees mark now told told' table mark_is same silent kept =
    subst (λ (store_mark : ℕ). Agrees store_mark told' table) (sym mark_is) (subst (λ (tells : Option (List ℕ)). Agrees mark tells table) (sym (same ∙ silent)) (kept silent))

-- ---- refusals

pub finds_no_card : (fault : MountFault) (mark : ℕ) (told : Option (List ℕ)) (boxes : List (Option AppletState)) → ((at : ℕ) → fault ≡ mount.NotACard at → HoldsNoCard mark told at) → Finds (of_mount fault) mark told boxes
finds_no_card (mount.NotACard at) mark told boxes none = none at refl
finds_no_card mount.Failed mark told boxes none = tt
finds_no_card mount.PowerLost mark told boxes none = tt

-- ---- the migration

pub either_state : (mark : ℕ) (before after : Option Persistent) → (after ≡ before) ⊎ (after ≡ option_map migrated before) → IfSome before (λ state. (after ≡ Some state) ⊎ (after ≡ Some (migrated state)))
either_state mark None after whole = tt
either_state mark (Some state) after whole = whole

not_told : (told : Option (List ℕ)) (mark : ℕ) → HoldsCard mark told → standing mark told ≡ None → told ≡ None
not_told None mark holds none = refl
not_told (Some held) mark holds none = absurd (false≢true (sym (ap is_some none) ∙ holds))

none_told : (told : Option (List ℕ)) → is_some told ≡ false → told ≡ None
none_told None is = refl
none_told (Some held) is = absurd (false≢true (sym is))

pub migrated_at_most : (mark : ℕ) (before after : Option (List ℕ)) → HoldsCard mark before → is_some after ≡ is_some before
    → (standing mark after ≡ standing mark before) ⊎ (standing mark after ≡ option_map migrated (standing mark before)) → IsLeftMigrated mark before after
migrated_at_most mark before after holds told whole = record {
  card = either_state mark (standing mark before) (standing mark after) whole;
  no_card = λ none.
      let silent : before ≡ None = not_told before mark holds none in
      none_told after (told ∙ ap is_some silent) ∙ sym silent;
}

files_when : (low : Bool) (state : Persistent) → (if low then record state { is_wide = true } else state).files ≡ state.files
files_when true state = refl
files_when false state = refl

files_stay : (state : Persistent) → (migrated state).files ≡ state.files
unfolding migrated
files_stay state = files_when (list_all ends_low state.files) state

-- ---- sound cards

narrow_width : (contents : Contents) → HasShortRecords contents → record_width contents ≤ 255
narrow_width Files short = omega arith
narrow_width (Bytes bytes) short = omega arith
narrow_width (Records []) short = omega arith
narrow_width (Records (first ∷ records)) short = omega (arith, short 0 [] (omega arith))

-- a store that tells the bytes of a card holds a sound one, also once it is migrated
pub sound_after : StandingIsSound → RecordsAreShort → (mark : ℕ) (before after : Option (List ℕ)) (table table' : Loaded) (agrees : Agrees mark before table) → AreBytes agrees.content → Agrees mark after table'
    → standing mark after ≡ option_map migrated (standing mark before) → IfSome (standing mark after) IsSoundCard
unfolding standing
sound_after is_sound short mark None None table table' agrees bytes agrees' is = subst (λ stood. IfSome stood IsSoundCard) (sym is) tt
sound_after is_sound short mark None (Some now) table table' agrees bytes agrees' is = subst (λ stood. IfSome stood IsSoundCard) (sym is) tt
sound_after is_sound short mark (Some held) None table table' agrees bytes agrees' is = tt
sound_after is_sound short mark (Some held) (Some now) table table' agrees bytes agrees' is =
    let stood : standing mark (Some now) ≡ Some agrees'.state = stands_now mark now table' agrees' in
    let moved : Some agrees'.state ≡ Some (migrated agrees.state) = sym stood ∙ is ∙ ap (option_map migrated) (stands_now mark held table agrees) in
    let files : agrees'.state.files ≡ agrees.state.files = ap (λ (found : Option Persistent). (unwrap_or found agrees'.state).files) moved ∙ files_stay agrees.state in
    let widths : All (λ (file : File). record_width file.contents ≤ 255) agrees.state.files =
    λ k d low. narrow_width (slice_index_or agrees.state.files k d).contents (short mark agrees.content agrees.state agrees.stands.long bytes agrees.stands.decoded k d low) in
    subst (λ found. IfSome found IsSoundCard) (sym stood)
    (record { sound = (is_sound mark agrees'.content agrees'.state agrees'.stands.long agrees'.stands.decoded).1; short = subst (λ (list : List File). All (λ file. record_width file.contents ≤ 255) list) (sym files) widths })

pub sound_after_marked : StandingIsSound → RecordsAreShort → (mark now : ℕ) (before after : Option (List ℕ)) (table table' : Loaded) → now ≡ mark → (agrees : Agrees mark before table) → AreBytes agrees.content → Agrees now after table'
    → standing now after ≡ option_map migrated (standing mark before) → IfSome (standing now after) IsSoundCard
sound_after_marked is_sound short mark now before after table table' same agrees bytes agrees' is =
    subst (λ (store_mark : ℕ). IfSome (standing store_mark after) IsSoundCard) (sym same)
    (sound_after is_sound short mark before after table table' agrees bytes (subst (λ (store_mark : ℕ). Agrees store_mark after table') same agrees')
    (subst (λ (store_mark : ℕ). standing store_mark after ≡ option_map migrated (standing mark before)) same is))

fault_leaves : (fault : StoreFault) (mark : ℕ) (before after : Option (List ℕ)) → IsLeftMigrated mark before after → FaultLeaves (of_store fault) mark before after
fault_leaves store.Failed mark before after at_most = at_most
fault_leaves store.PowerLost mark before after at_most = at_most

pub leaves_store_fault : (fault : StoreFault) (opening : OpenFault) (mark now : ℕ) (before after : Option (List ℕ)) → opening ≡ of_store fault → now ≡ mark → HoldsCard mark before → is_some after ≡ is_some before
    → (standing now after ≡ standing mark before) ⊎ (standing now after ≡ option_map migrated (standing mark before)) → FaultLeaves opening mark before after
leaves_store_fault fault opening mark now before after is same holds told whole =
    subst (λ (refused : OpenFault). FaultLeaves refused mark before after) (sym is)
    (fault_leaves fault mark before after
    (migrated_at_most mark before after holds told
    (subst (λ (store_mark : ℕ). (standing store_mark after ≡ standing mark before) ⊎ (standing store_mark after ≡ option_map migrated (standing mark before))) same whole)))

-- ---- after a recovery, in which the mark and the bytes stay

pub table_moved : (mark now : ℕ) (told told' : Option (List ℕ)) (table : Loaded) → now ≡ mark → told' ≡ told → IsTable mark told table → IsTable now told' table
table_moved mark now told told' table same bytes is =
    subst (λ (store_mark : ℕ). IsTable store_mark told' table) (sym same) (subst (λ (tells : Option (List ℕ)). IsTable mark tells table) (sym bytes) is)

pub card_moved : (mark now : ℕ) (told told' : Option (List ℕ)) → now ≡ mark → told' ≡ told → HoldsCard now told' → HoldsCard mark told
card_moved mark now told told' same bytes holds = subst (λ (store_mark : ℕ). HoldsCard store_mark told) same (subst (λ (tells : Option (List ℕ)). HoldsCard now tells) bytes holds)
