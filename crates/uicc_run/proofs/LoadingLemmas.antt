-- What a long run comes to.
use Rattle.std.proofs.Common.{◌≡◌, ◌⊎◌, ℕ, ◌+◌, Bool, true, false, List, [], ◌∷◌, ◌++◌, take, drop, Option, Some, None, Result, Ok, Err, inl, inr, refl, sym, ap, ◌∙◌, subst, IfSome, IsOkAnd, is_some, option_map, rules}
use Rattle.std.proofs.lemmas.List.{drop_more, take-append-drop}
use Rattle.std.proofs.lemmas.Option.{get_or_from_slice_get, slice_get_within}
use Rattle.std.proofs.lemmas.List.Elements.{All-contains, All-nil}
use Rattle.uicc_types.specs.Counts.{Caused, Meter}
use Rattle.uicc_types.specs.declared.plans.Plan.{Plan}
use Rattle.uicc_types.specs.declared.plans.TheConstants.Plan.{NONE}
use Rattle.script_form.specs.declared.handset.HandsetLine.{HandsetLine}
use Rattle.script_form.specs.declared.lines.ScriptLine.{ScriptLine}
use Rattle.script_reader.specs.declared.faults.ScriptFault.TheVariants as script
use Rattle.card_state.specs.Migration.{migrated}
use Rattle.card_state.specs.Persistent.{Persistent}
use Rattle.card_state.specs.Sections.{bare_card}
use Rattle.card_state.specs.Standing.{standing, stands_for}
use Rattle.card_state.specs.declared.faults.SectionFault.{SectionFault}
use Rattle.layout_mount.proofs.MountedLemmas.{read_told}
use Rattle.applet_trait.specs.Minds.{AppletState}
use Rattle.card_model.specs.Counts.{IsCounted}
use Rattle.card_model.specs.Laws.{CountsJoin}
use Rattle.card_model.specs.States.{HasBox, woken}
use Rattle.card_core.specs.Cards.{card_of}
use Rattle.card_core.specs.Openings.{opened, with_all_shelves}
use Rattle.card_core.specs.Parts.{CardParts}
use Rattle.card_core.specs.Boxes.{IsFirstWithoutBox}
use Rattle.card_core.specs.Starts.{Finds, IsLeftMigrated, FaultLeaves}
use Rattle.card_core.specs.declared.opening_faults.OpenFault.{OpenFault}
use Rattle.card_core.specs.declared.opening_faults.OpenFault.TheVariants as fault
use Rattle.handset_model.specs.Legal.{IsLegal}
use Rattle.section_lines.specs.RowLaws.{IsOfItsBox}
use Rattle.section_lines.specs.Script.{then_on, with_lines}
use Rattle.section_lines.proofs.RowsHaveBoxesLemmas.{rows_have_boxes}
use Rattle.section_lines.proofs.WithLinesLemmas.{splits, with_lines-append}
use Rattle.run_steps.proofs.StandingLemmas.{is_machine}
use Rattle.run_steps.specs.Stepping.{Moment}
use Rattle.run_steps.specs.Taking.{moment}
use Rattle.run_steps.specs.Views.{CardView, ItsPower, TheCard}
use Rattle.run_steps.specs.declared.steps.MemoryFailed.{MemoryFailed as Failure}
use Rattle.long_runs.specs.LoadLines.{made_lines}
use Rattle.long_runs.specs.FixedRows.{fixed_rows}
use Rattle.long_runs.specs.Rows.{IsFirstRefused}
use Rattle.long_runs.specs.declared.counts.Counts.{Counts}
use Rattle.phone_runs.specs.LoadingLines.{GivesLoad}
use Rattle.phone_runs.specs.LoadRuns.{all_heard}
use Rattle.phone_runs.specs.Laws.{RunsAreLegal, RunsAreOfTheCard}
use Rattle.phone_runs.specs.Logs.{heard, trace}
use Rattle.phone_runs.specs.Playing.{Begins}
use Rattle.uicc_run.proofs.HasBoxLemmas.{have_boxes}
use Rattle.uicc_run.proofs.OpeningLemmas.{caused_counted, caused_kept, refusal_keeps, stands_found, still}
use Rattle.uicc_run.specs.Endings.{KeepsBytes, status_for, IsUnplanned}
use Rattle.uicc_run.specs.Headline.{IsMigratedAtMost, is_known}
use Rattle.uicc_run.specs.Loading.{ComesToLoad, FailsToOpenFixed, IsFixedCard, IsFixedFirst, IsLeft, RefusesFixed, load_beginning}
use Rattle.uicc_run.specs.Making.{ending_for_load, ending_for as ending_for_fault}
use Rattle.uicc_run.specs.Playing.{Given, Leaves, first_machine}
use Rattle.uicc_run.specs.declared.endings.Ending.{Ending}
use Rattle.uicc_run.specs.declared.endings.Ending.TheVariants.{NoMemory, Section, MemoryFailed, NoCard, Counted}
use Rattle.uicc_run.specs.declared.endings.Task.TheVariants as task

-- the handset of a long run begins with the card that was opened
load_begins : (given : Given) (card : Persistent) (mark : ℕ) (told : Option (List ℕ)) (meter : Meter) (boxes : List (Option AppletState)) (parts : CardParts) → CountsJoin
    → option_map (stands_for mark) told ≡ Some (Ok card) → IsCounted given.meter meter [] [] → boxes ≡ given.boxes → card_of parts ≡ opened (standing mark told) boxes → parts.is_on ≡ true → parts.is_due ≡ false → Caused meter parts.meter ⊥ ⊥
    → Begins (load_beginning given (TheCard (first_machine card given.boxes))) (moment parts (Some []) NONE)
load_begins given card mark told meter boxes parts join stands counted boxes_are is on rests caused =
    let opens : card_of parts ≡ Some (woken (migrated card) (with_all_shelves given.boxes)) =
    is ∙ ap (λ h. opened h boxes) (stands_found mark told (Ok card) stands) ∙ ap (λ b. Some (woken (migrated card) (with_all_shelves b))) boxes_are in
    record {
      seen = is_machine parts (woken (migrated card) (with_all_shelves given.boxes)) true opens on;
      written = refl;
      counted = join given.meter meter parts.meter [] [] [] [] counted (caused_counted meter parts.meter caused (λ so. so) (λ so. so));
      waits = refl;
      rests = λ calm. rests;
    }

-- of its power alone more is not known
load_begins_with_power : (given : Given) (meter : Meter) (parts : CardParts) → CountsJoin → IsCounted given.meter meter [] [] → parts.is_on ≡ true → Caused meter parts.meter ⊥ ⊥ → Begins (load_beginning given (ItsPower true)) (moment parts (Some []) NONE)
load_begins_with_power given meter parts join counted on caused =
    search (rules, on, join given.meter meter parts.meter [] [] [] [] counted (caused_counted meter parts.meter caused (λ so. so) (λ so. so)))

-- the card was opened, and is known as far as its memory tells
pub record BeginsLoading (given : Given) (is_told : Bool) (card : Persistent) (parts : CardParts) : Type 0 where
  pub first : CardView
  pub known : is_known first ≡ is_told
  pub opened : IsFixedFirst given card first
  pub begins : Begins (load_beginning given first) (moment parts (Some []) NONE)

pub load_begins_seen : (given : Given) (is_told : Bool) (card : Persistent) (mark : ℕ) (told : Option (List ℕ)) (meter : Meter) (boxes : List (Option AppletState)) (parts : CardParts) → CountsJoin
    → (is_told ≡ true → option_map (stands_for mark) told ≡ Some (Ok card)) → IsCounted given.meter meter [] [] → boxes ≡ given.boxes → card_of parts ≡ opened (standing mark told) boxes → parts.is_on ≡ true → parts.is_due ≡ false → Caused meter parts.meter ⊥ ⊥
    → BeginsLoading given is_told card parts
load_begins_seen given true card mark told meter boxes parts join stands counted boxes_are is on rests caused =
    search (rules, load_begins given card mark told meter boxes parts join (stands refl) counted boxes_are is on rests caused)
load_begins_seen given false card mark told meter boxes parts join stands counted boxes_are is on rests caused =
    search (rules, load_begins_with_power given meter parts join counted on caused)

heard_made : (made : List HandsetLine) → heard (all_heard made) ≡ made
heard_made [] = refl
heard_made (line ∷ made) = ap (λ l. line ∷ l) (heard_made made)

-- what the handset came to is what the run comes to
pub comes_to_load : (given : Given) (first : CardView) (start count : ℕ) (card : Persistent) (leaves : Leaves) (at : Moment) (outcome : Result Counts Failure) → RunsAreLegal → RunsAreOfTheCard → IsFixedCard given.boxes card → IsFixedFirst given card first
    → IsLeft leaves at → GivesLoad (made_lines start count) (load_beginning given first) at outcome → ComesToLoad given (is_known first) start count (ending_for_load count outcome) leaves
comes_to_load given first start count card leaves at (Ok counts) legal of_card fixed opens left gives = (
  first,
  refl,
  record {
    card = card;
    at = at;
    is_fixed = fixed;
    opened = opens;
    lines_are = refl;
    counted = gives;
    legal = subst (λ l. IsLegal l (trace gives.log)) (ap heard gives.lines_are ∙ heard_made (made_lines start count)) (legal first gives.card gives.log gives.run gives.rests);
    of_card = of_card first gives.card gives.log gives.run;
    left = left;
  },
)
comes_to_load given first start count card leaves at (Err failed) legal of_card fixed opens left gives =
    (first, refl, record { card = card; at = at; is_fixed = fixed; opened = opens; failed = gives; left = left })

-- its card was handed back
pub load_closes : (given : Given) (is_told : Bool) (first : CardView) (start count : ℕ) (card : Persistent) (taken : Option (List ℕ)) (parts : CardParts) (mark : ℕ) (told : Option (List ℕ)) (meter : Meter) (boxes : List (Option AppletState)) (put : Option (List ℕ)) (waiting : Plan) (outcome : Result Counts Failure)
    → RunsAreLegal → RunsAreOfTheCard → is_known first ≡ is_told → IsFixedCard given.boxes card → IsFixedFirst given card first → mark ≡ parts.store_mark → told ≡ parts.told → meter ≡ parts.meter → boxes ≡ parts.boxes
    → GivesLoad (made_lines start count) (load_beginning given first) (moment parts put waiting) outcome
    → ComesToLoad given is_told start count (ending_for_load count outcome) (record { held = standing mark told; taken = taken; meter = meter; boxes = boxes })
load_closes given is_told first start count card taken parts mark told meter boxes put waiting outcome legal of_card known fixed opens same_mark same_told same_meter same_boxes gives =
    let leaves : Leaves = record { held = standing mark told; taken = taken; meter = meter; boxes = boxes } in
    subst (λ k. ComesToLoad given k start count (ending_for_load count outcome) leaves) known
    (comes_to_load given first start count card leaves (moment parts put waiting) outcome legal of_card fixed opens
    (record { held = ap (λ k. standing k told) same_mark ∙ ap (λ t. standing parts.store_mark t) same_told; meter = same_meter; boxes = same_boxes }) gives)

-- what a call does from a meter on, where it met no fault
pub counted_from : {Failed Lost : Type 0} → (old new base : Meter) → old ≡ base → Caused old new Failed Lost → (Failed → ⊥) → (Lost → ⊥) → IsCounted base new [] []
counted_from old new base same caused no_failure no_loss = subst (λ m. IsCounted m new [] []) same (caused_counted old new caused no_failure no_loss)

-- and where it may have met one
pub kept_from : {Failed Lost : Type 0} → (old new base : Meter) → old ≡ base → Caused old new Failed Lost → IsUnplanned base new
kept_from old new base same caused = subst (λ m. IsUnplanned m new) same (caused_kept old new caused)

pub as_ended : (given : Given) (told : Bool) (start count : ℕ) (ending other : _) (leaves : Leaves) → ending ≡ other → ComesToLoad given told start count other leaves → ComesToLoad given told start count ending leaves
as_ended given told start count ending other leaves same comes = subst (λ e. ComesToLoad given told start count e leaves) (sym same) comes

-- ---- the card can be opened

ok_alone : (found : Result Persistent ℕ) (card : Persistent) (at : ℕ) → found ≡ Ok card → found ≡ Err at → ⊥
ok_alone found card at is so = cc

holds_card : (mark : ℕ) (told : Option (List ℕ)) (card : Persistent) (at : ℕ) → option_map (stands_for mark) told ≡ Some (Ok card) → IfSome told (λ content. stands_for mark content ≡ Err at) → ⊥
holds_card mark None card at stands found = cc
holds_card mark (Some content) card at stands found = ok_alone (stands_for mark content) card at (let same : Some (stands_for mark content) ≡ Some (Ok card) = stands in cc) found

lacks_in : (boxes : List (Option AppletState)) (shelf : ℕ) (found : Result Persistent ℕ) (card : Persistent) → found ≡ Ok card → IsOkAnd found (λ state. IsFirstWithoutBox state.rows boxes shelf) → IsFirstWithoutBox card.rows boxes shelf
lacks_in boxes shelf (Ok state) card is lacks = let same : state ≡ card = cc in subst (λ (s : Persistent). IsFirstWithoutBox s.rows boxes shelf) same lacks
lacks_in boxes shelf (Err at) card is lacks = absurd lacks

lacks_box : (boxes : List (Option AppletState)) (shelf mark : ℕ) (told : Option (List ℕ)) (card : Persistent) → option_map (stands_for mark) told ≡ Some (Ok card) → IfSome told (λ content. IsOkAnd (stands_for mark content) (λ state. IsFirstWithoutBox state.rows boxes shelf))
    → IsFirstWithoutBox card.rows boxes shelf
lacks_box boxes shelf mark None card stands lacks = absurd (cc)
lacks_box boxes shelf mark (Some content) card stands lacks =
    lacks_in boxes shelf (stands_for mark content) card (let same : Some (stands_for mark content) ≡ Some (Ok card) = stands in cc) lacks

has_its_box : (boxes : List (Option AppletState)) (card : Persistent) (shelf : ℕ) → IsFixedCard boxes card → IsFirstWithoutBox card.rows (with_all_shelves boxes) shelf → ⊥
has_its_box boxes card shelf fixed missing =
    missing.lacks (All-contains (HasBox (with_all_shelves boxes)) card.rows missing.row (have_boxes boxes card.rows (rows_have_boxes boxes fixed_rows bare_card card (All-nil (IsOfItsBox boxes)) fixed)) missing.there)

-- a fault came at its opening
fails_to_open : (given : Given) (is_told : Bool) (card : Persistent) (mark mark_then : ℕ) (told told_then : Option (List ℕ)) (leaves : Leaves) → (is_told ≡ true → option_map (stands_for mark) told ≡ Some (Ok card)) → IsFixedCard given.boxes card → IsLeftMigrated mark told told_then
    → mark_then ≡ mark → leaves.held ≡ standing mark_then told_then → IsUnplanned given.meter leaves.meter → FailsToOpenFixed given is_told leaves
fails_to_open given is_told card mark mark_then told told_then leaves stands fixed left same held counted = record {
  card = card;
  is_fixed = fixed;
  made_at_most = λ is. subst (IsMigratedAtMost (Ok card)) (sym (held ∙ ap (λ m. standing m told_then) same)) (still mark told told_then (Ok card) (stands is) left);
  counted = counted;
}

-- a memory that tells its bytes holds the card that it was formatted with, which can be opened
refused_fixed : (given : Given) (is_told : Bool) (card : Persistent) (leaves : Leaves) → IsFixedCard given.boxes card → (is_told ≡ true → ⊥) → IsCounted given.meter leaves.meter [] [] → RefusesFixed given is_told leaves
refused_fixed given true card leaves fixed never counted = absurd (never refl)
refused_fixed given false card leaves fixed never counted = record { untold = refl; card = card; is_fixed = fixed; counted = counted }

-- where it was not, that is for want of memory, or the memory failed, or of one that tells nothing
pub not_loaded : (given : Given) (is_told : Bool) (start count : ℕ) (card : Persistent) (mark mark_then : ℕ) (told told_then : Option (List ℕ)) (boxes : List (Option AppletState)) (leaves : Leaves) (why : OpenFault)
    → (is_told ≡ true → option_map (stands_for mark) told ≡ Some (Ok card)) → boxes ≡ given.boxes → IsFixedCard given.boxes card → Finds why mark told (with_all_shelves boxes) → FaultLeaves why mark told told_then → mark_then ≡ mark → leaves.held ≡ standing mark_then told_then
    → IsUnplanned given.meter leaves.meter → ((why ≡ fault.Failed → ⊥) → (why ≡ fault.PowerLost → ⊥) → IsCounted given.meter leaves.meter [] []) → ComesToLoad given is_told start count (ending_for_fault why) leaves
not_loaded given is_told start count card mark mark_then told told_then boxes leaves (fault.NotACard at) stands boxes_are fixed found left same held kept counted =
    refused_fixed given is_told card leaves fixed (λ is. holds_card mark told card at (stands is) (read_told told _ found)) (counted (λ failed. cc) (λ lost. cc))
not_loaded given is_told start count card mark mark_then told told_then boxes leaves (fault.NoBox shelf) stands boxes_are fixed found left same held kept counted =
    refused_fixed given is_told card leaves fixed
    (λ is. has_its_box given.boxes card shelf fixed (subst (λ b. IsFirstWithoutBox card.rows (with_all_shelves b) shelf) boxes_are (lacks_box (with_all_shelves boxes) shelf mark told card (stands is) (read_told told _ found))))
    (counted (λ failed. cc) (λ lost. cc))
not_loaded given is_told start count card mark mark_then told told_then boxes leaves fault.Failed stands boxes_are fixed found left same held kept counted =
    fails_to_open given is_told card mark mark_then told told_then leaves stands fixed left same held kept
not_loaded given is_told start count card mark mark_then told told_then boxes leaves fault.PowerLost stands boxes_are fixed found left same held kept counted =
    fails_to_open given is_told card mark mark_then told told_then leaves stands fixed left same held kept
not_loaded given is_told start count card mark mark_then told told_then boxes leaves fault.Memory stands boxes_are fixed found left same held kept counted = counted (λ failed. cc) (λ lost. cc)

-- a store that was formatted stands for the card
pub stands_now : (mark mark_then : ℕ) (told told_then : Option (List ℕ)) (card : Persistent) → is_some told ≡ true → is_some told_then ≡ is_some told → mark_then ≡ mark → IfSome told_then (λ content. stands_for mark content ≡ Ok card)
    → option_map (stands_for mark_then) told_then ≡ Some (Ok card)
stands_now mark mark_then told None card tells same same_mark stands = absurd (cc)
stands_now mark mark_then told (Some content) card tells same same_mark stands = ap (λ (m : ℕ). Some (stands_for m content)) same_mark ∙ ap Some stands

-- where there was no memory to open it, the store is as it was
pub memory_keeps : (why : OpenFault) (mark : ℕ) (told told_then : Option (List ℕ)) (ending : Ending) → ending ≡ ending_for_fault why → ending ≡ NoMemory → FaultLeaves why mark told told_then → told_then ≡ told
memory_keeps why mark told told_then ending is wants leaves =
    refusal_keeps why mark told told_then leaves (subst (λ e. KeepsBytes e (standing mark told)) (sym (sym is ∙ wants)) tt)

pub never_wanting : (lines : ℕ) (outcome : Result Counts Failure) (ending : Ending) → ending ≡ ending_for_load lines outcome → ending ≡ NoMemory → ⊥
never_wanting lines (Ok counts) ending is wants = let apart : Counted lines counts ≡ NoMemory = sym is ∙ wants in cc
never_wanting lines (Err failed) ending is wants = let apart : MemoryFailed task.Counting ≡ NoMemory = sym is ∙ wants in cc

-- what an opening in which the memory didn't fail leaves of the counts, from where a run began
pub counted_on : (given : Given) (old new : Meter) (why : OpenFault) → CountsJoin → IsCounted given.meter old [] [] → Caused old new (why ≡ fault.Failed) (why ≡ fault.PowerLost) → (why ≡ fault.Failed → ⊥) → (why ≡ fault.PowerLost → ⊥) → IsCounted given.meter new [] []
counted_on given old new why join counted caused not_failed not_lost = join given.meter old new [] [] [] [] counted (caused_counted old new caused not_failed not_lost)

-- ---- the run is carried out to its end

-- where all rows describe a card, none is refused
never_refused : (boxes : List (Option AppletState)) (old new card : Persistent) (number : ℕ) → with_lines boxes (Some old) fixed_rows ≡ Ok (Some card) → IsFirstRefused boxes old new number → ⊥
never_refused boxes old new card number all is =
    let rest : List ScriptLine = drop (is.place + 1) fixed_rows in
    let left : List ScriptLine = drop is.place fixed_rows in
    let here : left ≡ is.row ∷ rest =
    drop_more fixed_rows is.place is.row (slice_get_within fixed_rows is.place is.row is.row_is) ∙ ap (λ (r : ScriptLine). r ∷ rest) (get_or_from_slice_get fixed_rows is.place is.row is.row is.row_is) in
    let parted : with_lines boxes (Some old) (take is.place fixed_rows ++ left) ≡ Ok (Some card) = ap (with_lines boxes (Some old)) (take-append-drop is.place fixed_rows) ∙ all in
    let goes_on : with_lines boxes (Some new) left ≡ Ok (Some card) =
    ap (then_on (λ c. with_lines boxes c left)) (sym is.before) ∙ sym (with_lines-append boxes (take is.place fixed_rows) left (Some old)) ∙ parted in
    let split = splits boxes (Some new) (Some card) is.row rest (subst (λ (lines : List ScriptLine). with_lines boxes (Some new) lines ≡ Ok (Some card)) here goes_on) in
    let apart : Err is.fault ≡ Ok split.next = sym (ap (λ (came : Result Persistent SectionFault). then_on (λ state. Ok (Some state)) came) is.refused) ∙ split.one in
    cc

pub load_completes : (given : Given) (told : Bool) (start count : ℕ) (card : Persistent) (ending : Ending) (leaves : Leaves) (status : ℕ) → IsFixedCard given.boxes card → ComesToLoad given told start count ending leaves
    → (status ≡ status_for ending) ⊎ (status ≡ 4) → (status ≡ 4 → ⊥) → (status ≡ 6 → ⊥) → (status ≡ 0) ⊎ ((status ≡ 5) ⊎ ((status ≡ 7) × (told ≡ false)))
load_completes given told start count card ending leaves status fixed comes (inr four) no_4 no_6 = absurd (no_4 four)
load_completes given told start count card NoMemory leaves status fixed comes (inl is) no_4 no_6 = inr (inl is)
load_completes given told start count card (Counted lines counts) leaves status fixed comes (inl is) no_4 no_6 = inl is
load_completes given told start count card (MemoryFailed when) leaves status fixed comes (inl is) no_4 no_6 = absurd (no_6 is)
load_completes given told start count card (Section (script.BadLine number)) leaves status fixed comes (inl is) no_4 no_6 = absurd (never_refused given.boxes bare_card comes.0 card number fixed comes.1)
load_completes given told start count card (NoCard why) leaves status fixed comes (inl is) no_4 no_6 = inr (inr (is, comes.untold))
load_completes given told start count card other leaves status fixed comes (inl is) no_4 no_6 = absurd comes
