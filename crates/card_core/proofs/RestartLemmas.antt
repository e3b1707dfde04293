-- What a card is when it is started again.
use Rattle.std.proofs.Common.{◌≡◌, ℕ, Bool, true, false, List, length, Option, Some, None, option_map, refl, sym, ◌∙◌, ap, subst, IfSome, IsSomeAnd, is_none, ◌&&◌, ◌==◌, All, slice_index_or, if◌then◌else◌, Result, Ok, Err}
use Rattle.std.proofs.lemmas.Bool.{false≢true, true≢false}
use Rattle.std.proofs.lemmas.List.Elements.{Contains-get_or}
use Rattle.uicc_types.specs.Counts.{Meter, raised, names_fault, armed}
use Rattle.uicc_types.specs.declared.plans.Plan.{Plan}
use Rattle.uicc_types.specs.declared.identifiers.Shelf.{Shelf}
use Rattle.store_form.specs.declared.store.StoreFault.{StoreFault}
use Rattle.store_form.specs.declared.store.StoreFault.TheVariants as store
use Rattle.card_state.specs.declared.entries.Loaded.{Loaded}
use Rattle.card_state.specs.Persistent.{Registration, Persistent}
use Rattle.card_state.specs.Memory.{IsMounted}
use Rattle.card_state.specs.Standing.{standing, Agrees}
use Rattle.card_state.specs.States.{rows_of}
use Rattle.access_rules.specs.declared.rules.Verified.{Verified}
use Rattle.file_model.specs.declared.selections.Selection.{Selection}
use Rattle.file_model.specs.Channels.{basic_channel_alone}
use Rattle.layout_mount.specs.Mounted.{HasRead}
use Rattle.card_commits.specs.Laws.{TablesTellStates}
use Rattle.applet_trait.specs.Minds.{AppletState}
use Rattle.toolkit_model.specs.Sessions.{SessionState, fresh_session}
use Rattle.toolkit_model.specs.Registry.{row_on}
use Rattle.toolkit_model.specs.Commands.{woken_mind, woken_boxes}
use Rattle.toolkit_model.specs.OrderlySessions.{IsInOrder}
use Rattle.toolkit_model.specs.Orderly.{IsOrderly}
use Rattle.toolkit_model.specs.Running.{mind_on}
use Rattle.event_dispatch.specs.Indexes.{StandsFor}
use Rattle.card_model.specs.States.{CardState, HasBox, IsGood, woken, restarted, nothing_verified}
use Rattle.card_model.specs.Laws.{RestartsAreGood}
use Rattle.card_model.proofs.WokenLemmas.{length-woken_boxes, has_box_woken, woken_again, woken_at, fresh_is_orderly}
use Rattle.card_laws.proofs.GoesOnLemmas.{box_there}
use Rattle.card_core.specs.Starts.{HoldsCard, IsReadAgain}
use Rattle.card_core.specs.AnyStore.{BeginsAnew}
use Rattle.file_model.specs.Files.{descriptors_of}
use Rattle.file_model.specs.LawfulTrees.{AreSelected}
use Rattle.card_core.proofs.AreSelectedLemmas.{basic_selected}
use Rattle.card_core.specs.Parts.{CardParts}
use Rattle.card_core.specs.Cards.{memory_of, held_by, boxes_kept, card_with, card_of, card_due, RunsToolkit, IsSet, IsRunning, IsCardReady}
use Rattle.card_core.specs.Laws.{TablesHaveRows, TheMfIsThere}
use Rattle.card_core.proofs.BoxesKeptLemmas.{at, box_kept, kept_at, kept_there, length-kept}
use Rattle.card_core.proofs.RowOnLemmas.{at_it}

-- ---- what was read

-- it was read of a store that tells the same
pub read_from : (told told' : Option (List ℕ)) (mark mark' : ℕ) {boxes : List (Option AppletState)} {old new : Loaded} → told' ≡ told → mark' ≡ mark
    → HasRead told' (IsReadAgain mark' boxes old new) → HasRead told (IsReadAgain mark boxes old new)
read_from told told' mark mark' {boxes} {old} {new} tells marks read =
    subst (λ (now : Option (List ℕ)). HasRead now (IsReadAgain mark boxes old new)) tells
    (subst (λ (now : ℕ). HasRead told' (IsReadAgain now boxes old new)) marks read)

-- ---- the card while a restart is due

abbrev due_made : Option Shelf → List (Option AppletState) → Option Persistent → Option CardState
due_made leaving boxes held = option_map (λ persistent. woken persistent (boxes_kept leaving persistent.rows boxes)) held

due_moved' : (old new : CardParts) → new.store_mark ≡ old.store_mark → new.told ≡ old.told → new.boxes ≡ old.boxes → new.leaving ≡ old.leaving → option_map (card_with true new) (held_by new) ≡ option_map (card_with true old) (held_by old)
due_moved' old new mark told boxes leaving =
    ap (λ (now : List (Option AppletState)). due_made new.leaving now (held_by new)) boxes
    ∙ ap (λ (now : Option Shelf). due_made now old.boxes (held_by new)) leaving
    ∙ ap (λ (now : ℕ). due_made old.leaving old.boxes (standing now new.told)) mark
    ∙ ap (λ (now : Option (List ℕ)). due_made old.leaving old.boxes (standing old.store_mark now)) told

-- a card of which a restart is due, over what was held before
pub due_same : (old new : CardParts) → new.is_due ≡ true → new.store_mark ≡ old.store_mark → new.told ≡ old.told → new.boxes ≡ old.boxes → new.leaving ≡ old.leaving → card_of new ≡ card_due old
unfolding card_of card_due
due_same old new due mark told boxes leaving = ap (λ (now : Bool). option_map (card_with now new) (held_by new)) due ∙ due_moved' old new mark told boxes leaving

pub due_is : (parts : CardParts) → parts.is_due ≡ true → card_of parts ≡ card_due parts
unfolding card_of card_due
due_is parts due = ap (λ (now : Bool). option_map (card_with now parts) (held_by parts)) due

restarted_when : (due : Bool) (parts : CardParts) (persistent : Persistent) → (due ≡ false → parts.leaving ≡ None) → restarted (card_with due parts persistent) ≡ card_with true parts persistent
unfolding woken
restarted_when false parts persistent stays = ap (λ (leaving : Option Shelf). woken persistent (boxes_kept leaving persistent.rows parts.boxes)) (sym (stays refl))
restarted_when true parts persistent stays =
    let kept : List (Option AppletState) = boxes_kept parts.leaving persistent.rows parts.boxes in
    ap (λ (boxes : List (Option AppletState)). record (woken persistent kept) { boxes = boxes }) (woken_again persistent.rows kept)

mapped_twice : {X Y Z : Type 0} (f : X → Y) (g : Y → Z) (h : X → Z) (o : Option X) → ((x : X) → g (f x) ≡ h x) → option_map g (option_map f o) ≡ option_map h o
mapped_twice f g h None same = refl
mapped_twice f g h (Some x) same = ap Some (same x)

-- what a reset makes of a card is what it is while a restart is due
pub due_restarted : (parts : CardParts) → (parts.is_due ≡ false → parts.leaving ≡ None) → card_due parts ≡ option_map restarted (card_of parts)
unfolding card_of card_due
due_restarted parts stays = sym (mapped_twice (card_with parts.is_due parts) restarted (card_with true parts) (held_by parts) (λ persistent. restarted_when parts.is_due parts persistent stays))

-- ---- the card once it is started

started_made : Persistent → List (Option Selection) → Verified → SessionState → List (Option AppletState) → CardState
started_made persistent channels verified session boxes = record { persistent = persistent; channels = channels; verified = verified; session = session; boxes = boxes }

started_with : (persistent : Persistent) (new : CardParts) (boxes : List (Option AppletState)) → new.channels ≡ basic_channel_alone → new.verified ≡ nothing_verified → new.session ≡ fresh_session → new.boxes ≡ woken_boxes persistent.rows boxes
    → card_with false new persistent ≡ woken persistent boxes
unfolding woken started_made
started_with persistent new boxes channels verified session woke =
    ap (λ (now : List (Option Selection)). started_made persistent now new.verified new.session new.boxes) channels
    ∙ ap (λ (now : Verified). started_made persistent basic_channel_alone now new.session new.boxes) verified
    ∙ ap (λ (now : SessionState). started_made persistent basic_channel_alone nothing_verified now new.boxes) session
    ∙ ap (started_made persistent basic_channel_alone nothing_verified fresh_session) woke

mapped_alike : {X Y : Type 0} (f g : X → Y) (o : Option X) → ((x : X) → o ≡ Some x → f x ≡ g x) → option_map f o ≡ option_map g o
mapped_alike f g None same = refl
mapped_alike f g (Some x) same = ap Some (same x refl)

-- a card that runs over a table is the woken one
pub started_is : TablesTellStates → (new : CardParts) (boxes : List (Option AppletState)) → Agrees new.store_mark new.told new.table → new.is_due ≡ false
    → new.channels ≡ basic_channel_alone → new.verified ≡ nothing_verified → new.session ≡ fresh_session → new.boxes ≡ woken_boxes (rows_of new.table) boxes
    → card_of new ≡ option_map (λ persistent. woken persistent boxes) (held_by new)
unfolding card_of
started_is tell new boxes agrees rests channels verified session woke =
    ap (λ (now : Bool). option_map (card_with now new) (held_by new)) rests
    ∙ mapped_alike (card_with false new) (λ persistent. woken persistent boxes) (held_by new)
    (λ persistent held.
    let rows : persistent.rows ≡ rows_of new.table = (tell new.store_mark new.told new.table persistent agrees held).rows in
    started_with persistent new boxes channels verified session (woke ∙ ap (λ (now : List Registration). woken_boxes now boxes) (sym rows)))

pub restart_is : TablesTellStates → (old new : CardParts) → Agrees new.store_mark new.told new.table → new.is_due ≡ false → new.store_mark ≡ old.store_mark → new.told ≡ old.told
    → new.channels ≡ basic_channel_alone → new.verified ≡ nothing_verified → new.session ≡ fresh_session → new.boxes ≡ woken_boxes (rows_of new.table) (boxes_kept old.leaving (rows_of new.table) old.boxes) → card_of new ≡ card_due old
unfolding card_due
restart_is tell old new agrees rests mark told channels verified session woke =
    started_is tell new (boxes_kept old.leaving (rows_of new.table) old.boxes) agrees rests channels verified session woke
    ∙ mapped_alike (λ persistent. woken persistent (boxes_kept old.leaving (rows_of new.table) old.boxes)) (λ persistent. woken persistent (boxes_kept old.leaving persistent.rows old.boxes)) (held_by new)
    (λ persistent held.
    let rows : persistent.rows ≡ rows_of new.table = (tell new.store_mark new.told new.table persistent agrees held).rows in
    ap (λ (now : List Registration). woken persistent (boxes_kept old.leaving now old.boxes)) (sym rows))
    ∙ ap (λ (now : ℕ). due_made old.leaving old.boxes (standing now new.told)) mark
    ∙ ap (λ (now : Option (List ℕ)). due_made old.leaving old.boxes (standing old.store_mark now)) told

-- ---- boxes

pub all_have_woken : (rows : List Registration) (all : List Registration) (boxes : List (Option AppletState)) → All (HasBox boxes) all → All (HasBox (woken_boxes rows boxes)) all
all_have_woken rows all boxes have = λ k d low. has_box_woken rows boxes (slice_index_or all k d) (have k d low)

-- a box that has an applet of a kind once it woke had it before
kind_before : (row : Option Registration) (box : Option AppletState) (kind : ℕ) → IsSomeAnd (option_map (woken_mind row) box) (λ mind. mind.kind ≡ kind) → IsSomeAnd box (λ mind. mind.kind ≡ kind)
kind_before row None kind has = has
kind_before None (Some mind) kind has = has
kind_before (Some row) (Some mind) kind has = has

pub had_box : (rows : List Registration) (boxes : List (Option AppletState)) (row : Registration) → HasBox (woken_boxes rows boxes) row → HasBox boxes row
had_box rows boxes row has =
    kind_before (row_on rows row.shelf) (slice_index_or boxes row.shelf None) row.kind (subst (λ (box : Option AppletState). IsSomeAnd box (λ mind. mind.kind ≡ row.kind)) (woken_at rows boxes row.shelf) has)

-- a box that is kept was there
kept_had : (leaving : Option Shelf) (rows : List Registration) (boxes : List (Option AppletState)) (row : Registration) → HasBox (boxes_kept leaving rows boxes) row → HasBox boxes row
kept_had leaving rows boxes row has = by_box leaving (subst (λ (box : Option AppletState). IsSomeAnd box (λ mind. mind.kind ≡ row.kind)) (kept_at leaving rows boxes row.shelf) has) where
  by_test : (b : Bool) (box : Option AppletState) → IsSomeAnd (if b then None else box) (λ mind. mind.kind ≡ row.kind) → IsSomeAnd box (λ mind. mind.kind ≡ row.kind)
  by_test true box is = absurd is
  by_test false box is = is

  by_box : (gone : Option Shelf) → IsSomeAnd (box_kept gone rows row.shelf (at boxes row.shelf)) (λ mind. mind.kind ≡ row.kind) → HasBox boxes row
  by_box None is = is
  by_box (Some gone) is = by_test (is_none (row_on rows gone.0) && (gone.0 == row.shelf)) (at boxes row.shelf) is

-- one of a registered applet is kept
pub still_has : (leaving : Option Shelf) (rows : List Registration) (boxes : List (Option AppletState)) → All (HasBox boxes) rows → All (HasBox (boxes_kept leaving rows boxes)) rows
still_has leaving rows boxes have = λ k d low.
    let row : Registration = slice_index_or rows k d in
    subst (λ (box : Option AppletState). IsSomeAnd box (λ mind. mind.kind ≡ row.kind))
    (sym (kept_at leaving rows boxes row.shelf ∙ kept_there leaving rows row.shelf (at boxes row.shelf) (at_it rows row.shelf row (Contains-get_or rows k d low) refl))) (have k d low)

good_boxes : (due : Bool) (parts : CardParts) (persistent : Persistent) → IsGood (card_with due parts persistent) → All (HasBox parts.boxes) persistent.rows
unfolding woken
good_boxes false parts persistent good = good.boxes
good_boxes true parts persistent good = λ k d low.
    kept_had parts.leaving persistent.rows parts.boxes (slice_index_or persistent.rows k d)
    (had_box persistent.rows (boxes_kept parts.leaving persistent.rows parts.boxes) (slice_index_or persistent.rows k d) (good.boxes k d low))

if_held : {X Y : Type 0} (f : X → Y) (P : Y → Type 0) (Q : X → Type 0) (o : Option X) → ((x : X) → P (f x) → Q x) → IfSome (option_map f o) P → IfSome o Q
if_held f P Q None each holds = tt
if_held f P Q (Some x) each holds = each x holds

-- the boxes of a good card are those of what is held
pub boxes_there : (parts : CardParts) → IfSome (card_of parts) IsGood → IfSome (held_by parts) (λ held. All (HasBox parts.boxes) held.rows)
unfolding card_of
boxes_there parts good = if_held (card_with parts.is_due parts) IsGood (λ held. All (HasBox parts.boxes) held.rows) (held_by parts) (λ persistent. good_boxes parts.is_due parts persistent) good

same_when : (due : Bool) (parts : CardParts) (on : Bool) (held : Option Persistent) → option_map (card_with due (record parts { is_on = on })) held ≡ option_map (card_with due parts) held
same_when true parts on held = refl
same_when false parts on held = refl

-- whether there is power does not bear on the card
pub on_same : (parts : CardParts) (on : Bool) → card_of (record parts { is_on = on }) ≡ card_of parts
unfolding card_of
on_same parts on = same_when parts.is_due parts on (held_by parts)

pub due_moved : (old new : CardParts) → new.store_mark ≡ old.store_mark → new.told ≡ old.told → new.boxes ≡ old.boxes → new.leaving ≡ old.leaving → card_due new ≡ card_due old
unfolding card_due
due_moved old new mark told boxes leaving = due_moved' old new mark told boxes leaving

each_restarted : RestartsAreGood → (before : Option CardState) → IfSome before IsGood → IfSome (option_map restarted before) IsGood
each_restarted law None good = tt
each_restarted law (Some card) good = law card good

pub good_restarted : RestartsAreGood → (before after : Option CardState) → after ≡ option_map restarted before → IfSome before IsGood → IfSome after IsGood
good_restarted law before after is good = subst (λ found. IfSome found IsGood) (sym is) (each_restarted law before good)

-- ---- the toolkit

-- where the rows stay
pub toolkit_kept : (old new : Loaded) (index : List (List ℕ)) (session : SessionState) (boxes : List (Option AppletState)) → rows_of new ≡ rows_of old → RunsToolkit old index session boxes → RunsToolkit new index session boxes
toolkit_kept old new index session boxes rows has = record {
  indexed = subst (StandsFor index) (sym rows) has.indexed;
  order = subst (λ (list : List Registration). IsInOrder (record { rows = list; session = session; minds = boxes })) (sym rows) has.order;
}

-- once it has begun anew
pub toolkit_begun : TablesHaveRows → (new : CardParts) (boxes : List (Option AppletState)) → Agrees new.store_mark new.told new.table → StandsFor new.index (rows_of new.table) → new.session ≡ fresh_session
    → new.boxes ≡ woken_boxes (rows_of new.table) boxes → All (HasBox boxes) (rows_of new.table) → RunsToolkit new.table new.index new.session new.boxes
toolkit_begun law new boxes agrees indexed session woke have =
    let rows : List Registration = rows_of new.table in
    let there : All (HasBox new.boxes) rows = subst (λ (now : List (Option AppletState)). All (HasBox now) rows) (sym woke) (all_have_woken rows rows boxes have) in
    record {
      indexed = indexed;
      order = record {
        rows = (law new.store_mark new.told new.table agrees).0;
        session = subst (IsOrderly rows) (sym session) (fresh_is_orderly rows);
        minds = λ k d low. box_there (mind_on new.boxes (slice_index_or rows k d).shelf) (slice_index_or rows k d).kind (there k d low);
      };
    }

pub ready_with : (parts : CardParts) (on : Bool) → IsSet parts → (on ≡ true → parts.meter.powered ≡ true) → (parts.is_due ≡ false → IsRunning parts) → IfSome (card_of parts) IsGood → IsCardReady (record parts { is_on = on })
ready_with parts on set power running good = record {
  set = record { size = set.size; shelves = set.shelves; card = set.card; kept = set.kept; boxes = set.boxes };
  power = power;
  running = λ rests. record { mounted = (running rests).mounted; selected = (running rests).selected; toolkit = (running rests).toolkit; stays = (running rests).stays };
  good = subst (λ found. IfSome found IsGood) (sym (on_same parts on)) good;
}

pub held_moved : (mark now : ℕ) (told told' : Option (List ℕ)) (P : Persistent → Type 0) → now ≡ mark → told' ≡ told → IfSome (standing mark told) P → IfSome (standing now told') P
held_moved mark now told told' P same bytes holds =
    subst (λ (store_mark : ℕ). IfSome (standing store_mark told') P) (sym same) (subst (λ (tells : Option (List ℕ)). IfSome (standing mark tells) P) (sym bytes) holds)

holds_moved : (mark now : ℕ) (told told' : Option (List ℕ)) → now ≡ mark → told' ≡ told → HoldsCard mark told → HoldsCard now told'
holds_moved mark now told told' same bytes holds =
    subst (λ (store_mark : ℕ). HoldsCard store_mark told') (sym same) (subst (λ (tells : Option (List ℕ)). HoldsCard mark tells) (sym bytes) holds)

pub set_restarted : (old new : CardParts) → IsSet old → new.byte_count ≡ old.byte_count → new.store_mark ≡ old.store_mark → new.told ≡ old.told → Agrees new.store_mark new.told new.table
    → (kept : List (Option AppletState)) → length kept ≡ 32 → new.boxes ≡ woken_boxes (rows_of new.table) kept → All (HasBox kept) (rows_of new.table) → IsSet new
set_restarted old new set size mark told agrees kept long woke have = record {
  size = size ∙ set.size;
  shelves = ap length woke ∙ length-woken_boxes (rows_of new.table) kept ∙ long;
  card = holds_moved old.store_mark new.store_mark old.told new.told mark told set.card;
  kept = λ silent. subst (λ (tells : Option (List ℕ)). Agrees new.store_mark tells new.table) silent agrees;
  boxes = λ silent. subst (λ (now : List (Option AppletState)). All (HasBox now) (rows_of new.table)) (sym woke) (all_have_woken (rows_of new.table) (rows_of new.table) kept have);
}

-- ---- a card that was started again

-- It is the card that was due, and can take a command.
pub record IsRestarted (old new : CardParts) : Type 0 where
  pub card : card_of new ≡ card_due old
  pub set : IsSet new
  pub running : IsRunning new

pub restarted_so : TablesTellStates → TheMfIsThere → TablesHaveRows → (old new : CardParts) → IsSet old → new.byte_count ≡ old.byte_count → new.store_mark ≡ old.store_mark → new.told ≡ old.told → IsMounted (memory_of new) → BeginsAnew old new
    → StandsFor new.index (rows_of new.table) → All (HasBox old.boxes) (rows_of new.table) → IsRestarted old new
restarted_so tell mf law old new set size mark told mounted begins indexed have =
    let kept : List (Option AppletState) = boxes_kept old.leaving (rows_of new.table) old.boxes in
    let there : All (HasBox kept) (rows_of new.table) = still_has old.leaving (rows_of new.table) old.boxes have in
    record {
      card = restart_is tell old new mounted.agrees begins.rests mark told begins.channels begins.verified begins.session begins.boxes;
      set = set_restarted old new set size mark told mounted.agrees kept (length-kept old.leaving (rows_of new.table) old.boxes ∙ set.shelves) begins.boxes there;
      running = record {
        mounted = mounted;
        selected =
            subst (λ (channels : List (Option Selection)). AreSelected (descriptors_of new.table) channels) (sym begins.channels) (basic_selected (descriptors_of new.table) (mf new.store_mark new.told new.table mounted.agrees));
        toolkit = toolkit_begun law new kept mounted.agrees indexed begins.session begins.boxes there;
        stays = begins.leaving;
      };
    }

-- ---- after a fault

pub failed_ready : (mid : CardParts) (on : Bool) → IsSet mid → (on ≡ true → mid.meter.powered ≡ true) → IfSome (card_due mid) IsGood → IsCardReady (record mid { is_due = true; is_on = on })
failed_ready mid on set power good = record {
  set = record { size = set.size; shelves = set.shelves; card = set.card; kept = set.kept; boxes = set.boxes };
  power = power;
  running = λ rests. absurd (true≢false rests);
  good = subst (λ found. IfSome found IsGood) (sym (due_same mid (record mid { is_due = true; is_on = on }) refl refl refl refl refl)) good;
}

abbrev is_loss : StoreFault → Bool
is_loss store.Failed = false
is_loss store.PowerLost = true

abbrev tells_loss : {X : Type 0} → Result X StoreFault → Bool
tells_loss (Ok done) = false
tells_loss (Err fault) = is_loss fault

-- a failure is no loss of power, and neither is an Ok
pub not_lost : {X : Type 0} (fault : StoreFault) (result : Result X StoreFault) → result ≡ Err fault → fault ≡ store.Failed → result ≡ Err store.PowerLost → ⊥
not_lost fault result is failed lost = false≢true (sym (ap is_loss failed) ∙ ap tells_loss (sym is ∙ lost))

pub ok_not_lost : {X : Type 0} (done : X) → Ok done ≡ Err store.PowerLost → ⊥
ok_not_lost done lost = false≢true (ap tells_loss lost)

pub fail_power : (fault : StoreFault) (on powered : Bool) → (fault ≡ store.PowerLost → on ≡ false) → (fault ≡ store.Failed → powered ≡ true) → on ≡ true → powered ≡ true
fail_power store.Failed on powered lost failed is = failed refl
fail_power store.PowerLost on powered lost failed is = absurd (true≢false (sym is ∙ lost refl))

-- ---- a plan that is set

metered_when : (due : Bool) (parts : CardParts) (meter : Meter) (held : Option Persistent) → option_map (card_with due (record parts { meter = meter })) held ≡ option_map (card_with due parts) held
metered_when true parts meter held = refl
metered_when false parts meter held = refl

-- the counts of the device do not bear on the card
pub metered_same : (parts : CardParts) (meter : Meter) → card_of (record parts { meter = meter }) ≡ card_of parts
unfolding card_of
metered_same parts meter = metered_when parts.is_due parts meter (held_by parts)

powered_when : (names : Bool) (old : Meter) (plan : Plan) → (if names then record old { plans = raised old.plans; latest = plan; plan = plan; settings = raised old.settings; is_idle = true; programs = 0 } else record old { plan = plan; settings = raised old.settings; is_idle = true; programs = 0 }).powered ≡ old.powered
powered_when true old plan = refl
powered_when false old plan = refl

metered_mounted : (parts : CardParts) (meter : Meter) → IsMounted (memory_of parts) → IsMounted (memory_of (record parts { meter = meter }))
metered_mounted parts meter mounted = record { ready = mounted.ready; size_is = mounted.size_is; agrees = mounted.agrees }

pub armed_ready : (parts : CardParts) (meter : Meter) (plan : Plan) → meter ≡ armed parts.meter plan → IsCardReady parts → IsCardReady (record parts { meter = meter })
armed_ready parts meter plan is ready = record {
  set = record { size = ready.set.size; shelves = ready.set.shelves; card = ready.set.card; kept = ready.set.kept; boxes = ready.set.boxes };
  power = λ on. ap (λ (now : Meter). now.powered) is ∙ powered_when (names_fault plan) parts.meter plan ∙ ready.power on;
  running = λ rests. record { mounted = metered_mounted parts meter (ready.running rests).mounted; selected = (ready.running rests).selected; toolkit = (ready.running rests).toolkit; stays = (ready.running rests).stays };
  good = subst (λ found. IfSome found IsGood) (sym (metered_same parts meter)) ready.good;
}

-- a store that has other counts of its device alone
pub metered : (parts : CardParts) (recovered : Bool) (size mark : ℕ) (told : Option (List ℕ)) (meter : Meter) (commits reads recoveries : ℕ) → recovered ≡ parts.recovered → size ≡ parts.byte_count → mark ≡ parts.store_mark → told ≡ parts.told
    → commits ≡ parts.commits → reads ≡ parts.reads → recoveries ≡ parts.recoveries
    → record parts { recovered = recovered; byte_count = size; store_mark = mark; told = told; meter = meter; commits = commits; reads = reads; recoveries = recoveries } ≡ record parts { meter = meter }
metered parts recovered size mark told meter commits reads recoveries ready sized marked bytes committed read recovered_so =
    λ i. record parts { recovered = ready i; byte_count = sized i; store_mark = marked i; told = bytes i; meter = meter; commits = committed i; reads = read i; recoveries = recovered_so i }
