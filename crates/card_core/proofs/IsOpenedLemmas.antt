-- The card that is opened.
use Rattle.std.proofs.Common.{◌≡◌, ◌≤◌, ◌-◌, ℕ, zero, suc, true, false, List, ◌∷◌, ◌++◌, length, map, replicate, Option, Some, None, option_map, refl, sym, ◌∙◌, ap, subst, arith, IfSome, All, is_some}
use Rattle.std.proofs.lemmas.List.{map-append, length-map, length-append, length-replicate}
use Rattle.list_laws.proofs.IfSomeLemmas.{is_some-map, if_some_at}
use Rattle.card_state.specs.Migration.{migrated}
use Rattle.card_state.specs.Persistent.{Registration, Persistent}
use Rattle.card_state.specs.Memory.{IsMounted}
use Rattle.card_state.specs.Standing.{standing, Agrees}
use Rattle.card_state.specs.States.{rows_of}
use Rattle.file_model.specs.Files.{descriptors_of}
use Rattle.file_model.specs.Laws.{IsSoundCard}
use Rattle.file_model.specs.Channels.{basic_channel_alone}
use Rattle.file_model.specs.LawfulTrees.{AreSelected}
use Rattle.card_commits.specs.Laws.{TablesTellStates}
use Rattle.applet_trait.specs.Minds.{AppletState, minds_of}
use Rattle.toolkit_model.specs.Commands.{woken_boxes}
use Rattle.toolkit_model.specs.Sessions.{fresh_session}
use Rattle.event_dispatch.specs.Indexes.{StandsFor}
use Rattle.card_model.specs.States.{HasBox, AreOfKnownKinds, IsGood, woken, nothing_verified}
use Rattle.card_model.proofs.WokenLemmas.{length-woken_boxes, woken_is_good}
use Rattle.card_core.specs.Starts.{HoldsCard}
use Rattle.card_core.specs.Parts.{CardParts}
use Rattle.card_core.specs.Cards.{memory_of, held_by, card_of, IsCardReady}
use Rattle.card_core.specs.Laws.{TheMfIsThere, TablesHaveRows}
use Rattle.card_core.specs.Openings.{with_all_shelves, opened}
use Rattle.card_core.proofs.RestartLemmas.{started_is, all_have_woken, toolkit_begun}
use Rattle.card_core.proofs.AreSelectedLemmas.{basic_selected}
use Rattle.card_core.proofs.CardOfLemmas.{if_mapped}

-- ---- shelves

map_empty : {B : Type 0} (mind : B → AppletState) (count : ℕ) → map (option_map mind) (replicate count None) ≡ replicate count None
map_empty mind zero = refl
map_empty mind (suc count) = ap (λ (rest : List (Option AppletState)). None ∷ rest) (map_empty mind count)

pub minds_filled : {B : Type 0} (mind : B → AppletState) (boxes : List (Option B)) → minds_of mind (boxes ++ replicate (32 - length boxes) None) ≡ with_all_shelves (minds_of mind boxes)
minds_filled mind boxes =
    map-append (option_map mind) boxes (replicate (32 - length boxes) None)
    ∙ ap (λ (rest : List (Option AppletState)). minds_of mind boxes ++ rest) (map_empty mind (32 - length boxes) ∙ ap (λ (count : ℕ). replicate (32 - count) None) (sym (length-map boxes (option_map mind))))

pub all_shelves : {X : Type 0} (boxes : List X) (empty : X) → length boxes ≤ 32 → length (boxes ++ replicate (32 - length boxes) empty) ≡ 32
all_shelves boxes empty few = omega (arith, few, length-append boxes (replicate (32 - length boxes) empty), length-replicate (32 - length boxes) empty)

-- ---- the card

twice : {X Y Z : Type 0} (f : X → Y) (g : Y → Z) (o : Option X) → option_map g (option_map f o) ≡ option_map (λ x. g (f x)) o
twice f g None = refl
twice f g (Some x) = refl

pub opened_is : TablesTellStates → (new : CardParts) (before : Option Persistent) (boxes : List (Option AppletState)) → Agrees new.store_mark new.told new.table → new.is_due ≡ false → new.channels ≡ basic_channel_alone
    → new.verified ≡ nothing_verified → new.session ≡ fresh_session → new.boxes ≡ woken_boxes (rows_of new.table) (with_all_shelves boxes) → held_by new ≡ option_map migrated before → card_of new ≡ opened before boxes
opened_is tell new before boxes agrees rests channels verified session woke held =
    started_is tell new (with_all_shelves boxes) agrees rests channels verified session woke
    ∙ ap (option_map (λ persistent. woken persistent (with_all_shelves boxes))) held
    ∙ twice migrated (λ persistent. woken persistent (with_all_shelves boxes)) before

pub holds_migrated : (mark now : ℕ) (told told' : Option (List ℕ)) → HoldsCard mark told → is_some told' ≡ is_some told → standing now told' ≡ option_map migrated (standing mark told) → HoldsCard now told'
holds_migrated mark now told told' holds same is = ap is_some is ∙ is_some-map migrated (standing mark told) ∙ holds ∙ sym same

pub opened_ready : TablesTellStates → TheMfIsThere → TablesHaveRows → (new : CardParts) (boxes : List (Option AppletState)) → IsMounted (memory_of new) → new.is_due ≡ false
    → new.channels ≡ basic_channel_alone → new.verified ≡ nothing_verified → new.session ≡ fresh_session → new.leaving ≡ None → StandsFor new.index (rows_of new.table) → new.boxes ≡ woken_boxes (rows_of new.table) boxes → length boxes ≡ 32 → All (HasBox boxes) (rows_of new.table) → AreOfKnownKinds boxes
    → HoldsCard new.store_mark new.told → IfSome (held_by new) IsSoundCard → new.meter.powered ≡ true → IsCardReady new
opened_ready tell mf law new boxes mounted rests channels verified session stays indexed woke long have kinds holds sound powered = record {
  set = record {
    size = mounted.size_is;
    shelves = ap length woke ∙ length-woken_boxes (rows_of new.table) boxes ∙ long;
    card = holds;
    kept = λ silent. subst (λ (tells : Option (List ℕ)). Agrees new.store_mark tells new.table) silent mounted.agrees;
    boxes = λ silent. subst (λ (now : List (Option AppletState)). All (HasBox now) (rows_of new.table)) (sym woke) (all_have_woken (rows_of new.table) (rows_of new.table) boxes have);
  };
  power = λ on. powered;
  running = λ due. record {
    mounted = mounted;
    selected = subst (λ now. AreSelected (descriptors_of new.table) now) (sym channels) (basic_selected (descriptors_of new.table) (mf new.store_mark new.told new.table mounted.agrees));
    toolkit = toolkit_begun law new boxes mounted.agrees indexed session woke have;
    stays = stays;
  };
  good = subst (λ found. IfSome found IsGood) (sym (started_is tell new boxes mounted.agrees rests channels verified session woke))
      (if_mapped (λ persistent. woken persistent boxes) IsGood (held_by new)
      (λ persistent held.
      let rows : persistent.rows ≡ rows_of new.table = (tell new.store_mark new.told new.table persistent mounted.agrees held).rows in
      woken_is_good persistent boxes (if_some_at (held_by new) IsSoundCard persistent sound held) long (subst (λ (list : List Registration). All (HasBox boxes) list) (sym rows) have) kinds));
}
