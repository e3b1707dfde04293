-- A card that woke over a sound state is a good one.
use Rattle.std.proofs.Common.{◌≡◌, ℕ, ◌<◌, ◌+◌, add-zero, List, [], ◌∷◌, length, map, Option, Some, None, refl, sym, ◌∙◌, ap, subst, arith, zero, suc, All, AllPairs, IsSomeAnd, IfSome, option_map, slice_index_or, ◌≢◌}
use Rattle.std.specs.List.{enumerate_from}
use Rattle.std.proofs.lemmas.List.{length-map, get_or-replicate, get_or_default, same_lists}
use Rattle.std.proofs.lemmas.List.FromFn.{length-enumerate_from}
use Rattle.list_laws.proofs.AllPairsLemmas.{pairs_nil}
use Rattle.uicc_types.specs.declared.identifiers.Shelf.{Shelf}
use Rattle.card_state.specs.Persistent.{Registration, Persistent}
use Rattle.card_state.specs.Soundness.{IsSound}
use Rattle.file_model.specs.Files.{descriptors_in}
use Rattle.file_model.specs.Laws.{IsSoundCard}
use Rattle.file_model.specs.Selections.{IsSelection}
use Rattle.file_model.specs.Channels.{basic_channel_alone}
use Rattle.file_model.proofs.AtStartLemmas.{start_is_selected}
use Rattle.applet_trait.specs.Minds.{AppletState}
use Rattle.toolkit_model.specs.Sessions.{Sent, LateTrigger, fresh_session}
use Rattle.toolkit_model.specs.Orderly.{IsRegistered, CanBeSent, asks, IsSuspended, IsOrderly}
use Rattle.toolkit_model.specs.Registry.{row_on}
use Rattle.toolkit_model.specs.Commands.{woken_mind, woken_box, woken_boxes}
use Rattle.card_model.specs.States.{AreChannels, HasBox, IsOfKnownKind, AreOfKnownKinds, IsGood, woken}

pub basic_channel : (state : Persistent) → IsSound state → AreChannels state basic_channel_alone
basic_channel state sound = record {
  four = refl;
  basic = refl;
  selected = selected;
} where
  selected : All (λ channel. IfSome channel (IsSelection (descriptors_in state))) basic_channel_alone
  selected zero d low = start_is_selected state sound
  selected (suc zero) d low = _
  selected (suc (suc zero)) d low = _
  selected (suc (suc (suc zero))) d low = _
  selected (suc (suc (suc (suc k)))) d low = absurd (omega (arith, low))

-- ---- boxes

pub length-woken_boxes : (rows : List Registration) (boxes : List (Option AppletState)) → length (woken_boxes rows boxes) ≡ length boxes
unfolding woken_boxes
length-woken_boxes rows boxes = length-map (enumerate_from 0 boxes) (woken_box rows) ∙ length-enumerate_from 0 boxes

box_from : (rows : List Registration) (start : ℕ) (boxes : List (Option AppletState)) (k : ℕ)
    → slice_index_or (map (woken_box rows) (enumerate_from start boxes)) k None ≡ option_map (woken_mind (row_on rows (start + k))) (slice_index_or boxes k None)
box_from rows start [] k = refl
box_from rows start (box ∷ boxes) zero = ap (λ (shelf : ℕ). option_map (woken_mind (row_on rows shelf)) box) (sym (add-zero start))
box_from rows start (box ∷ boxes) (suc k) =
    let shift : start + 1 + k ≡ start + suc k = omega arith in
    box_from rows (start + 1) boxes k ∙ ap (λ (shelf : ℕ). option_map (woken_mind (row_on rows shelf)) (slice_index_or boxes k None)) shift

-- each box is woken by the applet that is registered on its shelf
pub woken_at : (rows : List Registration) (boxes : List (Option AppletState)) (shelf : ℕ) → slice_index_or (woken_boxes rows boxes) shelf None ≡ option_map (woken_mind (row_on rows shelf)) (slice_index_or boxes shelf None)
unfolding woken_boxes
woken_at rows boxes shelf =
    let same : 0 + shelf ≡ shelf = omega arith in
    box_from rows 0 boxes shelf ∙ ap (λ (at : ℕ). option_map (woken_mind (row_on rows at)) (slice_index_or boxes shelf None)) same

-- a box that woke has its kind
pub woken_kind : (row : Option Registration) (mind : AppletState) (kind : ℕ) → mind.kind ≡ kind → (woken_mind row mind).kind ≡ kind
woken_kind None mind kind is = is
woken_kind (Some row) mind kind is = is

woke_too : (row : Option Registration) (kind : ℕ) (box : Option AppletState) → IsSomeAnd box (λ mind. mind.kind ≡ kind) → IsSomeAnd (option_map (woken_mind row) box) (λ mind. mind.kind ≡ kind)
woke_too row kind None has = has
woke_too row kind (Some mind) has = woken_kind row mind kind has

-- a registered applet that had its box has it still
pub has_box_woken : (rows : List Registration) (boxes : List (Option AppletState)) (row : Registration) → HasBox boxes row → HasBox (woken_boxes rows boxes) row
has_box_woken rows boxes row has =
    subst (λ box. IsSomeAnd box (λ mind. mind.kind ≡ row.kind)) (sym (woken_at rows boxes row.shelf)) (woke_too (row_on rows row.shelf) row.kind (slice_index_or boxes row.shelf None) has)

-- a box keeps its kind when its applet wakes
known_woken : (row : Option Registration) (box : Option AppletState) → IfSome box IsOfKnownKind → IfSome (option_map (woken_mind row) box) IsOfKnownKind
known_woken None None is = tt
known_woken None (Some mind) is = is
known_woken (Some row) None is = tt
known_woken (Some row) (Some mind) is = is

pub kinds_woken : (rows : List Registration) (boxes : List (Option AppletState)) → AreOfKnownKinds boxes → AreOfKnownKinds (woken_boxes rows boxes)
kinds_woken rows boxes are = λ k d low.
    let inside : k < length boxes = omega (arith, low, length-woken_boxes rows boxes) in
    subst (λ box. IfSome box IsOfKnownKind) (sym (get_or_default (woken_boxes rows boxes) k d None low ∙ woken_at rows boxes k)) (known_woken (row_on rows k) (slice_index_or boxes k None) (are k None inside))

-- a mind that is woken again is as it was woken once
woken_mind_again : (row : Option Registration) (box : Option AppletState) → option_map (woken_mind row) (option_map (woken_mind row) box) ≡ option_map (woken_mind row) box
woken_mind_again None None = refl
woken_mind_again None (Some mind) = refl
woken_mind_again (Some row) None = refl
woken_mind_again (Some row) (Some mind) = refl

-- and so are boxes
pub woken_again : (rows : List Registration) (boxes : List (Option AppletState)) → woken_boxes rows (woken_boxes rows boxes) ≡ woken_boxes rows boxes
woken_again rows boxes =
    same_lists _ _ (length-woken_boxes rows (woken_boxes rows boxes))
    (λ k d low.
    let once : k < length (woken_boxes rows boxes) = omega (arith, low, length-woken_boxes rows (woken_boxes rows boxes)) in
    get_or_default _ k d None low
    ∙ woken_at rows (woken_boxes rows boxes) k ∙ ap (option_map (woken_mind (row_on rows k))) (woken_at rows boxes k)
    ∙ woken_mind_again (row_on rows k) (slice_index_or boxes k None)
    ∙ sym (woken_at rows boxes k) ∙ get_or_default _ k None d once)

-- ---- the session

no_asks : asks fresh_session ≡ []
unfolding asks
no_asks = refl

none_of : {X : Type 0} (P : X → Type 0) → All P []
none_of P k d low = absurd (omega (arith, low))

free : (rows : List Registration) → All (λ owner. IfSome owner (λ (shelf : Shelf). IsRegistered rows shelf.0)) fresh_session.timers
free rows k d low = subst (λ owner. IfSome owner (λ (shelf : Shelf). IsRegistered rows shelf.0)) (sym (get_or-replicate 8 k None d (omega arith))) _

pub fresh_is_orderly : (rows : List Registration) → IsOrderly rows fresh_session
fresh_is_orderly rows = record {
  underway = record {
    apart = subst (λ asked. AllPairs (λ a b. a.shelf ≢ b.shelf) asked) (sym no_asks) (pairs_nil (λ (a b : Sent). a.shelf ≢ b.shelf));
    askers = subst (λ asked. All (λ sent. IsRegistered rows sent.shelf) asked) (sym no_asks) (none_of (λ (sent : Sent). IsRegistered rows sent.shelf));
    sendable = none_of (λ (sent : Sent). CanBeSent sent.command);
    out_sendable = _;
    late_rows = none_of (λ (trigger : LateTrigger). IsRegistered rows trigger.shelf);
    few_late = omega arith;
    timers = free rows;
    eight_timers = refl;
    no_profile = λ none. (refl, refl);
  };
  late = none_of (λ (trigger : LateTrigger). IsSuspended fresh_session trigger.shelf);
  behind = λ none. refl;
}

-- ---- the card

pub woken_is_good : (state : Persistent) (boxes : List (Option AppletState)) → IsSoundCard state → length boxes ≡ 32 → All (HasBox boxes) state.rows → AreOfKnownKinds boxes → IsGood (woken state boxes)
unfolding woken
woken_is_good state boxes sound shelves has kinds = record {
  sound = sound;
  channels = basic_channel state sound.sound;
  shelves = length-woken_boxes state.rows boxes ∙ shelves;
  boxes = λ k d low. has_box_woken state.rows boxes (slice_index_or state.rows k d) (has k d low);
  kinds = kinds_woken state.rows boxes kinds;
  session = fresh_is_orderly state.rows;
}
