-- What a fault in a command leaves of the boxes.
use Rattle.std.proofs.Common.{◌≡◌, ◌≢◌, ℕ, ◌<◌, ◌+◌, ◌==◌, ◌&&◌, zero, suc, add-zero, Bool, true, false, List, [], ◌∷◌, map, length, Option, Some, None, option_map, refl, sym, ◌∙◌, ap, arith, is_some, is_none, if◌then◌else◌, slice_index_or, slice_set}
use Rattle.std.specs.List.{enumerate_from}
use Rattle.std.proofs.lemmas.Bool.{false≢true, true≢false, eqb-true, eq-eqb}
use Rattle.std.proofs.lemmas.List.{length-map, length-set, get_or-set_other, get_or_default, same_lists}
use Rattle.std.proofs.lemmas.List.FromFn.{length-enumerate_from}
use Rattle.uicc_types.specs.declared.identifiers.Shelf.{Shelf}
use Rattle.card_state.specs.Persistent.{Registration}
use Rattle.applet_trait.specs.Minds.{AppletState, fresh}
use Rattle.toolkit_model.specs.Registry.{row_on}
use Rattle.toolkit_model.specs.Commands.{woken_mind, woken_boxes}
use Rattle.card_model.specs.Runs.{box_left, boxes_left}
use Rattle.card_model.proofs.WokenLemmas.{length-woken_boxes, woken_at}
use Rattle.card_core.specs.Cards.{boxes_kept}

-- ---- one shelf

abbrev pub at : List (Option AppletState) → ℕ → Option AppletState
at boxes shelf = slice_index_or boxes shelf None

none_if : (b : Bool) → ◌≡◌ {A = Option AppletState} None (if b then None else None)
none_if true = refl
none_if false = refl

left_from : (before after : List Registration) (start : ℕ) (boxes : List (Option AppletState)) (k : ℕ)
    → at (map (λ box. box_left before after box.0 box.1) (enumerate_from start boxes)) k ≡ box_left before after (start + k) (at boxes k)
left_from before after start [] k = none_if (is_some (row_on before (start + k)) && is_none (row_on after (start + k)))
left_from before after start (box ∷ boxes) zero = ap (λ (shelf : ℕ). box_left before after shelf box) (sym (add-zero start))
left_from before after start (box ∷ boxes) (suc k) =
    let shift : start + 1 + k ≡ start + suc k = omega arith in
    left_from before after (start + 1) boxes k ∙ ap (λ (shelf : ℕ). box_left before after shelf (at boxes k)) shift

left_at : (before after : List Registration) (boxes : List (Option AppletState)) (k : ℕ) → at (boxes_left before after boxes) k ≡ box_left before after k (at boxes k)
left_at before after boxes k =
    let same : 0 + k ≡ k = omega arith in
    left_from before after 0 boxes k ∙ ap (λ (shelf : ℕ). box_left before after shelf (at boxes k)) same

-- the box on a shelf, where an applet leaves
abbrev pub box_kept : Option Shelf → List Registration → ℕ → Option AppletState → Option AppletState
box_kept None rows shelf box = box
box_kept (Some gone) rows shelf box = if is_none (row_on rows gone.0) && (gone.0 == shelf) then None else box

set_here : (boxes : List (Option AppletState)) (gone : ℕ) → at (slice_set boxes gone None) gone ≡ None
set_here [] gone = refl
set_here (box ∷ boxes) zero = refl
set_here (box ∷ boxes) (suc gone) = set_here boxes gone

set_none : (boxes : List (Option AppletState)) (gone k : ℕ) → at (slice_set boxes gone None) k ≡ (if gone == k then None else at boxes k)
set_none boxes gone k = by_test (gone == k) refl where
  by_test : (b : Bool) → (gone == k) ≡ b → at (slice_set boxes gone None) k ≡ (if b then None else at boxes k)
  by_test true is = ap (at (slice_set boxes gone None)) (sym (eqb-true gone k is)) ∙ set_here boxes gone
  by_test false is = get_or-set_other boxes gone k None None (λ same. false≢true (sym is ∙ eq-eqb gone k (sym same)))

kept_by : (none : Bool) (gone : ℕ) (boxes : List (Option AppletState)) (k : ℕ) → at (if none then slice_set boxes gone None else boxes) k ≡ (if none && (gone == k) then None else at boxes k)
kept_by true gone boxes k = set_none boxes gone k
kept_by false gone boxes k = refl

pub kept_at : (leaving : Option Shelf) (rows : List Registration) (boxes : List (Option AppletState)) (k : ℕ) → at (boxes_kept leaving rows boxes) k ≡ box_kept leaving rows k (at boxes k)
kept_at None rows boxes k = refl
kept_at (Some gone) rows boxes k = kept_by (is_none (row_on rows gone.0)) gone.0 boxes k

pub length-kept : (leaving : Option Shelf) (rows : List Registration) (boxes : List (Option AppletState)) → length (boxes_kept leaving rows boxes) ≡ length boxes
length-kept None rows boxes = refl
length-kept (Some gone) rows boxes = by_none (is_none (row_on rows gone.0)) where
  by_none : (none : Bool) → length (if none then slice_set boxes gone.0 None else boxes) ≡ length boxes
  by_none true = length-set boxes gone.0 None
  by_none false = refl

-- a box on a shelf with a row stays
pub kept_there : (leaving : Option Shelf) (rows : List Registration) (k : ℕ) (box : Option AppletState) → is_none (row_on rows k) ≡ false → box_kept leaving rows k box ≡ box
kept_there None rows k box some = refl
kept_there (Some gone) rows k box some = by_shelf (gone.0 == k) refl where
  by_shelf : (b : Bool) → (gone.0 == k) ≡ b → (if is_none (row_on rows gone.0) && b then None else box) ≡ box
  by_shelf true is = ap (λ (none : Bool). if none && true then None else box) (ap (λ (shelf : ℕ). is_none (row_on rows shelf)) (eqb-true gone.0 k is) ∙ some)
  by_shelf false is = by_none (is_none (row_on rows gone.0)) where
    by_none : (none : Bool) → (if none && false then None else box) ≡ box
    by_none true = refl
    by_none false = refl

-- one on another shelf stays
pub kept_beside : (gone : Shelf) (rows : List Registration) (k : ℕ) (box : Option AppletState) → gone.0 ≢ k → box_kept (Some gone) rows k box ≡ box
kept_beside gone rows k box apart = by_shelf (gone.0 == k) refl where
  by_shelf : (b : Bool) → (gone.0 == k) ≡ b → (if is_none (row_on rows gone.0) && b then None else box) ≡ box
  by_shelf true is = absurd (apart (eqb-true gone.0 k is))
  by_shelf false is = by_none (is_none (row_on rows gone.0)) where
    by_none : (none : Bool) → (if none && false then None else box) ≡ box
    by_none true = refl
    by_none false = refl

-- the one of the applet that is registered no more goes
pub kept_gone : (gone : Shelf) (rows : List Registration) (box : Option AppletState) → is_none (row_on rows gone.0) ≡ true → box_kept (Some gone) rows gone.0 box ≡ None
kept_gone gone rows box none = ap (λ (b : Bool). if b && (gone.0 == gone.0) then None else box) none ∙ ap (λ (b : Bool). if b then None else box) (eq-eqb gone.0 gone.0 refl)

-- ---- all boxes

abbrev pub kind_of : Option AppletState → Option ℕ
kind_of box = option_map (λ mind. mind.kind) box

-- By the row that is there now, and the one before: a registered applet has its kind, one that never was stays, and one that is
-- registered no more is gone.
abbrev pub IsLeftSo : Option Registration → Option Registration → Option AppletState → Option AppletState → Type 0
IsLeftSo (Some row) before new old = kind_of new ≡ kind_of old
IsLeftSo None None new old = new ≡ old
IsLeftSo None (Some row) new old = new ≡ None

woke_by_kind : (row : Registration) (box : Option AppletState) → option_map (woken_mind (Some row)) box ≡ option_map (λ kind. fresh kind row.kept) (kind_of box)
woke_by_kind row None = refl
woke_by_kind row (Some mind) = refl

one_left : (after before : Option Registration) (new old : Option AppletState) → IsLeftSo after before new old
    → option_map (woken_mind after) new ≡ option_map (woken_mind after) (if is_some before && is_none after then None else old)
one_left (Some row) None new old is = woke_by_kind row new ∙ ap (option_map (λ kind. fresh kind row.kept)) is ∙ sym (woke_by_kind row old)
one_left (Some row) (Some other) new old is = woke_by_kind row new ∙ ap (option_map (λ kind. fresh kind row.kept)) is ∙ sym (woke_by_kind row old)
one_left None None new old is = ap (option_map (woken_mind None)) is
one_left None (Some row) new old is = ap (option_map (woken_mind None)) is

pub boxes_left_so : (before after : List Registration) (new old : List (Option AppletState)) → length new ≡ length old
    → ((k : ℕ) → IsLeftSo (row_on after k) (row_on before k) (at new k) (at old k)) → woken_boxes after new ≡ woken_boxes after (boxes_left before after old)
boxes_left_so before after new old long each =
    let left_long : length (boxes_left before after old) ≡ length old = length-map (enumerate_from 0 old) (λ box. box_left before after box.0 box.1) ∙ length-enumerate_from 0 old in
    same_lists _ _ (length-woken_boxes after new ∙ long ∙ sym (length-woken_boxes after (boxes_left before after old) ∙ left_long))
    (λ k d low.
    let other : k < length (woken_boxes after (boxes_left before after old)) = omega (arith, low, length-woken_boxes after new, long, length-woken_boxes after (boxes_left before after old), left_long) in
    get_or_default _ k d None low
    ∙ woken_at after new k
    ∙ one_left (row_on after k) (row_on before k) (at new k) (at old k) (each k)
    ∙ ap (option_map (woken_mind (row_on after k))) (sym (left_at before after old k))
    ∙ sym (woken_at after (boxes_left before after old) k)
    ∙ get_or_default _ k None d other)

-- ---- boxes that are kept, and woken

box_woken : (leaving : Option Shelf) (rows : List Registration) (k : ℕ) (row : Option Registration) (box : Option AppletState) → box_kept leaving rows k (option_map (woken_mind row) box) ≡ option_map (woken_mind row) (box_kept leaving rows k box)
box_woken None rows k row box = refl
box_woken (Some gone) rows k row box = by_test (is_none (row_on rows gone.0) && (gone.0 == k)) where
  by_test : (b : Bool) → (if b then None else option_map (woken_mind row) box) ≡ option_map (woken_mind row) (if b then None else box)
  by_test true = refl
  by_test false = refl

-- whether a box is dropped before the others wake or after
pub kept_woken : (leaving : Option Shelf) (rows : List Registration) (boxes : List (Option AppletState)) → boxes_kept leaving rows (woken_boxes rows boxes) ≡ woken_boxes rows (boxes_kept leaving rows boxes)
kept_woken leaving rows boxes =
    let long : length (boxes_kept leaving rows (woken_boxes rows boxes)) ≡ length (woken_boxes rows (boxes_kept leaving rows boxes)) =
    length-kept leaving rows (woken_boxes rows boxes) ∙ length-woken_boxes rows boxes ∙ sym (length-woken_boxes rows (boxes_kept leaving rows boxes) ∙ length-kept leaving rows boxes) in
    same_lists _ _ long
    (λ k d low.
    let other : k < length (woken_boxes rows (boxes_kept leaving rows boxes)) = omega (arith, low, long) in
    get_or_default _ k d None low
    ∙ kept_at leaving rows (woken_boxes rows boxes) k
    ∙ ap (box_kept leaving rows k) (woken_at rows boxes k)
    ∙ box_woken leaving rows k (row_on rows k) (at boxes k)
    ∙ ap (option_map (woken_mind (row_on rows k))) (sym (kept_at leaving rows boxes k))
    ∙ sym (woken_at rows (boxes_kept leaving rows boxes) k)
    ∙ get_or_default _ k None d other)

-- ---- a box that is dropped, or not

pub dropped : (gone : Shelf) (rows : List Registration) (boxes : List (Option AppletState)) → is_some (row_on rows gone.0) ≡ false → slice_set boxes gone.0 None ≡ boxes_kept (Some gone) rows boxes
dropped gone rows boxes none = sym (ap (λ (b : Bool). if b then slice_set boxes gone.0 None else boxes) (by_row (row_on rows gone.0) none)) where
  by_row : (o : Option Registration) → is_some o ≡ false → is_none o ≡ true
  by_row None is = refl
  by_row (Some row) is = absurd (true≢false is)

pub not_dropped : (gone : Shelf) (rows : List Registration) (boxes : List (Option AppletState)) → is_some (row_on rows gone.0) ≡ true → boxes ≡ boxes_kept (Some gone) rows boxes
not_dropped gone rows boxes some = sym (ap (λ (b : Bool). if b then slice_set boxes gone.0 None else boxes) (by_row (row_on rows gone.0) some)) where
  by_row : (o : Option Registration) → is_some o ≡ true → is_none o ≡ false
  by_row None is = absurd (false≢true is)
  by_row (Some row) is = refl
