-- What stays lawful where a command changed entries of files, or of PINs.
use Rattle.std.proofs.Common.{◌≡◌, ℕ, true, List, Option, Some, None, refl, sym, ◌∙◌, ap, subst, All, IfSome, IsSomeAnd, is_some, length, slice_index_or}
use Rattle.std.proofs.lemmas.Bool.{false≢true}
use Rattle.card_state.specs.declared.entries.Loaded.{Loaded}
use Rattle.card_state.specs.Persistent.{Persistent, Registration}
use Rattle.card_state.specs.Standing.{standing, Agrees}
use Rattle.card_state.specs.States.{rows_of}
use Rattle.file_model.specs.declared.descriptors.Descriptor.{Descriptor}
use Rattle.file_model.specs.declared.selections.Selection.{Selection}
use Rattle.file_model.specs.Files.{descriptors_of}
use Rattle.file_model.specs.Selections.{IsSelection}
use Rattle.file_model.specs.LawfulTrees.{AreSelected}
use Rattle.record_commands.specs.Tables.{HasOtherFiles, KeepsSelections}
use Rattle.applet_trait.specs.Minds.{AppletState}
use Rattle.card_model.specs.States.{HasBox}
use Rattle.card_core.specs.Starts.{HoldsCard}
use Rattle.card_core.specs.Parts.{CardParts}
use Rattle.card_core.specs.Cards.{IsSet}

-- ---- what is selected

kept_one : (old new : List Descriptor) (selected : Option Selection) → KeepsSelections old new → IfSome selected (IsSelection old) → IfSome selected (IsSelection new)
kept_one old new None keeps is = tt
kept_one old new (Some selection) keeps is = keeps selection is

pub kept_selected : (old new : List Descriptor) (channels : List (Option Selection)) → KeepsSelections old new → AreSelected old channels → AreSelected new channels
kept_selected old new channels keeps all k d low = kept_one old new (slice_index_or channels k d) keeps (all k d low)

-- ---- the rows, and the files

rows_same : (old new : Loaded) → new.rows ≡ old.rows → rows_of new ≡ rows_of old
unfolding rows_of
rows_same old new same = ap (λ rows. rows_of (record old { rows = rows })) same

pub rows_beside_files : (old new : Loaded) → HasOtherFiles old new → rows_of new ≡ rows_of old
rows_beside_files old new is = rows_same old new (ap (λ (table : Loaded). table.rows) is)

pub rows_beside_pins : (old new : Loaded) → new ≡ record old { pins = new.pins } → rows_of new ≡ rows_of old
rows_beside_pins old new is = rows_same old new (ap (λ (table : Loaded). table.rows) is)

files_same : (old new : Loaded) → new.nodes ≡ old.nodes → descriptors_of new ≡ descriptors_of old
unfolding descriptors_of
files_same old new same = ap (λ nodes. descriptors_of (record old { nodes = nodes })) same

pub files_beside_pins : (old new : Loaded) → new ≡ record old { pins = new.pins } → descriptors_of new ≡ descriptors_of old
files_beside_pins old new is = files_same old new (ap (λ (table : Loaded). table.nodes) is)

-- ---- a card that is set

some_then : (P : Persistent → Persistent → Type 0) (before after : Option Persistent) → is_some before ≡ true → IfSome before (λ state. IsSomeAnd after (P state)) → is_some after ≡ true
some_then P None after is passes = absurd (false≢true is)
some_then P (Some state) None is passes = absurd passes
some_then P (Some state) (Some now) is passes = refl

-- A store that stands for one of some states after a fault holds a card.
pub holds_passed : (P : Persistent → Persistent → Type 0) (mark then : ℕ) (told telling : Option (List ℕ)) → HoldsCard mark told → is_some telling ≡ is_some told
    → IfSome (standing mark told) (λ state. IsSomeAnd (standing then telling) (P state)) → HoldsCard then telling
unfolding standing
holds_passed P mark then None None holds same passes = refl
holds_passed P mark then None (Some bytes) holds same passes = absurd (false≢true (sym same))
holds_passed P mark then (Some bytes) None holds same passes = absurd (false≢true same)
holds_passed P mark then (Some bytes) (Some now) holds same passes = some_then P (standing mark (Some bytes)) (standing then (Some now)) holds passes

pub set_after : (old new : CardParts) → IsSet old → new.byte_count ≡ old.byte_count → new.boxes ≡ old.boxes → HoldsCard new.store_mark new.told → (new.told ≡ None → Agrees new.store_mark None new.table)
    → is_some new.told ≡ is_some old.told → rows_of new.table ≡ rows_of old.table → IsSet new
set_after old new set size boxes card kept told rows = record {
  size = size ∙ set.size;
  shelves = ap length boxes ∙ set.shelves;
  card = card;
  kept = kept;
  boxes = λ silent. subst (λ (now : List (Option AppletState)). All (HasBox now) (rows_of new.table)) (sym boxes)
      (subst (λ (rows_now : List Registration). All (HasBox old.boxes) rows_now) (sym rows) (set.boxes (silent_before old.told new.told told silent)));
} where
  silent_before : (before after : Option (List ℕ)) → is_some after ≡ is_some before → after ≡ None → before ≡ None
  silent_before None after same silent = refl
  silent_before (Some bytes) after same silent = absurd (false≢true (sym (ap is_some silent) ∙ same))
