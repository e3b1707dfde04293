-- What a run of an applet keeps, and what it sends.
use Rattle.std.proofs.Common.{◌<◌, ◌≡◌, ℕ, zero, suc, ◌≤◌, Bool, true, false, cond, List, [], ◌∷◌, length, map, Option, Some, None, Result, Ok, Err, ap, arith, refl, sym, ◌∙◌, subst, ◌≢◌, ◌+◌, ◌==◌, not, All, AllPairs, Contains, IfSome, count_by, fold, length-set}
use Rattle.std.proofs.lemmas.List.Elements.{All-set, All-map}
use Rattle.std.proofs.lemmas.Bool.{cond_both}
use Rattle.list_laws.proofs.AllPairsLemmas.{pairs_map, pairs_unmap}
use Rattle.list_laws.proofs.MapLemmas.{all_unmapped}
use Rattle.card_state.specs.Persistent.{Registration}
use Rattle.card_state.specs.Sections.{has_text}
use Rattle.toolkit_commands.specs.declared.commands.Proactive.{Proactive}
use Rattle.timer_table.specs.Timers.{Owners, smallest_free, given_to, freed}
use Rattle.applet_trait.specs.declared.stimuli.Stimulus.{Stimulus}
use Rattle.applet_trait.specs.declared.stimuli.Act.{Act}
use Rattle.applet_trait.specs.declared.stimuli.Act.TheVariants.{Done, Send, Keep, Register, Deregister, TakeTimer, FreeTimer, Answer}
use Rattle.applet_trait.specs.Turns.{act}
use Rattle.toolkit_model.specs.declared.faults.RowFault.{RowFault}
use Rattle.toolkit_model.specs.Registry.{is_on, with_changed, with_code, without_code, registers, deregisters}
use Rattle.toolkit_model.specs.Running.{Setting, Works, Carried, Ran, is_admitted, admitted, is_held_by, carried, changing, taking, going_on, run_on}
use Rattle.toolkit_model.specs.Steps.{AreRows}

-- ---- rows that are changed in their codes and kept bytes alone

pub changed_map : {X : Type 0} (f : Registration → X) (change : Registration → Registration) (shelf : ℕ) (rows : List Registration)
    → ((row : Registration) → f (change row) ≡ f row) → map f (with_changed rows shelf change) ≡ map f rows
changed_map f change shelf [] same = refl
changed_map {X} f change shelf (row ∷ others) same =
    cond_both (is_on shelf row) (change row) row (λ (x : Registration). (f x ∷ map f (with_changed others shelf change)) ≡ map f (row ∷ others))
    (λ h. cc (same row, changed_map f change shelf others same))
    (λ h. cc (changed_map f change shelf others same))

-- a change that leaves what the toolkit's rows are known by
pub record IsHarmless (change : Registration → Registration) : Type 0 where
  pub shelf : (row : Registration) → (change row).shelf ≡ row.shelf
  pub sequence : (row : Registration) → (change row).sequence ≡ row.sequence
  pub text : (row : Registration) → (change row).text ≡ row.text

abbrev has_bytes : List ℕ → Bool
has_bytes text = not (length text == 0)

counted_from : (start : ℕ) (rows : List Registration) → fold (λ total row. total + cond (has_text row) 1 0) start rows ≡ fold (λ total text. total + cond (has_bytes text) 1 0) start (map (λ row. row.text) rows)
counted_from start [] = refl
counted_from start (row ∷ others) = counted_from (start + cond (has_text row) 1 0) others

counted_texts : (rows : List Registration) → count_by has_text rows ≡ count_by has_bytes (map (λ row. row.text) rows)
counted_texts rows = counted_from 0 rows

pub changed_rows : (change : Registration → Registration) (shelf : ℕ) (rows : List Registration) → IsHarmless change → AreRows rows → AreRows (with_changed rows shelf change)
changed_rows change shelf rows harmless are =
    let new : List Registration = with_changed rows shelf change in
    let shelves = changed_map (λ row. row.shelf) change shelf rows harmless.shelf in
    let sequences = changed_map (λ row. row.sequence) change shelf rows harmless.sequence in
    let texts = changed_map (λ row. row.text) change shelf rows harmless.text in
    record {
      shelves = pairs_unmap (λ a b. a < b) (λ row. row.shelf) new (subst (AllPairs (λ (a b : ℕ). a < b)) (sym shelves) (pairs_map (λ a b. a < b) (λ row. row.shelf) rows are.shelves));
      sequences = pairs_unmap (λ a b. a ≢ b) (λ row. row.sequence) new (subst (AllPairs (λ (a b : ℕ). a ≢ b)) (sym sequences) (pairs_map (λ a b. a ≢ b) (λ row. row.sequence) rows are.sequences));
      texts = all_unmapped (λ (text : List ℕ). length text ≤ 10) (λ row. row.text) new (subst (All (λ (text : List ℕ). length text ≤ 10)) (sym texts) (All-map (λ text. length text ≤ 10) (λ row. row.text) rows are.texts));
      few_texts = omega (arith, counted_texts new, counted_texts rows, ap (count_by has_bytes) texts, are.few_texts);
    }

-- ---- what is kept by every act

-- the rows are those of these shelves, and eight timers are free or held by applets of these
pub record ArePlaced (shelves : List ℕ) (rows : List Registration) (timers : Owners) : Type 0 where
  pub shelves_are : map (λ row. row.shelf) rows ≡ shelves
  pub rows_are : AreRows rows
  pub eight : length timers ≡ 8
  pub owners : All (λ owner. IfSome owner (λ shelf. Contains shelves shelf.0)) timers

changed_placed : (shelves : List ℕ) (rows : List Registration) (timers : Owners) (shelf : ℕ) (change : Registration → Registration)
    → IsHarmless change → ArePlaced shelves rows timers → ArePlaced shelves (with_changed rows shelf change) timers
changed_placed shelves rows timers shelf change harmless placed = record {
  shelves_are = changed_map (λ row. row.shelf) change shelf rows harmless.shelf ∙ placed.shelves_are;
  rows_are = changed_rows change shelf rows harmless placed.rows_are;
  eight = placed.eight;
  owners = placed.owners;
}

given_placed : (shelves : List ℕ) (rows : List Registration) (timers : Owners) (shelf : ℕ) (timer : ℕ)
    → Contains shelves shelf → ArePlaced shelves rows timers → ArePlaced shelves rows (given_to (record { 0 = shelf }) timers (Some timer))
given_placed shelves rows timers shelf timer there placed = record {
  shelves_are = placed.shelves_are;
  rows_are = placed.rows_are;
  eight = length-set _ _ _ ∙ placed.eight;
  owners = All-set (λ owner. IfSome owner (λ shelf. Contains shelves shelf.0)) timers _ (Some (record { 0 = shelf })) there placed.owners;
}

freed_placed : (shelves : List ℕ) (rows : List Registration) (timers : Owners) (timer : ℕ)
    → ArePlaced shelves rows timers → ArePlaced shelves rows (freed timers timer)
freed_placed shelves rows timers timer placed =
    cond_both (timer == 0) timers _ (λ (after : Owners). ArePlaced shelves rows after)
    (λ h. placed)
    (λ h. record {
      shelves_are = placed.shelves_are;
      rows_are = placed.rows_are;
      eight = length-set _ _ _ ∙ placed.eight;
      owners = All-set (λ owner. IfSome owner (λ shelf. Contains shelves shelf.0)) timers _ None tt placed.owners;
    })

abbrev pub IsPlaced : List ℕ → Works → Type 0
IsPlaced shelves works = ArePlaced shelves works.rows works.timers

changing_placed : (shelves : List ℕ) (works : Works) (rows : List Registration) (result : Result Bool RowFault)
    → IsPlaced shelves works → ArePlaced shelves rows works.timers → IsPlaced shelves (changing works rows result).works
changing_placed shelves works rows (Ok true) placed new = new
changing_placed shelves works rows (Ok false) placed new = placed
changing_placed shelves works rows (Err fault) placed new = placed

taking_placed : (shelves : List ℕ) (shelf : ℕ) (works : Works) (found : Option ℕ) → Contains shelves shelf → IsPlaced shelves works → IsPlaced shelves (taking shelf works found).works
taking_placed shelves shelf works (Some timer) there placed = given_placed shelves works.rows works.timers shelf timer there placed
taking_placed shelves shelf works None there placed = placed

pub carried_placed : (shelves : List ℕ) (at : Setting) (does : Act) (works : Works) → Contains shelves at.shelf → IsPlaced shelves works → IsPlaced shelves (carried at does works).works
carried_placed shelves at Done works there placed = placed
carried_placed shelves at (Send command) works there placed = cond_both (is_admitted at works.timers command) _ _ (λ (done : Carried). IsPlaced shelves done.works) (λ h. placed) (λ h. placed)
carried_placed shelves at (Keep bytes) works there placed =
    cond_both _ _ _ (λ (done : Carried). IsPlaced shelves done.works)
    (λ h. changed_placed shelves works.rows works.timers at.shelf (λ row. record row { kept = bytes }) (record { shelf = λ row. refl; sequence = λ row. refl; text = λ row. refl }) placed)
    (λ h. placed)
carried_placed shelves at (Register code) works there placed =
    changing_placed shelves works (with_code works.rows at.shelf code) (registers works.rows at.shelf code) placed
    (changed_placed shelves works.rows works.timers at.shelf _ (record { shelf = λ row. refl; sequence = λ row. refl; text = λ row. refl }) placed)
carried_placed shelves at (Deregister code) works there placed =
    changing_placed shelves works (without_code works.rows at.shelf code) (deregisters works.rows at.shelf code) placed
    (changed_placed shelves works.rows works.timers at.shelf _ (record { shelf = λ row. refl; sequence = λ row. refl; text = λ row. refl }) placed)
carried_placed shelves at TakeTimer works there placed = taking_placed shelves at.shelf works (smallest_free works.timers) there placed
carried_placed shelves at (FreeTimer timer) works there placed =
    cond_both (is_held_by works.timers at.shelf timer) _ _ (λ (done : Carried). IsPlaced shelves done.works) (λ h. freed_placed shelves works.rows works.timers timer placed) (λ h. placed)
carried_placed shelves at (Answer allows) works there placed = placed

going_placed : (shelves : List ℕ) (works : Works) (sent : Option Proactive) (next : Stimulus → Works → Ran) (tells : Option Stimulus)
    → IsPlaced shelves works → ((stimulus : Stimulus) → IsPlaced shelves (next stimulus works).works) → IsPlaced shelves (going_on works sent next tells).works
going_placed shelves works sent next None placed more = placed
going_placed shelves works sent next (Some stimulus) placed more = more stimulus

pub run_placed : (shelves : List ℕ) (fuel : ℕ) (at : Setting) (stimulus : Stimulus) (works : Works) → Contains shelves at.shelf → IsPlaced shelves works → IsPlaced shelves (run_on fuel at stimulus works).works
unfolding run_on
run_placed shelves zero at stimulus works there placed = placed
run_placed shelves (suc fuel) at stimulus works there placed =
    let made = act works.mind stimulus in
    let turned : Works = record works { mind = made.next } in
    let done = carried at made.does turned in
    let now : IsPlaced shelves done.works = carried_placed shelves at made.does turned there placed in
    going_placed shelves done.works (admitted at works.timers made.does) (run_on fuel at) done.tells now (λ next. run_placed shelves fuel at next done.works there now)
