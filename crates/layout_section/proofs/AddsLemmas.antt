-- A line of a section, and what it adds to the state.
use Rattle.std.proofs.Common.{◌≡◌, ℕ, ◌+◌, Bool, true, false, cond, List, [], ◌∷◌, ◌++◌, length, map, refl, sym, ◌∙◌, ap, subst, ◌&&◌, ◌||◌, ◌==◌, not, nat_le, nat_lt, filter, count_by, Option, Some, None, Result, Ok, Err}
use Rattle.std.specs.List.{list_any}
use Rattle.std.proofs.lemmas.Bool.{le-leb, or_parts, or_from}
use Rattle.std.proofs.lemmas.List.Sums.{sum_by-cons}
use Rattle.std.proofs.lemmas.List.Folds.{list_any-append}
use Rattle.list_laws.specs.Patches.{patched}
use Rattle.card_state.specs.declared.faults.SectionFault.{SectionFault}
use Rattle.card_state.specs.declared.faults.SectionFault.TheVariants.{Bad, NoRoom}
use Rattle.card_state.specs.Persistent.{Contents, Files, Bytes, Records, File, Pin, Registration, Persistent}
use Rattle.card_state.specs.Sections.{are_of_line, if_good, if_file, bytes_filled, record_filled, refilled, with_contents, rows_fit, fits_wide, byte_total_of, needs_wide, with_row, new_row, is_new_row, is_call_control, has_text, Installation, if_installed}
use Rattle.card_state.specs.declared.installation.Installed.{Installed}
use Rattle.card_state.specs.Installations.{registered, IsInstalled, ReadsInstallation}
use Rattle.card_state.specs.AppletKinds.{IsAppletKind}
use Rattle.card_state.specs.declared.sizes.TheConstants.{LAST_KIND}
use Rattle.layout_section.specs.Adding.{Adds, Changes, IsFound, file_numbered, filled, with_record, Rewrites}
use Rattle.layout_section.specs.Installing.{may_take, has_item, wants_wide_card}
use Rattle.layout_section.specs.Describing.{has_room_for_row}
use Rattle.layout_section.proofs.RowTablesLemmas.{code_bit}

-- ---- a change of one part of the state

pub follows_change : {X : Type 0} (put : X → Persistent) (allowed : Bool) (changed old new : X) (result : Result (Unit {0}) SectionFault) → Changes allowed changed old result new
    → Adds (if_good allowed true (put changed)) (put old) result (put new)
follows_change put true changed old new result is = (is.0, ap put is.1)
follows_change put false changed old new result is = (is.0, ap put is.1)

pub follows_bad : (good room : Bool) (state old : Persistent) → good ≡ false → Adds (if_good good room state) old (Err Bad) old
follows_bad true room state old is = absurd (cc is)
follows_bad false room state old is = (refl, refl)

pub follows_no_room : (good room : Bool) (state old : Persistent) → good ≡ true → room ≡ false → Adds (if_good good room state) old (Err NoRoom) old
follows_no_room true true state old is full = absurd (cc full)
follows_no_room true false state old is full = (refl, refl)
follows_no_room false room state old is full = absurd (cc is)

pub follows_ok : (good room : Bool) (state old new : Persistent) → good ≡ true → room ≡ true → new ≡ state → Adds (if_good good room state) old (Ok tt) new
follows_ok true true state old new is fits same = (refl, same)
follows_ok true false state old new is fits same = absurd (cc fits)
follows_ok false room state old new is fits same = absurd (cc is)

-- ---- bytes of a line

in_line : (good : Bool) (outcome : Result Persistent SectionFault) (old new : Persistent) (result : Result (Unit {0}) SectionFault) → good ≡ true → Adds outcome old result new
    → Adds (cond good outcome (Err Bad)) old result new
in_line true outcome old new result is adds = adds
in_line false outcome old new result is adds = absurd (cc is)

-- ---- files

-- the state with these files, and pins, rows and a sequence number
abbrev pub state_with : List Pin → List Registration → ℕ → List File → Persistent
state_with pins rows next files = record { is_wide = fits_wide (byte_total_of files); files = files; pins = pins; rows = rows; next_sequence = next }

size_step : (b : Bool) (contents : Contents) (file : File) → (let other : File = cond b (record file { contents = contents }) file in other.size) ≡ file.size
size_step true contents file = refl
size_step false contents file = refl

pub same_total : (number : ℕ) (contents : Contents) (files : List File) → byte_total_of (map (refilled number contents) files) ≡ byte_total_of files
same_total number contents [] = refl
same_total number contents (file ∷ files) =
    sum_by-cons (λ (f : File). f.size) (refilled number contents file) (map (refilled number contents) files)
    ∙ ap (λ (n : ℕ). n + byte_total_of (map (refilled number contents) files)) (size_step (file.number == number) contents file)
    ∙ ap (λ (n : ℕ). file.size + n) (same_total number contents files) ∙ sym (sum_by-cons (λ (f : File). f.size) file files)

pub rewritten_total : (old new : List File) (number : ℕ) (contents : Option Contents) (result : Result (Unit {0}) SectionFault) → Rewrites old number contents result new → byte_total_of new ≡ byte_total_of old
rewritten_total old new number None result is = ap byte_total_of is.1
rewritten_total old new number (Some contents) result is = ap byte_total_of is.1 ∙ same_total number contents old

module _ (pins : List Pin) (rows : List Registration) (next : ℕ) where
  abbrev put : List File → Persistent
  put = state_with pins rows next

  put_contents : (number : ℕ) (contents : Contents) (files : List File) → put (map (refilled number contents) files) ≡ with_contents (put files) number contents
  put_contents number contents files =
      ap (λ (n : ℕ). let state : Persistent = record (put (map (refilled number contents) files)) { is_wide = fits_wide n } in state) (same_total number contents files)

  rewrite_step : (allowed : Bool) (contents : Contents) (files new : List File) (number : ℕ) (result : Result (Unit {0}) SectionFault) → Rewrites files number (cond allowed (Some contents) None) result new
      → Adds (if_good allowed true (with_contents (put files) number contents)) (put files) result (put new)
  rewrite_step true contents files new number result is = (is.0, ap put is.1 ∙ put_contents number contents files)
  rewrite_step false contents files new number result is = (is.0, ap put is.1)

  fill_step : (contents : Contents) (files new : List File) (number offset : ℕ) (bytes : List ℕ) (result : Result (Unit {0}) SectionFault) → Rewrites files number (filled offset bytes contents) result new
      → Adds (bytes_filled (put files) number offset bytes contents) (put files) result (put new)
  fill_step Files files new number offset bytes result is = (is.0, ap put is.1)
  fill_step (Bytes old) files new number offset bytes result is = rewrite_step (nat_le (offset + length bytes) (length old)) (Bytes (patched offset bytes old)) files new number result is
  fill_step (Records old) files new number offset bytes result is = (is.0, ap put is.1)

  record_step : (contents : Contents) (files new : List File) (number index : ℕ) (bytes : List ℕ) (result : Result (Unit {0}) SectionFault) → Rewrites files number (with_record index bytes contents) result new
      → Adds (record_filled (put files) number index bytes contents) (put files) result (put new)
  record_step Files files new number index bytes result is = (is.0, ap put is.1)
  record_step (Bytes old) files new number index bytes result is = (is.0, ap put is.1)
  record_step (Records old) files new number index bytes result is = rewrite_step _ _ files new number result is

  pub follows_fill : (found : Option File) (files new : List File) (number offset : ℕ) (bytes : List ℕ) (result : Result (Unit {0}) SectionFault) → are_of_line bytes ≡ true → IsFound files found (Some number)
      → Rewrites files number (filled offset bytes (file_numbered files number).contents) result new
      → Adds (cond (are_of_line bytes) (if_file found (λ file. bytes_filled (put files) file.number offset bytes file.contents)) (Err Bad)) (put files) result (put new)
  follows_fill None files new number offset bytes result good found is = absurd found
  follows_fill (Some file) files new number offset bytes result good found is =
      in_line (are_of_line bytes) (bytes_filled (put files) file.number offset bytes file.contents) (put files) (put new) result good
      (subst (λ (n : ℕ). Adds (bytes_filled (put files) n offset bytes file.contents) (put files) result (put new)) (sym found.own)
      (fill_step file.contents files new number offset bytes result (subst (λ (f : File). Rewrites files number (filled offset bytes f.contents) result new) found.is is)))

  pub follows_record : (found : Option File) (files new : List File) (number index : ℕ) (bytes : List ℕ) (result : Result (Unit {0}) SectionFault) → are_of_line bytes ≡ true → IsFound files found (Some number)
      → Rewrites files number (with_record index bytes (file_numbered files number).contents) result new
      → Adds (cond (are_of_line bytes) (if_file found (λ file. record_filled (put files) file.number index bytes file.contents)) (Err Bad)) (put files) result (put new)
  follows_record None files new number index bytes result good found is = absurd found
  follows_record (Some file) files new number index bytes result good found is =
      in_line (are_of_line bytes) (record_filled (put files) file.number index bytes file.contents) (put files) (put new) result good
      (subst (λ (n : ℕ). Adds (record_filled (put files) n index bytes file.contents) (put files) result (put new)) (sym found.own)
      (record_step file.contents files new number index bytes result (subst (λ (f : File). Rewrites files number (with_record index bytes f.contents) result new) found.is is)))

-- ---- rows

kind_step : (s low high p a b c : Bool) → low ≡ true → high ≡ true → (s && low && high && p && a && b && c) ≡ (s && p && a && b && c)
kind_step true true true p a b c is is' = refl
kind_step false true true p a b c is is' = refl
kind_step s false high p a b c is is' = absurd (cc is)
kind_step s low false p a b c is is' = absurd (cc is')

room_step : (wide wants any : Bool) → (wide || not any) ≡ true → (wide || not (wants || any)) ≡ (wide || not wants)
room_step true wants any fit = refl
room_step false wants true fit = absurd (cc fit)
room_step false true false fit = refl
room_step false false false fit = refl

filter_step : {X : Type 0} (p : X → Bool) (b : Bool) (x : X) (rest : List X) → p x ≡ false → list_any p rest ≡ false → list_any p (cond b (x ∷ rest) rest) ≡ false
filter_step p true x rest none others = or_from (p x) (list_any p rest) none others
filter_step p false x rest none others = others

any_filter : {X : Type 0} (p q : X → Bool) (xs : List X) → list_any p xs ≡ false → list_any p (filter q xs) ≡ false
any_filter p q [] none = refl
any_filter p q (x ∷ xs) none =
    let parts = or_parts (p x) (list_any p xs) none in
    filter_step p (q x) x (filter q xs) parts.0 (any_filter p q xs parts.1)

any_with_row : (rows : List Registration) (row : Registration) → needs_wide row ≡ false → list_any needs_wide rows ≡ false → list_any needs_wide (with_row rows row) ≡ false
any_with_row rows row one others =
    let below : List Registration = filter (λ other. nat_lt other.shelf row.shelf) rows in
    let above : List Registration = filter (λ other. nat_lt row.shelf other.shelf) rows in
    list_any-append needs_wide (below ++ row ∷ []) above
    ∙ or_from (list_any needs_wide (below ++ row ∷ [])) (list_any needs_wide above)
    (list_any-append needs_wide below (row ∷ []) ∙ or_from (list_any needs_wide below) (needs_wide row || false) (any_filter needs_wide (λ other. nat_lt other.shelf row.shelf) rows others) (or_from (needs_wide row) false one refl))
    (any_filter needs_wide (λ other. nat_lt row.shelf other.shelf) rows others)

fit_step : (wide wants any now : Bool) → (wide || not any) ≡ true → (wide || not wants) ≡ true → (wants ≡ false → any ≡ false → now ≡ false) → (wide || not now) ≡ true
fit_step true wants any now fit room none = refl
fit_step false wants true now fit room none = absurd (cc fit)
fit_step false true false now fit room none = absurd (cc room)
fit_step false false false now fit room none = ap not (none refl refl)

-- rows that need a wide card stand beside so few bytes also with one row more
pub rows_fit_with : (rows : List Registration) (row : Registration) (total : ℕ) → rows_fit rows total ≡ true → (fits_wide total || not (needs_wide row)) ≡ true → rows_fit (with_row rows row) total ≡ true
rows_fit_with rows row total fit room =
    fit_step (fits_wide total) (needs_wide row) (list_any needs_wide rows) (list_any needs_wide (with_row rows row)) fit room (any_with_row rows row)

module _ (files : List File) (pins : List Pin) (rows : List Registration) (next shelf priority kind : ℕ) (installed : Installed) where
  abbrev here : Persistent
  here = state_with pins rows next files

  abbrev row : Registration
  row = registered shelf kind priority next installed

  row_is : (found : Installation) → IsInstalled found installed → new_row here shelf priority kind found ≡ row
  row_is found is =
      ap (λ (l : List ℕ). let r : Registration = record (new_row here shelf priority kind found) { codes = l } in r) (sym is.codes)
      ∙ ap (λ (l : List ℕ). let r : Registration = record row { text = l; kept = found.kept } in r) (sym is.text) ∙ ap (λ (l : List ℕ). let r : Registration = record row { kept = l } in r) (sym is.kept)

  may_is : IsAppletKind kind → is_new_row rows row ≡ may_take rows shelf priority installed
  may_is known =
      kind_step (nat_le shelf 31) (nat_le 1 kind) (nat_le kind LAST_KIND) (nat_le 1 priority) (not (list_any (λ other. other.shelf == shelf) rows)) (not (is_call_control row && list_any is_call_control rows))
      (not (has_item installed && nat_le 16 (count_by has_text rows))) (le-leb 1 kind known.0) (le-leb kind LAST_KIND known.1)
      ∙ ap (λ b. nat_le shelf 31 && nat_le 1 priority && not (list_any (λ other. other.shelf == shelf) rows) && not (b && list_any is_call_control rows) && not (has_item installed && nat_le 16 (count_by has_text rows))) (code_bit installed.events)

  room_for : rows_fit rows (byte_total_of files) ≡ true → rows_fit (row ∷ rows) (byte_total_of files) ≡ has_room_for_row here shelf installed
  room_for fit = room_step (fits_wide (byte_total_of files)) (wants_wide_card shelf installed) (list_any needs_wide rows) fit

  abbrev line_of : Registration → Result Persistent SectionFault
  line_of made = if_good (is_new_row rows made) (rows_fit (made ∷ rows) (byte_total_of files)) (record here { rows = with_row rows made; next_sequence = next + 1 })

  pub row_bad : (found : Option Installation) → ReadsInstallation found (Some installed) → IsAppletKind kind → may_take rows shelf priority installed ≡ false
      → Adds (if_installed (Some kind) found (λ k f. let made = new_row here shelf priority k f in if_good (is_new_row rows made) (rows_fit (made ∷ rows) (byte_total_of files)) (record here { rows = with_row rows made; next_sequence = next + 1 }))) here (Err Bad) here
  row_bad None reads known may = absurd reads
  row_bad (Some found) reads known may =
      subst (λ (r : Registration). Adds (line_of r) here (Err Bad) here) (sym (row_is found reads))
      (follows_bad (is_new_row rows row) (rows_fit (row ∷ rows) (byte_total_of files)) (record here { rows = with_row rows row; next_sequence = next + 1 }) here (may_is known ∙ may))

  pub row_no_room : (found : Option Installation) → ReadsInstallation found (Some installed) → IsAppletKind kind → may_take rows shelf priority installed ≡ true → rows_fit rows (byte_total_of files) ≡ true
      → has_room_for_row here shelf installed ≡ false
      → Adds (if_installed (Some kind) found (λ k f. let made = new_row here shelf priority k f in if_good (is_new_row rows made) (rows_fit (made ∷ rows) (byte_total_of files)) (record here { rows = with_row rows made; next_sequence = next + 1 }))) here (Err NoRoom) here
  row_no_room None reads known may fit full = absurd reads
  row_no_room (Some found) reads known may fit full =
      subst (λ (r : Registration). Adds (line_of r) here (Err NoRoom) here) (sym (row_is found reads))
      (follows_no_room (is_new_row rows row) (rows_fit (row ∷ rows) (byte_total_of files)) (record here { rows = with_row rows row; next_sequence = next + 1 }) here (may_is known ∙ may) (room_for fit ∙ full))

  pub row_follows : (found : Option Installation) → ReadsInstallation found (Some installed) → IsAppletKind kind → may_take rows shelf priority installed ≡ true → rows_fit rows (byte_total_of files) ≡ true
      → has_room_for_row here shelf installed ≡ true
      → Adds (if_installed (Some kind) found (λ k f. let made = new_row here shelf priority k f in if_good (is_new_row rows made) (rows_fit (made ∷ rows) (byte_total_of files)) (record here { rows = with_row rows made; next_sequence = next + 1 }))) here (Ok tt) (state_with pins (with_row rows row) (next + 1) files)
  row_follows None reads known may fit room = absurd reads
  row_follows (Some found) reads known may fit room =
      subst (λ (r : Registration). Adds (line_of r) here (Ok tt) (state_with pins (with_row rows row) (next + 1) files)) (sym (row_is found reads))
      (follows_ok (is_new_row rows row) (rows_fit (row ∷ rows) (byte_total_of files)) (record here { rows = with_row rows row; next_sequence = next + 1 }) here (state_with pins (with_row rows row) (next + 1) files) (may_is known ∙ may) (room_for fit ∙ room) refl)
