-- The row that INSTALL answers, and the place among the others where it may stand.
use Rattle.std.proofs.Common.{◌≡◌, refl, sym, ap, ◌∙◌, subst, inl, inr, ℕ, zero, suc, ◌+◌, ◌<◌, ◌≤◌, Bool, true, false, not, List, [], ◌∷◌, get_or, Option, Some, None, arith, ◌≢◌, ◌⊎◌, ◌==◌, ◌&&◌, ◌||◌, nat_le, length, count_by, All, Contains, IfSome, Result, Ok, Err}
use Rattle.std.specs.List.{list_any}
use Rattle.std.proofs.lemmas.Bool.Decides.{nat_tests}
use Rattle.std.proofs.lemmas.Bool.{or_parts}
use Rattle.list_laws.proofs.CondLemmas.{second_false}
use Rattle.uicc_types.specs.declared.answers.TheConstants.StatusWord.{WRONG_LENGTH, WRONG_PARAMETERS, SECURITY_NOT_SATISFIED}
use Rattle.apdu_form.specs.Model.{Apdu}
use Rattle.card_state.specs.declared.entries.Row.{Row}
use Rattle.card_state.specs.declared.entries.Loaded.{Loaded}
use Rattle.card_state.specs.Decoding.{table_of}
use Rattle.card_state.specs.Kinds.{call_control_code}
use Rattle.card_state.specs.Persistent.{Registration, Persistent}
use Rattle.card_state.specs.Sections.{Installation, installation_of, new_row, needs_wide, has_text, is_call_control}
use Rattle.card_state.specs.Soundness.{IsSoundRow}
use Rattle.card_state.specs.Standing.{Agrees, state_in}
use Rattle.card_state.specs.StateLaws.{StatesAreOfTables}
use Rattle.card_state.specs.States.{registration_of, rows_of, state_of}
use Rattle.card_state.proofs.SoundStandsLemmas.{standing_sound}
use Rattle.card_state.specs.Fitting.{ShareNoCallControl}
use Rattle.access_rules.specs.declared.rules.Verified.{Verified}
use Rattle.file_model.specs.Chains.{refused_if}
use Rattle.apdu_form.specs.Fields.{has_data}
use Rattle.card_state.specs.AppletKinds.{IsAppletKind}
use Rattle.card_commits.specs.Rows.{MayInstall}
use Rattle.toolkit_model.specs.Sound.{InstalledRowsAreSound}
use Rattle.toolkit_model.specs.declared.faults.RowFault.{RowFault}
use Rattle.toolkit_model.specs.declared.faults.RowFault.TheVariants.{BadData, NoBox, Narrow, Taken, MenuFull, Spent}
use Rattle.toolkit_model.specs.Registry.{unless_missing, faulty_if, is_on, is_taken, is_menu_full, last_sequence, installed_row}
use Rattle.applet_registry.specs.Rows.{IsAdmitted}
use Rattle.card_model.specs.Toolkit.{has_shelf, row_or_status}
use Rattle.cat_commands.specs.Trying.{install_tried}

-- ---- what it hangs on

pub installed_same : (p q : Persistent) → p.rows ≡ q.rows → p.next_sequence ≡ q.next_sequence → p.is_wide ≡ q.is_wide → (kind : Option ℕ) (shelf priority : ℕ) (content : List ℕ) → installed_row p kind shelf priority content ≡ installed_row q kind shelf priority content
installed_same p q rows next wide kind shelf priority content = λ i.
    let each : Persistent = record { is_wide = wide i; files = []; pins = []; rows = rows i; next_sequence = next i } in
    installed_row each kind shelf priority content

pub tried_same : (p q : Persistent) → p.rows ≡ q.rows → p.next_sequence ≡ q.next_sequence → p.is_wide ≡ q.is_wide → (kind : Option ℕ) (seen : Verified) (apdu : Apdu) → install_tried p kind seen apdu ≡ install_tried q kind seen apdu
unfolding install_tried
tried_same p q rows next wide kind seen apdu =
    ap (λ (r : Result Registration RowFault). refused_if (not (nat_le 1 apdu.p1 && has_shelf apdu)) WRONG_PARAMETERS (refused_if (not (has_data apdu)) WRONG_LENGTH (refused_if (not seen.adm1) SECURITY_NOT_SATISFIED (row_or_status r))))
    (installed_same p q rows next wide kind apdu.p2 apdu.p1 apdu.body)

-- ---- what passed the tests

pub record IsTried (state : Persistent) (kind : Option ℕ) (apdu : Apdu) (row : Registration) : Type 0 where
  pub priority : 1 ≤ apdu.p1
  pub shelf : apdu.p2 < 32
  pub row_is : installed_row state kind apdu.p2 apdu.p1 apdu.body ≡ Ok row

named : (r : Result Registration RowFault) (row : Registration) → row_or_status r ≡ Ok row → r ≡ Ok row
named (Ok other) row is = let same : other ≡ row = cc is in ap (λ (x : Registration). Ok x) same
named (Err fault) row is = cc is

tests_pass : (a b c d : Bool) (r : Result Registration RowFault) (row : Registration)
    → refused_if (not (a && b)) WRONG_PARAMETERS (refused_if c WRONG_LENGTH (refused_if d SECURITY_NOT_SATISFIED (row_or_status r))) ≡ Ok row → (a ≡ true) × (b ≡ true) × (r ≡ Ok row)
unfolding refused_if
tests_pass true true false false r row is = (refl, refl, named r row is)
tests_pass true true false true r row is = cc is
tests_pass true true true d r row is = cc is
tests_pass true false c d r row is = cc is
tests_pass false b c d r row is = cc is

at_least : (n : ℕ) → nat_le 1 n ≡ true → 1 ≤ n
at_least n is = grind (arith, nat_tests, is)

below : (n : ℕ) → nat_le n 31 ≡ true → n < 32
below n is = grind (arith, nat_tests, is)

pub is_tried : (state : Persistent) (kind : Option ℕ) (seen : Verified) (apdu : Apdu) (row : Registration) → install_tried state kind seen apdu ≡ Ok row → IsTried state kind apdu row
unfolding install_tried
is_tried state kind seen apdu row is =
    let all = tests_pass (nat_le 1 apdu.p1) (has_shelf apdu) (not (has_data apdu)) (not seen.adm1) (installed_row state kind apdu.p2 apdu.p1 apdu.body) row is in
    record { priority = at_least apdu.p1 all.0; shelf = below apdu.p2 all.1; row_is = all.2 }

-- ---- the row

pub record IsNew (state : Persistent) (kind : Option ℕ) (row : Registration) : Type 0 where
  pub sequence : row.sequence ≡ state.next_sequence
  pub kind_is : kind ≡ Some row.kind

made : (a b c d : Bool) (new row : Registration) → faulty_if a Narrow (faulty_if b Taken (faulty_if c MenuFull (faulty_if d Spent (Ok new)))) ≡ Ok row → new ≡ row
made false false false false new row is = cc is
made false false false true new row is = cc is
made false false true d new row is = cc is
made false true c d new row is = cc is
made true b c d new row is = cc is

by_found : (state : Persistent) (found : Option Installation) (kind : Option ℕ) (shelf priority : ℕ) (row : Registration)
    → unless_missing found BadData (λ installation. unless_missing kind NoBox (λ known.
    let each = new_row state shelf priority known installation in
    faulty_if (needs_wide each && not state.is_wide) Narrow (faulty_if (is_taken state.rows each) Taken (faulty_if (is_menu_full state.rows each) MenuFull (faulty_if (state.next_sequence == last_sequence) Spent (Ok each)))))) ≡ Ok row
    → IsNew state kind row
by_found state None kind shelf priority row is = cc is
by_found state (Some installation) None shelf priority row is = cc is
by_found state (Some installation) (Some known) shelf priority row is =
    let each = new_row state shelf priority known installation in
    let same : each ≡ row = made (needs_wide each && not state.is_wide) (is_taken state.rows each) (is_menu_full state.rows each) (state.next_sequence == last_sequence) each row is in
    record { sequence = sym (ap (λ (r : Registration). r.sequence) same); kind_is = ap (λ (r : Registration). Some r.kind) same }

pub is_new : (state : Persistent) (kind : Option ℕ) (shelf priority : ℕ) (content : List ℕ) (row : Registration) → installed_row state kind shelf priority content ≡ Ok row → IsNew state kind row
is_new state kind shelf priority content row is = by_found state (installation_of content) kind shelf priority row is

-- ---- the others

abbrev AreBelow : Persistent → Type 0
AreBelow state = All (λ row. row.sequence < state.next_sequence) state.rows

state_in_is : (content : List ℕ) → AreBelow (state_in content) → All (λ row. row.sequence < (table_of content).next) (rows_of (table_of content))
unfolding state_of
state_in_is content below = below

pub rows_below : (mark : ℕ) (told : Option (List ℕ)) (table : Loaded) → Agrees mark told table → All (λ row. row.sequence < table.next) (rows_of table)
rows_below mark told table agrees =
    let is = standing_sound mark agrees.content agrees.state agrees.stands.long agrees.stands.decoded in
    subst (λ (t : Loaded). All (λ row. row.sequence < t.next) (rows_of t)) agrees.stands.entries
    (state_in_is agrees.content (subst AreBelow is.0 (λ k d low. (is.1.rows k d low).sequence)))

-- two rows of which one alone is for call control
answers : (codes : List ℕ) → Contains codes call_control_code → list_any (λ code. code == call_control_code) codes ≡ true
answers [] there = absurd (omega (arith, there.1))
answers (code ∷ codes) (zero, low, is) = ap (λ (b : Bool). b || list_any (λ c. c == call_control_code) codes) (same code call_control_code is) where
  same : (a b : ℕ) → a ≡ b → (a == b) ≡ true
  same a b is = grind (arith, nat_tests, is)
answers (code ∷ codes) (suc k, low, is) = later (code == call_control_code) (answers codes (k, omega (arith, low), is)) where
  later : (b : Bool) → list_any (λ c. c == call_control_code) codes ≡ true → (b || list_any (λ c. c == call_control_code) codes) ≡ true
  later true rest = refl
  later false rest = rest

any_row : (rows : List Registration) (k : ℕ) (d : Registration) → k < length rows → list_any is_call_control rows ≡ false → is_call_control (get_or rows k d) ≡ false
any_row [] k d low none = absurd (omega (arith, low))
any_row (row ∷ rows) zero d low none = first (is_call_control row) (list_any is_call_control rows) none where
  first : (a b : Bool) → (a || b) ≡ false → a ≡ false
  first true b is = is
  first false b is = refl
any_row (row ∷ rows) (suc k) d low none = any_row rows k d (omega (arith, low)) (second (is_call_control row) (list_any is_call_control rows) none) where
  second : (a b : Bool) → (a || b) ≡ false → b ≡ false
  second true b is = cc is
  second false b is = is

no_sharing : (rows : List Registration) (row : Registration) → is_taken rows row ≡ false → All (λ other. other.shelf ≢ row.shelf → ShareNoCallControl row other) rows
no_sharing rows row free = λ k d low apart own others.
    let none : list_any is_call_control rows ≡ false = second_false (is_call_control row) (list_any is_call_control rows) (or_parts (list_any (is_on row.shelf) rows) (is_call_control row && list_any is_call_control rows) free).1 (answers row.codes own) in
    let never : false ≡ true = sym (any_row rows k d low none) ∙ answers (get_or rows k d).codes others in
    cc never

room_for : (text rows : ℕ) → (not (text == 0) && nat_le 16 rows) ≡ false → (text ≡ 0) ⊎ (rows < 16)
room_for text rows is = by_text (text == 0) refl where
  few : nat_le 16 rows ≡ false → rows < 16
  few is = grind (arith, nat_tests, is)

  by_text : (b : Bool) → (text == 0) ≡ b → (text ≡ 0) ⊎ (rows < 16)
  by_text true zero_is = inl (grind (arith, nat_tests, zero_is))
  by_text false other = inr (few (sym (ap (λ (b : Bool). not b && nat_le 16 rows) other) ∙ is))

-- ---- it may stand there

module _ (tables : StatesAreOfTables) (sound : InstalledRowsAreSound) (table : Loaded) (kind : Option ℕ) (seen : Verified) (apdu : Apdu) (row : Row) (known : IfSome kind IsAppletKind)
    (is : install_tried (state_of table []) kind seen apdu ≡ Ok (registration_of apdu.p2 row)) where
  abbrev reg : Registration
  reg = registration_of apdu.p2 row

  tried : IsTried (state_of table []) kind apdu reg
  tried = is_tried (state_of table []) kind seen apdu reg is

  new : IsNew (state_of table []) kind reg
  new = is_new (state_of table []) kind apdu.p2 apdu.p1 apdu.body reg tried.row_is

  pub low_shelf : apdu.p2 < 32
  low_shelf = tried.shelf

  pub kind_there : kind ≡ Some row.kind
  kind_there = new.kind_is

  sound_row : IsSoundRow table.wide (table.next + 1) reg
  sound_row =
      subst (λ (n : ℕ). IsSoundRow table.wide (n + 1) reg) (tables table []).next
      (subst (λ (w : Bool). IsSoundRow w ((state_of table []).next_sequence + 1) reg) (tables table []).wide
      (sound (state_of table []) kind apdu.p2 apdu.p1 apdu.body reg tried.shelf tried.priority known tried.row_is))

  pub may_install : All (λ other. other.sequence < table.next) (rows_of table) → row.used ≡ true → row.events < 4096 → IsAdmitted table apdu.p2 row → MayInstall table apdu.p2 row
  may_install below used events admitted = record {
    used = used;
    left = admitted.left;
    fits = record {
      sound = sound_row;
      sequence = λ k d low apart same.
          let less = below k d low in
          let next : row.sequence ≡ table.next = new.sequence ∙ (tables table []).next in
          omega (arith, less, next, same);
      call_control = no_sharing (rows_of table) reg admitted.free;
      text = room_for (length row.text) (count_by has_text (rows_of table)) admitted.menu;
    };
    events = events;
  }
