-- Lines that describe a card add no row that is not of the kind of the box on its shelf.
use Rattle.std.proofs.Common.{◌≡◌, ℕ, List, [], ◌∷◌, ◌++◌, Bool, true, false, cond, Option, Some, None, Result, Ok, Err, refl, subst, arith, All, nat_lt, filter}
use Rattle.std.proofs.lemmas.List.Elements.{All-append, All-cons, All-filter}
use Rattle.uicc_types.specs.declared.identifiers.FileId.{FileId}
use Rattle.script_form.specs.declared.lines.ScriptLine.{ScriptLine}
use Rattle.script_form.specs.declared.lines.ScriptLine.TheVariants.{Passed, Start, Reset, Df, Transparent, Linear, Cyclic, Fill, Rec, Pin, Row, Apdu, Tpdu, Cut, Fail, ReadFail, UserOk, UserEnd, UserBack, UserNone, UserType, UserPick, UserPress, UserIdle, UserDial, NetPlace, NetPoll, Time, Cmd, Echo, Lose}
use Rattle.card_state.specs.NewFiles.{rule_from}
use Rattle.card_state.specs.Persistent.{Contents, Files, Bytes, Records, File, Registration, Persistent, Rule}
use Rattle.card_state.specs.Sections.{Installation, are_of_line, bytes_filled, df_added, df_for, ef_added, id_for, if_df, if_file, if_good, if_installed, new_df, new_ef, record_filled, row_added, with_file, with_row}
use Rattle.card_state.specs.declared.faults.SectionFault.{SectionFault}
use Rattle.card_state.specs.declared.faults.SectionFault.TheVariants.{Bad}
use Rattle.card_state.specs.declared.shapes.Shape.{Shape}
use Rattle.card_state.specs.declared.shapes.Shape.TheVariants as shape
use Rattle.applet_trait.specs.Minds.{AppletState, kind_on}
use Rattle.section_lines.specs.Script.{described, then_on, with_lines}
use Rattle.section_lines.proofs.WithLinesLemmas.{splits}
use Rattle.section_lines.specs.RowLaws.{IsOfItsBox, AreOfTheirBoxes, RowsHaveBoxes}

-- ---- one line

abbrev AreKept : List (Option AppletState) → Result Persistent SectionFault → Type 0
AreKept cast (Ok state) = AreOfTheirBoxes cast state
AreKept cast (Err fault) = Unit {0}

good_kept : (cast : List (Option AppletState)) (good room : Bool) (state : Persistent) → AreOfTheirBoxes cast state → AreKept cast (if_good good room state)
good_kept cast true true state all = all
good_kept cast true false state all = tt
good_kept cast false room state all = tt

in_df : (cast : List (Option AppletState)) (df : Option File) (known : File → Result Persistent SectionFault) → ((file : File) → AreKept cast (known file)) → AreKept cast (if_df df known)
in_df cast None known each = tt
in_df cast (Some df) known each = each df

in_file : (cast : List (Option AppletState)) (file : Option File) (known : File → Result Persistent SectionFault) → ((file : File) → AreKept cast (known file)) → AreKept cast (if_file file known)
in_file cast None known each = tt
in_file cast (Some file) known each = each file

in_line : (cast : List (Option AppletState)) (good : Bool) (outcome : Result Persistent SectionFault) → AreKept cast outcome → AreKept cast (cond good outcome (Err Bad))
in_line cast true outcome kept = kept
in_line cast false outcome kept = tt

df_kept : (cast : List (Option AppletState)) (state : Persistent) (path : List FileId) → AreOfTheirBoxes cast state → AreKept cast (df_added state path)
df_kept cast state path all = in_df cast (df_for state.files path) _ (λ df. good_kept cast _ _ (with_file state (new_df state df (id_for path))) all)

ef_kept : (cast : List (Option AppletState)) (state : Persistent) (path : List FileId) (shape : Shape) (short : Option ℕ) (rule : Option Rule) → AreOfTheirBoxes cast state → AreKept cast (ef_added state path shape short rule)
ef_kept cast state path shape short rule all = in_df cast (df_for state.files path) _ (λ df. good_kept cast _ _ (with_file state (new_ef state df (id_for path) shape short rule)) all)

bytes_kept : (cast : List (Option AppletState)) (state : Persistent) (number offset : ℕ) (bytes : List ℕ) (contents : Contents) → AreOfTheirBoxes cast state → AreKept cast (bytes_filled state number offset bytes contents)
bytes_kept cast state number offset bytes (Bytes old) all = good_kept cast _ true _ all
bytes_kept cast state number offset bytes Files all = tt
bytes_kept cast state number offset bytes (Records old) all = tt

record_kept : (cast : List (Option AppletState)) (state : Persistent) (number index : ℕ) (bytes : List ℕ) (contents : Contents) → AreOfTheirBoxes cast state → AreKept cast (record_filled state number index bytes contents)
record_kept cast state number index bytes (Records old) all = good_kept cast _ true _ all
record_kept cast state number index bytes Files all = tt
record_kept cast state number index bytes (Bytes old) all = tt

with_row_kept : (cast : List (Option AppletState)) (rows : List Registration) (row : Registration) → All (IsOfItsBox cast) rows → IsOfItsBox cast row → All (IsOfItsBox cast) (with_row rows row)
with_row_kept cast rows row all own =
    let before = filter (λ (other : Registration). nat_lt other.shelf row.shelf) rows in
    let after = filter (λ (other : Registration). nat_lt row.shelf other.shelf) rows in
    All-append (IsOfItsBox cast) (before ++ row ∷ []) after
    (All-append (IsOfItsBox cast) before (row ∷ [])
    (All-filter (λ (other : Registration). nat_lt other.shelf row.shelf) (IsOfItsBox cast) rows all)
    (All-cons (IsOfItsBox cast) row [] own (λ k d low. absurd (omega (arith, low)))))
    (All-filter (λ (other : Registration). nat_lt row.shelf other.shelf) (IsOfItsBox cast) rows all)

in_installed : (cast : List (Option AppletState)) (kind : Option ℕ) (found : Option Installation) (known : ℕ → Installation → Result Persistent SectionFault)
    → ((kind' : ℕ) (installed : Installation) → kind ≡ Some kind' → AreKept cast (known kind' installed)) → AreKept cast (if_installed kind found known)
in_installed cast None found known each = tt
in_installed cast (Some kind) None known each = tt
in_installed cast (Some kind) (Some installed) known each = each kind installed refl

row_kept : (cast : List (Option AppletState)) (state : Persistent) (shelf priority : ℕ) (content : List ℕ) → AreOfTheirBoxes cast state → AreKept cast (row_added state shelf priority content (kind_on cast shelf))
row_kept cast state shelf priority content all =
    in_installed cast (kind_on cast shelf) _ _ (λ kind installed is. good_kept cast _ _ _ (with_row_kept cast state.rows _ all is))

described_kept : (cast : List (Option AppletState)) (state : Persistent) (line : ScriptLine) → AreOfTheirBoxes cast state → AreKept cast (described cast state line)
described_kept cast state Passed all = all
described_kept cast state (Df path) all = df_kept cast state path all
described_kept cast state (Transparent path size short rule) all = ef_kept cast state path (shape.Transparent size) short (rule_from rule) all
described_kept cast state (Linear path length count short rule) all = ef_kept cast state path (shape.Linear length count) short (rule_from rule) all
described_kept cast state (Cyclic path length count short rule) all = ef_kept cast state path (shape.Cyclic length count) short (rule_from rule) all
described_kept cast state (Fill path offset bytes) all = in_line cast (are_of_line bytes) _ (in_file cast _ _ (λ file. bytes_kept cast state file.number offset bytes file.contents all))
described_kept cast state (Rec path number bytes) all = in_line cast (are_of_line bytes) _ (in_file cast _ _ (λ file. record_kept cast state file.number number bytes file.contents all))
described_kept cast state (Pin key value enabled unblock) all = good_kept cast _ true _ all
described_kept cast state (Row shelf priority content) all = row_kept cast state shelf priority content all
described_kept cast state Start all = tt
described_kept cast state Reset all = tt
described_kept cast state (Apdu bytes) all = tt
described_kept cast state (Tpdu bytes) all = tt
described_kept cast state (Cut cut) all = tt
described_kept cast state (Fail fail) all = tt
described_kept cast state (ReadFail call) all = tt
described_kept cast state UserOk all = tt
described_kept cast state UserEnd all = tt
described_kept cast state UserBack all = tt
described_kept cast state UserNone all = tt
described_kept cast state (UserType text) all = tt
described_kept cast state (UserPick id) all = tt
described_kept cast state UserPress all = tt
described_kept cast state UserIdle all = tt
described_kept cast state (UserDial digits) all = tt
described_kept cast state (NetPlace place) all = tt
described_kept cast state NetPoll all = tt
described_kept cast state (Time seconds) all = tt
described_kept cast state (Cmd bytes) all = tt
described_kept cast state (Echo channel count) all = tt
described_kept cast state (Lose channel) all = tt

-- ---- all lines

one_more : (cast : List (Option AppletState)) (came : Result Persistent SectionFault) (next : Option Persistent) → AreKept cast came
    → then_on (λ (new : Persistent). Ok (Some new)) came ≡ Ok next → (new : Persistent) × (next ≡ Some new) × AreOfTheirBoxes cast new
one_more cast (Ok new) next kept comes = (new, cc, kept)
one_more cast (Err fault) next kept comes = absurd (cc)

pub rows_have_boxes : RowsHaveBoxes
rows_have_boxes cast [] first state all comes =
    let same : first ≡ state = cc in
    subst (AreOfTheirBoxes cast) same all
rows_have_boxes cast (line ∷ lines) first state all comes =
    let parts = splits cast (Some first) (Some state) line lines comes in
    let next = one_more cast (described cast first line) parts.next (described_kept cast first line all) parts.one in
    rows_have_boxes cast lines next.0 state next.2 (subst (λ (card : Option Persistent). with_lines cast card lines ≡ Ok (Some state)) next.1 parts.others)
