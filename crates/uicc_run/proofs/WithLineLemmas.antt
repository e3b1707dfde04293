-- How lines move a run, and why no two ways through a text stop at different lines.
use Rattle.std.proofs.Common.{◌≡◌, ℕ, Bool, true, false, List, [], ◌∷◌, ◌++◌, Option, Some, None, Ok, Err, refl, sym, ap, ◌∙◌, subst}
use Rattle.std.proofs.lemmas.Bool.{false≢true}
use Rattle.std.proofs.lemmas.List.Elements.{All-head, All-tail}
use Rattle.std.specs.List.{AllPass}
use Rattle.byte_streams.specs.Lines.{LineList}
use Rattle.script_form.specs.Forms.{IsLine}
use Rattle.script_form.specs.declared.lines.ScriptLine.{ScriptLine}
use Rattle.script_form.specs.declared.lines.ScriptLine.TheVariants.{Start}
use Rattle.script_reader.specs.Behind.{IsBadBehind}
use Rattle.script_reader.specs.Said.{Each}
use Rattle.card_state.specs.Persistent.{Persistent}
use Rattle.card_state.specs.declared.faults.SectionFault.TheVariants.{Bad, NoRoom as has_no_room}
use Rattle.applet_trait.specs.Minds.{AppletState}
use Rattle.section_lines.specs.SectionReading.{IsBadHere, IsTooMuchHere}
use Rattle.section_lines.specs.Script.{with_line, with_lines}
use Rattle.section_lines.proofs.WithLinesLemmas.{splits}
use Rattle.bip_runs.proofs.IsLineLemmas.{Agree}

-- the boxes of the applets, and which lines may stand after `start`
pub record Rules : Type 0 where
  pub cast : List (Option AppletState)
  pub may : ScriptLine → Bool

-- the card that the lines before `start` describe so far, or the one that they described
pub data Stage : Type 0 where
  Before : Option Persistent → Stage
  Behind : Option Persistent → Stage

abbrev pub Moves : Rules → Stage → ScriptLine → Stage → Type 0
Moves rules (Before old) line (Before new) = with_line rules.cast old line ≡ Ok new
Moves rules (Before old) line (Behind card) = (line ≡ Start) × (card ≡ old)
Moves rules (Behind old) line (Before new) = ⊥
Moves rules (Behind old) line (Behind card) = (rules.may line ≡ true) × (card ≡ old)

-- a line moves a run, and others move it on
pub record Goes (rules : Rules) (R : List ℕ → ScriptLine → Type 0) (from : Stage) (bytes : List ℕ) (Rest : Stage → Type 0) : Type 0 where
  pub line : ScriptLine
  pub middle : Stage
  pub read : R bytes line
  pub moves : Moves rules from line middle
  pub rest : Rest middle

abbrev pub Walks : Rules → (List ℕ → ScriptLine → Type 0) → Stage → LineList → Stage → Type 0
Walks rules R from [] to = from ≡ to
Walks rules R from (None ∷ more) to = ⊥
Walks rules R from (Some bytes ∷ more) to = Goes rules R from bytes (λ middle. Walks rules R middle more to)

-- ---- from lists of lines

same_card : {x y : Option Persistent} → (rules : Rules) → with_lines rules.cast x [] ≡ Ok y → x ≡ y
same_card rules e = cc

pub walks_section : (rules : Rules) (R : List ℕ → ScriptLine → Type 0) (found : LineList) (section : List ScriptLine) (card new : Option Persistent) → Each R found section → with_lines rules.cast card section ≡ Ok new → Walks rules R (Before card) found (Before new)
walks_section rules R [] [] card new each is = ap Before (same_card rules is)
walks_section rules R (None ∷ found) [] card new each is = absurd each
walks_section rules R (Some bytes ∷ found) (line ∷ section) card new each is =
    let parts = splits rules.cast card new line section is in
    record { line = line; middle = Before parts.next; read = each.0; moves = parts.one; rest = walks_section rules R found section parts.next new each.1 parts.others }
walks_section rules R found section card new each is = absurd each

walks_played : (rules : Rules) (R : List ℕ → ScriptLine → Type 0) (found : LineList) (played : List ScriptLine) (card : Option Persistent) → Each R found played → AllPass rules.may played → Walks rules R (Behind card) found (Behind card)
walks_played rules R [] [] card each pass = refl
walks_played rules R (None ∷ found) [] card each pass = absurd each
walks_played rules R (Some bytes ∷ found) (line ∷ played) card each pass = record {
  line = line;
  middle = Behind card;
  read = each.0;
  moves = (All-head (λ l. rules.may l ≡ true) line played pass, refl);
  rest = walks_played rules R found played card each.1 (All-tail (λ l. rules.may l ≡ true) line played pass);
}
walks_played rules R found played card each pass = absurd each

pub walks_whole : (rules : Rules) (R : List ℕ → ScriptLine → Type 0) (found : LineList) (section played : List ScriptLine) (card new : Option Persistent) → Each R found (section ++ Start ∷ played) → with_lines rules.cast card section ≡ Ok new → AllPass rules.may played
    → Walks rules R (Before card) found (Behind new)
walks_whole rules R [] [] played card new each is pass = absurd each
walks_whole rules R [] (line ∷ section) played card new each is pass = absurd each
walks_whole rules R (None ∷ found) [] played card new each is pass = absurd each
walks_whole rules R (None ∷ found) (line ∷ section) played card new each is pass = absurd each
walks_whole rules R (Some bytes ∷ found) [] played card new each is pass = record {
  line = Start;
  middle = Behind new;
  read = each.0;
  moves = (refl, sym (same_card rules is));
  rest = walks_played rules R found played new each.1 pass;
}
walks_whole rules R (Some bytes ∷ found) (line ∷ section) played card new each is pass =
    let parts = splits rules.cast card new line section is in
    record { line = line; middle = Before parts.next; read = each.0; moves = parts.one; rest = walks_whole rules R found section played parts.next new each.1 parts.others pass }

-- ---- one way

no_start_line : (rules : Rules) (card new : Option Persistent) → with_line rules.cast card Start ≡ Ok new → ⊥
no_start_line rules None new is = cc
no_start_line rules (Some state) new is = cc

start_has_room : (rules : Rules) (card : Option Persistent) → with_line rules.cast card Start ≡ Err has_no_room → ⊥
start_has_room rules None is = cc
start_has_room rules (Some state) is = cc

start_adds_nothing : (rules : Rules) (card new : Option Persistent) (line : ScriptLine) → line ≡ Start → with_line rules.cast card line ≡ Ok new → ⊥
start_adds_nothing rules card new line starts is = no_start_line rules card new (subst (λ l. with_line rules.cast card l ≡ Ok new) starts is)

same_next : (rules : Rules) (old new other : Option Persistent) (line : ScriptLine) → with_line rules.cast old line ≡ Ok new → with_line rules.cast old line ≡ Ok other → new ≡ other
same_next rules old new other line a b = cc

moves_one : (rules : Rules) (from to other : Stage) (line : ScriptLine) → Moves rules from line to → Moves rules from line other → to ≡ other
moves_one rules (Before old) (Before new) (Before other) line a b = ap Before (same_next rules old new other line a b)
moves_one rules (Before old) (Before new) (Behind other) line a b = absurd (start_adds_nothing rules old new line b.0 a)
moves_one rules (Before old) (Behind new) (Before other) line a b = absurd (start_adds_nothing rules old other line a.0 b)
moves_one rules (Before old) (Behind new) (Behind other) line a b = ap Behind (a.1 ∙ sym b.1)
moves_one rules (Behind old) (Before new) other line a b = absurd a
moves_one rules (Behind old) (Behind new) (Before other) line a b = absurd b
moves_one rules (Behind old) (Behind new) (Behind other) line a b = ap Behind (a.1 ∙ sym b.1)

-- after `start` a run stays there
goes_behind : (rules : Rules) (old : Option Persistent) (line : ScriptLine) (to : Stage) → Moves rules (Behind old) line to → to ≡ Behind old
goes_behind rules old line (Before new) moves = absurd moves
goes_behind rules old line (Behind new) moves = ap Behind moves.1

stays_behind : (rules : Rules) (R : List ℕ → ScriptLine → Type 0) (found : LineList) (from : Stage) (old new : Option Persistent) → from ≡ Behind old → Walks rules R from found (Before new) → ⊥
stays_behind rules R [] from old new is walk = let same : Behind old ≡ Before new = sym is ∙ walk in cc
stays_behind rules R (None ∷ found) from old new is walk = walk
stays_behind rules R (Some bytes ∷ found) from old new is walk =
    stays_behind rules R found walk.middle old new (goes_behind rules old walk.line walk.middle (subst (λ f. Moves rules f walk.line walk.middle) is walk.moves)) walk.rest

-- ---- where it stops

-- what comes next is bad, or there is no room for it
abbrev pub Stops : Rules → Stage → LineList → Bool → Type 0
Stops rules (Before card) next false = IsBadHere rules.cast card next
Stops rules (Before card) next true = IsTooMuchHere rules.cast card next
Stops rules (Behind card) next false = IsBadBehind rules.may next
Stops rules (Behind card) next true = ⊥

not_ok : (rules : Rules) (card new : Option Persistent) (line : ScriptLine) → with_line rules.cast card line ≡ Err Bad → with_line rules.cast card line ≡ Ok new → ⊥
not_ok rules card new line bad ok = cc

no_room_ok : (rules : Rules) (card new : Option Persistent) (line : ScriptLine) → with_line rules.cast card line ≡ Err has_no_room → with_line rules.cast card line ≡ Ok new → ⊥
no_room_ok rules card new line none ok = cc

no_move : (rules : Rules) (from to : Stage) (bytes : List ℕ) (more : LineList) (why : Bool) (line : ScriptLine) → Stops rules from (Some bytes ∷ more) why → IsLine bytes line → Moves rules from line to → ⊥
no_move rules (Before card) (Before new) bytes more false line stops says moves = not_ok rules card new line (stops line says).1 moves
no_move rules (Before card) (Behind new) bytes more false line stops says moves = (stops line says).0 moves.0
no_move rules (Before card) (Before new) bytes more true line stops says moves =
    no_room_ok rules card new line (subst (λ l. with_line rules.cast card l ≡ Err has_no_room) (sym (stops.1.only line says)) stops.2) moves
no_move rules (Before card) (Behind new) bytes more true line stops says moves =
    start_has_room rules card (subst (λ l. with_line rules.cast card l ≡ Err has_no_room) (sym (stops.1.only line says) ∙ moves.0) stops.2)
no_move rules (Behind card) (Before new) bytes more why line stops says moves = moves
no_move rules (Behind card) (Behind new) bytes more false line stops says moves = false≢true (sym (stops line says) ∙ moves.0)
no_move rules (Behind card) (Behind new) bytes more true line stops says moves = stops

-- a way through the whole text meets no stop
at_end_of : (rules : Rules) (from : Stage) (card : Option Persistent) (why : Bool) → from ≡ Behind card → Stops rules from [] why → ⊥
at_end_of rules from card false is stops = subst (λ f. Stops rules f [] false) is stops
at_end_of rules from card true is stops = subst (λ f. Stops rules f [] true) is stops

pub whole_no_stop : (rules : Rules) (R S : List ℕ → ScriptLine → Type 0) → Agree R S → ((bytes : List ℕ) (line : ScriptLine) → S bytes line → IsLine bytes line) → (found next : LineList) (from to : Stage) (why : Bool) (card : Option Persistent)
    → Walks rules R from found to → Stops rules to next why → Walks rules S from (found ++ next) (Behind card) → ⊥
whole_no_stop rules R S agree says [] [] from to why card walk stops whole = at_end_of rules from card why whole (subst (λ t. Stops rules t [] why) (sym walk) stops)
whole_no_stop rules R S agree says [] (None ∷ more) from to why card walk stops whole = whole
whole_no_stop rules R S agree says [] (Some bytes ∷ more) from to why card walk stops whole =
    no_move rules from whole.middle bytes more why whole.line (subst (λ t. Stops rules t (Some bytes ∷ more) why) (sym walk) stops) (says bytes whole.line whole.read) whole.moves
whole_no_stop rules R S agree says (None ∷ found) next from to why card walk stops whole = walk
whole_no_stop rules R S agree says (Some bytes ∷ found) next from to why card walk stops whole =
    let lines = agree bytes walk.line whole.line walk.read whole.read in
    let same = moves_one rules from walk.middle whole.middle whole.line (subst (λ l. Moves rules from l walk.middle) lines walk.moves) whole.moves in
    whole_no_stop rules R S agree says found next whole.middle to why card (subst (λ m. Walks rules R m found to) same walk.rest) stops whole.rest

-- a way beyond `start` meets no stop before it
pub passes_stop : (rules : Rules) (R S : List ℕ → ScriptLine → Type 0) → Agree R S → ((bytes : List ℕ) (line : ScriptLine) → R bytes line → IsLine bytes line) → (found more other next : LineList) (from : Stage) (why : Bool) (card stopped : Option Persistent)
    → Walks rules R from found (Behind card) → Walks rules S from other (Before stopped) → Stops rules (Before stopped) next why → found ++ more ≡ other ++ next → ⊥
passes_stop rules R S agree says [] more other next from why card stopped walk stop stops same = stays_behind rules S other from card stopped walk stop
passes_stop rules R S agree says (None ∷ found) more other next from why card stopped walk stop stops same = walk
passes_stop rules R S agree says (Some bytes ∷ found) more [] next from why card stopped walk stop stops same =
    no_move rules from walk.middle bytes (found ++ more) why walk.line (subst (λ s. Stops rules s (Some bytes ∷ (found ++ more)) why) (sym stop) (subst (λ n. Stops rules (Before stopped) n why) (sym same) stops)) (says bytes walk.line walk.read) walk.moves
passes_stop rules R S agree says (Some bytes ∷ found) more (None ∷ other) next from why card stopped walk stop stops same = stop
passes_stop rules R S agree says (Some bytes ∷ found) more (Some others ∷ other) next from why card stopped walk stop stops same =
    let heads : bytes ≡ others = cc in
    let tails : found ++ more ≡ other ++ next = cc in
    let lines = agree others walk.line stop.line (subst (λ b. R b walk.line) heads walk.read) stop.read in
    let one = moves_one rules from walk.middle stop.middle stop.line (subst (λ l. Moves rules from l walk.middle) lines walk.moves) stop.moves in
    passes_stop rules R S agree says found more other next stop.middle why card stopped (subst (λ m. Walks rules R m found (Behind card)) one walk.rest) stop.rest stops tails

-- two ways beyond `start` have one card after it
stays_there : (rules : Rules) (R : List ℕ → ScriptLine → Type 0) (found : LineList) (from to : Stage) (card : Option Persistent) → from ≡ Behind card → Walks rules R from found to → to ≡ Behind card
stays_there rules R [] from to card is walk = sym walk ∙ is
stays_there rules R (None ∷ found) from to card is walk = absurd walk
stays_there rules R (Some bytes ∷ found) from to card is walk =
    stays_there rules R found walk.middle to card (goes_behind rules card walk.line walk.middle (subst (λ f. Moves rules f walk.line walk.middle) is walk.moves)) walk.rest

behind_same : {x y : Option Persistent} → Behind x ≡ Behind y → x ≡ y
behind_same e = cc

pub one_card : (rules : Rules) (R S : List ℕ → ScriptLine → Type 0) → Agree R S → (found more other next : LineList) (from : Stage) (card another : Option Persistent)
    → Walks rules R from found (Behind card) → Walks rules S from other (Behind another) → found ++ more ≡ other ++ next → card ≡ another
one_card rules R S agree [] more other next from card another walk walk_too same = behind_same (sym (stays_there rules S other from (Behind another) card walk walk_too))
one_card rules R S agree (None ∷ found) more other next from card another walk walk_too same = absurd walk
one_card rules R S agree (Some bytes ∷ found) more [] next from card another walk walk_too same = behind_same (stays_there rules R (Some bytes ∷ found) from (Behind card) another walk_too walk)
one_card rules R S agree (Some bytes ∷ found) more (None ∷ other) next from card another walk walk_too same = absurd walk_too
one_card rules R S agree (Some bytes ∷ found) more (Some others ∷ other) next from card another walk walk_too same =
    let heads : bytes ≡ others = cc in
    let tails : found ++ more ≡ other ++ next = cc in
    let lines = agree others walk.line walk_too.line (subst (λ b. R b walk.line) heads walk.read) walk_too.read in
    let one = moves_one rules from walk.middle walk_too.middle walk_too.line (subst (λ l. Moves rules from l walk.middle) lines walk.moves) walk_too.moves in
    one_card rules R S agree found more other next walk_too.middle card another (subst (λ m. Walks rules R m found (Behind card)) one walk.rest) walk_too.rest tails

-- two stops are one
clashing : (rules : Rules) (from : Stage) (next : LineList) → Stops rules from next false → Stops rules from next true → ⊥
clashing rules (Before card) [] bad much = much
clashing rules (Before card) (None ∷ more) bad much = much
clashing rules (Before card) (Some bytes ∷ more) bad much =
    let out = (bad much.0 much.1.so).1 in let none = much.2 in cc
clashing rules (Behind card) next bad much = much

whys_same : (rules : Rules) (from : Stage) (next : LineList) (why other : Bool) → Stops rules from next why → Stops rules from next other → why ≡ other
whys_same rules from next false false first second = refl
whys_same rules from next true true first second = refl
whys_same rules from next false true first second = absurd (clashing rules from next first second)
whys_same rules from next true false first second = absurd (clashing rules from next second first)

pub record AreSame (found other : LineList) (why another : Bool) : Type 0 where
  pub place : found ≡ other
  pub cause : why ≡ another

one_more_line : (bytes others : List ℕ) (found other : LineList) (why another : Bool) → bytes ≡ others → AreSame found other why another → AreSame (Some bytes ∷ found) (Some others ∷ other) why another
one_more_line bytes others found other why another same are = record { place = ap (λ b. Some b ∷ found) same ∙ ap (λ l. Some others ∷ l) are.place; cause = are.cause }

pub one_stop : (rules : Rules) (R S : List ℕ → ScriptLine → Type 0) → Agree R S → ((bytes : List ℕ) (line : ScriptLine) → R bytes line → IsLine bytes line) → ((bytes : List ℕ) (line : ScriptLine) → S bytes line → IsLine bytes line)
    → (found other next behind : LineList) (from to there : Stage) (why another : Bool) → Walks rules R from found to → Stops rules to next why → Walks rules S from other there → Stops rules there behind another → found ++ next ≡ other ++ behind → AreSame found other why another
one_stop rules R S agree says also [] [] next behind from to there why another walk stops walk_too stops_too same =
    record { place = refl; cause = whys_same rules from next why another (subst (λ t. Stops rules t next why) (sym walk) stops) (subst (λ n. Stops rules from n another) (sym same) (subst (λ t. Stops rules t behind another) (sym walk_too) stops_too)) }
one_stop rules R S agree says also [] (None ∷ other) next behind from to there why another walk stops walk_too stops_too same = absurd walk_too
one_stop rules R S agree says also [] (Some others ∷ other) next behind from to there why another walk stops walk_too stops_too same =
    absurd (no_move rules from walk_too.middle others (other ++ behind) why walk_too.line (subst (λ n. Stops rules from n why) same (subst (λ t. Stops rules t next why) (sym walk) stops)) (also others walk_too.line walk_too.read) walk_too.moves)
one_stop rules R S agree says also (None ∷ found) other next behind from to there why another walk stops walk_too stops_too same = absurd walk
one_stop rules R S agree says also (Some bytes ∷ found) [] next behind from to there why another walk stops walk_too stops_too same =
    absurd (no_move rules from walk.middle bytes (found ++ next) another walk.line (subst (λ n. Stops rules from n another) (sym same) (subst (λ t. Stops rules t behind another) (sym walk_too) stops_too)) (says bytes walk.line walk.read) walk.moves)
one_stop rules R S agree says also (Some bytes ∷ found) (None ∷ other) next behind from to there why another walk stops walk_too stops_too same = absurd walk_too
one_stop rules R S agree says also (Some bytes ∷ found) (Some others ∷ other) next behind from to there why another walk stops walk_too stops_too same =
    let heads : bytes ≡ others = cc in
    let tails : found ++ next ≡ other ++ behind = cc in
    let lines = agree others walk.line walk_too.line (subst (λ b. R b walk.line) heads walk.read) walk_too.read in
    let one = moves_one rules from walk.middle walk_too.middle walk_too.line (subst (λ l. Moves rules from l walk.middle) lines walk.moves) walk_too.moves in
    one_more_line bytes others found other why another heads
    (one_stop rules R S agree says also found other next behind walk_too.middle to there why another (subst (λ m. Walks rules R m found to) one walk.rest) stops walk_too.rest stops_too tails)
