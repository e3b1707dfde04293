-- How much a reader has taken of a text.
use Rattle.std.proofs.Common.{◌≡◌, ◌≢◌, ℕ, ◌+◌, ◌≤◌, ◌<◌, ◌⊎◌, min, Bool, true, false, List, [], ◌∷◌, ◌++◌, length, Option, Some, None, inl, inr, refl, sym, ap, subst, ◌∙◌, append_assoc, arith, append-nil, length-append, length-drop}
use Rattle.byte_streams.specs.Lines.{LineList, known}
use Rattle.byte_streams.specs.Reading.{HasRead, IsReadOut, IsSpent, IsTakenFor, IsWithin, OnLine, Reading, UsesRoom}
use Rattle.byte_streams.specs.ReaderSteps.{Continues, after_line}
use Rattle.byte_streams.specs.declared.next_line.NextLine.{NextLine}
use Rattle.byte_streams.specs.declared.next_line.NextLine.TheVariants.{Line, End, TooLong, Failed}
use Rattle.byte_streams.specs.declared.window.TheConstants.{SIZE}
use Rattle.byte_streams.proofs.BeginsBadLemmas.{known_none}
use Rattle.byte_streams.proofs.NextLineLemmas.{nothing_left}
use Rattle.byte_streams.proofs.ReadingLemmas.{HasRead_same, some_is}

-- more was taken
pub within_on : (text : List ℕ) (old mid : Reading) (left left_then : Option (List ℕ)) → Continues old left mid left_then → length mid.held ≤ min SIZE (mid.room + 1) → IsWithin text old left → IsWithin text mid left_then
within_on text old mid left None step small within = let handed = step.handed in let told = within.told in absurd (cc)
within_on text old mid left (Some rest) step small within =
    let handed : within.rest ≡ step.part ++ rest = some_is _ _ (sym within.told ∙ step.handed) in
    let held = ap length step.held ∙ length-append old.held step.part in
    let more = length-append within.taken step.part in
    let counted = within.counted in
    let room = step.room in
    record {
      taken = within.taken ++ step.part;
      rest = rest;
      told = refl;
      whole = within.whole ∙ ap (λ (bytes : List ℕ). within.taken ++ bytes) handed ∙ sym (append_assoc within.taken step.part rest);
      counted = omega arith;
      held_few = omega arith;
    }

-- a line was handed out, or none
pub within_after : (text : List ℕ) (mid new : Reading) (left : Option (List ℕ)) (line size : ℕ) (result : NextLine) → OnLine result (new ≡ after_line mid line size) → OnLine result (size ≤ mid.room) → (result ≢ Line → new ≡ mid)
    → size ≤ length mid.held → IsWithin text mid left → IsWithin text new left
within_after text mid new left line size Line after fits stays inside within =
    let held = length-drop size mid.held in
    let counted = within.counted in
    let few = within.held_few in
    let then : IsWithin text (after_line mid line size) left = record { taken = within.taken; rest = within.rest; told = within.told; whole = within.whole; counted = omega arith; held_few = omega arith } in
    subst (λ (r : Reading). IsWithin text r left) (sym after) then
within_after text mid new left line size End after fits stays inside within = subst (λ (r : Reading). IsWithin text r left) (sym (stays (λ e. cc))) within
within_after text mid new left line size TooLong after fits stays inside within = subst (λ (r : Reading). IsWithin text r left) (sym (stays (λ e. cc))) within
within_after text mid new left line size Failed after fits stays inside within = subst (λ (r : Reading). IsWithin text r left) (sym (stays (λ e. cc))) within

-- a line takes up its bytes and its end
pub room_after : (mid new : Reading) (line size : ℕ) (result : NextLine) → OnLine result (new ≡ after_line mid line size) → OnLine result (size ≤ mid.room) → (result ≢ Line → new ≡ mid)
    → 0 < size → UsesRoom result mid.room new.room
room_after mid new line size Line after fits stays some = rw after (omega arith)
room_after mid new line size End after fits stays some = ap (λ (r : Reading). r.room) (stays (λ e. cc))
room_after mid new line size TooLong after fits stays some = ap (λ (r : Reading). r.room) (stays (λ e. cc))
room_after mid new line size Failed after fits stays some = ap (λ (r : Reading). r.room) (stays (λ e. cc))

-- the lines that were handed out alone are known without what is held, or they are all
known_at : (text : List ℕ) (given : LineList) (mid : Reading) (left : Option (List ℕ)) (read : HasRead text given mid left) → (IsSpent mid → ⊥) → known read.passed ≡ given
known_at text given mid left read more =
    sym (ap known (append-nil read.passed)) ∙ read.known_are more [] ∙ ap (λ (found : LineList). given ++ found) (known_none mid.room [] (λ place lt. absurd (omega arith)) (omega arith)) ∙ append-nil given

all_at : (text : List ℕ) (given : LineList) (mid : Reading) (left : Option (List ℕ)) → HasRead text given mid left → IsSpent mid → IsReadOut text given left
all_at text given mid left read spent = record {
  told = read.told ∙ ap Some (read.at_end spent.0);
  lines_are = read.lines_are ∙ ap (λ (found : LineList). given ++ found) (nothing_left mid read.rest spent.0 spent.1) ∙ append-nil given;
}

known_or_all : (text : List ℕ) (given : LineList) (mid : Reading) (left : Option (List ℕ)) (read : HasRead text given mid left) (ended : Bool) (held : List ℕ) → mid.ended ≡ ended → mid.held ≡ held → (known read.passed ≡ given) ⊎ IsReadOut text given left
known_or_all text given mid left read true [] ends none = inr (all_at text given mid left read (ends, none))
known_or_all text given mid left read true (byte ∷ held) ends some = inl (known_at text given mid left read (λ spent. let none = spent.1 in cc))
known_or_all text given mid left read false held goes_on is = inl (known_at text given mid left read (λ spent. let ends = spent.0 in cc))

pub taken_for : (text : List ℕ) (given : LineList) (old mid : Reading) (left left_then : Option (List ℕ)) → Continues old left mid left_then → length mid.held ≤ min SIZE (mid.room + 1) → HasRead text given old left → IsTakenFor text given left_then
taken_for text given old mid left left_then step small read_so_far =
    let read = HasRead_same text given old mid left left_then step read_so_far in
    record {
      first = read.passed;
      piece = mid.held;
      rest = read.rest;
      told = read.told;
      whole = read.whole;
      short = omega arith;
      known_are = known_or_all text given mid left_then read mid.ended mid.held refl refl;
    }
