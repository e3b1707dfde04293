-- What the outcome of a search for the next line says of what was and what is still to come.
use Rattle.std.proofs.Common.{◌≡◌, ℕ, ◌+◌, ◌-◌, ◌<◌, ◌≤◌, ◌&&◌, min, Bool, true, false, cond, eqb, leb, List, [], ◌∷◌, ◌++◌, length, take, drop, Option, Some, None, refl, sym, ap, subst, ◌∙◌, append_assoc, arith, IfSome, option_map, append-nil, length-take-le}
use Rattle.std.specs.Str.Lines.{strip_carriage_return}
use Rattle.std.proofs.Math.Seq.{drop-length, take-length}
use Rattle.std.proofs.lemmas.Bool.{false≢true, ne_eqb}
use Rattle.byte_streams.specs.declared.next_line.NextLine.{NextLine}
use Rattle.byte_streams.specs.declared.next_line.NextLine.TheVariants.{Line, End, TooLong, Failed}
use Rattle.byte_streams.specs.Lines.{LineList, admitted, last_line, lines_of, lines_within, parts}
use Rattle.byte_streams.specs.declared.limits.TheConstants.{LONGEST_LINE}
use Rattle.byte_streams.specs.declared.window.TheConstants.{SIZE}
use Rattle.byte_streams.specs.Reading.{BeginsBad, Found, HasRead, IsTextCutShort, Leaves, OnLine, Reading, lines_left, pending}
use Rattle.byte_streams.specs.ReaderSteps.{Continues, PassesLast, PassesLine, after_line}
use Rattle.byte_streams.specs.Search.{IsFirstEnd, NoEndBelow}
use Rattle.byte_streams.proofs.BeginsBadLemmas.{IsBad, known_none}
use Rattle.byte_streams.proofs.LineLemmas.{held_at, lines_of_at, none_before, parts_none}
use Rattle.byte_streams.proofs.ReadingLemmas.{HasRead_at, HasRead_same, lines_at, lines_left_same, one_more, pending_at}

-- the reader's line was the first that was pending
pub record Passes (old new : Reading) : Type 0 where
  pub lines_are : (rest : List ℕ) → lines_within old.room (pending old rest) ≡ Some new.line ∷ lines_within new.room (pending new rest)
  pub reads : (text : List ℕ) (given : LineList) (left : Option (List ℕ)) → HasRead text given old left
      → HasRead text (given ++ (Some new.line ∷ [])) new left

passes_line : (old new : Reading) → PassesLine old new → Passes old new
passes_line old new step = record {
  lines_are = λ rest. lines_at old new rest step;
  reads = λ text given left. HasRead_at text given old new left step;
}

-- all that is held, as one part
held_lines : (reading : Reading) (rest : List ℕ) → reading.ended ≡ true → NoEndBelow reading.held (length reading.held) → 0 < length reading.held
    → lines_within reading.room (pending reading rest) ≡ admitted reading.room (length reading.held) reading.held ∷ []
held_lines reading rest ended none some =
    let not_empty : eqb (length reading.held) 0 ≡ false = ne_eqb _ _ (λ empty. omega arith) in
    rw ended (rw (parts_none reading.held none, not_empty) refl)

pub nothing_left : (reading : Reading) (rest : List ℕ) → reading.ended ≡ true → reading.held ≡ [] → lines_within reading.room (pending reading rest) ≡ []
nothing_left reading rest ended empty = rw (ended, empty) refl

last_lines : (old new : Reading) (rest : List ℕ) → PassesLast old new
    → lines_within old.room (pending old rest) ≡ Some new.line ∷ lines_within new.room (pending new rest)
last_lines old new rest step =
    held_lines old rest step.ended step.none step.some
    ∙ (rw (step.line, nothing_left new rest step.stays step.nothing_held) refl)

passes_last : (old new : Reading) → PassesLast old new → Passes old new
passes_last old new step = record {
  lines_are = λ rest. last_lines old new rest step;
  reads = λ text given left read. record {
    passed = read.passed ++ old.held;
    rest = read.rest;
    told = read.told;
    whole = read.whole ∙ sym (append_assoc read.passed old.held read.rest)
        ∙ ap (λ (held : List ℕ). (read.passed ++ old.held) ++ (held ++ read.rest)) (sym step.nothing_held);
    at_end = λ _. read.at_end step.ended;
    lines_are = read.lines_are ∙ ap (λ (found : LineList). given ++ found) (last_lines old new read.rest step) ∙ one_more given _ _;
    known_are = λ goes_on. absurd (goes_on (step.stays, step.nothing_held));
  };
}

-- a line was found: it was handed out, or it is bad
abbrev pub Handed : NextLine → Type 0 → Type 0 → Type 0
Handed Line P Q = P
Handed End P Q = ⊥
Handed TooLong P Q = Q
Handed Failed P Q = ⊥

-- a result that a test decides
decided : (test : Bool) (P Q : Type 0) (result : NextLine) → result ≡ cond test Line TooLong → (test ≡ true → P) → (test ≡ false → Q)
    → Handed result P Q
decided true P Q result is fits bad = subst (λ (r : NextLine). Handed r P Q) (sym is) (fits refl)
decided false P Q result is fits bad = subst (λ (r : NextLine). Handed r P Q) (sym is) (bad refl)

on_line : (test : Bool) (P : Type 0) (result : NextLine) → result ≡ cond test Line TooLong → test ≡ true → OnLine result P → P
on_line test P result is fits = let at = is ∙ ap (λ (b : Bool). cond b Line TooLong) fits in subst (λ (r : NextLine). OnLine r P) at

abbrev pub is_admitted : ℕ → ℕ → ℕ → Bool
is_admitted room line size = leb line LONGEST_LINE && leb size room

admitted_by : (room size size_then len : ℕ) (line : List ℕ) (test : Bool) → length line ≡ len → size ≡ size_then
    → is_admitted room len size_then ≡ test → admitted room size line ≡ cond test (Some line) None
admitted_by room size size_then len line test len_is size_is told = rw (len_is, size_is, told) refl

-- at the end of a line
pub ended_line : (old new : Reading) (place line : ℕ) (result : NextLine) → IsFirstEnd old.held place → line ≤ place
    → take line old.held ≡ strip_carriage_return (take place old.held)
    → result ≡ cond (is_admitted old.room line (place + 1)) Line TooLong
    → OnLine result (new ≡ after_line old line (place + 1))
    → Handed result (Passes old new) (IsBad old)
ended_line old new place line result found ordered stripped is after =
    let body = take place old.held in
    let inside : place < length old.held = found.inside in
    let size : length body ≡ place = length-take-le place old.held (omega arith) in
    let len : length (strip_carriage_return body) ≡ line = ap length (sym stripped) ∙ length-take-le line old.held (omega arith) in
    let none = none_before old.held place found in
    let cut = held_at old.held place found in
    let by_test : (test : Bool) → is_admitted old.room line (place + 1) ≡ test
    → admitted old.room (length body + 1) (strip_carriage_return body) ≡ cond test (Some (strip_carriage_return body)) None =
    λ test told. admitted_by old.room _ _ _ _ test len (ap (λ (n : ℕ). n + 1) size) told in
    decided (is_admitted old.room line (place + 1)) _ _ result is
    (λ fits.
    let new_is = on_line _ _ result is fits after in
    passes_line old new record {
      body = body;
      none = none;
      held = cut ∙ ap (λ (held : List ℕ). body ++ (10 ∷ held)) (sym (ap (λ (r : Reading). r.held) new_is));
      room = ap (λ (r : Reading). r.room) new_is ∙ ap (λ (n : ℕ). old.room - (n + 1)) (sym size);
      ended = ap (λ (r : Reading). r.ended) new_is;
      line = by_test true fits ∙ ap Some (sym stripped ∙ sym (ap (λ (r : Reading). r.line) new_is));
    })
    (λ unfit rest.
    let after_end = cond old.ended (drop (place + 1) old.held) (drop (place + 1) old.held ++ rest) in (
      lines_of last_line (old.room - (length body + 1)) (parts after_end),
      ap (lines_within old.room) (pending_at old.ended old.held body (drop (place + 1) old.held) rest cut)
          ∙ lines_of_at last_line old.room body after_end none
          ∙ ap (λ (l : Option (List ℕ)). l ∷ lines_of last_line (old.room - (length body + 1)) (parts after_end)) (by_test false unfit),
    ))

-- at the end of the input
pub final_line : (old new : Reading) (size : ℕ) (result : NextLine) → old.ended ≡ true → NoEndBelow old.held (length old.held)
    → size ≡ length old.held → 0 < size
    → result ≡ cond (is_admitted old.room size size) Line TooLong
    → OnLine result (new ≡ after_line old size size)
    → Handed result (Passes old new) (IsBad old)
final_line old new size result ended none all some is after =
    let by_test : (test : Bool) → is_admitted old.room size size ≡ test
    → admitted old.room (length old.held) old.held ≡ cond test (Some old.held) None =
    λ test told. admitted_by old.room _ _ _ _ test (sym all) (sym all) told in
    let not_empty : 0 < length old.held = omega arith in
    decided (is_admitted old.room size size) _ _ result is
    (λ fits.
    let new_is = on_line _ _ result is fits after in
    passes_last old new record {
      ended = ended;
      none = none;
      some = not_empty;
      nothing_held = ap (λ (r : Reading). r.held) new_is ∙ ap (λ (n : ℕ). drop n old.held) all ∙ drop-length old.held;
      stays = ap (λ (r : Reading). r.ended) new_is ∙ ended;
      line = by_test true fits
          ∙ ap Some (sym (ap (λ (r : Reading). r.line) new_is ∙ ap (λ (n : ℕ). take n old.held) all ∙ take-length old.held));
    })
    (λ unfit rest. ([], held_lines old rest ended none not_empty ∙ ap (λ (l : Option (List ℕ)). l ∷ []) (by_test false unfit)))

left_after : (old new : Reading) (left : Option (List ℕ)) → Passes old new
    → lines_left old left ≡ option_map (λ more. Some new.line ∷ more) (lines_left new left)
left_after old new None passes = refl
left_after old new (Some rest) passes = ap Some (passes.lines_are rest)

left_bad : (reading : Reading) (left : Option (List ℕ)) → IsBad reading → IfSome (lines_left reading left) BeginsBad
left_bad reading None bad = tt
left_bad reading (Some rest) bad = bad rest

-- what a search for the next line says of the lines that were still to come, and of a text
pub record Outcome (old new : Reading) (left left_then : Option (List ℕ)) (result : NextLine) : Type 0 where
  pub leaves : Leaves result new.line (lines_left old left) (lines_left new left_then)
  pub found : (text : List ℕ) (given : LineList) → HasRead text given old left → Found result text given new left_then

-- where a line was found, be it handed out or bad
pub outcome : (old mid new : Reading) (left left_then : Option (List ℕ)) (result : NextLine) → Continues old left mid left_then
    → Handed result (Passes mid new) (IsBad mid) → Outcome old new left left_then result
outcome old mid new left left_then Line step passes = record {
  leaves = lines_left_same old mid left left_then step ∙ left_after mid new left_then passes;
  found = λ text given read. passes.reads text given left_then (HasRead_same text given old mid left left_then step read);
}
outcome old mid new left left_then TooLong step bad = record {
  leaves = subst (λ (found : Option LineList). IfSome found BeginsBad) (sym (lines_left_same old mid left left_then step)) (left_bad mid left_then bad);
  found = λ text given read.
      let then = HasRead_same text given old mid left left_then step read in
      let first = bad then.rest in (first.0, then.lines_are ∙ ap (λ (found : LineList). given ++ found) first.1);
}
outcome old mid new left left_then End step none = absurd none
outcome old mid new left left_then Failed step none = absurd none

-- no line is known in what is held, and the source failed
pub cut_short : (old new : Reading) (left left_then : Option (List ℕ)) → Continues old left new left_then
    → NoEndBelow new.held (length new.held) → length new.held < min SIZE (new.room + 1) → new.ended ≡ false
    → (text : List ℕ) (given : LineList) → HasRead text given old left → IsTextCutShort text given left_then
cut_short old new left left_then step none fewer goes_on text given read =
    let then = HasRead_same text given old new left left_then step read in
    record {
      taken = then.passed ++ new.held;
      rest = then.rest;
      told = then.told;
      whole = then.whole ∙ sym (append_assoc then.passed new.held then.rest);
      known_are = then.known_are (λ spent. false≢true (sym goes_on ∙ spent.0)) new.held ∙ ap (λ (found : LineList). given ++ found) (known_none new.room new.held none fewer) ∙ append-nil given;
      first = (lines_within new.room (pending new then.rest), then.lines_are);
    }
