-- Where a reader begins, and what is still to come after each of its steps.
use Rattle.std.proofs.Common.{◌≡◌, ℕ, ◌⊎◌, Bool, true, false, cond, List, [], ◌∷◌, ◌++◌, Option, Some, None, inl, inr, refl, sym, ap, subst, ◌∙◌, append_assoc, arith, ◌+◌, append-nil}
use Rattle.std.proofs.lemmas.Bool.{false≢true}
use Rattle.byte_streams.specs.Lines.{LineList, begun_line, known, known_within, last_line, lines_within}
use Rattle.byte_streams.specs.Reading.{HasRead, IsSpent, Reading, Stays, bytes_left, lines_left, pending, IsReadOut, IsTaken, IsTakenFor, IsWithin, at_start}
use Rattle.byte_streams.specs.ReaderSteps.{Continues, PassesLine}
use Rattle.byte_streams.proofs.LineLemmas.{lines_of_at}
use Rattle.byte_streams.specs.declared.limits.TheConstants.{MOST_BYTES}

-- before anything was taken, the source has the whole text, and no line was handed out
pub HasRead-start : (text : List ℕ) (reading : Reading) (left : Option (List ℕ)) → reading ≡ at_start → left ≡ Some text → HasRead text [] reading left
HasRead-start text reading left fresh told =
    let begun : HasRead text [] at_start left = record {
      passed = [];
      rest = text;
      told = told;
      whole = refl;
      at_end = λ ended. absurd (false≢true ended);
      lines_are = refl;
      known_are = λ goes_on more. refl;
    } in
    subst (λ (r : Reading). HasRead text [] r left) (sym fresh) begun

-- nothing was taken before the beginning
pub IsWithin-start : (text : List ℕ) (reading : Reading) (left : Option (List ℕ)) → reading ≡ at_start → left ≡ Some text → IsWithin text reading left
IsWithin-start text reading left fresh told =
    let begun : IsWithin text at_start left = record { taken = []; rest = text; told = told; whole = refl; counted = omega arith; held_few = omega arith } in
    subst (λ (r : Reading). IsWithin text r left) (sym fresh) begun

-- nothing was taken
pub IsTaken-none : (most : ℕ) (text : List ℕ) (left : Option (List ℕ)) → left ≡ Some text → IsTaken most text left
IsTaken-none most text left told = record { taken = []; rest = text; told = told; whole = refl; few = omega arith }

-- at most one byte more is taken than lines may take up
pub IsTaken-within : (text : List ℕ) (reading : Reading) (left : Option (List ℕ)) → IsWithin text reading left → IsTaken (MOST_BYTES + 1) text left
IsTaken-within text reading left within =
    let counted = within.counted in
    let few = within.held_few in
    record { taken = within.taken; rest = within.rest; told = within.told; whole = within.whole; few = omega arith }

-- nothing is taken beyond the end
pub IsTakenFor-read_out : (text : List ℕ) (given : LineList) (left : Option (List ℕ)) → IsReadOut text given left → IsTakenFor text given left
IsTakenFor-read_out text given left out = record {
  first = text;
  piece = [];
  rest = [];
  told = out.told;
  whole = sym (append-nil text);
  short = omega arith;
  known_are = inr out;
}

-- what is pending stays the same while more of it is taken
pending_same : (ended ended_then : Bool) (held held_then part rest rest_then : List ℕ)
    → rest ≡ part ++ rest_then → held_then ≡ held ++ part
    → (ended ≡ true → held_then ≡ held) → (ended ≡ true → ended_then ≡ true) → (ended_then ≡ true → (ended ≡ true) ⊎ (rest_then ≡ []))
    → cond ended held (held ++ rest) ≡ cond ended_then held_then (held_then ++ rest_then)
pending_same true true held held_then part rest rest_then handed taken idle stays at_end = sym (idle refl)
pending_same true false held held_then part rest rest_then handed taken idle stays at_end = absurd (false≢true (stays refl))
pending_same false true held held_then part rest rest_then handed taken idle stays at_end =
    elim (at_end refl) [
      | inl told ↦ absurd (false≢true told)
      | inr none ↦ ap (λ (bytes : List ℕ). held ++ bytes) (handed ∙ ap (λ (bytes : List ℕ). part ++ bytes) none ∙ append-nil part) ∙ sym taken
    ]
pending_same false false held held_then part rest rest_then handed taken idle stays at_end =
    rw (handed, taken) (sym (append_assoc held part rest_then))

pub some_is : (a b : List ℕ) → Some a ≡ Some b → a ≡ b
some_is a b same = cc

pub bytes_left_same : (old new : Reading) (left left_then : Option (List ℕ)) → Continues old left new left_then
    → bytes_left new left_then ≡ bytes_left old left
bytes_left_same old new None None step = refl
bytes_left_same old new None (Some rest) step = let handed = step.handed in cc
bytes_left_same old new (Some rest) None step = let handed = step.handed in cc
bytes_left_same old new (Some rest) (Some rest_then) step =
    let same = pending_same old.ended new.ended old.held new.held step.part rest rest_then (some_is _ _ step.handed) step.held step.idle step.stays step.at_end in
    ap Some (sym same)

-- taking more loses nothing
pub stays : (old new : Reading) (left left_then : Option (List ℕ)) → Continues old left new left_then → Stays old left new left_then
stays old new left left_then step = record { bytes = bytes_left_same old new left left_then step; room = step.room }

pub lines_left_same : (old new : Reading) (left left_then : Option (List ℕ)) → Continues old left new left_then
    → lines_left old left ≡ lines_left new left_then
lines_left_same old new left left_then step =
    sym (rw (step.room, bytes_left_same old new left left_then step) refl)

-- a line that ends is followed by what is pending after it
pub pending_at : (ended : Bool) (held body after rest : List ℕ) → held ≡ body ++ (10 ∷ after)
    → cond ended held (held ++ rest) ≡ body ++ (10 ∷ cond ended after (after ++ rest))
pending_at true held body after rest cut = cut
pending_at false held body after rest cut = ap (λ (bytes : List ℕ). bytes ++ rest) cut ∙ append_assoc body (10 ∷ after) rest

pub lines_at : (old new : Reading) (rest : List ℕ) → PassesLine old new
    → lines_within old.room (pending old rest) ≡ Some new.line ∷ lines_within new.room (pending new rest)
lines_at old new rest step =
    let cut = pending_at old.ended old.held step.body new.held rest step.held in
    ap (lines_within old.room) cut
    ∙ lines_of_at last_line old.room step.body (cond old.ended new.held (new.held ++ rest)) step.none
    ∙ (rw (step.line, step.room, step.ended) refl)

-- the line that was passed goes over to those that were handed out
regrouped : (passed body after rest : List ℕ)
    → passed ++ ((body ++ (10 ∷ after)) ++ rest) ≡ (passed ++ (body ++ (10 ∷ []))) ++ (after ++ rest)
regrouped passed body after rest = simp append_assoc

handed_over : (passed body more : List ℕ) → (passed ++ (body ++ (10 ∷ []))) ++ more ≡ passed ++ (body ++ (10 ∷ more))
handed_over passed body more = simp append_assoc

pub one_more : (given more : LineList) (line : Option (List ℕ)) → given ++ (line ∷ more) ≡ (given ++ (line ∷ [])) ++ more
one_more given more line = sym (append_assoc given (line ∷ []) more)

no_end : (body after : List ℕ) → body ++ (10 ∷ after) ≡ [] → ⊥
no_end [] after none = cc
no_end (byte ∷ body) after none = cc

pub HasRead_at : (text : List ℕ) (given : LineList) (old new : Reading) (left : Option (List ℕ)) → PassesLine old new
    → HasRead text given old left → HasRead text (given ++ (Some new.line ∷ [])) new left
HasRead_at text given old new left step read = record {
  passed = read.passed ++ (step.body ++ (10 ∷ []));
  rest = read.rest;
  told = read.told;
  whole = read.whole ∙ ap (λ (held : List ℕ). read.passed ++ (held ++ read.rest)) step.held ∙ regrouped read.passed step.body new.held read.rest;
  at_end = λ ended. read.at_end (sym step.ended ∙ ended);
  lines_are = read.lines_are ∙ ap (λ (found : LineList). given ++ found) (lines_at old new read.rest step) ∙ one_more given _ _;
  known_are = λ goes_on more.
      ap known (handed_over read.passed step.body more)
      ∙ read.known_are (λ spent. no_end step.body new.held (sym step.held ∙ spent.1)) (step.body ++ (10 ∷ more))
      ∙ ap (λ (found : LineList). given ++ found) (lines_of_at begun_line old.room step.body more step.none ∙ (rw (step.line, step.room) refl))
      ∙ one_more given _ _;
}

end_of : (part rest : List ℕ) → part ++ rest ≡ [] → rest ≡ []
end_of [] rest none = none
end_of (byte ∷ part) rest none = cc

still_spent : (old new : Reading) (left left_then : Option (List ℕ)) → Continues old left new left_then → IsSpent old → IsSpent new
still_spent old new left left_then step spent = (step.stays spent.0, step.idle spent.0 ∙ spent.1)

-- the whole of what was taken before a step is what was taken after it
pub HasRead_same : (text : List ℕ) (given : LineList) (old new : Reading) (left left_then : Option (List ℕ)) → Continues old left new left_then
    → HasRead text given old left → HasRead text given new left_then
HasRead_same text given old new left None step read = let handed = step.handed in let told = read.told in absurd (cc)
HasRead_same text given old new left (Some rest) step read =
    let handed : read.rest ≡ step.part ++ rest = some_is _ _ (sym read.told ∙ step.handed) in
    let same = pending_same old.ended new.ended old.held new.held step.part read.rest rest handed step.held step.idle step.stays step.at_end in
    record {
      passed = read.passed;
      rest = rest;
      told = refl;
      whole = read.whole ∙ ap (λ (bytes : List ℕ). read.passed ++ bytes) (rw (handed, step.held) (sym (append_assoc old.held step.part rest)));
      at_end = λ ended. elim (step.at_end ended) [ inl before ↦ end_of _ _ (sym handed ∙ read.at_end before) | inr none ↦ none ];
      lines_are = read.lines_are ∙ ap (λ (found : LineList). given ++ found) (rw (same, step.room) refl);
      known_are = λ goes_on more.
          read.known_are (λ spent. goes_on (still_spent old new left (Some rest) step spent)) more ∙ ap (λ (room : ℕ). given ++ known_within room more) (sym step.room);
    }

-- and neither does an answer after it that changes nothing
pub stays_on : (old mid new : Reading) (left left_then : Option (List ℕ)) → Continues old left mid left_then → new ≡ mid → Stays old left new left_then
stays_on old mid new left left_then step same = subst (λ (reading : Reading). Stays old left reading left_then) (sym same) (stays old mid left left_then step)
