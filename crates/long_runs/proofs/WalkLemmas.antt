-- A walk over the lines of a trace.
use Rattle.std.proofs.Common.{◌≡◌, ◌≢◌, ℕ, ◌≤◌, Bool, true, false, cond, List, [], ◌∷◌, ◌++◌, length, take, refl, sym, ap, ◌∙◌, arith, append_assoc, inl, inr, fold, ◌==◌, nat_lt, flat_map}
use Rattle.std.proofs.lemmas.Bool.{cases_lt}
use Rattle.std.proofs.lemmas.Bool.Decides.{nat_tests}
use Rattle.std.proofs.lemmas.List.{append-nil, length-append, take-append-le, take_all}
use Rattle.std.proofs.lemmas.List.Sums.{fold-append}
use Rattle.script_form.specs.Traces.{message, trace_text}
use Rattle.script_form.specs.declared.trace.TraceLine.{TraceLine}
use Rattle.long_runs.specs.CountedLines.{IsOneLine, IsWholeLine}
use Rattle.long_runs.specs.Walks.{grown, step, counts_with}
use Rattle.long_runs.specs.declared.counts.Counts.{Counts}
use Rattle.long_runs.specs.declared.walk.Walk.{Walk}
use Rattle.long_runs.proofs.CountsWithLemmas.{line_head, with}
use Rattle.long_runs.proofs.IsOneLineLemmas.{message_line}

abbrev pub at : List ℕ → Counts → Walk
at head counts = record { head = head; counts = counts }

-- a byte inside a line
pub step_inside : (head : List ℕ) (counts : Counts) (byte : ℕ) → byte ≢ 10 → step (at head counts) byte ≡ at (grown head byte) counts
step_inside head counts byte inside = by_test (byte == 10) (λ e. inside (grind (arith, nat_tests)))
  where
    by_test : (is_end : Bool) → (is_end ≡ true → ⊥) → cond is_end (at [] (counts_with head counts)) (at (grown head byte) counts) ≡ at (grown head byte) counts
    by_test true none = absurd (none refl)
    by_test false none = refl

-- the first six bytes are the same with a byte added before or later
grown_first : (head text : List ℕ) (byte : ℕ) → length head ≤ 6 → (take 6 (grown head byte ++ text) ≡ take 6 (head ++ byte ∷ text)) × (length (grown head byte) ≤ 6)
grown_first head text byte fits = elim (cases_lt (length head) 6) [
  | inl room ↦
      let test : nat_lt (length head) 6 ≡ true = grind (arith, nat_tests) in
      (rw test (ap (take 6) (append_assoc head (byte ∷ []) text)), rw test (omega (arith, length-append head (byte ∷ []))))
  | inr full ↦
      let test : nat_lt (length head) 6 ≡ false = grind (arith, nat_tests) in
      (rw test (take-append-le 6 head text full ∙ sym (take-append-le 6 head (byte ∷ text) full)), rw test fits)
]

-- over bytes inside a line
inside_line : (head : List ℕ) (counts : Counts) (text : List ℕ) → length head ≤ 6 → IsOneLine text
    → fold step (at head counts) text ≡ at (take 6 (head ++ text)) counts
inside_line head counts [] fits none =
    ap (λ h. at h counts) (sym (take_all 6 head fits) ∙ ap (take 6) (sym (append-nil head)))
inside_line head counts (byte ∷ text) fits inside =
    let first = grown_first head text byte fits in
    ap (λ w. fold step w text) (step_inside head counts byte inside.0) ∙ inside_line (grown head byte) counts text first.1 inside.1 ∙ ap (λ h. at h counts) first.0

-- over a line and its end
over_line : (line : List ℕ) (counts : Counts) → IsOneLine line → fold step (at [] counts) (line ++ (10 ∷ [])) ≡ at [] (counts_with (take 6 line) counts)
over_line line counts one =
    fold-append step (at [] counts) line (10 ∷ [])
    ∙ ap (λ w. fold step w (10 ∷ [])) (inside_line [] counts line (omega arith) one)

-- over bytes that are a line and its end
pub whole_line : (walk : Walk) (bytes line : List ℕ) → walk.head ≡ [] → IsWholeLine bytes line → fold step walk bytes ≡ at [] (counts_with (take 6 line) walk.counts)
whole_line walk bytes line fresh whole =
    ap (λ (head : List ℕ). fold step (at head walk.counts) bytes) fresh ∙ ap (fold step (at [] walk.counts)) whole.ends ∙ over_line line walk.counts whole.one

-- over a line of a trace
said_line : (said : TraceLine) (counts : Counts) → fold step (at [] counts) (trace_text said) ≡ at [] (with said counts)
unfolding trace_text
said_line said counts = over_line (message said) counts (message_line said) ∙ ap (at []) (line_head said counts)

-- over all lines
pub all_lines : (lines : List TraceLine) (counts : Counts) → fold step (at [] counts) (flat_map trace_text lines) ≡ at [] (fold (λ c said. with said c) counts lines)
all_lines [] counts = refl
all_lines (said ∷ lines) counts =
    fold-append step (at [] counts) (trace_text said) (flat_map trace_text lines)
    ∙ ap (λ w. fold step w (flat_map trace_text lines)) (said_line said counts) ∙ all_lines lines (with said counts)
