-- The rows of a card, added one after the other.
use Rattle.std.proofs.Common.{◌≡◌, ℕ, ◌+◌, List, [], ◌∷◌, ◌++◌, take, Option, Some, None, Result, Ok, Err, sym, ap, ◌∙◌, inl, inr, slice_get}
use Rattle.std.proofs.lemmas.List.{take_all, take_more as one_more}
use Rattle.std.proofs.lemmas.Option.{get_or_from_slice_get, slice_get_cases, slice_get_within}
use Rattle.script_form.specs.declared.lines.ScriptLine.{ScriptLine}
use Rattle.card_state.specs.Persistent.{Persistent}
use Rattle.card_state.specs.declared.faults.SectionFault.{SectionFault}
use Rattle.layout_section.specs.Adding.{Adds}
use Rattle.applet_trait.specs.Minds.{AppletState}
use Rattle.section_lines.specs.Script.{described, then_on, with_lines}
use Rattle.section_lines.proofs.WithLinesLemmas.{with_lines-more}
use Rattle.long_runs.specs.FixedRows.{fixed_rows}
use Rattle.long_runs.specs.Rows.{AreDescribed}

-- what a call that adds a line says: it was added, or there is a fault and nothing changed
pub record AddsRow (came : Result Persistent SectionFault) (new : Persistent) : Type 0 where
  pub added : came ≡ Ok new

pub record Refuses (came : Result Persistent SectionFault) (old new : Persistent) (fault : SectionFault) : Type 0 where
  pub refused : came ≡ Err fault
  pub same : new ≡ old

pub adds : (came : Result Persistent SectionFault) (old new : Persistent) (result : Result (Unit {0}) SectionFault) → result ≡ Ok tt → Adds came old result new → AddsRow came new
adds (Ok state) old new result done follows = record { added = ap Ok (sym follows.1) }
adds (Err fault) old new result done follows = absurd (let apart = follows.0 in cc)

pub refuses : (came : Result Persistent SectionFault) (old new : Persistent) (result : Result (Unit {0}) SectionFault) (fault : SectionFault) → result ≡ Err fault → Adds came old result new → Refuses came old new fault
refuses (Ok state) old new result fault failed follows = absurd (let apart = follows.0 in cc)
refuses (Err other) old new result fault failed follows = record { refused = cc; same = follows.1 }

take_more : (rows : List ScriptLine) (place : ℕ) (row : ScriptLine) → slice_get rows place ≡ Some row → take (place + 1) rows ≡ take place rows ++ row ∷ []
take_more rows place row at =
    one_more rows place row (slice_get_within rows place row at) ∙ ap (λ (last : ScriptLine). take place rows ++ last ∷ []) (get_or_from_slice_get rows place row row at)

-- one row more
pub described_more : (cast : List (Option AppletState)) (old middle new : Persistent) (place : ℕ) (row : ScriptLine) → slice_get fixed_rows place ≡ Some row → AreDescribed cast old place middle → described cast middle row ≡ Ok new
    → AreDescribed cast old (place + 1) new
described_more cast old middle new place row at so_far adds_row =
    ap (with_lines cast (Some old)) (take_more fixed_rows place row at)
    ∙ with_lines-more cast (Some old) (Some middle) (Ok (Some new)) (take place fixed_rows) row so_far (ap (λ (came : Result Persistent SectionFault). then_on (λ state. Ok (Some state)) came) adds_row)

-- where there is no row at a place, all rows were added
pub all_described : (cast : List (Option AppletState)) (old new : Persistent) (place : ℕ) → slice_get fixed_rows place ≡ None → AreDescribed cast old place new → with_lines cast (Some old) fixed_rows ≡ Ok (Some new)
all_described cast old new place none so_far =
    elim (slice_get_cases fixed_rows place).1 [
      | inl there ↦ absurd (let apart : Some there.0 ≡ None = sym there.2 ∙ none in cc)
      | inr past ↦ ap (with_lines cast (Some old)) (sym (take_all place fixed_rows past.0)) ∙ so_far
    ]
