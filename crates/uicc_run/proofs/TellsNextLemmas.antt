-- The last line gives a line's number; and a sink that tells what it has taken tells that too.
use Rattle.std.proofs.Common.{◌≡◌, ℕ, ◌+◌, List, [], ◌++◌, length, Option, Some, None, is_some, sym, ap, ◌∙◌, inl, inr, subst, append-nil}
use Rattle.std.specs.Io.KnownBytes.{append_known}
use Rattle.byte_streams.specs.Lines.{LineList}
use Rattle.script_form.specs.Traces.{trace_text}
use Rattle.script_form.specs.declared.trace.TraceLine.TheVariants as line
use Rattle.run_steps.proofs.TakesFrontLemmas.{tells_front, tells_whole}
use Rattle.uicc_run.specs.Headline.{Closes, last_text}
use Rattle.uicc_run.specs.Scripts.{TellsNext}
use Rattle.uicc_run.specs.declared.endings.Ending.{Ending}

-- it is that of the line after these
pub tells_it : (before taken : Option (List ℕ)) (found : LineList) (number : ℕ) → number ≡ length found + 1 → taken ≡ append_known before (trace_text (line.Line number) ++ []) → TellsNext found taken
tells_it None taken found number is told = subst (TellsNext found) (sym told) tt
tells_it (Some front) taken found number is told =
    subst (TellsNext found) (sym told) (front, ap (λ t. front ++ t) (append-nil (trace_text (line.Line number))) ∙ ap (λ n. front ++ trace_text (line.Line n)) is)

pub tells_same : (found other : LineList) (taken : Option (List ℕ)) → found ≡ other → TellsNext found taken → TellsNext other taken
tells_same found other taken same tells = subst (λ l. TellsNext l taken) same tells

-- after the last line, be it taken or not
pub closes_tells : (ending : Ending) (before taken : Option (List ℕ)) (status : ℕ) → Closes ending before taken status → is_some taken ≡ is_some before
closes_tells ending before taken status (inl whole) = tells_whole (last_text ending) before taken whole.1
closes_tells ending before taken status (inr broken) = tells_front (last_text ending) before taken broken.1.1
