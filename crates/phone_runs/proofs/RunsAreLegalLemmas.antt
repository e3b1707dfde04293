-- What a run of a handset is by the rules of the handset, and by those of the card.
use Rattle.std.proofs.Common.{◌≡◌, List, [], ◌∷◌, ◌++◌, refl, sym, ap, ◌∙◌, inl, reverse}
use Rattle.std.proofs.lemmas.List.{append-nil, reverse-append}
use Rattle.handset_model.specs.History.{Said}
use Rattle.handset_model.specs.Legal.{IsOf, IsOrderly, lines_of}
use Rattle.run_steps.proofs.ViewLemmas.{run_shown}
use Rattle.phone_runs.specs.Laws.{RunsAreBegun, RunsAreLegal, RunsAreOfTheCard}
use Rattle.phone_runs.specs.Logs.{Event, Happens, PhoneLine, Hears, Arms, heard, history, log_lines, lines_back, shown, steps, trace}

-- what is heard of lines and of others after them
heard-append : (first more : List PhoneLine) → heard (first ++ more) ≡ heard first ++ heard more
heard-append [] more = refl
heard-append (Hears line ∷ first) more = ap (λ rest. line ∷ rest) (heard-append first more)
heard-append (Arms plan ∷ first) more = heard-append first more

heard-reverse : (told : List PhoneLine) → heard (reverse told) ≡ reverse (heard told)
heard-reverse [] = refl
heard-reverse (Hears line ∷ told) =
    ap heard (reverse-append (Hears line ∷ []) told) ∙ heard-append (reverse told) (Hears line ∷ []) ∙ ap (λ first. first ++ line ∷ []) (heard-reverse told)
    ∙ sym (reverse-append (line ∷ []) (heard told))
heard-reverse (Arms plan ∷ told) =
    ap heard (reverse-append (Arms plan ∷ []) told) ∙ heard-append (reverse told) (Arms plan ∷ []) ∙ append-nil (heard (reverse told)) ∙ heard-reverse told

-- the lines that the handset hears are those of its history
heard_back : (log : List Event) → heard (lines_back log) ≡ lines_of (history log)
heard_back [] = refl
heard_back (Happens (Said line) ∷ log) = ap (λ rest. line ∷ rest) (heard_back log)
heard_back (event ∷ log) = heard_back log

pub is_of : (log : List Event) → IsOrderly (history log) → IsOf (heard (log_lines log)) (trace log) (history log)
is_of log orderly = record {
  orderly = orderly;
  lines_are = ap reverse (sym (heard_back log)) ∙ sym (heard-reverse (lines_back log));
  trace_is = refl;
}

pub legal : RunsAreLegal
legal first now log run rests = record { history = history log; is_of = is_of log run.orderly; rests = rests }

pub begun : RunsAreBegun
begun first now log run = inl (record { history = history log; is_of = is_of log run.orderly })

pub of_the_card : RunsAreOfTheCard
of_the_card first now log run = run_shown (steps log) first now (shown log) run.run
