-- At most one command is outstanding: what is noted of FETCH, of TERMINAL RESPONSE and of wakes.
use Rattle.std.specs.Prelude.{◌≡◌, Bool, true, false, List, [], ◌∷◌, ◌++◌, Option, Some, None}
use Rattle.std.specs.List.{list_any}
use Rattle.toolkit_model.specs.Sessions.{Outstanding}
use Rattle.toolkit_model.specs.Passing.{Happening, Woke, Fetched, Responded, Given, Turned, Committed}
use Rattle.toolkit_model.specs.Commands.{as_fetched}

-- Beginning with the command that was fetched and not answered, if there is one: a command is fetched only where there is
-- none, and the one that is answered is the one that was fetched.
abbrev pub OneAtATime : Option Outstanding → List Happening → Type 0
OneAtATime held [] = Unit {0}
OneAtATime held (Woke ∷ log) = OneAtATime None log
OneAtATime held (Fetched out ∷ log) = (held ≡ None) × OneAtATime (Some (as_fetched out)) log
OneAtATime held (Responded out reply ∷ log) = (held ≡ Some out) × OneAtATime None log
OneAtATime held (Given trigger ∷ log) = OneAtATime held log
OneAtATime held (Turned turn ∷ log) = OneAtATime held log
OneAtATime held (Committed change rows ∷ log) = OneAtATime held log

-- an accepted answer, or a wake
abbrev pub is_end : Happening → Bool
is_end Woke = true
is_end (Responded out reply) = true
is_end _ = false

-- between two commands that are fetched an answer is accepted, or all applets wake
abbrev pub AnsweredBetween : List Happening → Type 0
AnsweredBetween log = (early between late : List Happening) (first second : Outstanding) → log ≡ early ++ (Fetched first ∷ (between ++ (Fetched second ∷ late))) → list_any is_end between ≡ true
