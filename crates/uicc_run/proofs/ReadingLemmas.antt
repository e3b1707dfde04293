-- Which lines a run read, and why no more of them: what follows of what it comes to, whatever its memory holds or tells.
use Rattle.std.proofs.Common.{◌≡◌, ℕ, Bool, true, List, [], ◌∷◌, ◌++◌, Option, sym, append_assoc, subst, rules}
use Rattle.std.proofs.lemmas.List.Elements.{All-nil}
use Rattle.std.specs.List.{AllPass}
use Rattle.byte_streams.specs.Lines.{LineList, lines}
use Rattle.script_form.specs.declared.lines.ScriptLine.{ScriptLine}
use Rattle.script_form.specs.declared.lines.ScriptLine.TheVariants.{Start}
use Rattle.script_reader.specs.Behind.{StopsReading}
use Rattle.script_reader.specs.Said.{AreRead}
use Rattle.script_reader.specs.declared.behind.PlayEnd.{PlayEnd}
use Rattle.card_state.specs.Persistent.{Persistent}
use Rattle.phone_runs.specs.Lines.{PhoneEnds}
use Rattle.run_steps.specs.Views.{CardView}
use Rattle.uicc_run.specs.Headline.{IsNotOpened}
use Rattle.uicc_run.specs.Playing.{AreReadInPlace, EndsSo, Given, Leaves, StopsPlaying, ServedComesTo, beginning}
use Rattle.uicc_run.specs.Steps.{may_stand}
use Rattle.uicc_run.proofs.ServingLemmas.{opening}

-- `start` was read
pub record HasStarted (given : Given) : Type 0 where
  pub found : LineList
  pub more : LineList
  pub section : List ScriptLine
  pub card : Option Persistent
  pub parted : lines given.text ≡ found ++ more
  pub lines_are : AreReadInPlace given found section [] card

-- no more lines were read after it, for this cause
pub record EndsBehind (given : Given) (left : Option (List ℕ)) (end : PlayEnd) : Type 0 where
  pub found : LineList
  pub section : List ScriptLine
  pub played : List ScriptLine
  pub card : Option Persistent
  pub lines_are : AreReadInPlace given found section played card
  pub cause : StopsPlaying given found left end

pub has_started : (IsKnown : List ScriptLine → Option Persistent → Type 0) (given : Given) (told : Bool) (left : Option (List ℕ)) (leaves : Leaves) → IsNotOpened given told left leaves IsKnown → HasStarted given
has_started IsKnown given told left leaves is = search (rules, is, All-nil (λ line. may_stand given.is_served line ≡ true))

-- where the lines went to the card
abbrev pub reads_played : (given : Given) (first : CardView) (left : Option (List ℕ)) (end : PlayEnd) (leaves : Leaves) → EndsSo given first left end leaves → EndsBehind given left end
reads_played given first left end leaves ends =
    record { found = ends.done.found; section = ends.done.section; played = ends.done.played; card = ends.done.described; lines_are = ends.done.lines; cause = ends.cause }

-- where they went to a handset
abbrev pub reads_served : (given : Given) (first : CardView) (left : Option (List ℕ)) (end : PlayEnd) (leaves : Leaves) → given.is_served ≡ true → (served : ServedComesTo given first left end leaves)
    → PhoneEnds given.text (opening served.section) (beginning given first) left end served.at → EndsBehind given left end
reads_served given first left end leaves is served ends = record {
  found = ends.found;
  section = served.section;
  played = ends.played;
  card = served.card;
  lines_are = record {
    read = subst (AreRead ends.found) (append_assoc served.section (Start ∷ []) ends.played) ends.are_served.read;
    described = served.described;
    in_place = subst (λ s. AllPass (may_stand s) ends.played) (sym is) ends.are_served.in_place;
  };
  cause = subst (λ s. StopsReading (may_stand s) given.text ends.found left end) (sym is) ends.cause;
}
