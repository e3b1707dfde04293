-- Runs of an applet that are refused what it sends, or end after their last act, worked out. The applet does what a table
-- says that is kept for it: rows of an event, an action and its argument.
use Rattle.std.proofs.Common.{◌≡◌, ℕ, Bool, true, false, List, [], ◌∷◌, ◌++◌, Option, Some, None, refl, length, map, replicate, slice_set, flat_map}
use Rattle.comprehension_tlv.specs.Writing.{tagged}
use Rattle.toolkit_commands.specs.declared.commands.Proactive.TheVariants.{DisplayText}
use Rattle.terminal_profile.specs.Profiles.{allowed, consulted}
use Rattle.applet_trait.specs.declared.stimuli.Stimulus.TheVariants.{Event}
use Rattle.applet_trait.specs.declared.stimuli.Act.{Act}
use Rattle.applet_trait.specs.declared.stimuli.Act.TheVariants.{Done, Send}
use Rattle.applet_trait.specs.Minds.{fresh}
use Rattle.applet_trait.specs.Tables.{address_digits, row_from}
use Rattle.applet_trait.specs.Turns.{act}
use Rattle.toolkit_model.specs.Sessions.{Sent, fresh_session}
use Rattle.toolkit_model.specs.Passing.{ToolkitState, Passed, turns}
use Rattle.toolkit_model.specs.Running.{mind_on, run_on, run_of_row}

-- an applet on shelf 6 that is registered for STATUS and for call control, and keeps this table
abbrev card : Option (List ℕ) → List ℕ → ToolkitState
card profile table = record {
  rows = record { shelf = 6; kind = 7; priority = 1; sequence = 0; codes = 0x41 ∷ 0x45 ∷ []; text = []; kept = table } ∷ [];
  session = record fresh_session { profile = profile };
  minds = slice_set (replicate 32 None) 6 (Some (fresh 7 table));
}

-- the profile of a handset that can show a text
abbrev able : Option (List ℕ)
able = Some (0x29 ∷ 0x00 ∷ 0xBF ∷ 0x61 ∷ 0x71 ∷ 0x00 ∷ 0x00 ∷ 0x13 ∷ [])

-- and of one that can't
abbrev less_able : Option (List ℕ)
less_able = Some (0x29 ∷ 0x00 ∷ 0xBE ∷ 0x61 ∷ 0x71 ∷ 0x00 ∷ 0x00 ∷ 0x13 ∷ [])

-- the acts of a run, each with whether it was a command that was admitted
abbrev acts : Passed → List (Act × Bool)
acts passed = map (λ turn. (turn.act, turn.is_admitted)) (turns passed.log)

-- what a run came to: its acts, and the commands that wait after it
record CameTo (passed : Passed) (done : List (Act × Bool)) (waits : List Sent) : Type 0 where
  all : acts passed ≡ done
  waiting : passed.state.session.waiting ≡ waits

-- it shows A at STATUS, and B at call control
abbrev shows : List ℕ
shows = 0x41 ∷ 0x01 ∷ 0x41 ∷ 0x45 ∷ 0x01 ∷ 0x42 ∷ []

-- a run that STATUS began sends, and the command waits
sends_at_status :
    CameTo (run_of_row 6 (Event 0x41 []) false (card able shows)) ((Send (DisplayText (0x41 ∷ [])), true) ∷ []) (record { shelf = 6; command = DisplayText (0x41 ∷ []) } ∷ [])
unfolding act address_digits row_from allowed consulted tagged run_on run_of_row
sends_at_status = record { all = refl; waiting = refl }

-- one that call control began doesn't: the applet is refused, and nothing waits
is_refused_in_a_call :
    CameTo (run_of_row 6 (Event 0x45 []) false (card able shows)) ((Send (DisplayText (0x42 ∷ [])), false) ∷ (Done, false) ∷ []) []
unfolding act address_digits row_from allowed consulted tagged run_on run_of_row
is_refused_in_a_call = record { all = refl; waiting = refl }

-- nor one without a terminal profile
is_refused_without_a_profile :
    CameTo (run_of_row 6 (Event 0x41 []) false (card None shows)) ((Send (DisplayText (0x41 ∷ [])), false) ∷ (Done, false) ∷ []) []
unfolding act address_digits row_from allowed consulted tagged run_on run_of_row
is_refused_without_a_profile = record { all = refl; waiting = refl }

-- nor one with a profile in which the bit of DISPLAY TEXT is clear
is_refused_without_its_bit :
    CameTo (run_of_row 6 (Event 0x41 []) false (card less_able shows)) ((Send (DisplayText (0x41 ∷ [])), false) ∷ (Done, false) ∷ []) []
unfolding act address_digits row_from allowed consulted tagged run_on run_of_row
is_refused_without_its_bit = record { all = refl; waiting = refl }

-- it registers at STATUS, so many times for the same event
abbrev registers_often : ℕ → List ℕ
registers_often times = flat_map {X = ℕ} (λ time. 0x41 ∷ 0x07 ∷ 0x03 ∷ []) (replicate times 0)

-- a card keeps 64 bytes at most, a table of 21 rows: such a run ends by itself
ends_by_itself : length (turns (run_of_row 6 (Event 0x41 []) false (card able (registers_often 21))).log) ≡ 22
unfolding act address_digits row_from allowed consulted tagged run_on run_of_row
ends_by_itself = refl

-- A table that no card keeps, being too long, shows where a run ends that doesn't by itself: it registers 33 times, 31 times
-- for the same event, then for another, and at last for a third.
abbrev registers : List ℕ
registers = registers_often 31 ++ 0x41 ∷ 0x07 ∷ 0x04 ∷ 0x41 ∷ 0x07 ∷ 0x05 ∷ []

-- the 32nd act is carried out, and there is no 33rd: the applet has begun anew
record Has32Acts (passed : Passed) : Type 0 where
  all : length (turns passed.log) ≡ 32
  codes : map (λ row. row.codes) passed.state.rows ≡ (0x03 ∷ 0x04 ∷ 0x41 ∷ 0x45 ∷ []) ∷ []
  anew : mind_on passed.state.minds 6 ≡ Some (fresh 7 registers)

has_32_acts : Has32Acts (run_of_row 6 (Event 0x41 []) false (card able registers))
unfolding act address_digits row_from allowed consulted tagged run_on run_of_row
has_32_acts = record { all = refl; codes = refl; anew = refl }
