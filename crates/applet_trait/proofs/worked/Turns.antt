-- The definitions, computed on examples.
use Rattle.std.proofs.Common.{◌≡◌, ℕ, List, [], ◌∷◌, Option, Some, None, true, false, refl, codes}
use Rattle.comprehension_tlv.specs.Reading as Reading
use Rattle.toolkit_commands.specs.Envelopes.{value_in}
use Rattle.toolkit_commands.specs.declared.commands.Proactive.TheVariants.{PlayTone}
use Rattle.applet_trait.specs.declared.stimuli.Stimulus.TheVariants.{Event, Response, Went, Refused, Timer}
use Rattle.applet_trait.specs.declared.stimuli.Act.{Act}
use Rattle.applet_trait.specs.declared.stimuli.Act.TheVariants.{Done, Send, Keep, TakeTimer, FreeTimer, Answer}
use Rattle.applet_trait.specs.Minds.{AppletState, Turn, fresh}
use Rattle.applet_trait.specs.Tables.{show, five_minutes, address_digits, row_from}
use Rattle.applet_trait.specs.Turns.{act}

abbrev mind : ℕ → ℕ → ℕ → ℕ → List ℕ → Option (List ℕ) → AppletState
mind kind phase held code kept asked =
    record { kind = kind; phase = phase; held = held; code = code; kept = kept; asked = asked }

abbrev answers : Act → AppletState → Turn
answers does next = record { does = does; next = next }

greets : act (fresh 1 []) (Event 0x40 []) ≡ answers (show (codes "Hi")) (mind 1 1 0 0 [] None)
unfolding act
greets = refl

greets_once : act (mind 1 1 0 0 [] None) (Event 0x40 []) ≡ answers Done (mind 1 0 0 0 [] None)
unfolding act
greets_once = refl

sounds : act (mind 2 1 0 0 [] None) (Response 0x0F 2 []) ≡ answers (Send (PlayTone 16)) (mind 2 2 0 0 [] None)
unfolding act
sounds = refl

not_performed : act (mind 2 1 0 0 [] None) (Response 0x10 2 []) ≡ answers Done (mind 2 0 0 0 [] None)
unfolding act
not_performed = refl

starts : act (mind 3 1 0 0 [] None) (Timer 5) ≡ answers (five_minutes 5) (mind 3 2 0 0 [] None)
unfolding act
starts = refl

ticks : act (fresh 3 []) (Event 0x44 (5 ∷ [])) ≡ answers (show (codes "Tick")) (mind 3 3 5 0 [] None)
unfolding act
ticks = refl

frees : act (mind 3 3 5 0 [] None) Refused ≡ answers (FreeTimer 5) (mind 3 4 5 0 [] None)
unfolding act
frees = refl

moves : act (fresh 4 (9 ∷ [])) (Event 0x03 (0x93 ∷ 2 ∷ 0x00 ∷ 0xF1 ∷ [])) ≡ answers (Keep (0x00 ∷ 0xF1 ∷ [])) (mind 4 1 0 0 (9 ∷ []) (Some (0x00 ∷ 0xF1 ∷ [])))
unfolding act value_in Reading.outline_at Reading.outline_within Reading.object_at Reading.tag_at Reading.value_at Reading.length_at
moves = refl

loses : act (fresh 4 (9 ∷ [])) (Event 0x03 (0x93 ∷ 2 ∷ 0x00 ∷ [])) ≡ answers (show (codes "Lost")) (mind 4 2 0 0 (9 ∷ []) None)
unfolding act value_in Reading.outline_at Reading.outline_within Reading.object_at Reading.tag_at Reading.value_at Reading.length_at
loses = refl

keeps : act (mind 4 1 0 0 [] (Some (7 ∷ []))) Went ≡ answers (show (codes "Moved")) (mind 4 2 0 0 (7 ∷ []) None)
unfolding act
keeps = refl

drops : act (mind 4 1 0 0 [] (Some (7 ∷ []))) Refused ≡ answers Done (mind 4 0 0 0 [] None)
unfolding act
drops = refl

dialled : address_digits (0x81 ∷ 0x21 ∷ 0x43 ∷ 0xF5 ∷ 0x66 ∷ []) ≡ codes "12345"
unfolding address_digits
dialled = refl

barred : act (fresh 5 (codes "12")) (Event 0x45 (0x81 ∷ 0x21 ∷ 0x43 ∷ 0xF5 ∷ [])) ≡ answers (Answer false) (mind 5 4 0 0 (codes "12") None)
unfolding act address_digits
barred = refl

not_barred : act (fresh 5 (codes "123456")) (Event 0x45 (0x81 ∷ 0x21 ∷ 0x43 ∷ 0xF5 ∷ [])) ≡ answers (Answer true) (mind 5 4 0 0 (codes "123456") None)
unfolding act address_digits
not_barred = refl

notes : act (mind 6 1 0 0 [] None) (Response 0 0 (codes "AB")) ≡ answers (Keep (codes "AB")) (mind 6 2 0 0 [] (Some (codes "AB")))
unfolding act
notes = refl

shows : act (fresh 6 (codes "AB")) (Event 0x40 []) ≡ answers (show (codes "AB")) (mind 6 2 0 0 (codes "AB") None)
unfolding act
shows = refl

abbrev program : List ℕ
program = 0x40 ∷ 0x01 ∷ 0x41 ∷ 0x41 ∷ 0x03 ∷ 0 ∷ 0x40 ∷ 0x0A ∷ 0 ∷ 0x40 ∷ []

first_row : act (fresh 7 program) (Event 0x40 []) ≡ answers (show (codes "A")) (mind 7 1 0 0x40 program None)
unfolding act row_from
first_row = refl

next_row : act (mind 7 1 0 0x40 program None) (Event 0x41 []) ≡ answers TakeTimer (mind 7 1 2 0x40 program None)
unfolding act row_from
next_row = refl

no_row : act (mind 7 1 2 0x40 program None) (Timer 1) ≡ answers Done (mind 7 0 2 0x40 program None)
unfolding act row_from
no_row = refl
