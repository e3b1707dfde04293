-- What a handset does next, as far as a card has to be ready for it.
use Rattle.std.proofs.Common.{◌≡◌, ℕ, Bool, true, false, List, length, Option, Some, None, Result, Ok, Err, refl, ◌==◌, ◌&&◌, if◌then◌else◌, is_none, IfSome}
use Rattle.std.specs.Prelude.{⊤}
use Rattle.uicc_types.specs.declared.answers.Answer.{Answer}
use Rattle.uicc_types.specs.declared.answers.TheConstants.StatusWord.{TOOLKIT_BUSY}
use Rattle.script_form.specs.declared.handset.HandsetLine.{HandsetLine}
use Rattle.script_form.specs.declared.handset.Note.{Note}
use Rattle.script_form.specs.declared.handset.HandsetLine.TheVariants as line
use Rattle.script_form.specs.declared.handset.Note.TheVariants as note
use Rattle.toolkit_commands.specs.Values.{is_pair}
use Rattle.toolkit_commands.specs.declared.commands.Details.{Details}
use Rattle.toolkit_commands.specs.declared.commands.Proactive.{Proactive}
use Rattle.toolkit_commands.specs.declared.faults.ProactiveFault.{ProactiveFault}
use Rattle.toolkit_commands.specs.declared.qualifiers.TheConstants.{CARD_RESET}
use Rattle.toolkit_commands.specs.declared.commands.Proactive.TheVariants as proactive
use Rattle.handset_model.specs.declared.commands.Command.TheVariants as sent
use Rattle.handset_model.specs.declared.known.Due.{Due}
use Rattle.handset_model.specs.declared.known.Duty.{Duty}
use Rattle.handset_model.specs.declared.known.Duty.TheVariants.{Rest, Transmit, Show}
use Rattle.handset_model.specs.declared.known.Held.{Held}
use Rattle.handset_model.specs.declared.known.Known.{Known}
use Rattle.handset_model.specs.declared.known.LastSent.TheVariants.{Calling, Reporting}
use Rattle.handset_model.specs.History.{announced_by}
use Rattle.handset_model.specs.Rules.{settled, report_due, ripe, fetch_or_settle, carried_out, fetched, followed, after_call, unless_busy, answered, noted, respond_done, with_held, said, confirm, type_in, takes, pick_with, pick, pick_in_menu, lists}
use Rattle.handset_model.specs.Timers.{soonest}

-- What has to hold for the duty to be met: of the size of a FETCH, of the details of a TERMINAL RESPONSE, and where a note is shown.
abbrev pub Suits : (ℕ → Type 0) → (Details → Type 0) → Type 0 → Duty → Type 0
Suits Fits Holds Shown (Transmit (sent.Fetch size)) = Fits size
Suits Fits Holds Shown (Transmit (sent.Respond details reply)) = Holds details
Suits Fits Holds Shown (Show note) = Shown
Suits Fits Holds Shown _ = ⊤

-- the details of the held command
abbrev pub HoldsIn : (Details → Type 0) → Option Held → Type 0
HoldsIn Holds held = IfSome held (λ each. Holds each.details)

module _ (Fits : ℕ → Type 0) (Holds : Details → Type 0) (Shown : Type 0) where
  abbrev Suit : Duty → Type 0
  Suit duty = Suits Fits Holds Shown duty

  suits_if : (test : Bool) (one other : Duty) → Suit one → Suit other → Suit (if test then one else other)
  suits_if true one other first second = first
  suits_if false one other first second = second

  -- ---- between two sessions

  suits_reported : (due : Option Due) → Suit (report_due due)
  suits_reported None = tt
  suits_reported (Some due) = tt

  pub suits_settled : (known : Known) → Suit (settled known)
  unfolding settled
  suits_settled known = suits_if known.is_timed (report_due (ripe known.clock (soonest 1 known.timers))) Rest (suits_reported (ripe known.clock (soonest 1 known.timers))) tt

  suits_next : (announced : Option ℕ) (known : Known) → IfSome announced Fits → Suit (fetch_or_settle announced known)
  suits_next None known fits = suits_settled known
  suits_next (Some size) known fits = fits

  -- ---- after a command was fetched

  suits_refresh : (is_reset is_second : Bool) (one two three : Duty) → Suit one → Suit two → Suit three → Suit (if is_reset then (if is_second then one else two) else three)
  suits_refresh true true one two three a b c = a
  suits_refresh true false one two three a b c = b
  suits_refresh false is_second one two three a b c = c

  suits_carried_out : (command : Proactive) (held : Held) (known : Known) → Holds held.details → Shown → Suit (carried_out command held known)
  suits_carried_out (proactive.SetUpEventList events) held known holds shown = holds
  suits_carried_out proactive.MoreTime held known holds shown = holds
  suits_carried_out (proactive.PollInterval seconds) held known holds shown = holds
  suits_carried_out (proactive.LocalInformation what) held known holds shown = holds
  suits_carried_out (proactive.TimerManagement action timer value) held known holds shown = holds
  suits_carried_out (proactive.Refresh mode) held known holds shown = suits_refresh (mode == CARD_RESET) known.is_refreshed _ _ _ holds tt holds
  suits_carried_out other held known holds shown = shown

  pub suits_fetched : (found : Result (Details × Proactive) ProactiveFault) (details : Details) (known : Known) → Holds details → ((read : Details × Proactive) → found ≡ Ok read → Holds read.0) → Shown
      → Suit (fetched found details known)
  suits_fetched (Ok found) details known holds read shown = suits_carried_out found.1 (record { details = found.0; command = found.1 }) known (read found refl) shown
  suits_fetched (Err fault) details known holds read shown = holds

  -- ---- after another command

  suits_busy : (answer : Answer) (duty : Duty) → Shown → Suit duty → Suit (unless_busy answer duty)
  suits_busy answer duty shown suits = suits_if (answer.status.0 == TOOLKIT_BUSY.0) (Show note.Busy) duty shown suits

  suits_call : (body : List ℕ) (duty : Duty) → Shown → Suit duty → Suit (after_call body duty)
  suits_call body duty shown suits =
      suits_if (is_pair body 0x00 0x00) (Show note.Call) _ shown (suits_if (is_pair body 0x01 0x00) (Show note.Barred) duty shown suits)

  pub suits_followed : (answer : Answer) (known : Known) → IfSome (announced_by answer) Fits → Suit (followed answer known)
  suits_followed answer known fits = suits_next (announced_by answer) known fits

  pub suits_calling : (answer : Answer) (known : Known) → Shown → IfSome (announced_by answer) Fits → Suit (answered Calling answer known)
  suits_calling answer known shown fits = suits_busy answer _ shown (suits_call answer.body _ shown (suits_followed answer known fits))

  pub suits_reporting : (answer : Answer) (known : Known) → Shown → IfSome (announced_by answer) Fits → Suit (answered Reporting answer known)
  suits_reporting answer known shown fits = suits_busy answer _ shown (suits_followed answer known fits)

  -- ---- after a note

  suits_done : (held : Option Held) → HoldsIn Holds held → Suit (respond_done held)
  suits_done None holds = tt
  suits_done (Some held) holds = holds

  pub suits_noted : (shown : Note) (known : Known) → HoldsIn Holds known.held → IfSome known.announced Fits → Suit (noted shown known)
  suits_noted (note.Menu count) known holds fits = suits_done known.held holds
  suits_noted (note.Tone tone) known holds fits = suits_done known.held holds
  suits_noted (note.Idle text) known holds fits = suits_done known.held holds
  suits_noted note.Call known holds fits = suits_next known.announced known fits
  suits_noted note.Barred known holds fits = suits_next known.announced known fits
  suits_noted other known holds fits = suits_settled known

  -- ---- at a line

  suits_with : (held : Option Held) (react : Held → Duty) → HoldsIn Holds held → ((each : Held) → Holds each.details → Suit (react each)) → Suit (with_held held react)
  suits_with None react holds reacts = tt
  suits_with (Some held) react holds reacts = reacts held holds

  suits_confirm : (command : Proactive) (held : Held) → Holds held.details → Suit (confirm command held)
  suits_confirm (proactive.DisplayText text) held holds = holds
  suits_confirm other held holds = tt

  suits_menu : (id : ℕ) (known : Known) → Suit (pick_in_menu id known)
  suits_menu id known = suits_if (lists id known.menu) _ Rest tt tt

  suits_pick : (id : ℕ) (command : Proactive) (held : Held) (known : Known) → Holds held.details → Suit (pick id command held known)
  suits_pick id (proactive.SelectItem title items) held known holds = suits_if (lists id items) _ Rest holds tt
  suits_pick id other held known holds = suits_menu id known

  suits_pick_with : (id : ℕ) (held : Option Held) (known : Known) → HoldsIn Holds held → Suit (pick_with id held known)
  suits_pick_with id None known holds = suits_menu id known
  suits_pick_with id (Some held) known holds = suits_pick id held.command held known holds

  pub suits_said : (heard : HandsetLine) (known : Known) → HoldsIn Holds known.held → Suit (said heard known)
  suits_said line.UserOk known holds = suits_with known.held (λ held. confirm held.command held) holds (λ held each. suits_confirm held.command held each)
  suits_said (line.UserType text) known holds = suits_with known.held (λ held. type_in text held) holds (λ held each. suits_if (takes held.command (length text)) _ Rest each tt)
  suits_said (line.UserPick id) known holds = suits_pick_with id known.held known holds
  suits_said line.UserPress known holds = suits_if known.listed.activity _ Rest tt tt
  suits_said line.UserIdle known holds = suits_if (known.listed.idle && is_none known.held) _ Rest tt tt
  suits_said (line.UserDial digits) known holds = tt
  suits_said (line.NetPlace place) known holds = suits_if known.listed.location _ Rest tt tt
  suits_said line.NetPoll known holds = tt
  suits_said (line.Time seconds) known holds = suits_settled known
  suits_said line.Reset known holds = tt
  suits_said other known holds = suits_with known.held _ holds (λ held each. each)
