-- A card serves the FETCH and the TERMINAL RESPONSE of a handset (ETSI TS 102 221, 11.2.3 and 11.2.4).
use Rattle.std.specs.Prelude.{◌≡◌, ◌⊎◌, ℕ, ◌/◌, ◌==◌, ◌||◌, Bool, true, List, [], ◌∷◌, length, All, Option, ⊤}
use Rattle.uicc_types.specs.declared.answers.StatusWord.{StatusWord}
use Rattle.uicc_types.specs.declared.answers.TheConstants.StatusWord.{DONE, MEMORY_PROBLEM}
use Rattle.uicc_types.specs.declared.runs.Step.{Step}
use Rattle.uicc_types.specs.declared.runs.TraceItem.{TraceItem}
use Rattle.uicc_types.specs.declared.runs.TraceItem.TheVariants as item
use Rattle.script_form.specs.declared.handset.HandsetLine.{HandsetLine}
use Rattle.card_state.specs.Persistent.{Persistent}
use Rattle.file_model.specs.Laws.{IsSoundCard}
use Rattle.applet_trait.specs.Minds.{AppletState}
use Rattle.card_model.specs.Runs.{IsRun}
use Rattle.card_model.specs.States.{Machine, HasBox, AreOfKnownKinds, IsGood, woken, powered}
use Rattle.card_laws.specs.Traces.{ins_of}
use Rattle.handset_model.specs.Legal.{TraceEntry, items_seen, IsLegal, IsBegun}

-- the command was carried out, `9000` or `91XX`, or the memory failed in it, `6581`
abbrev pub IsServing : StatusWord → Type 0
IsServing status = (status ≡ DONE) ⊎ (status.0 / 256 ≡ 0x91) ⊎ (status ≡ MEMORY_PROBLEM)

-- what comes next is such an answer, or power is lost
abbrev pub IsServedBy : List TraceItem → Type 0
IsServedBy (item.Answer body status ∷ later) = IsServing status
IsServedBy (item.Cut ∷ later) = ⊤
IsServedBy _ = ⊥

-- FETCH or TERMINAL RESPONSE, by the instruction byte
abbrev pub is_fetch_or_response : List ℕ → Bool
is_fetch_or_response bytes = ins_of bytes == 0x12 || ins_of bytes == 0x14

-- each of them in a trace is served
abbrev pub AreServed : List TraceItem → Type 0
AreServed [] = ⊤
AreServed (item.Command bytes ∷ later) = (is_fetch_or_response bytes ≡ true → IsServedBy later) × AreServed later
AreServed (_ ∷ later) = AreServed later

-- The handset was stopped at any place of its rules, or came to their end.
abbrev pub KeepsToRules : List HandsetLine → List TraceEntry → Type 0
KeepsToRules lines trace = IsLegal lines trace ⊎ IsBegun lines trace

-- In each run of a good card with power, from which a handset that keeps to its rules has this trace, each FETCH and TERMINAL
-- RESPONSE of the handset is answered `9000`, `91XX` or `6581`, or power is lost in it.
abbrev pub HandsetsAreServed : Type 0
HandsetsAreServed =
    (old new : Machine) (steps : List Step) (lines : List HandsetLine) (trace : List TraceEntry) → IsGood old.card → old.on ≡ true → KeepsToRules lines trace → IsRun old steps (items_seen trace) new
    → AreServed (items_seen trace)

-- so from a card that just woke
abbrev pub HandsetsAreServedFromStart : Type 0
HandsetsAreServedFromStart =
    (persistent : Persistent) (boxes : List (Option AppletState)) (new : Machine) (steps : List Step) (lines : List HandsetLine) (trace : List TraceEntry)
    → IsSoundCard persistent → length boxes ≡ 32 → All (HasBox boxes) persistent.rows → AreOfKnownKinds boxes → KeepsToRules lines trace → IsRun (powered (woken persistent boxes)) steps (items_seen trace) new
    → AreServed (items_seen trace)
