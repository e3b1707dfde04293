-- What a card and a handset that keeps to its rules agree on between two exchanges, and that they go on to agree.
use Rattle.std.proofs.Common.{◌≡◌, ℕ, Bool, true, false, List, [], ◌∷◌, Option, refl, sym, ap, subst, if◌then◌else◌, IfSome}
use Rattle.std.proofs.lemmas.Bool.{false≢true}
use Rattle.std.specs.Prelude.{⊤}
use Rattle.uicc_types.specs.declared.answers.Answer.{Answer}
use Rattle.uicc_types.specs.declared.answers.TheConstants.StatusWord.{MEMORY_PROBLEM}
use Rattle.script_form.specs.declared.handset.HandsetLine.{HandsetLine}
use Rattle.script_form.specs.declared.handset.Note.{Note}
use Rattle.card_state.specs.Persistent.{Persistent}
use Rattle.file_model.specs.Channels.{is_open}
use Rattle.card_model.specs.Answers.{passed}
use Rattle.card_model.specs.Instructions.{is_known}
use Rattle.card_model.specs.Runs.{IsLeft}
use Rattle.card_model.specs.States.{CardState, Machine, powered, unpowered, restarted, woken}
use Rattle.card_laws.specs.ToolkitLaws.{EventsGoOn}
use Rattle.card_laws.specs.Moving.{Breaks, Restarts}
use Rattle.handset_model.specs.History.{Happened, Said, Sent, Answered, Noted, Restarted, PowerCut, held, announced, is_silent, known}
use Rattle.handset_model.specs.Rules.{asked, said_at, is_reset}
use Rattle.handset_model.specs.Sending.{apdu_of}
use Rattle.handset_model.specs.declared.commands.Command.{Command}
use Rattle.handset_model.specs.declared.known.Duty.{Duty}
use Rattle.handset_model.specs.declared.known.Duty.TheVariants.{Rest, Show, ResetCard}
use Rattle.phone_runs.specs.Exchanges.{CanServe, Announces, Awaits}
use Rattle.phone_runs.proofs.DutyLemmas.{Suits, HoldsIn, suits_said, suits_noted}

-- nothing is sent and nothing shown
abbrev pub IsStill : Duty → Type 0
IsStill Rest = ⊤
IsStill ResetCard = ⊤
IsStill _ = ⊥

-- what the card needs for the next duty
abbrev pub Meets : CardState → Option ℕ → Duty → Type 0
Meets card told duty = Suits (Announces card) (Awaits card) (IfSome told (Announces card)) duty

-- The card is ready, and it has power unless the handset fell silent. What the handset holds is the command that it has to answer;
-- what it does next can be met. Once it is silent it does nothing but a reset.
pub record Agrees (h : List Happened) (machine : Machine) : Type 0 where
  pub ready : CanServe machine.card
  pub has_power : is_silent h ≡ false → machine.on ≡ true
  pub holds : is_silent h ≡ false → HoldsIn (Awaits machine.card) (held h)
  pub meets : is_silent h ≡ false → Meets machine.card (announced h) (asked h)
  pub rests : is_silent h ≡ true → IsStill (asked h)

-- ---- silence

still_if : (test : Bool) → IsStill (if test then ResetCard else Rest)
still_if true = tt
still_if false = tt

-- a handset that sends or shows something is not silent
pub speaks : (h : List Happened) (machine : Machine) (duty : Duty) → Agrees h machine → asked h ≡ duty → (IsStill duty → ⊥) → is_silent h ≡ false
speaks h machine duty agrees is moves = by_silence (is_silent h) refl where
  by_silence : (b : Bool) → is_silent h ≡ b → b ≡ false
  by_silence true silent = absurd (moves (subst IsStill is (agrees.rests silent)))
  by_silence false silent = refl

-- ---- lines and notes

pub agrees_said : (h : List Happened) (heard : HandsetLine) (machine : Machine) → Agrees h machine → Agrees (Said heard ∷ h) machine
unfolding known
agrees_said h heard machine agrees = record {
  ready = agrees.ready;
  has_power = agrees.has_power;
  holds = agrees.holds;
  meets = λ silent.
      subst (λ (b : Bool). Meets machine.card (announced h) (said_at b heard (known (Said heard ∷ h)))) (sym silent)
      (suits_said (Announces machine.card) (Awaits machine.card) (IfSome (announced h) (Announces machine.card)) heard (known (Said heard ∷ h)) (agrees.holds silent));
  rests = λ silent. subst (λ (b : Bool). IsStill (said_at b heard (known (Said heard ∷ h)))) (sym silent) (still_if (is_reset heard));
}

pub agrees_noted : (h : List Happened) (note : Note) (machine : Machine) → Agrees h machine → asked h ≡ Show note → Agrees (Noted note ∷ h) machine
unfolding known
agrees_noted h note machine agrees shows = record {
  ready = agrees.ready;
  has_power = agrees.has_power;
  holds = agrees.holds;
  meets = λ silent.
      suits_noted (Announces machine.card) (Awaits machine.card) (IfSome (announced h) (Announces machine.card)) note (known h) (agrees.holds silent)
      (subst (Meets machine.card (announced h)) shows (agrees.meets silent));
  rests = λ silent. absurd (subst IsStill shows (agrees.rests silent));
}

-- ---- resets

woken_open : (card left : CardState) (states : List Persistent) → IsLeft card states left → is_open left.channels 0 ≡ true
unfolding woken
woken_open card left states is = ap (λ (each : CardState). is_open each.channels 0) is.woke

restarted_open : (card : CardState) → is_open (restarted card).channels 0 ≡ true
unfolding woken
restarted_open card = refl

module _ (goes : EventsGoOn) where
  left_ready : (card left : CardState) (bytes : List ℕ) → CanServe card → IsLeft card (passed card bytes) left → CanServe left
  left_ready card left bytes ready is = record {
    order = (goes is_known card (Breaks bytes left ∷ []) refl ready.order (is, tt)).2;
    basic = woken_open card left (passed card bytes) is;
  }

  restarted_ready : (card : CardState) → CanServe card → CanServe (restarted card)
  restarted_ready card ready = record { order = (goes is_known card (Restarts ∷ []) refl ready.order (tt, tt)).2; basic = restarted_open card }

  pub agrees_restarted : (h : List Happened) (machine : Machine) → Agrees h machine → Agrees (Restarted ∷ h) (powered (restarted machine.card))
  agrees_restarted h machine agrees = record {
    ready = restarted_ready machine.card agrees.ready;
    has_power = λ silent. refl;
    holds = λ silent. tt;
    meets = λ silent. tt;
    rests = λ silent. absurd (false≢true silent);
  }

  pub agrees_cut : (h : List Happened) (machine : Machine) → Agrees h machine → Agrees (PowerCut ∷ h) (unpowered (restarted machine.card))
  agrees_cut h machine agrees = record {
    ready = restarted_ready machine.card agrees.ready;
    has_power = λ silent. absurd (false≢true (sym silent));
    holds = λ silent. absurd (false≢true (sym silent));
    meets = λ silent. absurd (false≢true (sym silent));
    rests = λ silent. tt;
  }

  -- ---- faults in a command

  pub agrees_lost : (h : List Happened) (command : Command) (machine : Machine) (left : CardState) → Agrees h machine → IsLeft machine.card (passed machine.card (apdu_of command)) left
      → Agrees (PowerCut ∷ Sent command ∷ h) (unpowered left)
  agrees_lost h command machine left agrees is = record {
    ready = left_ready machine.card left (apdu_of command) agrees.ready is;
    has_power = λ silent. absurd (false≢true (sym silent));
    holds = λ silent. absurd (false≢true (sym silent));
    meets = λ silent. absurd (false≢true (sym silent));
    rests = λ silent. tt;
  }

  abbrev pub failure : Answer
  failure = record { body = []; status = MEMORY_PROBLEM }

  pub agrees_failed : (h : List Happened) (command : Command) (machine : Machine) (left : CardState) → Agrees h machine → IsLeft machine.card (passed machine.card (apdu_of command)) left
      → Agrees (Answered failure ∷ Sent command ∷ h) (powered left)
  agrees_failed h command machine left agrees is = record {
    ready = left_ready machine.card left (apdu_of command) agrees.ready is;
    has_power = λ silent. refl;
    holds = λ silent. absurd (false≢true (sym silent));
    meets = λ silent. absurd (false≢true (sym silent));
    rests = λ silent. tt;
  }
