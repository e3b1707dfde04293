-- What a command and a reset make of a card.
use Rattle.std.proofs.Common.{◌≡◌, ℕ, Bool, true, false, List, [], ◌∷◌, Option, Some, None, Ok, refl, sym, ap, ◌∙◌, subst, inl, inr, option_map, IfSome, IsSomeAnd, MatchBool, not, ◌==◌, ◌≢◌, ◌⊎◌}
use Rattle.list_laws.proofs.IfSomeLemmas.{if_some_at}
use Rattle.uicc_types.specs.Counts.{Caused, Meter}
use Rattle.uicc_types.specs.declared.answers.Answer.{Answer}
use Rattle.uicc_types.specs.declared.answers.StatusWord.{StatusWord}
use Rattle.uicc_types.specs.declared.answers.TheConstants.StatusWord.{MEMORY_PROBLEM}
use Rattle.uicc_types.specs.declared.runs.TraceItem.{TraceItem}
use Rattle.uicc_types.specs.declared.runs.Step.TheVariants as step
use Rattle.uicc_types.specs.declared.runs.TraceItem.TheVariants as item
use Rattle.card_model.specs.Answers.{answer, passed}
use Rattle.card_model.specs.Runs.{Commands, IsLeft, MeetsNoPower, StepGives}
use Rattle.card_model.specs.States.{CardState, Machine, powered, unpowered, restarted}
use Rattle.card_core.specs.Cards.{card_of, held_by}
use Rattle.card_core.specs.Moves.{Answers, Fails}
use Rattle.card_core.specs.Parts.{CardParts}
use Rattle.run_steps.specs.Runs.{is_calm}
use Rattle.run_steps.specs.Taking.{machine_of, Resets, Sends}
use Rattle.run_steps.specs.Views.{IsBare, IsReply}
use Rattle.run_steps.proofs.StandingLemmas.{card_stands, is_machine, machine_is}
use Rattle.run_steps.specs.declared.steps.Restarted.TheVariants as ended

-- an answer that tells of no failing memory
calm_usual : (status : StatusWord) → not (status.0 == MEMORY_PROBLEM.0) ≡ true → status ≡ MEMORY_PROBLEM → ⊥
calm_usual status calm is = let at = ap (λ (s : StatusWord). not (s.0 == MEMORY_PROBLEM.0)) is in cc

-- ---- a command

-- with power
gives_on : (old new : Machine) (apdu : List ℕ) (items : List TraceItem) → old.on ≡ true → Commands old apdu items new → StepGives old (step.Apdu apdu) items new
gives_on old new apdu items on commands = subst (λ (b : Bool). MatchBool b (Commands old apdu items new) (MeetsNoPower old apdu items new)) (sym on) commands

gives_off : (old new : Machine) (apdu : List ℕ) (items : List TraceItem) → old.on ≡ false → MeetsNoPower old apdu items new → StepGives old (step.Apdu apdu) items new
gives_off old new apdu items off none = subst (λ (b : Bool). MatchBool b (Commands old apdu items new) (MeetsNoPower old apdu items new)) (sym off) none

-- a card that is not off has power
pub on_or_off : (b : Bool) → (b ≡ false → ⊥) → b ≡ true
on_or_off true no_off = refl
on_or_off false no_off = absurd (no_off refl)

-- a failure has no data
pub bare_reply : (on after : Bool) (shown : TraceItem) → IsReply on shown after → IsBare shown
bare_reply on after (item.Answer body status) replies = replies.1
bare_reply on after other replies = tt

-- a state that is left
left_in : (after : Option CardState) (P : CardState → Type 0) → IsSomeAnd after P → (card : CardState) × (after ≡ Some card) × P card
left_in None P is = absurd is
left_in (Some card) P is = (card, refl, is)

answered : (old : Machine) (apdu : List ℕ) (out : Answer) (to : CardParts) → old.on ≡ true → to.is_on ≡ true → (is_calm (item.Answer out.body out.status) ≡ true → to.is_due ≡ false) → Answers (answer old.card apdu) out (card_of to) ⊎ Fails old.card apdu out (card_of to)
    → Sends old apdu (item.Answer out.body out.status) to
answered old apdu out to on stays rests (inl answers) = record {
  machine = powered (answer old.card apdu).state;
  told = is_machine to (answer old.card apdu).state true answers.moved stays;
  gives = gives_on old _ apdu _ on (inl (record {
    seen = ap (λ b. item.Command apdu ∷ item.Answer b out.status ∷ []) answers.body ∙ ap (λ s. item.Command apdu ∷ item.Answer (answer old.card apdu).body s ∷ []) answers.status;
    moved = refl;
  }));
  rests = rests;
}
answered old apdu out to on stays rests (inr fails) =
    let left = left_in (card_of to) (IsLeft old.card (passed old.card apdu)) fails.left in
    record {
      machine = powered left.0;
      told = is_machine to left.0 true left.1 stays;
      gives = gives_on old _ apdu _ on (inr (inl (record {
        seen = ap (λ b. item.Command apdu ∷ item.Answer b out.status ∷ []) fails.body ∙ ap (λ s. item.Command apdu ∷ item.Answer [] s ∷ []) fails.status;
        card = left.0;
        left = left.2;
        moved = refl;
      })));
      rests = rests;
    }

pub sends_answer : (from to : CardParts) (apdu : List ℕ) (out : Answer) (old : Machine) → machine_of from ≡ Some old → (from.is_on ≡ false → ⊥) → to.is_on ≡ true → (out.status ≢ MEMORY_PROBLEM → to.is_due ≡ false)
    → IfSome (card_of from) (λ card. Answers (answer card apdu) out (card_of to) ⊎ Fails card apdu out (card_of to)) → Sends old apdu (item.Answer out.body out.status) to
sends_answer from to apdu out old is power stays rests moves =
    let machine = machine_is from old is in
    answered old apdu out to (sym machine.on ∙ on_or_off from.is_on power) stays (λ calm. rests (calm_usual out.status calm))
    (if_some_at (card_of from) (λ card. Answers (answer card apdu) out (card_of to) ⊎ Fails card apdu out (card_of to)) old.card moves machine.card)

pub sends_cut : (from to : CardParts) (apdu : List ℕ) (old : Machine) → machine_of from ≡ Some old → (from.is_on ≡ false → ⊥) → to.is_on ≡ false
    → IfSome (card_of from) (λ card. IsSomeAnd (card_of to) (IsLeft card (passed card apdu))) → Sends old apdu item.Cut to
sends_cut from to apdu old is power goes moves =
    let machine = machine_is from old is in
    let left = left_in (card_of to) (IsLeft old.card (passed old.card apdu)) (if_some_at (card_of from) (λ card. IsSomeAnd (card_of to) (IsLeft card (passed card apdu))) old.card moves machine.card) in
    record {
      machine = unpowered left.0;
      told = is_machine to left.0 false left.1 goes;
      gives = gives_on old _ apdu _ (sym machine.on ∙ on_or_off from.is_on power) (inr (inr (record { seen = refl; card = left.0; left = left.2; moved = refl })));
      rests = λ calm. absurd (cc);
    }

pub sends_off : (from to : CardParts) (apdu : List ℕ) (old : Machine) → machine_of from ≡ Some old → from.is_on ≡ false → machine_of to ≡ machine_of from → Sends old apdu item.Off to
sends_off from to apdu old is off same = record {
  machine = old;
  told = same ∙ is;
  gives = gives_off old old apdu _ (sym (machine_is from old is).on ∙ off) (record { seen = refl; stays = refl });
  rests = λ calm. absurd (cc);
}

-- why the device counted what a command shows, told another way
pub caused_as : {Failed Lost Fails Loses : Type 0} → (old new : Meter) → Caused old new Failed Lost → (Fails → Failed) → (Failed → Fails) → (Loses → Lost) → (Lost → Loses) → Caused old new Fails Loses
caused_as old new caused fails failed loses lost = record {
  faults_kept = caused.faults_kept;
  cuts_kept = caused.cuts_kept;
  failed = λ so. caused.failed (fails so);
  no_fault = λ none. caused.no_fault (λ so. none (failed so));
  lost = λ so. caused.lost (loses so);
  cut = λ so power. caused.cut (loses so) power;
  no_power = λ so none. caused.no_power (loses so) none;
  no_cut = λ none. caused.no_cut (λ so. none (lost so));
  power_kept = λ none. caused.power_kept (λ so. none (lost so));
  plans_kept = caused.plans_kept;
  latest_kept = caused.latest_kept;
  plan_kept = caused.plan_kept;
  settings_kept = caused.settings_kept;
}

-- ---- a reset

restarts_of : (from to : CardParts) (old : Machine) → machine_of from ≡ Some old → card_of to ≡ option_map restarted (card_of from) → card_of to ≡ Some (restarted old.card)
restarts_of from to old is moved = moved ∙ ap (option_map restarted) (machine_is from old is).card

pub resets_on : (from to : CardParts) (old : Machine) → machine_of from ≡ Some old → card_of to ≡ option_map restarted (card_of from) → to.is_on ≡ true → to.is_due ≡ false → Resets (Ok ended.Done) old to
resets_on from to old is moved on rests = (is_machine to (restarted old.card) true (restarts_of from to old is moved) on, rests)

pub resets_off : (from to : CardParts) (old : Machine) → machine_of from ≡ Some old → card_of to ≡ option_map restarted (card_of from) → to.is_on ≡ false → Resets (Ok ended.Cut) old to
resets_off from to old is moved off = is_machine to (restarted old.card) false (restarts_of from to old is moved) off

pub resets_failed : (from to : CardParts) (old : Machine) → machine_of from ≡ Some old → card_of to ≡ option_map restarted (card_of from) → held_by to ≡ Some (restarted old.card).persistent
resets_failed from to old is moved = card_stands to (restarted old.card) (restarts_of from to old is moved)
