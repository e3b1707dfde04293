-- Each step that a card takes by what the link passes for a command is one that it takes by the command itself.
use Rattle.std.proofs.Common.{◌≡◌, ◌∙◌, ℕ, ◌+◌, Bool, true, false, cond, List, [], ◌∷◌, Option, refl, sym, ap, subst, inl, inr, MatchBool, count_by, map, rules}
use Rattle.std.proofs.lemmas.List.Sums.{sum_by-cons}
use Rattle.uicc_types.specs.Counts.{Meter, raised_by}
use Rattle.uicc_types.specs.declared.answers.Answer.{Answer}
use Rattle.uicc_types.specs.declared.answers.StatusWord.{StatusWord}
use Rattle.uicc_types.specs.declared.answers.TheConstants.StatusWord.{MEMORY_PROBLEM}
use Rattle.uicc_types.specs.declared.plans.Plan.{Plan}
use Rattle.uicc_types.specs.declared.runs.TraceItem.{TraceItem}
use Rattle.uicc_types.specs.declared.runs.Step.TheVariants as step
use Rattle.uicc_types.specs.declared.runs.TraceItem.TheVariants as item
use Rattle.t0_link.specs.Linking.{Linked, Course, Answers, Passes, status_alone}
use Rattle.t0_link.specs.Carrying.{command_answer}
use Rattle.card_state.specs.Persistent.{Persistent}
use Rattle.card_model.specs.Answers.{Answered, answer, passed}
use Rattle.card_model.specs.Counts.{IsCounted, is_failure, is_cut}
use Rattle.card_model.specs.Instructions.{is_known}
use Rattle.card_model.specs.Runs.{IsLeft, Exchanges, MemoryFails, PowerIsLost, Commands, MeetsNoPower, StepGives}
use Rattle.card_model.specs.States.{CardState, Machine, powered}
use Rattle.run_steps.specs.Linked.{shown, HasAnswer, HasOwnAnswer, GivesOwnAnswer, LinkChangesNoAnswer}
use Rattle.run_steps.specs.Tpdus.{item_of, shown_for}
use Rattle.run_steps.specs.Stepped.{without_bytes, HasOwnStep, GivesOwnStep, LinkChangesNoStep}

-- what came of what was sent
abbrev reply_in : List TraceItem → TraceItem
reply_in [] = item.Reset
reply_in (sent ∷ []) = item.Reset
reply_in (sent ∷ reply ∷ more) = reply

-- ---- a step

module _ (old : Machine) (bytes apdu : List ℕ) (expected : Option ℕ) (make : Answer → Linked) (is : HasOwnAnswer (answer old.card bytes) (answer old.card apdu) expected make) where
  abbrev own : Answered
  own = answer old.card bytes

  abbrev other : Answered
  other = answer old.card apdu

  abbrev IsOwn : TraceItem → Machine → Type 0
  IsOwn reply new = HasOwnStep old bytes make reply new

  with_power : (items : List TraceItem) (new : Machine) → old.on ≡ true → Commands old bytes items new → StepGives old (step.Apdu bytes) items new
  with_power items new on commands = subst (λ (b : Bool). MatchBool b (Commands old bytes items new) (MeetsNoPower old bytes items new)) (sym on) commands

  without_power : (items : List TraceItem) (new : Machine) → old.on ≡ false → MeetsNoPower old bytes items new → StepGives old (step.Apdu bytes) items new
  without_power items new off none = subst (λ (b : Bool). MatchBool b (Commands old bytes items new) (MeetsNoPower old bytes items new)) (sym off) none

  -- both commands pass the same states
  left_so : (card : CardState) → IsLeft old.card (passed old.card apdu) card → IsLeft old.card (passed old.card bytes) card
  left_so card left = subst (λ (states : List Persistent). IsLeft old.card states card) (ap (λ (each : Answered). old.card.persistent ∷ each.commits) (sym is.same)) left

  -- what is shown is known
  shown_so : (reply known : TraceItem) (new : Machine) → shown_for apdu reply ≡ shown_for apdu known → IsOwn known new → IsOwn reply new
  shown_so reply known new seen = subst (λ (each : TraceItem). IsOwn each new) (sym (ap reply_in seen))

  -- an answer, of which the link makes another
  answer_so : (given made : Answer) (new : Machine) → HasAnswer (make given) made → made.status ≡ given.status → StepGives old (step.Apdu bytes) (shown_for bytes (item_of made)) new → IsOwn (item_of given) new
  answer_so given made new has same gives = record {
    gives = subst (λ (linked : Linked). StepGives old (step.Apdu bytes) (shown_for bytes (item_of linked.answer)) new) (sym has) gives;
    alike = ap (λ (linked : Linked). item.Answer [] linked.answer.status) has ∙ ap (λ (status : StatusWord). item.Answer [] status) same;
    keeps = ap (λ (linked : Linked). linked.kept) has;
  }

  exchanged : (reply : TraceItem) (new : Machine) → old.on ≡ true → Exchanges old apdu (shown_for apdu reply) new → IsOwn reply new
  exchanged reply new on exchanges =
      shown_so reply (item_of (shown other)) new exchanges.seen
      (answer_so (shown other) (shown own) new is.given (ap (λ (each : Answered). each.status) is.same)
      (with_power (shown_for bytes (item_of (shown own))) new on (inl (record { seen = refl; moved = exchanges.moved ∙ ap (λ (each : Answered). powered each.state) (sym is.same) }))))

  failed : (reply : TraceItem) (new : Machine) → old.on ≡ true → MemoryFails old apdu (shown_for apdu reply) new → IsOwn reply new
  failed reply new on fails =
      let alone : Answer = status_alone MEMORY_PROBLEM in
      shown_so reply (item_of alone) new fails.seen
      (answer_so alone alone new is.failed refl
      (with_power (shown_for bytes (item_of alone)) new on (inr (inl (record { seen = refl; card = fails.card; left = left_so fails.card fails.left; moved = fails.moved })))))

  lost : (reply : TraceItem) (new : Machine) → old.on ≡ true → PowerIsLost old apdu (shown_for apdu reply) new → IsOwn reply new
  lost reply new on loses =
      shown_so reply item.Cut new loses.seen (record {
        gives = with_power (shown_for bytes item.Cut) new on (inr (inr (record { seen = refl; card = loses.card; left = left_so loses.card loses.left; moved = loses.moved })));
        alike = refl;
        keeps = refl;
      })

  powerless : (reply : TraceItem) (new : Machine) → old.on ≡ false → MeetsNoPower old apdu (shown_for apdu reply) new → IsOwn reply new
  powerless reply new off none =
      shown_so reply item.Off new none.seen (record {
        gives = without_power (shown_for bytes item.Off) new off (record { seen = refl; stays = none.stays });
        alike = refl;
        keeps = refl;
      })

  by_power : (on : Bool) → old.on ≡ on → (reply : TraceItem) (new : Machine) → MatchBool on (Commands old apdu (shown_for apdu reply) new) (MeetsNoPower old apdu (shown_for apdu reply) new) → IsOwn reply new
  by_power true on reply new (inl exchanges) = exchanged reply new on exchanges
  by_power true on reply new (inr (inl fails)) = failed reply new on fails
  by_power true on reply new (inr (inr loses)) = lost reply new on loses
  by_power false off reply new none = powerless reply new off none

-- ---- the laws

own_step : (old : Machine) (bytes : List ℕ) (expected : Option ℕ) (course : Course) → GivesOwnAnswer is_known old.card bytes expected course → GivesOwnStep old bytes course
own_step old bytes expected (Answers linked) is = is
own_step old bytes expected (Passes apdu make) is = λ reply new gives. by_power old bytes apdu expected make is old.on refl reply new gives

pub changes_no_step : LinkChangesNoAnswer → LinkChangesNoStep
changes_no_step same old kept bytes command good are read known =
    own_step old bytes command.expected (command_answer kept command) (same is_known old.card kept bytes command good are read known)

-- ---- counts

bare_failure : (reply : TraceItem) → is_failure (without_bytes reply) ≡ is_failure reply
bare_failure (item.Command bytes) = refl
bare_failure other = refl

bare_cut : (reply : TraceItem) → is_cut (without_bytes reply) ≡ is_cut reply
bare_cut (item.Command bytes) = refl
bare_cut other = refl

-- so many items pass a test that looks at no bytes
count_bare : (test : TraceItem → Bool) → ((reply : TraceItem) → test (without_bytes reply) ≡ test reply) → (items : List TraceItem) → count_by test (map without_bytes items) ≡ count_by test items
count_bare test same [] = refl
count_bare test same (reply ∷ items) =
    let counted : TraceItem → ℕ = λ each. cond (test each) 1 0 in
    sum_by-cons counted (without_bytes reply) (map without_bytes items)
    ∙ ap (λ (passes : Bool). cond passes 1 0 + count_by test (map without_bytes items)) (same reply)
    ∙ ap (λ (count : ℕ). counted reply + count) (count_bare test same items)
    ∙ sym (sum_by-cons counted reply items)

count_alike : (test : TraceItem → Bool) → ((reply : TraceItem) → test (without_bytes reply) ≡ test reply) → (items other : List TraceItem) → map without_bytes other ≡ map without_bytes items → count_by test items ≡ count_by test other
count_alike test same items other alike = sym (count_bare test same items) ∙ ap (count_by test) (sym alike) ∙ count_bare test same other

pub counted_alike : (old new : Meter) (plans : List Plan) (items other : List TraceItem) → map without_bytes other ≡ map without_bytes items → IsCounted old new plans items → IsCounted old new plans other
counted_alike old new plans items other alike counted =
    search (rules, counted.failures ∙ ap (λ (times : ℕ). raised_by times old.faults) (count_alike is_failure bare_failure items other alike), counted.cuts ∙ ap (λ (times : ℕ). raised_by times old.cuts) (count_alike is_cut bare_cut items other alike), counted)
