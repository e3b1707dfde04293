-- What a command of the toolkit makes of a card, be the bytes of its store told or not.
use Rattle.std.proofs.Common.{◌≡◌, refl, sym, ap, ◌∙◌, subst, ℕ, List, Some, arith, length, map, option_map, Result, Ok, Err}
use Rattle.std.proofs.lemmas.List.{length-map}
use Rattle.list_laws.proofs.MapLemmas.{nil_mapped}
use Rattle.uicc_types.specs.declared.answers.Answer.{Answer}
use Rattle.uicc_types.specs.declared.answers.StatusWord.{StatusWord}
use Rattle.uicc_types.specs.Counts.{raised_by}
use Rattle.store_form.specs.declared.store.StoreFault.{StoreFault}
use Rattle.card_state.specs.Memory.{Memory, held}
use Rattle.card_state.specs.Persistent.{Persistent}
use Rattle.file_model.specs.Chains.{and_given}
use Rattle.card_commits.specs.Performing.{CommitsAtMost}
use Rattle.toolkit_model.specs.Passing.{ToolkitState, passed_rows}
use Rattle.proactive_handler.specs.Counting.{Counts}
use Rattle.proactive_handler.proofs.CountingLemmas.{counts_none}
use Rattle.proactive_handler.specs.Steps.{Scene}
use Rattle.card_model.specs.States.{CardState}
use Rattle.card_model.specs.Answers.{on_toolkit, toolkit_tried, settled}
use Rattle.card_model.specs.Toolkit.{ToolkitOutcome, states_passed, with_rows}
use Rattle.cat_commands.specs.Carrying.{HasToolkit, HasCome, IsToolkitCutShort, IsRefused, IsAnswered, Carries}
use Rattle.cat_commands.specs.Cards.{AnswersSo}

module _ (card : CardState) (out : Answer) (old new : Scene) (has : HasToolkit old card) where
  refused_so : (status : StatusWord) → IsRefused status out old new → AnswersSo card (settled card (toolkit_tried card (Err status))) out new
  unfolding and_given
  refused_so status refused = record {
    body = refused.body;
    status = refused.status_is;
    toolkit = subst (λ (p : Scene). HasToolkit p card) (sym refused.stays) has;
    channels = refl;
    verified = refl;
  }

  answered_so : (outcome : ToolkitOutcome) → IsAnswered outcome out old new → AnswersSo card (settled card (toolkit_tried card (Ok outcome))) out new
  unfolding and_given
  answered_so outcome answered = record {
    body = answered.body;
    status = answered.status_is;
    toolkit = record {
      told = answered.comes.tells card.persistent has.told;
      session_is = sym (ap (λ (s : ToolkitState). s.session) answered.comes.toolkit_is);
      boxes_are = sym (ap (λ (s : ToolkitState). s.minds) answered.comes.toolkit_is);
    };
    channels = refl;
    verified = refl;
  }

  -- whatever the store tells: the answer, and what is left of the card
  pub answers_so : {X : Type 0} (tried : Result ToolkitOutcome StatusWord) (result : X) → Carries {X = X} tried out old new (Ok result) → AnswersSo card (settled card (toolkit_tried card tried)) out new
  answers_so (Err status) result carries = refused_so status carries
  answers_so (Ok outcome) result carries = answered_so outcome carries

-- ---- where the store tells its bytes

module _ (card : CardState) (old new : Scene) (stood : held old.memory ≡ Some card.persistent) where
  refused_holds : (status : StatusWord) → new ≡ old → held new.memory ≡ Some (settled card (toolkit_tried card (Err status))).state.persistent
  unfolding and_given
  refused_holds status stays = ap (λ (p : Scene). held p.memory) stays ∙ stood

  answered_holds : (outcome : ToolkitOutcome) → HasCome outcome old new → held new.memory ≡ Some (settled card (toolkit_tried card (Ok outcome))).state.persistent
  unfolding and_given
  answered_holds outcome comes = comes.stands ∙ ap (option_map (λ (state : Persistent). (on_toolkit (record card { persistent = state }) outcome).state.persistent)) stood

  -- the store stands for what the answered card holds for good
  pub holds_so : {X : Type 0} (tried : Result ToolkitOutcome StatusWord) (out : Answer) (result : X) → Carries {X = X} tried out old new (Ok result) → held new.memory ≡ Some (settled card (toolkit_tried card tried)).state.persistent
  holds_so (Err status) out result carries = refused_holds status carries.stays
  holds_so (Ok outcome) out result carries = answered_holds outcome carries.comes

-- ---- how often it commits

counts_each : {X Y : Type 0} (f : X → Y) (xs : List X) (old new : Memory) → Counts xs old new → Counts (map f xs) old new
counts_each f xs old new counts = record {
  commits = counts.commits ∙ ap (λ (count : ℕ). raised_by count old.commits) (sym (length-map xs f));
  stays = λ none. counts.stays (nil_mapped f xs none);
}

module _ (card : CardState) (out : Answer) (old new : Scene) where
  refused_counts : (status : StatusWord) → new ≡ old → Counts (settled card (toolkit_tried card (Err status))).commits old.memory new.memory
  unfolding and_given
  refused_counts status stays = counts_none old.memory new.memory (ap (λ (s : Scene). s.memory) stays)

  answered_counts : (outcome : ToolkitOutcome) → HasCome outcome old new → Counts (settled card (toolkit_tried card (Ok outcome))).commits old.memory new.memory
  unfolding and_given
  answered_counts outcome comes = counts_each (with_rows card.persistent outcome.next_sequence) (passed_rows outcome.passed.log) old.memory new.memory comes.counts

  -- after Ok there was a commit for each state that the command passes, and where it passes none the bytes stayed
  pub counts_so : {X : Type 0} (tried : Result ToolkitOutcome StatusWord) (result : X) → Carries {X = X} tried out old new (Ok result) → Counts (settled card (toolkit_tried card tried)).commits old.memory new.memory
  counts_so (Err status) result carries = refused_counts status carries.stays
  counts_so (Ok outcome) result carries = answered_counts outcome carries.comes

  short_counts : (outcome : ToolkitOutcome) → IsToolkitCutShort outcome old new → CommitsAtMost (length (settled card (toolkit_tried card (Ok outcome))).commits) old.memory.commits new.memory.commits
  unfolding and_given
  short_counts outcome short =
      let long : length (states_passed card.persistent outcome) ≡ length (passed_rows outcome.passed.log) = length-map (passed_rows outcome.passed.log) (with_rows card.persistent outcome.next_sequence) in
      (short.count, (omega (arith, short.one_more, long), short.commits))

  -- after a fault no more commits were done than the command has
  pub at_most_so : (X : Type 0) (tried : Result ToolkitOutcome StatusWord) (fault : StoreFault) → Carries {X = X} tried out old new (Err fault)
      → CommitsAtMost (length (settled card (toolkit_tried card tried)).commits) old.memory.commits new.memory.commits
  at_most_so X (Err status) fault carries = absurd carries
  at_most_so X (Ok outcome) fault carries = short_counts outcome carries
