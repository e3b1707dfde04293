-- STATUS, of which the applets are told.
use Rattle.std.proofs.Common.{◌≡◌, ◌⊎◌, inl, inr, ◌==◌, ℕ, Contains, true, false, List, [], ◌∷◌, ◌++◌, Option, Some, None, option_map, Result, Ok, Err, refl, sym, ◌∙◌, ap, subst, IsSomeAnd, MatchResult, OnOk}
use Rattle.std.proofs.lemmas.Bool.{false≢true, true≢false}
use Rattle.std.proofs.lemmas.Result.{on_err_weaker}
use Rattle.uicc_types.specs.declared.answers.Answer.{Answer}
use Rattle.uicc_types.specs.declared.answers.StatusWord.{StatusWord}
use Rattle.uicc_types.specs.declared.answers.TheConstants.StatusWord.{DONE}
use Rattle.apdu_form.specs.Model.{Apdu}
use Rattle.store_form.specs.declared.store.StoreFault.{StoreFault}
use Rattle.card_state.specs.Changes.{Change}
use Rattle.card_state.specs.Persistent.{Persistent}
use Rattle.card_commits.specs.Writing.{all_written}
use Rattle.card_commits.proofs.WritesAllLemmas.{none_written}
use Rattle.file_model.specs.Chains.{and_given}
use Rattle.file_model.specs.Outcomes.{FileOutcome, last_of}
use Rattle.file_model.specs.Selecting.{status_told, telling}
use Rattle.file_model.specs.declared.selections.Selection.{Selection}
use Rattle.apdu_form.specs.Classes.{channel_of}
use Rattle.file_model.specs.Commands.{file_outcome}
use Rattle.file_model.specs.declared.commands.FileCommand.TheVariants.{Status}
use Rattle.file_model.proofs.ChainsLemmas.{unless_so, given_so}
use Rattle.card_model.specs.Answers.{Answered, settled, carried_out, carried_with, file_tried, then_polled, selection_on}
use Rattle.card_model.specs.Runs.{IsLeft, boxes_left}
use Rattle.card_model.specs.States.{CardState, woken}
use Rattle.card_model.specs.declared.instructions.Instruction.TheVariants.{File}
use Rattle.card_core.specs.Acting.{ActsOn, ActsAlone, ChangesNothing, TellsApplets}
use Rattle.card_core.specs.Cards.{card_with, card_due, held_by}
use Rattle.card_core.specs.Known.{KnownBy, ByStore, ByTable, ByMemory, IsKnown, IsAnsweredBy, SaysSo, IsLeftAt, StandsBy, Yields}
use Rattle.card_core.specs.Moves.{StopsAt, polled_on}
use Rattle.card_core.specs.Parts.{CardParts}
use Rattle.card_core.specs.Writing.{HasWritten, WritesChanges}
use Rattle.card_core.proofs.KnownLemmas.{card_by}
use Rattle.card_core.proofs.MovesItsOwnLemmas.{status_moved}
use Rattle.card_core.proofs.StopsAtLemmas.{so_from}
use Rattle.card_core.proofs.WritingLemmas.{writes_from}

-- ---- whether it was done

-- it commits nothing, is done, and changes nothing
abbrev IsDone : FileOutcome → Type 0
IsDone outcome = (outcome.passed ≡ []) × (outcome.status ≡ DONE) × (outcome.changes ≡ [])

abbrev IsOther : StatusWord → Type 0
IsOther status = (status.0 == DONE.0) ≡ false

status_is : (state : Persistent) (selection : Selection) (apdu : Apdu) → MatchResult (status_told state selection apdu) IsDone IsOther
unfolding status_told telling
status_is state selection apdu =
    unless_so IsDone IsOther _ _ _ refl (λ _. unless_so IsDone IsOther _ _ _ refl (λ _. given_so IsDone IsOther _ _ _ refl (λ file _. (refl, refl, refl))))

-- Carried out it is done, and leaves what is held for good, the boxes, the rows and the session; it is refused with another status.
pub record IsTelling (card : CardState) (apdu : Apdu) (answered : Answered) : Type 0 where
  pub status : answered.status ≡ DONE
  pub commits : answered.commits ≡ []
  pub changes : answered.changes ≡ []
  pub persistent : answered.state.persistent ≡ card.persistent
  pub boxes : answered.state.boxes ≡ card.boxes
  pub carried : settled card (carried_with true (File Status) card apdu) ≡ then_polled answered

pub record IsNotTold (card : CardState) (apdu : Apdu) (answered : Answered) : Type 0 where
  pub other : (answered.status.0 == DONE.0) ≡ false
  pub carried : settled card (carried_with true (File Status) card apdu) ≡ answered

TellsOrNot : CardState → Apdu → Answered → Type 0
TellsOrNot card apdu answered = IsTelling card apdu answered ⊎ IsNotTold card apdu answered

by_outcome : (card : CardState) (apdu : Apdu) (outcome : Result FileOutcome StatusWord) → outcome ≡ status_told card.persistent (selection_on card (channel_of apdu.class)) apdu → MatchResult outcome IsDone IsOther
    → TellsOrNot card apdu (settled card (file_tried card apdu outcome))
unfolding TellsOrNot carried_out and_given file_outcome
by_outcome card apdu (Ok outcome) is done = inl (record {
  status = done.1;
  commits = done.0;
  changes = done.2;
  persistent = ap (λ (passed : List Persistent). last_of card.persistent passed) done.0;
  boxes = refl;
  carried = sym (ap (λ came. settled card (and_given (file_tried card apdu came) (λ answered. Ok (then_polled answered)))) is);
})
by_outcome card apdu (Err status) is other = inr (record {
  other = other;
  carried = sym (ap (λ came. settled card (and_given (file_tried card apdu came) (λ answered. Ok (then_polled answered)))) is);
})

pub tells_or_not : (card : CardState) (apdu : Apdu) → IsTelling card apdu (settled card (carried_out (File Status) card apdu)) ⊎ IsNotTold card apdu (settled card (carried_out (File Status) card apdu))
unfolding TellsOrNot carried_out file_outcome
tells_or_not card apdu = by_outcome card apdu (status_told card.persistent (selection_on card (channel_of apdu.class)) apdu) refl (status_is card.persistent (selection_on card (channel_of apdu.class)) apdu)

-- ---- what a fault left after it

any_weaker : {X : Type 0} (P Q : X → Type 0) (o : Option X) → ((x : X) → P x → Q x) → IsSomeAnd o P → IsSomeAnd o Q
any_weaker P Q None each holds = holds
any_weaker P Q (Some x) each holds = each x holds

-- of a card with the same boxes over the same
left_as : (card other left : CardState) (commits : List Persistent) → other.persistent ≡ card.persistent → other.boxes ≡ card.boxes → IsLeft other (other.persistent ∷ commits) left → IsLeft card (card.persistent ∷ commits) left
left_as card other left commits persistent boxes is = record {
  persistent = is.persistent;
  passed = subst (λ (held : Persistent). Contains (held ∷ commits) is.persistent) persistent is.passed;
  woke = is.woke ∙ ap (λ (held : Persistent). woken is.persistent (boxes_left held.rows is.persistent.rows other.boxes)) persistent
      ∙ ap (λ list. woken is.persistent (boxes_left card.persistent.rows is.persistent.rows list)) boxes;
}

module _ (apdu : Apdu) where
  abbrev first_of : CardState → Answered
  first_of card = settled card (carried_out (File Status) card apdu)

  abbrev whole_of : CardState → Answered
  whole_of card = settled card (carried_with true (File Status) card apdu)

  -- ---- the applets were told

  module _ {X : Type 0} (done : Unit {0}) (result : Result X StoreFault) (old mid new : CardParts) (first out : Answer) (acts : ActsAlone (Ok done) (File Status) apdu old mid first) (still : ChangesNothing (Ok done) old mid)
      (tells : TellsApplets result mid new) (is_done : (first.status.0 == DONE.0) ≡ true) (same : OnOk result (out ≡ first)) where
    at_left : (card : CardState) (commits : List Persistent) → (first_of card).state.persistent ≡ card.persistent → (first_of card).state.boxes ≡ card.boxes → IsLeftAt mid new (first_of card).state commits → IsLeftAt old new card commits
    at_left card commits persistent boxes is = record {
      left = any_weaker (IsLeft (first_of card).state ((first_of card).state.persistent ∷ commits)) (IsLeft card (card.persistent ∷ commits)) (card_due new) (λ left. left_as card (first_of card).state left commits persistent boxes) is.left;
      stops = subst (λ (count : ℕ). StopsAt card.persistent commits count new.commits (held_by new)) still.commits (subst (λ (state : Persistent). StopsAt state commits mid.commits new.commits (held_by new)) persistent is.stops);
    }

    then_stands : (by : KnownBy) (card : CardState) (commits : List Persistent) → (first_of card).state.persistent ≡ card.persistent → (first_of card).state.boxes ≡ card.boxes
        → StandsBy by result mid new (first_of card).state commits → StandsBy by result old new card commits
    then_stands ByStore card commits persistent boxes later = on_err_weaker result (at_left card commits persistent boxes) later
    then_stands ByTable card commits persistent boxes later = tt
    then_stands ByMemory card commits persistent boxes later = tt

    module _ (by : KnownBy) (needs : IsAnsweredBy by (File Status)) (state : Persistent) (known : IsKnown by old state) where
      abbrev card : CardState
      card = card_with false old state

      told_yields : IsTelling card apdu (first_of card) → Yields result by (File Status) old new card (whole_of card).state (whole_of card).commits
      told_yields telling =
          let answered : Answered = first_of card in
          let may = (acts.yields by state known).left needs in
          let later : Yields result by (File Status) mid new answered.state (polled_on answered.state).state (polled_on answered.state).commits =
          subst (λ (each : CardState). Yields result by (File Status) mid new each (polled_on each).state (polled_on each).commits) (sym (card_by by mid answered.state may)) (tells.yields by answered.state.persistent may.known) in
          subst (λ (each : Answered). Yields result by (File Status) old new card each.state each.commits) (sym telling.carried)
          (subst (λ (commits : List Persistent). Yields result by (File Status) old new card (polled_on answered.state).state (commits ++ (polled_on answered.state).commits)) (sym telling.commits) (record {
            left = later.left;
            commits_so = λ counted. so_from result old.commits mid.commits new.commits (polled_on answered.state).commits still.commits (later.commits_so counted);
            calm = later.calm;
            stands = then_stands by card (polled_on answered.state).commits telling.persistent telling.boxes later.stands;
          }))

      told_says : {Y : Type 0} (outcome : Result Y StoreFault) → OnOk outcome (out ≡ first) → IsTelling card apdu (first_of card) → OnOk outcome (SaysSo (whole_of card) out)
      told_says (Err fault) is telling = tt
      told_says (Ok fine) is telling =
          let says = acts.says by state known needs in
          subst (λ (each : Answered). SaysSo each out) (sym telling.carried) (subst (SaysSo (then_polled (first_of card))) (sym is) (record { body = says.body; status = says.status }))

      by_telling : IsTelling card apdu (first_of card) ⊎ IsNotTold card apdu (first_of card) → IsTelling card apdu (first_of card)
      by_telling (inl telling) = telling
      by_telling (inr silent) = absurd (true≢false (sym is_done ∙ ap (λ (word : StatusWord). word.0 == DONE.0) (acts.says by state known needs).status ∙ silent.other))

    each_yields : (by : KnownBy) (state : Persistent) → IsKnown by old state → Yields result by (File Status) old new (card_with false old state) (whole_of (card_with false old state)).state (whole_of (card_with false old state)).commits
    each_yields ByStore state known = told_yields ByStore tt state known (by_telling ByStore tt state known (tells_or_not (card_with false old state) apdu))
    each_yields ByTable state known = told_yields ByTable tt state known (by_telling ByTable tt state known (tells_or_not (card_with false old state) apdu))
    each_yields ByMemory state known = record { left = λ of_tree. absurd (false≢true of_tree); commits_so = λ of_tree. absurd (false≢true of_tree); calm = λ of_tree. absurd (false≢true of_tree); stands = tt }

    told_writes : (state : Persistent) → held_by old ≡ Some state → IsTelling (card_with false old state) apdu (first_of (card_with false old state)) → WritesChanges result old new (whole_of (card_with false old state)).changes
    told_writes state held telling =
        let answered : Answered = first_of (card_with false old state) in
        let may = (acts.yields ByStore state held).left tt in
        let stays : mid.told ≡ old.told = acts.writes state held ∙ ap (λ (changes : List Change). option_map (all_written changes) old.told) telling.changes ∙ sym (none_written old.told) in
        let later : WritesChanges result mid new (polled_on answered.state).changes =
        subst (λ (each : CardState). WritesChanges result mid new (polled_on each).changes) (sym (card_by ByStore mid answered.state may)) (tells.writes answered.state.persistent may.known) in
        subst (λ (each : Answered). WritesChanges result old new each.changes) (sym telling.carried)
        (subst (λ (changes : List Change). WritesChanges result old new (changes ++ (polled_on answered.state).changes)) (sym telling.changes) (writes_from result old mid new (polled_on answered.state).changes stays still.commits later))

    pub status_told_acts : ActsOn result (File Status) apdu old new out whole_of (λ status. status)
    status_told_acts = record {
      says = λ by state known needs. told_says by needs state known result same (by_telling by needs state known (tells_or_not (card_with false old state) apdu));
      yields = each_yields;
      writes = λ state held. told_writes state held (by_telling ByStore tt state held (tells_or_not (card_with false old state) apdu));
      done = λ leaves. absurd leaves;
      denied = λ status refused. absurd refused;
      moves = status_moved old mid new still.table still.channels still.verified still.boxes tells.moves;
    }

  -- ---- they were not

  module _ (done : Unit {0}) (old new : CardParts) (out : Answer) (acts : ActsAlone (Ok done) (File Status) apdu old new out) (other : (out.status.0 == DONE.0) ≡ false) where
    module _ (by : KnownBy) (needs : IsAnsweredBy by (File Status)) (state : Persistent) (known : IsKnown by old state) where
      same_whole : IsTelling (card_with false old state) apdu (first_of (card_with false old state)) ⊎ IsNotTold (card_with false old state) apdu (first_of (card_with false old state))
          → first_of (card_with false old state) ≡ whole_of (card_with false old state)
      same_whole (inl telling) = absurd (true≢false (sym (ap (λ (word : StatusWord). word.0 == DONE.0) ((acts.says by state known needs).status ∙ telling.status)) ∙ other))
      same_whole (inr silent) = sym silent.carried

      pub is_whole : first_of (card_with false old state) ≡ whole_of (card_with false old state)
      is_whole = same_whole (tells_or_not (card_with false old state) apdu)

    other_yields : (by : KnownBy) (state : Persistent) → IsKnown by old state
        → Yields {X = Unit {0}} (Ok done) by (File Status) old new (card_with false old state) (whole_of (card_with false old state)).state (whole_of (card_with false old state)).commits
    other_yields ByStore state known =
        subst (λ (each : Answered). Yields {X = Unit {0}} (Ok done) ByStore (File Status) old new (card_with false old state) each.state each.commits) (is_whole ByStore tt state known) (acts.yields ByStore state known)
    other_yields ByTable state known =
        subst (λ (each : Answered). Yields {X = Unit {0}} (Ok done) ByTable (File Status) old new (card_with false old state) each.state each.commits) (is_whole ByTable tt state known) (acts.yields ByTable state known)
    other_yields ByMemory state known = record { left = λ of_tree. absurd (false≢true of_tree); commits_so = λ of_tree. absurd (false≢true of_tree); calm = λ of_tree. absurd (false≢true of_tree); stands = tt }

    pub status_other_acts : ActsOn (Ok done) (File Status) apdu old new out whole_of (λ status. status)
    status_other_acts = record {
      says = λ by state known needs. subst (λ (each : Answered). SaysSo each out) (is_whole by needs state known) (acts.says by state known needs);
      yields = other_yields;
      writes = λ state held. subst (λ (each : Answered). HasWritten each.changes old new) (is_whole ByStore tt state held) (acts.writes state held);
      done = λ leaves. absurd leaves;
      denied = λ status refused. absurd refused;
      moves = acts.moves;
    }
