-- What is told of the same lines twice, from the same card, is one where nothing fails.
use Rattle.std.proofs.Common.{◌≡◌, ℕ, false, map, reverse, List, [], ◌∷◌, ◌++◌, Option, Some, None, Result, Ok, Err, refl, sym, ap, ◌∙◌, subst, inl, append-nil}
use Rattle.std.proofs.lemmas.List.{reverse-reverse}
use Rattle.std.specs.Io.KnownBytes.{append_known}
use Rattle.list_laws.proofs.ContainsLemmas.{front_of, back_of}
use Rattle.uicc_types.specs.declared.answers.Answer.{Answer}
use Rattle.uicc_types.specs.declared.runs.Step.{Step}
use Rattle.uicc_types.specs.declared.runs.TraceItem.{TraceItem}
use Rattle.uicc_types.specs.declared.runs.Step.TheVariants as step
use Rattle.uicc_types.specs.declared.runs.TraceItem.TheVariants as item
use Rattle.t0_link.specs.Linking.{Answers, Course, Passes, link_answer}
use Rattle.script_form.specs.declared.lines.ScriptLine.{ScriptLine}
use Rattle.card_state.specs.Persistent.{Persistent}
use Rattle.applet_trait.specs.Minds.{AppletState}
use Rattle.card_model.specs.Counts.{is_cut, is_failure}
use Rattle.card_model.specs.Runs.{StepGives, IsRun}
use Rattle.card_model.specs.States.{Machine}
use Rattle.card_laws.specs.FaultLaws.{RunsAreOne}
use Rattle.card_laws.specs.Faults.{ShowsNoCut, ShowsNoFailure}
use Rattle.handset_model.specs.Legal.{TraceEntry}
use Rattle.run_steps.specs.Runs.{text_of}
use Rattle.run_steps.specs.Stepping.{CardStands, Moment, Stands}
use Rattle.run_steps.specs.Tpdus.{CourseGives, kept_over, shown_for, shown_over}
use Rattle.run_steps.specs.Views.{CardView, ItsPower, Known, RunShows, TheCard}
use Rattle.long_runs.specs.LoadLines.{made_lines}
use Rattle.long_runs.specs.Counts.{counts_of}
use Rattle.phone_runs.specs.LoadRuns.{all_heard, entry_line}
use Rattle.phone_runs.specs.Lines.{phone_lines, told_back}
use Rattle.phone_runs.specs.Laws.{PhoneRunsAreOne}
use Rattle.phone_runs.specs.Logs.{Event, lines_back, log_lines, shown}
use Rattle.phone_runs.specs.Runs.{IsPhoneRun, entries_text}
use Rattle.uicc_run.specs.Accounts.{Account, AreTold, Deed, IsTold, Takes, Transfers, joined}
use Rattle.uicc_run.specs.Determined.{LoadsAreOne, ServedTracesAreOne, TracesAreOne}
use Rattle.uicc_run.specs.Loading.{IsFixedCard}
use Rattle.uicc_run.specs.Playing.{CardLeaves, IsOpened, Leaves, first_machine}
use Rattle.uicc_run.specs.Steps.{deeds}
use Rattle.uicc_run.proofs.AccountLemmas.{goes_by}

abbrev NotFailed : TraceItem → Type 0
NotFailed seen = is_failure seen ≡ false

abbrev NotCut : TraceItem → Type 0
NotCut seen = is_cut seen ≡ false

abbrev Calm : List TraceItem → Type 0
Calm items = ShowsNoFailure items × ShowsNoCut items

-- the parts of an account of one thing and then others
calm_parts : (account first others : Account) → account ≡ joined first others → Calm account.own → Calm first.own × Calm others.own
calm_parts account first others is calm =
    let all : Calm (first.own ++ others.own) = subst (λ (a : Account). Calm a.own) is calm in
    ((front_of NotFailed first.own others.own all.0, front_of NotCut first.own others.own all.1), (back_of NotFailed first.own others.own all.0, back_of NotCut first.own others.own all.1))

-- the second of two items
abbrev second_of : List TraceItem → TraceItem
second_of (first ∷ second ∷ more) = second
second_of _ = item.Off

run_of : (old new : Machine) (step : Step) (own : List TraceItem) → StepGives old step own new → IsRun old (step ∷ []) own new
run_of old new step own gives = inl (record { front = own; middle = new; back = []; first = gives; rest = record { seen = refl; stays = refl }; seen = sym (append-nil own) })

module _ (law : RunsAreOne) where
  one_step : (old new left : Machine) (step : Step) (own other : List TraceItem) → StepGives old step own new → StepGives old step other left → Calm own → Calm other → (own ≡ other) × (new ≡ left)
  one_step old new left step own other a b calm calm' = law old new left (step ∷ []) own other (run_of old new step own a) (run_of old left step other b) calm.0 calm.1 calm'.0 calm'.1

  -- what is told of a step, or of a TPDU, and where link and card stand then
  abbrev AreOne : Account → Account → Option Answer → Option Answer → Machine → Machine → Type 0
  AreOne account other after after' new left = (account.own ≡ other.own) × (account.shown ≡ other.shown) × (after ≡ after') × (new ≡ left)

  one_card : {new left : Machine} → TheCard new ≡ TheCard left → new ≡ left
  one_card same = cc

  one_course : (course : Course) (tpdu : List ℕ) (old new left : Machine) (own other : List TraceItem) (reply reply' : TraceItem) (after after' : Option Answer)
      → CourseGives course (TheCard old) own reply after (TheCard new) → CourseGives course (TheCard old) other reply' after' (TheCard left) → Calm own → Calm other
      → (own ≡ other) × (shown_for tpdu reply ≡ shown_for tpdu reply') × (after ≡ after') × (new ≡ left)
  one_course (Answers linked) tpdu old new left own other reply reply' after after' a b calm calm' =
      (a.silent ∙ sym b.silent, ap (shown_for tpdu) (a.seen ∙ sym b.seen), a.keeps ∙ sym b.keeps, one_card (a.stays ∙ sym b.stays))
  one_course (Passes apdu make) tpdu old new left own other reply reply' after after' a b calm calm' =
      let same = one_step old new left (step.Apdu apdu) own other a.gives b.gives calm calm' in
      let shown : a.shown ≡ b.shown = ap second_of (sym a.came ∙ same.0 ∙ b.came) in
      (same.0, ap (shown_for tpdu) (a.seen ∙ ap (shown_over make) shown ∙ sym b.seen), a.keeps ∙ ap (kept_over make) shown ∙ sym b.keeps, same.1)

  one_deed : (deed : Deed) (kept : Option Answer) (old new left : Machine) (account other : Account) (after after' : Option Answer)
      → IsTold deed kept (TheCard old) account after (TheCard new) → IsTold deed kept (TheCard old) other after' (TheCard left) → Calm account.own → Calm other.own → AreOne account other after after' new left
  one_deed (Takes step) kept old new left account other after after' a b calm calm' =
      let same = one_step old new left step account.own other.own a.gives b.gives calm calm' in
      (same.0, a.shown_is ∙ same.0 ∙ sym b.shown_is, a.keeps ∙ sym b.keeps, same.1)
  one_deed (Transfers tpdu) kept old new left account other after after' a b calm calm' =
      let same = one_course (link_answer kept tpdu) tpdu old new left account.own other.own a.reply b.reply after after' a.gives b.gives calm calm' in
      (same.0, a.shown_is ∙ same.1 ∙ sym b.shown_is, same.2, same.3)

  -- one thing, and then others
  abbrev Rest : List Deed → Option Answer → Machine → CardView → CardView → Account → Account → Option Answer → Option Answer → Type 0
  Rest more between middle new left account other after after' =
      AreTold more between (TheCard middle) account after new → AreTold more between (TheCard middle) other after' left → Calm account.own → Calm other.own → (account.shown ≡ other.shown) × (new ≡ left)

  one_more : (deed : Deed) (more : List Deed) (kept : Option Answer) (old : Machine) (new left middle middle' : CardView) (account other first first' others others' : Account) (after after' between between' : Option Answer)
      → account ≡ joined first others → other ≡ joined first' others' → IsTold deed kept (TheCard old) first between middle → IsTold deed kept (TheCard old) first' between' middle'
      → AreTold more between middle others after new → AreTold more between' middle' others' after' left
      → ((m : Machine) → Rest more between m new left others others' after after') → Calm account.own → Calm other.own → (account.shown ≡ other.shown) × (new ≡ left)
  one_more deed more kept old new left (TheCard m) (TheCard m') account other first first' others others' after after' between between' account_is other_is a b rest rest' law_rest calm calm' =
      let mine = calm_parts account first others account_is calm in
      let theirs = calm_parts other first' others' other_is calm' in
      let here = one_deed deed kept old m m' first first' between between' a b mine.0 theirs.0 in
      let moved : AreTold more between' (TheCard m) others' after' left = subst (λ (c : Machine). AreTold more between' (TheCard c) others' after' left) (sym here.3) rest' in
      let as_kept : AreTold more between (TheCard m) others' after' left = subst (λ (k : Option Answer). AreTold more k (TheCard m) others' after' left) (sym here.2) moved in
      let behind = law_rest m rest as_kept mine.1 theirs.1 in (
        ap (λ (x : Account). x.shown) account_is ∙ ap (λ (front : List TraceItem). front ++ others.shown) here.1 ∙ ap (λ (back : List TraceItem). first'.shown ++ back) behind.0
            ∙ sym (ap (λ (x : Account). x.shown) other_is),
        behind.1,
      )
  one_more deed more kept old new left (ItsPower on) middle' account other first first' others others' after after' between between' account_is other_is a b rest rest' law_rest calm calm' =
      absurd (goes_by deed kept between (TheCard old) (ItsPower on) first a)
  one_more deed more kept old new left (TheCard m) (ItsPower on) account other first first' others others' after after' between between' account_is other_is a b rest rest' law_rest calm calm' =
      absurd (goes_by deed kept between' (TheCard old) (ItsPower on) first' b)

  pub one_account : (deeds : List Deed) (kept : Option Answer) (old : Machine) (new left : CardView) (account other : Account) (after after' : Option Answer)
      → AreTold deeds kept (TheCard old) account after new → AreTold deeds kept (TheCard old) other after' left → Calm account.own → Calm other.own → (account.shown ≡ other.shown) × (new ≡ left)
  one_account [] kept old new left account other after after' a b calm calm' = (ap (λ (x : Account). x.shown) (a.account_is ∙ sym b.account_is), a.stays ∙ sym b.stays)
  one_account (deed ∷ more) kept old new left account other after after' a b calm calm' =
      one_more deed more kept old new left a.middle b.middle account other a.first b.first a.others b.others after after' a.between b.between a.account_is b.account_is a.told b.told a.rest b.rest
      (λ m. one_account more a.between m new left a.others b.others after after') calm calm'

-- ---- the card that is opened

abbrev value_of : {X E : Type 0} → X → Result X E → X
value_of other (Ok value) = value
value_of other (Err fault) = other

abbrev there_of : {X : Type 0} → X → Option X → X
there_of other None = other
there_of other (Some value) = value

pub one_start : (boxes : List (Option AppletState)) (first : Option Persistent) (memory : Result Persistent ℕ) (section : List ScriptLine) (start other : Persistent)
    → IsOpened boxes first memory section start → IsOpened boxes first memory section other → start ≡ other
one_start boxes None memory section start other a b = ap (value_of start) (sym a.1 ∙ b.1)
one_start boxes (Some bare) memory section start other a b = ap (λ (made : Result (Option Persistent) _). there_of start (value_of None made)) (sym a ∙ b)

-- what the card itself leaves is what it holds, and of two that are one it is the same
one_held : (first : Machine) (steps : List Step) (items own own' : List TraceItem) (card other : CardView) (now now' : Leaves) → RunShows (TheCard first) steps items card → card ≡ other
    → Known (λ (machine : Machine). CardLeaves machine own now) (λ on. Unit {0}) card → Known (λ (machine : Machine). CardLeaves machine own' now') (λ on. Unit {0}) other → now.held ≡ now'.held
one_held first steps items own own' (TheCard card) other now now' run same leaves leaves' =
    let theirs : CardLeaves card own' now' = subst (λ (c : CardView). Known (λ (machine : Machine). CardLeaves machine own' now') (λ on. Unit {0}) c) (sym same) leaves' in
    leaves.stands ∙ sym theirs.stands
one_held first steps items own own' (ItsPower on) other now now' run same leaves leaves' = absurd run

pub traces_are_one : RunsAreOne → TracesAreOne
traces_are_one law given first first' left left' end end' now now' run other same_section same_lines calm calm' =
    let mine = run.done.opened in
    let theirs = other.done.opened in
    let opened : IsOpened given.boxes given.first given.memory run.done.section theirs.start = subst (λ (section : List ScriptLine). IsOpened given.boxes given.first given.memory section theirs.start) (sym same_section) theirs.opened in
    let start : mine.start ≡ theirs.start = one_start given.boxes given.first given.memory run.done.section mine.start theirs.start mine.opened opened in
    let one_first : first ≡ first' = mine.machine_is ∙ ap (λ (held : Persistent). first_machine held given.boxes) start ∙ sym theirs.machine_is in
    let lines : AreTold (deeds run.done.played) None (TheCard first') other.done.account other.done.kept other.done.card =
    subst (λ (played : List ScriptLine). AreTold (deeds played) None (TheCard first') other.done.account other.done.kept other.done.card) (sym same_lines) other.done.are_told in
    let told : AreTold (deeds run.done.played) None (TheCard first) other.done.account other.done.kept other.done.card =
    subst (λ (machine : Machine). AreTold (deeds run.done.played) None (TheCard machine) other.done.account other.done.kept other.done.card) (sym one_first) lines in
    let same = one_account law (deeds run.done.played) None first run.done.card other.done.card run.done.account other.done.account run.done.kept other.done.kept run.done.are_told told calm calm' in (
      run.written ∙ ap (λ (shown : List TraceItem). append_known given.before (text_of shown)) same.0 ∙ sym other.written,
      one_held first run.done.account.steps run.done.account.own run.done.account.own other.done.account.own run.done.card other.done.card now now' run.done.run same.1 run.leaves other.leaves,
    )

-- ---- where a handset serves the card

-- the lines that a log has are those that were told
log_told : (log : List Event) (played : List ScriptLine) → lines_back log ≡ told_back played → log_lines log ≡ phone_lines played
log_told log played told = ap reverse told ∙ reverse-reverse (phone_lines played)

-- what the card itself leaves after them is what it holds
one_left : (first : Machine) (log : List Event) (card other : CardView) (items others : List TraceItem) (now now' : Moment) → IsPhoneRun (TheCard first) log card → card ≡ other → Stands card items now → Stands other others now' → now.held ≡ now'.held
one_left first log (TheCard machine) other items others now now' run same stands stands' =
    let theirs : CardStands machine others now' = subst (λ (c : CardView). Stands c others now') (sym same) stands' in stands.stands ∙ sym theirs.stands
one_left first log (ItsPower on) other items others now now' run same stands stands' = absurd run.run

pub served_are_one : PhoneRunsAreOne → ServedTracesAreOne
served_are_one law given section first first' left left' end end' at at' opened opened' run other same_lines calm calm' =
    let start : opened.start ≡ opened'.start = one_start given.boxes given.first given.memory section opened.start opened'.start opened.opened opened'.opened in
    let one_first : first ≡ first' = opened.machine_is ∙ ap (λ (held : Persistent). first_machine held given.boxes) start ∙ sym opened'.machine_is in
    let theirs : IsPhoneRun (TheCard first) other.log other.card = subst (λ (m : Machine). IsPhoneRun (TheCard m) other.log other.card) (sym one_first) other.run in
    let same = law first run.card other.card (phone_lines run.played) run.log other.log
    (record { run = run.run; lines_are = log_told run.log run.played run.told; rests = run.rests; failures = calm.0; cuts = calm.1 })
    (record { run = theirs; lines_are = log_told other.log other.played other.told ∙ ap phone_lines (sym same_lines); rests = other.rests; failures = calm'.0; cuts = calm'.1 }) in (
      run.written ∙ ap (λ (entries : List TraceEntry). append_known given.before (entries_text entries)) same.shows ∙ sym other.written,
      one_left first run.log run.card other.card (shown run.log) (shown other.log) at at' run.run same.card run.stands other.stands,
    )

-- the card of a long run is one
one_fixed : (boxes : List (Option AppletState)) (card other : Persistent) → IsFixedCard boxes card → IsFixedCard boxes other → card ≡ other
one_fixed boxes card other a b = ap (λ (made : Result (Option Persistent) _). there_of card (value_of None made)) (sym a ∙ b)

pub loads_are_one : PhoneRunsAreOne → LoadsAreOne
loads_are_one law given first first' start count lines lines' counts counts' leaves leaves' run other calm calm' =
    let card : run.card ≡ other.card = one_fixed given.boxes run.card other.card run.is_fixed other.is_fixed in
    let one_first : first ≡ first' = run.opened ∙ ap (λ (held : Persistent). first_machine held given.boxes) card ∙ sym other.opened in
    let theirs : IsPhoneRun (TheCard first) other.counted.log other.counted.card = subst (λ (m : Machine). IsPhoneRun (TheCard m) other.counted.log other.counted.card) (sym one_first) other.counted.run in
    let same = law first run.counted.card other.counted.card (all_heard (made_lines start count)) run.counted.log other.counted.log
    (record { run = run.counted.run; lines_are = run.counted.lines_are; rests = run.counted.rests; failures = calm.0; cuts = calm.1 })
    (record { run = theirs; lines_are = other.counted.lines_are; rests = other.counted.rests; failures = calm'.0; cuts = calm'.1 }) in (
      run.counted.counts_are ∙ ap (λ (entries : List TraceEntry). counts_of (map entry_line entries)) same.shows ∙ sym other.counted.counts_are,
      run.left.held ∙ one_left first run.counted.log run.counted.card other.counted.card (shown run.counted.log) (shown other.counted.log) run.at other.at run.counted.run same.card run.counted.stands other.counted.stands ∙ sym other.left.held,
    )
