-- From one line after `start` to the next, and why the run ends there, by what is known of the card.
use Rattle.std.proofs.Common.{◌≡◌, rules, ℕ, Bool, true, false, List, [], ◌∷◌, ◌++◌, Option, Some, None, refl, sym, ap, ◌∙◌, append_assoc, subst}
use Rattle.std.proofs.lemmas.List.Elements.{All-push}
use Rattle.std.specs.Io.KnownBytes.{append_known}
use Rattle.uicc_types.specs.declared.answers.Answer.{Answer}
use Rattle.uicc_types.specs.declared.plans.Plan.{Plan}
use Rattle.uicc_types.specs.declared.plans.TheConstants.Plan.{NONE}
use Rattle.uicc_types.specs.declared.runs.Step.{Step}
use Rattle.uicc_types.specs.declared.runs.TraceItem.{TraceItem}
use Rattle.uicc_types.specs.declared.runs.Step.TheVariants as step
use Rattle.t0_link.specs.Linking.{link_answer}
use Rattle.byte_streams.specs.Lines.{LineList}
use Rattle.script_form.specs.Forms.{IsLine}
use Rattle.script_form.specs.Reads.{IsOnly}
use Rattle.script_form.specs.declared.lines.ScriptLine.{ScriptLine}
use Rattle.script_form.specs.declared.lines.ScriptLine.TheVariants.{Start}
use Rattle.script_reader.proofs.AreReadLemmas.{AreRead-more}
use Rattle.script_reader.specs.Reading.{Finds, Follows}
use Rattle.script_reader.specs.Said.{AreRead}
use Rattle.script_reader.specs.declared.behind.PlayEnd.{PlayEnd}
use Rattle.script_reader.specs.declared.behind.PlayEnd.TheVariants.{SinkFailed, ResetFailed}
use Rattle.script_reader.specs.declared.reader.ScriptReader.{ScriptReader}
use Rattle.card_state.specs.Persistent.{Persistent}
use Rattle.card_model.specs.Counts.{IsCounted}
use Rattle.card_model.specs.Laws.{CountsJoin, PlansAreSetInOrder}
use Rattle.card_model.specs.Runs.{plan_given, armed_after, waiting_after}
use Rattle.card_model.specs.States.{Machine}
use Rattle.run_steps.proofs.GoesOnLemmas.{text_of-append}
use Rattle.run_steps.proofs.SteppingLemmas.{told_more}
use Rattle.run_steps.proofs.ViewLemmas.{rests_then, run_failed, run_shown}
use Rattle.run_steps.specs.Runs.{text_of}
use Rattle.run_steps.specs.Taking.{BreaksStep, EndsStep, Rests, RestsOn, TakesStep}
use Rattle.run_steps.specs.Stepping.{Holds, IsCutOff, IsSeen, Moment}
use Rattle.run_steps.specs.Views.{CardView, ItsPower, Known, TheCard}
use Rattle.run_steps.specs.TakingTpdus.{BreaksTpdu, TakesTpdu}
use Rattle.run_steps.specs.Tpdus.{steps_of, shown_for}
use Rattle.uicc_run.specs.Accounts.{Account, AreTold, BreaksOffDeed, Deed, IsTold, Takes, Transfers, joined, kept_behind}
use Rattle.uicc_run.specs.Playing.{AreReadInPlace, BreaksSo, CardComesTo, CardLeaves, CarriedOut, EndsSo, FailsSo, Given, IsFirst, Leaves, Reaches, StopsPlaying, left_at, HasKindsOf}
use Rattle.uicc_run.specs.BetweenLines.{IsPlaying}
use Rattle.uicc_run.specs.Steps.{deeds, deeds_of, may_follow, may_stand}
use Rattle.uicc_run.proofs.AccountLemmas.{goes_by, goes_on, told_one, told_then}
use Rattle.uicc_run.proofs.DeedsLemmas.{deeds_none, deeds_one}
use Rattle.uicc_run.proofs.ShowsAsManyLemmas.{shows_as_many, shows_broken}

-- where the lines go to the card
pub stands_there : (given : Given) (line : ScriptLine) (may : Bool) → given.is_served ≡ false → may_follow line ≡ may → may_stand given.is_served line ≡ may
stands_there given line may unserved follows = subst (λ served. may_stand served line ≡ may) (sym unserved) follows

-- one more line after `start`
read_more : (given : Given) (found : LineList) (section played : List ScriptLine) (card : Option Persistent) (bytes : List ℕ) (line : ScriptLine) → AreReadInPlace given found section played card → IsOnly (IsLine bytes) line → may_stand given.is_served line ≡ true
    → AreReadInPlace given (found ++ Some bytes ∷ []) section (played ++ line ∷ []) card
read_more given found section played card bytes line so_far only may = record {
  read = subst (AreRead (found ++ Some bytes ∷ [])) (append_assoc section (Start ∷ played) (line ∷ [])) (AreRead-more found (section ++ Start ∷ played) bytes line so_far.read only);
  described = so_far.described;
  in_place = All-push (λ l. may_stand given.is_served l ≡ true) played line so_far.in_place may;
}

-- the text after what was taken
behind : (before was now : Option (List ℕ)) (shown more : List TraceItem) → now ≡ append_known was (text_of more) → was ≡ append_known before (text_of shown) → now ≡ append_known before (text_of (shown ++ more))
behind before was now shown more then told = told_more before was now (text_of shown) (text_of more) then told ∙ ap (append_known before) (sym (text_of-append shown more))

-- the plans of steps after those of others, and the one that waits after them
plans_then : PlansAreSetInOrder → (steps more : List Step) (waiting : Plan) → waiting ≡ waiting_after NONE steps → plan_given steps ++ armed_after waiting more ≡ plan_given (steps ++ more)
plans_then order steps more waiting waits = ap (λ w. plan_given steps ++ armed_after w more) waits ∙ sym (order NONE steps more).0

waiting_then : PlansAreSetInOrder → (steps more : List Step) (waiting : Plan) → waiting ≡ waiting_after NONE steps → waiting_after waiting more ≡ waiting_after NONE (steps ++ more)
waiting_then order steps more waiting waits = ap (λ w. waiting_after w more) waits ∙ sym (order NONE steps more).1

-- lines that were carried out, from what they came to
abbrev pub carried_out : (given : Given) (first : CardView) (found : LineList) (section played : List ScriptLine) (described : Option Persistent) (account : Account) (kept : Option Answer) (card : CardView)
    → AreReadInPlace given found section played described → IsFirst given section first → AreTold (deeds played) None first account kept card → CarriedOut given first
carried_out given first found section played described account kept card lines opened told = record {
  found = found;
  section = section;
  played = played;
  described = described;
  account = account;
  kept = kept;
  card = card;
  lines = lines;
  opened = opened;
  are_told = told;
  run = run_shown account.steps first card account.own (goes_on (deeds played) None kept first card account told);
  shows = shows_as_many (deeds played) kept first card account told;
}

-- ---- what a line comes to

-- it was carried out
pub record Does (deed : Deed) (kept : Option Answer) (old : CardView) (from to : Moment) (after : Option Answer) : Type 0 where
  pub card : CardView
  pub account : Account
  pub seen : IsSeen card to
  pub is_told : IsTold deed kept old account after card
  pub written : to.taken ≡ append_known from.taken (text_of account.shown)
  pub counted : IsCounted from.meter to.meter (armed_after from.waiting account.steps) account.own
  pub waits : to.waiting ≡ waiting_after from.waiting account.steps
  pub rests : RestsOn card account.own from.is_due to.is_due

-- the sink failed in it
pub record Breaks (deed : Deed) (kept : Option Answer) (old : CardView) (from to : Moment) (after : Option Answer) : Type 0 where
  pub card : CardView
  pub own : List TraceItem
  pub pending : List TraceItem
  pub front : List ℕ
  pub set : List Plan
  pub broken : BreaksOffDeed deed kept old own pending from.waiting set after card
  pub cut_off : IsCutOff pending front
  pub stands : Holds card to.held
  pub written : to.taken ≡ append_known from.taken front
  pub counted : IsCounted from.meter to.meter set own

-- a step
module _ (step : Step) (kept after : Option Answer) (old : CardView) (from to : Moment) where
  pub step_does : after ≡ kept_behind step kept → TakesStep old step from to → Does (Takes step) kept old from to after
  step_does keeps taken = record {
    card = taken.card;
    account = record { steps = step ∷ []; own = taken.shown; shown = taken.shown };
    seen = taken.seen;
    is_told = record { steps_are = refl; gives = taken.gives; shown_is = refl; keeps = keeps };
    written = taken.written;
    counted = taken.counted;
    waits = taken.waits;
    rests = taken.rests;
  }

  pub step_breaks : BreaksStep old step from to → Breaks (Takes step) kept old from to after
  step_breaks broken = search (rules, broken)

-- a TPDU
module _ (tpdu : List ℕ) (kept after : Option Answer) (old : CardView) (from to : Moment) where
  pub tpdu_does : TakesTpdu old tpdu (link_answer kept tpdu) after from to → Does (Transfers tpdu) kept old from to after
  tpdu_does taken = record {
    card = taken.card;
    account = record { steps = steps_of (link_answer kept tpdu); own = taken.own; shown = shown_for tpdu taken.reply };
    seen = taken.seen;
    is_told = record { reply = taken.reply; steps_are = refl; gives = taken.gives; shown_is = refl };
    written = taken.written;
    counted = taken.counted;
    waits = taken.waits;
    rests = taken.rests;
  }

  pub tpdu_breaks : BreaksTpdu old tpdu (link_answer kept tpdu) kept after from to → Breaks (Transfers tpdu) kept old from to after
  tpdu_breaks broken = search (rules, broken)

-- ---- after the lines before

module _ (given : Given) (first : CardView) (script next : ScriptReader) (left left_then : Option (List ℕ)) (line : ScriptLine)
    (search_so : (found : LineList) → Follows given.text found script left → Finds given.text found next left_then line) where
  -- a line that does nothing
  pub plays_on : (kept : Option Answer) (now : Moment) → may_follow line ≡ true → deeds_of line ≡ [] → IsPlaying given first script left kept now → IsPlaying given first next left_then kept now
  plays_on kept now may none playing =
      let done = playing.done in
      let finds = search_so done.found playing.follows in
      record {
        done = record {
          found = done.found ++ Some finds.bytes ∷ [];
          section = done.section;
          played = done.played ++ line ∷ [];
          described = done.described;
          account = done.account;
          kept = done.kept;
          card = done.card;
          lines = read_more given done.found done.section done.played done.described finds.bytes line done.lines finds.read (stands_there given line true playing.unserved may);
          opened = done.opened;
          are_told = subst (λ (d : List Deed). AreTold d None first done.account done.kept done.card) (sym (deeds_none done.played line none)) done.are_told;
          run = done.run;
          shows = done.shows;
        };
        unserved = playing.unserved;
        follows = finds.follows;
        keeps = playing.keeps;
        seen = playing.seen;
        written = playing.written;
        counted = playing.counted;
        waits = playing.waits;
        rests = playing.rests;
      }

  -- a line that was carried out
  pub plays_further : (kept after : Option Answer) (from to : Moment) (deed : Deed) → CountsJoin → PlansAreSetInOrder → may_follow line ≡ true → deeds_of line ≡ deed ∷ []
      → ((old : CardView) → IsSeen old from → Does deed kept old from to after)
      → IsPlaying given first script left kept from → IsPlaying given first next left_then after to
  plays_further kept after from to deed join order may one does playing =
      let done = playing.done in
      let finds = search_so done.found playing.follows in
      let more = does done.card playing.seen in
      let is_told : IsTold deed done.kept done.card more.account after more.card = subst (λ (k : Option Answer). IsTold deed k done.card more.account after more.card) (sym playing.keeps) more.is_told in
      record {
        done = carried_out given first (done.found ++ Some finds.bytes ∷ []) done.section (done.played ++ line ∷ []) done.described (joined done.account more.account) after more.card
            (read_more given done.found done.section done.played done.described finds.bytes line done.lines finds.read (stands_there given line true playing.unserved may)) done.opened
            (subst (λ (d : List Deed). AreTold d None first (joined done.account more.account) after more.card) (sym (deeds_one done.played line deed one))
            (told_then (deeds done.played) (deed ∷ []) None done.kept after first done.card more.card done.account more.account done.are_told (told_one deed done.kept after done.card more.card more.account is_told)));
        unserved = playing.unserved;
        follows = finds.follows;
        keeps = refl;
        seen = more.seen;
        written = behind given.before from.taken to.taken done.account.shown more.account.shown more.written playing.written;
        counted = subst (λ l. IsCounted given.meter to.meter l (done.account.own ++ more.account.own)) (plans_then order done.account.steps more.account.steps from.waiting playing.waits)
            (join given.meter from.meter to.meter (plan_given done.account.steps) (armed_after from.waiting more.account.steps) done.account.own more.account.own playing.counted more.counted);
        waits = more.waits ∙ waiting_then order done.account.steps more.account.steps from.waiting playing.waits;
        rests = rests_then done.card more.card more.account.steps done.account.own more.account.own from.is_due to.is_due (goes_by deed done.kept after done.card more.card more.account is_told) playing.rests more.rests;
      }

  -- the next line is for this
  abbrev reaches : (kept : Option Answer) (from : Moment) (deed : Deed) → deeds_of line ≡ deed ∷ [] → IsPlaying given first script left kept from → Reaches given first deed
  reaches kept from deed one playing =
      let finds = search_so playing.done.found playing.follows in
      record { done = playing.done; bytes = finds.bytes; more = finds.more; line = line; parted = finds.parted; read = finds.read; one_deed = one }

  -- the sink failed in it
  pub breaks_in : (kept after : Option Answer) (from to : Moment) (deed : Deed) → CountsJoin → deeds_of line ≡ deed ∷ []
      → ((old : CardView) → IsSeen old from → Breaks deed kept old from to after)
      → IsPlaying given first script left kept from → BreaksSo given first (left_at to)
  breaks_in kept after from to deed join one breaks playing =
      let done = playing.done in
      let broken = breaks done.card playing.seen in
      let off : BreaksOffDeed deed done.kept done.card broken.own broken.pending (waiting_after NONE done.account.steps) broken.set after broken.card =
      subst (λ (k : Option Answer). BreaksOffDeed deed k done.card broken.own broken.pending (waiting_after NONE done.account.steps) broken.set after broken.card) (sym playing.keeps)
      (subst (λ (w : Plan). BreaksOffDeed deed kept done.card broken.own broken.pending w broken.set after broken.card) playing.waits broken.broken) in
      record {
        deed = deed;
        at = reaches kept from deed one playing;
        card = broken.card;
        own = broken.own;
        pending = broken.pending;
        front = broken.front;
        set = broken.set;
        after = after;
        broken = off;
        shows = shows_broken (deeds done.played) done.kept after first done.card done.account done.are_told deed broken.own broken.pending _ broken.set broken.card off;
        cut_off = broken.cut_off;
        stands = broken.stands;
        written = told_more given.before from.taken to.taken (text_of done.account.shown) broken.front broken.written playing.written;
        counted = join given.meter from.meter to.meter (plan_given done.account.steps) broken.set done.account.own broken.own playing.counted broken.counted;
      }

  -- a reset was the last step
  pub fails_in : (kept : Option Answer) (from to : Moment) → CountsJoin → PlansAreSetInOrder → deeds_of line ≡ Takes step.Reset ∷ []
      → ((old : CardView) → IsSeen old from → EndsStep old step.Reset from to) → IsPlaying given first script left kept from → FailsSo given first (left_at to)
  fails_in kept from to join order one fails playing =
      let done = playing.done in
      let failed = fails done.card playing.seen in
      record {
        at = reaches kept from (Takes step.Reset) one playing;
        card = failed.card;
        last = failed.shown;
        ends = failed.ends;
        before_it = from.meter;
        counted_before = playing.counted;
        counted_in_it = subst (λ (w : Plan). IsCounted from.meter to.meter (armed_after w (step.Reset ∷ [])) failed.shown) playing.waits failed.counted;
        of_card = run_failed done.account.steps step.Reset first done.card failed.card done.account.own failed.shown (goes_on (deeds done.played) None done.kept first done.card done.account done.are_told) failed.ends;
        stands = failed.stands;
        written = behind given.before from.taken to.taken done.account.shown failed.shown failed.written playing.written;
        counted = subst (λ l. IsCounted given.meter to.meter l (done.account.own ++ failed.shown)) (plans_then order done.account.steps (step.Reset ∷ []) from.waiting playing.waits)
            (join given.meter from.meter to.meter (plan_given done.account.steps) (armed_after from.waiting (step.Reset ∷ [])) done.account.own failed.shown playing.counted failed.counted);
      }

-- ---- why it ends

-- the boxes of a card
pub record HaveBoxes (now : Moment) (machine : Machine) : Type 0 where
  pub kinds : HasKindsOf machine.card.boxes now.boxes
  pub minds : now.is_due ≡ false → now.boxes ≡ machine.card.boxes

leaves_so : (card : CardView) (own : List TraceItem) (now : Moment) → ((machine : Machine) → now.machine ≡ Some machine → now.held ≡ Some machine.card.persistent) → ((machine : Machine) → now.machine ≡ Some machine → HaveBoxes now machine)
    → IsSeen card now → Rests card own now.is_due → Known (λ (machine : Machine). CardLeaves machine own (left_at now)) (λ on. Unit {0}) card
leaves_so (TheCard machine) own now stands boxes seen rests = record { stands = stands machine seen; kinds = (boxes machine seen).kinds; minds = λ calm. (boxes machine seen).minds (rests calm) }
leaves_so (ItsPower on) own now stands boxes seen rests = tt

-- the run ends after the lines that were read
pub ends_playing : (given : Given) (first : CardView) (script : ScriptReader) (left left_then : Option (List ℕ)) (kept : Option Answer) (end : PlayEnd) (now : Moment)
    → ((machine : Machine) → now.machine ≡ Some machine → now.held ≡ Some machine.card.persistent) → ((machine : Machine) → now.machine ≡ Some machine → HaveBoxes now machine)
    → ((found : LineList) → Follows given.text found script left → StopsPlaying given found left_then end) → IsPlaying given first script left kept now → EndsSo given first left_then end (left_at now)
ends_playing given first script left left_then kept end now stands boxes cause playing =
    search (rules, playing, cause playing.done.found playing.follows, leaves_so playing.done.card playing.done.account.own now stands boxes playing.seen playing.rests)

-- whatever the end is
pub comes_to_end : (given : Given) (first : CardView) (left : Option (List ℕ)) (end : PlayEnd) (now : Leaves) → EndsSo given first left end now → CardComesTo given first left end now
comes_to_end given first left SinkFailed now ends = absurd ends.cause
comes_to_end given first left ResetFailed now ends = absurd ends.cause
comes_to_end given first left other now ends = ends
