-- What a step shows, and what the sink has taken of it.
use Rattle.std.proofs.Common.{◌≡◌, ◌≤◌, ℕ, Bool, true, false, if◌then◌else◌, List, [], ◌∷◌, ◌++◌, Option, Some, None, Result, Ok, Err, refl, sym, ap, ◌∙◌, append_assoc, inl, inr, subst, option_map, arith, append-nil, rules}
use Rattle.std.proofs.lemmas.List.Concat.{flat_map-append}
use Rattle.std.specs.Io.KnownBytes.{append_known}
use Rattle.uicc_types.specs.Counts.{Meter, armed as plan_given, names_fault, raised}
use Rattle.uicc_types.specs.Told.{Becomes, IsFront}
use Rattle.uicc_types.specs.declared.plans.Plan.{Plan}
use Rattle.uicc_types.specs.declared.plans.TheConstants.Plan.{NONE}
use Rattle.uicc_types.specs.declared.runs.Step.{Step}
use Rattle.uicc_types.specs.declared.runs.TraceItem.{TraceItem}
use Rattle.uicc_types.specs.declared.runs.Step.TheVariants as step
use Rattle.uicc_types.specs.declared.runs.TraceItem.TheVariants as item
use Rattle.byte_streams.specs.Streams.{TakesFront}
use Rattle.script_form.specs.Traces.{trace_text}
use Rattle.script_form.specs.declared.trace.TraceLine.{TraceLine}
use Rattle.script_form.specs.declared.trace.TraceLine.TheVariants as line
use Rattle.card_model.specs.Counts.{IsCounted}
use Rattle.card_model.specs.Laws.{PlansAreCounted}
use Rattle.card_model.specs.Runs.{armed_after, due, plans_joined, waiting_after}
use Rattle.card_model.specs.States.{Machine, powered, unpowered, restarted}
use Rattle.card_core.specs.Cards.{held_by}
use Rattle.card_core.specs.Parts.{CardParts}
use Rattle.card_core.proofs.RestartLemmas.{metered_same}
use Rattle.run_steps.specs.declared.steps.MemoryFailed.{MemoryFailed}
use Rattle.run_steps.specs.declared.steps.Restarted.{Restarted}
use Rattle.run_steps.specs.Ends.{Comes, End, TakesReset, disarmed, moment_at, planned, unplanned, with_plan_set, without_plan}
use Rattle.run_steps.specs.Runs.{ends_calm, is_calm, item_text, line_of, text_of}
use Rattle.run_steps.specs.Taking.{machine_of, BreaksStep, EndsStep, IsTakenBack, Rests, RestsOn, Sends, TakesShowing, TakesStep, moment, restarted_by, shown_of}
use Rattle.run_steps.specs.Stepping.{BreaksOff, Holds, IsCutOff, IsSeenBy, Stands}
use Rattle.run_steps.specs.Views.{CardView, IsReply, ItsPower, Known, LastShows, StepShows, TheCard}
use Rattle.run_steps.specs.declared.steps.Restarted.TheVariants as ended
use Rattle.run_steps.proofs.StandingLemmas.{machine_minds, machine_stands}

-- ---- what was taken

-- one part after another
pub taken_then : (before : Option (List ℕ)) (first more : List ℕ) → append_known (append_known before first) more ≡ append_known before (first ++ more)
taken_then None first more = refl
taken_then (Some known) first more = ap Some (append_assoc known first more)

-- nothing more
pub taken_none : (before : Option (List ℕ)) → append_known before [] ≡ before
taken_none None = refl
taken_none (Some known) = ap Some (append-nil known)

-- a part was taken, and then another
pub told_more : (before was now : Option (List ℕ)) (first part : List ℕ) → now ≡ append_known was part → was ≡ append_known before first → now ≡ append_known before (first ++ part)
told_more before was now first part more told = more ∙ ap (λ start. append_known start part) told ∙ taken_then before first part

-- the beginning of a part was taken
pub record ToldFront (was now : Option (List ℕ)) (part : List ℕ) : Type 0 where
  pub front : List ℕ
  pub begun : IsFront front part
  pub written : now ≡ append_known was front

pub told_front : (was now : Option (List ℕ)) (part : List ℕ) → Becomes (TakesFront part) was now → ToldFront was now part
told_front None None part broken = record { front = []; begun = (part, refl); written = refl }
told_front (Some was) (Some now) part broken = record { front = broken.0; begun = broken.1; written = ap Some broken.2 }
told_front was now part broken = absurd broken

-- the text of one item, and of two
pub text_of_one : (one : TraceItem) → text_of (one ∷ []) ≡ item_text one
text_of_one one = append-nil (item_text one)

pub text_of_two : (one two : TraceItem) → item_text one ++ item_text two ≡ text_of (one ∷ two ∷ [])
text_of_two one two = ap (λ back. item_text one ++ back) (sym (append-nil (item_text two)))

-- the only line that was to be taken broke off
pub in_one_line : (one : TraceItem) (was now : Option (List ℕ)) → (told : ToldFront was now (item_text one)) → IsCutOff (one ∷ []) told.front
in_one_line one was now told = record { whole = []; last = one; part = told.front; parted = refl; begun = told.begun; written = refl }

-- ---- counts

-- a plan that names no fault is not set
none_due : (waiting : Plan) → names_fault waiting ≡ false → due waiting ≡ []
none_due waiting none = ap (λ named. if named then waiting ∷ [] else []) none

counted_by : PlansAreCounted → (from sent : Meter) (waiting : Plan) (shown : List TraceItem) (named : Bool) → names_fault waiting ≡ named
    → IsCounted (if named then plan_given from waiting else from) sent [] shown → IsCounted from (if named then plan_given sent NONE else sent) (due waiting) shown
counted_by plans from sent waiting shown true is counted = plans from sent waiting shown is counted
counted_by plans from sent waiting shown false none counted = subst (λ set. IsCounted from sent set shown) (sym (none_due waiting none)) counted

-- a plan was set, something was done, and the plan was taken back
pub counted_after : PlansAreCounted → (from mid sent to : Meter) (waiting : Plan) (shown : List TraceItem) → mid ≡ planned from waiting → to ≡ unplanned (names_fault waiting) sent → IsCounted mid sent [] shown → IsCounted from to (due waiting ++ []) shown
counted_after plans from mid sent to waiting shown given back counted =
    subst (λ set. IsCounted from to set shown) (sym (append-nil (due waiting)))
    (subst (λ m. IsCounted from m (due waiting) shown) (sym back) (counted_by plans from sent waiting shown (names_fault waiting) refl (subst (λ m. IsCounted m sent [] shown) given counted)))

-- and after it was taken back no call came
back_by : (waiting : Plan) (sent : Meter) (named : Bool) → IsTakenBack ((if named then waiting ∷ [] else []) ++ []) (if named then plan_given sent NONE else sent)
back_by waiting sent true = refl
back_by waiting sent false = tt

pub back_after : (sent to : Meter) (waiting : Plan) → to ≡ unplanned (names_fault waiting) sent → IsTakenBack (due waiting ++ []) to
back_after sent to waiting back = subst (λ m. IsTakenBack (due waiting ++ []) m) (sym back) (back_by waiting sent (names_fault waiting))

-- the command itself counts nothing
pub with_command : (from to : Meter) (set : List Plan) (apdu : List ℕ) (shown : TraceItem) → IsCounted from to set (shown ∷ []) → IsCounted from to set (item.Command apdu ∷ shown ∷ [])
with_command from to set apdu shown counted = record { failures = counted.failures; cuts = counted.cuts; plans = counted.plans; latest = counted.latest; in_force = counted.in_force; settings = counted.settings }

-- ---- steps

-- a plan changes nothing of a card but its counts
pub same_machine : (parts : CardParts) (meter : Meter) → machine_of (record parts { meter = meter }) ≡ machine_of parts
same_machine parts meter = ap (option_map (λ card. record { card = card; on = parts.is_on })) (metered_same parts meter)

-- and so does taking it back
pub disarmed_machine : (is_given : Bool) (sent after : CardParts) → after ≡ disarmed is_given sent → machine_of after ≡ machine_of sent
disarmed_machine is_given sent after same = ap machine_of same ∙ same_machine sent (unplanned is_given sent.meter)

-- nothing was done
pub idle_counted : (m : Meter) → IsCounted m m [] []
idle_counted m = record { failures = refl; cuts = refl; plans = refl; latest = refl; in_force = refl; settings = refl }

-- the machine is the same where a plan was set
pub set_machine : (from set : CardParts) (waiting : Plan) (old : Machine) → set ≡ record from { meter = planned from.meter waiting } → machine_of from ≡ Some old → machine_of set ≡ Some old
set_machine from set waiting old given is = ap machine_of given ∙ same_machine from (planned from.meter waiting) ∙ is

-- ---- at an end

-- a plan was set, something was done, and the plan was taken back
pub record WithPlan (from set sent after : End) : Type 0 where
  pub given : set ≡ with_plan_set from
  pub waits : sent.waiting ≡ set.waiting
  pub back : after ≡ without_plan (names_fault from.waiting) sent

-- and so it was where the device was told as much
pub with_plan : (from set sent after : End) (is_given : Bool) → set ≡ with_plan_set from → is_given ≡ names_fault from.waiting → sent.waiting ≡ set.waiting → after ≡ without_plan is_given sent → WithPlan from set sent after
with_plan from set sent after is_given given named waits back = record { given = given; waits = waits; back = back ∙ ap (λ b. without_plan b sent) named }

pub taken_back : (from set sent after : End) → WithPlan from set sent after → IsTakenBack (due from.waiting ++ []) after.parts.meter
taken_back from set sent after done = back_after sent.parts.meter after.parts.meter from.waiting (ap (λ (e : End). e.parts.meter) done.back)

pub none_waits : (from set sent after : End) → WithPlan from set sent after → after.waiting ≡ NONE
none_waits from set sent after done = ap (λ (e : End). e.waiting) done.back ∙ done.waits ∙ ap (λ (e : End). e.waiting) done.given

pub parts_set : (from set : End) → set ≡ with_plan_set from → set.parts ≡ record from.parts { meter = planned from.parts.meter from.waiting }
parts_set from set given = ap (λ (e : End). e.parts) given

pub machine_set : (from set : End) (old : Machine) → set ≡ with_plan_set from → machine_of from.parts ≡ Some old → machine_of set.parts ≡ Some old
machine_set from set old given is = set_machine from.parts set.parts from.waiting old (parts_set from set given) is

-- the count of faults is the same where a plan was set, and where it was taken back
armed_faults : (named : Bool) (meter : Meter) (plan : Plan) → (if named then record meter { plans = raised meter.plans; latest = plan; plan = plan; settings = raised meter.settings; is_idle = true; programs = 0 } else record meter { plan = plan; settings = raised meter.settings; is_idle = true; programs = 0 }).faults ≡ meter.faults
armed_faults true meter plan = refl
armed_faults false meter plan = refl

planned_faults : (named : Bool) (meter : Meter) (plan : Plan) → (if named then plan_given meter plan else meter).faults ≡ meter.faults
planned_faults true meter plan = armed_faults (names_fault plan) meter plan
planned_faults false meter plan = refl

pub faults_set : (from set : End) → set ≡ with_plan_set from → set.parts.meter.faults ≡ from.parts.meter.faults
faults_set from set given = ap (λ (e : End). e.parts.meter.faults) given ∙ planned_faults (names_fault from.waiting) from.parts.meter from.waiting

pub faults_back : (is_given : Bool) (sent after : End) → after ≡ without_plan is_given sent → after.parts.meter.faults ≡ sent.parts.meter.faults
faults_back is_given sent after back = ap (λ (e : End). e.parts.meter.faults) back ∙ planned_faults is_given sent.parts.meter NONE

pub faults_behind : (from set sent after : End) → WithPlan from set sent after → set.parts.meter.faults ≤ sent.parts.meter.faults → from.parts.meter.faults ≤ after.parts.meter.faults
faults_behind from set sent after done kept =
    let first = faults_set from set done.given in
    let last = faults_back (names_fault from.waiting) sent after done.back in
    omega (arith, first, last, kept)

-- a reset in which the memory failed
pub reset_failed : (from set sent after : End) → WithPlan from set sent after → sent.parts.meter.faults ≡ raised set.parts.meter.faults → after.parts.meter.faults ≡ raised from.parts.meter.faults
reset_failed from set sent after done failed = faults_back (names_fault from.waiting) sent after done.back ∙ failed ∙ ap raised (faults_set from set done.given)

-- ---- what is known of the card

-- a plan that is set, and taken back, changes nothing of what is known of it
pub seen_set : (from set : End) (card : CardView) → set ≡ with_plan_set from → IsSeenBy card (machine_of from.parts) from.parts.is_on → IsSeenBy card (machine_of set.parts) set.parts.is_on
seen_set from set (TheCard machine) given seen = machine_set from set machine given seen
seen_set from set (ItsPower on) given seen = ap (λ (e : End). e.parts.is_on) given ∙ seen

pub seen_back : (is_given : Bool) (sent after : End) (card : CardView) → after ≡ without_plan is_given sent → IsSeenBy card (machine_of sent.parts) sent.parts.is_on → IsSeenBy card (machine_of after.parts) after.parts.is_on
seen_back is_given sent after (TheCard machine) back seen = disarmed_machine is_given sent.parts after.parts (ap (λ (e : End). e.parts) back) ∙ seen
seen_back is_given sent after (ItsPower on) back seen = ap (λ (e : End). e.parts.is_on) back ∙ seen

-- its memory holds what it does
pub holds_seen : (parts : CardParts) (card : CardView) → IsSeenBy card (machine_of parts) parts.is_on → Holds card (held_by parts)
holds_seen parts (TheCard machine) seen = machine_stands parts machine seen
holds_seen parts (ItsPower on) seen = tt

-- what it leaves, at the end of what was shown
pub stands_seen : (parts : CardParts) (taken : Option (List ℕ)) (waiting : Plan) (card : CardView) (shown : List TraceItem) → IsSeenBy card (machine_of parts) parts.is_on → Rests card shown parts.is_due → Stands card shown (moment parts taken waiting)
stands_seen parts taken waiting (TheCard machine) shown seen rests = record { stands = machine_stands parts machine seen; minds = λ calm. machine_minds parts machine seen (rests calm) }
stands_seen parts taken waiting (ItsPower on) shown seen rests = tt

-- a command was sent, or a reset was done, and these items are shown of it, of which this is the last
pub record Showed (old : CardView) (step : Step) (items : List TraceItem) (shown : TraceItem) (sent : CardParts) : Type 0 where
  pub card : CardView
  pub seen : IsSeenBy card (machine_of sent) sent.is_on
  pub gives : StepShows old step items card
  pub rests : Known (λ (machine : Machine). is_calm shown ≡ true → sent.is_due ≡ false) (λ on. Unit {0}) card

pub command_showed : (old : CardView) (apdu : List ℕ) (shown : TraceItem) (set sent : CardParts) → IsSeenBy old (machine_of set) set.is_on → ((machine : Machine) → machine_of set ≡ Some machine → Sends machine apdu shown sent) → IsReply set.is_on shown sent.is_on
    → Showed old (step.Apdu apdu) (item.Command apdu ∷ shown ∷ []) shown sent
command_showed (TheCard machine) apdu shown set sent seen sends replies = let it = sends machine seen in record { card = TheCard it.machine; seen = it.told; gives = it.gives; rests = it.rests }
command_showed (ItsPower on) apdu shown set sent seen sends replies = record {
  card = ItsPower sent.is_on;
  seen = refl;
  gives = (shown, subst (λ (b : Bool). IsReply b shown sent.is_on) seen replies, refl);
  rests = tt;
}

-- the card was reset, or power was lost in that
reset_showed : (old : CardView) (outcome : Restarted) (set sent : CardParts) → IsSeenBy old (machine_of set) set.is_on → TakesReset set (Ok outcome) sent → Showed old step.Reset (restarted_by outcome) (shown_of (Ok outcome)) sent
reset_showed (TheCard machine) ended.Done set sent seen takes = record {
  card = TheCard (powered (restarted machine.card));
  seen = (takes.resets machine seen).0;
  gives = inl (record { seen = refl; moved = refl });
  rests = λ calm. (takes.resets machine seen).1;
}
reset_showed (TheCard machine) ended.Cut set sent seen takes = record {
  card = TheCard (unpowered (restarted machine.card));
  seen = takes.resets machine seen;
  gives = inr (record { seen = refl; moved = refl });
  rests = λ calm. absurd (cc);
}
reset_showed (ItsPower b) ended.Done set sent seen takes = record { card = ItsPower true; seen = takes.on refl; gives = inl (refl, refl); rests = tt }
reset_showed (ItsPower b) ended.Cut set sent seen takes = record { card = ItsPower false; seen = takes.off refl; gives = inr (refl, refl); rests = tt }

-- the memory failed in a reset
pub record Failed (old : CardView) (sent : CardParts) : Type 0 where
  pub card : CardView
  pub stands : Holds card (held_by sent)
  pub ends : LastShows old step.Reset (item.EepromFailed ∷ []) card

reset_failed_so : (old : CardView) (failed : MemoryFailed) (set sent : CardParts) → IsSeenBy old (machine_of set) set.is_on → TakesReset set (Err failed) sent → Failed old sent
reset_failed_so (TheCard machine) failed set sent seen takes = record { card = TheCard (powered (restarted machine.card)); stands = takes.resets machine seen; ends = record { seen = refl; moved = refl } }
reset_failed_so (ItsPower on) failed set sent seen takes = record { card = ItsPower on; stands = tt; ends = refl }

holds_back : (is_given : Bool) (sent after : End) (card : CardView) → after ≡ without_plan is_given sent → Holds card (held_by sent.parts) → Holds card (held_by after.parts)
holds_back is_given sent after card back holds = subst (λ (e : End). Holds card (held_by e.parts)) (sym back) holds

-- ---- what the sink has taken of a step

-- the lines before the last one were taken, and so was that
text_behind : (whole : List TraceItem) (shown : TraceItem) → text_of whole ++ item_text shown ≡ text_of (whole ++ shown ∷ [])
text_behind whole shown = ap (λ back. text_of whole ++ back) (sym (text_of_one shown)) ∙ sym (flat_map-append item_text whole (shown ∷ []))

pub rests_back : (card : CardView) (items : List TraceItem) (shown : TraceItem) (from sent after : Bool) → after ≡ sent → ((calm : ends_calm items ≡ true) → is_calm shown ≡ true) → (items ≡ [] → ⊥)
    → Known (λ (machine : Machine). is_calm shown ≡ true → sent ≡ false) (λ on. Unit {0}) card → RestsOn card items from after
rests_back (TheCard machine) items shown from sent after same last some rests = λ nothing calm. same ∙ rests (last calm)
rests_back (ItsPower on) items shown from sent after same last some rests = tt

-- a step that was taken, with a plan set before it and taken back after it, and its last line
module _ (old : CardView) (step : Step) (whole : List TraceItem) (shown : TraceItem) (from set sent after : End) (taken mid now : Option (List ℕ)) (plans : PlansAreCounted)
    (showed : Showed old step (whole ++ shown ∷ []) shown sent.parts) (with_it : WithPlan from set sent after) (counts : IsCounted from.parts.meter after.parts.meter (armed_after from.waiting (step ∷ [])) (whole ++ shown ∷ []))
    (back : IsTakenBack (armed_after from.waiting (step ∷ [])) after.parts.meter)
    (waits : waiting_after from.waiting (step ∷ []) ≡ NONE) (last : ends_calm (whole ++ shown ∷ []) ≡ true → is_calm shown ≡ true) (some : whole ++ shown ∷ [] ≡ [] → ⊥)
    (off : (card : CardView) → StepShows old step (whole ++ shown ∷ []) card → BreaksOff old step (whole ++ shown ∷ []) (armed_after from.waiting (step ∷ [])) (armed_after from.waiting (step ∷ [])) card)
    (told : mid ≡ append_known taken (text_of whole)) where
  -- it was written
  pub writes_last : now ≡ append_known mid (item_text shown) → TakesShowing (whole ++ shown ∷ []) old step (moment_at from taken) (moment_at after now)
  writes_last ok = record {
    taken = record {
      card = showed.card;
      shown = whole ++ shown ∷ [];
      seen = seen_back (names_fault from.waiting) sent after showed.card with_it.back showed.seen;
      gives = showed.gives;
      written = told_more taken mid now (text_of whole) (item_text shown) ok told ∙ ap (append_known taken) (text_behind whole shown);
      counted = counts;
      back = back;
      waits = none_waits from set sent after with_it ∙ sym waits;
      rests = rests_back showed.card (whole ++ shown ∷ []) shown from.parts.is_due sent.parts.is_due after.parts.is_due (ap (λ (e : End). e.parts.is_due) with_it.back) last some showed.rests;
    };
    shows = refl;
  }

  -- the sink failed in it
  pub breaks_last : Becomes (TakesFront (item_text shown)) mid now → BreaksStep old step (moment_at from taken) (moment_at after now)
  breaks_last err =
      let front = told_front mid now (item_text shown) err in
      record {
        card = showed.card;
        pending = whole ++ shown ∷ [];
        front = text_of whole ++ front.front;
        set = armed_after from.waiting (step ∷ []);
        stands = holds_seen after.parts showed.card (seen_back (names_fault from.waiting) sent after showed.card with_it.back showed.seen);
        broken = off showed.card showed.gives;
        cut_off = record { whole = whole; last = shown; part = front.front; parted = refl; begun = front.begun; written = refl };
        written = told_more taken mid now (text_of whole) front.front front.written told;
        counted = counts;
        back = back;
      }

-- ---- a command

-- what it counted, with the plan
pub counted_with_plan : PlansAreCounted → (from set sent after : End) (shown : TraceItem) → WithPlan from set sent after → IsCounted set.parts.meter sent.parts.meter [] (shown ∷ []) → IsCounted from.parts.meter after.parts.meter (due from.waiting ++ []) (shown ∷ [])
counted_with_plan plans from set sent after shown done counts =
    counted_after plans from.parts.meter set.parts.meter sent.parts.meter after.parts.meter from.waiting (shown ∷ []) (ap (λ (e : End). e.parts.meter) done.given) (ap (λ (e : End). e.parts.meter) done.back) counts

-- a command that came to it, and the line of what came of that: it was written, or broke off
module _ (apdu : List ℕ) (old : CardView) (from set sent after : End) (taken mid now : Option (List ℕ)) (shown : TraceItem) (plans : PlansAreCounted) (is : IsSeenBy old (machine_of from.parts) from.parts.is_on)
    (with_it : WithPlan from set sent after) (command : mid ≡ append_known taken (trace_text (line.Command apdu))) (comes : Comes set apdu shown sent) where
  showed_so : Showed old (step.Apdu apdu) (item.Command apdu ∷ shown ∷ []) shown sent.parts
  showed_so = command_showed old apdu shown set.parts sent.parts (seen_set from set old with_it.given is) comes.sends comes.replies

  counted_so : IsCounted from.parts.meter after.parts.meter (due from.waiting ++ []) (item.Command apdu ∷ shown ∷ [])
  counted_so = with_command from.parts.meter after.parts.meter (due from.waiting ++ []) apdu shown (counted_with_plan plans from set sent after shown with_it comes.counted)

  told_so : mid ≡ append_known taken (text_of (item.Command apdu ∷ []))
  told_so = command ∙ ap (append_known taken) (sym (text_of_one (item.Command apdu)))

  pub replies_at : now ≡ append_known mid (item_text shown) → TakesShowing (item.Command apdu ∷ shown ∷ []) old (step.Apdu apdu) (moment_at from taken) (moment_at after now)
  replies_at ok =
      writes_last old (step.Apdu apdu) (item.Command apdu ∷ []) shown from set sent after taken mid now plans showed_so with_it counted_so (taken_back from set sent after with_it) refl (λ calm. calm) (λ none. absurd (cc)) (λ card gives. inr (gives, refl)) told_so ok

  pub breaks_reply : Becomes (TakesFront (item_text shown)) mid now → BreaksStep old (step.Apdu apdu) (moment_at from taken) (moment_at after now)
  breaks_reply err =
      breaks_last old (step.Apdu apdu) (item.Command apdu ∷ []) shown from set sent after taken mid now plans showed_so with_it counted_so (taken_back from set sent after with_it) refl (λ calm. calm) (λ none. absurd (cc)) (λ card gives. inr (gives, refl)) told_so err

-- the line of the command broke off
pub breaks_command : (apdu : List ℕ) (old : CardView) (from : End) (taken now : Option (List ℕ)) → IsSeenBy old (machine_of from.parts) from.parts.is_on → Becomes (TakesFront (trace_text (line.Command apdu))) taken now
    → BreaksStep old (step.Apdu apdu) (moment_at from taken) (moment_at from now)
breaks_command apdu old from taken now is broken =
    let front = told_front taken now (trace_text (line.Command apdu)) broken in
    let counted = idle_counted from.parts.meter in
    record {
      card = old;
      pending = item.Command apdu ∷ [];
      front = front.front;
      set = [];
      stands = holds_seen from.parts old is;
      broken = inl (refl, refl, refl);
      cut_off = in_one_line (item.Command apdu) taken now front;
      written = front.written;
      counted = record { failures = counted.failures; cuts = counted.cuts; plans = counted.plans; latest = counted.latest; in_force = counted.in_force; settings = counted.settings };
      back = tt;
    }

-- ---- a reset

module _ (old : CardView) (from set sent after : End) (taken now : Option (List ℕ)) (plans : PlansAreCounted) (with_it : WithPlan from set sent after) (seen : IsSeenBy old (machine_of from.parts) from.parts.is_on)
    (outcome : Result Restarted MemoryFailed) (line_so : TraceLine) (is_line : line_so ≡ line_of (shown_of outcome)) (takes : TakesReset set.parts outcome sent.parts) where
  -- what it counted
  counted_reset : (done : Result Restarted MemoryFailed) → TakesReset set.parts done sent.parts → IsCounted from.parts.meter after.parts.meter (due from.waiting ++ []) (shown_of done ∷ [])
  counted_reset done takes_so = counted_with_plan plans from set sent after (shown_of done) with_it takes_so.counted

  -- it was done, or power was lost in it
  showed_reset : (done : Restarted) → TakesReset set.parts (Ok done) sent.parts → Showed old step.Reset (restarted_by done) (shown_of (Ok done)) sent.parts
  showed_reset done takes_so = reset_showed old done set.parts sent.parts (seen_set from set old with_it.given seen) takes_so

  -- the memory failed in it
  failed_so : (failed : MemoryFailed) → TakesReset set.parts (Err failed) sent.parts → Failed old after.parts
  failed_so failed takes_so =
      let ended_so = reset_failed_so old failed set.parts sent.parts (seen_set from set old with_it.given seen) takes_so in
      record { card = ended_so.card; stands = holds_back (names_fault from.waiting) sent after ended_so.card with_it.back ended_so.stands; ends = ended_so.ends }

  -- its line broke off
  broken_by : (done : Result Restarted MemoryFailed) → TakesReset set.parts done sent.parts → Becomes (TakesFront (item_text (shown_of done))) taken now → BreaksStep old step.Reset (moment_at from taken) (moment_at after now)
  broken_by (Ok done) takes_so err =
      breaks_last old step.Reset [] (shown_of (Ok done)) from set sent after taken taken now plans (showed_reset done takes_so) with_it (counted_reset (Ok done) takes_so) (taken_back from set sent after with_it) refl (λ calm. calm) (λ none. absurd (cc)) (λ card gives. (inl gives, refl)) (sym (taken_none taken)) err
  broken_by (Err failed) takes_so err =
      let ended_so = failed_so failed takes_so in
      let front = told_front taken now (item_text item.EepromFailed) err in
      record {
        card = ended_so.card;
        pending = item.EepromFailed ∷ [];
        front = front.front;
        set = due from.waiting ++ [];
        stands = ended_so.stands;
        broken = (inr ended_so.ends, refl);
        cut_off = in_one_line item.EepromFailed taken now front;
        written = front.written;
        counted = counted_reset (Err failed) takes_so;
        back = taken_back from set sent after with_it;
      }

  pub restarted_at : (done : Restarted) → outcome ≡ Ok done → now ≡ append_known taken (trace_text line_so) → TakesShowing (restarted_by done) old step.Reset (moment_at from taken) (moment_at after now)
  restarted_at done is ok =
      let takes_so = subst (λ o. TakesReset set.parts o sent.parts) is takes in
      writes_last old step.Reset [] (shown_of (Ok done)) from set sent after taken taken now plans (showed_reset done takes_so) with_it (counted_reset (Ok done) takes_so) (taken_back from set sent after with_it) refl (λ calm. calm) (λ none. absurd (cc)) (λ card gives. (inl gives, refl)) (sym (taken_none taken))
      (ok ∙ ap (λ l. append_known taken (trace_text l)) (is_line ∙ ap (λ o. line_of (shown_of o)) is))

  pub failed_at : (failed : MemoryFailed) → outcome ≡ Err failed → now ≡ append_known taken (trace_text line_so) → EndsStep old step.Reset (moment_at from taken) (moment_at after now)
  failed_at failed is ok =
      let takes_so = subst (λ o. TakesReset set.parts o sent.parts) is takes in
      let ended_so = failed_so failed takes_so in
      search (rules, ended_so, ok ∙ ap (λ l. append_known taken (trace_text l)) (is_line ∙ ap (λ o. line_of (shown_of o)) is) ∙ ap (append_known taken) (sym (text_of_one item.EepromFailed)), counted_reset (Err failed) takes_so, taken_back from set sent after with_it)

  pub broken_at : Becomes (TakesFront (trace_text line_so)) taken now → BreaksStep old step.Reset (moment_at from taken) (moment_at after now)
  broken_at err = broken_by outcome takes (subst (λ l. Becomes (TakesFront (trace_text l)) taken now) is_line err)

-- ---- a plan

pub still_shows : (old : CardView) (plan : Plan) → StepShows old (step.Plan plan) [] old
still_shows (TheCard machine) plan = record { seen = refl; stays = refl }
still_shows (ItsPower on) plan = (refl, refl)

pub still_rests : (old : CardView) (due : Bool) → RestsOn old [] due due
still_rests (TheCard machine) due = λ nothing calm. nothing refl
still_rests (ItsPower on) due = tt

pub plans_more : (old : CardView) (from to : End) (taken : Option (List ℕ)) (plan : Plan) → IsSeenBy old (machine_of from.parts) from.parts.is_on → to ≡ record from { waiting = plans_joined from.waiting plan }
    → TakesStep old (step.Plan plan) (moment_at from taken) (moment_at to taken)
plans_more old from to taken plan is joins =
    let later : End = record from { waiting = plans_joined from.waiting plan } in
    subst (λ (e : End). TakesStep old (step.Plan plan) (moment_at from taken) (moment_at e taken)) (sym joins) (record {
      card = old;
      shown = [];
      seen = is;
      gives = still_shows old plan;
      written = sym (taken_none taken);
      counted = idle_counted from.parts.meter;
      back = tt;
      waits = refl;
      rests = still_rests old from.parts.is_due;
    })
