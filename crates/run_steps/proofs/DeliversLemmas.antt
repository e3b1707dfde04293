-- What the link makes of a TPDU, as the step of a run.
use Rattle.std.proofs.Common.{◌≡◌, ℕ, Bool, true, false, List, [], ◌∷◌, ◌++◌, Option, Some, None, Result, Ok, Err, refl, sym, ap, ◌∙◌, subst, OnErr}
use Rattle.std.specs.Prelude.{⊤}
use Rattle.uicc_types.specs.Counts.{Meter, names_fault}
use Rattle.uicc_types.specs.declared.answers.Answer.{Answer}
use Rattle.uicc_types.specs.declared.plans.Plan.{Plan}
use Rattle.uicc_types.specs.declared.runs.TraceItem.{TraceItem}
use Rattle.uicc_types.specs.declared.runs.Step.TheVariants as step
use Rattle.uicc_types.specs.declared.runs.TraceItem.TheVariants as item
use Rattle.t0_link.specs.declared.endpoint.Endpoint.{Ghosts as EndpointWords}
use Rattle.t0_link.specs.declared.endpoint.LinkFault.{LinkFault}
use Rattle.t0_link.specs.declared.endpoint.LinkFault.TheVariants.{PowerLost, NoPower}
use Rattle.t0_link.specs.declared.tpdus.Transfer.{Transfer}
use Rattle.t0_link.specs.declared.tpdus.Transfer.TheVariants.{GetResponse, Outgoing, Incoming}
use Rattle.t0_link.specs.Exchanging.{Exchanges}
use Rattle.t0_link.specs.Linking.{Linked, Course, Answers, Passes, course_of, link_answer}
use Rattle.t0_link.specs.Transmitting.{Transmits}
use Rattle.t0_link.specs.Tpdus.{is_passed, is_passed_by, transfer_in}
use Rattle.card_model.specs.Counts.{IsCounted}
use Rattle.card_model.specs.Laws.{PlansAreCounted}
use Rattle.card_model.specs.Runs.{due}
use Rattle.run_steps.specs.Ends.{End, Meets, MeetsAnswer, MeetsCut, TakesCommand, planned, unplanned, with_plan_set, without_plan}
use Rattle.run_steps.specs.TakingTpdus.{Delivers, IsPrepared}
use Rattle.run_steps.specs.Tpdus.{item_of, kept_over, shown_over}
use Rattle.run_steps.specs.Taking.{machine_of, RestsOn, seen}
use Rattle.run_steps.specs.Stepping.{IsSeenBy}
use Rattle.run_steps.specs.Views.{CardView, IsBare}
use Rattle.run_steps.proofs.SendsLemmas.{bare_reply, sends_off}
use Rattle.run_steps.proofs.SteppingLemmas.{Showed, WithPlan, command_showed, counted_after, idle_counted, none_waits, rests_back, seen_back, seen_set, still_rests, taken_back, with_command, with_plan}

-- ---- a command that is passed to a card's end

pub transmits : (result : Result ⊤ LinkFault) (old new : End) (apdu : List ℕ) (out : Answer)
    → TakesCommand old.parts apdu (seen result out) new.parts → new.waiting ≡ old.waiting
    → (result ≡ Err PowerLost → new.parts.is_on ≡ false) → (result ≡ Err NoPower → old.parts.is_on ≡ false) → (result ≡ Err NoPower → new ≡ old)
    → Transmits {E = End} (λ end. end.parts.is_on) MeetsAnswer MeetsCut old new apdu result out
transmits (Ok done) old new apdu out takes waits goes off same = record { takes = takes; waits = waits }
transmits (Err PowerLost) old new apdu out takes waits goes off same = (record { takes = takes; waits = waits }, goes refl)
transmits (Err NoPower) old new apdu out takes waits goes off same = (off refl, same refl)

-- ---- a plan that is set where an APDU is passed

pub prepared : (kept : Option Answer) (tpdu : List ℕ) (old new : End) (is_given : Bool) → true ≡ is_passed tpdu
    → new ≡ with_plan_set old → is_given ≡ names_fault old.waiting → IsPrepared (link_answer kept tpdu) old is_given new
unfolding link_answer
prepared kept tpdu old new is_given passed set named = by_way (transfer_in tpdu) passed where
  by_way : (way : Option Transfer) → true ≡ is_passed_by way → IsPrepared (course_of kept tpdu way) old is_given new
  by_way None is = absurd (cc)
  by_way (Some GetResponse) is = absurd (cc)
  by_way (Some Outgoing) is = (set, named)
  by_way (Some Incoming) is = (set, named)

pub unprepared : (kept : Option Answer) (tpdu : List ℕ) (end : End) → false ≡ is_passed tpdu → IsPrepared (link_answer kept tpdu) end false end
unfolding link_answer
unprepared kept tpdu end alone = by_way (transfer_in tpdu) alone where
  by_way : (way : Option Transfer) → false ≡ is_passed_by way → IsPrepared (course_of kept tpdu way) end false end
  by_way None is = (refl, refl)
  by_way (Some GetResponse) is = (refl, refl)
  by_way (Some Outgoing) is = absurd (cc)
  by_way (Some Incoming) is = absurd (cc)

-- ---- counts

-- a command without power counts nothing
pub off_counted : (m : Meter) → IsCounted m m [] [] → IsCounted m m [] (item.Off ∷ [])
off_counted m counted = record { failures = counted.failures; cuts = counted.cuts; plans = counted.plans; latest = counted.latest; in_force = counted.in_force; settings = counted.settings }

-- a plan was set, a command was sent, and the plan was taken back
command_counted : PlansAreCounted → (from mid sent to : Meter) (waiting : Plan) (apdu : List ℕ) (shown : TraceItem) → mid ≡ planned from waiting → to ≡ unplanned (names_fault waiting) sent → IsCounted mid sent [] (shown ∷ []) → IsCounted from to (due waiting ++ []) (item.Command apdu ∷ shown ∷ [])
command_counted plans from mid sent to waiting apdu shown given back counted =
    with_command from to (due waiting ++ []) apdu shown (counted_after plans from mid sent to waiting (shown ∷ []) given back counted)

-- ---- a TPDU that was given to the link

-- an APDU was passed, and the card was sent its command
passed_on : PlansAreCounted → (apdu : List ℕ) (make : Answer → Linked) (old : CardView) (from set sent to : End) (shown reply : TraceItem) (kept : Option Answer)
    → WithPlan from set sent to → Showed old (step.Apdu apdu) (item.Command apdu ∷ shown ∷ []) shown sent.parts → IsBare shown → IsCounted set.parts.meter sent.parts.meter [] (shown ∷ [])
    → reply ≡ shown_over make shown → kept ≡ kept_over make shown → Delivers old (Passes apdu make) reply kept from to
passed_on plans apdu make old from set sent to shown reply kept with_it showed bare counted replied keeps = record {
  card = showed.card;
  own = item.Command apdu ∷ shown ∷ [];
  seen = seen_back (names_fault from.waiting) sent to showed.card with_it.back showed.seen;
  gives = record { shown = shown; came = refl; gives = showed.gives; bare = bare; seen = replied; keeps = keeps };
  counted = command_counted plans from.parts.meter set.parts.meter sent.parts.meter to.parts.meter from.waiting apdu shown (ap (λ (e : End). e.parts.meter) with_it.given) (ap (λ (e : End). e.parts.meter) with_it.back) counted;
  back = taken_back from set sent to with_it;
  waits = none_waits from set sent to with_it;
  rests = rests_back showed.card (item.Command apdu ∷ shown ∷ []) shown from.parts.is_due sent.parts.is_due to.parts.is_due (ap (λ (e : End). e.parts.is_due) with_it.back) (λ calm. calm) (λ none. absurd (cc)) showed.rests;
}

module _ (words : EndpointWords End) (old : CardView) (from set sent to : End) (plans : PlansAreCounted) (is : IsSeenBy old (machine_of from.parts) from.parts.is_on)
    (meets : (apdu : List ℕ) (result : Result ⊤ LinkFault) (answer : Answer) → Transmits words.is_on words.step words.lost set sent apdu result answer → Transmits {E = End} (λ end. end.parts.is_on) MeetsAnswer MeetsCut set sent apdu result answer) where
  -- a command that met the card
  met_showed : (apdu : List ℕ) (shown : TraceItem) → set ≡ with_plan_set from → Meets set apdu shown sent → Showed old (step.Apdu apdu) (item.Command apdu ∷ shown ∷ []) shown sent.parts
  met_showed apdu shown given met = command_showed old apdu shown set.parts sent.parts (seen_set from set old given is) met.takes.sends met.takes.replies

  pub delivers : (course : Course) (result : Result ⊤ LinkFault) (left : Linked) (is_given : Bool) → IsPrepared course from is_given set → to ≡ without_plan is_given sent → Exchanges words set sent course result left → OnErr result (left.kept ≡ None)
      → Delivers old course (seen result left.answer) left.kept from to
  delivers (Answers linked) (Ok done) left is_given given same exchanged none =
      let stays : to ≡ from = same ∙ ap (λ b. without_plan b sent) given.1 ∙ exchanged.0 ∙ given.0 in
      record {
        card = old;
        own = [];
        seen = subst (λ (e : End). IsSeenBy old (machine_of e.parts) e.parts.is_on) (sym stays) is;
        gives = record { silent = refl; seen = ap (λ (l : Linked). item_of l.answer) exchanged.1; keeps = ap (λ (l : Linked). l.kept) exchanged.1; stays = refl };
        counted = subst (λ (e : End). IsCounted from.parts.meter e.parts.meter [] []) (sym stays) (idle_counted from.parts.meter);
        back = tt;
        waits = ap (λ (e : End). e.waiting) stays;
        rests = subst (λ (e : End). RestsOn old [] from.parts.is_due e.parts.is_due) (sym stays) (still_rests old from.parts.is_due);
      }
  delivers (Answers linked) (Err fault) left is_given given same exchanged none = absurd exchanged
  delivers (Passes apdu make) (Ok done) left is_given given same exchanged none =
      let met : MeetsAnswer set apdu exchanged.answer sent = meets apdu (Ok done) exchanged.answer exchanged.transmitted in
      passed_on plans apdu make old from set sent to (item_of exchanged.answer) (item_of left.answer) left.kept (with_plan from set sent to is_given given.0 given.1 met.waits same) (met_showed apdu (item_of exchanged.answer) given.0 met)
      (bare_reply set.parts.is_on sent.parts.is_on (item_of exchanged.answer) met.takes.replies) met.takes.counted
      (ap (λ (l : Linked). item_of l.answer) exchanged.answered) (ap (λ (l : Linked). l.kept) exchanged.answered)
  delivers (Passes apdu make) (Err PowerLost) left is_given given same exchanged none =
      let met : MeetsCut set apdu sent = (meets apdu (Err PowerLost) exchanged.answer exchanged.transmitted).0 in
      passed_on plans apdu make old from set sent to item.Cut item.Cut left.kept (with_plan from set sent to is_given given.0 given.1 met.waits same) (met_showed apdu item.Cut given.0 met) tt met.takes.counted refl none
  delivers (Passes apdu make) (Err NoPower) left is_given given same exchanged none =
      let off : (set.parts.is_on ≡ false) × (sent ≡ set) = meets apdu (Err NoPower) exchanged.answer exchanged.transmitted in
      passed_on plans apdu make old from set sent to item.Off item.Off left.kept (with_plan from set sent to is_given given.0 given.1 (ap (λ (e : End). e.waiting) off.1) same)
      (command_showed old apdu item.Off set.parts sent.parts (seen_set from set old given.0 is) (λ machine set_is. sends_off set.parts sent.parts apdu machine set_is off.0 (ap (λ (e : End). machine_of e.parts) off.1))
      (off.0, ap (λ (e : End). e.parts.is_on) off.1 ∙ off.0)) tt
      (subst (λ (e : End). IsCounted set.parts.meter e.parts.meter [] (item.Off ∷ [])) (sym off.1) (off_counted set.parts.meter (idle_counted set.parts.meter)))
      refl none
