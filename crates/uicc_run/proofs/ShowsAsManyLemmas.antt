-- The trace shows as many failures and losses of power as the card had.
use Rattle.std.proofs.Common.{◌≡◌, ℕ, ◌+◌, ◌≤◌, List, [], ◌∷◌, ◌++◌, Option, Some, None, inl, inr, refl, sym, ap, ◌∙◌, subst, arith, count_by}
use Rattle.std.proofs.lemmas.List.Sums.{sum_by-append}
use Rattle.uicc_types.specs.declared.answers.Answer.{Answer}
use Rattle.uicc_types.specs.declared.plans.Plan.{Plan}
use Rattle.uicc_types.specs.declared.runs.Step.{Step}
use Rattle.uicc_types.specs.declared.runs.TraceItem.{TraceItem}
use Rattle.uicc_types.specs.declared.runs.Step.TheVariants as step
use Rattle.uicc_types.specs.declared.runs.TraceItem.TheVariants as item
use Rattle.t0_link.specs.Linking.{Answers, Linked, Passes, course_of, fetched, given, kept_back, link_answer, misformed}
use Rattle.t0_link.specs.Tpdus.{apdu_of, p3_of, transfer_in}
use Rattle.t0_link.specs.declared.tpdus.Transfer.{Transfer}
use Rattle.t0_link.specs.declared.tpdus.Transfer.TheVariants.{GetResponse, Incoming, Outgoing}
use Rattle.card_model.specs.Counts.{is_cut, is_failure}
use Rattle.run_steps.proofs.ItemOfLemmas.{IsShownOnce, cut, cut_over, failed, fetched_fits, given_shown, kept_shown, left}
use Rattle.run_steps.specs.Tpdus.{BreaksOffTpdu, CourseGives, item_of, kept_over, shown_for, shown_over}
use Rattle.run_steps.specs.Views.{CardView, IsBare}
use Rattle.uicc_run.specs.Accounts.{Account, AreTold, BreaksOffDeed, Deed, IsTold, ShowsAsMany, Takes, Transfers, joined, kept_behind}

-- where the link keeps no failure, the trace shows as many as the card did, and the link keeps none after them
record Alike (kept after : Option Answer) (shown own : List TraceItem) : Type 0 where
  failures : left kept ≡ 0 → count_by is_failure shown ≡ count_by is_failure own
  none_left : left kept ≡ 0 → left after ≡ 0
  cuts : count_by is_cut shown ≡ count_by is_cut own

failures_of_two : (bytes : List ℕ) (shown : TraceItem) → count_by is_failure (shown_for bytes shown) ≡ failed shown
failures_of_two bytes shown = omega arith

cuts_of_two : (bytes : List ℕ) (shown : TraceItem) → count_by is_cut (shown_for bytes shown) ≡ cut shown
cuts_of_two bytes shown = omega arith

-- ---- the link answers by itself

alone_alike : (linked : Linked) (tpdu : List ℕ) (kept : Option Answer) → failed (item_of linked.answer) + left linked.kept ≤ left kept → Alike kept linked.kept (shown_for tpdu (item_of linked.answer)) []
alone_alike linked tpdu kept fits = record {
  failures = λ none. let two = failures_of_two tpdu (item_of linked.answer) in omega arith;
  none_left = λ none. omega arith;
  cuts = let two = cuts_of_two tpdu (item_of linked.answer) in omega arith;
}

-- ---- the link passes an APDU

passed_alike : (make : Answer → Linked) (tpdu apdu : List ℕ) (kept : Option Answer) (shown : TraceItem) → IsShownOnce make shown
    → Alike kept (kept_over make shown) (shown_for tpdu (shown_over make shown)) (shown_for apdu shown)
passed_alike make tpdu apdu kept shown same = record {
  failures = λ none. failures_of_two tpdu (shown_over make shown) ∙ same.0 ∙ sym (failures_of_two apdu shown);
  none_left = λ none. same.1;
  cuts = cuts_of_two tpdu (shown_over make shown) ∙ cut_over make shown ∙ sym (cuts_of_two apdu shown);
}

-- ---- a line

as_told : (kept after other : Option Answer) (shown own seen mine : List TraceItem) → after ≡ other → shown ≡ seen → own ≡ mine → Alike kept other seen mine → Alike kept after shown own
as_told kept after other shown own seen mine keeps shown_is own_is alike =
    subst (λ (k : Option Answer). Alike kept k shown own) (sym keeps)
    (subst (λ (i : List TraceItem). Alike kept other i own) (sym shown_is) (subst (λ (i : List TraceItem). Alike kept other seen i) (sym own_is) alike))

module _ (tpdu : List ℕ) (kept after : Option Answer) (old new : CardView) (own : List TraceItem) (reply : TraceItem) where
  by_itself : (linked : Linked) → failed (item_of linked.answer) + left linked.kept ≤ left kept → CourseGives (Answers linked) old own reply after new → Alike kept after (shown_for tpdu reply) own
  by_itself linked fits shows =
      as_told kept after linked.kept (shown_for tpdu reply) own (shown_for tpdu (item_of linked.answer)) [] shows.keeps (ap (shown_for tpdu) shows.seen) shows.silent (alone_alike linked tpdu kept fits)

  passed_on : (apdu : List ℕ) (make : Answer → Linked) → ((shown : TraceItem) → IsBare shown → IsShownOnce make shown) → CourseGives (Passes apdu make) old own reply after new
      → Alike kept after (shown_for tpdu reply) own
  passed_on apdu make fits gives =
      as_told kept after (kept_over make gives.shown) (shown_for tpdu reply) own (shown_for tpdu (shown_over make gives.shown)) (shown_for apdu gives.shown) gives.keeps (ap (shown_for tpdu) gives.seen) gives.came
      (passed_alike make tpdu apdu kept gives.shown (fits gives.shown gives.bare))

  by_way : (way : Option Transfer) → CourseGives (course_of kept tpdu way) old own reply after new → Alike kept after (shown_for tpdu reply) own
  by_way None gives = by_itself (misformed kept) (omega arith) gives
  by_way (Some GetResponse) gives = by_itself (fetched (p3_of tpdu) kept) (fetched_fits (p3_of tpdu) kept) gives
  by_way (Some Outgoing) gives = passed_on tpdu given (λ shown bare. given_shown shown) gives
  by_way (Some Incoming) gives = passed_on (apdu_of tpdu) kept_back kept_shown gives

  tpdu_alike : CourseGives (link_answer kept tpdu) old own reply after new → Alike kept after (shown_for tpdu reply) own
  unfolding link_answer
  tpdu_alike gives = by_way (transfer_in tpdu) gives

step_alike : (step : Step) (kept : Option Answer) (items : List TraceItem) → Alike kept (kept_behind step kept) items items
step_alike (step.Apdu apdu) kept items = record { failures = λ none. refl; none_left = λ none. refl; cuts = refl }
step_alike step.Reset kept items = record { failures = λ none. refl; none_left = λ none. refl; cuts = refl }
step_alike (step.Plan plan) kept items = record { failures = λ none. refl; none_left = λ none. none; cuts = refl }

deed_alike : (deed : Deed) (kept after : Option Answer) (old new : CardView) (account : Account) → IsTold deed kept old account after new → Alike kept after account.shown account.own
deed_alike (Takes step) kept after old new account told = as_told kept after (kept_behind step kept) account.shown account.own account.own account.own told.keeps told.shown_is refl (step_alike step kept account.own)
deed_alike (Transfers tpdu) kept after old new account told =
    as_told kept after after account.shown account.own (shown_for tpdu told.reply) account.own refl told.shown_is refl
    (tpdu_alike tpdu kept after old new account.own told.reply told.gives)

-- ---- one line after the other

failures-append : (one two : List TraceItem) → count_by is_failure (one ++ two) ≡ count_by is_failure one + count_by is_failure two
failures-append one two = sum_by-append failed one two

cuts-append : (one two : List TraceItem) → count_by is_cut (one ++ two) ≡ count_by is_cut one + count_by is_cut two
cuts-append one two = sum_by-append cut one two

alike_then : (kept between after : Option Answer) (one two : Account) → Alike kept between one.shown one.own → Alike between after two.shown two.own → Alike kept after (joined one two).shown (joined one two).own
alike_then kept between after one two first rest = record {
  failures = λ none.
      let shown = failures-append one.shown two.shown in
      let own = failures-append one.own two.own in
      let before = first.failures none in
      let behind = rest.failures (first.none_left none) in
      omega arith;
  none_left = λ none. rest.none_left (first.none_left none);
  cuts =
      let shown = cuts-append one.shown two.shown in
      let own = cuts-append one.own two.own in
      let before = first.cuts in
      let behind = rest.cuts in
      omega arith;
}

told_alike : (deeds : List Deed) (kept after : Option Answer) (old new : CardView) (account : Account) → AreTold deeds kept old account after new → Alike kept after account.shown account.own
told_alike [] kept after old new account told =
    as_told kept after kept account.shown account.own [] [] told.keeps (ap (λ (a : Account). a.shown) told.account_is) (ap (λ (a : Account). a.own) told.account_is) (record { failures = λ none. refl; none_left = λ none. none; cuts = refl })
told_alike (deed ∷ more) kept after old new account told =
    as_told kept after after account.shown account.own (joined told.first told.others).shown (joined told.first told.others).own refl (ap (λ (a : Account). a.shown) told.account_is) (ap (λ (a : Account). a.own) told.account_is)
    (alike_then kept told.between after told.first told.others (deed_alike deed kept told.between old told.middle told.first told.told) (told_alike more told.between after told.middle new told.others told.rest))

-- nothing is to be shown of what a link keeps that keeps nothing
of_alike : (after : Option Answer) (own shown : List TraceItem) → Alike None after shown own → ShowsAsMany own shown
of_alike after own shown alike = record { failures = alike.failures refl; cuts = alike.cuts }

pub shows_as_many : (deeds : List Deed) (after : Option Answer) (old new : CardView) (account : Account) → AreTold deeds None old account after new → ShowsAsMany account.own account.shown
shows_as_many deeds after old new account told = of_alike after account.own account.shown (told_alike deeds None after old new account told)

-- and so it is where the sink failed in a line after them
module _ (deeds : List Deed) (kept after : Option Answer) (first old : CardView) (account : Account) (told : AreTold deeds None first account kept old) where
  alike_before : Alike None kept account.shown account.own
  alike_before = told_alike deeds None kept first old account told

  with_more : (own pending : List TraceItem) → Alike kept after pending own → ShowsAsMany (account.own ++ own) (account.shown ++ pending)
  with_more own pending alike =
      let Of : List TraceItem → List TraceItem → Account = λ mine seen. record { steps = []; own = mine; shown = seen } in
      of_alike after (account.own ++ own) (account.shown ++ pending) (alike_then None kept after (Of account.own account.shown) (Of own pending) alike_before alike)

  shows_in_step : (own : List TraceItem) → ShowsAsMany (account.own ++ own) (account.shown ++ own)
  shows_in_step own =
      let before = alike_before in
      let same = before.failures refl in
      let cuts = before.cuts in
      record {
        failures = let shown = failures-append account.shown own in let mine = failures-append account.own own in omega arith;
        cuts = let shown = cuts-append account.shown own in let mine = cuts-append account.own own in omega arith;
      }

  shows_in_tpdu : (tpdu : List ℕ) (own pending : List TraceItem) (due set : List Plan) (new : CardView) → BreaksOffTpdu old tpdu (link_answer kept tpdu) own pending due set kept after new → ShowsAsMany (account.own ++ own) (account.shown ++ pending)
  shows_in_tpdu tpdu own pending due set new (inl unsent) =
      with_more own pending (as_told kept after kept pending own (item.Command tpdu ∷ []) [] unsent.3 unsent.1 unsent.0 (record { failures = λ none. refl; none_left = λ none. none; cuts = refl }))
  shows_in_tpdu tpdu own pending due set new (inr sent) =
      with_more own pending (as_told kept after after pending own (shown_for tpdu sent.0) own refl sent.2 refl (tpdu_alike tpdu kept after old new own sent.0 sent.1))

  pub shows_broken : (deed : Deed) (own pending : List TraceItem) (waiting : Plan) (set : List Plan) (new : CardView) → BreaksOffDeed deed kept old own pending waiting set after new → ShowsAsMany (account.own ++ own) (account.shown ++ pending)
  shows_broken (Takes step) own pending waiting set new broken = subst (λ (i : List TraceItem). ShowsAsMany (account.own ++ own) (account.shown ++ i)) (sym broken.0) (shows_in_step own)
  shows_broken (Transfers tpdu) own pending waiting set new broken = shows_in_tpdu tpdu own pending _ set new broken
