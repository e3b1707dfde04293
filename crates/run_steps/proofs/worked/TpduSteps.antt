-- TPDUs in a run, computed: an EF is selected, and its parameters are fetched.
use Rattle.std.proofs.Common.{◌≡◌, ℕ, false, List, [], ◌∷◌, Some, None, refl, subst, sym, MatchBool}
use Rattle.uicc_types.specs.declared.answers.Answer.{Answer}
use Rattle.uicc_types.specs.declared.plans.Plan.{Plan}
use Rattle.uicc_types.specs.declared.plans.TheConstants.Plan.{NONE}
use Rattle.uicc_types.specs.declared.runs.TraceItem.{TraceItem}
use Rattle.uicc_types.specs.declared.runs.Step.TheVariants as step
use Rattle.uicc_types.specs.declared.runs.TraceItem.TheVariants as item
use Rattle.t0_link.specs.Linking.{given, kept_back, link_answer}
use Rattle.t0_link.specs.Tpdus.{transfer_in}
use Rattle.card_model.specs.Runs.{Commands, MeetsNoPower, armed_after, waiting_after}
use Rattle.card_model.specs.States.{Machine}
use Rattle.run_steps.specs.Tpdus.{CourseGives, steps_of, item_of, kept_over, shown_over}
use Rattle.run_steps.specs.Views.{CardView, TheCard}

abbrev answered : List ℕ → ℕ → Answer
answered body status = record { body = body; status = record { 0 = status } }

abbrev select : List ℕ
select = 0x00 ∷ 0xA4 ∷ 0x00 ∷ 0x04 ∷ 0x02 ∷ 0x2F ∷ 0xE2 ∷ []

abbrev parameters : Answer
parameters = answered (0x62 ∷ 0x03 ∷ 0x82 ∷ 0x01 ∷ 0x41 ∷ []) 0x9000

abbrev get_response : ℕ → List ℕ
get_response p3 = 0x00 ∷ 0xC0 ∷ 0x00 ∷ 0x00 ∷ p3 ∷ []

-- the first read call fails
abbrev failing : Plan
failing = record { cut = None; fail = None; read_fail = Some 1 }

-- ---- the link passes SELECT

select_is_a_step : steps_of (link_answer None select) ≡ step.Apdu select ∷ []
unfolding link_answer transfer_in
select_is_a_step = refl

a_plan_is_set_for_it : armed_after failing (steps_of (link_answer None select)) ≡ failing ∷ []
unfolding link_answer transfer_in
a_plan_is_set_for_it = refl

and_waits_no_more : waiting_after failing (steps_of (link_answer None select)) ≡ NONE
unfolding link_answer transfer_in
and_waits_no_more = refl

its_data_are_announced : shown_over kept_back (item_of parameters) ≡ item.Answer [] (record { 0 = 0x6105 })
its_data_are_announced = refl

and_kept : kept_over kept_back (item_of parameters) ≡ Some parameters
and_kept = refl

a_refusal_is_shown : shown_over kept_back (item_of (answered [] 0x6A82)) ≡ item_of (answered [] 0x6A82)
a_refusal_is_shown = refl

a_failure_is_shown : shown_over kept_back (item_of (answered [] 0x6581)) ≡ item_of (answered [] 0x6581)
a_failure_is_shown = refl

data_that_are_read_are_shown : shown_over given (item_of parameters) ≡ item_of parameters
data_that_are_read_are_shown = refl

a_cut_is_shown : shown_over kept_back item.Cut ≡ item.Cut
a_cut_is_shown = refl

a_cut_keeps_nothing : kept_over kept_back item.Cut ≡ None
a_cut_keeps_nothing = refl

-- what was kept is dropped also where the card is off
off_gives : (machine : Machine) → machine.on ≡ false → CourseGives (link_answer (Some parameters) select) (TheCard machine) (item.Command select ∷ item.Off ∷ []) item.Off None (TheCard machine)
unfolding link_answer transfer_in
off_gives machine off = record {
  shown = item.Off;
  came = refl;
  bare = tt;
  gives =
      let shown : List TraceItem = item.Command select ∷ item.Off ∷ [] in
      subst (λ b. MatchBool b (Commands machine select shown machine) (MeetsNoPower machine select shown machine)) (sym off) (record { seen = refl; stays = refl });
  seen = refl;
  keeps = refl;
}

-- ---- the link answers GET RESPONSE, and what is no TPDU

no_step : steps_of (link_answer (Some parameters) (get_response 0x05)) ≡ []
unfolding link_answer transfer_in
no_step = refl

no_plan_is_set : armed_after failing (steps_of (link_answer (Some parameters) (get_response 0x05))) ≡ []
unfolding link_answer transfer_in
no_plan_is_set = refl

a_plan_goes_on_waiting : waiting_after failing (steps_of (link_answer (Some parameters) (get_response 0x05))) ≡ failing
unfolding link_answer transfer_in
a_plan_goes_on_waiting = refl

fetching_gives : (card : CardView) → CourseGives (link_answer (Some parameters) (get_response 0x05)) card [] (item_of parameters) None card
unfolding link_answer transfer_in
fetching_gives card = record { silent = refl; seen = refl; keeps = refl; stays = refl }

another_length_gives : (card : CardView) → CourseGives (link_answer (Some parameters) (get_response 0x04)) card [] (item_of (answered [] 0x6C05)) (Some parameters) card
unfolding link_answer transfer_in
another_length_gives card = record { silent = refl; seen = refl; keeps = refl; stays = refl }

nothing_gives : (card : CardView) → CourseGives (link_answer None (get_response 0x05)) card [] (item_of (answered [] 0x6985)) None card
unfolding link_answer transfer_in
nothing_gives card = record { silent = refl; seen = refl; keeps = refl; stays = refl }

no_tpdu_gives : (card : CardView) → CourseGives (link_answer (Some parameters) (0x00 ∷ 0xB0 ∷ 0x00 ∷ 0x00 ∷ [])) card [] (item_of (answered [] 0x6700)) (Some parameters) card
unfolding link_answer transfer_in
no_tpdu_gives card = record { silent = refl; seen = refl; keeps = refl; stays = refl }
