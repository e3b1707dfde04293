-- What is told of lines after others, and the run of the card that it is.
use Rattle.std.proofs.Common.{◌≡◌, List, [], ◌∷◌, ◌++◌, Option, refl, sym, ap, ◌∙◌, append_assoc, subst, append-nil, rules}
use Rattle.uicc_types.specs.declared.answers.Answer.{Answer}
use Rattle.uicc_types.specs.declared.runs.Step.{Step}
use Rattle.uicc_types.specs.declared.runs.TraceItem.{TraceItem}
use Rattle.uicc_types.specs.declared.runs.Step.TheVariants as step
use Rattle.t0_link.specs.Linking.{Answers, Course, Passes, link_answer}
use Rattle.run_steps.proofs.ViewLemmas.{steps_nowhere, steps_one, steps_then}
use Rattle.run_steps.specs.Tpdus.{CourseGives, steps_of}
use Rattle.run_steps.specs.Views.{CardView, StepsShow}
use Rattle.uicc_run.specs.Accounts.{Account, AreTold, Deed, IsTold, Takes, Transfers, joined, nothing}

-- ---- accounts after accounts

pub joined_nothing : (account : Account) → joined account nothing ≡ account
joined_nothing account =
    ap (λ (s : List Step). record { steps = s; own = account.own ++ []; shown = account.shown ++ [] }) (append-nil account.steps)
    ∙ ap (λ (i : List TraceItem). record { steps = account.steps; own = i; shown = account.shown ++ [] }) (append-nil account.own)
    ∙ ap (λ (i : List TraceItem). record { steps = account.steps; own = account.own; shown = i }) (append-nil account.shown)

pub joined_assoc : (one two three : Account) → joined (joined one two) three ≡ joined one (joined two three)
joined_assoc one two three =
    let Made : List Step → List TraceItem → List TraceItem → Account = λ s o i. record { steps = s; own = o; shown = i } in
    ap (λ (s : List Step). Made s ((one.own ++ two.own) ++ three.own) ((one.shown ++ two.shown) ++ three.shown)) (append_assoc one.steps two.steps three.steps)
    ∙ ap (λ (o : List TraceItem). Made (one.steps ++ (two.steps ++ three.steps)) o ((one.shown ++ two.shown) ++ three.shown)) (append_assoc one.own two.own three.own)
    ∙ ap (λ (i : List TraceItem). Made (one.steps ++ (two.steps ++ three.steps)) (one.own ++ (two.own ++ three.own)) i) (append_assoc one.shown two.shown three.shown)

-- nothing was done first
told_same : (more : List Deed) (kept between after : Option Answer) (old middle new : CardView) (none account : Account) → none ≡ nothing → between ≡ kept → middle ≡ old → AreTold more between middle account after new
    → AreTold more kept old (joined none account) after new
told_same more kept between after old middle new none account nothing_is same stays told =
    subst (λ (a : Account). AreTold more kept old (joined a account) after new) (sym nothing_is)
    (subst (λ (k : Option Answer). AreTold more k old account after new) same (subst (λ (m : CardView). AreTold more between m account after new) stays told))

-- things are told after others
pub told_then : (first more : List Deed) (kept between after : Option Answer) (old middle new : CardView) (one two : Account) → AreTold first kept old one between middle → AreTold more between middle two after new
    → AreTold (first ++ more) kept old (joined one two) after new
told_then [] more kept between after old middle new one two told rest = told_same more kept between after old middle new one two told.account_is told.keeps told.stays rest
told_then (deed ∷ first) more kept between after old middle new one two told rest =
    search (rules, told, told_then first more told.between between after told.middle middle new told.others two told.rest rest, ap (λ (a : Account). joined a two) told.account_is ∙ joined_assoc told.first told.others two)

-- one thing is told
pub told_one : (deed : Deed) (kept after : Option Answer) (old new : CardView) (account : Account) → IsTold deed kept old account after new → AreTold (deed ∷ []) kept old account after new
told_one deed kept after old new account told = record {
  first = account;
  others = nothing;
  between = after;
  middle = new;
  told = told;
  rest = record { account_is = refl; keeps = refl; stays = refl };
  account_is = sym (joined_nothing account);
}

-- ---- the run of the card

goes_by_link : (course : Course) (old new : CardView) (own : List TraceItem) (reply : TraceItem) (after : Option Answer) → CourseGives course old own reply after new → StepsShow old (steps_of course) own new
goes_by_link (Answers linked) old new own reply after gives = subst (λ (i : List TraceItem). StepsShow old [] i new) (sym gives.silent) (steps_nowhere old new gives.stays)
goes_by_link (Passes apdu make) old new own reply after gives = steps_one old new (step.Apdu apdu) own gives.gives

pub goes_by : (deed : Deed) (kept after : Option Answer) (old new : CardView) (account : Account) → IsTold deed kept old account after new → StepsShow old account.steps account.own new
goes_by (Takes step) kept after old new account told = subst (λ (s : List Step). StepsShow old s account.own new) (sym told.steps_are) (steps_one old new step account.own told.gives)
goes_by (Transfers tpdu) kept after old new account told =
    subst (λ (s : List Step). StepsShow old s account.own new) (sym told.steps_are) (goes_by_link (link_answer kept tpdu) old new account.own told.reply after told.gives)

goes_as : (account other : Account) (old new : CardView) → account ≡ other → StepsShow old other.steps other.own new → StepsShow old account.steps account.own new
goes_as account other old new same goes = subst (λ (a : Account). StepsShow old a.steps a.own new) (sym same) goes

pub goes_on : (deeds : List Deed) (kept after : Option Answer) (old new : CardView) (account : Account) → AreTold deeds kept old account after new → StepsShow old account.steps account.own new
goes_on [] kept after old new account told = goes_as account nothing old new told.account_is (steps_nowhere old new told.stays)
goes_on (deed ∷ more) kept after old new account told =
    goes_as account (joined told.first told.others) old new told.account_is
    (steps_then told.first.steps told.others.steps old told.middle new told.first.own told.others.own
    (goes_by deed kept told.between old told.middle told.first told.told) (goes_on more told.between after told.middle new told.others told.rest))
