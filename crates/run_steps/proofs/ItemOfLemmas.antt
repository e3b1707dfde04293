-- A link shows a failure of the card's memory, and a loss of power, as one, and keeps none.
use Rattle.std.proofs.Common.{◌≡◌, ℕ, ◌+◌, ◌*◌, ◌≤◌, ◌<◌, Bool, true, false, List, [], ◌∷◌, length, Option, Some, None, refl, sym, ap, ◌∙◌, arith, mod-lt, ◌/◌, ◌%◌, ◌==◌, cond, count_by, if◌then◌else◌, rules}
use Rattle.std.proofs.lemmas.Bool.{eqb-true, false≢true, ne_eqb}
use Rattle.std.specs.Prelude.{⊤}
use Rattle.uicc_types.specs.Counts.{Meter, raised_by}
use Rattle.uicc_types.specs.declared.answers.Answer.{Answer}
use Rattle.uicc_types.specs.declared.answers.StatusWord.{StatusWord}
use Rattle.uicc_types.specs.declared.plans.Plan.{Plan}
use Rattle.uicc_types.specs.declared.runs.TraceItem.{TraceItem}
use Rattle.uicc_types.specs.declared.runs.TraceItem.TheVariants as item
use Rattle.apdu_form.specs.Model.{Apdu, ne_of, cut_to}
use Rattle.t0_link.specs.Carrying.{command_answer, followed, received, then_received, tpdu_of}
use Rattle.t0_link.specs.Linking.{Answers, Course, Linked, Passes, counting, course_of, fetched, given, kept_back, link_answer, status_alone}
use Rattle.t0_link.specs.Tpdus.{transfer_in}
use Rattle.t0_link.specs.declared.answers.TheConstants.{MORE_DATA, WRONG_LE}
use Rattle.t0_link.specs.declared.tpdus.Transfer.{Transfer}
use Rattle.t0_link.specs.declared.tpdus.Transfer.TheVariants.{GetResponse, Incoming, Outgoing}
use Rattle.card_model.specs.Counts.{IsCounted, is_cut, is_failure}
use Rattle.card_core.proofs.ActsAsLemmas.{cut_nothing}
use Rattle.run_steps.specs.Views.{IsBare}
use Rattle.run_steps.specs.Tpdus.{item_of, kept_over, shown_over}

-- the failure that one item shows, and the one that is still to be shown of what the link keeps
abbrev pub failed : TraceItem → ℕ
failed shown = cond (is_failure shown) 1 0

abbrev pub cut : TraceItem → ℕ
cut shown = cond (is_cut shown) 1 0

abbrev pub left : Option Answer → ℕ
left None = 0
left (Some answer) = failed (item_of answer)

-- ---- a status that counts bytes tells of no failure

pub counting_more : (count : ℕ) → failed (item_of (status_alone (counting MORE_DATA count))) ≡ 0
counting_more count =
    ap (λ (b : Bool). cond b 1 0) (ne_eqb (0x61 * 256 + count % 256) 0x6581 (λ is. let below : count % 256 < 256 = mod-lt count (omega arith) in omega arith))

pub counting_length : (count : ℕ) → failed (item_of (status_alone (counting WRONG_LE count))) ≡ 0
counting_length count =
    ap (λ (b : Bool). cond b 1 0) (ne_eqb (0x6C * 256 + count % 256) 0x6581 (λ is. let below : count % 256 < 256 = mod-lt count (omega arith) in omega arith))

-- by whether this is the length that is asked for
abbrev FetchedFits : Answer → Bool → Type 0
FetchedFits answer b =
    let linked : Linked = if b then record { answer = answer; kept = None } else record { answer = status_alone (counting WRONG_LE (length answer.body)); kept = Some answer } in
    failed (item_of linked.answer) + left linked.kept ≤ left (Some answer)

fetched_by : (answer : Answer) (b : Bool) → FetchedFits answer b
fetched_by answer true = omega arith
fetched_by answer false = let none = counting_length (length answer.body) in omega arith

pub fetched_fits : (p3 : ℕ) (kept : Option Answer) → failed (item_of (fetched p3 kept).answer) + left (fetched p3 kept).kept ≤ left kept
fetched_fits p3 None = omega arith
fetched_fits p3 (Some answer) = fetched_by answer (length answer.body == ne_of p3)

-- ---- the link passes an APDU

-- the link shows a failure of the card as one, and keeps none
abbrev pub IsShownOnce : (Answer → Linked) → TraceItem → Type 0
IsShownOnce make shown = (failed (shown_over make shown) ≡ failed shown) × (left (kept_over make shown) ≡ 0)

pub given_shown : (shown : TraceItem) → IsShownOnce given shown
given_shown (item.Answer body status) = (refl, refl)
given_shown other = (refl, refl)

-- an answer with data tells of no failure
no_data : (byte : ℕ) (more : List ℕ) → byte ∷ more ≡ [] → ⊥
no_data byte more is = cc

bare_calm : (byte : ℕ) (more : List ℕ) (status : StatusWord) → IsBare (item.Answer (byte ∷ more) status) → failed (item.Answer (byte ∷ more) status) ≡ 0
bare_calm byte more status bare = by_failure (is_failure (item.Answer (byte ∷ more) status)) refl where
  by_failure : (b : Bool) → is_failure (item.Answer (byte ∷ more) status) ≡ b → failed (item.Answer (byte ∷ more) status) ≡ 0
  by_failure true is = absurd (no_data byte more (bare is))
  by_failure false is = ap (λ (b : Bool). cond b 1 0) is

with_data : (body : List ℕ) (status : StatusWord) → IsBare (item.Answer body status) → (length body == 0) ≡ false → failed (item.Answer body status) ≡ 0
with_data [] status bare some = absurd (false≢true (sym some))
with_data (byte ∷ more) status bare some = bare_calm byte more status bare

-- by whether there are no data
abbrev KeptShown : Answer → Bool → Type 0
KeptShown answer b =
    (failed (item_of (if b then answer else status_alone (counting MORE_DATA (length answer.body)))) ≡ failed (item_of answer))
    × (left (if b then None else Some answer) ≡ 0)

kept_by : (answer : Answer) (b : Bool) → (b ≡ false → failed (item_of answer) ≡ 0) → KeptShown answer b
kept_by answer true calm = (refl, refl)
kept_by answer false calm = (counting_more (length answer.body) ∙ sym (calm refl), calm refl)

pub kept_shown : (shown : TraceItem) → IsBare shown → IsShownOnce kept_back shown
kept_shown (item.Answer body status) bare = kept_by (record { body = body; status = status }) (length body == 0) (λ some. with_data body status bare some)
kept_shown other bare = (refl, refl)

-- a loss of power is shown as it is
pub cut_over : (make : Answer → Linked) (shown : TraceItem) → cut (shown_over make shown) ≡ cut shown
cut_over make (item.Answer body status) = refl
cut_over make other = refl

-- ---- a terminal that follows what is announced

-- nor does a status that the link alone gives
announced_calm : (answer : Answer) → (answer.status.0 / 256 == MORE_DATA) ≡ true → failed (item_of answer) ≡ 0
announced_calm answer is =
    ap (λ (b : Bool). cond b 1 0) (ne_eqb answer.status.0 0x6581 (λ same.
    let upper : answer.status.0 / 256 ≡ 0x61 = eqb-true (answer.status.0 / 256) MORE_DATA is in
    let other : answer.status.0 / 256 ≡ 0x65 = ap (λ (n : ℕ). n / 256) same in
    omega (arith, upper, other)))

abbrev FollowedShown : Linked → Answer → Bool → Type 0
FollowedShown linked answer b = failed (item_of (if b then fetched (linked.answer.status.0 % 256) linked.kept else linked).answer) ≡ failed (item_of answer)

given_by : (answer : Answer) (b : Bool) → (answer.status.0 / 256 == MORE_DATA) ≡ b → FollowedShown (given answer) answer b
given_by answer true is = sym (announced_calm answer is)
given_by answer false is = refl

given_followed : (answer : Answer) → failed (item_of (followed (given answer)).answer) ≡ failed (item_of answer)
given_followed answer = given_by answer (answer.status.0 / 256 == MORE_DATA) refl

abbrev waiting_data : Answer → Linked
waiting_data answer = record { answer = status_alone (counting MORE_DATA (length answer.body)); kept = Some answer }

waiting_by : (answer : Answer) (b : Bool) → failed (item_of answer) ≡ 0 → FollowedShown (waiting_data answer) answer b
waiting_by answer true calm =
    let p3 : ℕ = (waiting_data answer).answer.status.0 % 256 in
    let fits : failed (item_of (fetched p3 (Some answer)).answer) + left (fetched p3 (Some answer)).kept ≤ failed (item_of answer) = fetched_fits p3 (Some answer) in
    omega (arith, fits, calm)
waiting_by answer false calm = counting_more (length answer.body) ∙ sym calm

abbrev kept_linked : Answer → Bool → Linked
kept_linked answer b = record { answer = if b then answer else status_alone (counting MORE_DATA (length answer.body)); kept = if b then None else Some answer }

kept_followed_by : (answer : Answer) (b : Bool) → (b ≡ false → failed (item_of answer) ≡ 0) → failed (item_of (followed (kept_linked answer b)).answer) ≡ failed (item_of answer)
kept_followed_by answer true calm = given_followed answer
kept_followed_by answer false calm = waiting_by answer ((waiting_data answer).answer.status.0 / 256 == MORE_DATA) (calm refl)

kept_followed : (answer : Answer) → IsBare (item_of answer) → failed (item_of (followed (kept_back answer)).answer) ≡ failed (item_of answer)
kept_followed answer bare = kept_followed_by answer (length answer.body == 0) (λ some. with_data answer.body answer.status bare some)

-- ---- a failure has no data there either

abbrev IsBareLinked : Linked → Type 0
IsBareLinked linked = IsBare (item_of linked.answer)

fetched_bare : (p3 : ℕ) (answer : Answer) → IsBare (item_of answer) → IsBareLinked (fetched p3 (Some answer))
fetched_bare p3 answer bare = by_length (length answer.body == ne_of p3) where
  by_length : (b : Bool) → IsBareLinked (if b then record { answer = answer; kept = None } else record { answer = status_alone (counting WRONG_LE (length answer.body)); kept = Some answer })
  by_length true = bare
  by_length false = λ fails. refl

given_bare : (answer : Answer) → IsBare (item_of answer) → IsBareLinked (followed (given answer))
given_bare answer bare = by_status (answer.status.0 / 256 == MORE_DATA) where
  by_status : (b : Bool) → IsBareLinked (if b then fetched (answer.status.0 % 256) None else given answer)
  by_status true = λ fails. refl
  by_status false = bare

kept_bare : (answer : Answer) → IsBare (item_of answer) → IsBareLinked (followed (kept_back answer))
kept_bare answer bare = by_data (length answer.body == 0) where
  by_status : (b : Bool) → IsBareLinked (if b then fetched ((waiting_data answer).answer.status.0 % 256) (Some answer) else waiting_data answer)
  by_status true = fetched_bare ((waiting_data answer).answer.status.0 % 256) answer bare
  by_status false = λ fails. refl

  by_data : (b : Bool) → IsBareLinked (followed (kept_linked answer b))
  by_data true = given_bare answer bare
  by_data false = by_status ((waiting_data answer).answer.status.0 / 256 == MORE_DATA)

received_bare : (expected : Option ℕ) (linked : Linked) → IsBareLinked (followed linked) → IsBareLinked (received expected linked)
received_bare expected linked bare = λ fails. ap (cut_to expected) (bare fails) ∙ cut_nothing expected

-- the terminal is shown a failure of the card as one, without data
pub record IsShownAs (shown other : TraceItem) : Type 0 where
  pub failed_as : failed other ≡ failed shown
  pub bare : IsBare other

abbrev pub IsShownAsOne : Course → Type 0
IsShownAsOne (Answers linked) = ⊤
IsShownAsOne (Passes apdu make) = (shown : TraceItem) → IsBare shown → IsShownAs shown (shown_over make shown)

received_shown : (expected : Option ℕ) (make : Answer → Linked) → ((answer : Answer) → IsBare (item_of answer) → failed (item_of (followed (make answer)).answer) ≡ failed (item_of answer))
    → ((answer : Answer) → IsBare (item_of answer) → IsBareLinked (followed (make answer))) → (shown : TraceItem) → IsBare shown → IsShownAs shown (shown_over (λ answer. received expected (make answer)) shown)
received_shown expected make follows bares (item.Answer body status) bare =
    let answer : Answer = record { body = body; status = status } in
    record { failed_as = follows answer bare; bare = received_bare expected (make answer) (bares answer bare) }
received_shown expected make follows bares (item.Command apdu) bare = record { failed_as = refl; bare = tt }
received_shown expected make follows bares other bare = record { failed_as = refl; bare = tt }

received_by : (expected : Option ℕ) (kept : Option Answer) (tpdu : List ℕ) (way : Option Transfer) → IsShownAsOne (then_received expected (course_of kept tpdu way))
received_by expected kept tpdu None = tt
received_by expected kept tpdu (Some GetResponse) = tt
received_by expected kept tpdu (Some Outgoing) = received_shown expected given (λ answer bare. given_followed answer) given_bare
received_by expected kept tpdu (Some Incoming) = received_shown expected kept_back kept_followed kept_bare

pub command_shown : (kept : Option Answer) (command : Apdu) → IsShownAsOne (command_answer kept command)
unfolding command_answer link_answer
command_shown kept command = received_by command.expected kept (tpdu_of command) (transfer_in (tpdu_of command))

-- ---- counts of what is shown in one line

failures_of_one : (shown : TraceItem) → count_by is_failure (shown ∷ []) ≡ failed shown
failures_of_one shown = omega arith

cuts_of_one : (shown : TraceItem) → count_by is_cut (shown ∷ []) ≡ cut shown
cuts_of_one shown = omega arith

-- as many are counted where another line shows as many
pub counted_over : (old new : Meter) (plans : List Plan) (shown other : TraceItem) → failed other ≡ failed shown → cut other ≡ cut shown → IsCounted old new plans (shown ∷ []) → IsCounted old new plans (other ∷ [])
counted_over old new plans shown other fails cuts counted =
    search (rules, counted.failures ∙ ap (λ (times : ℕ). raised_by times old.faults) (failures_of_one shown ∙ sym fails ∙ sym (failures_of_one other)), counted.cuts ∙ ap (λ (times : ℕ). raised_by times old.cuts) (cuts_of_one shown ∙ sym cuts ∙ sym (cuts_of_one other)), counted)
