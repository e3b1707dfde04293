-- What the other steps make of a session that is in order.
use Rattle.std.proofs.Common.{◌<◌, ◌≡◌, ℕ, zero, suc, ◌≤◌, ◌⊎◌, inl, inr, Bool, true, false, cond, List, [], ◌∷◌, ◌++◌, length, map, Option, Some, None, ap, arith, refl, sym, ◌∙◌, subst, ⊎_elim, ◌+◌, ◌≢◌, ◌==◌, not, nat_lt, All, AllPairs, Contains, IfSome, filter, is_some, option_map}
use Rattle.std.specs.List.{enumerate_from}
use Rattle.std.proofs.lemmas.Bool.Decides.{nat_tests}
use Rattle.std.proofs.lemmas.Bool.{cases_eq, lt-ltb, cond_both}
use Rattle.std.proofs.lemmas.List.{length-map}
use Rattle.std.proofs.lemmas.List.Elements.{All-nil, All-cons, All-head, All-tail, All-map, All-weaker, All-filter, All-replicate, Contains-append_left, Contains-append_right, All-append, All-push, filter_passes}
use Rattle.std.proofs.lemmas.List.Kept.{AllPairs-filter}
use Rattle.std.proofs.lemmas.List.Sums.{length-filter}
use Rattle.list_laws.proofs.CondLemmas.{chosen}
use Rattle.list_laws.proofs.MapLemmas.{mapped_too, all_unmapped}
use Rattle.list_laws.proofs.AllPairsLemmas.{pairs_nil, pairs_cons, pairs_head, pairs_tail}
use Rattle.list_laws.proofs.ContainsLemmas.{kept_there}
use Rattle.uicc_types.specs.declared.identifiers.Shelf.{Shelf}
use Rattle.card_state.specs.Persistent.{Registration}
use Rattle.card_state.specs.Sections.{has_text, with_row}
use Rattle.toolkit_commands.specs.declared.commands.Proactive.{Proactive}
use Rattle.toolkit_commands.specs.declared.responses.Response.{Response as Reply}
use Rattle.timer_table.specs.Timers.{without}
use Rattle.applet_trait.specs.declared.stimuli.Stimulus.{Stimulus}
use Rattle.applet_trait.specs.declared.stimuli.Stimulus.TheVariants.{Response}
use Rattle.applet_trait.specs.Laws.{GivesTimer}
use Rattle.applet_trait.specs.Minds.{AppletState, fresh}
use Rattle.toolkit_model.specs.Sessions.{Outstanding, Sent, SessionState, fresh_session}
use Rattle.toolkit_model.specs.Orderly.{IsRegistered, CanBeSent, sent_by, owned, asks, IsUnderway}
use Rattle.toolkit_model.specs.Passing.{ToolkitState}
use Rattle.toolkit_model.specs.Registry.{is_on, row_on, without_row}
use Rattle.toolkit_model.specs.Running.{run_of_row, with_mind, sending, putting_out}
use Rattle.toolkit_model.specs.Driving.{is_idle, with_session}
use Rattle.toolkit_model.specs.Commands.{with_profile, forgetting, if_fetched, unfetched, unanswered, fetched, resumed, with_nothing_out, answered, registering, unregistering, woken_mind, woken_box, woken_boxes, toolkit_woken}
use Rattle.toolkit_model.specs.Steps.{AreRows, HasMind, HaveMinds}
use Rattle.toolkit_model.proofs.CarriedLemmas.{ArePlaced}
use Rattle.toolkit_model.proofs.RunOnLemmas.{AnyNumber, SendsProper, IsSendableTo}
use Rattle.toolkit_model.proofs.RunOfRowLemmas.{run_is, idle_all, IsReady, shelves_of, placed_now, with_timers, set_has, asks_same}

-- ---- the profile, and events that were reported

pub asks_of_profile : (session : SessionState) (profile : Option (List ℕ)) → asks (record session { profile = profile }) ≡ asks session
unfolding asks
asks_of_profile session profile = refl

pub profile_ready : (state : ToolkitState) (bytes : List ℕ) → IsReady state → IsReady (with_profile state bytes)
profile_ready state bytes ready =
    let underway = ready.underway in
    let same = asks_of_profile state.session (with_profile state bytes).session.profile in
    record {
      underway = record {
        apart = subst (AllPairs (λ a b. a.shelf ≢ b.shelf)) (sym same) underway.apart;
        askers = subst (All (λ sent. IsRegistered state.rows sent.shelf)) (sym same) underway.askers;
        sendable = underway.sendable;
        out_sendable = underway.out_sendable;
        late_rows = underway.late_rows;
        few_late = underway.few_late;
        timers = underway.timers;
        eight_timers = underway.eight_timers;
        no_profile = λ none. cc;
      };
      rows_are = ready.rows_are;
      minds = ready.minds;
    }

pub asks_forgetting : (code : ℕ) (session : SessionState) → asks (forgetting code session) ≡ asks session
unfolding asks
asks_forgetting code session = refl

pub forgetting_ready : (state : ToolkitState) (code : ℕ) → IsReady state → IsReady (with_session state (forgetting code state.session))
forgetting_ready state code ready =
    let underway = ready.underway in
    let same = asks_forgetting code state.session in
    record {
      underway = record {
        apart = subst (AllPairs (λ a b. a.shelf ≢ b.shelf)) (sym same) underway.apart;
        askers = subst (All (λ sent. IsRegistered state.rows sent.shelf)) (sym same) underway.askers;
        sendable = underway.sendable;
        out_sendable = underway.out_sendable;
        late_rows = underway.late_rows;
        few_late = underway.few_late;
        timers = underway.timers;
        eight_timers = underway.eight_timers;
        no_profile = underway.no_profile;
      };
      rows_are = ready.rows_are;
      minds = ready.minds;
    }

-- ---- FETCH and TERMINAL RESPONSE

unfetched_out : (held : Option Outstanding) (out : Outstanding) → if_fetched false held ≡ Some out → held ≡ Some out
unfetched_out None out is = cc
unfetched_out (Some held) out is =
    ⊎_elim {C = Some held ≡ Some out} (λ one. cc (one.1)) (λ other. other.1) (chosen held.is_fetched None (Some held) (Some out) is)

unanswered_out : (held : Option Outstanding) (out : Outstanding) → if_fetched true held ≡ Some out → held ≡ Some out
unanswered_out None out is = cc
unanswered_out (Some held) out is =
    ⊎_elim {C = Some held ≡ Some out} (λ one. one.1) (λ other. cc (other.1)) (chosen held.is_fetched (Some held) None (Some out) is)

pub fetch_out : (session : SessionState) (out : Outstanding) → unfetched session ≡ Some out → session.out ≡ Some out
fetch_out session out is = unfetched_out session.out out is

pub reply_out : (session : SessionState) (out : Outstanding) → unanswered session ≡ Some out → session.out ≡ Some out
reply_out session out is = unanswered_out session.out out is

pub asks_out : (session : SessionState) (out : Outstanding) → session.out ≡ Some out → asks session ≡ sent_by out.owner out.command ++ session.waiting
unfolding asks
asks_out session out is = ap (λ (held : Option Outstanding). owned held ++ session.waiting) is

asks_fetched : (out : Outstanding) (state : ToolkitState) → asks (fetched out state).state.session ≡ sent_by out.owner out.command ++ state.session.waiting
unfolding asks fetched
asks_fetched out state = refl

pub fetched_asks : (state : ToolkitState) (out : Outstanding) → unfetched state.session ≡ Some out → asks (fetched out state).state.session ≡ asks state.session
fetched_asks state out is = asks_fetched out state ∙ sym (asks_out state.session out (fetch_out state.session out is))

pub fetched_ready : (state : ToolkitState) (out : Outstanding) → unfetched state.session ≡ Some out → IsReady state → IsReady (fetched out state).state
unfolding fetched
fetched_ready state out is ready =
    let underway = ready.underway in
    let held = fetch_out state.session out is in
    let same = fetched_asks state out is in
    record {
      underway = record {
        apart = subst (AllPairs (λ a b. a.shelf ≢ b.shelf)) (sym same) underway.apart;
        askers = subst (All (λ sent. IsRegistered state.rows sent.shelf)) (sym same) underway.askers;
        sendable = underway.sendable;
        out_sendable = subst (λ (held : Option Outstanding). IfSome held (λ out. CanBeSent out.command)) held underway.out_sendable;
        late_rows = underway.late_rows;
        few_late = underway.few_late;
        timers = underway.timers;
        eight_timers = underway.eight_timers;
        no_profile = λ none. absurd (cc (sym held ∙ (underway.no_profile none).0));
      };
      rows_are = ready.rows_are;
      minds = ready.minds;
    }

behind_pairs : (owner : Option ℕ) (command : Proactive) (waiting : List Sent) → AllPairs (λ a b. a.shelf ≢ b.shelf) (sent_by owner command ++ waiting) → AllPairs (λ a b. a.shelf ≢ b.shelf) waiting
behind_pairs None command waiting pairs = pairs
behind_pairs (Some shelf) command waiting pairs = pairs_tail (λ a b. a.shelf ≢ b.shelf) (record { shelf = shelf; command = command }) waiting pairs

pub behind_all : (P : Sent → Type 0) (owner : Option ℕ) (command : Proactive) (waiting : List Sent) → All P (sent_by owner command ++ waiting) → All P waiting
behind_all P None command waiting all = all
behind_all P (Some shelf) command waiting all = All-tail P (record { shelf = shelf; command = command }) waiting all

pub asks_nothing_out : (session : SessionState) → asks (record session { out = None }) ≡ session.waiting
unfolding asks
asks_nothing_out session = refl

pub nothing_out_ready : (state : ToolkitState) (out : Outstanding) → state.session.out ≡ Some out → IsReady state → IsReady (with_nothing_out state)
nothing_out_ready state out is ready =
    let underway = ready.underway in
    let before = asks_out state.session out is in
    let now = asks_nothing_out state.session in
    record {
      underway = record {
        apart = subst (AllPairs (λ a b. a.shelf ≢ b.shelf)) (sym now) (behind_pairs out.owner out.command state.session.waiting (subst (AllPairs (λ a b. a.shelf ≢ b.shelf)) before underway.apart));
        askers = subst (All (λ sent. IsRegistered state.rows sent.shelf)) (sym now) (behind_all (λ sent. IsRegistered state.rows sent.shelf) out.owner out.command state.session.waiting (subst (All (λ sent. IsRegistered state.rows sent.shelf)) before underway.askers));
        sendable = underway.sendable;
        out_sendable = tt;
        late_rows = underway.late_rows;
        few_late = underway.few_late;
        timers = underway.timers;
        eight_timers = underway.eight_timers;
        no_profile = λ none. (refl, (underway.no_profile none).1);
      };
      rows_are = ready.rows_are;
      minds = ready.minds;
    }

pub asks_put_out : (session : SessionState) (shelf : ℕ) (command : Proactive) → asks (putting_out (Some shelf) command session) ≡ record { shelf = shelf; command = command } ∷ session.waiting
unfolding asks
asks_put_out session shelf command = refl

-- an applet that nothing waits for sends a command at once
put_out_ready : (rows : List Registration) (session : SessionState) (shelf : ℕ) (sent : Option Proactive) → session.out ≡ None → IsRegistered rows shelf → All (λ other. shelf ≢ other.shelf) session.waiting
    → IfSome sent (IsSendableTo session.profile) → IsUnderway rows session → IsUnderway rows (sending shelf true sent session)
put_out_ready rows session shelf None none registered apart sendable underway = underway
put_out_ready rows session shelf (Some command) none registered apart sendable underway =
    let now = asks_put_out session shelf command in
    let waiting : asks session ≡ session.waiting = ap asks (ap (λ (out : Option Outstanding). record session { out = out }) none) ∙ asks_nothing_out session in
    record {
      apart = subst (AllPairs (λ a b. a.shelf ≢ b.shelf)) (sym now) (pairs_cons (λ a b. a.shelf ≢ b.shelf) (record { shelf = shelf; command = command }) session.waiting apart (subst (AllPairs (λ a b. a.shelf ≢ b.shelf)) waiting underway.apart));
      askers = subst (All (λ sent. IsRegistered rows sent.shelf)) (sym now) (All-cons (λ sent. IsRegistered rows sent.shelf) (record { shelf = shelf; command = command }) session.waiting registered (subst (All (λ sent. IsRegistered rows sent.shelf)) waiting underway.askers));
      sendable = underway.sendable;
      out_sendable = sendable.0;
      late_rows = underway.late_rows;
      few_late = underway.few_late;
      timers = underway.timers;
      eight_timers = underway.eight_timers;
      no_profile = λ no_one. absurd (cc (sendable.1, no_one));
    }

-- the applet that was answered goes on
resumed_run : AnyNumber → SendsProper → (state : ToolkitState) (shelf : ℕ) (stimulus : Stimulus) → GivesTimer stimulus → state.session.out ≡ None → IsRegistered state.rows shelf
    → All (λ other. shelf ≢ other.shelf) state.session.waiting → IsReady state → IsReady (run_of_row shelf stimulus true state).state
resumed_run any proper state shelf stimulus gives none registered apart ready =
    let run = run_is shelf stimulus true state in
    let after = (run_of_row shelf stimulus true state).state in
    let now = placed_now state ready in
    let placed : ArePlaced (shelves_of state) after.rows run.timers = run.placed (shelves_of state) registered now in
    let there : IsRegistered after.rows shelf = subst (λ (shelves : List ℕ). Contains shelves shelf) (sym placed.shelves_are) registered in
    record {
      underway = subst (IsUnderway after.rows) (sym run.session_is)
          (put_out_ready after.rows (record state.session { timers = run.timers }) shelf run.sent none there apart (run.sendable any proper gives (shelves_of state) registered now)
          (with_timers state.rows after.rows state.session run.timers placed ready.underway));
      rows_are = placed.rows_are;
      minds = subst (All (HasMind after.minds)) (sym placed.shelves_are) (run.minds (shelves_of state) ready.minds);
    }

pub owner_apart : (state : ToolkitState) (out : Outstanding) (shelf : ℕ) → state.session.out ≡ Some out → out.owner ≡ Some shelf → IsReady state
    → IsRegistered state.rows shelf × All (λ other. shelf ≢ other.shelf) state.session.waiting
owner_apart state out shelf is owner ready =
    let sent : Sent = record { shelf = shelf; command = out.command } in
    let same : asks state.session ≡ sent ∷ state.session.waiting = asks_out state.session out is ∙ ap (λ (owner : Option ℕ). sent_by owner out.command ++ state.session.waiting) owner in (
      All-head (λ other. IsRegistered state.rows other.shelf) sent state.session.waiting (subst (All (λ sent. IsRegistered state.rows sent.shelf)) same ready.underway.askers),
      pairs_head (λ a b. a.shelf ≢ b.shelf) sent state.session.waiting (subst (AllPairs (λ a b. a.shelf ≢ b.shelf)) same ready.underway.apart),
    )

owner_resumed : AnyNumber → SendsProper → (state : ToolkitState) (out : Outstanding) (owner : Option ℕ) (reply : Reply) → out.owner ≡ owner → state.session.out ≡ Some out → IsReady state
    → IsReady (resumed owner reply (with_nothing_out state)).state
owner_resumed any proper state out None reply owner is ready = nothing_out_ready state out is ready
owner_resumed any proper state out (Some shelf) reply owner is ready =
    let both = owner_apart state out shelf is owner ready in
    resumed_run any proper (with_nothing_out state) shelf (Response reply.result reply.item reply.text) tt refl both.0 both.1 (nothing_out_ready state out is ready)

pub answered_ready : AnyNumber → SendsProper → (state : ToolkitState) (out : Outstanding) (reply : Reply) → unanswered state.session ≡ Some out → IsReady state
    → IsReady (answered out reply state).state
unfolding answered
answered_ready any proper state out reply is ready = owner_resumed any proper state out out.owner reply refl (reply_out state.session out is) ready

-- ---- INSTALL and DELETE

pub some_weaker : {X : Type 0} (P Q : X → Type 0) → ((x : X) → P x → Q x) → (found : Option X) → IfSome found P → IfSome found Q
some_weaker P Q more None here = tt
some_weaker P Q more (Some x) here = more x here

All-both : {X : Type 0} (P Q R : X → Type 0) → ((x : X) → P x → Q x → R x) → (xs : List X) → All P xs → All Q xs → All R xs
All-both P Q R both xs first second k d low = both _ (first k d low) (second k d low)

pub mapped_from : {X Y : Type 0} (f : X → Y) (xs : List X) (y : Y) → Contains (map f xs) y → (x : X) × Contains xs x × (f x ≡ y)
mapped_from f [] y there = absurd (omega arith)
mapped_from f (x ∷ xs) y (zero, low, is) = (x, (0, omega arith, refl), is)
mapped_from f (x ∷ xs) y (suc k, low, is) =
    let found = mapped_from f xs y (k, omega arith, is) in
    (found.0, Contains-append_right (x ∷ []) xs found.0 found.1, found.2)

pub is_either : (b : Bool) → (b ≡ true) ⊎ (b ≡ false)
is_either true = inl refl
is_either false = inr refl

one_way : (a b : ℕ) → (b ≡ a → ⊥) → (nat_lt a b ≡ true) ⊎ (nat_lt b a ≡ true)
one_way a b apart =
    ⊎_elim {C = (nat_lt a b ≡ true) ⊎ (nat_lt b a ≡ true)}
    (λ holds. inl holds)
    (λ fails. inr (lt-ltb b a (grind (arith, nat_tests))))
    (is_either (nat_lt a b))

stays_on : (a b : ℕ) → (a ≡ b → ⊥) → not (a == b) ≡ true
stays_on a b apart = grind (arith, nat_tests)

fewer_one : (b : Bool) (row : Registration) (xs ys : List Registration) → length xs ≤ length ys → length (cond b (row ∷ xs) xs) ≤ length (cond b (row ∷ ys) ys)
fewer_one true row xs ys less = omega arith
fewer_one false row xs ys less = less

fewer_other : (b : Bool) (row : Registration) (xs ys : List Registration) → length xs ≤ length ys → length xs ≤ length (cond b (row ∷ ys) ys)
fewer_other true row xs ys less = omega arith
fewer_other false row xs ys less = less

-- a row that is there is there with one more
more_registered : (rows : List Registration) (row : Registration) (shelf : ℕ) → IsRegistered rows shelf → IsRegistered (with_row rows row) shelf
more_registered rows row shelf there =
    let below : List Registration = filter (λ other. nat_lt other.shelf row.shelf) rows in
    let above : List Registration = filter (λ other. nat_lt row.shelf other.shelf) rows in
    let front : List Registration = below ++ row ∷ [] in
    let found = mapped_from (λ row. row.shelf) rows shelf there in
    let here : (other : Registration) → Contains (with_row rows row) other → other.shelf ≡ shelf → IsRegistered (with_row rows row) shelf =
    λ other stands same. subst (IsRegistered (with_row rows row)) same (mapped_too (λ row. row.shelf) (with_row rows row) other stands) in
    ⊎_elim {C = IsRegistered (with_row rows row) shelf}
    (λ same. here row (Contains-append_left front above row (Contains-append_right below (row ∷ []) row (0, omega arith, refl))) same)
    (λ other. ⊎_elim {C = IsRegistered (with_row rows row) shelf}
    (λ less. here found.0 (Contains-append_left front above found.0 (Contains-append_left below (row ∷ []) found.0 (kept_there (λ other. nat_lt other.shelf row.shelf) rows found.0 found.1 less))) found.2)
    (λ more. here found.0 (Contains-append_right front above found.0 (kept_there (λ other. nat_lt row.shelf other.shelf) rows found.0 found.1 more)) found.2)
    (one_way found.0.shelf row.shelf (λ same. other (same ∙ found.2))))
    (cases_eq row.shelf shelf)

pub registering_ready : (row : Registration) (state : ToolkitState) → AreRows (with_row state.rows row) → HasMind state.minds row.shelf → IsReady state → IsReady (registering row state).state
registering_ready row state are has ready =
    let underway = ready.underway in
    let new : List Registration = with_row state.rows row in
    let more = more_registered state.rows row in
    let minds = (registering row state).state.minds in
    let had : All (λ row. HasMind minds row.shelf) state.rows =
    All-weaker (λ row. HasMind state.minds row.shelf) (λ row. HasMind minds row.shelf) (λ other. set_has state.minds row.shelf (fresh row.kind row.kept) other.shelf) state.rows (all_unmapped (HasMind state.minds) (λ row. row.shelf) state.rows ready.minds) in
    record {
      underway = record {
        apart = underway.apart;
        askers = All-weaker (λ sent. IsRegistered state.rows sent.shelf) (λ sent. IsRegistered new sent.shelf) (λ sent. more sent.shelf) (asks state.session) underway.askers;
        sendable = underway.sendable;
        out_sendable = underway.out_sendable;
        late_rows = All-weaker (λ trigger. IsRegistered state.rows trigger.shelf) (λ trigger. IsRegistered new trigger.shelf) (λ trigger. more trigger.shelf) state.session.late underway.late_rows;
        few_late = underway.few_late;
        timers = All-weaker (λ owner. IfSome owner (λ shelf. IsRegistered state.rows shelf.0)) (λ owner. IfSome owner (λ shelf. IsRegistered new shelf.0))
            (λ owner here. some_weaker (λ shelf. IsRegistered state.rows shelf.0) (λ shelf. IsRegistered new shelf.0) (λ shelf. more shelf.0) owner here) state.session.timers underway.timers;
        eight_timers = underway.eight_timers;
        no_profile = underway.no_profile;
      };
      rows_are = are;
      minds = All-map (HasMind minds) (λ row. row.shelf) new
          (All-append (λ row. HasMind minds row.shelf) (filter (λ other. nat_lt other.shelf row.shelf) state.rows ++ row ∷ []) (filter (λ other. nat_lt row.shelf other.shelf) state.rows)
          (All-push (λ row. HasMind minds row.shelf) (filter (λ other. nat_lt other.shelf row.shelf) state.rows) row (All-filter (λ other. nat_lt other.shelf row.shelf) (λ row. HasMind minds row.shelf) state.rows had) (set_has state.minds row.shelf (fresh row.kind row.kept) row.shelf has))
          (All-filter (λ other. nat_lt row.shelf other.shelf) (λ row. HasMind minds row.shelf) state.rows had));
    }

left_registered : (rows : List Registration) (gone shelf : ℕ) → shelf ≢ gone → IsRegistered rows shelf → IsRegistered (without_row rows gone) shelf
left_registered rows gone shelf apart there =
    let found = mapped_from (λ row. row.shelf) rows shelf there in
    let stays : not (is_on gone found.0) ≡ true = stays_on found.0.shelf gone (λ same. apart (sym found.2 ∙ same)) in
    subst (IsRegistered (without_row rows gone)) found.2 (mapped_too (λ row. row.shelf) (without_row rows gone) found.0 (kept_there (λ row. not (is_on gone row)) rows found.0 found.1 stays))

fewer_texts : (gone : ℕ) (rows : List Registration) → length (filter has_text (without_row rows gone)) ≤ length (filter has_text rows)
fewer_texts gone [] = omega arith
fewer_texts gone (row ∷ others) =
    let rest = fewer_texts gone others in
    cond_both (not (is_on gone row)) (row ∷ without_row others gone) (without_row others gone) (λ (left : List Registration). length (filter has_text left) ≤ length (filter has_text (row ∷ others)))
    (λ h. fewer_one (has_text row) row (filter has_text (without_row others gone)) (filter has_text others) rest)
    (λ h. fewer_other (has_text row) row (filter has_text (without_row others gone)) (filter has_text others) rest)

pub rows_without : (rows : List Registration) (gone : ℕ) → AreRows rows → AreRows (without_row rows gone)
rows_without rows gone are = record {
  shelves = AllPairs-filter (λ a b. a.shelf < b.shelf) (λ row. not (is_on gone row)) rows are.shelves;
  sequences = AllPairs-filter (λ a b. a.sequence ≢ b.sequence) (λ row. not (is_on gone row)) rows are.sequences;
  texts = All-filter (λ row. not (is_on gone row)) (λ row. length row.text ≤ 10) rows are.texts;
  few_texts = omega (arith, length-filter has_text (without_row rows gone), length-filter has_text rows, fewer_texts gone rows, are.few_texts);
}

-- an owner that is left is another
left_owner : (rows : List Registration) (gone : ℕ) (owner : Option Shelf) → IfSome owner (λ shelf. IsRegistered rows shelf.0) → IfSome (without (record { 0 = gone }) owner) (λ shelf. IsRegistered (without_row rows gone) shelf.0)
left_owner rows gone None there = tt
left_owner rows gone (Some held) there =
    cond_both (held.0 == gone) None (Some held) (λ (left : Option Shelf). IfSome left (λ shelf. IsRegistered (without_row rows gone) shelf.0)) (λ h. tt) (λ h. left_registered rows gone held.0 (grind (arith, nat_tests)) there)

unset_has : (minds : List (Option AppletState)) (at shelf : ℕ) → shelf ≢ at → HasMind minds shelf → HasMind (with_mind minds at None) shelf
unset_has [] at shelf apart has = has
unset_has (first ∷ others) zero zero apart has = absurd (apart refl)
unset_has (first ∷ others) zero (suc shelf) apart has = has
unset_has (first ∷ others) (suc at) zero apart has = has
unset_has (first ∷ others) (suc at) (suc shelf) apart has = unset_has others at shelf (λ same. apart (ap suc same)) has

pub other_on : (a b : ℕ) → not (a == b) ≡ true → a ≢ b
other_on a b is = grind (arith, nat_tests)

pub unregistering_ready : (shelf : ℕ) (state : ToolkitState) → is_idle (asks state.session) shelf ≡ true → All (λ trigger. trigger.shelf ≢ shelf) state.session.late
    → IsReady state → IsReady (unregistering shelf state).state
unregistering_ready shelf state idle late ready =
    let underway = ready.underway in
    let new : List Registration = without_row state.rows shelf in
    let session = (unregistering shelf state).state.session in
    let same : asks session ≡ asks state.session = asks_same state.session session.timers in
    record {
      underway = record {
        apart = subst (AllPairs (λ a b. a.shelf ≢ b.shelf)) (sym same) underway.apart;
        askers = subst (All (λ sent. IsRegistered new sent.shelf)) (sym same)
            (All-both (λ sent. IsRegistered state.rows sent.shelf) (λ sent. sent.shelf ≢ shelf) (λ sent. IsRegistered new sent.shelf) (λ sent there apart. left_registered state.rows shelf sent.shelf apart there) (asks state.session) underway.askers (idle_all (asks state.session) shelf idle));
        sendable = underway.sendable;
        out_sendable = underway.out_sendable;
        late_rows = All-both (λ trigger. IsRegistered state.rows trigger.shelf) (λ trigger. trigger.shelf ≢ shelf) (λ trigger. IsRegistered new trigger.shelf) (λ trigger there apart. left_registered state.rows shelf trigger.shelf apart there) state.session.late underway.late_rows late;
        few_late = underway.few_late;
        timers = All-map (λ owner. IfSome owner (λ shelf. IsRegistered new shelf.0)) (without (record { 0 = shelf })) state.session.timers
            (All-weaker (λ owner. IfSome owner (λ shelf. IsRegistered state.rows shelf.0)) (λ owner. IfSome (without (record { 0 = shelf }) owner) (λ shelf. IsRegistered new shelf.0)) (left_owner state.rows shelf) state.session.timers underway.timers);
        eight_timers = length-map state.session.timers (without (record { 0 = shelf })) ∙ underway.eight_timers;
        no_profile = underway.no_profile;
      };
      rows_are = rows_without state.rows shelf ready.rows_are;
      minds = All-map (HasMind (with_mind state.minds shelf None)) (λ row. row.shelf) new
          (All-both (λ row. HasMind state.minds row.shelf) (λ row. not (is_on shelf row) ≡ true) (λ row. HasMind (with_mind state.minds shelf None) row.shelf)
          (λ row has stays. unset_has state.minds shelf row.shelf (other_on row.shelf shelf stays) has) new
          (All-filter (λ row. not (is_on shelf row)) (λ row. HasMind state.minds row.shelf) state.rows (all_unmapped (HasMind state.minds) (λ row. row.shelf) state.rows ready.minds))
          (filter_passes (λ row. not (is_on shelf row)) state.rows));
    }

-- ---- a wake

pub asks_fresh : asks fresh_session ≡ []
unfolding asks
asks_fresh = refl

mapped_some : {X Y : Type 0} (f : X → Y) (found : Option X) → is_some found ≡ true → is_some (option_map f found) ≡ true
mapped_some f None is = is
mapped_some f (Some x) is = refl

woken_has : (rows : List Registration) (from : ℕ) (minds : List (Option AppletState)) (shelf : ℕ) → HasMind minds shelf → HasMind (map (woken_box rows) (enumerate_from from minds)) shelf
woken_has rows from [] shelf has = has
woken_has rows from (mind ∷ others) zero has = mapped_some (woken_mind (row_on rows from)) mind has
woken_has rows from (mind ∷ others) (suc shelf) has = woken_has rows (from + 1) others shelf has

pub woken_ready : (rows : List Registration) (minds : List (Option AppletState)) → AreRows rows → HaveMinds rows minds → IsReady (toolkit_woken rows minds)
unfolding toolkit_woken woken_boxes
woken_ready rows minds are have = record {
  underway = record {
    apart = subst (AllPairs (λ a b. a.shelf ≢ b.shelf)) (sym asks_fresh) (pairs_nil (λ a b. a.shelf ≢ b.shelf));
    askers = subst (All (λ sent. IsRegistered rows sent.shelf)) (sym asks_fresh) (All-nil (λ sent. IsRegistered rows sent.shelf));
    sendable = All-nil (λ sent. CanBeSent sent.command);
    out_sendable = tt;
    late_rows = All-nil (λ trigger. IsRegistered rows trigger.shelf);
    few_late = omega arith;
    timers = All-replicate (λ owner. IfSome owner (λ shelf. IsRegistered rows shelf.0)) 8 None tt;
    eight_timers = refl;
    no_profile = λ none. (refl, refl);
  };
  rows_are = are;
  minds = All-map (HasMind (woken_boxes rows minds)) (λ row. row.shelf) rows
      (All-weaker (λ row. HasMind minds row.shelf) (λ row. HasMind (woken_boxes rows minds) row.shelf) (λ row has. woken_has rows 0 minds row.shelf has) rows have);
}
