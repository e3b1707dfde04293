-- From the test of FETCH (`fetch_tried`) or TERMINAL RESPONSE (`response_tried`) to what the abstract card answers: `_out`, a
-- command is there; `_at`, it is carried out; `_not`, it is refused. The proofs of `fetch` and `take_response` alone stand on these.
use Rattle.std.proofs.Common.{◌≡◌, refl, sym, ap, ◌∙◌, subst, ℕ, true, List, [], ◌∷◌, Option, Some, None, length, is_some, IfSome, option_map, Ok, Err}
use Rattle.uicc_types.specs.declared.answers.StatusWord.{StatusWord}
use Rattle.apdu_form.specs.Model.{Apdu}
use Rattle.card_state.specs.Memory.{held}
use Rattle.card_state.specs.Persistent.{Persistent}
use Rattle.toolkit_commands.specs.declared.commands.Details.{Details}
use Rattle.toolkit_commands.specs.declared.responses.Response.{Response}
use Rattle.toolkit_model.specs.Sessions.{Outstanding, SessionState}
use Rattle.toolkit_model.specs.Passing.{ToolkitState, Fetched}
use Rattle.toolkit_model.specs.Commands.{unfetched, unanswered, pending, command_bytes, as_fetched, fetched}
use Rattle.proactive_handler.proofs.CountingLemmas.{counts_none}
use Rattle.proactive_handler.proofs.WrittenLemmas.{writes_none}
use Rattle.proactive_handler.specs.Steps.{Scene}
use Rattle.card_model.specs.States.{CardState}
use Rattle.card_model.specs.Toolkit.{toolkit_of, coming_to, command_fetched, response_taken}
use Rattle.cat_commands.specs.Carrying.{HasToolkit, HasCome}
use Rattle.cat_commands.specs.Trying.{fetch_tried, response_tried}
use Rattle.cat_commands.proofs.TryingLemmas.{details_for, answered_by, fetch_refused, fetch_goes, fetch_there, response_refused, response_goes, response_there}

pub some_there : {X : Type 0} (o : Option X) → is_some o ≡ true → (x : X) × (o ≡ Some x)
some_there None is = cc is
some_there (Some x) is = (x, refl)

pub of_some : {X : Type 0} (o : Option X) (P : X → Type 0) (x : X) → o ≡ Some x → IfSome o P → P x
of_some {X} o P x is holds = subst (λ (each : Option X). IfSome each P) is holds

-- ---- FETCH

counted : {X : Type 0} (f : Outstanding → X) (o : Option Outstanding) → is_some (option_map f o) ≡ true → is_some o ≡ true
counted f None is = is
counted f (Some out) is = refl

-- what passes the tests is there to be fetched
pub fetch_out : (session : SessionState) (count : Option ℕ) (apdu : Apdu) (done : Unit) → count ≡ pending session → fetch_tried count apdu ≡ Ok done → is_some (unfetched session) ≡ true
fetch_out session count apdu done is goes =
    counted (λ out. length (command_bytes out)) (unfetched session) (ap (λ (o : Option ℕ). is_some o) (sym is) ∙ fetch_there count apdu done goes)

pub fetch_at : (card : CardState) (session : SessionState) (count : Option ℕ) (apdu : Apdu) (done : Unit) (out : Outstanding) → card.session ≡ session → count ≡ pending session → unfetched session ≡ Some out → fetch_tried count apdu ≡ Ok done
    → command_fetched card apdu ≡ Ok (coming_to card (command_bytes out) (fetched out (toolkit_of card)))
fetch_at card session count apdu done out same is there goes =
    fetch_goes card apdu out done (ap (λ (s : SessionState). unfetched s) same ∙ there) (ap (λ (s : SessionState). fetch_tried (pending s) apdu) same ∙ ap (λ (n : Option ℕ). fetch_tried n apdu) (sym is) ∙ goes)

pub fetch_not : (card : CardState) (session : SessionState) (count : Option ℕ) (apdu : Apdu) (status : StatusWord) → card.session ≡ session → count ≡ pending session → fetch_tried count apdu ≡ Err status → command_fetched card apdu ≡ Err status
fetch_not card session count apdu status same is fails =
    fetch_refused card apdu status (ap (λ (s : SessionState). fetch_tried (pending s) apdu) same ∙ ap (λ (n : Option ℕ). fetch_tried n apdu) (sym is) ∙ fails)

same_held : (stood : Option Persistent) → stood ≡ option_map (λ (state : Persistent). state) stood
same_held None = refl
same_held (Some state) = refl

-- nothing but the session moves
pub fetched_comes : (card : CardState) (old : Scene) (session : SessionState) (body : List ℕ) (out : Outstanding) → HasToolkit old card → session ≡ record old.session { out = Some (as_fetched out) }
    → HasCome (coming_to card body (fetched out (toolkit_of card))) old (record old { session = session })
unfolding fetched
fetched_comes card old session body out has is = record {
  toolkit_is = λ i. let each : ToolkitState = record { rows = sym has.told.rows i; session = (is ∙ ap (λ (s : SessionState). record s { out = Some (as_fetched out) }) (sym has.session_is)) i; minds = sym has.boxes_are i } in each;
  next = sym has.told.next;
  stands = same_held (held old.memory);
  tells = λ state told. told;
  last_is = ap (λ rows. Some rows) (sym has.told.rows);
  counts = counts_none old.memory old.memory refl;
  writes = writes_none (Fetched out ∷ []) old.memory old.memory refl refl;
}

pub fetched_order : (state : ToolkitState) (session : SessionState) (out : Outstanding) → session ≡ record state.session { out = Some (as_fetched out) } → record state { session = session } ≡ (fetched out state).state
unfolding fetched
fetched_order state session out is = ap (λ (s : SessionState). record state { session = s }) is

-- ---- TERMINAL RESPONSE

module _ (session : SessionState) (details : Option Details) (apdu : Apdu) (is : details ≡ details_for (unanswered session)) where
  tried_is : response_tried (details_for (unanswered session)) apdu ≡ response_tried details apdu
  tried_is = ap (λ (d : Option Details). response_tried d apdu) (sym is)

  pub response_out : (reply : Response) → response_tried details apdu ≡ Ok reply → is_some (unanswered session) ≡ true
  response_out reply goes = response_there (unanswered session) apdu reply (tried_is ∙ goes)

  module _ (card : CardState) (same : card.session ≡ session) where
    card_tried : response_tried (details_for (unanswered card.session)) apdu ≡ response_tried details apdu
    card_tried = ap (λ (s : SessionState). response_tried (details_for (unanswered s)) apdu) same ∙ tried_is

    pub response_at : (out : Outstanding) (reply : Response) → unanswered session ≡ Some out → response_tried details apdu ≡ Ok reply → response_taken card apdu ≡ answered_by card reply out
    response_at out reply there goes = response_goes card apdu out reply (ap (λ (s : SessionState). unanswered s) same ∙ there) (card_tried ∙ goes)

    pub response_not : (status : StatusWord) → response_tried details apdu ≡ Err status → response_taken card apdu ≡ Err status
    response_not status fails = response_refused card apdu status (card_tried ∙ fails)
