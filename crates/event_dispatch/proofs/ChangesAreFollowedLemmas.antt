-- An index that follows changes of the rows.
use Rattle.std.proofs.Common.{◌≡◌, refl, sym, ap, ◌∙◌, ⊎_elim, ℕ, Bool, true, false, List, [], ◌∷◌, subst, ◌==◌, ◌&&◌, not, Ok}
use Rattle.std.proofs.lemmas.Bool.{cases_eq}
use Rattle.uicc_types.specs.declared.events.TheConstants.{CALL_CONTROL}
use Rattle.card_state.specs.Persistent.{Registration}
use Rattle.card_state.specs.Sections.{is_code}
use Rattle.toolkit_model.specs.declared.faults.RowFault.TheVariants.{BadData, Taken}
use Rattle.toolkit_model.specs.Order.{targets}
use Rattle.toolkit_model.specs.Registry.{faulty_if, is_answered, is_registered, registers, with_code}
use Rattle.event_dispatch.specs.Indexes.{targets_in, StandsFor}
use Rattle.event_dispatch.specs.Changes.{AreListed, RowChange, Installs, Deletes, Registers, Deregisters, Keeps, changed, MayChange, Follows, RegistrationsAreFollowed, ChangesAreFollowed}
use Rattle.event_dispatch.proofs.WithoutCodeLemmas.{targets_of_kept}
use Rattle.event_dispatch.proofs.WithCodeLemmas.{others_stay, lacks_more, registered_then}
use Rattle.event_dispatch.proofs.InstallationsAreFollowedLemmas.{installations_followed}
use Rattle.event_dispatch.proofs.AreListedLemmas.{left_listed, more_listed, fewer_listed, kept_listed}

-- ---- what is registered for one more code

pub record WasAdmitted (rows : List Registration) (shelf code : ℕ) : Type 0 where
  pub known : is_code code ≡ true
  pub absent : is_registered rows shelf code ≡ false

was_admitted : (known taken registered : Bool) → faulty_if (not known) BadData (faulty_if taken Taken (Ok (not registered))) ≡ Ok true → (known ≡ true) × (registered ≡ false)
was_admitted true true registered = λ is. cc is
was_admitted true false true = λ is. cc is
was_admitted true false false = λ is. (refl, refl)
was_admitted false taken registered = λ is. cc is

pub admitted_code : (rows : List Registration) (shelf code : ℕ) → registers rows shelf code ≡ Ok true → WasAdmitted rows shelf code
admitted_code rows shelf code is =
    let was = was_admitted (is_code code) ((code == CALL_CONTROL) && is_answered rows shelf) (is_registered rows shelf code) is in
    record { known = was.0; absent = was.1 }

pub registrations_followed : RegistrationsAreFollowed
registrations_followed rows shelf code old listed may stands =
    let was = admitted_code rows shelf code may.1 in
    let still = more_listed rows shelf code listed in
    record {
      rows_are = still.rows_are;
      registered = registered_then rows shelf code was.known may.0;
      lacks = stands code ∙ lacks_more rows shelf code listed.rows_are was.absent;
      stands = λ new comes other. ⊎_elim {C = targets_in new other ≡ targets (with_code rows shelf code) other}
          (λ same. subst (λ (n : ℕ). targets_in new n ≡ targets (with_code rows shelf code) n) (sym same) comes.here)
          (λ far. comes.others other far ∙ stands other ∙ sym (others_stay rows shelf code other far listed.known still.known))
          (cases_eq other code);
    }

-- ---- one change, and then others

one_followed : (change : RowChange) (rows : List Registration) (old new : List (List ℕ)) → AreListed rows → MayChange change rows → StandsFor old rows → Follows change rows old new
    → AreListed (changed change rows) × StandsFor new (changed change rows)
one_followed (Installs row) rows old new listed may stands follows =
    (may.0, follows may.0.rows_are (subst (StandsFor old) (sym (installations_followed rows row listed.rows_are may.1)) stands))
one_followed (Deletes shelf) rows old new listed may stands follows = (left_listed rows shelf listed, follows listed.rows_are stands)
one_followed (Registers shelf code) rows old new listed may stands follows =
    let is = registrations_followed rows shelf code old listed may stands in
    (more_listed rows shelf code listed, is.stands new (record { here = follows.0 is.rows_are is.registered is.lacks; others = follows.1 }))
one_followed (Deregisters shelf code) rows old new listed may stands follows = (fewer_listed rows shelf code listed, follows listed.rows_are stands)
one_followed (Keeps shelf bytes) rows old new listed may stands follows =
    (kept_listed rows shelf bytes listed, λ code. ap (λ (lists : List (List ℕ)). targets_in lists code) follows ∙ stands code ∙ sym (targets_of_kept rows shelf bytes code))

pub changes_followed : ChangesAreFollowed
changes_followed [] rows old new listed may stands follows = (listed, subst (λ (lists : List (List ℕ)). StandsFor lists rows) (sym follows) stands)
changes_followed (change ∷ others) rows old new listed may stands follows =
    let between = follows.0 in
    let one = one_followed change rows old between listed may.0 stands follows.1 in
    changes_followed others (changed change rows) between new one.0 may.1 one.1 follows.2
