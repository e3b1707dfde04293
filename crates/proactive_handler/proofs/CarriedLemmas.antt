-- What each act comes to, from its tests.
use Rattle.std.proofs.Common.{◌≡◌, ap, ◌∙◌, ℕ, Bool, true, false, List, length, nat_le, if◌then◌else◌, Result, Ok, Err}
use Rattle.applet_trait.specs.declared.numbers.TheConstants.{MOST_KEPT}
use Rattle.applet_trait.specs.declared.stimuli.Stimulus.TheVariants.{Went, Refused}
use Rattle.applet_trait.specs.declared.stimuli.Act.TheVariants.{Keep, Register, Deregister}
use Rattle.toolkit_model.specs.declared.faults.RowFault.{RowFault}
use Rattle.toolkit_model.specs.Registry.{registers, deregisters, with_code, without_code, with_kept}
use Rattle.toolkit_model.specs.Running.{Setting, Works, carried, commits, answers, changing}

module _ (at : Setting) (works : Works) (shelf : ℕ) (here : at.shelf ≡ shelf) where
  pub keep_goes : (bytes : List ℕ) → nat_le (length bytes) MOST_KEPT ≡ true → carried at (Keep bytes) works ≡ commits works (with_kept works.rows shelf bytes)
  keep_goes bytes fits =
      ap (λ (b : Bool). if b then commits works (with_kept works.rows at.shelf bytes) else answers Refused works) fits ∙ ap (λ (n : ℕ). commits works (with_kept works.rows n bytes)) here

  pub keep_fails : (bytes : List ℕ) → nat_le (length bytes) MOST_KEPT ≡ false → carried at (Keep bytes) works ≡ answers Refused works
  keep_fails bytes long = ap (λ (b : Bool). if b then commits works (with_kept works.rows at.shelf bytes) else answers Refused works) long

  module _ (code : ℕ) where
    register_is : (r : Result Bool RowFault) → registers works.rows shelf code ≡ r → carried at (Register code) works ≡ changing works (with_code works.rows shelf code) r
    register_is r is =
        ap (λ (n : ℕ). changing works (with_code works.rows n code) (registers works.rows n code)) here ∙ ap (changing works (with_code works.rows shelf code)) is

    pub register_goes : registers works.rows shelf code ≡ Ok true → carried at (Register code) works ≡ commits works (with_code works.rows shelf code)
    register_goes is = register_is (Ok true) is

    pub register_rests : (b : Bool) → registers works.rows shelf code ≡ Ok b → b ≡ false → carried at (Register code) works ≡ answers Went works
    register_rests b is none = register_is (Ok b) is ∙ ap (λ (t : Bool). changing works (with_code works.rows shelf code) (Ok t)) none

    pub register_fails : (fault : RowFault) → registers works.rows shelf code ≡ Err fault → carried at (Register code) works ≡ answers Refused works
    register_fails fault is = register_is (Err fault) is

    deregister_is : (r : Result Bool RowFault) → deregisters works.rows shelf code ≡ r → carried at (Deregister code) works ≡ changing works (without_code works.rows shelf code) r
    deregister_is r is =
        ap (λ (n : ℕ). changing works (without_code works.rows n code) (deregisters works.rows n code)) here ∙ ap (changing works (without_code works.rows shelf code)) is

    pub deregister_goes : deregisters works.rows shelf code ≡ Ok true → carried at (Deregister code) works ≡ commits works (without_code works.rows shelf code)
    deregister_goes is = deregister_is (Ok true) is

    pub deregister_rests : (b : Bool) → deregisters works.rows shelf code ≡ Ok b → b ≡ false → carried at (Deregister code) works ≡ answers Went works
    deregister_rests b is none = deregister_is (Ok b) is ∙ ap (λ (t : Bool). changing works (without_code works.rows shelf code) (Ok t)) none

    pub deregister_fails : (fault : RowFault) → deregisters works.rows shelf code ≡ Err fault → carried at (Deregister code) works ≡ answers Refused works
    deregister_fails fault is = deregister_is (Err fault) is
