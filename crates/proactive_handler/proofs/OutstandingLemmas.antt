-- Whether an applet asks for anything: it sent the outstanding command, or one that waits.
use Rattle.std.proofs.Common.{◌≡◌, refl, ap, sym, ◌∙◌, Bool, true, false, List, ◌++◌, ◌||◌, ◌&&◌, not}
use Rattle.std.specs.List.{list_any}
use Rattle.std.proofs.lemmas.List.Folds.{list_any-append}
use Rattle.toolkit_model.specs.Sessions.{Sent}

neither : (a b : Bool) → (not a && not b) ≡ not (a || b)
neither true b = refl
neither false b = refl

pub one_or_others : (p : Sent → Bool) (owned waiting : List Sent) → (not (list_any p owned) && not (list_any p waiting)) ≡ not (list_any p (owned ++ waiting))
one_or_others p owned waiting = neither (list_any p owned) (list_any p waiting) ∙ ap not (sym (list_any-append p owned waiting))
