-- The box on a shelf, in which the applet is another or in another state.
use Rattle.std.proofs.Common.{◌≡◌, sym, ap, ◌∙◌, ℕ, ◌<◌, set, List, get_or, Option, None, length, option_map}
use Rattle.std.proofs.lemmas.List.{map-set, get_or-map}
use Rattle.applet_trait.specs.Minds.{AppletState, minds_of}
use Rattle.toolkit_model.specs.Running.{mind_on, with_mind}

pub woken_there : {B : Type 0} (mind : B → AppletState) (boxes : List (Option B)) (place shelf : ℕ) → place ≡ shelf → (box : Option B) → place < length boxes → (new : Option B) (change : AppletState → AppletState)
    → option_map mind new ≡ option_map change (option_map mind (get_or boxes place box)) → minds_of mind (set boxes place new) ≡ with_mind (minds_of mind boxes) shelf (option_map change (mind_on (minds_of mind boxes) shelf))
woken_there {B} mind boxes place shelf same box low new change is =
    let here : mind_on (minds_of mind boxes) place ≡ option_map mind (get_or boxes place box) = get_or-map (option_map mind) boxes place box None low in
    map-set (option_map mind) boxes place new ∙ ap (set (minds_of mind boxes) place) (is ∙ sym (ap (option_map change) here))
    ∙ ap (λ (n : ℕ). with_mind (minds_of mind boxes) n (option_map change (mind_on (minds_of mind boxes) n))) same
