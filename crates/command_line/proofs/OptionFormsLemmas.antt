-- The words of options are read in one way, and are at most six.
use Rattle.std.proofs.Common.{◌≡◌, inl, inr, ℕ, ◌+◌, ◌*◌, ◌≤◌, ◌<◌, ◌-◌, List, [], ◌∷◌, length, map, take, drop, refl, sym, ap, ◌∙◌, subst, arith, codes, Option, Some, None}
use Rattle.std.proofs.lemmas.List.{length-map, take_all}
use Rattle.std.specs.Cmp.Lexicographic.{other_text}
use Rattle.script_form.specs.Reads.{IsOnly, Reads}
use Rattle.command_line.specs.Model.{AreChosen}
use Rattle.command_line.specs.OptionForms.{AddsOption, AddsStore, AreOptions, devices_of, without_options}
use Rattle.command_line.specs.declared.options.Options.{Options}
use Rattle.command_line.specs.declared.requests.Devices.{Devices}
use Rattle.command_line.specs.declared.requests.Transport.{Transport}
use Rattle.command_line.specs.declared.requests.Transport.TheVariants.{Direct, T0}

-- ---- one option

-- that of a store is no other
store_of : (value : List ℕ) (place : ℕ) (others all : Options) → AddsOption (codes "--store") value place others all → AddsStore (codes "--store") value others all
store_of value place others all (inl store) = store
store_of value place others all (inr (inl image)) = absurd (other_text (codes "--store") (codes "--image") refl image.name_is)
store_of value place others all (inr (inr link)) = absurd (other_text (codes "--store") (codes "--link") refl link.name_is)

store_alone : (value : List ℕ) (place : ℕ) (others : Options) (found : Option Options) → Reads (AddsStore (codes "--store") value others) found → Reads (AddsOption (codes "--store") value place others) found
store_alone value place others (Some all) read = record { so = inl read.so; only = λ other added. read.only other (store_of value place others other added) }
store_alone value place others None none = λ other added. none other (store_of value place others other added)

pub store_read : (name value : List ℕ) (place : ℕ) (others : Options) (found : Option Options) → name ≡ codes "--store" → Reads (AddsStore (codes "--store") value others) found → Reads (AddsOption name value place others) found
store_read name value place others found is read = subst (λ (word : List ℕ). Reads (AddsOption word value place others) found) (sym is) (store_alone value place others found read)

-- ---- all of them

pub options_read : (before : ℕ) (name value : List ℕ) (words : List (List ℕ)) (others : Options) (found : Option Options) → IsOnly (AreOptions (before + 2) words) others → Reads (AddsOption name value (before + 1) others) found
    → Reads (AreOptions before (name ∷ value ∷ words)) found
options_read before name value words others (Some all) o a = record {
  so = (others, o.so, a.so);
  only = λ other r. a.only other (subst (λ (those : Options). AddsOption name value (before + 1) those other) (o.only r.0 r.1) r.2);
}
options_read before name value words others None o none = λ other r. none other (subst (λ (those : Options). AddsOption name value (before + 1) those other) (o.only r.0 r.1) r.2)

pub behind_unread : {A : Type 0} (f : A → List ℕ) (before : ℕ) (words : List A) → 2 ≤ length words → ((others : Options) → AreOptions (before + 2) (map f (take (length words - 2) (drop 2 words))) others → ⊥)
    → (all : Options) → AreOptions before (map f words) all → ⊥
behind_unread f before [] some none all is = omega arith
behind_unread f before (name ∷ []) some none all is = omega arith
behind_unread {A} f before (name ∷ value ∷ words) some none all is =
    let same : take (length (name ∷ value ∷ words) - 2) words ≡ words = take_all _ _ (omega arith) in
    none is.0 (subst (λ (behind : List A). AreOptions (before + 2) (map f behind) is.0) (sym same) is.1)

pub none_read : {A : Type 0} (f : A → List ℕ) (before : ℕ) (words : List A) → length words < 1 → IsOnly (AreOptions before (map f words)) without_options
none_read f before [] few = record { so = refl; only = λ other is. is }
none_read f before (word ∷ more) few = let none : ⊥ = omega arith in absurd none

pub one_unread : {A : Type 0} (f : A → List ℕ) (before : ℕ) (words : List A) → 1 ≤ length words → length words < 2 → (all : Options) → AreOptions before (map f words) all → ⊥
one_unread f before [] some few all is = omega arith
one_unread f before (word ∷ []) some few all is = is
one_unread f before (word ∷ next ∷ more) some few all is = omega arith

-- ---- how many

abbrev is_set : {A : Type 0} → Option A → ℕ
is_set None = 0
is_set (Some value) = 1

abbrev is_linked : Transport → ℕ
is_linked Direct = 0
is_linked T0 = 1

-- how many options are named
abbrev count : Options → ℕ
count options = is_set options.pages + is_set options.image + is_linked options.transport

set_once : {A : Type 0} (value : Option A) → is_set value ≤ 1
set_once None = omega arith
set_once (Some value) = omega arith

linked_once : (transport : Transport) → is_linked transport ≤ 1
linked_once Direct = omega arith
linked_once T0 = omega arith

one_more : (name value : List ℕ) (place : ℕ) (others all : Options) → AddsOption name value place others all → count all ≡ count others + 1
one_more name value place others all (inl store) = ap count store.all_are ∙ (let none : is_set others.pages ≡ 0 = ap is_set store.once in omega (arith, none))
one_more name value place others all (inr (inl image)) = ap count image.all_are ∙ (let none : is_set others.image ≡ 0 = ap is_set image.once in omega (arith, none))
one_more name value place others all (inr (inr link)) = ap count link.all_are ∙ (let none : is_linked others.transport ≡ 0 = ap is_linked link.once in omega (arith, none))

two_each : (before : ℕ) (words : List (List ℕ)) (all : Options) → AreOptions before words all → length words ≡ 2 * count all
two_each before [] all is = let none : count all ≡ 0 = ap count is in omega (arith, none)
two_each before (name ∷ []) all is = absurd is
two_each before (name ∷ value ∷ words) all is =
    let behind = two_each (before + 2) words is.0 is.1 in
    let more = one_more name value (before + 1) is.0 all is.2 in omega (arith, behind, more)

pub few_options : {A : Type 0} (f : A → List ℕ) (before : ℕ) (words : List A) → 6 < length words → (all : Options) → AreOptions before (map f words) all → ⊥
few_options f before words many all is =
    let two = two_each before (map f words) all is in
    let same : length (map f words) ≡ length words = length-map words f in
    let three : count all ≤ 3 = omega (arith, set_once all.pages, set_once all.image, linked_once all.transport) in omega (arith, two, same, three, many)

-- ---- what they choose

pub chosen_read : (before : ℕ) (words : List (List ℕ)) (options : Options) → options.transport ≡ Direct → IsOnly (AreOptions before words) options → IsOnly (AreChosen before words Direct) (devices_of options)
chosen_read before words options direct o = record {
  so = record { options = options; named = o.so; transport_is = direct; devices_are = refl };
  only = λ other chosen. chosen.devices_are ∙ ap devices_of (o.only chosen.options chosen.named);
}

pub linked_unread : (before : ℕ) (words : List (List ℕ)) (options : Options) → options.transport ≡ T0 → IsOnly (AreOptions before words) options → (devices : Devices) → AreChosen before words Direct devices → ⊥
linked_unread before words options linked o devices chosen =
    let same : T0 ≡ Direct = sym linked ∙ sym (ap (λ (named : Options). named.transport) (o.only chosen.options chosen.named)) ∙ chosen.transport_is in cc

pub unread_chosen : (before : ℕ) (words : List (List ℕ)) → ((options : Options) → AreOptions before words options → ⊥) → (devices : Devices) → AreChosen before words Direct devices → ⊥
unread_chosen before words none devices chosen = none chosen.options chosen.named
