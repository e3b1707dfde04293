-- What the words of a command and its options ask for.
use Rattle.std.proofs.Common.{◌≡◌, ℕ, List, [], ◌∷◌, refl, sym, ap, ◌∙◌, subst, codes, Option, Some, None, option_map}
use Rattle.std.specs.Cmp.Lexicographic.{other_text}
use Rattle.script_form.specs.Reads.{IsOnly, Reads}
use Rattle.script_form.specs.Values.{IsNumber}
use Rattle.command_line.specs.Model.{AreChosen, IsBipWord, IsCommand, IsLoadWord, IsNamed, IsNamedWith, IsRequest, length_of, transport_of}
use Rattle.command_line.specs.OptionForms.{AreOptions, devices_of}
use Rattle.command_line.specs.declared.options.Options.{Options}
use Rattle.command_line.specs.declared.requests.Devices.{Devices}
use Rattle.command_line.specs.declared.requests.Mode.{Mode}
use Rattle.command_line.specs.declared.requests.Mode.TheVariants.{Play, Open, Phone, Load, Bip}
use Rattle.command_line.specs.declared.requests.Request.{Request}
use Rattle.command_line.specs.declared.requests.TheConstants.{MOST_LINES}
use Rattle.command_line.specs.declared.requests.Transport.TheVariants.{Direct}

-- a request of this command and these options
abbrev Asks : List (List ℕ) → List (List ℕ) → Mode → Devices → Type 0
Asks words options mode devices = IsCommand words options mode × AreChosen (length_of mode) options (transport_of mode) devices

same_request : (asked : Request) (mode : Mode) (devices : Devices) → asked.mode ≡ mode → asked.devices ≡ devices → asked ≡ record { mode = mode; devices = devices }
same_request asked mode devices m d = rw (sym m, sym d) refl

-- ---- a command of one word

named_asks : (first : List ℕ) (options : List (List ℕ)) (mode : Mode) (devices : Devices) → IsNamed first mode → AreChosen 1 options (transport_of mode) devices → Asks (first ∷ options) options mode devices
named_asks first options Play devices n o = (record { name = first; begins = refl; named = n }, o)
named_asks first options Open devices n o = (record { name = first; begins = refl; named = n }, o)
named_asks first options (Phone transport) devices n o = (record { name = first; begins = refl; named = n }, o)
named_asks first options (Load start count) devices n o = absurd n
named_asks first options Bip devices n o = absurd n

-- the words name that command
pub record Names (first : List ℕ) (options : List (List ℕ)) (mode : Mode) (devices : Devices) : Type 0 where
  pub named : IsNamed first mode
  pub chosen : AreChosen 1 options (transport_of mode) devices

names_with : (first name : List ℕ) (options others : List (List ℕ)) (mode : Mode) (devices : Devices) → first ∷ options ≡ name ∷ others → IsNamed name mode → AreChosen 1 others (transport_of mode) devices → Names first options mode devices
names_with first name options others mode devices parted n o =
    let first_is : first ≡ name = cc in
    let others_are : options ≡ others = cc in
    record { named = subst (λ (w : List ℕ). IsNamed w mode) (sym first_is) n; chosen = subst (λ (l : List (List ℕ)). AreChosen 1 l (transport_of mode) devices) (sym others_are) o }

names : (first : List ℕ) (options others : List (List ℕ)) (mode : Mode) (devices : Devices) → (IsLoadWord first → ⊥) → (IsBipWord first → ⊥) → Asks (first ∷ options) others mode devices → Names first options mode devices
names first options others Play devices no_load no_bip a = names_with first a.0.name options others Play devices a.0.begins a.0.named a.1
names first options others Open devices no_load no_bip a = names_with first a.0.name options others Open devices a.0.begins a.0.named a.1
names first options others (Phone transport) devices no_load no_bip a = names_with first a.0.name options others (Phone transport) devices a.0.begins a.0.named a.1
names first options others (Load start count) devices no_load no_bip a = absurd (no_load (let begins = a.0.begins in cc))
names first options others Bip devices no_load no_bip a = absurd (no_bip (let alone = a.0.alone in cc))

pub named_names : (first : List ℕ) (options : List (List ℕ)) (asked : Request) → (IsLoadWord first → ⊥) → (IsBipWord first → ⊥) → IsRequest (first ∷ options) asked → Names first options asked.mode asked.devices
named_names first options asked no_load no_bip r = names first options r.options asked.mode asked.devices no_load no_bip (r.begins, r.goes_on)

pub named_request : (first : List ℕ) (words : List (List ℕ)) (mode : Mode) (options : Options) → (IsLoadWord first → ⊥) → (IsBipWord first → ⊥) → IsOnly (AreOptions 1 words) options → IsOnly (IsNamedWith first options.transport) mode
    → IsOnly (IsRequest (first ∷ words)) (record { mode = mode; devices = devices_of options })
named_request first words mode options no_load no_bip o n =
    let chosen : AreChosen 1 words (transport_of mode) (devices_of options) = record { options = options; named = o.so; transport_is = sym n.so.1; devices_are = refl } in
    let asks = named_asks first words mode (devices_of options) n.so.0 chosen in
    record {
      so = record { options = words; begins = asks.0; goes_on = asks.1 };
      only = λ other r.
          let named = named_names first words other no_load no_bip r in
          let same = o.only named.chosen.options named.chosen.named in
          same_request other mode (devices_of options) (n.only other.mode (named.named, sym named.chosen.transport_is ∙ ap (λ (o : Options). o.transport) same)) (named.chosen.devices_are ∙ ap devices_of same);
    }

pub no_options : (first : List ℕ) (words : List (List ℕ)) → (IsLoadWord first → ⊥) → (IsBipWord first → ⊥) → ((options : Options) → AreOptions 1 words options → ⊥) → (asked : Request) → IsRequest (first ∷ words) asked → ⊥
no_options first words no_load no_bip none asked r = let named = named_names first words asked no_load no_bip r in none named.chosen.options named.chosen.named

pub no_mode : (first : List ℕ) (words : List (List ℕ)) (options : Options) → (IsLoadWord first → ⊥) → (IsBipWord first → ⊥) → IsOnly (AreOptions 1 words) options → ((mode : Mode) → IsNamedWith first options.transport mode → ⊥)
    → (asked : Request) → IsRequest (first ∷ words) asked → ⊥
no_mode first words options no_load no_bip o none asked r =
    let named = named_names first words asked no_load no_bip r in
    none asked.mode (named.named, sym named.chosen.transport_is ∙ ap (λ (o : Options). o.transport) (o.only named.chosen.options named.chosen.named))

-- ---- `load`

-- the words after `load` are these two numbers and these options
pub record Loads (first second : List ℕ) (options : List (List ℕ)) (start count : ℕ) (devices : Devices) : Type 0 where
  pub start_is : IsNumber 0 999999999 first start
  pub count_is : IsNumber 0 MOST_LINES second count
  pub chosen : AreChosen 3 options Direct devices

-- a request of `load`
pub record IsLoadOf (first second : List ℕ) (options : List (List ℕ)) (asked : Request) : Type 0 where
  pub start : ℕ
  pub count : ℕ
  pub mode_is : asked.mode ≡ Load start count
  pub loads : Loads first second options start count asked.devices

abbrev load_words : List ℕ → List ℕ → List (List ℕ) → List (List ℕ)
load_words first second options = codes "load" ∷ first ∷ second ∷ options

named_apart : (name : List ℕ) (others : List (List ℕ)) (first second : List ℕ) (options : List (List ℕ)) (mode : Mode) → load_words first second options ≡ name ∷ others → IsNamed name mode → ⊥
named_apart name others first second options Play parted n = other_text (codes "load") (codes "play") refl (cc)
named_apart name others first second options Open parted n = other_text (codes "load") (codes "open") refl (cc)
named_apart name others first second options (Phone transport) parted n = other_text (codes "load") (codes "phone") refl (cc)
named_apart name others first second options (Load start count) parted n = n
named_apart name others first second options Bip parted n = n

load_apart : (first second : List ℕ) (options : List (List ℕ)) → load_words first second options ≡ codes "bip" ∷ [] → ⊥
load_apart first second options parted = other_text (codes "load") (codes "bip") refl (cc)

loads_by : (first second : List ℕ) (options others : List (List ℕ)) (mode : Mode) (devices : Devices) → Asks (load_words first second options) others mode devices
    → (start : ℕ) × (count : ℕ) × (mode ≡ Load start count) × Loads first second options start count devices
loads_by first second options others Play devices a = absurd (named_apart a.0.name others first second options Play a.0.begins a.0.named)
loads_by first second options others Open devices a = absurd (named_apart a.0.name others first second options Open a.0.begins a.0.named)
loads_by first second options others (Phone transport) devices a = absurd (named_apart a.0.name others first second options (Phone transport) a.0.begins a.0.named)
loads_by first second options others Bip devices a = absurd (load_apart first second options a.0.alone)
loads_by first second options others (Load start count) devices a =
    let begins = a.0.begins in
    let first_is : a.0.first ≡ first = cc in
    let second_is : a.0.second ≡ second = cc in
    let others_are : others ≡ options = cc in (
      start,
      count,
      refl,
      record {
        start_is = subst (λ (w : List ℕ). IsNumber 0 999999999 w start) first_is a.0.start_is;
        count_is = subst (λ (w : List ℕ). IsNumber 0 MOST_LINES w count) second_is a.0.count_is;
        chosen = subst (λ (l : List (List ℕ)). AreChosen 3 l Direct devices) others_are a.1;
      },
    )

pub load_is : (first second : List ℕ) (options : List (List ℕ)) (asked : Request) → IsRequest (load_words first second options) asked → IsLoadOf first second options asked
load_is first second options asked r =
    let l = loads_by first second options r.options asked.mode asked.devices (r.begins, r.goes_on) in
    record { start = l.0; count = l.1; mode_is = l.2; loads = l.3 }

pub load_request : (first second : List ℕ) (options : List (List ℕ)) (start count : ℕ) (devices : Devices)
    → IsOnly (IsNumber 0 999999999 first) start → IsOnly (IsNumber 0 MOST_LINES second) count → IsOnly (AreChosen 3 options Direct) devices
    → IsOnly (IsRequest (load_words first second options)) (record { mode = Load start count; devices = devices })
load_request first second options start count devices s k o = record {
  so = record { options = options; begins = record { first = first; second = second; begins = refl; start_is = s.so; count_is = k.so }; goes_on = o.so };
  only = λ other r.
      let l = load_is first second options other r in
      let start_is = s.only l.start l.loads.start_is in
      let count_is = k.only l.count l.loads.count_is in
      same_request other (Load start count) devices (l.mode_is ∙ ap (λ n. Load n l.count) start_is ∙ ap (λ n. Load start n) count_is) (o.only other.devices l.loads.chosen);
}

pub loads_only : (first second : List ℕ) (options : List (List ℕ)) (start count : ℕ) (devices : Option Devices)
    → IsOnly (IsNumber 0 999999999 first) start → IsOnly (IsNumber 0 MOST_LINES second) count → Reads (AreChosen 3 options Direct) devices
    → Reads (IsRequest (load_words first second options)) (option_map (λ made. record { mode = Load start count; devices = made }) devices)
loads_only first second options start count (Some devices) s k o = load_request first second options start count devices s k o
loads_only first second options start count None s k none = λ asked r. let l = load_is first second options asked r in none asked.devices l.loads.chosen

pub no_start : (first second : List ℕ) (options : List (List ℕ)) → ((start : ℕ) → IsNumber 0 999999999 first start → ⊥) → (asked : Request) → IsRequest (load_words first second options) asked → ⊥
no_start first second options none asked r = let l = load_is first second options asked r in none l.start l.loads.start_is

pub no_count : (first second : List ℕ) (options : List (List ℕ)) → ((count : ℕ) → IsNumber 0 MOST_LINES second count → ⊥) → (asked : Request) → IsRequest (load_words first second options) asked → ⊥
no_count first second options none asked r = let l = load_is first second options asked r in none l.count l.loads.count_is
