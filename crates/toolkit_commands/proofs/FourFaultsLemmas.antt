-- Each of the four faults is told exactly where the definitions of the faults have it.
use Rattle.std.proofs.Common.{◌≡◌, ◌≢◌, ℕ, ◌≤◌, Bool, true, false, cond, ◌||◌, ◌&&◌, eqb, List, [], ◌∷◌, length, Option, Some, None, Result, Ok, Err, refl, sym, ap, subst, ◌∙◌, arith, inl, inr, ◌⊎◌, ◌↔◌, is_none, unwrap_or, option_map, Any, IfOk}
use Rattle.std.proofs.lemmas.Bool.{eqb-true, false≢true}
use Rattle.std.proofs.lemmas.List.Folds.{Any-from_list_any, list_any-from_Any}
use Rattle.comprehension_tlv.specs.declared.faults.TlvFault.{TlvFault}
use Rattle.comprehension_tlv.specs.Model.{Object}
use Rattle.comprehension_tlv.specs.Reading.{first_value, objects_of, template_of}
use Rattle.comprehension_tlv.proofs.IsBytesLemmas.{IsBytes, IsBytes-append_right}
use Rattle.comprehension_tlv.proofs.ReadingLemmas.{objects_again, objects_found, template_again, template_found}
use Rattle.toolkit_commands.specs.declared.faults.ProactiveFault.{ProactiveFault}
use Rattle.toolkit_commands.specs.declared.faults.ProactiveFault.TheVariants.{Tlv, Missing, UnknownType, BadData}
use Rattle.toolkit_commands.specs.declared.commands.Details.{Details}
use Rattle.toolkit_commands.specs.declared.commands.Proactive.{Proactive}
use Rattle.toolkit_commands.specs.Values.{◌>>=◌, is_pair}
use Rattle.toolkit_commands.specs.Reading.{value, TypeRow, lacks_one, row_of_type, details_in, type_needs, needed_by, by_row, by_details, command_among, in_list, in_template, list_of, or_tlv, proactive_of}
use Rattle.toolkit_commands.specs.Matching.{IsCommand, IsBounded}
use Rattle.toolkit_commands.specs.Table.{details_of, spelled, IsProper}
use Rattle.toolkit_commands.specs.Faults.{HoldsList, Lacks, IsOfNoType, HasCommand}
use Rattle.toolkit_commands.proofs.ValuesLemmas.{Says}
use Rattle.toolkit_commands.proofs.IsProperLemmas.{IsFit, RowFits, rows_fit}
use Rattle.toolkit_commands.proofs.SpelledLemmas.{command_is_read, spelled_is_read}
use Rattle.toolkit_commands.proofs.IsCommandLemmas.{read_is_command}

-- ---- what reading a list comes to

-- where nothing is missing and the type is known
abbrev IsRead : Result (Details × Proactive) ProactiveFault → Type 0
IsRead read = (read ≡ Err BadData) ⊎ ((x : Details × Proactive) × (read ≡ Ok x) × IsFit x.1)

-- where nothing is missing
abbrev IsKnown : List Object → Result (Details × Proactive) ProactiveFault → Type 0
IsKnown list read =
    ((kind : ℕ) × IsOfNoType list kind × (read ≡ Err (UnknownType kind))) ⊎ (((kind : ℕ) → IsOfNoType list kind → ⊥) × IsRead read)

abbrev Outcome : List Object → Result (Details × Proactive) ProactiveFault → Type 0
Outcome list read = (Lacks list × (read ≡ Err Missing)) ⊎ ((Lacks list → ⊥) × IsKnown list read)

said_outcome : (details : Details) (said : Result Proactive ProactiveFault) → Says IsFit said → IsRead (said >>= λ command. Ok (details, command))
said_outcome details (Ok command) says = inr ((details, command), refl, says)
said_outcome details (Err fault) says = inl (ap (λ f. Err f) says)

tested_outcome : (details : Details) (known pair : Bool) (said : Result Proactive ProactiveFault) → (known ≡ true → Says IsFit said) → IsRead (cond (known && pair) (said >>= λ command. Ok (details, command)) (Err BadData))
tested_outcome details true true said says = said_outcome details said (says refl)
tested_outcome details true false said says = inl refl
tested_outcome details false pair said says = inl refl

some_row : (row : TypeRow) (found : Option TypeRow) → found ≡ Some row → found ≢ None
some_row row found e none = cc

-- the details that there are name the type of no row
of_no_type : (list : List Object) (details : Details) (kind : ℕ) → details_in list ≡ Some details → IsOfNoType list kind → (details.kind ≡ kind) × (row_of_type details.kind ≡ None)
of_no_type list details kind e h =
    let same : Some details ≡ Some h.details = sym e ∙ h.found in
    let kinds : details.kind ≡ h.details.kind = cc in
    (kinds ∙ h.named, ap row_of_type (kinds ∙ h.named) ∙ h.no_row)

row_outcome : (list : List Object) (details : Details) (row : Option TypeRow) → details_in list ≡ Some details → row_of_type details.kind ≡ row → RowFits list details.qualifier row → lacks_one list (unwrap_or (option_map (λ r. r.needs details.qualifier) row) []) ≡ false → IsKnown list (by_row details list row)
row_outcome list details None e is fits lacks =
    inl (details.kind, record { details = details; found = e; named = refl; no_row = is }, refl)
row_outcome list details (Some row) e is fits lacks =
    inr ((λ kind h. some_row row (row_of_type details.kind) is (of_no_type list details kind e h).1), tested_outcome details (row.has_qualifier details.qualifier) (is_pair (value 2 list) 129 row.destination) (row.says details.qualifier list) (fits lacks))

last_of_three : (a b c : Bool) → (a || (b || c)) ≡ false → c ≡ false
last_of_three true b c e = absurd cc
last_of_three false true c e = absurd cc
last_of_three false false c e = e

details_outcome : (list : List Object) (details : Option Details) → details_in list ≡ details → lacks_one list (needed_by details) ≡ false → IsKnown list (by_details list details)
details_outcome list None e lacks = inr ((λ kind h. let f = h.found in cc), inl refl)
details_outcome list (Some details) e lacks =
    row_outcome list details (row_of_type details.kind) e refl (rows_fit list details.kind details.qualifier) (last_of_three (is_none (first_value 1 list)) (is_none (first_value 2 list)) (lacks_one list (type_needs (Some details))) lacks)

none_is : (found : Option (List ℕ)) → is_none found ≡ true → found ≡ None
none_is None e = refl
none_is (Some v) e = absurd cc

lacks_of : (list : List Object) (tags : List ℕ) → lacks_one list tags ≡ true → Any (λ tag. first_value tag list ≡ None) tags
lacks_of list tags e =
    let a = Any-from_list_any (λ tag. is_none (first_value tag list)) tags e in
    (a.0, a.1, a.2, a.3, none_is (first_value a.1 list) a.4)

lacks_again : (list : List Object) (tags : List ℕ) → Any (λ tag. first_value tag list ≡ None) tags → lacks_one list tags ≡ true
lacks_again list tags a =
    list_any-from_Any (λ tag. is_none (first_value tag list)) tags (a.0, a.1, a.2, a.3, ap is_none a.4)

outcome_by : (list : List Object) (lacks : Bool) → lacks_one list (needed_by (details_in list)) ≡ lacks → Outcome list (cond lacks (Err Missing) (by_details list (details_in list)))
outcome_by list true e = inl (lacks_of list (needed_by (details_in list)) e, refl)
outcome_by list false e =
    inr ((λ h. false≢true (sym e ∙ lacks_again list (needed_by (details_in list)) h)), details_outcome list (details_in list) refl e)

outcome : (list : List Object) → Outcome list (command_among list)
unfolding command_among
outcome list = outcome_by list (lacks_one list (needed_by (details_in list))) refl

-- ---- from the outcome to its cause, and back

module _ (list : List Object) (read : Result (Details × Proactive) ProactiveFault) where
  not_tlv : Outcome list read → read ≢ Err Tlv
  not_tlv (inl missing) e = let f = missing.1 in cc
  not_tlv (inr (there, inl unknown)) e = let f = unknown.2 in cc
  not_tlv (inr (there, inr (known, inl bad))) e = cc
  not_tlv (inr (there, inr (known, inr good))) e = let f = good.1 in cc

  is_missing : Outcome list read → read ≡ Err Missing → Lacks list
  is_missing (inl missing) e = missing.0
  is_missing (inr (there, inl unknown)) e = absurd (let f = unknown.2 in cc)
  is_missing (inr (there, inr (known, inl bad))) e = absurd cc
  is_missing (inr (there, inr (known, inr good))) e = absurd (let f = good.1 in cc)

  missing_is : Outcome list read → Lacks list → read ≡ Err Missing
  missing_is (inl missing) h = missing.1
  missing_is (inr (there, known)) h = absurd (there h)

  is_unknown : (kind : ℕ) → Outcome list read → read ≡ Err (UnknownType kind) → (Lacks list → ⊥) × IsOfNoType list kind
  is_unknown kind (inl missing) e = absurd (let f = missing.1 in cc)
  is_unknown kind (inr (there, inl unknown)) e =
      let f = unknown.2 in
      let same : unknown.0 ≡ kind = cc in
      (there, subst (IsOfNoType list) same unknown.1)
  is_unknown kind (inr (there, inr (known, inl bad))) e = absurd cc
  is_unknown kind (inr (there, inr (known, inr good))) e = absurd (let f = good.1 in cc)

  unknown_is : (kind : ℕ) → Outcome list read → (Lacks list → ⊥) → IsOfNoType list kind → read ≡ Err (UnknownType kind)
  unknown_is kind (inl missing) there h = absurd (there missing.0)
  unknown_is kind (inr (_, inl unknown)) there h =
      let first = of_no_type list h.details unknown.0 h.found unknown.1 in
      unknown.2 ∙ ap (λ k. Err (UnknownType k)) (sym first.0 ∙ h.named)
  unknown_is kind (inr (_, inr (known, _))) there h = absurd (known kind h)

  is_bad : Outcome list read → read ≡ Err BadData → (Lacks list → ⊥) × ((kind : ℕ) → IsOfNoType list kind → ⊥)
  is_bad (inl missing) e = absurd (let f = missing.1 in cc)
  is_bad (inr (there, inl unknown)) e = absurd (let f = unknown.2 in cc)
  is_bad (inr (there, inr (known, _))) e = (there, known)

  bad_is : Outcome list read → (Lacks list → ⊥) → ((kind : ℕ) → IsOfNoType list kind → ⊥) → ((x : Details × Proactive) → read ≡ Ok x → IsFit x.1 → ⊥) → read ≡ Err BadData
  bad_is (inl missing) there known no_command = absurd (there missing.0)
  bad_is (inr (_, inl unknown)) there known no_command = absurd (known unknown.0 unknown.1)
  bad_is (inr (_, inr (_, inl bad))) there known no_command = bad
  bad_is (inr (_, inr (_, inr good))) there known no_command = absurd (no_command good.0 good.1 good.2)

  is_fit : Outcome list read → (x : Details × Proactive) → read ≡ Ok x → IsFit x.1
  is_fit (inl missing) x e = absurd (let f = missing.1 in cc)
  is_fit (inr (_, inl unknown)) x e = absurd (let f = unknown.2 in cc)
  is_fit (inr (_, inr (_, inl bad))) x e = absurd cc
  is_fit (inr (_, inr (_, inr good))) x e =
      let f = good.1 in
      let same : good.0 ≡ x = cc in
      subst (λ (y : Details × Proactive). IsFit y.1) same good.2

-- ---- the bytes

list_again : (bytes : List ℕ) (list : List Object) → HoldsList bytes list → list_of bytes ≡ Some list
unfolding list_of
list_again bytes list h =
    ap in_template (template_again bytes 0xD0 h.content h.template) ∙ ap in_list (objects_again h.content list h.spelled)

given_list : (content : List ℕ) (read : Result (List Object) TlvFault) (list : List Object) → in_list read ≡ Some list → read ≡ Ok list
given_list content (Ok found) list e = let same : found ≡ list = cc in ap (λ l. Ok l) same
given_list content (Err fault) list e = absurd cc

opened_list : (tag : ℕ) (content : List ℕ) (b : Bool) (list : List Object) → eqb tag 208 ≡ b → cond b (in_list (objects_of content)) None ≡ Some list → (tag ≡ 208) × (objects_of content ≡ Ok list)
opened_list tag content true list e is = (eqb-true tag 208 e, given_list content (objects_of content) list is)
opened_list tag content false list e is = absurd cc

given_template : (read : Result (ℕ × List ℕ) TlvFault) (list : List Object) → in_template read ≡ Some list → (content : List ℕ) × (read ≡ Ok (208, content)) × (objects_of content ≡ Ok list)
given_template (Err fault) list e = absurd cc
given_template (Ok x) list e =
    let o = opened_list x.0 x.1 (eqb x.0 208) list refl e in
    (x.1, ap (λ (n : ℕ). Ok (n, x.1)) o.0, o.1)

list_found : (bytes : List ℕ) (list : List Object) → IsBytes bytes → list_of bytes ≡ Some list → HoldsList bytes list
unfolding list_of
list_found bytes list fits e =
    let t = given_template (template_of bytes) list e in
    let template = template_found bytes 0xD0 t.0 t.1 in
    let content_fits : IsBytes t.0 = IsBytes-append_right (0xD0 ∷ template.length_bytes) t.0 (subst IsBytes template.whole fits) in
    record { content = t.0; template = template; spelled = objects_found t.0 list content_fits t.2 }

read_as : (bytes : List ℕ) (list : Option (List Object)) → list_of bytes ≡ list → proactive_of bytes ≡ or_tlv list
unfolding proactive_of
read_as bytes list e = ap or_tlv e

module _ (bytes : List ℕ) (fits : IsBytes bytes) where
  read_list : (list : List Object) → HoldsList bytes list → proactive_of bytes ≡ command_among list
  read_list list h = read_as bytes (Some list) (list_again bytes list h)

  -- a fault other than Tlv is that of the list
  list_with : (found : Option (List Object)) (read : Result (Details × Proactive) ProactiveFault) → list_of bytes ≡ found → proactive_of bytes ≡ read → read ≢ Err Tlv → (list : List Object) × HoldsList bytes list × (command_among list ≡ read)
  list_with None read e is other = absurd (other (sym is ∙ read_as bytes None e))
  list_with (Some list) read e is other = (list, list_found bytes list fits e, sym (read_as bytes (Some list) e) ∙ is)

  no_list : (found : Option (List Object)) → list_of bytes ≡ found → ((list : List Object) → HoldsList bytes list → ⊥) → proactive_of bytes ≡ Err Tlv
  no_list None e none = read_as bytes None e
  no_list (Some list) e none = absurd (none list (list_found bytes list fits e))

  has_command : (list : List Object) (x : Details × Proactive) → HoldsList bytes list → command_among list ≡ Ok x → IsFit x.1 → HasCommand list
  has_command list x h e fit =
      let is : IsCommand bytes x.1 x.0.number = (read_is_command bytes x.0 x.1 fits (read_list list h ∙ e)).0 in
      let own : HoldsList bytes is.list = record { content = is.content; template = is.template; spelled = is.spelled } in
      let same : is.list ≡ list = (let f : Some is.list ≡ Some list = sym (list_again bytes is.list own) ∙ list_again bytes list h in cc) in
      subst HasCommand same (record { command = x.1; number = x.0.number; proper = fit.0; bounded = fit.1; has = is.has })

  no_command : (list : List Object) → HoldsList bytes list → command_among list ≡ Err BadData → HasCommand list → ⊥
  no_command list h e has =
      let is : IsCommand bytes has.command has.number = record { content = h.content; list = list; template = h.template; spelled = h.spelled; has = has.has } in
      let good = command_is_read bytes has.command has.number has.proper has.bounded is in
      let bad : proactive_of bytes ≡ Err BadData = read_list list h ∙ e in
      cc

  pub tlv_exactly : (proactive_of bytes ≡ Err Tlv) ↔ ((list : List Object) → HoldsList bytes list → ⊥)
  tlv_exactly =
      (λ e list h. not_tlv list (command_among list) (outcome list) (sym (read_list list h) ∙ e), no_list (list_of bytes) refl)

  pub missing_exactly : (proactive_of bytes ≡ Err Missing) ↔ ((list : List Object) × HoldsList bytes list × Lacks list)
  missing_exactly =
      (λ e. let l = list_with (list_of bytes) (Err Missing) refl e (λ f. cc) in (l.0, l.1, is_missing l.0 (command_among l.0) (outcome l.0) l.2), λ h. read_list h.0 h.1 ∙ missing_is h.0 (command_among h.0) (outcome h.0) h.2)

  pub unknown_exactly : (kind : ℕ) → (proactive_of bytes ≡ Err (UnknownType kind)) ↔ ((list : List Object) × HoldsList bytes list × (Lacks list → ⊥) × IsOfNoType list kind)
  unknown_exactly kind =
      (λ e. let l = list_with (list_of bytes) (Err (UnknownType kind)) refl e (λ f. cc) in let u = is_unknown l.0 (command_among l.0) kind (outcome l.0) l.2 in (l.0, l.1, u.0, u.1), λ h. read_list h.0 h.1 ∙ unknown_is h.0 (command_among h.0) kind (outcome h.0) h.2 h.3)

  pub bad_exactly : (proactive_of bytes ≡ Err BadData) ↔ ((list : List Object) × HoldsList bytes list × (Lacks list → ⊥) × ((kind : ℕ) → IsOfNoType list kind → ⊥) × (HasCommand list → ⊥))
  bad_exactly =
      (λ e. let l = list_with (list_of bytes) (Err BadData) refl e (λ f. cc) in let b = is_bad l.0 (command_among l.0) (outcome l.0) l.2 in (l.0, l.1, b.0, b.1, no_command l.0 l.1 l.2), λ h. read_list h.0 h.1 ∙ bad_is h.0 (command_among h.0) (outcome h.0) h.2 h.3 (λ x e fit. h.4 (has_command h.0 x h.1 e fit)))

pub read_is_fit : (bytes : List ℕ) (details : Details) (command : Proactive) → proactive_of bytes ≡ Ok (details, command) → IsFit command
read_is_fit bytes details command e = fit_in (list_of bytes) refl
  where
    fit_in : (found : Option (List Object)) → list_of bytes ≡ found → IsFit command
    fit_in None is = absurd (let f = read_as bytes None is in cc)
    fit_in (Some list) is = is_fit list (command_among list) (outcome list) (details, command) (sym (read_as bytes (Some list) is) ∙ e)

pub result_is_bounded : (bytes : List ℕ) (read : Result (Details × Proactive) ProactiveFault) → read ≡ proactive_of bytes → IfOk read (λ x. IsBounded x.1)
result_is_bounded bytes (Ok x) e = (read_is_fit bytes x.0 x.1 (sym e)).1
result_is_bounded bytes (Err fault) e = tt

pub result_is_spelled : (bytes : List ℕ) (read : Result (Details × Proactive) ProactiveFault) → read ≡ proactive_of bytes → length bytes ≤ 256 → (command : Proactive) (number : ℕ) → IsProper command → IsBounded command → bytes ≡ spelled command number → read ≡ Ok (details_of command number, command)
result_is_spelled bytes read e short command number proper bounded is =
    let fits : length (spelled command number) ≤ 256 = omega (arith, short, ap (λ (b : List ℕ). length b) is) in
    e ∙ ap proactive_of is ∙ spelled_is_read command number proper bounded fits
