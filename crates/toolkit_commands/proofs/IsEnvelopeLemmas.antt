-- Envelopes: reading is exactly the table.
use Rattle.std.proofs.Common.{◌≡◌, ℕ, ◌≤◌, cond, ◌&&◌, eqb, leb, List, [], ◌∷◌, length, Option, Some, None, Result, Ok, Err, refl, sym, ap, subst, ◌∙◌, arith, inl, inr}
use Rattle.std.proofs.lemmas.Bool.{eqb-true, leb-true, le-leb, and_parts}
use Rattle.std.proofs.lemmas.Option.{same_Some}
use Rattle.list_laws.proofs.CondLemmas.{chosen}
use Rattle.comprehension_tlv.specs.declared.faults.TlvFault.{TlvFault}
use Rattle.comprehension_tlv.specs.Model.{Object}
use Rattle.comprehension_tlv.specs.Reading.{◌>>=◌ as ◌>>='◌, outline, flaw, unless_fault, objects_of, first_value, template_of}
use Rattle.comprehension_tlv.proofs.IsBytesLemmas.{IsBytes, IsBytes-append_right}
use Rattle.comprehension_tlv.proofs.ReadingLemmas.{template_found, template_again, objects_found, objects_again}
use Rattle.toolkit_commands.specs.declared.envelopes.Envelope.{Envelope}
use Rattle.toolkit_commands.specs.declared.envelopes.Envelope.TheVariants.{Menu, CallControl, Event, Timer}
use Rattle.toolkit_commands.specs.Envelopes.{◌>>=◌, present, value_in, only_byte, byte_in, not_empty, timer_number, envelope_in, in_template, envelope_of}
use Rattle.toolkit_commands.specs.Matching.{HasRow, IsEnvelope}

-- ---- what is in the table is read

module _ (content : List ℕ) (list : List Object) (whole : objects_of content ≡ Ok list) where
  value_again : (tag : ℕ) (value : List ℕ) → first_value tag list ≡ Some value → value_in tag content ≡ Some value
  unfolding value_in
  value_again tag value e = rw (whole, e) refl

  envelope_again : (envelope : Envelope) (template : ℕ) → HasRow envelope template content list → envelope_in template content ≡ Some envelope
  unfolding envelope_in
  envelope_again (Menu item) template h = rw (h.0, value_again 0x10 (item ∷ []) h.1) refl
  envelope_again (CallControl []) template h = absurd (omega (arith, h.2))
  envelope_again (CallControl (first ∷ others)) template h = rw (h.0, value_again 0x06 (first ∷ others) h.1) refl
  envelope_again (Event code body) template h = rw (h.0, value_again 0x19 (code ∷ []) h.1, h.2) refl
  envelope_again (Timer timer) template h = rw (h.0, value_again 0x24 (timer ∷ []) h.1, le-leb 1 timer h.2, le-leb timer 8 h.3) refl

pub envelope_is_read : (bytes : List ℕ) (envelope : Envelope) → IsEnvelope bytes envelope → envelope_of bytes ≡ Some envelope
unfolding envelope_of
envelope_is_read bytes envelope h =
    rw (template_again bytes h.template h.content h.form) (envelope_again h.content h.list (objects_again h.content h.list h.spelled) envelope h.template h.row)

-- ---- what is read is in the table

then_some : {A B : Type 0} (o : Option A) (f : A → Option B) (y : B) → (o >>= f) ≡ Some y → (x : A) × (o ≡ Some x) × (f x ≡ Some y)
then_some None f y e = absurd cc
then_some (Some x) f y e = (x, refl, e)

only_byte_is : (value : List ℕ) (n : ℕ) → only_byte value ≡ Some n → value ≡ n ∷ []
only_byte_is [] n e = absurd cc
only_byte_is (m ∷ []) n e = ap (λ (k : ℕ). k ∷ []) (same_Some m n e)
only_byte_is (m ∷ k ∷ others) n e = absurd cc

not_empty_is : (value found : List ℕ) → not_empty value ≡ Some found → (value ≡ found) × (1 ≤ length found)
not_empty_is [] found e = absurd cc
not_empty_is (first ∷ others) found e = let same = same_Some (first ∷ others) found e in (same, rw (← same) (omega arith))

timer_is : (n timer : ℕ) → timer_number n ≡ Some timer → (n ≡ timer) × (1 ≤ n) × (n ≤ 8)
timer_is n timer e =
    elim (chosen (leb 1 n && leb n 8) (Some n) None (Some timer) e) [
      | inl here ↦ let both = and_parts (leb 1 n) (leb n 8) here.0 in (same_Some n timer here.1, leb-true 1 n both.0, leb-true n 8 both.1)
      | inr past ↦ absurd (let f = past.1 in cc)
    ]

present_is : (tag : ℕ) (found : List Object) (fault : Option TlvFault) (value : List ℕ) → present (unless_fault found fault >>=' λ objects. Ok (first_value tag objects)) ≡ Some value → (unless_fault found fault ≡ Ok found) × (first_value tag found ≡ Some value)
present_is tag found None value e = (refl, e)
present_is tag found (Some f) value e = absurd cc

-- a list, and the value of its first object with the tag
abbrev HasValue : List ℕ → ℕ → List ℕ → Type 0
HasValue content tag value = (objects_of content ≡ Ok (outline content).objects) × (first_value tag (outline content).objects ≡ Some value)

value_is : (tag : ℕ) (content value : List ℕ) → value_in tag content ≡ Some value → HasValue content tag value
unfolding value_in
value_is tag content value e = present_is tag (outline content).objects (flaw content) value e

byte_is : (tag : ℕ) (content : List ℕ) (n : ℕ) → byte_in tag content ≡ Some n → HasValue content tag (n ∷ [])
byte_is tag content n e =
    let b = then_some (value_in tag content) only_byte n e in
    let v = value_is tag content b.0 b.1 in
    (v.0, v.1 ∙ ap (λ (x : List ℕ). Some x) (only_byte_is b.0 n b.2))

-- a list of objects, with what the envelope's row has
abbrev Reports : List ℕ → ℕ → Envelope → Type 0
Reports content template envelope = (objects_of content ≡ Ok (outline content).objects) × HasRow envelope template content (outline content).objects

menu_is : (content : List ℕ) (envelope : Envelope) → (byte_in 0x10 content >>= λ item. Some (Menu item)) ≡ Some envelope → Reports content 0xD3 envelope
menu_is content envelope e =
    let b = then_some (byte_in 0x10 content) (λ item. Some (Menu item)) envelope e in
    let v = byte_is 0x10 content b.0 b.1 in
    subst (Reports content 0xD3) (same_Some (Menu b.0) envelope b.2) (v.0, (refl, v.1))

call_is : (content : List ℕ) (envelope : Envelope) → (value_in 0x06 content >>= not_empty >>= λ address. Some (CallControl address)) ≡ Some envelope → Reports content 0xD4 envelope
call_is content envelope e =
    let a = then_some (value_in 0x06 content >>= not_empty) (λ address. Some (CallControl address)) envelope e in
    let b = then_some (value_in 0x06 content) not_empty a.0 a.1 in
    let v = value_is 0x06 content b.0 b.1 in
    let n = not_empty_is b.0 a.0 b.2 in
    subst (Reports content 0xD4) (same_Some (CallControl a.0) envelope a.2) (v.0, (refl, v.1 ∙ ap (λ (x : List ℕ). Some x) n.0, n.1))

event_is : (content : List ℕ) (envelope : Envelope) → (byte_in 0x19 content >>= λ code. Some (Event code content)) ≡ Some envelope → Reports content 0xD6 envelope
event_is content envelope e =
    let b = then_some (byte_in 0x19 content) (λ code. Some (Event code content)) envelope e in
    let v = byte_is 0x19 content b.0 b.1 in
    subst (Reports content 0xD6) (same_Some (Event b.0 content) envelope b.2) (v.0, (refl, v.1, refl))

expiry_is : (content : List ℕ) (envelope : Envelope) → (byte_in 0x24 content >>= timer_number >>= λ timer. Some (Timer timer)) ≡ Some envelope → Reports content 0xD7 envelope
expiry_is content envelope e =
    let a = then_some (byte_in 0x24 content >>= timer_number) (λ timer. Some (Timer timer)) envelope e in
    let b = then_some (byte_in 0x24 content) timer_number a.0 a.1 in
    let t = timer_is b.0 a.0 b.2 in
    let v = byte_is 0x24 content b.0 b.1 in
    subst (Reports content 0xD7) (ap (λ (k : ℕ). Timer k) t.0 ∙ same_Some (Timer a.0) envelope a.2) (v.0, (refl, v.1, t.1, t.2))

row_or : (content : List ℕ) (known template : ℕ) (here later : Option Envelope) (envelope : Envelope) → (here ≡ Some envelope → Reports content known envelope) → (later ≡ Some envelope → Reports content template envelope) → cond (eqb template known) here later ≡ Some envelope → Reports content template envelope
row_or content known template here later envelope at_here at_later e =
    elim (chosen (eqb template known) here later (Some envelope) e) [
      | inl this ↦ subst (λ (k : ℕ). Reports content k envelope) (sym (eqb-true template known this.0)) (at_here this.1)
      | inr past ↦ at_later past.1
    ]

reported : (content : List ℕ) (template : ℕ) (envelope : Envelope) → envelope_in template content ≡ Some envelope → Reports content template envelope
unfolding envelope_in
reported content template envelope e =
    let call : Option Envelope = value_in 0x06 content >>= not_empty >>= λ address. Some (CallControl address) in
    let event : Option Envelope = byte_in 0x19 content >>= λ code. Some (Event code content) in
    let expiry : Option Envelope = byte_in 0x24 content >>= timer_number >>= λ timer. Some (Timer timer) in
    let r4 : Option Envelope = cond (eqb template 0xD7) expiry None in
    let r3 : Option Envelope = cond (eqb template 0xD6) event r4 in
    let r2 : Option Envelope = cond (eqb template 0xD4) call r3 in
    let s4 : r4 ≡ Some envelope → Reports content template envelope = row_or content 0xD7 template expiry None envelope (expiry_is content envelope) (λ f. absurd cc) in
    let s3 : r3 ≡ Some envelope → Reports content template envelope = row_or content 0xD6 template event r4 envelope (event_is content envelope) s4 in
    let s2 : r2 ≡ Some envelope → Reports content template envelope = row_or content 0xD4 template call r3 envelope (call_is content envelope) s3 in
    row_or content 0xD3 template (byte_in 0x10 content >>= λ item. Some (Menu item)) r2 envelope (menu_is content envelope) s2 e

in_template_is : (read : Result (ℕ × List ℕ) TlvFault) (envelope : Envelope) → in_template read ≡ Some envelope → (x : ℕ × List ℕ) × (read ≡ Ok x) × (envelope_in x.0 x.1 ≡ Some envelope)
in_template_is (Ok x) envelope e = (x, refl, e)
in_template_is (Err fault) envelope e = absurd cc

pub read_is_envelope : (bytes : List ℕ) (envelope : Envelope) → IsBytes bytes → envelope_of bytes ≡ Some envelope → IsEnvelope bytes envelope
unfolding envelope_of
read_is_envelope bytes envelope fits e =
    let t = in_template_is (template_of bytes) envelope e in
    let form = template_found bytes t.0.0 t.0.1 t.1 in
    let r = reported t.0.1 t.0.0 envelope t.2 in
    let content_fits : IsBytes t.0.1 = IsBytes-append_right (t.0.0 ∷ form.length_bytes) t.0.1 (subst IsBytes form.whole fits) in
    record {
      template = t.0.0;
      content = t.0.1;
      list = (outline t.0.1).objects;
      form = form;
      spelled = objects_found t.0.1 (outline t.0.1).objects content_fits r.0;
      row = r.1;
    }
