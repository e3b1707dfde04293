-- The word of an access rule: what stands before its colon, and what after it.
use Rattle.std.proofs.Common.{◌≡◌, ℕ, ◌+◌, ◌<◌, ◌≤◌, List, [], ◌∷◌, ◌++◌, length, take, get_or, Option, Some, None, refl, sym, ap, ◌∙◌, arith, codes}
use Rattle.std.proofs.lemmas.List.{append_cancel_left, length-append, take_at}
use Rattle.hex.proofs.HexLemmas.{decode_of-ok}
use Rattle.uicc_types.specs.declared.identifiers.FileId.{FileId}
use Rattle.script_form.specs.Reads.{IsOnly}
use Rattle.script_form.specs.Values.{IsNamedRule, IsRule, identifier_bytes}

-- a word is parted in one way after its fourth byte
pub same_parts : (word front back file number : List ℕ) (first : ℕ) → word ≡ front ++ first ∷ back → word ≡ file ++ 58 ∷ number → length front ≡ 4 → length file ≡ 4
    → (front ≡ file) × (first ≡ 58) × (back ≡ number)
same_parts word front back file number first one other four four_too =
    let fronts : front ≡ file = sym (take_at front (first ∷ back) 4 four) ∙ ap (take 4) (sym one ∙ other) ∙ take_at file (58 ∷ number) 4 four_too in
    let behind : first ∷ back ≡ 58 ∷ number = append_cancel_left file (first ∷ back) (58 ∷ number) (ap (λ (f : List ℕ). f ++ first ∷ back) (sym fronts) ∙ sym one ∙ other) in
    (fronts, cc, cc)

-- four digits are before the colon
pub four_before : (word : List ℕ) (rule : FileId × ℕ) (n : IsNamedRule word rule) → length n.file ≡ 4
four_before word rule n = (decode_of-ok n.file (identifier_bytes rule.0) n.file_is.digits).2

-- so a dash names no rule
no_rule : (rule : Option (FileId × ℕ)) → IsRule (codes "-") rule → rule ≡ None
no_rule None r = refl
no_rule (Some rule) r =
    let long : length (codes "-") ≡ length r.file + length (58 ∷ r.number) = ap length r.parted ∙ length-append r.file (58 ∷ r.number) in
    absurd (omega (arith, four_before (codes "-") rule r))

pub dash_rule : (word : List ℕ) → 1 ≤ length word → length word < 2 → get_or word 0 0 ≡ 45 → IsOnly (IsRule word) None
dash_rule [] some few first = absurd (omega (arith, some))
dash_rule (byte ∷ []) some few first =
    let dash : byte ≡ 45 = first in
    rw dash (let only : IsOnly (IsRule (codes "-")) None = record { so = refl; only = no_rule } in only)
dash_rule (byte ∷ next ∷ others) some few first = absurd (omega (arith, few))

-- both parts of a rule
pub same_rule : (p q : FileId × ℕ) → p.0 ≡ q.0 → p.1 ≡ q.1 → p ≡ q
same_rule p q first second =
    ap (λ (file : FileId). let rule : FileId × ℕ = (file, p.1) in rule) first ∙ ap (λ (number : ℕ). let rule : FileId × ℕ = (q.0, number) in rule) second
