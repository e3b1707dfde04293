-- The items read so far, joined with those that are left.
use Rattle.std.proofs.Common.{◌≡◌, ℕ, ◌<◌, ◌≤◌, List, [], ◌∷◌, ◌++◌, length, Result, Ok, Err, refl, sym, ap, ◌∙◌, append_assoc, arith, inl, inr, ◌⊎◌, length-append}
use Rattle.std.proofs.lemmas.Bool.{cases_lt, le-leb, lt-leb, eq-eqb}
use Rattle.comprehension_tlv.specs.Model.{Object}
use Rattle.comprehension_tlv.specs.Reading.{Outline, begun}
use Rattle.toolkit_commands.specs.declared.items.Item.{Item}
use Rattle.toolkit_commands.specs.declared.faults.ProactiveFault.{ProactiveFault}
use Rattle.toolkit_commands.specs.declared.faults.ProactiveFault.TheVariants.{BadData}
use Rattle.toolkit_commands.specs.Values.{◌>>=◌, item_read, items_of, at_most_16, values}

abbrev pub with_front : List Item → Result (List Item) ProactiveFault → Result (List Item) ProactiveFault
with_front front read = read >>= λ others. at_most_16 (front ++ others)

-- one more item
with_item : (front : List Item) (item : Item) (read : Result (List Item) ProactiveFault) → with_front (front ++ item ∷ []) read ≡ with_front front (read >>= λ items. Ok (item ∷ items))
with_item front item (Ok others) = ap at_most_16 (append_assoc front (item ∷ []) others)
with_item front item (Err fault) = refl

pub with_next : (front : List Item) (item : Item) (value : List ℕ) (others : List (List ℕ)) → item_read value ≡ Ok item → with_front front (items_of (value ∷ others)) ≡ with_front (front ++ item ∷ []) (items_of others)
with_next front item value others e =
    ap (λ (r : Result Item ProactiveFault). with_front front (r >>= λ first. items_of others >>= λ items. Ok (first ∷ items))) e ∙ sym (with_item front item (items_of others))

-- ---- too many items

item_fault : (value : List ℕ) (fault : ProactiveFault) → item_read value ≡ Err fault → fault ≡ BadData
item_fault [] fault e = cc
item_fault (id ∷ text) fault e =
    elim (cases_lt 10 (length text)) [
      | inl long ↦ let t = lt-leb (length text) 10 long in cc
      | inr short ↦ let t = le-leb (length text) 10 short in cc
    ]

-- ---- the only fault of items is BadData

either : {A : Type 0} (r : Result A ProactiveFault) → ((x : A) × (r ≡ Ok x)) ⊎ ((fault : ProactiveFault) × (r ≡ Err fault))
either (Ok x) = inl (x, refl)
either (Err fault) = inr (fault, refl)

items_fault : (found : List (List ℕ)) (fault : ProactiveFault) → items_of found ≡ Err fault → fault ≡ BadData
items_fault [] fault e = cc
items_fault (value ∷ others) fault e =
    elim (either (item_read value)) [
      | inr bad ↦
          let same : items_of (value ∷ others) ≡ Err bad.0 = ap (λ (r : Result Item ProactiveFault). r >>= λ first. items_of others >>= λ items. Ok (first ∷ items)) bad.1 in
          let is = item_fault value bad.0 bad.1 in
          cc
      | inl good ↦
          let after : items_of (value ∷ others) ≡ (items_of others >>= λ items. Ok (good.0 ∷ items)) = ap (λ (r : Result Item ProactiveFault). r >>= λ first. items_of others >>= λ items. Ok (first ∷ items)) good.1 in
          elim (either (items_of others)) [
            | inr bad ↦
                let same = ap (λ (r : Result (List Item) ProactiveFault). r >>= λ items. Ok (good.0 ∷ items)) bad.1 in
                let is = items_fault others bad.0 bad.1 in
                let all : items_of (value ∷ others) ≡ Err bad.0 = after ∙ same in
                cc
            | inl fine ↦
                let same = ap (λ (r : Result (List Item) ProactiveFault). r >>= λ items. Ok (good.0 ∷ items)) fine.1 in
                let all : items_of (value ∷ others) ≡ Ok (good.0 ∷ fine.0) = after ∙ same in
                cc
          ]
    ]

full_at : (front others : List Item) → 16 < length (front ++ others) → at_most_16 (front ++ others) ≡ Err BadData
full_at front others long = rw (lt-leb (length (front ++ others)) 16 long) refl

pub too_many : (front : List Item) (item : Item) (value : List ℕ) (others : List (List ℕ)) → 16 ≤ length front → item_read value ≡ Ok item → with_front front (items_of (value ∷ others)) ≡ Err BadData
too_many front item value others long e =
    with_next front item value others e ∙
    (elim (either (items_of others)) [
      | inr bad ↦
          let is = items_fault others bad.0 bad.1 in
          let same : with_front (front ++ item ∷ []) (items_of others) ≡ Err bad.0 = ap (with_front (front ++ item ∷ [])) bad.1 in
          same ∙ ap (λ (f : ProactiveFault). Err f) is
      | inl fine ↦
          ap (with_front (front ++ item ∷ [])) fine.1 ∙ full_at (front ++ item ∷ []) fine.0 (omega (arith, length-append (front ++ item ∷ []) fine.0, length-append front (item ∷ [])))
    ])

pub next_value : (left next : Outline) (object : Object) → left ≡ begun object next → object.tag ≡ 15 → values 15 left.objects ≡ object.value ∷ values 15 next.objects
next_value left next object e tag =
    ap (λ (o : Outline). values 15 o.objects) e ∙ (rw (eq-eqb object.tag 15 tag) refl)
