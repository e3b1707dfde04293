-- What has no room has none with more after it.
use Rattle.std.proofs.Common.{◌≡◌, ℕ, ◌+◌, ◌<◌, List, [], ◌∷◌, ◌++◌, length, map, take, drop, get_or, refl, sym, ap, ◌∙◌, append_assoc, append-nil, arith}
use Rattle.std.proofs.lemmas.List.{length-append, take-append-drop, drop_more, map-append}
use Rattle.comprehension_tlv.specs.Model.{Object}
use Rattle.comprehension_tlv.specs.Writing.{tagged, shortest_length, spelling, spellings}
use Rattle.toolkit_commands.specs.Table.{item_object}
use Rattle.toolkit_commands.specs.declared.items.Item.{Item}

pub length-tagged : (tag : ℕ) (value : List ℕ) → length value < length (tagged tag value)
unfolding tagged
length-tagged tag value = omega (arith, length-append (tag ∷ shortest_length (length value)) value)

pub spellings-append : (some others : List Object) → spellings (some ++ others) ≡ spellings some ++ spellings others
spellings-append [] others = refl
spellings-append (object ∷ some) others =
    ap (λ (x : List ℕ). spelling object ++ x) (spellings-append some others) ∙ sym (append_assoc (spelling object) (spellings some) (spellings others))

-- the first of the objects that are left finds no room, so all objects find none
pub no_room : (old new : List ℕ) (some others : List Object) (object : Object) → new ≡ old ++ spellings some → 255 < length (new ++ spellings (object ∷ [])) → 255 < length (old ++ spellings (some ++ object ∷ others))
no_room old new some others object is over =
    let whole : spellings (some ++ object ∷ others) ≡ spellings some ++ (spelling object ++ spellings others) = spellings-append some (object ∷ others) in
    let size : length (new ++ spellings (object ∷ [])) ≡ length old + length (spellings some) + length (spelling object) =
    rw (is, append-nil) (omega (arith, length-append (old ++ spellings some) (spelling object), length-append old (spellings some))) in
    rw whole (omega (arith, length-append old (spellings some ++ (spelling object ++ spellings others)), length-append (spellings some) (spelling object ++ spellings others), length-append (spelling object) (spellings others)))

items_around : (items : List Item) (i : ℕ) (item : Item) → i < length items → item ≡ get_or items i item → map item_object items ≡ map item_object (take i items) ++ item_object item ∷ map item_object (drop (i + 1) items)
items_around items i item lt is =
    let from_here : drop i items ≡ item ∷ drop (i + 1) items = drop_more items i item lt ∙ ap (λ (x : Item). x ∷ drop (i + 1) items) (sym is) in
    ap (map item_object) (sym (take-append-drop i items)) ∙ map-append item_object (take i items) (drop i items) ∙
    ap (λ (x : List Item). map item_object (take i items) ++ map item_object x) from_here

pub items_no_room : (old new : List ℕ) (items : List Item) (i : ℕ) (item : Item) → i < length items → item ≡ get_or items i item → new ≡ old ++ spellings (map item_object (take i items)) → 255 < length (new ++ spellings (item_object item ∷ [])) → 255 < length (old ++ spellings (map item_object items))
items_no_room old new items i item lt is now over =
    rw (items_around items i item lt is) (no_room old new (map item_object (take i items)) (map item_object (drop (i + 1) items)) (item_object item) now over)
