-- What the card itself sends can be sent, and a menu is compared item by item.
use Rattle.std.proofs.Common.{◌≡◌, refl, ap, ℕ, ◌≤◌, Bool, List, length, arith, lit≤, ◌==◌, ◌↔◌, All, IsTrue, count_by, filter, nat_eq, ap₂, Decides}
use Rattle.std.specs.Cmp.Lexicographic.{pointwise}
use Rattle.std.proofs.lemmas.Bool.Decides.{same_from_decides, Decides-eqb, Decides-and, Decides-like}
use Rattle.std.proofs.lemmas.Slice.Eq.{slice_eq-Decides, bytes_eq-Decides}
use Rattle.std.proofs.lemmas.List.{length-map}
use Rattle.std.proofs.lemmas.List.Elements.{All-map, All-filter}
use Rattle.std.proofs.lemmas.List.Sums.{length-filter}
use Rattle.card_state.specs.Persistent.{Registration}
use Rattle.card_state.specs.Sections.{has_text}
use Rattle.toolkit_commands.specs.declared.items.Item.{Item}
use Rattle.toolkit_commands.specs.declared.commands.Proactive.{Proactive}
use Rattle.toolkit_commands.specs.declared.commands.Proactive.TheVariants.{SetUpMenu}
use Rattle.toolkit_commands.specs.Matching.{AreBounded}
use Rattle.toolkit_commands.proofs.LengthsOfCommandsLemmas.{short_enough}
use Rattle.toolkit_model.specs.Orderly.{CanBeSent}
use Rattle.toolkit_model.specs.Registry.{item_of, menu_of}
use Rattle.toolkit_model.specs.Driving.{is_same_item, menu_title}

same_fields : (a b : Item) → (a.id ≡ b.id) × (a.text ≡ b.text) → a ≡ b
same_fields a b same = ap₂ (λ (i : ℕ) (t : List ℕ). record { id = i; text = t }) same.0 same.1

item_decides : (a b : Item) → Decides (is_same_item a b) (a ≡ b)
item_decides a b =
    Decides-like (is_same_item a b) (same_fields a b) (λ same. (ap (λ (item : Item). item.id) same, ap (λ (item : Item). item.text) same))
    (Decides-and (a.id == b.id) (pointwise nat_eq a.text b.text) (Decides-eqb a.id b.id) (bytes_eq-Decides a.text b.text))

-- a test of two menus is that of their items, one by one
pub same_items : (a b : List Item) (same : Bool) → (IsTrue same ↔ (a ≡ b)) → same ≡ pointwise is_same_item a b
same_items a b same tells =
    same_from_decides same (pointwise is_same_item a b) (tells.0, tells.1) (slice_eq-Decides {E = is_same_item} item_decides a b (pointwise is_same_item a b) refl)

-- the menu can be sent: its title and its items are short, and few
pub menu_sent : (rows : List Registration) → All (λ row. length row.text ≤ 10) rows → count_by has_text rows ≤ 16 → CanBeSent (SetUpMenu menu_title (menu_of rows))
menu_sent rows texts few =
    let bounded : AreBounded menu_title (menu_of rows) = record {
      title_length = lit≤ tt;
      text_lengths = All-map (λ item. length item.text ≤ 10) item_of (filter has_text rows) (All-filter has_text (λ row. length row.text ≤ 10) rows texts);
      count = omega (arith, length-map (filter has_text rows) item_of, length-filter has_text rows, few);
    } in
    record { proper = tt; short = λ number. short_enough (SetUpMenu menu_title (menu_of rows)) number bounded }
