-- What a new file holds, and its rule.
use Rattle.std.proofs.Common.{◌≡◌, ℕ, ◌*◌, ◌/◌, ◌≤◌, true, cond, replicate, refl, ◌∙◌, ap, arith, ◌&&◌, nat_le, IsTrue, Option, Some, None, append-nil}
use Rattle.std.proofs.lemmas.Bool.{and_parts, leb-true, ne_eqb}
use Rattle.std.proofs.Math.Nat.{mul-div_cancel_left}
use Rattle.list_laws.proofs.SliceRangeLemmas.{some_product}
use Rattle.uicc_types.specs.declared.identifiers.FileId.{FileId}
use Rattle.card_state.specs.declared.shapes.Shape.{Shape}
use Rattle.card_state.specs.declared.shapes.Shape.TheVariants.{Transparent, Linear, Cyclic}
use Rattle.card_state.specs.Persistent.{Rule, Records}
use Rattle.card_state.specs.Kinds.{is_ef_kind}
use Rattle.card_state.specs.Sections.{kind_of, size_of, is_shape}
use Rattle.card_state.specs.States.{records_of, from_head, rule_of}
use Rattle.card_state.proofs.RecordsOfLemmas.{blank_records}
use Rattle.card_state.specs.NewFiles.{ef_node, rule_from, rule_holds, NewFilesAreBlank}

pub records_parts : (width count : ℕ) → (nat_le 1 width && nat_le 1 count && nat_le count 254) ≡ true → (1 ≤ width) × (1 ≤ count) × (count ≤ 254)
records_parts width count is =
    let outer = and_parts (nat_le 1 width && nat_le 1 count) (nat_le count 254) is in
    let inner = and_parts (nat_le 1 width) (nat_le 1 count) outer.0 in
    (leb-true 1 width inner.0, leb-true 1 count inner.1, leb-true count 254 outer.1)

pub is_ef_shape : (shape : Shape) → IsTrue (is_ef_kind (kind_of shape))
is_ef_shape (Transparent size) = refl
is_ef_shape (Linear width count) = refl
is_ef_shape (Cyclic width count) = refl

-- an EF has some bytes
pub some_bytes : (shape : Shape) → is_shape shape ≡ true → 1 ≤ size_of shape
some_bytes (Transparent size) is = leb-true 1 size (and_parts (nat_le 1 size) (nat_le size 32767) is).0
some_bytes (Linear width count) is = let parts = records_parts width count is in some_product width count parts.0 parts.1
some_bytes (Cyclic width count) is = let parts = records_parts width count is in some_product width count parts.0 parts.1

-- the records of a file whose bytes are all FF
all_blank : (width count : ℕ) → 1 ≤ width → from_head 0 (records_of width (width * count / width) (replicate (width * count) 255)) ≡ replicate count (replicate width 255)
all_blank width count some =
    let number : width * count / width ≡ count = mul-div_cancel_left count some in
    append-nil (records_of width (width * count / width) (replicate (width * count) 255)) ∙ ap (λ (n : ℕ). records_of width n (replicate (width * count) 255)) number
    ∙ blank_records width count (width * count) 255 (omega arith)

pub new_file_is_blank : NewFilesAreBlank
new_file_is_blank place parent id (Transparent size) short rule is = refl
new_file_is_blank place parent id (Linear width count) short rule is = ap Records (all_blank width count (records_parts width count is).0)
new_file_is_blank place parent id (Cyclic width count) short rule is = ap Records (all_blank width count (records_parts width count is).0)

pub new_rule : (place parent : ℕ) (id : FileId) (shape : Shape) (short : ℕ) (rule : Option (FileId × ℕ)) → rule_holds rule ≡ true → rule_of (ef_node place parent id shape short rule) ≡ rule_from rule
new_rule place parent id shape short None holds = refl
new_rule place parent id shape short (Some pair) holds =
    let few : 1 ≤ pair.1 = leb-true 1 pair.1 (and_parts (nat_le 1 pair.1) (nat_le pair.1 254) holds).0 in
    ap (λ b. let found : Option Rule = cond b None (Some (record { arr = pair.0.0; number = pair.1 })) in found) (ne_eqb pair.1 0 (λ e. omega arith))
