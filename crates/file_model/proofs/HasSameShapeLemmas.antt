-- Contents of a file that have the shape of those before them: bytes in place of as many, records in place of others.
use Rattle.std.proofs.Common.{set, ◌≡◌, ℕ, ◌+◌, ◌-◌, ◌≤◌, true, false, List, [], ◌∷◌, length, take, refl, sym, ◌∙◌, ap, arith, ◌*◌, IsTrue, All, length-take, length-set}
use Rattle.std.proofs.lemmas.List.Elements.{All-set, All-cons, All-take}
use Rattle.list_laws.proofs.PatchesLemmas.{length-patched}
use Rattle.card_state.specs.Kinds.{has_records}
use Rattle.card_state.specs.Persistent.{Contents, Files, Bytes, Records}
use Rattle.card_state.specs.Changing.{bytes_put, record_put, record_pushed}
use Rattle.card_state.specs.Soundness.{AreRecords, AreContents}
use Rattle.file_model.specs.Files.{record_width, record_count}

-- as many records of the same length
pub record HasSameShape (old new : Contents) : Type 0 where
  pub count : record_count new ≡ record_count old
  pub width : record_width new ≡ record_width old

pub same_shape : (contents : Contents) → HasSameShape contents contents
same_shape contents = record { count = refl; width = refl }

abbrev HasWidth : ℕ → List ℕ → Type 0
HasWidth width bytes = length bytes ≡ width

-- where there are records, their length is that of the first
pub width_is : (size : ℕ) (records : List (List ℕ)) (are : AreRecords size records) → 1 ≤ length records → record_width (Records records) ≡ are.width
width_is size records are some = are.whole 0 [] (omega arith)

-- a file with records of one byte or more has one
pub some_records : (kind size : ℕ) (contents : Contents) → IsTrue (has_records kind) → AreContents kind size contents → 1 ≤ size → 1 ≤ record_count contents
some_records kind size Files has are some = let both : has_records kind ≡ false = ap has_records are in let no : true ≡ false = sym has ∙ both in cc
some_records kind size (Bytes bytes) has are some = let both : has_records kind ≡ false = ap has_records are.0 in let no : true ≡ false = sym has ∙ both in cc
some_records kind size (Records []) has are some = absurd (omega (arith, are.1.fill))
some_records kind size (Records (record' ∷ records)) has are some = omega arith

pub few_records : (kind size : ℕ) (contents : Contents) → AreContents kind size contents → record_count contents ≤ 254
few_records kind size Files are = omega arith
few_records kind size (Bytes bytes) are = omega arith
few_records kind size (Records records) are = are.1.few

-- each record has the length of the first
pub each_width : (kind size : ℕ) (records : List (List ℕ)) → AreContents kind size (Records records) → All (HasWidth (record_width (Records records))) records
each_width kind size records are k d low = are.1.whole k d low ∙ sym (width_is size records are.1 (omega (arith, low)))

-- ---- what is put keeps the shape

pub bytes_put_so : (kind size offset : ℕ) (bytes : List ℕ) (contents : Contents) → AreContents kind size contents → offset + length bytes ≤ size
    → AreContents kind size (bytes_put offset bytes contents) × HasSameShape contents (bytes_put offset bytes contents)
bytes_put_so kind size offset bytes Files are fits = (are, same_shape Files)
bytes_put_so kind size offset bytes (Bytes old) are fits = ((are.0, length-patched offset bytes old (omega (arith, are.1, fits)) ∙ are.1), record { count = refl; width = refl })
bytes_put_so kind size offset bytes (Records old) are fits = (are, same_shape (Records old))

-- as many records of one length, with the first of that length
as_many : (size : ℕ) (old new : List (List ℕ)) (are : AreRecords size old) → 1 ≤ length old → length new ≡ length old → All (HasWidth are.width) new
    → AreRecords size new × HasSameShape (Records old) (Records new)
as_many size old new are some count whole = (
  record { width = are.width; some_bytes = are.some_bytes; whole = whole; few = omega (arith, are.few, count); fill = ap (λ (n : ℕ). n * are.width) count ∙ are.fill },
  record { count = count; width = whole 0 [] (omega (arith, count, some)) ∙ sym (width_is size old are some) },
)

pub record_put_so : (kind size index : ℕ) (bytes : List ℕ) (contents : Contents) → AreContents kind size contents → 1 ≤ record_count contents → length bytes ≡ record_width contents
    → AreContents kind size (record_put index bytes contents) × HasSameShape contents (record_put index bytes contents)
record_put_so kind size index bytes Files are some long = (are, same_shape Files)
record_put_so kind size index bytes (Bytes old) are some long = (are, same_shape (Bytes old))
record_put_so kind size index bytes (Records old) are some long =
    let wide : length bytes ≡ are.1.width = long ∙ width_is size old are.1 some in
    let many = as_many size old (set old index bytes) are.1 some (length-set old index bytes) (All-set (HasWidth are.1.width) old index bytes wide are.1.whole) in
    ((are.0, many.0), many.1)

pub record_pushed_so : (kind size : ℕ) (bytes : List ℕ) (contents : Contents) → AreContents kind size contents → 1 ≤ record_count contents → length bytes ≡ record_width contents
    → AreContents kind size (record_pushed bytes contents) × HasSameShape contents (record_pushed bytes contents)
record_pushed_so kind size bytes Files are some long = (are, same_shape Files)
record_pushed_so kind size bytes (Bytes old) are some long = (are, same_shape (Bytes old))
record_pushed_so kind size bytes (Records old) are some long =
    let wide : length bytes ≡ are.1.width = long ∙ width_is size old are.1 some in
    let rest : List (List ℕ) = take (length old - 1) old in
    let many = as_many size old (bytes ∷ rest) are.1 some (omega (arith, length-take (length old - 1) old, some)) (All-cons (HasWidth are.1.width) bytes rest wide (All-take (HasWidth are.1.width) (length old - 1) old are.1.whole)) in
    ((are.0, many.0), many.1)
