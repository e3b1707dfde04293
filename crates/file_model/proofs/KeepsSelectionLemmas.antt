-- A selection stays lawful where the files that it names are still there.
use Rattle.std.proofs.Common.{◌≡◌, ℕ, ◌≤◌, List, Option, Some, None, refl, sym, ◌∙◌, ap, subst, arith, ◌==◌, ◌&&◌, not, IfSome, IsSomeAnd, IsTrue}
use Rattle.card_state.specs.Kinds.{df_kind, is_ef_kind}
use Rattle.file_model.specs.declared.descriptors.Descriptor.{Descriptor}
use Rattle.file_model.specs.declared.descriptors.Wanted.TheVariants.{Number}
use Rattle.file_model.specs.Files.{is_df, is_ef, lies_in, file_found}
use Rattle.file_model.specs.Selections.{IsSelection}

-- all that a selection asks of a file
pub record IsAlike (a b : Descriptor) : Type 0 where
  pub number : b.number ≡ a.number
  pub parent : b.parent ≡ a.parent
  pub kind : b.kind ≡ a.kind
  pub count : b.count ≡ a.count

pub alike_itself : (a : Descriptor) → IsAlike a a
alike_itself a = record { number = refl; parent = refl; kind = refl; count = refl }

-- the file of this number, if there is one, is still there
abbrev pub IsKept : List Descriptor → List Descriptor → ℕ → Type 0
IsKept old new n = (a : Descriptor) → file_found old (Number n) ≡ Some a → (b : Descriptor) × (file_found new (Number n) ≡ Some b) × IsAlike a b

pub same_kept : (old new : List Descriptor) (n : ℕ) → file_found new (Number n) ≡ file_found old (Number n) → IsKept old new n
same_kept old new n same a is = (a, same ∙ is, alike_itself a)

still : (P : Descriptor → Type 0) (a b : Option Descriptor) → IsSomeAnd a P → ((x : Descriptor) → a ≡ Some x → (y : Descriptor) × (b ≡ Some y) × IsAlike x y) → ((x y : Descriptor) → IsAlike x y → P x → P y) → IsSomeAnd b P
still P None b holds kept carries = absurd holds
still P (Some x) b holds kept carries = let found = kept x refl in subst (λ o. IsSomeAnd o P) (sym found.1) (carries x found.0 found.2 holds)

df_alike : (a b : Descriptor) → IsAlike a b → IsTrue (is_df a) → IsTrue (is_df b)
df_alike a b alike is = ap (λ (k : ℕ). k == df_kind) alike.kind ∙ is

abbrev LiesAsEf : ℕ → Descriptor → Type 0
LiesAsEf df file = IsTrue (is_ef file) × IsTrue (lies_in df file)

ef_alike : (df : ℕ) (a b : Descriptor) → IsAlike a b → LiesAsEf df a → LiesAsEf df b
ef_alike df a b alike is = (
  ap is_ef_kind alike.kind ∙ is.0,
  ap (λ (p : ℕ). p == df && not (b.number == 0)) alike.parent ∙ ap (λ (n : ℕ). a.parent == df && not (n == 0)) alike.number ∙ is.1,
)

abbrev HasRecord : ℕ → Descriptor → Type 0
HasRecord number file = (1 ≤ number) × (number ≤ file.count)

record_alike : (number : ℕ) (a b : Descriptor) → IsAlike a b → HasRecord number a → HasRecord number b
record_alike number a b alike is = (is.0, omega (arith, is.1, alike.count))

pub kept_selection : (old new : List Descriptor) (df : ℕ) (ef pointer : Option ℕ) → IsSelection old (record { df = df; ef = ef; pointer = pointer }) → IsKept old new df → IfSome ef (IsKept old new)
    → IsSelection new (record { df = df; ef = ef; pointer = pointer })
kept_selection old new df None None is df_kept ef_kept = record {
  df = still (λ file. IsTrue (is_df file)) (file_found old (Number df)) (file_found new (Number df)) is.df df_kept df_alike;
  ef = tt;
  pointer = tt;
}
kept_selection old new df None (Some number) is df_kept ef_kept = absurd is.pointer
kept_selection old new df (Some ef) None is df_kept ef_kept = record {
  df = still (λ file. IsTrue (is_df file)) (file_found old (Number df)) (file_found new (Number df)) is.df df_kept df_alike;
  ef = still (LiesAsEf df) (file_found old (Number ef)) (file_found new (Number ef)) is.ef ef_kept (ef_alike df);
  pointer = tt;
}
kept_selection old new df (Some ef) (Some number) is df_kept ef_kept = record {
  df = still (λ file. IsTrue (is_df file)) (file_found old (Number df)) (file_found new (Number df)) is.df df_kept df_alike;
  ef = still (LiesAsEf df) (file_found old (Number ef)) (file_found new (Number ef)) is.ef ef_kept (ef_alike df);
  pointer = still (HasRecord number) (file_found old (Number ef)) (file_found new (Number ef)) is.pointer ef_kept (record_alike number);
}

-- without its EF
pub kept_df : (old new : List Descriptor) (df : ℕ) (ef pointer : Option ℕ) → IsSelection old (record { df = df; ef = ef; pointer = pointer }) → IsKept old new df → IsSelection new (record { df = df; ef = None; pointer = None })
kept_df old new df ef pointer is df_kept = record {
  df = still (λ file. IsTrue (is_df file)) (file_found old (Number df)) (file_found new (Number df)) is.df df_kept df_alike;
  ef = tt;
  pointer = tt;
}
