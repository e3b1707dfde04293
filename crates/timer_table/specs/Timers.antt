-- The owners of the timers that a mobile runs for the card: eight of them, numbered from 1 (ETSI TS 102 223, 8.37).
use Rattle.std.specs.Prelude.{◌≡◌, ℕ, suc, ◌-◌, ◌≤◌, ◌==◌, if◌then◌else◌, List, slice_index_or, slice_set, position, is_none, Option, Some, None}
use Rattle.std.specs.Option.{option_map}
use Rattle.uicc_types.specs.declared.identifiers.Shelf.{Shelf}

-- who holds each of the timers 1 to 8, in this order; None where nobody does
abbrev pub Owners : Type 0
Owners = List (Option Shelf)

-- who holds a timer; nobody holds a number that is none
abbrev pub owner_of : Owners → ℕ → Option Shelf
owner_of owners timer = if timer == 0 then None else slice_index_or owners (timer - 1) None

-- a number is a timer that nobody holds
pub record IsFree (owners : Owners) (timer : ℕ) : Type 0 where
  pub from_1 : 1 ≤ timer
  pub up_to_8 : timer ≤ 8
  pub unheld : owner_of owners timer ≡ None

-- a timer is free, and no smaller one is
pub record IsSmallestFree (owners : Owners) (timer : ℕ) : Type 0 where
  pub is_free : IsFree owners timer
  pub smallest : (other : ℕ) → IsFree owners other → timer ≤ other

-- no timer is free
abbrev pub IsAllHeld : Owners → Type 0
IsAllHeld owners = (timer : ℕ) → IsFree owners timer → ⊥

-- the smallest free timer, if there is one
abbrev pub smallest_free : Owners → Option ℕ
smallest_free owners = option_map suc (position is_none owners)

-- the owners once a timer is somebody's; the same where there is no timer to give
abbrev pub given_to : Shelf → Owners → Option ℕ → Owners
given_to owner owners None = owners
given_to owner owners (Some timer) = slice_set owners (timer - 1) (Some owner)

-- the owners once a timer is nobody's; a number that is none changes nothing
abbrev pub freed : Owners → ℕ → Owners
freed owners timer = if timer == 0 then owners else slice_set owners (timer - 1) None

-- what is left of one timer's owner once a shelf holds no timer
abbrev pub without : Shelf → Option Shelf → Option Shelf
without owner None = None
without owner (Some held) = if held.0 == owner.0 then None else Some held
