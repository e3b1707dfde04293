-- What the memory of a card stands for: its files, PINs, registered applets and the next sequence number.
use Rattle.std.specs.Prelude.{ℕ, Bool, List, Option}

-- the record of an EF_ARR that rules the access to a file (ETSI TS 102 221, 9.2.7)
pub record Rule : Type 0 where
  pub arr : ℕ
  pub number : ℕ

-- What a file holds (8.2): a DF the files that name it as their parent; a transparent EF bytes; another EF records, from
-- record 1 on, which in a cyclic file is the newest.
pub data Contents : Type 0 where
  Files : Contents
  Bytes : List ℕ → Contents
  Records : List (List ℕ) → Contents

-- A file. Its kind is the file descriptor byte (11.1.1.4.3), `life` the life cycle status (11.1.1.4.9), `short` the short
-- file identifier or 0 (11.1.1.4.8). A DF is activated, has no short identifier and no rule, and no bytes of its own.
pub record File : Type 0 where
  pub number : ℕ
  pub parent : ℕ
  pub kind : ℕ
  pub id : ℕ
  pub short : ℕ
  pub life : ℕ
  pub rule : Option Rule
  pub place : ℕ
  pub size : ℕ
  pub contents : Contents

-- a PIN with its UNBLOCK PIN (9.5)
pub record Pin : Type 0 where
  pub key : ℕ
  pub is_enabled : Bool
  pub tries : ℕ
  pub unblock_tries : ℕ
  pub value : List ℕ
  pub unblock : List ℕ

-- an applet that is registered on a shelf, with the codes of the events that trigger it, ascending
pub record Registration : Type 0 where
  pub shelf : ℕ
  pub kind : ℕ
  pub priority : ℕ
  pub sequence : ℕ
  pub codes : List ℕ
  pub text : List ℕ
  pub kept : List ℕ

-- the files by ascending numbers, the PINs in the order 01, 81, 0A, and the rows by ascending shelves
pub record Persistent : Type 0 where
  pub is_wide : Bool
  pub files : List File
  pub pins : List Pin
  pub rows : List Registration
  pub next_sequence : ℕ
