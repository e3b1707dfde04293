-- The outstanding command, before and after it is fetched.
use Rattle.std.proofs.Common.{◌≡◌, refl, ap, ◌∙◌, Bool, true, false, ℕ, length, Option, Some, None, if◌then◌else◌, option_map}
use Rattle.toolkit_commands.specs.declared.commands.Details.{Details}
use Rattle.toolkit_commands.specs.Table.{details_of}
use Rattle.toolkit_model.specs.Sessions.{Outstanding, SessionState}
use Rattle.toolkit_model.specs.Commands.{if_fetched, unanswered, pending, command_bytes}

-- ---- how many bytes are to be fetched, and which command is to be answered

mapped_unless : {X Y : Type 0} (f : X → Y) (b : Bool) (x : X) → option_map f (if b then None else Some x) ≡ (if b then None else Some (f x))
mapped_unless f true x = refl
mapped_unless f false x = refl

mapped_if : {X Y : Type 0} (f : X → Y) (b : Bool) (x : X) → option_map f (if b then Some x else None) ≡ (if b then Some (f x) else None)
mapped_if f true x = refl
mapped_if f false x = refl

abbrev pub length_of : Outstanding → ℕ
length_of out = length (command_bytes out)

pub pending_is : (session : SessionState) (out : Outstanding) → session.out ≡ Some out → pending session ≡ (if out.is_fetched then None else Some (length (command_bytes out)))
pending_is session out is = ap (λ (o : Option Outstanding). option_map length_of (if_fetched false o)) is ∙ mapped_unless length_of out.is_fetched out

pub pending_none : (session : SessionState) → session.out ≡ None → pending session ≡ None
pending_none session is = ap (λ (o : Option Outstanding). option_map length_of (if_fetched false o)) is

abbrev pub details_in : Outstanding → Details
details_in out = details_of out.command out.number

pub details_is : (session : SessionState) (out : Outstanding) → session.out ≡ Some out
    → option_map details_in (unanswered session) ≡ (if out.is_fetched then Some (details_of out.command out.number) else None)
details_is session out is = ap (λ (o : Option Outstanding). option_map details_in (if_fetched true o)) is ∙ mapped_if details_in out.is_fetched out

pub details_none : (session : SessionState) → session.out ≡ None → option_map details_in (unanswered session) ≡ None
details_none session is = ap (λ (o : Option Outstanding). option_map details_in (if_fetched true o)) is
