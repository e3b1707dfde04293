-- A sink that tells its bytes goes on telling them.
use Rattle.std.proofs.Common.{◌≡◌, ℕ, List, Option, Some, None, Result, Ok, Err, OnOk, OnErr, ◌++◌, [], is_some, refl, subst, ap, ◌∙◌, rules, append_assoc, append-nil}
use Rattle.std.specs.Io.KnownBytes.{append_known}
use Rattle.uicc_types.specs.Told.{Becomes}
use Rattle.byte_streams.specs.Streams.{TakesFront}
use Rattle.byte_streams.specs.declared.streams.Failed.{Failed}
use Rattle.script_form.specs.Traces.{IsPut, trace_text}
use Rattle.script_form.specs.declared.trace.TraceLine.TheVariants.{Command, Response}
use Rattle.bip_channels.specs.Channels.{BipChannel, answered}
use Rattle.bip_runs.specs.Traces.{command_lines, text_of}

some_known : (before : Option (List ℕ)) (part : List ℕ) → is_some (append_known before part) ≡ is_some before
some_known None part = refl
some_known (Some bytes) part = refl

pub tells_whole : (before after : Option (List ℕ)) (part : List ℕ) → after ≡ append_known before part → is_some after ≡ is_some before
tells_whole before after part is = ap is_some is ∙ some_known before part

pub tells_front : (before after : Option (List ℕ)) (part : List ℕ) → Becomes (TakesFront part) before after → is_some after ≡ is_some before
tells_front None None part takes = refl
tells_front (Some bytes) (Some now) part takes = refl
tells_front before now part takes = absurd takes

pub tells_put : (result : Result (Unit {0}) Failed) (before after : Option (List ℕ)) (part : List ℕ) → OnOk result (after ≡ append_known before part) → OnErr result (Becomes (TakesFront part) before after) → is_some after ≡ is_some before
tells_put (Ok done) before after part whole front = tells_whole before after part whole
tells_put (Err failed) before after part whole front = tells_front before after part front

-- a text that is put after a whole one
put_after : (result : Result (Unit {0}) Failed) (before mid after : Option (List ℕ)) (first second : List ℕ) → mid ≡ append_known before first
    → OnOk result (after ≡ append_known mid second) → OnErr result (Becomes (TakesFront second) mid after)
    → IsPut (first ++ (second ++ [])) before after result
put_after (Ok done) None mid after first second is whole front = search (rules, is, whole)
put_after (Ok done) (Some bytes) mid after first second is whole front = search (rules, is, whole, append_assoc, append-nil)
put_after (Err failed) None None None first second is whole front = (tt, tt)
put_after (Err failed) None None (Some now) first second is whole front = absurd front
put_after (Err failed) None (Some held) after first second is whole front = search (rules, is)
put_after (Err failed) (Some bytes) None after first second is whole front = search (rules, is)
put_after (Err failed) (Some bytes) (Some held) None first second is whole front = absurd front
put_after (Err failed) (Some bytes) (Some held) (Some now) first second is whole (taken, (rest, splits), written) =
    (tt, (first ++ taken, (rest, search (rules, splits, append_assoc, append-nil)), search (rules, is, written, append_assoc)))

pub command_put : (result : Result (Unit {0}) Failed) (before mid after : Option (List ℕ)) (bytes written response : List ℕ) (channels : List (Option BipChannel))
    → written ≡ bytes → response ≡ (answered written channels).response → mid ≡ append_known before (trace_text (Command written))
    → OnOk result (after ≡ append_known mid (trace_text (Response response))) → OnErr result (Becomes (TakesFront (trace_text (Response response))) mid after)
    → IsPut (text_of (command_lines bytes (answered bytes channels).response)) before after result
command_put result before mid after bytes written response channels same is first whole front =
    subst (λ bytes. IsPut (text_of (command_lines bytes (answered bytes channels).response)) before after result) same
    (subst (λ response. IsPut (text_of (command_lines written response)) before after result) is (put_after result before mid after _ _ first whole front))
