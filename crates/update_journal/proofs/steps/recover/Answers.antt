-- A read changes nothing, so the gate (byte 64) and the entries (128 to 831) are those of one content: the pieces are those of the commit that is
-- to be ended.
use Rattle.std.proofs.Common.{◌≡◌, ◌+◌, List, ℕ, Option, sym, ap, subst, ◌∙◌, IfSome, slice_range, option_map, arith, rules}
use Rattle.std.proofs.lemmas.Result.{on_ok_weaker}
use Rattle.list_laws.proofs.IfSomeLemmas.{if_some, on_err}
use Rattle.store_form.specs.Pieces.{Piece}
use Rattle.update_journal.specs.Calls.{calls_of, calls_to_recover, MakesCalls}
use Rattle.update_journal.specs.Journal.{IsUnderWay, recovered_image}
use Rattle.update_journal.proofs.CallsLemmas.{made_from, none_made, few_calls, at_most_in_all, recovered_calls}
use Rattle.update_journal.proofs.PatchedLemmas.{HasLength}
use Rattle.update_journal.proofs.IsUnderWayLemmas.{found_pieces, found_nothing, not_closed, recovered_by}
use Rattle.update_journal.proofs.steps.recover.Goals as goal

pub carry_out-requires-clause-under_way : goal.carry_out-requires-clause-under_way
carry_out-requires-clause-under_way g c =
    let now : g.E.Eeprom.contents c.read-2.new.device ≡ g.E.Eeprom.contents c.read.new.device = c.in_ok-read-2.ensures.contents in
    let first : g.E.Eeprom.contents c.read.new.device ≡ g.E.Eeprom.contents c.args.device.now = c.in_ok-read.ensures.contents in
    let long : HasLength (g.E.Eeprom.contents c.read-2.new.device) c.size.result = (let P : ℕ → Type 0 = λ n. HasLength (g.E.Eeprom.contents c.read-2.new.device) n in subst P (sym c.size.ensures.size) (g.met.E.Eeprom.told_length c.read-2.new.device)) in
    let gate : Option (List ℕ) → Type 0 = λ o. IfSome o (λ held. c.read.new.out ≡ slice_range held 64 65) in
    let bytes : Option (List ℕ) → Type 0 = λ o. IfSome o (λ held. c.read-2.new.out ≡ slice_range held 128 832) in
    found_pieces (g.E.Eeprom.contents c.read-2.new.device) c.size.result c.read.new.out c.read-2.new.out c.in-Some.writes long (subst gate (sym (now ∙ first)) c.in_ok-read.ensures.ok) c.if-gate-ne-OPEN.false (subst bytes (sym now) c.in_ok-read-2.ensures.ok) (sym c.in-Some.ensures.value)

pub carry_out-requires-in-None-clause-under_way : goal.carry_out-requires-in-None-clause-under_way
carry_out-requires-in-None-clause-under_way g c =
    let now : g.E.Eeprom.contents c.read-2.new.device ≡ g.E.Eeprom.contents c.read.new.device = c.in_ok-read-2.ensures.contents in
    let first : g.E.Eeprom.contents c.read.new.device ≡ g.E.Eeprom.contents c.args.device.now = c.in_ok-read.ensures.contents in
    let long : HasLength (g.E.Eeprom.contents c.read-2.new.device) c.size.result = (let P : ℕ → Type 0 = λ n. HasLength (g.E.Eeprom.contents c.read-2.new.device) n in subst P (sym c.size.ensures.size) (g.met.E.Eeprom.told_length c.read-2.new.device)) in
    let gate : Option (List ℕ) → Type 0 = λ o. IfSome o (λ held. c.read.new.out ≡ slice_range held 64 65) in
    let bytes : Option (List ℕ) → Type 0 = λ o. IfSome o (λ held. c.read-2.new.out ≡ slice_range held 128 832) in
    let under : List Piece → Type 0 = λ pieces. IfSome (g.E.Eeprom.contents c.read-2.new.device) (IsUnderWay pieces) in
    subst under (sym c.new.ensures) (found_nothing (g.E.Eeprom.contents c.read-2.new.device) c.size.result c.read.new.out c.read-2.new.out long (subst gate (sym (now ∙ first)) c.in_ok-read.ensures.ok) c.if-gate-ne-OPEN.false (subst bytes (sym now) c.in_ok-read-2.ensures.ok) (sym c.in-None.ensures.value))

pub returns-in-Some-clause-untouched : goal.returns-in-Some-clause-untouched
returns-in-Some-clause-untouched g c = not_closed (g.E.Eeprom.contents c.args.device.now) (g.E.Eeprom.contents c.carry_out.new.device) c.read.new.out c.in_ok-read.ensures.ok c.if-gate-ne-OPEN.false

pub returns-in-None-clause-untouched : goal.returns-in-None-clause-untouched
returns-in-None-clause-untouched g c = not_closed (g.E.Eeprom.contents c.args.device.now) (g.E.Eeprom.contents c.carry_out-in-None.new.device) c.read.new.out c.in_ok-read.ensures.ok c.if-gate-ne-OPEN.false

pub returns-in_err-read-2-clause-calls : goal.returns-in_err-read-2-clause-calls
returns-in_err-read-2-clause-calls g c =
    if_some (g.E.Eeprom.contents c.args.device.now) _ (λ image is. record {
      all = search rules;
      no_more = on_err c.from_residual-in_err-read-2.result (none_made (calls_to_recover image) (g.E.Eeprom.meter c.args.device.now).programs (g.E.Eeprom.meter c.read-2.new.device).programs (c.in_err-read-2.ensures.calls ∙ c.in_ok-read.ensures.calls));
    })

pub returns-in-Some-clause-left : goal.returns-in-Some-clause-left
returns-in-Some-clause-left g c =
    let now : g.E.Eeprom.contents c.read-2.new.device ≡ g.E.Eeprom.contents c.read.new.device = c.in_ok-read-2.ensures.contents in
    let first : g.E.Eeprom.contents c.read.new.device ≡ g.E.Eeprom.contents c.args.device.now = c.in_ok-read.ensures.contents in
    let long : HasLength (g.E.Eeprom.contents c.read-2.new.device) c.size.result = (let P : ℕ → Type 0 = λ n. HasLength (g.E.Eeprom.contents c.read-2.new.device) n in subst P (sym c.size.ensures.size) (g.met.E.Eeprom.told_length c.read-2.new.device)) in
    let gate : Option (List ℕ) → Type 0 = λ o. IfSome o (λ held. c.read.new.out ≡ slice_range held 64 65) in
    let bytes : Option (List ℕ) → Type 0 = λ o. IfSome o (λ held. c.read-2.new.out ≡ slice_range held 128 832) in
    let under = found_pieces (g.E.Eeprom.contents c.read-2.new.device) c.size.result c.read.new.out c.read-2.new.out c.in-Some.writes long (subst gate (sym (now ∙ first)) c.in_ok-read.ensures.ok) c.if-gate-ne-OPEN.false (subst bytes (sym now) c.in_ok-read-2.ensures.ok) (sym c.in-Some.ensures.value) in
    on_ok_weaker c.carry_out.result (λ left. left ∙ recovered_by (g.E.Eeprom.contents c.read-2.new.device) c.in-Some.writes under ∙ ap (λ o. option_map recovered_image o) (now ∙ first)) c.carry_out.ensures.left

pub returns-in-Some-clause-calls : goal.returns-in-Some-clause-calls
returns-in-Some-clause-calls g c =
    let now : g.E.Eeprom.contents c.read-2.new.device ≡ g.E.Eeprom.contents c.read.new.device = c.in_ok-read-2.ensures.contents in
    let first : g.E.Eeprom.contents c.read.new.device ≡ g.E.Eeprom.contents c.args.device.now = c.in_ok-read.ensures.contents in
    let long : HasLength (g.E.Eeprom.contents c.read-2.new.device) c.size.result = (let P : ℕ → Type 0 = λ n. HasLength (g.E.Eeprom.contents c.read-2.new.device) n in subst P (sym c.size.ensures.size) (g.met.E.Eeprom.told_length c.read-2.new.device)) in
    let gate : Option (List ℕ) → Type 0 = λ o. IfSome o (λ held. c.read.new.out ≡ slice_range held 64 65) in
    let bytes : Option (List ℕ) → Type 0 = λ o. IfSome o (λ held. c.read-2.new.out ≡ slice_range held 128 832) in
    let under = found_pieces (g.E.Eeprom.contents c.read-2.new.device) c.size.result c.read.new.out c.read-2.new.out c.in-Some.writes long (subst gate (sym (now ∙ first)) c.in_ok-read.ensures.ok) c.if-gate-ne-OPEN.false (subst bytes (sym now) c.in_ok-read-2.ensures.ok) (sym c.in-Some.ensures.value) in
    subst (λ o. IfSome o (λ image. MakesCalls (calls_to_recover image) (g.E.Eeprom.meter c.args.device.now).programs (g.E.Eeprom.meter c.carry_out.new.device).programs c.carry_out.result)) (now ∙ first)
    (recovered_calls (g.E.Eeprom.contents c.read-2.new.device) c.in-Some.writes (g.E.Eeprom.meter c.args.device.now).programs (g.E.Eeprom.meter c.carry_out.new.device).programs c.carry_out.result under
    (made_from (calls_of c.in-Some.writes + 1) (g.E.Eeprom.meter c.args.device.now).programs (g.E.Eeprom.meter c.read-2.new.device).programs (g.E.Eeprom.meter c.carry_out.new.device).programs c.carry_out.result (c.in_ok-read-2.ensures.calls ∙ c.in_ok-read.ensures.calls) c.carry_out.ensures.calls))

pub returns-in-Some-clause-few_calls : goal.returns-in-Some-clause-few_calls
returns-in-Some-clause-few_calls g c =
    at_most_in_all (calls_of c.in-Some.writes + 1) 18 (g.E.Eeprom.meter c.args.device.now).programs (g.E.Eeprom.meter c.carry_out.new.device).programs c.carry_out.result (omega (arith, few_calls c.in-Some.writes c.carry_out.ensures.bounds))
    (made_from (calls_of c.in-Some.writes + 1) (g.E.Eeprom.meter c.args.device.now).programs (g.E.Eeprom.meter c.read-2.new.device).programs (g.E.Eeprom.meter c.carry_out.new.device).programs c.carry_out.result (c.in_ok-read-2.ensures.calls ∙ c.in_ok-read.ensures.calls) c.carry_out.ensures.calls)

pub returns-in-None-clause-left : goal.returns-in-None-clause-left
returns-in-None-clause-left g c =
    let now : g.E.Eeprom.contents c.read-2.new.device ≡ g.E.Eeprom.contents c.read.new.device = c.in_ok-read-2.ensures.contents in
    let first : g.E.Eeprom.contents c.read.new.device ≡ g.E.Eeprom.contents c.args.device.now = c.in_ok-read.ensures.contents in
    let long : HasLength (g.E.Eeprom.contents c.read-2.new.device) c.size.result = (let P : ℕ → Type 0 = λ n. HasLength (g.E.Eeprom.contents c.read-2.new.device) n in subst P (sym c.size.ensures.size) (g.met.E.Eeprom.told_length c.read-2.new.device)) in
    let gate : Option (List ℕ) → Type 0 = λ o. IfSome o (λ held. c.read.new.out ≡ slice_range held 64 65) in
    let bytes : Option (List ℕ) → Type 0 = λ o. IfSome o (λ held. c.read-2.new.out ≡ slice_range held 128 832) in
    let under : List Piece → Type 0 = λ pieces. IfSome (g.E.Eeprom.contents c.read-2.new.device) (IsUnderWay pieces) in
    let begun = subst under (sym c.new.ensures) (found_nothing (g.E.Eeprom.contents c.read-2.new.device) c.size.result c.read.new.out c.read-2.new.out long (subst gate (sym (now ∙ first)) c.in_ok-read.ensures.ok) c.if-gate-ne-OPEN.false (subst bytes (sym now) c.in_ok-read-2.ensures.ok) (sym c.in-None.ensures.value)) in
    on_ok_weaker c.carry_out-in-None.result (λ left. left ∙ recovered_by (g.E.Eeprom.contents c.read-2.new.device) c.new.result begun ∙ ap (λ o. option_map recovered_image o) (now ∙ first)) c.carry_out-in-None.ensures.left

pub returns-in-None-clause-calls : goal.returns-in-None-clause-calls
returns-in-None-clause-calls g c =
    let now : g.E.Eeprom.contents c.read-2.new.device ≡ g.E.Eeprom.contents c.read.new.device = c.in_ok-read-2.ensures.contents in
    let first : g.E.Eeprom.contents c.read.new.device ≡ g.E.Eeprom.contents c.args.device.now = c.in_ok-read.ensures.contents in
    let long : HasLength (g.E.Eeprom.contents c.read-2.new.device) c.size.result = (let P : ℕ → Type 0 = λ n. HasLength (g.E.Eeprom.contents c.read-2.new.device) n in subst P (sym c.size.ensures.size) (g.met.E.Eeprom.told_length c.read-2.new.device)) in
    let gate : Option (List ℕ) → Type 0 = λ o. IfSome o (λ held. c.read.new.out ≡ slice_range held 64 65) in
    let bytes : Option (List ℕ) → Type 0 = λ o. IfSome o (λ held. c.read-2.new.out ≡ slice_range held 128 832) in
    let under : List Piece → Type 0 = λ pieces. IfSome (g.E.Eeprom.contents c.read-2.new.device) (IsUnderWay pieces) in
    let begun = subst under (sym c.new.ensures) (found_nothing (g.E.Eeprom.contents c.read-2.new.device) c.size.result c.read.new.out c.read-2.new.out long (subst gate (sym (now ∙ first)) c.in_ok-read.ensures.ok) c.if-gate-ne-OPEN.false (subst bytes (sym now) c.in_ok-read-2.ensures.ok) (sym c.in-None.ensures.value)) in
    subst (λ o. IfSome o (λ image. MakesCalls (calls_to_recover image) (g.E.Eeprom.meter c.args.device.now).programs (g.E.Eeprom.meter c.carry_out-in-None.new.device).programs c.carry_out-in-None.result)) (now ∙ first)
    (recovered_calls (g.E.Eeprom.contents c.read-2.new.device) c.new.result (g.E.Eeprom.meter c.args.device.now).programs (g.E.Eeprom.meter c.carry_out-in-None.new.device).programs c.carry_out-in-None.result begun
    (made_from (calls_of c.new.result + 1) (g.E.Eeprom.meter c.args.device.now).programs (g.E.Eeprom.meter c.read-2.new.device).programs (g.E.Eeprom.meter c.carry_out-in-None.new.device).programs c.carry_out-in-None.result (c.in_ok-read-2.ensures.calls ∙ c.in_ok-read.ensures.calls) c.carry_out-in-None.ensures.calls))
