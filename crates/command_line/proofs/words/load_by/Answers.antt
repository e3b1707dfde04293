use Rattle.std.proofs.Common.{ℕ, List, string_bytes, map, subst}
use Rattle.script_form.specs.Reads.{IsOnly}
use Rattle.script_form.specs.Values.{IsNumber}
use Rattle.command_line.specs.declared.requests.TheConstants.{MOST_LINES}
use Rattle.command_line.proofs.RequestLemmas.{loads_only, no_count, no_start}
use Rattle.command_line.proofs.words.load_by.Goals as goal

pub returns-in-Some-number_of : goal.returns-in-Some-number_of
returns-in-Some-number_of c =
    let start = subst (λ (word : List ℕ). IsOnly (IsNumber 0 999999999 word) c.in-Some.start) c.as_bytes.ensures.value c.in-Some.ensures in
    let count = subst (λ (word : List ℕ). IsOnly (IsNumber 0 MOST_LINES word) c.in-Some-number_of.count) c.as_bytes-in-Some.ensures.value c.in-Some-number_of.ensures in
    rw c.load_on.ensures (loads_only c.args.start.now c.args.count.now (map string_bytes c.args.options.now) c.in-Some.start c.in-Some-number_of.count c.devices_named.result start count c.devices_named.ensures)

pub returns-in-None : goal.returns-in-None
returns-in-None c = no_start c.args.start.now c.args.count.now (map string_bytes c.args.options.now) (rw c.as_bytes.ensures.value at c.in-None.ensures)

pub returns-in-None-number_of : goal.returns-in-None-number_of
returns-in-None-number_of c = no_count c.args.start.now c.args.count.now (map string_bytes c.args.options.now) (rw c.as_bytes-in-Some.ensures.value at c.in-None-number_of.ensures)
