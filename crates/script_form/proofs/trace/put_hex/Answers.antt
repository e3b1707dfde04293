use Rattle.std.proofs.Common.{◌≡◌, ◌++◌, ℕ, List, length, ap, arith, length-append, take-append-drop}
use Rattle.std.proofs.lemmas.Bool.Decides.{nat_tests}
use Rattle.hex.specs.Hex.{upper_digits}
use Rattle.script_form.proofs.EncodeWithLemmas.{all_written, few_more}
use Rattle.script_form.proofs.trace.put_hex.Goals as goal

pub loop-rest-preserved : goal.loop-rest-preserved
loop-rest-preserved g c =
    let few = c.split_at.result.0.now in
    let behind = c.split_at.result.1.now in
    let parts : few ++ behind ≡ c.loop-rest.rest.now =
    rw (c.split_at.ensures.front, c.split_at.ensures.back) (take-append-drop c.min.result c.loop-rest.rest.now) in
    let size = ap (λ (xs : List ℕ). length xs) parts in
    record {
      items = few_more upper_digits c.loop-rest.text.items few behind c.loop-rest.rest.now c.put_few.new.text.items _ parts c.put_few.ensures.items c.loop-rest.invariant.items;
      size = omega (arith, c.put_few.ensures.size, c.loop-rest.invariant.size, size, length-append few behind);
    }

pub returns : goal.returns
returns g c = record {
  items = all_written upper_digits c.loop-rest.text.items c.loop-rest.rest.now _ (grind (arith, nat_tests, c.is_empty.ensures, c.loop-rest-test.false)) c.loop-rest.invariant.items;
  size = grind (arith, nat_tests, c.is_empty.ensures, c.loop-rest-test.false, c.loop-rest.invariant.size);
}
