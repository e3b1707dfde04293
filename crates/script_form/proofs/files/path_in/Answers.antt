-- Each path that the bytes may be begins with the path so far.
use Rattle.std.proofs.Common.{arith}
use Rattle.std.proofs.lemmas.Bool.Decides.{nat_tests}
use Rattle.script_form.proofs.PathLemmas.{dead_end, has_room, no_first, one_path}
use Rattle.script_form.proofs.files.path_in.Goals as goal

pub returns-in_err-first : goal.returns-in_err-first
returns-in_err-first c = rw c.from_residual.ensures (no_first c.args.bytes.now (λ identifier rest. c.in_err-first.ensures.only identifier rest))

pub returns-in_err-identifier : goal.returns-in_err-identifier
returns-in_err-identifier c =
    rw c.from_residual-in_err-identifier.ensures (dead_end c.args.bytes.now c.loop-rest.rest.now c.loop-rest.path c.loop-rest.invariant.so_far (grind (arith, nat_tests, c.is_empty.ensures, c.loop-rest-test.true)) (λ identifier behind. c.in_err-identifier.ensures.only identifier behind))

pub push-requires : goal.push-requires
push-requires c = has_room c.args.bytes.now c.loop-rest.rest.now c.loop-rest.path 8 c.loop-rest.invariant.so_far c.requires (omega (arith, c.in_ok-identifier.ensures.shorter))

pub returns : goal.returns
returns c =
    one_path c.args.bytes.now c.loop-rest.rest.now c.loop-rest.path c.loop-rest.invariant.so_far (grind (arith, nat_tests, c.is_empty.ensures, c.loop-rest-test.false)) c.loop-rest.invariant.some c.loop-rest.invariant.free
