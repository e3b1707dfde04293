-- How long an object is.
use Rattle.std.proofs.Common.{ℕ, ◌+◌, ◌<◌, ◌≤◌, List, ◌++◌, length, arith, length-append}
use Rattle.comprehension_tlv.specs.Writing.{tagged}
use Rattle.toolkit_commands.proofs.LengthsOfCommandsLemmas.{long_tagged}

pub length_put_long : (old : List ℕ) (tag : ℕ) (value : List ℕ) → length value < 256
    → length (old ++ tagged (128 + tag) value) ≤ length old + length value + 3
length_put_long old tag value less =
    let size : length (tagged (128 + tag) value) ≤ length value + 3 = long_tagged (128 + tag) value less in
    omega (arith, length-append old (tagged (128 + tag) value))
