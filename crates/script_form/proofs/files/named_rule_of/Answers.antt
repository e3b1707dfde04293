-- A rule's word is parted in one way, and each part says one thing.
use Rattle.script_form.proofs.IsRuleLemmas.{four_before, same_rule}
use Rattle.script_form.proofs.files.named_rule_of.Goals as goal

pub returns-in_err-file : goal.returns-in_err-file
returns-in_err-file c =
    rw c.from_residual.ensures (λ rule n. c.in_err-file.ensures.only n.file n.number (four_before c.args.word.now rule n) n.parted)

pub returns-in_err-file-2 : goal.returns-in_err-file-2
returns-in_err-file-2 c =
    rw c.from_residual-in_err-file-2.ensures (λ rule n.
    let same = c.in_ok-file.ensures.only n.file n.number (four_before c.args.word.now rule n) n.parted in
    c.in_err-file-2.ensures rule.0 (rw same.0 n.file_is))

pub returns-in_err-number : goal.returns-in_err-number
returns-in_err-number c =
    rw c.from_residual-in_err-number.ensures (λ rule n.
    let same = c.in_ok-file.ensures.only n.file n.number (four_before c.args.word.now rule n) n.parted in
    c.in_err-number.ensures rule.1 (rw same.1 n.number_is))

pub returns : goal.returns
returns c = record {
  so = record {
    file = c.in_ok-file.file.now;
    number = c.in_ok-file.number.now;
    parted = c.in_ok-file.ensures.found.1;
    file_is = c.in_ok-file-2.ensures.so;
    number_is = c.in_ok-number.ensures.so;
  };
  only = λ rule n.
      let same = c.in_ok-file.ensures.only n.file n.number (four_before c.args.word.now rule n) n.parted in
      same_rule rule (c.in_ok-file-2.file, c.in_ok-number.number)
      (c.in_ok-file-2.ensures.only rule.0 (rw same.0 n.file_is)) (c.in_ok-number.ensures.only rule.1 (rw same.1 n.number_is));
}
