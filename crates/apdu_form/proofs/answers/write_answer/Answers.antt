use Rattle.std.proofs.Common.{rules, arith, refl, ap, ◌∙◌, ◌++◌, ◌≡◌, ◌+◌, ◌-◌, length, ℕ, length-append, take_at}
use Rattle.std.proofs.lemmas.Slice.{overwrites, take-put_mid}
use borrow.Rule.Slice.PartMut.{post_of}
use Rattle.apdu_form.proofs.answers.write_answer.Goals as goal

pub returns-clause-written : goal.returns-clause-written
returns-clause-written c =
    let body = c.copy_from_slice.new.self in
    let status = c.copy_from_slice-2.new.self in
    let end = length c.as_slice-body.result.now in
    let after = post_of 0 end c.args.out.now in
    let same : body ≡ c.args.answer.now.body = cc in
    let two : length status ≡ 2 = rw c.copy_from_slice-2.ensures.after (rw c.to_be_bytes.ensures refl) in
    let count : length body ≡ end = cc in
    take-put_mid end (end + 2 - end) (body ++ after) status (end + 2) (omega arith) (omega (arith, length-append {A = ℕ}))
    ∙ (ap (λ front. front ++ status) (take_at body after end count) ∙ cc)

pub returns-clause-rest : goal.returns-clause-rest
returns-clause-rest c = search (rules, overwrites)
