use Rattle.std.proofs.Common.{◌≡◌, [], arith, subst}
use Rattle.uicc_run.specs.Answering.{AnswersAsAsked}
use Rattle.uicc_run.specs.Pages.{words_of}
use Rattle.uicc_run.specs.Worlds.{outside}
use Rattle.boxed_applets.proofs.CastsLemmas.{all_made}
use Rattle.uicc_program.proofs.serve.Goals as goal
use Rattle.uicc_program.proofs.serve.Goals.{in-1-boxed_applet+in_Continue-boxed_applet-boxed_applet+in_ok-put_on_shelf, in-2-boxed_applet+in_Continue-boxed_applet-boxed_applet-2+in_ok-put_on_shelf-2, in-3-boxed_applet+in_Continue-boxed_applet-boxed_applet-3+in_ok-put_on_shelf-3, in-4-boxed_applet+in_Continue-boxed_applet-boxed_applet-4+in_ok-put_on_shelf-4, in-5-boxed_applet+in_Continue-boxed_applet-boxed_applet-5+in_ok-put_on_shelf-5, in-6-boxed_applet+in_Continue-boxed_applet-boxed_applet-6+in_ok-put_on_shelf-6, in_default+in_Continue-boxed_applet-boxed_applet-7+in_ok-put_on_shelf-7}

pub returns-clause-answers : goal.returns-clause-answers
returns-clause-answers g c =
    let after = outside g.R.Source g.W.Sink c.answer.new.script c.answer.new.output [] in
    let made = all_made _ _ c.loop-shelf.invariant.0 (omega arith) in
    subst (λ boxes. AnswersAsAsked (words_of c.args.arguments.now) c.answer.result (outside g.R.Source g.W.Sink c.args.script.now c.args.output.now boxes) after (c.answer.new.script ≡ c.args.script.now)) made c.answer.ensures

pub loop-shelf-preserved : goal.loop-shelf-preserved
loop-shelf-preserved g c = elim c.match-boxed_applet.branch [
  | in-1-boxed_applet+in_Continue-boxed_applet-boxed_applet+in_ok-put_on_shelf w ↦ rw w.cast-is (w.in_ok-put_on_shelf.ensures.made, w.in_ok-put_on_shelf.ensures.next)
  | in-2-boxed_applet+in_Continue-boxed_applet-boxed_applet-2+in_ok-put_on_shelf-2 w ↦ rw w.cast-is (w.in_ok-put_on_shelf-2.ensures.made, w.in_ok-put_on_shelf-2.ensures.next)
  | in-3-boxed_applet+in_Continue-boxed_applet-boxed_applet-3+in_ok-put_on_shelf-3 w ↦ rw w.cast-is (w.in_ok-put_on_shelf-3.ensures.made, w.in_ok-put_on_shelf-3.ensures.next)
  | in-4-boxed_applet+in_Continue-boxed_applet-boxed_applet-4+in_ok-put_on_shelf-4 w ↦ rw w.cast-is (w.in_ok-put_on_shelf-4.ensures.made, w.in_ok-put_on_shelf-4.ensures.next)
  | in-5-boxed_applet+in_Continue-boxed_applet-boxed_applet-5+in_ok-put_on_shelf-5 w ↦ rw w.cast-is (w.in_ok-put_on_shelf-5.ensures.made, w.in_ok-put_on_shelf-5.ensures.next)
  | in-6-boxed_applet+in_Continue-boxed_applet-boxed_applet-6+in_ok-put_on_shelf-6 w ↦ rw w.cast-is (w.in_ok-put_on_shelf-6.ensures.made, w.in_ok-put_on_shelf-6.ensures.next)
  | in_default+in_Continue-boxed_applet-boxed_applet-7+in_ok-put_on_shelf-7 w ↦ rw w.cast-is (w.in_ok-put_on_shelf-7.ensures.made, w.in_ok-put_on_shelf-7.ensures.next)
]
