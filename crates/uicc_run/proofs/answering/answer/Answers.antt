-- The device and the boxes are let go at the end: what a run owes is kept of some values of them, and the rest is told without them.
use Rattle.std.proofs.Common.{◌≡◌, ℕ, true, Some, length, refl, ap, sym, subst, ◌∙◌}
use Rattle.std.proofs.lemmas.List.{length-replicate}
use Rattle.script_form.specs.Reads.{IsOnly}
use Rattle.applet_trait.specs.Minds.{minds_of}
use Rattle.command_line.specs.Model.{IsRequest}
use Rattle.uicc_run.specs.Loading.{LoadsFrom}
use Rattle.uicc_run.specs.Opening.{RunsFrom}
use Rattle.uicc_run.specs.Pages.{AsksFor, words_of}
use Rattle.uicc_run.specs.Worlds.{outside, over_bench}
use Rattle.uicc_run.specs.declared.pages.Page.{Page}
use Rattle.uicc_run.proofs.AnsweringLemmas.{answers_page, answers_refused, answers_so, answers_unmade, has_loaded, has_run, is_of_use, load_size_given, size_given}
use Rattle.uicc_run.proofs.answering.answer.Goals as goal

-- ---- over the file of an image

pub run_for-status-requires : goal.run_for-status-requires
run_for-status-requires g c = record { fits = record { size = ap (λ d. d.size) c.new-eeprom.ensures ∙ c.device_size-size.ensures; shelves = c.requires.shelves } }

pub returns-in-Some-image_path : goal.returns-in-Some-image_path
returns-in-Some-image_path g c =
    let is = subst (λ w. IsOnly (IsRequest w) c.in-Some-asked_for.asked) c.behind_name-words.ensures c.in-Some-asked_for.ensures in
    let others = λ (page : Page) (asks : AsksFor (words_of c.args.arguments.now) page). c.in-None.ensures page (c.behind_name-words.ensures ∙ asks) in
    let ran = c.run_for-status.ensures (words_of c.args.arguments.now) is in
    let new = ap (λ d. d.meter) c.new-eeprom.ensures in
    answers_so _ _ _ _ new ran others (is_of_use _ _ _ _ new ran (c.in-Some-asked_for.asked, is.so))
    (λ none. let no_path = c.image_path.ensures.none (none c.in-Some-asked_for.asked is.so) in absurd (cc)) (λ none. let no_path = c.image_path.ensures.none (none c.in-Some-asked_for.asked is.so) in absurd (cc))

-- ---- over a new bench, which is written as the device that the run takes

pub run_for-status-requires-in-Ok : goal.run_for-status-requires-in-Ok
run_for-status-requires-in-Ok g c = record {
  fits = record { size = ap (λ bench. length bench.bytes) c.in-Ok.ensures ∙ length-replicate {A = ℕ} c.device_size-size.result 255 ∙ c.device_size-size.ensures; shelves = c.requires.shelves };
}

pub returns-in-Ok : goal.returns-in-Ok
returns-in-Ok g c =
    let is = subst (λ w. IsOnly (IsRequest w) c.in-Some-asked_for.asked) c.behind_name-words.ensures c.in-Some-asked_for.ensures in
    let others = λ (page : Page) (asks : AsksFor (words_of c.args.arguments.now) page). c.in-None.ensures page (c.behind_name-words.ensures ∙ asks) in
    let before = outside g.R.Source g.W.Sink c.args.script.now c.args.output.now (minds_of g.B.Applet.mind c.args.cast.items) in
    let ran = c.run_for-status-in-Ok.ensures (words_of c.args.arguments.now) is in
    let new = ap (λ bench. bench.meter) c.in-Ok.ensures in
    answers_so _ _ _ _ new ran others (is_of_use _ _ _ _ new ran (c.in-Some-asked_for.asked, is.so))
    (λ none given from. has_run _ _ _ _ new ran given
    (subst (λ b. RunsFrom given true (words_of c.args.arguments.now) (record before { contents = Some b.bytes; meter = b.meter })) (sym c.in-Ok.ensures)
    (subst (λ size. RunsFrom given true (words_of c.args.arguments.now) (over_bench size before)) (size_given given _ _ _ is c.device_size-size.ensures from.is_asked) from)))
    (λ none given start count from. has_loaded _ _ _ _ new ran given true start count
    (subst (λ b. LoadsFrom given true start count (words_of c.args.arguments.now) (record before { contents = Some b.bytes; meter = b.meter })) (sym c.in-Ok.ensures)
    (subst (λ size. LoadsFrom given true start count (words_of c.args.arguments.now) (over_bench size before)) (load_size_given given true start count _ _ _ _ is c.device_size-size.ensures from) from)))

-- ---- without memory for one, where the run ends as one that was never begun

pub returns-in-Err : goal.returns-in-Err
returns-in-Err g c =
    let is = subst (λ w. IsOnly (IsRequest w) c.in-Some-asked_for.asked) c.behind_name-words.ensures c.in-Some-asked_for.ensures in
    let others = λ (page : Page) (asks : AsksFor (words_of c.args.arguments.now) page). c.in-None.ensures page (c.behind_name-words.ensures ∙ asks) in
    let before = outside g.R.Source g.W.Sink c.args.script.now c.args.output.now (minds_of g.B.Applet.mind c.args.cast.items) in
    answers_unmade (c.args.script.now ≡ c.args.script.now) (words_of c.args.arguments.now) c.close.result before (g.W.Sink.taken c.close.new.trace) (g.W.Sink.faults c.close.new.trace) refl others (c.in-Some-asked_for.asked, is.so)
    c.close.ensures.closed c.close.ensures.status c.close.ensures.cause

-- ---- words in no form

pub returns-in-None-asked_for : goal.returns-in-None-asked_for
returns-in-None-asked_for g c =
    let others = λ (page : Page) (asks : AsksFor (words_of c.args.arguments.now) page). c.in-None.ensures page (c.behind_name-words.ensures ∙ asks) in
    let before = outside g.R.Source g.W.Sink c.args.script.now c.args.output.now (minds_of g.B.Applet.mind c.args.cast.items) in
    answers_refused (c.args.script.now ≡ c.args.script.now) (words_of c.args.arguments.now) c.close-in-None-asked_for.result before (g.W.Sink.taken c.close-in-None-asked_for.new.trace) (g.W.Sink.faults c.close-in-None-asked_for.new.trace) refl others
    (λ asks. c.in-None-asked_for.ensures asks.0 (subst (λ w. IsRequest w asks.0) (sym c.behind_name-words.ensures) asks.1)) c.close-in-None-asked_for.ensures.closed c.close-in-None-asked_for.ensures.status c.close-in-None-asked_for.ensures.cause

-- ---- a page

pub returns-in-Some : goal.returns-in-Some
returns-in-Some g c =
    let is = subst (λ w. IsOnly (AsksFor w) c.in-Some.page) c.behind_name-words.ensures c.in-Some.ensures in
    let before = outside g.R.Source g.W.Sink c.args.script.now c.args.output.now (minds_of g.B.Applet.mind c.args.cast.items) in
    answers_page (c.args.script.now ≡ c.args.script.now) (words_of c.args.arguments.now) c.in-Some.page c.show.result before (g.W.Sink.taken c.show.new.output) (g.W.Sink.faults c.show.new.output) refl is c.show.ensures.shown c.show.ensures.cause
