-- The run is in one mode alone: in its branch all that is said of the other modes is refuted, and its own call says the rest.
use Rattle.std.proofs.Common.{◌≡◌, Some, refl, ap, arith, inl, sym, ◌∙◌, rules}
use Rattle.byte_streams.proofs.ReadingLemmas.{IsTaken-none}
use Rattle.command_line.specs.declared.requests.Mode.TheVariants.{Bip, Load, Open}
use Rattle.uicc_run.specs.Endings.{status_for}
use Rattle.uicc_run.specs.Opening.{first_of, is_served_by, is_handset}
use Rattle.uicc_run.proofs.EndsForLemmas.{ends_unbegun}
use Rattle.uicc_run.proofs.OpeningLemmas.{not_begun}
use Rattle.uicc_run.proofs.IsToPlayLemmas.{to_play}
use Rattle.uicc_run.proofs.ModeLemmas.{makes_bare, no_bip, no_load, not_bip, not_load, the_load}
use Rattle.uicc_run.proofs.running.carry_out.Goals as goal

pub returns-in-Ok : goal.returns-in-Ok
returns-in-Ok g c = record {
  comes = λ given told from.
      c.read_and_play.ensures.comes given told (to_play given told _ _ _ _ _ from (from.served_is ∙ sym (ap is_handset c.listener_for-listener.ensures)) (from.first_is ∙ makes_bare _ c.in-Play.is ∙ ap Some (sym c.in-Ok.ensures))) from.others_are;
  content = λ given told from.
      c.read_and_play.ensures.memory given from.store_is (to_play given told _ _ _ _ _ from (from.served_is ∙ sym (ap is_handset c.listener_for-listener.ensures)) (from.first_is ∙ makes_bare _ c.in-Play.is ∙ ap Some (sym c.in-Ok.ensures)));
  taken = c.read_and_play.ensures.taken;
  load = λ start count is. absurd (not_load start count _ is c.in-Play.is);
  bip = λ is. absurd (not_bip _ is c.in-Play.is);
  used = c.read_and_play.ensures.used;
  ends = c.read_and_play.ensures.ends;
}

pub returns-in-Open : goal.returns-in-Open
returns-in-Open g c = record {
  comes = λ given told from.
      c.read_and_play-in-Open.ensures.comes given told (to_play given told _ _ _ _ _ from (from.served_is ∙ ap is_served_by c.in-Open.is) (from.first_is ∙ ap first_of c.in-Open.is)) from.others_are;
  content = λ given told from.
      c.read_and_play-in-Open.ensures.memory given from.store_is (to_play given told _ _ _ _ _ from (from.served_is ∙ ap is_served_by c.in-Open.is) (from.first_is ∙ ap first_of c.in-Open.is));
  taken = c.read_and_play-in-Open.ensures.taken;
  load = λ start count is. let differ : Load start count ≡ Open = sym is ∙ c.in-Open.is in absurd (cc);
  bip = λ is. let differ : Bip ≡ Open = sym is ∙ c.in-Open.is in absurd (cc);
  used = c.read_and_play-in-Open.ensures.used;
  ends = c.read_and_play-in-Open.ensures.ends;
}

-- without memory for the lines before `start`
pub returns-in-Err : goal.returns-in-Err
returns-in-Err g c = record {
  comes = λ given told from. not_begun given told _ _ _ _ _ _ _ from.text_is from.others_are;
  content = λ given told from. record { bytes = λ none kept. refl; half_made = λ some failed. absurd (cc); no_memory = λ some wanting. inl refl };
  taken = λ text told. IsTaken-none _ text _ told;
  load = λ start count is. absurd (not_load start count _ is c.in-Play.is);
  bip = λ is. absurd (not_bip _ is c.in-Play.is);
  used = λ is. cc is;
  ends = ends_unbegun _ _ (λ three. omega (arith, three)) (λ four. omega (arith, four)) (λ six. omega (arith, six)) (λ unshown. unshown) (λ early. absurd early) (λ unopened. refl);
}

pub returns-in-Load : goal.returns-in-Load
returns-in-Load g c = record {
  comes = λ given told from. absurd (no_load _ c.in-Load.start c.in-Load.count c.in-Load.is from.for_card);
  content = λ given told from. absurd (no_load _ c.in-Load.start c.in-Load.count c.in-Load.is from.for_card);
  taken = λ text told. IsTaken-none _ text _ told;
  load = λ start count is. record {
    comes = λ given told taken over. the_load given told start count c.in-Load.start c.in-Load.count _ c.load.result.0 _ is c.in-Load.is (c.load.ensures.comes given told taken over);
    unwritten = refl;
    unread = refl;
    no_memory = c.load.ensures.no_memory;
  };
  bip = λ is. let differ : Bip ≡ Load c.in-Load.start c.in-Load.count = sym is ∙ c.in-Load.is in absurd (cc);
  used = c.load.ensures.ends.used;
  ends = search (rules, c.load.ensures.ends);
}

pub returns-in-Bip : goal.returns-in-Bip
returns-in-Bip g c = record {
  comes = λ given told from. absurd (no_bip _ c.in-Bip.is from.for_card);
  content = λ given told from. absurd (no_bip _ c.in-Bip.is from.for_card);
  taken = c.serve_channels.ensures.taken;
  load = λ start count is. let differ : Load start count ≡ Bip = sym is ∙ c.in-Bip.is in absurd (cc);
  bip = λ is. record { comes = c.serve_channels.ensures.comes; low = c.serve_channels.ensures.low; memory_kept = refl; boxes_kept = refl };
  used = c.serve_channels.ensures.used;
  ends = record {
    source_cause = c.serve_channels.ensures.source_cause;
    sink_cause = c.serve_channels.ensures.sink_cause;
    memory_cause = λ six. let low = c.serve_channels.ensures.low in absurd (omega (arith, six, low));
    reset_cause = λ is. let six = ap status_for is in let low = c.serve_channels.ensures.low in absurd (omega (arith, six, low));
    tells = c.serve_channels.ensures.tells;
    unshown = λ unshown. absurd (c.serve_channels.ensures.shown unshown);
    untouched = λ early. refl;
    boxes = λ unopened. refl;
  };
}
