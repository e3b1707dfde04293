-- What the sink has taken of a TPDU's lines.
use Rattle.std.proofs.Common.{◌≡◌, ℕ, List, [], ◌∷◌, ◌++◌, Option, refl, sym, ap, ◌∙◌, inl, inr, rules}
use Rattle.std.specs.Io.KnownBytes.{append_known}
use Rattle.uicc_types.specs.Told.{Becomes}
use Rattle.uicc_types.specs.declared.answers.Answer.{Answer}
use Rattle.uicc_types.specs.declared.runs.TraceItem.{TraceItem}
use Rattle.uicc_types.specs.declared.runs.TraceItem.TheVariants as item
use Rattle.t0_link.specs.Linking.{Course}
use Rattle.byte_streams.specs.Streams.{TakesFront}
use Rattle.script_form.specs.Traces.{trace_text}
use Rattle.script_form.specs.declared.trace.TraceLine.TheVariants as line
use Rattle.card_model.specs.Runs.{armed_after}
use Rattle.run_steps.specs.Ends.{End, moment_at}
use Rattle.run_steps.specs.TakingTpdus.{BreaksTpdu, Delivers, TakesTpdu}
use Rattle.run_steps.specs.Tpdus.{steps_of, shown_for}
use Rattle.run_steps.specs.Runs.{item_text}
use Rattle.run_steps.specs.Taking.{machine_of}
use Rattle.run_steps.specs.Stepping.{IsSeenBy}
use Rattle.run_steps.specs.Views.{CardView}
use Rattle.run_steps.proofs.SteppingLemmas.{holds_seen, idle_counted, in_one_line, text_of_one, text_of_two, told_front, told_more}

module _ (tpdu : List ℕ) (old : CardView) (course : Course) (keeps kept : Option Answer) where
  -- both lines were written
  pub takes : (from to : End) (taken mid now : Option (List ℕ)) (reply : TraceItem) → Delivers old course reply kept from to
      → mid ≡ append_known taken (trace_text (line.Command tpdu)) → now ≡ append_known mid (item_text reply) → TakesTpdu old tpdu course kept (moment_at from taken) (moment_at to now)
  takes from to taken mid now reply delivered command replied =
      search (rules, delivered, told_more taken mid now (item_text (item.Command tpdu)) (item_text reply) replied command ∙ ap (append_known taken) (text_of_two (item.Command tpdu) reply))

  -- the sink failed in the second line
  pub breaks_reply : (from to : End) (taken mid now : Option (List ℕ)) (reply : TraceItem) → Delivers old course reply kept from to
      → mid ≡ append_known taken (trace_text (line.Command tpdu)) → Becomes (TakesFront (item_text reply)) mid now → BreaksTpdu old tpdu course keeps kept (moment_at from taken) (moment_at to now)
  breaks_reply from to taken mid now reply delivered command broken =
      let front = told_front mid now (item_text reply) broken in
      record {
        card = delivered.card;
        own = delivered.own;
        pending = shown_for tpdu reply;
        front = item_text (item.Command tpdu) ++ front.front;
        set = armed_after from.waiting (steps_of course);
        stands = holds_seen to.parts delivered.card delivered.seen;
        broken = inr (reply, delivered.gives, refl, refl);
        cut_off = record {
          whole = item.Command tpdu ∷ [];
          last = reply;
          part = front.front;
          parted = refl;
          begun = front.begun;
          written = ap (λ start. start ++ front.front) (sym (text_of_one (item.Command tpdu)));
        };
        written = told_more taken mid now (item_text (item.Command tpdu)) front.front front.written command;
        counted = delivered.counted;
        back = delivered.back;
      }

-- the sink failed in the line of the TPDU
pub breaks_tpdu : (tpdu : List ℕ) (old : CardView) (course : Course) (keeps : Option Answer) (end : End) (taken now : Option (List ℕ)) → IsSeenBy old (machine_of end.parts) end.parts.is_on
    → Becomes (TakesFront (trace_text (line.Command tpdu))) taken now → BreaksTpdu old tpdu course keeps keeps (moment_at end taken) (moment_at end now)
breaks_tpdu tpdu old course keeps end taken now is broken =
    let front = told_front taken now (item_text (item.Command tpdu)) broken in
    record {
      card = old;
      own = [];
      pending = item.Command tpdu ∷ [];
      front = front.front;
      set = [];
      stands = holds_seen end.parts old is;
      broken = inl (refl, refl, refl, refl, refl);
      cut_off = in_one_line (item.Command tpdu) taken now front;
      written = front.written;
      counted = idle_counted end.parts.meter;
      back = tt;
    }
