-- Between two lines the section is where it was at first, or further.
use Rattle.std.proofs.Common.{ℕ, List, Option, ◌≡◌}
use Rattle.byte_streams.specs.Reading.{IsWithin}
use Rattle.card_state.specs.Persistent.{Persistent}
use Rattle.applet_trait.specs.Minds.{minds_of}
use Rattle.section_lines.specs.SectionReading.{InSection}
use Rattle.section_lines.proofs.sections.read_section.Given as goal

abbrev pub invariant-loop : goal.invariant-loop
invariant-loop g l = record {
  section : (first : Option Persistent) (text : List ℕ) → InSection (minds_of g.B.Applet.mind l.initial.cast) first text l.initial.script (g.R.Source.left l.initial.source) l.initial.card
      → InSection (minds_of g.B.Applet.mind l.initial.cast) first text l.script (g.R.Source.left l.source) l.card;
  within : (text : List ℕ) → IsWithin text l.initial.script.reader (g.R.Source.left l.initial.source) → IsWithin text l.script.reader (g.R.Source.left l.source);
  no_failure : g.R.Source.faults l.source ≡ g.R.Source.faults l.initial.source;
}

abbrev pub decreases-loop : goal.decreases-loop
decreases-loop g l = l.script.reader.room
