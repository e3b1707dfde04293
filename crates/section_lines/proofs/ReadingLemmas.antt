-- Why the reading of a section ends, and where it goes on.
use Rattle.std.proofs.Common.{◌≡◌, ℕ, ◌+◌, List, [], ◌∷◌, ◌++◌, Bool, true, false, Option, Some, None, Ok, Err, refl, sym, ap, ◌∙◌, subst, append-nil}
use Rattle.byte_streams.proofs.ReadingLemmas.{IsTakenFor-read_out}
use Rattle.byte_streams.specs.Lines.{LineList}
use Rattle.script_form.specs.declared.lines.ScriptLine.{ScriptLine}
use Rattle.script_reader.proofs.AreReadLemmas.{AreRead-more}
use Rattle.script_reader.specs.Reading.{Finds, Follows, GivesNext, IsUnread}
use Rattle.script_reader.specs.Said.{AreRead}
use Rattle.script_reader.specs.declared.faults.ScriptFault.{ScriptFault}
use Rattle.script_reader.specs.declared.faults.ScriptFault.TheVariants.{BadLine, NoRoom, ReadFailed}
use Rattle.script_reader.specs.declared.reader.ScriptReader.{ScriptReader}
use Rattle.card_state.specs.Persistent.{Persistent}
use Rattle.card_state.specs.declared.faults.SectionFault.TheVariants.{NoRoom as has_no_room}
use Rattle.applet_trait.specs.Minds.{AppletState}
use Rattle.section_lines.specs.SectionReading.{EndsInSection, GivesSectionLine, InSection, IsAdded, IsBadHere, IsOutOfPlace, StopsAt}
use Rattle.section_lines.specs.Script.{with_line}
use Rattle.section_lines.proofs.WithLinesLemmas.{with_lines-more}

unread_is_bad : (cast : List (Option AppletState)) (card : Option Persistent) (next : LineList) → IsUnread next → IsBadHere cast card next
unread_is_bad cast card [] unread = tt
unread_is_bad cast card (None ∷ more) unread = tt
unread_is_bad cast card (Some bytes ∷ more) unread = λ line says. absurd (unread line says)

-- the script itself is bad or fails
pub in_script : (cast : List (Option AppletState)) (text : List ℕ) (given : LineList) (card : Option Persistent) (script : ScriptReader) (left : Option (List ℕ)) (line : ScriptLine) (fault : ScriptFault)
    → GivesNext text given script left line (Err fault) → StopsAt cast text given card left fault
in_script cast text given card script left line (BadLine number) gives =
    record { next = gives.next; parted = gives.parted; is = unread_is_bad cast card gives.next gives.is; counted = gives.counted; reach = gives.reach }
in_script cast text given card script left line (NoRoom number) gives = absurd gives
in_script cast text given card script left line ReadFailed gives = gives

-- it ends before `start`
pub at_end : (cast : List (Option AppletState)) (text : List ℕ) (given : LineList) (card : Option Persistent) (script : ScriptReader) (left : Option (List ℕ)) (line : ScriptLine) (fault : ScriptFault)
    → GivesNext text given script left line (Ok false) → fault ≡ BadLine (script.number + 1) → StopsAt cast text given card left fault
at_end cast text given card script left line fault gives is =
    subst (StopsAt cast text given card left) (sym is)
    (record { next = []; parted = gives.0.lines_are ∙ sym (append-nil given); is = tt; counted = ap (λ count. count + 1) gives.1; reach = IsTakenFor-read_out text given left gives.0 })

-- a line may not stand where it does
pub out_of_place : (cast : List (Option AppletState)) (text : List ℕ) (given : LineList) (card : Option Persistent) (script : ScriptReader) (left : Option (List ℕ)) (line : ScriptLine) (number : ℕ)
    → Finds text given script left line → IsOutOfPlace cast card line → number ≡ script.number → StopsAt cast text given card left (BadLine number)
out_of_place cast text given card script left line number finds out is = record {
  next = Some finds.bytes ∷ finds.more;
  parted = finds.parted;
  is = λ other says. subst (IsOutOfPlace cast card) (sym (finds.read.only other says)) out;
  counted = is ∙ finds.counts;
  reach = finds.reach;
}

-- there is no room for the file of a line
pub too_much : (cast : List (Option AppletState)) (text : List ℕ) (given : LineList) (card : Option Persistent) (script : ScriptReader) (left : Option (List ℕ)) (line : ScriptLine) (number : ℕ)
    → Finds text given script left line → with_line cast card line ≡ Err has_no_room → number ≡ script.number → StopsAt cast text given card left (NoRoom number)
too_much cast text given card script left line number finds none is = record {
  next = Some finds.bytes ∷ finds.more;
  parted = finds.parted;
  is = (line, finds.read, none);
  counted = is ∙ finds.counts;
  reach = finds.reach;
}

-- reading ends after the lines of a section
pub ends : (cast : List (Option AppletState)) (first : Option Persistent) (text : List ℕ) (script : ScriptReader) (left left_then : Option (List ℕ)) (card : Option Persistent) (fault : ScriptFault)
    → ((given : LineList) → Follows text given script left → StopsAt cast text given card left_then fault) → InSection cast first text script left card → EndsInSection cast first text left_then fault
ends cast first text script left left_then card fault cause section = record {
  section = section.section;
  given = section.given;
  card = card;
  read = section.read;
  described = section.described;
  cause = cause section.given section.follows;
}

-- one more line was taken
pub takes : (cast : List (Option AppletState)) (first : Option Persistent) (text : List ℕ) (script next : ScriptReader) (left left_then : Option (List ℕ)) (old new : Option Persistent) (line : ScriptLine) (started : Bool)
    → ((given : LineList) → Follows text given script left → Finds text given next left_then line) → IsAdded cast old line new (Ok started) → InSection cast first text script left old
    → GivesSectionLine cast first text next left_then new (Ok started)
takes cast first text script next left left_then old new line true found added section =
    let finds = found section.given section.follows in
    record {
      section = section.section;
      given = section.given ++ Some finds.bytes ∷ [];
      read = subst (λ l. AreRead (section.given ++ Some finds.bytes ∷ []) (section.section ++ l ∷ [])) added.0 (AreRead-more section.given section.section finds.bytes line section.read finds.read);
      described = section.described ∙ ap Ok (sym added.1);
      follows = finds.follows;
      reach = record { before = section.given; last = Some finds.bytes; parted = refl; reach = finds.reach };
    }
takes cast first text script next left left_then old new line false found added section =
    let finds = found section.given section.follows in
    record {
      section = section.section ++ line ∷ [];
      given = section.given ++ Some finds.bytes ∷ [];
      read = AreRead-more section.given section.section finds.bytes line section.read finds.read;
      described = with_lines-more cast first old (Ok new) section.section line section.described added;
      follows = finds.follows;
    }
