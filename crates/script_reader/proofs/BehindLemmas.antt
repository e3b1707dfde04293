-- Why no more lines are read after `start`.
use Rattle.std.proofs.Common.{◌≡◌, ℕ, Bool, false, List, [], ◌∷◌, Option, Some, None, Err, sym, ◌∙◌, subst}
use Rattle.byte_streams.specs.Lines.{LineList}
use Rattle.script_form.specs.declared.lines.ScriptLine.{ScriptLine}
use Rattle.script_reader.specs.Behind.{IsBadBehind, StopsReading, end_for}
use Rattle.script_reader.specs.Reading.{Finds, GivesNext, IsUnread}
use Rattle.script_reader.specs.declared.behind.PlayEnd.{PlayEnd}
use Rattle.script_reader.specs.declared.behind.PlayEnd.TheVariants.{BadLine}
use Rattle.script_reader.specs.declared.faults.ScriptFault.{ScriptFault}
use Rattle.script_reader.specs.declared.faults.ScriptFault.TheVariants as fault
use Rattle.script_reader.specs.declared.reader.ScriptReader.{ScriptReader}

unread_is_bad : (may : ScriptLine → Bool) (next : LineList) → IsUnread next → IsBadBehind may next
unread_is_bad may [] unread = absurd unread
unread_is_bad may (None ∷ more) unread = tt
unread_is_bad may (Some bytes ∷ more) unread = λ line says. absurd (unread line says)

-- the script itself is bad or fails
pub stops_so : (may : ScriptLine → Bool) (text : List ℕ) (found : LineList) (script : ScriptReader) (left : Option (List ℕ)) (line : ScriptLine) (why : ScriptFault) (end : PlayEnd) → end ≡ end_for why
    → GivesNext text found script left line (Err why) → StopsReading may text found left end
stops_so may text found script left line (fault.BadLine number) end is gives = subst (StopsReading may text found left) (sym is)
    (record { next = gives.next; parted = gives.parted; is = unread_is_bad may gives.next gives.is; counted = gives.counted; reach = gives.reach })
stops_so may text found script left line (fault.NoRoom number) end is gives = absurd gives
stops_so may text found script left line fault.ReadFailed end is gives = subst (StopsReading may text found left) (sym is) gives

-- it may not stand there
pub bad_behind : (may : ScriptLine → Bool) (text : List ℕ) (found : LineList) (script : ScriptReader) (left : Option (List ℕ)) (line : ScriptLine) (number : ℕ) → Finds text found script left line → may line ≡ false → number ≡ script.number
    → StopsReading may text found left (BadLine number)
bad_behind may text found script left line number finds out is = record {
  next = Some finds.bytes ∷ finds.more;
  parted = finds.parted;
  is = λ other says. subst (λ l. may l ≡ false) (sym (finds.read.only other says)) out;
  counted = is ∙ finds.counts;
  reach = finds.reach;
}
