-- Where lines lead, and why a script is carried out to its end, or stops at one line alone.
use Rattle.std.proofs.Common.{◌≡◌, ℕ, ◌+◌, List, [], ◌∷◌, ◌++◌, length, Option, Some, None, refl, sym, ap, ◌∙◌, subst, option_and_then}
use Rattle.byte_streams.specs.Lines.{LineList}
use Rattle.script_form.specs.Forms.{IsLine}
use Rattle.script_form.specs.declared.lines.ScriptLine.{ScriptLine}
use Rattle.script_reader.proofs.AreReadLemmas.{Say-from_read}
use Rattle.script_reader.specs.Said.{Each}
use Rattle.script_reader.specs.declared.behind.PlayEnd.TheVariants.{Finished, BadLine}
use Rattle.bip_runs.specs.Parts.{moved, moved_by}
use Rattle.bip_runs.specs.Serving.{IsFirstBadBip, IsGoodBip, EndsServing, IsBadAt, IsUnstarted}
use Rattle.bip_runs.specs.declared.effects.Place.{Place}
use Rattle.bip_runs.specs.declared.effects.Place.TheVariants.{Before, Behind}
use Rattle.bip_runs.proofs.IsLineLemmas.{Only, Says, Agree, only_first, only_last, only_says, says_itself}

-- ---- places

-- a chain came to something
record Comes {A B : Type 0} (f : A → Option B) (first : Option A) (last : B) : Type 0 where
  middle : A
  first_is : first ≡ Some middle
  then_is : f middle ≡ Some last

comes : {A B : Type 0} → (f : A → Option B) (first : Option A) (last : B) → option_and_then f first ≡ Some last → Comes f first last
comes f None last is = absurd (cc)
comes f (Some middle) last is = record { middle = middle; first_is = refl; then_is = is }

same_place : {x y : Place} → Some x ≡ Some y → x ≡ y
same_place e = cc

-- one more line
pub moved_by-more : (from : Place) (said : List ScriptLine) (line : ScriptLine) (place to : Place) → moved_by from said ≡ Some place → moved place line ≡ Some to → moved_by from (said ++ line ∷ []) ≡ Some to
moved_by-more from [] line place to is one =
    ap (option_and_then (λ next. moved_by next [])) (subst (λ p. moved p line ≡ Some to) (sym (same_place is)) one)
moved_by-more from (first ∷ said) line place to is one =
    let parts = comes (λ next. moved_by next said) (moved from first) place is in
    ap (option_and_then (λ next. moved_by next (said ++ line ∷ []))) parts.first_is ∙ moved_by-more parts.middle said line place to parts.then_is one

-- ---- two readings of a text

-- a line that is bad here leads nowhere
leads_nowhere : (S : List ℕ → ScriptLine → Type 0) → Says S → (next more : LineList) (bytes : List ℕ) (line : ScriptLine) (others : List ScriptLine) (place to : Place) → next ≡ Some bytes ∷ more → IsBadAt place next → S bytes line → moved_by place (line ∷ others) ≡ Some to → ⊥
leads_nowhere S says next more bytes line others place to is bad read leads =
    let here : (one : ScriptLine) → IsLine bytes one → moved place one ≡ None = subst (IsBadAt place) is bad in
    let none = here line (says bytes line read) in
    let parts = comes (λ p. moved_by p others) (moved place line) to leads in
    let some = parts.first_is in
    cc

not_whole : (S : List ℕ → ScriptLine → Type 0) → Says S → (next : LineList) (all : List ScriptLine) (place : Place) → IsBadAt place next → Each S next all → moved_by place all ≡ Some Behind → ⊥
not_whole S says [] [] place bad each is = subst IsUnstarted (same_place is) bad
not_whole S says (Some bytes ∷ next) (line ∷ all) place bad each is = leads_nowhere S says (Some bytes ∷ next) next bytes line all place Behind refl bad each.0 is
not_whole S says (None ∷ next) [] place bad each is = each
not_whole S says next all place bad each is = each

-- a text that is good has no line at which it stops
no_stop : (R S : List ℕ → ScriptLine → Type 0) → Agree R S → Says S → (found next : LineList) (said all : List ScriptLine) (from place : Place) → Each R found said → moved_by from said ≡ Some place → IsBadAt place next → Each S (found ++ next) all → moved_by from all ≡ Some Behind → ⊥
no_stop R S agree says [] next [] all from place read is bad each whole = not_whole S says next all from (subst (λ p. IsBadAt p next) (sym (same_place is)) bad) each whole
no_stop R S agree says (x ∷ found) next [] all from place read is bad each whole = read
no_stop R S agree says (Some bytes ∷ found) next (line ∷ said) [] from place read is bad each whole = each
no_stop R S agree says (Some bytes ∷ found) next (line ∷ said) (other ∷ all) from place read is bad each whole =
    let first = comes (λ p. moved_by p said) (moved from line) place is in
    let second = comes (λ p. moved_by p all) (moved from other) Behind whole in
    let same = agree bytes line other read.0 each.0 in
    let both : first.middle ≡ second.middle = same_place (sym first.first_is ∙ ap (moved from) same ∙ second.first_is) in
    no_stop R S agree says found next said all first.middle place read.1 first.then_is bad each.1 (subst (λ p. moved_by p all ≡ Some Behind) (sym both) second.then_is)
no_stop R S agree says found next said all from place read is bad each whole = read

-- and a text stops at one line alone
one_stop : (R S : List ℕ → ScriptLine → Type 0) → Agree R S → Says R → Says S → (found other next behind : LineList) (said others : List ScriptLine) (from place to : Place)
    → Each R found said → moved_by from said ≡ Some place → IsBadAt place next → Each S other others → moved_by from others ≡ Some to → IsBadAt to behind → found ++ next ≡ other ++ behind → found ≡ other
one_stop R S agree says_r says_s [] [] next behind said others from place to read is bad each leads stop parted = refl
one_stop R S agree says_r says_s found (x ∷ other) next behind said [] from place to read is bad each leads stop parted = absurd each
one_stop R S agree says_r says_s found (None ∷ other) next behind said (line ∷ others) from place to read is bad each leads stop parted = absurd each
one_stop R S agree says_r says_s (x ∷ found) other next behind [] others from place to read is bad each leads stop parted = absurd read
one_stop R S agree says_r says_s [] (Some bytes ∷ other) next behind (line ∷ said) (one ∷ others) from place to read is bad each leads stop parted = absurd read
one_stop R S agree says_r says_s [] (Some bytes ∷ other) next behind [] (line ∷ others) from place to read is bad each leads stop parted =
    absurd (leads_nowhere S says_s next (other ++ behind) bytes line others from to parted (subst (λ p. IsBadAt p next) (sym (same_place is)) bad) each.0 leads)
one_stop R S agree says_r says_s (None ∷ found) other next behind (line ∷ said) others from place to read is bad each leads stop parted = absurd read
one_stop R S agree says_r says_s (Some bytes ∷ found) [] next behind (line ∷ said) (one ∷ others) from place to read is bad each leads stop parted = absurd each
one_stop R S agree says_r says_s (Some bytes ∷ found) [] next behind (line ∷ said) [] from place to read is bad each leads stop parted =
    absurd (leads_nowhere R says_r behind (found ++ next) bytes line said from place (sym parted) (subst (λ p. IsBadAt p behind) (sym (same_place leads)) stop) read.0 is)
one_stop R S agree says_r says_s (Some bytes ∷ found) (Some same ∷ other) next behind (line ∷ said) (one ∷ others) from place to read is bad each leads stop parted =
    let cons : Some bytes ∷ (found ++ next) ≡ Some same ∷ (other ++ behind) = parted in
    let bytes_are : bytes ≡ same = cc in
    let rest : found ++ next ≡ other ++ behind = cc in
    let first = comes (λ p. moved_by p said) (moved from line) place is in
    let second = comes (λ p. moved_by p others) (moved from one) to leads in
    let lines_are = agree same line one (subst (λ b. R b line) bytes_are read.0) each.0 in
    let both : first.middle ≡ second.middle = same_place (sym first.first_is ∙ ap (moved from) lines_are ∙ second.first_is) in
    let more = one_stop R S agree says_r says_s found other next behind said others first.middle place to read.1 first.then_is bad each.1 (subst (λ p. moved_by p others ≡ Some to) (sym both) second.then_is) stop rest in
    ap (λ b. Some b ∷ found) bytes_are ∙ ap (λ l. Some same ∷ l) more

-- ---- what a run comes to by its script

-- a good script stops at no line
pub good_stops_not : (text : List ℕ) (before left taken : Option (List ℕ)) (number : ℕ) → IsGoodBip text → EndsServing text before left taken (BadLine number) → ⊥
good_stops_not text before left taken number good ends =
    no_stop Only IsLine only_first says_itself ends.found ends.cause.next ends.said good.said Before ends.place ends.lines_are.read ends.lines_are.in_place ends.cause.is
    (subst (λ l. Each IsLine l good.said) ends.cause.parted good.good.say) good.good.in_place

-- one with a bad line is not carried out to its end
pub bad_ends_not : (text : List ℕ) (before left taken : Option (List ℕ)) (found : LineList) → IsFirstBadBip text found → EndsServing text before left taken Finished → ⊥
bad_ends_not text before left taken found bad ends =
    no_stop IsLine Only only_last only_says found bad.next bad.said ends.said Before bad.place bad.good.say bad.good.in_place bad.is
    (subst (λ l. Each Only l ends.said) (sym ends.cause.1.lines_are ∙ bad.parted) ends.lines_are.read) (ends.lines_are.in_place ∙ ap Some ends.cause.0)

-- it stops at that line
pub bad_stops_there : (text : List ℕ) (before left taken : Option (List ℕ)) (found : LineList) (number : ℕ) → IsFirstBadBip text found → EndsServing text before left taken (BadLine number) → number ≡ length found + 1
bad_stops_there text before left taken found number bad ends =
    ends.cause.counted ∙ ap (λ l. length l + 1) (one_stop Only IsLine only_first only_says says_itself ends.found found ends.cause.next bad.next ends.said bad.said Before ends.place bad.place
    ends.lines_are.read ends.lines_are.in_place ends.cause.is bad.good.say bad.good.in_place bad.is (sym ends.cause.parted ∙ bad.parted))

-- a run that came to the end of its script had a good one
pub end_was_good : (text : List ℕ) (before left taken : Option (List ℕ)) → EndsServing text before left taken Finished → IsGoodBip text
end_was_good text before left taken ends = record {
  said = ends.said;
  good = record {
    say = subst (λ l. Each IsLine l ends.said) (sym ends.cause.1.lines_are) (Say-from_read ends.found ends.said ends.lines_are.read);
    in_place = ends.lines_are.in_place ∙ ap Some ends.cause.0;
  };
}

-- and one that stopped at a line stopped at the first bad one
pub stop_was_bad : (text : List ℕ) (before left taken : Option (List ℕ)) (number : ℕ) → (ends : EndsServing text before left taken (BadLine number)) → IsFirstBadBip text ends.found
stop_was_bad text before left taken number ends = record {
  said = ends.said;
  place = ends.place;
  next = ends.cause.next;
  parted = ends.cause.parted;
  good = record { say = Say-from_read ends.found ends.said ends.lines_are.read; in_place = ends.lines_are.in_place };
  is = ends.cause.is;
}
