-- What MANAGE CHANNEL comes to, by what its card is known: nothing that is held moves.
use Rattle.std.proofs.Common.{◌≡◌, ℕ, false, List, [], length, Option, refl, sym, ap, subst, Result, Ok, Err, unwrap_or, option_to_list}
use Rattle.uicc_types.specs.Counts.{raised_by}
use Rattle.uicc_types.specs.declared.answers.Answer.{Answer}
use Rattle.uicc_types.specs.declared.answers.StatusWord.{StatusWord}
use Rattle.uicc_types.specs.declared.answers.TheConstants.StatusWord.{DONE}
use Rattle.apdu_form.specs.Classes.{channel_of}
use Rattle.apdu_form.specs.Model.{Apdu}
use Rattle.card_state.specs.Persistent.{Persistent}
use Rattle.file_model.specs.Chains.{and_given}
use Rattle.file_model.specs.Channels.{ChannelOutcome, selected_on, channel_tried}
use Rattle.file_model.specs.declared.selections.Selection.{Selection}
use Rattle.file_model.specs.declared.selections.TheConstants.Selection.{AT_START}
use Rattle.card_model.specs.Answers.{Answered, settled, carried_out, managed}
use Rattle.card_model.specs.declared.instructions.Instruction.TheVariants.{ManageChannel}
use Rattle.card_core.specs.Acting.{ActsAlone}
use Rattle.card_core.specs.AnyStore.{MovesChannels}
use Rattle.card_core.specs.Cards.{card_with}
use Rattle.card_core.specs.Commands.{channels_managed}
use Rattle.card_core.specs.Known.{KnownBy, ByStore, ByTable, ByMemory, IsKnown, MayBeBy, SaysSo}
use Rattle.card_core.specs.Parts.{CardParts}
use Rattle.card_core.proofs.ActsOnLemmas.{acts_done}
use Rattle.card_core.proofs.WritingLemmas.{none_after}

-- a number is answered where a channel was opened, and a refusal changes nothing
abbrev pub Tells : Result (Option ℕ) StatusWord → Answer → List (Option Selection) → List (Option Selection) → Type 0
Tells (Ok number) out old new = (out.body ≡ option_to_list number) × (out.status ≡ DONE)
Tells (Err status) out old new = (out.body ≡ []) × (out.status ≡ status) × (new ≡ old)

-- the answer, the card after it, and that nothing is committed nor changed
record Manages (by : KnownBy) (new : CardParts) (out : Answer) (answered : Answered) : Type 0 where
  says : SaysSo answered out
  left : MayBeBy by new answered.state
  commits : answered.commits ≡ []
  changes : answered.changes ≡ []

module _ (apdu : Apdu) (old : CardParts) (channels : List (Option Selection)) (out : Answer) where
  abbrev new : CardParts
  new = record old { channels = channels }

  kept : (by : KnownBy) (state : Persistent) → IsKnown by old state → IsKnown by new state
  kept ByStore state known = known
  kept ByTable state known = known
  kept ByMemory state known = known

  managed_so : (by : KnownBy) (state : Persistent) → IsKnown by old state → (result : Result (Option ℕ) StatusWord) → Tells result out old.channels channels
      → Manages by new out (settled (card_with false old state) (managed (card_with false old state) (channels_managed result channels)))
  unfolding and_given
  managed_so by state known (Ok number) tells = record {
    says = record { body = tells.0; status = tells.1 };
    left = record { known = kept by state known; channels = refl; verified = refl; session = refl; boxes = refl };
    commits = refl;
    changes = refl;
  }
  managed_so by state known (Err status) tells = record {
    says = record { body = tells.0; status = tells.1 };
    left = record { known = kept by state known; channels = sym tells.2; verified = refl; session = refl; boxes = refl };
    commits = refl;
    changes = refl;
  }

  channels_move : MovesChannels old new
  channels_move = record { table = refl; verified = refl; session = refl; boxes = refl }

  pub channels_act : (result : Result (Option ℕ) StatusWord) → channel_tried old.channels (unwrap_or (selected_on old.channels (channel_of apdu.class)) AT_START) apdu ≡ channels_managed result channels → Tells result out old.channels channels
      → ActsAlone {X = Unit {0}} (Ok tt) ManageChannel apdu old new out
  unfolding carried_out
  channels_act result tried tells =
      let each : (by : KnownBy) (state : Persistent) → IsKnown by old state → Manages by new out (settled (card_with false old state) (carried_out ManageChannel (card_with false old state) apdu)) =
      λ by state known.
      subst (λ (came : Result ChannelOutcome StatusWord). Manages by new out (settled (card_with false old state) (managed (card_with false old state) came))) (sym tried) (managed_so by state known result tells) in
      acts_done ManageChannel apdu old new out channels_move tt (λ state held. none_after old new (settled (card_with false old state) (carried_out ManageChannel (card_with false old state) apdu)).changes (each ByStore state held).changes refl) (λ by state known needs. ((each by state known).says, (each by state known).left))
      (λ by state known counts. ap (λ (states : List Persistent). raised_by (length states) old.commits) (sym (each by state known).commits)) (λ status refused. absurd refused)
