-- A run in which power is lost, and one in which the memory fails, worked out: what the card holds afterwards.
use Rattle.std.proofs.Common.{◌≡◌, arith, inl, inr, ℕ, List, [], ◌∷◌, Some, None, refl}
use Rattle.list_laws.specs.Patches.{patched}
use Rattle.uicc_types.specs.declared.answers.TheConstants.StatusWord.{MEMORY_PROBLEM}
use Rattle.uicc_types.specs.declared.runs.Step.TheVariants as step
use Rattle.uicc_types.specs.declared.runs.TraceItem.TheVariants as item
use Rattle.uicc_types.specs.declared.plans.Plan.{Plan}
use Rattle.uicc_types.specs.declared.plans.TheConstants.Plan.{NONE}
use Rattle.apdu_form.specs.Model.{command_in, fields_in}
use Rattle.card_state.specs.Changing.{with_file_changed}
use Rattle.card_state.specs.Persistent.{Bytes, Registration, Persistent}
use Rattle.card_state.specs.Soundness.{mf}
use Rattle.file_model.specs.Chains.{refused_if, given, and_given}
use Rattle.file_model.specs.Access.{keys_seen, arr_found, ruling_record, may}
use Rattle.file_model.specs.Binaries.{reading, binary_read, updating, binary_updated, binary_file, read_from, update_in}
use Rattle.file_model.specs.Files.{descriptor_in, descriptors_in, file_found}
use Rattle.file_model.specs.Holdings.{held_by}
use Rattle.file_model.specs.Outcomes.{addressed}
use Rattle.file_model.specs.Commands.{contents_outcome, file_outcome}
use Rattle.applet_trait.specs.Minds.{AppletState, fresh}
use Rattle.toolkit_model.specs.Commands.{woken_boxes}
use Rattle.card_model.specs.Answers.{carried_out, tried, answer_of, answer, passed}
use Rattle.card_model.specs.Instructions.{instruction_tried}
use Rattle.card_model.specs.Runs.{IsRun, IsLeft, boxes_left, plan_given}
use Rattle.card_model.specs.States.{CardState, Machine, powered, unpowered, woken, restarted}
use Rattle.card_model.proofs.worked.Commands.{first_card, held, number_file, telecom_df, message_file}

abbrev pub update : List ℕ
update = 0x00 ∷ 0xD6 ∷ 0x82 ∷ 0x01 ∷ 0x01 ∷ 0xAA ∷ []

abbrev pub reading_back : List ℕ
reading_back = 0x00 ∷ 0xB0 ∷ 0x82 ∷ 0x00 ∷ 0x03 ∷ []

-- what the card holds once the byte is in the file
abbrev pub held_then : Persistent
held_then = record held { files = mf ∷ record number_file { contents = Bytes (0x98 ∷ 0xAA ∷ 0x32 ∷ []) } ∷ telecom_df ∷ message_file ∷ [] }

-- the update passes the state before it and the one after it
passed_states : (answer first_card update).commits ≡ held_then ∷ []
unfolding refused_if given and_given command_in fields_in instruction_tried carried_out file_outcome contents_outcome tried answer_of woken woken_boxes descriptor_in descriptors_in file_found keys_seen addressed arr_found ruling_record may held_by updating binary_file update_in binary_updated with_file_changed patched
passed_states = refl

-- what is read then
abbrev pub card_then : CardState
card_then = woken held_then []

read_back : (answer card_then reading_back).body ≡ 0x98 ∷ 0xAA ∷ 0x32 ∷ []
unfolding refused_if given and_given command_in fields_in instruction_tried carried_out file_outcome contents_outcome tried answer_of woken woken_boxes descriptor_in descriptors_in file_found keys_seen addressed arr_found ruling_record may held_by reading binary_file read_from binary_read
read_back = refl

-- the update is passed, and the card woke over it
left : IsLeft first_card (passed first_card update) card_then
unfolding refused_if given and_given command_in fields_in instruction_tried carried_out file_outcome contents_outcome tried answer_of woken woken_boxes descriptor_in descriptors_in file_found keys_seen addressed arr_found ruling_record may held_by updating binary_file update_in binary_updated with_file_changed patched
left = record { persistent = held_then; passed = (1, omega arith, refl); woke = refl }

-- nothing more happens
rests : (machine : Machine) → IsRun machine [] [] machine
rests machine = record { seen = refl; stays = refl }

-- Power is lost in the update, a command meets no power, and after a reset the card is as it was left.
a_cut : IsRun (powered first_card) (step.Apdu update ∷ step.Apdu reading_back ∷ step.Reset ∷ [])
    (item.Command update ∷ item.Cut ∷ item.Command reading_back ∷ item.Off ∷ item.Reset ∷ []) (powered (restarted card_then))
a_cut =
    inl (record {
      front = item.Command update ∷ item.Cut ∷ [];
      middle = unpowered card_then;
      back = item.Command reading_back ∷ item.Off ∷ item.Reset ∷ [];
      first = inr (inr (record { seen = refl; card = card_then; left = left; moved = refl }));
      rest = inl (record {
        front = item.Command reading_back ∷ item.Off ∷ [];
        middle = unpowered card_then;
        back = item.Reset ∷ [];
        first = record { seen = refl; stays = refl };
        rest = inl (record {
          front = item.Reset ∷ [];
          middle = powered (restarted card_then);
          back = [];
          first = inl (record { seen = refl; moved = refl });
          rest = rests (powered (restarted card_then));
          seen = refl;
        });
        seen = refl;
      });
      seen = refl;
    })

-- The memory fails in the update, which the card answers, and has power.
a_failure : IsRun (powered first_card) (step.Apdu update ∷ []) (item.Command update ∷ item.Answer [] MEMORY_PROBLEM ∷ []) (powered card_then)
a_failure =
    inl (record {
      front = item.Command update ∷ item.Answer [] MEMORY_PROBLEM ∷ [];
      middle = powered card_then;
      back = [];
      first = inr (inl (record { seen = refl; card = card_then; left = left; moved = refl }));
      rest = rests (powered card_then);
      seen = refl;
    })

-- ---- resets

-- Power is lost in a reset, and the memory fails in the next, which ends the run.
resets_that_fail : IsRun (powered first_card) (step.Reset ∷ step.Reset ∷ []) (item.Cut ∷ item.EepromFailed ∷ []) (powered (restarted (restarted first_card)))
resets_that_fail =
    inl (record {
      front = item.Cut ∷ [];
      middle = unpowered (restarted first_card);
      back = item.EepromFailed ∷ [];
      first = inr (record { seen = refl; moved = refl });
      rest = inr (refl, record { seen = refl; moved = refl });
      seen = refl;
    })

-- ---- boxes

abbrev pub greeter_row : Registration
greeter_row = record { shelf = 0; kind = 1; priority = 1; sequence = 0; codes = 0x40 ∷ []; text = []; kept = 0x07 ∷ [] }

-- a greeter in its first phase on shelf 0, and a menu in its second on shelf 1
abbrev pub greeter_mind : AppletState
greeter_mind = record (fresh 1 []) { phase = 1 }

abbrev pub menu_mind : AppletState
menu_mind = record (fresh 2 []) { phase = 2 }

-- the greeter is registered, and wakes with its kept bytes; the menu is not, and stays as it is
registered_wake : woken_boxes (greeter_row ∷ []) (Some greeter_mind ∷ Some menu_mind ∷ None ∷ []) ≡ Some (fresh 1 (0x07 ∷ [])) ∷ Some menu_mind ∷ None ∷ []
unfolding woken_boxes
registered_wake = refl

-- an applet that is gone has no box any more; one that came, and one that was never there, have theirs
gone_and_come : boxes_left (greeter_row ∷ []) [] (Some greeter_mind ∷ Some menu_mind ∷ []) ≡ None ∷ Some menu_mind ∷ []
gone_and_come = refl

come_and_kept : boxes_left [] (greeter_row ∷ []) (Some greeter_mind ∷ Some menu_mind ∷ []) ≡ Some greeter_mind ∷ Some menu_mind ∷ []
come_and_kept = refl

-- ---- planned faults

abbrev pub cut_at : ℕ → Plan
cut_at call = record NONE { cut = Some (record { call = call; kept = 0; rest = 0xFF }) }

abbrev pub fail_at : ℕ → Plan
fail_at call = record NONE { fail = Some (record { call = call; rest = 0x00 }) }

-- a later cut takes the place of an earlier one, a failure joins it, and what is set waits no more
plans_are_set : plan_given (step.Plan (cut_at 1) ∷ step.Plan (fail_at 2) ∷ step.Plan (cut_at 3) ∷ step.Apdu update ∷ step.Reset ∷ step.Plan (fail_at 4) ∷ step.Reset ∷ step.Plan (cut_at 5) ∷ [])
    ≡ record (cut_at 3) { fail = Some (record { call = 2; rest = 0x00 }) } ∷ fail_at 4 ∷ []
plans_are_set = refl
