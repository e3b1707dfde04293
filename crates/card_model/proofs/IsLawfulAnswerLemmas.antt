-- The laws of answers, from what the commands come to.
use Rattle.std.proofs.Common.{◌≡◌, inl, ℕ, zero, suc, ◌+◌, ◌≤◌, Bool, true, false, List, [], ◌∷◌, length, map, Option, Some, None, refl, sym, ◌∙◌, ap, subst, arith, ◌&&◌, is_some, is_none, if◌then◌else◌, Result, Ok, Err, All, Contains, MatchResult, MatchBool, IfSome}
use Rattle.std.specs.Prelude.{⊤}
use Rattle.std.specs.List.{enumerate_from, list_any}
use Rattle.std.proofs.lemmas.Bool.{false≢true, or_parts}
use Rattle.std.proofs.lemmas.List.Elements.{All-cons, All-contains}
use Rattle.uicc_types.specs.Told.{AreBytes}
use Rattle.uicc_types.specs.declared.answers.StatusWord.{StatusWord}
use Rattle.uicc_types.specs.declared.answers.TheConstants.StatusWord.{WRONG_LENGTH, NO_SUCH_CLASS, NO_SECURE_MESSAGING, NO_SUCH_CHANNEL, NO_SUCH_INSTRUCTION}
use Rattle.apdu_form.specs.Model.{Apdu, IsCommand}
use Rattle.card_state.specs.Persistent.{Persistent, Registration}
use Rattle.file_model.specs.Chains.{and_given}
use Rattle.file_model.specs.Commands.{file_outcome, pin_outcome}
use Rattle.file_model.specs.Laws.{IsLawfulCommand, IsLawfulPinCommand, IsLawfulOutcome, IsLawfulPinOutcome, IsFileRefusal, IsSoundCard, pin_refusals}
use Rattle.file_model.specs.Outcomes.{FileOutcome, PinOutcome}
use Rattle.file_model.specs.declared.commands.FileCommand.{FileCommand}
use Rattle.file_model.specs.declared.commands.PinCommand.{PinCommand}
use Rattle.file_model.specs.TreeCommands.{tree_outcome}
use Rattle.file_model.specs.LawfulTrees.{IsLawfulTree, IsLawfulTreeCommand, tree_refusals}
use Rattle.file_model.specs.TreeOutcomes.{TreeOutcome}
use Rattle.file_model.specs.declared.tree_commands.TreeCommand.{TreeCommand}
use Rattle.apdu_form.specs.Classes.{family, channel_of}
use Rattle.file_model.specs.Channels.{ChannelOutcome}
use Rattle.applet_trait.specs.Minds.{AppletState}
use Rattle.toolkit_model.specs.Commands.{pending}
use Rattle.toolkit_model.specs.Registry.{row_on}
use Rattle.card_model.specs.Answers.{told_pending, with_pending, Answered, refused, settled, file_tried, pin_tried, managed, tree_tried, selection_on, seen_by, carried_out, is_status, carried_with, cut_answer, tried, answer_of, passed_of, is_carried_out, refusal}
use Rattle.card_model.proofs.TriedLemmas.{cut_result, cut_so, IsRead, cut_low, command_is, of_tried}
use Rattle.card_model.specs.Instructions.{toolkit_commands, has_toolkit, is_of_toolkit, is_of_tree}
use Rattle.card_model.proofs.RowNamedLemmas.{tree_named}
use Rattle.card_model.proofs.ToldPendingLemmas.{pending_few, told_known, told_same}
use Rattle.card_model.specs.Laws.{key_named, is_of_tree_named, IsStatusOf, ChangesAtMostTries, IsLawfulAnswer, WithoutToolkit, statuses}
use Rattle.card_model.specs.Runs.{IsLeft, box_left, boxes_left}
use Rattle.card_model.specs.States.{CardState, AreChannels, HasBox, IsGood, woken}
use Rattle.card_model.specs.declared.instructions.Instruction.{Instruction}
use Rattle.card_model.specs.declared.instructions.Instruction.TheVariants.{File, Pin, ManageChannel, Toolkit, Tree}
use Rattle.card_model.specs.declared.instructions.CatCommand.{CatCommand}
use Rattle.card_model.specs.declared.instructions.CatCommand.TheVariants.{TerminalProfile, Fetch, TerminalResponse, Envelope, InstallApplet, DeleteApplet}
use Rattle.card_model.proofs.WokenLemmas.{woken_is_good}
use Rattle.card_model.proofs.IsKnownStatusLemmas.{file_known, pin_known, tree_known}
use Rattle.card_model.proofs.AnswersNeverFailLemmas.{IsUsual, NeverFails, other, outcome_usual, toolkit_usual, lawful_usual, event_usual, pending_usual}
use Rattle.card_model.proofs.AnswersLemmas.{channel_low, selected_is, files_lawful, trees_lawful, pins_lawful, channels_lawful, managed_lawful}

-- ---- what there is to fetch

pending_lawful : (card : CardState) (of_tree : Bool) (key : ℕ) (answered : Answered) → IsLawfulAnswer card of_tree key answered → IsLawfulAnswer card of_tree key (with_pending answered)
pending_lawful card of_tree key answered lawful =
    let few : IfSome (pending answered.state.session) (λ count. count ≤ 255) = pending_few answered.state.session lawful.good.session.underway.out_sendable in
    record {
      good = lawful.good;
      ends = lawful.ends;
      steps = lawful.steps;
      sound = lawful.sound;
      rows = lawful.rows;
      boxes = lawful.boxes;
      session = lawful.session;
      short = lawful.short;
      status = told_known of_tree (pending answered.state.session) answered.status few lawful.status;
      refused = λ not_done.
          let same : told_pending (pending answered.state.session) answered.status ≡ answered.status = told_same (pending answered.state.session) answered.status few not_done in
          subst (λ (status : StatusWord). ChangesAtMostTries key status card answered.state) (sym same) (lawful.refused (sym (ap is_carried_out same) ∙ not_done));
    }

-- ---- which instructions a card knows

not_among : {X : Type 0} (test : X → Bool) (xs : List X) → list_any test xs ≡ false → (x : X) → Contains xs x → test x ≡ false
not_among test [] is x (k, low, there) = absurd (omega (arith, low))
not_among test (y ∷ ys) is x (zero, low, there) = subst (λ z. test z ≡ false) there (or_parts (test y) (list_any test ys) is).0
not_among test (y ∷ ys) is x (suc k, low, there) = not_among test ys (or_parts (test y) (list_any test ys) is).1 x (k, omega (arith, low), there)

listed : (command : CatCommand) → Contains toolkit_commands command
listed TerminalProfile = (0, omega arith, refl)
listed Fetch = (1, omega arith, refl)
listed TerminalResponse = (2, omega arith, refl)
listed Envelope = (3, omega arith, refl)
listed InstallApplet = (4, omega arith, refl)
listed DeleteApplet = (5, omega arith, refl)

-- ---- one command

module _ (card : CardState) (good : IsGood card) where
  abbrev IsLawful : Bool → ℕ → Result Answered StatusWord → Type 0
  IsLawful of_tree key result = MatchResult result (IsLawfulAnswer card of_tree key) (IsStatusOf of_tree)

  -- nothing changes in a command that is refused
  pub refused_lawful : (of_tree : Bool) (key : ℕ) (status : StatusWord) → IsStatusOf of_tree status → IsLawfulAnswer card of_tree key (refused card status)
  refused_lawful of_tree key status known = record {
    good = good;
    ends = refl;
    steps = tt;
    sound = λ k d low. absurd (omega (arith, low));
    rows = λ k d low. absurd (omega (arith, low));
    boxes = refl;
    session = refl;
    short = omega arith;
    status = known;
    refused = λ not_done. inl refl;
  }

  cut_lawful : (of_tree : Bool) (key : ℕ) (expected : Option ℕ) (answered : Answered) → IsLawfulAnswer card of_tree key answered → IsLawfulAnswer card of_tree key (cut_answer expected answered)
  cut_lawful of_tree key expected answered lawful = record {
    good = lawful.good;
    ends = lawful.ends;
    steps = lawful.steps;
    sound = lawful.sound;
    rows = lawful.rows;
    boxes = lawful.boxes;
    session = lawful.session;
    short = omega (arith, lawful.short, cut_low expected answered.body);
    status = lawful.status;
    refused = lawful.refused;
  }

  of_file : (apdu : Apdu) (outcome : Result FileOutcome StatusWord) → MatchResult outcome (IsLawfulOutcome card.persistent) IsFileRefusal → IsLawful false apdu.p2 (file_tried card apdu outcome)
  unfolding and_given
  of_file apdu (Err status) is = inl (file_known status is)
  of_file apdu (Ok outcome) is = files_lawful card good (channel_of apdu.class) apdu.p2 outcome (channel_low apdu.class) is

  of_pin : (command : PinCommand) (at key : ℕ) (outcome : Result PinOutcome StatusWord) → MatchResult outcome (IsLawfulPinOutcome card.persistent card.verified key) (Contains pin_refusals) → IsLawful false key (pin_tried card command at outcome)
  unfolding and_given
  of_pin command at key (Err status) is = inl (pin_known status is)
  of_pin command at key (Ok outcome) is = pins_lawful card good command at key outcome is

  of_channel : (key : ℕ) (outcome : Result ChannelOutcome StatusWord) → MatchResult outcome (λ done. AreChannels card.persistent done.channels × (length done.body ≤ 256)) (Contains statuses) → IsLawful false key (managed card outcome)
  unfolding and_given
  of_channel key (Err status) is = inl (inl is)
  of_channel key (Ok outcome) is = channels_lawful card good key outcome is.0 is.1

  of_tree_command : (key : ℕ) (outcome : Result TreeOutcome StatusWord) → MatchResult outcome (IsLawfulTree card.persistent card.channels) (Contains tree_refusals) → IsLawful true key (tree_tried card outcome)
  unfolding and_given
  of_tree_command key (Err status) is = tree_known status is
  of_tree_command key (Ok outcome) is = trees_lawful card good key outcome is

  module _ (files : (command : FileCommand) → IsLawfulCommand (file_outcome command)) (pins : (command : PinCommand) → IsLawfulPinCommand (pin_outcome command))
      (trees : (command : TreeCommand) → IsLawfulTreeCommand (tree_outcome command)) (bytes : List ℕ)
    where
      module _ (apdu : Apdu) (is : IsCommand bytes apdu) where
        -- the commands on files, PINs, channels and the tree are lawful, and those of the toolkit tell of no failing memory
        module _ (R : Instruction → Result Answered StatusWord → Type 0)
            (of_others : (instruction : Instruction) (result : Result Answered StatusWord) → IsLawful (is_of_tree instruction) apdu.p2 result → R instruction result)
            (of_toolkit : (command : CatCommand) (result : Result Answered StatusWord) → NeverFails result → R (Toolkit command) result)
          where
            carried_so : (instruction : Instruction) → R instruction (carried_out instruction card apdu)
            unfolding carried_out
            carried_so (File command) =
                of_others (File command) _ (of_file apdu _ (files command bytes apdu card.persistent (seen_by card) (selection_on card (channel_of apdu.class)) is good.sound (selected_is card good (channel_of apdu.class) (channel_low apdu.class))))
            carried_so (Pin command) = of_others (Pin command) _ (of_pin command apdu.p2 apdu.p2 _ (pins command card.persistent card.verified apdu good.sound.sound))
            carried_so ManageChannel = of_others ManageChannel _ (of_channel apdu.p2 _ (managed_lawful card good apdu))
            carried_so (Toolkit command) = of_toolkit command _ (toolkit_usual card _ (outcome_usual command card (seen_by card) apdu))
            carried_so (Tree command) = of_others (Tree command) _ (of_tree_command apdu.p2 _ (trees command card.persistent (seen_by card) card.channels (channel_of apdu.class) apdu good.sound good.channels.selected))

        -- one that the card knows, where it knows none of the toolkit's
        carried_lawful : (knows : Instruction → Bool) → has_toolkit knows ≡ false → (instruction : Instruction) → knows instruction ≡ true → IsLawful (is_of_tree instruction) apdu.p2 (carried_out instruction card apdu)
        carried_lawful knows none =
            carried_so (λ each result. knows each ≡ true → IsLawful (is_of_tree each) apdu.p2 result) (λ each result lawful known. lawful)
            (λ command result usual known. absurd (false≢true (sym (not_among (λ each. knows (Toolkit each)) toolkit_commands none command (listed command)) ∙ known)))

        pub commands_lawful : (instruction : Instruction) → is_of_toolkit instruction ≡ false → IsLawful (is_of_tree instruction) (key_named bytes) (carried_out instruction card apdu)
        commands_lawful instruction other =
            subst (λ (key : ℕ). IsLawful (is_of_tree instruction) key (carried_out instruction card apdu)) (sym (ap key_named is.spelling))
            (carried_so (λ each result. is_of_toolkit each ≡ false → IsLawful (is_of_tree each) apdu.p2 result) (λ each result lawful none. lawful) (λ command result usual none. absurd (false≢true (sym none))) instruction other)

        carried_usual : (runs_applets : Bool) (instruction : Instruction) → NeverFails (carried_with runs_applets instruction card apdu)
        carried_usual runs_applets instruction =
            by_applets runs_applets (carried_so (λ each result. NeverFails result) (λ each result lawful. lawful_usual card (is_of_tree each) apdu.p2 result lawful) (λ command result usual. usual) instruction)
          where
            by_applets : (runs_applets : Bool) → NeverFails (carried_out instruction card apdu) → NeverFails (carried_with runs_applets instruction card apdu)
            by_applets true usual = event_usual (is_status instruction) (carried_out instruction card apdu) usual
            by_applets false usual = usual

      module _ (knows : Instruction → Bool) (are : AreBytes bytes) where
        abbrev of_tree : Bool
        of_tree = is_of_tree_named bytes

        -- on a card that runs no applets
        by_read : has_toolkit knows ≡ false → (apdu : Apdu) (instruction : Instruction) → IsRead knows card bytes apdu instruction
            → IsLawful of_tree (key_named bytes) (cut_result apdu.expected (carried_with (has_toolkit knows) instruction card apdu))
        by_read none apdu instruction read =
            let is : IsCommand bytes apdu = command_is bytes apdu are read.read in
            cut_so (IsLawfulAnswer card of_tree (key_named bytes)) (IsStatusOf of_tree) apdu.expected _ (cut_lawful of_tree (key_named bytes) apdu.expected)
            (subst (λ (runs_applets : Bool). IsLawful of_tree (key_named bytes) (carried_with runs_applets instruction card apdu)) (sym none)
            (subst (λ (of_tree : Bool). IsLawful of_tree (key_named bytes) (carried_out instruction card apdu)) (tree_named knows (family apdu.class) apdu.ins instruction read.named ∙ sym (ap is_of_tree_named is.spelling))
            (subst (λ (key : ℕ). IsLawful (is_of_tree instruction) key (carried_out instruction card apdu)) (sym (ap key_named is.spelling)) (carried_lawful apdu is knows none instruction read.named.known))))

        settled_lawful : (result : Result Answered StatusWord) → IsLawful of_tree (key_named bytes) result → IsLawfulAnswer card of_tree (key_named bytes) (settled card result)
        settled_lawful (Err status) known = refused_lawful of_tree (key_named bytes) status known
        settled_lawful (Ok answered) lawful = lawful

        pub answer_lawful : WithoutToolkit knows (IsLawfulAnswer card of_tree (key_named bytes) (answer_of knows card bytes))
        unfolding answer_of
        answer_lawful = by_toolkit (has_toolkit knows) refl where
          by_toolkit : (runs_applets : Bool) → has_toolkit knows ≡ runs_applets → MatchBool runs_applets ⊤ (IsLawfulAnswer card of_tree (key_named bytes) (answer_of knows card bytes))
          by_toolkit true is = tt
          by_toolkit false none =
              pending_lawful card of_tree (key_named bytes) (settled card (tried knows card bytes)) (settled_lawful (tried knows card bytes)
              (of_tried knows card bytes (IsLawful of_tree (key_named bytes)) (record {
                length_is = inl (inl (3, omega arith, refl));
                class_is = inl (inl (19, omega arith, refl));
                secure_is = inl (inl (5, omega arith, refl));
                channel_is = inl (inl (4, omega arith, refl));
                instruction_is = inl (inl (18, omega arith, refl));
              }) (by_read none)))

        pub answer_usual : IsUsual (answer_of knows card bytes).status
        unfolding answer_of
        answer_usual =
            pending_usual card (tried knows card bytes) (of_tried knows card bytes NeverFails
            (record { length_is = other WRONG_LENGTH refl; class_is = other NO_SUCH_CLASS refl; secure_is = other NO_SECURE_MESSAGING refl; channel_is = other NO_SUCH_CHANNEL refl; instruction_is = other NO_SUCH_INSTRUCTION refl })
            (λ apdu instruction read. cut_so (λ answered. IsUsual answered.status) IsUsual apdu.expected _ (λ answered usual. usual) (carried_usual apdu (command_is bytes apdu are read.read) (has_toolkit knows) instruction)))

-- ---- what follows of every lawful answer

pub of_lawful : (runs_applets : Bool) (P Q : Type 0) → (P → Q) → MatchBool runs_applets ⊤ P → MatchBool runs_applets ⊤ Q
of_lawful true P Q follows holds = tt
of_lawful false P Q follows holds = follows holds

pub not_carried : (b : Bool) (word status : StatusWord) → (if b then None else Some word) ≡ Some status → (b ≡ false) × (word ≡ status)
not_carried true word status is = cc
not_carried false word status is = (refl, cc)

pub refusal_keeps : (knows : Instruction → Bool) (card : CardState) (bytes : List ℕ) (status : StatusWord) → IsLawfulAnswer card (is_of_tree_named bytes) (key_named bytes) (answer_of knows card bytes) → refusal knows card bytes ≡ Some status
    → ChangesAtMostTries (key_named bytes) status card (answer_of knows card bytes).state
unfolding refusal
refusal_keeps knows card bytes status lawful is =
    let word : StatusWord = (answer_of knows card bytes).status in
    let refused = not_carried (is_carried_out word) word status is in
    subst (λ (each : StatusWord). ChangesAtMostTries (key_named bytes) each card (answer_of knows card bytes).state) refused.1 (lawful.refused refused.0)

-- ---- what a fault leaves

box_stays : (row : Option Registration) (box : Option AppletState) → (if is_some row && is_none row then None else box) ≡ box
box_stays None box = refl
box_stays (Some row) box = refl

pub each_box_stays : (rows : List Registration) (start : ℕ) (boxes : List (Option AppletState)) → map (λ box. box_left rows rows box.0 box.1) (enumerate_from start boxes) ≡ boxes
each_box_stays rows start [] = refl
each_box_stays rows start (box ∷ boxes) =
    ap (λ (first : Option AppletState). first ∷ map (λ each. box_left rows rows each.0 each.1) (enumerate_from (start + 1) boxes)) (box_stays (row_on rows start) box)
    ∙ ap (λ (rest : List (Option AppletState)). box ∷ rest) (each_box_stays rows (start + 1) boxes)

pub left_is_good : (knows : Instruction → Bool) (card left : CardState) (bytes : List ℕ) → IsGood card → IsLawfulAnswer card (is_of_tree_named bytes) (key_named bytes) (answer_of knows card bytes) → IsLeft card (passed_of knows card bytes) left → IsGood left
left_is_good knows card left bytes good lawful is =
    let commits : List Persistent = (answer_of knows card bytes).commits in
    let sound : All IsSoundCard (card.persistent ∷ commits) = All-cons IsSoundCard card.persistent commits good.sound lawful.sound in
    let rows : All (λ (state : Persistent). state.rows ≡ card.persistent.rows) (card.persistent ∷ commits) = All-cons (λ (state : Persistent). state.rows ≡ card.persistent.rows) card.persistent commits refl lawful.rows in
    let same : is.persistent.rows ≡ card.persistent.rows = All-contains (λ (state : Persistent). state.rows ≡ card.persistent.rows) (card.persistent ∷ commits) is.persistent rows is.passed in
    let boxes : boxes_left card.persistent.rows is.persistent.rows card.boxes ≡ card.boxes =
    ap (λ (after : List Registration). boxes_left card.persistent.rows after card.boxes) same ∙ each_box_stays card.persistent.rows 0 card.boxes in
    subst IsGood (sym (is.woke ∙ ap (woken is.persistent) boxes))
    (woken_is_good is.persistent card.boxes (All-contains IsSoundCard (card.persistent ∷ commits) is.persistent sound is.passed) good.shelves
    (subst (λ (list : List Registration). All (HasBox card.boxes) list) (sym same) good.boxes) good.kinds)
