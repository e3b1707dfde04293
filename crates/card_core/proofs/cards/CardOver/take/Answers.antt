-- That the command names this instruction on these channels turns what its method says into what is said of a command of known form.
use Rattle.std.proofs.Common.{refl, sym, ◌∙◌, ap, Ok}
use Rattle.file_model.specs.declared.commands.FileCommand.TheVariants.{Select, Status, Contents}
use Rattle.card_model.specs.declared.instructions.Instruction.TheVariants.{File, Pin, ManageChannel, Toolkit, Tree}
use Rattle.card_core.specs.Acting.{in_form}
use Rattle.card_core.specs.Cards.{parts_of}
use Rattle.card_core.proofs.ActsAsLemmas.{take_acts, take_alone, refused_acts}
use Rattle.card_core.proofs.KnownLemmas.{never_stopped}
use Rattle.card_core.proofs.cards.CardOver.take.Goals as goal

pub returns-in-Ok-File-Status-clause-acts : goal.returns-in-Ok-File-Status-clause-acts
returns-in-Ok-File-Status-clause-acts g c =
    take_acts c.tell_status.result (parts_of g.S.Store g.B.Applet c.args.self.now) (parts_of g.S.Store g.B.Applet c.tell_status.new.self) c.tell_status.new.out c.args.apdu.now (File Status)
    (sym (c.in-Ok-File-Status.is ∙ ap Ok (c.in-Ok-File-Status.field-0-is ∙ ap File c.in-Ok-File-Status.field-0-0-is)) ∙ c.instruction_of.ensures.tried) c.tell_status.ensures.table c.tell_status.ensures.acts

pub returns-in-Ok-File-Select-clause-acts : goal.returns-in-Ok-File-Select-clause-acts
returns-in-Ok-File-Select-clause-acts g c =
    take_alone c.carry_out_on_files.result (parts_of g.S.Store g.B.Applet c.args.self.now) (parts_of g.S.Store g.B.Applet c.carry_out_on_files.new.self) c.carry_out_on_files.new.out c.args.apdu.now (File Select)
    (sym (c.in-Ok-File-Select.is ∙ ap Ok (c.in-Ok-File-Select.field-0-is ∙ ap File c.in-Ok-File-Select.field-0-0-is)) ∙ c.instruction_of.ensures.tried) c.carry_out_on_files.ensures.table refl c.carry_out_on_files.ensures.acts

pub returns-in-Ok-File-Contents-clause-acts : goal.returns-in-Ok-File-Contents-clause-acts
returns-in-Ok-File-Contents-clause-acts g c =
    take_alone c.carry_out_on_files-in-Ok-File-Contents.result (parts_of g.S.Store g.B.Applet c.args.self.now) (parts_of g.S.Store g.B.Applet c.carry_out_on_files-in-Ok-File-Contents.new.self) c.carry_out_on_files-in-Ok-File-Contents.new.out c.args.apdu.now (File (Contents c.in-Ok-File-Contents.command))
    (sym (c.in-Ok-File-Contents.is ∙ ap Ok (c.in-Ok-File-Contents.field-0-is ∙ ap File c.in-Ok-File-Contents.field-0-0-is)) ∙ c.instruction_of.ensures.tried) c.carry_out_on_files-in-Ok-File-Contents.ensures.table refl c.carry_out_on_files-in-Ok-File-Contents.ensures.acts

pub returns-in-Ok-Pin-clause-acts : goal.returns-in-Ok-Pin-clause-acts
returns-in-Ok-Pin-clause-acts g c =
    take_alone c.carry_out_on_pins.result (parts_of g.S.Store g.B.Applet c.args.self.now) (parts_of g.S.Store g.B.Applet c.carry_out_on_pins.new.self) c.carry_out_on_pins.new.out c.args.apdu.now (Pin c.in-Ok-Pin.command)
    (sym (c.in-Ok-Pin.is ∙ ap Ok c.in-Ok-Pin.field-0-is) ∙ c.instruction_of.ensures.tried) c.carry_out_on_pins.ensures.table refl c.carry_out_on_pins.ensures.acts

pub returns-in-Ok-ManageChannel-clause-acts : goal.returns-in-Ok-ManageChannel-clause-acts
returns-in-Ok-ManageChannel-clause-acts g c =
    take_alone c.manage_channel.result (parts_of g.S.Store g.B.Applet c.args.self.now) (parts_of g.S.Store g.B.Applet c.manage_channel.new.self) c.manage_channel.new.out c.args.apdu.now ManageChannel
    (sym (c.in-Ok-ManageChannel.is ∙ ap Ok c.in-Ok-ManageChannel.field-0-is) ∙ c.instruction_of.ensures.tried) (never_stopped _ c.manage_channel.result c.manage_channel.ensures.ok) refl c.manage_channel.ensures.acts

pub returns-in-Ok-Toolkit-clause-acts : goal.returns-in-Ok-Toolkit-clause-acts
returns-in-Ok-Toolkit-clause-acts g c =
    take_alone c.carry_out_by_toolkit.result (parts_of g.S.Store g.B.Applet c.args.self.now) (parts_of g.S.Store g.B.Applet c.carry_out_by_toolkit.new.self) c.carry_out_by_toolkit.new.out c.args.apdu.now (Toolkit c.in-Ok-Toolkit.command)
    (sym (c.in-Ok-Toolkit.is ∙ ap Ok c.in-Ok-Toolkit.field-0-is) ∙ c.instruction_of.ensures.tried) c.carry_out_by_toolkit.ensures.table refl c.carry_out_by_toolkit.ensures.acts

pub returns-in-Ok-Tree-clause-acts : goal.returns-in-Ok-Tree-clause-acts
returns-in-Ok-Tree-clause-acts g c =
    take_alone c.carry_out_on_tree.result (parts_of g.S.Store g.B.Applet c.args.self.now) (parts_of g.S.Store g.B.Applet c.carry_out_on_tree.new.self) c.carry_out_on_tree.new.out c.args.apdu.now (Tree c.in-Ok-Tree.command)
    (sym (c.in-Ok-Tree.is ∙ ap Ok c.in-Ok-Tree.field-0-is) ∙ c.instruction_of.ensures.tried) c.carry_out_on_tree.ensures.table refl c.carry_out_on_tree.ensures.acts

pub returns-in-Err-clause-acts : goal.returns-in-Err-clause-acts
returns-in-Err-clause-acts g c = refused_acts tt (parts_of g.S.Store g.B.Applet c.args.self.now) _ (in_form (parts_of g.S.Store g.B.Applet c.args.self.now) c.args.apdu.now) c.in-Err.status (sym (sym (c.in-Err.is) ∙ c.instruction_of.ensures.tried)) c.requires.empty refl
