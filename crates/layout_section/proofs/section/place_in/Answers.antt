use Rattle.std.proofs.Common.{◌∙◌, sym}
use Rattle.layout_section.proofs.FileAtLemmas.{file_there_already, place_there}
use Rattle.layout_section.proofs.section.place_in.Goals as goal

pub returns-in-Some-child : goal.returns-in-Some-child
returns-in-Some-child c =
    file_there_already c.args.files.now c.args.front.now c.args.id c.in-Some.df (sym c.is_df.ensures ∙ c.if-not-is_df.false) c.in-Some-child.field-0 c.in-Some.ensures c.in-Some-child.ensures

pub returns-in-None-child : goal.returns-in-None-child
returns-in-None-child c = place_there c.args.files.now c.args.front.now c.args.id c.in-Some.df (sym c.is_df.ensures ∙ c.if-not-is_df.false) c.in-Some.ensures c.in-None-child.ensures c.requires
