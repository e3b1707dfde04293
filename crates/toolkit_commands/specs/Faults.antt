-- Why bytes are no proactive command: each of the four faults, said by what the bytes hold. They are told in this order:
-- no list, an object that has to be there isn't, no known type, and no command that has these objects.
use Rattle.std.specs.Prelude.{◌≡◌, ℕ, List, None, Some, Any}
use Rattle.comprehension_tlv.specs.Model.{Object, IsObjects, IsTemplate}
use Rattle.comprehension_tlv.specs.Reading.{first_value}
use Rattle.toolkit_commands.specs.Table.{objects_of_command, IsProper}
use Rattle.toolkit_commands.specs.Matching.{HasObjects, IsBounded}
use Rattle.toolkit_commands.specs.Reading.{details_in, needed_by, row_of_type}
use Rattle.toolkit_commands.specs.declared.commands.Details.{Details}
use Rattle.toolkit_commands.specs.declared.commands.Proactive.{Proactive}
use Rattle.toolkit_commands.specs.declared.tags.TheConstants.{PROACTIVE_COMMAND}

-- the bytes are the template of a proactive command, whose content is this list of objects
pub record HoldsList (bytes : List ℕ) (list : List Object) : Type 0 where
  pub content : List ℕ
  pub template : IsTemplate bytes PROACTIVE_COMMAND content
  pub spelled : IsObjects content list

-- the details, the device identities, or an object that the type needs isn't there
abbrev pub Lacks : List Object → Type 0
Lacks list = Any (λ tag. first_value tag list ≡ None) (needed_by (details_in list))

-- the details are three bytes long, and their type is in no row of the table
pub record IsOfNoType (list : List Object) (kind : ℕ) : Type 0 where
  pub details : Details
  pub found : details_in list ≡ Some details
  pub named : details.kind ≡ kind
  pub no_row : row_of_type kind ≡ None

-- a command has these objects: its values are in their ranges, and its title and items within their bounds
pub record HasCommand (list : List Object) : Type 0 where
  pub command : Proactive
  pub number : ℕ
  pub proper : IsProper command
  pub bounded : IsBounded command
  pub has : HasObjects list (objects_of_command command number)
