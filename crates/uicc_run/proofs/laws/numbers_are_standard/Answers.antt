use Rattle.std.proofs.Common.{refl}
use Rattle.uicc_run.proofs.laws.numbers_are_standard.Goals as goal

pub returns : goal.returns
returns c = record { status_words = refl; reserved_identifiers = refl; keys = refl; events = refl; file_kinds = refl; bounds = refl; places = refl; toolkit_tags = refl; commands = refl; results = refl; devices = refl; qualifiers = refl; channel_codes = refl; fetched = refl; first_bytes = refl; own_bytes = refl; commit_bounds = refl; journal = refl; pages = refl; applets = refl; actions = refl; texts = refl; longest_command = refl; script_bounds = refl; most_commands = refl; channel_bounds = refl; page_length = refl; events_end = refl; queues = refl }
