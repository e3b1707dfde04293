use Rattle.std.proofs.Common.{length}
use Rattle.bip_channels.proofs.terminal.+put_statuses.Given as goal

abbrev pub decreases-put_statuses : goal.decreases-put_statuses
decreases-put_statuses l = length l.channels.now
