-- Which commands name a channel that there can be.
use Rattle.std.specs.Prelude.{ℕ, ◌≤◌}
use Rattle.bip_channels.specs.declared.commands.BipCommand.{BipCommand}
use Rattle.bip_channels.specs.declared.commands.BipCommand.TheVariants.{OpenChannel, CloseChannel, ReceiveBytes, SendBytes, ChannelStatus}

-- channels have the numbers 1 to 7
pub record IsNumber (channel : ℕ) : Type 0 where
  pub from_1 : 1 ≤ channel
  pub to_7 : channel ≤ 7

-- where a command names a channel, this is one from 1 to 7
abbrev pub IsProper : BipCommand → Type 0
IsProper (OpenChannel size) = Unit {0}
IsProper (CloseChannel channel) = IsNumber channel
IsProper (ReceiveBytes channel count) = IsNumber channel
IsProper (SendBytes channel bytes now) = IsNumber channel
IsProper ChannelStatus = Unit {0}
