-- Definitions, worked out on examples.
mod ChannelCommands
