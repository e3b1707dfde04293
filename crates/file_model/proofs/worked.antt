-- Definitions, worked out on examples.
mod Binaries
mod Cards
mod Corners
mod Files
mod LifeCycles
mod Pins
mod Records
mod Selecting
mod TreeCommands
