-- Definitions, worked out on examples.
mod TimerOwners
