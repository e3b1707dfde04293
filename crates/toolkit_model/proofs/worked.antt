-- Definitions, worked out on examples.
mod HandsetSessions
mod Runs
