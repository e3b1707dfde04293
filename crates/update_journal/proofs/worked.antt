-- Definitions, worked out on examples.
mod Entries
mod Places
