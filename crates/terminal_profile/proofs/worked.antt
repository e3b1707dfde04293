-- Definitions, worked out on examples.
mod Profiles
