-- Definitions, worked out on examples.
mod Turns
