-- Definitions, worked out on examples.
mod Handsets
