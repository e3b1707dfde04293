-- Definitions, worked out on examples.
mod Scripts
