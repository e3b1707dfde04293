-- Definitions, worked out on examples.
mod Lines
