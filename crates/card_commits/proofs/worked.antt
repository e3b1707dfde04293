-- Definitions, worked out on examples.
mod Prepared
mod Writing
