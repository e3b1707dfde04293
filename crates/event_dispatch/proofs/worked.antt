-- Definitions, worked out on examples.
mod Indexes
