-- Definitions, worked out on examples.
mod Forms
