-- Definitions, worked out on examples.
mod HandsetDays
