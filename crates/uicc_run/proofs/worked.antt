-- Definitions, worked out on examples.
mod LinesByPower
