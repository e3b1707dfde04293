-- Definitions, worked out on examples.
mod AccessRules
