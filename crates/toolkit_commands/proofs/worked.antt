-- Definitions, worked out on examples.
mod SpelledCommands
