-- Definitions, worked out on examples.
mod LinkAnswers
