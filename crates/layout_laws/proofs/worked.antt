-- Definitions, worked out on examples.
mod ChangeLaws
mod StandingCards
