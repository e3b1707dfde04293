-- Definitions, worked out on examples.
mod Changes
mod SoundStates
