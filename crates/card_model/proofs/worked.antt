-- Definitions, worked out on examples.
mod Commands
mod Runs
mod Toolkit
mod Trees
