-- Definitions, worked out on examples.
mod GuessCounts
mod InOrder
mod Reading
mod Runs
mod SendingLaws
