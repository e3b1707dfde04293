mod IsSmallestFreeLemmas
mod worked
