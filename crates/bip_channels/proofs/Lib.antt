mod IsSoundLemmas
mod KeptCarriedLemmas
mod KeptLemmas
mod SetLemmas
mod TaggedLemmas
mod TellsLemmas
mod TrafficLemmas
mod worked
