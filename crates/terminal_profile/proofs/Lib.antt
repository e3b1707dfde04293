mod ConsultedLemmas
mod worked
