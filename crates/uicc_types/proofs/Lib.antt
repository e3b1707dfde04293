pub mod IsCalmLemmas
