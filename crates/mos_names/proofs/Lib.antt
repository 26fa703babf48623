pub mod NameLemmas
