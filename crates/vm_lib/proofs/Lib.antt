mod DigitLemmas
mod GrowthLemmas
