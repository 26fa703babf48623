mod Faults
mod OneAnswer
