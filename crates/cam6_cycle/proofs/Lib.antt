-- Going on along a cycle and going back; the tables of some entries more, and how many they are.
pub mod RoundTheCycle
pub mod Needed
