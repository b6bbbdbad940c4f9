pub mod JudgesArms
