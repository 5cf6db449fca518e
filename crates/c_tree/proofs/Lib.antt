pub mod Equations
pub mod Shifts
pub mod WordValues
