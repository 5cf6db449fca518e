mod Declared
mod Indices
mod SameMemory
mod Reading
mod Made
mod Irregular
mod OfUnit
