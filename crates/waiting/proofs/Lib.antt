pub mod Sifts
pub mod Stirs
pub mod CallFacts
pub mod Depths
pub mod RunFacts
