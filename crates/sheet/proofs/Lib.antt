pub mod Judging
pub mod Naming
pub mod Playing
pub mod Promise
pub mod Meets
pub mod Table
