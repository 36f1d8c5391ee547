-- What the contracts of `outcomes` cite.
pub mod Picking
pub mod Searching
