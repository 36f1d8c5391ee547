-- What the contracts of `judging` cite.
pub mod Checked
