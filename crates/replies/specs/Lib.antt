-- What the contracts of the program cite.
pub mod Reply
pub mod Answers
pub mod Window
pub mod Lent
