-- What the proofs of the functions use.
pub mod Told
pub mod Decided
