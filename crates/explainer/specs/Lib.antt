pub mod Layout
pub mod Cause
pub mod Same
pub mod Why
pub mod Facts
