pub mod Tables
pub mod Writes
pub mod Undo
pub mod Picks
pub mod Contents
pub mod Images
