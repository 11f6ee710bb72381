pub mod Entries
pub mod Steps
pub mod ListLimits
pub mod Differ
pub mod NodeLimits
pub mod MatcherLimits
pub mod FateLimits
pub mod Messages
