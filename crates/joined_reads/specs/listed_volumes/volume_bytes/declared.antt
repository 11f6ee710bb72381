pub mod heads
