pub mod Beside
pub mod first_points
pub mod held_pages
pub mod listed_volumes
