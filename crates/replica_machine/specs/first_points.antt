pub use Rattle.first_points.specs.Firsts
