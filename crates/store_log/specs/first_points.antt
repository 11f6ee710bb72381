pub use Rattle.joined_reads.specs.first_points.Firsts
