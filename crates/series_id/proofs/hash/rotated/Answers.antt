use Rattle.std.proofs.Common.{◌∙◌}
use Rattle.series_id.proofs.Rotations.{rotate_left-rotated}
use Rattle.series_id.proofs.hash.rotated.Goals as goal

pub returns : goal.returns
returns c = c.rotate_left.ensures ∙ rotate_left-rotated c.args.word c.args.bits c.ranges.word.fits c.requires.above c.requires.below
