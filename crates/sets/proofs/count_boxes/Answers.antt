-- How many bits are set is how many boxes there are.
use Rattle.sets.proofs.CountLaws.{ones-count}
use Rattle.sets.proofs.count_boxes.Goals as goal

pub returns : goal.returns
returns c = ones-count 16 c.args.boxes c.ranges.boxes.fits
