-- The sides on which labels are read.
use Rattle.wf_model.specs.declared.numbers.Side.{Side}
use Rattle.wf_model.specs.declared.numbers.Side.TheVariants.{Input, Output}
use Rattle.wf_lineage.specs.declared.direction.Direction.{Direction}
use Rattle.wf_lineage.specs.declared.direction.Direction.TheVariants.{Upstream, Downstream}

-- the side on which the label of the item is read for which others are listed: its end is where it is produced, upstream, or where it is consumed, downstream
abbrev pub side_of : Direction → Side
side_of Upstream = Output
side_of Downstream = Input
