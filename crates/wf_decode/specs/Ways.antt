-- The two ways in which a chain is gone.
use Rattle.std.specs.Prelude.{ℕ}
use Rattle.bool_mat.specs.Matrix.{Matrix}
use Rattle.decode_model.specs.Matrices.{ViewMatrices}
use Rattle.wf_vlabel.specs.declared.rounds.way.Way.{Way}
use Rattle.wf_vlabel.specs.declared.rounds.way.Way.TheVariants.{Down, Up}

-- the squares of the cycle of a module: those of its inputs on the way down, and those of its outputs on the way up
abbrev pub square_on : Way → ViewMatrices → ℕ → ℕ → Matrix
square_on Down v = v.square_in
square_on Up v = v.square_out
