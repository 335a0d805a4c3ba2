-- Names of instances that are numbered as they are made.
use Rattle.std.specs.Prelude.{ℕ, List, ◌++◌, map, codes, decimal}
use Rattle.wf_model.specs.Lists.{numbers_from}

-- the name of the instance of a number: `n` and its decimal digits
abbrev pub numbered_name : ℕ → List ℕ
numbered_name k = codes "n" ++ decimal k

-- the names of n instances, from number k on
abbrev pub numbered_names : ℕ → ℕ → List (List ℕ)
numbered_names k n = map numbered_name (numbers_from k n)
