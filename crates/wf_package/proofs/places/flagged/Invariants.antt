use Rattle.std.proofs.Common.{◌≡◌, ◌≤◌, false, length, map, get_or}
use Rattle.wf_model.specs.Lists.{numbers_from}
use Rattle.wf_package.proofs.FlaggedPlaces.{numbers_passing, count_passing}
use Rattle.wf_package.proofs.places.flagged.Given as goal

-- the numbers so far, and for each how many are less
abbrev pub invariant-loop-k : goal.invariant-loop-k
invariant-loop-k l = record {
  numbers : l.numbers.items ≡ numbers_passing (λ m. get_or l.flags m false) l.k;
  few : length l.numbers.items ≤ l.k;
  places : l.places.items ≡ map (count_passing (λ m. get_or l.flags m false)) (numbers_from 0 l.k);
}
