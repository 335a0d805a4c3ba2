use Rattle.std.proofs.Common.{◌≡◌, length, take, map}
use Rattle.wf_names.specs.Hashed.{AreHashed}
use Rattle.wf_names.proofs.together.hash_names.Given as goal

abbrev pub invariant-loop-i : goal.invariant-loop-i
invariant-loop-i l = record {
  size : length l.hashed ≡ 8;
  names : map (λ n. n.bytes.now) (take l.i l.hashed) ≡ take l.i l.names;
  hashed : AreHashed l.keyed (λ n. n.hash) (λ n. n.bytes.now) (take l.i l.hashed);
}
