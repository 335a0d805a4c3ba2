use Rattle.std.proofs.Common.{◌≡◌, ◌++◌, take, drop, map}
use Rattle.wf_model.specs.Faults.{some_twice}
use Rattle.wf_names.specs.Hashed.{AreHashed}
use Rattle.wf_names.proofs.together.put_each.Given as goal

abbrev pub invariant-loop-name : goal.invariant-loop-name
invariant-loop-name g l = record {
  added : map (λ k. g.K.HeldName.name k.held) l.keys.keys ≡ map (λ k. g.K.HeldName.name k.held) l.initial.keys.keys ++ map (λ n. n.bytes.now) (take l.name-index l.names);
  twice : some_twice (map (λ k. g.K.HeldName.name k.held) l.keys.keys) (map (λ n. n.bytes.now) (drop l.name-index l.names)) ≡ some_twice (map (λ k. g.K.HeldName.name k.held) l.initial.keys.keys) (map (λ n. n.bytes.now) l.names);
  keys : AreHashed l.keyed (λ k. k.hash) (λ k. g.K.HeldName.name k.held) l.keys.keys;
}
