use Rattle.std.proofs.Common.{◌≡◌, map, length}
use Rattle.wf_model.specs.Meaning.{inner_of}
use Rattle.wf_body.proofs.Meaning.{AtExits}
use Rattle.wf_body.proofs.leads.at_exits.Given as goal

-- the exits so far
abbrev pub invariant-loop-o : goal.invariant-loop-o
invariant-loop-o l = record {
  below : AtExits l.outs (map inner_of l.exits) l.o l.words;
  room : length l.words ≡ 64;
}
