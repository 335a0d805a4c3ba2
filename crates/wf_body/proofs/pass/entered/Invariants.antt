use Rattle.std.proofs.Common.{map}
use Rattle.wf_model.specs.Meaning.{inner_of}
use Rattle.wf_body.proofs.Entering.{EnteredBelow}
use Rattle.wf_body.proofs.pass.entered.Given as goal

-- the entries so far
abbrev pub invariant-loop-h : goal.invariant-loop-h
invariant-loop-h l = EnteredBelow l.k.0 l.h (map inner_of l.entries) l.words
