use Rattle.std.proofs.Common.{◌<◌, refl, inl, inr, ⊎_elim, arith}
use Rattle.wf_io.specs.Stored.{stored_whole}
use Rattle.outcome_laws.proofs.calls.call_plain.Goals as goal

pub returns : goal.returns
returns g c = record {
  complete = λ good. ⊎_elim (λ r. inl r.0) (λ wants. inr wants)
      (c.call.ensures.complete (stored_whole c.args.shelf.now) refl (λ rose. let l : 0 < 0 = rose refl in absurd (omega arith)) good);
}
