use Rattle.std.proofs.Common.{ap, arith}
use Rattle.wf_message.specs.Endings.{end_by}
use Rattle.wf_top.proofs.Obeyed.{ends_as_obeyed, either_way, read_as_obeyed, put_as_obeyed, counts_of_cause, counts_of_usage}
use Rattle.wf_top.proofs.program.perform.Goals as goal

pub returns : goal.returns
returns g c =
    let o = c.obey.ensures in
    record {
      outcome = λ f told. ends_as_obeyed f _ _ _ _ (λ n. let u = o.taken.1 n in (ap end_by u, ap g.O.Sink.put_bytes (o.idle u).1)) (λ d h. (o.obeys d h).ends f told);
      usage = o.taken;
      quiet = λ u. ap g.O.Sink.put_bytes (o.idle u).1;
      counts = either_way _
          (λ n. let u = o.taken.1 n in counts_of_usage _ _ _ _ _ _ _ (ap end_by u) (ap g.H.Shelf.faults (o.idle u).0) (ap g.O.Sink.faults (o.idle u).1))
          (λ d h. counts_of_cause _ _ _ _ _ _ _ (o.obeys d h).cause);
      untouched = λ wants. put_as_obeyed _ (λ d h puts. (o.untouched d h wants puts).0);
      in_turn = read_as_obeyed _ _ _ (λ n. ap g.H.Shelf.readings (o.idle (o.taken.1 n)).0) (λ d h. (o.obeys d h).in_turn);
      same = either_way _ (λ n. ap g.H.Shelf.files (o.idle (o.taken.1 n)).0) (λ d h. (o.obeys d h).same);
      later = either_way _ (λ n. let e = ap g.H.Shelf.faults (o.idle (o.taken.1 n)).0 in omega (arith, e)) (λ d h. (o.obeys d h).later);
      put_later = either_way _ (λ n. let e = ap g.O.Sink.faults (o.idle (o.taken.1 n)).1 in omega (arith, e)) (λ d h. (o.obeys d h).put_later);
    }
