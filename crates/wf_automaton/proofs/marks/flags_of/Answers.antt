use Rattle.std.proofs.Common.{◌<◌, ◌∙◌, get_or, sym, subst}
use Rattle.std.proofs.lemmas.List.{length-set}
use Rattle.wf_model.proofs.Lists.{is_at, at_is}
use Rattle.wf_spec.proofs.Tables.{get_in}
use Rattle.wf_automaton.proofs.Flags.{flags_more}
use Rattle.wf_automaton.proofs.marks.flags_of.Goals as goal

pub index_mut-requires : goal.index_mut-requires
index_mut-requires c =
    let x = get_or c.args.accept.now c.loop-s.s-index 0 in
    subst (λ n. x < n) (sym c.loop-s.flags.ok.0) (subst (λ n. x < n) (sym c.loop-s.invariant.count) (c.requires x (get_in c.loop-s.s-index c.args.accept.now 0 c.loop-s-test.true)))

pub loop-s-preserved : goal.loop-s-preserved
loop-s-preserved c =
    let list = c.args.accept.now in
    let i = c.loop-s.s-index in
    let x = get_or list i 0 in
    record {
      count = length-set c.loop-s.flags.items x _ ∙ c.loop-s.invariant.count;
      flags = flags_more list c.loop-s.flags.items i x c.loop-s.invariant.flags (sym (at_is x i list x (is_at i list 0 c.loop-s-test.true))) c.loop-s-test.true
          (subst (λ n. x < n) (sym c.loop-s.invariant.count) (c.requires x (get_in i list 0 c.loop-s-test.true)));
    }
