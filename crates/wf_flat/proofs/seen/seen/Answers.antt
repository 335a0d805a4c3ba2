use Rattle.std.proofs.Common.{◌≡◌, ◌∙◌, ◌<◌, ◌≤◌, ◌+◌, ap, sym, subst, arith, length, map, get_or, ℕ, true, List, [], ◌++◌, cond, ◌&&◌}
use Rattle.std.specs.Prelude.{◌==◌, Bool}
use Rattle.std.proofs.lemmas.Bool.Decides.{nat_tests}
use Rattle.wf_model.proofs.Lists.{at_in, is_at}
use Rattle.wf_flat.specs.declared.table.Opened.{Opened}
use Rattle.wf_flat.specs.Table.{no_instance, expansion_of, names_in}
use Rattle.wf_flat.specs.declared.table.Inst.{Inst}
use Rattle.std.proofs.lemmas.List.{drop_all}
use Rattle.wf_model.specs.Run.{see_all}
use Rattle.wf_flat.specs.Graph.{inst_at, flag_of}
use Rattle.wf_model.specs.Lists.{IsIn, numbers_from}
use Rattle.wf_flat.proofs.SeenNumbers.{told_step, there_more, none_seen}
use Rattle.wf_flat.proofs.seen.seen.Goals as goal

abbrev no_opened : Opened
no_opened = record { instance = 0; production = record { 0 = 0 }; first = 0; count = 0 }

is_zero : (n : ℕ) (b : Bool) → b ≡ (n == 0) → b ≡ true → n ≡ 0
is_zero n b e f = grind (arith, nat_tests)

pub returns-then-is_empty-clause-seen : goal.returns-then-is_empty-clause-seen
returns-then-is_empty-clause-seen c = λ u m.
    let t = c.args.run.now in
    let z = ap length (sym c.instances-instances.ensures.instances) ∙ is_zero (length c.instances-instances.result.now) _ c.is_empty.ensures c.if-is_empty.true in
    ap (map (inst_at t.instances)) c.new-seen.ensures.items ∙ none_seen c.args.g.now.core t c.requires u z c.instances-instances.ensures.opened

pub see_one-requires-clause-there : goal.see_one-requires-clause-there
see_one-requires-clause-there c =
    let os = c.order-order.result.now in
    let i = at_in (get_or os c.loop-o.o-index no_opened) c.loop-o.o-index os (is_at c.loop-o.o-index os no_opened c.loop-o-test.true) in
    let q = c.instances-instances.ensures.opened (get_or os c.loop-o.o-index no_opened) (subst (IsIn (get_or os c.loop-o.o-index no_opened)) c.order-order.ensures i) in
    subst (λ l. (get_or os c.loop-o.o-index no_opened).instance < length l) (sym c.instances-instances.ensures.instances) q.0

pub see_one-requires-clause-within : goal.see_one-requires-clause-within
see_one-requires-clause-within c =
    let os = c.order-order.result.now in
    let i = at_in (get_or os c.loop-o.o-index no_opened) c.loop-o.o-index os (is_at c.loop-o.o-index os no_opened c.loop-o-test.true) in
    let q = c.instances-instances.ensures.opened (get_or os c.loop-o.o-index no_opened) (subst (IsIn (get_or os c.loop-o.o-index no_opened)) c.order-order.ensures i) in
    subst (λ l. (get_or os c.loop-o.o-index no_opened).first + (get_or os c.loop-o.o-index no_opened).count ≤ length l) (sym c.instances-instances.ensures.instances) q.2

pub loop-o-preserved : goal.loop-o-preserved
loop-o-preserved c =
    let g = c.args.g.now.core in
    let t = c.args.run.now in
    let os = c.order-order.result.now in
    let o = get_or os c.loop-o.o-index no_opened in
    let i = at_in o c.loop-o.o-index os (is_at c.loop-o.o-index os no_opened c.loop-o-test.true) in
    let h = c.instances-instances.ensures.opened o (subst (IsIn o) c.order-order.ensures i) in
    let e = c.in_ok-see_one.ensures.seen ∙ ap (λ (l : List Inst). c.loop-o.seen.items ++ cond (flag_of c.loop-o.flags.items o.instance && flag_of c.args.expanded.now (get_or l o.instance no_instance).module.0) (numbers_from o.first o.count) []) c.instances-instances.ensures.instances in
    record {
      told = λ u m. told_step g t c.requires u c.loop-o.flags.items c.args.expanded.now c.loop-o.seen.items _ c.loop-o.o-index os no_opened _ m c.order-order.ensures c.loop-o-test.true h c.loop-o.invariant.agree c.loop-o.invariant.there e (c.loop-o.invariant.told u m);
      agree = c.in_ok-see_one.ensures.agree;
      there = there_more g t c.requires c.loop-o.seen.items _ o _ h c.loop-o.invariant.there e;
      count = c.in_ok-see_one.ensures.count ∙ c.loop-o.invariant.count;
    }

pub returns-clause-seen : goal.returns-clause-seen
returns-clause-seen c = λ u m.
    let t = c.args.run.now in
    sym (ap (λ z. see_all c.args.g.now.core u c.args.g.now.core.start (map (inst_at t.instances) c.loop-o.seen.items) (map (expansion_of (names_in t.instances)) z)) (drop_all c.loop-o.o-index c.order-order.result.now c.loop-o-test.false)) ∙ c.loop-o.invariant.told u m
