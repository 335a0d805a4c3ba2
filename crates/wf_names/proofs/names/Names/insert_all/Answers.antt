use Rattle.std.proofs.Common.{◌≡◌, ◌∙◌, ◌++◌, ap₂, sym, subst}
use Rattle.std.proofs.lemmas.Bool.{not-true}
use Rattle.std.proofs.lemmas.List.{take-append-drop}
use Rattle.std.specs.Bool.{OnTrue}
use Rattle.wf_names.proofs.TwiceNames.{all_parts, twice_parts, more_parts}
use Rattle.wf_names.proofs.names.Names.insert_all.Goals as goal

pub loop-left-preserved : goal.loop-left-preserved
loop-left-preserved g c =
    let before = c.args.self.now in
    let now = c.loop-left.self in
    let after = c.insert_few.new.self in
    let left = c.loop-left.left.now in
    let few = c.split_at.result.0.now in
    let rest = c.split_at.result.1.now in
    let parts : few ++ rest ≡ left = ap₂ (λ a b. a ++ b) c.split_at.ensures.front c.split_at.ensures.back ∙ take-append-drop c.min.result left in
    let is_new = c.in-Ok-true.field-0-test in
    let added = subst (λ b. OnTrue b (after ≡ now ++ few)) is_new c.in-Ok-true.ensures.added in
    let fresh = not-true _ (sym c.in-Ok-true.ensures.are_new ∙ is_new) in
    let more = c.loop-left.invariant.more in
    record {
      all = all_parts before now after c.args.list.now left few rest parts added c.loop-left.invariant.all;
      twice = twice_parts before now after c.args.list.now left few rest parts added fresh c.loop-left.invariant.twice;
      more = (_, more_parts before now after c.args.list.now left few rest parts added more.0 more.1);
    }
