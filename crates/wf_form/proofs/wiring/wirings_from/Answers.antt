use Rattle.std.proofs.Common.{arith, ◌∷◌, ◌+◌, [], length-append, length, ap, inl, inr, refl, ◌∙◌}
use Rattle.wf_form.specs.Rules.{HasKnownPorts}
use Rattle.wf_form.specs.Wiring.{IsWiringOf}
use Rattle.wf_spec.proofs.Listing.{read_in}
use Rattle.wf_form.proofs.Numbering.{matched_more}
use Rattle.wf_spec.proofs.FirstFaults.{holds_more, fails_at}
use Rattle.wf_form.proofs.wiring.wirings_from.Goals as goal

pub wiring_from-requires-clause-few_positions : goal.wiring_from-requires-clause-few_positions
wiring_from-requires-clause-few_positions c = c.requires.few_positions c.index-parts-k.result (read_in c.args.parts.now c.loop-k.k c.index-parts-k.result c.index-parts-k.is c.loop-k-test.true)

pub wiring_from-requires-clause-known : goal.wiring_from-requires-clause-known
wiring_from-requires-clause-known c = c.requires.known c.index-parts-k.result (read_in c.args.parts.now c.loop-k.k c.index-parts-k.result c.index-parts-k.is c.loop-k-test.true)

pub returns-in_default-clause-refused : goal.returns-in_default-clause-refused
returns-in_default-clause-refused c =
    let unknown = rw c.in_default.is at c.in_ok-wiring.ensures in
    inr (inl (c.loop-k.k, fails_at (HasKnownPorts c.args.modules.now) c.args.parts.now c.loop-k.k c.index-parts-k.result c.loop-k.invariant.known unknown c.index-parts-k.is c.loop-k-test.true, refl))

pub loop-k-preserved : goal.loop-k-preserved
loop-k-preserved c =
    let made = rw c.in-Some.is at c.in_ok-wiring.ensures in
    record {
      known = holds_more (HasKnownPorts c.args.modules.now) c.args.parts.now c.loop-k.k c.index-parts-k.result c.loop-k.invariant.known made.0 c.index-parts-k.is;
      as_many = ap length c.in_ok-push.ensures.items ∙ (length-append c.loop-k.list.items (c.in-Some.wiring ∷ []) ∙ ap (λ n. n + 1) c.loop-k.invariant.as_many);
      wired = matched_more (IsWiringOf c.args.modules.now) c.args.parts.now c.loop-k.list.items c.push.new.self.items c.loop-k.k c.index-parts-k.result c.in-Some.wiring
          c.loop-k.invariant.as_many c.loop-k.invariant.wired made.1 c.index-parts-k.is c.in_ok-push.ensures.items;
    }

pub returns-clause-kept : goal.returns-clause-kept
returns-clause-kept c = λ k inside. c.loop-k.invariant.known k (let end = c.loop-k-test.false in omega arith)
