use Rattle.std.proofs.Common.{◌<◌, ℕ, List, length, refl, subst, inl, inr, arith}
use Rattle.wf_spec.specs.FirstFaults.{FailsFirstAt, HoldsThroughout, each}
use Rattle.wf_spec.proofs.FirstFaults.{once_fails}
use Rattle.wf_automaton.specs.declared.parts.MovePart.{MovePart}
use Rattle.wf_automaton.specs.declared.fault.AutoMember.TheVariants.{Accept, Moves}
use Rattle.wf_automaton.specs.declared.fault.AutoFault.TheVariants.{StateBad}
use Rattle.wf_automaton.specs.Rules.{IsMoveBelow}
use Rattle.wf_automaton.proofs.checks.check_states.Goals as goal

pub returns-then-parts-clause-refused : goal.returns-then-parts-clause-refused
returns-then-parts-clause-refused c =
    let p = c.args.parts.now in
    let some : 0 < p.states = (let n = c.if-parts-eq0.false in omega arith) in
    inr ((λ k h. (some, c.if-parts-gt64.false)), inl (0, once_fails (p.start < p.states) (λ l. let m = c.if-parts.true in omega arith), refl))

pub returns-in-Some-clause-refused : goal.returns-in-Some-clause-refused
returns-in-Some-clause-refused c =
    let p = c.args.parts.now in
    let some : 0 < p.states = (let n = c.if-parts-eq0.false in omega arith) in
    inr (
      λ k h. (some, c.if-parts-gt64.false),
      inr (
        λ k h. c.if-parts.false,
        inl (c.in-Some._k, subst (λ (l : List ℕ). FailsFirstAt (length l) (each l (λ s. s < p.states) (λ k. StateBad Accept)).holds c.in-Some._k) c.items.ensures c.in-Some.ensures, refl),
      ),
    )

pub returns-in-Some-first_move_past-clause-refused : goal.returns-in-Some-first_move_past-clause-refused
returns-in-Some-first_move_past-clause-refused c =
    let p = c.args.parts.now in
    let some : 0 < p.states = (let n = c.if-parts-eq0.false in omega arith) in
    let k = c.in-Some-first_move_past._k in
    inr (
      λ k h. (some, c.if-parts-gt64.false),
      inr (
        λ k h. c.if-parts.false,
        inr (
          subst (λ (l : List ℕ). HoldsThroughout (each l (λ s. s < p.states) (λ k. StateBad Accept))) c.items.ensures c.in_default.ensures,
          inl (k, subst (λ (l : List MovePart). FailsFirstAt (length l) (each l (IsMoveBelow p.states) (λ k. StateBad Moves)).holds k) c.items-2.ensures c.in-Some-first_move_past.ensures, refl),
        ),
      ),
    )

pub returns-clause-kept : goal.returns-clause-kept
returns-clause-kept c =
    let p = c.args.parts.now in
    let some : 0 < p.states = (let n = c.if-parts-eq0.false in omega arith) in (
      λ k h. (some, c.if-parts-gt64.false),
      (
        λ k h. c.if-parts.false,
        (
          subst (λ (l : List ℕ). HoldsThroughout (each l (λ s. s < p.states) (λ k. StateBad Accept))) c.items.ensures c.in_default.ensures,
          (subst (λ (l : List MovePart). HoldsThroughout (each l (IsMoveBelow p.states) (λ k. StateBad Moves))) c.items-2.ensures c.in_default-first_move_past.ensures, tt),
        ),
      ),
    )
