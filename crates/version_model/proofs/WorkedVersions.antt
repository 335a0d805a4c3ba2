-- The worked versions.
use Rattle.std.proofs.Common.{◌≡◌, ℕ, zero, suc, ◌<◌, refl, sym, subst, inl, inr, arith, lit<, lit≤}
use Rattle.wf_model.specs.Lists.{IsIn, here, onward}
use Rattle.wf_model.specs.Grammar.{head_of, body_of}
use Rattle.wf_model.specs.Linear.{IsOnCycle}
use Rattle.wf_laws.specs.LineGrammar.{line}
use Rattle.label_model.specs.Continuing.{derives_within, derives, continuing}
use Rattle.label_model.specs.RunLabels.{address_in}
use Rattle.wf_model.specs.Versions.{version_of, IsVersion, GetsOnCycle, KeepsCycles}
use Rattle.version_model.specs.Examples.{longer, closed, VersionsAreWorked}
use Rattle.version_model.proofs.LongerGrammar.{Rises, not_on_cycle, longer_rises, p_and_q, longer_version, longer_formed, longer_proper, longer_linear, longer_safe, longer_alike, longer_verdict}

line_rises : Rises line
line_rises a b q = go q.0 q.1.0 q.1.1 q.2
  where
    go : (p : ℕ) → p < 1 → head_of line p ≡ a → IsIn b (body_of line p) → a < b
    go zero h e (inl i) = omega (arith, e, i)
    go zero h e (inr (inl i)) = omega (arith, e, i)
    go zero h e (inr (inr i)) = absurd i
    go (suc p) h e i = absurd (omega arith)

closed_version : IsVersion closed 3 1
closed_version = record {
  modules = lit≤ tt;
  productions = lit≤ tt;
  start = lit< tt;
  heads = λ q h. let z : q ≡ 0 = omega arith in subst (λ y. head_of closed y < 3) (sym z) (lit< tt);
  bodies = λ q h k i. let z : q ≡ 0 = omega arith in p_and_q 3 k (lit≤ tt) (subst (λ y. IsIn k (body_of closed y)) z i);
}

-- with the second production S goes on to Q, and Q to S
s_to_q : (p : ℕ) → p < 2 → IsOnCycle (version_of closed 4 2) (head_of closed p)
s_to_q zero h = (record { production = 0; position = 1 }, (record { in_range = lit< tt; head = refl; position = lit< tt }, onward (1, (lit< tt, refl), inl refl) here))
s_to_q (suc zero) h = (record { production = 1; position = 0 }, (record { in_range = lit< tt; head = refl; position = lit< tt }, onward (0, (lit< tt, refl), inr (inl refl)) here))
s_to_q (suc (suc p)) h = absurd (omega arith)

closed_keeps : KeepsCycles closed 4 2
closed_keeps k q = q.1 (by q.0.0 q.0.1.0 q.0.1.1)
  where
    by : (p : ℕ) → p < 2 → head_of (version_of closed 4 2) p ≡ k → IsOnCycle (version_of closed 4 2) k
    by zero h e = subst (IsOnCycle (version_of closed 4 2)) e (s_to_q 0 h)
    by (suc zero) h e = subst (IsOnCycle (version_of closed 4 2)) e (s_to_q 1 h)
    by (suc (suc p)) h e = absurd (omega arith)

-- with the first alone S goes on to nothing
closed_gets_on : GetsOnCycle closed 3 1 0
closed_gets_on = (
  (0, (lit< tt, refl)),
  not_on_cycle line line_rises 0,
  (record { production = 0; position = 1 }, (record { in_range = lit< tt; head = refl; position = lit< tt }, onward (1, (lit< tt, refl), inl refl) here)),
)

pub versions_are_worked : VersionsAreWorked
unfolding derives_within derives continuing address_in
versions_are_worked = record {
  longer_version = longer_version 3 (lit≤ tt) (lit≤ tt);
  longer_line = refl;
  longer_keeps = λ k q. not_on_cycle longer longer_rises k q.2;
  line_with_r = longer_version 4 (lit≤ tt) (lit≤ tt);
  too_few_modules = λ v. let h : 2 < 2 = v.bodies 0 (lit< tt) 2 (inr (inl refl)) in absurd (omega arith);
  longer_entries = refl;
  longer_formed = longer_formed;
  longer_proper = longer_proper;
  longer_linear = longer_linear;
  longer_safe = longer_safe;
  longer_alike = longer_alike;
  longer_verdict = longer_verdict;
  closed_version = closed_version;
  closed_line = refl;
  closed_gets_on = closed_gets_on;
  closed_changes = λ keeps. keeps 0 closed_gets_on;
  line_labels = refl;
  closed_labels = refl;
  closed_keeps = closed_keeps;
}
