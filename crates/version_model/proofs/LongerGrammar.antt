-- The longer grammar, worked: it is accepted, and the line grammar is a version of it that has its verdicts.
use Rattle.std.proofs.Common.{◌≡◌, ◌↔◌, ℕ, zero, suc, ◌<◌, ◌≤◌, true, false, IsTrue, [], ◌∷◌, length, None, count_by, refl, sym, subst, inl, inr, ⊎_elim, arith, lit<, lit≤, true≢false}
use Rattle.wf_model.specs.Lists.{IsIn, IsAt, Walk, here, onward}
use Rattle.wf_model.specs.Grammar.{Grammar, Given, Module, Position, Inner, inputs_of, outputs_of, head_of, body_of, IsAtomic}
use Rattle.wf_model.specs.WellFormed.{IsWellFormed, IsWellFormedBody, IsWellFormedModule, IsShortName, IsInnerInput, IsInnerOutput, same_inner}
use Rattle.wf_model.specs.Proper.{Makes, Derives, Becomes, RankWithin, IsProper}
use Rattle.wf_model.specs.Linear.{IsOnCycle, IsLinear}
use Rattle.wf_model.specs.View.{expands, shows, IsSeenModule, at_start}
use Rattle.wf_model.specs.Safe.{BodyJoins, IsInduced, IsSafe}
use Rattle.wf_model.specs.Finishing.{ExpandsComposites}
use Rattle.wf_model.specs.Reach.{target_of}
use Rattle.wf_model.proofs.Going.{step_makes}
use Rattle.wf_model.proofs.Taking.{short_gives, twice_gives}
use Rattle.wf_model.proofs.DefaultView.{default_expands_composites}
use Rattle.wf_laws.specs.Examples.{port}
use Rattle.wf_laws.specs.LineGrammar.{line, all_pairs, whole_view}
use Rattle.wf_laws.proofs.LineGrammar.{line_induced, line_grammar_is_worked}
use Rattle.wf_laws.proofs.Safe.{one_test_suffices}
use Rattle.label_model.specs.Labels.{Input}
use Rattle.verdict_model.specs.declared.verdict.Verdict.TheVariants.{Yes}
use Rattle.verdict_model.specs.Verdicts.{IsVerdict}
use Rattle.verdict_model.specs.Examples.{VerdictsAreWorked}
use Rattle.verdict_model.proofs.WorkedVerdicts.{verdicts_are_worked}
use Rattle.wf_model.specs.Versions.{IsVersion}
use Rattle.version_model.specs.Versions.{ShowAlike}
use Rattle.version_model.specs.Examples.{longer, s_alone, edge_of_s}
use Rattle.version_model.proofs.VersionFormed.{body_back}
use Rattle.version_model.proofs.VersionVerdicts.{version_verdict_law}

-- each body has modules of higher numbers than its head
abbrev pub Rises : Grammar → Type 0
Rises g = (a b : ℕ) → Makes g a b → a < b

-- in such a grammar no module is on a cycle
pub not_on_cycle : (g : Grammar) → Rises g → (k : ℕ) → IsOnCycle g k → ⊥
not_on_cycle g rises k c = let up = rises k (target_of g c.0) (step_makes g k c.0 c.1.0) in let l = along c.1.1 in absurd (omega arith)
  where
    along : {a b : ℕ} → Walk (Makes g) a b → a ≤ b
    along (here {x = x}) = let z : x ≤ x = omega arith in z
    along (onward {x = x} {y = y} {z = z} s w) = let q = rises x y s in let r = along w in let l : x ≤ z = omega arith in l

pub longer_rises : Rises longer
longer_rises a b q = go q.0 q.1.0 q.1.1 q.2
  where
    go : (p : ℕ) → p < 2 → head_of longer p ≡ a → IsIn b (body_of longer p) → a < b
    go zero h e (inl i) = omega (arith, e, i)
    go zero h e (inr (inl i)) = omega (arith, e, i)
    go zero h e (inr (inr i)) = absurd i
    go (suc zero) h e (inl i) = omega (arith, e, i)
    go (suc zero) h e (inr i) = absurd i
    go (suc (suc p)) h e i = absurd (omega arith)

-- the body of S has P and Q alone
pub p_and_q : (m k : ℕ) → 3 ≤ m → IsIn k (1 ∷ 2 ∷ []) → k < m
p_and_q m k h (inl e) = omega arith
p_and_q m k h (inr (inl e)) = omega arith
p_and_q m k h (inr (inr e)) = absurd e

-- so the first production is there with three modules or more
pub longer_version : (m : ℕ) → 3 ≤ m → m ≤ 4 → IsVersion longer m 1
longer_version m lo hi = record {
  modules = hi;
  productions = lit≤ tt;
  start = omega arith;
  heads = λ q h. let z : q ≡ 0 = omega arith in subst (λ y. head_of longer y < m) (sym z) (let w : 0 < m = omega arith in w);
  bodies = λ q h k i. let z : q ≡ 0 = omega arith in p_and_q m k lo (subst (λ y. IsIn k (body_of longer y)) z i);
}

-- there are two productions
two_productions : (P : ℕ → Type 0) → P 0 → P 1 → (p : ℕ) → p < 2 → P p
two_productions P a b zero h = a
two_productions P a b (suc zero) h = b
two_productions P a b (suc (suc p)) h = absurd (omega arith)

-- the modules of the line grammar, and R, which has the ports of P
r_formed : IsWellFormedModule (record { name = 82 ∷ []; inputs = (120 ∷ []) ∷ []; outputs = (121 ∷ []) ∷ [] })
r_formed =
    let p = line_grammar_is_worked.well_formed.modules _ (inr (inl refl)) in
    record { name = short_gives (82 ∷ []) refl; ports = p.ports; ports_differ = p.ports_differ; few_inputs = lit≤ tt; few_outputs = lit≤ tt }

modules_formed : (x : Module) → IsIn x longer.modules → IsWellFormedModule x
modules_formed x (inl e) = line_grammar_is_worked.well_formed.modules x (inl e)
modules_formed x (inr (inl e)) = line_grammar_is_worked.well_formed.modules x (inr (inl e))
modules_formed x (inr (inr (inl e))) = line_grammar_is_worked.well_formed.modules x (inr (inr (inl e)))
modules_formed x (inr (inr (inr (inl e)))) = subst IsWellFormedModule (sym e) r_formed
modules_formed x (inr (inr (inr (inr e)))) = absurd e

-- the body of Q
q_body : IsWellFormedBody longer 1
q_body = record {
  some_position = lit< tt;
  modules = λ m i. ⊎_elim (λ e. subst (λ z. z < 4) (sym e) (lit< tt)) (λ e. absurd e) i;
  names = λ q i. ⊎_elim (λ e. subst (λ (z : Position). IsShortName z.name) (sym e) (short_gives (122 ∷ []) refl)) (λ e. absurd e) i;
  names_differ = ((λ i. i), tt);
  edges_from = λ e h. absurd h;
  edges_to = λ e h. absurd h;
  entries_to = λ i h. ⊎_elim (λ e. subst (λ (z : Inner). IsInnerInput longer 1 z) (sym e) (3, refl, lit< tt)) (λ e. absurd e) h;
  exits_from = λ i h. ⊎_elim (λ e. subst (λ (z : Inner). IsInnerOutput longer 1 z) (sym e) (3, refl, lit< tt)) (λ e. absurd e) h;
  one_entry_each = refl;
  one_exit_each = refl;
  fed_once = λ i h. fed i.position i.port h.0 h.1 h.2;
  used_once = λ i h. used i.position i.port h.0 h.1 h.2;
  acyclic = λ a b s w. absurd s.1;
}
  where
    one : (i : ℕ) → i < 1 → count_by (same_inner (port 0 i)) (port 0 0 ∷ []) ≡ 1
    one zero l = refl
    one (suc i) l = absurd (omega arith)

    fed : (k i m : ℕ) → IsAt m k (3 ∷ []) → i < inputs_of longer m → count_by (same_inner (port k i)) (port 0 0 ∷ []) ≡ 1
    fed zero i m h l = one i (subst (λ z. i < inputs_of longer z) h l)
    fed (suc k) i m h l = absurd h

    used : (k i m : ℕ) → IsAt m k (3 ∷ []) → i < outputs_of longer m → count_by (same_inner (port k i)) (port 0 0 ∷ []) ≡ 1
    used zero i m h l = one i (subst (λ z. i < outputs_of longer z) h l)
    used (suc k) i m h l = absurd h

-- R heads no production
r_is_atomic : IsAtomic longer 3
r_is_atomic = two_productions (λ p. head_of longer p ≡ 3 → ⊥) (λ e. let z : 0 ≡ 3 = e in absurd (omega arith)) (λ e. let z : 2 ≡ 3 = e in absurd (omega arith))

pub longer_formed : IsWellFormed longer
longer_formed = record {
  start = lit< tt;
  modules = modules_formed;
  names_differ = (twice_gives [] ((83 ∷ []) ∷ (80 ∷ []) ∷ (81 ∷ []) ∷ (82 ∷ []) ∷ []) refl).0;
  few_modules = lit≤ tt;
  few_productions = lit≤ tt;
  few_positions = two_productions (λ p. length (body_of longer p) ≤ 64) (lit≤ tt) (lit≤ tt);
  small = lit≤ tt;
  heads = two_productions (λ p. head_of longer p < 4) (lit< tt) (lit< tt);
  bodies = two_productions (IsWellFormedBody longer) (body_back longer 3 1 (longer_version 3 (lit≤ tt) (lit≤ tt)) 0 (lit< tt) (line_grammar_is_worked.well_formed.bodies 0 (lit< tt))) q_body;
  given_atomic = λ d h. ⊎_elim (λ q. subst (λ (z : Given). (z.module_no < 4) × IsAtomic longer z.module_no) (sym q) (lit< tt, r_is_atomic)) (λ q. absurd q) h;
  given_pairs = λ d e h. ⊎_elim (λ q. subst (λ (z : Given). IsIn e z.pairs → (e.0 < inputs_of longer z.module_no) × (e.1 < outputs_of longer z.module_no)) (sym q) (one_pair e)) (λ q. absurd q) h;
}
  where
    one_pair : (e : ℕ × ℕ) → IsIn e ((0, 0) ∷ []) → (e.0 < inputs_of longer 3) × (e.1 < outputs_of longer 3)
    one_pair e i = ⊎_elim (λ q. subst (λ (z : ℕ × ℕ). (z.0 < inputs_of longer 3) × (z.1 < outputs_of longer 3)) (sym q) (lit< tt, lit< tt)) (λ q. absurd q) i

pub longer_linear : IsLinear longer
longer_linear m s t a b = absurd (not_on_cycle longer longer_rises m (s, a))

-- S and Q alone are composite
atomic : (m : ℕ) → (m ≡ 0 → ⊥) → (m ≡ 2 → ⊥) → IsAtomic longer m
atomic m a b p h e = two_productions (λ p. head_of longer p ≡ m → ⊥) (λ e. a (sym e)) (λ e. b (sym e)) p h e

rank_of_q : RankWithin longer 1 2
rank_of_q = inr (1, (lit< tt, refl), λ k i. ⊎_elim (λ e. atomic k (λ z. absurd (omega (arith, e, z))) (λ z. absurd (omega (arith, e, z)))) (λ e. absurd e) i)

rank_of_s : RankWithin longer 2 0
rank_of_s = inr (0, (lit< tt, refl), kids)
  where
    kids : (k : ℕ) → IsIn k (1 ∷ 2 ∷ []) → RankWithin longer 1 k
    kids k (inl e) = inl (atomic k (λ z. absurd (omega (arith, e, z))) (λ z. absurd (omega (arith, e, z))))
    kids k (inr (inl e)) = subst (RankWithin longer 1) (sym e) rank_of_q
    kids k (inr (inr e)) = absurd e

pub longer_proper : IsProper longer
longer_proper = record {
  reached = λ m c. subst (Derives longer 0) c.1.1 (two_productions (λ p. Derives longer 0 (head_of longer p)) here (onward (0, (lit< tt, refl), inr (inl refl)) here) c.0 c.1.0);
  ranked = λ m c. subst (λ z. (n : ℕ) × RankWithin longer n z) c.1.1 (two_productions (λ p. (n : ℕ) × RankWithin longer n (head_of longer p)) (2, rank_of_s) (1, rank_of_q) c.0 c.1.0);
  no_unit_loop = λ a b h w. let l = longer_rises a b (h.0, h.1, h.3) in let k = along w in absurd (omega arith);
}
  where
    along : {a b : ℕ} → Walk (Becomes longer) a b → a ≤ b
    along (here {x = x}) = let z : x ≤ x = omega arith in z
    along (onward {x = x} {y = y} {z = z} s w) = let q = longer_rises x y (s.0, s.1, s.3) in let r = along w in let l : x ≤ z = omega arith in l

-- the same modules are expanded as in the line grammar by default
line_composites : ExpandsComposites line whole_view
line_composites = subst (ExpandsComposites line) line_grammar_is_worked.default (default_expands_composites line)

longer_composites : ExpandsComposites longer s_alone
longer_composites m h = let c = line_composites m h in let z : c.0 ≡ 0 = omega (arith, c.1.0) in (0, (lit< tt, subst (λ p. head_of line p ≡ m) z c.1.1))

-- all pairs are induced
abbrev ByBody : ℕ → Type 0
ByBody p = IsSeenModule longer s_alone (head_of longer p) → IsTrue (expands s_alone (head_of longer p)) → (i o : ℕ) → i < inputs_of longer (head_of longer p) → o < outputs_of longer (head_of longer p) → IsTrue true ↔ BodyJoins longer all_pairs p i o

longer_induced : IsInduced longer s_alone all_pairs
longer_induced = record {
  shown = λ m s ex i o hi ho. shown m i o ex hi ho;
  induced = two_productions ByBody (λ s ex i o hi ho. line_induced.induced 0 (lit< tt) (at_start refl) refl i o hi ho) (λ s ex i o hi ho. absurd (true≢false (sym ex)));
}
  where
    one : (m i o : ℕ) → i < 1 → o < 1 → shows s_alone m 0 0 ≡ true → true ≡ shows s_alone m i o
    one m zero zero hi ho e = sym e
    one m zero (suc o) hi ho e = absurd (omega arith)
    one m (suc i) o hi ho e = absurd (omega arith)

    shown : (m i o : ℕ) → expands s_alone m ≡ false → i < inputs_of longer m → o < outputs_of longer m → true ≡ shows s_alone m i o
    shown zero i o ex hi ho = absurd (true≢false ex)
    shown (suc zero) i o ex hi ho = one 1 i o hi ho refl
    shown (suc (suc zero)) i o ex hi ho = one 2 i o hi ho refl
    shown (suc (suc (suc zero))) i o ex hi ho = one 3 i o hi ho refl
    shown (suc (suc (suc (suc m)))) i o ex hi ho = absurd (omega arith)

pub longer_safe : IsSafe longer s_alone
longer_safe m s a b xa xb i o hi ho q =
    let full = one_test_suffices longer s_alone all_pairs longer_formed longer_induced m s in
    (full b xb i o hi ho).0 ((full a xa i o hi ho).1 q)

pub longer_alike : ShowAlike line whole_view s_alone
longer_alike = record { expanded = λ k h. refl; shown = λ k h ex i o hi ho. same k h i o }
  where
    same : (k : ℕ) → k < 3 → (i o : ℕ) → shows s_alone k i o ≡ shows whole_view k i o
    same zero h i o = refl
    same (suc zero) h i o = refl
    same (suc (suc zero)) h i o = refl
    same (suc (suc (suc k))) h i o = absurd (omega arith)

-- the verdict that the line grammar has on its input and its edge
pub longer_verdict : IsVerdict longer s_alone (Input 0) (edge_of_s None) Yes
longer_verdict =
    let v : VerdictsAreWorked = verdicts_are_worked in
    (version_verdict_law longer 3 1 (longer_version 3 (lit≤ tt) (lit≤ tt)) longer_formed longer_linear (λ k q. not_on_cycle longer longer_rises k q.2) line_grammar_is_worked.proper longer_proper
    whole_view s_alone line_composites longer_composites longer_safe longer_alike (Input 0) (edge_of_s None) (lit< tt) v.label_of_i1_y.1 Yes).0 v.edge_of_input
