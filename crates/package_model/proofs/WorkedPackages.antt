-- The worked packages, and the labels that are read over them.
use Rattle.std.proofs.Common.{◌≡◌, ℕ, zero, suc, ◌+◌, ◌<◌, Bool, true, false, IsTrue, List, [], ◌∷◌, ◌++◌, replicate, Some, None, refl, sym, ap, ◌∙◌, subst, inl, inr, ⊎_elim, arith, lit<, lit≤, true≢false}
use Rattle.std.specs.Prelude.{decimal}
use Rattle.std.proofs.lemmas.Fmt.{decimal_digit}
use Rattle.wf_model.specs.Lists.{IsIn}
use Rattle.wf_model.specs.Grammar.{Grammar, inputs_of, outputs_of, head_of, body_of, IsAtomic}
use Rattle.wf_model.specs.View.{expands, shows, IsSeenModule, at_start, in_body}
use Rattle.wf_model.specs.DefaultView.{default_view}
use Rattle.wf_model.specs.Safe.{IsInduced}
use Rattle.wf_model.specs.Finishing.{ExpandsComposites}
use Rattle.wf_model.proofs.DefaultView.{default_expands_composites}
use Rattle.wf_model.proofs.Rising.{numbers_rise}
use Rattle.bit_pack.specs.Bits.{low_bits}
use Rattle.bit_pack.specs.Gamma.{digits, binary, gamma}
use Rattle.bit_pack.proofs.Codes.{prefix_free_law as gamma_law}
use Rattle.wf_laws.specs.Examples.{port, edge}
use Rattle.wf_laws.specs.LineGrammar.{line, all_pairs, shut_view}
use Rattle.wf_laws.specs.TwistingGrammar.{twisting, whole_view}
use Rattle.wf_laws.proofs.LineGrammar.{line_grammar_is_worked}
use Rattle.label_model.specs.Continuing.{derives_within, derives, continuing}
use Rattle.label_model.specs.Labels.{Label, Input, Output, OfEdge, chain_bits, prefix_bits, label_bits}
use Rattle.label_model.specs.Examples.{edge_after}
use Rattle.label_model.proofs.LabelBits.{label_spread}
use Rattle.verdict_model.specs.declared.verdict.Verdict.{Verdict}
use Rattle.verdict_model.specs.declared.verdict.Verdict.TheVariants.{Yes}
use Rattle.verdict_model.specs.Verdicts.{AreClashing, IsVerdict}
use Rattle.verdict_model.proofs.Naming.{input_unnamed}
use Rattle.verdict_model.proofs.Answering.{answer_induced}
use Rattle.package_model.specs.Shown.{AreSeen}
use Rattle.package_model.specs.Packages.{package_of, loops_of, loop_of}
use Rattle.package_model.specs.Translating.{IsTranslatedTo, Translation, Inside, Outside, Malformed}
use Rattle.package_model.specs.Consulting.{IsTold}
use Rattle.verdict_model.specs.Examples.{first_edge}
use Rattle.package_model.specs.Examples.{shut, shut_package, whole, whole_package, cut, loop_entry, ComesTo, PackagesAreWorked}
use Rattle.package_model.proofs.DefaultShows.{default_hides_none}
use Rattle.package_model.proofs.PackageLaws.{package_law}

-- ---- nothing is expanded
shut_seen : AreSeen line shut_view (0 ∷ []) []
shut_seen = record {
  modules_in_order = numbers_rise (λ _. true) 0 1;
  modules = λ m. ((λ h. ⊎_elim (λ e. at_start e) (λ e. absurd e) h), start_alone m);
  productions_in_order = numbers_rise (λ _. true) 0 0;
  productions = λ p. ((λ h. absurd h), (λ h. let z : false ≡ true = h.2 in absurd (true≢false (sym z))));
}
  where
    start_alone : (m : ℕ) → IsSeenModule line shut_view m → IsIn m (0 ∷ [])
    start_alone m (at_start e) = inl e
    start_alone m (in_body p hp s ex i) = let z : false ≡ true = ex in absurd (true≢false (sym z))

shut_is : package_of shut ≡ shut_package
shut_is =
    let named : List ℕ → Grammar = λ z. record { start = 0; modules = record { name = 109 ∷ z; inputs = (105 ∷ z) ∷ []; outputs = (111 ∷ z) ∷ [] } ∷ []; productions = []; given = [] } in
    ap named (decimal_digit 0 (lit< tt))

shut_atomic : IsAtomic (package_of shut) 0
shut_atomic p h e = let z : p < 0 = h in absurd (omega arith)

shut_input : ComesTo shut (0x20 ∷ []) (Inside (Input 0))
unfolding digits binary gamma low_bits label_bits
shut_input = record { read = Input 0; translated = (lit< tt, refl); padding = 5; few = lit< tt; is = refl }

shut_output : ComesTo shut (0x60 ∷ []) (Inside (Output 0))
unfolding digits binary gamma low_bits label_bits
shut_output = record { read = Output 0; translated = (lit< tt, refl); padding = 5; few = lit< tt; is = refl }

shut_edge : ComesTo shut (0xb0 ∷ []) Outside
unfolding digits binary gamma low_bits
shut_edge = record { steps = []; led = []; lead = refl; chain = None; round = []; goes = refl; atomic = shut_atomic; rest = false ∷ true ∷ true ∷ false ∷ false ∷ false ∷ false ∷ []; is = refl }

shut_beginning : ComesTo shut (0xb1 ∷ []) Outside
unfolding digits binary gamma low_bits
shut_beginning = record { steps = []; led = []; lead = refl; chain = None; round = []; goes = refl; atomic = shut_atomic; rest = false ∷ true ∷ true ∷ false ∷ false ∷ false ∷ true ∷ []; is = refl }

-- 00, the code of 2, and zero bits
abbrev other_input : List Bool
other_input = false ∷ false ∷ false ∷ true ∷ false ∷ false ∷ false ∷ false ∷ []

no_input : (l k : Label) (x : List Bool) → IsTranslatedTo (package_of shut) (loop_of shut) k l → other_input ≡ label_bits k ++ x → ⊥
unfolding digits binary gamma label_bits
no_input l (Input p) x t e =
    let codes : gamma (1 + 1) ++ (false ∷ false ∷ false ∷ []) ≡ gamma (p + 1) ++ x = cc in
    let r = gamma_law (1 + 1) (p + 1) _ x (lit< tt) (omega arith) codes in
    let z : p < 1 = t.0 in
    absurd (omega (arith, r.0))
no_input l (Output p) x t e = absurd (cc)
no_input l (OfEdge p) x t e = let w = e ∙ label_spread p x in absurd (cc)

shut_malformed : ComesTo shut (0x10 ∷ []) Malformed
unfolding low_bits
shut_malformed = (
  (λ l h. no_input l h.read (replicate h.padding false) h.translated h.is),
  (λ h. let e : other_input ≡ prefix_bits h.steps ++ (chain_bits h.chain ++ h.rest) = h.is in absurd (cc)),
)

-- S has the pair that the view shows of it
shut_induced : IsInduced line shut_view all_pairs
shut_induced = record {
  shown = λ m s ex i o hi ho. shown m (start_alone m s) i o hi ho;
  induced = λ p hp s ex i o hi ho. let z : false ≡ true = ex in absurd (true≢false (sym z));
}
  where
    start_alone : (m : ℕ) → IsSeenModule line shut_view m → m ≡ 0
    start_alone m (at_start e) = e
    start_alone m (in_body p hp s ex i) = let z : false ≡ true = ex in absurd (true≢false (sym z))

    first : (i o : ℕ) → i < 1 → o < 1 → true ≡ shows shut_view 0 i o
    first zero zero hi ho = refl
    first zero (suc o) hi ho = absurd (omega arith)
    first (suc i) o hi ho = absurd (omega arith)

    shown : (m : ℕ) → m ≡ 0 → (i o : ℕ) → i < inputs_of line m → o < outputs_of line m → true ≡ shows shut_view m i o
    shown zero e i o hi ho = first i o hi ho
    shown (suc m) e i o hi ho = absurd (omega arith)

nothing_expanded : ExpandsComposites line shut_view
nothing_expanded m ex = let z : false ≡ true = ex in absurd (true≢false (sym z))

no_clash : (k : Label) → AreClashing (package_of shut) (Input 0) k → ⊥
no_clash k h = input_unnamed (package_of shut) 0 h.0 h.1 h.3

-- so in the package its output depends on its input
shut_verdict : IsVerdict (package_of shut) (default_view (package_of shut)) (Input 0) (Output 0) Yes
shut_verdict =
    let p = package_law line shut_view (0 ∷ []) [] nothing_expanded shut_seen in
    let w = line_grammar_is_worked in
    let a = answer_induced (package_of shut) (default_view (package_of shut)) _ (p.formed w.well_formed) (p.proper w.proper) (default_expands_composites (package_of shut)) (p.induced all_pairs shut_induced) (Input 0) (Output 0) (lit< tt) (lit< tt)
    (default_hides_none (package_of shut) (Input 0), default_hides_none (package_of shut) (Output 0)) (no_clash (Output 0)) in
    ((default_hides_none (package_of shut) (Input 0), default_hides_none (package_of shut) (Output 0)), no_clash (Output 0), a.yes [] [] 0 0 (refl, refl) (refl, refl) refl)

-- ---- all is expanded
below_four : (m : ℕ) → m < 4 → IsIn m (0 ∷ 1 ∷ 2 ∷ 3 ∷ [])
below_four zero h = inl refl
below_four (suc zero) h = inr (inl refl)
below_four (suc (suc zero)) h = inr (inr (inl refl))
below_four (suc (suc (suc zero))) h = inr (inr (inr (inl refl)))
below_four (suc (suc (suc (suc m)))) h = absurd (omega arith)

whole_seen : AreSeen twisting whole_view (0 ∷ 1 ∷ 2 ∷ 3 ∷ []) (0 ∷ 1 ∷ 2 ∷ [])
whole_seen = record {
  modules_in_order = numbers_rise (λ _. true) 0 4;
  modules = λ m. (seen m, λ s. below_four m (below m s));
  productions_in_order = numbers_rise (λ _. true) 0 3;
  productions = λ p. (opened p, λ o. below_three p o.0);
}
  where
    root : IsSeenModule twisting whole_view 0
    root = at_start refl

    inner : IsSeenModule twisting whole_view 1
    inner = in_body 0 (lit< tt) root refl (inl refl)

    seen : (m : ℕ) → IsIn m (0 ∷ 1 ∷ 2 ∷ 3 ∷ []) → IsSeenModule twisting whole_view m
    seen m (inl e) = at_start e
    seen m (inr (inl e)) = subst (IsSeenModule twisting whole_view) (sym e) inner
    seen m (inr (inr (inl e))) = subst (IsSeenModule twisting whole_view) (sym e) (in_body 1 (lit< tt) inner refl (inl refl))
    seen m (inr (inr (inr (inl e)))) = subst (IsSeenModule twisting whole_view) (sym e) (in_body 2 (lit< tt) inner refl (inl refl))
    seen m (inr (inr (inr (inr e)))) = absurd e

    in_first : (m : ℕ) → IsIn m (1 ∷ []) → m < 4
    in_first m (inl e) = omega arith
    in_first m (inr e) = absurd e

    in_second : (m : ℕ) → IsIn m (2 ∷ 1 ∷ 2 ∷ []) → m < 4
    in_second m (inl e) = omega arith
    in_second m (inr (inl e)) = omega arith
    in_second m (inr (inr (inl e))) = omega arith
    in_second m (inr (inr (inr e))) = absurd e

    in_third : (m : ℕ) → IsIn m (3 ∷ []) → m < 4
    in_third m (inl e) = omega arith
    in_third m (inr e) = absurd e

    by : (p m : ℕ) → p < 3 → IsIn m (body_of twisting p) → m < 4
    by zero m h i = in_first m i
    by (suc zero) m h i = in_second m i
    by (suc (suc zero)) m h i = in_third m i
    by (suc (suc (suc p))) m h i = absurd (omega arith)

    below : (m : ℕ) → IsSeenModule twisting whole_view m → m < 4
    below m (at_start e) = omega (arith, e)
    below m (in_body p hp s ex i) = by p m hp i

    opened : (p : ℕ) → IsIn p (0 ∷ 1 ∷ 2 ∷ []) → (p < 3) × IsSeenModule twisting whole_view (head_of twisting p) × IsTrue (expands whole_view (head_of twisting p))
    opened zero i = (lit< tt, root, refl)
    opened (suc zero) i = (lit< tt, inner, refl)
    opened (suc (suc zero)) i = (lit< tt, inner, refl)
    opened (suc (suc (suc p))) (inl e) = absurd (omega arith)
    opened (suc (suc (suc p))) (inr (inl e)) = absurd (omega arith)
    opened (suc (suc (suc p))) (inr (inr (inl e))) = absurd (omega arith)
    opened (suc (suc (suc p))) (inr (inr (inr e))) = absurd e

    below_three : (p : ℕ) → p < 3 → IsIn p (0 ∷ 1 ∷ 2 ∷ [])
    below_three zero h = inl refl
    below_three (suc zero) h = inr (inl refl)
    below_three (suc (suc zero)) h = inr (inr (inl refl))
    below_three (suc (suc (suc p))) h = absurd (omega arith)

-- the package with these as its numbers in names
abbrev numbered_by : List ℕ → List ℕ → List ℕ → List ℕ → Grammar
numbered_by a b c d = record {
  start = 0;
  modules =
      record { name = 109 ∷ a; inputs = (105 ∷ a) ∷ (105 ∷ b) ∷ []; outputs = (111 ∷ a) ∷ (111 ∷ b) ∷ [] } ∷
      record { name = 109 ∷ b; inputs = (105 ∷ a) ∷ (105 ∷ b) ∷ []; outputs = (111 ∷ a) ∷ (111 ∷ b) ∷ [] } ∷
      record { name = 109 ∷ c; inputs = (105 ∷ a) ∷ (105 ∷ b) ∷ []; outputs = (111 ∷ a) ∷ (111 ∷ b) ∷ [] } ∷
      record { name = 109 ∷ d; inputs = (105 ∷ a) ∷ (105 ∷ b) ∷ []; outputs = (111 ∷ a) ∷ (111 ∷ b) ∷ [] } ∷ [];
  productions =
      record { head = 0; positions = record { name = 112 ∷ a; module_no = 1 } ∷ []; edges = []; entries = port 0 0 ∷ port 0 1 ∷ []; exits = port 0 0 ∷ port 0 1 ∷ [] } ∷
      record { head = 1; positions = record { name = 112 ∷ a; module_no = 2 } ∷ record { name = 112 ∷ b; module_no = 1 } ∷ record { name = 112 ∷ c; module_no = 2 } ∷ []; edges = edge 0 0 1 0 ∷ edge 0 1 1 1 ∷ edge 1 0 2 0 ∷ edge 1 1 2 1 ∷ []; entries = port 0 0 ∷ port 0 1 ∷ []; exits = port 2 0 ∷ port 2 1 ∷ [] } ∷
      record { head = 1; positions = record { name = 112 ∷ a; module_no = 3 } ∷ []; edges = []; entries = port 0 0 ∷ port 0 1 ∷ []; exits = port 0 0 ∷ port 0 1 ∷ [] } ∷ [];
  given = record { module_no = 2; pairs = (0, 1) ∷ (1, 0) ∷ [] } ∷ record { module_no = 3; pairs = (0, 0) ∷ (1, 1) ∷ [] } ∷ [];
}

whole_is : package_of whole ≡ whole_package
whole_is =
    ap (λ z. numbered_by z (decimal 1) (decimal 2) (decimal 3)) (decimal_digit 0 (lit< tt)) ∙
    (ap (λ z. numbered_by (48 ∷ []) z (decimal 2) (decimal 3)) (decimal_digit 1 (lit< tt)) ∙
    (ap (λ z. numbered_by (48 ∷ []) (49 ∷ []) z (decimal 3)) (decimal_digit 2 (lit< tt)) ∙
    ap (λ z. numbered_by (48 ∷ []) (49 ∷ []) (50 ∷ []) z) (decimal_digit 3 (lit< tt))))

whole_loops : loops_of whole ≡ loop_entry (109 ∷ 49 ∷ []) 1 1 ∷ []
unfolding derives_within derives continuing
whole_loops = ap (λ z. loop_entry (109 ∷ z) 1 1 ∷ []) (decimal_digit 1 (lit< tt))

cut_loops : loops_of cut ≡ loop_entry (109 ∷ 48 ∷ []) 0 1 ∷ []
unfolding derives_within derives continuing
cut_loops = ap (λ z. loop_entry (109 ∷ z) 0 1 ∷ []) (decimal_digit 0 (lit< tt))

-- an edge of an L that a step and no continuing step lead to
whole_edge : ComesTo whole (0xfb ∷ []) (Inside (edge_after 0))
unfolding digits binary gamma low_bits label_bits derives_within derives continuing
whole_edge = record {
  read = edge_after 0;
  translated = (
    record { production = 0; position = 0 } ∷ [],
    1,
    record {
      led = record { production = 0; position = 0 } ∷ [];
      lead = (
        record { production = 0; position = 0 } ∷ [],
        [],
        record {
          round = [];
          chain = (refl, refl);
          step = record { production = 0; position = 0 };
          of_it = record { in_range = lit< tt; head = refl; position = lit< tt };
          alternative = refl;
          position = refl;
          leaves = λ e. (cc);
          is = refl;
        },
        refl,
        refl,
      );
      round = [];
      chain = ((λ e. (cc)), lit≤ tt, tt, refl);
      is = refl;
      of_it = (lit< tt, refl);
      alternative = refl;
      edge = lit< tt;
    },
    refl,
  );
  padding = 0;
  few = lit< tt;
  is = refl;
}

-- ---- the cycle is cut
cut_edge : ComesTo cut (0xd8 ∷ []) (Inside first_edge)
unfolding digits binary gamma low_bits label_bits derives_within derives continuing
cut_edge = record {
  read = OfEdge (record { steps = []; chain = Some 0; alternative = 0; edge = 0 });
  translated = (
    [],
    0,
    record { led = []; lead = refl; round = []; chain = ((λ e. (cc)), lit≤ tt, tt, refl); is = refl; of_it = (lit< tt, refl); alternative = refl; edge = lit< tt },
    refl,
  );
  padding = 3;
  few = lit< tt;
  is = refl;
}

cut_atomic : IsAtomic (package_of cut) 1
cut_atomic zero h e = let z : ◌≡◌ {A = ℕ} 0 1 = e in absurd (omega arith)
cut_atomic (suc zero) h e = let z : ◌≡◌ {A = ℕ} 0 1 = e in absurd (omega arith)
cut_atomic (suc (suc p)) h e = let z : suc (suc p) < 2 = h in absurd (omega arith)

cut_outside : ComesTo cut (0xa6 ∷ []) Outside
unfolding digits binary gamma low_bits derives_within derives continuing
cut_outside = record {
  steps = [];
  led = [];
  lead = refl;
  chain = Some 1;
  round = record { production = 0; position = 1 } ∷ [];
  goes = ((λ e. (cc)), lit≤ tt, (refl, tt), lit≤ tt);
  atomic = cut_atomic;
  rest = false ∷ true ∷ true ∷ false ∷ [];
  is = refl;
}

pub packages_are_worked : PackagesAreWorked
packages_are_worked = record {
  shut_seen = shut_seen;
  shut_is = shut_is;
  shut_loops = refl;
  fork_is = refl;
  shut_input = shut_input;
  shut_output = shut_output;
  shut_edge = shut_edge;
  shut_beginning = shut_beginning;
  shut_malformed = shut_malformed;
  shut_yes = record { first = Inside (Input 0); second = Inside (Output 0); first_is = shut_input; second_is = shut_output; told = shut_verdict };
  shut_second = record { first = Inside (Input 0); second = Outside; first_is = shut_input; second_is = shut_edge; told = refl };
  shut_first = record { first = Outside; second = Inside (Input 0); first_is = shut_beginning; second_is = shut_input; told = refl };
  shut_none = λ v c. none v c.first c.second c.first_is c.told;
  whole_seen = whole_seen;
  whole_is = whole_is;
  whole_loops = whole_loops;
  whole_edge = whole_edge;
  cut_loops = cut_loops;
  cut_edge = cut_edge;
  cut_outside = cut_outside;
}
  where
    none : (v : Verdict) (t r : Translation) → ComesTo shut (0x10 ∷ []) t → IsTold (package_of shut) t r v → ⊥
    none v (Inside l) r h q = shut_malformed.0 l h
    none v Outside r h q = shut_malformed.1 h
    none v Malformed r h q = q
