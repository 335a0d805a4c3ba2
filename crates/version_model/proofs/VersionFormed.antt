-- A version of a well-formed grammar is well-formed.
use Rattle.std.proofs.Common.{ℕ, zero, suc, ◌*◌, ◌<◌, ◌≤◌, ltb, List, [], ◌∷◌, ◌++◌, map, length, take, count_by, sum_by, sym, ap, ◌∙◌, subst, inl, inr, arith}
use Rattle.std.proofs.lemmas.List.Sums.{sum_by-cons}
use Rattle.std.proofs.lemmas.Bool.{ltb-true}
use Rattle.wf_model.specs.Lists.{IsIn, IsAt, AllDiffer}
use Rattle.wf_model.specs.Grammar.{Grammar, Module, Position, Production, Inner, Edge, Given, inputs_of, outputs_of, head_of, body_of}
use Rattle.wf_model.specs.WellFormed.{IsInnerInput, IsInnerOutput, same_inner, IsFollowedBy, IsWellFormedBody, IsWellFormed}
use Rattle.wf_model.proofs.Lists.{in_map, in_map_from, in_filter_from, at_in}
use Rattle.wf_laws.proofs.Safe.{walk_same}
use Rattle.wf_model.specs.Versions.{version_of, IsVersion}
use Rattle.version_model.specs.Laws.{VersionFormedLaw}
use Rattle.version_model.proofs.SameParts.{count_modules, count_productions, in_version, in_grammar, production_same, head_same, body_same, ins_same, outs_same, continues_up}

-- what stands in the first part of a list stands in the list
in_take : {A : Type 0} (x : A) (n : ℕ) (xs : List A) → IsIn x (take n xs) → IsIn x xs
in_take x zero xs h = absurd h
in_take x (suc n) [] h = absurd h
in_take x (suc n) (y ∷ ys) (inl e) = inl e
in_take x (suc n) (y ∷ ys) (inr h) = inr (in_take x n ys h)

differ_take : {A : Type 0} (f : A → List ℕ) (n : ℕ) (xs : List A) → AllDiffer (map f xs) → AllDiffer (map f (take n xs))
differ_take f zero xs d = tt
differ_take f (suc n) [] d = tt
differ_take f (suc n) (x ∷ xs) d =
    ((λ h. let r = in_map_from f (f x) (take n xs) h in d.0 (subst (λ z. IsIn z (map f xs)) (sym r.2) (in_map f r.0 xs (in_take r.0 n xs r.1)))), differ_take f n xs d.1)

sum_take : {A : Type 0} (f : A → ℕ) (n : ℕ) (xs : List A) → sum_by f (take n xs) ≤ sum_by f xs
sum_take f zero xs = omega arith
sum_take f (suc n) [] = omega arith
sum_take f (suc n) (x ∷ xs) = let a = sum_by-cons f x xs in let b = sum_by-cons f x (take n xs) in let c = sum_take f n xs in omega arith

-- the ports of the positions of a body of a version
module _ (g : Grammar) (m p : ℕ) (is : IsVersion g m p) (q : ℕ) (h : q < p) where
  there : (k j : ℕ) → IsAt k j (body_of g q) → k < m
  there k j a = is.bodies q h k (at_in k j (body_of g q) a)

  output_down : (i : Inner) → IsInnerOutput g q i → IsInnerOutput (version_of g m p) q i
  output_down i x = (x.0, subst (IsAt x.0 i.position) (sym (body_same g m p is q h)) x.1, subst (λ z. i.port < z) (sym (outs_same g m p is x.0 (there x.0 i.position x.1))) x.2)

  input_down : (i : Inner) → IsInnerInput g q i → IsInnerInput (version_of g m p) q i
  input_down i x = (x.0, subst (IsAt x.0 i.position) (sym (body_same g m p is q h)) x.1, subst (λ z. i.port < z) (sym (ins_same g m p is x.0 (there x.0 i.position x.1))) x.2)

  output_up : (i : Inner) → IsInnerOutput (version_of g m p) q i → IsInnerOutput g q i
  output_up i x = let a = subst (IsAt x.0 i.position) (body_same g m p is q h) x.1 in (x.0, a, subst (λ z. i.port < z) (outs_same g m p is x.0 (there x.0 i.position a)) x.2)

  input_up : (i : Inner) → IsInnerInput (version_of g m p) q i → IsInnerInput g q i
  input_up i x = let a = subst (IsAt x.0 i.position) (body_same g m p is q h) x.1 in (x.0, a, subst (λ z. i.port < z) (ins_same g m p is x.0 (there x.0 i.position a)) x.2)

  followed_up : (a b : ℕ) → IsFollowedBy (version_of g m p) q a b → IsFollowedBy g q a b
  followed_up a b f = (f.0, subst (λ (z : Production). IsIn f.0 z.edges) (production_same g m p is q h) f.1, f.2, f.3)

  followed_down : (a b : ℕ) → IsFollowedBy g q a b → IsFollowedBy (version_of g m p) q a b
  followed_down a b f = (f.0, subst (λ (z : Production). IsIn f.0 z.edges) (sym (production_same g m p is q h)) f.1, f.2, f.3)

  -- a body that is well-formed in the version is so in the grammar
  pub body_back : IsWellFormedBody (version_of g m p) q → IsWellFormedBody g q
  body_back wb =
      let r = sym (production_same g m p is q h) in
      let b = body_same g m p is q h in
      let head = head_same g m p is q h in
      record {
        some_position = subst (λ l. 0 < length l) b wb.some_position;
        modules = λ k i. let x = is.bodies q h k i in let y = is.modules in omega arith;
        names = λ z i. wb.names z (subst (λ (w : Production). IsIn z w.positions) r i);
        names_differ = subst (λ (w : Production). AllDiffer (map (λ (z : Position). z.name) w.positions)) (sym r) wb.names_differ;
        edges_from = λ e i. output_up e.from (wb.edges_from e (subst (λ (w : Production). IsIn e w.edges) r i));
        edges_to = λ e i. input_up e.to (wb.edges_to e (subst (λ (w : Production). IsIn e w.edges) r i));
        entries_to = λ x i. input_up x (wb.entries_to x (subst (λ (w : Production). IsIn x w.entries) r i));
        exits_from = λ x i. output_up x (wb.exits_from x (subst (λ (w : Production). IsIn x w.exits) r i));
        one_entry_each = ap (λ (w : Production). length w.entries) r ∙ (wb.one_entry_each ∙ (ap (inputs_of (version_of g m p)) head ∙ ins_same g m p is (head_of g q) (is.heads q h)));
        one_exit_each = ap (λ (w : Production). length w.exits) r ∙ (wb.one_exit_each ∙ (ap (outputs_of (version_of g m p)) head ∙ outs_same g m p is (head_of g q) (is.heads q h)));
        fed_once = λ i x. ap (λ (w : Production). count_by (same_inner i) (map (λ (e : Edge). e.to) w.edges ++ w.entries)) r ∙ wb.fed_once i (input_down i x);
        used_once = λ i x. ap (λ (w : Production). count_by (same_inner i) (map (λ (e : Edge). e.from) w.edges ++ w.exits)) r ∙ wb.used_once i (output_down i x);
        acyclic = λ a b f w. wb.acyclic a b (followed_down a b f) (walk_same followed_down w);
      }

module _ (g : Grammar) (m p : ℕ) (is : IsVersion g m p) (wf : IsWellFormed g) where
  body_formed : (q : ℕ) → q < p → IsWellFormedBody (version_of g m p) q
  body_formed q h =
      let wb = wf.bodies q (in_grammar g m p is q h) in
      let r = production_same g m p is q h in
      let b = body_same g m p is q h in
      let head = head_same g m p is q h in
      record {
        some_position = subst (λ l. 0 < length l) (sym b) wb.some_position;
        modules = λ k i. subst (λ z. k < z) (sym (count_modules g m p is)) (is.bodies q h k (subst (IsIn k) b i));
        names = λ z i. wb.names z (subst (λ (w : Production). IsIn z w.positions) r i);
        names_differ = subst (λ (w : Production). AllDiffer (map (λ (z : Position). z.name) w.positions)) (sym r) wb.names_differ;
        edges_from = λ e i. output_down g m p is q h e.from (wb.edges_from e (subst (λ (w : Production). IsIn e w.edges) r i));
        edges_to = λ e i. input_down g m p is q h e.to (wb.edges_to e (subst (λ (w : Production). IsIn e w.edges) r i));
        entries_to = λ x i. input_down g m p is q h x (wb.entries_to x (subst (λ (w : Production). IsIn x w.entries) r i));
        exits_from = λ x i. output_down g m p is q h x (wb.exits_from x (subst (λ (w : Production). IsIn x w.exits) r i));
        one_entry_each = ap (λ (w : Production). length w.entries) r ∙ (wb.one_entry_each ∙ (sym (ins_same g m p is (head_of g q) (is.heads q h)) ∙ ap (inputs_of (version_of g m p)) (sym head)));
        one_exit_each = ap (λ (w : Production). length w.exits) r ∙ (wb.one_exit_each ∙ (sym (outs_same g m p is (head_of g q) (is.heads q h)) ∙ ap (outputs_of (version_of g m p)) (sym head)));
        fed_once = λ i x. ap (λ (w : Production). count_by (same_inner i) (map (λ (e : Edge). e.to) w.edges ++ w.entries)) r ∙ wb.fed_once i (input_up g m p is q h i x);
        used_once = λ i x. ap (λ (w : Production). count_by (same_inner i) (map (λ (e : Edge). e.from) w.edges ++ w.exits)) r ∙ wb.used_once i (output_up g m p is q h i x);
        acyclic = λ a b f w. wb.acyclic a b (followed_up g m p is q h a b f) (walk_same (followed_up g m p is q h) w);
      }

  given_kept : (d : Given) → IsIn d (version_of g m p).given → IsIn d g.given × (d.module_no < m)
  given_kept d h = let q = in_filter_from (λ (z : Given). ltb z.module_no m) d g.given h in (q.0, ltb-true d.module_no m q.1)

  pub formed : IsWellFormed (version_of g m p)
  formed = record {
    start = subst (λ z. g.start < z) (sym (count_modules g m p is)) is.start;
    modules = λ x h. wf.modules x (in_take x m g.modules h);
    names_differ = differ_take (λ (x : Module). x.name) m g.modules wf.names_differ;
    few_modules = let a = is.modules in let b = wf.few_modules in subst (λ z. z ≤ 1024) (sym (count_modules g m p is)) (omega arith);
    few_productions = let a = is.productions in let b = wf.few_productions in subst (λ z. z ≤ 1024) (sym (count_productions g m p is)) (omega arith);
    few_positions = λ q h. let i = in_version g m p is q h in subst (λ l. length l ≤ 64) (sym (body_same g m p is q i)) (wf.few_positions q (in_grammar g m p is q i));
    small = within (sum_take (λ (r : Production). length r.positions * length r.positions) p g.productions) wf.small;
    heads = λ q h. let i = in_version g m p is q h in subst (λ z. head_of (version_of g m p) q < z) (sym (count_modules g m p is)) (subst (λ z. z < m) (sym (head_same g m p is q i)) (is.heads q i));
    bodies = λ q h. body_formed q (in_version g m p is q h);
    given_atomic = λ d h.
        let k = given_kept d h in (
          subst (λ z. d.module_no < z) (sym (count_modules g m p is)) k.1,
          λ q i e. let j = in_version g m p is q i in (wf.given_atomic d k.0).1 q (in_grammar g m p is q j) (sym (head_same g m p is q j) ∙ e),
        );
    given_pairs = λ d e h i.
        let k = given_kept d h in
        let r = wf.given_pairs d e k.0 i in
        (subst (λ z. e.0 < z) (sym (ins_same g m p is d.module_no k.1)) r.0, subst (λ z. e.1 < z) (sym (outs_same g m p is d.module_no k.1)) r.1);
  }
    where
      within : {x y : ℕ} → x ≤ y → y ≤ 65536 → x ≤ 65536
      within a b = omega arith

pub version_formed_law : VersionFormedLaw
version_formed_law g m p is = (formed g m p is, λ linear k s t a b. linear k s t (continues_up g m p is k s a) (continues_up g m p is k t b))
